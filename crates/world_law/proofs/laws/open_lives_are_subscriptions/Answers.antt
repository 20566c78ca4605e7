use Rattle.world_law.proofs.Subscriptions.Lives.{lives_are_open}
use Rattle.world_law.proofs.laws.open_lives_are_subscriptions.Goals as goal

pub returns : goal.returns
returns c = lives_are_open c.shards_stay_held.ensures
