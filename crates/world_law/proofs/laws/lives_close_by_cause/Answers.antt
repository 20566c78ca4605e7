use Rattle.world_law.proofs.Subscriptions.Lives.{lives_close_by_cause}
use Rattle.world_law.proofs.laws.lives_close_by_cause.Goals as goal

pub returns : goal.returns
returns c = lives_close_by_cause c.shards_stay_held.ensures
