use Rattle.world_law.proofs.Seen.Waiting.{waits_are_kept}
use Rattle.world_law.proofs.laws.waiting_entries_are_kept.Goals as goal

pub returns : goal.returns
returns c = waits_are_kept c.entries_are_put.ensures
