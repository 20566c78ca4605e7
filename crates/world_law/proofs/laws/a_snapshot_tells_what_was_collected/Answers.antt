use Rattle.world_law.proofs.Examples.Scripts.{a_snapshot_tells_what_was_collected}
use Rattle.world_law.proofs.laws.a_snapshot_tells_what_was_collected.Goals as goal

pub returns : goal.returns
returns start = a_snapshot_tells_what_was_collected
