use Rattle.world_law.proofs.Examples.Scripts.{headers_go_where_they_are_taken}
use Rattle.world_law.proofs.laws.headers_go_where_they_are_taken.Goals as goal

pub returns : goal.returns
returns start = headers_go_where_they_are_taken
