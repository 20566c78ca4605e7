use Rattle.std.proofs.Common.{◌≡◌, drop}
use Rattle.std.specs.Prelude.{slice_get}
use Rattle.pick.specs.Pick.{units}
use Rattle.pick.proofs.server_of_unit.Given as goal

-- the rest has the unit that is left where the whole has the unit asked for
abbrev pub invariant-loop-server : goal.invariant-loop-server
invariant-loop-server l =
    slice_get (units (drop l.server-index l.servers)) l.left ≡ slice_get (units l.fn.servers) l.fn.unit
