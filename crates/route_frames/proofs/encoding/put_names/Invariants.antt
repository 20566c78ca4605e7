use Rattle.std.proofs.Common.{◌≡◌, ◌++◌, take}
use Rattle.route_frames.specs.Canonical.{fields_with_spaces}
use Rattle.route_frames.proofs.encoding.put_names.Given as goal

-- the names so far are appended
abbrev pub invariant-loop-name : goal.invariant-loop-name
invariant-loop-name l = l.line.items ≡ l.fn.line.items ++ fields_with_spaces (take l.name-index l.names)
