use Rattle.std.proofs.Common.{◌≡◌, map, drop}
use Rattle.interest.specs.Matches.{names_in}
use Rattle.interest.proofs.matches.names_among.Given as goal

abbrev pub invariant-loop-place : goal.invariant-loop-place
invariant-loop-place g l =
    names_in l.subject (map g.T.Keyed.entry (drop l.place l.entries)) l.names
    ≡ names_in l.subject (map g.T.Keyed.entry l.entries) l.fn.names
