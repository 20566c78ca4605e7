use Rattle.std.proofs.Common.{◌≡◌, map, drop}
use Rattle.interest.specs.Matches.{has_kind_match}
use Rattle.interest.proofs.matches.has_match_among.Given as goal

abbrev pub invariant-loop-place : goal.invariant-loop-place
invariant-loop-place g l =
    has_kind_match l.plain l.subject (map g.T.Keyed.entry (drop l.place l.entries))
    ≡ has_kind_match l.plain l.subject (map g.T.Keyed.entry l.entries)
