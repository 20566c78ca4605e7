use Rattle.std.proofs.Common.{◌≡◌, take, length, map}
use Rattle.thread_report.proofs.handing.are_alike.Given as goal

abbrev pub invariant-loop-place : goal.invariant-loop-place
invariant-loop-place l =
    (take l.place (map (λ deltas. deltas.now) l.a) ≡ take l.place (map (λ deltas. deltas.now) l.b))
    × (length l.a ≡ length l.b)
