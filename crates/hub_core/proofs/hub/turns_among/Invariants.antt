use Rattle.std.proofs.Common.{◌≡◌, ◌<◌, ◌≤◌, ℕ, ◌+◌, false, take, All}
use Rattle.claim_race.specs.Race.{is_behind}
use Rattle.hub_core.proofs.hub.turns_among.Given as goal

abbrev pub invariant-loop-last : goal.invariant-loop-last
invariant-loop-last l =
    (l.free ≤ l.most)
    × ((count : ℕ)
    → count < l.free
    → All (λ last. is_behind (l.issued + count) last ≡ false) (take l.last-index l.finished))
