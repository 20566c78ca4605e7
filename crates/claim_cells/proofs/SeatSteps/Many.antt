-- Turns that are finished one after the other.
use Rattle.std.proofs.Common.{◌≡◌, ℕ, zero, suc, ◌+◌, ◌<◌, ◌≤◌, refl, ap, ◌∙◌, arith}
use Rattle.claim_cells.specs.declared.parts.ShardPart.{ShardPart}
use Rattle.claim_cells.specs.Steps.{finished_more, finished_one}
use Rattle.claim_cells.specs.Seats.{HasTurn, turns_seen}

pub one_more_finished : (p : ShardPart) (n : ℕ) → finished_one (finished_more n p) ≡ finished_more (n + 1) p
one_more_finished p zero = refl
one_more_finished p (suc n) =
    ap {A = ℕ} (λ k. let after : ShardPart = record p { finished = k; next = 0 } in after) {x = p.finished + suc n + 1}
    {y = p.finished + suc (suc n)} (omega arith)
    ∙ ap (λ k. finished_more k p) {x = suc (suc n)} {y = suc n + 1} (omega arith)

-- it has a turn while fewer were finished than it had seen issued
pub has_more : (p : ShardPart) (n turns : ℕ) → n < turns → turns ≤ turns_seen p → HasTurn (finished_more n p)
has_more p zero turns low seen = omega arith
has_more p (suc n) turns low seen = omega arith
