use Rattle.std.proofs.Common.{rules, ◌≡◌, ℕ, ◌+◌, ◌*◌, length, slice_index, ap, ◌∙◌, arith}
use Rattle.subj.specs.declared.limits.TheConstants.{MAX_QUEUE_NAMES, WINDOW}
use Rattle.claim_cells.proofs.SeatSteps.Gathering.{is_closed}
use Rattle.claim_cells.proofs.cells.Cells.close.Goals as goal

pub returns : goal.returns
returns c =
    let same : c.self.inside.shards ≡ c.args.self.shards = ap (λ r. r.shards) c.self.view_is in
    let words = c.gather-words.result in
    let found = c.finished.ensures.0 in
    let cells = c.copy_claim_words.new.cells.items in
    let width : length cells ≡ WINDOW * MAX_QUEUE_NAMES = c.copy_claim_words.ensures.width ∙ (search rules) in
    is_closed c.args.self c.args.hub.part c.args.seats.items words c.gather-words.ensures c.turn.result
    c.finished.result found cells c.turn.ensures (c.finished.ensures.1 ∙ same)
    (λ s low. c.finished.ensures.2 s (omega arith)) c.finished.ensures.3 width (λ i low.
    c.copy_claim_words.ensures.words i (let e = c.copy_claim_words.ensures.width in omega arith)
    ∙ ap (λ (n : ℕ). slice_index words (n + 1 + i)) same)
