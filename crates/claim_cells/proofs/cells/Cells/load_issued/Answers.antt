use Rattle.std.proofs.Common.{ℕ, lit<, arith, sym, ap, ◌∙◌, subst}
use Rattle.subj.specs.declared.limits.TheConstants.{MAX_COUNTER, MAX_QUEUE_NAMES, WINDOW}
use Rattle.claim_cells.specs.Steps.{part_of, IsSeenAt}
use Rattle.claim_cells.proofs.SeatSteps.Turns.{some_turn, same_turn}
use Rattle.claim_cells.proofs.Rules.Moves.{see}
use Rattle.claim_cells.proofs.cells.Cells.load_issued.Goals as goal

pub load-found-requires : goal.load-found-requires
load-found-requires c =
    let cells = c.self.inside in
    let me = c.args.place.now.me in
    let width = c.self.invariant.words in (
      c.requires.table ∙ sym (ap (λ r. r.table) c.self.view_is),
      omega arith,
      see MAX_COUNTER WINDOW MAX_QUEUE_NAMES cells.table.shared.key (lit< tt) _ _ me (part_of me) c.requires.part,
    )

pub unwrap-requires : goal.unwrap-requires
unwrap-requires c =
    let me = c.args.place.now.me in
    some_turn c.load-found.result c.new.result c.new.ensures (c.load-found.ensures.2 (part_of me) c.requires.part).1

pub returns-clause-told : goal.returns-clause-told
returns-clause-told c =
    let me = c.args.place.now.me in
    subst (λ (n : ℕ). IsSeenAt MAX_COUNTER (part_of me) me n c.load-found.new.seat.me)
    (sym (same_turn c.load-found.result c.unwrap.result c.new.result c.new.ensures c.unwrap.ensures))
    (c.load-found.ensures.2 (part_of me) c.requires.part)
