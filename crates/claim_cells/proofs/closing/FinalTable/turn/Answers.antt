use Rattle.std.proofs.Common.{ℕ, ◌≤◌, List, slice_index, sym, ap, ◌∙◌, subst}
use Rattle.std.specs.Mem.Slots.{slots_items}
use Rattle.subj.specs.declared.limits.TheConstants.{MAX_COUNTER}
use Rattle.claim_cells.proofs.Rules.Lists.{read_at}
use Rattle.claim_cells.proofs.SeatSteps.Turns.{some_turn, same_turn}
use Rattle.claim_cells.proofs.closing.FinalTable.turn.Goals as goal

pub unwrap-requires : goal.unwrap-requires
unwrap-requires c =
    let words = slots_items c.self.inside.table.words in
    some_turn c.word.result c.new.result c.new.ensures
    (subst (λ (n : ℕ). n ≤ MAX_COUNTER) (sym (read_at words c.args.place c.word.result c.word.ensures))
    (c.self.invariant.limited c.args.place))

pub returns : goal.returns
returns c =
    let words = slots_items c.self.inside.table.words in
    same_turn c.word.result c.unwrap.result c.new.result c.new.ensures c.unwrap.ensures
    ∙ read_at words c.args.place c.word.result c.word.ensures
    ∙ ap (λ (l : List ℕ). slice_index l c.args.place) c.self.view_is
