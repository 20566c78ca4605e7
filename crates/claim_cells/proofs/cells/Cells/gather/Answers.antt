use Rattle.std.proofs.Common.{rules, ◌≡◌, ◌++◌, ◌∷◌, [], ℕ, ◌+◌, ◌*◌, ◌<◌, lit<, arith, sym, ap, ◌∙◌, subst}
use Rattle.std.specs.Mem.Slots.{slots_items}
use Rattle.subj.specs.declared.limits.TheConstants.{MAX_COUNTER, MAX_QUEUE_NAMES, WINDOW}
use Rattle.claim_cells.specs.declared.parts.HubPart.{HubPart}
use Rattle.claim_cells.specs.declared.parts.View.{View}
use Rattle.atomic_table.specs.Table.{Final, Seen}
use Rattle.claim_cells.specs.Rule.{Kept}
use Rattle.claim_cells.specs.Calls.{Gathers}
use Rattle.claim_cells.proofs.Rules.Moves.{joins}
use Rattle.claim_cells.proofs.SeatSteps.Kept.{has_hub}
use Rattle.claim_cells.proofs.SeatSteps.Gathering.{gather_start, gather_step, gather_end, all_last, all_rest, limited}
use Rattle.claim_cells.proofs.cells.Cells.gather.Goals as goal

pub loop-other-init : goal.loop-other-init
loop-other-init c = (
  ap (λ v. v.race.table) c.hub.view_is ∙ ap (λ r. r.table) c.requires.hub ∙ sym (ap (λ r. r.table) c.self.view_is),
  c.requires.shards,
  gather_start c.args.hub.part c.args.seats.items c.hub.inside.place.me.0
      (has_hub c.hub.inside.place.me c.hub.invariant.whole
      ∙ ap (λ v. let h : Rattle.std.proofs.Common.Option HubPart = Rattle.std.proofs.Common.Some v.part in h)
      c.hub.view_is),
)

pub join_seat-requires : goal.join_seat-requires
join_seat-requires c =
    let inv = c.loop-other.invariant in
    let other = c.other.inside in
    let popped : c.loop-other.seats.items ≡ c.pop.new.self.items ++ c.in-Some.other ∷ [] = search rules in
    let width = c.self.invariant.words in (
      inv.0,
      ap (λ v. v.race.table) c.other.view_is
          ∙ ap (λ r. r.table)
          (all_last c.args.self c.loop-other.seats.items c.pop.new.self.items c.in-Some.other popped inv.1)
          ∙ sym (ap (λ r. r.table) c.self.view_is),
      ap (λ m. m.1) c.other.invariant.whole,
      omega arith,
      joins MAX_COUNTER WINDOW MAX_QUEUE_NAMES c.self.inside.table.shared.key (lit< tt) c.loop-other.place.id
          other.place.id c.loop-other.place.me.0 other.place.me.0 c.args.hub.part inv.2.0,
    )

pub loop-other-preserved : goal.loop-other-preserved
loop-other-preserved c =
    let inv = c.loop-other.invariant in
    let other = c.other.inside in
    let popped : c.loop-other.seats.items ≡ c.pop.new.self.items ++ c.in-Some.other ∷ [] = search rules in (
      c.join_seat.ensures.0 ∙ inv.0,
      all_rest c.args.self c.loop-other.seats.items c.pop.new.self.items c.in-Some.other popped inv.1,
      subst (λ (v : View). Gathers c.args.hub.part c.args.seats.items c.pop.new.self.items v)
          (sym (ap (λ m. m.0) c.join_seat.ensures.2))
          (gather_step c.args.hub.part c.args.seats.items c.loop-other.seats.items c.pop.new.self.items c.in-Some.other
          c.loop-other.place.me.0 other.place.me popped c.other.invariant.whole (ap (λ v. v.part) c.other.view_is)
          inv.2),
    )

pub invariant_of-result : goal.invariant_of-result
invariant_of-result c =
    let inv = c.loop-other.invariant in
    let none : c.loop-other.seats.items ≡ [] = search rules in
    let key : c.self.inside.table.shared.key ≡ c.args.self.shards =
    c.self.invariant.told ∙ ap (λ r. r.shards) c.self.view_is in
    let words = slots_items c.close_with.result.words in
    let gathered = gather_end c.args.self c.args.hub.part c.args.seats.items c.loop-other.seats.items
    c.loop-other.place.id c.loop-other.place.me.0 words (slots_items c.close_with.result.slots) none inv.2
    c.requires.each
    (subst (λ (n : ℕ).
    Final (Seen (Kept MAX_COUNTER WINDOW MAX_QUEUE_NAMES n) c.loop-other.place.id c.loop-other.place.me.0) words
    (slots_items c.close_with.result.slots))
    key c.close_with.ensures.values.2) in
    let counts = c.close_with.ensures.counts in
    let wide = c.self.invariant.words in
    let width = gathered.3.width in
    let same : c.self.inside.shards ≡ c.args.self.shards = ap (λ r. r.shards) c.self.view_is in
    record {
      full = c.close_with.ensures.values.0;
      width = counts.0 ∙ wide ∙ ap (λ (n : ℕ). n + 1 + WINDOW * MAX_QUEUE_NAMES) same ∙ sym width;
      slots = counts.1 ∙ c.self.invariant.slots;
      limited =
          limited MAX_COUNTER WINDOW MAX_QUEUE_NAMES c.args.self.shards words c.args.hub.part gathered.0 gathered.2
          gathered.3;
    }

pub returns : goal.returns
returns c =
    let inv = c.loop-other.invariant in
    let none : c.loop-other.seats.items ≡ [] = search rules in
    let key : c.self.inside.table.shared.key ≡ c.args.self.shards =
    c.self.invariant.told ∙ ap (λ r. r.shards) c.self.view_is in
    gather_end c.args.self c.args.hub.part c.args.seats.items c.loop-other.seats.items c.loop-other.place.id
    c.loop-other.place.me.0 (slots_items c.close_with.result.words) (slots_items c.close_with.result.slots) none inv.2
    c.requires.each
    (subst (λ (n : ℕ).
    Final (Seen (Kept MAX_COUNTER WINDOW MAX_QUEUE_NAMES n) c.loop-other.place.id c.loop-other.place.me.0)
    (slots_items c.close_with.result.words) (slots_items c.close_with.result.slots))
    key c.close_with.ensures.values.2)
