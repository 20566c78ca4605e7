use Rattle.std.proofs.Common.{◌≡◌, ℕ, lit<, arith, sym, ap, ◌∙◌, subst}
use Rattle.subj.specs.declared.limits.TheConstants.{MAX_COUNTER, MAX_QUEUE_NAMES, WINDOW}
use Rattle.claim_cells.specs.Steps.{hub_of, IsLookedAt}
use Rattle.claim_cells.proofs.SeatSteps.Turns.{some_turn, same_turn}
use Rattle.claim_cells.proofs.Rules.Moves.{look}
use Rattle.claim_cells.proofs.cells.Cells.load_finished.Goals as goal

pub load-found-requires : goal.load-found-requires
load-found-requires c =
    let cells = c.self.inside in
    let is = c.self.invariant in
    let me = c.args.place.now.me in
    let same : cells.shards ≡ c.args.self.now.shards = ap (λ r. r.shards) c.self.view_is in
    let width = is.words in
    let told = is.told in
    let last = c.requires.last in
    let first = c.requires.first in (
      c.requires.table ∙ sym (ap (λ r. r.table) c.self.view_is),
      omega arith,
      look MAX_COUNTER WINDOW MAX_QUEUE_NAMES cells.table.shared.key (lit< tt) _ _ me c.args.shard (hub_of me)
          c.requires.hub c.requires.first (omega arith),
    )

pub unwrap-requires : goal.unwrap-requires
unwrap-requires c =
    let me = c.args.place.now.me in
    some_turn c.load-found.result c.new.result c.new.ensures (c.load-found.ensures.2 (hub_of me) c.requires.hub).1

pub returns-clause-told : goal.returns-clause-told
returns-clause-told c =
    let me = c.args.place.now.me in
    subst (λ (n : ℕ). IsLookedAt MAX_COUNTER c.args.shard (hub_of me) me n c.load-found.new.seat.me)
    (sym (same_turn c.load-found.result c.unwrap.result c.new.result c.new.ensures c.unwrap.ensures))
    (c.load-found.ensures.2 (hub_of me) c.requires.hub)
