use Rattle.std.proofs.Common.{◌≡◌, lit<, arith, sym, ap, ◌∙◌}
use Rattle.subj.specs.declared.limits.TheConstants.{MAX_COUNTER, MAX_QUEUE_NAMES, WINDOW}
use Rattle.claim_cells.specs.Steps.{part_of}
use Rattle.claim_cells.proofs.Rules.Moves.{finish}
use Rattle.claim_cells.proofs.cells.Cells.finish_at.Goals as goal

pub store-requires : goal.store-requires
store-requires c =
    let cells = c.self.inside in
    let me = c.args.place.now.me in
    let is = c.self.invariant in
    let width = is.words in
    let same : cells.shards ≡ c.args.self.now.shards = ap (λ r. r.shards) c.self.view_is in
    let last = c.requires.last in (
      c.requires.table ∙ sym (ap (λ r. r.table) c.self.view_is),
      omega arith,
      finish MAX_COUNTER WINDOW MAX_QUEUE_NAMES cells.table.shared.key (lit< tt) _ _ me (part_of me) c.args.shard
          c.get.result c.requires.part c.requires.shard c.requires.first (c.get.ensures.same ∙ c.requires.turn)
          c.requires.seen,
    )

pub returns-clause-told : goal.returns-clause-told
returns-clause-told c = let me = c.args.place.now.me in c.store.ensures.2 (part_of me) c.requires.part
