use Rattle.std.proofs.Common.{◌≡◌, lit<, arith, sym, ap, ◌∙◌}
use Rattle.subj.specs.declared.limits.TheConstants.{MAX_COUNTER, MAX_QUEUE_NAMES, WINDOW}
use Rattle.claim_cells.specs.Steps.{hub_of}
use Rattle.claim_cells.proofs.Rules.Moves.{issue}
use Rattle.claim_cells.proofs.cells.Cells.store_issued.Goals as goal

pub store-requires : goal.store-requires
store-requires c =
    let cells = c.self.inside in
    let me = c.args.place.now.me in
    let is = c.self.invariant in
    let width = is.words in
    let told = is.told in
    let same : cells.shards ≡ c.args.self.now.shards = ap (λ r. r.shards) c.self.view_is in
    let turn_is : c.get.result ≡ c.args.turn = c.get.ensures.same in
    let next = c.requires.next in
    let most = c.get.ensures.most in (
      c.requires.table ∙ sym (ap (λ r. r.table) c.self.view_is),
      omega arith,
      issue MAX_COUNTER WINDOW MAX_QUEUE_NAMES cells.table.shared.key (lit< tt) _ _ me (hub_of me) c.get.result
          c.requires.hub (turn_is ∙ next) (omega arith)
          (λ s low. let near = c.requires.near s (omega arith) in (near.0, near.1, (let up = near.2 in omega arith))),
    )

pub returns-clause-told : goal.returns-clause-told
returns-clause-told c = let me = c.args.place.now.me in c.store.ensures.2 (hub_of me) c.requires.hub
