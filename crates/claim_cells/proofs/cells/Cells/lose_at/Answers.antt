use Rattle.std.proofs.Common.{◌≡◌, ℕ, ◌+◌, ◌*◌, ◌%◌, ◌<◌, lit<, arith, sym, ap, ◌∙◌, leb-true, leb-false}
use Rattle.subj.specs.declared.limits.TheConstants.{MAX_COUNTER, MAX_QUEUE_NAMES, WINDOW}
use Rattle.claim_cells.specs.Rule.{cell}
use Rattle.claim_cells.specs.Steps.{part_of}
use Rattle.claim_cells.proofs.Rules.Lists.{cell_below}
use Rattle.claim_cells.proofs.Rules.Moves.{lose}
use Rattle.claim_cells.proofs.cells.Cells.lose_at.Goals as goal

pub load-found-requires : goal.load-found-requires
load-found-requires c =
    let cells = c.self.inside in
    let me = c.args.place.now.me in
    let p = part_of me in
    let is = c.self.invariant in
    let width = is.words in
    let told = is.told in
    let same : cells.shards ≡ c.args.self.now.shards = ap (λ r. r.shards) c.self.view_is in
    let count : me.0.count ≡ c.args.self.now.shards = c.requires.shards in
    let turn_is : c.get-turn.result ≡ p.finished + 1 = c.get-turn.ensures.same ∙ c.requires.turn in
    let low : cell WINDOW MAX_QUEUE_NAMES c.get-turn.result c.args.index < WINDOW * MAX_QUEUE_NAMES =
    cell_below WINDOW MAX_QUEUE_NAMES c.get-turn.result c.args.index (lit< tt) c.requires.most in
    let z : ℕ = c.get-turn.result % WINDOW * MAX_QUEUE_NAMES in
    let low' : z + c.args.index < WINDOW * MAX_QUEUE_NAMES = low in (
      c.requires.table ∙ sym (ap (λ r. r.table) c.self.view_is),
      (let goal_is : cells.shards + 1 + (z + c.args.index) < cells.table.shared.table_id.words = omega arith in
          goal_is),
      lose MAX_COUNTER WINDOW MAX_QUEUE_NAMES cells.table.shared.key (lit< tt) _ _ me c.args.index p c.get-turn.result
          _ c.requires.part c.requires.most c.requires.next c.requires.seen (omega arith) turn_is
          (ap (λ (n : ℕ). n + 1 + cell WINDOW MAX_QUEUE_NAMES c.get-turn.result c.args.index) (sym told)
          ∙ ap (λ (t : ℕ). cells.table.shared.key + 1 + cell WINDOW MAX_QUEUE_NAMES t c.args.index) turn_is),
    )

pub returns-clause-told : goal.returns-clause-told
returns-clause-told c =
    let cells = c.self.inside in
    let me = c.args.place.now.me in
    let p = part_of me in
    let turn_is : c.get-turn.result ≡ p.finished + 1 = c.get-turn.ensures.same ∙ c.requires.turn in
    let same : cells.shards ≡ me.0.count = ap (λ r. r.shards) c.self.view_is ∙ sym c.requires.shards in
    let told = c.load-found.ensures.2 c.args.index p c.requires.part
    (ap (λ (n : ℕ). n + 1 + cell WINDOW MAX_QUEUE_NAMES c.get-turn.result c.args.index) same
    ∙ ap (λ (t : ℕ). me.0.count + 1 + cell WINDOW MAX_QUEUE_NAMES t c.args.index) turn_is) in (
      (λ is. told.0 (let low = leb-false c.get-turn.result c.load-found.result is in omega arith)),
      (λ is. told.1 (let up = leb-true c.get-turn.result c.load-found.result is in omega arith)),
    )
