use Rattle.std.proofs.Common.{◌≡◌, ℕ, ◌+◌, List, take, None, sym, ap, ◌∙◌, arith}
use Rattle.claim_race.specs.Race.{busy_of}
use Rattle.claim_cells.specs.Calls.{finished_list}
use Rattle.claim_cells.proofs.SeatSteps.Turns.{same_turn}
use Rattle.claim_cells.proofs.SeatSteps.Rounds.{near_loads}
use Rattle.claim_cells.proofs.cells.Cells.issue_at.Goals as goal

pub store_issued-requires-clause-near : goal.store_issued-requires-clause-near
store_issued-requires-clause-near c =
    let look = c.look_at_all-finished in
    let found = look.ensures.told.0 in
    let issued : ℕ = c.args.issued in
    let shards : ℕ = c.args.self.now.shards in
    let turn_is : c.unwrap-turn.result ≡ issued + 1 =
    same_turn (issued + 1) c.unwrap-turn.result c.next.result c.next.ensures c.unwrap-turn.ensures in
    let none : busy_of issued (take shards (finished_list found)) ≡ None =
    ap (λ (k : ℕ). busy_of issued (take k (finished_list found))) (sym (ap (λ r. r.shards) c.self.view_is))
    ∙ ap (λ (l : List ℕ). busy_of issued (take c.self.inside.shards l)) (sym look.ensures.told.2)
    ∙ sym c.first_behind.ensures
    ∙ c.in_default.is in
    λ s low.
    let near = near_loads c.args.place.now.me look.new.place.me issued shards found look.ensures.told.1 none s low in
    (near.0, near.1, (let up = near.2 in omega arith))
