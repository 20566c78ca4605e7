use Rattle.std.proofs.Common.{rules, ◌≡◌, [], sym, ◌∙◌}
use Rattle.claim_cells.specs.Rule.{whole_view}
use Rattle.claim_cells.specs.Seats.{RaceId}
use Rattle.claim_cells.proofs.SeatSteps.OneSeat.{begins, none_finished}
use Rattle.claim_cells.proofs.cells_race.CellsRaceRace.new.Goals as goal

pub invariant_of-result : goal.invariant_of-result
invariant_of-result c =
    let place = c.in_ok-cells.place in
    let cells = c.in_ok-cells.cells in
    let is : place.me ≡ (whole_view c.args.shards, []) = search rules in
    let table : place.table_id ≡ cells.table = search rules in
    let shards : cells.shards ≡ c.args.shards = search rules in
    let start = begins place.me c.args.shards is in
    record {
      whole = start.0;
      same = λ j. let r : RaceId = record { table = table j; shards = (start.1 ∙ sym shards) j } in r;
      last = start.2.issued ∙ sym c.zero.ensures;
      finished = c.new.ensures ∙ none_finished c.args.shards _ c.requires.last start.2.finished;
    }

pub returns : goal.returns
returns c =
    let place = c.in_ok-cells.place in
    let is : place.me ≡ (whole_view c.args.shards, []) = search rules in
    (begins place.me c.args.shards is).2
