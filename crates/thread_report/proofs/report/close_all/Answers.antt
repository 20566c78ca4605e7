use Rattle.std.proofs.Common.{map, sym, ◌∙◌, subst}
use Rattle.std.specs.Arc.{arc_value}
use Rattle.claim_cells.specs.declared.parts.HubPart.{HubPart}
use Rattle.claim_cells.specs.Calls.{AllOf, HasEach, IsClosed}
use Rattle.claim_cells.specs.Seats.{RaceId}
use Rattle.thread_report.proofs.Legal.{all_of, has_each}
use Rattle.thread_report.proofs.report.close_all.Goals as goal

pub close_race-requires-clause-shards : goal.close_race-requires-clause-shards
close_race-requires-clause-shards g c =
    let race = g.N.NodeName.race in
    let seats = c.in_ok-seats.field-0.seats.items in
    let tapes = map (λ entries. entries.items) c.in_ok-seats.field-0.tapes.items in
    let issued = c.args.state.issued in
    let closed = c.in_ok-seats.ensures.1 issued c.into_parts-seat.ensures.lines in
    subst (λ (r : RaceId). AllOf r seats) (sym c.requires.race) (all_of race issued c.args.keep seats tapes closed)

pub close_race-requires-clause-each : goal.close_race-requires-clause-each
close_race-requires-clause-each g c =
    let race = g.N.NodeName.race in
    let seats = c.in_ok-seats.field-0.seats.items in
    let tapes = map (λ entries. entries.items) c.in_ok-seats.field-0.tapes.items in
    let issued = c.args.state.issued in
    let closed = c.in_ok-seats.ensures.1 issued c.into_parts-seat.ensures.lines in
    let count = c.in_ok-seats.ensures.0 ∙ c.requires.all in
    subst (λ (r : RaceId). HasEach r.shards seats) (sym c.requires.race)
    (has_each race issued c.args.keep seats tapes closed race.shards count)

pub returns-clause-over : goal.returns-clause-over
returns-clause-over g c =
    let seats = c.in_ok-seats.field-0.seats.items in
    let told = c.in_ok-closed.closed in
    let part = subst
    (λ (h : HubPart). IsClosed (arc_value c.args.cells) h seats told.issued told.finished told.cells.items)
    c.into_parts-seat.ensures.seat.1 c.in_ok-closed.ensures in (
      seats,
      c.in_ok-seats.ensures.0 ∙ c.requires.all,
      c.in_ok-seats.ensures.1 c.args.state.issued c.into_parts-seat.ensures.lines,
      subst (λ (r : RaceId). IsClosed r c.args.state.part seats told.issued told.finished told.cells.items)
          c.requires.race part,
    )
