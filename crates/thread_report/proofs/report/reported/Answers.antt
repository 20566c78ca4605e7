use Rattle.std.proofs.Common.{map, refl, sym, ap, ◌∙◌, subst}
use Rattle.node_parts.specs.Sides.{jobs_of}
use Rattle.node_threads.specs.AtHub.{AtHub}
use Rattle.thread_node.specs.HubTapes.{IsHubTape}
use Rattle.thread_report.specs.Issued.{turn_and_id}
use Rattle.thread_report.proofs.Naming.{names_all}
use Rattle.thread_report.proofs.Placing.{are_placed}
use Rattle.thread_report.proofs.Legal.{hub_run, is_written, legal, tells}
use Rattle.thread_report.proofs.report.reported.Goals as goal

pub returns-clause-legal : goal.returns-clause-legal
returns-clause-legal g c =
    let ended_hub = c.into_parts-server in
    let server = ended_hub.result.0 in
    let w = ended_hub.result.1 in
    let race = g.N.NodeName.race in
    let tapes = map (λ entries. entries.items) c.in_ok-closed.worked.items in
    let kept = c.keeps_tapes-keep.result in
    let over = c.in_ok-closed.ensures.over in
    let seats = over.0 in
    let count = over.1 in
    let closed = over.2 in
    let ended = over.3 in
    let told = c.in_ok-closed.closed in
    let tape = ended_hub.result.3 in
    let wrote =
    subst (λ (v : AtHub). IsHubTape server v tape) (sym ended_hub.ensures.state) ended_hub.ensures.tape in
    let at_hub = c.in_ok-closed.ensures.hub in
    let run = hub_run race w.issued kept seats tapes closed w refl at_hub tape wrote count told.issued told.finished
    told.cells.items ended in
    let entries = c.in_ok-hub.hub.items in
    let written = is_written race w.issued kept seats tapes closed w refl at_hub tape wrote count told.issued
    told.finished told.cells.items ended entries c.in_ok-hub.ensures.kept in
    let by_hub = written.hub_is in
    let run_is_legal = legal race w.issued kept seats tapes closed w refl at_hub tape wrote count told.issued
    told.finished told.cells.items ended in (
      run,
      closed.0,
      wrote.whose,
      run_is_legal,
      c.legal_runs_are_once.ensures race.shards run closed.0 run_is_legal,
      tells race w.issued kept seats tapes closed w refl at_hub tape wrote count told.issued told.finished
          told.cells.items ended,
      written,
      ap (map (turn_and_id w.side.server)) c.in_ok-hub.ensures.jobs
          ∙ names_all kept w.side.server by_hub.log w.side w.issued entries by_hub.logged
          (run_is_legal.hub_run.gave ∙ ap jobs_of by_hub.steps_are) by_hub.tape_is,
      are_placed kept race.shards closed.0 tapes closed.3,
    )
