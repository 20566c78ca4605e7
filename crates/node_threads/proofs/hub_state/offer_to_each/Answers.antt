use Rattle.std.proofs.Common.{◌+◌, ◌<◌, ◌++◌, length, Some, add-one, arith, sym, ap, ◌∙◌}
use Rattle.std.proofs.lemmas.List.{drop-set-lt}
use Rattle.node_threads.specs.Outlets.{LaneSender, jobs_owed}
use Rattle.node_threads.proofs.Lanes.Lines.{map_set_same, drop_step, drop_get}
use Rattle.node_threads.proofs.hub_state.offer_to_each.Goals as goal

pub offer-requires : goal.offer-requires
offer-requires g c =
    let l = c.loop-line in
    let lt : l.line-index < length c.args.lines.now = omega arith in
    rw (drop_get l.line-index l.lines c.args.lines.now c.line-item.result l.invariant.1)
    (c.requires l.line-index c.line-item.result lt)

pub loop-line-preserved : goal.loop-line-preserved
loop-line-preserved g c =
    let l = c.loop-line in
    let i = l.invariant in
    let at = c.line-item.is in
    let d = c.line-item.result in (
      map_set_same (λ (line : LaneSender). line.pushed ++ jobs_owed line.taken (Some c.args.run.now)) l.lines
          l.line-index c.offer.new.self d at
          (c.offer.ensures.1
          ∙ ap (λ (line : LaneSender). line.pushed ++ jobs_owed line.taken (Some c.args.run.now)) (sym at)) ∙ i.0,
      drop-set-lt (l.line-index + 1) l.lines l.line-index c.offer.new.self (omega arith)
          ∙ rw add-one (drop_step l.line-index l.lines c.args.lines.now i.1),
    )
