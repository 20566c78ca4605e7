use Rattle.std.proofs.Common.{◌≡◌, ◌<◌, false, length, add-one, arith, sym, ap, ◌∙◌}
use Rattle.node_threads.specs.Outlets.{LaneSender}
use Rattle.node_threads.proofs.Lanes.Lines.{map_set_same, All_take_set}
use Rattle.node_threads.proofs.hub_state.begin_each.Goals as goal

pub loop-line-preserved : goal.loop-line-preserved
loop-line-preserved g c =
    let l = c.loop-line in
    let i = l.invariant in
    let at = c.line-item.is in
    let d = c.line-item.result in
    let lt : l.line-index < length l.lines = omega arith in (
      map_set_same (λ (line : LaneSender). line.pushed) l.lines l.line-index c.begin.new.self d at
          (ap (λ (line : LaneSender). line.pushed)
          (c.begin.ensures ∙ sym (ap (λ (line : LaneSender). record line { taken = false }) at))) ∙ i.0,
      rw add-one (All_take_set (λ (line : LaneSender). line.taken ≡ false) l.lines l.line-index c.begin.new.self lt i.1
          (ap (λ (line : LaneSender). line.taken) c.begin.ensures)),
    )
