use Rattle.std.proofs.Common.{refl, sym, ap, ◌∙◌, subst}
use Rattle.std.specs.Prelude.{length}
use Rattle.hub_core.specs.Events as of_hub
use Rattle.hub_core.specs.Steps.{hub_refusal}
use Rattle.hub_core.specs.Telling.{collect_frames}
use Rattle.node_law.specs.declared.faults.NodeFault.TheVariants.{Hub}
use Rattle.node_parts.specs.Sides.{ByHub, OfHub}
use Rattle.node_threads.specs.AtHub.{AtHub, Collects}
use Rattle.node_threads.specs.AtWork.{AtWork}
use Rattle.thread_node.specs.Told.{GivenNotes, HubNotes}
use Rattle.thread_node.specs.declared.hub_entries.HubEvent.TheVariants as event
use Rattle.thread_node.specs.declared.hub_entries.HubTold.TheVariants as told
use Rattle.thread_node.proofs.Telling.{collects_so, gives_so, hub_answered}
use Rattle.thread_node.proofs.locked.LockedHub.collect.Goals as goal

pub invariant_of-self : goal.invariant_of-self
invariant_of-self g c =
    let s = c.self.inside in
    let w = c.shard.inside.state in
    let asks = of_hub.Collect w.part.shard w.state.deltas in
    let v = c.collect-done.new.self in
    let more = c.note_heard.new.tape in
    let noted = c.note_heard.ensures c.deltas.result.now c.copy_for-heard.ensures in
    let known = subst (λ ds. HubNotes (event.Collect c.shard-number.result ds) c.told_collected-told.result s.tape more)
    (c.deltas.ensures ∙ ap (λ (o : AtWork). o.state.deltas) (sym c.shard.view_is)) noted in
    let named = subst (λ n. HubNotes (event.Collect n w.state.deltas) c.told_collected-told.result s.tape more)
    (c.shard-number.ensures ∙ ap (λ (o : AtWork). o.part.shard) (sym c.shard.view_is)) known in
    let said = subst (λ t. HubNotes (event.Collect w.part.shard w.state.deltas) t s.tape more)
    c.told_collected-told.ensures named in
    let answered = collects_so s.state w c.collect-done.result v c.collect-done.new.shard c.collect-done.ensures in (
      c.self.invariant.0,
      hub_answered s.state v (ByHub asks) (event.Collect w.part.shard w.state.deltas)
          (λ did.
          OfHub (of_hub.Collected did.changes.items (collect_frames s.state.side.server s.state.side.hub w.state.deltas)
          did.cut.items))
          (λ did. told.Collected (length did.changes.items) (length did.cut.items)) (λ fault. Hub fault)
          (hub_refusal s.state.side.server s.state.side.hub asks) c.collect-done.result s.tape more c.self.invariant.1
          tt refl refl (λ x. refl) (λ x. refl) answered said,
    )

pub invariant_of-shard : goal.invariant_of-shard
invariant_of-shard g c =
    let w = c.shard.inside.state in
    let tape = c.shard.inside.tape in
    let more = c.note_given.new.tape in
    let noted = c.note_given.ensures c.deltas-2.result.now c.copy_for-given.ensures in
    let known = subst (λ ds. GivenNotes c.collect-done.result ds tape more)
    (c.deltas-2.ensures ∙ ap (λ (o : AtWork). o.state.deltas) (sym c.shard.view_is)) noted in (
      c.shard.invariant.0,
      gives_so g.N.NodeName.race.shards c.self.inside.state w c.collect-done.result c.collect-done.new.self
          c.collect-done.new.shard tape more c.shard.invariant.1 c.collect-done.ensures known,
    )

pub returns : goal.returns
returns g c =
    let s = c.self.inside in
    let done = c.collect-done.result in
    subst (λ (o : AtHub). Collects o c.args.shard.now done c.collect-done.new.self c.collect-done.new.shard)
    c.self.view_is
    (subst (λ (w : AtWork). Collects s.state w done c.collect-done.new.self c.collect-done.new.shard) c.shard.view_is
    c.collect-done.ensures)
