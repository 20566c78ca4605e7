use Rattle.std.proofs.Common.{◌+◌, ◌++◌, List, length, drop, refl, sym, ap, ◌∙◌, arith, append_assoc}
use Rattle.std.proofs.lemmas.List.{at_drop_more}
use Rattle.interest.specs.declared.changes.Change.{Change}
use Rattle.route_values.specs.Frames.{Frame}
use Rattle.hub_core.specs.Telling.{frames_of_change, frames_behind}
use Rattle.hub_core.proofs.Choices.Filled.{gathered_all}
use Rattle.hub_core.proofs.collects.frames_of_changes.Goals as goal

pub loop-change-preserved : goal.loop-change-preserved
loop-change-preserved c =
    let l = c.loop-change in
    let server = c.args.server.now in
    let peers = c.args.peers.now in
    let changes = c.args.changes.now in
    let i = l.change-index in
    let one : Change → List Frame = λ change. frames_of_change server (length changes) (l.number + 1) change 0 peers in
    let left = frames_behind server (length changes) (l.number + 1) (drop (i + 1) changes) peers in
    record {
      number = omega arith;
      frames =
          ap (λ (frames : List Frame). frames ++ left) c.in_ok-add_frames.ensures
          ∙ append_assoc l.frames.items (one c.change-item.result) left
          ∙ ap (λ (frames : List Frame). l.frames.items ++ frames)
          (ap (λ (change : Change). one change ++ left) c.change-item.is
          ∙ sym
          (at_drop_more (λ (cs : List Change). frames_behind server (length changes) l.number cs peers) changes i
          c.change-item.result c.loop-change-test.true))
          ∙ l.invariant.frames;
    }

pub add_frames-requires-clause-placed : goal.add_frames-requires-clause-placed
add_frames-requires-clause-placed c = c.requires.placed

pub add_frames-requires-clause-seen : goal.add_frames-requires-clause-seen
add_frames-requires-clause-seen c = c.requires.seen

pub returns : goal.returns
returns c =
    let l = c.loop-change in
    let behind : List Change → List Frame = λ changes.
    frames_behind c.args.server.now (length c.args.changes.now) l.number changes c.args.peers.now in
    gathered_all (λ q changes. behind changes) c.args.changes.now l.change-index l.frames.items
    (frames_behind c.args.server.now (length c.args.changes.now) c.args.changed c.args.changes.now c.args.peers.now)
    refl c.loop-change-test.false l.invariant.frames
