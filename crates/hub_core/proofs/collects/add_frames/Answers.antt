use Rattle.std.proofs.Common.{ℕ, Bool, Some, List, [], ◌∷◌, ◌++◌, refl, sym, ap, ◌∙◌, append-nil}
use Rattle.std.specs.Prelude.{if◌then◌else◌}
use Rattle.std.proofs.lemmas.Option.{slice_get-get_or}
use Rattle.list_laws.proofs.Tests.{and_true}
use Rattle.route_values.specs.Frames.{Frame}
use Rattle.hub_core.specs.State.{Peer}
use Rattle.hub_core.specs.Calls.{change_to}
use Rattle.hub_core.specs.Telling.{has_room_for, is_told, frames_of_change}
use Rattle.hub_core.proofs.Choices.Filled.{gathered_on, gathered_all}
use Rattle.hub_core.proofs.collects.add_frames.Goals.{then-is_told+in_ok-frame+in_ok-push, else-is_told}
use Rattle.hub_core.proofs.collects.add_frames.Goals as goal

pub loop-place-preserved : goal.loop-place-preserved
loop-place-preserved c =
    let l = c.loop-place in
    let server = c.args.server.now in
    let count = c.args.count in
    let number = c.args.number in
    let change = c.args.change.now in
    let peers = c.args.peers.now in
    let peer = c.index-peers-place.result in
    let told : Frame = change_to server number change l.place peer in
    let put_where : Bool → List Frame = λ is. if is then told ∷ [] else [] in
    let all = c.args.frames.now.items ++ frames_of_change server count number change 0 peers in
    let on = gathered_on
    (λ (q : ℕ) (peer : Peer). if is_told count peer then change_to server number change q peer ∷ [] else [])
    (frames_of_change server count number change) (λ q x xs. refl) peers l.place peer in
    elim c.if-is_told.branch [
      | then-is_told+in_ok-frame+in_ok-push w ↦
          rw w.frames-is (on (w.in_ok-frame.frame ∷ []) l.frames.items w.push.new.self.items all c.loop-place-test.true
          c.index-peers-place.is
          (ap (λ (f : Frame). f ∷ []) w.in_ok-frame.ensures
          ∙ sym (ap put_where (sym c.is_told.ensures ∙ w.if-is_told.true)))
          w.in_ok-push.ensures.items l.invariant)
      | else-is_told w ↦
          rw w.frames-is (on [] l.frames.items l.frames.items all c.loop-place-test.true c.index-peers-place.is
          (sym (ap put_where (sym c.is_told.ensures ∙ w.if-is_told.false))) (sym (append-nil l.frames.items))
          l.invariant)
    ]

pub frame_of_change-requires-clause-seen : goal.frame_of_change-requires-clause-seen
frame_of_change-requires-clause-seen c =
    let peers = c.args.peers.now in
    let place = c.loop-place.place in
    let peer = c.index-peers-place.result in
    let there = slice_get-get_or peers place peer c.loop-place-test.true in
    c.requires.seen.seen place peer (there ∙ ap (λ (peer : Peer). Some peer) (sym c.index-peers-place.is))
    (and_true peer.up (has_room_for c.args.count peer) (sym c.is_told.ensures ∙ c.if-is_told.true)).0

pub returns : goal.returns
returns c =
    let server = c.args.server.now in
    let peers = c.args.peers.now in
    gathered_all (frames_of_change server c.args.count c.args.number c.args.change.now) peers c.loop-place.place
    c.loop-place.frames.items
    (c.args.frames.now.items ++ frames_of_change server c.args.count c.args.number c.args.change.now 0 peers) refl
    c.loop-place-test.false c.loop-place.invariant
