use Rattle.std.proofs.Common.{◌≡◌, List, length, sym, ap, ◌∙◌, subst, arith}
use Rattle.subj.specs.Servers.{place}
use Rattle.std.specs.Prelude.{slice_get, vec_len}
use Rattle.list_laws.proofs.Tests.{eq_true}
use Rattle.route_values.specs.Frames.{Frame}
use Rattle.hub_core.specs.Publishing.{with_frames}
use Rattle.hub_core.specs.Calls.{with_frame, HasRoomFor}
use Rattle.hub_core.proofs.Neighbours.Known.{changed_length}
use Rattle.hub_core.proofs.Neighbours.Puts.{has_room, put_one, nothing_put, no_items}
use Rattle.hub_core.proofs.peers.put_all.Goals as goal

pub put-requires-clause-room : goal.put-requires-clause-room
put-requires-clause-room c =
    has_room c.args.server.now c.in-Some.frame c.pop_front.new.self.items c.loop-frame.peers
    (subst (λ (frames : List Frame). HasRoomFor c.args.server.now frames c.loop-frame.peers) c.in-Some.ensures.items
    c.loop-frame.invariant.room)

pub loop-frame-preserved : goal.loop-frame-preserved
loop-frame-preserved c =
    let server = c.args.server.now in
    let peers = c.loop-frame.peers in
    let room = subst (λ (frames : List Frame). HasRoomFor server frames peers) c.in-Some.ensures.items
    c.loop-frame.invariant.room in
    let put = put_one server c.in-Some.frame c.pop_front.new.self.items peers room c.put.new.peers c.requires.known
    c.loop-frame.invariant.placed c.put.ensures in
    record {
      placed =
          ap length c.put.ensures
          ∙ changed_length (with_frame c.in-Some.frame) (place server c.in-Some.frame.to)
          (slice_get peers (place server c.in-Some.frame.to)) peers
          ∙ c.loop-frame.invariant.placed;
      room = put.0;
      whole =
          put.1
          ∙ ap (λ (frames : List Frame). with_frames server frames 0 peers) (sym c.in-Some.ensures.items)
          ∙ c.loop-frame.invariant.whole;
    }

pub returns-then-is_empty : goal.returns-then-is_empty
returns-then-is_empty c =
    let counted = c.args.frames.ok.0 in
    let empty = eq_true (vec_len c.args.frames) 0 (sym c.is_empty.ensures ∙ c.if-is_empty.true) in
    let none = no_items c.args.frames.items (omega arith) in
    sym (nothing_put c.args.server.now 0 c.args.peers.now)
    ∙ ap (λ (frames : List Frame). with_frames c.args.server.now frames 0 c.args.peers.now) (sym none)

pub returns : goal.returns
returns c =
    let none : length c.loop-frame.frames.items ≡ 0 =
    (let counted = c.loop-frame.frames.ok.0 in omega (arith, c.in_default.ensures.cases.0)) in
    sym (nothing_put c.args.server.now 0 c.loop-frame.peers)
    ∙ ap (λ (frames : List Frame). with_frames c.args.server.now frames 0 c.loop-frame.peers)
    (sym (no_items c.loop-frame.frames.items none))
    ∙ c.loop-frame.invariant.whole
