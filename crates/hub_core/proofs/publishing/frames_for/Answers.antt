use Rattle.std.proofs.Common.{ℕ, ◌+◌, ◌++◌, List, drop, refl, sym, ap, ◌∙◌, Some, arith}
use Rattle.std.proofs.lemmas.Option.{slice_get-get_or}
use Rattle.hub_core.specs.State.{Peer}
use Rattle.subj.specs.Servers.{name_of}
use Rattle.route_values.specs.Frames.{Frame}
use Rattle.hub_core.specs.Chosen.{chosen_for, frame_at, sent_from}
use Rattle.hub_core.proofs.Choices.Filled.{gathered_all}
use Rattle.hub_core.proofs.Neighbours.Sending.{frames_step}
use Rattle.hub_core.proofs.publishing.frames_for.Goals as goal

pub loop-place-preserved : goal.loop-place-preserved
loop-place-preserved c =
    let out = c.args.out.now in
    let peers = c.args.peers.now in
    let i = c.loop-place.place in
    let peer = c.index-peers-place.result in
    let queues_of : List ℕ → List (List ℕ) =
    λ server_name. chosen_for server_name out.names.now out.servers.now in
    let rest = sent_from out.server.now out.number out.message.now queues_of (i + 1) (drop (i + 1) peers) in
    ap (λ (l : List Frame). l ++ rest) c.in_ok-add_frame.ensures
    ∙ frames_step out.server.now out.number out.message.now queues_of peers i peer
    (frame_at out.server.now out.number out.message.now (queues_of (name_of out.server.now i)) i peer)
    c.loop-place.frames.items (sent_from out.server.now out.number out.message.now queues_of 0 peers)
    c.loop-place-test.true c.index-peers-place.is refl c.loop-place.invariant

pub add_frame-requires-clause-seen : goal.add_frame-requires-clause-seen
add_frame-requires-clause-seen c =
    let peers = c.args.peers.now in let i = c.loop-place.place in let peer = c.index-peers-place.result in
    let there = slice_get-get_or peers i peer c.loop-place-test.true in
    c.requires.seen i peer (there ∙ ap (λ (peer : Peer). Some peer) (sym c.index-peers-place.is))

pub add_frame-requires-clause-plain : goal.add_frame-requires-clause-plain
add_frame-requires-clause-plain c =
    let peers = c.args.peers.now in let i = c.loop-place.place in let peer = c.index-peers-place.result in
    let there = slice_get-get_or peers i peer c.loop-place-test.true in
    c.requires.plain i peer (there ∙ ap (λ (peer : Peer). Some peer) (sym c.index-peers-place.is))

pub add_frame-requires-clause-split : goal.add_frame-requires-clause-split
add_frame-requires-clause-split c = c.requires.split

pub add_frame-requires-clause-place : goal.add_frame-requires-clause-place
add_frame-requires-clause-place c = omega (arith, c.requires.placed)

pub add_frame-requires-clause-first : goal.add_frame-requires-clause-first
add_frame-requires-clause-first c = c.requires.first

pub add_frame-requires-clause-last : goal.add_frame-requires-clause-last
add_frame-requires-clause-last c = c.requires.last

pub returns : goal.returns
returns c =
    let out = c.args.out.now in
    let peers = c.args.peers.now in
    let queues_of : List ℕ → List (List ℕ) =
    λ server_name. chosen_for server_name out.names.now out.servers.now in
    gathered_all (sent_from out.server.now out.number out.message.now queues_of) peers c.loop-place.place
    c.loop-place.frames.items (sent_from out.server.now out.number out.message.now queues_of 0 peers) refl
    c.loop-place-test.false c.loop-place.invariant
