use Rattle.std.proofs.Common.{◌≡◌, ◌<◌, length, slice_get, get_or, sym, ap, ◌∙◌, arith}
use Rattle.std.proofs.lemmas.Option.{slice_get-get_or}
use Rattle.subj.specs.Servers.{place}
use Rattle.hub_core.specs.State.{changed_at}
use Rattle.hub_core.specs.Calls.{with_frame}
use Rattle.hub_core.proofs.Neighbours.Changed.{changed_is}
use Rattle.hub_core.proofs.peers.put.Goals as goal

pub put-requires : goal.put-requires
put-requires c =
    let q = c.place_in-place.result in
    let peers = c.args.peers.now in
    let q_is : q ≡ place c.args.server.now c.args.frame.to =
    c.place_in-place.ensures ∙ ap (place c.args.server.now) c.to.ensures in
    let within : q < length peers = omega (arith, q_is, c.requires.listed, c.requires.placed) in
    c.requires.room (get_or peers q c.index-peers-place.result)
    (ap (slice_get peers) (sym q_is) ∙ slice_get-get_or peers q c.index-peers-place.result within)

pub returns : goal.returns
returns c =
    let q = c.place_in-place.result in
    let peers = c.args.peers.now in
    let q_is : q ≡ place c.args.server.now c.args.frame.to =
    c.place_in-place.ensures ∙ ap (place c.args.server.now) c.to.ensures in
    let within : q < length peers = omega (arith, q_is, c.requires.listed, c.requires.placed) in
    changed_is (with_frame c.args.frame) peers q c.index-peers-place.result c.put.new.self within c.index-peers-place.is
    (c.put.ensures ∙ ap (with_frame c.args.frame) (sym c.index-peers-place.is))
    ∙ ap (λ n. changed_at (with_frame c.args.frame) n peers) q_is
