use Rattle.std.proofs.Common.{List, length, sym, ap, ◌∙◌, subst}
use Rattle.hub_core.specs.State.{Peer}
use Rattle.hub_core.specs.Telling.{without_slow}
use Rattle.hub_core.specs.Publishing.{with_frames}
use Rattle.hub_core.specs.Calls.{HasRoomFor}
use Rattle.hub_core.proofs.Neighbours.Known.{map_length}
use Rattle.hub_core.proofs.collects.tell_peers.Goals as goal

pub put_all-requires-clause-placed : goal.put_all-requires-clause-placed
put_all-requires-clause-placed c =
    ap length c.cut_slow.ensures ∙ map_length (without_slow c.args.count) c.args.peers.now ∙ c.requires.placed

pub put_all-requires-clause-room : goal.put_all-requires-clause-room
put_all-requires-clause-room c =
    subst (λ (peers : List Peer). HasRoomFor c.args.server.now c.args.frames.items peers) (sym c.cut_slow.ensures)
    c.requires.room

pub returns : goal.returns
returns c =
    c.put_all.ensures
    ∙ ap (λ (peers : List Peer). with_frames c.args.server.now c.args.frames.items 0 peers) c.cut_slow.ensures
