use Rattle.std.proofs.Common.{◌≡◌, ◌++◌, [], ◌∷◌, List, sym, ap, ◌∙◌, append-nil, subst}
use Rattle.std.specs.Prelude.{OnOk}
use Rattle.route_values.specs.Frames.{Frame}
use Rattle.hub_core.specs.Chosen.{message_frame}
use Rattle.hub_core.proofs.Neighbours.Sending.{listed_name, none_owed, one_owed}
use Rattle.hub_core.proofs.publishing.put_frame.Goals as goal

pub returns-then-not-is_owed : goal.returns-then-not-is_owed
returns-then-not-is_owed c =
    let out = c.args.out.now in
    let server = out.server.now in
    let names = out.names.now in
    let queues = c.in_ok-queues.queues in
    let name = c.index-names-place.result in
    let called =
    listed_name server c.names.result.now c.args.place name c.names.ensures c.requires.place c.index-names-place.is in
    let none = none_owed server out.number out.message.now names out.servers.now c.args.place c.args.peer.now name
    queues called c.in_ok-queues.ensures c.requires.eligible (sym c.is_owed.ensures ∙ c.if-not-is_owed.true) in
    sym (append-nil c.args.frames.now.items) ∙ ap (λ (l : List Frame). c.args.frames.now.items ++ l) (sym none)

pub returns : goal.returns
returns c =
    let out = c.args.out.now in
    let server = out.server.now in
    let names = out.names.now in
    let queues = c.in_ok-queues.queues in
    let name = c.index-names-place.result in
    let peer = c.args.peer.now in
    let called =
    listed_name server c.names.result.now c.args.place name c.names.ensures c.requires.place c.index-names-place.is in
    let one = one_owed server out.number out.message.now names out.servers.now c.args.place peer name queues called
    c.in_ok-queues.ensures c.requires.eligible (sym c.is_owed.ensures ∙ c.if-not-is_owed.false) in
    let frames = c.args.frames.now.items in
    let to_this_life : frames ++ record (message_frame server out.number out.message.now queues c.args.place peer) {
      to_inc = c.incarnation.result;
    } ∷ [] ≡ frames ++ message_frame server out.number out.message.now queues c.args.place peer ∷ [] = λ k.
    frames ++ record (message_frame server out.number out.message.now queues c.args.place peer) {
      to_inc = c.incarnation.ensures k;
    } ∷ [] in
    subst (λ (l : List Frame). OnOk c.put_message.result (c.put_message.new.frames.items ≡ l))
    (to_this_life ∙ ap (λ (l : List Frame). frames ++ l) (sym one)) c.put_message.ensures
