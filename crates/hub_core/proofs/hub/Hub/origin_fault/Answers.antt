use Rattle.std.proofs.Common.{◌≡◌, ◌<◌, ◌≤◌, get_or, sym, ap, ◌∙◌, arith}
use Rattle.hub_core.specs.State.{Peer, peer_in_life}
use Rattle.hub_core.specs.Hubs.{Hub}
use Rattle.hub_core.proofs.Neighbours.Origins.{of_news, of_late, of_turn}
use Rattle.hub_core.proofs.hub.Hub.origin_fault.Goals as goal

pub returns-then-not-is_message : goal.returns-then-not-is_message
returns-then-not-is_message c =
    let hub = c.args.self.now in
    let x = c.index-peer.result.now in
    let frame = c.args.frame.now in
    let at : x ≡ get_or hub.state.peers c.args.place x =
    c.index-peer.ensures ∙ ap (λ (h : Hub). get_or h.state.peers c.args.place x) c.self.view_is in
    let seen : c.peer.inside.seen ≡ x.seen = ap (λ (p : Peer). p.seen) c.peer.view_is in
    let fresh : x.seen ≤ frame.inc = (let same = c.get-inc.ensures.same in omega (arith, c.inc.ensures)) in
    c.interest_fault.ensures
    ∙ of_news hub.server hub.state c.args.finished.now frame c.args.place x c.requires at fresh
    (sym c.is_message.ensures ∙ c.if-not-is_message.true)

pub returns-then-number-mark_in : goal.returns-then-number-mark_in
returns-then-number-mark_in c =
    let hub = c.args.self.now in
    let x = c.index-peer.result.now in
    let frame = c.args.frame.now in
    let at : x ≡ get_or hub.state.peers c.args.place x =
    c.index-peer.ensures ∙ ap (λ (h : Hub). get_or h.state.peers c.args.place x) c.self.view_is in
    let seen : c.peer.inside.seen ≡ x.seen = ap (λ (p : Peer). p.seen) c.peer.view_is in
    let inc : c.get-inc.result ≡ frame.inc = c.get-inc.ensures.same ∙ c.inc.ensures in
    let mark : c.mark_in.result ≡ (peer_in_life x frame.inc).mark =
    c.mark_in.ensures ∙ ap (λ n. (peer_in_life x n).mark) inc in
    let late : frame.number ≤ (peer_in_life x frame.inc).mark = (let number = c.number.ensures.same in omega arith) in
    of_late hub.server hub.state c.args.finished.now frame c.args.place x c.requires at (omega arith)
    (sym c.is_message.ensures ∙ c.if-not-is_message.false) late

pub returns : goal.returns
returns c =
    let hub = c.args.self.now in
    let x = c.index-peer.result.now in
    let frame = c.args.frame.now in
    let at : x ≡ get_or hub.state.peers c.args.place x =
    c.index-peer.ensures ∙ ap (λ (h : Hub). get_or h.state.peers c.args.place x) c.self.view_is in
    let seen : c.peer.inside.seen ≡ x.seen = ap (λ (p : Peer). p.seen) c.peer.view_is in
    let inc : c.get-inc.result ≡ frame.inc = c.get-inc.ensures.same ∙ c.inc.ensures in
    let mark : c.mark_in.result ≡ (peer_in_life x frame.inc).mark =
    c.mark_in.ensures ∙ ap (λ n. (peer_in_life x n).mark) inc in
    let later : (peer_in_life x frame.inc).mark < frame.number = (let number = c.number.ensures.same in omega arith) in
    c.turn_fault.ensures
    ∙ of_turn hub.server hub.state c.args.finished.now frame c.args.place x c.requires at (omega arith)
    (sym c.is_message.ensures ∙ c.if-not-is_message.false) later
