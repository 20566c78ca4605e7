use Rattle.std.proofs.Common.{◌≡◌, sym, ap, ◌∙◌, subst}
use Rattle.std.specs.Option.{option_map}
use Rattle.hub_core.specs.Peers.{snapshot_to}
use Rattle.route_session.specs.Calls.{peer_of as peer_by_name}
use Rattle.node_law.specs.Answers.{Kept}
use Rattle.node_law.specs.Events.{OnConnect}
use Rattle.node_core.specs.Outcome.{Outcome, Does, with_frames}
use Rattle.node_core.specs.Served.{Served}
use Rattle.node_core.proofs.Outcomes.Sending.{connect_does}
use Rattle.node_core.proofs.node.Node.did_connect.Goals as goal

pub returns : goal.returns
returns g c =
    let x = c.args.connect.now in
    let old = c.args.self.now in
    let snapshot = c.in_ok-snapshot.snapshot in
    let is :
    snapshot ≡ option_map (λ q. snapshot_to old.server old.node.hub q x.inc) (peer_by_name old.server x.server_name) =
    c.in_ok-snapshot.ensures
    ∙ ap (λ (s : Served).
    option_map (λ q. snapshot_to s.server s.node.hub q c.inc.result) (peer_by_name s.server c.server_name.result))
    c.self.view_is
    ∙ (λ k.
    option_map (λ q. snapshot_to old.server old.node.hub q (c.inc.ensures k))
    (peer_by_name old.server (c.server_name.ensures k))) in
    let told =
    c.of_frames.ensures ∙ ap (with_frames (Kept c.in_ok-kept.kept.instead_of)) c.sent_on_connect-frames.ensures in (
      c.in_ok-kept.ensures.0,
      subst (λ (o : Outcome). Does old (OnConnect c.args.session x) o c.connect.new.self) (sym told)
          (connect_does old c.connect.new.self c.args.session x c.in_ok-kept.kept.instead_of snapshot is
          c.in_ok-kept.ensures.1),
    )
