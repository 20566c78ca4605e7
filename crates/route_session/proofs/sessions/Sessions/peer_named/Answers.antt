use Rattle.std.proofs.Common.{◌≡◌, Some, sym, ap, ◌∙◌}
use Rattle.std.specs.Prelude.{position}
use Rattle.std.specs.Str.{bytes_eq}
use Rattle.std.specs.Bool.{then_some}
use Rattle.route_session.specs.Calls.{Served, peer_of}
use Rattle.route_session.proofs.Judged.{at_place}
use Rattle.route_session.proofs.sessions.Sessions.peer_named.Goals as goal

pub returns : goal.returns
returns c =
    let server = c.self.inside.server in
    let q = c.in_ok-place.place in
    let at : position (λ other. bytes_eq other c.args.name) server.names ≡ Some q =
    sym c.place.ensures ∙ c.in_ok-place.was in
    c.then_some.ensures
    ∙ ap (λ b. then_some b q) c.is_peer.ensures.same
    ∙ at_place server c.args.name q at
    ∙ ap (λ (s : Served). peer_of s.server c.args.name) c.self.view_is
