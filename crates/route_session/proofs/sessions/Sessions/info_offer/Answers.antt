use Rattle.std.proofs.Common.{◌≡◌, Some, sym, ◌∙◌, rules}
use Rattle.route_session.specs.State.{Session}
use Rattle.route_session.specs.Calls.{peer_of, open_session}
use Rattle.route_session.proofs.Judged.{info_decided}
use Rattle.route_session.proofs.sessions.Sessions.info_offer.Goals as goal

pub returns : goal.returns
returns c =
    let s = c.args.self.now in
    let info = c.args.info.now in
    let session : Session = c.in-Some.session in
    let q = c.in-Some-dialed.dialed in
    let there : open_session c.args.session s.state.standing ≡ Some session =
    sym c.open_at.ensures.same ∙ c.in-Some.is in
    let dialed : session.dialed ≡ Some q = search rules in
    let name : peer_of s.server info.server_name ≡ Some q = search rules in
    info_decided s c.args.session info c.args.least session q c.offer_of_info.result c.if_better.result there
    c.in-Some.ensures.dial dialed name (search rules) (search rules) c.if_better.ensures
