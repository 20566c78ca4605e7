use Rattle.std.proofs.Common.{subst}
use Rattle.subj.specs.Servers.{ServerIdentity, IsListed}
use Rattle.node_parts.specs.Sides.{HubWithSessions}
use Rattle.node_parts.proofs.side.HubWithSessions.is_listed.Goals as goal

pub returns : goal.returns
returns c =
    subst (λ (o : HubWithSessions). IsListed o.server) c.self.view_is
    (subst (λ (s : ServerIdentity). IsListed s) c.server.ensures c.me-me.ensures.server.known)
