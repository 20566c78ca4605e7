use Rattle.std.proofs.Common.{List, ℕ, subst}
use Rattle.hub_core.specs.Audiences.{IsAudience}
use Rattle.hub_core.proofs.Choices.Audiences.{kept_in_mind}
use Rattle.hub_core.proofs.audience.AudienceMemo.find.Goals as goal

pub returns : goal.returns
returns c =
    let server = c.args.server.now in
    let counts = c.args.counts.now in
    let peers = c.args.peers.now in
    let audience = c.in-Ok-find.audience in
    kept_in_mind server counts peers
    (record { subject = c.args.subject; eligible = c.in-Ok.eligible; audience = audience }) c.in-Ok.ensures
    (subst (λ (subject : List ℕ). IsAudience server counts peers subject audience) c.lent.ensures
    c.in-Ok-find.ensures.1)
