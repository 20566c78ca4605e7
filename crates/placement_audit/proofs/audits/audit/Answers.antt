use Rattle.placement_audit.proofs.audits.audit.Goals as goal

pub returns : goal.returns
returns c = c.first_breach.ensures _ _ c.in_ok-sources.ensures c.in_ok-lives.ensures
