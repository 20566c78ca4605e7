use Rattle.std.proofs.Common.{All, subst}
use Rattle.node_threads.specs.AtHub.{AtHub}
use Rattle.node_threads.specs.Outlets.{AreFirst}
use Rattle.node_threads.proofs.hub_state.HubState.into_parts.Goals as goal

pub returns-clause-lines : goal.returns-clause-lines
returns-clause-lines g c =
    subst (λ (o : AtHub). All (λ line. AreFirst line.pushed o.issued) c.into_lines.result.items) c.self.view_is
    c.into_lines.ensures
