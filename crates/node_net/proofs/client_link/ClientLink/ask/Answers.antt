use Rattle.std.proofs.Common.{refl, inr}
use Rattle.node_net.proofs.client_link.ClientLink.ask.Goals as goal

pub returns-in-None-clause-calls : goal.returns-in-None-clause-calls
returns-in-None-clause-calls g c =
    inr (record { is = c.in-None.ensures.none; ends = c.of.ensures; same = (refl, refl) })
