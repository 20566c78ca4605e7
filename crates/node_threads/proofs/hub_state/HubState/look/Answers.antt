use Rattle.std.proofs.Common.{subst}
use Rattle.claim_cells.specs.Calls.{IsLooked}
use Rattle.claim_cells.specs.Seats.{RaceId}
use Rattle.node_threads.specs.AtHub.{AtHub}
use Rattle.node_threads.proofs.hub_state.HubState.look.Goals as goal

pub returns-clause-loads : goal.returns-clause-loads
returns-clause-loads g c =
    let s = c.self.inside in
    let look = c.look-self-inside in
    subst (λ (o : AtHub). IsLooked g.N.NodeName.race.shards o.part look.result look.new.seat.part) c.self.view_is
    (subst (λ (r : RaceId). IsLooked r.shards s.seat.part look.result look.new.seat.part) c.requires.race
    look.ensures.told)
