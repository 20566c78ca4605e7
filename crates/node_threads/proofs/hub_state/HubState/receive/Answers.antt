use Rattle.std.proofs.Common.{refl, inl}
use Rattle.node_threads.proofs.hub_state.HubState.receive.Goals as goal

pub returns-in-Err-apply_update : goal.returns-in-Err-apply_update
returns-in-Err-apply_update g c = record {
  seen = c.args.self.now;
  looks = inl refl;
  answered = c.in-Err-apply_update.ensures;
}
