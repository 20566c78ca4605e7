-- A step of a server moves its hub and its sessions by their own step.
use Rattle.std.proofs.Common.{◌≡◌, Option, Some, None, refl, sym}
use Rattle.std.proofs.lemmas.Option.{none-some}
use Rattle.hub_core.specs.Telling.{collect_refusal}
use Rattle.hub_core.specs.State as hub
use Rattle.hub_core.proofs.Steps.Rooms.{map_none}
use Rattle.node_law.specs.declared.faults.NodeFault.TheVariants.{NoShard, Hub, Session}
use Rattle.node_law.specs.Events.{Own, OfConn, AtShard, Publish, Collect, Drain, Dial, Accept, CutSession, TakeFrames, Receive, OnInfo, OnConnect}
use Rattle.node_law.specs.State.{ShardWithJobs}
use Rattle.node_law.specs.Steps.{collect_refusal_at, shard_line, deltas_at}
use Rattle.node_threads.specs.Parts.{side_at, SidesAreParts}

of_line : (h : hub.State) (o : Option ShardWithJobs)
    → collect_refusal_at h o ≡ None
    → collect_refusal h (deltas_at o) ≡ None
of_line h None e = absurd (none-some NoShard (sym e))
of_line h (Some line) e = map_none Hub (collect_refusal h line.shard.deltas) e

pub sides_are_parts : SidesAreParts
sides_are_parts server a (Own (OfConn conn event)) won race b step = λ k. side_at server (step.after k)
sides_are_parts server a (Own (AtShard shard work)) won race b step = λ k. side_at server (step.after k)
sides_are_parts server a (Own (Publish p)) won race b step = record {
  free = map_none Hub _ step.cause;
  asked = tt;
  answered = refl;
  after = λ k. side_at server (step.after k);
}
sides_are_parts server a (Own (Collect shard)) won race b step = record {
  free = of_line a.hub (shard_line a shard) step.cause;
  asked = tt;
  answered = refl;
  after = λ k. side_at server (step.after k);
}
sides_are_parts server a (Own Drain) won race b step = record {
  free = map_none Hub _ step.cause;
  asked = tt;
  answered = refl;
  after = λ k. side_at server (step.after k);
}
sides_are_parts server a (Own (Dial q)) won race b step = record {
  free = map_none Session _ step.cause;
  asked = tt;
  answered = refl;
  after = λ k. side_at server (step.after k);
}
sides_are_parts server a (Own Accept) won race b step = record {
  free = map_none Session _ step.cause;
  asked = tt;
  answered = refl;
  after = λ k. side_at server (step.after k);
}
sides_are_parts server a (Own (CutSession session)) won race b step = record {
  free = map_none Session _ step.cause;
  asked = tt;
  answered = refl;
  after = λ k. side_at server (step.after k);
}
sides_are_parts server a (Own (TakeFrames q count)) won race b step = record {
  free = map_none Hub _ step.cause;
  asked = tt;
  answered = refl;
  after = λ k. side_at server (step.after k);
}
sides_are_parts server a (Receive frame) won race b step = record {
  free = map_none Hub _ step.cause;
  asked = tt;
  answered = refl;
  after = λ k. side_at server (step.after k);
}
sides_are_parts server a (OnInfo session info) won race b step = record {
  free = map_none Session _ step.cause;
  asked = refl;
  answered = refl;
  after = λ k. side_at server (step.after k);
}
sides_are_parts server a (OnConnect session connect) won race b step = record {
  free = map_none Session _ step.cause;
  asked = refl;
  answered = refl;
  after = λ k. side_at server (step.after k);
}
