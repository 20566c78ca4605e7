-- What a cluster answers to an event: why it is refused, or what the server answers that it is for.
use Rattle.node_law.specs.Answers.{Answer}
use Rattle.world_law.specs.declared.faults.WorldFault.{WorldFault}

pub data Outcome : Type 0 where
  Refused : (why : WorldFault) → Outcome
  Done : (answer : Answer) → Outcome
