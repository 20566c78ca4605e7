-- What the values of the types below hold, as the definitions of this crate say it.
use Rattle.std.proofs.Common.{ℕ, List, [], ◌∷◌, All}
use Rattle.std.proofs.lemmas.List.Elements.{All-head, All-tail}
use Rattle.subj.specs.QueueNames.{IsQueueName}
use Rattle.route_values.specs.Valid.{AreNames}

pub names_from_all : (names : List (List ℕ)) → All IsQueueName names → AreNames names
names_from_all [] each = tt
names_from_all (name ∷ names) each = (
  All-head IsQueueName name names each,
  names_from_all names (All-tail IsQueueName name names each),
)
