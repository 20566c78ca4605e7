-- Of which shards a server on threads answers: of those from 1 to as many as it has, and of no
-- other; and for which connections each does.
use Rattle.std.specs.Prelude.{◌≡◌, ℕ, Bool, true, false, Option, Some, None, is_some, nat_eq, Result, Ok, Err}
use Rattle.claim_cells.specs.Seats.{RaceId}
use Rattle.subj.specs.declared.failures.Failure.{Failure}
use Rattle.subj.specs.declared.failures.Failure.TheVariants.{Refused, OutOfMemory}
use Rattle.node_law.specs.declared.faults.NodeFault.{NodeFault}
use Rattle.node_law.specs.declared.faults.NodeFault.TheVariants.{NoShard, Shard, Hub, Session}
use Rattle.node_parts.specs.Places.{place_of_conn, place_of_shard}

abbrev pub has_shard : RaceId → ℕ → Bool
has_shard race number = is_some (place_of_shard race.shards number)

-- both are there, and are one
abbrev pub are_one : Option ℕ → Option ℕ → Bool
are_one (Some a) (Some b) = nat_eq a b
are_one (Some a) None = false
are_one None b = false

-- of so many shards there is one of this number, and the connection of that number is its own
abbrev pub is_own : ℕ → ℕ → ℕ → Bool
is_own count number conn = are_one (place_of_shard count number) (place_of_conn count conn)

abbrev pub has_conn : RaceId → ℕ → ℕ → Bool
has_conn race number conn = is_own race.shards number conn

-- `NoShard` is told just where there is no such shard, or the connection is of another one
abbrev pub RefusesAt : Bool → NodeFault → Type 0
RefusesAt there NoShard = there ≡ false
RefusesAt there (Shard fault) = there ≡ true
RefusesAt there (Hub fault) = there ≡ true
RefusesAt there (Session fault) = ⊥

abbrev pub FailsAt : Bool → Failure NodeFault → Type 0
FailsAt there (Refused fault) = RefusesAt there fault
FailsAt there OutOfMemory = there ≡ true

-- the same answer, as the server of a shard or of a hub gives it
abbrev pub at_server : {X F : Type 0}
    → (F → NodeFault)
    → Result X (Failure F)
    → Result X (Failure NodeFault)
at_server fault_of (Ok x) = Ok x
at_server fault_of (Err (Refused fault)) = Err (Refused (fault_of fault))
at_server fault_of (Err OutOfMemory) = Err OutOfMemory

-- what a call of a shard answers, where that is there, and for a connection of its own, or not
abbrev pub AnswersAt : {X : Type 0} → Bool → Result X (Failure NodeFault) → Type 0
AnswersAt there (Ok x) = there ≡ true
AnswersAt there (Err failure) = FailsAt there failure

-- the same of a call that takes no memory
abbrev pub DecidesAt : {X : Type 0} → Bool → Result X NodeFault → Type 0
DecidesAt there (Ok x) = there ≡ true
DecidesAt there (Err fault) = RefusesAt there fault
