-- A server that has just started.
use Rattle.std.proofs.Common.{◌≡◌, ℕ, zero, suc, ◌+◌, List, [], ◌∷◌, ◌++◌, ap, ◌∙◌, arith}
use Rattle.claim_race.specs.Race.{RaceState, IsNew}
use Rattle.subj.specs.Servers.{ServerIdentity, IsServer}
use Rattle.node_core.specs.Served.{new_server, IsKept, served_of_parts}
use Rattle.node_law.specs.State.{ShardWithJobs, new_line, lines_from}
use Rattle.node_parts.specs.Sides.{HubWithSessions, new_side}
use Rattle.node_law.proofs.Runs.Sound.{starts_sound}

more : (shards first count : ℕ)
    → lines_from shards first (suc count) ≡ lines_from shards first count ++ new_line shards (count + first) ∷ []
more shards first zero = ap (λ k. new_line shards k ∷ []) (none first)
  where
    none : (m : ℕ) → m ≡ 0 + m
    none m = omega arith
more shards first (suc count) =
    ap (λ t. new_line shards first ∷ t)
    (more shards (suc first) count
    ∙ ap (λ k. lines_from shards (suc first) count ++ new_line shards k ∷ []) (shift count first))
  where
    shift : (m j : ℕ) → m + suc j ≡ suc m + j
    shift m j = omega arith

pub lines_more : (shards count : ℕ)
    → lines_from shards 1 (count + 1) ≡ lines_from shards 1 count ++ new_line shards (count + 1) ∷ []
lines_more shards count = ap (lines_from shards 1) (one count) ∙ more shards 1 count
  where
    one : (m : ℕ) → m + 1 ≡ suc m
    one m = omega arith

-- a server of new parts
pub starts_as : (server : ServerIdentity) (side : HubWithSessions) (race : RaceState) (lines : List ShardWithJobs)
    → side ≡ new_side server
    → IsNew server.shards race
    → lines ≡ lines_from server.shards 1 server.shards
    → served_of_parts side race lines ≡ new_server server
starts_as server side race lines side_is new lines_are = λ i.
    served_of_parts (side_is i)
    (record { issued = new.issued i; finished = new.finished i; next = new.next i; won = new.won i }) (lines_are i)

pub starts_kept : (server : ServerIdentity) → IsServer server → IsKept (new_server server)
starts_kept server is = record {
  listed = is.known;
  some = is.first_shard;
  few = is.last_shard;
  sound = starts_sound server;
}
