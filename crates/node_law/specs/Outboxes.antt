-- What each connection is given over a run: the replies put for it and the messages owed to it, in
-- order, and its last line.
use Rattle.std.specs.Prelude.{◌≡◌, ℕ, Bool, false, nat_eq, List, [], ◌∷◌, ◌++◌, map, take, length, slice_get, Option, Some, None, if◌then◌else◌}
use Rattle.client_frames.specs.ErrTexts.{err_line}
use Rattle.client_frames.specs.Frames.{reply_line}
use Rattle.outbox.specs.Views.{Written}
use Rattle.subj.specs.Servers.{ServerIdentity}
use Rattle.shard_core.specs.declared.calls.Placed.{Placed}
use Rattle.shard_core.specs.Owed.{whole_walk, slow_consumer, candidate_of, owed_placed}
use Rattle.shard_core.specs.Puts.{put_line, put_by_claim, entries_for}
use Rattle.shard_core.specs.ShardEvents.{Event, Reply, Shut, Detach, Take, Begin, Claim}
use Rattle.shard_core.specs.ShardSteps.{answer_fits}
use Rattle.shard_core.specs.Shards.{State, Client, client_at, waits_for}
use Rattle.node_law.specs.AsLaw.{Part, part_of, waits_at}
use Rattle.node_law.specs.Runs.{Done, Ran}
use Rattle.node_law.specs.State.{ShardWithJobs, Node}

-- ---- of what an event of a shard puts

-- the replies that are handed in and have room, and the messages
abbrev pub due_by : State → Event → List Placed
due_by s (Reply conn frame) =
    if answer_fits s conn (reply_line frame) then put_line (reply_line frame) conn ∷ [] else []
due_by s (Begin job) = map (owed_placed s.shard s.clients job None) (whole_walk s job).given
due_by s (Claim index won) = put_by_claim s s.hand (candidate_of s s.hand index) won
due_by s other = []

-- the last lines, of connections that are shut by it
abbrev pub last_by : State → Event → List Placed
last_by s (Reply conn frame) =
    if answer_fits s conn (reply_line frame) then [] else put_line slow_consumer conn ∷ []
last_by s (Shut conn text) = put_line (err_line text) conn ∷ []
last_by s (Begin job) = map (put_line slow_consumer) (whole_walk s job).shut
last_by s other = []

-- what a client takes of what waits
abbrev pub taken_by : Event → ℕ → List Written → List Written
taken_by (Take of count) conn waits = if nat_eq of conn then take count waits else []
taken_by other conn waits = []

abbrev pub is_detach : ℕ → Event → Bool
is_detach conn (Detach of) = nat_eq of conn
is_detach conn other = false

-- ---- of one connection, since it was attached

-- the replies and messages that were put for it, its last line, and what was taken, each in order
pub record History : Type 0 where
  pub due : List Written
  pub last : List Written
  pub taken : List Written

abbrev pub no_history : History
no_history = record { due = []; last = []; taken = [] }

-- with a Detach it ends
abbrev pub after_event : State → Event → ℕ → History → History
after_event s e conn x =
    if is_detach conn e then no_history
    else record {
      due = x.due ++ entries_for conn (due_by s e);
      last = x.last ++ entries_for conn (last_by s e);
      taken = x.taken ++ taken_by e conn (waits_for conn s.clients);
    }

-- of a connection of the shard at this place
abbrev pub after_part : Option Part → ℕ → ℕ → History → History
after_part None place conn x = x
after_part (Some part) place conn x =
    if nat_eq part.place place then after_event part.line.shard part.event conn x else x

abbrev pub history_of : ServerIdentity → List Done → ℕ → ℕ → History
history_of server [] place conn = no_history
history_of server (d ∷ earlier) place conn =
    after_part (part_of server d.before d.event d.won) place conn
    (history_of server earlier place conn)

-- ---- what was taken and what waits is what was put

-- a connection that is there and shut
abbrev pub is_shut_client : Option Client → Bool
is_shut_client None = false
is_shut_client (Some client) = client.outbox.shut

abbrev pub is_shut : ℕ → List Client → Bool
is_shut conn clients = is_shut_client (client_at conn clients)

abbrev pub shut_in : ℕ → Option ShardWithJobs → Bool
shut_in conn None = false
shut_in conn (Some line) = is_shut conn line.shard.clients

abbrev pub is_shut_at : Node → ℕ → ℕ → Bool
is_shut_at a place conn = shut_in conn (slice_get a.lines place)

-- All that was put was taken or waits, in order. The last line stands behind all else, and there is
-- one just where the connection is shut.
pub record IsKnown (x : History) (waits : List Written) (shut : Bool) : Type 0 where
  pub all : x.taken ++ waits ≡ x.due ++ x.last
  pub last : length x.last ≡ (if shut then 1 else 0)

-- of every run, and each connection
abbrev pub OutboxesAreKnown : Type 0
OutboxesAreKnown =
    (server : ServerIdentity) (h : List Done) (a : Node)
    → Ran server h a
    → (place conn : ℕ)
    → IsKnown (history_of server h place conn) (waits_at a place conn) (is_shut_at a place conn)
