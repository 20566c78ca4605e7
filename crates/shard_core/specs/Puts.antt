-- What an event puts into the outboxes, in order: copies of the entries, each with its connection.
use Rattle.std.specs.Prelude.{◌≡◌, ℕ, Bool, false, nat_eq, List, [], ◌∷◌, ◌++◌, map, filter, drop, Option, Some, None, if◌then◌else◌}
use Rattle.client_frames.specs.ErrTexts.{err_line}
use Rattle.client_frames.specs.Frames.{reply_line}
use Rattle.outbox.specs.Views.{Written, reply_entry}
use Rattle.sub_table.specs.declared.Subscription.{Subscription}
use Rattle.subj.specs.declared.jobs.Job.{Job}
use Rattle.shard_core.specs.declared.calls.Placed.{Placed}
use Rattle.shard_core.specs.Shards.{State, waits_for}
use Rattle.shard_core.specs.Owed.{Walk, whole_walk, slow_consumer, candidate_of, owed_placed}
use Rattle.shard_core.specs.ShardEvents.{Event, Attach, Subscribe, Unsubscribe, Reply, SetHeaders, Shut, Detach, Take, Begin, Claim, End, DropJob, Drain, Collect}
use Rattle.shard_core.specs.ShardSteps.{answer_fits, shard_refusal, shard_after}

-- a line that answers a client, or that it is shut with
abbrev pub put_line : List ℕ → ℕ → Placed
put_line line conn = record { conn = conn; entry = reply_entry line; headers = false }

-- the messages of a walk, and behind them the last lines of the connections that it shut
abbrev pub put_by_walk : State → Job → Walk → List Placed
put_by_walk s job w =
    map (owed_placed s.shard s.clients job None) w.given ++ map (put_line slow_consumer) w.shut

abbrev pub put_by_claim : State → Option Job → Option Subscription → Bool → List Placed
put_by_claim s None sub won = []
put_by_claim s (Some job) None won = []
put_by_claim s (Some job) (Some sub) won =
    if won then owed_placed s.shard s.clients job sub.key.queue sub ∷ [] else []

abbrev pub put_by : State → Event → List Placed
put_by s Attach = []
put_by s (Subscribe conn key sid) = []
put_by s (Unsubscribe conn sid max) = []
put_by s (Reply conn frame) =
    if answer_fits s conn (reply_line frame) then put_line (reply_line frame) conn ∷ []
    else put_line slow_consumer conn ∷ []
put_by s (SetHeaders conn on) = []
put_by s (Shut conn text) = put_line (err_line text) conn ∷ []
put_by s (Detach conn) = []
put_by s (Take conn count) = []
put_by s (Begin job) = put_by_walk s job (whole_walk s job)
put_by s (Claim index won) = put_by_claim s s.hand (candidate_of s s.hand index) won
put_by s End = []
put_by s (DropJob waiting) = []
put_by s Drain = []
put_by s Collect = []

-- the entries put for one connection
abbrev pub entries_for : ℕ → List Placed → List Written
entries_for conn puts = map (λ put. put.entry) (filter (λ put. nat_eq put.conn conn) puts)

-- what waits for a connection after an event: what waited, without what the client took or all if
-- it went, and behind it what the event put
abbrev pub kept_of : Event → ℕ → List Written → List Written
kept_of Attach conn entries = entries
kept_of (Subscribe of key sid) conn entries = entries
kept_of (Unsubscribe of sid max) conn entries = entries
kept_of (Reply of frame) conn entries = entries
kept_of (SetHeaders of on) conn entries = entries
kept_of (Shut of text) conn entries = entries
kept_of (Detach of) conn entries = if nat_eq of conn then [] else entries
kept_of (Take of count) conn entries = if nat_eq of conn then drop count entries else entries
kept_of (Begin job) conn entries = entries
kept_of (Claim index won) conn entries = entries
kept_of End conn entries = entries
kept_of (DropJob waiting) conn entries = entries
kept_of Drain conn entries = entries
kept_of Collect conn entries = entries

-- what an event that is not refused shows in the outbox of each connection
pub record ArePut (s : State) (event : Event) (conn : ℕ) : Type 0 where
  pub entries : shard_refusal s event ≡ None
      → waits_for conn (shard_after s event).clients
      ≡ kept_of event conn (waits_for conn s.clients) ++ entries_for conn (put_by s event)
