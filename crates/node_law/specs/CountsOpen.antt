-- Interest: what the hub counts, together with what the shards have still to tell, is what is open.
use Rattle.std.specs.Prelude.{◌≡◌, ◌≢◌, ℕ, ◌+◌, List, map, count_by, Some}
use Rattle.std.specs.List.{flat_map}
use Rattle.subj.specs.Servers.{ServerIdentity, IsListed}
use Rattle.subj.specs.declared.keys.Key.{Key}
use Rattle.sub_table.specs.declared.Subscription.{Subscription}
use Rattle.subj.specs.declared.keys.Delta.{Delta}
use Rattle.interest.specs.Counts.{count_of}
use Rattle.interest.specs.Laws.{times}
use Rattle.interest.specs.Told.{is_opening, is_closing}
use Rattle.hub_core.specs.declared.faults.HubFault.TheVariants.{BadInterest}
use Rattle.node_law.specs.declared.faults.NodeFault.TheVariants.{Hub}
use Rattle.node_law.specs.State.{ShardWithJobs, Node}
use Rattle.node_law.specs.Events.{Own, Collect}
use Rattle.node_law.specs.Steps.{node_refusal}
use Rattle.node_law.specs.Runs.{Done, Ran}

abbrev pub keys_of : List Subscription → List Key
keys_of subs = map (λ sub. sub.key) subs

-- the keys of all open subscriptions, of one each
abbrev pub open_keys : List ShardWithJobs → List Key
open_keys lines = flat_map (λ line. keys_of line.shard.subs) lines

-- what the shards have still to tell
abbrev pub pending : List ShardWithJobs → List Delta
pending lines = flat_map (λ line. line.shard.deltas) lines

-- Of each key the hub's count and the openings that it was not told of are together the open
-- subscriptions and the closings that it was not told of. And no shard has deltas that a Collect
-- refuses.
pub record CountsAreOpen (server : ServerIdentity) (a : Node) : Type 0 where
  pub counts : (key : Key)
      → count_of a.hub.counts key + count_by (is_opening key) (pending a.lines)
      ≡ times key (open_keys a.lines) + count_by (is_closing key) (pending a.lines)
  pub taken : (shard : ℕ) → node_refusal server a (Own (Collect shard)) ≢ Some (Hub BadInterest)

-- of every run of a server from its start
abbrev pub CountsStayOpen : Type 0
CountsStayOpen =
    (server : ServerIdentity) (h : List Done) (a : Node)
    → IsListed server
    → Ran server h a
    → CountsAreOpen server a
