-- The deltas that shards hand to the hub.
use Rattle.std.specs.Prelude.{◌≡◌, ℕ, ◌+◌, Bool, true, false, ◌&&◌, List, [], ◌∷◌, cond, nat_eq, flat_map, slice_get, Some}
use Rattle.subj.specs.declared.keys.Delta.{Delta}
use Rattle.node_threads.specs.declared.shard_entries.ShardEntry.{ShardEntry}
use Rattle.node_threads.specs.declared.shard_entries.ShardEvent.{ShardEvent}
use Rattle.node_threads.specs.declared.shard_entries.ShardEvent.TheVariants as shard
use Rattle.thread_node.specs.declared.hub_entries.HubEntry.{HubEntry}
use Rattle.thread_node.specs.declared.hub_entries.HubEvent.{HubEvent}
use Rattle.thread_node.specs.declared.hub_entries.HubEvent.TheVariants as hub
use Rattle.thread_node.specs.declared.hub_entries.HubTold.{HubTold}
use Rattle.thread_node.specs.declared.hub_entries.HubTold.TheVariants as told

-- a collect was not refused
abbrev pub is_collected : HubTold → Bool
is_collected (told.Issued turn frames) = false
is_collected (told.Routed turn) = false
is_collected (told.Heard mark) = false
is_collected (told.Collected changes cut) = true
is_collected (told.Taken frames) = false
is_collected (told.Dialed session) = false
is_collected (told.Accepted session info) = false
is_collected (told.KeptAfterInfo instead_of connect) = false
is_collected (told.Kept instead_of) = false
is_collected (told.WasCut peer) = false
is_collected (told.Refused why) = false

-- those of the shard of this number
abbrev pub heard_in : ℕ → HubEvent → HubTold → List (List Delta)
heard_in number (hub.Publish conn publication word finished) told = []
heard_in number (hub.Receive frame finished) told = []
heard_in number (hub.Collect of deltas) told =
    cond (nat_eq of number && is_collected told) (deltas ∷ []) []
heard_in number hub.Drain told = []
heard_in number (hub.TakeFrames peer count) told = []
heard_in number (hub.Dial peer) told = []
heard_in number hub.Accept told = []
heard_in number (hub.Info session info) told = []
heard_in number (hub.Connect session connect) told = []
heard_in number (hub.Cut session) told = []

abbrev pub deltas_heard : ℕ → List HubEntry → List (List Delta)
deltas_heard number tape = flat_map (λ entry. heard_in number entry.event entry.told) tape

abbrev pub given_in : ShardEvent → List (List Delta)
given_in shard.Attach = []
given_in (shard.Subscribe conn key sid) = []
given_in (shard.Unsubscribe conn sid max) = []
given_in (shard.Reply conn frame) = []
given_in (shard.SetHeaders conn on) = []
given_in (shard.Shut conn text) = []
given_in (shard.Detach conn) = []
given_in (shard.Take conn count) = []
given_in (shard.Begin job placed) = []
given_in (shard.Claim index won placed) = []
given_in shard.End = []
given_in (shard.DropJob job) = []
given_in shard.Drain = []
given_in (shard.Collect deltas) = deltas ∷ []

abbrev pub deltas_given : List ShardEntry → List (List Delta)
deltas_given tape = flat_map (λ entry. given_in entry.event) tape

-- the hub was handed just what each shard gave, the tape of shard 1 standing first
abbrev pub AreHanded : List HubEntry → List (List ShardEntry) → Type 0
AreHanded tape tapes =
    (k : ℕ) (of : List ShardEntry)
    → slice_get tapes k ≡ Some of
    → deltas_heard (k + 1) tape ≡ deltas_given of
