-- A shard's part of a node: it holds open subscriptions, and works the jobs of its line one after
-- the other ("Client Protocol", "Queue Groups"; turns and claims: profile). n is the node, inc its
-- incarnation, now the number of this step, s the shard.
use Rattle.std.specs.Prelude.{◌≡◌, ◌≢◌, ◌⊎◌, ℕ, suc, Bool, true, false, cond, nat_eq, List, [], ◌∷◌, ◌++◌, map, length, slice_get, Option, Some, None}
use Rattle.list_laws.specs.Lists.{In, Each, Pairs}
use Rattle.cluster_law.specs.Rules.{Where}
use Rattle.cluster_law.specs.Names.{Bytes, LifeId}
use Rattle.cluster_law.specs.Config.{Config, Rules}
use Rattle.cluster_law.specs.History.{Job, Closing, Placement, Output, nothing}
use Rattle.cluster_law.specs.Race.{Race, Keeps, WinsPair}

-- An open subscription.
pub record Subscription : Type 0 where
  pub serial : ℕ
  pub connection : ℕ
  pub sid : Bytes
  pub pattern : Bytes
  pub queue : Option Bytes

-- The last turn finished, the job in hand and the next index to claim there, the jobs that wait,
-- the last serial given, and the open subscriptions.
pub record Shard : Type 0 where
  pub finished : ℕ
  pub hand : Option Job
  pub next : ℕ
  pub waiting : List Job
  pub serials : ℕ
  pub subscriptions : List Subscription

abbrev pub life_id : ℕ → ℕ → ℕ → ℕ → LifeId
life_id n inc s serial = record { node = n; inc = inc; shard = s; serial = serial }

-- Opening and closing

-- A subscription is opened, with the next serial.
pub record Subscribes (n inc now s : ℕ) (old : Shard) (connection : ℕ) (sid pattern : Bytes)
    (queue : Option Bytes) (out : Output) (new : Shard) : Type 0 where
  pub out_is : out ≡ record nothing {
    lives =
        record {
          id = life_id n inc s (suc old.serials);
          connection = connection;
          sid = sid;
          pattern = pattern;
          queue = queue;
          opened = now;
        } ∷ [];
  }
  pub after : new ≡ record old {
    serials = suc old.serials;
    subscriptions =
        old.subscriptions
        ++ record {
          serial = suc old.serials;
          connection = connection;
          sid = sid;
          pattern = pattern;
          queue = queue;
        } ∷ [];
  }

abbrev pub has : ℕ → List ℕ → Bool
has k [] = false
has k (x ∷ xs) = cond (nat_eq k x) true (has k xs)

-- All but those of these serials.
abbrev pub subs_without : List ℕ → List Subscription → List Subscription
subs_without closed [] = []
subs_without closed (u ∷ us) =
    cond (has u.serial closed) (subs_without closed us) (u ∷ subs_without closed us)

abbrev pub closings_of : ℕ → ℕ → ℕ → ℕ → List ℕ → List Closing
closings_of n inc s now closed =
    map (λ serial. record { life = life_id n inc s serial; step = now }) closed

-- These serials are of open subscriptions, each once.
pub record AreOpen (subscriptions : List Subscription) (closed : List ℕ) : Type 0 where
  pub each_open :
      Each (λ serial. (u : Subscription) × In u subscriptions × (u.serial ≡ serial)) closed
  pub once : Pairs (λ j k. j ≢ k) closed

-- An unsubscribe, a detach or a shut: any open subscriptions close.
pub record Closes (n inc now s : ℕ) (old : Shard) (closed : List ℕ) (out : Output) (new : Shard) :
    Type 0 where
  pub are_open : AreOpen old.subscriptions closed
  pub out_is : out ≡ record nothing { closings = closings_of n inc s now closed }
  pub after : new ≡ record old { subscriptions = subs_without closed old.subscriptions }

-- Working a job

abbrev pub placement : ℕ → ℕ → ℕ → ℕ → Job → Subscription → Placement
placement n inc s now job u = record {
  id = job.id;
  life = life_id n inc s u.serial;
  connection = u.connection;
  sid = u.sid;
  mode = u.queue;
  content = job.content;
  step = now;
}

-- An open plain subscription whose pattern matches.
pub record IsOwedPlain (c : Config) (old : Shard) (job : Job) (u : Subscription) : Type 0 where
  pub is_open : In u old.subscriptions
  pub plain : u.queue ≡ None
  pub matches : c.matches u.pattern job.content.subject ≡ true

-- The job of the next turn is begun: it is placed for plain subscriptions, each once. Some may
-- close: by a maximum, or for want of room.
pub record Begins (rules : Rules) (c : Config) (n inc now s : ℕ) (old : Shard) (out : Output)
    (new : Shard) : Type 0 where
  pub free : old.hand ≡ None
  pub job : Job
  pub rest : List Job
  pub first : old.waiting ≡ job ∷ rest
  pub turn : job.turn ≡ suc old.finished
  pub placed : List Subscription
  pub owed : Each (IsOwedPlain c old job) placed
  pub once : Where rules.once (Pairs (λ u v. u.serial ≢ v.serial) placed)
  pub closed : List ℕ
  pub are_open : AreOpen old.subscriptions closed
  pub out_is : out ≡ record nothing {
    placements = map (placement n inc s now job) placed;
    closings = closings_of n inc s now closed;
  }
  pub after : new ≡ record old {
    hand = Some job;
    next = 0;
    waiting = rest;
    subscriptions = subs_without closed old.subscriptions;
  }

-- A claim that is won: it is placed for one open member of the queue name at the next index, whose
-- pattern matches. Some may close, by a maximum.
pub record Wins (rules : Rules) (c : Config) (n inc now s : ℕ) (race : Race) (old : Shard)
    (out : Output) (new : Shard) (after_race : Race) : Type 0 where
  pub job : Job
  pub in_hand : old.hand ≡ Some job
  pub name : Bytes
  pub name_is : slice_get job.names old.next ≡ Some name
  pub wins : WinsPair rules c.window race job.turn old.next after_race
  pub chosen : Subscription
  pub is_open : Where rules.member (In chosen old.subscriptions)
  pub member : chosen.queue ≡ Some name
  pub matches : c.matches chosen.pattern job.content.subject ≡ true
  pub closed : List ℕ
  pub are_open : AreOpen old.subscriptions closed
  pub out_is : out ≡ record nothing {
    placements = placement n inc s now job chosen ∷ [];
    closings = closings_of n inc s now closed;
  }
  pub after : new
      ≡ record old { next = suc old.next; subscriptions = subs_without closed old.subscriptions }

-- A claim that is lost, or an index that has no candidate here.
pub record Passes (window : ℕ) (race : Race) (old : Shard) (out : Output) (new : Shard)
    (after_race : Race) : Type 0 where
  pub job : Job
  pub in_hand : old.hand ≡ Some job
  pub name : Bytes
  pub name_is : slice_get job.names old.next ≡ Some name
  pub keeps : Keeps window race after_race
  pub out_is : out ≡ nothing
  pub after : new ≡ record old { next = suc old.next }

-- The turn is finished: every index was tried.
pub record Ends (old : Shard) (out : Output) (new : Shard) : Type 0 where
  pub job : Job
  pub in_hand : old.hand ≡ Some job
  pub all_tried : old.next ≡ length job.names
  pub out_is : out ≡ nothing
  pub after : new ≡ record old { finished = suc old.finished; hand = None; next = 0 }

-- The turn of the job in hand is finished without the rest, or else that of the next job without
-- any of it.
pub record Drops (old : Shard) (out : Output) (new : Shard) : Type 0 where
  pub job : Job
  pub rest : List Job
  pub which : ((old.hand ≡ Some job) × (rest ≡ old.waiting))
      ⊎ ((old.hand ≡ None) × (old.waiting ≡ job ∷ rest) × (job.turn ≡ suc old.finished))
  pub out_is : out ≡ nothing
  pub after :
      new ≡ record old { finished = suc old.finished; hand = None; next = 0; waiting = rest }

pub data ShardEvent : Type 0 where
  Subscribe : (connection : ℕ) (sid pattern : Bytes) (queue : Option Bytes) → ShardEvent
  Close : (closed : List ℕ) → ShardEvent
  Begin : ShardEvent
  Claim : ShardEvent
  End : ShardEvent
  Drop : ShardEvent

-- Of the rest of the node a shard sees the race alone, and moves it by a claim alone.
abbrev pub ShardStep : Rules → Config → ℕ → ℕ → ℕ → ℕ → Race → Shard → ShardEvent → Output → Shard
    → Race → Type 0
ShardStep rules c n inc now s race old (Subscribe connection sid pattern queue) out new after_race =
    Subscribes n inc now s old connection sid pattern queue out new × Keeps c.window race after_race
ShardStep rules c n inc now s race old (Close closed) out new after_race =
    Closes n inc now s old closed out new × Keeps c.window race after_race
ShardStep rules c n inc now s race old Begin out new after_race =
    Begins rules c n inc now s old out new × Keeps c.window race after_race
ShardStep rules c n inc now s race old Claim out new after_race =
    Wins rules c n inc now s race old out new after_race
    ⊎ Passes c.window race old out new after_race
ShardStep rules c n inc now s race old End out new after_race =
    Ends old out new × Keeps c.window race after_race
ShardStep rules c n inc now s race old Drop out new after_race =
    Drops old out new × Keeps c.window race after_race
