-- What the code keeps of a walk, and how that follows the walk.
use Rattle.std.specs.Prelude.{◌≡◌, ℕ, ◌&&◌, Bool, List, [], ◌∷◌, ◌++◌, map, None, if◌then◌else◌}
use denote.Ref.{Bor}
use Rattle.sub_table.specs.declared.Subscription.{Subscription}
use Rattle.subj.specs.declared.jobs.Job.{Job}
use Rattle.shard_core.specs.declared.calls.Begun.{Begun}
use Rattle.shard_core.specs.declared.calls.Placed.{Placed}
use Rattle.shard_core.specs.Shards.{State, Client, takes_headers}
use Rattle.shard_core.specs.Answers.{copies_of, IsTold}
use Rattle.shard_core.specs.Boxes.{Clients}
use Rattle.shard_core.specs.Closings.{serials_of, left_of}
use Rattle.shard_core.specs.Opened.{Opened, with_counts, with_closings}
use Rattle.shard_core.specs.Owed.{Walk, whole_walk, walk_after_put, owed_placed, slow_consumer, ended_by, is_plain, is_permitted}
use Rattle.shard_core.specs.Puts.{put_line}

-- the shard that walks, and whether copies of the entries are asked for; those of the messages, the
-- serials of those who were given an entry, the connections that were shut, and the serials of
-- those that closed
pub record Tallied : Type 0 where
  pub shard : ℕ
  pub copies : Bool
  pub put : List Placed
  pub given : List ℕ
  pub shut : List ℕ
  pub ended : List ℕ

abbrev pub none_tallied : ℕ → Bool → Tallied
none_tallied shard copies = record {
  shard = shard;
  copies = copies;
  put = [];
  given = [];
  shut = [];
  ended = [];
}

abbrev pub with_given : Placed → Subscription → Tallied → Tallied
with_given placed sub t = record t {
  put = t.put ++ copies_of t.copies (placed ∷ []);
  given = t.given ++ sub.serial ∷ [];
  ended = t.ended ++ ended_by sub;
}

abbrev pub with_shut : List Subscription → ℕ → Tallied → Tallied
with_shut subs conn t = record t {
  shut = t.shut ++ conn ∷ [];
  ended = t.ended ++ left_of conn t.ended subs;
}

-- what is kept of this walk
abbrev pub tally_of : ℕ → List Client → Bool → Job → Walk → Tallied
tally_of shard clients copies job w = record {
  shard = shard;
  copies = copies;
  put = copies_of copies (map (owed_placed shard clients job None) w.given);
  given = serials_of w.given;
  shut = w.shut;
  ended = w.ended;
}

pub record IsTallied (copies : Bool) (s : State) (job : Job) (w : Walk) (clients : List Client)
    (t : Tallied) : Type 0 where
  pub clients_are : clients ≡ w.clients
  pub tally_is : t ≡ tally_of s.shard s.clients copies job w
  -- the options are those from before the walk
  pub options : (conn : ℕ) → takes_headers conn w.clients ≡ takes_headers conn s.clients

-- behind the messages stand the last lines of the connections that were shut
abbrev pub with_lines : Tallied → Tallied
with_lines t = record t { put = t.put ++ copies_of t.copies (map (put_line slow_consumer) t.shut) }

-- what is kept of the whole walk of a job
pub record IsStaged (copies : Bool) (s : State) (job : Job) (clients : List Client) (t : Tallied) :
    Type 0 where
  pub clients_are : clients ≡ (whole_walk s job).clients
  pub tally_is : t ≡ with_lines (tally_of s.shard s.clients copies job (whole_walk s job))

-- over these open subscriptions the walk goes on by this step
abbrev pub Follows : List Subscription → Job → (State → Walk → Walk) → List Client → Tallied
    → List Client → Tallied → Type 0
Follows subs job step clients t clients' t' =
    (copies : Bool) (s : State) (w : Walk)
    → s.subs ≡ subs
    → IsTallied copies s job w clients t
    → IsTallied copies s job (step s w) clients' t'

-- of those that match, Begin places for the plain ones that may get it
abbrev pub is_placed : Job → Subscription → Bool
is_placed job sub = is_plain sub && is_permitted job sub

-- the walk over what matches, which passes over what is not due
abbrev pub put_if_due : State → Job → Walk → Subscription → Walk
put_if_due s job w sub = if is_placed job sub then walk_after_put s job w sub else w

abbrev pub walk_matching : State → Job → List Subscription → Walk → Walk
walk_matching s job [] w = w
walk_matching s job (sub ∷ subs) w = walk_matching s job subs (put_if_due s job w sub)

-- the subscriptions that a look at the references gives
abbrev pub lent_subs : List (Bor Subscription) → List Subscription
lent_subs subs = map (λ sub. sub.now) subs

-- a shard of these parts placed the job
pub record HasPlaced (copies : Bool) (s : State) (job : Job) (openings : Opened) (begun : Begun)
    (conns' : Clients) (openings' : Opened) : Type 0 where
  pub conns :
      conns' ≡ record { shown = (whole_walk s job).clients; next = (whole_walk s job).clients }
  pub openings_are : openings'
      ≡ with_closings (whole_walk s job).ended
      (with_counts (serials_of (whole_walk s job).given) openings)
  pub told : IsTold copies s job begun
