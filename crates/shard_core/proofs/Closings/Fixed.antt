-- What every event leaves of a shard's number and of its counts.
use Rattle.std.proofs.Common.{◌≡◌, ◌⊎◌, ◌+◌, ◌≤◌, Bool, true, false, cond, List, Option, Some, None, refl, inl, inr, arith}
use Rattle.std.specs.Option.{option_or}
use Rattle.client_frames.specs.Frames.{reply_line}
use Rattle.sub_table.specs.declared.Subscription.{Subscription}
use Rattle.subj.specs.declared.jobs.Job.{Job}
use Rattle.shard_core.specs.Shards.{State, Client}
use Rattle.shard_core.specs.Owed.{candidate_of, after_claim}
use Rattle.shard_core.specs.ShardEvents.{Event, Attach, Subscribe, Unsubscribe, Reply, SetHeaders, Shut, Detach, Take, Begin, Claim, End, DropJob, Drain, Collect}
use Rattle.shard_core.specs.ShardSteps.{sub_called, new_sub, after_subscribe, ended_now, after_unsubscribe, answer_fits, done_with, shard_after}

-- the shard's number stays, and numbers go on
pub record Fixed (s t : State) : Type 0 where
  pub shard : t.shard ≡ s.shard
  pub shards : t.shards ≡ s.shards
  pub next : (t.next_conn ≡ s.next_conn) ⊎ (t.next_conn ≡ s.next_conn + s.shards)
  pub opened : s.opened ≤ t.opened

same_fixed : (s : State) (clients : List Client) (subs : List Subscription)
    → Fixed s (record s { clients = clients; subs = subs })
same_fixed s clients subs = record { shard = refl; shards = refl; next = inl refl; opened = omega arith }

either_fixed : (s x y : State) → Fixed s x → Fixed s y → (b : Bool) → Fixed s (cond b x y)
either_fixed s x y f g true = f
either_fixed s x y f g false = g

pub fixed : (s : State) (e : Event) → Fixed s (shard_after s e)
fixed s Attach = record { shard = refl; shards = refl; next = inr refl; opened = omega arith }
fixed s (Subscribe conn key sid) = go (sub_called conn sid s.subs)
  where
    go : (o : Option Subscription) → Fixed s (after_subscribe s (new_sub s conn key sid) o)
    go None = record { shard = refl; shards = refl; next = inl refl; opened = omega arith }
    go (Some u) = same_fixed s s.clients s.subs
fixed s (Unsubscribe conn sid max) = go (sub_called conn sid s.subs)
  where
    go : (o : Option Subscription) → Fixed s (after_unsubscribe s max o)
    go None = same_fixed s s.clients s.subs
    go (Some u) =
        either_fixed s _ _ (record { shard = refl; shards = refl; next = inl refl; opened = omega arith })
        (record { shard = refl; shards = refl; next = inl refl; opened = omega arith }) (ended_now max u)
fixed s (Reply conn frame) =
    either_fixed s _ _ (record { shard = refl; shards = refl; next = inl refl; opened = omega arith })
    (record { shard = refl; shards = refl; next = inl refl; opened = omega arith })
    (answer_fits s conn (reply_line frame))
fixed s (SetHeaders conn on) = record { shard = refl; shards = refl; next = inl refl; opened = omega arith }
fixed s (Shut conn text) = record { shard = refl; shards = refl; next = inl refl; opened = omega arith }
fixed s (Detach conn) = record { shard = refl; shards = refl; next = inl refl; opened = omega arith }
fixed s (Take conn count) = record { shard = refl; shards = refl; next = inl refl; opened = omega arith }
fixed s (Begin job) = record { shard = refl; shards = refl; next = inl refl; opened = omega arith }
fixed s (Claim index won) = go s.hand (candidate_of s s.hand index) won
  where
    go : (hand : Option Job) (o : Option Subscription) (b : Bool) → Fixed s (after_claim s hand o b)
    go None o b = same_fixed s s.clients s.subs
    go (Some job) None b = record { shard = refl; shards = refl; next = inl refl; opened = omega arith }
    go (Some job) (Some u) true = record { shard = refl; shards = refl; next = inl refl; opened = omega arith }
    go (Some job) (Some u) false = record { shard = refl; shards = refl; next = inl refl; opened = omega arith }
fixed s End = go s.hand
  where
    go : (o : Option Job) → Fixed s (done_with s o)
    go None = same_fixed s s.clients s.subs
    go (Some job) = record { shard = refl; shards = refl; next = inl refl; opened = omega arith }
fixed s (DropJob waiting) = go (option_or s.hand waiting)
  where
    go : (o : Option Job) → Fixed s (done_with s o)
    go None = same_fixed s s.clients s.subs
    go (Some job) = record { shard = refl; shards = refl; next = inl refl; opened = omega arith }
fixed s Drain = record { shard = refl; shards = refl; next = inl refl; opened = omega arith }
fixed s Collect = record { shard = refl; shards = refl; next = inl refl; opened = omega arith }
