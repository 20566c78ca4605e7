-- What an event of a shard keeps, and that what it opens is open after it.
use Rattle.std.proofs.Common.{◌≡◌, ℕ, ◌+◌, Bool, true, false, cond, [], ◌∷◌, Option, Some, None, refl, sym, subst, inl, ⊎_elim}
use Rattle.std.specs.Option.{option_or}
use Rattle.list_laws.specs.Lists.{In, Each}
use Rattle.list_laws.proofs.Lists.{in_right}
use Rattle.list_laws.proofs.Tests.{in_has}
use Rattle.list_laws.proofs.Changes.{map_append}
use Rattle.cluster_law.specs.History as history
use Rattle.sub_table.specs.Subscriptions.{serial_of}
use Rattle.sub_table.specs.declared.Subscription.{Subscription}
use Rattle.subj.specs.declared.jobs.Job.{Job}
use Rattle.shard_core.specs.Shards.{State}
use Rattle.shard_core.specs.Closings.{serials_of}
use Rattle.shard_core.specs.Owed.{candidate_of, after_claim, after_put, after_try}
use Rattle.shard_core.specs.ShardEvents.{Event, Attach, Subscribe, Unsubscribe, Reply, Shut, SetHeaders, Detach, Take, Begin, Claim, End, DropJob, Drain, Collect}
use Rattle.shard_core.specs.ShardSteps.{sub_called, new_sub, after_subscribe, ended_now, after_unsubscribe, answer_fits, done_with, shard_after}
use Rattle.shard_core.specs.AsLaw.{is_open_serial, opened_by, lives_by}

pub record Same (s after : State) : Type 0 where
  pub shard : after.shard ≡ s.shard
  pub shards : after.shards ≡ s.shards

either : (s x y : State) (b : Bool) → Same s x → Same s y → Same s (cond b x y)
either s x y true f g = f
either s x y false f g = g

pub keeps_number : (s : State) (e : Event) → Same s (shard_after s e)
keeps_number s Attach = record { shard = refl; shards = refl }
keeps_number s (Subscribe conn key sid) = go (sub_called conn sid s.subs)
  where
    go : (u : Option Subscription) → Same s (after_subscribe s (new_sub s conn key sid) u)
    go None = record { shard = refl; shards = refl }
    go (Some u) = record { shard = refl; shards = refl }
keeps_number s (Unsubscribe conn sid max) = go (sub_called conn sid s.subs)
  where
    go : (u : Option Subscription) → Same s (after_unsubscribe s max u)
    go None = record { shard = refl; shards = refl }
    go (Some u) =
        either s _ _ (ended_now max u) (record { shard = refl; shards = refl }) (record { shard = refl; shards = refl })
keeps_number s (Reply conn frame) =
    either s _ _ (answer_fits s conn _) (record { shard = refl; shards = refl })
    (record { shard = refl; shards = refl })
keeps_number s (Shut conn text) = record { shard = refl; shards = refl }
keeps_number s (Detach conn) = record { shard = refl; shards = refl }
keeps_number s (SetHeaders conn on) = record { shard = refl; shards = refl }
keeps_number s (Take conn count) = record { shard = refl; shards = refl }
keeps_number s (Begin job) = record { shard = refl; shards = refl }
keeps_number s (Claim index won) = go s.hand (candidate_of s s.hand index)
  where
    go : (hand : Option Job) (u : Option Subscription) → Same s (after_claim s hand u won)
    go None u = record { shard = refl; shards = refl }
    go (Some job) None = record { shard = refl; shards = refl }
    go (Some job) (Some u) =
        either s (after_put (after_try s) job u) (after_try s) won (record { shard = refl; shards = refl })
        (record { shard = refl; shards = refl })
keeps_number s End = go s.hand
  where
    go : (hand : Option Job) → Same s (done_with s hand)
    go None = record { shard = refl; shards = refl }
    go (Some job) = record { shard = refl; shards = refl }
keeps_number s (DropJob waiting) = go (option_or s.hand waiting)
  where
    go : (hand : Option Job) → Same s (done_with s hand)
    go None = record { shard = refl; shards = refl }
    go (Some job) = record { shard = refl; shards = refl }
keeps_number s Drain = record { shard = refl; shards = refl }
keeps_number s Collect = record { shard = refl; shards = refl }

-- a life of this shard that is open
pub record OpenHere (n inc place : ℕ) (after : State) (life : history.Life) : Type 0 where
  pub node : life.id.node ≡ n
  pub inc_is : life.id.inc ≡ inc
  pub shard : life.id.shard ≡ place
  pub is_open : is_open_serial life.id.serial after.subs ≡ true

pub lives_open : (n inc now place : ℕ) (s : State) (e : Event)
    → Each (OpenHere n inc place (shard_after s e)) (lives_by n inc now place s e)
lives_open n inc now place s Attach = λ life i. absurd i
lives_open n inc now place s (Subscribe conn key sid) = go (sub_called conn sid s.subs)
  where
    go : (u : Option Subscription)
        → Each (OpenHere n inc place (after_subscribe s (new_sub s conn key sid) u))
        (opened_by n inc now place s conn key sid u)
    go (Some u) life i = absurd i
    go None life i =
        ⊎_elim (λ e.
        subst (OpenHere n inc place (after_subscribe s (new_sub s conn key sid) None)) (sym e) (record {
          node = refl;
          inc_is = refl;
          shard = refl;
          is_open =
              in_has (s.opened + 1) _
              (subst (In (s.opened + 1)) (sym (map_append serial_of s.subs (new_sub s conn key sid ∷ [])))
              (in_right (s.opened + 1) (serials_of s.subs) ((s.opened + 1) ∷ []) (inl refl)));
        }))
        (λ f. absurd f) i
lives_open n inc now place s (Unsubscribe conn sid max) = λ life i. absurd i
lives_open n inc now place s (Reply conn frame) = λ life i. absurd i
lives_open n inc now place s (Shut conn text) = λ life i. absurd i
lives_open n inc now place s (Detach conn) = λ life i. absurd i
lives_open n inc now place s (SetHeaders conn on) = λ life i. absurd i
lives_open n inc now place s (Take conn count) = λ life i. absurd i
lives_open n inc now place s (Begin job) = λ life i. absurd i
lives_open n inc now place s (Claim index won) = λ life i. absurd i
lives_open n inc now place s End = λ life i. absurd i
lives_open n inc now place s (DropJob waiting) = λ life i. absurd i
lives_open n inc now place s Drain = λ life i. absurd i
lives_open n inc now place s Collect = λ life i. absurd i
