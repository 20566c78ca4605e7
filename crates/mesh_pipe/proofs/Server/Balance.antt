-- What a shard's subscriptions and deltas come to: each opening leaves two of them, and a closing trades one for the
-- other.
use Rattle.std.proofs.Common.{◌≡◌, ℕ, ◌+◌, ◌*◌, ◌≤◌, Bool, true, false, true≢false, cond, not, nat_le, List, [], ◌∷◌, ◌++◌, map, length, Option, Some, None, refl, sym, ap, ◌∙◌, arith, length-append}
use Rattle.std.proofs.lemmas.List.{length-map}
use Rattle.std.specs.Prelude.{filter, is_some, if◌then◌else◌}
use Rattle.std.specs.Option.{option_or}
use Rattle.list_laws.proofs.Tests.{no_cause, le_false}
use Rattle.subj.specs.declared.jobs.Job.{Job}
use Rattle.subj.specs.declared.limits.TheConstants.{MAX_SERIAL}
use Rattle.client_frames.specs.Frames.{reply_line}
use Rattle.outbox.specs.Views.{with_entry, with_last, reply_entry}
use Rattle.sub_table.specs.Subscriptions.{with_max}
use Rattle.sub_table.specs.declared.Subscription.{Subscription}
use Rattle.shard_core.specs.Closings.{serials_of, is_left, left_of, closing, closings_of, without_subs}
use Rattle.shard_core.specs.Owed.{Walk, whole_walk, walk_with_entry, owed_entry, first_step, slow_consumer, after_walk, sub_with_count, candidate_of, after_claim, after_try, reaches}
use Rattle.shard_core.specs.ShardEvents.{Event, Attach, Subscribe, Unsubscribe, Reply, SetHeaders, Shut, Detach, Take, Begin, Claim, End, DropJob, Drain, Collect}
use Rattle.shard_core.specs.ShardSteps.{sub_called, is_full, new_sub, after_subscribe, ended_now, after_unsubscribe, answer_fits, done_with, shard_refusal, shard_after}
use Rattle.shard_core.specs.Shards.{State, is_open, clients_with_change}
use Rattle.shard_core.specs.declared.faults.ShardFault.TheVariants.{NoConn, Draining, TooManySubs, Spent}
use Rattle.node_law.specs.CountsOpen.{keys_of}
use Rattle.node_law.proofs.Interest.Replays.{Distinct, picked, picked_closings, split_all, total, left_distinct, walked_distinct}
use Rattle.node_law.proofs.Interest.CountsOpen.{counted_keys, max_keys, size_of_keys, one_distinct, is_collect}

abbrev pub weight : State → ℕ
weight t = length t.deltas + length t.subs

-- nothing but openings adds to it
pub record IsBalanced (old new : State) : Type 0 where
  pub even : weight new + 2 * old.opened ≡ weight old + 2 * new.opened
  pub opened : new.opened ≤ MAX_SERIAL

same_length : (us vs : List Subscription) → keys_of us ≡ keys_of vs → length us ≡ length vs
same_length us vs e = sym (size_of_keys us) ∙ ap (λ ks. total (λ k. 1) ks) e ∙ size_of_keys vs

ended_weight : (s : State) (ended : List ℕ) → Distinct ended → weight (without_subs ended s) ≡ weight s
ended_weight s ended apart =
    let split = split_all (λ k. 1) ended apart s.subs in
    let all = size_of_keys s.subs in
    let gone = size_of_keys (picked ended s.subs) in
    let left = size_of_keys (filter (is_left ended) s.subs) in
    let told : length (closings_of ended s.subs) ≡ length (picked ended s.subs) =
    ap length (picked_closings ended s.subs) ∙ length-map (picked ended s.subs) closing in
    let more = length-append s.deltas (closings_of ended s.subs) in
    omega arith

ended_balance : (old s : State) (ended : List ℕ)
    → Distinct ended
    → IsBalanced old s
    → IsBalanced old (without_subs ended s)
ended_balance old s ended apart b =
    let w = ended_weight s ended apart in let even = b.even in record { even = omega arith; opened = b.opened }

same_balance : (old new : State)
    → length new.subs ≡ length old.subs
    → new.deltas ≡ old.deltas
    → new.opened ≡ old.opened
    → old.opened ≤ MAX_SERIAL
    → IsBalanced old new
same_balance old new subs deltas opened few =
    let told = ap length deltas in record { even = omega arith; opened = omega arith }

walk_balance : (s : State) (w : Walk) → Distinct w.ended → s.opened ≤ MAX_SERIAL → IsBalanced s (after_walk s w)
walk_balance s w apart few =
    ended_balance s (record s { clients = w.clients; subs = map (sub_with_count (serials_of w.given)) s.subs }) w.ended
    apart
    (same_balance s (record s { clients = w.clients; subs = map (sub_with_count (serials_of w.given)) s.subs })
    (same_length _ s.subs (counted_keys (serials_of w.given) s.subs)) refl refl few)

from_same : (old mid new : State)
    → mid.subs ≡ old.subs
    → mid.deltas ≡ old.deltas
    → mid.opened ≡ old.opened
    → IsBalanced mid new
    → IsBalanced old new
from_same old mid new subs deltas opened b =
    let s = ap length subs in
    let d = ap length deltas in
    let even = b.even in
    record { even = omega arith; opened = b.opened }

done_balance : (s : State) (job : Option Job) → s.opened ≤ MAX_SERIAL → IsBalanced s (done_with s job)
done_balance s None few = same_balance s s refl refl refl few
done_balance s (Some job) few = same_balance s (done_with s (Some job)) refl refl refl few

pub event_balance : (s : State) (e : Event)
    → Distinct (serials_of s.subs)
    → shard_refusal s e ≡ None
    → is_collect e ≡ false
    → s.opened ≤ MAX_SERIAL
    → IsBalanced s (shard_after s e)
event_balance s Attach apart cause other few = same_balance s (shard_after s Attach) refl refl refl few
event_balance s (Subscribe conn key sid) apart cause other few =
    go (sub_called conn sid s.subs)
    (no_cause s.draining Draining _ (no_cause (not (is_open conn s.clients)) NoConn _ cause).1).1
  where
    go : (o : Option Subscription)
        → (if is_some o then None
        else (if is_full s key then Some TooManySubs else (if nat_le MAX_SERIAL s.opened then Some Spent else None)))
        ≡ None
        → IsBalanced s (after_subscribe s (new_sub s conn key sid) o)
    go (Some u) f = same_balance s s refl refl refl few
    go None f =
        let spent = (no_cause (nat_le MAX_SERIAL s.opened) Spent None (no_cause (is_full s key) TooManySubs _ f).1).0 in
        let below = le_false MAX_SERIAL s.opened spent in
        let subs = length-append s.subs (new_sub s conn key sid ∷ []) in
        let deltas = length-append s.deltas (record { key = key; up = true } ∷ []) in
        record { even = omega arith; opened = omega arith }
event_balance s (Unsubscribe conn sid max) apart cause other few = go (sub_called conn sid s.subs)
  where
    by : (u : Subscription) (b : Bool)
        → IsBalanced s (cond b (without_subs (u.serial ∷ []) s) (record s { subs = with_max u.serial max s.subs }))
    by u true = ended_balance s s (u.serial ∷ []) (one_distinct u.serial) (same_balance s s refl refl refl few)
    by u false =
        same_balance s (record s { subs = with_max u.serial max s.subs })
        (same_length _ s.subs (max_keys u.serial max s.subs)) refl refl few

    go : (u : Option Subscription) → IsBalanced s (after_unsubscribe s max u)
    go None = same_balance s s refl refl refl few
    go (Some u) = by u (ended_now max u)
event_balance s (Reply conn frame) apart cause other few = go (answer_fits s conn (reply_line frame))
  where
    go : (b : Bool)
        → IsBalanced s (cond b
        (record s { clients = clients_with_change (with_entry (reply_entry (reply_line frame))) conn s.clients })
        (without_subs (left_of conn [] s.subs)
        (record s { clients = clients_with_change (with_last slow_consumer) conn s.clients })))
    go true =
        same_balance s
        (record s { clients = clients_with_change (with_entry (reply_entry (reply_line frame))) conn s.clients }) refl
        refl refl few
    go false =
        ended_balance s (record s { clients = clients_with_change (with_last slow_consumer) conn s.clients })
        (left_of conn [] s.subs) (left_distinct conn [] s.subs apart)
        (same_balance s (record s { clients = clients_with_change (with_last slow_consumer) conn s.clients }) refl refl
        refl few)
event_balance s (SetHeaders conn on) apart cause other few =
    same_balance s (shard_after s (SetHeaders conn on)) refl refl refl few
event_balance s (Shut conn text) apart cause other few =
    ended_balance s (record s { clients = _ }) (left_of conn [] s.subs) (left_distinct conn [] s.subs apart)
    (same_balance s (record s { clients = _ }) refl refl refl few)
event_balance s (Detach conn) apart cause other few =
    ended_balance s (record s { clients = _ }) (left_of conn [] s.subs) (left_distinct conn [] s.subs apart)
    (same_balance s (record s { clients = _ }) refl refl refl few)
event_balance s (Take conn count) apart cause other few =
    same_balance s (shard_after s (Take conn count)) refl refl refl few
event_balance s (Begin job) apart cause other few =
    from_same s (record s { hand = Some job; next_index = 0 }) (shard_after s (Begin job)) refl refl refl
    (walk_balance (record s { hand = Some job; next_index = 0 }) (whole_walk s job) (walked_distinct s job apart) few)
event_balance s (Claim index won) apart cause other few = go s.hand (candidate_of s s.hand index) won
  where
    ended : (u : Subscription) (b : Bool) → Distinct ([] ++ cond b (u.serial ∷ []) [])
    ended u true = one_distinct u.serial
    ended u false = tt

    go : (hand : Option Job) (u : Option Subscription) (b : Bool) → IsBalanced s (after_claim s hand u b)
    go None u b = same_balance s s refl refl refl few
    go (Some job) None b = same_balance s (after_try s) refl refl refl few
    go (Some job) (Some u) false = same_balance s (after_try s) refl refl refl few
    go (Some job) (Some u) true =
        let w = walk_with_entry (owed_entry s.shard s.clients job u.key.queue u) u (first_step s.clients) in
        from_same s (after_try s) (after_walk (after_try s) w) refl refl refl
        (walk_balance (after_try s) w (ended u (reaches u.max (u.delivered + 1))) few)
event_balance s End apart cause other few = done_balance s s.hand few
event_balance s (DropJob waiting) apart cause other few = done_balance s (option_or s.hand waiting) few
event_balance s Drain apart cause other few = same_balance s (shard_after s Drain) refl refl refl few
event_balance s Collect apart cause other few = absurd (true≢false other)
