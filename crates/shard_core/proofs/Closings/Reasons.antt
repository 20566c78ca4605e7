-- Each event of a shard: which subscriptions go on, which close, and why.
use Rattle.std.proofs.Common.{◌≡◌, ◌≢◌, ◌⊎◌, ℕ, ◌+◌, ◌&&◌, Bool, true, false, true≢false, cond, not, nat_eq, List, [], ◌∷◌, ◌++◌, Option, Some, None, refl, sym, ap, ◌∙◌, subst, inl, inr, ⊎_elim}
use Rattle.std.specs.Prelude.{filter, ◌↔◌}
use Rattle.std.specs.List.{list_any}
use Rattle.std.specs.Option.{option_or}
use Rattle.list_laws.specs.Lists.{In, Pairs}
use Rattle.list_laws.proofs.Lists.{in_append, in_left, in_map, pairs_map, pairs_weaker}
use Rattle.list_laws.proofs.Changes.{in_filter, filter_in, in_mapped, map_append}
use Rattle.list_laws.proofs.Tests.{not_true, has_in, in_has}
use Rattle.client_frames.specs.Frames.{reply_line}
use Rattle.sub_table.specs.Subscriptions.{is_of, serial_of}
use Rattle.sub_table.specs.declared.Subscription.{Subscription}
use Rattle.subj.specs.declared.identities.SubId.{SubId}
use Rattle.subj.specs.declared.jobs.Job.{Job}
use Rattle.subj.specs.declared.keys.Key.{Key}
use Rattle.shard_core.specs.Shards.{State}
use Rattle.shard_core.specs.Closings.{id_of, serials_of, is_left, left_of, ended_ids}
use Rattle.shard_core.specs.Owed.{whole_walk, first_step, walk_with_entry, owed_entry, reaches, candidate_of, after_claim}
use Rattle.shard_core.specs.Opened.{AreRising, AreApart}
use Rattle.shard_core.specs.ShardEvents.{Event, Attach, Subscribe, Unsubscribe, Reply, SetHeaders, Shut, Detach, Take, Begin, Claim, End, DropJob, Drain, Collect}
use Rattle.shard_core.specs.ShardSteps.{sub_called, new_sub, after_subscribe, subscribe_answer, ended_now, answer_fits, done_with, ended_by_unsubscribe, claim_answer, shard_after, shard_answer, ended_of}
use Rattle.shard_core.specs.AsLaw.{given_by, given_by_claim, is_open_serial}
use Rattle.shard_core.specs.Causes.{AreHeld, sub_after, IsOpening, SubsGoOn, Closes, ClosingsAreTold}
use Rattle.shard_core.proofs.Closings.Closed.{serials_left}
use Rattle.shard_core.proofs.Closings.Ended.{ended_apart, given_apart}
use Rattle.shard_core.proofs.Closings.Serials.{apart_among}
use Rattle.shard_core.proofs.Clients.Outboxes.{gone}
use Rattle.shard_core.proofs.Closings.Causes.{first_told, give_told, walked_told, candidate_open, ended_by_claim, serials_ended, none_left, same_on, closing, quiet, all_left, giving, unsubscribes, Becomes}

-- ---- each event

pub record Opens (s : State) (e : Event) : Type 0 where
  pub conn : ℕ
  pub key : Key
  pub sid : List ℕ
  pub is : e ≡ Subscribe conn key sid
  pub none : sub_called conn sid s.subs ≡ None

done_subs : (s : State) (o : Option Job) → (done_with s o).subs ≡ s.subs
done_subs s None = refl
done_subs s (Some job) = refl

claims : (s : State) (index : ℕ) (won : Bool)
    → AreRising s.subs
    → (hand : Option Job) (o : Option Subscription) (b : Bool)
    → s.hand ≡ hand
    → candidate_of s hand index ≡ o
    → won ≡ b
    → Becomes s (Claim index won)
claims s index won rising hand o b at is w =
    go hand o b at is (λ (e : s.hand ≡ hand). ap (λ h. candidate_of s h index) e ∙ is) w
  where
    given_is : (h : Option Job) (u : Option Subscription) (c : Bool)
        → s.hand ≡ h
        → candidate_of s s.hand index ≡ u
        → won ≡ c
        → given_by s (Claim index won) ≡ given_by_claim h u c
    given_is h u c e f g = λ i. given_by_claim (e i) (f i) (g i)

    ended_is : (h : Option Job) (u : Option Subscription) (c : Bool)
        → s.hand ≡ h
        → candidate_of s s.hand index ≡ u
        → won ≡ c
        → serials_ended s (Claim index won) ≡ ended_by_claim h u c
    ended_is h u c e f g = λ i. ended_by_claim (e i) (f i) (g i)

    subs_is : (h : Option Job) (u : Option Subscription) (c : Bool)
        → s.hand ≡ h
        → candidate_of s s.hand index ≡ u
        → won ≡ c
        → (shard_after s (Claim index won)).subs ≡ (after_claim s h u c).subs
    subs_is h u c e f g = λ i. (after_claim s (e i) (f i) (g i)).subs

    go : (h : Option Job) (u : Option Subscription) (c : Bool)
        → s.hand ≡ h
        → candidate_of s h index ≡ u
        → (s.hand ≡ h → candidate_of s s.hand index ≡ u)
        → won ≡ c
        → Becomes s (Claim index won)
    go None u c e f g x =
        quiet s (Claim index won) (subs_is None u c e (g e) x) (ended_is None u c e (g e) x)
        (given_is None u c e (g e) x) (λ v i. refl)
    go (Some job) None c e f g x =
        quiet s (Claim index won) (subs_is (Some job) None c e (g e) x) (ended_is (Some job) None c e (g e) x)
        (given_is (Some job) None c e (g e) x) (λ v i. refl)
    go (Some job) (Some u) false e f g x =
        quiet s (Claim index won) (subs_is (Some job) (Some u) false e (g e) x)
        (ended_is (Some job) (Some u) false e (g e) x) (given_is (Some job) (Some u) false e (g e) x) (λ v i. refl)
    go (Some job) (Some u) true e f g x =
        giving s (Claim index won)
        (walk_with_entry (owed_entry s.shard s.clients job u.key.queue u) u (first_step s.clients))
        (subs_is (Some job) (Some u) true e (g e) x) (ended_is (Some job) (Some u) true e (g e) x)
        (given_is (Some job) (Some u) true e (g e) x) (λ v. refl) ((λ k i. absurd i), tt)
        (give_told s (owed_entry s.shard s.clients job u.key.queue u) u (first_step s.clients) rising
        (candidate_open s (Some job) index u f) (first_told s))

either_subs : (s x y : State) (ended : List ℕ)
    → x.subs ≡ s.subs
    → y.subs ≡ filter (is_left ended) s.subs
    → (b : Bool)
    → (cond b x y).subs ≡ filter (is_left (cond b [] ended)) s.subs
either_subs s x y ended e f true = e ∙ none_left s.subs
either_subs s x y ended e f false = f

pub becomes : (s : State) (e : Event) → AreHeld s → Becomes s e ⊎ Opens s e
becomes s Attach held = inl (quiet s Attach refl refl refl (λ u i. refl))
becomes s (Subscribe conn key sid) held = go (sub_called conn sid s.subs) refl
  where
    go : (o : Option Subscription)
        → sub_called conn sid s.subs ≡ o
        → Becomes s (Subscribe conn key sid) ⊎ Opens s (Subscribe conn key sid)
    go None is = inr (record { conn = conn; key = key; sid = sid; is = refl; none = is })
    go (Some u) is =
        inl (quiet s (Subscribe conn key sid) (ap (λ o. (after_subscribe s (new_sub s conn key sid) o).subs) is) refl
        refl (λ v i. refl))
becomes s (Unsubscribe conn sid max) held = inl (unsubscribes s held conn sid max (sub_called conn sid s.subs) refl)
becomes s (Reply conn frame) held =
    inl (closing s (Reply conn frame)
    (either_subs s _ _ (left_of conn [] s.subs) refl refl (answer_fits s conn (reply_line frame)))
    (either_some (answer_fits s conn (reply_line frame))) refl (λ u i l. refl))
  where
    either_some : (c : Bool) (k : ℕ) → In k (cond c [] (left_of conn [] s.subs)) → In k (serials_of s.subs)
    either_some true k i = absurd i
    either_some false k i = all_left conn s.subs k i
becomes s (SetHeaders conn on) held = inl (quiet s (SetHeaders conn on) refl refl refl (λ u i. refl))
becomes s (Shut conn text) held = inl (closing s (Shut conn text) refl (all_left conn s.subs) refl (λ u i l. refl))
becomes s (Detach conn) held = inl (closing s (Detach conn) refl (all_left conn s.subs) refl (λ u i l. refl))
becomes s (Take conn count) held = inl (quiet s (Take conn count) refl refl refl (λ u i. refl))
becomes s (Begin job) held =
    inl (giving s (Begin job) (whole_walk s job) refl refl refl (λ u. refl) (given_apart s job held.rising)
    (walked_told s job held.rising))
becomes s (Claim index won) held =
    inl (claims s index won held.rising s.hand (candidate_of s s.hand index) won refl refl refl)
becomes s End held = inl (quiet s End (done_subs s s.hand) refl refl (λ u i. refl))
becomes s (DropJob waiting) held =
    inl (quiet s (DropJob waiting) (done_subs s (option_or s.hand waiting)) refl refl (λ u i. refl))
becomes s Drain held = inl (quiet s Drain refl refl refl (λ u i. refl))
becomes s Collect held = inl (quiet s Collect refl refl refl (λ u i. refl))

-- ---- what goes on

pub subs_go_on : SubsGoOn
subs_go_on s e held cause new i =
    ⊎_elim (λ (b : Becomes s e). inl (b.olds new (subst (In new) b.after i))) (λ (o : Opens s e). opened o)
    (becomes s e held)
  where
    opened : Opens s e → ((old : Subscription) × In old s.subs × (new ≡ sub_after s e old)) ⊎ IsOpening s e new
    opened o =
        subst (λ x. ((old : Subscription) × In old s.subs × (new ≡ sub_after s x old)) ⊎ IsOpening s x new) (sym o.is)
        (⊎_elim (λ j. inl (new, j, same_on s (Subscribe o.conn o.key o.sid) new refl refl))
        (λ j. ⊎_elim (λ f. inr f) (λ f. absurd f) j)
        (in_append new s.subs (new_sub s o.conn o.key o.sid ∷ [])
        (subst (In new)
        (ap (λ x. (shard_after s x).subs) o.is
        ∙ ap (λ u. (after_subscribe s (new_sub s o.conn o.key o.sid) u).subs) o.none)
        i)))

-- ---- what closes

none_ended : (s : State) (e : Event) → Opens s e → serials_ended s e ≡ []
none_ended s e o = ap (serials_ended s) o.is

pub opened_subs : (s : State) (e : Event)
    → (o : Opens s e)
    → (shard_after s e).subs ≡ s.subs ++ new_sub s o.conn o.key o.sid ∷ []
opened_subs s e o =
    ap (λ x. (shard_after s x).subs) o.is ∙ ap (λ u. (after_subscribe s (new_sub s o.conn o.key o.sid) u).subs) o.none

pub closes_is : (s : State) (e : Event) → AreHeld s → (k : ℕ) → Closes s (shard_after s e) k ↔ In k (serials_ended s e)
closes_is s e held k = ⊎_elim kept opened (becomes s e held)
  where
    kept : Becomes s e → Closes s (shard_after s e) k ↔ In k (serials_ended s e)
    kept b = (
      λ c. go c (list_any (nat_eq k) (serials_ended s e)) refl,
      λ i. (in_has k (serials_of s.subs) (b.some k i), gone i (is_open_serial k (shard_after s e).subs) refl),
    )
      where
        left : serials_of (shard_after s e).subs
            ≡ filter (λ j. not (list_any (nat_eq j) (serials_ended s e))) (serials_of s.subs)
        left =
            ap serials_of b.after
            ∙ serials_left (serials_ended s e) b.us
            ∙ ap (filter (λ j. not (list_any (nat_eq j) (serials_ended s e)))) b.same

        go : Closes s (shard_after s e) k
            → (c : Bool)
            → list_any (nat_eq k) (serials_ended s e) ≡ c
            → In k (serials_ended s e)
        go c true f = has_in k (serials_ended s e) f
        go c false f =
            absurd (true≢false (sym (in_has k (serials_of (shard_after s e).subs)
            (subst (In k) (sym left)
            (filter_in (λ j. not (list_any (nat_eq j) (serials_ended s e))) (serials_of s.subs) k
            (has_in k (serials_of s.subs) c.0) (ap not f)))) ∙ c.1))

        gone : In k (serials_ended s e) → (c : Bool) → is_open_serial k (shard_after s e).subs ≡ c → c ≡ false
        gone i false f = refl
        gone i true f =
            absurd (true≢false (sym (in_has k (serials_ended s e) i)
            ∙ not_true (list_any (nat_eq k) (serials_ended s e))
            (in_filter (λ j. not (list_any (nat_eq j) (serials_ended s e))) (serials_of s.subs) k
            (subst (In k) left (has_in k (serials_of (shard_after s e).subs) f))).1))

    opened : Opens s e → Closes s (shard_after s e) k ↔ In k (serials_ended s e)
    opened o = (λ c. absurd (true≢false (sym (still c.0) ∙ c.1)), λ i. absurd (subst (In k) (none_ended s e o) i))
      where
        still : is_open_serial k s.subs ≡ true → is_open_serial k (shard_after s e).subs ≡ true
        still is =
            in_has k (serials_of (shard_after s e).subs)
            (subst (In k)
            (sym (ap serials_of (opened_subs s e o) ∙ map_append serial_of s.subs (new_sub s o.conn o.key o.sid ∷ [])))
            (in_left k (serials_of s.subs) ((s.opened + 1) ∷ []) (has_in k (serials_of s.subs) is)))

told_is : (s : State) (e : Event) → ended_of (shard_answer s e) ≡ ended_ids s.shard (serials_ended s e)
told_is s Attach = refl
told_is s (Subscribe conn key sid) = go (sub_called conn sid s.subs)
  where
    go : (o : Option Subscription) → ended_of (subscribe_answer s o) ≡ []
    go None = refl
    go (Some u) = refl
told_is s (Unsubscribe conn sid max) = refl
told_is s (Reply conn frame) = refl
told_is s (SetHeaders conn on) = refl
told_is s (Shut conn text) = refl
told_is s (Detach conn) = refl
told_is s (Take conn count) = refl
told_is s (Begin job) = refl
told_is s (Claim index won) = go s.hand (candidate_of s s.hand index) won
  where
    go : (hand : Option Job) (o : Option Subscription) (b : Bool)
        → ended_of (claim_answer s hand o b) ≡ ended_ids s.shard (ended_by_claim hand o b)
    go None o b = refl
    go (Some job) None b = refl
    go (Some job) (Some u) true = refl
    go (Some job) (Some u) false = refl
told_is s End = refl
told_is s (DropJob waiting) = refl
told_is s Drain = refl
told_is s Collect = refl

ended_once : (s : State) (e : Event) → AreRising s.subs → AreApart (serials_ended s e)
ended_once s Attach rising = tt
ended_once s (Subscribe conn key sid) rising = tt
ended_once s (Unsubscribe conn sid max) rising = go (sub_called conn sid s.subs)
  where
    by : (b : Bool) (k : ℕ) → AreApart (cond b (k ∷ []) [])
    by true k = ((λ j i. absurd i), tt)
    by false k = tt

    go : (o : Option Subscription) → AreApart (ended_by_unsubscribe max o)
    go None = tt
    go (Some u) = by (ended_now max u) u.serial
ended_once s (Reply conn frame) rising = go (answer_fits s conn (reply_line frame))
  where
    go : (b : Bool) → AreApart (cond b [] (left_of conn [] s.subs))
    go true = tt
    go false = apart_among (λ (sub : Subscription). is_of conn sub && is_left [] sub) s.subs rising
ended_once s (SetHeaders conn on) rising = tt
ended_once s (Shut conn text) rising =
    apart_among (λ (sub : Subscription). is_of conn sub && is_left [] sub) s.subs rising
ended_once s (Detach conn) rising = apart_among (λ (sub : Subscription). is_of conn sub && is_left [] sub) s.subs rising
ended_once s (Take conn count) rising = tt
ended_once s (Begin job) rising = ended_apart s job rising
ended_once s (Claim index won) rising = go s.hand (candidate_of s s.hand index) won
  where
    by : (b : Bool) (k : ℕ) → AreApart (cond b (k ∷ []) [])
    by true k = ((λ j i. absurd i), tt)
    by false k = tt

    go : (hand : Option Job) (o : Option Subscription) (b : Bool) → AreApart (ended_by_claim hand o b)
    go None o b = tt
    go (Some job) None b = tt
    go (Some job) (Some u) true = by (reaches u.max (u.delivered + 1)) u.serial
    go (Some job) (Some u) false = tt
ended_once s End rising = tt
ended_once s (DropJob waiting) rising = tt
ended_once s Drain rising = tt
ended_once s Collect rising = tt

pub closings_are_told : ClosingsAreTold
closings_are_told s e held cause = record {
  told = λ x. (to x, back x);
  once =
      subst (Pairs (λ x y. x ≢ y)) (sym (told_is s e))
      (pairs_map (λ x y. x ≢ y) (id_of s.shard) (serials_ended s e)
      (pairs_weaker (λ j k. j ≢ k) (λ j k. id_of s.shard j ≢ id_of s.shard k) (serials_ended s e)
      (λ j k i l apart same. apart (ap (λ (x : SubId). x.serial) same)) (ended_once s e held.rising)));
}
  where
    to : (x : SubId) → In x (ended_of (shard_answer s e)) → (x.shard ≡ s.shard) × Closes s (shard_after s e) x.serial
    to x i =
        let m = in_map (id_of s.shard) (serials_ended s e) x (subst (In x) (told_is s e) i) in (
          ap (λ (y : SubId). y.shard) m.2,
          (closes_is s e held x.serial).1
              (subst (λ k. In k (serials_ended s e)) (sym (ap (λ (y : SubId). y.serial) m.2)) m.1),
        )

    back : (x : SubId) → (x.shard ≡ s.shard) × Closes s (shard_after s e) x.serial → In x (ended_of (shard_answer s e))
    back x c =
        subst (In x) (sym (told_is s e))
        (subst (λ y. In y (ended_ids s.shard (serials_ended s e)))
        (λ i. record { shard = sym c.0 i; serial = x.serial })
        (in_mapped (id_of s.shard) (serials_ended s e) x.serial ((closes_is s e held x.serial).0 c.1)))
