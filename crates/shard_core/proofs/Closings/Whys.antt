-- Why each subscription closes, and what every shard keeps of those that are open.
use Rattle.std.proofs.Common.{◌≡◌, ◌≢◌, ◌⊎◌, ℕ, ◌+◌, ◌<◌, ◌≤◌, Bool, true, false, true≢false, cond, not, nat_eq, nat_le, List, [], ◌∷◌, ◌++◌, length, Option, Some, None, Result, Ok, Err, refl, sym, ap, ◌∙◌, subst, inl, inr, ⊎_elim, arith}
use Rattle.std.specs.Prelude.{filter, ◌↔◌}
use Rattle.std.specs.List.{list_any}
use Rattle.std.proofs.lemmas.Option.{none-some}
use Rattle.list_laws.specs.Lists.{In, Pairs}
use Rattle.list_laws.proofs.Lists.{in_append, in_map, pairs_append, pairs_weaker}
use Rattle.list_laws.proofs.Changes.{in_mapped, map_append, pairs_filter}
use Rattle.list_laws.proofs.Tests.{eq_true, eq_false, le_true, le_false, has_in, in_has, no_cause}
use Rattle.client_frames.specs.ErrTexts.{err_line}
use Rattle.client_frames.specs.Frames.{reply_line}
use Rattle.outbox.specs.Views.{reply_entry}
use Rattle.sub_table.specs.Subscriptions.{is_called, has_serial, serial_of}
use Rattle.sub_table.specs.declared.Subscription.{Subscription}
use Rattle.subj.specs.declared.jobs.Job.{Job}
use Rattle.shard_core.specs.declared.faults.ShardFault.{ShardFault}
use Rattle.shard_core.specs.declared.faults.ShardFault.TheVariants as fault
use Rattle.shard_core.specs.Shards.{State, takes_events, is_open, clients_with_change}
use Rattle.shard_core.specs.Closings.{serials_of, left_of}
use Rattle.shard_core.specs.Owed.{Walk, whole_walk, first_step, walk_with_entry, slow_consumer, owed_entry, candidate_of, after_claim}
use Rattle.shard_core.specs.Opened.{AreRising, AreApart}
use Rattle.shard_core.specs.ShardEvents.{Event, Attach, Subscribe, Unsubscribe, Reply, SetHeaders, Shut, Detach, Take, Begin, Claim, End, DropJob, Drain, Collect, Answer}
use Rattle.shard_core.specs.ShardSteps.{sub_called, new_sub, after_subscribe, ended_now, answer_fits, was_shut, ended_by_unsubscribe, shard_refusal, shard_after, shut_by, IsStep}
use Rattle.shard_core.specs.AsLaw.{given_by, given_by_claim}
use Rattle.shard_core.specs.Causes.{AreHeld, SubsStayHeld, given_to, max_after, sub_after, IsOpening, Leaves, IsSpent, HasEnough, IsUnsubscribed, HasCause, ClosesByCause, IsDetached}
use Rattle.shard_core.proofs.Closings.Closed.{serials_left}
use Rattle.shard_core.proofs.Closings.Ended.{distinct, given_apart}
use Rattle.shard_core.proofs.Closings.Fixed.{fixed}
use Rattle.shard_core.proofs.Clients.Outboxes.{shuts, gone}
use Rattle.shard_core.proofs.Closings.Leaving.{stays_after}
use Rattle.shard_core.proofs.Closings.Causes.{one, le_is, reached, Spends, first_told, give_told, left_is, left_in, walked_told, candidate_open, none_for, one_for, ended_by_claim, serials_ended, same_on, called_is, not_called, call, call_is, one_called, Told, Becomes}
use Rattle.shard_core.proofs.Closings.Reasons.{becomes, opened_subs, closes_is, Opens}

-- ---- and why

module _ (s : State) (e : Event) (held : AreHeld s) (sub : Subscription) (there : In sub s.subs) where
  no_spend : given_by s e ≡ [] → IsSpent s e sub → ⊥
  no_spend none (m, is, le) =
      let few = held.unspent sub there m is in
      let zero_given : length (filter (has_serial sub.serial) (given_by s e)) ≡ 0 =
      ap (λ t. length (filter (has_serial sub.serial) t)) none in
      omega arith

  no_leave : ((k : ℕ) → IsDetached e k → ⊥)
      → ((k : ℕ) → In k (shut_by s e) → ⊥)
      → Leaves s (shard_after s e) sub.conn
      → ⊥
  no_leave not none l = true≢false (sym (stays_after s e sub.conn l.0 (not sub.conn) (none sub.conn)) ∙ l.1)

  nothing : ((k : ℕ) → IsDetached e k → ⊥)
      → ((k : ℕ) → In k (shut_by s e) → ⊥)
      → given_by s e ≡ []
      → (IsUnsubscribed e sub → ⊥)
      → HasCause s e sub
      → ⊥
  nothing not none given un (inl l) = no_leave not none l
  nothing not none given un (inr (inl x)) = no_spend given x
  nothing not none given un (inr (inr x)) = un x

  with_conn : (conn : ℕ)
      → is_open conn (shard_after s e).clients ≡ false
      → ((k : ℕ) → k ≢ conn → is_open k s.clients ≡ true → is_open k (shard_after s e).clients ≡ true)
      → given_by s e ≡ []
      → (IsUnsubscribed e sub → ⊥)
      → In sub.serial (left_of conn [] s.subs) ↔ HasCause s e sub
  with_conn conn out stay given un = (to, back)
    where
      to : In sub.serial (left_of conn [] s.subs) → HasCause s e sub
      to i =
          let x = left_is conn [] s.subs sub.serial i in
          inl (
            held.served sub there,
            subst (λ k. is_open k (shard_after s e).clients ≡ false)
                (sym (ap (λ (y : Subscription). y.conn) (one s.subs held.rising sub x.0 there x.1 x.2) ∙ x.3)) out,
          )

      by : (b : Bool)
          → nat_eq sub.conn conn ≡ b
          → Leaves s (shard_after s e) sub.conn
          → In sub.serial (left_of conn [] s.subs)
      by true f l =
          subst (λ k. In sub.serial (left_of k [] s.subs)) (eq_true sub.conn conn f) (left_in [] s.subs sub there refl)
      by false f l = absurd (true≢false (sym (stay sub.conn (eq_false sub.conn conn f) l.0) ∙ l.1))

      back : HasCause s e sub → In sub.serial (left_of conn [] s.subs)
      back (inl l) = by (nat_eq sub.conn conn) refl l
      back (inr (inl x)) = absurd (no_spend given x)
      back (inr (inr x)) = absurd (un x)

  with_walk : (w : Walk)
      → (shard_after s e).clients ≡ w.clients
      → given_by s e ≡ w.given
      → AreApart (serials_of w.given)
      → Told s w
      → (IsUnsubscribed e sub → ⊥)
      → In sub.serial w.ended ↔ HasCause s e sub
  with_walk w clients given apart h un = (to, back)
    where
      given_is : given_to s e sub ≡ length (filter (has_serial sub.serial) w.given)
      given_is = ap (λ t. length (filter (has_serial sub.serial) t)) given

      to : In sub.serial w.ended → HasCause s e sub
      to i =
          ⊎_elim (λ c. inl (held.served sub there, ap (is_open sub.conn) clients ∙ c))
          (λ (x : Spends sub w.given).
          inr (inl (
            x.0,
            x.1,
            (let le = x.2 in
                let count = given_is ∙ one_for sub.serial w.given apart (in_mapped serial_of w.given sub x.3) in
                omega arith),
          )))
          (h.ended_why sub there i)

      by : (b : Bool) → list_any (nat_eq sub.serial) (serials_of w.given) ≡ b → IsSpent s e sub → In sub.serial w.ended
      by true f (m, is, le) =
          let x = in_map serial_of w.given sub.serial (has_in sub.serial (serials_of w.given) f) in
          let same : sub ≡ x.0 = one s.subs held.rising sub x.0 there (h.given_some x.0 x.1) x.2 in
          let count = given_is ∙ one_for sub.serial w.given apart (has_in sub.serial (serials_of w.given) f) in
          h.given_ends sub (subst (λ u. In u w.given) (sym same) x.1) m is (omega arith)
      by false f (m, is, le) =
          let few = held.unspent sub there m is in
          let count = given_is
          ∙ none_for sub.serial w.given (λ j. true≢false (sym (in_has sub.serial (serials_of w.given) j) ∙ f)) in
          absurd (omega arith)

      back : HasCause s e sub → In sub.serial w.ended
      back (inl l) = h.shut_ends sub there l.0 (sym (ap (is_open sub.conn) clients) ∙ l.1)
      back (inr (inl x)) = by (list_any (nat_eq sub.serial) (serials_of w.given)) refl x
      back (inr (inr x)) = absurd (un x)

unsubscribe_why : (s : State) (conn : ℕ) (sid : List ℕ) (max : Option ℕ)
    → AreHeld s
    → (sub : Subscription)
    → In sub s.subs
    → (o : Option Subscription)
    → sub_called conn sid s.subs ≡ o
    → In sub.serial (ended_by_unsubscribe max o) ↔ HasCause s (Unsubscribe conn sid max) sub
unsubscribe_why s conn sid max held sub there o is = go o is
  where
    e : Event
    e = Unsubscribe conn sid max

    other : (IsUnsubscribed (Unsubscribe conn sid max) sub → ⊥) → HasCause s (Unsubscribe conn sid max) sub → ⊥
    other un x = nothing s (Unsubscribe conn sid max) held sub there (λ k d. d) (λ k i. i) refl un x

    enough : (m : Option ℕ) (u : Subscription) → ended_now m u ≡ true → HasEnough m u.delivered
    enough None u f = tt
    enough (Some m) u f = le_true m u.delivered f

    is_enough : (m : Option ℕ) (u : Subscription) → HasEnough m u.delivered → ended_now m u ≡ true
    is_enough None u f = refl
    is_enough (Some m) u f = le_is m u.delivered f

    go : (o : Option Subscription)
        → sub_called conn sid s.subs ≡ o
        → In sub.serial (ended_by_unsubscribe max o) ↔ HasCause s (Unsubscribe conn sid max) sub
    go None is = (
      λ i. absurd i,
      λ x.
          absurd
          (other (λ un. true≢false (sym (call_is conn sid sub un.0 un.1) ∙ not_called conn sid s.subs is sub there)) x),
    )
    go (Some u) is = by (ended_now max u) refl
      where
        here : In u s.subs × (is_called conn sid u ≡ true)
        here = called_is conn sid s.subs u is

        same_of : IsUnsubscribed (Unsubscribe conn sid max) sub → sub ≡ u
        same_of un = one_called s held conn sid sub u there here.0 (call_is conn sid sub un.0 un.1) here.1

        by : (b : Bool)
            → ended_now max u ≡ b
            → In sub.serial (cond b (u.serial ∷ []) []) ↔ HasCause s (Unsubscribe conn sid max) sub
        by true f = (
          λ i.
              inr (inr (⊎_elim (λ g.
              subst (IsUnsubscribed (Unsubscribe conn sid max)) (sym (one s.subs held.rising sub u there here.0 g))
              (let c = call conn sid u here.1 in (c.0, c.1, enough max u f)))
              (λ g. absurd g) i)),
          back,
        )
          where
            back : HasCause s (Unsubscribe conn sid max) sub → In sub.serial (u.serial ∷ [])
            back (inl l) = absurd (no_leave s (Unsubscribe conn sid max) held sub there (λ k d. d) (λ k i. i) l)
            back (inr (inl x)) = absurd (no_spend s (Unsubscribe conn sid max) held sub there refl x)
            back (inr (inr x)) = inl (ap (λ (y : Subscription). y.serial) (same_of x))
        by false f = (
          λ i. absurd i,
          λ x.
              absurd (other (λ un.
              true≢false
              (sym (is_enough max u (subst (λ (y : Subscription). HasEnough max y.delivered) (same_of un) un.2)) ∙ f))
              x),
        )

claim_why : (s : State) (index : ℕ) (won : Bool)
    → AreHeld s
    → (sub : Subscription)
    → In sub s.subs
    → (hand : Option Job) (o : Option Subscription) (b : Bool)
    → s.hand ≡ hand
    → candidate_of s s.hand index ≡ o
    → candidate_of s hand index ≡ o
    → won ≡ b
    → In sub.serial (ended_by_claim hand o b) ↔ HasCause s (Claim index won) sub
claim_why s index won held sub there hand o b at is at_hand w = go hand o b at is at_hand w
  where
    lost : given_by s (Claim index won) ≡ [] → In sub.serial [] ↔ HasCause s (Claim index won) sub
    lost none = (
      λ i. absurd i,
      λ x. absurd (nothing s (Claim index won) held sub there (λ k d. d) (λ k i. i) none (λ un. un) x),
    )

    go : (h : Option Job) (u : Option Subscription) (c : Bool)
        → s.hand ≡ h
        → candidate_of s s.hand index ≡ u
        → candidate_of s h index ≡ u
        → won ≡ c
        → In sub.serial (ended_by_claim h u c) ↔ HasCause s (Claim index won) sub
    go None u c e f g x = lost (λ i. given_by_claim (e i) (f i) (x i))
    go (Some job) None c e f g x = lost (λ i. given_by_claim (e i) (f i) (x i))
    go (Some job) (Some u) false e f g x = lost (λ i. given_by_claim (e i) (f i) (x i))
    go (Some job) (Some u) true e f g x =
        with_walk s (Claim index won) held sub there
        (walk_with_entry (owed_entry s.shard s.clients job u.key.queue u) u (first_step s.clients))
        (λ i. (after_claim s (e i) (f i) (x i)).clients) (λ i. given_by_claim (e i) (f i) (x i)) ((λ k i. absurd i), tt)
        (give_told s (owed_entry s.shard s.clients job u.key.queue u) u (first_step s.clients) held.rising
        (candidate_open s (Some job) index u g) (first_told s))
        (λ un. un)

why : (s : State) (e : Event)
    → AreHeld s
    → shard_refusal s e ≡ None
    → (sub : Subscription)
    → In sub s.subs
    → In sub.serial (serials_ended s e) ↔ HasCause s e sub
why s Attach held cause sub i = (
  λ j. absurd j,
  λ x. absurd (nothing s Attach held sub i (λ k d. d) (λ k j. j) refl (λ un. un) x),
)
why s (Subscribe conn key sid) held cause sub i = (
  λ j. absurd j,
  λ x. absurd (nothing s (Subscribe conn key sid) held sub i (λ k d. d) (λ k j. j) refl (λ un. un) x),
)
why s (Unsubscribe conn sid max) held cause sub i =
    unsubscribe_why s conn sid max held sub i (sub_called conn sid s.subs) refl
why s (Reply conn frame) held cause sub i = go (answer_fits s conn (reply_line frame)) refl
  where
    go : (b : Bool)
        → answer_fits s conn (reply_line frame) ≡ b
        → In sub.serial (cond (answer_fits s conn (reply_line frame)) [] (left_of conn [] s.subs))
        ↔ HasCause s (Reply conn frame) sub
    go true e = (
      λ j. absurd (subst (λ b. In sub.serial (cond b [] (left_of conn [] s.subs))) e j),
      λ x.
          absurd (nothing s (Reply conn frame) held sub i (λ k d. d)
          (λ k j. subst (λ b. In k (cond b [] (conn ∷ []))) e j) refl (λ un. un) x),
    )
    go false e =
        subst (λ b. In sub.serial (cond b [] (left_of conn [] s.subs)) ↔ HasCause s (Reply conn frame) sub) (sym e)
        (with_conn s (Reply conn frame) held sub i conn
        (ap (λ b.
        is_open conn (cond b (record s {
          clients =
              clients_with_change
              (λ backlog. record {
                entries = backlog.entries ++ reply_entry (reply_line frame) ∷ [];
                shut = backlog.shut;
              })
              conn s.clients;
        })
        (was_shut s conn slow_consumer)).clients)
        e ∙ shuts slow_consumer conn s.clients)
        (λ k apart o.
        stays_after s (Reply conn frame) k o (λ d. d)
        (λ j. ⊎_elim (λ f. apart f) (λ f. f) (subst (λ b. In k (cond b [] (conn ∷ []))) e j)))
        refl (λ un. un))
why s (SetHeaders conn on) held cause sub i = (
  λ j. absurd j,
  λ x. absurd (nothing s (SetHeaders conn on) held sub i (λ k d. d) (λ k j. j) refl (λ un. un) x),
)
why s (Shut conn text) held cause sub i =
    with_conn s (Shut conn text) held sub i conn (shuts (err_line text) conn s.clients)
    (λ k apart o. stays_after s (Shut conn text) k o (λ d. d) (λ j. ⊎_elim (λ f. apart f) (λ f. f) j)) refl (λ un. un)
why s (Detach conn) held cause sub i =
    with_conn s (Detach conn) held sub i conn (ap takes_events (gone conn s.clients))
    (λ k apart o. stays_after s (Detach conn) k o apart (λ j. j)) refl (λ un. un)
why s (Take conn count) held cause sub i = (
  λ j. absurd j,
  λ x. absurd (nothing s (Take conn count) held sub i (λ k d. d) (λ k j. j) refl (λ un. un) x),
)
why s (Begin job) held cause sub i =
    with_walk s (Begin job) held sub i (whole_walk s job) refl refl (given_apart s job held.rising)
    (walked_told s job held.rising) (λ un. un)
why s (Claim index won) held cause sub i =
    claim_why s index won held sub i s.hand (candidate_of s s.hand index) won refl refl refl refl
why s End held cause sub i = (
  λ j. absurd j,
  λ x. absurd (nothing s End held sub i (λ k d. d) (λ k j. j) refl (λ un. un) x),
)
why s (DropJob waiting) held cause sub i = (
  λ j. absurd j,
  λ x. absurd (nothing s (DropJob waiting) held sub i (λ k d. d) (λ k j. j) refl (λ un. un) x),
)
why s Drain held cause sub i = (
  λ j. absurd j,
  λ x. absurd (nothing s Drain held sub i (λ k d. d) (λ k j. j) refl (λ un. un) x),
)
why s Collect held cause sub i = (
  λ j. absurd j,
  λ x. absurd (nothing s Collect held sub i (λ k d. d) (λ k j. j) refl (λ un. un) x),
)

pub closes_by_cause : ClosesByCause
closes_by_cause s e held cause sub i =
    let c = closes_is s e held sub.serial in
    let y = why s e held cause sub i in
    (λ x. y.0 (c.0 x), λ x. c.1 (y.1 x))

-- ---- what every shard keeps

module _ (s : State) (e : Event) (held : AreHeld s) (cause : shard_refusal s e ≡ None) where
  after_rising : AreRising (shard_after s e).subs
  after_rising = ⊎_elim kept opened (becomes s e held)
    where
      kept : Becomes s e → AreRising (shard_after s e).subs
      kept b =
          subst (Pairs (λ j k. j < k))
          (sym (ap serials_of b.after ∙ serials_left (serials_ended s e) b.us
          ∙ ap (filter (λ j. not (list_any (nat_eq j) (serials_ended s e)))) b.same))
          (pairs_filter (λ j k. j < k) (λ j. not (list_any (nat_eq j) (serials_ended s e))) (serials_of s.subs)
          held.rising)

      opened : Opens s e → AreRising (shard_after s e).subs
      opened o =
          subst (Pairs (λ j k. j < k))
          (sym (ap serials_of (opened_subs s e o) ∙ map_append serial_of s.subs (new_sub s o.conn o.key o.sid ∷ [])))
          (pairs_append (λ j k. j < k) (serials_of s.subs) ((s.opened + 1) ∷ []) held.rising ((λ k i. absurd i), tt)
          (λ j k i l.
          let m = in_map serial_of s.subs j i in
          let le = held.given m.0 m.1 in
          let is = m.2 in
          ⊎_elim (λ (f : k ≡ s.opened + 1). omega arith) (λ f. absurd f) l))

  abbrev From : Subscription → Type 0
  From new = ((old : Subscription) × In old s.subs × (new ≡ sub_after s e old)) ⊎ IsOpening s e new

  -- what is open after did not close
  not_caused : (old new : Subscription)
      → In old s.subs
      → new ≡ sub_after s e old
      → In new (shard_after s e).subs
      → HasCause s e old
      → ⊥
  not_caused old new i is j x =
      let c = (closes_by_cause s e held cause old i).1 x in
      true≢false (sym (in_has old.serial (serials_of (shard_after s e).subs)
      (subst (λ k. In k (serials_of (shard_after s e).subs)) (ap (λ (y : Subscription). y.serial) is)
      (in_mapped serial_of (shard_after s e).subs new j))) ∙ c.1)

  -- a maximum that is reached is a cause
  spends : (old : Subscription) (m : ℕ)
      → max_after e old ≡ Some m
      → m ≤ old.delivered + given_to s e old
      → HasCause s e old
  spends old m is le = inr (by e is le)
    where
      by : (x : Event)
          → max_after x old ≡ Some m
          → m ≤ old.delivered + given_to s x old
          → IsSpent s x old ⊎ IsUnsubscribed x old
      by Attach is le = inl (m, is, le)
      by (Subscribe conn key sid) is le = inl (m, is, le)
      by (Unsubscribe conn sid max) is le = go (is_called conn sid old) refl is
        where
          go : (b : Bool)
              → is_called conn sid old ≡ b
              → cond b max old.max ≡ Some m
              → IsSpent s (Unsubscribe conn sid max) old ⊎ IsUnsubscribed (Unsubscribe conn sid max) old
          go true f g =
              let c = call conn sid old f in
              inr (c.0, c.1, subst (λ o. HasEnough o old.delivered) (sym g) (omega arith))
          go false f g = inl (m, g, le)
      by (Reply conn frame) is le = inl (m, is, le)
      by (SetHeaders conn on) is le = inl (m, is, le)
      by (Shut conn text) is le = inl (m, is, le)
      by (Detach conn) is le = inl (m, is, le)
      by (Take conn count) is le = inl (m, is, le)
      by (Begin job) is le = inl (m, is, le)
      by (Claim index won) is le = inl (m, is, le)
      by End is le = inl (m, is, le)
      by (DropJob waiting) is le = inl (m, is, le)
      by Drain is le = inl (m, is, le)
      by Collect is le = inl (m, is, le)

  record IsNew (new : Subscription) : Type 0 where
    opens : Opens s e
    is : new ≡ new_sub s opens.conn opens.key opens.sid
    conn : is_open opens.conn s.clients ≡ true
    clients : (shard_after s e).clients ≡ s.clients
    opened : (shard_after s e).opened ≡ s.opened + 1

  fresh : (new : Subscription)
      → In new (shard_after s e).subs
      → ((old : Subscription) × In old s.subs × (new ≡ sub_after s e old)) ⊎ IsNew new
  fresh new i = ⊎_elim (λ (b : Becomes s e). inl (b.olds new (subst (In new) b.after i))) opened (becomes s e held)
    where
      opened : Opens s e → ((old : Subscription) × In old s.subs × (new ≡ sub_after s e old)) ⊎ IsNew new
      opened o =
          ⊎_elim (λ j.
          inl (
            new,
            j,
            subst (λ x. new ≡ sub_after s x new) (sym o.is) (same_on s (Subscribe o.conn o.key o.sid) new refl refl),
          ))
          (λ j.
          ⊎_elim (λ f.
          inr (record {
            opens = o;
            is = f;
            conn =
                let c : shard_refusal s (Subscribe o.conn o.key o.sid) ≡ None =
                sym (ap (shard_refusal s) o.is) ∙ cause in
                not_true' (is_open o.conn s.clients) (no_cause (not (is_open o.conn s.clients)) fault.NoConn _ c).0;
            clients =
                ap (λ x. (shard_after s x).clients) o.is
                ∙ ap (λ u. (after_subscribe s (new_sub s o.conn o.key o.sid) u).clients) o.none;
            opened =
                ap (λ x. (shard_after s x).opened) o.is
                ∙ ap (λ u. (after_subscribe s (new_sub s o.conn o.key o.sid) u).opened) o.none;
          }))
          (λ f. absurd f) j)
          (in_append new s.subs (new_sub s o.conn o.key o.sid ∷ []) (subst (In new) (opened_subs s e o) i))
        where
          not_true' : (b : Bool) → not b ≡ false → b ≡ true
          not_true' true f = refl
          not_true' false f = absurd (true≢false f)

  apart_calls : (u v : Subscription)
      → In u (shard_after s e).subs
      → In v (shard_after s e).subs
      → u.serial ≢ v.serial
      → u.conn ≡ v.conn
      → u.sid ≢ v.sid
  apart_calls u v i j apart conn sid = go (fresh u i) (fresh v j)
    where
      call_new : (old new : Subscription)
          → In old s.subs
          → (x : IsNew new)
          → old.conn ≡ new.conn
          → old.sid ≡ new.sid
          → ⊥
      call_new old new k x c d =
          true≢false (sym (call_is x.opens.conn x.opens.sid old (c ∙ ap (λ (y : Subscription). y.conn) x.is)
          (d ∙ ap (λ (y : Subscription). y.sid) x.is)) ∙ not_called x.opens.conn x.opens.sid s.subs x.opens.none old k)

      go : ((old : Subscription) × In old s.subs × (u ≡ sub_after s e old)) ⊎ IsNew u
          → ((old : Subscription) × In old s.subs × (v ≡ sub_after s e old)) ⊎ IsNew v
          → ⊥
      go (inl (a, k, f)) (inl (b, l, g)) =
          let same_conn : a.conn ≡ b.conn =
          sym (ap (λ (y : Subscription). y.conn) f) ∙ conn ∙ ap (λ (y : Subscription). y.conn) g in
          let same_sid : a.sid ≡ b.sid =
          sym (ap (λ (y : Subscription). y.sid) f) ∙ sid ∙ ap (λ (y : Subscription). y.sid) g in
          let is : a ≡ b = one_called s held b.conn b.sid a b k l (call_is b.conn b.sid a same_conn same_sid)
          (call_is b.conn b.sid b refl refl) in
          apart (ap (λ (y : Subscription). y.serial) f ∙ ap (λ (y : Subscription). y.serial) is
          ∙ sym (ap (λ (y : Subscription). y.serial) g))
      go (inl (a, k, f)) (inr x) =
          call_new a v k x (sym (ap (λ (y : Subscription). y.conn) f) ∙ conn)
          (sym (ap (λ (y : Subscription). y.sid) f) ∙ sid)
      go (inr x) (inl (b, l, g)) =
          call_new b u l x (sym (ap (λ (y : Subscription). y.conn) g) ∙ sym conn)
          (sym (ap (λ (y : Subscription). y.sid) g) ∙ sym sid)
      go (inr x) (inr y) =
          apart (ap (λ (z : Subscription). z.serial) x.is ∙ sym (ap (λ (z : Subscription). z.serial) y.is))

  pub keeps : AreHeld (shard_after s e)
  keeps = record {
    rising = after_rising;
    given = λ u i.
        ⊎_elim (λ (x : (old : Subscription) × In old s.subs × (u ≡ sub_after s e old)).
        let le = held.given x.0 x.1 in
        let more = (fixed s e).opened in
        let is = ap (λ (y : Subscription). y.serial) x.2 in
        omega arith)
        (λ (x : IsNew u). let is = ap (λ (y : Subscription). y.serial) x.is in let more = x.opened in omega arith)
        (fresh u i);
    called =
        pairs_weaker (λ (u v : Subscription). u.serial ≢ v.serial)
        (λ (u v : Subscription). u.conn ≡ v.conn → u.sid ≢ v.sid) (shard_after s e).subs apart_calls
        (distinct (shard_after s e).subs after_rising);
    served = λ u i.
        ⊎_elim (λ (x : (old : Subscription) × In old s.subs × (u ≡ sub_after s e old)).
        subst (λ k. is_open k (shard_after s e).clients ≡ true) (sym (ap (λ (y : Subscription). y.conn) x.2))
        (serves x.0 u x.1 x.2 i (is_open x.0.conn (shard_after s e).clients) refl))
        (λ (x : IsNew u).
        ap (λ k. is_open k (shard_after s e).clients) (ap (λ (y : Subscription). y.conn) x.is)
        ∙ ap (is_open x.opens.conn) x.clients
        ∙ x.conn)
        (fresh u i);
    unspent = λ u i m is.
        ⊎_elim (λ (x : (old : Subscription) × In old s.subs × (u ≡ sub_after s e old)).
        few x.0 u m x.1 x.2 i (sym (ap (λ (y : Subscription). y.max) x.2) ∙ is) (nat_le m u.delivered) refl)
        (λ (x : IsNew u). absurd (none-some m (sym (ap (λ (y : Subscription). y.max) x.is) ∙ is))) (fresh u i);
  }
    where
      serves : (old new : Subscription)
          → In old s.subs
          → new ≡ sub_after s e old
          → In new (shard_after s e).subs
          → (b : Bool)
          → is_open old.conn (shard_after s e).clients ≡ b
          → is_open old.conn (shard_after s e).clients ≡ true
      serves old new i is j true f = f
      serves old new i is j false f = absurd (not_caused old new i is j (inl (held.served old i, f)))

      few : (old new : Subscription) (m : ℕ)
          → In old s.subs
          → new ≡ sub_after s e old
          → In new (shard_after s e).subs
          → max_after e old ≡ Some m
          → (b : Bool)
          → nat_le m new.delivered ≡ b
          → new.delivered < m
      few old new m i is j max true f =
          absurd (not_caused old new i is j
          (spends old m max
          (subst (λ n. m ≤ n) (ap (λ (y : Subscription). y.delivered) is) (le_true m new.delivered f))))
      few old new m i is j max false f = le_false m new.delivered f

pub subs_stay_held : SubsStayHeld
subs_stay_held = record {
  start = λ shard shards. record {
    rising = tt;
    given = λ u i. absurd i;
    called = tt;
    served = λ u i. absurd i;
    unspent = λ u i. absurd i;
  };
  step = by;
}
  where
    by : (old : State) (event : Event) (outcome : Result Answer ShardFault) (new : State)
        → IsStep old event outcome new
        → AreHeld old
        → AreHeld new
    by old event (Ok answer) new step h = subst AreHeld (sym step.after) (keeps old event h step.cause)
    by old event (Err fault) new step h = subst AreHeld (sym step.same) h
