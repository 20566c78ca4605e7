-- Over every run the best of what was offered since the last cut is kept.
use Rattle.std.proofs.Common.{◌≡◌, ◌≢◌, ◌⊎◌, ◌+◌, ◌≤◌, ℕ, Bool, true, false, true≢false, not, cond, nat_eq, List, [], ◌∷◌, ◌++◌, map, Option, Some, None, is_some, refl, sym, ap, ◌∙◌, subst, inl, inr, ⊎_elim, arith}
use Rattle.std.specs.Prelude.{filter, if◌then◌else◌}
use Rattle.std.specs.Option.{option_and_then, option_map}
use Rattle.std.proofs.lemmas.Option.{none-some, same_Some}
use Rattle.list_laws.specs.Lists.{In, Each, Pairs}
use Rattle.list_laws.proofs.Lists.{in_map, each_append, each_one, pairs_append, pairs_cases, pairs_map, pairs_weaker}
use Rattle.list_laws.proofs.Changes.{append_nil, in_filter, pairs_filter}
use Rattle.list_laws.proofs.Tests.{eq_true, eq_false, false_eq}
use Rattle.subj.specs.Servers.{ServerIdentity}
use Rattle.route_session.specs.declared.faults.SessionFault.{SessionFault}
use Rattle.route_session.specs.declared.faults.SessionFault.TheVariants.{WrongName, OldIncarnation, Duplicate, UnknownSession, TooManySessions, Spent}
use Rattle.route_session.specs.Best.{Offer, better_of_kept, best_after}
use Rattle.route_session.specs.State.{State, Session, no_sessions, session_at, is_of_peer, kept_for, offer_kept, number_kept}
use Rattle.route_session.specs.Steps.{info_offer, connect_offer, info_refusal, connect_refusal, cut_refusal, session_refusal, session_after, is_not_of_peer, kept_at, after_completion, after_info, is_another}
use Rattle.route_session.specs.Events.{Event, Dial, Accept, OnInfo, OnConnect, Cut}
use Rattle.route_session.specs.OverRuns.{next_of, next, after_run, is_judged, offer_of, of_peer, offers_at, is_number, cuts, offers_since, BestStaysKept}
use Rattle.route_session.proofs.BestStays.{info_keeps_best, connect_keeps_best, same_number, info_taken, connect_taken}

-- ---- the best of more

best_more : (kept : Option Offer) (xs : List Offer) (x : Offer)
    → best_after kept (xs ++ x ∷ []) ≡ better_of_kept x (best_after kept xs)
best_more kept [] x = refl
best_more kept (y ∷ xs) x = best_more (better_of_kept y kept) xs x

-- ---- sessions that stand: each number once, and for each peer one kept

record Stand (s : State) : Type 0 where
  apart : Pairs (λ (x y : Session). x.number ≢ y.number) s.standing
  below : Each (λ (x : Session). x.number ≤ s.numbers) s.standing
  once : Pairs (λ (x y : Session). (q : ℕ) → is_of_peer q x.kept ≡ true → is_of_peer q y.kept ≡ true → ⊥) s.standing

abbrev Once : Session → Session → Type 0
Once x y = (q : ℕ) → is_of_peer q x.kept ≡ true → is_of_peer q y.kept ≡ true → ⊥

-- some end
fewer : (s : State) (test : Session → Bool) → Stand s → Stand (record s { standing = filter test s.standing })
fewer s test h = record {
  apart = pairs_filter (λ (x y : Session). x.number ≢ y.number) test s.standing h.apart;
  below = λ x i. h.below x (in_filter test s.standing x i).0;
  once = pairs_filter Once test s.standing h.once;
}

-- one more begins
opened : (s : State) (new : Session) (dials : ℕ)
    → new.number ≡ s.numbers + 1
    → new.kept ≡ None
    → Stand s
    → Stand (record { numbers = s.numbers + 1; dials = dials; standing = s.standing ++ new ∷ [] })
opened s new dials number none h = record {
  apart =
      pairs_append (λ (x y : Session). x.number ≢ y.number) s.standing (new ∷ []) h.apart ((λ x i. absurd i), tt)
      (λ x y i j e.
      ⊎_elim
      (λ (f : y ≡ new). let le = h.below x i in let is = ap (λ (z : Session). z.number) f in absurd (omega arith))
      (λ f. absurd f) j);
  below =
      each_append (λ (x : Session). x.number ≤ s.numbers + 1) s.standing (new ∷ [])
      (λ x i. let le = h.below x i in omega arith)
      (each_one (λ (x : Session). x.number ≤ s.numbers + 1) new (omega arith));
  once =
      pairs_append Once s.standing (new ∷ []) h.once ((λ x i. absurd i), tt) (λ x y i j q a b.
      ⊎_elim
      (λ (f : y ≡ new). true≢false (sym b ∙ ap (λ (z : Session). is_of_peer q z.kept) f ∙ ap (is_of_peer q) none))
      (λ f. absurd f) j);
}

-- one is completed
number_stays : (k : ℕ) (offer : Offer) (x : Session) → (kept_at k offer x).number ≡ x.number
number_stays k offer x = go (nat_eq x.number k)
  where
    go : (b : Bool) → (cond b (record x { kept = Some offer }) x).number ≡ x.number
    go true = refl
    go false = refl

-- of two that stand apart at most one is the completed one, and no other is of its peer any more
kept_once : (k : ℕ) (offer : Offer) (x y : Session)
    → x.number ≢ y.number
    → Once x y
    → is_of_peer offer.peer x.kept ≡ false
    → is_of_peer offer.peer y.kept ≡ false
    → Once (kept_at k offer x) (kept_at k offer y)
kept_once k offer x y apart once not_x not_y q = go (nat_eq x.number k) (nat_eq y.number k) refl refl
  where
    peer_is : is_of_peer q (Some offer) ≡ true → offer.peer ≡ q
    peer_is e = eq_true offer.peer q e

    go : (a b : Bool)
        → nat_eq x.number k ≡ a
        → nat_eq y.number k ≡ b
        → is_of_peer q (cond a (record x { kept = Some offer }) x).kept ≡ true
        → is_of_peer q (cond b (record y { kept = Some offer }) y).kept ≡ true
        → ⊥
    go true true e f g h = apart (eq_true x.number k e ∙ sym (eq_true y.number k f))
    go true false e f g h = true≢false (sym h ∙ ap (λ r. is_of_peer r y.kept) (sym (peer_is g)) ∙ not_y)
    go false true e f g h = true≢false (sym g ∙ ap (λ r. is_of_peer r x.kept) (sym (peer_is h)) ∙ not_x)
    go false false e f g h = once q g h

not_peer : (q : ℕ) (xs : List Session) (x : Session) → In x (filter (is_not_of_peer q) xs) → is_of_peer q x.kept ≡ false
not_peer q xs x i = go (is_of_peer q x.kept) refl (in_filter (is_not_of_peer q) xs x i).1
  where
    go : (b : Bool) → is_of_peer q x.kept ≡ b → not (is_of_peer q x.kept) ≡ true → is_of_peer q x.kept ≡ false
    go true e f = absurd (true≢false (sym f ∙ ap not e))
    go false e f = e

completes : (s : State) (k : ℕ) (offer : Offer) → Stand s → Stand (after_completion k offer s)
completes s k offer h =
    let d = fewer s (is_not_of_peer offer.peer) h in
    let xs = filter (is_not_of_peer offer.peer) s.standing in
    record {
      apart =
          pairs_map (λ (x y : Session). x.number ≢ y.number) (kept_at k offer) xs
          (pairs_weaker (λ (x y : Session). x.number ≢ y.number)
          (λ x y. (kept_at k offer x).number ≢ (kept_at k offer y).number) xs
          (λ x y i j apart e. apart (sym (number_stays k offer x) ∙ e ∙ number_stays k offer y)) d.apart);
      below = λ y i.
          let m = in_map (kept_at k offer) xs y i in
          let le = d.below m.0 m.1 in
          let is = ap (λ (z : Session). z.number) m.2 ∙ number_stays k offer m.0 in
          omega arith;
      once = pairs_map Once (kept_at k offer) xs (both xs (λ x i. not_peer offer.peer s.standing x i) d.apart d.once);
    }
  where
    both : (xs : List Session)
        → Each (λ x. is_of_peer offer.peer x.kept ≡ false) xs
        → Pairs (λ (x y : Session). x.number ≢ y.number) xs
        → Pairs Once xs
        → Pairs (λ x y. Once (kept_at k offer x) (kept_at k offer y)) xs
    both [] none apart once = tt
    both (x ∷ xs) none apart once = (
      (λ y i. kept_once k offer x y (apart.0 y i) (once.0 y i) (none x (inl refl)) (none y (inr i))),
      both xs (λ y i. none y (inr i)) apart.1 once.1,
    )

-- ---- what is kept for a peer

abbrev kept_in : Option Session → Option Offer
kept_in o = option_and_then (λ (x : Session). x.kept) o

-- behind one more that is not completed
kept_opened : (q : ℕ) (xs : List Session) (new : Session)
    → new.kept ≡ None
    → offer_kept q (xs ++ new ∷ []) ≡ offer_kept q xs
kept_opened q [] new none = ap (λ b. kept_in (cond b (Some new) None)) (ap (is_of_peer q) none)
kept_opened q (x ∷ xs) new none = go (is_of_peer q x.kept) (kept_opened q xs new none)
  where
    go : (b : Bool)
        → offer_kept q (xs ++ new ∷ []) ≡ offer_kept q xs
        → kept_in (cond b (Some x) (kept_for q (xs ++ new ∷ []))) ≡ kept_in (cond b (Some x) (kept_for q xs))
    go true below = refl
    go false below = below

-- another peer's, where a session is completed that is not
kept_other : (q k : ℕ) (offer : Offer) (xs : List Session)
    → offer.peer ≢ q
    → Each (λ (x : Session). x.number ≡ k → x.kept ≡ None) xs
    → offer_kept q (map (kept_at k offer) (filter (is_not_of_peer offer.peer) xs)) ≡ offer_kept q xs
kept_other q k offer [] apart new = refl
kept_other q k offer (x ∷ xs) apart new =
    go x.kept refl (nat_eq x.number k) refl (kept_other q k offer xs apart (λ y i. new y (inr i)))
  where
    after : List Session
    after = map (kept_at k offer) (filter (is_not_of_peer offer.peer) xs)

    -- it stays, as it was or completed for the other peer
    stays : (o : Option Offer)
        → x.kept ≡ o
        → is_of_peer offer.peer o ≡ false
        → (b : Bool)
        → nat_eq x.number k ≡ b
        → offer_kept q (map (kept_at k offer) (filter (is_not_of_peer offer.peer) xs)) ≡ offer_kept q xs
        → offer_kept q
        (cond b (record x { kept = Some offer }) x ∷ map (kept_at k offer) (filter (is_not_of_peer offer.peer) xs))
        ≡ offer_kept q (x ∷ xs)
    stays o e f true g below =
        ap (λ b.
        kept_in (cond b (Some (record x { kept = Some offer }))
        (kept_for q (map (kept_at k offer) (filter (is_not_of_peer offer.peer) xs)))))
        (false_eq offer.peer q apart)
        ∙ below
        ∙ sym
        (ap (λ t. kept_in (cond (is_of_peer q t) (Some x) (kept_for q xs))) (new x (inl refl) (eq_true x.number k g)))
    stays o e f false g below = by (is_of_peer q x.kept) below
      where
        by : (b : Bool)
            → offer_kept q (map (kept_at k offer) (filter (is_not_of_peer offer.peer) xs)) ≡ offer_kept q xs
            → kept_in (cond b (Some x) (kept_for q (map (kept_at k offer) (filter (is_not_of_peer offer.peer) xs))))
            ≡ kept_in (cond b (Some x) (kept_for q xs))
        by true below = refl
        by false below = below

    go : (o : Option Offer)
        → x.kept ≡ o
        → (b : Bool)
        → nat_eq x.number k ≡ b
        → offer_kept q (map (kept_at k offer) (filter (is_not_of_peer offer.peer) xs)) ≡ offer_kept q xs
        → offer_kept q (map (kept_at k offer) (filter (is_not_of_peer offer.peer) (x ∷ xs))) ≡ offer_kept q (x ∷ xs)
    go o e b g below = by (is_of_peer offer.peer x.kept) refl
      where
        by : (c : Bool)
            → is_of_peer offer.peer x.kept ≡ c
            → offer_kept q (map (kept_at k offer)
            (cond (not c) (x ∷ filter (is_not_of_peer offer.peer) xs) (filter (is_not_of_peer offer.peer) xs)))
            ≡ offer_kept q (x ∷ xs)
        by true f = below ∙ sym (ap (λ c. kept_in (cond c (Some x) (kept_for q xs))) (not_q x.kept f))
          where
            not_q : (t : Option Offer) → is_of_peer offer.peer t ≡ true → is_of_peer q t ≡ false
            not_q None f = refl
            not_q (Some old) f = false_eq old.peer q (λ same. apart (sym (eq_true old.peer offer.peer f) ∙ same))
        by false f =
            ap (λ c.
            offer_kept q
            (cond c (record x { kept = Some offer }) x ∷ map (kept_at k offer) (filter (is_not_of_peer offer.peer) xs)))
            g
            ∙ stays x.kept refl f b g below

-- one ends

none_kept : (q : ℕ) (xs : List Session)
    → Each (λ (x : Session). is_of_peer q x.kept ≡ true → ⊥) xs
    → kept_for q xs ≡ None
none_kept q [] h = refl
none_kept q (x ∷ xs) h = go (none_kept q xs (λ y i. h y (inr i))) (is_of_peer q x.kept) refl
  where
    go : kept_for q xs ≡ None → (b : Bool) → is_of_peer q x.kept ≡ b → cond b (Some x) (kept_for q xs) ≡ None
    go rest true e = absurd (h x (inl refl) e)
    go rest false e = rest

ended_kept : (q k : ℕ) (xs : List Session)
    → Pairs (λ (x y : Session). x.number ≢ y.number) xs
    → Pairs Once xs
    → offer_kept q (filter (is_another k) xs) ≡ (if is_number k (number_kept q xs) then None else offer_kept q xs)
ended_kept q k [] apart once = refl
ended_kept q k (x ∷ xs) apart once =
    go (ended_kept q k xs apart.1 once.1) (is_of_peer q x.kept) refl (nat_eq x.number k) refl
  where
    go : offer_kept q (filter (is_another k) xs) ≡ (if is_number k (number_kept q xs) then None else offer_kept q xs)
        → (p : Bool)
        → is_of_peer q x.kept ≡ p
        → (b : Bool)
        → nat_eq x.number k ≡ b
        → offer_kept q (cond (not (nat_eq x.number k)) (x ∷ filter (is_another k) xs) (filter (is_another k) xs))
        ≡ cond
        (is_number k (option_map (λ (y : Session). y.number) (cond (is_of_peer q x.kept) (Some x) (kept_for q xs))))
        None (kept_in (cond (is_of_peer q x.kept) (Some x) (kept_for q xs)))
    go rest true e true f =
        ap (λ b. offer_kept q (cond (not b) (x ∷ filter (is_another k) xs) (filter (is_another k) xs))) f
        ∙ ap kept_in
        (none_kept q (filter (is_another k) xs) (λ y i g. once.0 y (in_filter (is_another k) xs y i).0 q e g))
        ∙ sym (ap (λ p.
        cond (is_number k (option_map (λ (y : Session). y.number) (cond p (Some x) (kept_for q xs)))) None
        (kept_in (cond p (Some x) (kept_for q xs))))
        e ∙ ap (λ b. cond b None x.kept) f)
    go rest true e false f =
        ap (λ b. offer_kept q (cond (not b) (x ∷ filter (is_another k) xs) (filter (is_another k) xs))) f
        ∙ ap (λ p. kept_in (cond p (Some x) (kept_for q (filter (is_another k) xs)))) e
        ∙ sym (ap (λ p.
        cond (is_number k (option_map (λ (y : Session). y.number) (cond p (Some x) (kept_for q xs)))) None
        (kept_in (cond p (Some x) (kept_for q xs))))
        e ∙ ap (λ b. cond b None x.kept) f)
    go rest false e b f =
        ap (λ c. offer_kept q (cond (not c) (x ∷ filter (is_another k) xs) (filter (is_another k) xs))) f
        ∙ by b
        ∙ rest
        ∙ sym (ap (λ p.
        cond (is_number k (option_map (λ (y : Session). y.number) (cond p (Some x) (kept_for q xs)))) None
        (kept_in (cond p (Some x) (kept_for q xs))))
        e)
      where
        by : (c : Bool)
            → offer_kept q (cond (not c) (x ∷ filter (is_another k) xs) (filter (is_another k) xs))
            ≡ offer_kept q (filter (is_another k) xs)
        by true = refl
        by false = ap (λ p. kept_in (cond p (Some x) (kept_for q (filter (is_another k) xs)))) e

-- ---- a step

-- numbers tell sessions apart
same_session : (s : State) → Stand s → (x y : Session) → In x s.standing → In y s.standing → x.number ≡ y.number → x ≡ y
same_session s h x y i j e = cases (pairs_cases (λ (a b : Session). a.number ≢ b.number) s.standing h.apart x y i j)
  where
    cases : (x ≡ y) ⊎ ((x.number ≢ y.number) ⊎ (y.number ≢ x.number)) → x ≡ y
    cases (inl is) = is
    cases (inr (inl apart)) = absurd (apart e)
    cases (inr (inr apart)) = absurd (apart (sym e))

there : (k : ℕ) (xs : List Session) (x : Session) → session_at k xs ≡ Some x → In x xs
there k [] x at = absurd (none-some x at)
there k (y ∷ xs) x at = go (nat_eq y.number k) (there k xs x) at
  where
    go : (b : Bool) → (session_at k xs ≡ Some x → In x xs) → cond b (Some y) (session_at k xs) ≡ Some x → In x (y ∷ xs)
    go true later f = inl (sym (same_Some y x f))
    go false later f = inr (later f)

not_completed : (o : Option Offer) → is_some o ≡ false → o ≡ None
not_completed None e = refl
not_completed (Some offer) e = absurd (true≢false e)

-- nobody but the session itself has its number
only_new : (s : State)
    → Stand s
    → (k : ℕ) (session : Session)
    → session_at k s.standing ≡ Some session
    → is_some session.kept ≡ false
    → Each (λ (x : Session). x.number ≡ k → x.kept ≡ None) s.standing
only_new s h k session at new x i e =
    ap (λ (y : Session). y.kept)
    (same_session s h x session i (there k s.standing session at) (e ∙ sym (same_number k s.standing session at)))
    ∙ not_completed session.kept new

stands_next : (server : ServerIdentity) (s : State) (e : Event) → Stand s → Stand (next server s e)
stands_next server s e h = go (session_refusal server s e)
  where
    by : (e : Event) → Stand (session_after server s e)
    by (Dial q) = opened s _ (s.dials + 1) refl refl h
    by Accept = opened s _ s.dials refl refl h
    by (OnInfo number info least) = found (session_at number s.standing)
      where
        found : (o : Option Session) → Stand (after_info server s info o)
        found None = h
        found (Some session) = completes s session.number (info_offer server session info) h
    by (OnConnect number connect least) = completes s number (connect_offer server connect) h
    by (Cut number) = fewer s (is_another number) h

    go : (o : Option SessionFault) → Stand (next_of s (session_after server s e) o)
    go None = by e
    go (Some why) = h

-- one that was judged, kept or not
judged : (q : ℕ) (offer : Offer) (offers : List Offer) (old new : Option Offer)
    → old ≡ best_after None offers
    → (offer.peer ≡ q → new ≡ better_of_kept offer old)
    → (offer.peer ≢ q → new ≡ old)
    → new ≡ best_after None (offers ++ of_peer q (Some offer))
judged q offer offers old new h its other = go (nat_eq offer.peer q) refl
  where
    go : (b : Bool)
        → nat_eq offer.peer q ≡ b
        → new ≡ best_after None (offers ++ cond (nat_eq offer.peer q) (offer ∷ []) [])
    go true e =
        its (eq_true offer.peer q e)
        ∙ ap (better_of_kept offer) h
        ∙ sym (best_more None offers offer)
        ∙ sym (ap (λ b. best_after None (offers ++ cond b (offer ∷ []) [])) e)
    go false e =
        other (eq_false offer.peer q e)
        ∙ h
        ∙ sym (ap (best_after None) (append_nil offers))
        ∙ sym (ap (λ b. best_after None (offers ++ cond b (offer ∷ []) [])) e)

-- of an offer, whatever the refusal: it is kept, lost as a duplicate, or not judged
decided : (q : ℕ) (server : ServerIdentity) (s : State) (e : Event) (offer : Offer) (offers : List Offer)
    → offer_of server s e ≡ Some offer
    → offer_kept q s.standing ≡ best_after None offers
    → (session_refusal server s e ≡ None
    → offer_kept offer.peer (session_after server s e).standing
    ≡ better_of_kept offer (offer_kept offer.peer s.standing))
    → (session_refusal server s e ≡ None → offer.peer ≢ q
    → offer_kept q (session_after server s e).standing ≡ offer_kept q s.standing)
    → ((kept : ℕ) → session_refusal server s e ≡ Some (Duplicate kept)
    → offer_kept offer.peer s.standing ≡ better_of_kept offer (offer_kept offer.peer s.standing))
    → offer_kept q (next server s e).standing ≡ best_after None (offers ++ offers_at q server s e)
decided q server s e offer offers is h taken other lost = go (session_refusal server s e) refl
  where
    still : (why : SessionFault)
        → is_judged (Some why) ≡ false
        → offer_kept q s.standing
        ≡ best_after None (offers ++ (if is_judged (Some why) then of_peer q (offer_of server s e) else []))
    still why not =
        h
        ∙ sym (ap (best_after None) (append_nil offers))
        ∙ sym (ap (λ b. best_after None (offers ++ cond b (of_peer q (offer_of server s e)) [])) not)

    go : (o : Option SessionFault)
        → session_refusal server s e ≡ o
        → offer_kept q (next_of s (session_after server s e) o).standing
        ≡ best_after None (offers ++ (if is_judged o then of_peer q (offer_of server s e) else []))
    go None f =
        judged q offer offers (offer_kept q s.standing) (offer_kept q (session_after server s e).standing) h
        (λ same.
        subst (λ p. offer_kept p (session_after server s e).standing ≡ better_of_kept offer (offer_kept p s.standing))
        same (taken f))
        (other f)
        ∙ ap (λ x. best_after None (offers ++ of_peer q x)) (sym is)
    go (Some (Duplicate kept)) f =
        judged q offer offers (offer_kept q s.standing) (offer_kept q s.standing) h
        (λ same.
        subst (λ p. offer_kept p s.standing ≡ better_of_kept offer (offer_kept p s.standing)) same (lost kept f))
        (λ apart. refl)
        ∙ ap (λ x. best_after None (offers ++ of_peer q x)) (sym is)
    go (Some WrongName) f = still WrongName refl
    go (Some OldIncarnation) f = still OldIncarnation refl
    go (Some UnknownSession) f = still UnknownSession refl
    go (Some TooManySessions) f = still TooManySessions refl
    go (Some Spent) f = still Spent refl

-- of an event without an offer, which leaves what is kept
without : (q : ℕ) (server : ServerIdentity) (s : State) (e : Event) (offers : List Offer)
    → offer_of server s e ≡ None
    → offer_kept q s.standing ≡ best_after None offers
    → (session_refusal server s e ≡ None → offer_kept q (session_after server s e).standing ≡ offer_kept q s.standing)
    → offer_kept q (next server s e).standing ≡ best_after None (offers ++ offers_at q server s e)
without q server s e offers none h same =
    go (session_refusal server s e) refl
    ∙ h
    ∙ sym (ap (best_after None) (append_nil offers))
    ∙ sym (ap (λ t. best_after None (offers ++ t)) (nothing (is_judged (session_refusal server s e))))
  where
    nothing : (b : Bool) → cond b (of_peer q (offer_of server s e)) [] ≡ []
    nothing true = ap (of_peer q) none
    nothing false = refl

    go : (o : Option SessionFault)
        → session_refusal server s e ≡ o
        → offer_kept q (next_of s (session_after server s e) o).standing ≡ offer_kept q s.standing
    go None f = same f
    go (Some why) f = refl

-- a kept session stands
kept_stands : (q : ℕ) (xs : List Session) (x : Session) → kept_for q xs ≡ Some x → In x xs
kept_stands q [] x e = absurd (none-some x e)
kept_stands q (y ∷ xs) x e = go (is_of_peer q y.kept) (kept_stands q xs x) e
  where
    go : (b : Bool) → (kept_for q xs ≡ Some x → In x xs) → cond b (Some y) (kept_for q xs) ≡ Some x → In x (y ∷ xs)
    go true later f = inl (sym (same_Some y x f))
    go false later f = inr (later f)

nobody_there : (k : ℕ) (xs : List Session) → session_at k xs ≡ None → Each (λ (x : Session). x.number ≢ k) xs
nobody_there k [] e x i = absurd i
nobody_there k (y ∷ xs) e x i = go (λ f j. nobody_there k xs f x j) (nat_eq y.number k) refl e i
  where
    go : (session_at k xs ≡ None → In x xs → x.number ≢ k)
        → (b : Bool)
        → nat_eq y.number k ≡ b
        → cond b (Some y) (session_at k xs) ≡ None
        → (x ≡ y) ⊎ In x xs
        → x.number ≢ k
    go rest true f g j = absurd (none-some y (sym g))
    go rest false f g (inl same) = λ h. eq_false y.number k f (sym (ap (λ (z : Session). z.number) same) ∙ h)
    go rest false f g (inr j) = rest g j

cut_one : (q : ℕ) (server : ServerIdentity) (s : State) (number : ℕ) (offers : List Offer)
    → Stand s
    → offer_kept q s.standing ≡ best_after None offers
    → offer_kept q (next server s (Cut number)).standing
    ≡ best_after None (if cuts q s (Cut number) then [] else offers ++ offers_at q server s (Cut number))
cut_one q server s number offers stand h = go (session_at number s.standing) refl
  where
    nothing : (b : Bool) → cond b (of_peer q None) [] ≡ []
    nothing true = refl
    nothing false = refl

    none_more : best_after None (offers ++ offers_at q server s (Cut number)) ≡ best_after None offers
    none_more =
        ap (λ t. best_after None (offers ++ t)) (nothing (is_judged (session_refusal server s (Cut number))))
        ∙ ap (best_after None) (append_nil offers)

    not_cut : session_at number s.standing ≡ None → is_number number (number_kept q s.standing) ≡ false
    not_cut none = by (kept_for q s.standing) refl
      where
        by : (o : Option Session)
            → kept_for q s.standing ≡ o
            → is_number number (option_map (λ (x : Session). x.number) o) ≡ false
        by None e = refl
        by (Some x) e = false_eq x.number number (nobody_there number s.standing none x (kept_stands q s.standing x e))

    go : (o : Option Session)
        → session_at number s.standing ≡ o
        → offer_kept q
        (next_of s (session_after server s (Cut number)) (cut_refusal (session_at number s.standing))).standing
        ≡ best_after None
        (cond (is_number number (number_kept q s.standing)) [] (offers ++ offers_at q server s (Cut number)))
    go None e =
        ap (λ o. offer_kept q (next_of s (session_after server s (Cut number)) (cut_refusal o)).standing) e
        ∙ h
        ∙ sym none_more
        ∙ sym (ap (λ b. best_after None (cond b [] (offers ++ offers_at q server s (Cut number)))) (not_cut e))
    go (Some session) e =
        ap (λ o. offer_kept q (next_of s (session_after server s (Cut number)) (cut_refusal o)).standing) e
        ∙ ended_kept q number s.standing stand.apart stand.once
        ∙ by (is_number number (number_kept q s.standing))
      where
        by : (b : Bool)
            → cond b None (offer_kept q s.standing)
            ≡ best_after None (cond b [] (offers ++ offers_at q server s (Cut number)))
        by true = refl
        by false = h ∙ sym none_more

step_kept : (q : ℕ) (server : ServerIdentity) (s : State) (e : Event) (offers : List Offer)
    → Stand s
    → offer_kept q s.standing ≡ best_after None offers
    → offer_kept q (next server s e).standing
    ≡ best_after None (if cuts q s e then [] else offers ++ offers_at q server s e)
step_kept q server s (Dial p) offers stand h =
    without q server s (Dial p) offers refl h (λ f. kept_opened q s.standing _ refl)
step_kept q server s Accept offers stand h =
    without q server s Accept offers refl h (λ f. kept_opened q s.standing _ refl)
step_kept q server s (OnInfo number info least) offers stand h = go (session_at number s.standing) refl
  where
    go : (o : Option Session)
        → session_at number s.standing ≡ o
        → offer_kept q (next server s (OnInfo number info least)).standing
        ≡ best_after None (offers ++ offers_at q server s (OnInfo number info least))
    go None at =
        without q server s (OnInfo number info least) offers
        (ap (option_map (λ session. info_offer server session info)) at) h
        (λ f. absurd (none-some UnknownSession (sym (sym (ap (λ o. info_refusal server s o info least) at) ∙ f))))
    go (Some session) at =
        let best = info_keeps_best server s number info least session at in
        decided q server s (OnInfo number info least) (info_offer server session info) offers
        (ap (option_map (λ session. info_offer server session info)) at) h best.taken
        (λ f apart.
        let new =
        (info_taken server s session info least (sym (ap (λ o. info_refusal server s o info least) at) ∙ f)).new in
        ap (λ o. offer_kept q (after_info server s info o).standing) at
        ∙ kept_other q session.number (info_offer server session info) s.standing apart
        (only_new s stand session.number session
        (ap (λ k. session_at k s.standing) (same_number number s.standing session at) ∙ at) new))
        best.refused
step_kept q server s (OnConnect number connect least) offers stand h = go (session_at number s.standing) refl
  where
    go : (o : Option Session)
        → session_at number s.standing ≡ o
        → offer_kept q (next server s (OnConnect number connect least)).standing
        ≡ best_after None (offers ++ offers_at q server s (OnConnect number connect least))
    go None at =
        without q server s (OnConnect number connect least) offers
        (ap (option_map (λ (session : Session). connect_offer server connect)) at) h
        (λ f. absurd (none-some UnknownSession (sym (sym (ap (λ o. connect_refusal server s o connect least) at) ∙ f))))
    go (Some session) at =
        let best = connect_keeps_best server s number connect least session at in
        decided q server s (OnConnect number connect least) (connect_offer server connect) offers
        (ap (option_map (λ (session : Session). connect_offer server connect)) at) h best.taken
        (λ f apart.
        let new =
        (connect_taken server s session connect least
        (sym (ap (λ o. connect_refusal server s o connect least) at) ∙ f)).new in
        kept_other q number (connect_offer server connect) s.standing apart (only_new s stand number session at new))
        best.refused
step_kept q server s (Cut number) offers stand h = cut_one q server s number offers stand h

over_kept : (q : ℕ) (server : ServerIdentity) (s : State) (es : List Event) (offers : List Offer)
    → Stand s
    → offer_kept q s.standing ≡ best_after None offers
    → offer_kept q (after_run server s es).standing ≡ best_after None (offers_since q server s es offers)
over_kept q server s [] offers stand h = h
over_kept q server s (e ∷ es) offers stand h =
    over_kept q server (next server s e) es (if cuts q s e then [] else offers ++ offers_at q server s e)
    (stands_next server s e stand) (step_kept q server s e offers stand h)

pub best_stays_kept : BestStaysKept
best_stays_kept server q events =
    over_kept q server no_sessions events [] (record { apart = tt; below = λ x i. absurd i; once = tt }) refl
