-- Of the kept session and the new one the better stays.
use Rattle.std.proofs.Common.{◌≡◌, ℕ, Bool, true, false, true≢false, not, ◌&&◌, ◌||◌, cond, nat_eq, nat_lt, List, [], ◌∷◌, map, Option, Some, None, refl, sym, ap, ◌∙◌}
use Rattle.std.specs.Prelude.{filter, is_some, if◌then◌else◌}
use Rattle.std.specs.Option.{option_and_then}
use Rattle.std.proofs.lemmas.Option.{none-some, same_Some}
use Rattle.list_laws.proofs.Tests.{eq_true, true_eq, no_cause, and_true, not_false}
use Rattle.subj.specs.Servers.{ServerIdentity, place, is_peer}
use Rattle.route_values.specs.Records.{Info, Connect}
use Rattle.route_session.specs.declared.faults.SessionFault.{SessionFault}
use Rattle.route_session.specs.declared.faults.SessionFault.TheVariants.{WrongName, OldIncarnation, Duplicate, UnknownSession}
use Rattle.route_session.specs.Best.{Offer, is_better, better_of_kept}
use Rattle.route_session.specs.State.{State, Session, session_at, is_of_peer, kept_for, offer_kept}
use Rattle.route_session.specs.Steps.{duplicate_fault, loses_to, info_offer, connect_offer, info_fault, info_refusal, connect_fault, connect_refusal, is_not_of_peer, kept_at, after_info}
use Rattle.route_session.specs.Laws.{InfoKeepsBest, ConnectKeepsBest}

-- ---- the session is the kept one

-- the first of that number is found, with its offer
kept_there : (k : ℕ) (offer : Offer) (xs : List Session) (x : Session)
    → session_at k xs ≡ Some x
    → is_some x.kept ≡ false
    → offer_kept offer.peer (map (kept_at k offer) (filter (is_not_of_peer offer.peer) xs)) ≡ Some offer
kept_there k offer [] x at new = absurd (none-some x at)
kept_there k offer (y ∷ xs) x at new =
    go (λ later. kept_there k offer xs x later new) (is_of_peer offer.peer y.kept) refl (nat_eq y.number k) refl at
  where
    is_kept : (o : Option Offer) → is_of_peer offer.peer o ≡ true → is_some o ≡ true
    is_kept None e = absurd (true≢false (sym e))
    is_kept (Some other) e = refl

    -- the entry stays
    stays : (session_at k xs ≡ Some x
        → offer_kept offer.peer (map (kept_at k offer) (filter (is_not_of_peer offer.peer) xs)) ≡ Some offer)
        → (c : Bool)
        → is_of_peer offer.peer y.kept ≡ false
        → cond c (Some y) (session_at k xs) ≡ Some x
        → offer_kept offer.peer
        (cond c (record y { kept = Some offer }) y ∷ map (kept_at k offer) (filter (is_not_of_peer offer.peer) xs))
        ≡ Some offer
    stays later true e h =
        ap (λ b.
        option_and_then (λ (s : Session). s.kept)
        (cond b (Some (record y { kept = Some offer }))
        (kept_for offer.peer (map (kept_at k offer) (filter (is_not_of_peer offer.peer) xs)))))
        (true_eq offer.peer offer.peer refl)
    stays later false e h =
        ap (λ b.
        option_and_then (λ (s : Session). s.kept)
        (cond b (Some y) (kept_for offer.peer (map (kept_at k offer) (filter (is_not_of_peer offer.peer) xs)))))
        e
        ∙ later h

    go : (session_at k xs ≡ Some x
        → offer_kept offer.peer (map (kept_at k offer) (filter (is_not_of_peer offer.peer) xs)) ≡ Some offer)
        → (b : Bool)
        → is_of_peer offer.peer y.kept ≡ b
        → (c : Bool)
        → nat_eq y.number k ≡ c
        → cond c (Some y) (session_at k xs) ≡ Some x
        → offer_kept offer.peer
        (map (kept_at k offer)
        (cond (not b) (y ∷ filter (is_not_of_peer offer.peer) xs) (filter (is_not_of_peer offer.peer) xs))) ≡ Some offer
    go later true e true f h =
        absurd (true≢false (sym (is_kept y.kept e) ∙ ap (λ (s : Session). is_some s.kept) (same_Some y x h) ∙ new))
    go later true e false f h = later h
    go later false e c f h =
        ap (λ c.
        offer_kept offer.peer
        (cond c (record y { kept = Some offer }) y ∷ map (kept_at k offer) (filter (is_not_of_peer offer.peer) xs)))
        f
        ∙ stays later c e h

-- ---- against the one that was kept

wins : (offer : Offer) (o : Option Session)
    → duplicate_fault offer o ≡ None
    → Some offer ≡ better_of_kept offer (option_and_then (λ s. s.kept) o)
wins offer None e = refl
wins offer (Some old) e = by old.kept e
  where
    by : (kept : Option Offer) → loses_to offer old.number kept ≡ None → Some offer ≡ better_of_kept offer kept
    by None e = refl
    by (Some other) e = go (is_better offer other) refl e
      where
        go : (b : Bool)
            → is_better offer other ≡ b
            → cond b None (Some (Duplicate old.number)) ≡ None
            → Some offer ≡ Some (cond (is_better offer other) offer other)
        go true f h = ap (λ b. Some (cond b offer other)) (sym f)
        go false f h = absurd (none-some (Duplicate old.number) (sym h))

loses : (offer : Offer) (kept : ℕ) (o : Option Session)
    → duplicate_fault offer o ≡ Some (Duplicate kept)
    → option_and_then (λ (s : Session). s.kept) o ≡ better_of_kept offer (option_and_then (λ s. s.kept) o)
loses offer kept None e = absurd (none-some (Duplicate kept) e)
loses offer kept (Some old) e = by old.kept e
  where
    by : (o : Option Offer) → loses_to offer old.number o ≡ Some (Duplicate kept) → o ≡ better_of_kept offer o
    by None e = absurd (none-some (Duplicate kept) e)
    by (Some other) e = go (is_better offer other) refl e
      where
        go : (b : Bool)
            → is_better offer other ≡ b
            → cond b None (Some (Duplicate old.number)) ≡ Some (Duplicate kept)
            → Some other ≡ Some (cond (is_better offer other) offer other)
        go true f h = absurd (none-some (Duplicate kept) h)
        go false f h = ap (λ b. Some (cond b offer other)) (sym f)

-- ---- the tests before

abbrev is_duplicate : Option SessionFault → Bool
is_duplicate None = false
is_duplicate (Some WrongName) = false
is_duplicate (Some OldIncarnation) = false
is_duplicate (Some (Duplicate kept)) = true
is_duplicate (Some UnknownSession) = false
is_duplicate (Some other) = false

-- a duplicate isn't told by a test with another cause
past : (b : Bool) (why : SessionFault) (o : Option SessionFault) (kept : ℕ)
    → is_duplicate (Some why) ≡ false
    → (if b then Some why else o) ≡ Some (Duplicate kept)
    → o ≡ Some (Duplicate kept)
past true why o kept other e = absurd (true≢false (sym (ap is_duplicate e) ∙ other))
past false why o kept other e = e

-- ---- an INFO

pub record AfterInfo (server : ServerIdentity) (s : State) (session : Session) (info : Info)
    (end : Option SessionFault) : Type 0 where
  pub q : ℕ
  pub new : is_some session.kept ≡ false
  pub peer : place server info.server_name ≡ q
  pub told : duplicate_fault (info_offer server session info) (kept_for q s.standing) ≡ end

pub info_taken : (server : ServerIdentity) (s : State) (session : Session) (info : Info) (least : ℕ)
    → info_refusal server s (Some session) info least ≡ None
    → AfterInfo server s session info None
info_taken server s session info least e =
    let f = no_cause (is_some session.kept) UnknownSession (info_fault server s session info least session.dialed) e in
    by session.dialed f.0 f.1
  where
    by : (o : Option ℕ)
        → is_some session.kept ≡ false
        → info_fault server s session info least o ≡ None
        → AfterInfo server s session info None
    by None new e = absurd (none-some UnknownSession (sym e))
    by (Some q) new e =
        let f = no_cause (not (nat_eq (place server info.server_name) q && is_peer server q)) WrongName
        (if nat_lt info.inc least then Some OldIncarnation
        else duplicate_fault (info_offer server session info) (kept_for q s.standing))
        e in
        let g = no_cause (nat_lt info.inc least) OldIncarnation
        (duplicate_fault (info_offer server session info) (kept_for q s.standing)) f.1 in
        record {
          q = q;
          new = new;
          peer =
              eq_true (place server info.server_name) q
              ((and_true (nat_eq (place server info.server_name) q) (is_peer server q)
              (not_false (nat_eq (place server info.server_name) q && is_peer server q) f.0)).0);
          told = g.1;
        }

info_lost : (server : ServerIdentity) (s : State) (session : Session) (info : Info) (least kept : ℕ)
    → info_refusal server s (Some session) info least ≡ Some (Duplicate kept)
    → duplicate_fault (info_offer server session info) (kept_for (place server info.server_name) s.standing)
    ≡ Some (Duplicate kept)
info_lost server s session info least kept e =
    by session.dialed
    (past (is_some session.kept) UnknownSession (info_fault server s session info least session.dialed) kept refl e)
  where
    by : (o : Option ℕ)
        → info_fault server s session info least o ≡ Some (Duplicate kept)
        → duplicate_fault (info_offer server session info) (kept_for (place server info.server_name) s.standing)
        ≡ Some (Duplicate kept)
    by None e = absurd (true≢false (sym (ap is_duplicate e)))
    by (Some q) e = go (not (nat_eq (place server info.server_name) q && is_peer server q)) refl e
      where
        go : (b : Bool)
            → (not (nat_eq (place server info.server_name) q && is_peer server q)) ≡ b
            → (if b then Some WrongName
            else (if nat_lt info.inc least then Some OldIncarnation
            else duplicate_fault (info_offer server session info) (kept_for q s.standing))) ≡ Some (Duplicate kept)
            → duplicate_fault (info_offer server session info) (kept_for (place server info.server_name) s.standing)
            ≡ Some (Duplicate kept)
        go true f h = absurd (true≢false (sym (ap is_duplicate h)))
        go false f h =
            let same = eq_true (place server info.server_name) q
            (and_true (nat_eq (place server info.server_name) q) (is_peer server q)
            (not_false (nat_eq (place server info.server_name) q && is_peer server q) f)).0 in
            ap (λ p. duplicate_fault (info_offer server session info) (kept_for p s.standing)) same
            ∙ past (nat_lt info.inc least) OldIncarnation
            (duplicate_fault (info_offer server session info) (kept_for q s.standing)) kept refl h

pub same_number : (k : ℕ) (xs : List Session) (x : Session) → session_at k xs ≡ Some x → x.number ≡ k
same_number k [] x at = absurd (none-some x at)
same_number k (y ∷ xs) x at = go (same_number k xs x) (nat_eq y.number k) refl at
  where
    go : (session_at k xs ≡ Some x → x.number ≡ k)
        → (b : Bool)
        → nat_eq y.number k ≡ b
        → cond b (Some y) (session_at k xs) ≡ Some x
        → x.number ≡ k
    go later true e h = ap (λ (s : Session). s.number) (sym (same_Some y x h)) ∙ eq_true y.number k e
    go later false e h = later h

pub info_keeps_best : InfoKeepsBest
info_keeps_best server s number info least session at = record {
  taken = λ e.
      let t = info_taken server s session info least (ap (λ o. info_refusal server s o info least) (sym at) ∙ e) in
      ap (λ o. offer_kept (place server info.server_name) (after_info server s info o).standing) at
      ∙ kept_there session.number (info_offer server session info) s.standing session
      (ap (λ k. session_at k s.standing) (same_number number s.standing session at) ∙ at) t.new
      ∙ wins (info_offer server session info) (kept_for (place server info.server_name) s.standing)
      (ap (λ p. duplicate_fault (info_offer server session info) (kept_for p s.standing)) t.peer ∙ t.told);
  refused = λ kept e.
      loses (info_offer server session info) kept (kept_for (place server info.server_name) s.standing)
      (info_lost server s session info least kept (ap (λ o. info_refusal server s o info least) (sym at) ∙ e));
}

-- ---- a CONNECT

pub record AfterConnect (server : ServerIdentity) (s : State) (session : Session) (connect : Connect) : Type 0 where
  pub new : is_some session.kept ≡ false
  pub told :
      duplicate_fault (connect_offer server connect) (kept_for (place server connect.server_name) s.standing) ≡ None

pub connect_taken : (server : ServerIdentity) (s : State) (session : Session) (connect : Connect) (least : ℕ)
    → connect_refusal server s (Some session) connect least ≡ None
    → AfterConnect server s session connect
connect_taken server s session connect least e =
    let f = no_cause (is_some session.kept) UnknownSession (connect_fault server s connect least session.dialed) e in
    by session.dialed f.0 f.1
  where
    by : (o : Option ℕ)
        → is_some session.kept ≡ false
        → connect_fault server s connect least o ≡ None
        → AfterConnect server s session connect
    by (Some q) new e = absurd (none-some UnknownSession (sym e))
    by None new e =
        let last =
        duplicate_fault (connect_offer server connect) (kept_for (place server connect.server_name) s.standing) in
        let f = no_cause
        (not (nat_eq (place server connect.to) server.me && is_peer server (place server connect.server_name)))
        WrongName
        (if nat_lt connect.inc least || not (nat_eq connect.to_inc server.inc) then Some OldIncarnation else last) e in
        let g = no_cause (nat_lt connect.inc least || not (nat_eq connect.to_inc server.inc)) OldIncarnation last f.1 in
        record { new = new; told = g.1 }

connect_lost : (server : ServerIdentity) (s : State) (session : Session) (connect : Connect) (least kept : ℕ)
    → connect_refusal server s (Some session) connect least ≡ Some (Duplicate kept)
    → duplicate_fault (connect_offer server connect) (kept_for (place server connect.server_name) s.standing)
    ≡ Some (Duplicate kept)
connect_lost server s session connect least kept e =
    by session.dialed
    (past (is_some session.kept) UnknownSession (connect_fault server s connect least session.dialed) kept refl e)
  where
    by : (o : Option ℕ)
        → connect_fault server s connect least o ≡ Some (Duplicate kept)
        → duplicate_fault (connect_offer server connect) (kept_for (place server connect.server_name) s.standing)
        ≡ Some (Duplicate kept)
    by (Some q) e = absurd (true≢false (sym (ap is_duplicate e)))
    by None e =
        let last =
        duplicate_fault (connect_offer server connect) (kept_for (place server connect.server_name) s.standing) in
        past (nat_lt connect.inc least || not (nat_eq connect.to_inc server.inc)) OldIncarnation last kept refl
        (past (not (nat_eq (place server connect.to) server.me && is_peer server (place server connect.server_name)))
        WrongName
        (if nat_lt connect.inc least || not (nat_eq connect.to_inc server.inc) then Some OldIncarnation else last) kept
        refl e)

pub connect_keeps_best : ConnectKeepsBest
connect_keeps_best server s number connect least session at = record {
  taken = λ e.
      let t =
      connect_taken server s session connect least (ap (λ o. connect_refusal server s o connect least) (sym at) ∙ e) in
      kept_there number (connect_offer server connect) s.standing session at t.new
      ∙ wins (connect_offer server connect) (kept_for (place server connect.server_name) s.standing) t.told;
  refused = λ kept e.
      loses (connect_offer server connect) kept (kept_for (place server connect.server_name) s.standing)
      (connect_lost server s session connect least kept
      (ap (λ o. connect_refusal server s o connect least) (sym at) ∙ e));
}
