-- What the sessions of a server keep, over each change of those that stand.
use Rattle.std.proofs.Common.{◌≡◌, ℕ, ◌<◌, ◌≤◌, Bool, true, false, not, nat_eq, cond, List, [], ◌∷◌, length, map, get_or, All, Some, refl, sym, ap, ◌∙◌, subst, arith}
use Rattle.std.specs.Prelude.{filter, find}
use Rattle.std.specs.List.{AllPairs}
use Rattle.std.proofs.lemmas.Option.{none-some, same_Some}
use Rattle.std.proofs.lemmas.List.{get_or-map, length-map}
use Rattle.std.proofs.lemmas.List.Elements.{All-head, All-tail, All-filter, All-map, All-weaker}
use Rattle.std.proofs.lemmas.List.Filters.{length-filter_both}
use Rattle.std.proofs.lemmas.List.Kept.{AllPairs-filter}
use Rattle.subj.specs.declared.limits.TheConstants.{MAX_SESSIONS}
use Rattle.subj.specs.Servers.{ServerIdentity, is_peer}
use Rattle.route_session.specs.Best.{Offer}
use Rattle.route_session.specs.State.{State, Session}
use Rattle.route_session.specs.Steps.{kept_at}
use Rattle.route_session.specs.Calls.{IsSession, AreSessions}

-- what holds of each holds of the one that is found
pub found : {A : Type 0} (P : A → Type 0) (test : A → Bool) (xs : List A) (x : A)
    → All P xs
    → find test xs ≡ Some x
    → P x
found P test [] x all e = absurd (none-some x e)
found {A} P test (y ∷ ys) x all e = go (found P test ys x (All-tail P y ys all)) (test y) e
  where
    go : (find test ys ≡ Some x → P x) → (b : Bool) → cond b (Some y) (find test ys) ≡ Some x → P x
    go later true f = subst P (same_Some y x f) (All-head P y ys all)
    go later false f = later f

-- some of them end
pub some_end : (server : ServerIdentity) (s : State) (test : Session → Bool)
    → AreSessions server s
    → AreSessions server (record s { standing = filter test s.standing })
some_end server s test is = record {
  numbers = is.numbers;
  dials = is.dials;
  few =
      let both = length-filter_both test (λ x. not (test x)) (λ x. refl) s.standing in let few = is.few in omega arith;
  rising = AllPairs-filter (λ (a b : Session). a.number < b.number) test s.standing is.rising;
  each = All-filter test (IsSession server s.numbers s.dials) s.standing is.each;
}

same_number : (number : ℕ) (offer : Offer) (session : Session) → (kept_at number offer session).number ≡ session.number
same_number number offer session = go (nat_eq session.number number)
  where
    go : (b : Bool) → (cond b (record session { kept = Some offer }) session).number ≡ session.number
    go true = refl
    go false = refl

rising_kept : (number : ℕ) (offer : Offer) (xs : List Session)
    → AllPairs (λ (a b : Session). a.number < b.number) xs
    → AllPairs (λ (a b : Session). a.number < b.number) (map (kept_at number offer) xs)
rising_kept number offer xs rising i j d low high =
    let f = kept_at number offer in
    let within : j < length xs = subst (λ n. j < n) (length-map xs f) high in
    let first : get_or (map f xs) i d ≡ f (get_or xs i d) = get_or-map f xs i d d (omega arith) in
    let second : get_or (map f xs) j d ≡ f (get_or xs j d) = get_or-map f xs j d d within in
    let below : (get_or xs i d).number < (get_or xs j d).number = rising i j d low within in
    subst (λ n. n < (get_or (map f xs) j d).number)
    (sym (ap (λ (x : Session). x.number) first ∙ same_number number offer (get_or xs i d)))
    (subst (λ n. (get_or xs i d).number < n)
    (sym (ap (λ (x : Session). x.number) second ∙ same_number number offer (get_or xs j d))) below)

session_kept : (server : ServerIdentity) (numbers dials number : ℕ) (offer : Offer)
    → is_peer server offer.peer ≡ true
    → (session : Session)
    → IsSession server numbers dials session
    → IsSession server numbers dials (kept_at number offer session)
session_kept server numbers dials number offer peer session is = go (nat_eq session.number number)
  where
    go : (b : Bool) → IsSession server numbers dials (cond b (record session { kept = Some offer }) session)
    go true = record { first = is.first; last = is.last; dial = is.dial; peer = peer }
    go false = is

-- what a peer offers is kept
pub one_kept : (server : ServerIdentity) (s : State) (number : ℕ) (offer : Offer)
    → is_peer server offer.peer ≡ true
    → AreSessions server s
    → AreSessions server (record s { standing = map (kept_at number offer) s.standing })
one_kept server s number offer peer is = record {
  numbers = is.numbers;
  dials = is.dials;
  few = subst (λ n. n ≤ MAX_SESSIONS) (sym (length-map s.standing (kept_at number offer))) is.few;
  rising = rising_kept number offer s.standing is.rising;
  each =
      All-map (IsSession server s.numbers s.dials) (kept_at number offer) s.standing
      (All-weaker (IsSession server s.numbers s.dials)
      (λ x. IsSession server s.numbers s.dials (kept_at number offer x))
      (session_kept server s.numbers s.dials number offer peer) s.standing is.each);
}
