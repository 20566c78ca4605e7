-- The choice: each queue name goes to one server at most.
use Rattle.std.proofs.Common.{◌≡◌, ◌≢◌, ◌⊎◌, ℕ, zero, suc, ◌≤◌, Bool, true, false, true≢false, ◌||◌, cond, List, [], ◌∷◌, length, Option, Some, None, refl, sym, ap, ◌∙◌, subst, inl, inr, ⊎_elim, arith}
use Rattle.std.specs.Prelude.{filter}
use Rattle.std.specs.Str.{bytes_eq}
use Rattle.std.proofs.lemmas.Option.{none-some, same_Some}
use Rattle.std.proofs.lemmas.Slice.Eq.{bytes_eq-Decides}
use Rattle.list_laws.specs.Lists.{In, Pairs, NoRepeat, Disjoint}
use Rattle.list_laws.proofs.Lists.{in_read}
use Rattle.list_laws.proofs.Changes.{in_filter, pairs_filter}
use Rattle.list_laws.proofs.Tests.{same_bytes}
use Rattle.subj.specs.Matching.{subject_matches}
use Rattle.subj.specs.QueueNames.{is_before, is_named}
use Rattle.subj.specs.Servers.{ServerIdentity}
use Rattle.interest.specs.Matches.{has_name, place_name, add_name, add_queue, names_in}
use Rattle.route_values.specs.Snapshots.{Weighted}
use Rattle.hub_core.specs.State.{State, Peer}
use Rattle.hub_core.specs.Choice.{is_eligible, names_for, names_from, queue_names}

abbrev pub Distinct : List (List ℕ) → Type 0
Distinct names = Pairs (λ x y. x ≢ y) names

pub in_place : (z name : List ℕ) (xs : List (List ℕ)) → In z (place_name name xs) → (z ≡ name) ⊎ In z xs
in_place z name [] i = ⊎_elim (λ e. inl e) (λ k. absurd k) i
in_place z name (x ∷ xs) i = go (in_place z name xs) (is_before name x) i
  where
    go : (In z (place_name name xs) → (z ≡ name) ⊎ In z xs)
        → (b : Bool)
        → In z (cond b (name ∷ x ∷ xs) (x ∷ place_name name xs))
        → (z ≡ name) ⊎ In z (x ∷ xs)
    go below true j = j
    go below false j =
        ⊎_elim (λ (e : z ≡ x). inr (inl e))
        (λ (k : In z (place_name name xs)). ⊎_elim (λ (e : z ≡ name). inl e) (λ (l : In z xs). inr (inr l)) (below k)) j

place_distinct : (name : List ℕ) (xs : List (List ℕ)) → Distinct xs → (In name xs → ⊥) → Distinct (place_name name xs)
place_distinct name [] d new = ((λ y i. absurd i), tt)
place_distinct name (x ∷ xs) d new = go (place_distinct name xs d.1 (λ i. new (inr i))) (is_before name x)
  where
    go : Distinct (place_name name xs) → (b : Bool) → Distinct (cond b (name ∷ x ∷ xs) (x ∷ place_name name xs))
    go below true = ((λ y i e. new (subst (λ t. In t (x ∷ xs)) (sym e) i)), d)
    go below false = (
      (λ y i e.
          ⊎_elim (λ (f : y ≡ name). new (inl (sym f ∙ sym e))) (λ (k : In y xs). d.0 y k e) (in_place y name xs i)),
      below,
    )

has_there : (name : List ℕ) (xs : List (List ℕ)) → In name xs → has_name name xs ≡ true
has_there name [] i = absurd i
has_there name (x ∷ xs) i = go (has_there name xs) (bytes_eq name x) refl i
  where
    go : (In name xs → has_name name xs ≡ true)
        → (b : Bool)
        → bytes_eq name x ≡ b
        → In name (x ∷ xs)
        → (b || has_name name xs) ≡ true
    go below true e j = refl
    go below false e j =
        ⊎_elim (λ (f : name ≡ x). absurd (true≢false (sym ((bytes_eq-Decides name x).1 f) ∙ e)))
        (λ (k : In name xs). below k) j

add_distinct : (name : List ℕ) (xs : List (List ℕ)) → Distinct xs → Distinct (add_name name xs)
add_distinct name xs d = go (has_name name xs) refl
  where
    go : (b : Bool) → has_name name xs ≡ b → Distinct (cond b xs (place_name name xs))
    go true e = d
    go false e = place_distinct name xs d (λ i. true≢false (sym (has_there name xs i) ∙ e))

queue_distinct : (matches : Bool) (queue : Option (List ℕ)) (xs : List (List ℕ))
    → Distinct xs
    → Distinct (add_queue matches queue xs)
queue_distinct matches None xs d = d
queue_distinct true (Some name) xs d = add_distinct name xs d
queue_distinct false (Some name) xs d = d

keys_distinct : (subject : List ℕ) (keys : List Weighted) (xs : List (List ℕ))
    → Distinct xs
    → Distinct (names_in subject keys xs)
keys_distinct subject [] xs d = d
keys_distinct subject (entry ∷ keys) xs d =
    keys_distinct subject keys (add_queue (subject_matches entry.0.pattern subject) entry.0.queue xs)
    (queue_distinct (subject_matches entry.0.pattern subject) entry.0.queue xs d)

peers_distinct : (server : ServerIdentity) (subject : List ℕ) (q : ℕ) (peers : List Peer) (xs : List (List ℕ))
    → Distinct xs
    → Distinct (names_from server subject q peers xs)
peers_distinct server subject q [] xs d = d
peers_distinct server subject q (peer ∷ peers) xs d =
    peers_distinct server subject (suc q) peers
    (cond (is_eligible server q peer) (names_in subject peer.heard.keys xs) xs) (go (is_eligible server q peer))
  where
    go : (b : Bool) → Distinct (cond b (names_in subject peer.heard.keys xs) xs)
    go true = keys_distinct subject peer.heard.keys xs d
    go false = d

pub names_distinct : (server : ServerIdentity) (hub : State) (subject : List ℕ)
    → Distinct (queue_names server hub subject)
names_distinct server hub subject =
    peers_distinct server subject 0 hub.peers (names_in subject hub.counts []) (keys_distinct subject hub.counts [] tt)

no_repeat : (xs : List (List ℕ)) → Distinct xs → NoRepeat xs
no_repeat [] d i j x e f = absurd (none-some x e)
no_repeat (y ∷ xs) d zero zero x e f = refl
no_repeat (y ∷ xs) d zero (suc j) x e f = absurd (d.0 x (in_read xs j x f) (same_Some y x e))
no_repeat (y ∷ xs) d (suc i) zero x e f = absurd (d.0 x (in_read xs i x e) (same_Some y x f))
no_repeat (y ∷ xs) d (suc i) (suc j) x e f = ap suc (no_repeat xs d.1 i j x e f)

-- one server for a name
at_one : (a b : List ℕ) (o : Option (List ℕ)) → is_named a o ≡ true → is_named b o ≡ true → a ≡ b
at_one a b None e f = absurd (true≢false (sym e))
at_one a b (Some s) e f = sym (same_bytes s a e) ∙ same_bytes s b f

pub names_apart : (choice : List ℕ → Option (List ℕ)) (a b : List ℕ) (names : List (List ℕ))
    → a ≢ b
    → Disjoint (names_for choice a names) (names_for choice b names)
names_apart choice a b names apart x i j =
    apart (at_one a b (choice x) (in_filter (λ name. is_named a (choice name)) names x i).1
    (in_filter (λ name. is_named b (choice name)) names x j).1)

pub for_distinct : (choice : List ℕ → Option (List ℕ)) (a : List ℕ) (names : List (List ℕ))
    → Distinct names
    → NoRepeat (names_for choice a names)
for_distinct choice a names d =
    no_repeat (names_for choice a names) (pairs_filter (λ x y. x ≢ y) (λ name. is_named a (choice name)) names d)

-- no more names than there are
pub fewer : {A : Type 0} (test : A → Bool) (xs : List A) → length (filter test xs) ≤ length xs
fewer test [] = omega arith
fewer test (x ∷ xs) = go (fewer test xs) (test x)
  where
    go : length (filter test xs) ≤ length xs
        → (b : Bool)
        → length (cond b (x ∷ filter test xs) (filter test xs)) ≤ length (x ∷ xs)
    go below true = omega arith
    go below false = omega arith
