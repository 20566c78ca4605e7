-- The queue names of a publication rise, and are those that are wanted.
use Rattle.std.proofs.Common.{◌≡◌, ◌⊎◌, ℕ, zero, suc, ◌+◌, Bool, true, false, true≢false, ◌&&◌, ◌||◌, cond, List, [], ◌∷◌, Option, Some, None, refl, sym, ap, ◌∙◌, subst, inl, inr, ⊎_elim, arith}
use Rattle.std.specs.Prelude.{◌↔◌, slice_get}
use Rattle.std.specs.Str.{bytes_eq}
use Rattle.std.specs.Cmp.Lexicographic.{slice_cmp, nat_list_cmp_total}
use Rattle.std.specs.declared.cmp.Ordering.{Ordering}
use Rattle.std.specs.declared.cmp.Ordering.TheVariants.{Less, Equal, Greater}
use Rattle.std.specs.Ordering.{is_lt, nat_cmp, ordering_reverse}
use Rattle.std.proofs.lemmas.Map.Lookups.{exact_bytes}
use Rattle.std.proofs.lemmas.Option.{none-some, same_Some}
use Rattle.std.proofs.lemmas.Slice.Eq.{bytes_eq-Decides}
use Rattle.list_laws.specs.Lists.{In}
use Rattle.list_laws.proofs.Tests.{same_bytes, and_true, or_false}
use Rattle.subj.specs.declared.keys.Key.{Key}
use Rattle.subj.specs.Matching.{subject_matches}
use Rattle.subj.specs.QueueNames.{is_before, is_before_first, are_rising}
use Rattle.subj.specs.Servers.{ServerIdentity}
use Rattle.interest.specs.Matches.{has_name, place_name, add_name, add_queue, names_in}
use Rattle.hub_core.specs.State.{Peer}
use Rattle.hub_core.specs.Choice.{is_eligible, names_from}
use Rattle.hub_core.specs.Wanted.{Wants, SomeWants, PeerWants, NamesAreWanted}
use Rattle.hub_core.proofs.Choices.Names.{in_place}

-- ---- in order

abbrev Rises : List (List ℕ) → Type 0
Rises names = are_rising names ≡ true

both : (a b : Bool) → a ≡ true → b ≡ true → (a && b) ≡ true
both a b e f = ap (λ a. a && b) e ∙ f

-- of two names that differ one stands before
turned : (x y : List ℕ) → is_before x y ≡ false → bytes_eq x y ≡ false → is_before y x ≡ true
turned x y e other = go (slice_cmp nat_cmp x y) refl e
  where
    go : (r : Ordering) → slice_cmp nat_cmp x y ≡ r → is_lt r ≡ false → is_before y x ≡ true
    go Less is f = absurd (true≢false f)
    go Equal is f = absurd (true≢false (sym ((bytes_eq-Decides x y).1 (exact_bytes x y is)) ∙ other))
    go Greater is f = ap is_lt (nat_list_cmp_total.antisymm y x ∙ ap ordering_reverse is)

place_rises : (name : List ℕ) (xs : List (List ℕ)) → Rises xs → has_name name xs ≡ false → Rises (place_name name xs)
place_rises name [] r new = refl
place_rises name (x ∷ xs) r new = go (place_rises name xs) (is_before name x) refl
  where
    parts : (is_before_first x xs ≡ true) × Rises xs
    parts = and_true (is_before_first x xs) (are_rising xs) r

    news : (bytes_eq name x ≡ false) × (has_name name xs ≡ false)
    news = or_false (bytes_eq name x) (has_name name xs) new

    -- the head stands before the next one
    first : (ys : List (List ℕ))
        → is_before_first x ys ≡ true
        → is_before x name ≡ true
        → is_before_first x (place_name name ys) ≡ true
    first [] e f = f
    first (y ∷ ys) e f = by (is_before name y)
      where
        by : (b : Bool) → is_before_first x (cond b (name ∷ y ∷ ys) (y ∷ place_name name ys)) ≡ true
        by true = f
        by false = e

    go : (Rises xs → has_name name xs ≡ false → Rises (place_name name xs))
        → (b : Bool)
        → is_before name x ≡ b
        → Rises (cond b (name ∷ x ∷ xs) (x ∷ place_name name xs))
    go later true e = both (is_before name x) (are_rising (x ∷ xs)) e r
    go later false e =
        both (is_before_first x (place_name name xs)) (are_rising (place_name name xs))
        (first xs parts.0 (turned name x e news.0)) (later parts.1 news.1)

add_rises : (name : List ℕ) (xs : List (List ℕ)) → Rises xs → Rises (add_name name xs)
add_rises name xs r = go (has_name name xs) refl
  where
    go : (b : Bool) → has_name name xs ≡ b → Rises (cond b xs (place_name name xs))
    go true e = r
    go false e = place_rises name xs r e

queue_rises : (matches : Bool) (queue : Option (List ℕ)) (xs : List (List ℕ))
    → Rises xs
    → Rises (add_queue matches queue xs)
queue_rises matches None xs r = r
queue_rises true (Some name) xs r = add_rises name xs r
queue_rises false (Some name) xs r = r

keys_rise : (subject : List ℕ) (keys : List (Key × ℕ)) (xs : List (List ℕ))
    → Rises xs
    → Rises (names_in subject keys xs)
keys_rise subject [] xs r = r
keys_rise subject (entry ∷ keys) xs r =
    keys_rise subject keys (add_queue (subject_matches entry.0.pattern subject) entry.0.queue xs)
    (queue_rises (subject_matches entry.0.pattern subject) entry.0.queue xs r)

peers_rise : (server : ServerIdentity) (subject : List ℕ) (q : ℕ) (peers : List Peer) (xs : List (List ℕ))
    → Rises xs
    → Rises (names_from server subject q peers xs)
peers_rise server subject q [] xs r = r
peers_rise server subject q (peer ∷ peers) xs r =
    peers_rise server subject (suc q) peers (cond (is_eligible server q peer) (names_in subject peer.heard.keys xs) xs)
    (go (is_eligible server q peer))
  where
    go : (b : Bool) → Rises (cond b (names_in subject peer.heard.keys xs) xs)
    go true = keys_rise subject peer.heard.keys xs r
    go false = r

-- ---- just those that are wanted

place_here : (name : List ℕ) (xs : List (List ℕ)) → In name (place_name name xs)
place_here name [] = inl refl
place_here name (x ∷ xs) = go (place_here name xs) (is_before name x)
  where
    go : In name (place_name name xs) → (b : Bool) → In name (cond b (name ∷ x ∷ xs) (x ∷ place_name name xs))
    go below true = inl refl
    go below false = inr below

place_there : (z name : List ℕ) (xs : List (List ℕ)) → In z xs → In z (place_name name xs)
place_there z name [] i = absurd i
place_there z name (x ∷ xs) i = go (place_there z name xs) (is_before name x)
  where
    go : (In z xs → In z (place_name name xs)) → (b : Bool) → In z (cond b (name ∷ x ∷ xs) (x ∷ place_name name xs))
    go below true = inr i
    go below false = ⊎_elim (λ (e : z ≡ x). inl e) (λ (k : In z xs). inr (below k)) i

there : (name : List ℕ) (xs : List (List ℕ)) → has_name name xs ≡ true → In name xs
there name [] e = absurd (true≢false (sym e))
there name (x ∷ xs) e = go (there name xs) (bytes_eq name x) refl e
  where
    go : (has_name name xs ≡ true → In name xs)
        → (b : Bool)
        → bytes_eq name x ≡ b
        → (b || has_name name xs) ≡ true
        → In name (x ∷ xs)
    go below true f h = inl (same_bytes name x f)
    go below false f h = inr (below h)

added : (z name : List ℕ) (xs : List (List ℕ)) → In z (add_name name xs) ↔ ((z ≡ name) ⊎ In z xs)
added z name xs = go (has_name name xs) refl
  where
    go : (b : Bool) → has_name name xs ≡ b → In z (cond b xs (place_name name xs)) ↔ ((z ≡ name) ⊎ In z xs)
    go true e = (
      (λ i. inr i),
      (λ x. ⊎_elim (λ (f : z ≡ name). subst (λ n. In n xs) (sym f) (there name xs e)) (λ (i : In z xs). i) x),
    )
    go false e = (
      (λ i. in_place z name xs i),
      (λ x.
          ⊎_elim (λ (f : z ≡ name). subst (λ n. In n (place_name name xs)) (sym f) (place_here name xs))
          (λ (i : In z xs). place_there z name xs i) x),
    )

abbrev Here : List ℕ → Bool → Option (List ℕ) → Type 0
Here z matches queue = (queue ≡ Some z) × (matches ≡ true)

queued : (z : List ℕ) (matches : Bool) (queue : Option (List ℕ)) (xs : List (List ℕ))
    → In z (add_queue matches queue xs) ↔ (Here z matches queue ⊎ In z xs)
queued z matches None xs = (
  (λ i. inr i),
  (λ x. ⊎_elim (λ (h : Here z matches None). absurd (none-some z h.0)) (λ (i : In z xs). i) x),
)
queued z true (Some name) xs = (
  (λ i.
      ⊎_elim (λ (e : z ≡ name). inl (ap (λ (n : List ℕ). Some n) (sym e), refl)) (λ (j : In z xs). inr j)
      ((added z name xs).0 i)),
  (λ x.
      ⊎_elim (λ (h : Here z true (Some name)). (added z name xs).1 (inl (sym (same_Some name z h.0))))
      (λ (i : In z xs). (added z name xs).1 (inr i)) x),
)
queued z false (Some name) xs = (
  (λ i. inr i),
  (λ x. ⊎_elim (λ (h : Here z false (Some name)). absurd (true≢false (sym h.1))) (λ (i : In z xs). i) x),
)

pub from_keys : (subject z : List ℕ) (keys : List (Key × ℕ)) (xs : List (List ℕ))
    → In z (names_in subject keys xs)
    → SomeWants subject z keys ⊎ In z xs
from_keys subject z [] xs i = inr i
from_keys subject z (entry ∷ keys) xs i =
    let matches = subject_matches entry.0.pattern subject in
    ⊎_elim (λ (s : SomeWants subject z keys). inl (s.0, inr s.1, s.2))
    (λ (j : In z (add_queue (subject_matches entry.0.pattern subject) entry.0.queue xs)).
    ⊎_elim (λ (h : Here z (subject_matches entry.0.pattern subject) entry.0.queue).
    inl (entry, inl refl, record { queue = h.0; matches = h.1 }))
    (λ (k : In z xs). inr k) ((queued z matches entry.0.queue xs).0 j))
    (from_keys subject z keys (add_queue matches entry.0.queue xs) i)

to_keys : (subject z : List ℕ) (keys : List (Key × ℕ)) (xs : List (List ℕ))
    → SomeWants subject z keys ⊎ In z xs
    → In z (names_in subject keys xs)
to_keys subject z [] xs x = ⊎_elim (λ (s : SomeWants subject z []). absurd s.1) (λ (i : In z xs). i) x
to_keys subject z (entry ∷ keys) xs x =
    let matches = subject_matches entry.0.pattern subject in
    let later = to_keys subject z keys (add_queue matches entry.0.queue xs) in
    ⊎_elim (λ (s : SomeWants subject z (entry ∷ keys)).
    ⊎_elim (λ (e : s.0 ≡ entry).
    let w = subst (Wants subject z) e s.2 in
    later (inr ((queued z matches entry.0.queue xs).1 (inl (w.queue, w.matches)))))
    (λ (i : In s.0 keys). later (inl (s.0, i, s.2))) s.1)
    (λ (i : In z xs). later (inr ((queued z matches entry.0.queue xs).1 (inr i)))) x

-- an eligible peer from the one at place q on
record PeerFrom (server : ServerIdentity) (subject z : List ℕ) (q : ℕ) (peers : List Peer) : Type 0 where
  n : ℕ
  place : ℕ
  place_is : place ≡ q + n
  peer : Peer
  at : slice_get peers n ≡ Some peer
  eligible : is_eligible server place peer ≡ true
  wants : SomeWants subject z peer.heard.keys

from_peers : (server : ServerIdentity) (subject z : List ℕ) (q : ℕ) (peers : List Peer) (xs : List (List ℕ))
    → In z (names_from server subject q peers xs)
    → PeerFrom server subject z q peers ⊎ In z xs
from_peers server subject z q [] xs i = inr i
from_peers server subject z q (peer ∷ peers) xs i =
    ⊎_elim (λ (p : PeerFrom server subject z (suc q) peers).
    let is = p.place_is in
    inl (record {
      n = suc p.n;
      place = p.place;
      place_is = omega arith;
      peer = p.peer;
      at = p.at;
      eligible = p.eligible;
      wants = p.wants;
    }))
    (λ (j : In z (cond (is_eligible server q peer) (names_in subject peer.heard.keys xs) xs)).
    go (is_eligible server q peer) refl j)
    (from_peers server subject z (suc q) peers
    (cond (is_eligible server q peer) (names_in subject peer.heard.keys xs) xs) i)
  where
    go : (b : Bool)
        → is_eligible server q peer ≡ b
        → In z (cond b (names_in subject peer.heard.keys xs) xs)
        → PeerFrom server subject z q (peer ∷ peers) ⊎ In z xs
    go true e j =
        ⊎_elim (λ (s : SomeWants subject z peer.heard.keys).
        inl (record { n = 0; place = q; place_is = omega arith; peer = peer; at = refl; eligible = e; wants = s }))
        (λ (k : In z xs). inr k) (from_keys subject z peer.heard.keys xs j)
    go false e j = inr j

stays : (server : ServerIdentity) (subject z : List ℕ) (q : ℕ) (peers : List Peer) (xs : List (List ℕ))
    → In z xs
    → In z (names_from server subject q peers xs)
stays server subject z q [] xs i = i
stays server subject z q (peer ∷ peers) xs i =
    stays server subject z (suc q) peers (cond (is_eligible server q peer) (names_in subject peer.heard.keys xs) xs)
    (go (is_eligible server q peer))
  where
    go : (b : Bool) → In z (cond b (names_in subject peer.heard.keys xs) xs)
    go true = to_keys subject z peer.heard.keys xs (inr i)
    go false = i

to_peers : (server : ServerIdentity) (subject z : List ℕ) (q n place : ℕ) (peer : Peer) (peers : List Peer)
    (xs : List (List ℕ))
    → place ≡ q + n
    → slice_get peers n ≡ Some peer
    → is_eligible server place peer ≡ true
    → SomeWants subject z peer.heard.keys
    → In z (names_from server subject q peers xs)
to_peers server subject z q n place peer [] xs is at eligible wants = absurd (none-some peer at)
to_peers server subject z q zero place peer (first ∷ peers) xs is at eligible wants =
    let here : place ≡ q = omega arith in
    let same = same_Some first peer at in
    let e : is_eligible server q first ≡ true =
    ap (λ p. is_eligible server q p) same ∙ ap (λ k. is_eligible server k peer) (sym here) ∙ eligible in
    stays server subject z (suc q) peers (cond (is_eligible server q first) (names_in subject first.heard.keys xs) xs)
    (subst (λ b. In z (cond b (names_in subject first.heard.keys xs) xs)) (sym e)
    (to_keys subject z first.heard.keys xs
    (inl (subst (λ (p : Peer). SomeWants subject z p.heard.keys) (sym same) wants))))
to_peers server subject z q (suc n) place peer (first ∷ peers) xs is at eligible wants =
    to_peers server subject z (suc q) n place peer peers
    (cond (is_eligible server q first) (names_in subject first.heard.keys xs) xs) (omega arith) at eligible wants

pub names_are_wanted : NamesAreWanted
names_are_wanted = record {
  rising = λ server hub subject.
      peers_rise server subject 0 hub.peers (names_in subject hub.counts []) (keys_rise subject hub.counts [] refl);
  wanted = λ server hub subject z. (
    (λ i.
        ⊎_elim (λ (p : PeerFrom server subject z 0 hub.peers).
        let is : p.n ≡ p.place = (let e = p.place_is in omega arith) in
        inr (record {
          place = p.place;
          peer = p.peer;
          at = ap (slice_get hub.peers) (sym is) ∙ p.at;
          eligible = p.eligible;
          wants = p.wants;
        }))
        (λ (j : In z (names_in subject hub.counts [])).
        ⊎_elim (λ (s : SomeWants subject z hub.counts). inl s) (λ (k : In z []). absurd k)
        (from_keys subject z hub.counts [] j))
        (from_peers server subject z 0 hub.peers (names_in subject hub.counts []) i)),
    (λ x.
        ⊎_elim (λ (s : SomeWants subject z hub.counts).
        stays server subject z 0 hub.peers (names_in subject hub.counts []) (to_keys subject z hub.counts [] (inl s)))
        (λ (p : PeerWants server hub subject z).
        to_peers server subject z 0 p.place p.place p.peer hub.peers (names_in subject hub.counts []) (omega arith) p.at
        p.eligible p.wants)
        x),
  );
}
