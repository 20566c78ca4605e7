-- A server without an eligible peer serves all queue names of its own counts itself.
use Rattle.std.proofs.Common.{◌≡◌, ℕ, zero, suc, ◌+◌, ◌<◌, ◌≤◌, ◌%◌, Bool, true, false, ◌&&◌, cond, nat_eq, List, [], ◌∷◌, ◌++◌, length, Some, All, refl, sym, ap, ◌∙◌, subst, inl, inr, ⊎_elim, arith, append-nil}
use Rattle.std.specs.Prelude.{replicate, slice_get, not, nat_lt, nat_le}
use Rattle.std.specs.Map.{values_of}
use Rattle.std.proofs.lemmas.Bool.{cases_lt}
use Rattle.std.proofs.lemmas.List.{length-replicate}
use Rattle.std.proofs.lemmas.List.Elements.{All-head, All-tail}
use Rattle.std.proofs.lemmas.List.Sums.{sum_by-cons}
use Rattle.std.proofs.lemmas.Nat.{mod_below}
use Rattle.std.proofs.lemmas.Slice.Eq.{bytes_eq-Decides}
use Rattle.list_laws.specs.Lists.{In}
use Rattle.list_laws.proofs.Tests.{and_true, not_true, eq_true, eq_false, le_true}
use Rattle.subj.specs.declared.keys.Key.{Key}
use Rattle.subj.specs.declared.limits.TheConstants.{MAX_QUEUE_NAMES, MAX_WEIGHT}
use Rattle.subj.specs.Matching.{subject_matches}
use Rattle.subj.specs.QueueNames.{are_rising, is_named, are_queue_names}
use Rattle.subj.specs.Servers.{ServerIdentity, IsListed, name_of, own_name}
use Rattle.pick.specs.Pick.{units}
use Rattle.interest.specs.Counts.{Counts, IsInterest}
use Rattle.interest.specs.Matches.{names_in, weight_in, matching_weight}
use Rattle.hub_core.specs.State.{State, Peer, IsSound}
use Rattle.hub_core.specs.Choice.{is_eligible, weights_from, server_for, names_from, queue_names}
use Rattle.hub_core.specs.Serving.{is_alone_from, ServesAlone}
use Rattle.hub_core.specs.Wanted.{Wants, SomeWants}
use Rattle.hub_core.proofs.Choices.Wanted.{from_keys}
use Rattle.hub_core.proofs.Neighbours.Sending.{not_too_many}

abbrev Alone : ServerIdentity → ℕ → List Peer → Type 0
Alone server q peers = is_alone_from server q peers ≡ true

pub first : (server : ServerIdentity) (q : ℕ) (peer : Peer) (peers : List Peer)
    → Alone server q (peer ∷ peers)
    → is_eligible server q peer ≡ false
first server q peer peers alone =
    not_true (is_eligible server q peer)
    (and_true (not (is_eligible server q peer)) (is_alone_from server (suc q) peers) alone).0

pub others : (server : ServerIdentity) (q : ℕ) (peer : Peer) (peers : List Peer)
    → Alone server q (peer ∷ peers)
    → Alone server (suc q) peers
others server q peer peers alone =
    (and_true (not (is_eligible server q peer)) (is_alone_from server (suc q) peers) alone).1

-- ---- no peer adds a name, and none is owed a frame

pub names_alone : (server : ServerIdentity) (subject : List ℕ) (q : ℕ) (peers : List Peer) (names : List (List ℕ))
    → Alone server q peers
    → names_from server subject q peers names ≡ names
names_alone server subject q [] names alone = refl
names_alone server subject q (peer ∷ peers) names alone =
    ap (λ b. names_from server subject (suc q) peers (cond b (names_in subject peer.heard.keys names) names))
    (first server q peer peers alone)
    ∙ names_alone server subject (suc q) peers names (others server q peer peers alone)

-- all names that want the subject are of its own counts
pub serves_alone : (server : ServerIdentity) (hub : State) (subject : List ℕ) (names : List (List ℕ))
    → Alone server 0 hub.peers
    → IsInterest hub.counts
    → are_queue_names names ≡ true
    → names ≡ queue_names server hub subject
    → ServesAlone server hub subject names
serves_alone server hub subject names alone counted ordered found = record {
  alone = alone;
  in_mind = record {
    counted = counted;
    ordered = ordered;
    names_are = found ∙ names_alone server subject 0 hub.peers (names_in subject hub.counts []) alone;
  };
}

-- ---- all units are the server's own

module _ (server : ServerIdentity) (counts : Counts) (subject name : List ℕ) where
  no_unit : (q : ℕ) (peer : Peer) (peers : List Peer)
      → nat_eq q server.me ≡ false
      → is_eligible server q peer ≡ false
      → units (weights_from server counts subject name q (peer ∷ peers))
      ≡ units (weights_from server counts subject name (suc q) peers)
  no_unit q peer peers other none = λ k.
      units ((
        name_of server q,
        cond (other k) (weight_in subject name counts) (cond (none k) (weight_in subject name peer.heard.keys) 0),
      ) ∷ weights_from server counts subject name (suc q) peers)

  past : (q : ℕ) (peers : List Peer)
      → server.me < q
      → Alone server q peers
      → units (weights_from server counts subject name q peers) ≡ []
  past q [] behind alone = refl
  past q (peer ∷ peers) behind alone =
      no_unit q peer peers (apart (nat_eq q server.me) refl) (first server q peer peers alone)
      ∙ past (suc q) peers (omega arith) (others server q peer peers alone)
    where
      apart : (b : Bool) → nat_eq q server.me ≡ b → nat_eq q server.me ≡ false
      apart true e = let same = eq_true q server.me e in absurd (omega arith)
      apart false e = e

  own_units : (q : ℕ) (peers : List Peer)
      → q ≤ server.me
      → server.me < q + length peers
      → Alone server q peers
      → units (weights_from server counts subject name q peers)
      ≡ replicate (weight_in subject name counts) (own_name server)
  own_units q [] from to alone = absurd (omega arith)
  own_units q (peer ∷ peers) from to alone =
      go (λ below. own_units (suc q) peers (omega (arith, below)) (omega arith) (others server q peer peers alone))
      (nat_eq q server.me) refl
    where
      go : (q < server.me
          → units (weights_from server counts subject name (suc q) peers)
          ≡ replicate (weight_in subject name counts) (own_name server))
          → (b : Bool)
          → nat_eq q server.me ≡ b
          → units (weights_from server counts subject name q (peer ∷ peers))
          ≡ replicate (weight_in subject name counts) (own_name server)
      go later true e =
          let same = eq_true q server.me e in
          (λ k.
          replicate
          (cond (e k) (weight_in subject name counts)
          (cond (is_eligible server q peer) (weight_in subject name peer.heard.keys) 0))
          (name_of server (same k))
          ++ units (weights_from server counts subject name (suc q) peers))
          ∙ ap (λ us. replicate (weight_in subject name counts) (own_name server) ++ us)
          (past (suc q) peers (omega arith) (others server q peer peers alone))
          ∙ append-nil (replicate (weight_in subject name counts) (own_name server))
      go later false e =
          no_unit q peer peers e (first server q peer peers alone)
          ∙ later (⊎_elim (λ (below : q < server.me). below)
          (λ (above : server.me ≤ q). absurd (eq_false q server.me e (omega arith))) (cases_lt q server.me))

one_of_all : {X : Type 0} (w k : ℕ) (x : X) → k < w → slice_get (replicate w x) k ≡ Some x
one_of_all zero k x below = absurd (omega arith)
one_of_all (suc w) zero x below = refl
one_of_all (suc w) (suc k) x below = one_of_all w k x (omega arith)

picked : (w word : ℕ) (name : List ℕ)
    → 1 ≤ w
    → slice_get (replicate w name) (word % length (replicate w name)) ≡ Some name
picked w word name some =
    ap (λ n. slice_get (replicate w name) (word % n)) (length-replicate w name)
    ∙ one_of_all w (word % w) name (mod_below word w (omega arith))

-- ---- each name of the counts has a weight

weighs_there : (subject z : List ℕ) (keys : Counts) (entry : Key × ℕ)
    → In entry keys
    → Wants subject z entry
    → entry.1 ≤ weight_in subject z keys
weighs_there subject z [] entry i w = absurd i
weighs_there subject z (e ∷ es) entry i w =
    let split = sum_by-cons (matching_weight subject z) e es in
    ⊎_elim (λ (at : entry ≡ e).
    let full = subst (λ (n : Key × ℕ). matching_weight subject z n ≡ n.1) at (matches_fully entry w) in
    let same = ap (λ (n : Key × ℕ). n.1) at in
    omega (arith, split, full, same))
    (λ (j : In entry es). let rest = weighs_there subject z es entry j w in omega (arith, split, rest)) i
  where
    matches_fully : (n : Key × ℕ) → Wants subject z n → matching_weight subject z n ≡ n.1
    matches_fully n w =
        ap (λ b. cond b n.1 0)
        (ap (λ b. b && subject_matches n.0.pattern subject) (ap (is_named z) w.queue ∙ (bytes_eq-Decides z z).1 refl)
        ∙ w.matches)

abbrev IsCounted : ℕ → Type 0
IsCounted count = (1 ≤ count) × (count ≤ MAX_WEIGHT)

counted : (counts : Counts) → All IsCounted (values_of counts) → (entry : Key × ℕ) → In entry counts → 1 ≤ entry.1
counted [] all entry i = absurd i
counted (e ∷ es) all entry (inl is) =
    subst (λ (n : Key × ℕ). 1 ≤ n.1) (sym is) (All-head IsCounted e.1 (values_of es) all).0
counted (e ∷ es) all entry (inr i) = counted es (All-tail IsCounted e.1 (values_of es) all) entry i

weighs : (subject z : List ℕ) (counts : Counts)
    → IsInterest counts
    → In z (names_in subject counts [])
    → 1 ≤ weight_in subject z counts
weighs subject z counts valid i =
    ⊎_elim (λ (s : SomeWants subject z counts).
    let there = weighs_there subject z counts s.0 s.1 s.2 in
    let some = counted counts valid.counted s.0 s.1 in
    omega arith)
    (λ (j : In z []). absurd j) (from_keys subject z counts [] i)

-- ---- just they want the subject, and each is served here

pub wanted_alone : (server : ServerIdentity) (hub : State) (subject : List ℕ) (names : List (List ℕ))
    → ServesAlone server hub subject names
    → names ≡ queue_names server hub subject
wanted_alone server hub subject names serves =
    serves.in_mind.names_are
    ∙ sym (names_alone server subject 0 hub.peers (names_in subject hub.counts []) serves.alone)

pub chosen_alone : (server : ServerIdentity) (hub : State) (subject : List ℕ) (names : List (List ℕ))
    → IsListed server
    → IsSound server hub
    → ServesAlone server hub subject names
    → (word : ℕ) (z : List ℕ)
    → In z names
    → server_for server hub subject word z ≡ Some (own_name server)
chosen_alone server hub subject names listed sound serves word z i =
    let some = weighs subject z hub.counts serves.in_mind.counted (subst (In z) serves.in_mind.names_are i) in
    let me = listed.listed in
    let placed = sound.placed in
    ap (λ us. slice_get us (word % length us))
    (own_units server hub.counts subject z 0 hub.peers (omega arith) (omega arith) serves.alone)
    ∙ picked (weight_in subject z hub.counts) word (own_name server) some

-- ---- and there are not too many

pub few_alone : (server : ServerIdentity) (hub : State) (subject : List ℕ) (names : List (List ℕ))
    → ServesAlone server hub subject names
    → nat_lt MAX_QUEUE_NAMES (length (queue_names server hub subject)) ≡ false
few_alone server hub subject names serves =
    let are = wanted_alone server hub subject names serves in
    let few = le_true (length names) MAX_QUEUE_NAMES
    (and_true (nat_le (length names) MAX_QUEUE_NAMES) (are_rising names) serves.in_mind.ordered).0 in
    ap (λ (names : List (List ℕ)). nat_lt MAX_QUEUE_NAMES (length names)) (sym are)
    ∙ not_too_many (length names) MAX_QUEUE_NAMES few
