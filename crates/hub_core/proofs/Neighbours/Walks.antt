-- Frames of a walk over the peers: one at most for each, to its name.
use Rattle.std.proofs.Common.{◌≡◌, ◌≢◌, ℕ, zero, suc, ◌+◌, ◌<◌, ◌≤◌, Bool, true, false, cond, List, [], ◌∷◌, ◌++◌, length, Some, refl, sym, ap, ◌∙◌, subst, arith, lit≤}
use Rattle.std.specs.Prelude.{filter, slice_get, All}
use Rattle.std.proofs.lemmas.List.Elements.{All-nil, All-cons}
use Rattle.std.proofs.lemmas.Option.{none-some, same_Some, slice_get_within}
use Rattle.list_laws.proofs.Changes.{filter_append}
use Rattle.subj.specs.Servers.{ServerIdentity, IsListed, name_of, place}
use Rattle.route_values.specs.Frames.{Frame}
use Rattle.hub_core.specs.State.{Peer}
use Rattle.hub_core.specs.Publishing.{is_to, with_frames}
use Rattle.hub_core.proofs.Choices.Places.{named, differs}

module _ (server : ServerIdentity) (is : IsListed server) (sent : ℕ → Peer → Bool) (frame : ℕ → Peer → Frame)
    (to : (q : ℕ) (peer : Peer) → (frame q peer).to ≡ name_of server q) where
  abbrev pub walk : ℕ → List Peer → List Frame
  walk q [] = []
  walk q (peer ∷ peers) = cond (sent q peer) (frame q peer ∷ []) [] ++ walk (suc q) peers

  abbrev here : ℕ → Peer → List Frame
  here q peer = cond (sent q peer) (frame q peer ∷ []) []

  -- a frame for another peer
  elsewhere : (k q : ℕ) (peer : Peer)
      → k < length server.names
      → q < length server.names
      → k ≢ q
      → filter (is_to server k) (here q peer) ≡ []
  elsewhere k q peer lk lq apart = go (sent q peer)
    where
      other : is_to server k (frame q peer) ≡ false
      other =
          differs (frame q peer).to (name_of server k)
          (λ e. apart (sym (named server is k lk) ∙ ap (place server) (sym e ∙ to q peer) ∙ named server is q lq))

      go : (b : Bool) → filter (is_to server k) (cond b (frame q peer ∷ []) []) ≡ []
      go true = ap (λ b. cond b (frame q peer ∷ []) []) other
      go false = refl

  behind : (k q : ℕ) (peers : List Peer)
      → k < q
      → q + length peers ≤ length server.names
      → filter (is_to server k) (walk q peers) ≡ []
  behind k q [] below fits = refl
  behind k q (peer ∷ peers) below fits =
      filter_append (is_to server k) (here q peer) (walk (suc q) peers)
      ∙ (λ i.
      elsewhere k q peer (omega arith) (omega arith) apart i ++ behind k (suc q) peers (omega arith) (omega arith) i)
    where
      apart : k ≢ q
      apart e = omega arith

  few : (k q : ℕ) (peer : Peer) → length (filter (is_to server k) (here q peer)) ≤ cond (sent q peer) 1 0
  few k q peer = go (sent q peer)
    where
      one : (d : Bool) → length (cond d (frame q peer ∷ []) []) ≤ 1
      one true = lit≤ tt
      one false = lit≤ tt

      go : (b : Bool) → length (filter (is_to server k) (cond b (frame q peer ∷ []) [])) ≤ cond b 1 0
      go true = one (is_to server k (frame q peer))
      go false = lit≤ tt

  pub at_most : (k q n : ℕ) (peers : List Peer) (peer : Peer)
      → k ≡ q + n
      → slice_get peers n ≡ Some peer
      → q + length peers ≤ length server.names
      → length (filter (is_to server k) (walk q peers)) ≤ cond (sent k peer) 1 0
  at_most k q n [] peer place_is at fits = absurd (none-some peer at)
  at_most k q zero (first ∷ peers) peer place_is at fits =
      let same : k ≡ q = omega arith in
      let all = filter_append (is_to server k) (here q first) (walk (suc q) peers)
      ∙ ap (λ t. filter (is_to server k) (here q first) ++ t) (behind k (suc q) peers (omega arith) (omega arith)) in
      subst (λ count. count ≤ cond (sent k peer) 1 0)
      (sym (ap length all ∙ alone (filter (is_to server k) (here q first))))
      (subst (λ p. length (filter (is_to server k) (here q first)) ≤ cond (sent k p) 1 0) (same_Some first peer at)
      (subst (λ p. length (filter (is_to server k) (here q first)) ≤ cond (sent p first) 1 0) (sym same)
      (few k q first)))
    where
      alone : (xs : List Frame) → length (xs ++ []) ≡ length xs
      alone [] = refl
      alone (x ∷ xs) = let z = alone xs in omega arith
  at_most k q (suc n) (first ∷ peers) peer place_is at fits =
      let apart : k ≢ q = λ e. omega arith in
      let within = slice_get_within peers n peer at in
      let listed : k < length server.names = omega arith in
      let all = filter_append (is_to server k) (here q first) (walk (suc q) peers)
      ∙ ap (λ t. t ++ filter (is_to server k) (walk (suc q) peers)) (elsewhere k q first listed (omega arith) apart) in
      subst (λ count. count ≤ cond (sent k peer) 1 0) (sym (ap length all))
      (at_most k (suc q) n peers peer (omega arith) at (omega arith))

  -- each is to a server of the cluster
  pub all_listed : (q : ℕ) (peers : List Peer)
      → q + length peers ≤ length server.names
      → All (λ (frame : Frame). place server frame.to < length server.names) (walk q peers)
  all_listed q [] fits = All-nil (λ (frame : Frame). place server frame.to < length server.names)
  all_listed q (peer ∷ peers) fits = go (sent q peer) (all_listed (suc q) peers (omega arith))
    where
      listed : place server (frame q peer).to < length server.names
      listed = let same = ap (place server) (to q peer) ∙ named server is q (omega arith) in omega arith

      go : (b : Bool)
          → All (λ (frame : Frame). place server frame.to < length server.names) (walk (suc q) peers)
          → All (λ (frame : Frame). place server frame.to < length server.names)
          (cond b (frame q peer ∷ []) [] ++ walk (suc q) peers)
      go true later =
          All-cons (λ (frame : Frame). place server frame.to < length server.names) (frame q peer) (walk (suc q) peers)
          listed later
      go false later = later

-- ---- what waits after

pub record Waits (server : ServerIdentity) (frames : List Frame) (k n : ℕ) (peers : List Peer) (new : Peer) :
    Type 0 where
  pub peer : Peer
  pub at : slice_get peers n ≡ Some peer
  pub is : new ≡ record peer { outbox = peer.outbox ++ filter (is_to server k) frames }

pub waits : (server : ServerIdentity) (frames : List Frame) (k q n : ℕ) (peers : List Peer) (new : Peer)
    → k ≡ q + n
    → slice_get (with_frames server frames q peers) n ≡ Some new
    → Waits server frames k n peers new
waits server frames k q n [] new place_is at = absurd (none-some new at)
waits server frames k q zero (peer ∷ peers) new place_is at = record {
  peer = peer;
  at = refl;
  is = sym (same_Some _ new at) ∙ ap (λ q. record peer { outbox = peer.outbox ++ filter (is_to server q) frames }) same;
} where
  same : q ≡ k
  same = omega arith
waits server frames k q (suc n) (peer ∷ peers) new place_is at =
    let w = waits server frames k (suc q) n peers new (omega arith) at in record { peer = w.peer; at = w.at; is = w.is }
