-- The first pair of servers that share something, from the first place behind each server.
use Rattle.std.proofs.Common.{◌≡◌, ℕ, ◌+◌, ◌-◌, ◌<◌, ◌≤◌, inl, inr, Bool, true, false, List, length, drop, get_or, Some, None, cond, sym, ap, subst, ◌∙◌, arith, below_more, length-drop}
use Rattle.std.specs.Prelude.{nat_lt}
use Rattle.std.proofs.lemmas.Bool.Decides.{nat_tests}
use Rattle.std.proofs.lemmas.List.{get_or-drop, get_or_read}
use Rattle.std.proofs.lemmas.List.Quantifiers.{position-Some}
use Rattle.std.proofs.lemmas.List.Sums.{fails_before_first}
use Rattle.std.specs.List.{position, position_or_len}
use Rattle.mesh_file.specs.Pairs.{IsEarlier, IsFirstPair}
use Rattle.mesh_file.specs.Servers.{shares}
use Rattle.mesh_file.specs.declared.faults.Shared.{Shared}
use Rattle.mesh_file.specs.declared.servers.MeshServer.{MeshServer}

no_place : (m n : ℕ) → cond (nat_lt m n) (Some m) None ≡ None → n ≤ m
no_place m n none = grind (arith, nat_tests)

none_passes : {X : Type 0} (p : X → Bool) (xs : List X)
    → position p xs ≡ None
    → (k : ℕ) (d : X)
    → k < length xs
    → p (get_or xs k d) ≡ false
none_passes p xs none k d within =
    fails_before_first p xs k d (omega (arith, no_place (position_or_len p xs) (length xs) none))

-- what the servers behind this one share with it
abbrev pub with_server : Shared → MeshServer → MeshServer → Bool
with_server shared server other = shares shared server other

-- a server behind, as it stands among all
behind_is : (servers : List MeshServer) (n j : ℕ) (d : MeshServer)
    → n < j
    → get_or (drop (n + 1) servers) (j - (n + 1)) d ≡ get_or servers j d
behind_is servers n j d low =
    let place : n + 1 + (j - (n + 1)) ≡ j = omega arith in
    get_or-drop (n + 1) servers (j - (n + 1)) d ∙ ap (λ m. get_or servers m d) place

pub earlier_more : (shared : Shared) (servers : List MeshServer) (n : ℕ) (server : MeshServer)
    → n < length servers
    → server ≡ get_or servers n server
    → position (with_server shared server) (drop (n + 1) servers) ≡ None
    → ((i j : ℕ) (d : MeshServer) → i < j → j < length servers → i < n
    → shares shared (get_or servers i d) (get_or servers j d) ≡ false)
    → (i j : ℕ) (d : MeshServer)
    → i < j
    → j < length servers
    → i < n + 1
    → shares shared (get_or servers i d) (get_or servers j d) ≡ false
earlier_more shared servers n server within stands none so_far i j d low high below =
    below_more (λ k.
    (j : ℕ) (d : MeshServer)
    → k < j
    → j < length servers
    → shares shared (get_or servers k d) (get_or servers j d) ≡ false)
    n (λ k h j d low high. so_far k j d low high h) here i below j d low high
  where
    here : (j : ℕ) (d : MeshServer)
        → n < j
        → j < length servers
        → shares shared (get_or servers n d) (get_or servers j d) ≡ false
    here j d low high =
        let inside : j - (n + 1) < length (drop (n + 1) servers) = omega (arith, length-drop (n + 1) servers) in
        let apart : shares shared server (get_or (drop (n + 1) servers) (j - (n + 1)) d) ≡ false =
        none_passes (with_server shared server) (drop (n + 1) servers) none (j - (n + 1)) d inside in
        subst (λ a. shares shared a (get_or servers j d) ≡ false) (get_or_read servers n server within stands d)
        (subst (λ b. shares shared server b ≡ false) (behind_is servers n j d low) apart)

pub first_found : (shared : Shared) (servers : List MeshServer) (n behind : ℕ) (server : MeshServer)
    → n < length servers
    → server ≡ get_or servers n server
    → position (with_server shared server) (drop (n + 1) servers) ≡ Some behind
    → ((i j : ℕ) (d : MeshServer) → i < j → j < length servers → i < n
    → shares shared (get_or servers i d) (get_or servers j d) ≡ false)
    → IsFirstPair shared servers (n, n + 1 + behind)
first_found shared servers n behind server within stands found so_far =
    let least = λ (d : MeshServer). position-Some (with_server shared server) (drop (n + 1) servers) behind d found in
    let inside : behind < length (drop (n + 1) servers) = (least server).0 in
    record {
      rising = omega arith;
      within = omega (arith, length-drop (n + 1) servers, inside);
      shared_by = λ d.
          subst (λ a. shares shared a (get_or servers (n + 1 + behind) d) ≡ true)
          (get_or_read servers n server within stands d)
          (subst (λ b. shares shared server b ≡ true) (get_or-drop (n + 1) servers behind d) (least d).1);
      first = λ i j d low high earlier. before i j d low high earlier;
    }
  where
    same : (j : ℕ) (d : MeshServer)
        → n < j
        → j < n + 1 + behind
        → shares shared (get_or servers n d) (get_or servers j d) ≡ false
    same j d low high =
        let inside : j - (n + 1) < behind = omega arith in
        let apart : shares shared server (get_or (drop (n + 1) servers) (j - (n + 1)) d) ≡ false =
        (position-Some (with_server shared server) (drop (n + 1) servers) behind d found).2 (j - (n + 1)) inside in
        subst (λ a. shares shared a (get_or servers j d) ≡ false) (get_or_read servers n server within stands d)
        (subst (λ b. shares shared server b ≡ false) (behind_is servers n j d low) apart)

    before : (i j : ℕ) (d : MeshServer) → i < j → j < length servers → IsEarlier (i, j) (n, n + 1 + behind)
        → shares shared (get_or servers i d) (get_or servers j d) ≡ false
    before i j d low high earlier =
        elim earlier [
          | inl less ↦ so_far i j d low high less
          | inr tied ↦
              subst (λ k. shares shared (get_or servers k d) (get_or servers j d) ≡ false) (sym tied.0)
              (same j d (subst (λ k. k < j) tied.0 low) tied.1)
        ]
