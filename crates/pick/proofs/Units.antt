-- The units of servers, each as often as its weight.
use Rattle.std.proofs.Common.{◌≡◌, ℕ, zero, suc, ◌+◌, ◌-◌, ◌%◌, ◌<◌, ◌≤◌, List, [], ◌∷◌, ◌++◌, length, get_or, drop, Some, None, refl, ap, sym, ◌∙◌, arith, length-append, ⊎_elim}
use Rattle.std.specs.Prelude.{replicate, slice_get, IsSome, IfSome, Any}
use Rattle.std.proofs.lemmas.List.{drop_more, length-replicate}
use Rattle.std.proofs.lemmas.List.Sums.{sum_by-cons}
use Rattle.std.proofs.lemmas.Bool.{cases_lt}
use Rattle.std.proofs.lemmas.Nat.{mod_below}
use Rattle.std.proofs.lemmas.Option.{slice_get_past, slice_get-get_or}
use Rattle.pick.specs.Pick.{Weighted, weight_of, units, total_weight, pick_of, HasWeight}

first_units : (w k : ℕ) (node : List ℕ) (rest : List (List ℕ))
    → k < w
    → slice_get (replicate w node ++ rest) k ≡ Some node
first_units zero k node rest below = absurd (omega arith)
first_units (suc w) zero node rest below = refl
first_units (suc w) (suc k) node rest below = first_units w k node rest (omega arith)

later_units : (w k : ℕ) (node : List ℕ) (rest : List (List ℕ))
    → w ≤ k
    → slice_get (replicate w node ++ rest) k ≡ slice_get rest (k - w)
later_units zero k node rest above = ap (slice_get rest) (omega arith)
later_units (suc w) zero node rest above = absurd (omega arith)
later_units (suc w) (suc k) node rest above =
    later_units w k node rest (omega arith) ∙ ap (slice_get rest) (omega arith)

units_from : (servers : List Weighted) (i : ℕ) (d : Weighted)
    → i < length servers
    → units (drop i servers)
    ≡ replicate (weight_of (get_or servers i d)) ((get_or servers i d).0) ++ units (drop (i + 1) servers)
units_from servers i d below = ap units (drop_more servers i d below)

-- the unit is one of the server at this place
pub here : (servers : List Weighted) (i k : ℕ) (d : Weighted)
    → i < length servers
    → k < weight_of (get_or servers i d)
    → slice_get (units (drop i servers)) k ≡ Some ((get_or servers i d).0)
here servers i k d below unit = ap (λ us. slice_get us k) (units_from servers i d below) ∙ first_units _ _ _ _ unit

-- the unit is one of a later server
pub behind : (servers : List Weighted) (i k : ℕ) (d : Weighted)
    → i < length servers
    → weight_of (get_or servers i d) ≤ k
    → slice_get (units (drop (i + 1) servers)) (k - weight_of (get_or servers i d))
    ≡ slice_get (units (drop i servers)) k
behind servers i k d below unit =
    sym (ap (λ us. slice_get us k) (units_from servers i d below) ∙ later_units _ _ _ _ unit)

-- there are as many units as the weights come to
length-units : (servers : List Weighted) → length (units servers) ≡ total_weight servers
length-units [] = refl
length-units (server ∷ servers) =
    omega (
      arith,
      length-append (replicate server.1 server.0) (units servers),
      length-replicate server.1 server.0,
      length-units servers,
      sum_by-cons weight_of server servers,
    )

pub picked_by_total : (servers : List Weighted) (word : ℕ)
    → pick_of servers word ≡ slice_get (units servers) (word % total_weight servers)
picked_by_total servers word = ap (λ n. slice_get (units servers) (word % n)) (length-units servers)

pub no_units : (servers : List Weighted) (word : ℕ) → total_weight servers ≡ 0 → pick_of servers word ≡ None
no_units servers word none =
    slice_get_past (units servers) (word % length (units servers)) (omega (arith, length-units servers))

pub some_unit : (servers : List Weighted) (word : ℕ)
    → 0 < total_weight servers
    → IsSome (slice_get (units servers) (word % total_weight servers))
some_unit servers word some =
    let below : word % total_weight servers < length (units servers) =
    omega (arith, length-units servers, mod_below word (total_weight servers) some) in
    let is = slice_get-get_or (units servers) (word % total_weight servers) [] below in
    rw is refl

any_here : {X : Type 0} (P : X → Type 0) (x : X) (xs : List X) → P x → Any P (x ∷ xs)
any_here P x xs p = (0, x, omega arith, refl, p)

any_there : {X : Type 0} (P : X → Type 0) (x : X) (xs : List X) → Any P xs → Any P (x ∷ xs)
any_there P x xs any = (suc any.0, any.1, omega (arith, any.2), any.3, any.4)

unit_weighs : (servers : List Weighted) (k : ℕ) (node : List ℕ)
    → slice_get (units servers) k ≡ Some node
    → Any (HasWeight node) servers
unit_weighs [] k node is = cc
unit_weighs (server ∷ servers) k node is =
    ⊎_elim (λ (below : k < server.1).
    let same : Some server.0 ≡ Some node = sym (first_units server.1 k server.0 (units servers) below) ∙ is in
    any_here (HasWeight node) server servers (cc, omega arith))
    (λ (above : server.1 ≤ k).
    any_there (HasWeight node) server servers
    (unit_weighs servers (k - server.1) node (sym (later_units server.1 k server.0 (units servers) above) ∙ is)))
    (cases_lt k server.1)

-- what has a unit has a weight
pub has_weight : (servers : List Weighted) (k : ℕ)
    → IfSome (slice_get (units servers) k) (λ node. Any (HasWeight node) servers)
has_weight servers k =
    elim (slice_get (units servers) k) as
    (λ o. slice_get (units servers) k ≡ o → IfSome o (λ node. Any (HasWeight node) servers)) [
      | None ↦ λ _. tt
      | Some node ↦ λ is. unit_weighs servers k node is
    ] refl
