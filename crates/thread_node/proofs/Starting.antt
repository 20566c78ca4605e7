-- The parts of a server name it.
use Rattle.std.specs.Prelude.{slice_get}
use Rattle.std.proofs.Common.{◌≡◌, ℕ, zero, suc, ◌+◌, ◌-◌, ◌<◌, List, [], ◌∷◌, ◌++◌, length, map, get_or, All, Some, refl, sym, ap, ◌∙◌, arith}
use Rattle.std.proofs.lemmas.List.Elements.{All-append}
use Rattle.atomic_table.specs.Seated.{TableId}
use Rattle.claim_cells.specs.Rule.{At, newcomer}
use Rattle.claim_cells.specs.Seats.{RaceId, HubShown}
use Rattle.subj.specs.Servers.{ServerIdentity}
use Rattle.thread_node.specs.declared.node.ShardParts.{ShardParts}
use Rattle.thread_node.specs.Parts.{AreFresh, IsNamed}

-- the element at a place, whatever f reads of it
at_map : {A B : Type 0} (f : A → B) (xs : List A) (k : ℕ) (d : A) → k < length xs → At (map f xs) k (f (get_or xs k d))
at_map f [] k d lt = absurd (omega arith)
at_map f (x ∷ xs) zero d lt = refl
at_map f (x ∷ xs) (suc k) d lt = at_map f xs k d (omega arith)

get_map : {A B : Type 0} (f : A → B) (xs : List A) (k : ℕ) (d : A)
    → k < length xs
    → slice_get (map f xs) k ≡ Some (f (get_or xs k d))
get_map f [] k d lt = absurd (omega arith)
get_map f (x ∷ xs) zero d lt = refl
get_map f (x ∷ xs) (suc k) d lt = get_map f xs k d (omega arith)

before : (k : ℕ) → k + 1 - 1 ≡ k
before k = omega arith

pub named : (server : ServerIdentity) (race : RaceId) (hub : HubShown) (shards : List ShardParts) (lanes : List TableId)
    → AreFresh server race hub shards
    → map (λ (p : ShardParts). p.near.lane) shards ≡ lanes
    → All (IsNamed race lanes) shards
named server race hub shards lanes fresh is k d lt =
    let p = get_or shards k d in
    let seat = fresh.seats.1 k p.seat (at_map (λ (q : ShardParts). q.seat) shards k d lt) in
    let lane = fresh.lanes k d lt in
    let place : p.seat.part.shard - 1 ≡ k = ap (λ (s : _). s.shard - 1) seat.1 ∙ before k in
    let near : slice_get lanes (p.seat.part.shard - 1) ≡ Some p.near.lane = ap (λ n. slice_get lanes n) place
    ∙ ap (λ l. slice_get l k) (sym is) ∙ get_map (λ (q : ShardParts). q.near.lane) shards k d lt in
    record {
      race_is = seat.0;
      part = seat.1 ∙ ap (λ (s : _). newcomer s.shard) (sym seat.1);
      near = near;
      far = near ∙ ap (λ l. Some l) lane.one;
      fresh = lane;
    }

-- ---- lists

pub all_first : {A : Type 0} (P : A → Type 0) (x : A) (xs : List A) → All P (x ∷ xs) → P x
all_first P x xs all = all 0 x (omega arith)

pub all_rest : {A : Type 0} (P : A → Type 0) (x : A) (xs : List A) → All P (x ∷ xs) → All P xs
all_rest P x xs all k d lt = all (suc k) d (omega arith)

all_one : {A : Type 0} (P : A → Type 0) (y : A) → P y → All P (y ∷ [])
all_one P y p zero d lt = p
all_one P y p (suc k) d lt = absurd (omega arith)

pub all_snoc : {A : Type 0} (P : A → Type 0) (xs : List A) (y : A) → All P xs → P y → All P (xs ++ y ∷ [])
all_snoc P xs y all new = All-append P xs (y ∷ []) all (all_one P y new)

pub map_snoc : {A B : Type 0} (f : A → B) (xs : List A) (x : A) → map f (xs ++ x ∷ []) ≡ map f xs ++ f x ∷ []
map_snoc f [] x = refl
map_snoc f (y ∷ ys) x = ap (λ l. f y ∷ l) (map_snoc f ys x)

pub none_pushed : {A B : Type 0} (f : A → List B) → All (λ x. f x ≡ []) []
none_pushed f k d lt = absurd (omega arith)
