-- What a step leaves of a seat.
use Rattle.std.proofs.Common.{◌≡◌, ℕ, suc, ◌+◌, ◌<◌, ◌≤◌, ◌⊎◌, List, [], ◌∷◌, ◌++◌, set, sym, refl, ap, ◌∙◌, subst, ⊎_elim, inl, inr, arith, Some, Bool, true, false}
use lib.ListN.{get_elem?}
use Rattle.atomic_table.specs.Table.{Me}
use Rattle.claim_cells.specs.declared.parts.HubPart.{HubPart}
use Rattle.claim_cells.specs.declared.parts.ShardPart.{ShardPart}
use Rattle.claim_cells.specs.declared.parts.View.{View}
use Rattle.claim_cells.specs.Rule.{Has}
use Rattle.claim_cells.specs.Steps.{hub_of, part_of, HasHub, HasPart, with_hub, with_part, part_after_load, won_by, lost_by, finished_one, IsClaimedAt}
use Rattle.claim_cells.specs.Seats.{hub_view, shard_view, IsShard, IsHub, IsShardSeat, last_from, last_load, HasTurn, Sighted}

module _ {S : Type 0} (m : Me S View) where
  pub has_hub : IsHub m → HasHub m
  has_hub w = ap (λ m. m.0.hub) w

  pub hub_now : (k : Me S View) (h : HubPart) (at : ℕ)
      → IsHub m
      → k ≡ (with_hub m.0 h at, m.1)
      → IsHub k × (hub_of k ≡ h) × (k.0.count ≡ m.0.count)
  hub_now k h at w e =
      let q : k ≡ (hub_view h at m.0.count, []) =
      e ∙ (λ j. (record { hub = Some h; shards = (w j).0.shards; at = at; count = m.0.count }, (w j).1)) in
      (subst IsHub (sym q) refl, ap hub_of q, ap (λ k. k.0.count) q)

  pub has_part : IsShard m → HasPart m
  has_part w = ap (λ m. get_elem? m.0.shards m.0.at) w

  pub part_now : (k : Me S View) (p : ShardPart)
      → IsShard m
      → k ≡ (with_part m.0 p, m.1)
      → IsShard k × (part_of k ≡ p) × (k.0.count ≡ m.0.count)
  part_now k p w e =
      let q : k ≡ (shard_view p m.0.count, []) = e ∙ (λ j. (
        record { hub = (w j).0.hub; shards = set (w j).0.shards (w j).0.at p; at = (w j).0.at; count = m.0.count },
        (w j).1,
      )) in
      (subst IsShard (sym q) refl, ap part_of q, ap (λ k. k.0.count) q)

last_is : (n m : ℕ) (xs : List ℕ) → last_from n (xs ++ m ∷ []) ≡ m
last_is n m [] = refl
last_is n m (x ∷ xs) = last_is x m xs

last_has : (n : ℕ) (xs : List ℕ) → (last_from n xs ≡ n) ⊎ Has xs (last_from n xs)
last_has n [] = inl refl
last_has n (x ∷ xs) =
    ⊎_elim (λ (e : last_from x xs ≡ x). inr (0, ap mathlib.Core.Option.some (sym e))) (λ h. inr (suc h.0, h.1))
    (last_has x xs)

pub last_of_more : (n : ℕ) (xs : List ℕ) → last_load (xs ++ n ∷ []) ≡ n
last_of_more n xs = last_is 0 n xs

-- a last load above the finished turn is a load
pub sighted : (p : ShardPart) → HasTurn p → Sighted p
sighted p up =
    ⊎_elim (λ (e : last_from 0 p.loads ≡ 0). absurd (let low : p.finished < last_from 0 p.loads = up in omega arith))
    (λ h. (last_load p.loads, h, up)) (last_has 0 p.loads)

-- a shard's seat after each kind of step
module _ {S : Type 0} (m k : Me S View) (shard finished next sight : ℕ)
    (is : IsShardSeat m shard finished next sight) where
  keeps_names : (p : ShardPart)
      → k ≡ (with_part m.0 p, m.1)
      → p.shard ≡ (part_of m).shard
      → ((part_of k).shard ≡ shard) × (shard ≤ k.0.count)
  keeps_names p e same =
      let now = part_now m k p is.whole e in (
        ap (λ (p : ShardPart). p.shard) now.1 ∙ same ∙ is.named,
        (let last = is.last in let count = now.2 in omega arith),
      )

  pub seat_saw : (n : ℕ)
      → k ≡ (with_part m.0 (part_after_load (part_of m) n), m.1)
      → IsShardSeat k shard finished next n
  seat_saw n e =
      let p = part_after_load (part_of m) n in
      let now = part_now m k p is.whole e in
      let names = keeps_names p e refl in
      record {
        whole = now.0;
        named = names.0;
        first = is.first;
        last = names.1;
        done = ap (λ (p : ShardPart). p.finished) now.1 ∙ is.done;
        least = ap (λ (p : ShardPart). p.next) now.1 ∙ is.least;
        sight = ap (λ (p : ShardPart). last_load p.loads) now.1 ∙ last_of_more n (part_of m).loads;
      }

  pub seat_finished : (turn : ℕ)
      → turn ≡ finished + 1
      → k ≡ (with_part m.0 (finished_one (part_of m)), m.1)
      → IsShardSeat k shard turn 0 sight
  seat_finished turn next_is e =
      let p = finished_one (part_of m) in
      let now = part_now m k p is.whole e in
      let names = keeps_names p e refl in
      record {
        whole = now.0;
        named = names.0;
        first = is.first;
        last = names.1;
        done = ap (λ (p : ShardPart). p.finished) now.1 ∙ ap (λ (n : ℕ). n + 1) is.done ∙ sym next_is;
        least = ap (λ (p : ShardPart). p.next) now.1;
        sight = ap (λ (p : ShardPart). last_load p.loads) now.1 ∙ is.sight;
      }

  claimed : (index : ℕ) (p : ShardPart)
      → p.shard ≡ (part_of m).shard
      → p.finished ≡ (part_of m).finished
      → p.next ≡ index + 1
      → p.loads ≡ (part_of m).loads
      → k ≡ (with_part m.0 p, m.1)
      → IsShardSeat k shard finished (index + 1) sight
  claimed index p same done least loads e =
      let now = part_now m k p is.whole e in
      let names = keeps_names p e same in
      record {
        whole = now.0;
        named = names.0;
        first = is.first;
        last = names.1;
        done = ap (λ (p : ShardPart). p.finished) now.1 ∙ done ∙ is.done;
        least = ap (λ (p : ShardPart). p.next) now.1 ∙ least;
        sight = ap (λ (p : ShardPart). last_load p.loads) now.1 ∙ ap last_load loads ∙ is.sight;
      }

  pub seat_claimed : (index : ℕ) (won : Bool)
      → IsClaimedAt (part_of m) index m won k
      → IsShardSeat k shard finished (index + 1) sight
  seat_claimed index true told = claimed index (won_by (part_of m) index) refl refl refl refl (told.0 refl).0
  seat_claimed index false told = claimed index (lost_by (part_of m) index) refl refl refl refl (told.1 refl).0

  pub count_claimed : (index : ℕ) (won : Bool) → IsClaimedAt (part_of m) index m won k → k.0.count ≡ m.0.count
  count_claimed index true told = (part_now m k (won_by (part_of m) index) is.whole (told.0 refl).0).2
  count_claimed index false told = (part_now m k (lost_by (part_of m) index) is.whole (told.1 refl).0).2
