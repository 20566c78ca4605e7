-- The loops over the shards: in `new`, and in a round of loads.
use Rattle.std.proofs.Common.{◌≡◌, ℕ, zero, suc, ◌+◌, ◌-◌, ◌<◌, ◌≤◌, List, [], ◌∷◌, ◌++◌, length, get_or, replicate, take, set, length-append, sym, refl, ap, ◌∙◌, subst, ⊎_elim, arith, append_assoc, append-nil, Some, None}
use Rattle.std.proofs.lemmas.List.{get_or_push, get_or_append_left}
use mathlib.Core.Option.{some-ne-none}
use mathlib.Core.Logic.{dite}
use native.Mathlib.Decide.{ℕ_discrete}
use Rattle.atomic_table.specs.Table.{Me}
use Rattle.subj.specs.declared.limits.TheConstants.{MAX_SHARDS, WINDOW}
use Rattle.claim_cells.specs.declared.parts.HubPart.{HubPart}
use Rattle.claim_cells.specs.declared.parts.View.{View}
use Rattle.claim_cells.specs.Rule.{At, Has, newcomer, rest_of, first_of_view}
use Rattle.claim_cells.specs.Steps.{hub_of, part_of, HasHub, hub_after_load, with_hub, loads_from, with_loads, Rises, IsLookedAt}
use Rattle.claim_cells.specs.Seats.{RaceId, ShardShown, left_from, IsShard}
use Rattle.claim_cells.specs.Calls.{AllNew, finished_list, IsRoundAt}
use Rattle.claim_race.specs.Race.{busy_of}
use Rattle.claim_cells.proofs.Rules.Lists.{at_there, read_at, snoc_at, has_more, has_behind}
use Rattle.claim_cells.proofs.SeatSteps.Behind.{room}

-- ---- `new`

module _ {S : Type 0} where
  -- the seat is left with the parts behind the shard's, and the new seat has the shard's part
  pub split_off : (n b count : ℕ) (m left right : Me S View)
      → b < count
      → b + n ≡ count
      → m ≡ (left_from (b + 1) n count, [])
      → left ≡ (rest_of m.0, m.1)
      → right ≡ (first_of_view m.0, [])
      → IsShard right × (right.0.count ≡ count) × (part_of right ≡ newcomer (b + 1))
      × ((k : ℕ) × (b + 1 + k ≡ count) × (left ≡ (left_from (b + 1 + 1) k count, [])))
  split_off zero b count m left right low sum is l r = absurd (omega arith)
  split_off (suc k) b count m left right low sum is l r =
      let q = r ∙ (λ j. (first_of_view (is j).0, [])) in
      let next : suc (b + 1) ≡ b + 1 + 1 = omega arith in (
        subst IsShard (sym q) refl,
        ap (λ m. m.0.count) q,
        ap part_of q,
        (k, omega arith, l ∙ (λ j. (rest_of (is j).0, (is j).1)) ∙ (λ j. (left_from (next j) k count, []))),
      )

pub one_more : (race : RaceId) (b : ℕ) (seats : List ShardShown) (seat : ShardShown)
    → AllNew race b seats
    → seat.race ≡ race
    → seat.part ≡ newcomer (b + 1)
    → AllNew race (b + 1) (seats ++ seat ∷ [])
one_more race b seats seat all mine new = (
  length-append seats (seat ∷ []) ∙ (let e = all.0 in omega arith),
  (λ r o at.
      ⊎_elim (λ old. all.1 r o old)
      (λ (t : (r ≡ length seats) × (seat ≡ o)).
      subst (λ (z : ShardShown). (z.race ≡ race) × (z.part ≡ newcomer (r + 1))) t.1
      (mine, new ∙ ap newcomer (let a = all.0 in let b = t.0 in omega arith)))
      (snoc_at seats seat o r at)),
)

-- ---- a round of loads

loads_snoc : (s n : ℕ) (found : List ℕ)
    → loads_from s (found ++ n ∷ []) ≡ loads_from s found ++ (s + length found, n) ∷ []
loads_snoc s n [] = λ j. (let e : s ≡ s + 0 = omega arith in e j, n) ∷ []
loads_snoc s n (x ∷ xs) =
    ap (λ l. (s, x) ∷ l) (loads_snoc (s + 1) n xs)
    ∙ (λ j.
    (s, x) ∷ loads_from (s + 1) xs ++ (let e : s + 1 + length xs ≡ s + suc (length xs) = omega arith in e j, n) ∷ [])

loads_at : (s i f : ℕ) (found : List ℕ) → At found i f → Has (loads_from s found) (s + i, f)
loads_at s i f [] at = absurd (some-ne-none f (sym at))
loads_at s zero f (x ∷ xs) at = (
  0,
  (λ j. mathlib.Core.Option.some (let e : s ≡ s + 0 = omega arith in e j, mathlib.Core.Option.some-injective x f at j)),
)
loads_at s (suc i) f (x ∷ xs) at =
    let h = loads_at (s + 1) i f xs at in (
      suc h.0,
      subst (λ (k : ℕ). At (loads_from (s + 1) xs) h.0 (k, f)) (let e : s + 1 + i ≡ s + suc i = omega arith in e) h.1,
    )

-- each load of the round is a load of the hub's part
pub was_loaded : (before : HubPart) (found : List ℕ) (s f : ℕ)
    → At found s f
    → Has (with_loads before found).loads (s + 1, f)
was_loaded before found s f at =
    has_behind before.loads (loads_from 1 found) (s + 1, f)
    (subst (λ (k : ℕ). Has (loads_from 1 found) (k, f)) (omega arith) (loads_at 1 s f found at))

module _ (before : HubPart) (found : List ℕ) (b n : ℕ) (counted : length found ≡ b) where
  with_one : hub_after_load (with_loads before found) (b + 1) n ≡ with_loads before (found ++ n ∷ [])
  with_one = λ j. record {
    issued = before.issued;
    loads =
        (append_assoc before.loads (loads_from 1 found) ((b + 1, n) ∷ [])
        ∙ ap (λ l. before.loads ++ l)
        (sym (loads_snoc 1 n found
        ∙ (λ j. loads_from 1 found ++ ((let e : 1 + length found ≡ b + 1 = omega arith in e j), n) ∷ []))))
        j;
  }

  rises_more : ((m : ℕ) → Has (with_loads before found).loads (b + 1, m) → m ≤ n)
      → Rises before found
      → Rises before (found ++ n ∷ [])
  rises_more rises old r f m at has =
      ⊎_elim (λ e. old r f m e has)
      (λ (t : (r ≡ length found) × (n ≡ f)).
      subst (λ (f : ℕ). m ≤ f) t.1
      (rises m (has_more before.loads (loads_from 1 found) (b + 1, m)
      (subst (λ (r : ℕ). Has before.loads (r, m)) (let a = t.0 in omega arith) has))))
      (snoc_at found n f r at)

module _ {S : Type 0} (m : Me S View) where
  abbrev after : List ℕ → ℕ → Me S View
  after found at = (with_hub m.0 (with_loads (hub_of m) found) at, m.1)

  pub round_start : HasHub m → IsRoundAt 0 m [] m
  round_start hub = (
    (refl, (λ s f n at has. absurd (some-ne-none f (sym at)))),
    (
      m.0.at,
      (λ j. (
        record {
          hub =
              (hub ∙ (λ i. Some (record { issued = (hub_of m).issued; loads = sym (append-nil (hub_of m).loads) i })))
              j;
          shards = m.0.shards;
          at = m.0.at;
          count = m.0.count;
        },
        m.1,
      )),
    ),
    (λ s f i p at. absurd (some-ne-none f (sym at))),
  )

  module _ (b : ℕ) (found : List ℕ) (k : Me S View) (round : IsRoundAt b m found k) where
    pub round_hub : HasHub k
    round_hub = subst HasHub (sym round.1.1) refl

    pub round_loads : hub_of k ≡ with_loads (hub_of m) found
    round_loads = ap hub_of round.1.1

    pub round_more : (limit n : ℕ) (new : Me S View)
        → IsLookedAt limit (b + 1) (hub_of k) k n new
        → IsRoundAt (b + 1) m (found ++ n ∷ []) new
    round_more limit n new told = (
      (
        length-append found (n ∷ []) ∙ (let e = round.0.0 in omega arith),
        rises_more (hub_of m) found b n round.0.0
            (λ f has. told.2 f (subst (λ (h : HubPart). Has h.loads (b + 1, f)) (sym round_loads) has)) round.0.1,
      ),
      (
        b + 1 - 1,
        told.0
            ∙ (λ j. (with_hub (round.1.1 j).0 (hub_after_load (round_loads j) (b + 1) n) (b + 1 - 1), (round.1.1 j).1))
            ∙ (λ j. (with_hub m.0 (with_one (hub_of m) found b n round.0.0 j) (b + 1 - 1), m.1)),
      ),
      (λ s f i p at mine named.
          ⊎_elim (λ old. round.2 s f i p old mine named)
          (λ (t : (s ≡ length found) × (n ≡ f)).
          sym t.1
          ∙ told.3 i p (subst (λ (k : Me S View). At k.0.shards i p) (sym round.1.1) mine)
          (let a = t.0 in let e = round.0.0 in omega arith))
          (snoc_at found n f s at)),
    )

-- ---- the answer of a round

noted : (most : ℕ) (found : List ℕ) (n : ℕ)
    → length found < most
    → set (found ++ replicate (most - length found) 0) (length found) n
    ≡ (found ++ n ∷ []) ++ replicate (most - length (found ++ n ∷ [])) 0
noted zero found n low = absurd (omega arith)
noted (suc most) [] n low =
    ap (λ (k : ℕ). set (replicate k 0) 0 n) {x = suc most - 0} {y = suc most} (omega arith)
    ∙ ap (λ (k : ℕ). n ∷ replicate k 0) {x = most} {y = suc most - 1} (omega arith)
noted (suc most) (x ∷ xs) n low =
    ap (λ (k : ℕ). x ∷ set (xs ++ replicate k 0) (length xs) n) {x = suc most - suc (length xs)} {y = most - length xs}
    (omega arith)
    ∙ ap (λ l. x ∷ l) (noted most xs n (omega arith))
    ∙ ap (λ (k : ℕ). x ∷ (xs ++ n ∷ []) ++ replicate k 0) {x = most - length (xs ++ n ∷ [])}
    {y = suc most - suc (length (xs ++ n ∷ []))} (omega arith)

pub finished_more : (found : List ℕ) (b n : ℕ)
    → length found ≡ b
    → b < MAX_SHARDS
    → set (finished_list found) (b + 1 - 1) n ≡ finished_list (found ++ n ∷ [])
finished_more found b n counted low =
    ap (λ (k : ℕ). set (finished_list found) k n) {x = b + 1 - 1} {y = length found} (omega arith)
    ∙ noted MAX_SHARDS found n (omega arith)

take_found : (found rest : List ℕ) → take (length found) (found ++ rest) ≡ found
take_found [] rest = refl
take_found (x ∷ xs) rest = ap (λ l. x ∷ l) (take_found xs rest)

pub first_turns : (found : List ℕ) (shards : ℕ) → length found ≡ shards → take shards (finished_list found) ≡ found
first_turns found shards counted =
    ap (λ (k : ℕ). take k (finished_list found)) (sym counted)
    ∙ take_found found (replicate (MAX_SHARDS - length found) 0)

pub long_enough : (found : List ℕ) (shards : ℕ) → length found ≡ shards → shards ≤ length (finished_list found)
long_enough found shards counted = let e = length-append found (replicate (MAX_SHARDS - length found) 0) in omega arith

pub found_more : (found words : List ℕ) (b n : ℕ)
    → length found ≡ b
    → ((s : ℕ) → s < b → get_or found s 0 ≡ get_or words (s + 1) 0)
    → n ≡ get_or words (b + 1) 0
    → (s : ℕ)
    → s < b + 1
    → get_or (found ++ n ∷ []) s 0 ≡ get_or words (s + 1) 0
found_more found words b n counted same new s low = dite (ℕ_discrete s b)
    (λ is. get_or_push found n 0 s (counted ∙ sym is) ∙ new ∙ ap (λ (k : ℕ). get_or words (k + 1) 0) (sym is))
    (λ ne. get_or_append_left found (n ∷ []) 0 s (omega arith) ∙ same s (omega arith))

-- where by a round no shard is too far behind, each shard's load shows that the next turn is near it
pub near_loads : {S : Type 0} (m k : Me S View) (issued shards : ℕ) (found : List ℕ)
    → IsRoundAt shards m found k
    → busy_of issued (take shards (finished_list found)) ≡ None
    → (s : ℕ)
    → s < shards
    → (f : ℕ) × Has (hub_of k).loads (s + 1, f) × (issued + 1 ≤ f + WINDOW)
near_loads m k issued shards found round none s low =
    let there = at_there found s (let e = round.0.0 in omega arith) in
    let is : get_or found s 0 ≡ there.0 = sym (read_at found s there.0 there.1) in
    let near : issued + 1 ≤ get_or found s 0 + WINDOW = room issued found
    (ap (busy_of issued) (sym (first_turns found shards round.0.0)) ∙ none) s (let e = round.0.0 in omega arith) in (
      there.0,
      subst (λ (h : HubPart). Has h.loads (s + 1, there.0)) (sym (round_loads m shards found k round))
          (was_loaded (hub_of m) found s there.0 there.1),
      omega arith,
    )
