-- What each call does to the table and to what the race shows.
use Rattle.std.proofs.Common.{◌≡◌, ◌≢◌, ℕ, zero, suc, [], ◌∷◌, ◌+◌, ◌-◌, ◌*◌, ◌%◌, ◌<◌, ◌≤◌, true, false, ◌&&◌, cond, List, length, map, get_or, set, Option, Some, None, refl, ap, sym, ◌∙◌, subst, arith, ◌⊎◌, inl, inr, lit<, length-set, get_or-set_same, get_or-set_other}
use Rattle.std.specs.Prelude.{nat_eq, nat_lt, is_none, replicate}
use Rattle.std.proofs.lemmas.Bool.Decides.{nat_tests}
use Rattle.std.proofs.lemmas.List.{map-set, set-get_or, get_or-map, length-replicate}
use Rattle.std.proofs.lemmas.Option.{same_Some}
use Rattle.subj.specs.declared.limits.TheConstants.{WINDOW, MAX_QUEUE_NAMES}
use Rattle.claim_race.specs.declared.plain_race.Progress.{Progress}
use Rattle.claim_race.specs.declared.plain_race.Claimed.{Claimed}
use Rattle.claim_race.specs.Race.{winner, IsNew, busy_of, IsInTurn, IsNextIndex, IsIssued, IsClaimed, IsFinished}
use Rattle.claim_race.specs.PlainRace.{cell, wins_in, finished_in, next_in, is_of_turn, race_of_table, IsTable}
use Rattle.claim_race.proofs.Behind.{room}
use Rattle.claim_race.proofs.Turns.{one_turn, same_index, same_row, place_below}
use Rattle.claim_race.proofs.Table.{holds, winner_in, told, holds_it, nobody, somebody, unchanged, elsewhere}

-- ---- how far the shards have come

pub finished_in-set : (progress : List Progress) (k : ℕ) (shard : Progress)
    → finished_in (set progress k shard) ≡ set (finished_in progress) k shard.finished
finished_in-set progress k shard = map-set (λ (shard : Progress). shard.finished) progress k shard

pub next_in-set : (progress : List Progress) (k : ℕ) (shard : Progress)
    → next_in (set progress k shard) ≡ set (next_in progress) k shard.next
next_in-set progress k shard = map-set (λ (shard : Progress). shard.next) progress k shard

pub finished_in_kept : (progress : List Progress) (k next : ℕ) (shard : Progress)
    → k < length progress
    → shard ≡ get_or progress k shard
    → finished_in (set progress k (record { finished = shard.finished; next = next })) ≡ finished_in progress
finished_in_kept progress k next shard below is =
    finished_in-set progress k _
    ∙ ap (set (finished_in progress) k)
    (ap (λ (shard : Progress). shard.finished) is
    ∙ sym (get_or-map (λ (shard : Progress). shard.finished) progress k shard 0 below))
    ∙ set-get_or (finished_in progress) k 0

-- ---- the next turn

pub issue_table : (issued : ℕ) (finished : List ℕ) (table : List (Option Claimed))
    → IsTable issued finished table
    → busy_of issued finished ≡ None
    → IsTable (issued + 1) finished table
issue_table issued finished table is none = record {
  width = is.width;
  placed = λ place claimed at. let old = is.placed place claimed at in (old.0, old.1, omega arith);
  near = λ place below. room issued finished none place below;
}

not_above : (issued : ℕ) (finished : List ℕ) (table : List (Option Claimed))
    → IsTable issued finished table
    → (i k : ℕ)
    → holds (issued + 1) i (get_or table k None) ≡ false
not_above issued finished table is i k =
    elim (holds (issued + 1) i (get_or table k None)) as
    (λ b. holds (issued + 1) i (get_or table k None) ≡ b → b ≡ false) [
      | true ↦ λ yes.
          let what = told (issued + 1) i (get_or table k None) yes in
          let low = (is.placed k what.0 what.1).2 in
          absurd (let same = what.2 in omega arith)
      | false ↦ λ _. refl
    ] refl

pub issues : (issued : ℕ) (progress : List Progress) (table : List (Option Claimed))
    → IsTable issued (finished_in progress) table
    → IsIssued (race_of_table issued progress table) (issued + 1) (race_of_table (issued + 1) progress table)
unfolding winner
issues issued progress table is = record {
  after = refl;
  issued = refl;
  finished = refl;
  next = refl;
  kept = record { winners = λ t i _. refl };
  fresh = λ i. nobody table (issued + 1) i (λ k _. not_above issued (finished_in progress) table is i k);
}

-- ---- a claim

is_it : (a b : ℕ) → nat_eq a b ≡ true → a ≡ b
is_it a b told_so = grind (arith, nat_tests)

and_not : (a b c d : ℕ) → nat_eq a b ≡ false → (nat_eq a b && nat_eq c d) ≡ false
and_not a b c d told_so = grind (arith, nat_tests)

both : (a b c d : ℕ) → (nat_eq a b && nat_eq c d) ≡ true → (a ≡ b) × (c ≡ d)
both a b c d told_so = grind (arith, nat_tests)

turned : (a b c d : ℕ) → (nat_eq a b && nat_eq c d) ≡ false → (nat_eq b a && nat_eq d c) ≡ false
turned a b c d told_so = grind (arith, nat_tests)

cases_eq : (a b : ℕ) → (a ≡ b) ⊎ (a ≢ b)
cases_eq a b =
    elim (nat_eq a b) as (λ c. nat_eq a b ≡ c → (a ≡ b) ⊎ (a ≢ b)) [
      | true ↦ λ so. inl (is_it a b so)
      | false ↦ λ so. inr (λ same. grind (arith, nat_tests))
    ] refl

module _ (issued : ℕ) (old : List Progress) (table : List (Option Claimed))
    (is : IsTable issued (finished_in old) table) (shard turn index : ℕ)
    (on_turn : IsInTurn (race_of_table issued old table) shard turn)
    (next : IsNextIndex (race_of_table issued old table) shard index) where
  abbrev here : ℕ
  here = cell turn index

  abbrev held : Option Claimed
  held = get_or table here None

  -- the turn is in the window
  in_window : issued < turn + WINDOW
  in_window =
      let near = is.near (shard - 1) (let last = on_turn.last in let first = on_turn.first in omega arith) in
      let turn_is = on_turn.follows in
      omega arith

  within : here < length table
  within = subst (λ n. here < n) (sym is.width) (place_below turn WINDOW MAX_QUEUE_NAMES index (lit< tt) next.most)

  -- where the place holds a claim of the turn, it is the pair's
  of_turn : (place : Option Claimed)
      → place ≡ held
      → is_of_turn turn place ≡ true
      → (claimed : Claimed) × (held ≡ Some claimed) × (holds turn index (Some claimed) ≡ true)
  of_turn None same told_so = cc
  of_turn (Some claimed) same told_so =
      let turn_is : claimed.turn ≡ turn = is_it claimed.turn turn told_so in
      let placed = is.placed here claimed (sym same) in
      let index_is : claimed.index ≡ index = same_index (claimed.turn % WINDOW) (turn % WINDOW) MAX_QUEUE_NAMES
      claimed.index index placed.1 next.most placed.0 in (
        claimed,
        sym same,
        sym (ap (λ t. holds t index (Some claimed)) turn_is)
            ∙ sym (ap (λ i. holds claimed.turn i (Some claimed)) index_is) ∙ holds_it claimed,
      )

  other_turn : (place : Option Claimed) (i : ℕ) → is_of_turn turn place ≡ false → holds turn i place ≡ false
  other_turn None i told_so = refl
  other_turn (Some claimed) i told_so = and_not claimed.turn turn claimed.index i told_so

  elsewhere_here : (j : ℕ) → j ≢ here → holds turn index (get_or table j None) ≡ false
  elsewhere_here j other = elsewhere issued (finished_in old) table is turn index j other

  -- a claim where the pair was won
  pub lost : (new : List Progress)
      → finished_in new ≡ finished_in old
      → next_in new ≡ set (next_in old) (shard - 1) (index + 1)
      → is_of_turn turn held ≡ true
      → IsClaimed (race_of_table issued old table) shard turn index false (race_of_table issued new table)
  unfolding winner
  lost new finished_same next_is told_so =
      let was = of_turn held refl told_so in
      record {
        decided =
            sym (ap is_none (somebody table turn index here was.0 within
            (λ k below. elsewhere_here k (λ same. absurd (omega arith))) was.1 was.2));
        issued = refl;
        finished = finished_same;
        next = next_is;
        pair = refl;
        winners = λ t i _. refl;
      }

  abbrev won_now : Claimed
  won_now = record { turn = turn; index = index; shard = shard }

  abbrev written : List (Option Claimed)
  written = set table here (Some won_now)

  -- no other pair of the window stands at the place
  held_other : (t i : ℕ) → issued < t + WINDOW → is_of_turn turn held ≡ false → holds t i held ≡ false
  held_other t i inside told_so =
      elim (holds t i held) as (λ b. holds t i held ≡ b → b ≡ false) [
        | true ↦ λ so.
            let what = told t i held so in
            let placed = is.placed here what.0 what.1 in
            let low : t ≤ issued = (let same = what.2 in let most = placed.2 in omega arith) in
            let row : t % WINDOW ≡ turn % WINDOW = sym (ap (λ n. n % WINDOW) what.2)
            ∙ same_row (what.0.turn % WINDOW) (turn % WINDOW) MAX_QUEUE_NAMES what.0.index index placed.1 next.most
            placed.0 in
            let same : t ≡ turn = one_turn t turn WINDOW (let near = in_window in omega arith)
            (let most = on_turn.issued in omega arith) row in
            let again : holds turn i held ≡ true = sym (ap (λ n. holds n i held) same) ∙ so in
            sym again ∙ other_turn held i told_so
        | false ↦ λ _. refl
      ] refl

  others_kept : (t i : ℕ)
      → issued < t + WINDOW
      → is_of_turn turn held ≡ false
      → (nat_eq turn t && nat_eq index i) ≡ false
      → winner_in written t i ≡ winner_in table t i
  others_kept t i inside told_so apart = unchanged table t i here (Some won_now) (held_other t i inside told_so) apart

  -- the pair is the shard's
  pair_won : winner_in written turn index ≡ Some shard
  pair_won =
      somebody written turn index here won_now (omega (arith, within, length-set table here (Some won_now)))
      (λ k below.
      let other : k ≢ here = λ same. absurd (omega arith) in
      ap (holds turn index) (get_or-set_other table here k (Some won_now) None other) ∙ elsewhere_here k other)
      (get_or-set_same table here (Some won_now) None within) (holds_it won_now)

  after : (t i : ℕ)
      → issued < t + WINDOW
      → is_of_turn turn held ≡ false
      → winner_in written t i ≡ cond (nat_eq t turn && nat_eq i index) (Some shard) (winner_in table t i)
  after t i inside told_so =
      elim (nat_eq t turn && nat_eq i index) as
      (λ b. (nat_eq t turn && nat_eq i index) ≡ b → winner_in written t i ≡ cond b (Some shard) (winner_in table t i)) [
        | true ↦ λ so.
            let same = both t turn i index so in
            ap (λ n. winner_in written n i) same.0 ∙ ap (winner_in written turn) same.1 ∙ pair_won
        | false ↦ λ so. others_kept t i inside told_so (turned t turn i index so)
      ] refl

  -- a claim where nobody had won the pair
  pub won : (new : List Progress)
      → finished_in new ≡ finished_in old
      → next_in new ≡ set (next_in old) (shard - 1) (index + 1)
      → is_of_turn turn held ≡ false
      → IsClaimed (race_of_table issued old table) shard turn index true (race_of_table issued new written)
  unfolding winner
  won new finished_same next_is told_so = record {
    decided = sym (ap is_none (nobody table turn index (λ k _. free k (cases_eq k here))));
    issued = refl;
    finished = finished_same;
    next = next_is;
    pair = pair_won;
    winners = λ t i inside. after t i inside told_so;
  } where
    free : (k : ℕ) → (k ≡ here) ⊎ (k ≢ here) → holds turn index (get_or table k None) ≡ false
    free k (inl same) = ap (λ n. holds turn index (get_or table n None)) same ∙ other_turn held index told_so
    free k (inr other) = elsewhere_here k other

-- what is written at a place belongs there
pub written_table : (issued : ℕ) (finished : List ℕ) (table : List (Option Claimed)) (place : ℕ) (claimed : Claimed)
    → IsTable issued finished table
    → place < WINDOW * MAX_QUEUE_NAMES
    → cell claimed.turn claimed.index ≡ place
    → claimed.index < MAX_QUEUE_NAMES
    → claimed.turn ≤ issued
    → IsTable issued finished (set table place (Some claimed))
written_table issued finished table place claimed is within same low most = record {
  width = length-set table place (Some claimed) ∙ is.width;
  placed = λ k other at. at_place k other at (cases_eq k place);
  near = is.near;
} where
  below : place < length table
  below = subst (λ n. place < n) (sym is.width) within

  at_place : (k : ℕ) (other : Claimed)
      → get_or (set table place (Some claimed)) k None ≡ Some other
      → (k ≡ place) ⊎ (k ≢ place)
      → (cell other.turn other.index ≡ k) × (other.index < MAX_QUEUE_NAMES) × (other.turn ≤ issued)
  at_place k other at (inl here) =
      let is_it : other ≡ claimed = same_Some other claimed
      (sym at ∙ ap (λ n. get_or (set table place (Some claimed)) n None) here
      ∙ get_or-set_same table place (Some claimed) None below) in
      subst (λ (c : Claimed). (cell c.turn c.index ≡ k) × (c.index < MAX_QUEUE_NAMES) × (c.turn ≤ issued)) (sym is_it)
      (same ∙ sym here, low, most)
  at_place k other at (inr elsewhere) =
      is.placed k other (sym (get_or-set_other table place k (Some claimed) None elsewhere) ∙ at)

-- ---- the end of a turn

pub finish_table : (issued : ℕ) (finished : List ℕ) (table : List (Option Claimed)) (k turn : ℕ)
    → IsTable issued finished table
    → turn ≡ get_or finished k 0 + 1
    → IsTable issued (set finished k turn) table
finish_table issued finished table k turn is behind = record {
  width = is.width;
  placed = is.placed;
  near = λ place below. near place (omega (arith, length-set finished k turn)) (cases_eq place k);
} where
  near : (place : ℕ)
      → place < length finished
      → (place ≡ k) ⊎ (place ≢ k)
      → issued ≤ get_or (set finished k turn) place 0 + WINDOW
  near place below (inl same) =
      let here : get_or (set finished k turn) place 0 ≡ turn =
      ap (λ n. get_or (set finished k turn) n 0) same ∙ get_or-set_same finished k turn 0 (omega arith) in
      let old = is.near place below in
      let old_is : get_or finished place 0 ≡ get_or finished k 0 = ap (λ n. get_or finished n 0) same in
      omega arith
  near place below (inr other) =
      let old = is.near place below in let there = get_or-set_other finished k place turn 0 other in omega arith

pub finishes : (issued : ℕ) (old new : List Progress) (table : List (Option Claimed)) (shard turn : ℕ)
    → finished_in new ≡ set (finished_in old) (shard - 1) turn
    → next_in new ≡ set (next_in old) (shard - 1) 0
    → IsFinished (race_of_table issued old table) shard turn (race_of_table issued new table)
unfolding winner
finishes issued old new table shard turn finished_is next_is = record {
  issued = refl;
  finished = finished_is;
  next = next_is;
  kept = record { winners = λ t i _. refl };
}

-- ---- the start

same_starts : {A : Type 0} (f : A → ℕ) (n : ℕ) (x : A) → f x ≡ 0 → map f (replicate n x) ≡ replicate n 0
same_starts f zero x is = refl
same_starts f (suc n) x is = ap (λ y. y ∷ map f (replicate n x)) is ∙ ap (λ ys. 0 ∷ ys) (same_starts f n x is)

pub begins : (shards issued : ℕ) (progress : List Progress) (table : List (Option Claimed)) (start : Progress)
    → issued ≡ 0
    → progress ≡ replicate shards start
    → start.finished ≡ 0
    → start.next ≡ 0
    → wins_in table ≡ []
    → IsNew shards (race_of_table issued progress table)
begins shards issued progress table start issued_is progress_is finished_is next_is none_won = record {
  issued = issued_is;
  finished = ap finished_in progress_is ∙ same_starts (λ (shard : Progress). shard.finished) shards start finished_is;
  next = ap next_in progress_is ∙ same_starts (λ (shard : Progress). shard.next) shards start next_is;
  won = none_won;
}

pub turn_is : (most issued turn : ℕ)
    → cond (nat_lt most (issued + 1)) None (Some (issued + 1)) ≡ Some turn
    → turn ≡ issued + 1
turn_is most issued turn is = grind (arith, nat_tests)

nothing_at : (size place : ℕ) → get_or (replicate size (let free : Option Claimed = None in free)) place None ≡ None
nothing_at zero place = refl
nothing_at (suc size) zero = refl
nothing_at (suc size) (suc place) = nothing_at size place

-- nothing is won there
pub none_won : (size : ℕ) → wins_in (replicate size None) ≡ []
none_won zero = refl
none_won (suc size) = none_won size

-- the table at the start
pub starts : (size issued : ℕ) (finished : List ℕ) (table : List (Option Claimed))
    → issued ≡ 0
    → table ≡ replicate size None
    → size ≡ WINDOW * MAX_QUEUE_NAMES
    → IsTable issued finished table
starts size issued finished table none same wide = record {
  width = ap length same ∙ length-replicate size None ∙ wide;
  placed = λ place claimed at.
      absurd (nobody_there claimed (sym (nothing_at size place) ∙ sym (ap (λ l. get_or l place None) same) ∙ at));
  near = λ place below. omega arith;
}
  where
    nobody_there : (claimed : Claimed) → ¬ (None ≡ Some claimed)
    nobody_there claimed e = cc
