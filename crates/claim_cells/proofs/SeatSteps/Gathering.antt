-- The loop over the seats in which they are joined, and the last words.
use Rattle.std.proofs.Common.{◌≡◌, ℕ, ◌+◌, ◌-◌, ◌*◌, ◌<◌, ◌≤◌, List, [], ◌∷◌, ◌++◌, length, map, slice_index, sym, ap, ◌∙◌, subst, ⊎_elim, inl, inr, arith, Some, lit<}
use lib.ListN.{get_elem?}
use mathlib.Core.Option.{some-ne-none}
use mathlib.Core.Logic.{dite}
use native.Mathlib.Decide.{dec_le}
use Rattle.std.proofs.lemmas.List.{get_or_past, length-map, ext_get_or}
use Rattle.atomic_table.proofs.Lists.{at_map}
use Rattle.atomic_table.specs.Table.{Me, Final, Seen}
use Rattle.subj.specs.declared.limits.TheConstants.{MAX_COUNTER, MAX_QUEUE_NAMES, WINDOW}
use Rattle.claim_cells.specs.declared.parts.HubPart.{HubPart}
use Rattle.claim_cells.specs.declared.parts.ShardPart.{ShardPart}
use Rattle.claim_cells.specs.declared.parts.View.{View}
use Rattle.claim_cells.specs.Rule.{At, Has, Law, Words, Kept, IsCell, joined_view, row, cell}
use Rattle.claim_cells.specs.Steps.{part_of}
use Rattle.claim_cells.specs.Seats.{RaceId, ShardShown, IsShard}
use Rattle.claim_cells.specs.Calls.{AllOf, Gathers, HasEach, IsGathered, IsPartsOf, IsClosed, finished_list}
use Rattle.claim_cells.proofs.Rules.Lists.{at_below, at_there, same_at, read_at, snoc_at, has_last, has_more, has_behind, cell_below}
use Rattle.claim_cells.proofs.Rules.SeatedKept.{my_part, my_hub}

pub gather_start : (hub : HubPart) (seats : List ShardShown) (view : View)
    → view.hub ≡ Some hub
    → Gathers hub seats seats view
gather_start hub seats view is = (is, (λ i seat at. inl at))

pub gather_step : {S : Type 0} (hub : HubPart) (seats left rest : List ShardShown) (seat : ShardShown) (view : View)
    (m : Me S View)
    → left ≡ rest ++ seat ∷ []
    → IsShard m
    → part_of m ≡ seat.part
    → Gathers hub seats left view
    → Gathers hub seats rest (joined_view view m.0)
gather_step hub seats left rest seat view m is whole mine old = (
  old.0,
  (λ i o at.
      ⊎_elim (λ h.
      ⊎_elim (λ e. inl e)
      (λ (t : (i ≡ length rest) × (seat ≡ o)).
      inr (subst (λ (o : ShardShown). Has (view.shards ++ m.0.shards) o.part) t.1
      (has_behind view.shards m.0.shards seat.part
      (0, ap (λ (m : Me _ View). get_elem? m.0.shards 0) whole ∙ ap mathlib.Core.Option.some mine))))
      (snoc_at rest seat o i (subst (λ (l : List ShardShown). At l i o) is h)))
      (λ h. inr (has_more view.shards m.0.shards o.part h)) (old.1 i o at)),
)

pub all_last : (race : RaceId) (left rest : List ShardShown) (seat : ShardShown)
    → left ≡ rest ++ seat ∷ []
    → AllOf race left
    → seat.race ≡ race
all_last race left rest seat is all =
    let h = has_last rest seat in all h.0 seat (subst (λ (l : List ShardShown). At l h.0 seat) (sym is) h.1)

pub all_rest : (race : RaceId) (left rest : List ShardShown) (seat : ShardShown)
    → left ≡ rest ++ seat ∷ []
    → AllOf race left
    → AllOf race rest
all_rest race left rest seat is all i o at =
    let h = has_more rest (seat ∷ []) o (i, at) in all h.0 o (subst (λ (l : List ShardShown). At l h.0 o) (sym is) h.1)

module _ {S : Type 0} (race : RaceId) (hub : HubPart) (seats left : List ShardShown) (id : ℕ) (view : View)
    (words : List ℕ) (slots : List S) (none : left ≡ []) (had : Gathers hub seats left view)
    (each : HasEach race.shards seats)
    (final : Final (Seen (Kept MAX_COUNTER WINDOW MAX_QUEUE_NAMES race.shards) id view) words slots) where
  all : List ShardPart
  all = final.1.0.1

  law : Law MAX_COUNTER WINDOW MAX_QUEUE_NAMES final.1.0.0 final.1.0.1
  law = final.1.0.2

  held : Words WINDOW MAX_QUEUE_NAMES race.shards final.0.words final.1.0.0 final.1.0.1
  held = final.1.0.3

  is_hub : hub ≡ final.1.0.0
  is_hub = my_hub final.0.views final.1.0.0 final.1.0.1 final.1.0.4 id view final.1.1 hub had.0

  stands : (i : ℕ) (seat : ShardShown) → At seats i seat → At final.1.0.1 (row seat.part) seat.part
  stands i seat at =
      ⊎_elim (λ h. absurd (some-ne-none seat (sym (subst (λ (l : List ShardShown). At l i seat) none h))))
      (λ h. my_part final.0.views final.1.0.0 final.1.0.1 final.1.0.4 id view final.1.1 h.0 seat.part h.1)
      (had.1 i seat at)

  is_parts : IsPartsOf seats final.1.0.1
  is_parts = (
    (λ s p at.
        let mine = each s (subst (λ (n : ℕ). s < n) held.shards (at_below final.1.0.1 s p at)) in (
          mine.0,
          mine.1,
          mine.2,
          same_at final.1.0.1 s (row mine.1.part) p mine.1.part (let e = mine.3 in omega arith) at
              (stands mine.0 mine.1 mine.2),
        )),
    stands,
  )

  pub gather_end : IsGathered race hub seats words
  gather_end = (
    final.1.0.1,
    is_parts,
    subst (λ (h : HubPart). Law MAX_COUNTER WINDOW MAX_QUEUE_NAMES h final.1.0.1) (sym is_hub) law,
    subst (λ (h : HubPart). Words WINDOW MAX_QUEUE_NAMES race.shards words h final.1.0.1) (sym is_hub)
        (subst (λ (l : List ℕ). Words WINDOW MAX_QUEUE_NAMES race.shards l final.1.0.0 final.1.0.1) final.2 held),
  )

-- no word is above the limit
module _ (limit window names count : ℕ) (words : List ℕ) (hub : HubPart) (all : List ShardPart)
    (law : Law limit window names hub all) (said : Words window names count words hub all) where
  cell_limited : (c n : ℕ) → IsCell window names all c n → n ≤ limit
  cell_limited c n is =
      ⊎_elim (λ none. omega arith)
      (λ w. let low = law.won w.1 w.2 w.3 n w.0 w.4 in let a = low.1 in let b = law.limited in omega arith) is

  pub limited : (i : ℕ) → slice_index words i ≤ limit
  limited i =
      dite (dec_le 1 i)
      (λ some.
      dite (dec_le i count)
      (λ shard.
      let part = at_there all (i - 1) (let e = said.shards in omega arith) in
      let is = said.finished (i - 1) part.0 part.1 in
      let low = law.finishes (i - 1) part.0 part.1 in
      let most = law.limited in
      let here : slice_index words i ≡ slice_index words (i - 1 + 1) =
      ap (slice_index words) {x = i} {y = i - 1 + 1} (omega arith) in
      omega arith)
      (λ past.
      dite (dec_le (count + 1 + window * names) i)
      (λ out.
      let e : slice_index words i ≡ 0 =
      get_or_past words i 0 (let w = said.width in let z : ℕ = window * names in omega arith) in
      omega arith)
      (λ within.
      let z : ℕ = window * names in
      let low : i - (count + 1) < window * names = omega arith in
      let here : slice_index words i ≡ slice_index words (count + 1 + (i - (count + 1))) =
      ap (slice_index words) {x = i} {y = count + 1 + (i - (count + 1))} (omega arith) in
      let most = cell_limited (i - (count + 1)) (slice_index words (count + 1 + (i - (count + 1))))
      (said.cells (i - (count + 1)) low) in
      omega arith)))
      (λ none.
      let here : slice_index words i ≡ slice_index words 0 = ap (slice_index words) {x = i} {y = 0} (omega arith) in
      let is = said.issued in
      let most = law.limited in
      omega arith)

-- the words, read one by one, are those of the seats
module _ (race : RaceId) (hub : HubPart) (seats : List ShardShown) (words : List ℕ)
    (gathered : IsGathered race hub seats words) where
  abbrev parts : List ShardPart
  parts = gathered.0

  abbrev said : Words WINDOW MAX_QUEUE_NAMES race.shards words hub parts
  said = gathered.3

  last_turns : (found : List ℕ)
      → length found ≡ race.shards
      → ((s : ℕ) → s < race.shards → slice_index found s ≡ slice_index words (s + 1))
      → found ≡ map (λ (p : ShardPart). p.finished) parts
  last_turns found counted read =
      ext_get_or 0 found (map (λ (p : ShardPart). p.finished) parts)
      (counted ∙ sym said.shards ∙ sym (length-map parts (λ (p : ShardPart). p.finished))) (λ s low.
      let there = at_there parts s (let e = said.shards in omega arith) in
      read s (omega arith)
      ∙ said.finished s there.0 there.1
      ∙ read_at (map (λ (p : ShardPart). p.finished) parts) s there.0.finished
      (at_map (λ (p : ShardPart). p.finished) parts s there.0 there.1))

  pub is_closed : (turn : ℕ) (turns found cells : List ℕ)
      → turn ≡ slice_index words 0
      → length found ≡ race.shards
      → ((s : ℕ) → s < race.shards → slice_index found s ≡ slice_index words (s + 1))
      → turns ≡ finished_list found
      → length cells ≡ WINDOW * MAX_QUEUE_NAMES
      → ((c : ℕ) → c < length cells → slice_index cells c ≡ slice_index words (race.shards + 1 + c))
      → IsClosed race hub seats turn turns cells
  is_closed turn turns found cells first counted read noted width copied = (
    parts,
    gathered.1,
    record {
      law = gathered.2;
      shards = said.shards;
      issued = first ∙ said.issued;
      finished = noted ∙ ap finished_list (last_turns found counted read);
      width = width;
      greatest = λ s t x p at has.
          let low = cell_below WINDOW MAX_QUEUE_NAMES t x (lit< tt) (gathered.2.won s p at t x has).2 in
          subst (λ (n : ℕ). t ≤ n)
          (sym (copied (cell WINDOW MAX_QUEUE_NAMES t x)
          (subst (λ (n : ℕ). cell WINDOW MAX_QUEUE_NAMES t x < n) (sym width) low)))
          (said.greatest s t x p at has);
      cells = λ c low.
          subst (IsCell WINDOW MAX_QUEUE_NAMES parts c) (sym (copied c (subst (λ (n : ℕ). c < n) (sym width) low)))
          (said.cells c low);
    },
  )
