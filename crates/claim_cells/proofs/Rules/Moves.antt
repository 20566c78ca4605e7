-- Each step keeps the rule of the table.
use Rattle.std.proofs.Common.{◌≡◌, ◌≢◌, ℕ, ◌+◌, ◌-◌, ◌*◌, ◌%◌, ◌<◌, ◌≤◌, max, List, [], ◌∷◌, ◌++◌, length, set, slice_index, sym, refl, ap, ◌∙◌, subst, subst₂, ⊎_elim, inl, inr, arith, length-set, get_or-set_same, get_or-set_other, Some}
use Rattle.std.proofs.Math.Nat.{max-eq_left, max-eq_right}
use Rattle.std.proofs.lemmas.List.{set-get_or}
use mathlib.Core.Logic.{dite}
use mathlib.Core.Option.{none}
use native.Mathlib.Decide.{dec_le, ℕ_discrete}
use Rattle.atomic_table.specs.Table.{State, Me, step, keeps, Allows, Splits, Joins}
use Rattle.atomic_table.proofs.Lists.{set_else, set_again, one_turn}
use Rattle.claim_cells.specs.declared.parts.HubPart.{HubPart}
use Rattle.claim_cells.specs.declared.parts.ShardPart.{ShardPart}
use Rattle.claim_cells.specs.declared.parts.View.{View}
use Rattle.claim_cells.specs.Rule.{At, Has, Law, Words, Seated, Kept, InTurn, IsCell, cell, row, rest_of, first_of_view, joined_view, spent_view}
use Rattle.claim_cells.specs.Steps.{hub_after_load, issued_one, part_after_load, won_by, lost_by, finished_one, with_hub, with_part, Looks, Issues, Sees, Claims, Loses, IsFoundAt, IsMetAt, Finishes}
use Rattle.claim_cells.specs.Seats.{Sighted}
use Rattle.claim_cells.proofs.Rules.Lists.{un_some, same_at, at_there, has_snoc, has_more, has_last, snoc_at, cell_below, cell_same}
use Rattle.claim_cells.proofs.Rules.LawKept.{law_look, law_issue, law_part}
use Rattle.claim_cells.proofs.Rules.WordsKept.{shard_below, words_look, words_issue, words_part}
use Rattle.claim_cells.proofs.Rules.SeatedKept.{my_part, my_hub, seated_hub, seated_part, seated_split, seated_join}

module _ {S : Type 0} (limit window names count : ℕ) (wide : 0 < window) where
  abbrev Rule : State S View → Type 0
  Rule = Kept limit window names count

  pub splits : (id : ℕ) (v : View) → Splits Rule id v (rest_of v) (first_of_view v)
  splits id v s k at = (k.0, k.1, k.2, k.3, seated_split s.views k.0 k.1 k.4 id v at)

  pub joins : (id other : ℕ) (v w : View) (h : HubPart)
      → v.hub ≡ Some h
      → Joins Rule id v other w (joined_view v w) spent_view
  joins id other v w h has s k at apart there = (
    k.0,
    k.1,
    k.2,
    k.3,
    seated_join s.views k.0 k.1 k.4 id v at other w h has apart
        (sym (set_else s.views id other (joined_view v w) apart) ∙ there),
  )

  module _ (slots id : ℕ) (m : Me S View) where
    -- the hub loads a shard's finished word
    pub look : (shard : ℕ) (h : HubPart)
        → m.0.hub ≡ Some h
        → 1 ≤ shard
        → shard ≤ count
        → Allows Rule slots id m shard (λ n. n) (Looks limit (step slots shard 0 0 none) m)
    look shard h is first last t k len at fits =
        let hub = k.0 in
        let all = k.1 in
        let law : Law limit window names hub all = k.2 in
        let words : Words window names count t.words hub all = k.3 in
        let seated : Seated t.views hub all = k.4 in
        let n : ℕ = slice_index t.words shard in
        let s : ℕ = shard - 1 in
        let mine : h ≡ hub = my_hub t.views hub all seated id m.0 at h is in
        let part = at_there all s (subst (λ (n : ℕ). s < n) (sym words.shards) (omega arith)) in
        let p : ShardPart = part.0 in
        let named : p.shard ≡ shard = (let e = law.named s p part.1 in omega arith) in
        let word : n ≡ p.finished =
        ap (slice_index t.words) {x = shard} {y = s + 1} (omega arith) ∙ words.finished s p part.1 in (
          with_hub m.0 (hub_after_load h shard n) s,
          keeps,
          tt,
          (
            hub_after_load h shard n,
            all,
            subst (λ (z : HubPart). Law limit window names (hub_after_load z shard n) all) (sym mine)
                (subst (λ (k : ℕ). Law limit window names (hub_after_load hub k n) all) named
                (law_look limit window names hub all law s n p part.1 (omega arith))),
            subst (λ (l : List ℕ). Words window names count l (hub_after_load h shard n) all)
                (sym (set-get_or t.words shard 0))
                (words_look limit window names count t.words hub all wide law words (hub_after_load h shard n)
                (ap (λ z. z.issued) mine)),
            seated_hub t.views hub all seated id m.0 at h (hub_after_load h shard n) s is,
          ),
          (λ g is'.
              let one : h ≡ g = un_some h g (sym is ∙ is') in (
                (λ j. (with_hub m.0 (hub_after_load (one j) shard n) s, m.1)),
                (let low = law.finishes s p part.1 in let most = law.limited in omega arith),
                (λ f has.
                    let low : f ≤ p.finished = law.looks s f p
                    (subst (λ (z : HubPart). Has z.loads (p.shard, f)) (sym one ∙ mine)
                    (subst (λ (r : ℕ). Has g.loads (r, f)) (sym named) has))
                    part.1 in
                    omega arith),
                (λ i q mine' called.
                    word
                    ∙ ap (λ (z : ShardPart). z.finished)
                    (same_at all s (row q) p q (let e = called in omega arith) part.1
                    (my_part t.views hub all seated id m.0 at i q mine'))),
              )),
        )

    -- the hub stores the next turn as issued
    pub issue : (h : HubPart) (new : ℕ)
        → m.0.hub ≡ Some h
        → new ≡ h.issued + 1
        → h.issued < limit
        → ((s : ℕ) → s < count → (f : ℕ) × Has h.loads (s + 1, f) × (new ≤ f + window))
        → Allows Rule slots id m 0 (λ _. new) (λ _. Issues (step slots 0 new 0 none) m new)
    issue h new is next low near t k len at fits =
        let hub = k.0 in
        let all = k.1 in
        let law : Law limit window names hub all = k.2 in
        let words : Words window names count t.words hub all = k.3 in
        let seated : Seated t.views hub all = k.4 in
        let mine : h ≡ hub = my_hub t.views hub all seated id m.0 at h is in
        let same : h.issued ≡ hub.issued = ap (λ z. z.issued) mine in (
          with_hub m.0 (issued_one h) m.0.at,
          keeps,
          tt,
          (
            issued_one h,
            all,
            subst (λ (z : HubPart). Law limit window names (issued_one z) all) (sym mine)
                (law_issue limit window names hub all law (omega arith) (λ s p e.
                let there = near s (shard_below limit window names count t.words hub all wide law words s p e) in
                let low : there.0 ≤ p.finished = law.looks s there.0 p
                (subst (λ (k : ℕ). Has hub.loads (k, there.0)) (sym (law.named s p e))
                (subst (λ (z : HubPart). Has z.loads (s + 1, there.0)) mine there.1))
                e in
                let up = there.2 in
                omega arith)),
            subst (λ (z : HubPart). Words window names count (set t.words 0 new) (issued_one z) all) (sym mine)
                (subst (λ (z : ℕ). Words window names count (set t.words 0 z) (issued_one hub) all)
                (ap (λ (z : HubPart). z.issued + 1) (sym mine) ∙ sym next)
                (words_issue limit window names count t.words hub all wide law words)),
            seated_hub t.views hub all seated id m.0 at h (issued_one h) m.0.at is,
          ),
          (λ g is'.
              let one : h ≡ g = un_some h g (sym is ∙ is') in (
                (λ j. (with_hub m.0 (issued_one (one j)) m.0.at, m.1)),
                (λ i u x p mine' has.
                    let low = law.won (row p) p (my_part t.views hub all seated id m.0 at i p mine') u x has in
                    let below : u ≤ hub.issued = low.1 in
                    let e : h.issued ≡ g.issued = ap (λ (z : HubPart). z.issued) one in
                    omega arith),
              )),
        )

    -- a shard loads the last turn issued
    pub see : (p : ShardPart)
        → At m.0.shards m.0.at p
        → Allows Rule slots id m 0 (λ n. n) (Sees limit (step slots 0 0 0 none) m)
    see p mine t k len at fits =
        let hub = k.0 in
        let all = k.1 in
        let law : Law limit window names hub all = k.2 in
        let words : Words window names count t.words hub all = k.3 in
        let seated : Seated t.views hub all = k.4 in
        let n : ℕ = slice_index t.words 0 in
        let s : ℕ = row p in
        let there : At all s p = my_part t.views hub all seated id m.0 at m.0.at p mine in
        let word : n ≡ hub.issued = words.issued in (
          with_part m.0 (part_after_load p n),
          keeps,
          tt,
          (
            hub,
            set all s (part_after_load p n),
            law_part limit window names hub all law s p there (part_after_load p n) refl (omega arith)
                (law.finishes s p there)
                (λ f h. ⊎_elim (λ old. law.sees s f p there old) (λ new. omega arith) (has_snoc p.loads n f h))
                (law.won s p there) (law.lost s p there) (λ pair h. h) (λ i pair h. inl h) (λ pair h. inl h),
            subst (λ (l : List ℕ). Words window names count l hub (set all s (part_after_load p n)))
                (sym (set-get_or t.words 0 0))
                (words_part limit window names count t.words hub all wide law words s p there (part_after_load p n)
                t.words refl refl (words.finished s p there) (λ r ne low. refl) (λ c low. omega arith) (λ pair h. h)
                (λ f x h. inl h) (λ c low. inl refl)),
            seated_part t.views hub all seated id m.0 at p (part_after_load p n) mine refl law.named,
          ),
          (λ q mine'.
              let one : p ≡ q = same_at m.0.shards m.0.at m.0.at p q refl mine mine' in (
                (λ j. (with_part m.0 (part_after_load (one j) n), m.1)),
                (let most = law.limited in omega arith),
                (λ f has.
                    let low : f ≤ hub.issued =
                    law.sees s f p there (subst (λ (z : ShardPart). Has z.loads f) (sym one) has) in
                    omega arith),
                (λ h is. word ∙ ap (λ z. z.issued) (sym (my_hub t.views hub all seated id m.0 at h is))),
              )),
        )

    -- a shard stores its turn as finished
    pub finish : (p : ShardPart) (shard new : ℕ)
        → At m.0.shards m.0.at p
        → p.shard ≡ shard
        → 1 ≤ shard
        → new ≡ p.finished + 1
        → Sighted p
        → Allows Rule slots id m shard (λ _. new) (λ _. Finishes (step slots shard new 0 none) m new)
    finish p shard new mine called first next sighted t k len at fits =
        let hub = k.0 in
        let all = k.1 in
        let law : Law limit window names hub all = k.2 in
        let words : Words window names count t.words hub all = k.3 in
        let seated : Seated t.views hub all = k.4 in
        let s : ℕ = row p in
        let q = finished_one p in
        let later = set t.words shard new in
        let there : At all s p = my_part t.views hub all seated id m.0 at m.0.at p mine in
        let is_word : shard ≡ s + 1 = omega arith in
        let low : s < count = shard_below limit window names count t.words hub all wide law words s p there in
        let inside : shard < length t.words =
        subst (λ (n : ℕ). shard < n) (sym words.width) (let z : ℕ = window * names in omega arith) in
        let most : p.finished + 1 ≤ hub.issued =
        (let a = sighted.2 in let b = law.sees s sighted.0 p there sighted.1 in omega arith) in (
          with_part m.0 q,
          keeps,
          tt,
          (
            hub,
            set all s q,
            law_part limit window names hub all law s p there q refl (omega arith) most (λ f h. law.sees s f p there h)
                (λ u x h.
                let o = law.won s p there u x h in let l = o.0 in (omega arith, o.1, o.2, (λ e. absurd (omega arith))))
                (λ u x h.
                let o = law.lost s p there u x h in let l = o.0 in (omega arith, o.1, o.2, (λ e. absurd (omega arith))))
                (λ pair h. h) (λ i pair h. inl h) (λ pair h. inl h),
            words_part limit window names count t.words hub all wide law words s p there q later
                (length-set t.words shard new) (get_or-set_other t.words shard 0 new 0 (λ e. omega arith))
                (ap (slice_index later) (sym is_word) ∙ get_or-set_same t.words shard new 0 inside ∙ next)
                (λ r ne _. get_or-set_other t.words shard (r + 1) new 0 (λ e. ne (omega arith)))
                (λ c _.
                let e : slice_index later (count + 1 + c) ≡ slice_index t.words (count + 1 + c) =
                get_or-set_other t.words shard (count + 1 + c) new 0 (λ e. omega arith) in
                omega arith)
                (λ pair h. h) (λ f x h. inl h)
                (λ c _. inl (get_or-set_other t.words shard (count + 1 + c) new 0 (λ e. omega arith))),
            seated_part t.views hub all seated id m.0 at p q mine refl law.named,
          ),
          (λ o mine'. λ j. (
            with_part m.0 (finished_one (same_at m.0.shards m.0.at m.0.at p o refl mine mine' j)),
            m.1,
          )),
        )

    -- a shard raises a claim word to its turn
    module _ (x : ℕ) (p : ShardPart) (turn word : ℕ) (mine : At m.0.shards m.0.at p) (named : x < names)
        (next : p.next ≤ x) (sighted : Sighted p) (counted : m.0.count ≡ count) (is_turn : turn ≡ p.finished + 1)
        (is_word : word ≡ count + 1 + cell window names (p.finished + 1) x) where
      abbrev Then : ℕ → Me S View → Type 0
      Then = Claims window names (step slots word turn 0 none) m

      -- the operands tell which pair was claimed
      same_claim : (y : ℕ) (q : ShardPart)
          → At m.0.shards m.0.at q
          → word ≡ m.0.count + 1 + cell window names (q.finished + 1) y
          → (p ≡ q) × (x ≡ y)
      same_claim y q at wd =
          let one : p ≡ q = same_at m.0.shards m.0.at m.0.at p q refl mine at in
          let z : ℕ = (p.finished + 1) % window * names in
          let wd' : word ≡ m.0.count + 1 + (z + y) =
          subst (λ (o : ShardPart). word ≡ m.0.count + 1 + cell window names (o.finished + 1) y) (sym one) wd in
          let is : word ≡ count + 1 + (z + x) = is_word in
          (one, omega arith)

      module _ (t : State S View) (k : Rule t) (at : At t.views id m.0) where
        abbrev hub : HubPart
        hub = k.0

        abbrev all : List ShardPart
        all = k.1

        abbrev law : Law limit window names hub all
        law = k.2

        abbrev words : Words window names count t.words hub all
        words = k.3

        abbrev seated : Seated t.views hub all
        seated = k.4

        abbrev s : ℕ
        s = row p

        abbrev found : ℕ
        found = slice_index t.words word

        abbrev place : ℕ
        place = cell window names (p.finished + 1) x

        there : At all s p
        there = my_part t.views hub all seated id m.0 at m.0.at p mine

        placed : place < window * names
        placed = cell_below window names (p.finished + 1) x wide named

        found_at : found ≡ slice_index t.words (count + 1 + place)
        found_at = ap (slice_index t.words) is_word

        issued : p.finished + 1 ≤ hub.issued
        issued = let a = sighted.2 in let b = law.sees s sighted.0 p there sighted.1 in omega arith

        -- no part has won the pair of this claim where the word is below the turn
        unclaimed : found < p.finished + 1 → (r : ℕ) (o : ShardPart) → At all r o → ¬ Has o.won (p.finished + 1, x)
        unclaimed low r o e h =
            let up : p.finished + 1 ≤ slice_index t.words (count + 1 + place) =
            words.greatest r (p.finished + 1) x o e h in
            let is = found_at in
            omega arith

        -- another part has won it where the word is not below the turn
        claimed : p.finished + 1 ≤ found
            → (r : ℕ) × (o : ShardPart) × (r ≢ s) × At all r o × Has o.won (p.finished + 1, x)
        claimed up =
            ⊎_elim (λ none. absurd (omega arith))
            (λ w.
            let won = law.won w.1 w.2 w.3 found w.0 w.4 in
            let row = cell_same window names found (p.finished + 1) w.0 x won.2 named w.5 in
            let near = law.near s p there in
            let below = won.1 in
            let turn_is : p.finished + 1 ≡ found =
            one_turn (p.finished + 1) found window up (omega arith) (sym row.0) in
            let has : Has w.2.won (p.finished + 1, x) =
            subst₂ (λ (a b : ℕ). Has w.2.won (a, b)) (sym turn_is) row.1 w.4 in (
              w.1,
              w.2,
              (λ is.
                  let o : w.2 ≡ p = same_at all w.1 s w.2 p is w.3 there in
                  let early =
                  (law.won s p there (p.finished + 1) x
                  (subst (λ (z : ShardPart). Has z.won (p.finished + 1, x)) {x = w.2} {y = p} o has)).3
                  refl in
                  absurd (omega arith)),
              w.3,
              has,
            ))
            (subst (IsCell window names all place) (sym found_at) (words.cells place placed))

        later_turns : (y : ℕ) (pairs : List (ℕ × ℕ)) (issued : ℕ)
            → p.next ≤ y
            → InTurn names issued p pairs
            → (t' x' : ℕ)
            → Has pairs (t', x')
            → (t' ≤ p.finished + 1) × (t' ≤ issued) × (x' < names) × (t' ≡ p.finished + 1 → x' < y + 1)
        later_turns y pairs issued low all t' x' h =
            let o = all t' x' h in (o.0, o.1, o.2, (λ e. let b = o.3 e in omega arith))

        -- the claim's own pair is the last of its list
        with_last : (pairs : List (ℕ × ℕ))
            → InTurn names hub.issued p pairs
            → (t' x' : ℕ)
            → Has (pairs ++ (p.finished + 1, x) ∷ []) (t', x')
            → (t' ≤ p.finished + 1) × (t' ≤ hub.issued) × (x' < names) × (t' ≡ p.finished + 1 → x' < x + 1)
        with_last pairs old t' x' h =
            ⊎_elim (λ h. later_turns x pairs hub.issued next old t' x' h)
            (λ (e : (p.finished + 1, x) ≡ (t', x')).
            subst (λ (z : ℕ × ℕ).
            (z.0 ≤ p.finished + 1) × (z.0 ≤ hub.issued) × (z.1 < names) × (z.0 ≡ p.finished + 1 → z.1 < x + 1))
            e (omega arith, issued, named, (λ _. omega arith)))
            (has_snoc pairs (p.finished + 1, x) (t', x') h)

        loses : p.finished + 1 ≤ found
            → Rule record { words = t.words; homes = t.homes; views = set t.views id (with_part m.0 (lost_by p x)) }
        loses up = (
          hub,
          set all s (lost_by p x),
          law_part limit window names hub all law s p there (lost_by p x) refl (omega arith) (law.finishes s p there)
              (λ n h. law.sees s n p there h) (later_turns x p.won hub.issued next (law.won s p there))
              (with_last p.lost (law.lost s p there)) (λ pair h. h) (λ i pair h. inl h) (λ pair h.
              ⊎_elim (λ h. inl h)
              (λ (e : (p.finished + 1, x) ≡ pair).
              inr
              (subst (λ (z : ℕ × ℕ). (r : ℕ) × (o : ShardPart) × (r ≢ s) × At all r o × Has o.won z) e (claimed up)))
              (has_snoc p.lost (p.finished + 1, x) pair h)),
          words_part limit window names count t.words hub all wide law words s p there (lost_by p x) t.words refl refl
              (words.finished s p there) (λ r ne low. refl) (λ c low. omega arith) (λ pair h. h) (λ f x h. inl h)
              (λ c low. inl refl),
          seated_part t.views hub all seated id m.0 at p (lost_by p x) mine refl law.named,
        )

        wins : found < p.finished + 1
            → Rule record {
              words = set t.words word (p.finished + 1);
              homes = t.homes;
              views = set t.views id (with_part m.0 (won_by p x));
            }
        wins low = (
          hub,
          set all s (won_by p x),
          law_part limit window names hub all law s p there (won_by p x) refl (omega arith) (law.finishes s p there)
              (λ n h. law.sees s n p there h) (with_last p.won (law.won s p there))
              (later_turns x p.lost hub.issued next (law.lost s p there))
              (λ pair h. has_more p.won ((p.finished + 1, x) ∷ []) pair h)
              (λ i pair h.
              ⊎_elim (λ h. inl h)
              (λ e. inr (e.0, (λ r o at has. unclaimed low r o at (subst (Has o.won) (sym e.1) has))))
              (snoc_at p.won (p.finished + 1, x) pair i h))
              (λ pair h. inl h),
          words_part limit window names count t.words hub all wide law words s p there (won_by p x) later
              (length-set t.words word (p.finished + 1))
              (else 0 (λ e. let is : word ≡ count + 1 + place = is_word in omega arith))
              (else (s + 1) (λ e.
              let low : s < count = shard_below limit window names count t.words hub all wide law words s p there in
              let is : word ≡ count + 1 + place = is_word in
              omega arith) ∙ words.finished s p there)
              (λ r ne under. else (r + 1) (λ e. let is : word ≡ count + 1 + place = is_word in omega arith))
              (λ c _.
              dite (ℕ_discrete c place)
              (λ e.
              let a : slice_index later (count + 1 + c) ≡ p.finished + 1 =
              ap (λ (c : ℕ). slice_index later (count + 1 + c)) e ∙ here in
              let b : slice_index t.words (count + 1 + c) ≡ found =
              ap (λ (c : ℕ). slice_index t.words (count + 1 + c)) e ∙ sym found_at in
              omega arith)
              (λ ne. let e = beside c ne in omega arith))
              (λ pair h. has_more p.won ((p.finished + 1, x) ∷ []) pair h)
              (λ f y h.
              ⊎_elim (λ h. inl h)
              (λ (e : (p.finished + 1, x) ≡ (f, y)).
              inr (subst (λ (z : ℕ × ℕ). z.0 ≤ slice_index later (count + 1 + cell window names z.0 z.1)) e
              (let a = here in omega arith)))
              (has_snoc p.won (p.finished + 1, x) (f, y) h))
              (λ c _.
              dite (ℕ_discrete c place)
              (λ e.
              let a : slice_index later (count + 1 + c) ≡ p.finished + 1 =
              ap (λ (c : ℕ). slice_index later (count + 1 + c)) e ∙ here in
              inr (
                x,
                subst (λ (n : ℕ). Has (p.won ++ (p.finished + 1, x) ∷ []) (n, x)) (sym a)
                    (has_last p.won (p.finished + 1, x)),
                ap (λ (n : ℕ). cell window names n x) a ∙ sym e,
              ))
              (λ ne. inl (beside c ne))),
          seated_part t.views hub all seated id m.0 at p (won_by p x) mine refl law.named,
        )
          where
            later : List ℕ
            later = set t.words word (p.finished + 1)

            inside : word < length t.words
            inside =
                subst (λ (n : ℕ). word < n) (sym words.width)
                (let low : place < window * names = placed in
                let is : word ≡ count + 1 + place = is_word in
                omega arith)

            else : (i : ℕ) → i ≢ word → slice_index (set t.words word (p.finished + 1)) i ≡ slice_index t.words i
            else i ne = get_or-set_other t.words word i (p.finished + 1) 0 ne

            here : slice_index (set t.words word (p.finished + 1)) (count + 1 + place) ≡ p.finished + 1
            here =
                ap (slice_index (set t.words word (p.finished + 1))) (sym is_word)
                ∙ get_or-set_same t.words word (p.finished + 1) 0 inside

            beside : (c : ℕ)
                → c ≢ place
                → slice_index (set t.words word (p.finished + 1)) (count + 1 + c) ≡ slice_index t.words (count + 1 + c)
            beside c ne = else (count + 1 + c) (λ e. ne (let is : word ≡ count + 1 + place = is_word in omega arith))

      module _ (t : State S View) (k : Rule t) (at : At t.views id m.0) where
        told_lost : p.finished + 1 ≤ slice_index t.words word
            → IsFoundAt p x m (slice_index t.words word) (with_part m.0 (lost_by p x), m.1)
        told_lost up = (
          (λ low. absurd (omega arith)),
          (λ _. (
            refl,
            (λ whole.
                let w = claimed t k at up in
                let low : w.0 < m.0.count = subst (λ (n : ℕ). w.0 < n) (sym counted)
                (shard_below limit window names count t.words k.0 k.1 wide k.2 k.3 w.0 w.1 w.3) in
                let mine = at_there m.0.shards w.0 (subst (λ (n : ℕ). w.0 < n) (sym whole.0) low) in
                let o : ShardPart = mine.0 in
                let there = my_part t.views k.0 k.1 k.4 id m.0 at w.0 o mine.1 in (
                  w.0,
                  o,
                  mine.1,
                  subst (λ (z : ShardPart). Has z.won (p.finished + 1, x))
                      (same_at k.1 w.0 (row o) w.1 o (let e = whole.1 w.0 o mine.1 in omega arith) w.3 there) w.4,
                )),
          )),
        )

        told_won : slice_index t.words word < p.finished + 1
            → IsFoundAt p x m (slice_index t.words word) (with_part m.0 (won_by p x), m.1)
        told_won low = (
          (λ _. (
            refl,
            (λ w. unclaimed t k at low (row w.1) w.1 (my_part t.views k.0 k.1 k.4 id m.0 at w.0 w.1 w.2) w.3),
          )),
          (λ up. absurd (omega arith)),
        )

      -- a shard loads a claim word: the pair is lost where it is at the turn or above
      pub lose : Allows Rule slots id m word (λ n. n) (Loses window names (step slots word 0 0 none) m)
      lose t k len at fits =
          dite (dec_le (p.finished + 1) (slice_index t.words word))
          (λ up. (
            with_part m.0 (lost_by p x),
            keeps,
            tt,
            subst (λ (l : List ℕ).
                Rule record { words = l; homes = t.homes; views = set t.views id (with_part m.0 (lost_by p x)) })
                (sym (set-get_or t.words word 0))
                (loses t k at up),
            (λ y q at' wd.
                let one = same_claim y q at' wd in
                subst₂ (λ (o : ShardPart) (z : ℕ).
                IsMetAt o z m (slice_index t.words word) (with_part m.0 (lost_by p x), m.1))
                one.0 one.1 ((λ low. absurd (omega arith)), (told_lost t k at up).1)),
          ))
          (λ no.
          let low : slice_index t.words word < p.finished + 1 = omega arith in (
            m.0,
            keeps,
            tt,
            subst₂ (λ (l : List ℕ) (views : List View). Rule record { words = l; homes = t.homes; views = views })
                (sym (set-get_or t.words word 0)) (sym (set_again t.views id m.0 at)) k,
            (λ y q at' wd.
                let one = same_claim y q at' wd in
                subst₂ (λ (o : ShardPart) (z : ℕ). IsMetAt o z m (slice_index t.words word) (m.0, m.1))
                one.0 one.1 ((λ _. refl), (λ up. absurd (omega arith)))),
          ))

      pub claim : Allows Rule slots id m word (λ n. max n turn) Then
      claim t k len at fits =
          dite (dec_le (p.finished + 1) (slice_index t.words word))
          (λ up. (
            with_part m.0 (lost_by p x),
            keeps,
            tt,
            subst (λ (l : List ℕ).
                Rule record { words = l; homes = t.homes; views = set t.views id (with_part m.0 (lost_by p x)) })
                (sym (ap (set t.words word) (max-eq_left {n = slice_index t.words word} {m = turn} (omega arith))
                ∙ set-get_or t.words word 0))
                (loses t k at up),
            (λ y q at' wd.
                let one = same_claim y q at' wd in
                subst₂ (λ (o : ShardPart) (z : ℕ).
                IsFoundAt o z m (slice_index t.words word) (with_part m.0 (lost_by p x), m.1))
                one.0 one.1 (told_lost t k at up)),
          ))
          (λ no.
          let low : slice_index t.words word < p.finished + 1 = omega arith in (
            with_part m.0 (won_by p x),
            keeps,
            tt,
            subst (λ (n : ℕ).
                Rule record {
                  words = set t.words word n;
                  homes = t.homes;
                  views = set t.views id (with_part m.0 (won_by p x));
                })
                (sym (max-eq_right {n = slice_index t.words word} {m = turn} (omega arith) ∙ is_turn))
                (wins t k at low),
            (λ y q at' wd.
                let one = same_claim y q at' wd in
                subst₂ (λ (o : ShardPart) (z : ℕ).
                IsFoundAt o z m (slice_index t.words word) (with_part m.0 (won_by p x), m.1))
                one.0 one.1 (told_won t k at low)),
          ))
