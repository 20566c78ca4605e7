-- One step of the loops over a pattern's beginnings.
use Rattle.std.proofs.Common.{◌≡◌, ℕ, ◌+◌, ◌-◌, ◌<◌, ◌≤◌, Bool, true, false, ◌&&◌, List, length, take, drop, get_or, refl, ap, sym, ◌∙◌, arith, inl, inr}
use Rattle.std.specs.Str.{bytes_eq}
use Rattle.std.specs.Cmp.Lexicographic.{bytes_decides}
use Rattle.std.proofs.lemmas.Bool.{cases_Bool, and_parts, and_from}
use Rattle.std.proofs.lemmas.List.{length-take-le}
use Rattle.subj.specs.Names.{is_dot}
use Rattle.pattern_trie.specs.Nodes.{Nodes, below_at, values_at, one_if, has_mark, Enters, Leaves, EntersEach, LeavesEach, CanLeaveEach}
use Rattle.pattern_trie.specs.Beginnings.{is_before_dot_of, is_beginning, goes_on, beginning_with_rest}
use Rattle.pattern_trie.proofs.Dots.{all_beginnings, all_before, one_more, none_more, before_this, not_before_itself, behind_dot}

less_twice : (a b c : ℕ) → a - b - c ≡ a - (b + c)
less_twice a b c = omega arith

plus_twice : (a b c : ℕ) → a + b + c ≡ a + (b + c)
plus_twice a b c = omega arith

still : (a b c : ℕ) → a ≡ b - c → 0 < a → 0 < b
still a b c is some = omega arith

is_one : (a b : Bool) → b ≡ false → one_if a + one_if b ≡ 1 → a ≡ true
is_one true b other e = refl
is_one false true other e = cc
is_one false false other e = absurd (omega arith)

module _ (text : List ℕ) where
  pub leaves_one : {V : Type 0} (at : ℕ) (old mid new : Nodes V)
      → at < length text
      → is_dot (get_or text at 0) ≡ true
      → LeavesEach (λ q. is_before_dot_of at q text) old mid
      → Leaves (take at text) mid new
      → LeavesEach (λ q. is_before_dot_of (at + 1) q text) old new
  leaves_one at old mid new within dot so one = record {
    counts = λ q.
        one.counts q
        ∙ ap (λ n. n - one_if (bytes_eq (take at text) q)) (so.counts q)
        ∙ less_twice (below_at old q) (one_if (is_before_dot_of at q text)) (one_if (bytes_eq (take at text) q))
        ∙ ap (λ n. below_at old q - n) (sym (one_more text at q within dot));
    values = λ q. one.values q ∙ so.values q;
    marks = λ k q some had.
        one.marks k q some
        (so.marks k q (still (below_at new q) (below_at mid q) (one_if (bytes_eq (take at text) q)) (one.counts q) some)
        had);
  }

  pub leaves_none : {V : Type 0} (at : ℕ) (old mid : Nodes V)
      → is_dot (get_or text at 0) ≡ false
      → LeavesEach (λ q. is_before_dot_of at q text) old mid
      → LeavesEach (λ q. is_before_dot_of (at + 1) q text) old mid
  leaves_none at old mid other so = record {
    counts = λ q. so.counts q ∙ ap (λ b. below_at old q - one_if b) (sym (none_more text at q other));
    values = so.values;
    marks = so.marks;
  }

  pub enters_one : {V : Type 0} (at : ℕ) (behind : List ℕ → Bool) (old mid new : Nodes V)
      → at < length text
      → is_dot (get_or text at 0) ≡ true
      → ((k : List ℕ) → is_beginning k (drop (at + 1) text) ≡ true → behind k ≡ true)
      → EntersEach (λ q. is_before_dot_of at q text) (λ k q. goes_on k at q text) old mid
      → Enters (take at text) behind mid new
      → EntersEach (λ q. is_before_dot_of (at + 1) q text) (λ k q. goes_on k (at + 1) q text) old new
  enters_one at behind old mid new within dot known so one = record {
    counts = λ q.
        one.counts q
        ∙ ap (λ n. n + one_if (bytes_eq (take at text) q)) (so.counts q)
        ∙ plus_twice (below_at old q) (one_if (is_before_dot_of at q text)) (one_if (bytes_eq (take at text) q))
        ∙ ap (λ n. below_at old q + n) (sym (one_more text at q within dot));
    values = λ q. one.values q ∙ so.values q;
    marks = λ k q had. one.marks k q (so.marks k q had);
    marked = at_mark;
  }
    where
      at_mark : (k : List ℕ) (q : List ℕ) → goes_on k (at + 1) q text ≡ true → has_mark k new q ≡ true
      at_mark k q mark =
          let behind_q : is_beginning k (drop (length q + 1) text) ≡ true =
          (and_parts (is_before_dot_of (at + 1) q text) (is_beginning k (drop (length q + 1) text)) mark).1 in
          elim (cases_Bool (bytes_eq (take at text) q)) [
            | inl y ↦
                let is : take at text ≡ q = (bytes_decides (take at text) q).0 y in
                let len : length q ≡ at = ap length (sym is) ∙ length-take-le at text (omega arith) in
                ap (has_mark k new) (sym is)
                ∙ one.marked k (known k (ap (λ n. is_beginning k (drop (n + 1) text)) (sym len) ∙ behind_q))
            | inr n ↦
                let earlier : is_before_dot_of at q text ≡ true = is_one (is_before_dot_of at q text)
                (bytes_eq (take at text) q) n
                (sym (one_more text at q within dot)
                ∙ ap one_if
                ((and_parts (is_before_dot_of (at + 1) q text) (is_beginning k (drop (length q + 1) text)) mark).0)) in
                one.marks k q (so.marked k q
                (and_from (is_before_dot_of at q text) (is_beginning k (drop (length q + 1) text)) earlier behind_q))
          ]

  pub enters_none : {V : Type 0} (at : ℕ) (old mid : Nodes V)
      → is_dot (get_or text at 0) ≡ false
      → EntersEach (λ q. is_before_dot_of at q text) (λ k q. goes_on k at q text) old mid
      → EntersEach (λ q. is_before_dot_of (at + 1) q text) (λ k q. goes_on k (at + 1) q text) old mid
  enters_none at old mid other so = record {
    counts = λ q. so.counts q ∙ ap (λ b. below_at old q + one_if b) (sym (none_more text at q other));
    values = so.values;
    marks = so.marks;
    marked = λ k q mark.
        so.marked k q
        (ap (λ b. b && is_beginning k (drop (length q + 1) text)) (sym (none_more text at q other)) ∙ mark);
  }

  -- what may leave at the end may leave at its turn
  pub still_held : {V : Type 0} (at end : ℕ) (old mid : Nodes V)
      → at < end
      → end ≤ length text
      → is_dot (get_or text at 0) ≡ true
      → CanLeaveEach (λ q. is_before_dot_of end q text) old
      → LeavesEach (λ q. is_before_dot_of at q text) old mid
      → (0 < below_at mid (take at text))
      × (below_at mid (take at text) ≡ 1 → length (values_at mid (take at text)) ≡ 0)
  still_held at end old mid below within dot can so =
      let this : is_before_dot_of end (take at text) text ≡ true = before_this text at end (omega arith) below dot in
      let same : below_at mid (take at text) ≡ below_at old (take at text) = so.counts (take at text)
      ∙ ap (λ b. below_at old (take at text) - one_if b) (not_before_itself text at (omega arith))
      ∙ less_none (below_at old (take at text)) in
      let held = can.held (take at text) this in (
        omega arith,
        λ one. ap length (so.values (take at text)) ∙ can.last_is_empty (take at text) this (sym same ∙ one),
      )
    where
      less_none : (a : ℕ) → a - 0 ≡ a
      less_none a = omega arith

  pub enters_all : {V : Type 0} (behind : List ℕ → Bool) (old mid new : Nodes V)
      → EntersEach (λ q. is_before_dot_of (length text) q text) (λ k q. goes_on k (length text) q text) old mid
      → Enters text behind mid new
      → EntersEach (λ q. is_beginning q text) (λ k q. is_beginning (beginning_with_rest k q) text) old new
  enters_all behind old mid new so one = record {
    counts = λ q.
        one.counts q
        ∙ ap (λ n. n + one_if (bytes_eq text q)) (so.counts q)
        ∙ plus_twice (below_at old q) (one_if (is_before_dot_of (length text) q text)) (one_if (bytes_eq text q))
        ∙ ap (λ n. below_at old q + n) (sym (all_beginnings q text));
    values = λ q. one.values q ∙ so.values q;
    marks = λ k q had. one.marks k q (so.marks k q had);
    marked = λ k q mark.
        one.marks k q (so.marked k q (ap (λ b. b && is_beginning k (drop (length q + 1) text)) (all_before q text)
        ∙ sym (behind_dot q k text) ∙ mark));
  }

  pub leaves_all : {V : Type 0} (old mid new : Nodes V)
      → LeavesEach (λ q. is_before_dot_of (length text) q text) old mid
      → Leaves text mid new
      → LeavesEach (λ q. is_beginning q text) old new
  leaves_all old mid new so one = record {
    counts = λ q.
        one.counts q
        ∙ ap (λ n. n - one_if (bytes_eq text q)) (so.counts q)
        ∙ less_twice (below_at old q) (one_if (is_before_dot_of (length text) q text)) (one_if (bytes_eq text q))
        ∙ ap (λ n. below_at old q - n) (sym (all_beginnings q text));
    values = λ q. one.values q ∙ so.values q;
    marks = λ k q some had.
        one.marks k q some
        (so.marks k q (still (below_at new q) (below_at mid q) (one_if (bytes_eq text q)) (one.counts q) some) had);
  }
