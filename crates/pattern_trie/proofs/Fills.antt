-- What the steps of a call make of what is held.
use Rattle.std.proofs.Common.{◌≡◌, ℕ, ◌+◌, ◌-◌, ◌<◌, Bool, true, false, List, [], ◌∷◌, ◌++◌, length, ap, sym, subst, ◌∙◌, arith, inl, inr}
use Rattle.std.specs.List.{list_any}
use Rattle.std.specs.Str.{bytes_eq}
use Rattle.std.specs.Cmp.Lexicographic.{bytes_decides, nat_list_eq_equiv}
use Rattle.std.proofs.lemmas.Bool.{cases_Bool, cond-true, cond-false}
use Rattle.pattern_trie.specs.Nodes.{Nodes, below_at, values_at, one_if, has_mark, without_value, IsSame, Values, EntersEach, LeavesEach, CanLeaveEach}
use Rattle.std.proofs.Props.{props}
use Rattle.pattern_trie.specs.Beginnings.{is_beginning, beginning_with_rest}
use Rattle.pattern_trie.specs.Held.{Held, Holds, count_below, values_for, without_held}
use Rattle.pattern_trie.proofs.Lists.{count_push, values_push_here, values_push_other, count_without, without_absent, values_without_here, values_without_other, none_below, fewer_behind}

module _ {V : Type 0} (eq : V → V → Bool) (text : List ℕ) (v : V) (held : List (Held V)) (old mid new : Nodes V) where
  pub pushed : Holds held old
      → EntersEach (λ q. is_beginning q text) (λ k q. is_beginning (beginning_with_rest k q) text) old mid
      → Values text (values_at mid text ++ v ∷ []) mid new
      → Holds (held ++ (text, v) ∷ []) new
  pushed is entered put = record {
    counts = λ q.
        put.counts q
        ∙ entered.counts q
        ∙ ap (λ n. n + one_if (is_beginning q text)) (is.counts q)
        ∙ sym (count_push q text v held);
    values = at;
    marks = mark;
  }
    where
      mark : (k : List ℕ) (q : List ℕ)
          → 0 < count_below (beginning_with_rest k q) (held ++ (text, v) ∷ [])
          → has_mark k new q ≡ true
      mark k q some =
          elim (cases_Bool (is_beginning (beginning_with_rest k q) text)) [
            | inl y ↦ put.marks k q (entered.marked k q y)
            | inr n ↦
                let more : count_below (beginning_with_rest k q) (held ++ (text, v) ∷ [])
                ≡ count_below (beginning_with_rest k q) held + 0 = count_push (beginning_with_rest k q) text v held
                ∙ ap (λ b. count_below (beginning_with_rest k q) held + one_if b) n in
                put.marks k q (entered.marks k q (is.marks k q (omega arith)))
          ]

      had : (q : List ℕ) → values_at mid q ≡ values_for q held
      had q = entered.values q ∙ is.values q

      at : (q : List ℕ) → values_at new q ≡ values_for q (held ++ (text, v) ∷ [])
      at q =
          elim (cases_Bool (bytes_eq text q)) [
            | inl y ↦
                let same : text ≡ q = (bytes_decides text q).0 y in
                put.values_are q
                ∙ cond-true (bytes_eq text q) (values_at mid text ++ v ∷ []) (values_at mid q) y
                ∙ ap (λ t. values_at mid t ++ v ∷ []) same
                ∙ ap (λ vs. vs ++ v ∷ []) (had q)
                ∙ sym (values_push_here q text v held (nat_list_eq_equiv.symm q text ∙ y))
            | inr n ↦
                put.values_are q
                ∙ cond-false (bytes_eq text q) (values_at mid text ++ v ∷ []) (values_at mid q) n
                ∙ had q
                ∙ sym (values_push_other q text v held (nat_list_eq_equiv.symm q text ∙ n))
          ]

  -- what is taken out may leave
  taken_values : Holds held old
      → Values text (without_value eq v (values_at old text)) old mid
      → (q : List ℕ)
      → values_at mid q ≡ values_for q (without_held eq text v held)
  taken_values is put q =
      elim (cases_Bool (bytes_eq text q)) [
        | inl y ↦
            let same : text ≡ q = (bytes_decides text q).0 y in
            put.values_are q
            ∙ cond-true (bytes_eq text q) (without_value eq v (values_at old text)) (values_at old q) y
            ∙ ap (without_value eq v) (is.values text)
            ∙ sym (values_without_here eq text v held)
            ∙ ap (λ t. values_for t (without_held eq text v held)) same
        | inr n ↦
            put.values_are q
            ∙ cond-false (bytes_eq text q) (without_value eq v (values_at old text)) (values_at old q) n
            ∙ is.values q
            ∙ sym (values_without_other eq q text v held (nat_list_eq_equiv.symm q text ∙ n))
      ]

  pub may_leave : Holds held old
      → list_any (eq v) (values_at old text) ≡ true
      → Values text (without_value eq v (values_at old text)) old mid
      → CanLeaveEach (λ q. is_beginning q text) mid
  may_leave is some put = record {
    held = λ q begins. let n = counted q begins in omega arith;
    last_is_empty = λ q begins one.
        let n = counted q begins in
        ap length (taken_values is put q ∙ none_below q (without_held eq text v held) (omega arith));
  }
    where
      counted : (q : List ℕ)
          → is_beginning q text ≡ true
          → below_at mid q ≡ count_below q (without_held eq text v held) + 1
      counted q begins =
          put.counts q
          ∙ is.counts q
          ∙ sym (count_without eq q text v held (ap (list_any (eq v)) (sym (is.values text)) ∙ some))
          ∙ ap (λ b. count_below q (without_held eq text v held) + one_if b) begins

  pub taken : Holds held old
      → list_any (eq v) (values_at old text) ≡ true
      → Values text (without_value eq v (values_at old text)) old mid
      → LeavesEach (λ q. is_beginning q text) mid new
      → Holds (without_held eq text v held) new
  taken is some_value put left = record {
    counts = counted;
    values = λ q. left.values q ∙ taken_values is put q;
    marks = λ k q some.
        let before : count_below (beginning_with_rest k q) (without_held eq text v held)
        + one_if (is_beginning (beginning_with_rest k q) text) ≡ count_below (beginning_with_rest k q) held =
        count_without eq (beginning_with_rest k q) text v held
        (ap (list_any (eq v)) (sym (is.values text)) ∙ some_value) in
        let fewer = fewer_behind q k (without_held eq text v held) in
        let at = counted q in
        left.marks k q (omega arith) (put.marks k q (is.marks k q (omega arith)));
  }
    where
      back : (a b : ℕ) → a + b - b ≡ a
      back a b = omega arith

      counted : (q : List ℕ) → below_at new q ≡ count_below q (without_held eq text v held)
      counted q =
          left.counts q
          ∙ ap (λ n. n - one_if (is_beginning q text))
          (put.counts q ∙ is.counts q
          ∙ sym (count_without eq q text v held (ap (list_any (eq v)) (sym (is.values text)) ∙ some_value)))
          ∙ back (count_below q (without_held eq text v held)) (one_if (is_beginning q text))

  pub not_taken : Holds held old
      → list_any (eq v) (values_at old text) ≡ false
      → Values text (without_value eq v (values_at old text)) old mid
      → Holds (without_held eq text v held) mid
  not_taken is none put = record {
    counts = λ q.
        put.counts q
        ∙ is.counts q
        ∙ ap (count_below q) (sym (without_absent eq text v held (ap (list_any (eq v)) (sym (is.values text)) ∙ none)));
    values = taken_values is put;
    marks = λ k q some.
        put.marks k q (is.marks k q (subst (λ hs. 0 < count_below (beginning_with_rest k q) hs)
        (without_absent eq text v held (ap (list_any (eq v)) (sym (is.values text)) ∙ none)) some));
  }

pub CanLeaveEach-prop : {V : Type 0} (test : List ℕ → Bool) (nodes : Nodes V) → IsProp (CanLeaveEach test nodes)
CanLeaveEach-prop test nodes = hlevel props

pub same_filled : {V : Type 0} (held : List (Held V)) (old new : Nodes V)
    → Holds held old
    → IsSame old new
    → Holds held new
same_filled held old new is same = record {
  counts = λ q. same.counts q ∙ is.counts q;
  values = λ q. same.values q ∙ is.values q;
  marks = λ k q some.
      let fewer = fewer_behind q k held in
      let at : below_at new q ≡ count_below q held = same.counts q ∙ is.counts q in
      same.marks k q (omega arith) (is.marks k q some);
}

-- what was entered and left again
pub left_again : {V : Type 0} (held : List (Held V)) (text : List ℕ) (old mid other new : Nodes V)
    → Holds held old
    → EntersEach (λ q. is_beginning q text) (λ k q. is_beginning (beginning_with_rest k q) text) old mid
    → IsSame mid other
    → LeavesEach (λ q. is_beginning q text) other new
    → Holds held new
left_again held text old mid other new is entered same left = record {
  counts = counted;
  values = λ q. left.values q ∙ same.values q ∙ entered.values q ∙ is.values q;
  marks = λ k q some.
      let fewer = fewer_behind q k held in
      let at = counted q in
      let before = left.counts q in
      left.marks k q (omega arith) (same.marks k q (omega arith) (entered.marks k q (is.marks k q some)));
} where
  back : (a b : ℕ) → a + b - b ≡ a
  back a b = omega arith

  counted : (q : List ℕ) → below_at new q ≡ count_below q held
  counted q =
      left.counts q
      ∙ ap (λ n. n - one_if (is_beginning q text)) (same.counts q ∙ entered.counts q)
      ∙ back (below_at old q) (one_if (is_beginning q text))
      ∙ is.counts q
