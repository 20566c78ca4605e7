-- What a change at one key leaves at any bytes.
use Rattle.std.proofs.Common.{◌≡◌, ℕ, ◌+◌, ◌-◌, ◌<◌, Bool, true, false, cond, List, [], ◌∷◌, length, refl, ap, sym, subst, ◌∙◌, arith, inl, inr}
use Rattle.std.specs.Prelude.{Option}
use Rattle.std.specs.Str.{bytes_eq}
use Rattle.std.specs.Map.{lookup, KeepsOthers, IsKeyTest, AreApart}
use Rattle.std.specs.HashMap.{UpdatesBy}
use Rattle.std.specs.Cmp.Lexicographic.{bytes_decides, nat_list_eq_equiv}
use Rattle.std.specs.declared.vec.Vec.{Vec}
use Rattle.std.specs.declared.alloc.Global.{Global}
use Rattle.std.proofs.lemmas.Bool.{cases_Bool, cond-true, cond-false}
use Rattle.pattern_trie.specs.declared.node.Node.{Node}
use Rattle.pattern_trie.specs.Nodes.{Nodes, has_bytes, node_at, count_of, values_of, below_at, values_at, one_if, mark_of, has_mark, KeepsMarks, KeepsMarksBelow, IsSame, Enters, Leaves, Values}

abbrev pub same_bytes : Vec ℕ Global → Vec ℕ Global → Bool
same_bytes x y = bytes_eq x.items y.items

apart : (bs cs ks : List ℕ) → bytes_eq bs cs ≡ false → bytes_eq bs ks ≡ true → bytes_eq cs ks ≡ false
apart bs cs ks n y = nat_list_eq_equiv.symm cs ks ∙ sym (nat_list_eq_equiv.congr bs ks cs y) ∙ n

others : {V : Type 0} (test : Vec ℕ Global → Bool) (old new : List (Vec ℕ Global × Node V))
    → KeepsOthers same_bytes test old new
    → (other : Vec ℕ Global → Bool)
    → IsKeyTest same_bytes other
    → AreApart test other
    → lookup other new ≡ lookup other old
unfolding KeepsOthers
others test old new h = h

-- what the map has at any bytes, after a change at these
pub updated : {V : Type 0} (bs : List ℕ) (m n : Nodes V) (w : Option (Node V))
    → UpdatesBy same_bytes (has_bytes bs) m n w
    → (q : List ℕ)
    → node_at n q ≡ cond (bytes_eq bs q) w (node_at m q)
updated bs m n w h q =
    elim (cases_Bool (bytes_eq bs q)) [
      | inl y ↦
          ap (node_at n) (sym ((bytes_decides bs q).0 y)) ∙ h.1 ∙ sym (cond-true (bytes_eq bs q) w (node_at m q) y)
      | inr e ↦
          others (has_bytes bs) m.entries n.entries h.3 (has_bytes q) (λ x y. nat_list_eq_equiv.congr q x.items y.items)
          (λ k. apart bs q k.items e)
          ∙ sym (cond-false (bytes_eq bs q) w (node_at m q) e)
    ]

-- the counts and the values at any bytes, where those at bs change to these
counted : {V : Type 0} (bs : List ℕ) (m n : Nodes V) (w : Option (Node V))
    → ((q : List ℕ) → node_at n q ≡ cond (bytes_eq bs q) w (node_at m q))
    → (below : ℕ → ℕ → ℕ) (here : count_of w ≡ below (below_at m bs) 1) (there : (a : ℕ) → below a 0 ≡ a)
    → values_of w ≡ values_at m bs
    → (q : List ℕ)
    → (below_at n q ≡ below (below_at m q) (one_if (bytes_eq bs q))) × (values_at n q ≡ values_at m q)
counted bs m n w h below here there values q =
    elim (cases_Bool (bytes_eq bs q)) [
      | inl y ↦
          let at : node_at n q ≡ w = h q ∙ cond-true (bytes_eq bs q) w (node_at m q) y in
          let is : bs ≡ q = (bytes_decides bs q).0 y in (
            ap count_of at ∙ here ∙ ap (λ t. below (below_at m t) 1) is
                ∙ ap (λ b. below (below_at m q) (one_if b)) (sym y),
            ap values_of at ∙ values ∙ ap (values_at m) is,
          )
      | inr e ↦
          let at : node_at n q ≡ node_at m q = h q ∙ cond-false (bytes_eq bs q) w (node_at m q) e in (
            ap count_of at ∙ sym (there (below_at m q)) ∙ ap (λ b. below (below_at m q) (one_if b)) (sym e),
            ap values_of at,
          )
    ]

plus_none : (a : ℕ) → a + 0 ≡ a
plus_none a = omega arith

less_none : (a : ℕ) → a - 0 ≡ a
less_none a = omega arith

-- the marks at any bytes, where those at bs stay as long as something is held below
below_kept : {V : Type 0} (bs : List ℕ) (m n : Nodes V) (w : Option (Node V))
    → UpdatesBy same_bytes (has_bytes bs) m n w
    → ((k : List ℕ) → 0 < count_of w → has_mark k m bs ≡ true → mark_of k w ≡ true)
    → KeepsMarksBelow m n
below_kept bs m n w h keeps k q some had =
    elim (cases_Bool (bytes_eq bs q)) [
      | inl y ↦
          let at : node_at n q ≡ w = updated bs m n w h q ∙ cond-true (bytes_eq bs q) w (node_at m q) y in
          ap (mark_of k) at
          ∙ keeps k (subst (λ o. 0 < count_of o) at some) (ap (has_mark k m) ((bytes_decides bs q).0 y) ∙ had)
      | inr e ↦ ap (mark_of k) (updated bs m n w h q ∙ cond-false (bytes_eq bs q) w (node_at m q) e) ∙ had
    ]

-- the same, where they stay anyway
marks_kept : {V : Type 0} (bs : List ℕ) (m n : Nodes V) (w : Option (Node V))
    → UpdatesBy same_bytes (has_bytes bs) m n w
    → ((k : List ℕ) → has_mark k m bs ≡ true → mark_of k w ≡ true)
    → KeepsMarks m n
marks_kept bs m n w h keeps k q had =
    elim (cases_Bool (bytes_eq bs q)) [
      | inl y ↦
          ap (mark_of k) (updated bs m n w h q ∙ cond-true (bytes_eq bs q) w (node_at m q) y)
          ∙ keeps k (ap (has_mark k m) ((bytes_decides bs q).0 y) ∙ had)
      | inr e ↦ ap (mark_of k) (updated bs m n w h q ∙ cond-false (bytes_eq bs q) w (node_at m q) e) ∙ had
    ]

pub entered : {V : Type 0} (bs : List ℕ) (behind : List ℕ → Bool) (m n : Nodes V) (w : Option (Node V))
    → UpdatesBy same_bytes (has_bytes bs) m n w
    → count_of w ≡ below_at m bs + 1
    → values_of w ≡ values_at m bs
    → ((k : List ℕ) → has_mark k m bs ≡ true → mark_of k w ≡ true)
    → ((k : List ℕ) → behind k ≡ true → mark_of k w ≡ true)
    → Enters bs behind m n
entered bs behind m n w h here values keeps marks =
    let all = counted bs m n w (updated bs m n w h) (λ a b. a + b) here plus_none values in
    record {
      counts = λ q. (all q).0;
      values = λ q. (all q).1;
      marks = marks_kept bs m n w h keeps;
      marked = λ k so. ap (mark_of k) h.1 ∙ marks k so;
    }

pub left : {V : Type 0} (bs : List ℕ) (m n : Nodes V) (w : Option (Node V))
    → UpdatesBy same_bytes (has_bytes bs) m n w
    → count_of w ≡ below_at m bs - 1
    → values_of w ≡ values_at m bs
    → ((k : List ℕ) → 0 < count_of w → has_mark k m bs ≡ true → mark_of k w ≡ true)
    → Leaves bs m n
left bs m n w h here values keeps =
    let all = counted bs m n w (updated bs m n w h) (λ a b. a - b) here less_none values in
    record { counts = λ q. (all q).0; values = λ q. (all q).1; marks = below_kept bs m n w h keeps }

pub same : {V : Type 0} (bs : List ℕ) (m n : Nodes V) (w : Option (Node V))
    → UpdatesBy same_bytes (has_bytes bs) m n w
    → count_of w ≡ below_at m bs
    → values_of w ≡ values_at m bs
    → ((k : List ℕ) → has_mark k m bs ≡ true → mark_of k w ≡ true)
    → IsSame m n
same bs m n w h here values keeps =
    let all = counted bs m n w (updated bs m n w h) (λ a b. a) here (λ a. refl) values in
    record { counts = λ q. (all q).0; values = λ q. (all q).1; marks = λ k q some. marks_kept bs m n w h keeps k q }

pub valued : {V : Type 0} (bs : List ℕ) (vs : List V) (m n : Nodes V) (w : Option (Node V))
    → UpdatesBy same_bytes (has_bytes bs) m n w
    → count_of w ≡ below_at m bs
    → values_of w ≡ vs
    → ((k : List ℕ) → has_mark k m bs ≡ true → mark_of k w ≡ true)
    → Values bs vs m n
valued bs vs m n w h here values keeps = record {
  counts = λ q. (all q).0;
  values_are = λ q. (all q).1;
  marks = marks_kept bs m n w h keeps;
}
  where
    all : (q : List ℕ) → (below_at n q ≡ below_at m q) × (values_at n q ≡ cond (bytes_eq bs q) vs (values_at m q))
    all q =
        let at = updated bs m n w h q in
        elim (cases_Bool (bytes_eq bs q)) [
          | inl y ↦
              let is : bs ≡ q = (bytes_decides bs q).0 y in
              let so : node_at n q ≡ w = at ∙ cond-true (bytes_eq bs q) w (node_at m q) y in (
                ap count_of so ∙ here ∙ ap (below_at m) is,
                ap values_of so ∙ values ∙ sym (cond-true (bytes_eq bs q) vs (values_at m q) y),
              )
          | inr e ↦
              let so : node_at n q ≡ node_at m q = at ∙ cond-false (bytes_eq bs q) w (node_at m q) e in
              (ap count_of so, ap values_of so ∙ sym (cond-false (bytes_eq bs q) vs (values_at m q) e))
        ]

-- where nothing changed
pub unvalued : {V : Type 0} (bs : List ℕ) (vs : List V) (m : Nodes V) → vs ≡ values_at m bs → Values bs vs m m
unvalued bs vs m is = record { counts = λ q. refl; values_are = at; marks = λ k q had. had } where
  at : (q : List ℕ) → values_at m q ≡ cond (bytes_eq bs q) vs (values_at m q)
  at q =
      elim (cases_Bool (bytes_eq bs q)) [
        | inl y ↦
            ap (values_at m) (sym ((bytes_decides bs q).0 y))
            ∙ sym is
            ∙ sym (cond-true (bytes_eq bs q) vs (values_at m q) y)
        | inr e ↦ sym (cond-false (bytes_eq bs q) vs (values_at m q) e)
      ]

pub none_left : {V : Type 0} (xs : List V) → length xs ≡ 0 → xs ≡ []
none_left [] e = refl
none_left (x ∷ xs) e = absurd (omega arith)
