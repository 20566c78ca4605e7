-- Subscriptions in order of their serials: what an opening, a count and closings make of them.
use Rattle.std.proofs.Common.{◌≡◌, ◌≢◌, ℕ, suc, ◌+◌, ◌<◌, ◌^◌, Bool, true, false, not, ◌&&◌, ◌||◌, cond, nat_eq, List, [], ◌∷◌, ◌++◌, length, map, filter, Some, None, refl, sym, ap, ◌∙◌, subst, inl, inr, arith}
use Rattle.std.specs.Prelude.{find, All, IfSome, Option}
use Rattle.std.specs.List.{list_any}
use Rattle.std.proofs.lemmas.List.{length-map}
use Rattle.std.proofs.lemmas.List.Elements.{All-map, All-weaker}
use Rattle.std.proofs.lemmas.Option.{same_Some, none-some}
use Rattle.subj.specs.declared.keys.Delta.{Delta}
use Rattle.list_laws.specs.Lists.{In, Each, Pairs}
use Rattle.list_laws.proofs.Lists.{in_map, pairs_append}
use Rattle.list_laws.proofs.Tests.{eq_true, eq_false, true_eq, false_eq, has_in}
use Rattle.list_laws.proofs.Changes.{map_append, map_map, map_same, pairs_filter, append_nil, append_assoc}
use Rattle.sub_table.specs.Subscriptions.{is_of, has_serial, serial_of, without_serial, with_more, with_one_more, CountFits, CountsFit, serials_of as serials_of_conn}
use Rattle.sub_table.specs.declared.Subscription.{Subscription}
use Rattle.shard_core.specs.Closings.{serials_of, is_left, left_of, closing, closings_of}
use Rattle.shard_core.specs.Owed.{sub_with_count}
use Rattle.shard_core.specs.Opened.{Opened, AreRising, IsNext, CanCount, IsOpened, with_counts, with_closings}
use Rattle.shard_core.specs.Notes.{HoldNotes}
use Rattle.shard_core.specs.RunReceivers.{sub_with_more}
use Rattle.shard_core.specs.RunSteps.{CanCountMore}
use Rattle.shard_core.specs.declared.notes.Notes.{Notes}
use Rattle.shard_core.proofs.Closings.Closed.{serials_left}

-- what holds of each place holds of each entry
pub all_each : {A : Type 0} (P : A → Type 0) (xs : List A) → All P xs → Each P xs
all_each P [] h x i = absurd i
all_each P (y ∷ ys) h x (inl e) = subst P (sym e) (h 0 y (omega arith))
all_each P (y ∷ ys) h x (inr i) = all_each P ys (λ k d lt. h (suc k) d (omega arith)) x i

pub opened_same : (us vs : List Subscription) (ds es : List Delta)
    → us ≡ vs
    → ds ≡ es
    → ◌≡◌ {A = Opened} (record { subs = us; deltas = ds }) (record { subs = vs; deltas = es })
opened_same us vs ds es same same_deltas =
    ap (λ l. record { subs = l; deltas = ds }) same ∙ ap (λ l. record { subs = vs; deltas = l }) same_deltas

-- ---- the order of serials

pub rising_push : (us : List Subscription) (u : Subscription)
    → AreRising us
    → IsNext u.serial us
    → AreRising (us ++ u ∷ [])
rising_push us u rising next =
    subst (Pairs (λ j k. j < k)) (sym (map_append serial_of us (u ∷ [])))
    (pairs_append (λ j k. j < k) (serials_of us) (u.serial ∷ []) rising ((λ x i. absurd i), tt)
    (λ j k i at. go j k i at))
  where
    go : (j k : ℕ) → In j (serials_of us) → In k (u.serial ∷ []) → j < k
    go j k i (inl e) =
        let m = in_map serial_of us j i in
        let below : m.0.serial < u.serial = all_each (λ (s : Subscription). s.serial < u.serial) us next m.0 m.1 in
        subst (λ n. j < n) (sym e) (subst (λ n. n < u.serial) (sym m.2) below)
    go j k i (inr none) = absurd none

pub rising_left : (ended : List ℕ) (us : List Subscription) → AreRising us → AreRising (filter (is_left ended) us)
rising_left ended us rising =
    subst (Pairs (λ j k. j < k)) (sym (serials_left ended us))
    (pairs_filter (λ j k. j < k) (λ j. not (list_any (nat_eq j) ended)) (serials_of us) rising)

-- the same serials stand in the same order, and are as many
pub same_serials : (us vs : List Subscription) (ds : List Delta) (capacity : ℕ) (notes after : Notes)
    → serials_of vs ≡ serials_of us
    → HoldNotes vs after
    → IsOpened us ds capacity notes
    → IsOpened vs ds capacity after
same_serials us vs ds capacity notes after same noted was = record {
  noted = noted;
  rising = subst (Pairs (λ j k. j < k)) (sym same) was.rising;
  places =
      let as_many : length vs ≡ length us = sym (length-map vs serial_of) ∙ ap length same ∙ length-map us serial_of in
      let places = was.places in
      omega arith;
}

-- ---- one serial

-- the serial stands on no subscription of these
abbrev Lacks : ℕ → List Subscription → Type 0
Lacks k us = Each (λ j. j ≢ k) (serials_of us)

later : (k : ℕ) (u : Subscription) (us : List Subscription) → AreRising (u ∷ us) → has_serial k u ≡ true → Lacks k us
later k u us rising here j i e =
    let after : u.serial < j = rising.0 j i in let at : u.serial ≡ k = eq_true u.serial k here in absurd (omega arith)

left_here : (k : ℕ) (u : Subscription) → is_left (k ∷ []) u ≡ not (has_serial k u)
left_here k u = go (has_serial k u)
  where
    go : (b : Bool) → not (b || false) ≡ not b
    go true = refl
    go false = refl

lacks_here : (k : ℕ) (u : Subscription) (us : List Subscription) → Lacks k (u ∷ us) → has_serial k u ≡ false
lacks_here k u us none = false_eq u.serial k (none u.serial (inl refl))

lacks_left : (k : ℕ) (us : List Subscription) → Lacks k us → filter (is_left (k ∷ [])) us ≡ us
lacks_left k [] none = refl
lacks_left k (u ∷ us) none =
    ap (λ b. cond b (u ∷ filter (is_left (k ∷ [])) us) (filter (is_left (k ∷ [])) us))
    (left_here k u ∙ ap not (lacks_here k u us none))
    ∙ ap (λ l. u ∷ l) (lacks_left k us (λ j i. none j (inr i)))

lacks_filter : (k : ℕ) (us : List Subscription) → Lacks k us → filter (has_serial k) us ≡ []
lacks_filter k [] none = refl
lacks_filter k (u ∷ us) none =
    ap (λ b. cond b (u ∷ filter (has_serial k) us) (filter (has_serial k) us)) (lacks_here k u us none)
    ∙ lacks_filter k us (λ j i. none j (inr i))

none_lacks : (k : ℕ) (us : List Subscription) → find (has_serial k) us ≡ None → Lacks k us
none_lacks k [] none = λ j i. absurd i
none_lacks k (u ∷ us) none = go (has_serial k u) refl none (none_lacks k us)
  where
    go : (b : Bool)
        → has_serial k u ≡ b
        → cond b (Some u) (find (has_serial k) us) ≡ None
        → (find (has_serial k) us ≡ None → Lacks k us)
        → Lacks k (u ∷ us)
    go true e none below j i = absurd (none-some u (sym none))
    go false e none below j (inl at) = λ same. eq_false u.serial k e (sym at ∙ same)
    go false e none below j (inr i) = below none j i

-- ---- a closing

pub rest_is : (k : ℕ) (us : List Subscription) → AreRising us → without_serial k us ≡ filter (is_left (k ∷ [])) us
rest_is k [] rising = refl
rest_is k (u ∷ us) rising =
    go (has_serial k u) refl (rest_is k us rising.1)
    ∙ sym (ap (λ b. cond b (u ∷ filter (is_left (k ∷ [])) us) (filter (is_left (k ∷ [])) us)) (left_here k u))
  where
    go : (b : Bool)
        → has_serial k u ≡ b
        → without_serial k us ≡ filter (is_left (k ∷ [])) us
        → cond b us (u ∷ without_serial k us)
        ≡ cond (not b) (u ∷ filter (is_left (k ∷ [])) us) (filter (is_left (k ∷ [])) us)
    go true e below = sym (lacks_left k us (later k u us rising e))
    go false e below = ap (λ l. u ∷ l) below

pub closes_none : (k : ℕ) (us : List Subscription)
    → find (has_serial k) us ≡ None
    → (filter (is_left (k ∷ [])) us ≡ us) × (closings_of (k ∷ []) us ≡ [])
closes_none k us none =
    let lacks = none_lacks k us none in (lacks_left k us lacks, ap (λ l. map closing l ++ []) (lacks_filter k us lacks))

found_one : (k : ℕ) (us : List Subscription) (u : Subscription)
    → AreRising us
    → find (has_serial k) us ≡ Some u
    → (filter (has_serial k) us ≡ u ∷ []) × (length (filter (is_left (k ∷ [])) us) + 1 ≡ length us)
found_one k [] u rising found = absurd (none-some u found)
found_one k (v ∷ us) u rising found =
    go (has_serial k v) refl found (found_one k us u rising.1)
  where
    left : List Subscription
    left = filter (is_left (k ∷ [])) us

    len : (b : Bool)
        → has_serial k v ≡ b
        → length (filter (is_left (k ∷ [])) (v ∷ us)) ≡ length (cond (not b) (v ∷ left) left)
    len b e = ap (λ t. length (cond t (v ∷ left) left)) (left_here k v ∙ ap not e)

    go : (b : Bool)
        → has_serial k v ≡ b
        → cond b (Some v) (find (has_serial k) us) ≡ Some u
        → (find (has_serial k) us ≡ Some u → (filter (has_serial k) us ≡ u ∷ []) × (length left + 1 ≡ length us))
        → (filter (has_serial k) (v ∷ us) ≡ u ∷ [])
        × (length (filter (is_left (k ∷ [])) (v ∷ us)) + 1 ≡ length (v ∷ us))
    go true e found more =
        let lacks = later k v us rising e in (
          ap (λ b. cond b (v ∷ filter (has_serial k) us) (filter (has_serial k) us)) e
              ∙ ap (λ l. v ∷ l) (lacks_filter k us lacks) ∙ ap (λ w. w ∷ []) (same_Some v u found),
          let same : length left ≡ length us = ap length (lacks_left k us lacks) in let l = len true e in omega arith,
        )
    go false e found more =
        let below = more found in (
          ap (λ b. cond b (v ∷ filter (has_serial k) us) (filter (has_serial k) us)) e ∙ below.0,
          let one = below.1 in let l = len false e in omega arith,
        )

pub closes_one : (k : ℕ) (us : List Subscription) (u : Subscription)
    → AreRising us
    → find (has_serial k) us ≡ Some u
    → (closings_of (k ∷ []) us ≡ closing u ∷ []) × (length (filter (is_left (k ∷ [])) us) + 1 ≡ length us)
closes_one k us u rising found = let one = found_one k us u rising found in (ap (λ l. map closing l ++ []) one.0, one.1)

-- ---- closings one after another

closings_none : (us : List Subscription) → filter (is_left []) us ≡ us
closings_none [] = refl
closings_none (u ∷ us) = ap (λ l. u ∷ l) (closings_none us)

pub no_closings : (o : Opened) → with_closings [] o ≡ o
no_closings o =
    ap (λ l. record { subs = l; deltas = o.deltas ++ [] }) (closings_none o.subs)
    ∙ ap (λ l. record { subs = o.subs; deltas = l }) (append_nil o.deltas)

left_twice : (k : ℕ) (ended : List ℕ) (us : List Subscription)
    → filter (is_left (k ∷ ended)) us ≡ filter (is_left ended) (filter (is_left (k ∷ [])) us)
left_twice k ended [] = refl
left_twice k ended (u ∷ us) = go (has_serial k u) (list_any (nat_eq u.serial) ended) refl (left_twice k ended us)
  where
    left : List Subscription
    left = filter (is_left (k ∷ [])) us

    go : (a b : Bool)
        → list_any (nat_eq u.serial) ended ≡ b
        → filter (is_left (k ∷ ended)) us ≡ filter (is_left ended) left
        → cond (not (a || b)) (u ∷ filter (is_left (k ∷ ended)) us) (filter (is_left (k ∷ ended)) us)
        ≡ filter (is_left ended) (cond (not (a || false)) (u ∷ left) left)
    go true b e below = below
    go false true e below =
        below ∙ sym (ap (λ t. cond (not t) (u ∷ filter (is_left ended) left) (filter (is_left ended) left)) e)
    go false false e below =
        ap (λ l. u ∷ l) below
        ∙ sym (ap (λ t. cond (not t) (u ∷ filter (is_left ended) left) (filter (is_left ended) left)) e)

-- another's closing is not missed
other_left : (j k : ℕ) (us : List Subscription)
    → k ≢ j
    → filter (has_serial j) (filter (is_left (k ∷ [])) us) ≡ filter (has_serial j) us
other_left j k [] apart = refl
other_left j k (u ∷ us) apart =
    ap (λ b. filter (has_serial j) (cond b (u ∷ filter (is_left (k ∷ [])) us) (filter (is_left (k ∷ [])) us)))
    (left_here k u)
    ∙ go (has_serial k u) refl (other_left j k us apart)
  where
    left : List Subscription
    left = filter (is_left (k ∷ [])) us

    go : (b : Bool)
        → has_serial k u ≡ b
        → filter (has_serial j) left ≡ filter (has_serial j) us
        → filter (has_serial j) (cond (not b) (u ∷ left) left)
        ≡ cond (has_serial j u) (u ∷ filter (has_serial j) us) (filter (has_serial j) us)
    go true e below =
        below
        ∙ sym (ap (λ t. cond t (u ∷ filter (has_serial j) us) (filter (has_serial j) us))
        (false_eq u.serial j (λ at. apart (sym (eq_true u.serial k e) ∙ at))))
    go false e below = ap (λ l. cond (has_serial j u) (u ∷ l) l) below

others_left : (k : ℕ) (ended : List ℕ) (us : List Subscription)
    → Each (λ j. k ≢ j) ended
    → closings_of ended (filter (is_left (k ∷ [])) us) ≡ closings_of ended us
others_left k [] us apart = refl
others_left k (j ∷ ended) us apart =
    ap (λ l. map closing l ++ closings_of ended (filter (is_left (k ∷ [])) us)) (other_left j k us (apart j (inl refl)))
    ∙ ap (λ l. map closing (filter (has_serial j) us) ++ l) (others_left k ended us (λ i at. apart i (inr at)))

pub closings_step : (k : ℕ) (ended : List ℕ) (o : Opened)
    → Each (λ j. k ≢ j) ended
    → with_closings ended (with_closings (k ∷ []) o) ≡ with_closings (k ∷ ended) o
closings_step k ended o apart =
    ap (λ l. record {
      subs = l;
      deltas = (o.deltas ++ closings_of (k ∷ []) o.subs) ++ closings_of ended (filter (is_left (k ∷ [])) o.subs);
    })
    (sym (left_twice k ended o.subs))
    ∙ ap (λ l. record { subs = filter (is_left (k ∷ ended)) o.subs; deltas = l })
    (ap (λ l. (o.deltas ++ closings_of (k ∷ []) o.subs) ++ l) (others_left k ended o.subs apart)
    ∙ append_assoc o.deltas (closings_of (k ∷ []) o.subs) (closings_of ended o.subs)
    ∙ ap (λ l. o.deltas ++ (l ++ closings_of ended o.subs)) (append_nil (map closing (filter (has_serial k) o.subs))))

-- ---- counts

counted_here : (k : ℕ) (u : Subscription)
    → sub_with_count (k ∷ []) u ≡ cond (has_serial k u) (record u { delivered = u.delivered + 1 }) u
counted_here k u = go (has_serial k u)
  where
    go : (b : Bool)
        → cond (b || false) (record u { delivered = u.delivered + 1 }) u
        ≡ cond b (record u { delivered = u.delivered + 1 }) u
    go true = refl
    go false = refl

lacks_counted : (k : ℕ) (us : List Subscription) → Lacks k us → map (sub_with_count (k ∷ [])) us ≡ us
lacks_counted k [] none = refl
lacks_counted k (u ∷ us) none =
    ap (λ v. v ∷ map (sub_with_count (k ∷ [])) us)
    (counted_here k u ∙ ap (λ b. cond b (record u { delivered = u.delivered + 1 }) u) (lacks_here k u us none))
    ∙ ap (λ l. u ∷ l) (lacks_counted k us (λ j i. none j (inr i)))

pub counts_one : (k : ℕ) (us : List Subscription) → AreRising us → with_one_more k us ≡ map (sub_with_count (k ∷ [])) us
counts_one k [] rising = refl
counts_one k (v ∷ us) rising =
    go (has_serial k v) refl (counts_one k us rising.1)
    ∙ sym (ap (λ w. w ∷ map (sub_with_count (k ∷ [])) us) (counted_here k v))
  where
    one_more : Subscription
    one_more = record v { delivered = v.delivered + 1 }

    go : (b : Bool)
        → has_serial k v ≡ b
        → with_one_more k us ≡ map (sub_with_count (k ∷ [])) us
        → cond b (one_more ∷ us) (v ∷ with_one_more k us) ≡ cond b one_more v ∷ map (sub_with_count (k ∷ [])) us
    go true e below = ap (λ l. one_more ∷ l) (sym (lacks_counted k us (later k v us rising e)))
    go false e below = ap (λ l. v ∷ l) below

pub found_counts : (k : ℕ) (us : List Subscription) (u : Subscription)
    → CanCount k us
    → find (has_serial k) us ≡ Some u
    → u.delivered + 1 < 2 ^ 64
found_counts k [] u can found = absurd (none-some u found)
found_counts k (v ∷ us) u can found =
    go (has_serial k v) refl found (found_counts k us u (λ i d lt. can (suc i) d (omega arith)))
  where
    go : (b : Bool)
        → has_serial k v ≡ b
        → cond b (Some v) (find (has_serial k) us) ≡ Some u
        → (find (has_serial k) us ≡ Some u → u.delivered + 1 < 2 ^ 64)
        → u.delivered + 1 < 2 ^ 64
    go true e found below =
        subst (λ (w : Subscription). w.delivered + 1 < 2 ^ 64) (same_Some v u found)
        (can 0 v (omega arith) (eq_true v.serial k e))
    go false e found below = below found

pub count_fits : (k : ℕ) (us : List Subscription) → CanCount k us → CountFits k us
count_fits k us can = go (find (has_serial k) us) refl
  where
    go : (o : Option Subscription)
        → find (has_serial k) us ≡ o
        → IfSome o (λ (u : Subscription). u.delivered + 1 < 2 ^ 64)
    go None none = tt
    go (Some u) found = found_counts k us u can found

counts_nobody : (us : List Subscription) → map (sub_with_count []) us ≡ us
counts_nobody [] = refl
counts_nobody (u ∷ us) = ap (λ l. u ∷ l) (counts_nobody us)

pub no_counts : (o : Opened) → with_counts [] o ≡ o
no_counts o = opened_same _ _ o.deltas o.deltas (counts_nobody o.subs) refl

-- another's count stays as it is
other_count : (j k : ℕ) (u : Subscription)
    → k ≢ j
    → (u.serial ≡ j → u.delivered + 1 < 2 ^ 64)
    → (sub_with_count (k ∷ []) u).serial ≡ j
    → (sub_with_count (k ∷ []) u).delivered + 1 < 2 ^ 64
other_count j k u apart can = go (has_serial k u) refl
  where
    go : (b : Bool)
        → has_serial k u ≡ b
        → (cond (b || false) (record u { delivered = u.delivered + 1 }) u).serial ≡ j
        → (cond (b || false) (record u { delivered = u.delivered + 1 }) u).delivered + 1 < 2 ^ 64
    go true e at = absurd (apart (sym (eq_true u.serial k e) ∙ at))
    go false e at = can at

pub still_counts : (j k : ℕ) (us : List Subscription)
    → k ≢ j
    → CanCount j us
    → CanCount j (map (sub_with_count (k ∷ [])) us)
still_counts j k us apart can =
    All-map (λ (u : Subscription). u.serial ≡ j → u.delivered + 1 < 2 ^ 64) (sub_with_count (k ∷ [])) us
    (All-weaker (λ (u : Subscription). u.serial ≡ j → u.delivered + 1 < 2 ^ 64)
    (λ u. (sub_with_count (k ∷ []) u).serial ≡ j → (sub_with_count (k ∷ []) u).delivered + 1 < 2 ^ 64)
    (λ u. other_count j k u apart) us can)

counted_twice : (k : ℕ) (given : List ℕ) (u : Subscription)
    → Each (λ j. k ≢ j) given
    → sub_with_count given (sub_with_count (k ∷ []) u) ≡ sub_with_count (k ∷ given) u
counted_twice k given u apart = go (has_serial k u) (list_any (nat_eq u.serial) given) refl refl
  where
    one_more : Subscription
    one_more = record u { delivered = u.delivered + 1 }

    go : (a b : Bool)
        → has_serial k u ≡ a
        → list_any (nat_eq u.serial) given ≡ b
        → sub_with_count given (cond (a || false) one_more u) ≡ cond (a || list_any (nat_eq u.serial) given) one_more u
    go true true e f = absurd (apart k (subst (λ n. In n given) (eq_true u.serial k e) (has_in u.serial given f)) refl)
    go true false e f = ap (λ t. cond t (record one_more { delivered = one_more.delivered + 1 }) one_more) f
    go false b e f = refl

pub counts_step : (k : ℕ) (given : List ℕ) (o : Opened)
    → Each (λ j. k ≢ j) given
    → with_counts given (with_counts (k ∷ []) o) ≡ with_counts (k ∷ given) o
counts_step k given o apart =
    opened_same _ _ o.deltas o.deltas
    (map_map (sub_with_count (k ∷ [])) (sub_with_count given) o.subs
    ∙ map_same (λ u. sub_with_count given (sub_with_count (k ∷ []) u)) (sub_with_count (k ∷ given)) o.subs
    (λ u. counted_twice k given u apart))
    refl

-- ---- several messages more of one serial

lacks_more : (k n : ℕ) (us : List Subscription) → Lacks k us → map (sub_with_more k n) us ≡ us
lacks_more k n [] none = refl
lacks_more k n (u ∷ us) none =
    ap (λ b. cond b (record u { delivered = u.delivered + n }) u ∷ map (sub_with_more k n) us) (lacks_here k u us none)
    ∙ ap (λ l. u ∷ l) (lacks_more k n us (λ j i. none j (inr i)))

pub more_one : (k n : ℕ) (us : List Subscription) → AreRising us → with_more k n us ≡ map (sub_with_more k n) us
more_one k n [] rising = refl
more_one k n (v ∷ us) rising = go (has_serial k v) refl (more_one k n us rising.1)
  where
    more : Subscription
    more = record v { delivered = v.delivered + n }

    go : (b : Bool) → has_serial k v ≡ b → with_more k n us ≡ map (sub_with_more k n) us
        → cond b (more ∷ us) (v ∷ with_more k n us) ≡ cond b more v ∷ map (sub_with_more k n) us
    go true e below = ap (λ l. more ∷ l) (sym (lacks_more k n us (later k v us rising e)))
    go false e below = ap (λ l. v ∷ l) below

found_more : (k n : ℕ) (us : List Subscription) (u : Subscription)
    → CanCountMore n k us → find (has_serial k) us ≡ Some u → u.delivered + n < 2 ^ 64
found_more k n [] u can found = absurd (none-some u found)
found_more k n (v ∷ us) u can found =
    go (has_serial k v) refl found (found_more k n us u (λ i d lt. can (suc i) d (omega arith)))
  where
    go : (b : Bool) → has_serial k v ≡ b → cond b (Some v) (find (has_serial k) us) ≡ Some u
        → (find (has_serial k) us ≡ Some u → u.delivered + n < 2 ^ 64) → u.delivered + n < 2 ^ 64
    go true e found below =
        subst (λ (w : Subscription). w.delivered + n < 2 ^ 64) (same_Some v u found)
        (can 0 v (omega arith) (eq_true v.serial k e))
    go false e found below = below found

pub more_fits : (k n : ℕ) (us : List Subscription) → CanCountMore n k us → CountsFit k n us
more_fits k n us can = go (find (has_serial k) us) refl
  where
    go : (o : Option Subscription)
        → find (has_serial k) us ≡ o
        → IfSome o (λ (u : Subscription). u.delivered + n < 2 ^ 64)
    go None none = tt
    go (Some u) found = found_more k n us u can found

-- another's count stays as it is
pub still_more : (j k n : ℕ) (us : List Subscription)
    → k ≢ j → CanCountMore n j us → CanCountMore n j (map (sub_with_more k n) us)
still_more j k n us apart can =
    All-map (λ (u : Subscription). u.serial ≡ j → u.delivered + n < 2 ^ 64) (sub_with_more k n) us
    (All-weaker (λ (u : Subscription). u.serial ≡ j → u.delivered + n < 2 ^ 64)
    (λ u. (sub_with_more k n u).serial ≡ j → (sub_with_more k n u).delivered + n < 2 ^ 64) (λ u it. other u it) us can)
  where
    other : (u : Subscription) → (u.serial ≡ j → u.delivered + n < 2 ^ 64)
        → (sub_with_more k n u).serial ≡ j → (sub_with_more k n u).delivered + n < 2 ^ 64
    other u it = go (has_serial k u) refl
      where
        go : (b : Bool) → has_serial k u ≡ b → (cond b (record u { delivered = u.delivered + n }) u).serial ≡ j
            → (cond b (record u { delivered = u.delivered + n }) u).delivered + n < 2 ^ 64
        go true e at = absurd (apart (sym (eq_true u.serial k e) ∙ at))
        go false e at = it at

-- ---- what is left of a connection

any_turned : (k : ℕ) (xs : List ℕ) → list_any (λ x. nat_eq x k) xs ≡ list_any (nat_eq k) xs
any_turned k [] = refl
any_turned k (x ∷ xs) =
    ap (λ b. b || list_any (λ x. nat_eq x k) xs) (turned x k) ∙ ap (λ b. nat_eq k x || b) (any_turned k xs)
  where
    turned : (a b : ℕ) → nat_eq a b ≡ nat_eq b a
    turned a b = go (nat_eq a b) refl
      where
        go : (t : Bool) → nat_eq a b ≡ t → t ≡ nat_eq b a
        go true e = sym (true_eq b a (sym (eq_true a b e)))
        go false e = sym (false_eq b a (λ f. eq_false a b e (sym f)))

-- the test of what is left
abbrev pub stays : List ℕ → ℕ → Bool
stays ended k = not (list_any (λ x. nat_eq x k) ended)

pub left_is : (conn : ℕ) (ended : List ℕ) (us : List Subscription)
    → filter (stays ended) (serials_of_conn conn us) ≡ left_of conn ended us
left_is conn ended [] = refl
left_is conn ended (u ∷ us) = go (is_of conn u) (left_is conn ended us)
  where
    kept : List ℕ
    kept = filter (stays ended) (serials_of_conn conn us)

    test : stays ended u.serial ≡ is_left ended u
    test = ap not (any_turned u.serial ended)

    step : (b : Bool)
        → kept ≡ left_of conn ended us
        → cond b (u.serial ∷ kept) kept
        ≡ serials_of (cond b (u ∷ filter (λ sub. is_of conn sub && is_left ended sub) us)
        (filter (λ sub. is_of conn sub && is_left ended sub) us))
    step true below = ap (λ l. u.serial ∷ l) below
    step false below = below

    go : (b : Bool)
        → kept ≡ left_of conn ended us
        → filter (stays ended) (map serial_of (cond b (u ∷ filter (is_of conn) us) (filter (is_of conn) us)))
        ≡ serials_of (cond (b && is_left ended u) (u ∷ filter (λ sub. is_of conn sub && is_left ended sub) us)
        (filter (λ sub. is_of conn sub && is_left ended sub) us))
    go true below = ap (λ b. cond b (u.serial ∷ kept) kept) test ∙ step (is_left ended u) below
    go false below = below
