-- Who is told of what was put.
use Rattle.std.proofs.Common.{◌≡◌, ℕ, ◌<◌, Bool, true, false, true≢false, List, [], ◌∷◌, length, map, get_or, refl, sym, ap, subst, ◌∙◌, arith}
use Rattle.std.specs.Prelude.{nat_eq, ◌||◌, slice_set}
use Rattle.std.specs.List.{list_any}
use Rattle.std.proofs.lemmas.Bool.Decides.{nat_tests}
use Rattle.std.proofs.lemmas.List.{get_or-map, length-map, length-set, get_or-set_other}
use Rattle.std.proofs.lemmas.Option.{same_Some, slice_get-get_or}
use Rattle.std.proofs.lemmas.Grind.{common_steps}
use Rattle.outbox.specs.Views.{Backlog, is_half_full}
use Rattle.shard_core.specs.declared.connections.Conn.{Conn}
use Rattle.shard_core.specs.Shards.{Client}
use Rattle.shard_core.specs.Boxes.{Clients, AreConns, IsSettled, client_in_view, shown_backlog, next_backlog, on_both, on_shown}
use Rattle.shard_core.specs.Dirty.{Dirty, AreKept, AreTold, AreToldBut, IsTold, IsToldAt, is_client_half_full, is_dirty}

-- where nothing is staged, nothing is dropped
pub shown_both : (change : List Client → List Client) (c : Clients) → IsSettled c → on_shown change c ≡ on_both change c
shown_both change c settled = λ k. record { shown = change c.shown; next = change (sym settled k) }

-- ---- what is noted

pub kept_both : (a b c : Dirty) → AreKept a b → AreKept b c → AreKept a c
kept_both a b c first second = record {
  dirty = λ n e. second.dirty n (first.dirty n e);
  urgent = λ e. second.urgent (first.urgent e);
}

pub told_still : (conn : Conn) (before after : Dirty) → AreKept before after → IsTold conn before → IsTold conn after
told_still conn before after kept told = record {
  noted = kept.dirty conn.number told.noted;
  urgent = λ half. kept.urgent (told.urgent half);
}

pub none_told : (places : List ℕ) (conns : List Conn) (dirty : Dirty) → AreToldBut places places conns dirty
none_told places conns dirty i within out = absurd (true≢false (sym within ∙ out))

-- one place more
pub told_more : (p : ℕ) (left places : List ℕ) (conns : List Conn) (before after : Dirty)
    → AreToldBut (p ∷ left) places conns before
    → IsToldAt p conns after
    → AreKept before after
    → AreToldBut left places conns after
told_more p left places conns before after but told kept i within out = by (nat_eq i p) refl where
  by : (b : Bool) → nat_eq i p ≡ b → IsToldAt i conns after
  by true e = let same : p ≡ i = grind (arith, nat_tests) in subst (λ j. IsToldAt j conns after) same told
  by false e = λ d lt.
      told_still (get_or conns i d) before after kept
      (but i within (ap (λ b. b || list_any (nat_eq i) left) e ∙ out) d lt)

other_default : (conns : List Conn) (i : ℕ) (c d : Conn) → i < length conns → get_or conns i c ≡ get_or conns i d
other_default conns i c d lt =
    same_Some (get_or conns i c) (get_or conns i d)
    (sym (slice_get-get_or conns i c lt) ∙ slice_get-get_or conns i d lt)

or_true : (b : Bool) → (b || true) ≡ true
or_true true = refl
or_true false = refl

-- the connection at a place is noted
pub told_at : (conns : List Conn) (i n : ℕ) (x : Conn) (half : Bool) (before after : Dirty)
    → x ≡ get_or conns i x
    → n ≡ x.number
    → half ≡ is_half_full x.outbox.max_entries x.outbox.max_bytes x.outbox.next
    → is_dirty n after ≡ true
    → after.urgent ≡ (before.urgent || half)
    → IsToldAt i conns after
told_at conns i n x half before after is number means dirty urgent d lt =
    subst (λ (y : Conn). IsTold y after) (is ∙ other_default conns i x d lt) (record {
      noted = ap (λ k. is_dirty k after) (sym number) ∙ dirty;
      urgent = λ full. urgent ∙ ap (λ b. before.urgent || b) (means ∙ full) ∙ or_true before.urgent;
    })

-- ---- what is put

pub nothing_put : (old new : List Client) (dirty : Dirty) → new ≡ old → AreTold old new dirty dirty
nothing_put old new dirty same =
    subst (λ l. AreTold l new dirty dirty) same (record {
      dirty = λ i d lt out. refl;
      urgent = λ i d lt half calm. refl;
      kept = record { dirty = λ n e. e; urgent = λ e. e };
    })

first : (i : ℕ) (conns : List Conn) → i < length conns → Conn
first i [] lt = absurd (omega arith)
first i (c ∷ cs) lt = c

-- all that is staged is shown
module _ (places : List ℕ) (conns : List Conn) (before after : Dirty) (are : AreConns places conns)
    (noted : AreToldBut [] places conns after) where
  abbrev pub old : List Client
  old = map (client_in_view shown_backlog) conns

  abbrev pub new : List Client
  new = map (client_in_view next_backlog) conns

  at : (i : ℕ) (c : Conn) (d : Client)
      → i < length conns
      → get_or new i d ≡ client_in_view next_backlog (get_or conns i c)
  at i c d lt = get_or-map (client_in_view next_backlog) conns i c d lt

  same : (i : ℕ) (c : Conn) (d : Client)
      → i < length conns
      → list_any (nat_eq i) places ≡ false
      → get_or new i d ≡ get_or old i d
  same i c d lt out =
      at i c d lt ∙ are.staged i c lt out ∙ sym (get_or-map (client_in_view shown_backlog) conns i c d lt)

  by_place : (i : ℕ) (c : Conn) (d : Client) (b : Bool)
      → i < length conns
      → list_any (nat_eq i) places ≡ b
      → (IsTold (get_or conns i c) after → get_or new i d ≡ get_or old i d)
      → get_or new i d ≡ get_or old i d
  by_place i c d true lt e else_told = else_told (noted i e refl c lt)
  by_place i c d false lt e else_told = same i c d lt e

  dirty_shown : (i : ℕ) (d : Client)
      → i < length new
      → is_dirty (get_or new i d).number after ≡ false
      → get_or new i d ≡ get_or old i d
  dirty_shown i d within out =
      let lt : i < length conns = omega (arith, length-map conns (client_in_view next_backlog)) in
      let c = first i conns lt in
      by_place i c d (list_any (nat_eq i) places) lt refl (λ told.
      absurd (true≢false (sym (ap (λ (x : Client). is_dirty x.number after) (at i c d lt) ∙ told.noted) ∙ out)))

  urgent_shown : (i : ℕ) (d : Client)
      → i < length new
      → is_client_half_full (get_or new i d) ≡ true
      → after.urgent ≡ false
      → get_or new i d ≡ get_or old i d
  urgent_shown i d within half calm =
      let lt : i < length conns = omega (arith, length-map conns (client_in_view next_backlog)) in
      let c = first i conns lt in
      by_place i c d (list_any (nat_eq i) places) lt refl
      (λ told. absurd (true≢false (sym (told.urgent (sym (ap is_client_half_full (at i c d lt)) ∙ half)) ∙ calm)))

  pub all_told : AreKept before after → AreTold old new before after
  all_told kept = record { dirty = dirty_shown; urgent = urgent_shown; kept = kept }

told_there : (conns : List Conn) (i : ℕ) (y : Conn) (after : Dirty)
    → i < length conns
    → IsToldAt i (slice_set conns i y) after
    → IsTold y after
told_there conns i y after lt told =
    let is : get_or (slice_set conns i y) i y ≡ y = grind (arith, nat_tests, common_steps) in
    subst (λ (x : Conn). IsTold x after) is (told y (omega (arith, length-set conns i y)))

-- one connection changes, with nothing staged for it
module _ (conns : List Conn) (i : ℕ) (y : Conn) (before after : Dirty) (alike : y.outbox.next ≡ y.outbox.shown)
    (there : i < length conns) (told_at : IsToldAt i (slice_set conns i y) after) where
  told : IsTold y after
  told = told_there conns i y after there told_at

  abbrev pub was : List Client
  was = map (client_in_view shown_backlog) conns

  abbrev pub now_is : List Client
  now_is = map (client_in_view shown_backlog) (slice_set conns i y)

  by_one : (j : ℕ) (d : Client)
      → j < length now_is
      → (get_or now_is j d ≡ client_in_view shown_backlog y → get_or now_is j d ≡ get_or was j d)
      → get_or now_is j d ≡ get_or was j d
  by_one j d within else_told = by (nat_eq j i) refl where
    inside : j < length (slice_set conns i y)
    inside = omega (arith, length-map (slice_set conns i y) (client_in_view shown_backlog))

    seen : get_or now_is j d ≡ client_in_view shown_backlog (get_or (slice_set conns i y) j y)
    seen = get_or-map (client_in_view shown_backlog) (slice_set conns i y) j y d inside

    by : (b : Bool) → nat_eq j i ≡ b → get_or now_is j d ≡ get_or was j d
    by true e =
        let at : get_or (slice_set conns i y) j y ≡ y = grind (arith, nat_tests, common_steps) in
        else_told (seen ∙ ap (client_in_view shown_backlog) at)
    by false e =
        let other : get_or (slice_set conns i y) j y ≡ get_or conns j y =
        get_or-set_other conns i j y y (grind (arith, nat_tests)) in
        seen
        ∙ ap (client_in_view shown_backlog) other
        ∙ sym (get_or-map (client_in_view shown_backlog) conns j y d (omega (arith, inside, length-set conns i y)))

  dirty_set : (j : ℕ) (d : Client)
      → j < length now_is
      → is_dirty (get_or now_is j d).number after ≡ false
      → get_or now_is j d ≡ get_or was j d
  dirty_set j d within out =
      by_one j d within
      (λ seen. absurd (true≢false (sym (ap (λ (x : Client). is_dirty x.number after) seen ∙ told.noted) ∙ out)))

  urgent_set : (j : ℕ) (d : Client)
      → j < length now_is
      → is_client_half_full (get_or now_is j d) ≡ true
      → after.urgent ≡ false
      → get_or now_is j d ≡ get_or was j d
  urgent_set j d within half calm =
      by_one j d within (λ seen.
      absurd (true≢false (sym (told.urgent (ap (λ (b : Backlog). is_half_full y.outbox.max_entries y.outbox.max_bytes b)
      alike ∙ sym (ap is_client_half_full seen) ∙ half)) ∙ calm)))

  pub one_told : AreKept before after → AreTold was now_is before after
  one_told kept = record { dirty = dirty_set; urgent = urgent_set; kept = kept }
