-- Changes of what stands in a table.
use Rattle.std.proofs.Common.{◌≡◌, ◌≢◌, ◌⊎◌, ℕ, Option, Some, None, is_some, refl, sym, ap, ◌∙◌, subst, inl, inr}
use Rattle.std.proofs.lemmas.Bool.{cases_eq}
use Rattle.std.proofs.lemmas.List.{set-set}
use Rattle.std.specs.Prelude.{IfSome, IfNone}
use Rattle.slab.specs.Slab.{Slab, get, with_value}
use Rattle.slab.proofs.SlabLemmas.{Updates-with_value}
use Rattle.node_net.specs.Keyed.{ChangesAt, Behind, Stays, EachStays}

-- nothing stands there
pub changes_none : {T : Type 0} (changed : T → T → Type 0) (key : ℕ) (old new : Slab T)
    → get old key ≡ None
    → new ≡ old
    → ChangesAt changed key old new
changes_none changed key old new is same = record { some = rw is tt; none = rw is same }

-- it is changed
pub changes_some : {T : Type 0} (changed : T → T → Type 0) (key : ℕ) (old new : Slab T) (before after : T)
    → get old key ≡ Some before
    → changed before after
    → new ≡ with_value old key after
    → ChangesAt changed key old new
changes_some changed key old new before after is change put =
    record { some = rw is (after, change, put); none = rw is tt }

-- what stands there once it is put
pub put_there : {T : Type 0} (key : ℕ) (old new : Slab T) (before after : T)
    → get old key ≡ Some before
    → new ≡ with_value old key after
    → get new key ≡ Some after
put_there key old new before after is put =
    ap (λ s. get s key) put ∙ (Updates-with_value old key after (ap is_some is)).changed

-- it is changed twice
pub changes_twice : {T : Type 0} (first second : T → T → Type 0) (key : ℕ) (old mid new : Slab T)
    → ChangesAt first key old mid
    → ChangesAt second key mid new
    → ChangesAt (Behind first second) key old new
changes_twice {T} first second key old mid new one two = go (get old key) refl where
  go : (o : Option T) → get old key ≡ o → ChangesAt (Behind first second) key old new
  go None is =
      let same : mid ≡ old = subst (λ o. IfNone o (mid ≡ old)) is one.none in
      let none : get mid key ≡ None = ap (λ s. get s key) same ∙ is in
      let more : new ≡ mid = subst (λ o. IfNone o (new ≡ mid)) none two.none in
      changes_none (Behind first second) key old new is (more ∙ same)
  go (Some before) is =
      let a : (after : T) × first before after × (mid ≡ with_value old key after) =
      subst (λ o. IfSome o (λ b. (after : T) × first b after × (mid ≡ with_value old key after))) is one.some in
      let some : get mid key ≡ Some a.0 = put_there key old mid before a.0 is a.2 in
      let b : (after : T) × second a.0 after × (new ≡ with_value mid key after) =
      subst (λ o. IfSome o (λ b. (after : T) × second b after × (new ≡ with_value mid key after))) some two.some in
      changes_some (Behind first second) key old new before b.0 is (a.0, a.1, b.1)
      (b.2 ∙ ap (λ s. with_value s key b.0) a.2
      ∙ ap (λ xs. record old { slots = xs }) (set-set old.slots key (Some a.0) (Some b.0)))

-- it is changed in another way too
pub changes_so : {T : Type 0} (first second : T → T → Type 0) (key : ℕ) (old new : Slab T)
    → ChangesAt first key old new
    → ((before after : T) → first before after → second before after)
    → ChangesAt second key old new
changes_so {T} first second key old new one so = go (get old key) refl where
  go : (o : Option T) → get old key ≡ o → ChangesAt second key old new
  go None is = changes_none second key old new is (subst (λ o. IfNone o (new ≡ old)) is one.none)
  go (Some before) is =
      let a : (after : T) × first before after × (new ≡ with_value old key after) =
      subst (λ o. IfSome o (λ b. (after : T) × first b after × (new ≡ with_value old key after))) is one.some in
      changes_some second key old new before a.0 is (so before a.0 a.1) a.2

-- ---- what stays

stays_both : {T : Type 0} (kept : T → T → Type 0) (old mid new : Option T)
    → ((x y z : T) → kept x y → kept y z → kept x z)
    → Stays kept old mid
    → Stays kept mid new
    → Stays kept old new
stays_both kept None mid new both one two = subst (λ o. Stays kept o new) one two
stays_both kept (Some x) mid new both one two =
    let next = subst (λ o. Stays kept o new) one.1 two in (next.0, next.1, both x one.0 next.0 one.2 next.2)

stays_same : {T : Type 0} (kept : T → T → Type 0) (old new : Option T)
    → ((x : T) → kept x x)
    → new ≡ old
    → Stays kept old new
stays_same kept None new each same = same
stays_same kept (Some x) new each same = (x, same, each x)

pub each_same : {T : Type 0} (kept : T → T → Type 0) (old new : Slab T)
    → ((x : T) → kept x x)
    → new ≡ old
    → EachStays kept old new
each_same kept old new each same key = stays_same kept (get old key) (get new key) each (ap (λ s. get s key) same)

pub each_both : {T : Type 0} (kept : T → T → Type 0) (old mid new : Slab T)
    → ((x y z : T) → kept x y → kept y z → kept x z)
    → EachStays kept old mid
    → EachStays kept mid new
    → EachStays kept old new
each_both kept old mid new both one two key =
    stays_both kept (get old key) (get mid key) (get new key) both (one key) (two key)

pub each_changed : {T : Type 0} (changed kept : T → T → Type 0) (key : ℕ) (old new : Slab T)
    → ((x : T) → kept x x)
    → ((x y : T) → changed x y → kept x y)
    → ChangesAt changed key old new
    → EachStays kept old new
each_changed {T} changed kept key old new each so one other = go (get old key) refl where
  go : (o : Option T) → get old key ≡ o → Stays kept (get old other) (get new other)
  go None is = each_same kept old new each (subst (λ o. IfNone o (new ≡ old)) is one.none) other
  go (Some before) is = pick (cases_eq other key) where
    there : (after : T) × changed before after × (new ≡ with_value old key after)
    there = subst (λ o. IfSome o (λ b. (after : T) × changed b after × (new ≡ with_value old key after))) is one.some

    pick : (other ≡ key) ⊎ (other ≢ key) → Stays kept (get old other) (get new other)
    pick (inl same) =
        subst (λ k. Stays kept (get old k) (get new k)) (sym same)
        (subst (λ o. Stays kept o (get new key)) (sym is)
        (there.0, put_there key old new before there.0 is there.2, so before there.0 there.1))
    pick (inr differs) =
        stays_same kept (get old other) (get new other) each
        (ap (λ s. get s other) there.2
        ∙ (Updates-with_value old key there.0 (ap is_some is)).others other differs)
