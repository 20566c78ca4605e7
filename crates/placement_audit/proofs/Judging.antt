-- The test of one more placement tells whether the clause is kept with it.
use Rattle.std.proofs.Common.{◌≡◌, ℕ, true, false, not, true≢false, List, [], ◌∷◌, ◌++◌, Some, None, refl, sym, ap, ◌∙◌, subst, inl, ⊎_elim}
use Rattle.std.proofs.lemmas.Option.{none-some, same_Some}
use Rattle.list_laws.specs.Lists.{In, Pairs}
use Rattle.list_laws.proofs.Lists.{each_append, each_one, in_right, pairs_append}
use Rattle.list_laws.proofs.Tests.{and_true, not_true}
use Rattle.outbox.specs.declared.entries.Mode.{Mode}
use Rattle.outbox.specs.declared.entries.Mode.TheVariants.{Plain, Queue}
use Rattle.subj.specs.declared.identities.PubId.{PubId}
use Rattle.world_law.specs.Headline.{IsOwed, OneMember, PlainOnce}
use Rattle.world_law.specs.State.{Publication, Life, LifeId, Placement}
use Rattle.placement_audit.specs.Keys.{Once, is_once, key_of, member_key, mode_key, plain_key}
use Rattle.placement_audit.specs.Tests.{is_first, is_kept_behind, is_owed, is_placed_for}
use Rattle.placement_audit.specs.Verdicts.{IsKept}
use Rattle.placement_audit.proofs.Anys.{both_hold, none_passes, not_any, pairs_last}
use Rattle.placement_audit.proofs.Ordered.{once_is, once_itself}
use Rattle.placement_audit.proofs.Owing.{owed_holds, owed_is}

pub kept_none : (publications : List Publication) (lives : List Life) → IsKept publications lives []
kept_none publications lives = record { plain_once = tt; one_member = tt; owed = λ p i. absurd i }

-- ---- one more that passes

none_so : (done : List Placement) (x : Placement) (key : Once)
    → is_placed_for done key ≡ false
    → In x done
    → key_of x ≡ key
    → ⊥
none_so done x key none i e =
    none_passes (λ (q : Placement). is_once (key_of q) key) done x none i (ap (λ k. is_once k key) e ∙ once_itself key)

mode_is : (id : PubId) (life : LifeId) (mode other : Mode)
    → mode ≡ other
    → mode_key id life mode ≡ mode_key id life other
mode_is id life mode other e = ap (mode_key id life) e

plain_apart : (done : List Placement) (p x : Placement)
    → is_placed_for done (plain_key p.id p.life) ≡ false
    → In x done
    → PlainOnce x p
plain_apart done p x none i = λ plain id life.
    none_so done x (plain_key p.id p.life) none i
    (mode_is x.id x.life x.mode Plain plain ∙ (λ j. plain_key (id j) (life j)))

member_apart : (done : List Placement) (p x : Placement)
    → is_placed_for done (key_of p) ≡ false
    → In x done
    → OneMember x p
member_apart done p x none i = λ name id older newer.
    none_so done x (key_of p) none i
    (mode_is x.id x.life x.mode (Queue name) older ∙ ap (λ k. member_key k name) id
    ∙ sym (mode_is p.id p.life p.mode (Queue name) newer))

one_more : (R : Placement → Placement → Type 0) (done : List Placement) (p : Placement)
    → Pairs R done
    → ((x : Placement) → In x done → R x p)
    → Pairs R (done ++ p ∷ [])
one_more R done p pairs apart =
    pairs_append R done (p ∷ []) pairs ((λ x i. absurd i), tt)
    (λ x y i j. ⊎_elim (λ (e : y ≡ p). subst (R x) (sym e) (apart x i)) (λ k. absurd k) j)

pub kept_more : (publications : List Publication) (lives : List Life) (done : List Placement) (p : Placement)
    → IsKept publications lives done
    → is_kept_behind publications lives done p ≡ true
    → IsKept publications lives (done ++ p ∷ [])
kept_more publications lives done p kept e =
    let both = and_true (is_owed publications lives p) (is_first done p) e in
    let first =
    and_true (not (is_placed_for done (plain_key p.id p.life))) (not (is_placed_for done (key_of p))) both.1 in
    record {
      plain_once =
          one_more PlainOnce done p kept.plain_once
          (λ x. plain_apart done p x (not_true (is_placed_for done (plain_key p.id p.life)) first.0));
      one_member =
          one_more OneMember done p kept.one_member
          (λ x. member_apart done p x (not_true (is_placed_for done (key_of p)) first.1));
      owed =
          each_append (IsOwed publications lives) done (p ∷ []) kept.owed
          (each_one (IsOwed publications lives) p (owed_is publications lives p both.0));
    }

-- ---- one more that does not

no_some : {A : Type 0} (x : A) → None ≡ Some x → ⊥
no_some x e = none-some x e

plain_of : (id : PubId) (life : LifeId) (mode : Mode) (other : PubId) (for : LifeId)
    → mode_key id life mode ≡ plain_key other for
    → (mode ≡ Plain) × (id ≡ other) × (life ≡ for)
plain_of id life Plain other for e = (refl, ap (λ (k : Once). k.id) e, same_Some life for (ap (λ (k : Once). k.life) e))
plain_of id life (Queue name) other for e = absurd (no_some for (ap (λ (k : Once). k.life) e))

member_of : (id : PubId) (life : LifeId) (mode : Mode) (other : PubId) (name : List ℕ)
    → mode_key id life mode ≡ member_key other name
    → (mode ≡ Queue name) × (id ≡ other)
member_of id life Plain other name e = absurd (no_some name (ap (λ (k : Once). k.queue) e))
member_of id life (Queue own) other name e = (
  ap Queue (same_Some own name (ap (λ (k : Once). k.queue) e)),
  ap (λ (k : Once). k.id) e,
)

no_plain : (done : List Placement) (p : Placement)
    → Pairs PlainOnce (done ++ p ∷ [])
    → is_placed_for done (plain_key p.id p.life) ≡ false
no_plain done p pairs = not_any (λ (q : Placement). is_once (key_of q) (plain_key p.id p.life)) done (λ x i e.
    let same = plain_of x.id x.life x.mode p.id p.life (once_is (key_of x) (plain_key p.id p.life) e) in
    pairs_last PlainOnce done p pairs x i same.0 same.1 same.2)

-- the one that is placed in this mode
no_other : (done : List Placement) (p : Placement)
    → Pairs PlainOnce (done ++ p ∷ [])
    → Pairs OneMember (done ++ p ∷ [])
    → (mode : Mode)
    → p.mode ≡ mode
    → is_placed_for done (mode_key p.id p.life mode) ≡ false
no_other done p plain member Plain is = no_plain done p plain
no_other done p plain member (Queue name) is =
    not_any (λ (q : Placement). is_once (key_of q) (member_key p.id name)) done (λ x i e.
    let same = member_of x.id x.life x.mode p.id name (once_is (key_of x) (member_key p.id name) e) in
    pairs_last OneMember done p member x i name same.1 same.0 is)

kept_passes : (publications : List Publication) (lives : List Life) (done : List Placement) (p : Placement)
    → IsKept publications lives (done ++ p ∷ [])
    → is_kept_behind publications lives done p ≡ true
kept_passes publications lives done p kept =
    both_hold (is_owed publications lives p) (is_first done p)
    (owed_holds publications lives p (kept.owed p (in_right p done (p ∷ []) (inl refl))))
    (both_hold (not (is_placed_for done (plain_key p.id p.life))) (not (is_placed_for done (key_of p)))
    (ap not (no_plain done p kept.plain_once)) (ap not (no_other done p kept.plain_once kept.one_member p.mode refl)))

pub not_kept : (publications : List Publication) (lives : List Life) (done : List Placement) (p : Placement)
    → is_kept_behind publications lives done p ≡ false
    → IsKept publications lives (done ++ p ∷ [])
    → ⊥
not_kept publications lives done p e kept = true≢false (sym (kept_passes publications lives done p kept) ∙ e)
