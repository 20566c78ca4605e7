-- What was placed so far: one more, noted or not.
use Rattle.std.proofs.Common.{◌≡◌, Bool, true, false, not, ◌&&◌, cond, true≢false, List, [], ◌∷◌, ◌++◌, sym, ap, ◌∙◌}
use Rattle.std.specs.Prelude.{Result, Ok, Err, IfOk}
use Rattle.std.specs.BTreeSet.{BTreeSet, contains}
use Rattle.std.specs.List.{list_any}
use Rattle.std.specs.Ordering.{is_eq}
use Rattle.world_law.specs.State.{Publication, Life, Placement}
use Rattle.placement_audit.specs.declared.keys.Served.{Served}
use Rattle.placement_audit.specs.Keys.{is_once, key_of, named_once, plain_key, served_cmp}
use Rattle.placement_audit.specs.Seen.{AreSeen, IsJudged, IsNoted}
use Rattle.placement_audit.specs.Tests.{is_first, is_owed, is_placed_for}
use Rattle.placement_audit.proofs.Anys.{any_push}
use Rattle.placement_audit.proofs.Ordered.{same_order}

pub seen_none : (seen : BTreeSet Served) → seen.keys ≡ [] → AreSeen seen []
seen_none seen none = λ key. ap (list_any (λ k. is_eq (served_cmp key k))) none

module _ (done : List Placement) (p : Placement) (key : Served) (own : named_once key ≡ key_of p) where
  own_test : (q : Served) → is_once (key_of p) (named_once q) ≡ is_eq (served_cmp key q)
  own_test q = ap (λ k. is_once k (named_once q)) (sym own) ∙ ap is_eq (same_order key q)

  pub seen_push : (old new : BTreeSet Served)
      → AreSeen old done
      → ((q : Served) → contains served_cmp new q ≡ cond (is_eq (served_cmp key q)) true (contains served_cmp old q))
      → AreSeen new (done ++ p ∷ [])
  seen_push old new had put = λ q.
      put q
      ∙ ap (cond (is_eq (served_cmp key q)) true) (had q)
      ∙ sym (any_push (λ (x : Placement). is_once (key_of x) (named_once q)) done p
      ∙ ap (λ b. cond b true (is_placed_for done (named_once q))) (own_test q))

-- ---- what is told of it

never : {A : Type 0} → false ≡ true → A
never e = absurd (true≢false (sym e))

pub noted_again : (done : List Placement) (p : Placement) (seen : BTreeSet Served) (key : Served)
    → named_once key ≡ plain_key p.id p.life
    → AreSeen seen done
    → contains served_cmp seen key ≡ true
    → IsNoted done p seen false
noted_again done p seen key own had is = record {
  told_so =
      sym (ap (λ b. not b && not (is_placed_for done (key_of p))) (sym (had key ∙ ap (is_placed_for done) own) ∙ is));
  noted = λ e. never e;
}

pub noted_first : (done : List Placement) (p : Placement) (old new : BTreeSet Served) (plain key : Served) (told : Bool)
    → named_once plain ≡ plain_key p.id p.life
    → named_once key ≡ key_of p
    → AreSeen old done
    → contains served_cmp old plain ≡ false
    → told ≡ not (contains served_cmp old key)
    → ((q : Served) → contains served_cmp new q ≡ cond (is_eq (served_cmp key q)) true (contains served_cmp old q))
    → IsNoted done p new told
noted_first done p old new plain key told plain_own own had unseen says put = record {
  told_so =
      says
      ∙ ap not (had key ∙ ap (is_placed_for done) own)
      ∙ sym (ap (λ b. not b && not (is_placed_for done (key_of p)))
      (sym (had plain ∙ ap (is_placed_for done) plain_own) ∙ unseen));
  noted = λ e. seen_push done p key own old new had put;
}

-- ---- whether it keeps the clause

pub not_judged : (publications : List Publication) (lives : List Life) (done : List Placement) (p : Placement)
    (seen : BTreeSet Served)
    → is_owed publications lives p ≡ false
    → IsJudged publications lives done p seen false
not_judged publications lives done p seen fails = record {
  told_so = sym (ap (λ b. b && is_first done p) fails);
  noted = λ e. never e;
}

pub judged : (publications : List Publication) (lives : List Life) (done : List Placement) (p : Placement)
    (seen : BTreeSet Served) (told : Bool)
    → is_owed publications lives p ≡ true
    → IsNoted done p seen told
    → IsJudged publications lives done p seen told
judged publications lives done p seen told owed noted = record {
  told_so = noted.told_so ∙ sym (ap (λ b. b && is_first done p) owed);
  noted = noted.noted;
}

-- of a call that says two things where it has memory
pub if_both : {A E : Type 0} (r : Result A E) (P Q R : A → Type 0) → ((x : A) → P x → Q x → R x) → IfOk r P → IfOk r Q
    → IfOk r R
if_both (Ok x) P Q R h p q = h x p q
if_both (Err e) P Q R h p q = tt
