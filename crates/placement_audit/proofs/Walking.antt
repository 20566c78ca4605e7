-- Placements are gone over one by one.
use Rattle.std.proofs.Common.{◌≡◌, ℕ, ◌+◌, ◌-◌, ◌<◌, ◌≤◌, true, false, List, [], ◌∷◌, ◌++◌, map, take, drop, length, get_or, Option, Some, None, refl, sym, ap, ◌∙◌, subst, arith}
use Rattle.std.proofs.lemmas.List.{length-map, map_more, take-map, take_all, take-append-drop}
use Rattle.list_laws.specs.Lists.{Pairs}
use Rattle.list_laws.proofs.Lists.{in_left}
use Rattle.world_law.specs.Headline.{Headline}
use Rattle.world_law.specs.State.{Publication, Life, Placement, World}
use Rattle.std.specs.BTreeSet.{BTreeSet}
use Rattle.placement_audit.specs.declared.keys.Served.{Served}
use Rattle.placement_audit.specs.Seen.{AreSeen}
use Rattle.placement_audit.specs.Tests.{is_kept_behind}
use Rattle.placement_audit.specs.Verdicts.{IsBreach, IsKept, IsVerdict}
use Rattle.placement_audit.proofs.Judging.{kept_more, not_kept}

-- those so far keep the clause, and are noted
pub record Walked (publications : List Publication) (lives : List Life) (done : List Placement)
    (seen : BTreeSet Served) : Type 0 where
  pub kept : IsKept publications lives done
  pub seen_so : AreSeen seen done

module _ {A : Type 0} (f : A → Placement) (xs : List A) (i : ℕ) (x : A) (lt : i < length xs)
    (is : x ≡ get_or xs i x) where
  pub one_further : map f (take (i + 1) xs) ≡ map f (take i xs) ++ f x ∷ []
  one_further = map_more f xs i x lt ∙ ap (λ y. map f (take i xs) ++ f y ∷ []) (sym is)

  module _ (publications : List Publication) (lives : List Life)
      (kept : IsKept publications lives (map f (take i xs))) where
    pub kept_further : is_kept_behind publications lives (map f (take i xs)) (f x) ≡ true
        → IsKept publications lives (map f (take (i + 1) xs))
    kept_further passes =
        subst (IsKept publications lives) (sym one_further)
        (kept_more publications lives (map f (take i xs)) (f x) kept passes)

    pub breach_here : is_kept_behind publications lives (map f (take i xs)) (f x) ≡ false
        → IsBreach publications lives (map f xs) (i + 1)
    breach_here fails =
        let same : length (map f xs) ≡ length xs = length-map xs f in
        let less : i ≡ i + 1 - 1 = omega arith in
        record {
          first = omega arith;
          last = omega arith;
          before = subst (IsKept publications lives) (sym (take-map f i xs) ∙ ap (λ n. take n (map f xs)) less) kept;
          broken = λ whole.
              not_kept publications lives (map f (take i xs)) (f x) fails
              (subst (IsKept publications lives) (take-map f (i + 1) xs ∙ one_further) whole);
        }

pub kept_to_end : {A : Type 0} (f : A → Placement) (xs : List A) (i : ℕ) (publications : List Publication)
    (lives : List Life)
    → length xs ≤ i
    → IsKept publications lives (map f (take i xs))
    → IsKept publications lives (map f xs)
kept_to_end f xs i publications lives end kept =
    subst (λ l. IsKept publications lives (map f l)) (take_all i xs end) kept

-- ---- the first so many of what keeps the clause keep it too

pairs_front : {A : Type 0} (R : A → A → Type 0) (xs ys : List A) → Pairs R (xs ++ ys) → Pairs R xs
pairs_front R [] ys p = tt
pairs_front R (x ∷ xs) ys p = ((λ y i. p.0 y (in_left y xs ys i)), pairs_front R xs ys p.1)

kept_front : (publications : List Publication) (lives : List Life) (xs ys : List Placement)
    → IsKept publications lives (xs ++ ys)
    → IsKept publications lives xs
kept_front publications lives xs ys kept = record {
  plain_once = pairs_front _ xs ys kept.plain_once;
  one_member = pairs_front _ xs ys kept.one_member;
  owed = λ p i. kept.owed p (in_left p xs ys i);
}

pub kept_so_far : (publications : List Publication) (lives : List Life) (placements : List Placement) (n : ℕ)
    → IsKept publications lives placements
    → IsKept publications lives (take n placements)
kept_so_far publications lives placements n kept =
    kept_front publications lives (take n placements) (drop n placements)
    (subst (IsKept publications lives) (sym (take-append-drop n placements)) kept)

-- ---- so an audit tells nothing of what keeps the headline

kept_by : (w : World) → Headline w → IsKept w.publications w.lives w.placements
kept_by w h = record { plain_once = h.plain_once; one_member = h.one_member; owed = h.owed }

pub none_of_headline : (w : World)
    → Headline w
    → (found : Option ℕ)
    → IsVerdict w.publications w.lives w.placements found
    → found ≡ None
none_of_headline w h None told = refl
none_of_headline w h (Some number) told =
    absurd (told.broken (kept_so_far w.publications w.lives w.placements number (kept_by w h)))
