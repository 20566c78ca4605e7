-- A view is what its origin has told by some number of changes.
use Rattle.std.proofs.Common.{◌≡◌, ℕ, zero, suc, ◌+◌, ◌-◌, ◌≤◌, Bool, true, false, cond, List, [], ◌∷◌, length, take, Option, Some, None, refl, ap, sym, ◌∙◌, arith}
use Rattle.std.specs.Prelude.{nat_le, nat_lt, is_none, slice_get, if◌then◌else◌}
use Rattle.std.specs.List.{AllByRecursion}
use Rattle.std.proofs.lemmas.Bool.Decides.{nat_tests}
use Rattle.std.proofs.lemmas.Option.{none-some, same_Some, slice_get_within}
use Rattle.interest.specs.declared.changes.Change.{Change}
use Rattle.interest.specs.declared.faults.InterestFault.{InterestFault}
use Rattle.interest.specs.declared.faults.InterestFault.TheVariants.{Late, Gap}
use Rattle.interest.specs.Views.{View, view_with_change, view_after, view_at, follow_fault}
use Rattle.interest.specs.Heard.{Heard, News, Changed, Whole, nothing_heard, news_fault, heard_after, heard_of, heard_all}
use Rattle.interest.specs.Laws.{IsNewsOf, ViewsAreOfOrigin}

-- one change more
more : (changes : List Change) (count : ℕ) (change : Change) (view : View)
    → slice_get changes count ≡ Some change
    → view_after (take (suc count) changes) view ≡ view_with_change change (view_after (take count changes) view)
more [] count change view at = absurd (none-some change at)
more (c ∷ cs) zero change view at = ap (λ c. view_with_change c view) (same_Some c change at)
more (c ∷ cs) (suc count) change view at = more cs count change (view_with_change c view) at

-- what a view keeps
record IsOf (changes : List Change) (heard : Heard) : Type 0 where
  most : heard.mark ≤ length changes
  keys : heard.keys ≡ view_at changes heard.mark

-- a change that is taken is the next one
is_next : (mark number : ℕ) (last : Option InterestFault)
    → (if nat_le number mark then Some Late else (if nat_lt (mark + 1) number then Some Gap else last)) ≡ None
    → number ≡ suc mark
is_next mark number last taken = go (nat_le number mark) (nat_lt (mark + 1) number) refl refl taken
  where
    go : (a b : Bool)
        → nat_le number mark ≡ a
        → nat_lt (mark + 1) number ≡ b
        → cond a (Some Late) (cond b (Some Gap) last) ≡ None
        → number ≡ suc mark
    go true b late gap h = absurd (none-some _ (sym h))
    go false true late gap h = absurd (none-some _ (sym h))
    go false false late gap h = grind (arith, nat_tests, late, gap)

after : (changes : List Change) (heard : Heard) (news : News)
    → IsOf changes heard
    → IsNewsOf changes news
    → news_fault heard news ≡ None
    → IsOf changes (heard_after heard news)
after changes heard (Changed number change) is made taken =
    let next = is_next heard.mark number (follow_fault heard.keys change) taken in
    let before : number - 1 ≡ heard.mark = omega arith in
    let at : slice_get changes heard.mark ≡ Some change = ap (slice_get changes) (sym before) ∙ made in
    let below = slice_get_within changes heard.mark change at in
    record {
      most = omega arith;
      keys =
          ap (view_with_change change) is.keys
          ∙ sym (more changes heard.mark change [] at)
          ∙ ap (λ n. view_at changes n) (sym next);
    }
after changes heard (Whole number keys) is made taken = record { most = made.0; keys = made.1 }

one : (changes : List Change) (heard : Heard) (news : News)
    → IsOf changes heard
    → IsNewsOf changes news
    → IsOf changes (heard_of heard news)
one changes heard news is made = go (news_fault heard news) refl
  where
    go : (o : Option InterestFault)
        → news_fault heard news ≡ o
        → IsOf changes (cond (is_none o) (heard_after heard news) heard)
    go None taken = after changes heard news is made taken
    go (Some why) taken = is

all : (changes : List Change) (heard : Heard) (news : List News)
    → IsOf changes heard
    → AllByRecursion (IsNewsOf changes) news
    → IsOf changes (heard_all heard news)
all changes heard [] is made = is
all changes heard (news ∷ later) is made =
    all changes (heard_of heard news) later (one changes heard news is made.0) made.1

pub views_are_of_origin : ViewsAreOfOrigin
views_are_of_origin changes news made =
    let is = all changes nothing_heard news (record { most = omega arith; keys = refl }) made in
    (is.most, is.keys)
