use Rattle.std.proofs.Common.{◌≡◌, ℕ, ap, sym, subst, ◌∙◌}
use Rattle.std.specs.Prelude.{MatchResult, Result, Ok, Err, is_ok}
use Rattle.subj.specs.declared.keys.Key.{Key}
use Rattle.subj.specs.Keys.{key_cmp}
use Rattle.interest.specs.Heard.{Heard}
use Rattle.interest.specs.Places.{IsPlaceOf, IsGapFor}
use Rattle.interest.specs.Views.{View, has_key}
use Rattle.interest.proofs.News.Hearing.{key_at, no_key_at}
use Rattle.interest.proofs.views.View.has.Goals as goal

found : (keys : View) (key : Key) (r : Result ℕ ℕ)
    → MatchResult r (IsPlaceOf key_cmp key keys) (IsGapFor key_cmp key keys)
    → is_ok r ≡ has_key keys key
found keys key (Ok place) at = sym (key_at keys key place at)
found keys key (Err place) at = sym (no_key_at keys key place at)

pub returns : goal.returns
returns c =
    let same = c.deref.ensures.value ∙ ap (λ (heard : Heard). heard.keys) c.self.view_is in
    c.is_ok.ensures.value
    ∙ subst (λ (keys : View). is_ok c.place_of.result ≡ has_key keys c.args.key.now) same
    (found c.deref.result.now c.args.key.now c.place_of.result c.place_of.ensures)
