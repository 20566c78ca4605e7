-- A hub whose lanes refuse, seen as the hub that it hands calls on to.
use Rattle.std.proofs.Common.{◌≡◌, ℕ, List, [], ◌∷◌, ap, sym, subst}
use Rattle.subj.specs.declared.messages.Pub.{Pub}
use Rattle.client_calls.specs.declared.outcome.Outcome.{Outcome}
use Rattle.client_calls.specs.declared.outcome.Outcome.TheVariants.{Done}
use Rattle.server_calls.specs.Runs.{PublishesEach}

-- Publications of a run at the one are such at the other.
pub each_at : {A H : Type 0} (published : H → ℕ → Pub → ℕ → Outcome → H → Type 0) (at : H → A) (hub : A → H)
    → ((h : H) → hub (at h) ≡ h)
    → (conn : ℕ) (ps : List Pub) (before after : H)
    → PublishesEach published conn ps before after
    → PublishesEach (λ x conn p word came y. published (hub x) conn p word came (hub y)) conn ps (at before) (at after)
each_at published at hub same conn [] before after is = ap at is
each_at published at hub same conn (p ∷ ps) before after e = (
  at e.0,
  (λ word.
      subst (λ h. published (hub (at before)) conn p word Done h) (sym (same e.0))
      (subst (λ h. published h conn p word Done e.0) (sym (same before)) (e.1 word))),
  each_at published at hub same conn ps e.0 after e.2,
)
