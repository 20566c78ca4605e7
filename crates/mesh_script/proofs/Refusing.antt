-- Where an outcome is a refusal, and where it is none.
use Rattle.std.proofs.Common.{◌≡◌, true, false, true≢false, refl, sym}
use Rattle.std.specs.Prelude.{is_some}
use Rattle.cluster_world.specs.declared.outcomes.Outcome.{Outcome}
use Rattle.cluster_world.specs.declared.outcomes.Outcome.TheVariants.{Refused, Done}
use Rattle.cluster_world.specs.InCode.{outcome_of, fault_in}
use Rattle.mesh_script.specs.Asks.{Asks, NoMore, where_done}

pub where_refused : (outcome : Outcome) (more : Asks)
    → is_some (fault_in outcome) ≡ true
    → where_done (outcome_of outcome) more ≡ NoMore
where_refused (Refused why) more is = refl
where_refused (Done answer) more is = absurd (true≢false (sym is))

pub where_not_refused : (outcome : Outcome) (more : Asks)
    → is_some (fault_in outcome) ≡ false
    → where_done (outcome_of outcome) more ≡ more
where_not_refused (Refused why) more is = absurd (true≢false is)
where_not_refused (Done answer) more is = refl
