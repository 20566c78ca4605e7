-- A publish with the events behind it is one run, which gives what a settled cluster gives.
use Rattle.std.proofs.Common.{◌≡◌, ℕ, suc, List, [], ◌∷◌, take, refl, sym, ap, ◌∙◌, subst}
use Rattle.std.proofs.Math.Logic.{∥∥₁_map}
use Rattle.hub_core.specs.Publishing.{Publication}
use Rattle.node_law.specs.Events.{Publish}
use Rattle.world_law.specs.Events.{Event, At}
use Rattle.world_law.specs.Outcomes.{Outcome}
use Rattle.world_law.specs.Steps.{Answers}
use Rattle.settled_law.specs.Promise.{Delivers}
use Rattle.cluster_world.specs.Value.{Shown, IsStepped, Ran, IsPart, GivesOnce}

pub ran_first : (old mid new : Shown) (e : Event) (o : Outcome) (es : List Event) (os : List Outcome)
    → IsStepped old e o mid
    → Ran mid es os new
    → Ran old (e ∷ es) (o ∷ os) new
ran_first old mid new e o es os s r = record {
  cluster = r.cluster ∙ s.cluster;
  run = ((mid.world, o, s.step, rest.0), ap (λ t. o ∷ t) rest.1);
  steps = (mid, s, r.steps);
}
  where
    rest : Answers old.cluster mid.world es os new.world
    rest = subst (λ c. Answers c mid.world es os new.world) s.cluster r.run

-- none of the events was made
pub none_made : (old new : Shown) (es : List Event) → new ≡ old → IsPart old es new
none_made old new es same =
    subst (IsPart old es) (sym same)
    (record { made = 0; outcomes = []; run = record { cluster = refl; run = (refl, refl); steps = refl } })

-- the first was made, and some of the others
pub part_first : (old mid new : Shown) (e : Event) (o : Outcome) (es : List Event)
    → IsStepped old e o mid
    → IsPart mid es new
    → IsPart old (e ∷ es) new
part_first old mid new e o es s p = record {
  made = suc p.made;
  outcomes = o ∷ p.outcomes;
  run = ran_first old mid new e o (take p.made es) p.outcomes s p.run;
}

pub gives_once : (old new : Shown) (n : ℕ) (p : Publication) (order : List Event) (outcomes : List Outcome)
    → ∥ Delivers old.cluster old.world ∥₁
    → Ran old (At n (Publish p) ∷ order) outcomes new
    → GivesOnce old n p order outcomes new
gives_once old new n p order outcomes delivers ran a right =
    ∥∥₁_map delivers (λ f. f n a p order right outcomes new.world ran.run)
