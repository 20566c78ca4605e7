-- What comes of asking the exact cluster, part by part.
use Rattle.std.proofs.Common.{◌≡◌, suc, ◌+◌, List, [], ◌∷◌, ◌++◌, Option, Some, None, refl, ap, subst, arith}
use Rattle.world_law.specs.declared.faults.WorldFault.{WorldFault}
use Rattle.world_law.specs.Events.{Event, Start, Stop, Receive, OnInfo, OnConnect, At}
use Rattle.world_law.specs.Outcomes.{Outcome}
use Rattle.world_law.specs.Play.{next, outcome}
use Rattle.world_law.specs.Refusals.{world_refusal}
use Rattle.world_law.specs.State.{Cluster, World, new_world}
use Rattle.world_law.specs.Steps.{Happens, Decided, WorldStep, Run}
use Rattle.mesh_script.specs.Asks.{Asks, NoMore, Ask, Say, and_then}
use Rattle.mesh_script.specs.Playing.{Completed}
use Rattle.mesh_script.specs.Told.{Said, Came, Line, Told, count_came}

-- ---- one part behind the other

pub told_on : (c : Cluster) (w mid w' : World) (asks rest left : Asks) (first more : List Said)
    → Told c w asks first rest mid
    → Told c mid rest more left w'
    → Told c w asks (first ++ more) left w'
told_on c w mid w' asks rest left [] more told next =
    subst (λ a. Told c w a more left w') told.0 (subst (λ m. Told c m rest more left w') told.1 next)
told_on c w mid w' NoMore rest left (said ∷ first) more told next = absurd told
told_on c w mid w' (Ask e deed) rest left (Came outcome ∷ first) more told next = (
  told.0,
  told.1,
  told_on c told.0 mid w' (deed w outcome) rest left first more told.2 next,
)
told_on c w mid w' (Ask e deed) rest left (Line text ∷ first) more told next = absurd told
told_on c w mid w' (Say line behind) rest left (Came outcome ∷ first) more told next = absurd told
told_on c w mid w' (Say line behind) rest left (Line text ∷ first) more told next = (
  told.0,
  told_on c w mid w' behind rest left first more told.1 next,
)

-- what is asked behind it all waits
pub told_before : (c : Cluster) (w mid : World) (asks rest behind : Asks) (said : List Said)
    → Told c w asks said rest mid
    → Told c w (and_then asks behind) said (and_then rest behind) mid
told_before c w mid asks rest behind [] told = (ap (λ a. and_then a behind) told.0, told.1)
told_before c w mid NoMore rest behind (said ∷ more) told = absurd told
told_before c w mid (Ask e deed) rest behind (Came outcome ∷ more) told = (
  told.0,
  told.1,
  told_before c told.0 mid (deed w outcome) rest behind more told.2,
)
told_before c w mid (Ask e deed) rest behind (Line text ∷ more) told = absurd told
told_before c w mid (Say line next) rest behind (Came outcome ∷ more) told = absurd told
told_before c w mid (Say line next) rest behind (Line text ∷ more) told = (
  told.0,
  told_before c w mid next rest behind more told.1,
)

-- ---- steps are counted

happens_counts : (c : Cluster) (w w' : World) (e : Event) (outcome : Outcome)
    → Happens c w e outcome w'
    → w'.step ≡ suc w.step
happens_counts c w w' (Start n inc) outcome h = ap (λ (v : World). v.step) h.after
happens_counts c w w' (Stop n) outcome h = ap (λ (v : World). v.step) h.after
happens_counts c w w' (Receive n k) outcome h = ap (λ (v : World). v.step) h.after
happens_counts c w w' (OnInfo n session k) outcome h = ap (λ (v : World). v.step) h.after
happens_counts c w w' (OnConnect n session k) outcome h = ap (λ (v : World). v.step) h.after
happens_counts c w w' (At n event) outcome h = ap (λ (v : World). v.step) h.after

decided_counts : (c : Cluster) (w w' : World) (e : Event) (refusal : Option WorldFault) (outcome : Outcome)
    → Decided c w e refusal outcome w'
    → w'.step ≡ suc w.step
decided_counts c w w' e None outcome h = happens_counts c w w' e outcome h
decided_counts c w w' e (Some why) outcome h = ap (λ (v : World). v.step) h.1

pub step_counts : (c : Cluster) (w w' : World) (e : Event) (outcome : Outcome)
    → WorldStep c w e outcome w'
    → w'.step ≡ suc w.step
step_counts c w w' e outcome h = decided_counts c w w' e (world_refusal c w e) outcome h

pub told_counts : (c : Cluster) (w w' : World) (asks rest : Asks) (said : List Said)
    → Told c w asks said rest w'
    → w'.step ≡ w.step + count_came said
told_counts c w w' asks rest [] told = let e = ap (λ (v : World). v.step) told.1 in omega arith
told_counts c w w' NoMore rest (said ∷ more) told = absurd told
told_counts c w w' (Ask e deed) rest (Came outcome ∷ more) told =
    let one = step_counts c w told.0 e outcome told.1 in
    let rest_counts = told_counts c told.0 w' (deed w outcome) rest more told.2 in
    omega arith
told_counts c w w' (Ask e deed) rest (Line text ∷ more) told = absurd told
told_counts c w w' (Say line behind) rest (Came outcome ∷ more) told = absurd told
told_counts c w w' (Say line behind) rest (Line text ∷ more) told = told_counts c w w' behind rest more told.1

-- ---- what is told is told in a run

pub run_of : (c : Cluster) (w w' : World) (asks rest : Asks) (said : List Said)
    → Told c w asks said rest w'
    → (events : List Event) × Run c w events w'
run_of c w w' asks rest [] told = ([], told.1)
run_of c w w' NoMore rest (said ∷ others) told = absurd told
run_of c w w' (Ask e deed) rest (Came outcome ∷ others) told =
    let more = run_of c told.0 w' (deed w outcome) rest others told.2 in
    (e ∷ more.0, (told.0, outcome, told.1, more.1))
run_of c w w' (Ask e deed) rest (Line text ∷ others) told = absurd told
run_of c w w' (Say line behind) rest (Came outcome ∷ others) told = absurd told
run_of c w w' (Say line behind) rest (Line text ∷ others) told = run_of c w w' behind rest others told.1

run_on : (c : Cluster) (a w w' : World) (events : List Event) (e : Event) (outcome : Outcome)
    → Run c a events w
    → WorldStep c w e outcome w'
    → Run c a (events ++ e ∷ []) w'
run_on c a w w' [] e outcome run step = (w', outcome, subst (λ m. WorldStep c m e outcome w') run step, refl)
run_on c a w w' (first ∷ events) e outcome run step = (
  run.0,
  run.1,
  run.2,
  run_on c run.0 w w' events e outcome run.3 step,
)

-- ---- and where each event has a step, the rest can be told

abbrev pub EachHasStep : Cluster → Type 0
EachHasStep c =
    (events : List Event) (w : World)
    → Run c (new_world c) events w
    → (e : Event)
    → WorldStep c w e (outcome c w e) (next c w e)

pub record ToldToEnd (c : Cluster) (w : World) (asks : Asks) : Type 0 where
  pub said : List Said
  pub world : World
  pub told : Told c w asks said NoMore world

to_end : (c : Cluster)
    → EachHasStep c
    → (w : World) (events : List Event)
    → Run c (new_world c) events w
    → (asks : Asks)
    → ToldToEnd c w asks
to_end c steps w events run NoMore = record { said = []; world = w; told = (refl, refl) }
to_end c steps w events run (Ask e deed) =
    let step = steps events w run e in
    let more = to_end c steps (next c w e) (events ++ e ∷ [])
    (run_on c (new_world c) w (next c w e) events e (outcome c w e) run step) (deed w (outcome c w e)) in
    record { said = Came (outcome c w e) ∷ more.said; world = more.world; told = (next c w e, step, more.told) }
to_end c steps w events run (Say line behind) =
    let more = to_end c steps w events run behind in
    record { said = Line (line w) ∷ more.said; world = more.world; told = (refl, more.told) }

pub completed : (c : Cluster)
    → EachHasStep c
    → (asks rest : Asks) (said : List Said) (w : World)
    → Told c (new_world c) asks said rest w
    → Completed c asks said
completed c steps asks rest said w told =
    let run = run_of c (new_world c) w asks rest said told in
    let more = to_end c steps w run.0 run.1 rest in
    record {
      more = more.said;
      world = more.world;
      told = told_on c (new_world c) w more.world asks rest NoMore said more.said told more.told;
    }
