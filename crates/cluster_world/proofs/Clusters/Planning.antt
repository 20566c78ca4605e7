-- What a server plans of a publish is what its cluster's server plans; and where the cluster is settled, none is
-- refused.
use Rattle.std.proofs.Common.{◌≡◌, ℕ, ◌<◌, true, List, [], ◌∷◌, ◌++◌, Option, Some, None, refl, sym, ap, ◌∙◌, subst, inl}
use Rattle.std.specs.Prelude.{slice_get}
use Rattle.std.proofs.Math.Logic.{∥∥₁_elim}
use Rattle.hub_core.specs.Publishing.{Publication, subject_of, own_job, frames_of}
use Rattle.hub_core.specs.declared.publishing.PublishPlan.{PublishPlan}
use Rattle.subj.specs.Servers.{ServerIdentity}
use Rattle.node_core.specs.Served.{Served}
use Rattle.node_law.specs.Answers.{Answer}
use Rattle.node_law.specs.Events.{Publish, Own}
use Rattle.world_law.specs.declared.faults.WorldFault.{WorldFault}
use Rattle.world_law.specs.Events.{Event, At}
use Rattle.world_law.specs.Headline.{IsCluster}
use Rattle.world_law.specs.Outcomes.{Outcome, Refused, Done}
use Rattle.world_law.specs.Play.{next, outcome, outcome_of}
use Rattle.world_law.specs.Refusals.{world_refusal, refusal_at}
use Rattle.world_law.specs.State.{Cluster, World, Running, new_world}
use Rattle.world_law.specs.Steps.{WorldStep, Run, Answers, Carried}
use Rattle.world_law.proofs.Runs.Programs.{one_more}
use Rattle.settled_law.specs.Exact.{TestsAreExact}
use Rattle.settled_law.specs.Orders.{whole_order, SomeOrderIsRight}
use Rattle.settled_law.specs.Promise.{SettledDelivers}
use Rattle.settled_law.specs.Settled.{IsSettled, IsRoomy}
use Rattle.cluster_world.specs.Planned.{IsPlannedAt, IsPlannedBy, TakesWhereSettled}
use Rattle.cluster_world.specs.Value.{Listed, InPlace, cluster_of, value_of_parts, running_of, slot_refusal}
use Rattle.cluster_world.proofs.Clusters.Making.{cause_is, shown_at}

pub planned_by : (server : ServerIdentity) (step : ℕ) (nodes : List (Option Served)) (l : Listed)
    → InPlace (cluster_of server) nodes
    → (n : ℕ) (p : Publication) (plan : Option PublishPlan)
    → IsPlannedAt (slice_get nodes n) p plan
    → IsPlannedBy (value_of_parts server step nodes l) n p plan
planned_by server step nodes l places n p None planned =
    let cause = cause_is server step n nodes l (At n (Publish p)) (Some (Own (Publish p))) places refl refl in
    (planned.0, sym cause ∙ planned.1)
planned_by server step nodes l places n p (Some plan) planned =
    let s = planned.0 in
    let at = planned.1 in
    let cause = cause_is server step n nodes l (At n (Publish p)) (Some (Own (Publish p))) places refl refl in
    let own = places n s at in (
      running_of s,
      shown_at nodes n (Some s) at,
      sym cause ∙ ap (slot_refusal (Some (Own (Publish p)))) at ∙ planned.2,
      record {
        job = planned.3.job ∙ ap (λ server. own_job server s.node.hub p) own;
        frames = planned.3.frames ∙ ap (λ server. frames_of server s.node.hub p) own;
      },
    )

-- ---- where a cluster is settled

-- each event has a step, from each world that a run reaches
abbrev pub EachGoesOn : Type 0
EachGoesOn =
    (c : Cluster)
    → IsCluster c
    → (events : List Event) (w : World)
    → Run c (new_world c) events w
    → (e : Event)
    → WorldStep c w e (outcome c w e) (next c w e)

-- and so has each list of events
goes_on : EachGoesOn
    → (c : Cluster)
    → IsCluster c
    → (es events : List Event) (w : World)
    → Run c (new_world c) events w
    → (outcomes : List Outcome) × (w' : World) × Answers c w es outcomes w'
goes_on goes c cluster [] events w run = ([], w, (refl, refl))
goes_on goes c cluster (e ∷ es) events w run =
    let step = goes c cluster events w run e in
    let rest = goes_on goes c cluster es (events ++ e ∷ []) (next c w e)
    (one_more c (new_world c) events w e (outcome c w e) (next c w e) run step) in (
      outcome c w e ∷ rest.0,
      rest.1,
      ((next c w e, outcome c w e, step, rest.2.0), ap (λ t. outcome c w e ∷ t) rest.2.1),
    )

-- the same publication, which its own connection may get back
abbrev echoed : Publication → Publication
echoed p = record p { publication = record p.publication { echo = true } }

abbrev WasRefused : Outcome → Type 0
WasRefused (Refused why) = Unit {0}
WasRefused (Done told) = ⊥

not_done : (why : WorldFault) (told : Answer) → Refused why ≡ Done told → ⊥
not_done why told e = subst WasRefused e tt

-- a publish that was refused would be one of those that settled clusters deliver
taken : SomeOrderIsRight
    → SettledDelivers
    → EachGoesOn
    → (c : Cluster)
    → IsCluster c
    → 0 < c.shards
    → (events : List Event) (w : World)
    → Run c (new_world c) events w
    → (n : ℕ) (a : Running) (p : Publication)
    → slice_get w.nodes n ≡ Some (Some a)
    → IsSettled c w (subject_of p)
    → IsRoomy w p.publication.message
    → (why : WorldFault)
    → world_refusal c w (At n (Publish p)) ≡ Some why
    → ⊥
taken right delivers goes c cluster some events w run n a p up settled roomy why cause =
    let q = echoed p in
    let e = At n (Publish q) in
    let step = goes c cluster events w run e in
    let rest = goes_on goes c cluster (whole_order c w n a q) (events ++ e ∷ []) (next c w e)
    (one_more c (new_world c) events w e (outcome c w e) (next c w e) run step) in
    let all = delivers c cluster events w run n a q (whole_order c w n a q)
    (record { up = up; echo = refl; settled = settled; roomy = roomy; order_is = right c w n a q some })
    (outcome c w e ∷ rest.0) rest.1
    ((next c w e, outcome c w e, step, rest.2.0), ap (λ t. outcome c w e ∷ t) rest.2.1) in
    let first = all.done (outcome c w e) (inl refl) in
    let same : world_refusal c w e ≡ Some why =
    ap (refusal_at c n (Some (Own (Publish q)))) up ∙ sym (ap (refusal_at c n (Some (Own (Publish p)))) up) ∙ cause in
    not_done why first.0 (sym (ap (outcome_of c w e) same) ∙ first.1)

pub takes_where_settled : SomeOrderIsRight
    → SettledDelivers
    → EachGoesOn
    → TestsAreExact
    → (c : Cluster)
    → IsCluster c
    → 0 < c.shards
    → (w : World)
    → Carried c w
    → TakesWhereSettled c w
takes_where_settled right delivers goes exact c cluster some w carried n a p up settled roomy =
    go (world_refusal c w (At n (Publish p))) refl
  where
    go : (o : Option WorldFault)
        → world_refusal c w (At n (Publish p)) ≡ o
        → world_refusal c w (At n (Publish p)) ≡ None
    go None is = is
    go (Some why) is =
        absurd (∥∥₁_elim carried (λ x y. absurd x) (λ r.
        taken right delivers goes c cluster some r.0 w r.1 n a p up
        ((exact.settled c cluster r.0 w r.1 (subject_of p)).0 settled) ((exact.room w p.publication.message).0 roomy)
        why is))
