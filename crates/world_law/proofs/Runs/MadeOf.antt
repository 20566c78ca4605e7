-- The messages and the jobs of a run are of its publications.
use Rattle.std.proofs.Common.{◌≡◌, ℕ, suc, List, [], ◌∷◌, ◌++◌, Option, Some, None, sym, ap, subst, ⊎_elim, arith}
use Rattle.std.specs.Prelude.{slice_get}
use Rattle.std.proofs.lemmas.Option.{same_Some, slice_get_within}
use Rattle.list_laws.specs.Lists.{In, Each}
use Rattle.list_laws.proofs.Lists.{in_append, in_left, in_map}
use Rattle.subj.specs.Servers.{IsListed}
use Rattle.subj.specs.declared.jobs.Job.{Job}
use Rattle.node_law.specs.AsLaw.{jobs_by}
use Rattle.node_law.specs.Events as of_node
use Rattle.node_law.specs.Events.{NodeEvent}
use Rattle.world_law.specs.declared.faults.WorldFault.{WorldFault}
use Rattle.world_law.specs.Changes.{publications_of}
use Rattle.world_law.specs.Events.{Event, Start, Stop, Receive, OnInfo, OnConnect, At, event_for}
use Rattle.world_law.specs.Headline.{IsCluster}
use Rattle.world_law.specs.Made.{Acting, MadeJob, acting_at, acting_if, acting_server, passed_events, jobs_of, jobs_made}
use Rattle.world_law.specs.Outcomes.{Outcome}
use Rattle.world_law.specs.Refusals.{world_refusal}
use Rattle.world_law.specs.RestsOn.{messages_in, IsMessageOf, IsJobOf}
use Rattle.world_law.specs.State.{Cluster, Publication, World, new_world, server_at}
use Rattle.world_law.specs.Steps.{Acts, world_after_step, Happens, Decided, WorldStep, Run}
use Rattle.world_law.proofs.Runs.OwnRuns.{Rans, step_rans, first_rans}
use Rattle.world_law.proofs.Runs.Sources.{node_jobs}
use Rattle.world_law.proofs.Seen.Worlds.{Given, given_numbered, given_info, given_connect}

abbrev Grows : World → World → Type 0
Grows w w' = (p : Publication) → In p w.publications → In p w'.publications

abbrev AreOf : World → List MadeJob → Type 0
AreOf w made = Each (λ m. IsJobOf w.publications m.job) made

-- what a step makes, and that nothing goes
record Makes (c : Cluster) (w w' : World) (x : Option Acting) : Type 0 where
  jobs : AreOf w' (jobs_of c x)
  grows : Grows w w'

acts_make : (c : Cluster)
    → IsCluster c
    → (w w' : World) (n : ℕ) (event : Option NodeEvent) (told : Outcome)
    → ((e : NodeEvent) → event ≡ Some e → Given w e)
    → (s : Acts c w n event told w')
    → Rans c w
    → Makes c w w' (acting_at n (slice_get w.nodes n) event)
acts_make c set_up w w' n event told given s r =
    subst (λ x. Makes c w x (acting_at n (slice_get w.nodes n) event)) (sym s.after)
    (subst (Makes c w (world_after_step c w n s.a s.e s.b s.gained)) (sym (λ i. acting_at n (s.a_is i) (s.is i)))
    (record {
      jobs = λ m i.
          let z = in_map (λ (job : Job). record { node = n; inc = s.a.inc; job = job })
          (jobs_by (server_at c n s.a.inc) s.a.node s.e) m i in
          subst (λ (y : MadeJob).
          IsJobOf (w.publications ++ publications_of (server_at c n s.a.inc) (suc w.step) s.a.node s.e) y.job)
          (sym z.2)
          (node_jobs c w n s.a.inc (suc w.step) listed s.a.node s.e r.made (given s.e s.is) s.steps.cause z.0 z.1).made;
      grows = λ p i. in_left p w.publications (publications_of (server_at c n s.a.inc) (suc w.step) s.a.node s.e) i;
    }))
  where
    listed : IsListed (server_at c n s.a.inc)
    listed = record {
      apart = set_up.apart;
      listed = (let below = slice_get_within w.nodes n (Some s.a) s.a_is in let size = r.size in omega arith);
    }

nothing_made : (c : Cluster) (w w' : World) → w'.publications ≡ w.publications → Makes c w w' None
nothing_made c w w' same = record { jobs = λ m i. absurd i; grows = λ p i. subst (In p) (sym same) i }

step_makes : (c : Cluster)
    → IsCluster c
    → (w w' : World) (e : Event) (told : Outcome)
    → WorldStep c w e told w'
    → Rans c w
    → Makes c w w' (acting_server c w e)
step_makes c set_up w w' e told s r = go (world_refusal c w e) s
  where
    by : (e : Event) → Happens c w e told w' → Makes c w w' (acting_if w e None)
    by (Start n inc) s = nothing_made c w w' (ap (λ (x : World). x.publications) s.after)
    by (Stop n) s = nothing_made c w w' (ap (λ (x : World). x.publications) s.after)
    by (Receive n k) s = acts_make c set_up w w' n (event_for w (Receive n k)) told (given_numbered w k) s r
    by (OnInfo n session k) s =
        acts_make c set_up w w' n (event_for w (OnInfo n session k)) told (given_info w session k) s r
    by (OnConnect n session k) s =
        acts_make c set_up w w' n (event_for w (OnConnect n session k)) told (given_connect w session k) s r
    by (At n event) s =
        acts_make c set_up w w' n (event_for w (At n event)) told
        (λ x is. subst (λ (y : NodeEvent). Given w y) (same_Some (of_node.Own event) x is) tt) s r

    go : (o : Option WorldFault) → Decided c w e o told w' → Makes c w w' (acting_if w e o)
    go None d = by e d
    go (Some why) d = nothing_made c w w' (ap (λ (x : World). x.publications) d.1)

grown : (w w' : World) → Grows w w' → (made : List MadeJob) → AreOf w made → AreOf w' made
grown w w' grows made h m i =
    let x = h m i in
    record {
      source = x.source;
      source_in = grows x.source x.source_in;
      id_is = x.id_is;
      content_is = x.content_is;
      apart = x.apart;
    }

over_makes : (c : Cluster)
    → IsCluster c
    → (w : World) (es : List Event) (w' : World) (run : Run c w es w')
    → Rans c w
    → AreOf w' (jobs_made c (passed_events c w es w' run)) × Grows w w' × Rans c w'
over_makes c set_up w [] w' run r = (
  (λ m i. absurd i),
  (λ p i. subst (λ (x : World). In p x.publications) (sym run) i),
  subst (Rans c) (sym run) r,
)
over_makes c set_up w (e ∷ es) w' run r =
    let first = step_makes c set_up w run.0 e run.1 run.2 r in
    let rest = over_makes c set_up run.0 es w' run.3 (step_rans c set_up w run.0 e run.1 run.2 r) in (
      (λ m i.
          ⊎_elim (grown run.0 w' rest.1 (jobs_of c (acting_server c w e)) first.jobs m) (rest.0 m)
          (in_append m (jobs_of c (acting_server c w e)) (jobs_made c (passed_events c run.0 es w' run.3)) i)),
      (λ p i. rest.1 p (first.grows p i)),
      rest.2,
    )

pub record AllMade (c : Cluster) (w : World) (made : List MadeJob) : Type 0 where
  pub messages : Each (IsMessageOf w.publications) (messages_in w.sent)
  pub jobs : Each (λ m. IsJobOf w.publications m.job) made

pub all_made : (c : Cluster)
    → IsCluster c
    → (es : List Event) (w : World) (run : Run c (new_world c) es w)
    → AllMade c w (jobs_made c (passed_events c (new_world c) es w run))
all_made c set_up es w run =
    let x = over_makes c set_up (new_world c) es w run (first_rans c) in record { messages = x.2.made; jobs = x.0 }
