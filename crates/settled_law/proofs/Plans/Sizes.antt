-- A cluster has a place for each of its servers.
use Rattle.std.proofs.Common.{◌≡◌, ℕ, ◌<◌, List, [], ◌∷◌, length, Option, Some, None, ap, ◌∙◌, arith, length-set}
use Rattle.std.specs.Prelude.{slice_get}
use Rattle.std.proofs.lemmas.List.{length-replicate}
use Rattle.std.proofs.lemmas.Option.{slice_get_within}
use Rattle.node_law.specs.Events.{NodeEvent}
use Rattle.world_law.specs.declared.faults.WorldFault.{WorldFault}
use Rattle.world_law.specs.Events.{Event, Start, Stop, Receive, OnInfo, OnConnect, At, event_for}
use Rattle.world_law.specs.Outcomes.{Outcome}
use Rattle.world_law.specs.Refusals.{world_refusal}
use Rattle.world_law.specs.State.{Cluster, World, Running, new_world}
use Rattle.world_law.specs.Steps.{Acts, Happens, Decided, Run}

acts_size : (c : Cluster) (w : World) (n : ℕ) (event : Option NodeEvent) (outcome : Outcome) (w' : World)
    → Acts c w n event outcome w'
    → length w'.nodes ≡ length w.nodes
acts_size c w n event outcome w' s =
    ap (λ (x : World). length x.nodes) s.after ∙ length-set w.nodes n (Some (record { inc = s.a.inc; node = s.b }))

happens_size : (c : Cluster) (w : World) (e : Event) (outcome : Outcome) (w' : World)
    → Happens c w e outcome w'
    → length w'.nodes ≡ length w.nodes
happens_size c w (Start n inc) outcome w' s = ap (λ (x : World). length x.nodes) s.after ∙ length-set w.nodes n _
happens_size c w (Stop n) outcome w' s = ap (λ (x : World). length x.nodes) s.after ∙ length-set w.nodes n None
happens_size c w (Receive n k) outcome w' s = acts_size c w n (event_for w (Receive n k)) outcome w' s
happens_size c w (OnInfo n session k) outcome w' s = acts_size c w n (event_for w (OnInfo n session k)) outcome w' s
happens_size c w (OnConnect n session k) outcome w' s =
    acts_size c w n (event_for w (OnConnect n session k)) outcome w' s
happens_size c w (At n event) outcome w' s = acts_size c w n (event_for w (At n event)) outcome w' s

decided_size : (c : Cluster) (w : World) (e : Event) (why : Option WorldFault) (outcome : Outcome) (w' : World)
    → Decided c w e why outcome w'
    → length w'.nodes ≡ length w.nodes
decided_size c w e None outcome w' s = happens_size c w e outcome w' s
decided_size c w e (Some why) outcome w' s = ap (λ (x : World). length x.nodes) s.1

pub run_size : (c : Cluster) (w : World) (events : List Event) (w' : World)
    → Run c w events w'
    → length w'.nodes ≡ length w.nodes
run_size c w [] w' run = ap (λ (x : World). length x.nodes) run
run_size c w (e ∷ events) w' run =
    run_size c run.0 events w' run.3 ∙ decided_size c w e (world_refusal c w e) run.1 run.0 run.2

pub up_is_listed : (c : Cluster) (events : List Event) (w : World)
    → Run c (new_world c) events w
    → (n : ℕ) (a : Option Running)
    → slice_get w.nodes n ≡ Some a
    → n < length c.names
up_is_listed c events w run n a at =
    let e = run_size c (new_world c) events w run in
    let none : Option Running = None in
    let f = length-replicate (length c.names) none in
    let lt = slice_get_within w.nodes n a at in
    omega (arith, e, f, lt)

pub size_of_run : (c : Cluster) (events : List Event) (w : World)
    → Run c (new_world c) events w
    → length w.nodes ≡ length c.names
size_of_run c events w run =
    let none : Option Running = None in run_size c (new_world c) events w run ∙ length-replicate (length c.names) none
