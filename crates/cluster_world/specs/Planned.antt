-- What a publish at a place is planned as, and where it is not refused.
use Rattle.std.specs.Prelude.{◌≡◌, ℕ, true, Option, Some, None, slice_get}
use Rattle.hub_core.specs.Chosen.{IsPlanOf}
use Rattle.hub_core.specs.Publishing.{Publication, subject_of}
use Rattle.hub_core.specs.declared.publishing.PublishPlan.{PublishPlan}
use Rattle.node_core.specs.Served.{Served}
use Rattle.node_law.specs.Events.{Publish, Own}
use Rattle.world_law.specs.declared.faults.WorldFault.{WorldFault}
use Rattle.world_law.specs.Events.{At}
use Rattle.world_law.specs.Refusals.{world_refusal}
use Rattle.world_law.specs.State.{Cluster, World, Running, server_at}
use Rattle.settled_law.specs.Tests.{settled_for, room_for}
use Rattle.cluster_world.specs.Value.{Shown, slot_refusal, served_refusal}

-- of a place; nothing where it is refused
abbrev pub IsPlannedAt : Option (Option Served) → Publication → Option PublishPlan → Type 0
IsPlannedAt slot p None =
    (why : WorldFault) × (slot_refusal (Some (Own (Publish p))) slot ≡ Some why)
IsPlannedAt slot p (Some plan) =
    (s : Served)
    × (slot ≡ Some (Some s))
    × (served_refusal (Some (Own (Publish p))) s ≡ None)
    × IsPlanOf s.server s.node.hub p plan.job plan.frames.items

-- of a cluster's server
abbrev pub IsPlannedBy : Shown → ℕ → Publication → Option PublishPlan → Type 0
IsPlannedBy v n p None =
    (why : WorldFault) × (world_refusal v.cluster v.world (At n (Publish p)) ≡ Some why)
IsPlannedBy v n p (Some plan) =
    (a : Running)
    × (slice_get v.world.nodes n ≡ Some (Some a))
    × (world_refusal v.cluster v.world (At n (Publish p)) ≡ None)
    × IsPlanOf (server_at v.cluster n a.inc) a.node.hub p plan.job plan.frames.items

-- where the cluster is settled for a publication and has room for it, no server that is up refuses
-- to publish it
abbrev pub TakesWhereSettled : Cluster → World → Type 0
TakesWhereSettled c w =
    (n : ℕ) (a : Running) (p : Publication)
    → slice_get w.nodes n ≡ Some (Some a)
    → settled_for c w (subject_of p) ≡ true
    → room_for w p.publication.message ≡ true
    → world_refusal c w (At n (Publish p)) ≡ None
