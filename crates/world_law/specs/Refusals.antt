-- Why a cluster refuses an event, the first cause first (profile): 83 for the server; 80 or 81; 82,
-- or 83 for the frame; and then the server's own.
use Rattle.std.specs.Prelude.{ℕ, Bool, nat_eq, ◌&&◌, ◌||◌, List, Option, Some, None, slice_get, if◌then◌else◌}
use Rattle.std.specs.Option.{option_map}
use Rattle.std.specs.List.{list_any}
use Rattle.node_law.specs.Events.{NodeEvent}
use Rattle.node_law.specs.Steps.{node_refusal}
use Rattle.world_law.specs.declared.faults.WorldFault.{WorldFault}
use Rattle.world_law.specs.declared.faults.WorldFault.TheVariants as fault
use Rattle.world_law.specs.State.{Cluster, Running, World, server_at}
use Rattle.world_law.specs.Events.{Event, Start, Stop, Receive, OnInfo, OnConnect, At, event_for}

abbrev pub is_start : ℕ → ℕ → ℕ × ℕ → Bool
is_start n inc start = nat_eq start.0 n && nat_eq start.1 inc

abbrev pub is_used : ℕ → ℕ → List (ℕ × ℕ) → Bool
is_used n inc started = list_any (is_start n inc) started

-- an incarnation is at least 1: 0 counts as used (profile)
abbrev pub start_refusal : ℕ → ℕ → List (ℕ × ℕ) → Option (Option Running) → Option WorldFault
start_refusal n inc started None = Some fault.NoSuch
start_refusal n inc started (Some (Some running)) = Some fault.NodeUp
start_refusal n inc started (Some None) =
    if nat_eq inc 0 || is_used n inc started then Some fault.UsedIncarnation else None

abbrev pub stop_refusal : Option (Option Running) → Option WorldFault
stop_refusal None = Some fault.NoSuch
stop_refusal (Some None) = Some fault.NodeDown
stop_refusal (Some (Some running)) = None

abbrev pub event_refusal : Cluster → ℕ → Running → Option NodeEvent → Option WorldFault
event_refusal c n running None = Some fault.NoSuch
event_refusal c n running (Some event) =
    option_map fault.Node (node_refusal (server_at c n running.inc) running.node event)

abbrev pub refusal_at : Cluster → ℕ → Option NodeEvent → Option (Option Running) → Option WorldFault
refusal_at c n event None = Some fault.NoSuch
refusal_at c n event (Some None) = Some fault.NodeDown
refusal_at c n event (Some (Some running)) = event_refusal c n running event

abbrev pub world_refusal : Cluster → World → Event → Option WorldFault
world_refusal c w (Start n inc) = start_refusal n inc w.started (slice_get w.nodes n)
world_refusal c w (Stop n) = stop_refusal (slice_get w.nodes n)
world_refusal c w (Receive n k) = refusal_at c n (event_for w (Receive n k)) (slice_get w.nodes n)
world_refusal c w (OnInfo n session k) =
    refusal_at c n (event_for w (OnInfo n session k)) (slice_get w.nodes n)
world_refusal c w (OnConnect n session k) =
    refusal_at c n (event_for w (OnConnect n session k)) (slice_get w.nodes n)
world_refusal c w (At n event) = refusal_at c n (event_for w (At n event)) (slice_get w.nodes n)
