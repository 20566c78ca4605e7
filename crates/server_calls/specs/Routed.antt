-- The calls that routes make of the hub, and what each came to.
use Rattle.std.specs.Prelude.{◌≡◌, ℕ, List, [], ◌∷◌, Result, Ok, Err}
use Rattle.subj.specs.declared.failures.Failure.{Failure}
use Rattle.hub_core.specs.declared.faults.HubFault.{HubFault}
use Rattle.route_session.specs.declared.faults.SessionFault.{SessionFault}
use Rattle.route_values.specs.Frames.{Frame}
use Rattle.route_values.specs.Records.{Info, Connect}

-- a call, with what it came to
pub data Routed : Type 0 where
  -- the server that was dialed has told who it is, and is told this back
  informed : ℕ → Info → Result Connect (Failure SessionFault) → Routed
  -- the server that has dialed has told who it is
  connected : ℕ → Connect → Result (Unit {0}) (Failure SessionFault) → Routed
  -- a frame of another server came
  received : Frame → Result (Unit {0}) (Failure HubFault) → Routed
  -- this session was ended
  was_cut : ℕ → Routed
  -- for the server at this place at most so many frames were to be taken, and these were
  took : ℕ → ℕ → List Frame → Routed

-- each call leads on from what the one before left
abbrev pub RouteChain : {H : Type 0} → (H → Routed → H → Type 0) → H → List Routed → H → Type 0
RouteChain made before [] after = after ≡ before
RouteChain {H} made before (call ∷ more) after =
    (next : H) × made before call next × RouteChain made next more after

-- a call was made in some state
abbrev pub WasRouted : {H : Type 0} → (H → Routed → H → Type 0) → Routed → Type 0
WasRouted {H} made call = (before : H) × (after : H) × made before call after

-- what was taken; nothing, where that was refused, or there was no memory
abbrev pub taken_of : {X E : Type 0} → (X → List Frame) → Result X E → List Frame
taken_of items (Ok frames) = items frames
taken_of items (Err fault) = []
