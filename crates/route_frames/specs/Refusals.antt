-- What a reader may answer: just what is spelt, and each refusal just for its cause; want of memory
-- only where something is spelt, or where the test itself takes memory (profile).
use Rattle.std.specs.Prelude.{◌≡◌, ◌⊎◌, ℕ, true, List, Option, unwrap_or, Result, Ok, Err}
use Rattle.subj.specs.declared.failures.Failure.{Failure}
use Rattle.subj.specs.declared.failures.Failure.TheVariants.{Refused, OutOfMemory}
use Rattle.route_values.specs.declared.frames.RouteFrame.{RouteFrame}
use Rattle.route_frames.specs.declared.faults.RouteFault.{RouteFault}
use Rattle.route_frames.specs.declared.faults.RouteFault.TheVariants.{BadArgs}
use Rattle.route_frames.specs.declared.reading.RouteLine.{RouteLine}
use Rattle.route_frames.specs.Lines.{announced_size}
use Rattle.route_frames.specs.Spelling.{SpellsLine, Spells}
use Rattle.route_frames.specs.Causes.{line_cause}
use Rattle.route_frames.specs.Operations.{is_json_line}
use Rattle.route_frames.specs.Decoding.{takes_memory}

-- nothing is spelt, and the first cause is told; where it is none of these, that is `BadArgs`
abbrev pub IsCause : Option RouteFault → Type 0 → RouteFault → Type 0
IsCause cause Spelt fault = (fault ≡ unwrap_or cause BadArgs) × (Spelt → ⊥)

-- some frame has this line, and it announces this size
abbrev pub Announces : List ℕ → Option ℕ → Type 0
Announces line size = (frame : RouteFrame) × SpellsLine frame size line

abbrev pub IsSizeOf : List ℕ → Result (Option ℕ) (Failure RouteFault) → Type 0
IsSizeOf line (Ok size) = Announces line size
IsSizeOf line (Err (Refused fault)) =
    IsCause (line_cause line) ((size : Option ℕ) × Announces line size) fault
IsSizeOf line (Err OutOfMemory) =
    (is_json_line line ≡ true) ⊎ ((size : Option ℕ) × Announces line size)

-- the same of a line that was read, before its payload has come
abbrev pub IsReadOf : List ℕ → Result RouteLine (Failure RouteFault) → Type 0
IsReadOf line (Ok read) = Announces line (announced_size read)
IsReadOf line (Err (Refused fault)) =
    IsCause (line_cause line) ((size : Option ℕ) × Announces line size) fault
IsReadOf line (Err OutOfMemory) =
    (is_json_line line ≡ true) ⊎ ((size : Option ℕ) × Announces line size)

abbrev pub IsFrameOf : List ℕ → List ℕ → Result RouteFrame (Failure RouteFault) → Type 0
IsFrameOf line payload (Ok frame) = Spells frame line payload
IsFrameOf line payload (Err (Refused fault)) =
    IsCause (line_cause line) ((frame : RouteFrame) × Spells frame line payload) fault
IsFrameOf line payload (Err OutOfMemory) =
    (takes_memory line payload ≡ true) ⊎ ((frame : RouteFrame) × Spells frame line payload)
