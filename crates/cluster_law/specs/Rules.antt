-- A rule that can be switched off, to show what it is for.
use Rattle.std.specs.Prelude.{Bool, true, false}

-- A rule that holds where it is switched on.
abbrev pub Where : Bool → Type 0 → Type 0
Where true P = P
Where false P = Unit {0}
