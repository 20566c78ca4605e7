-- Bytes that were read, and lost.
use Rattle.std.proofs.Common.{ℕ, List, ◌++◌, Option, Result, Ok, Err}
use Rattle.std.specs.Prelude.{OnErr}
use Rattle.std.specs.Io.KnownBytes.{Consumes}
use Rattle.std.proofs.KnownBytes.{Consumes-trans}
use Rattle.mesh_audit.specs.Runs.{ReadsAway}

pub on_err : {T E : Type 0} (P : Type 0) (result : Result T E) → P → OnErr result P
on_err P (Ok x) p = tt
on_err P (Err e) p = p

pub away : (before mid left : Option (List ℕ)) (bytes : List ℕ)
    → Consumes before mid bytes
    → ReadsAway mid left
    → ReadsAway before left
away before mid left bytes consumed lost = record {
  bytes = bytes ++ lost.bytes;
  consumed = Consumes-trans before mid left bytes lost.bytes consumed lost.consumed;
}
