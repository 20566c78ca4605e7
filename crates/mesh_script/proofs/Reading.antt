-- Bytes that are read.
use Rattle.std.proofs.Common.{ℕ, ◌+◌, ◌≤◌, List, ◌++◌, length, Option, Result, Ok, Err, arith}
use Rattle.std.specs.Prelude.{OnErr}
use Rattle.std.specs.Io.KnownBytes.{Consumes}
use Rattle.std.proofs.KnownBytes.{Consumes-trans}
use Rattle.subj.specs.declared.limits.TheConstants.{SCRIPT_BYTES}
use Rattle.mesh_script.specs.Runs.{HasReadSome, ReadsAway}
use Rattle.mesh_script.proofs.Texts.{counted_behind}

pub on_err : {T E : Type 0} (P : Type 0) (result : Result T E) → P → OnErr result P
on_err P (Ok x) p = tt
on_err P (Err e) p = p

pub read_some : (before mid left : Option (List ℕ)) (bytes : List ℕ) (most : ℕ)
    → Consumes before mid bytes
    → length bytes + most ≤ SCRIPT_BYTES + 1
    → ReadsAway mid left most
    → HasReadSome before left
read_some before mid left bytes most consumed fits away =
    let count = counted_behind bytes away.bytes in
    let bound = away.bound in
    record {
      read = bytes ++ away.bytes;
      few = omega arith;
      consumed = Consumes-trans before mid left bytes away.bytes consumed away.consumed;
    }
