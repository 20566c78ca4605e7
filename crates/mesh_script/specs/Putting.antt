-- What is put behind what stands to be written.
use Rattle.std.specs.Prelude.{◌≡◌, ℕ, List, ◌++◌, Option, Result, Ok, Err}
use Rattle.std.specs.Io.KnownBytes.{Appends}
use Rattle.mesh_script.specs.declared.output.PlayFault.{PlayFault}
use Rattle.mesh_script.specs.Played.{AppendsStart}

-- this was put behind what stood to be written, and some of it was written
pub record Puts (old : List ℕ) (was : Option (List ℕ)) (said new : List ℕ) (is : Option (List ℕ)) :
    Type 0 where
  pub put : List ℕ
  pub written : Appends was is put
  pub whole : put ++ new ≡ old ++ said

-- the same, or a beginning of it was written
abbrev pub PutsOrStarts : {T : Type 0} → Result T PlayFault → List ℕ → Option (List ℕ) → List ℕ
    → List ℕ → Option (List ℕ) → Type 0
PutsOrStarts (Ok x) old was said new is = Puts old was said new is
PutsOrStarts (Err fault) old was said new is = AppendsStart was is (old ++ said)
