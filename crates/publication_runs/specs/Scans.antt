-- What a scan has found, and where it stands.
use Rattle.std.specs.Prelude.{◌≡◌, ℕ, ◌+◌, ◌<◌, List}
use Rattle.publication_runs.specs.Runs.{Publication, BeginsWith}
use Rattle.publication_runs.specs.States.{RunState}

-- this publication comes next, and this stands behind it
pub record IsAhead (behind : List ℕ) (publication : Publication) (s : RunState) : Type 0 where
  pub begins : BeginsWith publication s.behind behind
  pub more : 0 < s.left

-- the next publication was given
pub record HasGiven (publication : Publication) (old new : RunState) : Type 0 where
  pub begins : BeginsWith publication old.behind new.behind
  pub counted : old.left ≡ new.left + 1

-- as many were given as are asked for, or none on this subject stands there
abbrev pub HasEnded : List ℕ → RunState → Type 0
HasEnded subject s =
    (publication : Publication) (rest : List ℕ)
    → BeginsWith publication s.behind rest
    → publication.subject ≡ subject
    → s.left ≡ 0
