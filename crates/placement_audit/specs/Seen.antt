-- What was placed so far, and what is noted of one more.
use Rattle.std.specs.Prelude.{◌≡◌, Bool, true, List, [], ◌∷◌, ◌++◌}
use Rattle.std.specs.BTreeSet.{BTreeSet, contains}
use Rattle.world_law.specs.State.{Publication, Life, Placement}
use Rattle.placement_audit.specs.declared.keys.Served.{Served}
use Rattle.placement_audit.specs.Keys.{named_once, served_cmp}
use Rattle.placement_audit.specs.Tests.{is_first, is_kept_behind, is_placed_for}

-- just those publications, each for what it was placed for
abbrev pub AreSeen : BTreeSet Served → List Placement → Type 0
AreSeen seen done =
    (key : Served) → contains served_cmp seen key ≡ is_placed_for done (named_once key)

-- it was told whether it is the first, and where it is, it is noted
pub record IsNoted (done : List Placement) (p : Placement) (seen : BTreeSet Served) (told : Bool) :
    Type 0 where
  pub told_so : told ≡ is_first done p
  pub noted : told ≡ true → AreSeen seen (done ++ p ∷ [])

-- it was told whether it keeps the clause behind these, and where it does, it is noted
pub record IsJudged (publications : List Publication) (lives : List Life) (done : List Placement)
    (p : Placement) (seen : BTreeSet Served) (told : Bool) : Type 0 where
  pub told_so : told ≡ is_kept_behind publications lives done p
  pub noted : told ≡ true → AreSeen seen (done ++ p ∷ [])
