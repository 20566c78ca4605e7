-- When placements keep the headline's clause, and what an audit tells of them.
use Rattle.std.specs.Prelude.{ℕ, ◌-◌, ◌≤◌, List, length, take, Option, Some, None}
use Rattle.list_laws.specs.Lists.{Each, Pairs}
use Rattle.world_law.specs.Headline.{PlainOnce, OneMember, IsOwed}
use Rattle.world_law.specs.State.{Publication, Life, Placement}

-- Each publication at most once for a plain subscription, and for a queue name at most once in the
-- whole cluster; and each placement the exact MSG or HMSG of a publication of an earlier step, for
-- a subscription of that connection, id and queue name that matches and was open at that step; HMSG
-- just where the publication has headers and the placement says that its connection took them. In
-- which order a subscription's publications come is not judged.
pub record IsKept (publications : List Publication) (lives : List Life)
    (placements : List Placement) : Type 0 where
  pub plain_once : Pairs PlainOnce placements
  pub one_member : Pairs OneMember placements
  pub owed : Each (IsOwed publications lives) placements

-- So many of the placements, counted from 1, break it, and without the last of these they keep it.
pub record IsBreach (publications : List Publication) (lives : List Life)
    (placements : List Placement) (number : ℕ) : Type 0 where
  pub first : 1 ≤ number
  pub last : number ≤ length placements
  pub before : IsKept publications lives (take (number - 1) placements)
  pub broken : IsKept publications lives (take number placements) → ⊥

-- what is told: nothing where all of them keep it, and else the first that breaks it
abbrev pub IsVerdict : List Publication → List Life → List Placement → Option ℕ → Type 0
IsVerdict publications lives placements None = IsKept publications lives placements
IsVerdict publications lives placements (Some number) =
    IsBreach publications lives placements number
