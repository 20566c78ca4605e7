-- What is placed of a publication: for plain subscriptions and for queue names.
use Rattle.std.specs.Prelude.{◌≡◌, ℕ, List}
use Rattle.node_law.specs.Answers.{Answer}
use Rattle.world_law.specs.Outcomes.{Outcome, Done}
use Rattle.list_laws.specs.Lists.{In}
use Rattle.outbox.specs.declared.entries.Mode.TheVariants.{Plain, Queue}
use Rattle.subj.specs.declared.identities.PubId.{PubId}
use Rattle.world_law.specs.State.{LifeId, Placement, World}

-- it was placed for this subscription
pub record IsPlaced (w : World) (id : PubId) (life : LifeId) : Type 0 where
  pub placement : Placement
  pub there : In placement w.placements
  pub is : placement.id ≡ id
  pub life_is : placement.life ≡ life
  pub plain : placement.mode ≡ Plain

-- it was placed for a member of the group of this name
pub record IsServed (w : World) (id : PubId) (name : List ℕ) : Type 0 where
  pub placement : Placement
  pub there : In placement w.placements
  pub is : placement.id ≡ id
  pub mode : placement.mode ≡ Queue name

-- it was not refused
abbrev pub IsDone : Outcome → Type 0
IsDone outcome = (told : Answer) × (outcome ≡ Done told)
