use Rattle.std.proofs.Common.{◌≡◌, false, Some, None, refl, sym, ap, subst}
use Rattle.std.specs.Option.{option_map}
use Rattle.shard_core.specs.ShardEvents.{Claim}
use Rattle.shard_core.specs.ShardSteps.{claim_refusal}
use Rattle.shard_core.specs.declared.faults.ShardFault.TheVariants.{NoJob}
use Rattle.node_law.specs.declared.faults.NodeFault.TheVariants.{Shard}
use Rattle.node_parts.specs.declared.lines.Claimed.TheVariants.{Lost, Nobody, Won}
use Rattle.node_law.specs.State.{ShardWithJobs}
use Rattle.node_law.specs.Steps.{event_refusal}
use Rattle.node_parts.specs.Lines.{LineClaims}
use Rattle.node_parts.proofs.Claiming.{claim_lost, claim_nobody, claim_won, stands}
use Rattle.node_parts.proofs.lines.ShardWithJobs.claim.Goals as goal

pub returns-else-not-claim : goal.returns-else-not-claim
returns-else-not-claim g c =
    let old = c.self.inside in
    let job = c.in-Some.job.now in
    let race = g.R.Race.contents c.args.race.now in
    let after = g.R.Race.contents c.claim.new.self in
    let told = c.in-Ok-Some.candidate in
    let ended = c.place-ended.result in
    let hand : old.shard.state.hand ≡ Some job = sym c.in-Some.ensures in
    subst (λ (s : ShardWithJobs).
    (event_refusal s (Some (Claim c.args.index false)) ≡ None)
    × LineClaims c.args.copies s race c.args.shard c.args.index (Won told.sub told.placed ended)
    (record { shard = c.place-ended.new.self.state; waiting = old.waiting.items }) after)
    c.self.view_is (
      ap (option_map Shard) c.in-Ok-Some.ensures.0,
      claim_won c.claims_are_whole.ensures c.args.copies old.shard c.candidate.new.self c.place-ended.new.self
          old.waiting.items c.args.index c.args.shard job.turn c.in-Ok-Some.field-0 told ended race after job hand refl
          c.in-Ok-Some.ensures.0 c.in-Ok-Some.ensures.1 c.in-Ok-Some.field-0-is c.if-not-claim.ensures
          c.place-ended.ensures.placed c.place-ended.ensures.ended,
    )

pub returns-in_default : goal.returns-in_default
returns-in_default g c =
    let shard = c.self.inside.shard in
    let index = c.args.index in (
      subst (λ (s : ShardWithJobs). event_refusal s (Some (Claim index false)) ≡ Some (Shard NoJob)) c.self.view_is
          (ap (λ hand. option_map Shard (claim_refusal shard.state index hand)) (sym c.in_default.ensures)),
      (refl, refl),
    )

pub returns-in-Ok-None : goal.returns-in-Ok-None
returns-in-Ok-None g c =
    let old = c.self.inside in
    let job = c.in-Some.job.now in
    let race = g.R.Race.contents c.args.race.now in
    let hand : old.shard.state.hand ≡ Some job = sym c.in-Some.ensures in
    subst (λ (s : ShardWithJobs).
    (event_refusal s (Some (Claim c.args.index false)) ≡ None)
    × LineClaims c.args.copies s race c.args.shard c.args.index Nobody
    (record { shard = c.candidate.new.self.state; waiting = old.waiting.items }) race) c.self.view_is (
      ap (option_map Shard) c.in-Ok-None.ensures.0,
      claim_nobody c.args.copies old.shard c.candidate.new.self old.waiting.items c.args.index c.args.shard
          c.in-Ok-None.field-0 race job hand c.in-Ok-None.ensures.1 c.in-Ok-None.field-0-is,
    )

pub returns-then-not-claim : goal.returns-then-not-claim
returns-then-not-claim g c =
    let old = c.self.inside in
    let job = c.in-Some.job.now in
    let race = g.R.Race.contents c.args.race.now in
    let after = g.R.Race.contents c.claim.new.self in
    let hand : old.shard.state.hand ≡ Some job = sym c.in-Some.ensures in
    subst (λ (s : ShardWithJobs).
    (event_refusal s (Some (Claim c.args.index false)) ≡ None)
    × LineClaims c.args.copies s race c.args.shard c.args.index Lost
    (record { shard = c.candidate.new.self.state; waiting = old.waiting.items }) after) c.self.view_is (
      ap (option_map Shard) c.in-Ok-Some.ensures.0,
      claim_lost c.args.copies old.shard c.candidate.new.self old.waiting.items c.args.index c.args.shard job.turn
          c.in-Ok-Some.field-0 c.in-Ok-Some.candidate race after job hand refl c.in-Ok-Some.ensures.1
          c.in-Ok-Some.field-0-is c.if-not-claim.ensures,
    )

pub place-ended-requires : goal.place-ended-requires
place-ended-requires g c =
    stands c.claims_are_whole.ensures c.args.copies c.self.inside.shard c.candidate.new.self c.args.index
    c.in-Ok-Some.field-0 c.in-Ok-Some.candidate c.in-Ok-Some.ensures.0 c.in-Ok-Some.ensures.1
    c.in-Ok-Some.field-0-is
