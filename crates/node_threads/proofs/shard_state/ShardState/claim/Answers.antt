use Rattle.std.proofs.Common.{◌-◌, true, false, refl, sym, ap, ◌∙◌, subst}
use Rattle.std.specs.Prelude.{slice_get}
use Rattle.node_threads.specs.AtWork.{AtWork, seen_as}
use Rattle.shard_core.specs.Held.{Held, IsLeft}
use Rattle.shard_core.specs.ShardEvents.{Claim}
use Rattle.shard_core.specs.ShardSteps.{shard_refusal}
use Rattle.node_threads.specs.Tapes.{Tells}
use Rattle.node_threads.specs.Turns.{MayClaim, ClaimsOne}
use Rattle.node_threads.proofs.Shards.Claims.{seat_claims, claims_nobody, claims_lost, claims_won, claim_at_work, claim_makes, claim_works}
use Rattle.node_threads.proofs.Shards.Placing.{lost_grows, won_grows}
use Rattle.node_threads.proofs.Shards.Telling.{refused_same, tells_nothing, tells_one}
use Rattle.node_threads.proofs.Shards.Working.{step_of}
use Rattle.node_threads.proofs.shard_state.ShardState.claim.Goals as goal

pub invariant_of-self-in-Ok-None : goal.invariant_of-self-in-Ok-None
invariant_of-self-in-Ok-None g c =
    let s = c.self.inside in
    let i = c.self.invariant in
    let w = seen_as s.shard.state s.seat.part s.lane.popped s.lane.hand s.waits in
    let m = subst (λ (o : AtWork). MayClaim c.args.index o.state) (sym c.self.view_is) c.requires.next in
    let low =
    (seat_claims g.N.NodeName.race.shards s.next_index w c.args.index c.in-Some.job.now i.0 m (sym c.in-Some.ensures)
    c.as_slice-names.ensures.valid).1 in
    let did = claims_nobody c.claims_are_whole.ensures c.is_kept.result w s.shard c.candidate.new.self c.args.index
    c.in-Ok-None.field-0 refl m low c.in-Ok-None.ensures.1 c.in-Ok-None.field-0-is in (
      claim_at_work g.N.NodeName.race.shards s.next_index w c.args.index false c.candidate.new.self.state s.seat.part
          i.0 m did,
      i.1,
      i.2,
      i.3,
    )

pub returns-in-Ok-None-clause-ok : goal.returns-in-Ok-None-clause-ok
returns-in-Ok-None-clause-ok g c =
    let s = c.self.inside in
    let i = c.self.invariant in
    let w = seen_as s.shard.state s.seat.part s.lane.popped s.lane.hand s.waits in
    let m = subst (λ (o : AtWork). MayClaim c.args.index o.state) (sym c.self.view_is) c.requires.next in
    let low =
    (seat_claims g.N.NodeName.race.shards s.next_index w c.args.index c.in-Some.job.now i.0 m (sym c.in-Some.ensures)
    c.as_slice-names.ensures.valid).1 in
    let did = claims_nobody c.claims_are_whole.ensures c.is_kept.result w s.shard c.candidate.new.self c.args.index
    c.in-Ok-None.field-0 refl m low c.in-Ok-None.ensures.1 c.in-Ok-None.field-0-is in
    subst (λ old.
    ClaimsOne c.args.index old (seen_as c.candidate.new.self.state s.seat.part s.lane.popped s.lane.hand s.waits))
    c.self.view_is (claim_works w c.args.index false c.candidate.new.self.state s.seat.part m did)

pub invariant_of-self-then-not-claim : goal.invariant_of-self-then-not-claim
invariant_of-self-then-not-claim g c =
    let s = c.self.inside in
    let i = c.self.invariant in
    let w = seen_as s.shard.state s.seat.part s.lane.popped s.lane.hand s.waits in
    let m = subst (λ (o : AtWork). MayClaim c.args.index o.state) (sym c.self.view_is) c.requires.next in
    let lost = c.claim.ensures.lost c.if-not-claim.true in
    let did = claims_lost c.claims_are_whole.ensures c.is_kept.result w s.shard c.candidate.new.self c.args.index
    c.in-Ok-Some.field-0 c.in-Ok-Some.candidate c.claim.new.seat.part refl i.0.finished m c.in-Ok-Some.ensures.1
    c.in-Ok-Some.field-0-is lost in (
      claim_at_work g.N.NodeName.race.shards s.next_index w c.args.index false c.candidate.new.self.state
          c.claim.new.seat.part i.0 m did,
      i.1,
      c.claim.ensures.race ∙ i.2,
      (λ k. slice_get g.N.NodeName.lanes ((lost k).shard - 1)) ∙ i.3,
    )

pub returns-then-not-claim-clause-ok : goal.returns-then-not-claim-clause-ok
returns-then-not-claim-clause-ok g c =
    let s = c.self.inside in
    let i = c.self.invariant in
    let w = seen_as s.shard.state s.seat.part s.lane.popped s.lane.hand s.waits in
    let m = subst (λ (o : AtWork). MayClaim c.args.index o.state) (sym c.self.view_is) c.requires.next in
    let lost = c.claim.ensures.lost c.if-not-claim.true in
    let did = claims_lost c.claims_are_whole.ensures c.is_kept.result w s.shard c.candidate.new.self c.args.index
    c.in-Ok-Some.field-0 c.in-Ok-Some.candidate c.claim.new.seat.part refl i.0.finished m c.in-Ok-Some.ensures.1
    c.in-Ok-Some.field-0-is lost in
    subst (λ old.
    ClaimsOne c.args.index old
    (seen_as c.candidate.new.self.state c.claim.new.seat.part s.lane.popped s.lane.hand s.waits))
    c.self.view_is (claim_works w c.args.index false c.candidate.new.self.state c.claim.new.seat.part m did)

pub invariant_of-self-in-Ok-Some : goal.invariant_of-self-in-Ok-Some
invariant_of-self-in-Ok-Some g c =
    let s = c.self.inside in
    let i = c.self.invariant in
    let w = seen_as s.shard.state s.seat.part s.lane.popped s.lane.hand s.waits in
    let m = subst (λ (o : AtWork). MayClaim c.args.index o.state) (sym c.self.view_is) c.requires.next in
    let won = c.claim.ensures.won c.if-not-claim.false in
    let did = claims_won c.claims_are_whole.ensures c.is_kept.result w s.shard c.candidate.new.self
    c.place-ended.new.self c.args.index c.in-Ok-Some.field-0 c.in-Ok-Some.candidate c.claim.new.seat.part refl
    i.0.finished m c.in-Ok-Some.ensures.1 c.in-Ok-Some.field-0-is won c.place-ended.ensures.placed in (
      claim_at_work g.N.NodeName.race.shards s.next_index w c.args.index true c.place-ended.new.self.state
          c.claim.new.seat.part i.0 m did,
      i.1,
      c.claim.ensures.race ∙ i.2,
      (λ k. slice_get g.N.NodeName.lanes ((won k).shard - 1)) ∙ i.3,
    )

pub returns-else-not-claim-clause-ok : goal.returns-else-not-claim-clause-ok
returns-else-not-claim-clause-ok g c =
    let s = c.self.inside in
    let i = c.self.invariant in
    let w = seen_as s.shard.state s.seat.part s.lane.popped s.lane.hand s.waits in
    let m = subst (λ (o : AtWork). MayClaim c.args.index o.state) (sym c.self.view_is) c.requires.next in
    let won = c.claim.ensures.won c.if-not-claim.false in
    let did = claims_won c.claims_are_whole.ensures c.is_kept.result w s.shard c.candidate.new.self
    c.place-ended.new.self c.args.index c.in-Ok-Some.field-0 c.in-Ok-Some.candidate c.claim.new.seat.part refl
    i.0.finished m c.in-Ok-Some.ensures.1 c.in-Ok-Some.field-0-is won c.place-ended.ensures.placed in
    subst (λ old.
    ClaimsOne c.args.index old
    (seen_as c.place-ended.new.self.state c.claim.new.seat.part s.lane.popped s.lane.hand s.waits))
    c.self.view_is (claim_works w c.args.index true c.place-ended.new.self.state c.claim.new.seat.part m did)

pub returns-in-Err-clause-tells : goal.returns-in-Err-clause-tells
returns-in-Err-clause-tells g c =
    let s = c.self.inside in
    let w = seen_as s.shard.state s.seat.part s.lane.popped s.lane.hand s.waits in
    let same = ap (λ (h : Held). h.state)
    (refused_same (shard_refusal s.shard.state (Claim c.args.index false)) (IsLeft s.shard c.candidate.new.self)
    c.in-Err.field-0 c.in-Err.ensures) in
    subst (λ t.
    Tells c.args.self.now c.args.tape.now (seen_as t s.seat.part s.lane.popped s.lane.hand s.waits) c.args.tape.now)
    (sym same)
    (subst (λ old. Tells old c.args.tape.now w c.args.tape.now) c.self.view_is (tells_nothing w c.args.tape.now))

pub returns-in-Ok-None-clause-tells : goal.returns-in-Ok-None-clause-tells
returns-in-Ok-None-clause-tells g c =
    let s = c.self.inside in
    let i = c.self.invariant in
    let w = seen_as s.shard.state s.seat.part s.lane.popped s.lane.hand s.waits in
    let m = subst (λ (o : AtWork). MayClaim c.args.index o.state) (sym c.self.view_is) c.requires.next in
    let low =
    (seat_claims g.N.NodeName.race.shards s.next_index w c.args.index c.in-Some.job.now i.0 m (sym c.in-Some.ensures)
    c.as_slice-names.ensures.valid).1 in
    let did = claims_nobody c.claims_are_whole.ensures c.is_kept.result w s.shard c.candidate.new.self c.args.index
    c.in-Ok-None.field-0 refl m low c.in-Ok-None.ensures.1 c.in-Ok-None.field-0-is in
    let new = seen_as c.candidate.new.self.state s.seat.part s.lane.popped s.lane.hand s.waits in
    subst (λ old. Tells old c.args.tape.now new c.note_claim.new.tape) c.self.view_is
    (tells_one w new (step_of w.state (Claim c.args.index false)) c.args.tape.now c.note_claim.new.tape
    (claim_makes w c.args.index false c.candidate.new.self.state s.seat.part did)
    (lost_grows w.state c.args.index c.args.tape.now c.note_claim.new.tape c.note_claim.ensures))

pub returns-then-not-claim-clause-tells : goal.returns-then-not-claim-clause-tells
returns-then-not-claim-clause-tells g c =
    let s = c.self.inside in
    let i = c.self.invariant in
    let w = seen_as s.shard.state s.seat.part s.lane.popped s.lane.hand s.waits in
    let m = subst (λ (o : AtWork). MayClaim c.args.index o.state) (sym c.self.view_is) c.requires.next in
    let lost = c.claim.ensures.lost c.if-not-claim.true in
    let did = claims_lost c.claims_are_whole.ensures c.is_kept.result w s.shard c.candidate.new.self c.args.index
    c.in-Ok-Some.field-0 c.in-Ok-Some.candidate c.claim.new.seat.part refl i.0.finished m c.in-Ok-Some.ensures.1
    c.in-Ok-Some.field-0-is lost in
    let new = seen_as c.candidate.new.self.state c.claim.new.seat.part s.lane.popped s.lane.hand s.waits in
    subst (λ old. Tells old c.args.tape.now new c.note_claim-then-not-claim.new.tape) c.self.view_is
    (tells_one w new (step_of w.state (Claim c.args.index false)) c.args.tape.now c.note_claim-then-not-claim.new.tape
    (claim_makes w c.args.index false c.candidate.new.self.state c.claim.new.seat.part did)
    (lost_grows w.state c.args.index c.args.tape.now c.note_claim-then-not-claim.new.tape
    c.note_claim-then-not-claim.ensures))

pub returns-else-not-claim-clause-tells : goal.returns-else-not-claim-clause-tells
returns-else-not-claim-clause-tells g c =
    let s = c.self.inside in
    let i = c.self.invariant in
    let w = seen_as s.shard.state s.seat.part s.lane.popped s.lane.hand s.waits in
    let m = subst (λ (o : AtWork). MayClaim c.args.index o.state) (sym c.self.view_is) c.requires.next in
    let won = c.claim.ensures.won c.if-not-claim.false in
    let did = claims_won c.claims_are_whole.ensures c.is_kept.result w s.shard c.candidate.new.self
    c.place-ended.new.self c.args.index c.in-Ok-Some.field-0 c.in-Ok-Some.candidate c.claim.new.seat.part refl
    i.0.finished m c.in-Ok-Some.ensures.1 c.in-Ok-Some.field-0-is won c.place-ended.ensures.placed in
    let new = seen_as c.place-ended.new.self.state c.claim.new.seat.part s.lane.popped s.lane.hand s.waits in
    subst (λ old. Tells old c.args.tape.now new c.note_claim-in-Ok-Some.new.tape) c.self.view_is
    (tells_one w new (step_of w.state (Claim c.args.index true)) c.args.tape.now c.note_claim-in-Ok-Some.new.tape
    (claim_makes w c.args.index true c.place-ended.new.self.state c.claim.new.seat.part did)
    (won_grows c.is_kept.result w.state c.args.index c.in-Ok-Some.candidate c.args.tape.now
    c.note_claim-in-Ok-Some.new.tape c.is_kept.ensures.kept (sym c.in-Ok-Some.field-0-is ∙ c.in-Ok-Some.ensures.1.told)
    c.note_claim-in-Ok-Some.ensures))
