use Rattle.std.proofs.Common.{◌≡◌, ℕ, length, refl, sym, subst, ◌∙◌, arith}
use Rattle.shard_core.specs.ClaimMembers.{HasWorked, KeepsOrder}
use Rattle.shard_core.proofs.ClaimLoop.{can_count_on, may_claim_on, open_behind, open_first, open_next, stopped, stopped_order, worked_on}
use Rattle.shard_core.proofs.ClaimMany.{none_worked}
use Rattle.shard_core.proofs.ClaimPlaces.{keeps_all, keeps_on}
use Rattle.shard_core.proofs.ClaimTold.{told_both}
use Rattle.shard_core.proofs.Clients.Told.{nothing_put}
use Rattle.shard_core.proofs.claim_run.work_claims.Goals as goal

pub loop-place-init : goal.loop-place-init
loop-place-init g c =
    let claims = c.args.claims.now in
    let conns = c.args.conns.now in
    let openings = c.args.openings.now in
    rw c.note_for_run.ensures
    (record {
      fixed = refl;
      next = c.requires.first.first;
      finished = omega arith;
      seen = refl;
      settled = c.requires.settled;
      ready =
          open_first claims.first claims.name.now c.open-most.new.members.items conns.next openings.subs
          c.open-most.result (rw c.note_for_run.ensures at c.open-most.ensures.opened);
      so_far = λ s at follows.
          none_worked s claims.jobs claims.shard (g.C.Claims.part c.args.seat.now) c.requires.first.first follows conns
          openings at;
      keeps = keeps_all 0 conns.shown openings.subs;
      told = nothing_put conns.shown conns.shown c.args.dirty_conns.now refl;
    })

pub work_next-requires-clause-race : goal.work_next-requires-clause-race
work_next-requires-clause-race g c =
    subst (g.C.Claims.seats c.args.race.now) (sym c.loop-place.invariant.fixed) c.requires.race

pub work_next-requires-clause-first : goal.work_next-requires-clause-first
work_next-requires-clause-first g c =
    let test = c.loop-place-test.true in
    let few = c.open-most.ensures.few in
    let so_far = c.loop-place.invariant in
    may_claim_on c.loop-place.place (length c.args.claims.now.jobs) (g.C.Claims.part c.args.seat.now)
    (g.C.Claims.part c.loop-place.seat) c.requires.first (omega (arith, test, few)) so_far.finished so_far.next
    so_far.seen

pub work_next-requires-clause-within : goal.work_next-requires-clause-within
work_next-requires-clause-within g c =
    let test = c.loop-place-test.true in let few = c.open-most.ensures.few in omega (arith, test, few)

pub work_next-requires-clause-opened : goal.work_next-requires-clause-opened
work_next-requires-clause-opened g c =
    let claims = c.args.claims.now in
    open_next claims.first claims.name.now c.loop-place.buffer.members.items c.loop-place.conns.next
    c.loop-place.openings.subs c.loop-place.place c.open-most.result c.loop-place-test.true c.loop-place.invariant.ready

pub work_next-requires-clause-counts : goal.work_next-requires-clause-counts
work_next-requires-clause-counts g c =
    let test = c.loop-place-test.true in
    let few = c.open-most.ensures.few in
    can_count_on c.loop-place.place (length c.args.claims.now.jobs) c.args.conns.now.shown c.loop-place.conns.shown
    c.args.openings.now.subs c.loop-place.openings.subs c.loop-place.invariant.keeps (omega (arith, test, few))
    c.requires.counts

pub returns-in_default-clause-fixed : goal.returns-in_default-clause-fixed
returns-in_default-clause-fixed g c = c.work_next.ensures.fixed ∙ c.loop-place.invariant.fixed

pub returns-in_default-clause-worked : goal.returns-in_default-clause-worked
returns-in_default-clause-worked g c =
    let claims = c.args.claims.now in
    let left = c.in_default.ensures.err in
    stopped claims.jobs claims.shard (g.C.Claims.part c.args.seat.now) (g.C.Claims.part c.loop-place.seat)
    (g.C.Claims.part c.work_next.new.seat) c.loop-place.place c.args.conns.now c.loop-place.conns c.work_next.new.conns
    c.args.openings.now c.loop-place.openings c.work_next.new.openings left.0 left.1 left.2
    c.loop-place.invariant.so_far

pub returns-in_default-clause-keeps : goal.returns-in_default-clause-keeps
returns-in_default-clause-keeps g c =
    let left = c.in_default.ensures.err in
    stopped_order c.loop-place.place c.args.conns.now.shown c.loop-place.conns c.work_next.new.conns
    c.args.openings.now.subs c.loop-place.openings c.work_next.new.openings left.0 left.1 c.loop-place.invariant.keeps

pub returns-in_default-clause-told : goal.returns-in_default-clause-told
returns-in_default-clause-told g c =
    told_both c.args.conns.now.shown c.loop-place.conns.shown c.work_next.new.conns.shown c.args.dirty_conns.now
    c.loop-place.dirty_conns c.work_next.new.dirty_conns c.loop-place.invariant.told c.work_next.ensures.told

pub loop-place-preserved : goal.loop-place-preserved
loop-place-preserved g c =
    let claims = c.args.claims.now in
    let so_far = c.loop-place.invariant in
    let test = c.loop-place-test.true in
    let few = c.open-most.ensures.few in
    let told = c.in-Ok.ensures in
    let next = c.work_next.new in
    record {
      fixed = c.work_next.ensures.fixed ∙ so_far.fixed;
      next = told.turned.next;
      finished = let one = told.turned.finished in let were = so_far.finished in omega (arith, one, were);
      seen = told.turned.seen ∙ so_far.seen;
      settled = told.settled;
      ready =
          open_behind claims.first claims.name.now c.loop-place.buffer.members.items next.buffer.members.items
          c.loop-place.conns.next next.conns.next c.loop-place.openings.subs next.openings.subs c.loop-place.place
          c.open-most.result c.work_next.ensures.members so_far.ready told.stays;
      so_far =
          worked_on claims.jobs claims.shard (g.C.Claims.part c.args.seat.now) (g.C.Claims.part c.loop-place.seat)
          (g.C.Claims.part next.seat) c.loop-place.place c.args.conns.now c.loop-place.conns next.conns
          c.args.openings.now c.loop-place.openings next.openings c.in-Ok._won c.requires.first.first
          (omega (arith, test, few)) c.requires.turns so_far.so_far told.ok;
      keeps =
          keeps_on c.loop-place.place c.args.conns.now.shown c.loop-place.conns.shown next.conns.shown
          c.args.openings.now.subs c.loop-place.openings.subs next.openings.subs so_far.keeps told.keeps;
      told =
          told_both c.args.conns.now.shown c.loop-place.conns.shown next.conns.shown c.args.dirty_conns.now
          c.loop-place.dirty_conns next.dirty_conns so_far.told c.work_next.ensures.told;
    }

pub returns-clause-worked : goal.returns-clause-worked
returns-clause-worked g c s at follows =
    let past = c.loop-place-test.false in
    let within = c.loop-place.auto.place-end in
    let all : c.loop-place.place ≡ c.open-most.result = omega (arith, past, within) in
    subst (λ (n : ℕ).
    HasWorked s c.args.claims.now.jobs n c.loop-place.conns c.loop-place.openings (g.C.Claims.part c.args.seat.now)
    (g.C.Claims.part c.loop-place.seat))
    all (c.loop-place.invariant.so_far s at follows)

pub returns-clause-keeps : goal.returns-clause-keeps
returns-clause-keeps g c =
    let past = c.loop-place-test.false in
    let within = c.loop-place.auto.place-end in
    let all : c.loop-place.place ≡ c.open-most.result = omega (arith, past, within) in
    subst (λ (n : ℕ).
    KeepsOrder n c.args.conns.now.shown c.loop-place.conns.shown c.args.openings.now.subs c.loop-place.openings.subs)
    all c.loop-place.invariant.keeps
