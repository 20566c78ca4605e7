use Rattle.std.proofs.Common.{sym, subst}
use Rattle.shard_core.proofs.ClaimNext.{has_turned, next_turned, turn_issued}
use Rattle.shard_core.proofs.claim_run.work_next.Goals as goal

pub finish-requires-clause-race : goal.finish-requires-clause-race
finish-requires-clause-race g c =
    subst (g.C.Claims.seats c.args.race.now) (sym c.claim_next.ensures.fixed) c.requires.race

pub finish-requires-clause-issued : goal.finish-requires-clause-issued
finish-requires-clause-issued g c =
    turn_issued (g.C.Claims.part c.args.seat.now) _ c.requires.first c.in_ok-won.ensures.turn

pub returns-clause-ok : goal.returns-clause-ok
returns-clause-ok g c job there =
    next_turned c.args.claims.now.shard job c.in_ok-won.won c.args.conns.now c.claim_next.new.conns c.args.openings.now
    c.claim_next.new.openings (g.C.Claims.part c.args.seat.now) (g.C.Claims.part c.claim_next.new.seat)
    (g.C.Claims.part c.finish.new.seat) c.finish.ensures.part (c.in_ok-won.ensures.ok job there)

pub returns-clause-turned : goal.returns-clause-turned
returns-clause-turned g c = has_turned (g.C.Claims.part c.args.seat.now) (g.C.Claims.part c.claim_next.new.seat)
    (g.C.Claims.part c.finish.new.seat) c.in_ok-won.ensures.turn c.finish.ensures.part
