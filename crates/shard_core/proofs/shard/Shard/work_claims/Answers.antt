use Rattle.std.proofs.Common.{◌<◌, sym, ap, ◌∙◌, arith}
use Rattle.shard_core.specs.Held.{Held}
use Rattle.shard_core.proofs.ClaimSound.{at_rest, idle_is, may_claim, sound_none, sound_some, turns_follow, worked_here, works_left, works_nothing, works_some}
use Rattle.shard_core.proofs.RunSound.{can_count}
use Rattle.shard_core.proofs.shard.Shard.work_claims.Goals as goal

pub returns-then-is_some-clause-worked : goal.returns-then-is_some-clause-worked
returns-then-is_some-clause-worked g c =
    works_left _ _ _ c.drop_candidate.new.conns c.args.jobs.now c.args.self.now (g.C.Claims.part c.args.seat.now)
    c.self.view_is c.drop_candidate.ensures.chosen c.drop_candidate.ensures.conns

pub returns-then-is_empty-clause-worked : goal.returns-then-is_empty-clause-worked
returns-then-is_empty-clause-worked g c =
    works_left _ _ _ c.drop_candidate.new.conns c.args.jobs.now c.args.self.now (g.C.Claims.part c.args.seat.now)
    c.self.view_is c.drop_candidate.ensures.chosen c.drop_candidate.ensures.conns

pub returns-in_default-clause-worked : goal.returns-in_default-clause-worked
returns-in_default-clause-worked g c =
    works_left _ _ _ c.drop_candidate.new.conns c.args.jobs.now c.args.self.now (g.C.Claims.part c.args.seat.now)
    c.self.view_is c.drop_candidate.ensures.chosen c.drop_candidate.ensures.conns

pub work_claims-worked-requires-clause-first : goal.work_claims-worked-requires-clause-first
work_claims-worked-requires-clause-first g c =
    let claims = c.in-Some.claims in
    may_claim c.args.self.now.state.finished c.self.inside.finished c.args.jobs.now claims.first claims.name.now
    claims.jobs (g.C.Claims.part c.args.seat.now) (ap (λ (h : Held). h.state.finished) c.self.view_is) c.requires.first
    c.in-Some.ensures.run

pub work_claims-worked-requires-clause-turns : goal.work_claims-worked-requires-clause-turns
work_claims-worked-requires-clause-turns g c =
    let claims = c.in-Some.claims in
    turns_follow c.args.self.now.state.finished c.self.inside.finished c.args.jobs.now claims.first claims.name.now
    claims.jobs (g.C.Claims.part c.args.seat.now) (ap (λ (h : Held). h.state.finished) c.self.view_is) c.requires.first
    c.in-Some.ensures.run

pub work_claims-worked-requires-clause-counts : goal.work_claims-worked-requires-clause-counts
work_claims-worked-requires-clause-counts g c =
    can_count _ _ _ c.in-Some.claims.jobs _ c.self.invariant
    (idle_is c.self.inside.hand (sym c.is_some.ensures ∙ c.if-is_some.false)) c.in-Some.ensures.run.turns
    c.in-Some.ensures.last

pub invariant_of-self-then-worked-eq0 : goal.invariant_of-self-then-worked-eq0
invariant_of-self-then-worked-eq0 g c =
    let done = c.work_claims-worked in
    sound_none _ _ _ c.drop_candidate.new.chosen c.in-Some.claims.jobs done.new.conns done.new.openings _ _ done.result
    c.self.invariant c.drop_candidate.ensures.chosen
    (done.ensures.worked _
    (at_rest _ c.in-Some.claims.shard c.drop_candidate.new.conns (sym c.is_some.ensures ∙ c.if-is_some.false)
    c.in-Some.ensures.shard c.drop_candidate.ensures.conns)
    (c.requires.first.finished_is ∙ sym (ap (λ (h : Held). h.state.finished) c.self.view_is)))
    c.if-worked-eq0.true

pub returns-then-worked-eq0-clause-worked : goal.returns-then-worked-eq0-clause-worked
returns-then-worked-eq0-clause-worked g c =
    let done = c.work_claims-worked in
    works_nothing _ _ c.drop_candidate.new.chosen c.args.jobs.now c.in-Some.claims.jobs done.new.conns done.new.openings
    c.args.self.now _ _ done.result c.self.view_is c.drop_candidate.ensures.chosen
    (done.ensures.worked _
    (at_rest _ c.in-Some.claims.shard c.drop_candidate.new.conns (sym c.is_some.ensures ∙ c.if-is_some.false)
    c.in-Some.ensures.shard c.drop_candidate.ensures.conns)
    (c.requires.first.finished_is ∙ sym (ap (λ (h : Held). h.state.finished) c.self.view_is)))
    c.if-worked-eq0.true

pub turn-self-inside-requires : goal.turn-self-inside-requires
turn-self-inside-requires g c =
    let done = c.work_claims-worked in
    let claims = c.in-Some.claims in
    let many = c.if-worked-eq0.false in
    let worked =
    worked_here _ _ _ claims.shard c.drop_candidate.new.conns done.new.conns done.new.openings claims.jobs done.result
    (g.C.Claims.part c.args.seat.now) (g.C.Claims.part done.new.seat) c.self.invariant
    (sym c.is_some.ensures ∙ c.if-is_some.false) c.in-Some.ensures.shard c.drop_candidate.ensures.conns
    (c.requires.first.finished_is ∙ sym (ap (λ (h : Held). h.state.finished) c.self.view_is)) done.ensures.worked in
    let few = worked.few in omega (arith, many, few)

pub invariant_of-self-2 : goal.invariant_of-self-2
invariant_of-self-2 g c =
    let done = c.work_claims-worked in
    let claims = c.in-Some.claims in
    let many = c.if-worked-eq0.false in
    let some : 0 < done.result = omega (arith, many) in
    sound_some _ _ _ c.drop_candidate.new.chosen c.drop_candidate.new.conns done.new.conns done.new.openings
    c.args.jobs.now claims.first claims.name.now claims.jobs done.result c.turn-self-inside.result _ _ c.self.invariant
    c.drop_candidate.ensures.chosen (sym c.is_some.ensures ∙ c.if-is_some.false) c.drop_candidate.ensures.conns
    done.ensures.keeps c.in-Some.ensures.run c.in-Some.ensures.last
    (done.ensures.worked _
    (at_rest _ claims.shard c.drop_candidate.new.conns (sym c.is_some.ensures ∙ c.if-is_some.false)
    c.in-Some.ensures.shard c.drop_candidate.ensures.conns)
    (c.requires.first.finished_is ∙ sym (ap (λ (h : Held). h.state.finished) c.self.view_is)))
    some c.turn-self-inside.ensures

pub returns-clause-worked : goal.returns-clause-worked
returns-clause-worked g c =
    let done = c.work_claims-worked in
    let claims = c.in-Some.claims in
    let many = c.if-worked-eq0.false in
    let some : 0 < done.result = omega (arith, many) in
    works_some _ _ c.args.jobs.now claims.jobs claims.first claims.name.now done.result c.turn-self-inside.result
    done.new.conns done.new.openings c.drop_candidate.new.chosen c.args.self.now _ _ c.self.view_is
    c.drop_candidate.ensures.chosen c.in-Some.ensures.run
    (done.ensures.worked _
    (at_rest _ claims.shard c.drop_candidate.new.conns (sym c.is_some.ensures ∙ c.if-is_some.false)
    c.in-Some.ensures.shard c.drop_candidate.ensures.conns)
    (c.requires.first.finished_is ∙ sym (ap (λ (h : Held). h.state.finished) c.self.view_is)))
    some c.turn-self-inside.ensures
