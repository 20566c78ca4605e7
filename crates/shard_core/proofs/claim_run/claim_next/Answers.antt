use Rattle.std.proofs.Common.{◌≡◌, ◌%◌, List, false, length, refl, sym, ap, subst, ◌∙◌, arith}
use Rattle.subj.specs.declared.jobs.Job.{Job}
use Rattle.shard_core.specs.ClaimMembers.{ClaimsNext}
use Rattle.shard_core.specs.ClaimRuns.{MayClaimFirst, with_first, with_turn}
use Rattle.shard_core.specs.Dirty.{AreTold}
use Rattle.shard_core.specs.Shards.{Client}
use Rattle.shard_core.proofs.ClaimNext.{claims_lost, claims_nobody, claims_tried, first_in_turn, for_job, job_alike, keeps_quiet, keeps_tried, member_read, settled_tried, stays_quiet, stays_tried, still_in_turn, turn_place, unstaged}
use Rattle.shard_core.proofs.Clients.Told.{nothing_put}
use Rattle.shard_core.proofs.claim_run.claim_next.Goals as goal

-- nobody is there

pub returns-then-count-eq0-clause-ok : goal.returns-then-count-eq0-clause-ok
returns-then-count-eq0-clause-ok g c =
    let claims = c.args.claims.now in
    let name = claims.name.now in
    let job = c.job-job.result in
    let k = c.args.buffer.now.next in
    let members = c.args.buffer.now.members in
    let conns = c.args.conns.now in
    let opened = c.args.openings.now in
    let p = g.C.Claims.part c.args.seat.now in
    let like = job_alike claims.first name claims.jobs k job c.requires.run c.job-job.ensures.same in
    let none : length members.items ≡ 0 = sym (c.len-count.ensures ∙ members.ok.0) ∙ c.if-count-eq0.true in
    for_job (λ (j : Job). ClaimsNext claims.shard j false conns conns opened opened p (with_turn p)) claims.jobs k job
    c.job-job.ensures.same
    (claims_nobody claims.first job name members.items claims.shard conns opened like c.job-job.ensures.valid
    c.requires.opened conns opened p p none refl refl refl)

pub returns-then-count-eq0-clause-turn : goal.returns-then-count-eq0-clause-turn
returns-then-count-eq0-clause-turn g c = still_in_turn _ _ refl

pub returns-then-count-eq0-clause-stays : goal.returns-then-count-eq0-clause-stays
returns-then-count-eq0-clause-stays g c =
    let conns = c.args.conns.now in
    let opened = c.args.openings.now in
    stays_quiet c.args.claims.now.first c.args.claims.now.name.now c.args.buffer.now.members.items conns conns opened
    opened refl refl

pub returns-then-count-eq0-clause-keeps : goal.returns-then-count-eq0-clause-keeps
returns-then-count-eq0-clause-keeps g c =
    let conns = c.args.conns.now in
    let opened = c.args.openings.now in
    keeps_quiet 1 conns conns opened opened refl refl

pub returns-then-count-eq0-clause-told : goal.returns-then-count-eq0-clause-told
returns-then-count-eq0-clause-told g c =
    nothing_put c.args.conns.now.shown c.args.conns.now.shown c.args.dirty_conns.now refl

-- another shard has won

pub returns-then-is_lost-clause-ok : goal.returns-then-is_lost-clause-ok
returns-then-is_lost-clause-ok g c =
    let claims = c.args.claims.now in
    let name = claims.name.now in
    let job = c.job-job.result in
    let k = c.args.buffer.now.next in
    let members = c.args.buffer.now.members in
    let conns = c.args.conns.now in
    let opened = c.args.openings.now in
    let p = g.C.Claims.part c.args.seat.now in
    let q = g.C.Claims.part c.is_lost.new.seat in
    let like = job_alike claims.first name claims.jobs k job c.requires.run c.job-job.ensures.same in
    let size : c.len-count.result ≡ length members.items = c.len-count.ensures ∙ members.ok.0 in
    let some = c.if-count-eq0.false in
    for_job (λ (j : Job). ClaimsNext claims.shard j false conns conns opened opened p (with_turn q)) claims.jobs k job
    c.job-job.ensures.same
    (claims_lost claims.first job name members.items claims.shard conns opened like c.job-job.ensures.valid
    c.requires.opened conns opened p q (omega (arith, size, some)) refl refl (c.is_lost.ensures.lost c.if-is_lost.true))

pub returns-then-is_lost-clause-turn : goal.returns-then-is_lost-clause-turn
returns-then-is_lost-clause-turn g c = first_in_turn false _ _ (c.is_lost.ensures.lost c.if-is_lost.true)

pub returns-then-is_lost-clause-stays : goal.returns-then-is_lost-clause-stays
returns-then-is_lost-clause-stays g c =
    let conns = c.args.conns.now in
    let opened = c.args.openings.now in
    stays_quiet c.args.claims.now.first c.args.claims.now.name.now c.args.buffer.now.members.items conns conns opened
    opened refl refl

pub returns-then-is_lost-clause-keeps : goal.returns-then-is_lost-clause-keeps
returns-then-is_lost-clause-keeps g c =
    let conns = c.args.conns.now in
    let opened = c.args.openings.now in
    keeps_quiet 1 conns conns opened opened refl refl

pub returns-then-is_lost-clause-told : goal.returns-then-is_lost-clause-told
returns-then-is_lost-clause-told g c =
    nothing_put c.args.conns.now.shown c.args.conns.now.shown c.args.dirty_conns.now refl

-- the member at the place of the turn

pub stage-requires-clause-within : goal.stage-requires-clause-within
stage-requires-clause-within g c =
    let members = c.args.buffer.now.members in
    let some = c.if-count-eq0.false in
    (turn_place c.get.result c.job-job.result.turn c.len-count.result (length members.items)
    (c.len-count.ensures ∙ members.ok.0) (omega (arith, some)) (c.get.ensures.same ∙ c.turn.ensures)).0

pub stage-requires-clause-like : goal.stage-requires-clause-like
stage-requires-clause-like g c =
    let claims = c.args.claims.now in
    job_alike claims.first claims.name.now claims.jobs c.args.buffer.now.next c.job-job.result c.requires.run
    c.job-job.ensures.same

pub claim-won-requires-clause-race : goal.claim-won-requires-clause-race
claim-won-requires-clause-race g c =
    subst (g.C.Claims.seats c.args.race.now) (sym c.is_lost.ensures.fixed) c.requires.race

pub claim-won-requires-clause-first : goal.claim-won-requires-clause-first
claim-won-requires-clause-first g c =
    subst MayClaimFirst (sym (c.is_lost.ensures.left c.if-is_lost.false)) c.requires.first

pub returns-clause-ok : goal.returns-clause-ok
returns-clause-ok g c =
    let claims = c.args.claims.now in
    let name = claims.name.now in
    let job = c.job-job.result in
    let k = c.args.buffer.now.next in
    let members = c.args.buffer.now.members in
    let conns = c.args.conns.now in
    let staged = c.stage.new.conns in
    let opened = c.args.openings.now in
    let p = g.C.Claims.part c.args.seat.now in
    let q = g.C.Claims.part c.claim-won.new.seat in
    let won = c.claim-won.result in
    let like = job_alike claims.first name claims.jobs k job c.requires.run c.job-job.ensures.same in
    let some = c.if-count-eq0.false in
    let m = c.index.result.now in
    let place = c.get.result % c.len-count.result in
    let here = turn_place c.get.result job.turn c.len-count.result (length members.items)
    (c.len-count.ensures ∙ members.ok.0) (omega (arith, some)) (c.get.ensures.same ∙ c.turn.ensures) in
    let at = member_read members.items c.stage.new.buffer.members.items place m c.stage.ensures.members here.0
    c.index.ensures in
    for_job (λ (j : Job).
    ClaimsNext claims.shard j won conns c.show_or_drop.new.conns opened c.show_or_drop.new.openings p (with_turn q))
    claims.jobs k job c.job-job.ensures.same
    (claims_tried claims.first job name members.items claims.shard conns opened like c.job-job.ensures.valid
    c.requires.opened place m staged.next here.1 at c.in_ok-stage.ensures.ok won c.show_or_drop.new.conns
    c.show_or_drop.new.openings p q c.show_or_drop.ensures.shown c.show_or_drop.ensures.counted
    (λ e. unstaged conns staged c.show_or_drop.new.conns (c.show_or_drop.ensures.dropped e) c.stage.ensures.shown
    c.requires.settled)
    c.show_or_drop.ensures.left
    (c.claim-won.ensures.part ∙ ap (with_first won) (c.is_lost.ensures.left c.if-is_lost.false)))

pub returns-clause-turn : goal.returns-clause-turn
returns-clause-turn g c =
    first_in_turn c.claim-won.result _ _
    (c.claim-won.ensures.part ∙ ap (with_first c.claim-won.result) (c.is_lost.ensures.left c.if-is_lost.false))

pub returns-clause-settled : goal.returns-clause-settled
returns-clause-settled g c =
    settled_tried c.claim-won.result c.show_or_drop.new.conns c.stage.new.conns.next c.stage.new.conns.shown
    c.show_or_drop.ensures.shown c.show_or_drop.ensures.dropped

pub returns-clause-stays : goal.returns-clause-stays
returns-clause-stays g c =
    let claims = c.args.claims.now in
    let name = claims.name.now in
    let job = c.job-job.result in
    let k = c.args.buffer.now.next in
    let members = c.args.buffer.now.members in
    let conns = c.args.conns.now in
    let staged = c.stage.new.conns in
    let opened = c.args.openings.now in
    let like = job_alike claims.first name claims.jobs k job c.requires.run c.job-job.ensures.same in
    let some = c.if-count-eq0.false in
    let m = c.index.result.now in
    let place = c.get.result % c.len-count.result in
    let here = turn_place c.get.result job.turn c.len-count.result (length members.items)
    (c.len-count.ensures ∙ members.ok.0) (omega (arith, some)) (c.get.ensures.same ∙ c.turn.ensures) in
    let at = member_read members.items c.stage.new.buffer.members.items place m c.stage.ensures.members here.0
    c.index.ensures in
    stays_tried claims.first job name members.items claims.shard conns opened like c.job-job.ensures.valid
    c.requires.opened place m staged.next here.1 at c.in_ok-stage.ensures.ok c.claim-won.result
    c.show_or_drop.new.conns c.show_or_drop.new.openings c.show_or_drop.ensures.shown c.show_or_drop.ensures.counted
    (λ e. unstaged conns staged c.show_or_drop.new.conns (c.show_or_drop.ensures.dropped e) c.stage.ensures.shown
    c.requires.settled)
    c.show_or_drop.ensures.left

pub returns-clause-keeps : goal.returns-clause-keeps
returns-clause-keeps g c =
    let claims = c.args.claims.now in
    let name = claims.name.now in
    let job = c.job-job.result in
    let k = c.args.buffer.now.next in
    let members = c.args.buffer.now.members in
    let conns = c.args.conns.now in
    let staged = c.stage.new.conns in
    let opened = c.args.openings.now in
    let like = job_alike claims.first name claims.jobs k job c.requires.run c.job-job.ensures.same in
    let some = c.if-count-eq0.false in
    let m = c.index.result.now in
    let place = c.get.result % c.len-count.result in
    let here = turn_place c.get.result job.turn c.len-count.result (length members.items)
    (c.len-count.ensures ∙ members.ok.0) (omega (arith, some)) (c.get.ensures.same ∙ c.turn.ensures) in
    let at = member_read members.items c.stage.new.buffer.members.items place m c.stage.ensures.members here.0
    c.index.ensures in
    keeps_tried claims.first job name members.items claims.shard conns opened like c.job-job.ensures.valid
    c.requires.opened place m staged.next here.1 at c.in_ok-stage.ensures.ok c.claim-won.result
    c.show_or_drop.new.conns c.show_or_drop.new.openings c.requires.settled c.show_or_drop.ensures.shown
    c.show_or_drop.ensures.counted
    (λ e. unstaged conns staged c.show_or_drop.new.conns (c.show_or_drop.ensures.dropped e) c.stage.ensures.shown
    c.requires.settled)
    c.show_or_drop.ensures.left

pub returns-in_err-stage-clause-told : goal.returns-in_err-stage-clause-told
returns-in_err-stage-clause-told g c =
    nothing_put c.args.conns.now.shown c.stage.new.conns.shown c.args.dirty_conns.now c.stage.ensures.shown

pub returns-clause-told : goal.returns-clause-told
returns-clause-told g c =
    subst (λ (l : List Client).
    AreTold l c.show_or_drop.new.conns.shown c.args.dirty_conns.now c.show_or_drop.new.dirty_conns)
    c.stage.ensures.shown c.show_or_drop.ensures.told
