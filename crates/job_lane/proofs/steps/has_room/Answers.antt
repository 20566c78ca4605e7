use Rattle.std.proofs.Common.{◌+◌, ◌∙◌, ap, sym, subst, List, ℕ}
use Rattle.std.specs.Prelude.{nat_le}
use Rattle.crossbeam_queue.specs.Passes.{view}
use Rattle.job_lane.specs.Rule.{AreLastLengths, total_of}
use Rattle.job_lane.proofs.Moves.{learns_end}
use Rattle.job_lane.proofs.Lists.{has_room, lacked_room, last_kept}
use Rattle.job_lane.proofs.steps.has_room.Goals as goal

pub len_as-waiting-requires-clause-rule : goal.len_as-waiting-requires-clause-rule
len_as-waiting-requires-clause-rule g c = learns_end _ _ (ap (λ known. known.may_push) c.requires.pushing.alone)

pub returns-then-has_room-clause-room : goal.returns-then-has_room-clause-room
returns-then-has_room-clause-room g c _ =
    has_room c.args.count.now.most (view c.args.pass.now).pushed c.args.count.now.lengths c.args.jobs c.requires.counted
    c.has_room.result c.has_room.ensures c.if-has_room.true

pub returns-clause-counted : goal.returns-clause-counted
returns-clause-counted g c =
    subst (λ (l : List ℕ). AreLastLengths (view c.args.pass.now).pushed l)
    (sym (ap (λ v. v.lengths) c.keep_last.ensures)) (last_kept _ _ _ c.requires.counted)

pub returns-clause-room : goal.returns-clause-room
returns-clause-room g c =
    let left = c.keep_last.new.self in
    has_room c.args.count.now.most (view c.args.pass.now).pushed left.lengths c.args.jobs (returns-clause-counted g c)
    c.has_room-2.result
    (c.has_room-2.ensures
    ∙ ap (λ (most : ℕ). nat_le (total_of left.lengths + c.args.jobs) most) (ap (λ v. v.most) c.keep_last.ensures))

pub returns-clause-none : goal.returns-clause-none
returns-clause-none g c =
    let left = c.keep_last.new.self in
    lacked_room c.args.count.now.most (view c.args.pass.now).pushed left.lengths c.args.jobs
    (returns-clause-counted g c) c.has_room-2.result
    (c.has_room-2.ensures
    ∙ ap (λ (most : ℕ). nat_le (total_of left.lengths + c.args.jobs) most) (ap (λ v. v.most) c.keep_last.ensures))
