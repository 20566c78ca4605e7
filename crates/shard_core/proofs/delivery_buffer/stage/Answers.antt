use Rattle.std.proofs.Common.{◌≡◌, ℕ, Bool, true, false, List, [], ◌++◌, map, append-nil, refl, ap, sym, subst, ◌∙◌}
use Rattle.shard_core.specs.declared.calls.Placed.{Placed}
use Rattle.shard_core.specs.Answers.{copies_of}
use Rattle.shard_core.specs.Owed.{slow_consumer}
use Rattle.shard_core.specs.Puts.{put_line}
use Rattle.shard_core.specs.Closings.{ended_ids}
use Rattle.shard_core.specs.Opened.{AreApart}
use Rattle.shard_core.specs.Tallies.{Tallied, with_lines}
use Rattle.shard_core.proofs.Turns.TallySteps.{walk_staged, all_staged, staged_shard, staged_given, staged_ended}
use Rattle.shard_core.proofs.delivery_buffer.stage.Goals as goal

copied_none : (copies : Bool) → copies_of copies [] ≡ []
copied_none true = refl
copied_none false = refl

-- where no connection was shut, no last lines come behind
no_lines : (t : Tallied) → t.shut ≡ [] → t ≡ with_lines t
no_lines t none =
    sym (ap (λ (conns : List ℕ). record t { put = t.put ++ copies_of t.copies (map (put_line slow_consumer) conns) })
    none ∙ ap (λ (l : List Placed). record t { put = t.put ++ l }) (copied_none t.copies)
    ∙ ap (λ (l : List Placed). record t { put = l }) (append-nil t.put))

pub returns-clause-ok : goal.returns-clause-ok
returns-clause-ok g c s shard of clients =
    all_staged c.args.buffer.now.copies s c.args.job.now _ _ _
    (walk_staged c.args.openings.now.subs c.args.job.now _ _ _ _ _ c.in_ok-walk_any.ensures.ok c.requires.settled
    c.requires.fresh s shard of clients)
    c.in_ok-add_last_lines.ensures

pub returns-clause-ended : goal.returns-clause-ended
returns-clause-ended g c =
    let shard = ap (λ (t : Tallied). t.shard) c.buffer-2.view_is
    ∙ ap (λ (t : Tallied). t.shard) c.in_ok-add_last_lines.ensures
    ∙ staged_shard c.args.openings.now.subs c.args.job.now _ _ _ _ _ c.in_ok-walk_any.ensures.ok c.requires.settled
    c.requires.fresh in
    c.in_ok-ended.ensures
    ∙ ap (λ n. ended_ids n c.deref.result.now) shard
    ∙ ap (ended_ids c.args.buffer.now.shard) (c.deref.ensures.value ∙ ap (λ (t : Tallied). t.ended) c.buffer-2.view_is)

pub returns-clause-given_apart : goal.returns-clause-given_apart
returns-clause-given_apart g c =
    subst (λ (t : Tallied). AreApart t.given) (sym c.in_ok-add_last_lines.ensures)
    (staged_given c.args.openings.now.subs c.args.job.now _ _ _ _ _ c.in_ok-walk_any.ensures.ok c.requires.settled
    c.requires.fresh c.in_ok-walk_any.ensures.rising)

pub returns-clause-ended_apart : goal.returns-clause-ended_apart
returns-clause-ended_apart g c =
    subst (λ (t : Tallied). AreApart t.ended) (sym c.in_ok-add_last_lines.ensures)
    (staged_ended c.args.openings.now.subs c.args.job.now _ _ _ _ _ c.in_ok-walk_any.ensures.ok c.requires.settled
    c.requires.fresh c.in_ok-walk_any.ensures.rising)

pub returns-then-closes_nothing-clause-ok : goal.returns-then-closes_nothing-clause-ok
returns-then-closes_nothing-clause-ok g c s shard of clients =
    all_staged c.args.buffer.now.copies s c.args.job.now _ _ _
    (walk_staged c.args.openings.now.subs c.args.job.now _ _ _ _ _ c.in_ok-walk_any.ensures.ok c.requires.settled
    c.requires.fresh s shard of clients)
    (no_lines _ (c.closes_nothing.ensures.shut c.if-closes_nothing.true))

pub returns-then-closes_nothing-clause-ended : goal.returns-then-closes_nothing-clause-ended
returns-then-closes_nothing-clause-ended g c =
    c.new.ensures.items
    ∙ sym (ap (ended_ids c.args.buffer.now.shard) (c.closes_nothing.ensures.ended c.if-closes_nothing.true))

pub returns-then-closes_nothing-clause-given_apart : goal.returns-then-closes_nothing-clause-given_apart
returns-then-closes_nothing-clause-given_apart g c =
    staged_given c.args.openings.now.subs c.args.job.now _ _ _ _ _ c.in_ok-walk_any.ensures.ok c.requires.settled
    c.requires.fresh c.in_ok-walk_any.ensures.rising

pub returns-then-closes_nothing-clause-ended_apart : goal.returns-then-closes_nothing-clause-ended_apart
returns-then-closes_nothing-clause-ended_apart g c =
    staged_ended c.args.openings.now.subs c.args.job.now _ _ _ _ _ c.in_ok-walk_any.ensures.ok c.requires.settled
    c.requires.fresh c.in_ok-walk_any.ensures.rising
