use Rattle.std.proofs.Common.{ap, sym, ◌∙◌, true≢false}
use Rattle.route_values.specs.Snapshots.{are_rising}
use Rattle.route_values.proofs.Texts.{kept_are_rising}
use Rattle.route_values.proofs.snapshots.SnapshotKeys.from_keys.Goals as goal

-- keys that don't rise are not such as a server may have
pub returns-then-not-are_rising-clause-kept : goal.returns-then-not-are_rising-clause-kept
returns-then-not-are_rising-clause-kept c = λ kept.
    absurd (true≢false (sym (kept_are_rising c.args.keys.items kept) ∙ ap are_rising (sym c.deref-2.ensures.value)
    ∙ sym c.are_rising.ensures.same ∙ c.if-not-are_rising.true))
