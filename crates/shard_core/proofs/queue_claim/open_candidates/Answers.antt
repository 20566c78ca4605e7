use Rattle.std.proofs.Common.{ap, ◌∙◌}
use Rattle.std.specs.Prelude.{filter}
use Rattle.sub_table.specs.Subscriptions.{gets}
use Rattle.shard_core.specs.Members.{is_in_group_of}
use Rattle.shard_core.specs.Tallies.{lent_subs}
use Rattle.shard_core.proofs.Turns.Groups.{same_members}
use Rattle.shard_core.proofs.queue_claim.open_candidates.Goals as goal

pub returns-clause-all : goal.returns-clause-all
returns-clause-all g c =
    let claim = c.args.claim.now in
    let all = c.args.openings.now.subs in
    let gotten = filter (gets claim.job.now.message.subject) all in
    let same =
    c.in_ok-subs.ensures.all
    ∙ ap (λ t. filter (is_in_group_of claim.name.now) (filter (gets t) all)) (c.lent.ensures ∙ c.subject.ensures) in
    c.keep_candidates.ensures
    ∙ same_members claim.shard c.args.conns.now.next claim.job.now claim.name.now (lent_subs c.in_ok-subs.subs.items)
    gotten same
