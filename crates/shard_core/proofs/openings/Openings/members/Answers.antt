use Rattle.std.proofs.Common.{List, ap, subst, ◌∙◌}
use Rattle.std.specs.Prelude.{filter}
use Rattle.sub_table.specs.Subscriptions.{gets}
use Rattle.sub_table.specs.declared.Subscription.{Subscription}
use Rattle.shard_core.specs.Members.{mark_of, members_of}
use Rattle.shard_core.specs.Opened.{Opened, AreRising}
use Rattle.shard_core.specs.Tallies.{lent_subs}
use Rattle.shard_core.proofs.Turns.Groups.{all_found}
use Rattle.shard_core.proofs.openings.Openings.members.Goals as goal

pub returns-in_ok-subs-in-Some-clause-all : goal.returns-in_ok-subs-in-Some-clause-all
returns-in_ok-subs-in-Some-clause-all g c =
    let seen = ap (λ (o : Opened). o.subs) c.self.view_is in
    let noted = c.in-Some.ensures (g.T.SubTable.contents c.self.inside.table) c.self.invariant.noted.members
    ∙ ap (λ (l : List Subscription). members_of (filter (gets c.args.subject.now) l)) seen in
    all_found c.args.self.now.subs c.args.subject.now c.args.name.now c.mark_of.result c.in-Some.members.now
    (lent_subs c.in_ok-subs-in-Some.subs.items) (subst AreRising seen c.self.invariant.rising) noted
    (c.mark_of.ensures ∙ ap mark_of c.bytes.ensures.same) c.in_ok-subs-in-Some.ensures
