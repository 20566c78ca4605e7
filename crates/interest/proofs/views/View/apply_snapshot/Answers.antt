use Rattle.std.proofs.Common.{◌≡◌, true, sym, subst, ◌∙◌}
use Rattle.std.specs.Prelude.{nat_lt}
use Rattle.route_values.specs.Snapshots.{are_snapshot_keys, is_short}
use Rattle.interest.specs.Heard.{IsHeard}
use Rattle.interest.specs.Views.{View}
use Rattle.interest.proofs.News.Hearing.{snapshot_is_heard}
use Rattle.interest.proofs.views.View.apply_snapshot.Goals as goal

pub invariant_of-self : goal.invariant_of-self
invariant_of-self c =
    let valid : are_snapshot_keys c.args.keys ≡ true =
    subst (λ (keys : View). are_snapshot_keys keys ≡ true) c.keys.view_is c.keys.invariant.ordered in
    subst IsHeard (sym c.into_keys.ensures)
    (snapshot_is_heard (is_short c.args.keys) c.args.keys (nat_lt c.args.number c.args.self.now.mark) valid
    (sym c.snapshot_fault.ensures ∙ c.in_default.is))
