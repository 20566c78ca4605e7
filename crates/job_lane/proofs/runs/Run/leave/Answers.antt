use Rattle.std.specs.Arc.{arc_value}
use Rattle.std.proofs.Common.{rules, ◌≤◌, length, drop, sym, subst}
use Rattle.job_lane.proofs.Lists.{stays_within}
use Rattle.job_lane.proofs.runs.Run.leave.Goals as goal

pub overflow_add-self : goal.overflow_add-self
overflow_add-self c =
    let l = (arc_value c.self.inside.block).jobs in
    let n = c.self.inside.before in
    let within = stays_within l n c.args.count c.self.invariant
    (subst (λ old. c.args.count ≤ length (drop 1 old)) (sym c.self.view_is) c.requires) in
    search rules

pub invariant_of-self : goal.invariant_of-self
invariant_of-self c =
    let l = (arc_value c.self.inside.block).jobs in
    stays_within l c.self.inside.before c.args.count c.self.invariant
    (subst (λ old. c.args.count ≤ length (drop 1 old)) (sym c.self.view_is) c.requires)
