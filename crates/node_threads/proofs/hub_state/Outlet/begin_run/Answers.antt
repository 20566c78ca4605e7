use Rattle.std.proofs.Common.{◌≡◌, [], None, Some, sym, ap, ◌∙◌, subst}
use Rattle.job_block.specs.Blocks.{Block}
use Rattle.node_threads.specs.Outlets.{IsOutlet, jobs_handed}
use Rattle.node_threads.proofs.Lanes.Outlets.{begun, alike, none_of}
use Rattle.node_threads.proofs.hub_state.Outlet.begin_run.Goals as goal

pub invariant_of-self-2 : goal.invariant_of-self-2
invariant_of-self-2 g c =
    let s = c.self.inside in
    let lines = c.begin_all.new.lines.items in
    let none : s.run ≡ None = none_of s.run c.is_some.result c.is_some.ensures c.if-is_some.false in
    let run_is : c.in-Ok.run' ≡ s.unsent.jobs =
    (c.in-Ok.ensures).ok ∙ ap (λ (b : Block). b.jobs) c.replace-block.ensures.value in
    let rest_is : c.replace-block.new.dest.jobs ≡ [] =
    ap (λ (b : Block). b.jobs) c.replace-block.ensures.after ∙ c.empty_like-next.ensures.jobs in
    let a = alike None (Some s.unsent.jobs) s.unsent.jobs [] s.lines.items lines
    (begun s.unsent.jobs s.lines.items lines c.begin_all.ensures.0 c.begin_all.ensures.1)
    (subst (λ r. IsOutlet r s.unsent.jobs s.lines.items) none c.self.invariant) in
    subst (λ r. IsOutlet (Some r) c.replace-block.new.dest.jobs lines) (sym run_is)
    (subst (λ u. IsOutlet (Some s.unsent.jobs) u lines) (sym rest_is) a.0)

pub returns : goal.returns
returns g c =
    let s = c.self.inside in
    let lines = c.begin_all.new.lines.items in
    let none : s.run ≡ None = none_of s.run c.is_some.result c.is_some.ensures c.if-is_some.false in
    let run_is : c.in-Ok.run' ≡ s.unsent.jobs =
    (c.in-Ok.ensures).ok ∙ ap (λ (b : Block). b.jobs) c.replace-block.ensures.value in
    let rest_is : c.replace-block.new.dest.jobs ≡ [] =
    ap (λ (b : Block). b.jobs) c.replace-block.ensures.after ∙ c.empty_like-next.ensures.jobs in
    let a = alike None (Some s.unsent.jobs) s.unsent.jobs [] s.lines.items lines
    (begun s.unsent.jobs s.lines.items lines c.begin_all.ensures.0 c.begin_all.ensures.1)
    (subst (λ r. IsOutlet r s.unsent.jobs s.lines.items) none c.self.invariant) in
    (λ k. jobs_handed (Some (run_is k)) (rest_is k) lines)
    ∙ a.1
    ∙ ap (λ r. jobs_handed r s.unsent.jobs s.lines.items) (sym none)
    ∙ c.self.view_is
