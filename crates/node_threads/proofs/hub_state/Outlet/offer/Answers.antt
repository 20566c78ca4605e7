use Rattle.std.proofs.Common.{◌≡◌, All, true, Some, None, sym, ap, ◌∙◌, subst}
use Rattle.node_threads.specs.Outlets.{LaneSender, IsOutlet, jobs_handed}
use Rattle.node_threads.proofs.Lanes.Outlets.{owed_numbered, with_unsent, all_took, alike}
use Rattle.node_threads.proofs.hub_state.Outlet.offer.Goals as goal

pub offer_all-requires : goal.offer_all-requires
offer_all-requires g c =
    let s = c.self.inside in
    owed_numbered c.in-Some.run' s.unsent.jobs s.lines.items
    (subst (λ r. IsOutlet r s.unsent.jobs s.lines.items) c.in-Some.is c.self.invariant)

pub invariant_of-self : goal.invariant_of-self
invariant_of-self g c =
    let s = c.self.inside in
    let i = subst (λ r. IsOutlet r s.unsent.jobs s.lines.items) c.in-Some.is c.self.invariant in
    let e =
    with_unsent (Some c.in-Some.run') s.unsent.jobs s.lines.items c.offer_all.new.lines.items c.offer_all.ensures in
    subst (λ r. IsOutlet r s.unsent.jobs c.offer_all.new.lines.items) (sym c.in-Some.is)
    (alike (Some c.in-Some.run') (Some c.in-Some.run') s.unsent.jobs s.unsent.jobs s.lines.items
    c.offer_all.new.lines.items e i).0

pub returns-then-not-all_have : goal.returns-then-not-all_have
returns-then-not-all_have g c =
    let s = c.self.inside in
    let i = subst (λ r. IsOutlet r s.unsent.jobs s.lines.items) c.in-Some.is c.self.invariant in
    let e =
    with_unsent (Some c.in-Some.run') s.unsent.jobs s.lines.items c.offer_all.new.lines.items c.offer_all.ensures in
    ap (λ r. jobs_handed r s.unsent.jobs c.offer_all.new.lines.items) c.in-Some.is
    ∙ (alike (Some c.in-Some.run') (Some c.in-Some.run') s.unsent.jobs s.unsent.jobs s.lines.items
    c.offer_all.new.lines.items e i).1
    ∙ ap (λ r. jobs_handed r s.unsent.jobs s.lines.items) (sym c.in-Some.is)
    ∙ c.self.view_is

pub invariant_of-self-2 : goal.invariant_of-self-2
invariant_of-self-2 g c =
    let s = c.self.inside in
    let i = subst (λ r. IsOutlet r s.unsent.jobs s.lines.items) c.in-Some.is c.self.invariant in
    let lines = c.offer_all.new.lines.items in
    let e = with_unsent (Some c.in-Some.run') s.unsent.jobs s.lines.items lines c.offer_all.ensures in
    let took = all_took c.in-Some.run' s.unsent.jobs lines
    (subst (All (λ (line : LaneSender). line.taken ≡ true)) c.as_slice.ensures.value
    (c.all_have.ensures c.if-not-all_have.false)) in
    (alike (Some c.in-Some.run') None s.unsent.jobs s.unsent.jobs s.lines.items lines (took ∙ e) i).0

pub returns : goal.returns
returns g c =
    let s = c.self.inside in
    let i = subst (λ r. IsOutlet r s.unsent.jobs s.lines.items) c.in-Some.is c.self.invariant in
    let lines = c.offer_all.new.lines.items in
    let e = with_unsent (Some c.in-Some.run') s.unsent.jobs s.lines.items lines c.offer_all.ensures in
    let took = all_took c.in-Some.run' s.unsent.jobs lines
    (subst (All (λ (line : LaneSender). line.taken ≡ true)) c.as_slice.ensures.value
    (c.all_have.ensures c.if-not-all_have.false)) in
    (alike (Some c.in-Some.run') None s.unsent.jobs s.unsent.jobs s.lines.items lines (took ∙ e) i).1
    ∙ ap (λ r. jobs_handed r s.unsent.jobs s.lines.items) (sym c.in-Some.is)
    ∙ c.self.view_is
