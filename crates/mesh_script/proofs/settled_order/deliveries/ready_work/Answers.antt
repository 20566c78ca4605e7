use Rattle.std.proofs.Common.{[], cond, map, sym, ap, ◌∙◌}
use Rattle.std.proofs.lemmas.Result.{IfOk-weaker}
use Rattle.hub_core.specs.Chosen.{publication_by}
use Rattle.cluster_world.specs.InCode.{event_of}
use Rattle.mesh_script.specs.Owed.{work_owed}
use Rattle.mesh_script.proofs.settled_order.deliveries.ready_work.Goals as goal

pub returns-then-not-is_ready : goal.returns-then-not-is_ready
returns-then-not-is_ready g c =
    let v = c.args.world.now in
    let p = publication_by c.args.conn c.args.publication.now c.args.word in
    ap (map event_of) c.new.ensures.items
    ∙ ap (λ b. cond b (work_owed v.cluster v.world c.args.node p) []) (sym c.if-not-is_ready.true ∙ c.is_ready.ensures)

pub returns : goal.returns
returns g c =
    let v = c.args.world.now in
    let p = publication_by c.args.conn c.args.publication.now c.args.word in
    IfOk-weaker c.work_of.result _ _
    (λ order is.
    is
    ∙ ap (λ b. cond b (work_owed v.cluster v.world c.args.node p) [])
    (sym c.if-not-is_ready.false ∙ c.is_ready.ensures))
    c.work_of.ensures
