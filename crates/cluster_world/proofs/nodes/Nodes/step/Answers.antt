use Rattle.std.proofs.Common.{◌≡◌, sym, ap, ◌∙◌, subst, Some, option_map, set, get_or}
use Rattle.std.specs.List.{slice_get}
use Rattle.std.proofs.lemmas.Option.{slice_get-get_or}
use Rattle.node_core.specs.Lent.{asked_of}
use Rattle.cluster_world.specs.Adding.{AreNoted}
use Rattle.cluster_world.proofs.nodes.Nodes.step.Goals as goal
use Rattle.cluster_world.proofs.nodes.Nodes.step.Goals.{in-Ok-step_of, in-Err-OutOfMemory+in-Some-1, in-Err-OutOfMemory+in-None-1}

pub returns-clause-ok : goal.returns-clause-ok
returns-clause-ok g c = elim c.match-step_of.branch [
  | in-Ok-step_of w ↦ rw w.result-is (record {
    e = asked_of c.in-Some-asked.asked;
    is = ap (option_map asked_of) c.in-Some-asked.is;
    x = c.in-Some.node;
    x_is =
        slice_get-get_or c.args.self.now c.args.n c.index_mut-slot.result.now c.requires.within
        ∙ ap Some
        (sym
        (c.index_mut-slot.ensures.value
        ∙ (λ k. get_or (c.self.view_is k) c.args.n c.index_mut-slot.result.now))
        ∙ c.in-Some.is);
    sound = search;
    inc = search;
    noted =
        subst (λ id. AreNoted id c.args.now (asked_of c.in-Some-asked.asked) c.in-Ok.noted) c.next_id.ensures
        c.in-Ok.ensures;
    y = c.step_of.new.self;
    does = w.in-Ok-step_of.ensures.1;
    after = ap (λ l. set l c.args.n (Some c.step_of.new.self)) c.self.view_is;
  })
  | in-Err-OutOfMemory+in-Some-1 w ↦ rw w.result-is (tt)
  | in-Err-OutOfMemory+in-None-1 w ↦ rw w.result-is (tt)
]
