use Rattle.std.proofs.Common.{◌≤◌, ◌+◌, ap, sym, ◌∙◌, subst, map, length}
use Rattle.subj.specs.Servers.{IsListed}
use Rattle.node_core.specs.InCode.{event_of}
use Rattle.node_core.specs.OneRun.{outcome_told}
use Rattle.node_core.specs.Served.{Served}
use Rattle.node_core.proofs.Outcomes.Running.{goes_one_on, ends_here, all_gone, goes_on}
use Rattle.node_core.proofs.node.Node.run.Goals as goal

pub returns-then-is_last-clause-run : goal.returns-then-is_last-clause-run
returns-then-is_last-clause-run g c =
    let l = c.loop-event in
    ends_here c.args.self.now l.self c.step-answer.new.self c.args.events.now l.event-index c.event-item.result
    l.answers.items c.push_reserved.new.self.items c.step-answer.result c.loop-event-test.true c.event-item.is
    c.push_reserved.ensures.items l.invariant.begun c.step-answer.ensures
    (sym c.is_out_of_memory-is_last.ensures ∙ c.if-is_last.true)

pub returns-then-is_last-clause-promises : goal.returns-then-is_last-clause-promises
returns-then-is_last-clause-promises g c =
    let l = c.loop-event in
    let ran = ends_here c.args.self.now l.self c.step-answer.new.self c.args.events.now l.event-index
    c.event-item.result l.answers.items c.push_reserved.new.self.items c.step-answer.result c.loop-event-test.true
    c.event-item.is c.push_reserved.ensures.items l.invariant.begun c.step-answer.ensures
    (sym c.is_out_of_memory-is_last.ensures ∙ c.if-is_last.true) in
    goes_on c.servers_keep_their_promises.ensures c.args.self.now (map event_of c.args.events.now)
    (map outcome_told c.push_reserved.new.self.items) c.step-answer.new.self
    (subst (λ (s : Served). IsListed s.server) c.self.view_is c.self.invariant.listed) ran

pub loop-event-preserved : goal.loop-event-preserved
loop-event-preserved g c =
    let l = c.loop-event in
    record {
      begun =
          goes_one_on c.args.self.now l.self c.step-answer.new.self c.args.events.now l.event-index c.event-item.result
          l.answers.items c.push_reserved.new.self.items c.step-answer.result c.loop-event-test.true c.event-item.is
          c.push_reserved.ensures.items l.invariant.begun c.step-answer.ensures
          (sym c.is_out_of_memory-is_last.ensures ∙ c.if-is_last.false);
      count = c.push_reserved.ensures.len ∙ ap (λ n. n + 1) l.invariant.count;
      room = subst (λ n. length c.args.events.now ≤ n) (sym c.push_reserved.ensures.capacity) l.invariant.room;
    }

pub returns-clause-run : goal.returns-clause-run
returns-clause-run g c =
    let l = c.loop-event in
    all_gone c.args.self.now l.self c.args.events.now l.event-index l.answers.items c.loop-event-test.false
    l.invariant.begun

pub returns-clause-promises : goal.returns-clause-promises
returns-clause-promises g c =
    let l = c.loop-event in
    goes_on c.servers_keep_their_promises.ensures c.args.self.now (map event_of c.args.events.now)
    (map outcome_told l.answers.items) l.self
    (subst (λ (s : Served). IsListed s.server) c.self.view_is c.self.invariant.listed)
    (all_gone c.args.self.now l.self c.args.events.now l.event-index l.answers.items c.loop-event-test.false
    l.invariant.begun)
