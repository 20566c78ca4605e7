use Rattle.std.proofs.Common.{◌≡◌, false, List, ◌++◌, length, take, drop, None, refl, sym, ap, ◌∙◌, subst}
use Rattle.std.specs.Option.{option_map}
use Rattle.subj.specs.Answers.{IsAnswered}
use Rattle.hub_core.specs.Receiving.{has_message, receive_refusal}
use Rattle.node_law.specs.declared.faults.NodeFault.TheVariants as node_fault
use Rattle.node_parts.specs.declared.told.Received.{Received}
use Rattle.node_law.specs.Events.{Receive}
use Rattle.node_law.specs.State.{ShardWithJobs}
use Rattle.node_core.specs.Served.{Served, IsKept, MayRoute, AreRouted, ReceiveStep, IsReceived, served_of_parts, refusal}
use Rattle.node_core.proofs.Calls.Composed.{step_keeps, same_keeps}
use Rattle.node_core.proofs.Calls.GivenJobs.{are_counted, hub_refuses, refused_same, refused_as}
use Rattle.node_core.proofs.Calls.Routing.{receive_heard, may_route, IsRouted, receive_done, routed_length}
use Rattle.node_parts.proofs.Handing.{written}
use Rattle.node_core.proofs.node.Node.receive.Goals as goal

pub finished_by-finished-requires-clause-all : goal.finished_by-finished-requires-clause-all
finished_by-finished-requires-clause-all g c =
    let old = c.self.inside in
    (are_counted (served_of_parts old.side (g.R.Race.contents old.race) old.lines.items) c.len-count.result
    c.self.invariant (c.len-count.ensures ∙ old.lines.ok.0)).all

pub finished_by-finished-requires-clause-few : goal.finished_by-finished-requires-clause-few
finished_by-finished-requires-clause-few g c =
    let old = c.self.inside in
    (are_counted (served_of_parts old.side (g.R.Race.contents old.race) old.lines.items) c.len-count.result
    c.self.invariant (c.len-count.ensures ∙ old.lines.ok.0)).few

pub take_in-requires : goal.take_in-requires
take_in-requires g c =
    let old = c.self.inside in
    (are_counted (served_of_parts old.side (g.R.Race.contents old.race) old.lines.items) c.len-count.result
    c.self.invariant (c.len-count.ensures ∙ old.lines.ok.0)).some

pub route-requires : goal.route-requires
route-requires g c =
    let old = c.self.inside in
    let frame = c.args.frame.now in
    let before = served_of_parts old.side (g.R.Race.contents old.race) old.lines.items in
    let count = c.len-count.ensures ∙ old.lines.ok.0 in
    let free =
    sym (receive_heard before frame c.len-count.result c.finished_by-finished.result c.self.invariant count
    c.finished_by-finished.ensures)
    ∙ c.in-Ok.ensures.0 in
    subst (λ (ls : List ShardWithJobs).
    MayRoute (has_message frame.body) (g.R.Race.contents old.race) ls c.take_in.new.copies.items)
    (sym c.as_mut_slice-lines.ensures.value)
    (may_route before frame c.in-Ok.received c.take_in.new.copies.items c.self.invariant free
    (subst (λ n. IsReceived old.side.hub frame frame.body n c.in-Ok.received c.take_in.new.copies.items) count
    c.in-Ok.ensures.1.1))

pub invariant_of-self : goal.invariant_of-self
invariant_of-self g c =
    let old = c.self.inside in
    let race = g.R.Race.contents old.race in
    let left = refused_same
    (receive_refusal old.side.server old.side.hub c.finished_by-finished.result c.args.frame.now)
    (c.take_in.new.side ≡ old.side) c.in-Err.fault c.in-Err.ensures in
    same_keeps (served_of_parts old.side race old.lines.items) (served_of_parts c.take_in.new.side race old.lines.items)
    c.self.invariant (λ k. served_of_parts (left k) race old.lines.items)

pub returns-in-Err : goal.returns-in-Err
returns-in-Err g c =
    let old = c.self.inside in
    let race = g.R.Race.contents old.race in
    let frame = c.args.frame.now in
    let before = served_of_parts old.side race old.lines.items in
    let after = served_of_parts c.take_in.new.side race old.lines.items in
    let cause = receive_refusal old.side.server old.side.hub c.finished_by-finished.result frame in
    let causes : option_map node_fault.Hub cause ≡ refusal before (Receive frame) =
    ap (option_map node_fault.Hub)
    (receive_heard before frame c.len-count.result c.finished_by-finished.result c.self.invariant
    (c.len-count.ensures ∙ old.lines.ok.0) c.finished_by-finished.ensures) in
    let done = λ (received : Received). ReceiveStep before frame received after in
    subst (λ (s : Served).
    IsAnswered (refusal s (Receive frame)) (λ (received : Received). ReceiveStep s frame received after) (after ≡ s)
    c.of_hub.result)
    c.self.view_is
    (subst (λ o. IsAnswered o done (after ≡ before) c.of_hub.result) causes
    (hub_refuses cause done (after ≡ before) c.in-Err.fault c.of_hub.result c.of_hub.ensures
    (refused_as cause cause (c.take_in.new.side ≡ old.side) (after ≡ before) c.in-Err.fault refl
    (λ left k. served_of_parts (left k) race old.lines.items) c.in-Err.ensures)))

pub invariant_of-self-2 : goal.invariant_of-self-2
invariant_of-self-2 g c =
    let old = c.self.inside in
    let race = g.R.Race.contents old.race in
    let new_race = g.R.Race.contents c.route.new.race in
    let frame = c.args.frame.now in
    let before = served_of_parts old.side race old.lines.items in
    let count = c.len-count.ensures ∙ old.lines.ok.0 in
    let free =
    sym (receive_heard before frame c.len-count.result c.finished_by-finished.result c.self.invariant count
    c.finished_by-finished.ensures)
    ∙ c.in-Ok.ensures.0 in
    let done : IsRouted old.side c.take_in.new.side race new_race old.lines.items c.route.new.lines frame
    c.in-Ok.received c.take_in.new.copies.items = record {
      finished = c.finished_by-finished.result;
      side = c.in-Ok.ensures.1.0;
      received_is =
          subst (λ n. IsReceived old.side.hub frame frame.body n c.in-Ok.received c.take_in.new.copies.items) count
          c.in-Ok.ensures.1.1;
      routed =
          subst (λ (ls : List ShardWithJobs).
          AreRouted (has_message frame.body) race ls c.take_in.new.copies.items new_race c.route.new.lines)
          c.as_mut_slice-lines.ensures.value c.route.ensures;
    } in
    let does = receive_done old.side c.take_in.new.side race new_race old.lines.items c.route.new.lines frame
    c.in-Ok.received c.take_in.new.copies.items free done in
    let whole = written old.lines.len c.route.new.lines old.lines.items
    (routed_length old.side.hub race new_race old.lines.items c.route.new.lines frame c.in-Ok.received
    c.take_in.new.copies.items done.received_is done.routed)
    old.lines.ok.0 in
    subst (λ (ls : List ShardWithJobs). IsKept (served_of_parts c.take_in.new.side new_race ls)) (sym whole)
    (step_keeps before (Receive frame) false (served_of_parts c.take_in.new.side new_race c.route.new.lines)
    c.self.invariant does.step)

pub returns : goal.returns
returns g c =
    let old = c.self.inside in
    let race = g.R.Race.contents old.race in
    let new_race = g.R.Race.contents c.route.new.race in
    let frame = c.args.frame.now in
    let before = served_of_parts old.side race old.lines.items in
    let count = c.len-count.ensures ∙ old.lines.ok.0 in
    let free =
    sym (receive_heard before frame c.len-count.result c.finished_by-finished.result c.self.invariant count
    c.finished_by-finished.ensures)
    ∙ c.in-Ok.ensures.0 in
    let done : IsRouted old.side c.take_in.new.side race new_race old.lines.items c.route.new.lines frame
    c.in-Ok.received c.take_in.new.copies.items = record {
      finished = c.finished_by-finished.result;
      side = c.in-Ok.ensures.1.0;
      received_is =
          subst (λ n. IsReceived old.side.hub frame frame.body n c.in-Ok.received c.take_in.new.copies.items) count
          c.in-Ok.ensures.1.1;
      routed =
          subst (λ (ls : List ShardWithJobs).
          AreRouted (has_message frame.body) race ls c.take_in.new.copies.items new_race c.route.new.lines)
          c.as_mut_slice-lines.ensures.value c.route.ensures;
    } in
    let does = receive_done old.side c.take_in.new.side race new_race old.lines.items c.route.new.lines frame
    c.in-Ok.received c.take_in.new.copies.items free done in
    let whole = written old.lines.len c.route.new.lines old.lines.items
    (routed_length old.side.hub race new_race old.lines.items c.route.new.lines frame c.in-Ok.received
    c.take_in.new.copies.items done.received_is done.routed)
    old.lines.ok.0 in
    let after = served_of_parts c.take_in.new.side new_race
    (take old.lines.len (c.route.new.lines ++ drop (length c.route.new.lines) old.lines.items)) in
    subst (λ (s : Served). (refusal s (Receive frame) ≡ None) × ReceiveStep s frame c.in-Ok.received after)
    c.self.view_is (
      does.step.step.cause,
      subst (λ (ls : List ShardWithJobs).
          ReceiveStep before frame c.in-Ok.received (served_of_parts c.take_in.new.side new_race ls))
          (sym whole) does,
    )
