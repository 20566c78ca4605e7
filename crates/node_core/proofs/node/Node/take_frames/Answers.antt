use Rattle.node_law.specs.Events.{Own, TakeFrames}
use Rattle.node_core.specs.Served.{FramesStep, served_of_parts, of_hub_answer}
use Rattle.node_core.proofs.Calls.Sides.{frames_call, told_as}
use Rattle.node_core.proofs.node.Node.take_frames.Goals as goal

pub invariant_of-self : goal.invariant_of-self
invariant_of-self g c =
    let old = c.self.inside in
    (frames_call old.side c.take_frames.new.self (g.R.Race.contents old.race) old.lines.items c.args.peer c.args.count
    (λ frames. frames.items) c.take_frames.result c.self.invariant c.take_frames.ensures).keeps

pub returns : goal.returns
returns g c =
    let old = c.self.inside in
    let race = g.R.Race.contents old.race in
    let after = served_of_parts c.take_frames.new.self race old.lines.items in
    let called = frames_call old.side c.take_frames.new.self race old.lines.items c.args.peer c.args.count
    (λ frames. frames.items) c.take_frames.result c.self.invariant c.take_frames.ensures in
    told_as (served_of_parts old.side race old.lines.items) c.args.self.now after
    (Own (TakeFrames c.args.peer c.args.count)) (of_hub_answer c.take_frames.result) c.of_hub.result
    (λ s frames. FramesStep s c.args.peer c.args.count frames.items after) c.self.view_is c.of_hub.ensures
    called.answers
