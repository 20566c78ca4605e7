use Rattle.std.proofs.Common.{◌≡◌, ◌++◌, ◌∷◌, List, [], ap, ◌∙◌}
use Rattle.route_values.specs.Frames.{Frame}
use Rattle.route_values.specs.declared.bodies.Body.TheVariants.{Msg}
use Rattle.subj.specs.Servers.{name_of, own_name}
use Rattle.hub_core.proofs.publishing.put_message.Goals as goal

pub returns : goal.returns
returns c =
    let out = c.args.out.now in
    let frame : Frame = record {
      from = own_name out.server.now;
      inc = out.server.now.inc;
      to = name_of out.server.now c.args.place;
      to_inc = c.args.inc;
      number = out.number;
      body = Msg out.message.now c.args.queues;
    } in
    let made : c.frame_to.result ≡ frame =
    c.frame_to.ensures ∙ (λ k. record frame { body = Msg (c.in_ok-message.ensures k) c.args.queues }) in
    ◌∙◌ {A = List Frame} c.in_ok-push.ensures.items (ap (λ (f : Frame). c.args.frames.now.items ++ f ∷ []) made)
