use Rattle.std.proofs.Common.{ap, sym, ◌∙◌}
use Rattle.std.specs.Option.{ok_or}
use Rattle.route_frames.specs.declared.faults.RouteFault.TheVariants.{BadNumber}
use Rattle.route_frames.proofs.Spelt.Dials.{dialed}
use Rattle.route_frames.proofs.greetings.connect_from.Goals as goal

pub returns : goal.returns
returns c =
    c.ok_or.ensures.value
    ∙ ap (λ connect. ok_or connect BadNumber) c.new.ensures
    ∙ sym (dialed _ c.in_ok-dial.dial c.in_ok-server_name.server_name c.in_ok-to.to
    (sym c.dial_from.ensures ∙ c.in_ok-dial.was) (sym c.read_node.ensures ∙ c.in_ok-server_name.was)
    (sym c.read_node-2.ensures ∙ c.in_ok-to.was))
