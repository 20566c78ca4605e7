use Rattle.world_law.proofs.Subscriptions.Echo.{echoes_are_kept}
use Rattle.world_law.proofs.laws.echo_is_kept.Goals as goal

pub returns : goal.returns
returns c =
    echoes_are_kept c.puts_are_placed.ensures
    (λ l set_up events w run. c.names_are_unique.ensures l set_up events w run)
