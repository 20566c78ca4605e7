use Rattle.std.proofs.Common.{subst}
use Rattle.hub_core.specs.Publishing.{subject_of, next_id}
use Rattle.world_law.specs.State.{server_at}
use Rattle.settled_law.specs.Promise.{IsDelivered}
use Rattle.settled_law.proofs.Marks.Reached.{reached}
use Rattle.settled_law.proofs.Plans.Sizes.{up_is_listed}
use Rattle.settled_law.proofs.Promise.Whole.{delivered}
use Rattle.settled_law.proofs.laws.settled_worlds_deliver.Goals as goal

pub returns : goal.returns
returns x c cluster events w run n a p order right outcomes w' whole =
    subst (λ o. IsDelivered w (next_id (server_at c n a.inc) a.node.hub) (subject_of p) o w') whole.1
    (delivered x.publications_are_placed_once.ensures.once x.servers_are_sound.ensures x.servers_keep_their_laws.ensures
    x.placements_are_one.ensures x.publications_are_placed_once.ensures.puts x.open_lives_are_subscriptions.ensures c
    cluster events w run n a p right.up right.echo right.settled right.roomy
    (reached c cluster events w (λ y before r m b at. up_is_listed c before y r m b at) run) order right.order_is w'
    whole.0)
