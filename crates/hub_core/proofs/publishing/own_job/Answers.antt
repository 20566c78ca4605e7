use Rattle.std.proofs.Common.{List, ℕ, Some, ap, ◌∙◌}
use Rattle.hub_core.specs.Chosen.{chosen_for}
use Rattle.hub_core.proofs.publishing.own_job.Goals as goal

pub names_for-requires-clause-ordered : goal.names_for-requires-clause-ordered
names_for-requires-clause-ordered c = c.requires.split.ordered c.name.result

pub returns : goal.returns
returns c =
    let out = c.args.out.now in
    let queues_is = c.in_ok-queues.ensures
    ∙ ap (λ (name : List ℕ). chosen_for name out.names.now out.servers.now) c.name.ensures in
    λ k. record {
      turn = c.args.turn;
      id = record { origin = c.name-2.ensures k; inc = c.inc.ensures k; number = out.number };
      message = c.in_ok-message.ensures k;
      publisher = Some c.args.conn;
      echo = c.args.echo;
      queues = queues_is k;
    }
