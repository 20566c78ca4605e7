use Rattle.std.proofs.Common.{refl, ◌∙◌}
use Rattle.node_net.proofs.HoldLemmas.{runs_at, runs_to}
use Rattle.node_net.proofs.client_link.ClientLink.ask_held.Goals as goal
use Rattle.node_net.specs.declared.limits.TheConstants.{SHARD_RUN}
use Rattle.node_net.specs.declared.client_link.Place.TheVariants.{Hub}

pub returns-clause-calls : goal.returns-clause-calls
returns-clause-calls g c =
    rw c.turn_to.ensures
    (runs_to _ c.args.self.now.calls.id SHARD_RUN c.args.self.now.place Hub _ c.serve.result c.served_of-served.result
    c.run.result.end c.args.self.now.calls.conn.asking c.args.tally.now.shard c.serve.new.self.conn.asking
    c.serve.new.calls.shard
    (runs_at _ g.S.ClientCalls.made (λ tally. tally.shard) (λ x called y made. made) c.args.self.now.calls.id SHARD_RUN
    c.serve.result c.args.self.now.calls.conn.asking c.args.tally.now c.serve.new.self.conn.asking c.serve.new.calls
    c.serve.ensures.ok c.serve.ensures.err)
    c.served_of-served.ensures (c.run.ensures ∙ c.ran_of.ensures) refl)
