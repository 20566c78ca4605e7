use Rattle.std.proofs.Common.{refl, sym, ◌∙◌}
use Rattle.node_net.specs.Holds.{AskedOfHub}
use Rattle.node_net.specs.declared.client_link.Place.TheVariants.{Shard}
use Rattle.node_net.proofs.HoldLemmas.{runs_at, runs_to, none_published}
use Rattle.node_net.proofs.client_link.ClientLink.publish_held.Goals as goal
use Rattle.subj.specs.declared.limits.TheConstants.{WINDOW}

pub returns-clause-calls : goal.returns-clause-calls
returns-clause-calls g c =
    rw c.turn_to.ensures
    (runs_to _ c.args.self.now.calls.id WINDOW c.args.self.now.place Shard _ c.serve.result c.served_of-served.result
    c.run.result.end c.args.self.now.calls.conn.asking c.args.tally.now.hub c.serve.new.self.conn.asking
    c.serve.new.calls.hub
    (runs_at _ (AskedOfHub g.H.HubCalls.published) (λ tally. tally.hub) (λ x called y made. made.0)
    c.args.self.now.calls.id WINDOW c.serve.result c.args.self.now.calls.conn.asking c.args.tally.now
    c.serve.new.self.conn.asking c.serve.new.calls c.serve.ensures.ok c.serve.ensures.err)
    c.served_of-served.ensures (c.run.ensures.end ∙ c.ran_of.ensures) refl)

pub returns-clause-empty : goal.returns-clause-empty
returns-clause-empty g c is =
    none_published _ (λ tally. tally.hub) (λ tally. tally.so_far.is_empty) (λ x called y made. made.1)
    c.args.self.now.calls.id WINDOW c.serve.result c.args.self.now.calls.conn.asking c.args.tally.now
    c.serve.new.self.conn.asking c.serve.new.calls c.serve.ensures.ok c.serve.ensures.err (sym c.run.ensures.empty ∙ is)
