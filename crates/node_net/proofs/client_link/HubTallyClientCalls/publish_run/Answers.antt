use Rattle.std.proofs.Common.{false, true≢false, sym, arith}
use Rattle.node_net.proofs.HoldLemmas.{run_published}
use Rattle.node_net.proofs.client_link.HubTallyClientCalls.publish_run.Goals as goal

pub returns : goal.returns
returns g c =
    run_published _ g.H.HubCalls.published c.args.conn c.publish_run-count.result c.args.run.now
    c.publish_run-count.new.run c.args.self.now c.args.self.now.hub
    (λ hub. record {
      hub = hub;
      words = c.skip_words.new.words;
      so_far = record c.count_run.new.self { is_empty = false };
    })
    c.publish_run-count.new.self (λ p h every. ((0, every 0), λ is. absurd (true≢false (sym is))))
    (λ before p h every. ((0, every 0), λ is. absurd (true≢false (sym is)))) (omega (arith, c.if-count-eq0.false))
    c.publish_run-count.ensures
