use Rattle.std.proofs.Common.{refl, subst}
use Rattle.std.specs.Sync.Mutex.{mutex_guard_value, mutex_guard_with_value}
use Rattle.node_threads.specs.AtHub.{AtHub}
use Rattle.node_threads.specs.HubRuns.{IssuesEach}
use Rattle.thread_node.proofs.Running.{each_published}
use Rattle.thread_node.proofs.serving.HeldHubHubCalls.publish_run.Goals as goal

pub returns : goal.returns
returns g c =
    let shards = g.N.NodeName.race.shards in
    let run = c.publish_run.ensures in
    let each = subst (λ (old : AtHub). IssuesEach shards c.args.conn run.publications old c.publish_run.new.self)
    c.deref_mut-hub.ensures.value run.each in
    record {
      publications = run.publications;
      counted = run.counted;
      given = run.given;
      each =
          each_published (λ held. mutex_guard_value held.guard)
          (λ held hub. record { guard = mutex_guard_with_value held.guard hub }) (λ held hub. refl)
          (λ held hub other. refl) (λ held. refl) shards c.args.conn run.publications c.args.self.now
          c.publish_run.new.self each;
    }
