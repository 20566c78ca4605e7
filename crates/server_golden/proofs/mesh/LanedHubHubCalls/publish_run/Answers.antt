use Rattle.std.proofs.Common.{refl}
use Rattle.server_golden.proofs.Laned.{each_at}
use Rattle.server_golden.proofs.mesh.LanedHubHubCalls.publish_run.Goals as goal

pub returns : goal.returns
returns g c = record {
  publications = c.publish_run.ensures.publications;
  counted = c.publish_run.ensures.counted;
  given = c.publish_run.ensures.given;
  each = each_at g.H.HubCalls.published (λ hub. record c.args.self.now { hub = hub }) (λ laned. laned.hub) (λ h. refl)
      c.args.conn c.publish_run.ensures.publications c.args.self.now.hub c.publish_run.new.self
      c.publish_run.ensures.each;
}
