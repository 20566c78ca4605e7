use Rattle.std.proofs.Common.{refl}
use Rattle.placement_audit.proofs.Naming.{sources_push}
use Rattle.placement_audit.proofs.audits.by_publication.Goals as goal

pub loop-publication-preserved : goal.loop-publication-preserved
loop-publication-preserved c =
    sources_push c.loop-publication.sources c.push_entry.new.named c.args.publications.now
    c.loop-publication.publication-index c.publication-item.result _ _ c.loop-publication-test.true
    c.publication-item.is refl refl c.loop-publication.invariant c.in_ok-push_entry.ensures
