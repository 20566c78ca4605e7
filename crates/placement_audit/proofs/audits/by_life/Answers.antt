use Rattle.std.proofs.Common.{refl}
use Rattle.placement_audit.proofs.Naming.{lives_push}
use Rattle.placement_audit.proofs.audits.by_life.Goals as goal

pub loop-life-preserved : goal.loop-life-preserved
loop-life-preserved c =
    lives_push c.loop-life.named c.push_entry.new.named c.args.lives.now c.loop-life.life-index c.life-item.result _ _
    c.loop-life-test.true c.life-item.is refl refl c.loop-life.invariant c.in_ok-push_entry.ensures
