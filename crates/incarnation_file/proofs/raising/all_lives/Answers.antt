use Rattle.std.proofs.Common.{rules}
use Rattle.incarnation_file.proofs.Rising.{risen_at_first, risen_to}
use Rattle.incarnation_file.proofs.raising.all_lives.Goals as goal

pub loop-life-init : goal.loop-life-init
loop-life-init g c = (
  search rules,
  risen_at_first (g.D.Disk.left c.args.disk.now) c.args.server c.new-answers.result.items c.new-answers.ensures.items,
)

pub loop-life-preserved : goal.loop-life-preserved
loop-life-preserved g c =
    let inv = c.loop-life.invariant in (
      search rules,
      risen_to (g.D.Disk.left c.loop-life.disk) (g.D.Disk.left c.live.new.disk) c.args.server c.loop-life.answers.items
          c.push.new.self.items c.live.result (search rules) inv.1 c.live.ensures,
    )
