use Rattle.std.proofs.Common.{[], refl}
use Rattle.thread_node.proofs.Telling.{run_unnoted}
use Rattle.thread_node.proofs.locked.LockedHub.publish_run.Goals as goal

pub returns-then-is_kept : goal.returns-then-is_kept
returns-then-is_kept g c = record { publications = []; counted = refl; given = refl; each = refl }

pub invariant_of-self : goal.invariant_of-self
invariant_of-self g c =
    let s = c.self.inside in
    let i = c.self.invariant in
    let v = c.publish_run.new.self in
    let run = c.publish_run.ensures in (
      i.0,
      run_unnoted g.N.NodeName.race.shards c.args.conn run.publications s.state v s.tape
          (c.is_kept.ensures.none c.if-is_kept.false) i.1 run.each,
    )
