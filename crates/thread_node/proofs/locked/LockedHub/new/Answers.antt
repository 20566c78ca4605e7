use Rattle.thread_node.proofs.Telling.{hub_tape_starts}
use Rattle.thread_node.proofs.locked.LockedHub.new.Goals as goal

pub invariant_of-result : goal.invariant_of-result
invariant_of-result g c =
    let f = c.requires.fresh in
    (c.requires.race, hub_tape_starts c.args.state c.args.server c.args.keep c.new.result f.0 f.1 c.new.ensures)
