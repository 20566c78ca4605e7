use Rattle.std.proofs.Common.{inr}
use Rattle.incarnation_file.specs.Disk.{IsFound}
use Rattle.incarnation_file.proofs.Rising.{life_ends}
use Rattle.incarnation_file.proofs.raising.live.Goals as goal

pub returns-in-Stops : goal.returns-in-Stops
returns-in-Stops g c = λ last kept.
    let disk = c.answer_of-answer.new.disk in
    life_ends c.args.server last c.answer_of-answer.result (g.D.Disk.left disk)
    (IsFound (g.D.Disk.seen disk) (g.D.Disk.may_leave disk)) (g.D.Disk.left c.restart.new.self)
    (c.answer_of-answer.ensures.kept last kept) (c.answer_of-answer.ensures.rises last kept)
    (g.met.D.Disk.now_counts disk) c.restart.ensures

pub returns-in-Crashes : goal.returns-in-Crashes
returns-in-Crashes g c = λ last kept.
    let disk = c.answer_of-answer.new.disk in
    life_ends c.args.server last c.answer_of-answer.result (g.D.Disk.left disk)
    (IsFound (g.D.Disk.seen disk) (g.D.Disk.may_leave disk)) (g.D.Disk.left c.crash.new.self)
    (c.answer_of-answer.ensures.kept last kept) (c.answer_of-answer.ensures.rises last kept)
    (g.met.D.Disk.now_counts disk) (λ file left. inr (c.crash.ensures file left))
