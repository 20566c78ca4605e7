use Rattle.std.proofs.Common.{◌≡◌, length}
use Rattle.incarnation_file.proofs.Rising.{HaveRisen}
use Rattle.incarnation_file.proofs.raising.all_lives.Given as goal

abbrev pub invariant-loop-life : goal.invariant-loop-life
invariant-loop-life g l =
    (length l.answers.items ≡ l.life-index) × HaveRisen (g.D.Disk.left l.disk) l.fn.server l.answers.items
