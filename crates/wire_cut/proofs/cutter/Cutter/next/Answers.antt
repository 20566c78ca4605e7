-- A piece that is a line is within the unread bytes.
use Rattle.std.proofs.Common.{rules, refl}
use Rattle.wire_cut.proofs.CutLemmas.{given_within}
use Rattle.wire_cut.proofs.cutter.Cutter.next.Goals as goal

pub returns-in-None : goal.returns-in-None
returns-in-None c = (
  (refl, λ _. tt, c.next_line.follows.holds-at-none),
  record {
    answer = c.next_line.ensures.answer;
    held = search rules;
    within = given_within c.next_line.result c.args.self.now c.next_line.ensures.answer;
    rest = tt;
  },
)
