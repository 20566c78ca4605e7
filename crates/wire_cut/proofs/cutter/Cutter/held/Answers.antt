use Rattle.wire_cut.proofs.CutLemmas.{unfinished}
use Rattle.wire_cut.proofs.cutter.Cutter.held.Goals as goal

pub returns-clause-bound : goal.returns-clause-bound
returns-clause-bound c = unfinished c.args.self.now
