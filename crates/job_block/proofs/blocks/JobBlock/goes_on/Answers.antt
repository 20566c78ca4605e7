use Rattle.std.proofs.Common.{ap}
use Rattle.job_block.specs.Blocks.{Block}
use Rattle.job_block.proofs.Places.{goes_on_there}
use Rattle.job_block.proofs.blocks.JobBlock.goes_on.Goals as goal

pub returns : goal.returns
returns c goes =
    let fields = c.self.inside in
    goes_on_there fields.text.items fields.first_turn fields.kept.items c.args.place c.index.result.now
    c.args.self.now.jobs (ap (λ (b : Block). b.jobs) c.self.view_is) c.self.invariant c.requires c.index.ensures goes
