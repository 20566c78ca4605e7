use Rattle.std.proofs.Common.{ap, ◌∙◌}
use Rattle.job_block.specs.Blocks.{Block}
use Rattle.node_threads.specs.Outlets.{jobs_handed}
use Rattle.std.proofs.Common.{None}
use Rattle.node_threads.proofs.Lanes.Outlets.{new_outlet}
use Rattle.node_threads.proofs.hub_state.Outlet.new.Goals as goal

pub returns : goal.returns
returns g c =
    ap (λ (b : Block). jobs_handed None b.jobs c.args.lines.items) c.empty.ensures
    ∙ (new_outlet c.args.lines.items c.requires.some c.requires.fresh).1
