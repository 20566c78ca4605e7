use Rattle.std.proofs.Common.{map}
use Rattle.cluster_world.specs.InCode.{event_of, outcome_of}
use Rattle.cluster_world.proofs.Clusters.Settling.{ran_first, none_made, part_first}
use Rattle.cluster_world.proofs.world.World.make_behind.Goals as goal

pub returns-in-Err-clause-err : goal.returns-in-Err-clause-err
returns-in-Err-clause-err g c = none_made c.args.self.now c.step.new.self _ c.in-Err.ensures.err

pub returns-in-Err-make-clause-err : goal.returns-in-Err-make-clause-err
returns-in-Err-make-clause-err g c =
    part_first c.args.self.now c.step.new.self c.make.new.self (event_of c.args.first.now) (outcome_of c.in-Ok.outcome)
    (map event_of c.args.rest.now) c.in-Ok.ensures.ok c.in-Err-make.ensures.err

pub returns-clause-ok : goal.returns-clause-ok
returns-clause-ok g c =
    ran_first c.args.self.now c.step.new.self c.make.new.self (event_of c.args.first.now) (outcome_of c.in-Ok.outcome)
    (map event_of c.args.rest.now) (map outcome_of c.in-Ok-make.outcomes.items) c.in-Ok.ensures.ok
    c.in-Ok-make.ensures.ok
