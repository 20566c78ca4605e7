use Rattle.crossbeam_queue.specs.Passes.{view}
use Rattle.job_lane.specs.Runs.{jobs_of}
use Rattle.job_lane.proofs.Giving.{next_giving, went_on, came_giving, came_taken, jobs_more}
use Rattle.job_lane.proofs.steps.take_next.Goals as goal

pub returns-then-go_on-clause-giving : goal.returns-then-go_on-clause-giving
returns-then-go_on-clause-giving g c =
    next_giving (jobs_of (view c.args.pass.now).popped) c.args.run.now c.go_on.new.run
    (c.go_on.ensures.more c.if-go_on.true) c.requires.giving

pub returns-then-go_on-clause-taken : goal.returns-then-go_on-clause-taken
returns-then-go_on-clause-taken g c =
    went_on (jobs_of (view c.args.pass.now).popped) c.args.run.now c.go_on.new.run
    (c.go_on.ensures.more c.if-go_on.true) c.requires.giving c.first_turn.result c.requires.popping.numbered
    c.first_turn.ensures

pub returns-clause-giving : goal.returns-clause-giving
returns-clause-giving g c =
    came_giving (jobs_of (view c.args.pass.now).popped) c.args.run.now (c.go_on.ensures.last c.if-go_on.false).1
    c.requires.giving (jobs_of (view c.pop_by.new.pass).popped) c.pop_by.result
    (jobs_more c.pop_by.result (view c.args.pass.now).popped (view c.pop_by.new.pass).popped c.pop_by.ensures.came)
    c.first_turn-2.result c.first_turn-2.ensures

pub returns-clause-taken : goal.returns-clause-taken
returns-clause-taken g c =
    came_taken (jobs_of (view c.args.pass.now).popped) c.args.run.now (c.go_on.ensures.last c.if-go_on.false).1
    c.requires.giving (jobs_of (view c.pop_by.new.pass).popped) c.pop_by.result
    (jobs_more c.pop_by.result (view c.args.pass.now).popped (view c.pop_by.new.pass).popped c.pop_by.ensures.came)
    c.pop_by.ensures.popping.numbered c.first_turn-2.result c.first_turn-2.ensures
