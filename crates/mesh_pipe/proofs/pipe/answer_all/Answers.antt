use Rattle.mesh_pipe.proofs.Text.Runs.{answers_all, front_all, answers_begun}
use Rattle.mesh_pipe.proofs.pipe.answer_all.Goals as goal

pub returns-in_err-flush-clause-answers : goal.returns-in_err-flush-clause-answers
returns-in_err-flush-clause-answers g c =
    answers_begun _ c.args.conn.now c.work.new.conn c.args.server.now c.flush.new.server _ _
    c.from_residual-in_err-flush.ensures.0
    (front_all c.in_ok-flow.flow c.args.conn.now c.work.new.conn c.args.server.now c.work.new.server _ _ _
    c.requires.empty c.in_ok-flow.ensures.works c.in_err-flush.ensures.err)

pub returns-clause-answers : goal.returns-clause-answers
returns-clause-answers g c =
    answers_all c.in_ok-flow.flow c.args.conn.now c.work.new.conn c.args.server.now c.work.new.server c.flush.new.server
    _ _ _ c.requires.empty c.in_ok-flow.ensures.works c.in_ok-flush.ensures.ok
