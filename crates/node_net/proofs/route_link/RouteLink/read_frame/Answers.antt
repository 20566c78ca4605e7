use Rattle.std.proofs.lemmas.Result.{err_from_is_err_and}
use Rattle.node_net.proofs.ReadingLemmas.{reads_not_begun, reads_begun}
use Rattle.node_net.proofs.route_link.RouteLink.read_frame.Goals as goal

pub returns-in_err-begin_frame-clause-reads : goal.returns-in_err-begin_frame-clause-reads
returns-in_err-begin_frame-clause-reads c =
    let p = err_from_is_err_and c.from_residual.result c.from_residual.ensures.1 in
    rw (p.1, p.2)
    (reads_not_begun c.args.self.now c.begin_frame.new.self _ c.in_err-begin_frame.ensures.same
    c.in_err-begin_frame.ensures.reads)

pub returns-clause-reads : goal.returns-clause-reads
returns-clause-reads c =
    reads_begun c.args.self.now c.begin_frame.new.self c.end_frame.new.self c.end_frame.result
    c.in_ok-begin_frame.ensures.same c.in_ok-begin_frame.ensures.reads
    (c.end_frame.ensures.reads c.in_ok-begin_frame.ensures.begun)
