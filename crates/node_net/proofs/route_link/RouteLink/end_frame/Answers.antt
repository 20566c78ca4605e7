use Rattle.std.proofs.Common.{sym, ap}
use Rattle.node_net.proofs.ReadingLemmas.{part_joined, part_waits, part_read}
use Rattle.node_net.proofs.route_link.RouteLink.end_frame.Goals as goal

pub returns-in-Some-clause-reads : goal.returns-in-Some-clause-reads
returns-in-Some-clause-reads c = λ begun.
    part_joined c.args.self.now (record c.args.self.now { unjoined = c.take.new.self }) c.join.new.self c.in-Some.line
    c.in-Some.payload c.join.result (sym c.in-Some.ensures.value)
    (ap (λ u. record c.args.self.now { unjoined = u }) c.take.ensures.after) c.join.ensures.reads

pub returns-in-Ok-clause-reads : goal.returns-in-Ok-clause-reads
returns-in-Ok-clause-reads c = λ begun.
    part_read c.args.self.now (record c.args.self.now { unjoined = c.take.new.self }) c.next_payload.new.self
    c.join_payload.new.self c.in-Ok.payload c.join_payload.result (sym c.in-None.ensures.value)
    (ap (λ u. record c.args.self.now { unjoined = u }) c.take.ensures.after) begun c.in-Ok.ensures.same
    c.in-Ok.ensures.payload c.join_payload.ensures.reads

pub returns-in-Err-clause-reads : goal.returns-in-Err-clause-reads
returns-in-Err-clause-reads c = λ begun.
    part_waits c.args.self.now (record c.args.self.now { unjoined = c.take.new.self }) c.next_payload.new.self
    c.in-Err.end (sym c.in-None.ensures.value) (ap (λ u. record c.args.self.now { unjoined = u }) c.take.ensures.after)
    begun c.in-Err.ensures.same c.in-Err.ensures.payload
