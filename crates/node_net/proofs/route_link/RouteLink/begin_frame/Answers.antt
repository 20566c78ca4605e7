use Rattle.std.proofs.Common.{Some, ap, ◌∙◌}
use Rattle.std.proofs.lemmas.Result.{err_from_is_err_and}
use Rattle.node_net.specs.declared.route_link.RouteLink.{RouteLink}
use Rattle.node_net.proofs.ReadingLemmas.{frames_none, begins_not, begins_alone, begins_due, begun_by_line}
use Rattle.node_net.proofs.route_link.RouteLink.begin_frame.Goals as goal

pub returns-then-is_some-clause-reads : goal.returns-then-is_some-clause-reads
returns-then-is_some-clause-reads c = frames_none c.args.self.now

pub returns-then-is_some-2-clause-reads : goal.returns-then-is_some-2-clause-reads
returns-then-is_some-2-clause-reads c = frames_none c.args.self.now

pub returns-in_err-line-clause-reads : goal.returns-in_err-line-clause-reads
returns-in_err-line-clause-reads c =
    let p = err_from_is_err_and c.from_residual.result c.from_residual.ensures.1 in
    rw (p.1, p.2)
    (begins_not c.args.self.now c.next_line.new.self _ c.if-is_some.ensures c.if-is_some-2.ensures
    c.in_err-line.ensures.same c.in_err-line.ensures.line)

pub returns-in-None-clause-reads : goal.returns-in-None-clause-reads
returns-in-None-clause-reads c =
    begins_alone c.args.self.now c.next_line.new.self
    (record c.next_line.new.self { unjoined = c.put.new.place }) c.in_ok-line.line c.if-is_some.ensures
    c.if-is_some-2.ensures c.in_ok-line.ensures.same c.in_ok-line.ensures.line c.in-None.ensures
    (ap (λ u. record c.next_line.new.self { unjoined = u })
    (c.put.ensures ∙ ap (λ b. Some (c.in_ok-line.line, b)) c.new.ensures))

pub returns-in-Some-clause-begun : goal.returns-in-Some-clause-begun
returns-in-Some-clause-begun c =
    begun_by_line c.expect.new.self c.in_ok-line.line c.expect.result
    (ap (λ (r : RouteLink). r.line) c.expect.ensures.same ∙ c.put-in-Some.ensures)

pub returns-in-Some-clause-reads : goal.returns-in-Some-clause-reads
returns-in-Some-clause-reads c =
    begins_due c.args.self.now c.next_line.new.self
    (record c.next_line.new.self { line = c.put-in-Some.new.place }) c.expect.new.self c.in_ok-line.line c.in-Some.size
    c.expect.result c.if-is_some.ensures c.if-is_some-2.ensures c.in_ok-line.ensures.same c.in_ok-line.ensures.line
    c.in-Some.ensures (ap (λ l. record c.next_line.new.self { line = l }) c.put-in-Some.ensures) c.expect.ensures.same
    c.expect.ensures.size
