use Rattle.std.proofs.Common.{refl, ap}
use Rattle.node_net.proofs.ReadingLemmas.{joins_ok, joins_refused, joins_short}
use Rattle.node_net.proofs.route_link.RouteLink.join.Goals as goal

pub returns-in-Ok-clause-reads : goal.returns-in-Ok-clause-reads
returns-in-Ok-clause-reads c =
    joins_ok c.args.line c.args.payload c.args.self.now (record c.args.self.now { ahead = c.put.new.place })
    c.in-Ok.frame c.in-Ok.ensures.means (ap (λ a. record c.args.self.now { ahead = a }) c.put.ensures)

pub returns-in-Err-Refused-clause-reads : goal.returns-in-Err-Refused-clause-reads
returns-in-Err-Refused-clause-reads c =
    let means = rw c.in-Err-Refused.field-0-is at c.in-Err-Refused.ensures.means in
    joins_refused c.args.line c.args.payload c.args.self.now c.args.self.now _ means refl

pub returns-in-Err-OutOfMemory-clause-reads : goal.returns-in-Err-OutOfMemory-clause-reads
returns-in-Err-OutOfMemory-clause-reads c =
    let means = rw c.in-Err-OutOfMemory.field-0-is at c.in-Err-OutOfMemory.ensures.means in
    joins_short c.args.line c.in-Err-OutOfMemory.line c.args.payload c.in-Err-OutOfMemory.payload c.args.self.now
    (record c.args.self.now { unjoined = c.put-in-Err-OutOfMemory.new.place }) means.0 means.1
    (ap (λ u. record c.args.self.now { unjoined = u }) c.put-in-Err-OutOfMemory.ensures)
