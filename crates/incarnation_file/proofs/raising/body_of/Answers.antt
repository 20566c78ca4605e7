use Rattle.std.proofs.Common.{rules, append_assoc}
use Rattle.incarnation_file.proofs.Digits.{body_is}
use Rattle.incarnation_file.proofs.raising.body_of.Goals as goal

pub returns : goal.returns
returns c = rw (body_is c.args.server.now c.args.incarnation) (search (rules, append_assoc))
