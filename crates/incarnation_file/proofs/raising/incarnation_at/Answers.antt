use Rattle.std.proofs.Common.{◌∙◌}
use Rattle.incarnation_file.proofs.Digits.{incarnation_there}
use Rattle.incarnation_file.proofs.raising.incarnation_at.Goals as goal

pub returns : goal.returns
returns c = λ server n line.
    c.new.ensures ∙ incarnation_there server c.args.bytes.now n c.number_of.result line c.number_of.ensures
