use Rattle.std.proofs.Common.{sym, subst}
use Rattle.interest.specs.Heard.{IsHeard}
use Rattle.interest.proofs.News.Hearing.{no_keys}
use Rattle.interest.proofs.views.View.new.Goals as goal

pub invariant_of-result : goal.invariant_of-result
invariant_of-result c = subst IsHeard (sym c.new.ensures.items) no_keys
