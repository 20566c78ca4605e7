use Rattle.std.proofs.Common.{subst}
use Rattle.subj.specs.Keys.{key_cmp}
use Rattle.interest.specs.Places.{IsGapFor}
use Rattle.interest.proofs.News.Hearing.{nothing_less}
use Rattle.interest.proofs.views.take_away.Goals as goal

pub returns-in_default : goal.returns-in_default
returns-in_default c =
    let gap = subst (λ keys. IsGapFor key_cmp c.args.key.now keys c.in_default.field-0) c.deref.ensures.value
    c.in_default.ensures in
    nothing_less c.args.keys.now.items c.args.key.now gap.none
