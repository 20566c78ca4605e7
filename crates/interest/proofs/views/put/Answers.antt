use Rattle.std.proofs.Common.{subst}
use Rattle.subj.specs.declared.keys.Key.{Key}
use Rattle.subj.specs.Keys.{key_cmp}
use Rattle.interest.specs.Places.{IsPlaceOf}
use Rattle.interest.proofs.News.Hearing.{written}
use Rattle.interest.proofs.views.put.Goals as goal

pub returns-in-Ok-clause-ok : goal.returns-in-Ok-clause-ok
returns-in-Ok-clause-ok c =
    let at = subst (λ (key : Key). IsPlaceOf key_cmp key c.args.keys.now.items c.in-Ok.place) c.key.ensures.same
    (subst (λ keys. IsPlaceOf key_cmp c.key.result.now keys c.in-Ok.place) c.deref.ensures.value c.in-Ok.ensures) in
    written c.args.keys.now.items c.in-Ok.place c.args.weighted at
