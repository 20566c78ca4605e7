use Rattle.std.proofs.Common.{refl, sym, subst}
use Rattle.interest.specs.Sights.{IsSightOf, text_if}
use Rattle.interest.proofs.Matching.Looking.{further, ended, no_match, sight_is}
use Rattle.interest.proofs.sights.look.Goals as goal

pub loop-width-preserved : goal.loop-width-preserved
loop-width-preserved c =
    let facts = c.in-Further.ensures in
    further c.args.pattern.now c.args.subject.now c.loop-width.left.now c.loop-width.done
    (text_if c.loop-width.beginning) c.loop-width.invariant _ (text_if c.later-beginning.result) c.in-Further.width
    c.in-Further.behind.now _ refl c.later-beginning.ensures c.next_token.ensures facts.0 facts.2 facts.3

pub returns-in-Apart : goal.returns-in-Apart
returns-in-Apart c =
    let facts = c.in-Apart.ensures in
    subst (IsSightOf c.args.pattern.now c.args.subject.now) (sym c.sight_before.ensures)
    (sight_is c.args.pattern.now c.args.subject.now c.later-beginning.result
    (no_match c.args.pattern.now c.args.subject.now c.loop-width.left.now c.loop-width.done
    (text_if c.loop-width.beginning) c.loop-width.invariant _ refl facts.0)
    (ended c.args.pattern.now c.args.subject.now c.loop-width.left.now c.loop-width.done
    (text_if c.loop-width.beginning) c.loop-width.invariant _ (text_if c.later-beginning.result) _ refl
    c.later-beginning.ensures c.next_token.ensures facts.1))
