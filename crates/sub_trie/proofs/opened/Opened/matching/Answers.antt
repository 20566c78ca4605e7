use Rattle.std.proofs.Common.{◌≡◌, ◌∙◌, ap}
use Rattle.sub_trie.specs.Rising.{subs_in_order}
use Rattle.std.proofs.lemmas.Result.{IfOk-weaker}
use Rattle.sub_trie.specs.Recalls.{serials_for}
use Rattle.sub_trie.proofs.Recalls.{looked_for}
use Rattle.sub_trie.proofs.opened.Opened.matching.Goals as goal

pub returns-in-Some : goal.returns-in-Some
returns-in-Some c =
    let contents = subs_in_order c.args.self.now.subs in
    let subject = c.args.subject.now in
    let is : c.in-Some.serials.now ≡ serials_for subject contents =
    c.in-Some.ensures contents c.args.self.now.right ∙ ap (λ s. serials_for s contents) c.bytes.ensures.same in
    IfOk-weaker c.look_up.result _ _
    (λ subs h. h ∙ looked_for subject contents c.in-Some.serials.now c.args.self.now.rising is) c.look_up.ensures

pub returns : goal.returns
returns c =
    let contents = subs_in_order c.args.self.now.subs in
    let subject = c.args.subject.now in
    let is : c.deref.result.now ≡ serials_for subject contents = c.deref.ensures.value ∙ c.in_ok-serials.ensures in
    IfOk-weaker c.look_up-2.result _ _
    (λ subs h. h ∙ looked_for subject contents c.deref.result.now c.args.self.now.rising is) c.look_up-2.ensures
