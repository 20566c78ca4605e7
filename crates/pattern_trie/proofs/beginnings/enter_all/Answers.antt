use Rattle.std.proofs.Common.{rules, length}
use Rattle.pattern_trie.specs.Classes.{is_in}
use Rattle.pattern_trie.specs.Nodes.{Enters, EntersEach}
use Rattle.pattern_trie.specs.Beginnings.{is_before_dot_of, goes_on}
use Rattle.pattern_trie.proofs.Steps.{enters_all}
use Rattle.pattern_trie.proofs.beginnings.enter_all.Goals as goal

pub returns-clause-ok : goal.returns-clause-ok
returns-clause-ok g c =
    let before : EntersEach (λ q. is_before_dot_of (length c.args.text.now) q c.args.text.now)
    (λ k q. goes_on k (length c.args.text.now) q c.args.text.now) c.args.nodes.now c.enter_before.new.nodes =
    search rules in
    let this : Enters c.args.text.now (λ k. is_in k c.none.result) c.enter_before.new.nodes c.enter.new.nodes =
    search rules in
    enters_all c.args.text.now (λ k. is_in k c.none.result) c.args.nodes.now c.enter_before.new.nodes c.enter.new.nodes
    before this
