use Rattle.pattern_trie.specs.Nodes.{EntersEach}
use Rattle.pattern_trie.specs.Beginnings.{is_before_dot_of, goes_on}
use Rattle.pattern_trie.proofs.beginnings.enter_before.Given as goal

abbrev pub invariant-loop-at : goal.invariant-loop-at
invariant-loop-at g l =
    EntersEach (λ q. is_before_dot_of l.at q l.text) (λ k q. goes_on k l.at q l.text) l.fn.nodes l.nodes
