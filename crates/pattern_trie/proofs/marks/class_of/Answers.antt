use Rattle.pattern_trie.proofs.Marked.{class_of_first}
use Rattle.pattern_trie.proofs.marks.class_of.Goals as goal

pub returns-clause-value : goal.returns-clause-value
returns-clause-value c =
    class_of_first c.args.text.now c.split_token.result.0.now _ c.class_of_token.result c.split_token.ensures.cut
    c.class_of_token.ensures.value
