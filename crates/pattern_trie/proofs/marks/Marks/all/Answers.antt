use Rattle.std.proofs.Common.{refl}
use Rattle.pattern_trie.proofs.Marked.{all_in}
use Rattle.pattern_trie.proofs.marks.Marks.all.Goals as goal

pub returns : goal.returns
returns c = λ text. all_in _ text refl
