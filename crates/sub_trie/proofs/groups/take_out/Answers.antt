use Rattle.std.proofs.Common.{rules}
use Rattle.std.proofs.lemmas.Fn.{filter_same}
use Rattle.sub_trie.specs.Groups.{is_other}
use Rattle.sub_trie.proofs.groups.take_out.Goals as goal

pub returns : goal.returns
returns c =
    filter_same _ (is_other c.args.serial) _ (λ x b f' h. (search rules, search rules)) _ _ c.retain.ensures.filtered
