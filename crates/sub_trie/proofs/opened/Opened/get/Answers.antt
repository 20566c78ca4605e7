use Rattle.std.proofs.Common.{◌∙◌}
use Rattle.sub_trie.specs.Rising.{rows}
use Rattle.sub_trie.proofs.Keyed.{found_by}
use Rattle.sub_trie.proofs.Listing.{found_row}
use Rattle.sub_trie.proofs.opened.Opened.get.Goals as goal

pub returns : goal.returns
returns c =
    c.get.ensures.value
    ∙ found_row c.args.serial c.args.self.now.subs
    ∙ found_by c.args.serial (rows c.args.self.now.subs) c.args.self.now.keyed
