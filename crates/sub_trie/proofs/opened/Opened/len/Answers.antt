use Rattle.std.proofs.Common.{sym, ◌∙◌}
use Rattle.sub_trie.proofs.Listing.{as_many}
use Rattle.sub_trie.proofs.opened.Opened.len.Goals as goal

pub returns : goal.returns
returns c = c.len.ensures.len ∙ sym (as_many c.args.self.now.subs c.len.ensures.unique)
