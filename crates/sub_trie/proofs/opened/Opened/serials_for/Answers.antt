use Rattle.std.proofs.Common.{rules, ◌++◌, subst}
use Rattle.sub_trie.specs.Rising.{subs_in_order}
use Rattle.std.specs.List.Sorted.{IsPermutation}
use Rattle.pattern_trie.specs.Matchers.{matching_values}
use Rattle.sub_trie.specs.Rising.{held_of}
use Rattle.sub_trie.proofs.Orders.{sorted_is}
use Rattle.sub_trie.proofs.opened.Opened.serials_for.Goals as goal

pub returns : goal.returns
returns c =
    let contents = subs_in_order c.args.self.now.subs in
    let subject = c.args.subject.now in
    let told : IsPermutation (c.new-serials.result.items ++ matching_values subject (held_of contents))
    c.matching.new.found.items = search (rules, c.in_ok-matching.ensures (held_of contents) c.args.self.now.held) in
    let one : IsPermutation (matching_values subject (held_of contents)) c.matching.new.found.items =
    subst (λ l. IsPermutation (l ++ matching_values subject (held_of contents)) c.matching.new.found.items)
    c.new-serials.ensures.items told in
    sorted_is subject contents c.matching.new.found.items c.sort_unstable.new.self.items c.args.self.now.rising one
    c.sort_unstable.ensures.permutation c.sort_unstable.ensures.sorted
