use Rattle.std.proofs.Common.{rules, ◌≡◌, sym, ◌∙◌, ap, Some}
use Rattle.std.specs.Option.{option_copied_mut}
use Rattle.pattern_trie.specs.Nodes.{node_at, count_of, values_of, mark_of, without_value}
use Rattle.pattern_trie.proofs.Updates.{valued}
use Rattle.pattern_trie.proofs.nodes.take_value.Goals as goal

pub returns-in-Some-clause-left : goal.returns-in-Some-clause-left
returns-in-Some-clause-left g c =
    let had : node_at c.args.nodes.now c.args.text.now ≡ Some c.in-Some.node.now =
    sym c.get_mut.ensures.value ∙ ap option_copied_mut c.in-Some.is in
    valued c.args.text.now _ c.args.nodes.now _ (Some _) ((c.get_mut.follows.holds _).3 (search rules))
    (sym (ap count_of had))
    (c.remove_first.ensures.left ∙ ap (without_value g.V.PartialEq.eq c.args.value.now) (sym (ap values_of had)))
    (λ k so. ap (mark_of k) (sym had) ∙ so)
