use Rattle.std.proofs.Common.{rules, arith, ◌≡◌, ◌++◌, ◌∷◌, [], sym, ◌∙◌, ap, Some, List}
use Rattle.std.specs.Option.{option_copied_mut}
use Rattle.pattern_trie.specs.Nodes.{node_at, count_of, values_of, mark_of}
use Rattle.pattern_trie.proofs.Updates.{same, valued}
use Rattle.pattern_trie.proofs.nodes.push_value.Goals as goal

pub returns-then-is_err-clause-err : goal.returns-then-is_err-clause-err
returns-then-is_err-clause-err g c =
    let had : node_at c.args.nodes.now c.args.text.now ≡ Some c.in-Some.node.now =
    sym c.get_mut.ensures.value ∙ ap option_copied_mut c.in-Some.is in
    let items : c.push.new.self.items ≡ c.in-Some.node.now.values.items =
    grind (arith, c.push.ensures.items, c.is_err.ensures.negation, c.is_err.ensures.value, c.if-is_err.true) in
    same c.args.text.now c.args.nodes.now _ (Some _) ((c.get_mut.follows.holds _).3 (search rules))
    (sym (ap count_of had)) (items ∙ sym (ap values_of had)) (λ k so. ap (mark_of k) (sym had) ∙ so)

pub returns-else-is_err-clause-ok : goal.returns-else-is_err-clause-ok
returns-else-is_err-clause-ok g c =
    let had : node_at c.args.nodes.now c.args.text.now ≡ Some c.in-Some.node.now =
    sym c.get_mut.ensures.value ∙ ap option_copied_mut c.in-Some.is in
    let items : c.push.new.self.items ≡ c.in-Some.node.now.values.items ++ c.args.value ∷ [] =
    grind (arith, c.push.ensures.items, c.is_err.ensures.negation, c.is_err.ensures.value, c.if-is_err.false) in
    valued c.args.text.now _ c.args.nodes.now _ (Some _) ((c.get_mut.follows.holds _).3 (search rules))
    (sym (ap count_of had)) (items ∙ ap (λ (vs : List g.row.V.Denot). vs ++ c.args.value ∷ []) (sym (ap values_of had)))
    (λ k so. ap (mark_of k) (sym had) ∙ so)
