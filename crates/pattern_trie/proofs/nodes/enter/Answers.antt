use Rattle.std.proofs.Common.{rules, ℕ, List, ◌≡◌, ◌+◌, sym, ◌∙◌, ap, Some, None, arith, subst, true, false}
use Rattle.std.specs.Option.{option_copied_mut}
use Rattle.pattern_trie.specs.Classes.{is_in}
use Rattle.pattern_trie.specs.Nodes.{node_at, Enters, IsSame, count_of, values_of, mark_of}
use Rattle.pattern_trie.proofs.Marked.{in_first, in_second}
use Rattle.pattern_trie.proofs.Updates.{entered, same}
use Rattle.pattern_trie.proofs.nodes.enter.Goals as goal

pub returns-in_err-node-clause-err : goal.returns-in_err-node-clause-err
returns-in_err-node-clause-err g c =
    let had : node_at c.args.nodes.now c.args.text.now ≡ Some c.in-Some.node.now =
    sym c.get_mut.ensures.value ∙ ap option_copied_mut c.in-Some.is in
    let is : IsSame c.args.nodes.now (c.get_mut.follows.lender c.in-Some.node.now) =
    same c.args.text.now c.args.nodes.now (c.get_mut.follows.lender c.in-Some.node.now) (Some c.in-Some.node.now)
    ((c.get_mut.follows.holds c.in-Some.node.now).3 (search rules)) (sym (ap count_of had)) (sym (ap values_of had))
    (λ k so. ap (mark_of k) (sym had) ∙ so) in
    search (rules, is)

pub returns-in-Some-clause-ok : goal.returns-in-Some-clause-ok
returns-in-Some-clause-ok g c =
    let had : node_at c.args.nodes.now c.args.text.now ≡ Some c.in-Some.node.now =
    sym c.get_mut.ensures.value ∙ ap option_copied_mut c.in-Some.is in
    let below : c.in_ok-node.field-0 ≡ c.in-Some.node.now.below + 1 = grind arith in
    entered c.args.text.now (λ k. is_in k c.args.marks) c.args.nodes.now _ (Some _)
    ((c.get_mut.follows.holds _).3 (search rules)) (below ∙ ap (λ n. n + 1) (sym (ap count_of had)))
    (sym (ap values_of had))
    (λ k so.
    in_first k c.in-Some.node.now.marks c.args.marks c.or-node.result c.or-node.ensures (ap (mark_of k) (sym had) ∙ so))
    (λ k so. in_second k c.in-Some.node.now.marks c.args.marks c.or-node.result c.or-node.ensures so)

pub returns-clause-ok : goal.returns-clause-ok
returns-clause-ok g c =
    let same = c.get_mut.follows.holds-at-none in
    let none : node_at c.args.nodes.now c.args.text.now ≡ None =
    sym c.get_mut.ensures.value ∙ ap option_copied_mut c.in_default.is in
    let items = c.in_ok-key.ensures.items in
    let had : node_at c.get_mut.follows.lender-at-none c.in_ok-key.key.items ≡ None =
    ap (λ m. node_at m c.in_ok-key.key.items) same ∙ ap (node_at c.args.nodes.now) items ∙ none in
    let is = entered c.in_ok-key.key.items (λ k. is_in k c.args.marks) c.get_mut.follows.lender-at-none
    c.insert.new.self (Some _) c.in_ok-insert.ensures.updates (ap (λ n. n + 1) (sym (ap count_of had)))
    (c.new.ensures.items ∙ sym (ap values_of had)) (λ k so. no_mark k (sym (ap (mark_of k) had) ∙ so)) (λ k so. so) in
    subst (λ m. Enters c.args.text.now (λ k. is_in k c.args.marks) m c.insert.new.self) same
    (subst (λ t. Enters t (λ k. is_in k c.args.marks) c.get_mut.follows.lender-at-none c.insert.new.self) items is)
  where
    no_mark : {A : Type 0} (k : List ℕ) → false ≡ true → A
    no_mark k e = cc
