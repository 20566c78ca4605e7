use Rattle.std.proofs.Common.{rules, ◌≡◌, ◌-◌, sym, ◌∙◌, ap, Some, None, arith}
use Rattle.std.specs.Option.{option_copied_mut}
use Rattle.pattern_trie.specs.Nodes.{below_at, values_at, node_at, count_of, values_of, mark_of}
use Rattle.pattern_trie.proofs.Updates.{left, none_left}
use Rattle.pattern_trie.proofs.nodes.leave.Goals as goal

pub returns-then-below-eq1 : goal.returns-then-below-eq1
returns-then-below-eq1 g c =
    let one : below_at c.args.nodes.now c.args.text.now ≡ 1 = sym c.below.ensures ∙ grind arith in
    left c.args.text.now c.args.nodes.now c.remove.new.self None c.remove.ensures.updates (sym (ap (λ n. n - 1) one))
    (sym (none_left (values_at c.args.nodes.now c.args.text.now) (c.requires.last_is_empty one)))
    (λ k some had. absurd (omega arith))

pub returns-in-Some : goal.returns-in-Some
returns-in-Some g c =
    let had : node_at c.args.nodes.now c.args.text.now ≡ Some c.in-Some.node.now =
    sym c.get_mut.ensures.value ∙ ap option_copied_mut c.in-Some.is in
    left c.args.text.now c.args.nodes.now _ (Some _) ((c.get_mut.follows.holds _).3 (search rules))
    (ap (λ n. n - 1) (sym (ap count_of had))) (sym (ap values_of had)) (λ k some so. ap (mark_of k) (sym had) ∙ so)
