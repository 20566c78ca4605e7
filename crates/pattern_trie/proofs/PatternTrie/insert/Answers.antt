use Rattle.std.proofs.Common.{rules, ◌∷◌, [], ◌++◌, ◌∙◌, ap, sym, subst}
use Rattle.std.proofs.Math.Logic.{∥∥₁_map}
use Rattle.pattern_trie.specs.Nodes.{Values, values_at, EntersEach, IsSame}
use Rattle.pattern_trie.specs.Beginnings.{is_beginning, beginning_with_rest}
use Rattle.pattern_trie.specs.Held.{Holds}
use Rattle.pattern_trie.proofs.Fills.{pushed, same_filled, left_again}
use Rattle.pattern_trie.proofs.Literals.{put_literally}
use Rattle.pattern_trie.proofs.PatternTrie.insert.Goals as goal

pub invariant_of-self : goal.invariant_of-self
invariant_of-self g c =
    let same : IsSame c.args.self.now.nodes c.enter_all.new.nodes = search rules in
    record {
      filled =
          ∥∥₁_map c.args.self.now.filled
          (λ h. (h.0, same_filled h.0 c.args.self.now.nodes c.enter_all.new.nodes h.1 same));
      literal = λ plain q faulty.
          same.values q ∙ ap (λ n. values_at n q) (sym c.note_wild.ensures.nodes)
          ∙ c.note_wild.new.self.literal plain q faulty;
    }

pub invariant_of-self-then-is_err : goal.invariant_of-self-then-is_err
invariant_of-self-then-is_err g c =
    let entered : EntersEach (λ q. is_beginning q c.bytes-text.result.now)
    (λ k q. is_beginning (beginning_with_rest k q) c.bytes-text.result.now) c.args.self.now.nodes
    c.enter_all.new.nodes = search rules in
    let same : IsSame c.enter_all.new.nodes c.push_value.new.nodes = search rules in
    record {
      filled =
          ∥∥₁_map c.args.self.now.filled (λ h. (
            h.0,
            left_again h.0 c.bytes-text.result.now c.args.self.now.nodes c.enter_all.new.nodes c.push_value.new.nodes
                c.leave_all.new.nodes h.1 entered same c.leave_all.ensures,
          ));
      literal = λ plain q faulty.
          c.leave_all.ensures.values q ∙ same.values q ∙ entered.values q
          ∙ ap (λ n. values_at n q) (sym c.note_wild.ensures.nodes)
          ∙ c.note_wild.new.self.literal plain q faulty;
    }

pub invariant_of-self-else-is_err : goal.invariant_of-self-else-is_err
invariant_of-self-else-is_err g c =
    let text = c.bytes-text.result.now in
    let entered : EntersEach (λ q. is_beginning q text) (λ k q. is_beginning (beginning_with_rest k q) text)
    c.args.self.now.nodes c.enter_all.new.nodes = search rules in
    let put : Values text (values_at c.enter_all.new.nodes text ++ c.args.value ∷ []) c.enter_all.new.nodes
    c.push_value.new.nodes = search rules in
    record {
      filled =
          ∥∥₁_map c.args.self.now.filled (λ h. (
            h.0 ++ (text, c.args.value) ∷ [],
            pushed g.V.PartialEq.eq text c.args.value h.0 c.args.self.now.nodes c.enter_all.new.nodes
                c.push_value.new.nodes h.1 entered put,
          ));
      literal = λ plain q faulty.
          put_literally text q (values_at c.enter_all.new.nodes text ++ c.args.value ∷ []) c.enter_all.new.nodes
          c.push_value.new.nodes (c.note_wild.ensures.plain plain) put faulty
          (entered.values q ∙ ap (λ n. values_at n q) (sym c.note_wild.ensures.nodes)
          ∙ c.note_wild.new.self.literal plain q faulty);
    }

pub returns-clause-ok : goal.returns-clause-ok
returns-clause-ok g c = λ held is.
    let text = c.bytes-text.result.now in
    let entered : EntersEach (λ q. is_beginning q text) (λ k q. is_beginning (beginning_with_rest k q) text)
    c.args.self.now.nodes c.enter_all.new.nodes = search rules in
    let put : Values text (values_at c.enter_all.new.nodes text ++ c.args.value ∷ []) c.enter_all.new.nodes
    c.push_value.new.nodes = search rules in
    subst (λ t. Holds (held ++ (t, c.args.value) ∷ []) c.push_value.new.nodes) c.bytes-text.ensures.same
    (pushed g.V.PartialEq.eq text c.args.value held c.args.self.now.nodes c.enter_all.new.nodes c.push_value.new.nodes
    is entered put)
