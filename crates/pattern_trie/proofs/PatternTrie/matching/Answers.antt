use Rattle.std.proofs.Common.{◌++◌, [], sym, ◌∙◌, ap, subst, List}
use Rattle.std.specs.List.Sorted.{IsPermutation}
use Rattle.std.proofs.lemmas.List.Sorted.{IsPermutation-append_right, IsPermutation-refl}
use Rattle.subj.specs.Names.{tokens}
use Rattle.pattern_trie.specs.Matchers.{matchers, values_under, matching_values}
use Rattle.pattern_trie.specs.Nodes.{IsLiteral, values_at}
use Rattle.pattern_trie.proofs.Literals.{literally}
use Rattle.pattern_trie.proofs.Permutes.{permuted, on_ok}
use Rattle.pattern_trie.proofs.Splitting.{some_tokens}
use Rattle.pattern_trie.proofs.PatternTrie.matching.Goals as goal

pub returns-then-not-self : goal.returns-then-not-self
returns-then-not-self g c = λ held is.
    let subject = c.args.subject.now in
    let found = c.args.found.now.items in
    let literal : IsLiteral c.args.self.now.nodes = c.args.self.now.literal c.if-not-self.true in
    on_ok c.add_values.result _ _
    (λ e.
    subst (IsPermutation (found ++ matching_values subject held))
    (sym (◌∙◌ {A = List g.row.V.Denot} e
    (ap (λ vs. found ++ vs)
    (ap (values_at c.args.self.now.nodes) c.bytes-text.ensures.same
    ∙ literally subject held c.args.self.now.nodes is literal))))
    (IsPermutation-refl (found ++ matching_values subject held)))
    c.add_values.ensures

pub returns : goal.returns
returns g c = λ held is.
    let subject = c.args.subject.now in
    let found = c.args.found.now.items in
    let all = permuted subject held c.bytes-text.ensures.valid (some_tokens subject) in
    let moved :
    IsPermutation (found ++ matching_values subject held) (found ++ values_under held [] (matchers (tokens subject))) =
    IsPermutation-append_right found (matching_values subject held) (values_under held [] (matchers (tokens subject)))
    all in
    on_ok c.gather.result _ _
    (λ e.
    subst (IsPermutation (found ++ matching_values subject held))
    (sym (◌∙◌ {A = List g.row.V.Denot} e
    (ap (λ p. found ++ values_under held p (matchers (tokens c.bytes-text.result.now))) c.in_ok-path.ensures.items
    ∙ ap (λ t. found ++ values_under held [] (matchers (tokens t))) c.bytes-text.ensures.same)))
    moved)
    (c.gather.ensures.found held is)
