use Rattle.std.proofs.Common.{rules, ◌≡◌, ℕ, ◌++◌, ◌∷◌, [], List, false, sym, subst, ◌∙◌, ap}
use Rattle.std.specs.Prelude.{codes}
use Rattle.std.specs.Option.{option_copied}
use Rattle.std.proofs.lemmas.List.{append-nil}
use Rattle.list_laws.specs.Lists.{is_empty}
use Rattle.subj.specs.Names.{tokens_behind}
use Rattle.pattern_trie.specs.Nodes.{below_at, has_mark, AreKnown}
use Rattle.pattern_trie.specs.Matchers.{matchers, text_with_token, values_under}
use Rattle.pattern_trie.proofs.Gathers.{values_under_none, token_none, walked}
use Rattle.pattern_trie.proofs.Permutes.{on_ok}
use Rattle.pattern_trie.proofs.walks.+gather.Goals as goal

pub gather-gather_token-requires : goal.gather-gather_token-requires
gather-gather_token-requires g t c κs within =
    let path = c.args.path.now.items in
    let known : AreKnown c.in-Some-marks_behind.marks c.args.nodes.now path = subst
    (AreKnown c.in-Some-marks_behind.marks c.args.nodes.now) c.deref-2.ensures.value
    c.in-Some-marks_behind.ensures.some in
    let rest : c.has_rest.result ≡ false
    → (is_empty path ≡ false) × (has_mark (codes ">") c.args.nodes.now path ≡ false) =
    λ e. known (codes ">") (sym c.has_rest.ensures ∙ e) in
    search (rules, rest)

pub gather-gather_token-requires-3 : goal.gather-gather_token-requires-3
gather-gather_token-requires-3 g t c κs within =
    let path = c.args.path.now.items in
    let known : AreKnown c.in-Some-marks_behind.marks c.args.nodes.now path = subst
    (AreKnown c.in-Some-marks_behind.marks c.args.nodes.now) c.deref-2.ensures.value
    c.in-Some-marks_behind.ensures.some in
    let then : c.gather_token-2.new.path.items ≡ path =
    ◌∙◌ {A = List ℕ} c.in_ok-gather_token-2.ensures.path c.in_ok-gather_token.ensures.path in
    let one : c.has_one.result ≡ false
    → (is_empty c.gather_token-2.new.path.items ≡ false)
    × (has_mark (codes "*") c.args.nodes.now c.gather_token-2.new.path.items ≡ false) = λ e.
    subst (λ p. (is_empty p ≡ false) × (has_mark (codes "*") c.args.nodes.now p ≡ false)) (sym then)
    (known (codes "*") (sym c.has_one.ensures ∙ e)) in
    search (rules, one)

pub gather-returns-in_default-marks_behind-clause-found : goal.gather-returns-in_default-marks_behind-clause-found
gather-returns-in_default-marks_behind-clause-found g t c = λ held is.
    let path = c.args.path.now.items in
    let none = subst (λ p. (is_empty p ≡ false) × (below_at c.args.nodes.now p ≡ 0)) c.deref-2.ensures.value
    c.in_default-marks_behind.ensures.none in
    sym (ap (λ vs. c.args.found.now.items ++ vs)
    (values_under_none held c.args.nodes.now path (matchers (tokens_behind (option_copied c.args.behind))) is none.0
    none.1) ∙ append-nil c.args.found.now.items)

pub gather-returns-clause-found : goal.gather-returns-clause-found
gather-returns-clause-found g t c = λ held is.
    let path = c.args.path.now.items in
    let token = c.split_token.result.0.now in
    let rest = tokens_behind (option_copied c.split_token.result.1) in
    let before : c.gather_token.new.path.items ≡ path = c.in_ok-gather_token.ensures.path in
    let then : c.gather_token-2.new.path.items ≡ path = ◌∙◌ {A = List ℕ} c.in_ok-gather_token-2.ensures.path before in
    let one : c.gather_token.new.found.items
    ≡ c.args.found.now.items ++ values_under held (text_with_token path (codes ">")) (matchers []) =
    c.in_ok-gather_token.ensures.found held is in
    let two : c.gather_token-2.new.found.items
    ≡ c.gather_token.new.found.items ++ values_under held (text_with_token path token) (matchers rest) =
    ◌∙◌ {A = List g.row.V.Denot} (c.in_ok-gather_token-2.ensures.found held is)
    (ap (λ p. c.gather_token.new.found.items ++ values_under held (text_with_token p token) (matchers rest)) before) in
    let cut : tokens_behind (option_copied c.args.behind) ≡ token ∷ rest =
    ◌∙◌ {A = List (List ℕ)} (ap (λ b. tokens_behind (option_copied b)) c.in-Some.is) c.split_token.ensures.cut in
    on_ok c.gather_token-3.result _ _
    (λ e.
    ◌∙◌ {A = List g.row.V.Denot}
    (walked held path token rest c.args.found.now.items c.gather_token.new.found.items c.gather_token-2.new.found.items
    c.gather_token-3.new.found.items one two
    (◌∙◌ {A = List g.row.V.Denot} e
    (ap (λ p. c.gather_token-2.new.found.items ++ values_under held (text_with_token p (codes "*")) (matchers rest))
    then)))
    (ap (λ ts. c.args.found.now.items ++ values_under held path (matchers ts)) (sym cut)))
    (c.gather_token-3.ensures.found held is)

pub gather_token-returns-then-not-is_marked-clause-found : goal.gather_token-returns-then-not-is_marked-clause-found
gather_token-returns-then-not-is_marked-clause-found g t c = λ held is.
    let path = c.args.path.now.items in
    let token = c.args.token.now in
    sym (ap (λ vs. c.args.found.now.items ++ vs)
    (token_none held c.args.nodes.now path token (matchers (tokens_behind (option_copied c.args.behind))) is
    (c.requires.known c.if-not-is_marked.true)) ∙ append-nil c.args.found.now.items)
