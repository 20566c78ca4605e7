use Rattle.std.proofs.Common.{rules, ◌≡◌, ◌++◌, [], ◌∷◌, List, ℕ, sym, ◌∙◌, ap}
use Rattle.std.proofs.lemmas.Result.{IfOk-weaker}
use Rattle.incarnation_file.specs.Line.{digits, checksum_from, body}
use Rattle.incarnation_file.specs.declared.raising.TheConstants.{CHECKSUM_DIGITS}
use Rattle.incarnation_file.proofs.Digits.{line_is}
use Rattle.incarnation_file.proofs.raising.line.Goals as goal

pub returns : goal.returns
returns c =
    let server = c.args.last.now.server in
    let n = c.args.last.now.incarnation in
    let is_body : c.deref.result.now ≡ body server n = search rules in
    IfOk-weaker c.line_with.result _ _
    (λ text is. record {
      name = c.bytes.ensures.valid;
      least = search rules;
      most = search rules;
      whole =
          is
          ∙ ap (λ (l : List ℕ). digits CHECKSUM_DIGITS (checksum_from 0 l) ++ 32 ∷ (l ++ 10 ∷ [])) is_body
          ∙ sym (line_is server n);
    })
    c.line_with.ensures
