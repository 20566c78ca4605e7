use Rattle.std.proofs.Common.{rules, append_assoc, ◌≡◌, ◌++◌, [], ◌∷◌, ◌∙◌, ap}
use Rattle.incarnation_file.specs.Line.{digits}
use Rattle.incarnation_file.specs.declared.raising.TheConstants.{CHECKSUM_DIGITS}
use Rattle.incarnation_file.proofs.raising.line_with.Goals as goal

pub returns : goal.returns
returns c =
    let text : c.push-2.new.self.items
    ≡ digits CHECKSUM_DIGITS c.checksum.result ++ 32 ∷ (c.args.body.now ++ 10 ∷ []) =
    search (rules, append_assoc) in
    text ∙ ap (λ s. digits CHECKSUM_DIGITS s ++ 32 ∷ (c.args.body.now ++ 10 ∷ [])) c.checksum.ensures
