-- A line is cut into its fields in one way.
use Rattle.std.proofs.Common.{◌≡◌, ℕ, Bool, true, false, ◌||◌, List, [], ◌∷◌, ◌++◌, refl, ap, sym, ◌∙◌, subst, append_assoc, Option, Some, None}
use Rattle.std.specs.Prelude.{codes}
use Rattle.std.specs.List.{list_any}
use Rattle.std.proofs.lemmas.List.{append_cancel_left}
use Rattle.memchr.specs.Find.{is_byte}
use Rattle.list_laws.proofs.Tests.{or_false}
use Rattle.line_fields.specs.LineEnd.{line_end}
use Rattle.client_frames.specs.Lines.{reply_fault}
use Rattle.client_frames.specs.Messages.{reply_field}
use Rattle.publication_runs.specs.declared.lines.TheConstants.{SIZE_DIGITS}
use Rattle.publication_runs.specs.Lines.{PubFields, line_text, IsPlainLine}
use Rattle.publication_runs.specs.Cuts.{blank, cr, HasNo, IsCutTail, AreCut}
use Rattle.publication_runs.proofs.Bytes.{stands_there, cut_once}
use Rattle.publication_runs.proofs.Names.{subject_is_short, number_is_short}

-- ---- the fields of a plain line

none_in_both : (p : ℕ → Bool) (front behind : List ℕ)
    → list_any p front ≡ false
    → list_any p behind ≡ false
    → list_any p (front ++ behind) ≡ false
none_in_both p [] behind e e_too = e_too
none_in_both p (x ∷ xs) behind e e_too =
    let parts = or_false (p x) (list_any p xs) e in
    ap (λ b. b || list_any p (xs ++ behind)) parts.0 ∙ none_in_both p xs behind parts.1 e_too

reply_no_cr : (reply : Option (List ℕ)) → reply_fault reply ≡ None → HasNo cr (reply_field reply)
reply_no_cr None is = refl
reply_no_cr (Some reply) is = none_in_both (is_byte cr) reply (blank ∷ []) (subject_is_short reply is).no_cr refl

tail_is_cut : (reply : Option (List ℕ)) (digits : List ℕ)
    → reply_fault reply ≡ None
    → HasNo blank digits
    → IsCutTail reply digits
tail_is_cut None digits is lacks = lacks
tail_is_cut (Some reply) digits is lacks = (subject_is_short reply is).no_blank

pub plain_is_cut : (line : List ℕ) (fields : PubFields) (size : ℕ) → IsPlainLine line fields size → AreCut fields
plain_is_cut line fields size plain =
    let name = subject_is_short fields.subject plain.is_subject in
    let number = number_is_short SIZE_DIGITS fields.digits size plain.is_size in
    record {
      first = name.no_blank;
      second = tail_is_cut fields.reply fields.digits plain.is_reply number.no_blank;
      end = none_in_both (is_byte cr) fields.subject (blank ∷ (reply_field fields.reply ++ fields.digits)) name.no_cr
          (none_in_both (is_byte cr) (reply_field fields.reply) fields.digits (reply_no_cr fields.reply plain.is_reply)
          number.no_cr);
    }

-- ---- in one way

tail_once : (reply : Option (List ℕ)) (digits : List ℕ) (other : Option (List ℕ)) (more : List ℕ)
    → IsCutTail reply digits
    → IsCutTail other more
    → reply_field reply ++ digits ≡ reply_field other ++ more
    → (reply ≡ other) × (digits ≡ more)
tail_once None digits None more cut cut_too is = (refl, is)
tail_once None digits (Some other) more cut cut_too is =
    absurd (stands_there blank other more (subst (HasNo blank) (is ∙ append_assoc other (blank ∷ []) more) cut))
tail_once (Some reply) digits None more cut cut_too is =
    absurd (stands_there blank reply digits
    (subst (HasNo blank) (sym is ∙ append_assoc reply (blank ∷ []) digits) cut_too))
tail_once (Some reply) digits (Some other) more cut cut_too is =
    let both =
    cut_once blank reply digits other more cut cut_too
    (sym (append_assoc reply (blank ∷ []) digits) ∙ is ∙ append_assoc other (blank ∷ []) more) in
    (ap (λ r. Some r) both.0, both.1)

-- what stands behind `PUB` and its blank
abbrev pub behind_word : PubFields → List ℕ
behind_word fields = fields.subject ++ (codes " " ++ (reply_field fields.reply ++ fields.digits))

abbrev made_of : List ℕ → Option (List ℕ) → List ℕ → PubFields
made_of subject reply digits = record { subject = subject; reply = reply; digits = digits }

same_fields : (fields other : PubFields)
    → AreCut fields
    → AreCut other
    → behind_word fields ≡ behind_word other
    → fields ≡ other
same_fields fields other are are_too is =
    let names =
    cut_once blank fields.subject (reply_field fields.reply ++ fields.digits) other.subject
    (reply_field other.reply ++ other.digits) are.first are_too.first is in
    let tails = tail_once fields.reply fields.digits other.reply other.digits are.second are_too.second names.1 in
    ap (λ subject. made_of subject fields.reply fields.digits) names.0
    ∙ ap (λ reply. made_of other.subject reply fields.digits) tails.0
    ∙ ap (λ digits. made_of other.subject other.reply digits) tails.1

pub cut_alike : (fields other : PubFields) (behind rest : List ℕ)
    → AreCut fields
    → AreCut other
    → line_text fields ++ (line_end ++ behind) ≡ line_text other ++ (line_end ++ rest)
    → (fields ≡ other) × (behind ≡ rest)
cut_alike fields other behind rest are are_too is =
    let lines = cut_once cr (line_text fields) (10 ∷ behind) (line_text other) (10 ∷ rest) are.end are_too.end is in
    let ends : 10 ∷ behind ≡ 10 ∷ rest = lines.1 in (
      same_fields fields other are are_too
          (append_cancel_left (codes "PUB ") (behind_word fields) (behind_word other) lines.0),
      cc,
    )
