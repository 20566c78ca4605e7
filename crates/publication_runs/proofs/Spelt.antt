-- The line of a publication that is plainly written: what it means, and that it is short.
use Rattle.std.proofs.Common.{◌≡◌, ℕ, ◌+◌, ◌≤◌, false, List, [], ◌∷◌, ◌++◌, length, refl, ap, sym, arith, length-append, append_assoc, append-nil, Option, Some, None, Ok}
use Rattle.std.specs.Prelude.{is_some, codes}
use Rattle.std.specs.Option.{option_to_list}
use Rattle.subj.specs.declared.limits.TheConstants.{MAX_SUBJECT, CLIENT_LINE}
use Rattle.subj.specs.Names.{subject_fault}
use Rattle.line_fields.specs.Spelling.{IsField, ComesNext, FieldsFollow, IsLineOf}
use Rattle.client_frames.specs.declared.client_line.ClientLine.TheVariants.{Pub}
use Rattle.client_frames.specs.declared.client_line.PubHead.{PubHead}
use Rattle.client_frames.specs.Lines.{line_meaning, reply_fault, publication_fault}
use Rattle.client_frames.specs.Messages.{reply_field}
use Rattle.client_frames.specs.Spelling.{outer_fields, publishing, Spells}
use Rattle.client_frames.proofs.SpellingCommands.{means_what_it_spells}
use Rattle.publication_runs.specs.declared.lines.TheConstants.{SIZE_DIGITS}
use Rattle.publication_runs.specs.Lines.{PubFields, line_text, IsPlainLine}
use Rattle.publication_runs.proofs.Names.{subject_is_short, number_is_short}

-- ---- fields with one blank in front of each

one_field : (field rest : List ℕ) (others : List (List ℕ))
    → IsField field
    → FieldsFollow others rest
    → ComesNext field (32 ∷ (field ++ rest)) (FieldsFollow others)
one_field field rest others is follow = record {
  gap = 32 ∷ [];
  rest = rest;
  whole = refl;
  is_gap = (refl, refl);
  is_field = is;
  follows = follow;
}

last_field : (field : List ℕ) → IsField field → ComesNext field (32 ∷ field) (FieldsFollow [])
last_field field is = record {
  gap = 32 ∷ [];
  rest = [];
  whole = ap (λ l. 32 ∷ l) (sym (append-nil field));
  is_gap = (refl, refl);
  is_field = is;
  follows = refl;
}

some_reply : (reply digits : List ℕ)
    → IsField reply
    → IsField digits
    → FieldsFollow (reply ∷ digits ∷ []) (32 ∷ ((reply ++ 32 ∷ []) ++ digits))
some_reply reply digits is are = record {
  gap = 32 ∷ [];
  rest = 32 ∷ digits;
  whole = ap (λ l. 32 ∷ l) (append_assoc reply (32 ∷ []) digits);
  is_gap = (refl, refl);
  is_field = is;
  follows = last_field digits are;
}

reply_follows : (reply : Option (List ℕ)) (digits : List ℕ)
    → reply_fault reply ≡ None
    → IsField digits
    → FieldsFollow (option_to_list reply ++ digits ∷ []) (codes " " ++ (reply_field reply ++ digits))
reply_follows None digits is are = last_field digits are
reply_follows (Some reply) digits is are = some_reply reply digits (subject_is_short reply is).is_field are

-- ---- what the line means, without its CR LF

abbrev pub head_by : PubFields → ℕ → PubHead
head_by fields size = record { subject = fields.subject; reply = fields.reply; headers = None; size = size }

-- what stands behind the operation
abbrev behind_operation : PubFields → List ℕ
behind_operation fields = codes " " ++ (fields.subject ++ (codes " " ++ (reply_field fields.reply ++ fields.digits)))

abbrev arguments_of : PubFields → List (List ℕ)
arguments_of fields = outer_fields fields.subject fields.reply fields.digits

no_fault : (subject : List ℕ) (reply : Option (List ℕ))
    → subject_fault subject ≡ None
    → reply_fault reply ≡ None
    → is_some (publication_fault subject reply) ≡ false
no_fault subject reply is is_too = rw (is, is_too) refl

line_is : (line : List ℕ) (fields : PubFields) (size : ℕ)
    → IsPlainLine line fields size
    → IsLineOf (codes "PUB") (arguments_of fields) (line_text fields)
line_is line fields size plain = record {
  rest = behind_operation fields;
  whole = refl;
  is_field = (refl, refl);
  follows = one_field fields.subject (codes " " ++ (reply_field fields.reply ++ fields.digits))
      (option_to_list fields.reply ++ fields.digits ∷ []) (subject_is_short fields.subject plain.is_subject).is_field
      (reply_follows fields.reply fields.digits plain.is_reply
      (number_is_short SIZE_DIGITS fields.digits size plain.is_size).is_field);
}

spells : (line : List ℕ) (fields : PubFields) (size : ℕ)
    → IsPlainLine line fields size
    → Spells (line_text fields) (Pub (head_by fields size))
spells line fields size plain = record {
  named = publishing None;
  text = behind_operation fields;
  arguments = arguments_of fields;
  operation = record {
    field = codes "PUB";
    whole = refl;
    fields = line_is line fields size plain;
    named = refl;
  };
  spelt = (
    refl,
    record { digits = fields.digits; are = refl; is_size = plain.is_size },
    no_fault fields.subject fields.reply plain.is_subject plain.is_reply,
  );
}

pub line_means : (line : List ℕ) (fields : PubFields) (size : ℕ)
    → IsPlainLine line fields size
    → line_meaning (line_text fields) ≡ Ok (Pub (head_by fields size))
line_means line fields size plain =
    means_what_it_spells (line_text fields) (Pub (head_by fields size)) (spells line fields size plain)

-- ---- it is short

reply_is_short : (reply : Option (List ℕ)) → reply_fault reply ≡ None → length (reply_field reply) ≤ MAX_SUBJECT + 1
reply_is_short None is = omega arith
reply_is_short (Some reply) is =
    let len = length-append reply (32 ∷ []) in
    let bound = (subject_is_short reply is).short in
    omega (arith, len)

-- two names, the digits, the operation and three blanks
pub line_is_short : (line : List ℕ) (fields : PubFields) (size : ℕ)
    → IsPlainLine line fields size
    → length (line_text fields) ≤ CLIENT_LINE
line_is_short line fields size plain =
    let first : length fields.subject ≤ MAX_SUBJECT = (subject_is_short fields.subject plain.is_subject).short in
    let second : length (reply_field fields.reply) ≤ MAX_SUBJECT + 1 = reply_is_short fields.reply plain.is_reply in
    let third : length fields.digits ≤ SIZE_DIGITS =
    (number_is_short SIZE_DIGITS fields.digits size plain.is_size).short in
    let tail_length = length-append (reply_field fields.reply) fields.digits in
    let whole_length = length-append fields.subject (32 ∷ (reply_field fields.reply ++ fields.digits)) in
    omega (arith, tail_length, whole_length)
