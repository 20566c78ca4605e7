-- What a scan has found, and that nothing stands there where it has found nothing.
use Rattle.std.proofs.Common.{◌≡◌, ℕ, ◌+◌, ◌-◌, ◌<◌, ◌≤◌, true, false, List, [], ◌∷◌, ◌++◌, length, take, refl, ap, sym, ◌∙◌, subst, arith, append_assoc, length-append, Option, Some, None}
use Rattle.std.specs.Prelude.{codes, is_none, is_some, not}
use Rattle.std.specs.Str.{bytes_eq}
use Rattle.std.proofs.lemmas.Slice.Eq.{bytes_eq-Decides}
use Rattle.std.proofs.lemmas.List.{append_cancel_left}
use Rattle.std.proofs.Math.Seq.{take-append_seam}
use Rattle.subj.specs.declared.messages.Pub.{Pub}
use Rattle.subj.specs.Names.{subject_fault}
use Rattle.subj.specs.declared.limits.TheConstants.{MAX_PAYLOAD}
use Rattle.job_block.specs.Publications.{lent_pub}
use Rattle.line_fields.specs.LineEnd.{line_end}
use Rattle.client_frames.specs.Arguments.{count_of}
use Rattle.client_frames.specs.Lines.{reply_fault}
use Rattle.client_frames.specs.Messages.{reply_field}
use Rattle.publication_runs.specs.Lines.{PubFields, line_text, IsPlainLine}
use Rattle.publication_runs.specs.Runs.{Publication, fields_of, BeginsWith}
use Rattle.publication_runs.specs.Cuts.{blank, cr, HasNo, IsCutAt, BeginsOtherwise, AreCut, BeginsWithFields, HasNoFields, HasNoLine, HasNoLineOn, BeginsWithPayload, HasNoPayload}
use Rattle.publication_runs.specs.States.{RunState}
use Rattle.publication_runs.specs.Scans.{HasEnded}
use Rattle.publication_runs.specs.Lent.{LentState, IsAheadAs}
use Rattle.publication_runs.proofs.Bytes.{stands_there, cut_once}
use Rattle.publication_runs.proofs.Fields.{behind_word, cut_alike, plain_is_cut}

-- ---- no line

-- what stands between `PUB` with its blank and the first CR, and what stands behind that
line_there : (whole text front end : List ℕ) (fields : PubFields) (rest : List ℕ)
    → whole ≡ codes "PUB " ++ text
    → IsCutAt cr text front end
    → AreCut fields
    → whole ≡ line_text fields ++ (line_end ++ rest)
    → (front ≡ behind_word fields) × (end ≡ 10 ∷ rest)
line_there whole text front end fields rest is cut are is_line =
    cut_once cr front end (behind_word fields) (10 ∷ rest) cut.first are.end
    (sym cut.whole
    ∙ append_cancel_left (codes "PUB ") text (behind_word fields ++ 13 ∷ 10 ∷ rest) (sym is ∙ is_line ∙ bracketed))
  where
    bracketed : line_text fields ++ (line_end ++ rest) ≡ codes "PUB " ++ (behind_word fields ++ 13 ∷ 10 ∷ rest)
    bracketed = refl

-- no LF stands behind the first CR
pub ends_otherwise : (whole text front end : List ℕ)
    → whole ≡ codes "PUB " ++ text
    → IsCutAt cr text front end
    → BeginsOtherwise (10 ∷ []) end
    → HasNoFields whole
ends_otherwise whole text front end is cut otherwise fields rest are is_line =
    otherwise rest (line_there whole text front end fields rest is cut are is_line).1

-- there is one field
pub has_one_field : (whole text front end : List ℕ)
    → whole ≡ codes "PUB " ++ text
    → IsCutAt cr text front end
    → HasNo blank front
    → HasNoFields whole
has_one_field whole text front end is cut lacks fields rest are is_line =
    stands_there blank fields.subject (reply_field fields.reply ++ fields.digits)
    (subst (HasNo blank) (line_there whole text front end fields rest is cut are is_line).0 lacks)

-- ---- a line that is refused

-- a plain line and what stands behind it, with the brackets of its fields
as_fields : (line : List ℕ) (fields : PubFields) (size : ℕ) (rest : List ℕ)
    → IsPlainLine line fields size
    → line ++ rest ≡ line_text fields ++ (line_end ++ rest)
as_fields line fields size rest plain =
    ap (λ l. l ++ rest) plain.whole ∙ append_assoc (line_text fields) line_end rest

pub no_fields : (text : List ℕ) → HasNoFields text → HasNoLine text
no_fields text none line fields size rest plain is =
    none fields rest (plain_is_cut line fields size plain) (is ∙ as_fields line fields size rest plain)

-- any plain line there has the fields that were found
found_fields : (found : PubFields) (text rest line : List ℕ) (fields : PubFields) (size : ℕ) (behind : List ℕ)
    → BeginsWithFields found text rest
    → IsPlainLine line fields size
    → text ≡ line ++ behind
    → found ≡ fields
found_fields found text rest line fields size behind begins plain is =
    (cut_alike found fields rest behind begins.are_cut (plain_is_cut line fields size plain)
    (sym begins.whole ∙ is ∙ as_fields line fields size behind plain)).0

pub no_size : (found : PubFields) (text rest : List ℕ)
    → BeginsWithFields found text rest
    → None ≡ count_of found.digits
    → HasNoLine text
no_size found text rest begins none line fields size behind plain is =
    let same = found_fields found text rest line fields size behind begins plain is in
    let sized : None ≡ Some size = none ∙ ap (λ f. count_of f.digits) same ∙ plain.is_size in
    absurd (cc)

pub too_large : (found : PubFields) (text rest : List ℕ) (n : ℕ)
    → BeginsWithFields found text rest
    → Some n ≡ count_of found.digits
    → MAX_PAYLOAD < n
    → HasNoLine text
too_large found text rest n begins is_n above line fields size behind plain is =
    let same = found_fields found text rest line fields size behind begins plain is in
    let sized : Some n ≡ Some size = is_n ∙ ap (λ f. count_of f.digits) same ∙ plain.is_size in
    let alike : n ≡ size = cc in
    let fits : size ≤ MAX_PAYLOAD = plain.fits in
    absurd (omega arith)

pub bad_subject : (found : PubFields) (text rest : List ℕ)
    → BeginsWithFields found text rest
    → true ≡ is_some (subject_fault found.subject)
    → HasNoLine text
bad_subject found text rest begins bad line fields size behind plain is =
    let same = found_fields found text rest line fields size behind begins plain is in
    let good : true ≡ false = bad ∙ ap (λ f. is_some (subject_fault f.subject)) same ∙ ap is_some plain.is_subject in
    absurd (cc)

pub bad_reply : (found : PubFields) (text rest : List ℕ)
    → BeginsWithFields found text rest
    → false ≡ is_none (reply_fault found.reply)
    → HasNoLine text
bad_reply found text rest begins bad line fields size behind plain is =
    let same = found_fields found text rest line fields size behind begins plain is in
    let good : false ≡ true = bad ∙ ap (λ f. is_none (reply_fault f.reply)) same ∙ ap is_none plain.is_reply in
    absurd (cc)

-- ---- a line that is taken

none_by : {A : Type 0} (o : Option A) → true ≡ is_none o → o ≡ None
none_by None is = refl
none_by (Some x) is = absurd (cc)

none_but : {A : Type 0} (o : Option A) → false ≡ is_some o → o ≡ None
none_but None is = refl
none_but (Some x) is = absurd (cc)

front_of : (text line rest : List ℕ) → text ≡ line ++ rest → take (length text - length rest) text ≡ line
front_of text line rest is =
    let whole : length text ≡ length line + length rest = ap (λ l. length l) is ∙ length-append line rest in
    let many : length text - length rest ≡ length line = omega arith in
    ap (λ n. take n text) many ∙ ap (take (length line)) is ∙ take-append_seam line rest

-- the line that is taken, and what stands behind it
pub rejoined : (found : PubFields) (text rest : List ℕ)
    → BeginsWithFields found text rest
    → text ≡ take (length text - length rest) text ++ rest
rejoined found text rest begins =
    let line = line_text found ++ line_end in
    let is : text ≡ line ++ rest = begins.whole ∙ sym (append_assoc (line_text found) line_end rest) in
    is ∙ ap (λ l. l ++ rest) (sym (front_of text line rest is))

pub plain_found : (found : PubFields) (text rest : List ℕ) (n : ℕ)
    → BeginsWithFields found text rest
    → Some n ≡ count_of found.digits
    → n ≤ MAX_PAYLOAD
    → false ≡ is_some (subject_fault found.subject)
    → true ≡ is_none (reply_fault found.reply)
    → IsPlainLine (take (length text - length rest) text) found n
plain_found found text rest n begins is_n fits valid good = record {
  whole =
      front_of text (line_text found ++ line_end) rest
      (begins.whole ∙ sym (append_assoc (line_text found) line_end rest));
  is_subject = none_but (subject_fault found.subject) valid;
  is_reply = none_by (reply_fault found.reply) good;
  is_size = sym is_n;
  fits = fits;
}

-- ---- a line on a subject

pub no_line_on : (subject text : List ℕ) → HasNoLine text → HasNoLineOn subject text
no_line_on subject text none line fields size rest plain on = none line fields size rest plain

-- the text does not begin with `PUB`
pub not_published : (subject text : List ℕ) → BeginsOtherwise (codes "PUB ") text → HasNoLineOn subject text
not_published subject text otherwise line fields size rest plain on is =
    otherwise (behind_word fields ++ (line_end ++ rest)) (is ∙ as_fields line fields size rest plain)

-- the subject does not stand behind `PUB`
pub not_on : (subject text front : List ℕ)
    → text ≡ codes "PUB " ++ front
    → BeginsOtherwise subject front
    → HasNoLineOn subject text
not_on subject text front begun otherwise line fields size rest plain on is =
    otherwise ((codes " " ++ (reply_field fields.reply ++ fields.digits)) ++ (line_end ++ rest))
    (append_cancel_left (codes "PUB ") front (behind_word fields ++ (line_end ++ rest))
    (sym begun ∙ is ∙ as_fields line fields size rest plain)
    ∙ append_assoc fields.subject (codes " " ++ (reply_field fields.reply ++ fields.digits)) (line_end ++ rest)
    ∙ ap (λ s. s ++ ((codes " " ++ (reply_field fields.reply ++ fields.digits)) ++ (line_end ++ rest))) on)

-- the line that stands there is on another
pub on_another : (found : PubFields) (size : ℕ) (line subject text rest : List ℕ)
    → IsPlainLine line found size
    → text ≡ line ++ rest
    → true ≡ not (bytes_eq found.subject subject)
    → HasNoLineOn subject text
on_another found size line subject text rest plain is other there fields most behind plainly on is_there =
    let same = cut_alike found fields rest behind (plain_is_cut line found size plain)
    (plain_is_cut there fields most plainly)
    (sym (as_fields line found size rest plain) ∙ sym is ∙ is_there ∙ as_fields there fields most behind plainly) in
    let equal = (bytes_eq-Decides found.subject subject).1 (ap (λ f. f.subject) same.0 ∙ on) in
    let never : true ≡ false = other ∙ ap not equal in
    absurd (cc)

-- ---- a scan that has ended

pub no_line_there : (subject : List ℕ) (s : RunState) → HasNoLineOn subject s.behind → HasEnded subject s
no_line_there subject s none publication rest begins on =
    absurd (none begins.line (fields_of publication begins.digits) (length publication.payload)
    (publication.payload ++ (line_end ++ rest)) begins.is_line on begins.whole)

-- two plain lines at one place announce the same
announced : (line : List ℕ) (fields : PubFields) (size : ℕ) (text behind : List ℕ) (publication : Publication)
    (rest : List ℕ)
    → IsPlainLine line fields size
    → behind ≡ line ++ text
    → BeginsWith publication behind rest
    → (size ≡ length publication.payload) × (text ≡ publication.payload ++ (line_end ++ rest))
announced line fields size text behind publication rest plain is begins =
    let other = fields_of publication begins.digits in
    let announced_size = length publication.payload in
    let tail = publication.payload ++ (line_end ++ rest) in
    let same =
    cut_alike fields other text tail (plain_is_cut line fields size plain)
    (plain_is_cut begins.line other announced_size begins.is_line)
    (sym (as_fields line fields size text plain) ∙ sym is ∙ begins.whole
    ∙ as_fields begins.line other announced_size tail begins.is_line) in
    let sizes : Some size ≡ Some announced_size =
    sym plain.is_size ∙ ap (λ f. count_of f.digits) same.0 ∙ begins.is_line.is_size in
    (cc, same.1)

pub no_payload_there : (subject : List ℕ) (s : RunState) (line : List ℕ) (fields : PubFields) (size : ℕ) (text : List ℕ)
    → IsPlainLine line fields size
    → s.behind ≡ line ++ text
    → HasNoPayload size text
    → HasEnded subject s
no_payload_there subject s line fields size text plain is none publication rest begins on =
    let there = announced line fields size text s.behind publication rest plain is begins in
    absurd (none publication.payload rest (sym there.0) there.1)

-- ---- a publication that is found

pub found_ahead : (s : LentState) (line : List ℕ) (fields : PubFields) (size : ℕ) (text payload behind : List ℕ)
    (given : Pub)
    → IsPlainLine line fields size
    → fields.subject ≡ s.subject
    → s.run.behind ≡ line ++ text
    → BeginsWithPayload size text payload behind
    → 0 < s.run.left
    → given ≡ lent_pub s.subject fields.reply payload s.echo
    → IsAheadAs behind given s
found_ahead s line fields size text payload behind given plain on is there more as_given =
    let sized : size ≡ length payload = sym there.is_size in
    record {
      publication = record { subject = fields.subject; reply = fields.reply; payload = payload };
      is_ahead = record {
        begins = record {
          line = line;
          digits = fields.digits;
          is_line = subst (λ n. IsPlainLine line fields n) sized plain;
          whole = is ∙ ap (λ l. line ++ l) there.whole;
        };
        more = more;
      };
      is_on = on;
      is_as = as_given ∙ ap (λ subject. lent_pub subject fields.reply payload s.echo) (sym on);
    }
