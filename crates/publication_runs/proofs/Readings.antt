-- A publication at the beginning of a text is read first, by two looks: its line and its payload. A run is read one
-- after the other.
use Rattle.std.proofs.Common.{◌≡◌, ℕ, suc, ◌+◌, ◌-◌, ◌≤◌, Bool, true, false, cond, List, [], ◌∷◌, ◌++◌, length, take, drop, map, refl, ap, sym, ◌∙◌, subst, arith, length-append, append_assoc, Option, Some, None, Ok}
use Rattle.std.specs.Prelude.{nat_lt, codes, decimal}
use Rattle.std.specs.Option.{option_map}
use Rattle.std.specs.List.{list_any}
use Rattle.std.proofs.lemmas.Bool.{le-leb}
use Rattle.std.proofs.lemmas.Bool.Decides.{nat_tests}
use Rattle.std.proofs.Math.Seq.{take-append_seam, drop-append_seam}
use Rattle.memchr.specs.Find.{is_byte}
use Rattle.list_laws.proofs.Tests.{or_false}
use Rattle.subj.specs.declared.limits.TheConstants.{MAX_PAYLOAD, CLIENT_LINE}
use Rattle.line_fields.specs.LineEnd.{line_end}
use Rattle.wire_cut.specs.declared.faults.CutFault.TheVariants.{PayloadTooLong}
use Rattle.wire_cut.specs.Cut.{line, payload, first_cr_lf, begins_with_cr_lf, cr_lf_at, cut_line, cut_line_at, cut_long_line, cut_payload, cut_payload_at}
use Rattle.wire_cut.specs.Reading.{something, size_fault, finding_next, finding_before, finding_by, finding, with_items, reading_after, reading_of}
use Rattle.wire_cut.proofs.SearchLemmas.{begins_with_cr_lf-no}
use Rattle.wire_cut.proofs.ReadingLemmas.{reading_of-look}
use Rattle.client_frames.specs.declared.client_line.Awaited.{Awaited}
use Rattle.client_frames.specs.declared.client_line.Awaited.TheVariants as awaits
use Rattle.client_frames.specs.declared.client_line.ClientLine.TheVariants.{Pub}
use Rattle.client_frames.specs.declared.client_line.PubHead.{PubHead}
use Rattle.client_frames.specs.Lines.{line_meaning}
use Rattle.client_frames.specs.Messages.{reply_field}
use Rattle.client_frames.specs.Streams.{StreamItem, published, line_told, client_grammar}
use Rattle.publication_runs.specs.declared.lines.TheConstants.{SIZE_DIGITS}
use Rattle.publication_runs.specs.Cuts.{cr, HasNo}
use Rattle.publication_runs.specs.Lines.{PubFields, line_text, IsPlainLine}
use Rattle.publication_runs.specs.Runs.{Publication, fields_of, head_of, item_of, run_items, BeginsWith, BeginsWithRun}
use Rattle.publication_runs.specs.Readings.{ReadsPublication, in_decimal, IsPlainInDecimal, ReadsRun, LeavesRest, ExtendsRun, TakesFront, IsSample}
use Rattle.publication_runs.proofs.Names.{number_again}
use Rattle.publication_runs.proofs.Fields.{plain_is_cut}
use Rattle.publication_runs.proofs.Spelt.{line_means, line_is_short}

-- ---- cutting

here : (x : ℕ) (xs : List ℕ) → is_byte cr x ≡ false → begins_with_cr_lf (x ∷ xs) ≡ false
here x xs e = begins_with_cr_lf-no (x ∷ xs) (λ at. let is : x ≡ 13 = at.cr in absurd (other x is e))
  where
    other : (x : ℕ) → x ≡ 13 → is_byte cr x ≡ false → ⊥
    other x is e = grind (arith, nat_tests)

first_is : (text rest : List ℕ) → HasNo cr text → first_cr_lf (text ++ 13 ∷ 10 ∷ rest) ≡ Some (length text)
unfolding first_cr_lf
first_is [] rest e = refl
first_is (x ∷ xs) rest e =
    let parts = or_false (is_byte cr x) (list_any (is_byte cr) xs) e in
    ap (λ b. cond b (Some 0) (option_map (λ i. suc i) (first_cr_lf (xs ++ 13 ∷ 10 ∷ rest))))
    (here x (xs ++ 13 ∷ 10 ∷ rest) parts.0)
    ∙ ap (option_map (λ i. suc i)) (first_is xs rest parts.1)

line_cut : (most : ℕ) (text rest : List ℕ)
    → HasNo cr text
    → length text ≤ most
    → cut_line most (text ++ 13 ∷ 10 ∷ rest) ≡ Ok (Some (line text))
line_cut most text rest lacks short =
    ap (cut_line_at most (text ++ 13 ∷ 10 ∷ rest)) (first_is text rest lacks)
    ∙ ap (λ b.
    cond b (Ok (Some (line (take (length text) (text ++ 13 ∷ 10 ∷ rest)))))
    (cut_long_line most (text ++ 13 ∷ 10 ∷ rest))) (le-leb (length text) most short)
    ∙ ap (λ front. Ok (Some (line front))) (take-append_seam text (13 ∷ 10 ∷ rest))

not_above : (a b : ℕ) (above : Bool) → nat_lt a b ≡ above → b ≤ a → above ≡ false
not_above a b above is le = grind (arith, nat_tests)

payload_cut : (bytes rest : List ℕ) → cut_payload (length bytes) (bytes ++ 13 ∷ 10 ∷ rest) ≡ Ok (Some (payload bytes))
payload_cut bytes rest =
    let whole = length-append bytes (13 ∷ 10 ∷ rest) in
    let there : cr_lf_at (bytes ++ 13 ∷ 10 ∷ rest) (length bytes) ≡ Some true =
    ap (λ b. cond b None (Some (begins_with_cr_lf (drop (length bytes) (bytes ++ 13 ∷ 10 ∷ rest)))))
    (not_above (length (bytes ++ 13 ∷ 10 ∷ rest)) (length bytes + 2) _ refl (omega (arith, whole)))
    ∙ ap (λ behind. Some (begins_with_cr_lf behind)) (drop-append_seam bytes (13 ∷ 10 ∷ rest)) in
    ap (cut_payload_at (length bytes) (bytes ++ 13 ∷ 10 ∷ rest)) there
    ∙ ap (λ front. Ok (Some (payload front))) (take-append_seam bytes (13 ∷ 10 ∷ rest))

behind_both : (front rest : List ℕ) → drop (length front + 2) (front ++ 13 ∷ 10 ∷ rest) ≡ rest
behind_both [] rest = refl
behind_both (x ∷ front) rest =
    let e : length (x ∷ front) + 2 ≡ suc (length front + 2) = omega arith in
    ap (λ n. drop n (x ∷ (front ++ 13 ∷ 10 ∷ rest))) e ∙ behind_both front rest

-- ---- the two looks

size_fits : (size : ℕ) → size ≤ MAX_PAYLOAD → size_fault MAX_PAYLOAD (Some size) ≡ None
size_fits size fits = ap (λ b. cond b (Some PayloadTooLong) None) (not_above MAX_PAYLOAD size _ refl fits)

-- a line that means a publication, however it is written
line_found : (head : PubHead) (text rest : List ℕ)
    → line_meaning text ≡ Ok (Pub head)
    → HasNo cr text
    → length text ≤ CLIENT_LINE
    → head.size ≤ MAX_PAYLOAD
    → finding client_grammar awaits.Line (text ++ 13 ∷ 10 ∷ rest) ≡ something [] (awaits.Payload head) rest
line_found head text rest means lacks short fits =
    ap (finding_by client_grammar awaits.Line (text ++ 13 ∷ 10 ∷ rest)) (line_cut CLIENT_LINE text rest lacks short)
    ∙ ap (λ behind. finding_before client_grammar behind (line_told (line_meaning text))) (behind_both text rest)
    ∙ ap (λ meaning. finding_before client_grammar rest (line_told meaning)) means
    ∙ ap (finding_next client_grammar [] (awaits.Payload head) rest) (size_fits head.size fits)

payload_found : (publication : Publication) (rest : List ℕ)
    → finding client_grammar (awaits.Payload (head_of publication)) (publication.payload ++ 13 ∷ 10 ∷ rest)
    ≡ something (item_of publication ∷ []) awaits.Line rest
payload_found publication rest =
    let head = head_of publication in
    ap (finding_by client_grammar (awaits.Payload head) (publication.payload ++ 13 ∷ 10 ∷ rest))
    (payload_cut publication.payload rest)
    ∙ ap (something (item_of publication ∷ []) awaits.Line) (behind_both publication.payload rest)

reading_by : (awaited next : Awaited) (bytes behind : List ℕ) (items : List StreamItem)
    → finding client_grammar awaited bytes ≡ something items next behind
    → reading_of client_grammar awaited bytes ≡ with_items items (reading_of client_grammar next behind)
reading_by awaited next bytes behind items is =
    reading_of-look client_grammar awaited bytes
    ∙ ap (reading_after (reading_of client_grammar) awaited bytes) is

-- ---- one publication

pub reads_publication : ReadsPublication
reads_publication publication text rest begins =
    let fields = fields_of publication begins.digits in
    let head = head_of publication in
    let size = length publication.payload in
    let plain = begins.is_line in
    let behind = publication.payload ++ (line_end ++ rest) in
    let line = line_found head (line_text fields) behind (line_means begins.line fields size plain)
    (plain_is_cut begins.line fields size plain).end (line_is_short begins.line fields size plain) plain.fits in
    ap (reading_of client_grammar awaits.Line)
    (begins.whole ∙ ap (λ l. l ++ behind) plain.whole ∙ append_assoc (line_text fields) line_end behind)
    ∙ reading_by awaits.Line (awaits.Payload head) (line_text fields ++ (line_end ++ behind)) behind [] line
    ∙ ap (with_items [])
    (reading_by (awaits.Payload head) awaits.Line behind rest (item_of publication ∷ [])
    (payload_found publication rest))

pub plain_in_decimal : IsPlainInDecimal
plain_in_decimal publication rest is =
    let size = length publication.payload in
    let fits : size ≤ MAX_PAYLOAD = is.fits in
    let fields = in_decimal publication in
    record {
      line = line_text fields ++ line_end;
      digits = fields.digits;
      is_line = record {
        whole = refl;
        is_subject = is.is_subject;
        is_reply = is.is_reply;
        is_size = number_again SIZE_DIGITS size (omega arith) (omega arith) (omega arith);
        fits = is.fits;
      };
      whole = sym (append_assoc (line_text fields) line_end (publication.payload ++ (line_end ++ rest)));
    }

-- ---- a run

pub reads_run : ReadsRun
reads_run text [] rest begins = ap (reading_of client_grammar awaits.Line) begins
reads_run text (publication ∷ publications) rest begins =
    reads_publication publication text begins.0 begins.1
    ∙ ap (with_items (item_of publication ∷ [])) (reads_run begins.0 publications rest begins.2)

-- a part behind others
dropped : (front rest : List ℕ) → drop (length (front ++ rest) - length rest) (front ++ rest) ≡ rest
dropped front rest =
    let whole = length-append front rest in
    let many : length (front ++ rest) - length rest ≡ length front = omega (arith, whole) in
    ap (λ n. drop n (front ++ rest)) many ∙ drop-append_seam front rest

-- all that was used up
front_bytes : (text : List ℕ) (publications : List Publication) (rest : List ℕ)
    → BeginsWithRun text publications rest
    → (front : List ℕ) × (text ≡ front ++ rest)
front_bytes text [] rest begins = ([], begins)
front_bytes text (publication ∷ publications) rest begins =
    let one = begins.1 in
    let others = front_bytes begins.0 publications rest begins.2 in
    let front = one.line ++ (publication.payload ++ (line_end ++ others.0)) in (
      front,
      one.whole ∙ ap (λ l. one.line ++ (publication.payload ++ (line_end ++ l))) others.1 ∙ (simp append_assoc),
    )

pub leaves_rest : LeavesRest
leaves_rest text publications rest begins =
    let used = front_bytes text publications rest begins in
    let whole = length-append used.0 rest in
    let len : length text ≡ length (used.0 ++ rest) = ap (λ l. length l) used.1 in (
      omega (arith, whole),
      ap (λ l. drop (length l - length rest) l) used.1 ∙ dropped used.0 rest,
    )

pub extends_run : ExtendsRun
extends_run text [] behind next rest given begins =
    (rest, subst (λ l. BeginsWith next l rest) (sym given) begins, refl)
extends_run text (publication ∷ publications) behind next rest given begins =
    (given.0, given.1, extends_run given.0 publications behind next rest given.2 begins)

pub takes_front : TakesFront
takes_front text [] others rest begins = (text, refl, begins)
takes_front text (publication ∷ front) others rest begins =
    let behind = takes_front begins.0 front others rest begins.2 in
    (behind.0, (begins.0, begins.1, behind.1), behind.2)

-- ---- a sample

pub is_sample : IsSample
is_sample = (
  codes "PUB c d 0\r\n\r\nPING\r\n",
  record {
    line = codes "PUB a.b 2\r\n";
    digits = codes "2";
    is_line = record { whole = refl; is_subject = refl; is_reply = refl; is_size = refl; fits = omega arith };
    whole = refl;
  },
  (
    codes "PING\r\n",
    record {
      line = codes "PUB c d 0\r\n";
      digits = codes "0";
      is_line = record { whole = refl; is_subject = refl; is_reply = refl; is_size = refl; fits = omega arith };
      whole = refl;
    },
    refl,
  ),
)
