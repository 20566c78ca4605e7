-- Where lines and payloads are cut; the canonical line of a numbered frame is short and holds no CR.
use Rattle.std.proofs.Common.{◌≡◌, ℕ, suc, ◌+◌, ◌*◌, ◌^◌, ◌≤◌, ◌<◌, Bool, true, false, ◌&&◌, cond, List, [], ◌∷◌, ◌++◌, length, take, drop, refl, ap, ◌∙◌, arith, length-append, Option, Some, None, Ok}
use Rattle.std.specs.Prelude.{nat_le, nat_lt, nat_eq, decimal, codes}
use Rattle.std.specs.Option.{option_map, option_to_list}
use Rattle.std.specs.List.{list_any}
use Rattle.std.specs.Char.{is_ascii_digit}
use Rattle.std.proofs.lemmas.Bool.{le-leb}
use Rattle.std.proofs.lemmas.Bool.Decides.{nat_tests}
use Rattle.std.proofs.lemmas.Fmt.{length-decimal-le}
use Rattle.subj.specs.declared.limits.TheConstants.{MAX_COUNTER, MAX_PAYLOAD, MAX_QUEUE_NAMES, MAX_SUBJECT, MAX_QUEUE_NAME, MAX_NODE_NAME, ROUTE_LINE}
use Rattle.subj.specs.Names as names
use Rattle.subj.specs.Messages.{Content, body_bytes, body_of}
use Rattle.subj.specs.QueueNames.{are_rising}
use Rattle.wire_cut.specs.Cut.{line, payload, first_cr_lf, begins_with_cr_lf, cr_lf_at, cut_line, cut_line_at, cut_long_line, cut_payload_at}
use Rattle.wire_cut.proofs.SearchLemmas.{begins_with_cr_lf-no}
use Rattle.route_values.specs.declared.bodies.Body.{Body}
use Rattle.route_values.specs.declared.bodies.Body.TheVariants.{Plus, Minus, Snapshot, Msg}
use Rattle.route_values.specs.Frames.{Frame}
use Rattle.route_values.specs.Snapshots.{snapshot_text}
use Rattle.route_values.specs.Valid.{IsKey, IsWeighted, AreNames, IsReply, IsMessage, IsBody, IsFrame}
use Rattle.route_frames.specs.Operations.{word_of}
use Rattle.route_frames.specs.Canonical.{fields_with_spaces, operation_word, common_of, member_fields, form_fields, size_fields, message_operation, body_fields, numbered_line}
use Rattle.route_frames.specs.Laws.{IsPayloadCutAgain}
use Rattle.route_frames.proofs.Cuts.Behind.{drop_front}
use Rattle.route_frames.proofs.Canonical.Fields.{all_digits, queue_plain, pattern_plain, subject_plain, subject_short, pattern_short, queue_short, node_short, node_without_cr}
use Rattle.route_frames.proofs.Canonical.Numbered.{spaced-append, weight_fits, snapshot_fits, block_short}
use Rattle.route_frames.proofs.Cuts.Spaces.{none_of_two, lacks, digits_lack, none_in_both, take_front}

abbrev pub is_cr : ℕ → Bool
is_cr byte = nat_eq byte 13

no_cr : (byte : ℕ) → names.is_forbidden byte ≡ false → is_cr byte ≡ false
no_cr byte e = grind (arith, nat_tests)

digit_no_cr : (byte : ℕ) → is_ascii_digit byte ≡ true → is_cr byte ≡ false
digit_no_cr byte e = grind (arith, nat_tests)

-- ---- cutting

here : (x : ℕ) (xs : List ℕ) → is_cr x ≡ false → begins_with_cr_lf (x ∷ xs) ≡ false
here x xs e = begins_with_cr_lf-no (x ∷ xs) (λ at. let cr : x ≡ 13 = at.cr in absurd (other x cr e)) where
  other : (x : ℕ) → x ≡ 13 → is_cr x ≡ false → ⊥
  other x cr e = grind (arith, nat_tests)

first_is : (text rest : List ℕ)
    → list_any is_cr text ≡ false
    → first_cr_lf (text ++ 13 ∷ 10 ∷ rest) ≡ Some (length text)
unfolding first_cr_lf
first_is [] rest e = refl
first_is (x ∷ xs) rest e =
    let parts = none_of_two (is_cr x) (list_any is_cr xs) e in
    ap (λ b. cond b (Some 0) (option_map (λ i. suc i) (first_cr_lf (xs ++ 13 ∷ 10 ∷ rest))))
    (here x (xs ++ 13 ∷ 10 ∷ rest) parts.0)
    ∙ ap (option_map (λ i. suc i)) (first_is xs rest parts.1)

pub none_is : (text : List ℕ) → list_any is_cr text ≡ false → first_cr_lf text ≡ None
unfolding first_cr_lf
none_is [] e = refl
none_is (x ∷ xs) e =
    let parts = none_of_two (is_cr x) (list_any is_cr xs) e in
    ap (λ b. cond b (Some 0) (option_map (λ i. suc i) (first_cr_lf xs))) (here x xs parts.0)
    ∙ ap (option_map (λ i. suc i)) (none_is xs parts.1)

pub line_cut : (text rest : List ℕ)
    → list_any is_cr text ≡ false
    → length text ≤ ROUTE_LINE
    → cut_line ROUTE_LINE (text ++ 13 ∷ 10 ∷ rest) ≡ Ok (Some (line text))
line_cut text rest plain short =
    ap (cut_line_at ROUTE_LINE (text ++ 13 ∷ 10 ∷ rest)) (first_is text rest plain)
    ∙ ap (λ b.
    cond b (Ok (Some (line (take (length text) (text ++ 13 ∷ 10 ∷ rest)))))
    (cut_long_line ROUTE_LINE (text ++ 13 ∷ 10 ∷ rest)))
    (le-leb (length text) ROUTE_LINE short)
    ∙ ap (λ front. Ok (Some (line front))) (take_front text (13 ∷ 10 ∷ rest))

not_above : (a b : ℕ) (above : Bool) → nat_lt a b ≡ above → b ≤ a → above ≡ false
not_above a b above is le = grind (arith, nat_tests)

pub payload_cut : IsPayloadCutAgain
payload_cut bytes rest =
    let whole = length-append bytes (13 ∷ 10 ∷ rest) in
    let there : cr_lf_at (bytes ++ 13 ∷ 10 ∷ rest) (length bytes) ≡ Some true =
    ap (λ b. cond b None (Some (begins_with_cr_lf (drop (length bytes) (bytes ++ 13 ∷ 10 ∷ rest)))))
    (not_above (length (bytes ++ 13 ∷ 10 ∷ rest)) (length bytes + 2) _ refl (omega (arith, whole)))
    ∙ ap (λ behind. Some (begins_with_cr_lf behind)) (drop_front bytes (13 ∷ 10 ∷ rest)) in
    ap (cut_payload_at (length bytes) (bytes ++ 13 ∷ 10 ∷ rest)) there
    ∙ ap (λ front. Ok (Some (payload front))) (take_front bytes (13 ∷ 10 ∷ rest))

-- a line that holds no CR and is within its limit
pub record IsShortLine (text : List ℕ) : Type 0 where
  pub plain : list_any is_cr text ≡ false
  pub short : length text ≤ ROUTE_LINE

-- ---- fields, each with a blank in front: they hold no CR, and take so many bytes at most

pub record AreShort (most : ℕ) (fields : List (List ℕ)) : Type 0 where
  pub plain : list_any is_cr (fields_with_spaces fields) ≡ false
  pub short : length (fields_with_spaces fields) ≤ most

none_short : (most : ℕ) → AreShort most []
none_short most = record { plain = refl; short = omega arith }

one_more : (most rest all : ℕ) (field : List ℕ) (fields : List (List ℕ))
    → list_any is_cr field ≡ false
    → length field ≤ most
    → AreShort rest fields
    → suc most + rest ≤ all
    → AreShort all (field ∷ fields)
one_more most rest all field fields plain short are fits =
    let len = length-append (32 ∷ field) (fields_with_spaces fields) in
    let others = are.short in
    record {
      plain = none_in_both is_cr (32 ∷ field) (fields_with_spaces fields) plain are.plain;
      short = omega (arith, len);
    }

both_short : (most rest all : ℕ) (front behind : List (List ℕ))
    → AreShort most front
    → AreShort rest behind
    → most + rest ≤ all
    → AreShort all (front ++ behind)
both_short most rest all front behind are are_too fits =
    let same = spaced-append front behind in
    let len = length-append (fields_with_spaces front) (fields_with_spaces behind) in
    let first = are.short in
    let second = are_too.short in
    record {
      plain =
          ap (list_any is_cr) same
          ∙ none_in_both is_cr (fields_with_spaces front) (fields_with_spaces behind) are.plain are_too.plain;
      short =
          let whole : length (fields_with_spaces (front ++ behind))
          ≡ length (fields_with_spaces front) + length (fields_with_spaces behind) = ap length same ∙ len in
          omega arith;
    }

number_plain : (n : ℕ) → n < 2 ^ 64 → list_any is_cr (decimal n) ≡ false
number_plain n small = digits_lack is_cr digit_no_cr (decimal n) (all_digits n small)

-- ---- each part of a frame

common_short : (frame : Frame) → IsFrame frame → frame.number ≤ MAX_COUNTER → AreShort 120 (common_of frame)
common_short frame is most =
    let first = (is.inc).most in
    let second = (is.to_inc).most in
    one_more MAX_NODE_NAME 87 120 frame.from _ (node_without_cr frame.from is.from) (node_short frame.from is.from)
    (one_more 16 70 87 (decimal frame.inc) _ (number_plain frame.inc (omega arith))
    (length-decimal-le 16 frame.inc (omega arith) (omega arith) (omega arith))
    (one_more MAX_NODE_NAME 37 70 frame.to _ (node_without_cr frame.to is.to) (node_short frame.to is.to)
    (one_more 16 20 37 (decimal frame.to_inc) _ (number_plain frame.to_inc (omega arith))
    (length-decimal-le 16 frame.to_inc (omega arith) (omega arith) (omega arith))
    (one_more 15 0 20 (decimal frame.number) [] (number_plain frame.number (omega arith))
    (length-decimal-le 15 frame.number (omega arith) (omega arith) (omega arith)) (none_short 0) (omega arith))
    (omega arith))
    (omega arith))
    (omega arith))
    (omega arith)

plus_short : (pattern : List ℕ) (queue : Option (List ℕ)) (weight : ℕ)
    → IsWeighted (record { pattern = pattern; queue = queue }, weight)
    → AreShort 8000 (codes "$G" ∷ pattern ∷ member_fields queue weight)
plus_short pattern None weight is =
    one_more 2 7000 8000 (codes "$G") _ refl (omega arith)
    (one_more MAX_SUBJECT 0 7000 pattern [] (lacks is_cr no_cr pattern (pattern_plain pattern (is.key).pattern))
    (pattern_short pattern (is.key).pattern) (none_short 0) (omega arith))
    (omega arith)
plus_short pattern (Some queue) weight is =
    let fits = weight_fits weight is.weight in
    one_more 2 7000 8000 (codes "$G") _ refl (omega arith)
    (one_more MAX_SUBJECT 100 7000 pattern _ (lacks is_cr no_cr pattern (pattern_plain pattern (is.key).pattern))
    (pattern_short pattern (is.key).pattern)
    (one_more MAX_QUEUE_NAME 6 100 queue _ (lacks is_cr no_cr queue (queue_plain queue (is.key).queue))
    (queue_short queue (is.key).queue)
    (one_more 5 0 6 (decimal weight) [] (number_plain weight (omega arith))
    (length-decimal-le 5 weight (omega arith) (omega arith) (omega arith)) (none_short 0) (omega arith))
    (omega arith))
    (omega arith))
    (omega arith)

minus_short : (pattern : List ℕ) (queue : Option (List ℕ))
    → IsKey (record { pattern = pattern; queue = queue })
    → AreShort 8000 (codes "$G" ∷ pattern ∷ option_to_list queue)
minus_short pattern None is =
    one_more 2 7000 8000 (codes "$G") _ refl (omega arith)
    (one_more MAX_SUBJECT 0 7000 pattern [] (lacks is_cr no_cr pattern (pattern_plain pattern is.pattern))
    (pattern_short pattern is.pattern) (none_short 0) (omega arith))
    (omega arith)
minus_short pattern (Some queue) is =
    one_more 2 7000 8000 (codes "$G") _ refl (omega arith)
    (one_more MAX_SUBJECT 100 7000 pattern _ (lacks is_cr no_cr pattern (pattern_plain pattern is.pattern))
    (pattern_short pattern is.pattern)
    (one_more MAX_QUEUE_NAME 0 100 queue [] (lacks is_cr no_cr queue (queue_plain queue is.queue))
    (queue_short queue is.queue) (none_short 0) (omega arith))
    (omega arith))
    (omega arith)

names_short : (names : List (List ℕ)) → AreNames names → AreShort (length names * suc MAX_QUEUE_NAME) names
names_short [] is = none_short _
names_short (name ∷ names) is =
    one_more MAX_QUEUE_NAME (length names * suc MAX_QUEUE_NAME) (length (name ∷ names) * suc MAX_QUEUE_NAME) name names
    (lacks is_cr no_cr name (queue_plain name is.0)) (queue_short name is.0) (names_short names is.1) (omega arith)

few : (count : ℕ) (rising : Bool) → (nat_le count MAX_QUEUE_NAMES && rising) ≡ true → count ≤ MAX_QUEUE_NAMES
few count rising is = grind (arith, nat_tests)

reply_short : (reply : List ℕ) (rest all : ℕ) (fields : List (List ℕ))
    → names.subject_fault reply ≡ None
    → AreShort rest fields
    → suc MAX_SUBJECT + rest ≤ all
    → AreShort all (reply ∷ fields)
reply_short reply rest all fields is are fits =
    one_more MAX_SUBJECT rest all reply fields (lacks is_cr no_cr reply (subject_plain reply is))
    (subject_short reply is) are fits

form_short : (reply : Option (List ℕ)) (names : List (List ℕ))
    → IsReply reply
    → AreNames names
    → length names ≤ MAX_QUEUE_NAMES
    → AreShort 6000 (form_fields reply names)
form_short None [] is are fits = none_short _
form_short (Some reply) [] is are fits = reply_short reply 0 6000 [] is (none_short 0) (omega arith)
form_short None (name ∷ names) is are fits =
    one_more 1 5900 6000 (codes "|") (name ∷ names) refl (omega arith)
    (wider (length (name ∷ names) * suc MAX_QUEUE_NAME) 5900 (name ∷ names) (names_short (name ∷ names) are)
    (omega arith))
    (omega arith)
  where
    wider : (most all : ℕ) (fields : List (List ℕ)) → AreShort most fields → most ≤ all → AreShort all fields
    wider most all fields are fits = let short = are.short in record { plain = are.plain; short = omega arith }
form_short (Some reply) (name ∷ names) is are fits =
    one_more 1 5900 6000 (codes "+") (reply ∷ name ∷ names) refl (omega arith)
    (reply_short reply (length (name ∷ names) * suc MAX_QUEUE_NAME) 5900 (name ∷ names) is
    (names_short (name ∷ names) are) (omega arith))
    (omega arith)

size_short : (size rest all : ℕ) (fields : List (List ℕ))
    → size ≤ MAX_PAYLOAD
    → AreShort rest fields
    → 8 + rest ≤ all
    → AreShort all (decimal size ∷ fields)
size_short size rest all fields short are fits =
    one_more 7 rest all (decimal size) fields (number_plain size (omega arith))
    (length-decimal-le 7 size (omega arith) (omega arith) (omega arith)) are (omega arith)

sizes_short : (headers : Option (List ℕ)) (behind : List ℕ)
    → length (body_bytes headers behind) ≤ MAX_PAYLOAD
    → AreShort 16 (size_fields headers (length (body_bytes headers behind)))
sizes_short None behind short = size_short (length behind) 0 16 [] short (none_short 0) (omega arith)
sizes_short (Some block) behind short =
    let within = block_short block behind in
    size_short (length block) 8 16 (decimal (length (block ++ behind)) ∷ []) (omega arith)
    (size_short (length (block ++ behind)) 0 8 [] short (none_short 0) (omega arith)) (omega arith)

message_short : (message : Content) (queues : List (List ℕ))
    → IsMessage message queues
    → AreShort 8000 (body_fields (Msg message queues))
message_short message queues is =
    let fits = few (length queues) (are_rising queues) is.ordered in
    one_more 2 7900 8000 (codes "$G") _ refl (omega arith)
    (one_more MAX_SUBJECT 6100 7900 message.subject _
    (lacks is_cr no_cr message.subject (subject_plain message.subject is.subject))
    (subject_short message.subject is.subject)
    (both_short 6000 16 6100 (form_fields message.reply queues) (size_fields message.headers (length (body_of message)))
    (form_short message.reply queues is.reply is.names fits) (sizes_short message.headers message.payload is.body)
    (omega arith))
    (omega arith))
    (omega arith)

body_short : (body : Body) → IsBody body → AreShort 8000 (body_fields body)
body_short (Plus weighted) is = plus_short weighted.0.pattern weighted.0.queue weighted.1 is
body_short (Minus key) is = minus_short key.pattern key.queue is
body_short (Snapshot keys) is =
    let short = snapshot_fits (length (snapshot_text keys)) _ is.ordered in
    one_more 10 0 8000 (decimal (length (snapshot_text keys))) []
    (number_plain (length (snapshot_text keys)) (omega arith))
    (length-decimal-le 10 (length (snapshot_text keys)) (omega arith) (omega arith) (omega arith)) (none_short 0)
    (omega arith)
body_short (Msg message queues) is = message_short message queues is

-- ---- the whole line

pub record IsShortWord (word : List ℕ) : Type 0 where
  pub plain : list_any is_cr word ≡ false
  pub short : length word ≤ 5

message_word : (headers : Option (List ℕ)) → IsShortWord (word_of (message_operation headers))
message_word None = record { plain = refl; short = omega arith }
message_word (Some block) = record { plain = refl; short = omega arith }

word_short : (body : Body) → IsShortWord (operation_word body)
word_short (Plus weighted) = record { plain = refl; short = omega arith }
word_short (Minus key) = record { plain = refl; short = omega arith }
word_short (Snapshot keys) = record { plain = refl; short = omega arith }
word_short (Msg message queues) = message_word message.headers

counted : (n : ℕ) (other : Bool) → (nat_le n MAX_COUNTER && other) ≡ true → n ≤ MAX_COUNTER
counted n other is = grind (arith, nat_tests)

pub line_short : (frame : Frame) → IsFrame frame → IsShortLine (numbered_line frame)
unfolding numbered_line
line_short frame is =
    let word = word_short frame.body in
    let common = common_short frame is (counted frame.number _ is.number) in
    let body = body_short frame.body is.body in
    let first = length-append (operation_word frame.body)
    (fields_with_spaces (common_of frame) ++ fields_with_spaces (body_fields frame.body)) in
    let second = length-append (fields_with_spaces (common_of frame)) (fields_with_spaces (body_fields frame.body)) in
    let one = word.short in
    let two = common.short in
    let three = body.short in
    record {
      plain =
          none_in_both is_cr (operation_word frame.body)
          (fields_with_spaces (common_of frame) ++ fields_with_spaces (body_fields frame.body)) word.plain
          (none_in_both is_cr (fields_with_spaces (common_of frame)) (fields_with_spaces (body_fields frame.body))
          common.plain body.plain);
      short = omega (arith, first, second);
    }
