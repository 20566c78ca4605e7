-- The fields of a publication that are spelt mean what they spell.
use Rattle.std.proofs.Common.{◌≡◌, ℕ, ◌≤◌, Bool, true, false, ◌&&◌, cond, List, [], ◌∷◌, ◌++◌, length, take, drop, length-append, append_assoc, refl, ap, sym, ◌∙◌, arith, Option, Some, None, Ok, Err}
use Rattle.std.specs.Prelude.{nat_lt, nat_le, codes, option_map}
use Rattle.std.specs.Option.{ok_or}
use Rattle.std.proofs.lemmas.Bool.{le-leb}
use Rattle.std.proofs.lemmas.Bool.Decides.{nat_tests, Decides-eqb}
use Rattle.std.proofs.lemmas.Slice.Eq.{starts_is}
use Rattle.subj.specs.declared.limits.TheConstants.{MAX_QUEUE_NAMES, MAX_PAYLOAD}
use Rattle.subj.specs.Messages.{header_start, is_block, are_headers, body_bytes, new_body}
use Rattle.subj.specs.Names.{subject_fault, queue_name_fault}
use Rattle.subj.specs.QueueNames.{are_queue_names, are_rising}
use Rattle.route_values.specs.Valid.{AreNames, IsReply}
use Rattle.route_frames.specs.declared.faults.RouteFault.TheVariants.{BadArgs, TooManyQueues}
use Rattle.route_frames.specs.Meaning.{◌>>=◌}
use Rattle.route_frames.specs.Arguments.{MessageFields, message_form, form_split, message_fields, with_total, total_behind, header_fields}
use Rattle.route_frames.specs.NumberedLines.{optional, are_names, queue_names_in, few_fields, headers_within}
use Rattle.route_frames.specs.Decoding.{block_meaning, body_in}
use Rattle.route_frames.specs.Canonical.{form_fields}
use Rattle.route_frames.proofs.Meaning.Forms.{split_last-append}
use Rattle.route_frames.specs.CommonFields.{name_of}
use Rattle.route_frames.proofs.Cuts.Behind.{drop_front}
use Rattle.route_frames.proofs.Cuts.Spaces.{take_front}
use Rattle.route_frames.proofs.Meaning.Parts.{name_again, within_again}

-- ---- the form

abbrev pub fields_spelt : List ℕ → List ℕ → Option (List ℕ) → List (List ℕ) → Option (List ℕ) → List ℕ → MessageFields
fields_spelt account subject reply names headers size = record {
  account = account;
  subject = subject;
  headers = headers;
  form = record { reply = reply; names = names; size = size };
}

pub plain_again : (account subject : List ℕ) (reply : Option (List ℕ)) (names : List (List ℕ)) (size : List ℕ)
    → message_fields (account ∷ subject ∷ (form_fields reply names ++ size ∷ []))
    ≡ Some (fields_spelt account subject reply names None size)
plain_again account subject None [] size = refl
plain_again account subject (Some reply) [] size = refl
plain_again account subject None (name ∷ names) size =
    ap (λ split. message_form account subject (form_split (codes "|") split)) (split_last-append (name ∷ names) size)
plain_again account subject (Some reply) (name ∷ names) size =
    ap (λ split. message_form account subject (form_split (codes "+") split))
    (split_last-append (reply ∷ name ∷ names) size)

pub headed_again : (account subject : List ℕ) (reply : Option (List ℕ)) (names : List (List ℕ)) (headers size : List ℕ)
    → header_fields (account ∷ subject ∷ (form_fields reply names ++ headers ∷ size ∷ []))
    ≡ Some (fields_spelt account subject reply names (Some headers) size)
headed_again account subject reply names headers size =
    let front : List (List ℕ) = account ∷ subject ∷ (form_fields reply names ++ headers ∷ []) in
    let whole : account ∷ subject ∷ (form_fields reply names ++ headers ∷ size ∷ []) ≡ front ++ size ∷ [] =
    ap (λ behind. account ∷ subject ∷ behind)
    (sym (append_assoc (form_fields reply names) (headers ∷ []) (size ∷ []))) in
    ap header_fields whole
    ∙ ap total_behind (split_last-append front size)
    ∙ ap (option_map (with_total size)) (plain_again account subject reply names headers)

few : (count : ℕ) (fits rising above : Bool)
    → nat_le count MAX_QUEUE_NAMES ≡ fits
    → nat_lt MAX_QUEUE_NAMES count ≡ above
    → (fits && rising) ≡ true
    → above ≡ false
few count fits rising above f a is = grind (arith, nat_tests)

pub few_again : (found : Option MessageFields) (fields : MessageFields)
    → found ≡ Some fields
    → are_queue_names fields.form.names ≡ true
    → few_fields found ≡ Ok fields
unfolding few_fields
few_again found fields is are =
    rw is (ap (λ b. cond b (Err TooManyQueues) (Ok fields))
    (few (length fields.form.names) _ (are_rising fields.form.names) _ refl refl are))

-- ---- the header block

at_least : (all behind : List ℕ) → all ≡ header_start ++ behind → length header_start ≤ length all
at_least all behind is = let len = ap length is ∙ length-append header_start behind in omega (arith, len)

-- a block has as many bytes as it has to begin with
pub block_long : (block : List ℕ) → is_block block ≡ true → length header_start ≤ length block
block_long block is =
    at_least block (drop (length header_start) block)
    ((starts_is Decides-eqb block header_start (is_block block) refl).0 is)

pub headers_again : (headers : Option (List ℕ)) (payload : List ℕ)
    → are_headers headers ≡ true
    → headers_within (length (body_bytes headers payload)) (option_map (λ block. length block) headers)
    ≡ Ok (option_map (λ block. length block) headers)
headers_again None payload is = refl
headers_again (Some block) payload is =
    let len = length-append block payload in
    let fits = within_again (length header_start) (length (block ++ payload)) (length block) (block_long block is)
    (omega (arith, len)) in
    ap (λ read. read >>= λ headers. Ok (Some headers)) fits

-- it and the payload behind it are found again
there : (block payload : List ℕ) → nat_le (length block) (length (block ++ payload)) ≡ true
there block payload =
    let len = length-append block payload in le-leb (length block) (length (block ++ payload)) (omega (arith, len))

pub body_again : (headers : Option (List ℕ)) (payload : List ℕ)
    → are_headers headers ≡ true
    → length (body_bytes headers payload) ≤ MAX_PAYLOAD
    → body_in (option_map (λ block. length block) headers) (body_bytes headers payload)
    ≡ Some (record { headers = headers; payload = payload })
body_again None payload is short =
    ap (λ b. cond b (Some (record { headers = None; payload = payload })) None)
    (le-leb (length payload) MAX_PAYLOAD short)
body_again (Some block) payload is short =
    ap (λ b.
    cond b (new_body (Some (take (length block) (block ++ payload))) (drop (length block) (block ++ payload))) None)
    (there block payload)
    ∙ ap (λ front. new_body (Some front) (drop (length block) (block ++ payload))) (take_front block payload)
    ∙ ap (new_body (Some block)) (drop_front block payload)
    ∙ ap (λ b.
    cond (b && nat_le (length (block ++ payload)) MAX_PAYLOAD)
    (Some (record { headers = Some block; payload = payload })) None)
    is
    ∙ ap (λ b. cond b (Some (record { headers = Some block; payload = payload })) None)
    (le-leb (length (block ++ payload)) MAX_PAYLOAD short)

pub block_again : (headers : Option (List ℕ)) (payload : List ℕ)
    → are_headers headers ≡ true
    → block_meaning (option_map (λ block. length block) headers) (body_bytes headers payload) ≡ Ok tt
block_again None payload is = refl
block_again (Some block) payload is =
    ap (λ b. cond (b && is_block (take (length block) (block ++ payload))) (Ok tt) (Err BadArgs)) (there block payload)
    ∙ ap (λ front. cond (is_block front) (Ok tt) (Err BadArgs)) (take_front block payload)
    ∙ ap (λ b. cond b (Ok tt) (Err BadArgs)) is

-- ---- the names

names_again : (names : List (List ℕ)) → AreNames names → are_names names ≡ Ok names
names_again [] is = refl
names_again (name ∷ names) is = rw (name_again queue_name_fault name is.0, names_again names is.1) refl

pub queues_again : (names : List (List ℕ))
    → AreNames names
    → are_queue_names names ≡ true
    → queue_names_in names ≡ Ok names
unfolding queue_names_in
queues_again names is are = rw (names_again names is) (ap (λ b. ok_or (cond b (Some names) None) BadArgs) are)

pub reply_again : (reply : Option (List ℕ)) → IsReply reply → optional (name_of subject_fault) reply ≡ Ok reply
reply_again None is = refl
reply_again (Some reply) is = ap (λ read. read >>= λ value. Ok (Some value)) (name_again subject_fault reply is)
