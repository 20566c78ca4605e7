-- A line of a publication that was read is spelt as the relation says.
use Rattle.std.proofs.Common.{◌≡◌, ℕ, ◌≤◌, Bool, true, false, cond, List, [], ◌∷◌, ◌++◌, length, refl, ap, sym, ◌∙◌, subst, append_assoc, Option, Some, None, Ok}
use Rattle.std.specs.Prelude.{nat_lt, codes, option_map}
use Rattle.std.specs.Option.{ok_or}
use Rattle.std.specs.Str.{bytes_eq}
use Rattle.std.proofs.lemmas.Slice.Eq.{bytes_eq-Decides}
use Rattle.subj.specs.declared.limits.TheConstants.{MAX_PAYLOAD, MAX_QUEUE_NAMES}
use Rattle.subj.specs.Messages.{header_start}
use Rattle.subj.specs.Names.{subject_fault, node_name_fault, queue_name_fault}
use Rattle.subj.specs.QueueNames.{queue_names_of, are_queue_names}
use Rattle.route_values.specs.Valid.{IsReply, AreNames}
use Rattle.route_frames.specs.declared.faults.RouteFault.TheVariants.{BadArgs, TooManyQueues}
use Rattle.route_frames.specs.declared.line_reading.TheConstants.{SIZE_DIGITS}
use Rattle.route_frames.specs.declared.line_reading.Digits.{Digits}
use Rattle.route_frames.specs.declared.line_reading.Numbers.{Numbers}
use Rattle.route_frames.specs.declared.reading.LineBody.TheVariants as said
use Rattle.route_frames.specs.declared.reading.NumberedLine.{NumberedLine}
use Rattle.route_frames.specs.Meaning.{Meaning, ◌>>=◌}
use Rattle.route_frames.specs.CommonFields.{CommonFields, digits_of, within, numbers_of, numbers_in_range, name_of}
use Rattle.route_frames.specs.Arguments.{Form, MessageFields, split_last_of, reply_form, form_between, form_of, message_form, message_fields, with_total, header_fields}
use Rattle.route_frames.specs.NumberedLines.{account_of, optional, are_names, queue_names_in, few_fields, header_digits, headers_within, publication_line, message_line, header_line}
use Rattle.route_frames.specs.Canonical.{form_fields}
use Rattle.route_frames.specs.Spelling.{IsNumber, SpellsSizes}
use Rattle.route_frames.proofs.Spelt.Chains.{step_ok, ok_same, found_ok, unless_ok, where_some, some_same}
use Rattle.route_frames.proofs.Spelt.Fields.{digits_ok, within_ok, optional_subject_ok, account_ok, CommonIs, common_is, name_ok}

-- ---- the form

split_is : (first : List ℕ) (others : List (List ℕ))
    → first ∷ others ≡ (split_last_of first others).0 ++ (split_last_of first others).1 ∷ []
split_is first [] = refl
split_is first (other ∷ others) = ap (λ fields. first ∷ fields) (split_is other others)

abbrev FormIs : List (List ℕ) → Form → Type 0
FormIs fields form = fields ≡ form_fields form.reply form.names ++ form.size ∷ []

form_same : (fields : List (List ℕ)) (found form : Form)
    → Some found ≡ Some form
    → FormIs fields found
    → FormIs fields form
form_same fields found form e is = subst (FormIs fields) (some_same found form e) is

replied_is : (reply : List ℕ) (names : List (List ℕ)) (size : List ℕ) (form : Form)
    → reply_form reply names size ≡ Some form
    → FormIs (codes "+" ∷ reply ∷ (names ++ size ∷ [])) form
replied_is reply [] size form e = absurd (cc)
replied_is reply (name ∷ names) size form e =
    form_same (codes "+" ∷ reply ∷ name ∷ (names ++ size ∷ []))
    (record { reply = Some reply; names = name ∷ names; size = size }) form e refl

marked_is : (bar plus : Bool) (mark field : List ℕ) (fields : List (List ℕ)) (size : List ℕ) (form : Form)
    → bytes_eq mark (codes "|") ≡ bar
    → bytes_eq mark (codes "+") ≡ plus
    → cond bar (Some (record { reply = None; names = field ∷ fields; size = size }))
    (cond plus (reply_form field fields size) None) ≡ Some form
    → FormIs (mark ∷ field ∷ (fields ++ size ∷ [])) form
marked_is true plus mark field fields size form is_bar is_plus e =
    subst (λ mark. FormIs (mark ∷ field ∷ (fields ++ size ∷ [])) form)
    (sym ((bytes_eq-Decides mark (codes "|")).0 is_bar))
    (form_same (codes "|" ∷ field ∷ (fields ++ size ∷ []))
    (record { reply = None; names = field ∷ fields; size = size }) form e refl)
marked_is false true mark field fields size form is_bar is_plus e =
    subst (λ mark. FormIs (mark ∷ field ∷ (fields ++ size ∷ [])) form)
    (sym ((bytes_eq-Decides mark (codes "+")).0 is_plus)) (replied_is field fields size form e)
marked_is false false mark field fields size form is_bar is_plus e = absurd (cc)

between_is : (first : List ℕ) (front : List (List ℕ)) (size : List ℕ) (form : Form)
    → form_between first front size ≡ Some form
    → FormIs (first ∷ (front ++ size ∷ [])) form
between_is first [] size form e =
    form_same (first ∷ size ∷ []) (record { reply = Some first; names = []; size = size }) form e refl
between_is first (field ∷ fields) size form e = marked_is _ _ first field fields size form refl refl e

form_is : (fields : List (List ℕ)) (form : Form) → form_of fields ≡ Some form → FormIs fields form
form_is [] form e = absurd (cc)
form_is (first ∷ []) form e = form_same (first ∷ []) (record { reply = None; names = []; size = first }) form e refl
form_is (first ∷ other ∷ others) form e =
    let split = split_last_of other others in
    subst (λ fields. FormIs (first ∷ fields) form) (sym (split_is other others))
    (between_is first split.0 split.1 form e)

-- ---- the fields: of an RMSG, and of an RHMSG

record PlainIs (fields : List (List ℕ)) (found : MessageFields) : Type 0 where
  pub no_headers : found.headers ≡ None
  pub whole :
      fields ≡ found.account ∷ found.subject ∷ (form_fields found.form.reply found.form.names ++ found.form.size ∷ [])

plain_by : (account subject : List ℕ) (others : List (List ℕ)) (form : Option Form) (found : MessageFields)
    → form_of others ≡ form
    → message_form account subject form ≡ Some found
    → PlainIs (account ∷ subject ∷ others) found
plain_by account subject others None found is e = absurd (cc)
plain_by account subject others (Some form) found is e =
    subst (PlainIs (account ∷ subject ∷ others))
    (some_same (record { account = account; subject = subject; headers = None; form = form }) found e)
    (record { no_headers = refl; whole = ap (λ fields. account ∷ subject ∷ fields) (form_is others form is) })

plain_is : (fields : List (List ℕ)) (found : MessageFields) → message_fields fields ≡ Some found → PlainIs fields found
plain_is [] found e = absurd (cc)
plain_is (account ∷ []) found e = absurd (cc)
plain_is (account ∷ subject ∷ others) found e = plain_by account subject others (form_of others) found refl e

record HeadedIs (fields : List (List ℕ)) (found : MessageFields) : Type 0 where
  pub digits : List ℕ
  pub has_headers : found.headers ≡ Some digits
  pub whole : fields
      ≡ found.account ∷ found.subject ∷ (form_fields found.form.reply found.form.names ++ digits ∷ found.form.size ∷ [])

total_is : (all front : List (List ℕ)) (total : List ℕ) (plain : Option MessageFields) (found : MessageFields)
    → all ≡ front ++ total ∷ []
    → message_fields front ≡ plain
    → option_map (with_total total) plain ≡ Some found
    → HeadedIs all found
total_is all front total None found whole is e = absurd (cc)
total_is all front total (Some fields) found whole is e =
    let shape = plain_is front fields is in
    let named = form_fields fields.form.reply fields.form.names in
    subst (HeadedIs all) (some_same (with_total total fields) found e) (record {
      digits = fields.form.size;
      has_headers = refl;
      whole =
          whole
          ∙ ap (λ front. front ++ total ∷ []) shape.whole
          ∙ ap (λ behind. fields.account ∷ fields.subject ∷ behind)
          (append_assoc named (fields.form.size ∷ []) (total ∷ []));
    })

headed_is : (fields : List (List ℕ)) (found : MessageFields) → header_fields fields ≡ Some found → HeadedIs fields found
headed_is [] found e = absurd (cc)
headed_is (first ∷ others) found e =
    let split = split_last_of first others in
    total_is (first ∷ others) split.0 split.1 (message_fields split.0) found (split_is first others) refl e

few_found : (found : Option MessageFields) (fields : MessageFields) → few_fields found ≡ Ok fields → found ≡ Some fields
unfolding few_fields
few_found found fields e =
    let step = step_ok (ok_or found BadArgs) _ fields e in
    let few = unless_ok (nat_lt MAX_QUEUE_NAMES (length ((step.0).form).names)) TooManyQueues step.0 fields step.2 in
    found_ok found BadArgs step.0 step.1 ∙ ap (λ found. Some found) few.1

-- ---- the size of a header block

-- the digits that spell it, where there are any
abbrev HeadersSpelt : Option (List ℕ) → Option ℕ → Type 0
HeadersSpelt None headers = headers ≡ None
HeadersSpelt (Some digits) headers = (n : ℕ) × (headers ≡ Some n) × IsNumber SIZE_DIGITS digits n

-- a header block has as many bytes as it has to begin with, and no more than follow the line
abbrev pub HasRoom : Option ℕ → ℕ → Type 0
HasRoom None size = Unit {0}
HasRoom (Some headers) size = (length header_start ≤ headers) × (headers ≤ size)

record HeadersRead (field : Option (List ℕ)) (size : ℕ) (headers : Option ℕ) : Type 0 where
  pub spelt : HeadersSpelt field headers
  pub room : HasRoom headers size

headers_read : (field : Option (List ℕ)) (size : ℕ) (digits headers : Option ℕ)
    → header_digits field ≡ Ok digits
    → headers_within size digits ≡ Ok headers
    → HeadersRead field size headers
headers_read None size digits headers e within_e =
    let none = subst (λ digits. headers_within size digits ≡ Ok headers) (sym (ok_same None digits e)) within_e in
    subst (HeadersRead None size) (ok_same None headers none) (record { spelt = refl; room = tt })
headers_read (Some field) size digits headers e within_e =
    let spelt = step_ok (digits_of SIZE_DIGITS field) _ digits e in
    let some =
    subst (λ digits. headers_within size digits ≡ Ok headers) (sym (ok_same (Some spelt.0) digits spelt.2)) within_e in
    let number = step_ok (within (length header_start) size spelt.0) _ headers some in
    let in_range = within_ok (length header_start) size spelt.0 number.0 number.1 in
    subst (HeadersRead (Some field) size) (ok_same (Some number.0) headers number.2) (record {
      spelt = (number.0, refl, digits_ok SIZE_DIGITS field spelt.0 spelt.1 ∙ ap (λ n. Some n) in_range.same);
      room = (in_range.low, in_range.high);
    })

-- ---- the names

record NamesRead (fields names : List (List ℕ)) : Type 0 where
  pub same : fields ≡ names
  pub valid : AreNames names

names_read : (fields names : List (List ℕ)) → are_names fields ≡ Ok names → NamesRead fields names
names_read [] names e = let same = ok_same [] names e in subst (NamesRead []) same (record { same = refl; valid = tt })
names_read (field ∷ fields) names e =
    let name = step_ok (name_of queue_name_fault field) _ names e in
    let others = step_ok (are_names fields) _ names name.2 in
    let is = name_ok queue_name_fault field name.0 name.1 in
    let are = names_read fields others.0 others.1 in
    subst (NamesRead (field ∷ fields)) (ok_same (name.0 ∷ others.0) names others.2)
    (record { same = ap (λ f. f ∷ fields) is.0 ∙ ap (λ fs. name.0 ∷ fs) are.same; valid = (is.1, are.valid) })

record QueuesRead (fields queues : List (List ℕ)) : Type 0 where
  pub names : NamesRead fields queues
  pub ordered : are_queue_names queues ≡ true

queues_read : (fields queues : List (List ℕ)) → queue_names_in fields ≡ Ok queues → QueuesRead fields queues
unfolding queue_names_in
queues_read fields queues e =
    let names = step_ok (are_names fields) _ queues e in
    let good =
    where_some (are_queue_names names.0) names.0 queues (found_ok (queue_names_of names.0) BadArgs queues names.2) in
    subst (QueuesRead fields) good.1 (record { names = names_read fields names.0 names.1; ordered = good.0 })

-- ---- the line

record PublicationRead (common : CommonFields) (found : MessageFields) (line : NumberedLine) : Type 0 where
  pub says_common : CommonIs common 1 line
  pub subject : List ℕ
  pub reply : Option (List ℕ)
  pub queues : List (List ℕ)
  pub headers : Option ℕ
  pub size : ℕ
  pub is_body : line.body ≡ said.Msg subject reply queues headers size
  pub global : found.account ≡ codes "$G"
  pub subject_same : found.subject ≡ subject
  pub reply_same : found.form.reply ≡ reply
  pub names_same : found.form.names ≡ queues
  pub is_headers : HeadersSpelt found.headers headers
  pub is_size : IsNumber SIZE_DIGITS found.form.size size
  pub is_subject : subject_fault subject ≡ None
  pub is_reply : IsReply reply
  pub are_names : AreNames queues
  pub ordered : are_queue_names queues ≡ true
  pub room : HasRoom headers size
  pub short : size ≤ MAX_PAYLOAD

-- what is read behind the numbers
abbrev pub message_behind : CommonFields → MessageFields → Numbers → ℕ → Option ℕ → Meaning NumberedLine
message_behind common fields numbers size headers =
    account_of fields.account
    >>= λ account.
    name_of node_name_fault common.from
    >>= λ from.
    name_of node_name_fault common.to
    >>= λ to.
    name_of subject_fault fields.subject
    >>= λ subject.
    optional (name_of subject_fault) fields.form.reply
    >>= λ reply.
    queue_names_in fields.form.names
    >>= λ queues.
    Ok (record { from = from; to = to; numbers = numbers; body = said.Msg subject reply queues headers size })

record BehindRead (common : CommonFields) (found : MessageFields) (numbers : Numbers) (size : ℕ) (headers : Option ℕ)
    (line : NumberedLine) : Type 0 where
  pub from : List ℕ
  pub to : List ℕ
  pub subject : List ℕ
  pub reply : Option (List ℕ)
  pub queues : List (List ℕ)
  pub is_line :
      record { from = from; to = to; numbers = numbers; body = said.Msg subject reply queues headers size } ≡ line
  pub sender : name_of node_name_fault common.from ≡ Ok from
  pub receiver : name_of node_name_fault common.to ≡ Ok to
  pub global : found.account ≡ codes "$G"
  pub subject_same : found.subject ≡ subject
  pub reply_same : found.form.reply ≡ reply
  pub names_same : found.form.names ≡ queues
  pub is_subject : subject_fault subject ≡ None
  pub is_reply : IsReply reply
  pub are_names : AreNames queues
  pub ordered : are_queue_names queues ≡ true

behind_read : (common : CommonFields) (found : MessageFields) (numbers : Numbers) (size : ℕ) (headers : Option ℕ)
    (line : NumberedLine)
    → message_behind common found numbers size headers ≡ Ok line
    → BehindRead common found numbers size headers line
behind_read common found numbers size headers line e =
    let form = found.form in
    let account = step_ok (account_of found.account) _ line e in
    let from = step_ok (name_of node_name_fault common.from) _ line account.2 in
    let to = step_ok (name_of node_name_fault common.to) _ line from.2 in
    let subject = step_ok (name_of subject_fault found.subject) _ line to.2 in
    let reply = step_ok (optional (name_of subject_fault) form.reply) _ line subject.2 in
    let queues = step_ok (queue_names_in form.names) _ line reply.2 in
    let is_subject = name_ok subject_fault found.subject subject.0 subject.1 in
    let is_reply = optional_subject_ok form.reply reply.0 reply.1 in
    let are = queues_read form.names queues.0 queues.1 in
    record {
      from = from.0;
      to = to.0;
      subject = subject.0;
      reply = reply.0;
      queues = queues.0;
      is_line =
          ok_same (record {
            from = from.0;
            to = to.0;
            numbers = numbers;
            body = said.Msg subject.0 reply.0 queues.0 headers size;
          })
          line queues.2;
      sender = from.1;
      receiver = to.1;
      global = account_ok found.account account.0 account.1;
      subject_same = is_subject.0;
      reply_same = is_reply.0;
      names_same = (are.names).same;
      is_subject = is_subject.1;
      is_reply = is_reply.1;
      are_names = (are.names).valid;
      ordered = are.ordered;
    }

-- what is read of the digits
abbrev ranges_behind : CommonFields → MessageFields → Digits → ℕ → Option ℕ → Meaning NumberedLine
ranges_behind common fields digits size headers =
    numbers_in_range 1 digits
    >>= λ numbers.
    within 0 MAX_PAYLOAD size
    >>= λ size. headers_within size headers >>= λ headers. message_behind common fields numbers size headers

ranges_read : (common : CommonFields) (found : MessageFields) (digits : Digits) (size : ℕ) (headers : Option ℕ)
    (line : NumberedLine)
    → numbers_of common ≡ Ok digits
    → digits_of SIZE_DIGITS found.form.size ≡ Ok size
    → header_digits found.headers ≡ Ok headers
    → ranges_behind common found digits size headers ≡ Ok line
    → PublicationRead common found line
ranges_read common found digits spelt spelt_headers line is_spelt is_size are_headers e =
    let numbers = step_ok (numbers_in_range 1 digits) _ line e in
    let size = step_ok (within 0 MAX_PAYLOAD spelt) _ line numbers.2 in
    let headers = step_ok (headers_within size.0 spelt_headers) _ line size.2 in
    let read = behind_read common found numbers.0 size.0 headers.0 line headers.2 in
    let body = said.Msg read.subject read.reply read.queues headers.0 size.0 in
    let in_range = within_ok 0 MAX_PAYLOAD spelt size.0 size.1 in
    let headed = headers_read found.headers size.0 spelt_headers headers.0 are_headers headers.1 in
    subst (PublicationRead common found)
    {x = record { from = read.from; to = read.to; numbers = numbers.0; body = body }} read.is_line (record {
      says_common =
          common_is common 1 digits numbers.0 read.from read.to body is_spelt numbers.1 read.sender read.receiver;
      subject = read.subject;
      reply = read.reply;
      queues = read.queues;
      headers = headers.0;
      size = size.0;
      is_body = refl {a = body};
      global = read.global;
      subject_same = read.subject_same;
      reply_same = read.reply_same;
      names_same = read.names_same;
      is_headers = headed.spelt;
      is_size = digits_ok SIZE_DIGITS found.form.size spelt is_size ∙ ap (λ n. Some n) in_range.same;
      is_subject = read.is_subject;
      is_reply = read.is_reply;
      are_names = read.are_names;
      ordered = read.ordered;
      room = headed.room;
      short = in_range.high;
    })

publication_read : (common : CommonFields) (found : Option MessageFields) (line : NumberedLine)
    → publication_line common found ≡ Ok line
    → (fields : MessageFields) × (found ≡ Some fields) × PublicationRead common fields line
unfolding publication_line
publication_read common found line e =
    let few = step_ok (few_fields found) _ line e in
    let fields = few.0 in
    let digits = step_ok (numbers_of common) _ line few.2 in
    let size = step_ok (digits_of SIZE_DIGITS fields.form.size) _ line digits.2 in
    let headers = step_ok (header_digits fields.headers) _ line size.2 in (
      fields,
      few_found found fields few.1,
      ranges_read common fields digits.0 size.0 headers.0 line digits.1 size.1 headers.1 headers.2,
    )

-- ---- RMSG and RHMSG

abbrev pub word_for : Option ℕ → List ℕ
word_for None = codes "RMSG"
word_for (Some headers) = codes "RHMSG"

pub record MessageRead (word : List ℕ) (common : CommonFields) (fields : List (List ℕ)) (line : NumberedLine) :
    Type 0 where
  pub says_common : CommonIs common 1 line
  pub subject : List ℕ
  pub reply : Option (List ℕ)
  pub queues : List (List ℕ)
  pub headers : Option ℕ
  pub size : ℕ
  pub is_body : line.body ≡ said.Msg subject reply queues headers size
  pub has_word : word_for headers ≡ word
  pub spells : SpellsSizes (codes "$G" ∷ subject ∷ form_fields reply queues) headers size fields
  pub is_subject : subject_fault subject ≡ None
  pub is_reply : IsReply reply
  pub are_names : AreNames queues
  pub ordered : are_queue_names queues ≡ true
  pub room : HasRoom headers size
  pub short : size ≤ MAX_PAYLOAD

message_spelt : (account subject about : List ℕ) (reply said_reply : Option (List ℕ))
    (names queues fields behind : List (List ℕ))
    → fields ≡ account ∷ subject ∷ (form_fields reply names ++ behind)
    → account ≡ codes "$G"
    → subject ≡ about
    → reply ≡ said_reply
    → names ≡ queues
    → fields ≡ (codes "$G" ∷ about ∷ form_fields said_reply queues) ++ behind
message_spelt account subject about reply said_reply names queues fields behind whole global same same_reply
    same_names = whole ∙ ap (λ a. a ∷ subject ∷ (form_fields reply names ++ behind)) global
    ∙ ap (λ s. codes "$G" ∷ s ∷ (form_fields reply names ++ behind)) same
    ∙ ap (λ r. codes "$G" ∷ about ∷ (form_fields r names ++ behind)) same_reply
    ∙ ap (λ n. codes "$G" ∷ about ∷ (form_fields said_reply n ++ behind)) same_names

-- what was read, with this word and this spelling of its sizes
read_with : (word : List ℕ) (common : CommonFields) (found : MessageFields) (fields : List (List ℕ))
    (line : NumberedLine) (read : PublicationRead common found line)
    → word_for read.headers ≡ word
    → SpellsSizes (codes "$G" ∷ read.subject ∷ form_fields read.reply read.queues) read.headers read.size fields
    → MessageRead word common fields line
read_with word common found fields line read named spells = record {
  says_common = read.says_common;
  subject = read.subject;
  reply = read.reply;
  queues = read.queues;
  headers = read.headers;
  size = read.size;
  is_body = read.is_body;
  has_word = named;
  spells = spells;
  is_subject = read.is_subject;
  is_reply = read.is_reply;
  are_names = read.are_names;
  ordered = read.ordered;
  room = read.room;
  short = read.short;
}

pub message_read : (common : CommonFields) (fields : List (List ℕ)) (line : NumberedLine)
    → message_line common fields ≡ Ok line
    → MessageRead (codes "RMSG") common fields line
message_read common fields line e =
    let found = publication_read common (message_fields fields) line e in
    let read = found.2 in
    let form = (found.0).form in
    let shape = plain_is fields found.0 found.1 in
    let front = codes "$G" ∷ read.subject ∷ form_fields read.reply read.queues in
    let none : read.headers ≡ None =
    subst (λ field. HeadersSpelt field read.headers) shape.no_headers read.is_headers in
    let whole = message_spelt (found.0).account (found.0).subject read.subject form.reply read.reply form.names
    read.queues fields (form.size ∷ []) shape.whole read.global read.subject_same read.reply_same read.names_same in
    read_with (codes "RMSG") common found.0 fields line read (ap word_for none)
    (subst (λ headers. SpellsSizes front headers read.size fields) (sym none) (form.size, whole, read.is_size))

pub header_read : (common : CommonFields) (fields : List (List ℕ)) (line : NumberedLine)
    → header_line common fields ≡ Ok line
    → MessageRead (codes "RHMSG") common fields line
header_read common fields line e =
    let found = publication_read common (header_fields fields) line e in
    let read = found.2 in
    let form = (found.0).form in
    let shape = headed_is fields found.0 found.1 in
    let front = codes "$G" ∷ read.subject ∷ form_fields read.reply read.queues in
    let some : (n : ℕ) × (read.headers ≡ Some n) × IsNumber SIZE_DIGITS shape.digits n =
    subst (λ field. HeadersSpelt field read.headers) shape.has_headers read.is_headers in
    let whole = message_spelt (found.0).account (found.0).subject read.subject form.reply read.reply form.names
    read.queues fields (shape.digits ∷ form.size ∷ []) shape.whole read.global read.subject_same read.reply_same
    read.names_same in
    read_with (codes "RHMSG") common found.0 fields line read (ap word_for some.1)
    (subst (λ headers. SpellsSizes front headers read.size fields) (sym some.1)
    (shape.digits, form.size, whole, some.2, read.is_size))
