-- Message bytes: what a subscriber is due of a publication.
use Rattle.std.specs.Prelude.{ℕ, Bool, true, false, ◌&&◌, List, [], ◌++◌, length, drop, codes, decimal, Option, Some, None, is_some, if◌then◌else◌}
use Rattle.line_fields.specs.LineEnd.{line_end}
use Rattle.subj.specs.Messages.{Content, body_bytes}

-- NATS documentation, "Client Protocol", "CONNECT", `headers`: a header block is due to a
-- connection whose option is on
abbrev pub headers_due : Content → Bool → Option (List ℕ)
headers_due content option = if option then content.headers else None

-- what stands behind the line
abbrev pub due_body : Content → Bool → List ℕ
due_body content option = body_bytes (headers_due content option) content.payload

-- ---- NATS documentation, "Client Protocol": `MSG <subject> <sid> [reply-to] <#bytes>`, and with a
-- header block `HMSG <subject> <sid> [reply-to] <#header bytes> <#total bytes>`

abbrev pub operation : Option (List ℕ) → List ℕ
operation None = codes "MSG "
operation (Some block) = codes "HMSG "

-- before the sid, with the blank between; the same for all subscribers of one option
abbrev pub before_sid : Content → Option (List ℕ) → List ℕ
before_sid content headers = operation headers ++ (content.subject ++ codes " ")

abbrev pub reply_field : Option (List ℕ) → List ℕ
reply_field None = []
reply_field (Some reply) = reply ++ codes " "

abbrev pub block_field : Option (List ℕ) → List ℕ
block_field None = []
block_field (Some block) = decimal (length block) ++ codes " "

-- behind the sid, with the blank between; the same for all subscribers of one option
abbrev pub behind_sid : Content → Option (List ℕ) → List ℕ
behind_sid content headers =
    codes " "
    ++ (reply_field content.reply
    ++ (block_field headers ++ decimal (length (body_bytes headers content.payload))))

pub record LineParts : Type 0 where
  pub before : List ℕ
  pub behind : List ℕ

abbrev pub parts_with : Content → Option (List ℕ) → LineParts
parts_with content headers = record {
  before = before_sid content headers;
  behind = behind_sid content headers;
}

abbrev pub line_parts : Content → Bool → LineParts
line_parts content option = parts_with content (headers_due content option)

abbrev pub line_around : LineParts → List ℕ → List ℕ
line_around parts sid = parts.before ++ (sid ++ parts.behind)

-- the line in front of what is due
abbrev pub due_line : Content → List ℕ → Bool → List ℕ
due_line content sid option = line_around (line_parts content option) sid

-- the whole message
abbrev pub due_bytes : Content → List ℕ → Bool → List ℕ
due_bytes content sid option =
    due_line content sid option ++ (line_end ++ (due_body content option ++ line_end))

-- ---- both forms

pub record LineForms : Type 0 where
  pub plain : LineParts
  pub headed : LineParts

abbrev pub line_forms : Content → LineForms
line_forms content = record { plain = line_parts content false; headed = line_parts content true }

-- the second form of a message without a header block is the first
abbrev pub headed_or : LineParts → Option LineParts → LineParts
headed_or plain None = plain
headed_or plain (Some headed) = headed

abbrev pub form_for : LineForms → Bool → LineParts
form_for forms option = if option then forms.headed else forms.plain

-- ---- the message in two parts

-- up to the sid and with it, as it is in front of a header block; its first byte is left out in
-- front of none
abbrev pub head_bytes : List ℕ → List ℕ → List ℕ
head_bytes subject sid = codes "HMSG " ++ (subject ++ (codes " " ++ sid))

-- behind the sid; the same for all subscribers of one option
abbrev pub tail_bytes : Content → Bool → List ℕ
tail_bytes content option =
    behind_sid content (headers_due content option)
    ++ (line_end ++ (due_body content option ++ line_end))

-- what stands behind the sid in both forms, and whether the message has a header block
pub record Tails : Type 0 where
  pub plain : List ℕ
  pub headed : List ℕ
  pub has_block : Bool

abbrev pub tails_of : Content → Tails
tails_of content = record {
  plain = tail_bytes content false;
  headed = tail_bytes content true;
  has_block = is_some content.headers;
}

abbrev pub tail_for : Tails → Bool → List ℕ
tail_for tails option = if option then tails.headed else tails.plain

abbrev pub head_for : Tails → List ℕ → Bool → List ℕ
head_for tails head option = if option && tails.has_block then head else drop 1 head

-- ---- the second part of a message without a header block, by its reply and its payload

abbrev pub plain_tail : Option (List ℕ) → List ℕ → List ℕ
plain_tail reply payload =
    (codes " " ++ (reply_field reply ++ decimal (length payload)))
    ++ (line_end ++ (payload ++ line_end))

abbrev pub plain_tails : Option (List ℕ) → List ℕ → Tails
plain_tails reply payload = record {
  plain = plain_tail reply payload;
  headed = plain_tail reply payload;
  has_block = false;
}
