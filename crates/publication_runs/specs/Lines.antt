-- The line of a publication, plainly written.
use Rattle.std.specs.Prelude.{◌≡◌, ℕ, ◌≤◌, List, ◌++◌, codes, Option, Some, None}
use Rattle.subj.specs.declared.limits.TheConstants.{MAX_PAYLOAD}
use Rattle.subj.specs.Names.{subject_fault}
use Rattle.line_fields.specs.LineEnd.{line_end}
use Rattle.client_frames.specs.Arguments.{count_of}
use Rattle.client_frames.specs.Lines.{reply_fault}
use Rattle.client_frames.specs.Messages.{reply_field}

-- NATS documentation, "Client Protocol": `PUB <subject> [reply-to] <#bytes>`
pub record PubFields : Type 0 where
  pub subject : List ℕ
  pub reply : Option (List ℕ)
  -- how many bytes follow the line, as it is written
  pub digits : List ℕ

-- plainly written, it is in capitals, and one blank stands before each field
abbrev pub line_text : PubFields → List ℕ
line_text fields =
    codes "PUB " ++ (fields.subject ++ (codes " " ++ (reply_field fields.reply ++ fields.digits)))

-- the line with its CR LF; nothing in it is refused, and so many bytes follow it
pub record IsPlainLine (line : List ℕ) (fields : PubFields) (size : ℕ) : Type 0 where
  pub whole : line ≡ line_text fields ++ line_end
  pub is_subject : subject_fault fields.subject ≡ None
  pub is_reply : reply_fault fields.reply ≡ None
  pub is_size : count_of fields.digits ≡ Some size
  pub fits : size ≤ MAX_PAYLOAD
