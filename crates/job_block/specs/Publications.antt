-- The content of a publication by its parts, and which content may be put into a block.
use Rattle.std.specs.Prelude.{◌≡◌, ◌≤◌, ℕ, Bool, true, List, length, Option, None, IfSome}
use Rattle.std.specs.Option.{option_copied}
use Rattle.subj.specs.Messages.{Content, are_headers, body_of}
use Rattle.subj.specs.Names.{subject_fault}
use Rattle.subj.specs.declared.limits.TheConstants.{MAX_PAYLOAD}
use Rattle.subj.specs.declared.messages.Pub.{Pub}
use Rattle.job_block.specs.declared.kept.TheConstants.{SHORT_BYTES}
use Rattle.job_block.specs.declared.publications.PublicationParts.{PublicationParts}

abbrev pub content_by : PublicationParts → Content
content_by parts = record {
  subject = parts.subject.now;
  reply = option_copied parts.reply;
  headers = option_copied parts.headers;
  payload = parts.payload.now;
}

-- NATS documentation, "Client Protocol", `PUB` and `HPUB`: there is no fault in the subject and in
-- the reply, the header block is one, and it is within the limit with the payload behind it
pub record IsPublishable (content : Content) : Type 0 where
  pub subject : subject_fault content.subject ≡ None
  pub reply : IfSome content.reply (λ reply. subject_fault reply ≡ None)
  pub headers : are_headers content.headers ≡ true
  pub within : length (body_of content) ≤ MAX_PAYLOAD

-- it has no header block, and a short payload (profile)
pub record IsShort (content : Content) : Type 0 where
  pub plain : content.headers ≡ None
  pub short : length content.payload ≤ SHORT_BYTES

-- a publication without a header block, by its names and its payload
abbrev pub lent_pub : List ℕ → Option (List ℕ) → List ℕ → Bool → Pub
lent_pub subject reply payload echo = record {
  message = record { subject = subject; reply = reply; headers = None; payload = payload };
  echo = echo;
}
