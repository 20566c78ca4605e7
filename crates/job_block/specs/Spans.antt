-- Parts of a text.
use Rattle.std.specs.Prelude.{◌≡◌, ◌≤◌, ℕ, List, ◌++◌, length, slice_range, Option, IfSome}
use Rattle.std.specs.Option.{option_map}
use Rattle.subj.specs.Messages.{Content}
use Rattle.job_block.specs.declared.spans.Span.{Span}
use Rattle.job_block.specs.declared.spans.Spans.{Spans}

-- the bytes that stand there
abbrev pub part : List ℕ → Span → List ℕ
part text span = slice_range text span.start span.end

abbrev pub optional_part : List ℕ → Option Span → Option (List ℕ)
optional_part text span = option_map (part text) span

-- it does not go past the end
pub record IsSpan (text : List ℕ) (span : Span) : Type 0 where
  pub order : span.start ≤ span.end
  pub within : span.end ≤ length text

-- these bytes stand there
pub record IsPart (text : List ℕ) (span : Span) (bytes : List ℕ) : Type 0 where
  pub there : IsSpan text span
  pub same : part text span ≡ bytes

-- these bytes stand there, or there are none and no span
pub record IsOptionalPart (text : List ℕ) (span : Option Span) (bytes : Option (List ℕ)) :
    Type 0 where
  pub there : IfSome span (IsSpan text)
  pub same : optional_part text span ≡ bytes

-- the content whose parts stand there
abbrev pub content_in : List ℕ → Spans → Content
content_in text spans = record {
  subject = part text spans.subject;
  reply = optional_part text spans.reply;
  headers = optional_part text spans.headers;
  payload = part text spans.payload;
}

-- each of them is within the text
pub record AreSpans (text : List ℕ) (spans : Spans) : Type 0 where
  pub subject : IsSpan text spans.subject
  pub reply : IfSome spans.reply (IsSpan text)
  pub headers : IfSome spans.headers (IsSpan text)
  pub payload : IsSpan text spans.payload

-- the parts of this content stand there
pub record IsSpelt (text : List ℕ) (spans : Spans) (content : Content) : Type 0 where
  pub there : AreSpans text spans
  pub same : content_in text spans ≡ content

-- bytes came behind those of the text, if any
pub record Extends (old new : List ℕ) : Type 0 where
  pub more : List ℕ
  pub grown : new ≡ old ++ more
