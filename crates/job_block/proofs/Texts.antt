-- What stands in a text stays where bytes come behind it.
use Rattle.std.proofs.Common.{◌≡◌, ℕ, ◌+◌, ◌-◌, ◌≤◌, List, [], ◌++◌, length, take, drop, Option, Some, None, refl, sym, ap, ◌∙◌, arith, append_assoc, append-nil, length-append, length-drop, take_all, drop_at}
use Rattle.std.proofs.lemmas.List.{take-append-le, drop-append-le}
use Rattle.std.specs.Prelude.{IfSome}
use Rattle.subj.specs.Messages.{Content}
use Rattle.job_block.specs.declared.spans.Span.{Span}
use Rattle.job_block.specs.declared.spans.Spans.{Spans}
use Rattle.job_block.specs.Spans.{part, optional_part, IsSpan, IsPart, IsOptionalPart, AreSpans, IsSpelt, Extends, content_in}

-- ---- a text with more behind it

pub extends_same : (old new : List ℕ) → new ≡ old → Extends old new
extends_same old new same = record { more = []; grown = same ∙ sym (append-nil old) }

pub extends_by : (old new more : List ℕ) → new ≡ old ++ more → Extends old new
extends_by old new more grown = record { more = more; grown = grown }

pub extends_on : (first middle last : List ℕ) → Extends first middle → Extends middle last → Extends first last
extends_on first middle last one other = record {
  more = one.more ++ other.more;
  grown =
      other.grown ∙ ap (λ l. l ++ other.more) one.grown ∙ append_assoc first one.more other.more;
}

-- ---- its parts

pub span_later : (old new : List ℕ) (span : Span) → Extends old new → IsSpan old span → IsSpan new span
span_later old new span grows is =
    let len : length new ≡ length old + length grows.more =
    ap (λ (l : List ℕ). length l) grows.grown ∙ length-append old grows.more in
    let within = is.within in
    record { order = is.order; within = omega (arith, len, within) }

pub same_later : (old new : List ℕ) (span : Span) → Extends old new → IsSpan old span
    → part new span ≡ part old span
same_later old new span grows is =
    let order = is.order in
    let within = is.within in
    let left = length-drop span.start old in
    let size = span.end - span.start in
    let starts : span.start ≤ length old = omega (arith, order, within) in
    let fits : size ≤ length (drop span.start old) = omega (arith, order, within, left) in
    ap (λ (l : List ℕ). take size (drop span.start l)) grows.grown
    ∙ ap (take size) (drop-append-le span.start old grows.more starts)
    ∙ take-append-le size (drop span.start old) grows.more fits

pub part_later : (old new : List ℕ) (span : Span) (bytes : List ℕ) → Extends old new → IsPart old span bytes
    → IsPart new span bytes
part_later old new span bytes grows is = record {
  there = span_later old new span grows is.there;
  same = same_later old new span grows is.there ∙ is.same;
}

optional_there : (old new : List ℕ) (span : Option Span) → Extends old new → IfSome span (IsSpan old)
    → IfSome span (IsSpan new)
optional_there old new None grows is = tt
optional_there old new (Some span) grows is = span_later old new span grows is

optional_same : (old new : List ℕ) (span : Option Span) → Extends old new → IfSome span (IsSpan old)
    → optional_part new span ≡ optional_part old span
optional_same old new None grows is = refl
optional_same old new (Some span) grows is = ap Some (same_later old new span grows is)

pub optional_later : (old new : List ℕ) (span : Option Span) (bytes : Option (List ℕ)) → Extends old new
    → IsOptionalPart old span bytes → IsOptionalPart new span bytes
optional_later old new span bytes grows is = record {
  there = optional_there old new span grows is.there;
  same = optional_same old new span grows is.there ∙ is.same;
}

-- ---- what was put

pub part_put : (old new bytes : List ℕ) (span : Span) → span.start ≡ length old → span.end ≡ length new
    → new ≡ old ++ bytes → IsPart new span bytes
part_put old new bytes span starts ends grown =
    let len : length new ≡ length old + length bytes =
    ap (λ (l : List ℕ). length l) grown ∙ length-append old bytes in
    let size = span.end - span.start in
    record {
      there = record { order = omega (arith, len, starts, ends); within = omega (arith, ends) };
      same =
          ap (λ (l : List ℕ). take size (drop span.start l)) grown
          ∙ ap (take size) (drop_at old bytes span.start (sym starts))
          ∙ take_all size bytes (omega (arith, len, starts, ends));
    }

pub no_part : (text : List ℕ) → IsOptionalPart text None None
no_part text = record { there = tt; same = refl }

pub some_part : (text bytes : List ℕ) (span : Span)
    → IsPart text span bytes
    → IsOptionalPart text (Some span) (Some bytes)
some_part text bytes span is = record { there = is.there; same = ap Some is.same }

abbrev content_with : List ℕ → Option (List ℕ) → Option (List ℕ) → List ℕ → Content
content_with subject reply headers payload =
    record { subject = subject; reply = reply; headers = headers; payload = payload }

pub spelt_by : (text : List ℕ) (spans : Spans) (content : Content) → IsPart text spans.subject content.subject
    → IsOptionalPart text spans.reply content.reply → IsOptionalPart text spans.headers content.headers
    → IsPart text spans.payload content.payload → IsSpelt text spans content
spelt_by text spans content subject reply headers payload =
    let reply_part = optional_part text spans.reply in
    let headers_part = optional_part text spans.headers in
    let payload_part = part text spans.payload in
    record {
      there = record {
        subject = subject.there;
        reply = reply.there;
        headers = headers.there;
        payload = payload.there;
      };
      same =
          ap (λ (l : List ℕ). content_with l reply_part headers_part payload_part) subject.same
          ∙ ap (λ (r : Option (List ℕ)). content_with content.subject r headers_part payload_part) reply.same
          ∙ ap (λ (h : Option (List ℕ)). content_with content.subject content.reply h payload_part) headers.same
          ∙ ap (content_with content.subject content.reply content.headers) payload.same;
    }

-- the parts of a publication
pub spans_later : (old new : List ℕ) (spans : Spans) → Extends old new → AreSpans old spans → AreSpans new spans
spans_later old new spans grows are = record {
  subject = span_later old new spans.subject grows are.subject;
  reply = optional_there old new spans.reply grows are.reply;
  headers = optional_there old new spans.headers grows are.headers;
  payload = span_later old new spans.payload grows are.payload;
}

pub content_later : (old new : List ℕ) (spans : Spans) → Extends old new → AreSpans old spans
    → content_in new spans ≡ content_in old spans
content_later old new spans grows are =
    let subject : IsPart new spans.subject (part old spans.subject) =
    part_later old new spans.subject (part old spans.subject) grows (record { there = are.subject; same = refl }) in
    let reply : IsOptionalPart new spans.reply (optional_part old spans.reply) =
    optional_later old new spans.reply (optional_part old spans.reply) grows
    (record { there = are.reply; same = refl }) in
    let headers : IsOptionalPart new spans.headers (optional_part old spans.headers) =
    optional_later old new spans.headers (optional_part old spans.headers) grows
    (record { there = are.headers; same = refl }) in
    let payload : IsPart new spans.payload (part old spans.payload) =
    part_later old new spans.payload (part old spans.payload) grows (record { there = are.payload; same = refl }) in
    let spelt : IsSpelt new spans (content_in old spans) =
    spelt_by new spans (content_in old spans) subject reply headers payload in
    spelt.same

-- each part was put behind those before it
pub all_put : (first second third last : List ℕ) (spans : Spans) (content : Content)
    → IsPart first spans.subject content.subject
    → Extends first second → IsOptionalPart second spans.reply content.reply
    → Extends second third → IsOptionalPart third spans.headers content.headers
    → Extends third last → IsPart last spans.payload content.payload
    → IsSpelt last spans content
all_put first second third last spans content subject one reply two headers three payload =
    let behind = extends_on second third last two three in
    let all = extends_on first second last one behind in
    spelt_by last spans content
    (part_later first last spans.subject content.subject all subject)
    (optional_later second last spans.reply content.reply behind reply)
    (optional_later third last spans.headers content.headers three headers)
    payload
