-- A numbered frame that was read is spelt as the relation says.
use Rattle.std.proofs.Common.{◌≡◌, ℕ, ◌≤◌, true, false, ◌&&◌, ◌||◌, List, [], ◌∷◌, length, refl, ap, sym, ◌∙◌, subst, arith, Option, Some, None, Ok}
use Rattle.std.specs.Prelude.{nat_le, codes, option_map}
use Rattle.std.proofs.lemmas.Bool.Decides.{nat_tests}
use Rattle.subj.specs.declared.limits.TheConstants.{MAX_COUNTER, MAX_PAYLOAD}
use Rattle.subj.specs.Messages.{Content, are_headers, body_bytes}
use Rattle.route_values.specs.declared.bodies.Body.{Body}
use Rattle.route_values.specs.declared.bodies.Body.TheVariants.{Plus, Minus, Snapshot, Msg}
use Rattle.route_values.specs.Frames.{Frame, is_number}
use Rattle.route_values.specs.Snapshots.{Weighted}
use Rattle.route_values.specs.Valid.{AreSnapshotKeys, IsBody, IsFrame}
use Rattle.route_frames.specs.declared.reading.LineBody.{LineBody}
use Rattle.route_frames.specs.declared.reading.LineBody.TheVariants as said
use Rattle.route_frames.specs.declared.reading.NumberedLine.{NumberedLine}
use Rattle.route_frames.specs.CommonFields.{CommonFields, common_fields}
use Rattle.route_frames.specs.NumberedLines.{plus_line, minus_line, snapshot_line, message_line, header_line}
use Rattle.route_frames.specs.Operations.{word_of}
use Rattle.route_frames.specs.Canonical.{message_operation, operation_word, form_fields}
use Rattle.route_frames.specs.Spelling.{HasCommon, SpellsSizes, SpellsNumbered}
use Rattle.route_frames.proofs.Spelt.Chains.{some_same}
use Rattle.route_frames.proofs.Spelt.Fields.{CommonIs}
use Rattle.route_frames.proofs.Spelt.Bodies.{plus_read, minus_read, snapshot_read}
use Rattle.route_frames.proofs.Spelt.Messages.{word_for, MessageRead, message_read, header_read}

-- ---- the common fields

record CommonShape (all : List (List ℕ)) (common : CommonFields) (behind : List (List ℕ)) : Type 0 where
  pub whole : all ≡ common.from ∷ common.inc ∷ common.to ∷ common.to_inc ∷ common.number ∷ behind

common_shape : (all : List (List ℕ)) (split : CommonFields × List (List ℕ))
    → common_fields all ≡ Some split
    → CommonShape all split.0 split.1
common_shape [] split e = absurd (cc)
common_shape (from ∷ []) split e = absurd (cc)
common_shape (from ∷ inc ∷ []) split e = absurd (cc)
common_shape (from ∷ inc ∷ to ∷ []) split e = absurd (cc)
common_shape (from ∷ inc ∷ to ∷ to_inc ∷ []) split e = absurd (cc)
common_shape (from ∷ inc ∷ to ∷ to_inc ∷ number ∷ behind) split e =
    subst (λ split. CommonShape (from ∷ inc ∷ to ∷ to_inc ∷ number ∷ behind) split.0 split.1)
    (some_same (record { from = from; inc = inc; to = to; to_inc = to_inc; number = number }, behind) split e)
    (record { whole = refl })

-- the frame whose line this is, with a body
abbrev pub frame_in : NumberedLine → Body → Frame
frame_in line body = record {
  from = line.from;
  inc = line.numbers.inc;
  to = line.to;
  to_inc = line.numbers.to_inc;
  number = line.numbers.number;
  body = body;
}

has_common : (all : List (List ℕ)) (common : CommonFields) (behind : List (List ℕ)) (least : ℕ) (line : NumberedLine)
    (body : Body)
    → CommonShape all common behind
    → CommonIs common least line
    → HasCommon (frame_in line body) all behind
has_common all common behind least line body shape is = record {
  inc = common.inc;
  to_inc = common.to_inc;
  number = common.number;
  whole =
      shape.whole
      ∙ ap (λ from. from ∷ common.inc ∷ common.to ∷ common.to_inc ∷ common.number ∷ behind) is.from
      ∙ ap (λ to. line.from ∷ common.inc ∷ to ∷ common.to_inc ∷ common.number ∷ behind) is.to;
  is_inc = is.is_inc;
  is_to_inc = is.is_to_inc;
  is_number = is.is_number;
}

-- ---- bodies that a line may have, and the size that it announces

-- a header block, where there is one, and a payload, of these sizes
pub record AreSized (headers : Option ℕ) (bytes : ℕ) (block : Option (List ℕ)) (payload : List ℕ) : Type 0 where
  pub begun : are_headers block ≡ true
  pub block_size : option_map (λ block. length block) block ≡ headers
  pub whole_size : length (body_bytes block payload) ≡ bytes

abbrev pub Fits : LineBody → Body → Option ℕ → Type 0
Fits (said.Plus weighted) body size = (body ≡ Plus weighted) × (size ≡ None)
Fits (said.Minus key) body size = (body ≡ Minus key) × (size ≡ None)
Fits (said.Snapshot bytes) body size =
    (keys : List Weighted) × (body ≡ Snapshot keys) × AreSnapshotKeys keys × (size ≡ Some bytes)
Fits (said.Msg subject reply queues headers bytes) body size =
    (block : Option (List ℕ))
    × (payload : List ℕ)
    × (body ≡ Msg (record { subject = subject; reply = reply; headers = block; payload = payload }) queues)
    × AreSized headers bytes block payload
    × (size ≡ Some bytes)

-- what a numbered line that was read spells, whatever body it has
pub record LineSpells (word : List ℕ) (all : List (List ℕ)) (line : NumberedLine) (body : Body) (size : Option ℕ) :
    Type 0 where
  pub has_word : operation_word body ≡ word
  pub spells : SpellsNumbered (frame_in line body) size all
  pub valid : IsFrame (frame_in line body)

counts_from_one : (n : ℕ) → 1 ≤ n → n ≤ MAX_COUNTER → (nat_le n MAX_COUNTER && (nat_le 1 n || false)) ≡ true
counts_from_one n low high = grind (arith, nat_tests)

counts_from_zero : (n : ℕ) → n ≤ MAX_COUNTER → (nat_le n MAX_COUNTER && (nat_le 1 n || true)) ≡ true
counts_from_zero n high = grind (arith, nat_tests)

valid_frame : (common : CommonFields) (least : ℕ) (line : NumberedLine) (body : Body)
    → CommonIs common least line
    → is_number line.numbers.number body ≡ true
    → IsBody body
    → IsFrame (frame_in line body)
valid_frame common least line body is counts valid = record {
  from = is.sender;
  inc = is.life;
  to = is.receiver;
  to_inc = is.other_life;
  number = counts;
  body = valid;
}

pub plus_spells : (all : List (List ℕ)) (split : CommonFields × List (List ℕ)) (line : NumberedLine) (body : Body)
    (size : Option ℕ)
    → common_fields all ≡ Some split
    → plus_line split.0 split.1 ≡ Ok line
    → Fits line.body body size
    → LineSpells (codes "RS+") all line body size
plus_spells all split line body size is e fits =
    let read = plus_read split.0 split.1 line e in
    let fit = subst (λ said. Fits said body size) read.is_body fits in
    let counts = counts_from_one line.numbers.number (read.says_common).low (read.says_common).high in
    subst (λ body. LineSpells (codes "RS+") all line body size) (sym fit.0) (record {
      has_word = refl;
      spells = (
        split.1,
        has_common all split.0 split.1 1 line (Plus read.weighted) (common_shape all split is) read.says_common,
        (fit.1, read.spells),
      );
      valid = valid_frame split.0 1 line (Plus read.weighted) read.says_common counts read.valid;
    })

pub minus_spells : (all : List (List ℕ)) (split : CommonFields × List (List ℕ)) (line : NumberedLine) (body : Body)
    (size : Option ℕ)
    → common_fields all ≡ Some split
    → minus_line split.0 split.1 ≡ Ok line
    → Fits line.body body size
    → LineSpells (codes "RS-") all line body size
minus_spells all split line body size is e fits =
    let read = minus_read split.0 split.1 line e in
    let fit = subst (λ said. Fits said body size) read.is_body fits in
    let counts = counts_from_one line.numbers.number (read.says_common).low (read.says_common).high in
    subst (λ body. LineSpells (codes "RS-") all line body size) (sym fit.0) (record {
      has_word = refl;
      spells = (
        split.1,
        has_common all split.0 split.1 1 line (Minus read.key) (common_shape all split is) read.says_common,
        (fit.1, read.spells),
      );
      valid = valid_frame split.0 1 line (Minus read.key) read.says_common counts read.valid;
    })

pub snapshot_spells : (all : List (List ℕ)) (split : CommonFields × List (List ℕ)) (line : NumberedLine) (body : Body)
    (size : Option ℕ)
    → common_fields all ≡ Some split
    → snapshot_line split.0 split.1 ≡ Ok line
    → Fits line.body body size
    → LineSpells (codes "RSS") all line body size
snapshot_spells all split line body size is e fits =
    let read = snapshot_read split.0 split.1 line e in
    let fit = subst (λ said. Fits said body size) read.is_body fits in
    let counts = counts_from_zero line.numbers.number (read.says_common).high in
    subst (λ body. LineSpells (codes "RSS") all line body size) (sym fit.1) (record {
      has_word = refl;
      spells = (
        split.1,
        has_common all split.0 split.1 0 line (Snapshot fit.0) (common_shape all split is) read.says_common,
        (read.size, fit.3, read.short, read.spells),
      );
      valid = valid_frame split.0 0 line (Snapshot fit.0) read.says_common counts fit.2;
    })

-- ---- RMSG and RHMSG

word_same : (block : Option (List ℕ))
    → word_of (message_operation block) ≡ word_for (option_map (λ block. length block) block)
word_same None = refl
word_same (Some block) = refl

publication_spells : (word : List ℕ) (all : List (List ℕ)) (split : CommonFields × List (List ℕ)) (line : NumberedLine)
    (body : Body) (size : Option ℕ)
    → common_fields all ≡ Some split
    → MessageRead word split.0 split.1 line
    → Fits line.body body size
    → LineSpells word all line body size
publication_spells word all split line body size is read fits =
    let fit = subst (λ said. Fits said body size) read.is_body fits in
    let sized = fit.3 in
    let message : Content = record { subject = read.subject; reply = read.reply; headers = fit.0; payload = fit.1 } in
    let counts = counts_from_one line.numbers.number (read.says_common).low (read.says_common).high in
    let front = codes "$G" ∷ read.subject ∷ form_fields read.reply read.queues in
    let spells = subst (λ headers. SpellsSizes front headers read.size split.1) (sym sized.block_size) read.spells in
    subst (λ body. LineSpells word all line body size) (sym fit.2) (record {
      has_word = word_same fit.0 ∙ ap word_for sized.block_size ∙ read.has_word;
      spells = (
        split.1,
        has_common all split.0 split.1 1 line (Msg message read.queues) (common_shape all split is) read.says_common,
        (
          fit.4 ∙ ap (λ n. Some n) (sym sized.whole_size),
          subst (λ n. SpellsSizes front (option_map (λ block. length block) fit.0) n split.1) (sym sized.whole_size)
              spells,
        ),
      );
      valid =
          valid_frame split.0 1 line (Msg message read.queues) read.says_common counts (record {
            subject = read.is_subject;
            reply = read.is_reply;
            headers = sized.begun;
            body = subst (λ n. n ≤ MAX_PAYLOAD) (sym sized.whole_size) read.short;
            names = read.are_names;
            ordered = read.ordered;
          });
    })

pub message_spells : (all : List (List ℕ)) (split : CommonFields × List (List ℕ)) (line : NumberedLine) (body : Body)
    (size : Option ℕ)
    → common_fields all ≡ Some split
    → message_line split.0 split.1 ≡ Ok line
    → Fits line.body body size
    → LineSpells (codes "RMSG") all line body size
message_spells all split line body size is e fits =
    publication_spells (codes "RMSG") all split line body size is (message_read split.0 split.1 line e) fits

pub header_spells : (all : List (List ℕ)) (split : CommonFields × List (List ℕ)) (line : NumberedLine) (body : Body)
    (size : Option ℕ)
    → common_fields all ≡ Some split
    → header_line split.0 split.1 ≡ Ok line
    → Fits line.body body size
    → LineSpells (codes "RHMSG") all line body size
header_spells all split line body size is e fits =
    publication_spells (codes "RHMSG") all split line body size is (header_read split.0 split.1 line e) fits
