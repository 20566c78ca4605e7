-- How a text is cut.
use Rattle.std.specs.Prelude.{◌≡◌, ◌≢◌, ℕ, false, List, ◌∷◌, ◌++◌, length, Option, Some, None}
use Rattle.std.specs.List.{list_any}
use Rattle.std.specs.Option.{option_copied}
use Rattle.memchr.specs.Find.{is_byte}
use Rattle.line_fields.specs.LineEnd.{line_end}
use Rattle.publication_runs.specs.declared.cuts.LineFields.{LineFields}
use Rattle.publication_runs.specs.Lines.{PubFields, line_text, IsPlainLine}

abbrev pub blank : ℕ
blank = 32

abbrev pub cr : ℕ
cr = 13

-- the byte stands nowhere in the bytes
abbrev pub HasNo : ℕ → List ℕ → Type 0
HasNo byte bytes = list_any (is_byte byte) bytes ≡ false

-- the text is cut at the first place of the byte
pub record IsCutAt (byte : ℕ) (text front behind : List ℕ) : Type 0 where
  pub whole : text ≡ front ++ byte ∷ behind
  pub first : HasNo byte front

abbrev pub BeginsOtherwise : List ℕ → List ℕ → Type 0
BeginsOtherwise front text = (rest : List ℕ) → text ≢ front ++ rest

-- ---- a line

abbrev pub fields_in : LineFields → PubFields
fields_in fields = record {
  subject = fields.subject.now;
  reply = option_copied fields.reply;
  digits = fields.digits.now;
}

-- the reply ends with the first blank, or there is none and the digits are all
abbrev pub IsCutTail : Option (List ℕ) → List ℕ → Type 0
IsCutTail None digits = HasNo blank digits
IsCutTail (Some reply) digits = HasNo blank reply

-- a line is cut into these at its first blanks, and ends with its first CR
pub record AreCut (fields : PubFields) : Type 0 where
  pub first : HasNo blank fields.subject
  pub second : IsCutTail fields.reply fields.digits
  pub end : HasNo cr (line_text fields)

-- the text begins with a line that is cut into these
pub record BeginsWithFields (fields : PubFields) (text rest : List ℕ) : Type 0 where
  pub are_cut : AreCut fields
  pub whole : text ≡ line_text fields ++ (line_end ++ rest)

abbrev pub HasNoFields : List ℕ → Type 0
HasNoFields text =
    (fields : PubFields) (rest : List ℕ)
    → AreCut fields
    → text ≢ line_text fields ++ (line_end ++ rest)

-- the text begins with no line of a publication that is plainly written
abbrev pub HasNoLine : List ℕ → Type 0
HasNoLine text =
    (line : List ℕ) (fields : PubFields) (size : ℕ) (rest : List ℕ)
    → IsPlainLine line fields size
    → text ≢ line ++ rest

-- none that is on this subject
abbrev pub HasNoLineOn : List ℕ → List ℕ → Type 0
HasNoLineOn subject text =
    (line : List ℕ) (fields : PubFields) (size : ℕ) (rest : List ℕ)
    → IsPlainLine line fields size
    → fields.subject ≡ subject
    → text ≢ line ++ rest

-- ---- a payload

-- the text begins with so many bytes, and with CR LF behind them
pub record BeginsWithPayload (size : ℕ) (text payload rest : List ℕ) : Type 0 where
  pub whole : text ≡ payload ++ (line_end ++ rest)
  pub is_size : length payload ≡ size

abbrev pub HasNoPayload : ℕ → List ℕ → Type 0
HasNoPayload size text =
    (payload rest : List ℕ) → length payload ≡ size → text ≢ payload ++ (line_end ++ rest)
