-- That a text that begins with publications is read as these, and then as what stands behind them.
use Rattle.std.specs.Prelude.{◌≡◌, ℕ, ◌-◌, ◌≤◌, List, [], ◌∷◌, ◌++◌, length, drop, codes, decimal, Some, None}
use Rattle.subj.specs.declared.limits.TheConstants.{MAX_PAYLOAD}
use Rattle.subj.specs.Names.{subject_fault}
use Rattle.line_fields.specs.LineEnd.{line_end}
use Rattle.wire_cut.specs.Reading.{reading_of, with_items}
use Rattle.client_frames.specs.declared.client_line.Awaited.TheVariants as awaits
use Rattle.client_frames.specs.Lines.{reply_fault}
use Rattle.client_frames.specs.Streams.{client_grammar}
use Rattle.publication_runs.specs.Lines.{PubFields, line_text}
use Rattle.publication_runs.specs.Runs.{Publication, item_of, fields_of, run_items, BeginsWith, BeginsWithRun}

-- ---- one publication

abbrev pub ReadsPublication : Type 0
ReadsPublication =
    (publication : Publication) (text rest : List ℕ)
    → BeginsWith publication text rest
    → reading_of client_grammar awaits.Line text
    ≡ with_items (item_of publication ∷ []) (reading_of client_grammar awaits.Line rest)

-- nothing of it is refused
pub record IsPublishable (publication : Publication) : Type 0 where
  pub is_subject : subject_fault publication.subject ≡ None
  pub is_reply : reply_fault publication.reply ≡ None
  pub fits : length publication.payload ≤ MAX_PAYLOAD

-- the size in decimal, without zeros in front
abbrev pub in_decimal : Publication → PubFields
in_decimal publication = fields_of publication (decimal (length publication.payload))

-- each that can be published can be written so
abbrev pub IsPlainInDecimal : Type 0
IsPlainInDecimal =
    (publication : Publication) (rest : List ℕ)
    → IsPublishable publication
    → BeginsWith publication
    (line_text (in_decimal publication)
    ++ (line_end ++ (publication.payload ++ (line_end ++ rest))))
    rest

-- ---- a run

abbrev pub ReadsRun : Type 0
ReadsRun =
    (text : List ℕ) (publications : List Publication) (rest : List ℕ)
    → BeginsWithRun text publications rest
    → reading_of client_grammar awaits.Line text
    ≡ with_items (run_items publications) (reading_of client_grammar awaits.Line rest)

-- its bytes are the first ones of the text, as many as the rest has less
abbrev pub LeavesRest : Type 0
LeavesRest =
    (text : List ℕ) (publications : List Publication) (rest : List ℕ)
    → BeginsWithRun text publications rest
    → (length rest ≤ length text) × (drop (length text - length rest) text ≡ rest)

-- ---- a run that is found from its beginning on

-- one more publication stands behind it
abbrev pub ExtendsRun : Type 0
ExtendsRun =
    (text : List ℕ) (given : List Publication) (behind : List ℕ) (next : Publication)
    (rest : List ℕ)
    → BeginsWithRun text given behind
    → BeginsWith next behind rest
    → BeginsWithRun text (given ++ next ∷ []) rest

-- any part in front is a run, and so is what stands behind it
abbrev pub TakesFront : Type 0
TakesFront =
    (text : List ℕ) (front others : List Publication) (rest : List ℕ)
    → BeginsWithRun text (front ++ others) rest
    → (middle : List ℕ) × BeginsWithRun text front middle × BeginsWithRun middle others rest

-- ---- a sample, by its bytes

abbrev pub sample : List Publication
sample =
    (record { subject = codes "a.b"; reply = None; payload = codes "hi" })
    ∷ (record { subject = codes "c"; reply = Some (codes "d"); payload = [] })
    ∷ []

abbrev pub IsSample : Type 0
IsSample =
    BeginsWithRun (codes "PUB a.b 2\r\nhi\r\nPUB c d 0\r\n\r\nPING\r\n") sample (codes "PING\r\n")
