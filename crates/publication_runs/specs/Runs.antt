-- Publications that are plainly written, one behind another.
use Rattle.std.specs.Prelude.{◌≡◌, ℕ, List, [], ◌∷◌, ◌++◌, length, map, Option, None}
use Rattle.subj.specs.Messages.{Content}
use Rattle.line_fields.specs.LineEnd.{line_end}
use Rattle.client_frames.specs.declared.client_line.PubHead.{PubHead}
use Rattle.client_frames.specs.Streams.{StreamItem, published}
use Rattle.publication_runs.specs.Lines.{PubFields, IsPlainLine}

-- ---- one publication

-- what `PUB` publishes, which has no header block
pub record Publication : Type 0 where
  pub subject : List ℕ
  pub reply : Option (List ℕ)
  pub payload : List ℕ

abbrev pub content_of : Publication → Content
content_of publication = record {
  subject = publication.subject;
  reply = publication.reply;
  headers = None;
  payload = publication.payload;
}

abbrev pub head_of : Publication → PubHead
head_of publication = record {
  subject = publication.subject;
  reply = publication.reply;
  headers = None;
  size = length publication.payload;
}

-- what a stream tells of it
abbrev pub item_of : Publication → StreamItem
item_of publication = published (head_of publication) publication.payload

abbrev pub fields_of : Publication → List ℕ → PubFields
fields_of publication digits = record {
  subject = publication.subject;
  reply = publication.reply;
  digits = digits;
}

-- The text begins with the publication, plainly written, and the rest stands behind it. NATS
-- documentation, "Client Protocol": behind the line stand the payload and CR LF.
pub record BeginsWith (publication : Publication) (text rest : List ℕ) : Type 0 where
  pub line : List ℕ
  pub digits : List ℕ
  pub is_line : IsPlainLine line (fields_of publication digits) (length publication.payload)
  pub whole : text ≡ line ++ (publication.payload ++ (line_end ++ rest))

-- ---- a run

-- the text begins with these publications, in order, and the rest stands behind the last one
abbrev pub BeginsWithRun : List ℕ → List Publication → List ℕ → Type 0
BeginsWithRun text [] rest = text ≡ rest
BeginsWithRun text (publication ∷ publications) rest =
    (behind : List ℕ) × BeginsWith publication text behind × BeginsWithRun behind publications rest

-- what a stream tells of them
abbrev pub run_items : List Publication → List StreamItem
run_items publications = map item_of publications
