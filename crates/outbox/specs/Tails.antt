-- How the tails of a run are kept: the messages one behind another, each with a head of so many
-- bytes, and for each its publication and how many of the bytes are its tail's.
use Rattle.std.specs.Prelude.{ℕ, ◌+◌, List, [], ◌∷◌, length, take, drop, sum_by}
use Rattle.outbox.specs.Views.{Tail}
use Rattle.outbox.specs.declared.run_tails.TailMark.{TailMark}

-- the tails, each behind a head of so many bytes, in order
abbrev pub tails_in : ℕ → List TailMark → List ℕ → List Tail
tails_in head_len [] bytes = []
tails_in head_len (mark ∷ marks) bytes =
    record { id = mark.id; bytes = take mark.len (drop head_len bytes) }
    ∷ tails_in head_len marks (drop (head_len + mark.len) bytes)

-- how many bytes the messages have together, each with a head of so many
abbrev pub marked : ℕ → List TailMark → ℕ
marked head_len marks = sum_by (λ mark. head_len + mark.len) marks

abbrev pub mark_of : Tail → TailMark
mark_of tail = record { id = tail.id; len = length tail.bytes }
