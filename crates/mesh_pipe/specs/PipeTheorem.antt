-- What a pipe does, over any reader and writer that tell their bytes.
use Rattle.std.specs.Prelude.{◌≡◌, ℕ, ◌+◌, ◌-◌, ◌^◌, ◌⊎◌, Bool, true, false, List, ◌++◌, Option, Result, Ok, Err}
use Rattle.std.specs.Io.KnownBytes.{Appends, Consumes, IsAtEnd}
use Rattle.mesh_pipe.specs.declared.pipe.PipeEnd.{PipeEnd}
use Rattle.mesh_pipe.specs.declared.pipe.PipeEnd.TheVariants.{Ended, Closed}
use Rattle.mesh_pipe.specs.declared.faults.PipeFault.{PipeFault}
use Rattle.mesh_pipe.specs.declared.faults.PipeFault.TheVariants.{Read, Write, OutOfMemory}
use Rattle.mesh_pipe.specs.PipeText.{pipe_text, pipe_closes}

-- a beginning of the text was written
pub record AppendsBeginning (was is : Option (List ℕ)) (text : List ℕ) : Type 0 where
  pub front : List ℕ
  pub rest : List ℕ
  pub written : Appends was is front
  pub whole : text ≡ front ++ rest

-- the whole text was written, and it closes or does not
pub record WritesText (read : List ℕ) (was is : Option (List ℕ)) (closes : Bool) : Type 0 where
  pub written : Appends was is (pipe_text read)
  pub closing : pipe_closes read ≡ closes

-- What was written of what was read. `Ended` comes only at the reader's end, and with no closing
-- text; `Closed` only behind one; and before a failed read all was written.
abbrev pub Answers : Result PipeEnd PipeFault → List ℕ → Option (List ℕ) → Option (List ℕ)
    → Option (List ℕ) → Type 0
Answers (Ok Ended) read left was is = WritesText read was is false × IsAtEnd left
Answers (Ok Closed) read left was is = WritesText read was is true
Answers (Err Read) read left was is = WritesText read was is false
Answers (Err Write) read left was is = AppendsBeginning was is (pipe_text read)
Answers (Err OutOfMemory) read left was is = AppendsBeginning was is (pipe_text read)

-- the reader gave these bytes, and lost them
pub record Pipes (result : Result PipeEnd PipeFault) (before left was is : Option (List ℕ)) :
    Type 0 where
  pub read : List ℕ
  pub consumed : Consumes before left read
  pub answers : Answers result read left was is

-- the most reads that a pipe makes
abbrev pub all_reads : ℕ
all_reads = 2 ^ 64 - 1

-- The reader failed just where the answer is `Read`, but where all reads were made. So nothing is
-- read or written behind a failure; and since each read may fail, and then all that is due was
-- written, each read finds all of it written.
abbrev pub CountsReads : Result PipeEnd PipeFault → ℕ → ℕ → ℕ → ℕ → Type 0
CountsReads (Err Read) reads reads_after failures failures_after =
    (failures_after ≡ failures + 1)
    ⊎ ((failures_after ≡ failures) × (reads_after ≡ reads + all_reads))
CountsReads (Err Write) reads reads_after failures failures_after = failures_after ≡ failures
CountsReads (Err OutOfMemory) reads reads_after failures failures_after = failures_after ≡ failures
CountsReads (Ok end) reads reads_after failures failures_after = failures_after ≡ failures

-- the writer failed just where the answer is `Write`
abbrev pub CountsFailedWrites : Result PipeEnd PipeFault → ℕ → ℕ → Type 0
CountsFailedWrites (Err Write) failures failures_after = failures_after ≡ failures + 1
CountsFailedWrites (Err Read) failures failures_after = failures_after ≡ failures
CountsFailedWrites (Err OutOfMemory) failures failures_after = failures_after ≡ failures
CountsFailedWrites (Ok end) failures failures_after = failures_after ≡ failures
