-- What a program does that reads a script and plays it, over any reader and writer that tell their
-- bytes (profile).
use Rattle.std.specs.Prelude.{◌≡◌, ℕ, ◌+◌, ◌≤◌, ◌⊎◌, List, [], length, codes, Option, Result, Ok, Err}
use Rattle.std.specs.Io.KnownBytes.{Appends, Consumes, IsAtEnd}
use Rattle.subj.specs.declared.limits.TheConstants.{SCRIPT_BYTES}
use Rattle.script_form.specs.declared.faults.ScriptFault.{ScriptFault}
use Rattle.script_form.specs.Faults.{script_fault_number}
use Rattle.script_form.specs.Form.{Script, script_of}
use Rattle.mesh_script.specs.declared.output.PlayFault.{PlayFault}
use Rattle.mesh_script.specs.declared.output.PlayFault.TheVariants as play
use Rattle.mesh_script.specs.declared.whole_runs.RunFault.{RunFault}
use Rattle.mesh_script.specs.declared.whole_runs.RunFault.TheVariants.{Refused, Read, Write, OutOfMemory}
use Rattle.mesh_script.specs.Lines.{refused_text}
use Rattle.mesh_script.specs.Played.{IsPlayedSafely, AppendsStart}

-- all bytes were read, or one more than a script has
abbrev pub IsAllRead : List ℕ → Option (List ℕ) → Type 0
IsAllRead read left = IsAtEnd left ⊎ (length read ≡ SCRIPT_BYTES + 1)

abbrev pub refused_line : ScriptFault → List ℕ
refused_line fault = refused_text (codes "script") (script_fault_number fault)

-- what is to be written of what bytes are as a script: of a script the text of a run, and of all
-- else the refusal
abbrev pub IsText : Result Script ScriptFault → List ℕ → Type 0
IsText (Ok script) text = IsPlayedSafely script text
IsText (Err fault) text = text ≡ refused_line fault

-- the text of what was read, of which a beginning was written
pub record Starts (read : List ℕ) (left was is : Option (List ℕ)) : Type 0 where
  pub all : IsAllRead read left
  pub text : List ℕ
  pub is_text : IsText (script_of read) text
  pub start : AppendsStart was is text

-- and all of it, where it is a script, or a refusal
pub record Tells (read : List ℕ) (left was is : Option (List ℕ))
    (meaning : Result Script ScriptFault) : Type 0 where
  pub all : IsAllRead read left
  pub means : script_of read ≡ meaning
  pub text : List ℕ
  pub is_text : IsText meaning text
  pub written : Appends was is text

pub record TellsScript (read : List ℕ) (left was is : Option (List ℕ)) : Type 0 where
  pub script : Script
  pub tells : Tells read left was is (Ok script)

-- Nothing is written before all is read. A failed write, and want of memory while a script is
-- played, leave a beginning.
abbrev pub Answers : {T : Type 0} → Result T RunFault → List ℕ → Option (List ℕ) → Option (List ℕ)
    → Option (List ℕ) → Type 0
Answers (Ok x) read left was is = TellsScript read left was is
Answers (Err (Refused error)) read left was is = Tells read left was is (Err error.fault)
Answers (Err Read) read left was is = Appends was is []
Answers (Err Write) read left was is = Starts read left was is
Answers (Err OutOfMemory) read left was is = Appends was is [] ⊎ Starts read left was is

-- the reader gave these bytes, at most one more than a script has
pub record RunsScript {T : Type 0} (result : Result T RunFault)
    (before left was is : Option (List ℕ)) : Type 0 where
  pub read : List ℕ
  pub few : length read ≤ SCRIPT_BYTES + 1
  pub consumed : Consumes before left read
  pub answers : Answers result read left was is

-- a read or a write failed just where the answer says so

abbrev pub CountsReads : {T : Type 0} → Result T RunFault → ℕ → ℕ → Type 0
CountsReads (Ok x) failures failures_after = failures_after ≡ failures
CountsReads (Err (Refused error)) failures failures_after = failures_after ≡ failures
CountsReads (Err Read) failures failures_after = failures_after ≡ failures + 1
CountsReads (Err Write) failures failures_after = failures_after ≡ failures
CountsReads (Err OutOfMemory) failures failures_after = failures_after ≡ failures

abbrev pub CountsFailedWrites : {T : Type 0} → Result T RunFault → ℕ → ℕ → Type 0
CountsFailedWrites (Ok x) failures failures_after = failures_after ≡ failures
CountsFailedWrites (Err (Refused error)) failures failures_after = failures_after ≡ failures
CountsFailedWrites (Err Read) failures failures_after = failures_after ≡ failures
CountsFailedWrites (Err Write) failures failures_after = failures_after ≡ failures + 1
CountsFailedWrites (Err OutOfMemory) failures failures_after = failures_after ≡ failures

-- ---- the parts of that

-- why playing broke off
abbrev pub broken_by : PlayFault → RunFault
broken_by play.Write = Write
broken_by play.OutOfMemory = OutOfMemory

pub record HasRead (read : List ℕ) (before left : Option (List ℕ)) : Type 0 where
  pub few : length read ≤ SCRIPT_BYTES + 1
  pub consumed : Consumes before left read
  pub all : IsAllRead read left

pub record HasReadSome (before left : Option (List ℕ)) : Type 0 where
  pub read : List ℕ
  pub few : length read ≤ SCRIPT_BYTES + 1
  pub consumed : Consumes before left read

-- some were read, at most so many, and lost
pub record ReadsAway (before left : Option (List ℕ)) (most : ℕ) : Type 0 where
  pub bytes : List ℕ
  pub bound : length bytes ≤ most
  pub consumed : Consumes before left bytes

-- of a reader, it broke off for its own failure, or for want of memory
abbrev pub CountsFailedReads : {T : Type 0} → Result T RunFault → ℕ → ℕ → Type 0
CountsFailedReads (Ok x) failures failures_after = failures_after ≡ failures
CountsFailedReads (Err (Refused error)) failures failures_after = ⊥
CountsFailedReads (Err Read) failures failures_after = failures_after ≡ failures + 1
CountsFailedReads (Err Write) failures failures_after = ⊥
CountsFailedReads (Err OutOfMemory) failures failures_after = failures_after ≡ failures
