-- What is written of a pattern and a subject (profile).
use Rattle.std.specs.Prelude.{◌≡◌, ℕ, ◌+◌, Bool, true, false, List, ◌++◌, codes, Option, Some, None, Result, Ok, Err}
use Rattle.std.specs.Io.KnownBytes.{Appends}
use Rattle.subj.specs.declared.faults.NameFault.{NameFault}
use Rattle.subj.specs.Matching.{subject_matches}
use Rattle.subj.specs.Faults.{name_fault_number}
use Rattle.subj.specs.Names.{pattern_fault, subject_fault}
use Rattle.mesh_script.specs.declared.whole_runs.MatchFault.{MatchFault}
use Rattle.mesh_script.specs.declared.whole_runs.MatchFault.TheVariants.{BadPattern, BadSubject, Write, OutOfMemory}
use Rattle.mesh_script.specs.declared.output.PlayFault.{PlayFault}
use Rattle.mesh_script.specs.declared.output.PlayFault.TheVariants as play
use Rattle.mesh_script.specs.Lines.{refused_text}
use Rattle.mesh_script.specs.Played.{AppendsStart}

-- the first of the two that is no name, with its cause
abbrev pub first_refusal : Option NameFault → Option NameFault → Option MatchFault
first_refusal (Some fault) other = Some (BadPattern fault)
first_refusal None (Some fault) = Some (BadSubject fault)
first_refusal None None = None

abbrev pub match_refusal : List ℕ → List ℕ → Option MatchFault
match_refusal pattern subject = first_refusal (pattern_fault pattern) (subject_fault subject)

abbrev pub truth_text : Bool → List ℕ
truth_text true = codes "true" ++ codes "\n"
truth_text false = codes "false" ++ codes "\n"

-- the number of that cause, or whether the pattern matches
abbrev pub answer_text : Option NameFault → Option NameFault → Bool → List ℕ
answer_text (Some fault) other matches = refused_text (codes "pattern") (name_fault_number fault)
answer_text None (Some fault) matches = refused_text (codes "subject") (name_fault_number fault)
answer_text None None matches = truth_text matches

abbrev pub match_text : List ℕ → List ℕ → List ℕ
match_text pattern subject =
    answer_text (pattern_fault pattern) (subject_fault subject) (subject_matches pattern subject)

-- All of it is written, and the answer says whether it is a refusal; of a failed write, and where
-- memory is wanting, a beginning.
abbrev pub Matches : {T : Type 0} → Result T MatchFault → List ℕ → List ℕ → Option (List ℕ)
    → Option (List ℕ) → Type 0
Matches (Ok x) pattern subject was is =
    (match_refusal pattern subject ≡ None) × Appends was is (match_text pattern subject)
Matches (Err (BadPattern fault)) pattern subject was is =
    (match_refusal pattern subject ≡ Some (BadPattern fault))
    × Appends was is (match_text pattern subject)
Matches (Err (BadSubject fault)) pattern subject was is =
    (match_refusal pattern subject ≡ Some (BadSubject fault))
    × Appends was is (match_text pattern subject)
Matches (Err Write) pattern subject was is = AppendsStart was is (match_text pattern subject)
Matches (Err OutOfMemory) pattern subject was is = AppendsStart was is (match_text pattern subject)

-- a write failed just where the answer says so
abbrev pub CountsMatchWrites : {T : Type 0} → Result T MatchFault → ℕ → ℕ → Type 0
CountsMatchWrites (Ok x) failures failures_after = failures_after ≡ failures
CountsMatchWrites (Err (BadPattern fault)) failures failures_after = failures_after ≡ failures
CountsMatchWrites (Err (BadSubject fault)) failures failures_after = failures_after ≡ failures
CountsMatchWrites (Err Write) failures failures_after = failures_after ≡ failures + 1
CountsMatchWrites (Err OutOfMemory) failures failures_after = failures_after ≡ failures

-- why writing broke off
abbrev pub unmatched_by : PlayFault → MatchFault
unmatched_by play.Write = Write
unmatched_by play.OutOfMemory = OutOfMemory
