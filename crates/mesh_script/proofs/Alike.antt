-- What a call gives beside what it wrote does not matter: of two that wrote alike and ended alike, the same is said.
use Rattle.std.proofs.Common.{◌≡◌, ℕ, List, Option, Result, Ok, Err, subst, sym}
use Rattle.std.specs.Prelude.{IsErrAnd}
use Rattle.mesh_script.specs.declared.output.PlayFault.{PlayFault}
use Rattle.mesh_script.specs.declared.output.PlayFault.TheVariants as play
use Rattle.mesh_script.specs.declared.whole_runs.RunFault.{RunFault}
use Rattle.mesh_script.specs.declared.whole_runs.RunFault.TheVariants.{Refused, Read, Write, OutOfMemory}
use Rattle.mesh_script.specs.Played.{CountsWrites}
use Rattle.mesh_script.specs.Runs.{Answers, RunsScript, CountsReads, CountsFailedWrites}

-- ---- playing

counts_alike : (T U : Type 0) (fault : PlayFault) (before after : ℕ)
    → CountsWrites {T = T} (Err fault) before after
    → CountsWrites {T = U} (Err fault) before after
counts_alike T U play.Write before after counts = counts
counts_alike T U play.OutOfMemory before after counts = counts

pub fails_alike : {U : Type 0} (T : Type 0) (result : Result U PlayFault) (fault : PlayFault) (first a b : ℕ)
    → IsErrAnd result (λ e. e ≡ fault)
    → CountsWrites {T = T} (Err fault) a b
    → a ≡ first
    → CountsWrites result first b
fails_alike T (Ok x) fault first a b err counts same = absurd err
fails_alike {U = U} T (Err e) fault first a b err counts same =
    subst (λ f. CountsWrites {T = U} (Err f) first b) (sym err)
    (subst (λ n. CountsWrites {T = U} (Err fault) n b) same (counts_alike T U fault a b counts))

-- ---- reading and playing

pub runs_alike : {T U : Type 0} (a : Result T RunFault) (b : Result U RunFault) (before left was is : Option (List ℕ))
    → ((read : List ℕ) → Answers a read left was is → Answers b read left was is)
    → RunsScript a before left was is
    → RunsScript b before left was is
runs_alike a b before left was is same run = record {
  read = run.read;
  few = run.few;
  consumed = run.consumed;
  answers = same run.read run.answers;
}

pub ends_alike : (T U : Type 0) (fault : RunFault) (read : List ℕ) (left was is : Option (List ℕ))
    → Answers {T = T} (Err fault) read left was is → Answers {T = U} (Err fault) read left was is
ends_alike T U (Refused error) read left was is answers = answers
ends_alike T U Read read left was is answers = answers
ends_alike T U Write read left was is answers = answers
ends_alike T U OutOfMemory read left was is answers = answers

pub reads_alike : (T U : Type 0) (fault : RunFault) (before after : ℕ)
    → CountsReads {T = T} (Err fault) before after
    → CountsReads {T = U} (Err fault) before after
reads_alike T U (Refused error) before after counts = counts
reads_alike T U Read before after counts = counts
reads_alike T U Write before after counts = counts
reads_alike T U OutOfMemory before after counts = counts

pub writes_alike : (T U : Type 0) (fault : RunFault) (before after : ℕ)
    → CountsFailedWrites {T = T} (Err fault) before after
    → CountsFailedWrites {T = U} (Err fault) before after
writes_alike T U (Refused error) before after counts = counts
writes_alike T U Read before after counts = counts
writes_alike T U Write before after counts = counts
writes_alike T U OutOfMemory before after counts = counts
