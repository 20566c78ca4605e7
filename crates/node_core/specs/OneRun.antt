-- A list of events at a server, with what is answered, and what a server promises of it.
use Rattle.std.specs.Prelude.{◌≡◌, Bool, true, false, List, [], ◌∷◌, ◌++◌, map, Result, Ok, Err}
use Rattle.subj.specs.Answers.{IsAnswered}
use Rattle.node_core.specs.declared.did.Did.{Did}
use Rattle.node_core.specs.declared.refused.Refused.{Refused}
use Rattle.node_core.specs.declared.refused.Refused.TheVariants.{Fault, OutOfMemory}
use Rattle.node_law.specs.Events.{NodeEvent}
use Rattle.node_core.specs.InCode.{result_in_code}
use Rattle.node_core.specs.Outcome.{Outcome, Does, did_of}
pub use Rattle.node_law.specs.Promises.{KeepsPromises, OneServerKeeps}
use Rattle.node_law.specs.Runs.{Done, Ran}
use Rattle.node_core.specs.Served.{Served, refusal}

-- ---- the answers

abbrev pub is_out_of_memory : {X : Type 0} → Result X Refused → Bool
is_out_of_memory (Ok x) = false
is_out_of_memory (Err (Fault why)) = false
is_out_of_memory (Err OutOfMemory) = true

-- what is told of an answer
abbrev pub outcome_told : Result Did Refused → Result Outcome Refused
outcome_told (Ok did) = Ok (did_of did)
outcome_told (Err why) = Err why

-- what follows an answer: after one that met want of memory this, and else that
abbrev pub Follows : Bool → Type 0 → Type 0 → Type 0
Follows true this that = this
Follows false this that = that

-- The events are gone through in order, each with its answer: done, or refused by its first cause,
-- which leaves all as it was. One that meets want of memory is the last.
abbrev pub IsRun : Served → List NodeEvent → List (Result Outcome Refused) → Served → Type 0
IsRun old [] [] new = new ≡ old
IsRun old [] (r ∷ rs) new = ⊥
IsRun old (e ∷ es) [] new = ⊥
IsRun old (e ∷ es) (r ∷ rs) new =
    (mid : Served)
    × IsAnswered (refusal old e) (λ did. Does old e did mid) (mid ≡ old) (result_in_code r)
    × Follows (is_out_of_memory r) ((rs ≡ []) × (new ≡ mid)) (IsRun mid es rs new)

-- ---- the promises

-- Whatever the server had done before, it did these events since, the newest first, and keeps its
-- promises of all together.
pub record GoesOn (events : List NodeEvent) (h : List Done) (s : Served) : Type 0 where
  pub more : List Done
  pub done : map (λ (d : Done). d.event) more ≡ events
  pub ran : Ran s.server (more ++ h) s.node
  pub keeps : KeepsPromises s.server (more ++ h) s.node

-- the events that were not refused, the newest first
abbrev pub done_with : List NodeEvent → List (Result Outcome Refused) → List NodeEvent
done_with [] rs = []
done_with (e ∷ es) [] = []
done_with (e ∷ es) (Ok did ∷ rs) = done_with es rs ++ e ∷ []
done_with (e ∷ es) (Err why ∷ rs) = done_with es rs
