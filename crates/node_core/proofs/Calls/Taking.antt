-- Bytes that are taken are those of the entries that a take gives.
use Rattle.std.proofs.Common.{◌≡◌, ℕ, List, Option, Some, Result, Ok, Err, refl}
use Rattle.subj.specs.Answers.{IsAnswered}
use Rattle.subj.specs.declared.failures.Failure.{Failure}
use Rattle.subj.specs.declared.failures.Failure.TheVariants.{Refused, OutOfMemory}
use Rattle.shard_core.specs.ShardEvents as of_shard
use Rattle.node_law.specs.declared.faults.NodeFault.{NodeFault}
use Rattle.node_law.specs.declared.events.ConnEvent.TheVariants.{Take}
use Rattle.node_core.specs.Served.{Served, LineStep, ConnStep}
use Rattle.node_law.specs.State.{ShardWithJobs}
use Rattle.node_law.specs.Steps.{conn_event, event_refusal}
use Rattle.node_parts.specs.Lines.{first_entries, LineTakesBytes}
use Rattle.node_core.specs.TakesBytes.{TakesBytes}

abbrev pub LineAnswers : ShardWithJobs → ℕ → ℕ → List ℕ → List ℕ → ShardWithJobs → Result ℕ (Failure NodeFault) → Type 0
LineAnswers line conn count before bytes after r =
    IsAnswered (event_refusal line (Some (of_shard.Take conn count)))
    (λ taken. LineTakesBytes line conn count taken before bytes after) ((after ≡ line) × (bytes ≡ before)) r

-- as a take of entries
pub line_takes : (line after : ShardWithJobs) (conn count : ℕ) (before bytes : List ℕ)
    (r : Result ℕ (Failure NodeFault))
    → LineAnswers line conn count before bytes after r
    → IsAnswered (event_refusal line (Some (conn_event conn (Take count))))
    (λ (taken : ℕ). LineStep line (conn_event conn (Take count)) (of_shard.Taken (first_entries line conn count)) after)
    (after ≡ line) r
line_takes line after conn count before bytes (Ok taken) h = (h.0, record { answered = refl; after = h.1.after })
line_takes line after conn count before bytes (Err (Refused why)) h = (h.0, h.1.0)
line_takes line after conn count before bytes (Err OutOfMemory) h = (h.0, h.1.0)

pub takes_bytes : (old new : Served) (line after : ShardWithJobs) (conn count : ℕ) (before bytes : List ℕ)
    (cause : Option NodeFault) (r : Result ℕ (Failure NodeFault))
    → LineAnswers line conn count before bytes after r
    → IsAnswered cause
    (λ (taken : ℕ). ConnStep old conn (Take count) (of_shard.Taken (first_entries line conn count)) new) (new ≡ old) r
    → IsAnswered cause (λ taken. TakesBytes old conn count taken before bytes new) ((new ≡ old) × (bytes ≡ before)) r
takes_bytes old new line after conn count before bytes cause (Ok taken) h g = (
  g.0,
  record { entries = first_entries line conn count; step = g.1; told = h.1.told; bytes_are = h.1.bytes_are },
)
takes_bytes old new line after conn count before bytes cause (Err (Refused why)) h g = (g.0, (g.1, h.1.1))
takes_bytes old new line after conn count before bytes cause (Err OutOfMemory) h g = (g.0, (g.1, h.1.1))
