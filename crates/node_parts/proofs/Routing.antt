-- What has become of a frame of a peer, by what it tells.
use Rattle.std.proofs.Common.{◌≡◌, ℕ, ◌+◌, false, true≢false, List, replicate, Some, sym, ap, ◌∙◌, subst}
use Rattle.std.proofs.lemmas.Option.{none-some, same_Some}
use Rattle.subj.specs.declared.jobs.Job.{Job}
use Rattle.claim_race.specs.Race.{RaceState, IsIssued}
use Rattle.route_values.specs.Frames.{Frame}
use Rattle.route_values.specs.declared.bodies.Body.{Body}
use Rattle.route_values.specs.declared.bodies.Body.TheVariants.{Plus, Minus, Snapshot, Msg}
use Rattle.hub_core.specs.State as hub
use Rattle.hub_core.specs.Calls.{job_of}
use Rattle.hub_core.specs.Receiving.{has_message, routed_job}
use Rattle.node_parts.specs.Jobs.{IsReceived}
use Rattle.node_parts.specs.declared.told.Received.TheVariants.{Routed, Heard}

-- news are heard
pub news_received : (hub : hub.State) (frame : Frame) (number count : ℕ) (jobs : List Job)
    → has_message frame.body ≡ false
    → number ≡ frame.number
    → IsReceived hub frame frame.body count (Heard number) jobs
news_received hub frame number count jobs is same = go frame.body is
  where
    go : (b : Body) → has_message b ≡ false → IsReceived hub frame b count (Heard number) jobs
    go (Plus weighted) e = ap Heard same
    go (Minus key) e = ap Heard same
    go (Snapshot keys) e = ap Heard same
    go (Msg content queues) e = absurd (true≢false e)

-- a message is routed
pub message_received : (hub : hub.State) (frame : Frame) (count : ℕ) (job : Job) (jobs : List Job)
    → Some job ≡ job_of hub frame frame.body
    → jobs ≡ replicate count job
    → IsReceived hub frame frame.body count (Routed job.turn) jobs
message_received hub frame count job jobs is alike = go frame.body is
  where
    go : (b : Body) → Some job ≡ job_of hub frame b → IsReceived hub frame b count (Routed job.turn) jobs
    go (Plus weighted) e = absurd (none-some job (sym e))
    go (Minus key) e = absurd (none-some job (sym e))
    go (Snapshot keys) e = absurd (none-some job (sym e))
    go (Msg content queues) e =
        let same : job ≡ routed_job hub frame content queues = same_Some job (routed_job hub frame content queues) e in
        (ap (λ (j : Job). Routed j.turn) same, alike ∙ ap (replicate count) same)

-- the turn that is issued is the next one
pub issued_next : (old new : RaceState) (turn : ℕ) → IsIssued old turn new → IsIssued old (old.issued + 1) new
issued_next old new turn is = subst (λ n. IsIssued old n new) is.after is
