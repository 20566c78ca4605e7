-- What the calls of a shard tell, as the answer of its server's step.
use Rattle.std.proofs.Common.{◌≡◌, ℕ, Bool, false, length, Option, Some, None, sym, ap, ◌∙◌, refl}
use Rattle.std.proofs.lemmas.List.{length-map}
use Rattle.std.proofs.lemmas.Option.{none-some, same_Some}
use Rattle.shard_core.specs.ShardEvents as of_shard
use Rattle.shard_core.specs.Answers.{IsTold}
use Rattle.shard_core.specs.Lines.{first_of}
use Rattle.shard_core.specs.Owed.{whole_walk, owed_placed}
use Rattle.shard_core.specs.ShardSteps.{shard_answer}
use Rattle.shard_core.specs.declared.calls.Begun.{Begun}
use Rattle.subj.specs.declared.jobs.Job.{Job}
use Rattle.node_parts.specs.declared.lines.Claimed.{Claimed}
use Rattle.node_parts.specs.declared.lines.Claimed.TheVariants as code
use Rattle.node_law.specs.Answers.{Nothing, Began, told_of_shard, told_of_line, told_at}
use Rattle.node_law.specs.declared.events.ShardWork.{ShardWork}
use Rattle.node_law.specs.declared.events.ShardWork.TheVariants.{Begin, Claim, DropJob}
use Rattle.node_core.specs.Outcome.{told_of_claim}
use Rattle.node_core.specs.Served.{IsToldAt, IsClaimTold, IsClaimToldAt, line_answer, work_answer, is_won}
use Rattle.node_law.specs.State.{ShardWithJobs}
use Rattle.node_law.specs.Steps.{work_event, begin_of, drop_of}

told_line : (event : Option of_shard.Event) (line : ShardWithJobs) (answer : of_shard.Answer)
    → Some answer ≡ line_answer event line
    → told_of_shard answer ≡ told_of_line line event
told_line None line answer e = absurd (none-some answer (sym e))
told_line (Some event) line answer e = ap told_of_shard (same_Some answer (shard_answer line.shard event) e)

pub told_work : (work : ShardWork) (won : Bool) (answer : of_shard.Answer) (o : Option ShardWithJobs)
    → Some answer ≡ work_answer work won o
    → told_of_shard answer ≡ told_at o (work_event work won)
told_work work won answer None e = absurd (none-some answer (sym e))
told_work work won answer (Some line) e = told_line (work_event work won line) line answer e

told_claim : (copies : Bool) (claimed : Claimed) (answer : of_shard.Answer)
    → IsClaimTold copies claimed answer
    → told_of_claim claimed ≡ told_of_shard answer
told_claim copies code.Nobody answer e = sym (ap told_of_shard e)
told_claim copies code.Lost answer e = sym (ap told_of_shard e)
told_claim copies (code.Won sub placed ended) answer e = sym (ap told_of_shard e.2)

pub told_claim_at : (copies : Bool) (claimed : Claimed) (index : ℕ) (o : Option ShardWithJobs)
    → IsClaimToldAt copies claimed (work_answer (Claim index) (is_won claimed) o)
    → told_of_claim claimed ≡ told_at o (work_event (Claim index) (is_won claimed))
told_claim_at copies claimed index None e = absurd e
told_claim_at copies claimed index (Some line) e =
    told_claim copies claimed (shard_answer line.shard (of_shard.Claim index (is_won claimed))) e

told_begin_of : (copies : Bool) (line : ShardWithJobs) (job : Job) (waits : Option Job) (begun : Begun)
    → waits ≡ Some job
    → IsTold copies line.shard job begun
    → Began begun.given (length begun.closed.items) ≡ told_of_line line (begin_of waits)
told_begin_of copies line job waits begun is d =
    (λ k.
    Began
    ((d.given
    ∙ sym (length-map (whole_walk line.shard job).given (owed_placed line.shard.shard line.shard.clients job None)))
    k)
    (length (d.closed k)))
    ∙ sym (ap (λ o. told_of_line line (begin_of o)) is)

pub told_begin : (copies : Bool) (o : Option ShardWithJobs) (begun : Begun)
    → IsToldAt copies o begun
    → Began begun.given (length begun.closed.items) ≡ told_at o (work_event Begin false)
told_begin copies None begun e = absurd e
told_begin copies (Some line) begun e = told_begin_of copies line e.0 (first_of line.waiting) begun e.1 e.2

told_drop : (line : ShardWithJobs) (hand waiting : Option Job) → Nothing ≡ told_of_line line (drop_of hand waiting)
told_drop line None None = refl
told_drop line None (Some job) = refl
told_drop line (Some hand) waiting = refl

pub told_drop_at : (o : Option ShardWithJobs) → Nothing ≡ told_at o (work_event DropJob false)
told_drop_at None = refl
told_drop_at (Some line) = told_drop line line.shard.hand _
