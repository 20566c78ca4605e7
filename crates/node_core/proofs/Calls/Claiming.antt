-- A claim at a server.
use Rattle.std.proofs.Common.{◌≡◌, ℕ, ◌≤◌, Bool, false, List, set, Option, Some, None, Result, Ok, Err, sym, ap, ◌∙◌, subst}
use Rattle.std.specs.Prelude.{slice_get, slice_index}
use Rattle.subj.specs.Answers.{IsAnswered}
use Rattle.subj.specs.declared.failures.Failure.{Failure}
use Rattle.subj.specs.declared.failures.Failure.TheVariants.{Refused, OutOfMemory}
use Rattle.node_law.specs.declared.faults.NodeFault.{NodeFault}
use Rattle.node_law.specs.Events.{Own, AtShard}
use Rattle.node_law.specs.declared.events.ShardWork.TheVariants.{Claim}
use Rattle.node_core.proofs.Calls.Composed.{Called, IsShard, step_keeps, same_keeps, lines_same, held_turn, work_done}
use Rattle.claim_race.specs.Race.{RaceState}
use Rattle.shard_core.specs.ShardEvents as of_shard
use Rattle.node_parts.specs.declared.lines.Claimed.{Claimed}
use Rattle.node_law.specs.State.{ShardWithJobs}
use Rattle.node_law.specs.Steps.{event_refusal, work_refusal}
use Rattle.node_law.specs.Sound.{tried_of}
use Rattle.node_parts.specs.Lines.{LineClaims, MayClaim, is_won}
use Rattle.node_parts.specs.Sides.{HubWithSessions}
use Rattle.node_core.specs.Served.{IsClaimToldAt, ClaimStep, Served, IsKept, served_of_parts, refusal, work_answer}

pub may_claim : (s : Served) (shard place : ℕ) (line : ShardWithJobs)
    → IsKept s
    → IsShard s.node shard place line
    → slice_get s.node.lines place ≡ Some line
    → MayClaim line s.node.race shard
may_claim s shard place line kept p here = record {
  turn = λ t e. (held_turn s shard place t line kept p e).1;
  next =
      subst (λ q. slice_index s.node.race.next q ≤ tried_of line.shard.hand line.shard.next_index) (sym p.at)
      (kept.sound.raced.next place line here);
}

pub claim_call : (copies : Bool) (side : HubWithSessions) (race new_race : RaceState) (lines : List ShardWithJobs)
    (shard place index : ℕ) (line after : ShardWithJobs) (r : Result Claimed (Failure NodeFault))
    → IsKept (served_of_parts side race lines)
    → IsShard (served_of_parts side race lines).node shard place line
    → slice_get lines place ≡ Some line
    → IsAnswered (event_refusal line (Some (of_shard.Claim index false)))
    (λ claimed. LineClaims copies line race shard index claimed after new_race) ((after ≡ line) × (new_race ≡ race)) r
    → Called Claimed (served_of_parts side race lines) (served_of_parts side new_race (set lines place after))
    (Own (AtShard shard (Claim index)))
    (λ claimed.
    ClaimStep copies (served_of_parts side race lines) shard index claimed
    (served_of_parts side new_race (set lines place after)))
    r
claim_call copies side race new_race lines shard place index line after r kept p here h = record {
  keeps = keep r (go r h);
  answers = go r h;
}
  where
    old : Served
    old = served_of_parts side race lines

    new : Served
    new = served_of_parts side new_race (set lines place after)

    cause : (c : Option NodeFault)
        → event_refusal line (Some (of_shard.Claim index false)) ≡ c
        → refusal old (Own (AtShard shard (Claim index))) ≡ c
    cause c e = ap (work_refusal (Claim index)) p.is ∙ e

    same : (after ≡ line) × (new_race ≡ race) → new ≡ old
    same e = λ k. served_of_parts side (e.1 k) (lines_same lines place line after here e.0 k)

    done : (claimed : Claimed)
        → event_refusal line (Some (of_shard.Claim index false)) ≡ None
        → LineClaims copies line race shard index claimed after new_race
        → ClaimStep copies old shard index claimed new
    done claimed free d = record {
      step =
          work_done side race new_race lines shard place (Claim index) (is_won claimed) line after p free d.after
          d.moves;
      told = subst (λ o. IsClaimToldAt copies claimed (work_answer (Claim index) (is_won claimed) o)) (sym p.is) d.told;
    }

    go : (r : Result Claimed (Failure NodeFault))
        → IsAnswered (event_refusal line (Some (of_shard.Claim index false)))
        (λ claimed. LineClaims copies line race shard index claimed after new_race) ((after ≡ line) × (new_race ≡ race))
        r
        → IsAnswered (refusal old (Own (AtShard shard (Claim index))))
        (λ claimed. ClaimStep copies old shard index claimed new) (new ≡ old) r
    go (Ok x) g = (cause None g.0, done x g.0 g.1)
    go (Err (Refused why)) g = (cause (Some why) g.0, same g.1)
    go (Err OutOfMemory) g = (cause None g.0, same g.1)

    keep : (r : Result Claimed (Failure NodeFault))
        → IsAnswered (refusal old (Own (AtShard shard (Claim index))))
        (λ claimed. ClaimStep copies old shard index claimed new) (new ≡ old) r
        → IsKept new
    keep (Ok x) g = step_keeps old (Own (AtShard shard (Claim index))) (is_won x) new kept g.1.step
    keep (Err (Refused why)) g = same_keeps old new kept g.1
    keep (Err OutOfMemory) g = same_keeps old new kept g.1
