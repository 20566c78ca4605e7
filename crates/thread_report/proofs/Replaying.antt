-- A shard that does again what stands on its tape.
use Rattle.std.proofs.Common.{◌≡◌, ℕ, zero, suc, ◌<◌, Bool, true, false, List, [], ◌∷◌, length, take, get_or, Option, None, Some, refl, sym, ◌∙◌, subst, arith}
use Rattle.sub_table.specs.declared.Subscription.{Subscription}
use Rattle.subj.specs.declared.jobs.Job.{Job}
use Rattle.shard_core.specs.Held.{Held, Chooses, ClaimsAreWhole}
use Rattle.shard_core.specs.Owed.{candidate_of}
use Rattle.shard_core.specs.ShardEvents.{Claim}
use Rattle.shard_core.specs.ShardSteps.{claim_answer, shard_refusal}
use Rattle.shard_core.specs.Shards.{State}
use Rattle.shard_core.specs.declared.calls.Candidate.{Candidate}
use Rattle.node_threads.specs.declared.shard_entries.ShardEntry.{ShardEntry}
use Rattle.thread_report.specs.ShardAnswers.{ShardLists, DoesAgain, lists_of, no_lists, state_after, state_behind}

none_lost : (s : State) (hand : Option Job) (chosen : Option Subscription)
    → lists_of (claim_answer s hand chosen false) ≡ no_lists
none_lost s None chosen = refl
none_lost s (Some job) None = refl
none_lost s (Some job) (Some sub) = refl

-- a queue name that is not won
pub claims_again : ClaimsAreWhole
    → (old mid : Held) (index : ℕ) (found : Option Candidate) (lists : ShardLists) (won : Bool)
    → shard_refusal old.state (Claim index false) ≡ None
    → Chooses false old index found mid
    → lists ≡ no_lists
    → won ≡ false
    → DoesAgain old.state (Claim index won) lists mid.state
claims_again law old mid index found lists won cause chooses none lost =
    subst (λ w. DoesAgain old.state (Claim index w) lists mid.state) (sym lost)
    (record {
      lists_are = none ∙ sym (none_lost old.state old.state.hand (candidate_of old.state old.state.hand index));
      after = (law false old mid index found cause chooses).not_won;
    })

-- one entry more
pub state_after_more : (i : ℕ) (s : State) (xs : List ShardEntry) (d : ShardEntry)
    → i < length xs
    → state_after s (take (suc i) xs) ≡ state_behind (state_after s (take i xs)) (get_or xs i d)
state_after_more i s [] d lt = absurd (omega arith)
state_after_more zero s (x ∷ xs) d lt = refl
state_after_more (suc i) s (x ∷ xs) d lt = state_after_more i (state_behind s x) xs d (omega arith)
