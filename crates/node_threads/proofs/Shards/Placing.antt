-- The messages of a begin and of a claim, as they are written down.
use Rattle.std.proofs.Common.{◌≡◌, ℕ, Bool, true, false, List, [], ◌∷◌, length, map, take, Option, Some, None, sym, ap, ◌∙◌, subst, refl}
use Rattle.std.specs.Prelude.{is_some, slice_get}
use Rattle.std.proofs.Math.Seq.{take-append_seam}
use Rattle.std.proofs.lemmas.List.{length-map}
use Rattle.std.proofs.lemmas.Option.{none-some, same_Some}
use Rattle.sub_table.specs.declared.Subscription.{Subscription}
use Rattle.subj.specs.declared.jobs.Job.{Job}
use Rattle.shard_core.specs.Answers.{IsTold}
use Rattle.shard_core.specs.Held.{candidate_told, told_of}
use Rattle.shard_core.specs.Owed.{candidate_of, owed_placed, slow_consumer, whole_walk}
use Rattle.shard_core.specs.Puts.{put_line}
use Rattle.shard_core.specs.ShardEvents.{Begin, Claim}
use Rattle.shard_core.specs.ShardSteps.{claim_answer, shard_answer}
use Rattle.shard_core.specs.Shards.{State}
use Rattle.shard_core.specs.declared.calls.Begun.{Begun}
use Rattle.shard_core.specs.declared.calls.Candidate.{Candidate}
use Rattle.shard_core.specs.declared.calls.Placed.{Placed}
use Rattle.node_threads.specs.Steps.{placed_in}
use Rattle.node_threads.specs.Tapes.{Grows, begin_entry, claim_entry, entry_of}
use Rattle.node_threads.specs.declared.shard_entries.ShardEntry.{ShardEntry}

-- what a begin is told to have put begins with the messages that it placed
messages_first : (s : State) (job : Job) (begun : Begun)
    → IsTold true s job begun
    → take begun.given begun.put.items ≡ map (owed_placed s.shard s.clients job None) (whole_walk s job).given
messages_first s job begun told =
    let walk = whole_walk s job in
    let gave = map (owed_placed s.shard s.clients job None) walk.given in
    let last = map (put_line slow_consumer) walk.shut in
    let count : begun.given ≡ length gave =
    told.given ∙ sym (length-map walk.given (owed_placed s.shard s.clients job None)) in
    (λ i. take (count i) (told.put i)) ∙ take-append_seam gave last

-- where a tape is kept, a begin is written with the messages that it placed
pub begun_grows : (copies : Bool) (s : State) (job : Job) (begun : Begun) (placed : List Placed)
    (tape more : Option (List ShardEntry))
    → copies ≡ is_some tape
    → IsTold copies s job begun
    → placed ≡ take begun.given begun.put.items
    → Grows tape (begin_entry job placed ∷ []) more
    → Grows tape (entry_of (Begin job) (shard_answer s (Begin job)) ∷ []) more
begun_grows copies s job begun placed None None kept told is grows = tt
begun_grows copies s job begun placed None (Some all) kept told is grows = absurd grows
begun_grows copies s job begun placed (Some tape) more kept told is grows =
    subst (λ l. Grows (Some tape) (begin_entry job l ∷ []) more)
    (is ∙ messages_first s job begun (subst (λ b. IsTold b s job begun) kept told)) grows

-- a claim that is not won places nothing
none_placed : (s : State) (hand : Option Job) (chosen : Option Subscription)
    → slice_get (placed_in (claim_answer s hand chosen false)) 0 ≡ None
none_placed s None chosen = refl
none_placed s (Some job) None = refl
none_placed s (Some job) (Some sub) = refl

pub lost_grows : (s : State) (index : ℕ) (tape more : Option (List ShardEntry))
    → Grows tape (claim_entry index false None ∷ []) more
    → Grows tape (entry_of (Claim index false) (shard_answer s (Claim index false)) ∷ []) more
lost_grows s index tape more grows =
    subst (λ o. Grows tape (claim_entry index false o ∷ []) more)
    (sym (none_placed s s.hand (candidate_of s s.hand index))) grows

-- one that is won places the entry of the candidate
one_placed : (s : State) (hand : Option Job) (chosen : Option Subscription) (told : Candidate)
    → Some told ≡ told_of true s.shard s.clients hand chosen
    → told.placed ≡ slice_get (placed_in (claim_answer s hand chosen true)) 0
one_placed s None chosen told is = absurd (none-some told (sym is))
one_placed s (Some job) None told is = absurd (none-some told (sym is))
one_placed s (Some job) (Some sub) told is =
    ap (λ (t : Candidate). t.placed) (same_Some told (candidate_told true s.shard s.clients job sub) is)

-- where a tape is kept, it is written with that
pub won_grows : (copies : Bool) (s : State) (index : ℕ) (told : Candidate) (tape more : Option (List ShardEntry))
    → copies ≡ is_some tape
    → Some told ≡ told_of copies s.shard s.clients s.hand (candidate_of s s.hand index)
    → Grows tape (claim_entry index true told.placed ∷ []) more
    → Grows tape (entry_of (Claim index true) (shard_answer s (Claim index true)) ∷ []) more
won_grows copies s index told None None kept is grows = tt
won_grows copies s index told None (Some all) kept is grows = absurd grows
won_grows copies s index told (Some tape) more kept is grows =
    let chosen = candidate_of s s.hand index in
    subst (λ o. Grows (Some tape) (claim_entry index true o ∷ []) more)
    (one_placed s s.hand chosen told (is ∙ ap (λ b. told_of b s.shard s.clients s.hand chosen) kept)) grows
