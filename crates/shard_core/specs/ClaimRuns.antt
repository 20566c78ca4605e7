-- Jobs that claim one queue name, worked one after the other.
use Rattle.std.specs.Prelude.{◌≡◌, ℕ, ◌+◌, ◌<◌, ◌≤◌, Bool, true, false, not, List, [], ◌∷◌, ◌++◌, length, filter, take, Option, Some, None, if◌then◌else◌}
use Rattle.outbox.specs.Views.{Written, HasRoomForEach, with_entry}
use Rattle.sub_table.specs.declared.Subscription.{Subscription}
use Rattle.subj.specs.declared.jobs.Job.{Job}
use Rattle.shard_core.specs.Held.{Held, IsLeft}
use Rattle.shard_core.specs.Owed.{candidate_of, is_due}
use Rattle.shard_core.specs.Shards.{State, Client, client_at, clients_with_change, fits}
use Rattle.shard_core.specs.ShardEvents.{Begin, Claim, End, Began, Finished}
use Rattle.shard_core.specs.ShardSteps.{shard_after, shard_answer, IsDone}

-- ---- one job

-- the job is begun, and its first queue name is tried
abbrev pub begun_by : State → Job → State
begun_by s job = shard_after s (Begin job)

abbrev pub tried_by : State → Job → Bool → State
tried_by s job won = shard_after (begun_by s job) (Claim 0 won)

abbrev pub ended_after : State → Job → Bool → State
ended_after s job won = shard_after (tried_by s job won) End

-- it is begun with nothing placed and nothing closed, its only queue name is tried, and it ends
pub record IsClaimed (s : State) (job : Job) (won : Bool) : Type 0 where
  pub begun : IsDone s (Begin job) (Began [] [] []) (begun_by s job)
  pub tried :
      IsDone (begun_by s job) (Claim 0 won) (shard_answer (begun_by s job) (Claim 0 won))
      (tried_by s job won)
  pub ended : IsDone (tried_by s job won) End Finished (ended_after s job won)

-- so it is worked where none is in hand, its turn is the next one, and it goes to nobody at Begin
abbrev pub ClaimsAreSteps : Type 0
ClaimsAreSteps =
    (s : State) (job : Job) (won : Bool)
    → s.hand ≡ None
    → job.turn ≡ s.finished + 1
    → length job.queues ≡ 1
    → filter (is_due job) s.subs ≡ []
    → IsClaimed s job won

-- ---- one after the other, each won or not

abbrev pub AreClaimed : State → List Job → List Bool → State → Type 0
AreClaimed s [] [] to = to ≡ s
AreClaimed s [] (won ∷ wins) to = ⊥
AreClaimed s (job ∷ jobs) [] to = ⊥
AreClaimed s (job ∷ jobs) (won ∷ wins) to =
    IsClaimed s job won × AreClaimed (ended_after s job won) jobs wins to

-- ---- the pairs of a turn and the index 0 that were claimed with a candidate: those won, and those
-- lost

abbrev pub pair_with : ℕ → Option Subscription → List (ℕ × ℕ)
pair_with turn None = []
pair_with turn (Some sub) = (turn, 0) ∷ []

abbrev pub pairs_by : Bool → State → Job → Bool → List (ℕ × ℕ)
pairs_by as_won s job won =
    if (if as_won then won else not won)
    then pair_with (s.finished + 1) (candidate_of (begun_by s job) (Some job) 0)
    else []

abbrev pub pairs_of : Bool → State → List Job → List Bool → List (ℕ × ℕ)
pairs_of as_won s [] wins = []
pairs_of as_won s (job ∷ jobs) [] = []
pairs_of as_won s (job ∷ jobs) (won ∷ wins) =
    pairs_by as_won s job won ++ pairs_of as_won (ended_after s job won) jobs wins

-- ---- the part of a seat at a race, as a shard's run of claims sees it

-- the last turn that the shard finished, up to which turn it has seen them issued, the least index
-- that it may claim next, and the pairs that it won and lost
pub record ClaimPart : Type 0 where
  pub finished : ℕ
  pub seen : ℕ
  pub next : ℕ
  pub won : List (ℕ × ℕ)
  pub lost : List (ℕ × ℕ)

-- the shard may claim in the turn behind the last that it finished
pub record MayClaimFirst (p : ClaimPart) : Type 0 where
  pub issued : p.finished < p.seen
  pub first : p.next ≡ 0

abbrev pub with_first : Bool → ClaimPart → ClaimPart
with_first true p = record p { next = 1; won = p.won ++ (p.finished + 1, 0) ∷ [] }
with_first false p = record p { next = 1; lost = p.lost ++ (p.finished + 1, 0) ∷ [] }

abbrev pub with_turn : ClaimPart → ClaimPart
with_turn p = record p { finished = p.finished + 1; next = 0 }

-- the shard may claim first in each of so many turns, from the one behind the last that it finished
pub record MayClaimRun (finished count : ℕ) (p : ClaimPart) : Type 0 where
  pub finished_is : p.finished ≡ finished
  pub first : p.next ≡ 0
  pub issued : finished + count ≤ p.seen

-- it has claimed first, with a candidate or without, in the turns of these jobs, and has done with
-- them
abbrev pub with_claims : State → List Job → List Bool → ClaimPart → ClaimPart
with_claims s jobs wins p = record p {
  finished = p.finished + length jobs;
  won = p.won ++ pairs_of true s jobs wins;
  lost = p.lost ++ pairs_of false s jobs wins;
}

-- ---- as a call

-- so many jobs, from the first on, are worked one after the other; where none is, all is left
pub record WorksClaims (jobs : List Job) (count : ℕ) (old new : Held) (before after : ClaimPart) :
    Type 0 where
  pub few : count ≤ length jobs
  pub wins : List Bool
  pub many : length wins ≡ count
  pub claimed : AreClaimed old.state (take count jobs) wins new.state
  pub chosen : new.chosen ≡ None
  pub part : after ≡ with_claims old.state (take count jobs) wins before
  pub none : count ≡ 0 → IsLeft old new
  pub part_left : count ≡ 0 → after ≡ before

-- ---- room for a run of claims

-- a connection has room for so many entries, each of at most so many bytes
abbrev pub HasRoomAt : ℕ → ℕ → Option Client → Type 0
HasRoomAt count len None = ⊥
HasRoomAt count len (Some client) =
    HasRoomForEach count len client.max_entries client.max_bytes client.outbox

-- one such entry fits, and wherever it is put there is room for the others
pub record RoomGoesOn (clients : List Client) (conn count len : ℕ) (entry : Written) : Type 0 where
  pub fits_one : fits (client_at conn clients) entry ≡ true
  pub others : (to : ℕ)
      → HasRoomAt count len (client_at conn (clients_with_change (with_entry entry) to clients))

abbrev pub RoomsGoOn : Type 0
RoomsGoOn =
    (clients : List Client) (conn count len : ℕ) (entry : Written)
    → length entry.bytes ≤ len
    → HasRoomAt (count + 1) len (client_at conn clients)
    → RoomGoesOn clients conn count len entry
