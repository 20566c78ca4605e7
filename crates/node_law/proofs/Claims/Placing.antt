-- What a Claim puts behind the outboxes.
use Rattle.std.proofs.Common.{◌≡◌, ℕ, suc, ◌-◌, Bool, true, false, cond, nat_eq, List, [], ◌++◌, set, Option, Some, None, refl, sym, ap, ◌∙◌, subst, ⊎_elim, arith}
use Rattle.std.specs.Prelude.{slice_get}
use Rattle.std.proofs.lemmas.Option.{none-some}
use Rattle.list_laws.specs.Lists.{Each}
use Rattle.list_laws.proofs.Tests.{eq_true, eq_false}
use Rattle.list_laws.proofs.Changes.{append_nil, get_set_here, get_set_there}
use Rattle.subj.specs.Servers.{ServerIdentity}
use Rattle.subj.specs.declared.jobs.Job.{Job}
use Rattle.sub_table.specs.declared.Subscription.{Subscription}
use Rattle.claim_race.specs.Race.{RaceState}
use Rattle.hub_core.proofs.Steps.Rooms.{map_none}
use Rattle.shard_core.specs.Owed.{candidate_of}
use Rattle.shard_core.specs.Puts.{put_by_claim, entries_for}
use Rattle.shard_core.specs.ShardEvents as of_shard
use Rattle.shard_core.specs.Shards as shards
use Rattle.shard_core.specs.Shards.{waits_for}
use Rattle.shard_core.specs.ShardSteps.{shard_refusal}
use Rattle.shard_core.proofs.Clients.Outboxes.{are_put}
use Rattle.node_law.specs.declared.faults.NodeFault.TheVariants.{Shard}
use Rattle.node_law.specs.AsLaw.{waits_in, waits_at}
use Rattle.node_law.specs.State.{ShardWithJobs, Node}
use Rattle.node_law.specs.Events.{Attach, Begin, Claim, End, DropJob, DrainShard, OfConn, AtShard, Publish, Collect, Drain, Dial, Accept, CutSession, TakeFrames, NodeEvent, Own, Receive, OnInfo, OnConnect}
use Rattle.node_law.specs.Steps.{shard_line, work_refusal, line_after, set_line, node_refusal, node_after}
use Rattle.node_law.specs.Sound.{SoundNode}
use Rattle.node_law.specs.OneServer.{Claimed, claims_by, claimed_at, claimed_with, option_for, placed_with, placed_by, ClaimsPlace}
use Rattle.node_law.proofs.Moves.LineEvents.{found}

claim_placed : (s : shards.State) (job : Job) (u : Option Subscription) (won : Bool)
    → put_by_claim s (Some job) u won ≡ placed_with s.shard (option_for s.clients u) job u won
claim_placed s job None won = refl
claim_placed s job (Some u) won = refl

numbered : (shard n : ℕ) (o : Option ShardWithJobs) (line : ShardWithJobs)
    → cond (nat_eq shard 0) None o ≡ Some line
    → n ≡ suc (shard - 1)
    → n ≡ shard
numbered shard n o line at is = go (nat_eq shard 0) refl at
  where
    go : (b : Bool) → nat_eq shard 0 ≡ b → cond b None o ≡ Some line → n ≡ shard
    go true e f = absurd (none-some line f)
    go false e f = let apart = eq_false shard 0 e in omega arith

-- a claim changes no outbox of another shard, and of its own as the shard says
abbrev Placed : ℕ → List ShardWithJobs → List ShardWithJobs → Claimed → Type 0
Placed s old new x =
    (place conn : ℕ)
    → waits_in conn (slice_get new place) ≡ waits_in conn (slice_get old place) ++ placed_by x place conn

claim_puts : (s index : ℕ) (won : Bool) (lines : List ShardWithJobs) (line : ShardWithJobs)
    → slice_get lines (s - 1) ≡ Some line
    → line.shard.shard ≡ s
    → shard_refusal line.shard (of_shard.Claim index won) ≡ None
    → Each (Placed s lines (set lines (s - 1) (line_after (of_shard.Claim index won) line)))
    (claimed_with s index won line.shard.clients line.shard.hand (candidate_of line.shard line.shard.hand index))
claim_puts s index won lines line at number cause =
    go line.shard.hand (candidate_of line.shard line.shard.hand index) refl refl
  where
    new : List ShardWithJobs
    new = set lines (s - 1) (line_after (of_shard.Claim index won) line)

    go : (hand : Option Job) (u : Option Subscription)
        → line.shard.hand ≡ hand
        → candidate_of line.shard line.shard.hand index ≡ u
        → Each (Placed s lines new) (claimed_with s index won line.shard.clients hand u)
    go None u h is = λ x i. absurd i
    go (Some job) u h is = λ x i.
        ⊎_elim
        (λ (e : x ≡ record {
          shard = s;
          job = job;
          index = index;
          candidate = u;
          headers = option_for line.shard.clients u;
          won = won;
        }).
        subst (Placed s lines new) (sym e) (λ place conn. by place conn (nat_eq (s - 1) place) refl))
        (λ (z : ⊥). absurd z) i
      where
        puts : put_by_claim line.shard line.shard.hand (candidate_of line.shard line.shard.hand index) won
            ≡ placed_with s (option_for line.shard.clients u) job u won
        puts =
            (λ z. put_by_claim line.shard (h z) (is z) won)
            ∙ claim_placed line.shard job u won
            ∙ ap (λ n. placed_with n (option_for line.shard.clients u) job u won) number

        by : (place conn : ℕ) (b : Bool)
            → nat_eq (s - 1) place ≡ b
            → waits_in conn (slice_get new place)
            ≡ waits_in conn (slice_get lines place)
            ++ cond b (entries_for conn (placed_with s (option_for line.shard.clients u) job u won)) []
        by place conn true f =
            subst (λ m.
            waits_in conn (slice_get new m)
            ≡ waits_in conn (slice_get lines m)
            ++ entries_for conn (placed_with s (option_for line.shard.clients u) job u won))
            (eq_true (s - 1) place f)
            (ap (waits_in conn) (get_set_here lines (s - 1) line (line_after (of_shard.Claim index won) line) at)
            ∙ (are_put line.shard (of_shard.Claim index won) conn).entries cause
            ∙ ap (λ t. waits_for conn line.shard.clients ++ entries_for conn t) puts
            ∙ ap (λ o. waits_in conn o ++ entries_for conn (placed_with s (option_for line.shard.clients u) job u won))
            (sym at))
        by place conn false f =
            ap (waits_in conn)
            (get_set_there lines (s - 1) place (line_after (of_shard.Claim index won) line)
            (λ g. eq_false (s - 1) place f (sym g)))
            ∙ sym (append_nil (waits_in conn (slice_get lines place)))

claim_case : (server : ServerIdentity) (a : Node) (s index : ℕ) (won : Bool) (o : Option ShardWithJobs)
    → SoundNode server a
    → shard_line a s ≡ o
    → work_refusal (Claim index) o ≡ None
    → Each (Placed s a.lines (set_line a.lines (s - 1) (line_after (of_shard.Claim index won)) o))
    (claimed_at s index won o)
claim_case server a s index won None sound at cause = λ x i. absurd i
claim_case server a s index won (Some line) sound at cause =
    let there = found (nat_eq s 0) (slice_get a.lines (s - 1)) line at in
    claim_puts s index won a.lines line there
    (numbered s line.shard.shard (slice_get a.lines (s - 1)) line at (sound.lines (s - 1) line there).number)
    (map_none Shard (shard_refusal line.shard (of_shard.Claim index won)) cause)

claims_put : (server : ServerIdentity) (a : Node) (e : NodeEvent) (won : Bool) (race : RaceState)
    → SoundNode server a
    → node_refusal server a e ≡ None
    → Each (λ x.
    (place conn : ℕ)
    → waits_at (node_after server a e won race) place conn ≡ waits_at a place conn ++ placed_by x place conn)
    (claims_by a e won)
claims_put server a (Own (OfConn conn event)) won race sound cause = λ x i. absurd i
claims_put server a (Own (AtShard s Attach)) won race sound cause = λ x i. absurd i
claims_put server a (Own (AtShard s Begin)) won race sound cause = λ x i. absurd i
claims_put server a (Own (AtShard s (Claim index))) won race sound cause =
    claim_case server a s index won (shard_line a s) sound refl cause
claims_put server a (Own (AtShard s End)) won race sound cause = λ x i. absurd i
claims_put server a (Own (AtShard s DropJob)) won race sound cause = λ x i. absurd i
claims_put server a (Own (AtShard s DrainShard)) won race sound cause = λ x i. absurd i
claims_put server a (Own (Publish p)) won race sound cause = λ x i. absurd i
claims_put server a (Own (Collect s)) won race sound cause = λ x i. absurd i
claims_put server a (Own Drain) won race sound cause = λ x i. absurd i
claims_put server a (Own (Dial q)) won race sound cause = λ x i. absurd i
claims_put server a (Own Accept) won race sound cause = λ x i. absurd i
claims_put server a (Own (CutSession k)) won race sound cause = λ x i. absurd i
claims_put server a (Own (TakeFrames q count)) won race sound cause = λ x i. absurd i
claims_put server a (Receive frame) won race sound cause = λ x i. absurd i
claims_put server a (OnInfo k info) won race sound cause = λ x i. absurd i
claims_put server a (OnConnect k connect) won race sound cause = λ x i. absurd i

pub claims_place : ClaimsPlace
claims_place server a e won race b sound step =
    subst (λ (n : Node).
    Each (λ x. (place conn : ℕ) → waits_at n place conn ≡ waits_at a place conn ++ placed_by x place conn)
    (claims_by a e won))
    (sym step.after) (claims_put server a e won race sound step.cause)
