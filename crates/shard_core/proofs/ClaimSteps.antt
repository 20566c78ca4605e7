-- What a job leaves that claims one queue name and goes to nobody at Begin.
use Rattle.std.proofs.Common.{◌≡◌, ℕ, ◌+◌, Bool, true, false, not, cond, [], ◌∷◌, ◌++◌, length, map, filter, Option, Some, None, refl, sym, ap, ◌∙◌}
use Rattle.list_laws.proofs.Changes.{append_nil}
use Rattle.outbox.specs.Views.{with_entry}
use Rattle.sub_table.specs.declared.Subscription.{Subscription}
use Rattle.subj.specs.declared.jobs.Job.{Job}
use Rattle.shard_core.specs.Boxes.{Clients}
use Rattle.shard_core.specs.ClaimMembers.{IsShardAt, HasClaimed}
use Rattle.shard_core.specs.Closings.{without_subs}
use Rattle.shard_core.specs.ClaimRuns.{ClaimPart, ended_after, pair_with, pairs_by, with_claims}
use Rattle.shard_core.specs.Opened.{Opened, with_counts}
use Rattle.shard_core.specs.Owed.{after_claim, after_try, candidate_of, is_due, owed_entry, reaches, sub_with_count}
use Rattle.shard_core.specs.ShardSteps.{done_with}
use Rattle.shard_core.specs.Shards.{State, clients_with_change}
use Rattle.shard_core.proofs.ClaimRuns.{begun_quietly, claimed_one, in_hand}
use Rattle.shard_core.proofs.RunCounts.{none_closed}

-- the state once the job in hand ends that was claimed so
abbrev ended_of : State → Option Subscription → Bool → State
ended_of b chosen won =
    done_with (after_claim b b.hand chosen won) (after_claim b b.hand chosen won).hand

-- with nothing put
abbrev done_quietly : State → Job → State
done_quietly s job = record s { finished = job.turn; hand = None; next_index = 0 }

-- with an entry put for a member
abbrev done_putting : State → Job → Subscription → State
done_putting s job sub = record (done_quietly s job) {
  clients = clients_with_change (with_entry (owed_entry s.shard s.clients job sub.key.queue sub)) sub.conn s.clients;
  subs = map (sub_with_count (sub.serial ∷ [])) s.subs;
}

no_end : (sub : Subscription) → sub.max ≡ None
    → cond (reaches sub.max (sub.delivered + 1)) (sub.serial ∷ []) [] ≡ []
no_end sub none = ap (λ (o : Option ℕ). cond (reaches o (sub.delivered + 1)) (sub.serial ∷ []) []) none

put_quietly : (s : State) (job : Job) (sub : Subscription) → sub.max ≡ None
    → ended_of (in_hand s job) (Some sub) true ≡ done_putting s job sub
put_quietly s job sub none =
    (λ i. done_with (without_subs (no_end sub none i) putting) (Some job))
    ∙ (λ i. record (done_putting s job sub) {
      subs = none_closed (map (sub_with_count (sub.serial ∷ [])) s.subs) i;
      deltas = append_nil s.deltas i;
    })
  where
    putting : State
    putting = record (after_try (in_hand s job)) {
      clients = (done_putting s job sub).clients;
      subs = (done_putting s job sub).subs;
    }

-- what the state is then, by the candidate and whether the claim is won
module _ (s : State) (job : Job) (idle : s.hand ≡ None) (turn : job.turn ≡ s.finished + 1)
    (one : length job.queues ≡ 1) (undue : filter (is_due job) s.subs ≡ []) where
  ended_is : (chosen : Option Subscription) (won : Bool)
      → candidate_of (in_hand s job) (Some job) 0 ≡ chosen
      → ended_after s job won ≡ ended_of (in_hand s job) chosen won
  ended_is chosen won is =
      ap (λ (b : State). ended_of b (candidate_of b b.hand 0) won) (begun_quietly s job undue)
      ∙ ap (λ (o : Option Subscription). ended_of (in_hand s job) o won) is

  pairs_are : (as_won won : Bool) (chosen : Option Subscription)
      → candidate_of (in_hand s job) (Some job) 0 ≡ chosen
      → pairs_by as_won s job won
      ≡ cond (cond as_won won (not won)) (pair_with (s.finished + 1) chosen) []
  pairs_are as_won won chosen is =
      ap (λ (b : State). cond (cond as_won won (not won)) (pair_with (s.finished + 1) (candidate_of b (Some job) 0)) [])
      (begun_quietly s job undue)
      ∙ ap (λ (o : Option Subscription). cond (cond as_won won (not won)) (pair_with (s.finished + 1) o) []) is

  -- nothing in hand
  done_idle : (t : State) → t.hand ≡ None
      → (record t { finished = job.turn; hand = None; next_index = 0 })
      ≡ (record t { finished = s.finished + 1; next_index = 0 })
  done_idle t none = λ i. record t { finished = turn i; hand = sym none i; next_index = 0 }

  -- the pairs that a claim adds
  with_one : (won : Bool) (chosen : Option Subscription) (p : ClaimPart)
      → candidate_of (in_hand s job) (Some job) 0 ≡ chosen
      → with_claims s (job ∷ []) (won ∷ []) p
      ≡ record p {
        finished = p.finished + 1;
        won = p.won ++ (cond won (pair_with (s.finished + 1) chosen) []);
        lost = p.lost ++ (cond (not won) (pair_with (s.finished + 1) chosen) []);
      }
  with_one won chosen p is = λ i. record p {
    finished = p.finished + 1;
    won = p.won ++ (append_nil (pairs_by true s job won) ∙ pairs_are true won chosen is) i;
    lost = p.lost ++ (append_nil (pairs_by false s job won) ∙ pairs_are false won chosen is) i;
  }

-- ---- as the code leaves it

-- the part of a seat whose shard has claimed first, or had nobody to claim for
abbrev pub tried_part : ClaimPart → Bool → Option Subscription → ClaimPart
tried_part p won chosen = record p {
  finished = p.finished + 1;
  next = 0;
  won = p.won ++ (cond won (pair_with (p.finished + 1) chosen) []);
  lost = p.lost ++ (cond (not won) (pair_with (p.finished + 1) chosen) []);
}

module _ (s : State) (job : Job) (shard : ℕ) (conns : Clients) (opened : Opened) (p : ClaimPart)
    (at : IsShardAt s shard conns opened) (follows : p.finished ≡ s.finished) (first : p.next ≡ 0)
    (turn : job.turn ≡ s.finished + 1) (one : length job.queues ≡ 1) (undue : filter (is_due job) s.subs ≡ []) where
  part_is : (won : Bool) (chosen : Option Subscription)
      → candidate_of (in_hand s job) (Some job) 0 ≡ chosen
      → tried_part p won chosen ≡ with_claims s (job ∷ []) (won ∷ []) p
  part_is won chosen is =
      (λ i. record p {
        finished = p.finished + 1;
        next = sym first i;
        won = p.won ++ (cond won (pair_with (follows i + 1) chosen) []);
        lost = p.lost ++ (cond (not won) (pair_with (follows i + 1) chosen) []);
      })
      ∙ sym (with_one s job at.idle turn one undue won chosen p is)

  -- nothing is put
  pub left_as_it_was : (won : Bool) (chosen : Option Subscription) (conns2 : Clients) (opened2 : Opened) (q : ClaimPart)
      → candidate_of (in_hand s job) (Some job) 0 ≡ chosen
      → ended_of (in_hand s job) chosen won ≡ done_quietly s job
      → conns2 ≡ conns
      → opened2 ≡ opened
      → q ≡ tried_part p won chosen
      → HasClaimed s job won conns2 opened2 p q
  left_as_it_was won chosen conns2 opened2 q is quiet conns_same opened_same part = record {
    claimed = claimed_one s job won at.idle turn one undue;
    state_is =
        ended_is s job at.idle turn one undue chosen won is ∙ quiet
        ∙ done_idle s job at.idle turn one undue s at.idle
        ∙ (λ i. record s {
          finished = s.finished + 1;
          next_index = 0;
          clients = sym (ap (λ (c : Clients). c.shown) (conns_same ∙ at.conns_are)) i;
          subs = sym (ap (λ (o : Opened). o.subs) (opened_same ∙ at.opened_are)) i;
        });
    settled =
        ap (λ (c : Clients). c.next) (conns_same ∙ at.conns_are)
        ∙ sym (ap (λ (c : Clients). c.shown) (conns_same ∙ at.conns_are));
    deltas = ap (λ (o : Opened). o.deltas) (opened_same ∙ at.opened_are);
    part = part ∙ part_is won chosen is;
  }

  -- the member gets its entry
  pub put_for_one : (sub : Subscription) (conns2 : Clients) (opened2 : Opened) (q : ClaimPart)
      → candidate_of (in_hand s job) (Some job) 0 ≡ Some sub
      → sub.max ≡ None
      → conns2 ≡ record { shown = (done_putting s job sub).clients; next = (done_putting s job sub).clients }
      → opened2 ≡ with_counts (sub.serial ∷ []) opened
      → q ≡ tried_part p true (Some sub)
      → HasClaimed s job true conns2 opened2 p q
  put_for_one sub conns2 opened2 q is unlimited shown counted part = record {
    claimed = claimed_one s job true at.idle turn one undue;
    state_is =
        ended_is s job at.idle turn one undue (Some sub) true is
        ∙ put_quietly s job sub unlimited
        ∙ done_idle s job at.idle turn one undue (record s {
          clients = (done_putting s job sub).clients;
          subs = (done_putting s job sub).subs;
        }) at.idle
        ∙ (λ i. record s {
          finished = s.finished + 1;
          next_index = 0;
          clients = sym (ap (λ (c : Clients). c.shown) shown) i;
          subs =
              sym (ap (λ (o : Opened). o.subs) (counted ∙ ap (with_counts (sub.serial ∷ [])) at.opened_are)) i;
        });
    settled = ap (λ (c : Clients). c.next) shown ∙ sym (ap (λ (c : Clients). c.shown) shown);
    deltas = ap (λ (o : Opened). o.deltas) (counted ∙ ap (with_counts (sub.serial ∷ [])) at.opened_are);
    part = part ∙ part_is true (Some sub) is;
  }

-- nobody is there, or another shard has won
pub quiet_none : (s : State) (job : Job) → ended_of (in_hand s job) None false ≡ done_quietly s job
quiet_none s job = refl

pub quiet_lost : (s : State) (job : Job) (sub : Subscription)
    → ended_of (in_hand s job) (Some sub) false ≡ done_quietly s job
quiet_lost s job sub = refl
