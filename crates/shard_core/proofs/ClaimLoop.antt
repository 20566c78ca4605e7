-- The loop over the jobs of a run of claims.
use Rattle.std.proofs.Common.{◌≡◌, ℕ, suc, ◌+◌, ◌-◌, ◌^◌, ◌<◌, Bool, List, length, Some, sym, subst, arith}
use Rattle.std.specs.Prelude.{All, slice_get}
use Rattle.std.proofs.lemmas.List.Elements.{All-weaker}
use Rattle.list_laws.proofs.Lists.{get_some}
use Rattle.sub_table.specs.declared.Subscription.{Subscription}
use Rattle.subj.specs.declared.jobs.Job.{Job}
use Rattle.shard_core.specs.declared.claim_run.Member.{Member}
use Rattle.shard_core.specs.Boxes.{Clients}
use Rattle.shard_core.specs.ClaimMembers.{ClaimsNext, HasWorked, IsOpenFor, IsShardAt, KeepsOrder, StaysOpen}
use Rattle.shard_core.specs.ClaimRuns.{ClaimPart, MayClaimFirst, MayClaimRun}
use Rattle.shard_core.specs.Lines.{Turns}
use Rattle.shard_core.specs.Opened.{Opened}
use Rattle.shard_core.specs.Shards.{State, Client}
use Rattle.shard_core.proofs.ClaimMany.{one_more_worked}
use Rattle.shard_core.proofs.ClaimPlaces.{open_one}

-- one message more can be counted, behind so many of the run
pub can_count_on : (k n : ℕ) (old new : List Client) (subs subs2 : List Subscription)
    → KeepsOrder k old new subs subs2
    → k < n
    → All (λ sub. sub.delivered + n < 2 ^ 64) subs
    → All (λ sub. sub.delivered + 1 < 2 ^ 64) subs2
can_count_on k n old new subs subs2 keeps within counts =
    keeps.counts 1
    (All-weaker (λ (sub : Subscription). sub.delivered + n < 2 ^ 64)
    (λ (sub : Subscription). sub.delivered + (1 + k) < 2 ^ 64) (λ sub lt. omega (arith, within, lt)) subs counts)

-- the seat may claim in the next turn
pub may_claim_on : (k n : ℕ) (p q : ClaimPart) → MayClaimRun p.finished n p → k < n
    → q.finished ≡ p.finished + k → q.next ≡ 0 → q.seen ≡ p.seen
    → MayClaimFirst q
may_claim_on k n p q may within finished first seen =
    let issued = may.issued in record { issued = omega (arith, issued, within, finished, seen); first = first }

-- the run is open for so many jobs
pub open_first : (first : Job) (name : List ℕ) (members : List Member) (clients : List Client)
    (subs : List Subscription) (most : ℕ)
    → (0 < most → IsOpenFor most first name subs clients members)
    → (count : ℕ) → count + 1 + 0 ≡ most → IsOpenFor (count + 1) first name subs clients members
open_first first name members clients subs most ready count is =
    let same : most ≡ count + 1 = omega (arith, is) in
    subst (λ (n : ℕ). IsOpenFor n first name subs clients members) same (ready (omega (arith, is)))

-- it is for one job more
pub open_next : (first : Job) (name : List ℕ) (members : List Member) (clients : List Client) (subs : List Subscription)
    (k most : ℕ)
    → k < most
    → ((count : ℕ) → count + 1 + k ≡ most → IsOpenFor (count + 1) first name subs clients members)
    → IsOpenFor 1 first name subs clients members
open_next first name members clients subs k most within ready =
    open_one first name members clients subs (most - suc k) (ready (most - suc k) (omega (arith, within)))

-- and stays so for those behind it
pub open_behind : (first : Job) (name : List ℕ) (members members2 : List Member) (old new : List Client)
    (subs subs2 : List Subscription) (k most : ℕ)
    → members2 ≡ members
    → ((count : ℕ) → count + 1 + k ≡ most → IsOpenFor (count + 1) first name subs old members)
    → StaysOpen first name members old new subs subs2
    → (count : ℕ) → count + 1 + (k + 1) ≡ most → IsOpenFor (count + 1) first name subs2 new members2
open_behind first name members members2 old new subs subs2 k most same ready stays count is =
    subst (λ (l : List Member). IsOpenFor (count + 1) first name subs2 new l) (sym same)
    (stays (count + 1) (ready (count + 1) (omega (arith, is))))

-- one more of the jobs is worked
pub worked_on : (jobs : List Job) (shard : ℕ) (p q q2 : ClaimPart) (k : ℕ) (first conns conns2 : Clients)
    (start opened opened2 : Opened) (won : Bool)
    → p.next ≡ 0
    → k < length jobs
    → Turns p.finished jobs (p.finished + length jobs)
    → ((s : State) → IsShardAt s shard first start → p.finished ≡ s.finished
    → HasWorked s jobs k conns opened p q)
    → ((job : Job) → slice_get jobs k ≡ Some job → ClaimsNext shard job won conns conns2 opened opened2 q q2)
    → (s : State) → IsShardAt s shard first start → p.finished ≡ s.finished
    → HasWorked s jobs (k + 1) conns2 opened2 p q2
worked_on jobs shard p q q2 k first conns conns2 start opened opened2 won index within turns so_far next s at follows =
    let job = get_some jobs k within in
    one_more_worked s jobs shard p index follows k conns conns2 opened opened2 q q2 job.0 won (p.finished + length jobs)
    at.idle at.shard_is (subst (λ (n : ℕ). Turns n jobs (p.finished + length jobs)) follows turns) (so_far s at follows)
    job.1 (next job.0 job.1)

-- where there was no memory for the next one, all is as it was
pub stopped : (jobs : List Job) (shard : ℕ) (p q q2 : ClaimPart) (k : ℕ) (first conns conns2 : Clients)
    (start opened opened2 : Opened)
    → conns2 ≡ conns → opened2 ≡ opened → q2 ≡ q
    → ((s : State) → IsShardAt s shard first start → p.finished ≡ s.finished
    → HasWorked s jobs k conns opened p q)
    → (s : State) → IsShardAt s shard first start → p.finished ≡ s.finished
    → HasWorked s jobs k conns2 opened2 p q2
stopped jobs shard p q q2 k first conns conns2 start opened opened2 same_conns same_opened same so_far s at follows =
    subst (λ (c : Clients). HasWorked s jobs k c opened2 p q2) (sym same_conns)
    (subst (λ (o : Opened). HasWorked s jobs k conns o p q2) (sym same_opened)
    (subst (λ (x : ClaimPart). HasWorked s jobs k conns opened p x) (sym same) (so_far s at follows)))

pub stopped_order : (k : ℕ) (old : List Client) (conns conns2 : Clients) (subs : List Subscription)
    (opened opened2 : Opened)
    → conns2 ≡ conns → opened2 ≡ opened
    → KeepsOrder k old conns.shown subs opened.subs
    → KeepsOrder k old conns2.shown subs opened2.subs
stopped_order k old conns conns2 subs opened opened2 same_conns same_opened keeps =
    subst (λ (c : Clients). KeepsOrder k old c.shown subs opened2.subs) (sym same_conns)
    (subst (λ (o : Opened). KeepsOrder k old conns.shown subs o.subs) (sym same_opened) keeps)
