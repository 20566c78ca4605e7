-- One job of a run of claims, as the code works it.
use Rattle.std.proofs.Common.{◌≡◌, ℕ, zero, suc, ◌+◌, ◌%◌, ◌<◌, ◌^◌, Bool, true, false, List, [], ◌∷◌, length, map, filter, get_or, Option, Some, None, refl, sym, ap, ◌∙◌, subst, arith}
use Rattle.std.specs.Prelude.{All, is_some, slice_get}
use Rattle.std.proofs.lemmas.Nat.{mod_below}
use Rattle.std.proofs.lemmas.List.Elements.{All-weaker}
use Rattle.std.proofs.lemmas.Option.{same_Some, slice_get_read, slice_get_within}
use Rattle.list_laws.proofs.Changes.{append_nil}
use Rattle.list_laws.proofs.Lists.{in_read}
use Rattle.job_block.specs.Publications.{IsPublishable}
use Rattle.outbox.specs.Views.{Written, with_entry}
use Rattle.sub_table.specs.Subscriptions.{gets}
use Rattle.sub_table.specs.declared.Subscription.{Subscription}
use Rattle.subj.specs.declared.jobs.Job.{Job}
use Rattle.shard_core.specs.declared.claim_run.Member.{Member}
use Rattle.shard_core.specs.Boxes.{Clients}
use Rattle.shard_core.specs.ClaimMembers.{ClaimsNext, ClaimsWith, HasTurned, IsClaimRun, IsInTurn, IsMember, IsOpenFor, IsShardAt, KeepsOrder, StagesAt, StaysOpen, is_asked, queued_entry}
use Rattle.shard_core.specs.ClaimRuns.{ClaimPart, MayClaimFirst, with_first, with_turn}
use Rattle.shard_core.specs.Opened.{CanCount, Opened, with_counts}
use Rattle.shard_core.specs.Owed.{is_due, owed_entry, sub_with_count}
use Rattle.shard_core.specs.Received.{Received, receiver_of, receivers_of}
use Rattle.shard_core.specs.Shards.{State, Client, clients_with_change, takes_headers}
use Rattle.shard_core.proofs.ClaimAsked.{IsChosen, alike_job, candidate_is, member_at, no_candidate, none_due, open_alike, queued_short, spelt_queued, unlimited}
use Rattle.shard_core.proofs.ClaimPlaces.{keeps_all, keeps_put, open_on, open_still}
use Rattle.shard_core.proofs.ClaimSteps.{left_as_it_was, put_for_one, quiet_lost, quiet_none, tried_part}

-- those that the job may go to
abbrev pub asked_of : Job → List ℕ → List Subscription → List Received
asked_of job name subs =
    filter (is_asked job name) (receivers_of job.message.subject (filter (gets job.message.subject) subs))

-- the place of a turn, as it is counted
pub turn_place : (t turn count n : ℕ) → count ≡ n → 0 < count → t ≡ turn → (t % count < n) × (t % count ≡ turn % n)
turn_place t turn count n size some same =
    let below = mod_below t count some in (omega (arith, below, size), λ i. same i % size i)

-- the member that is read there
pub member_read : (members members2 : List Member) (place : ℕ) (m : Member)
    → members2 ≡ members → place < length members → m ≡ get_or members2 place m
    → slice_get members place ≡ Some m
member_read members members2 place m same within is =
    ap (λ (l : List Member). slice_get l place) (sym same)
    ∙ slice_get_read members2 (length members) place m (sym (ap length same)) within is

pub entry_at : {A : Type 0} (xs : List A) (k : ℕ) → k < length xs → (x : A) × (slice_get xs k ≡ Some x)
entry_at [] k within = absurd (omega arith)
entry_at (x ∷ xs) zero within = (x, refl)
entry_at (x ∷ xs) (suc k) within = entry_at xs k (omega (arith, within))

pub can_count_one : (serial : ℕ) (subs : List Subscription)
    → All (λ sub. sub.delivered + 1 < 2 ^ 64) subs → CanCount serial subs
can_count_one serial subs counts =
    All-weaker (λ (sub : Subscription). sub.delivered + 1 < 2 ^ 64)
    (λ (sub : Subscription). sub.serial ≡ serial → sub.delivered + 1 < 2 ^ 64) (λ sub lt is. lt) subs counts

-- nobody: what the seat has then
quiet_part : (p : ClaimPart) → with_turn p ≡ tried_part p false None
quiet_part p = λ i. record p {
  finished = p.finished + 1;
  next = 0;
  won = sym (append_nil p.won) i;
  lost = sym (append_nil p.lost) i;
}

lost_part : (p : ClaimPart) (sub : Subscription) → with_turn (with_first false p) ≡ tried_part p false (Some sub)
lost_part p sub = λ i. record (with_turn (with_first false p)) { won = sym (append_nil p.won) i }

won_part : (p : ClaimPart) (sub : Subscription) → with_turn (with_first true p) ≡ tried_part p true (Some sub)
won_part p sub = λ i. record (with_turn (with_first true p)) { lost = sym (append_nil p.lost) i }

-- ---- where nothing is put

pub stays_quiet : (first : Job) (name : List ℕ) (members : List Member) (conns conns2 : Clients)
    (opened opened2 : Opened)
    → conns2 ≡ conns → opened2 ≡ opened
    → StaysOpen first name members conns.next conns2.next opened.subs opened2.subs
stays_quiet first name members conns conns2 opened opened2 same_conns same_opened =
    subst (λ (c : Clients). StaysOpen first name members conns.next c.next opened.subs opened2.subs) (sym same_conns)
    (subst (λ (o : Opened). StaysOpen first name members conns.next conns.next opened.subs o.subs) (sym same_opened)
    (open_still first name members conns.next opened.subs))

pub keeps_quiet : (count : ℕ) (conns conns2 : Clients) (opened opened2 : Opened)
    → conns2 ≡ conns → opened2 ≡ opened
    → KeepsOrder count conns.shown conns2.shown opened.subs opened2.subs
keeps_quiet count conns conns2 opened opened2 same_conns same_opened =
    subst (λ (c : Clients). KeepsOrder count conns.shown c.shown opened.subs opened2.subs) (sym same_conns)
    (subst (λ (o : Opened). KeepsOrder count conns.shown conns.shown opened.subs o.subs) (sym same_opened)
    (keeps_all count conns.shown opened.subs))

-- ---- one job

module _ (first job : Job) (name : List ℕ) (members : List Member) (shard : ℕ) (conns : Clients) (opened : Opened)
    (like : ClaimsWith first name job) (valid : IsPublishable job.message)
    (ready : IsOpenFor 1 first name opened.subs conns.next members) where
  module _ (s : State) (at : IsShardAt s shard conns opened) where
    open_at : IsOpenFor 1 job name s.subs s.clients members
    open_at =
        open_alike 1 first job name s.subs s.clients members like
        (subst (λ (c : Clients). IsOpenFor 1 first name s.subs c.next members) at.conns_are
        (subst (λ (o : Opened). IsOpenFor 1 first name o.subs conns.next members) at.opened_are ready))

    one : length job.queues ≡ 1
    one = ap length like.named

    undue : filter (is_due job) s.subs ≡ []
    undue = none_due job s.subs open_at.undue

  pub claims_nobody : (conns2 : Clients) (opened2 : Opened) (p q : ClaimPart)
      → length members ≡ 0
      → conns2 ≡ conns
      → opened2 ≡ opened
      → q ≡ p
      → ClaimsNext shard job false conns conns2 opened opened2 p (with_turn q)
  claims_nobody conns2 opened2 p q none same_conns same_opened same s at follows index turn =
      left_as_it_was s job shard conns opened p at follows index turn (one s at) (undue s at) false None conns2 opened2
      (with_turn q)
      (no_candidate s job name members valid like.short (open_at s at) like.named none)
      (quiet_none s job) same_conns same_opened (ap with_turn same ∙ quiet_part p)

  chosen_at : (s : State) (at : IsShardAt s shard conns opened) (place : ℕ) (r : Received)
      → place ≡ job.turn % length members
      → slice_get (asked_of job name s.subs) place ≡ Some r
      → (sub : Subscription) × IsChosen s job name r sub
  chosen_at s at place r here is =
      candidate_is s job name members valid like.short (open_at s at) place r like.named here is

  pub claims_lost : (conns2 : Clients) (opened2 : Opened) (p q : ClaimPart)
      → 0 < length members
      → conns2 ≡ conns
      → opened2 ≡ opened
      → q ≡ with_first false p
      → ClaimsNext shard job false conns conns2 opened opened2 p (with_turn q)
  claims_lost conns2 opened2 p q some same_conns same_opened same s at follows index turn =
      let place = job.turn % length members in
      let m = entry_at members place (mod_below job.turn (length members) some) in
      let rs = receivers_of job.message.subject (filter (gets job.message.subject) s.subs) in
      let r = member_at 1 rs s.clients members (asked_of job name s.subs) place m.0 (open_at s at).members_are m.1 in
      let chosen = chosen_at s at place r.0 refl r.1 in
      left_as_it_was s job shard conns opened p at follows index turn (one s at) (undue s at) false (Some chosen.0)
      conns2 opened2 (with_turn q) chosen.1.candidate (quiet_lost s job chosen.0) same_conns same_opened
      (ap with_turn same ∙ lost_part p chosen.0)

  -- what is put for the member at the place of the turn
  module _ (place : ℕ) (m : Member) (staged : List Client) (here : place ≡ job.turn % length members)
      (is : slice_get members place ≡ Some m)
      (put : StagesAt shard job name (asked_of first name opened.subs) place conns.next staged) where
    abbrev pub rs : List Received
    rs = receivers_of first.message.subject (filter (gets first.message.subject) opened.subs)

    -- the member is the receiver that the entry is for
    member_is : IsMember 1 rs conns.next m put.member
    member_is =
        let r = member_at 1 rs conns.next members (asked_of first name opened.subs) place m ready.members_are is in
        subst (IsMember 1 rs conns.next m)
        (same_Some r.0 put.member (sym r.1 ∙ put.stands)) r.2

    abbrev pub entry : Written
    entry = queued_entry shard job name put.member

    pub stays_open : (opened2 : Opened) (conns2 : Clients)
        → conns2.next ≡ staged
        → opened2 ≡ with_counts (m.serial ∷ []) opened
        → StaysOpen first name members conns.next conns2.next opened.subs opened2.subs
    stays_open opened2 conns2 shown counted =
        subst (λ (o : Opened). StaysOpen first name members conns.next conns2.next opened.subs o.subs) (sym counted)
        (subst (λ (l : List Client).
        StaysOpen first name members conns.next l opened.subs (map (sub_with_count (m.serial ∷ [])) opened.subs))
        (sym (shown ∙ put.put))
        (open_on first name members conns.next opened.subs entry put.member.conn (m.serial ∷ [])
        (queued_short shard job name put.member valid like.short member_is.short)))

    pub keeps_order : (opened2 : Opened) (conns2 : Clients)
        → conns.next ≡ conns.shown
        → conns2.shown ≡ staged
        → opened2 ≡ with_counts (m.serial ∷ []) opened
        → KeepsOrder 1 conns.shown conns2.shown opened.subs opened2.subs
    keeps_order opened2 conns2 settled shown counted =
        subst (λ (o : Opened). KeepsOrder 1 conns.shown conns2.shown opened.subs o.subs) (sym counted)
        (subst (λ (l : List Client).
        KeepsOrder 1 l conns2.shown opened.subs (map (sub_with_count (m.serial ∷ [])) opened.subs))
        settled
        (subst (λ (l : List Client).
        KeepsOrder 1 conns.next l opened.subs (map (sub_with_count (m.serial ∷ [])) opened.subs))
        (sym (shown ∙ put.put))
        (keeps_put (with_entry entry) put.member.conn (m.serial ∷ []) conns.next opened.subs)))

    pub claims_won : (conns2 : Clients) (opened2 : Opened) (p q : ClaimPart)
        → conns2 ≡ record { shown = staged; next = staged }
        → opened2 ≡ with_counts (m.serial ∷ []) opened
        → q ≡ with_first true p
        → ClaimsNext shard job true conns conns2 opened opened2 p (with_turn q)
    claims_won conns2 opened2 p q shown counted same s at follows index turn =
        let stands : slice_get (asked_of job name s.subs) place ≡ Some put.member =
        (λ i. slice_get
        (asked_of (alike_job first job name like i) name (sym (ap (λ (o : Opened). o.subs) at.opened_are) i)) place)
        ∙ put.stands in
        let chosen = chosen_at s at place put.member here stands in
        let sub : Subscription = chosen.0 in
        let r_is : put.member ≡ receiver_of job.message.subject sub = sym chosen.1.receiver in
        let next : conns.next ≡ s.clients = ap (λ (c : Clients). c.next) at.conns_are in
        let owed : queued_entry s.shard job name (receiver_of job.message.subject sub)
        ≡ owed_entry s.shard s.clients job sub.key.queue sub =
        spelt_queued s.shard (takes_headers sub.conn s.clients) job name sub like.short.plain
        ∙ ap (λ (o : Option (List ℕ)). owed_entry s.shard s.clients job o sub) (sym chosen.1.queue) in
        let clients : staged
        ≡ clients_with_change (with_entry (owed_entry s.shard s.clients job sub.key.queue sub)) sub.conn s.clients =
        put.put
        ∙ (λ i. clients_with_change (with_entry (queued_entry (sym at.shard_is i) job name (r_is i))) (r_is i).conn
        (next i))
        ∙ ap (λ (e : Written). clients_with_change (with_entry e) sub.conn s.clients) owed in
        let serial : m.serial ≡ sub.serial = member_is.serial_is ∙ ap (λ (r : Received). r.serial) r_is in
        let none : is_some sub.max ≡ false = sym (ap (λ (r : Received). r.is_limited) r_is) ∙ member_is.unlimited in
        put_for_one s job shard conns opened p at follows index turn (one s at) (undue s at) sub conns2 opened2
        (with_turn q) chosen.1.candidate (unlimited sub.max none)
        (shown ∙ (λ i. record { shown = clients i; next = clients i }))
        (counted ∙ ap (λ (n : ℕ). with_counts (n ∷ []) opened) serial)
        (ap with_turn same ∙ won_part p sub)

    -- won or not
    some_members : 0 < length members
    some_members = let within = slice_get_within members place m is in omega (arith, within)

    pub claims_tried : (won : Bool) (conns2 : Clients) (opened2 : Opened) (p q : ClaimPart)
        → (won ≡ true → conns2 ≡ record { shown = staged; next = staged })
        → (won ≡ true → opened2 ≡ with_counts (m.serial ∷ []) opened)
        → (won ≡ false → conns2 ≡ conns)
        → (won ≡ false → opened2 ≡ opened)
        → q ≡ with_first won p
        → ClaimsNext shard job won conns conns2 opened opened2 p (with_turn q)
    claims_tried true conns2 opened2 p q shown counted dropped left same =
        claims_won conns2 opened2 p q (shown refl) (counted refl) same
    claims_tried false conns2 opened2 p q shown counted dropped left same =
        claims_lost conns2 opened2 p q some_members (dropped refl) (left refl) same

    pub stays_tried : (won : Bool) (conns2 : Clients) (opened2 : Opened)
        → (won ≡ true → conns2 ≡ record { shown = staged; next = staged })
        → (won ≡ true → opened2 ≡ with_counts (m.serial ∷ []) opened)
        → (won ≡ false → conns2 ≡ conns)
        → (won ≡ false → opened2 ≡ opened)
        → StaysOpen first name members conns.next conns2.next opened.subs opened2.subs
    stays_tried true conns2 opened2 shown counted dropped left =
        stays_open opened2 conns2 (ap (λ (c : Clients). c.next) (shown refl)) (counted refl)
    stays_tried false conns2 opened2 shown counted dropped left =
        stays_quiet first name members conns conns2 opened opened2 (dropped refl) (left refl)

    pub keeps_tried : (won : Bool) (conns2 : Clients) (opened2 : Opened)
        → conns.next ≡ conns.shown
        → (won ≡ true → conns2 ≡ record { shown = staged; next = staged })
        → (won ≡ true → opened2 ≡ with_counts (m.serial ∷ []) opened)
        → (won ≡ false → conns2 ≡ conns)
        → (won ≡ false → opened2 ≡ opened)
        → KeepsOrder 1 conns.shown conns2.shown opened.subs opened2.subs
    keeps_tried true conns2 opened2 settled shown counted dropped left =
        keeps_order opened2 conns2 settled (ap (λ (c : Clients). c.shown) (shown refl)) (counted refl)
    keeps_tried false conns2 opened2 settled shown counted dropped left =
        keeps_quiet 1 conns conns2 opened opened2 (dropped refl) (left refl)

-- what was staged is dropped
pub unstaged : (conns mid conns2 : Clients)
    → conns2 ≡ record { shown = mid.shown; next = mid.shown }
    → mid.shown ≡ conns.shown
    → conns.next ≡ conns.shown
    → conns2 ≡ conns
unstaged conns mid conns2 dropped same settled =
    dropped ∙ (λ i. record { shown = same i; next = (same ∙ sym settled) i })

pub settled_tried : (won : Bool) (conns2 : Clients) (a b : List Client)
    → (won ≡ true → conns2 ≡ record { shown = a; next = a })
    → (won ≡ false → conns2 ≡ record { shown = b; next = b })
    → conns2.next ≡ conns2.shown
settled_tried true conns2 a b shown dropped =
    ap (λ (c : Clients). c.next) (shown refl) ∙ sym (ap (λ (c : Clients). c.shown) (shown refl))
settled_tried false conns2 a b shown dropped =
    ap (λ (c : Clients). c.next) (dropped refl) ∙ sym (ap (λ (c : Clients). c.shown) (dropped refl))

-- ---- as the calls tell it

-- what holds of the job at a place holds of whatever job is said to stand there
pub for_job : (P : Job → Type 0) (jobs : List Job) (k : ℕ) (job : Job) → slice_get jobs k ≡ Some job → P job
    → (other : Job) → slice_get jobs k ≡ Some other → P other
for_job P jobs k job is holds other there = subst P (same_Some job other (sym is ∙ there)) holds

pub job_alike : (first : Job) (name : List ℕ) (jobs : List Job) (k : ℕ) (job : Job) → IsClaimRun first name jobs
    → slice_get jobs k ≡ Some job → ClaimsWith first name job
job_alike first name jobs k job run is = run.alike job (in_read jobs k job is)

pub still_in_turn : (p q : ClaimPart) → q ≡ p → IsInTurn p q
still_in_turn p q same =
    record { finished = ap (λ (x : ClaimPart). x.finished) same; seen = ap (λ (x : ClaimPart). x.seen) same }

pub first_in_turn : (won : Bool) (p q : ClaimPart) → q ≡ with_first won p → IsInTurn p q
first_in_turn true p q same =
    record { finished = ap (λ (x : ClaimPart). x.finished) same; seen = ap (λ (x : ClaimPart). x.seen) same }
first_in_turn false p q same =
    record { finished = ap (λ (x : ClaimPart). x.finished) same; seen = ap (λ (x : ClaimPart). x.seen) same }

-- the turn of the claim is issued
pub turn_issued : (p q : ClaimPart) → MayClaimFirst p → IsInTurn p q → q.finished < q.seen
turn_issued p q may in_turn =
    let issued = may.issued in
    let finished = in_turn.finished in
    let seen = in_turn.seen in
    omega (arith, issued, finished, seen)

pub has_turned : (p q r : ClaimPart) → IsInTurn p q → r ≡ with_turn q → HasTurned p r
has_turned p q r in_turn turned = record {
  finished = ap (λ (x : ClaimPart). x.finished) turned ∙ ap (λ (n : ℕ). n + 1) in_turn.finished;
  next = ap (λ (x : ClaimPart). x.next) turned;
  seen = ap (λ (x : ClaimPart). x.seen) turned ∙ in_turn.seen;
}

pub next_turned : (shard : ℕ) (job : Job) (won : Bool) (conns conns2 : Clients) (opened opened2 : Opened)
    (p q r : ClaimPart)
    → r ≡ with_turn q
    → ClaimsNext shard job won conns conns2 opened opened2 p (with_turn q)
    → ClaimsNext shard job won conns conns2 opened opened2 p r
next_turned shard job won conns conns2 opened opened2 p q r turned next =
    subst (ClaimsNext shard job won conns conns2 opened opened2 p) (sym turned) next
