-- The entry of a member is staged, and the jobs that go together are found.
use Rattle.std.proofs.Common.{◌≡◌, ℕ, suc, ◌+◌, ◌<◌, ◌≤◌, Bool, true, false, true≢false, List, [], ◌∷◌, ◌++◌, length, filter, get_or, drop, take, Some, refl, sym, ap, ◌∙◌, subst, arith}
use Rattle.std.specs.Prelude.{nat_lt, slice_get}
use Rattle.std.specs.Option.{option_copied}
use Rattle.std.proofs.lemmas.Bool.{lt-ltb}
use Rattle.std.proofs.lemmas.List.{length-take-le}
use Rattle.std.proofs.lemmas.Option.{get_or_from_slice_get, same_Some, slice_get_read, slice_get_within}
use Rattle.list_laws.specs.Lists.{Each}
use Rattle.list_laws.proofs.Lists.{each_cons, each_one}
use Rattle.client_frames.specs.Messages.{Tails, plain_tails, tail_for, tails_of}
use Rattle.job_block.specs.Blocks.{AreAlike, FollowsAlike}
use Rattle.job_block.specs.Publications.{IsPublishable, IsShort, content_by}
use Rattle.job_block.specs.declared.publications.PublicationParts.{PublicationParts}
use Rattle.outbox.specs.Views.{Written, spelt_entry, with_entry}
use Rattle.outbox.specs.declared.entries.Mode.TheVariants.{Queue}
use Rattle.sub_table.specs.Subscriptions.{gets}
use Rattle.sub_table.specs.declared.Subscription.{Subscription}
use Rattle.subj.specs.declared.identities.PubId.{PubId}
use Rattle.subj.specs.declared.jobs.Job.{Job}
use Rattle.shard_core.specs.declared.claim_run.Member.{Member}
use Rattle.shard_core.specs.Boxes.{IsSeated}
use Rattle.shard_core.specs.ClaimMembers.{ClaimsWith, IsClaimRun, IsMember, IsOpenFor, IsRunOf, StagesAt, is_asked, most_bytes, queued_entry}
use Rattle.shard_core.specs.Closings.{id_of}
use Rattle.shard_core.specs.Lines.{Turns}
use Rattle.shard_core.specs.Received.{Received, receivers_of}
use Rattle.shard_core.specs.Shards.{Client, client_at, clients_with_change, fits}
use Rattle.shard_core.proofs.ClaimAsked.{member_at, queued_short}
use Rattle.shard_core.proofs.ClaimRooms.{rooms_go_on}
use Rattle.shard_core.proofs.RunJobs.{alike_behind, at_front}

-- ---- the member

-- what was read at a place is what stands there
read_is : {A : Type 0} (xs : List A) (i : ℕ) (x r : A) → x ≡ get_or xs i x → slice_get xs i ≡ Some r → x ≡ r
read_is xs i x r is there = is ∙ get_or_from_slice_get xs i r x there

tail_is : (tails : Tails) (parts : PublicationParts) (job : Job)
    → tails ≡ plain_tails (option_copied parts.reply) parts.payload.now
    → content_by parts ≡ job.message
    → tail_for tails false ≡ tail_for (tails_of job.message) false
tail_is tails parts job written same =
    ap (λ (t : Tails). tail_for t false) written ∙ ap (λ m. tail_for (tails_of m) false) same

-- the member at a place, and those noted that receive the subject
module _ (first : Job) (name : List ℕ) (subs : List Subscription) (clients : List Client) (members : List Member)
    (at : ℕ) (m : Member) (ready : IsOpenFor 1 first name subs clients members) (within : at < length members)
    (is : m ≡ get_or members at m) (receivers : List Received) (subject : List ℕ)
    (noted : receivers ≡ receivers_of subject (filter (gets subject) subs))
    (same : subject ≡ first.message.subject) where
  abbrev pub rs : List Received
  rs = receivers_of first.message.subject (filter (gets first.message.subject) subs)

  -- a receiver that the member is, at the same place among those that the job may go to
  abbrev pub IsHere : Received → Type 0
  IsHere r = (slice_get (filter (is_asked first name) rs) at ≡ Some r) × IsMember 1 rs clients m r

  here : (r : Received) × IsHere r
  here =
      let found = member_at 1 rs clients members (filter (is_asked first name) rs) at m ready.members_are
      (slice_get_read members (length members) at m refl within is) in
      (found.0, (found.1, found.2))

  there : slice_get receivers m.place ≡ Some here.0
  there =
      ap (λ (l : List Received). slice_get l m.place)
      (noted ∙ ap (λ (t : List ℕ). receivers_of t (filter (gets t) subs)) same)
      ∙ here.1.1.stands

  -- it stands among them
  pub never_beyond : (found : Bool) → found ≡ nat_lt m.place (length receivers) → found ≡ false → ⊥
  never_beyond found tells none =
      true≢false
      (sym (lt-ltb m.place (length receivers) (slice_get_within receivers m.place here.0 there)) ∙ sym tells ∙ none)

  pub seated : IsSeated m.seat clients
  seated = here.1.1.seat_is.seated

  -- its entry, of these parts
  module _ (shard : ℕ) (job : Job) (r : Received) (read : r ≡ get_or receivers m.place r) (id : PubId)
      (head whole tail : List ℕ) (tails : Tails) (parts : PublicationParts) (published : id ≡ job.id)
      (cut : head ≡ drop 1 whole) (begins : whole ≡ r.head) (ends : tail ≡ tail_for tails false)
      (written : tails ≡ plain_tails (option_copied parts.reply) parts.payload.now)
      (told : content_by parts ≡ job.message) where
    abbrev pub entry : Written
    entry = spelt_entry id (id_of shard m.serial) (Queue name) (head ++ tail)

    is_here : IsHere r
    is_here = subst IsHere (sym (read_is receivers m.place r here.0 read there)) here.1

    entry_is : entry ≡ queued_entry shard job name r
    entry_is =
        let front : head ≡ drop 1 r.head = cut ∙ ap (drop 1) begins in
        let back : tail ≡ tail_for (tails_of job.message) false = ends ∙ tail_is tails parts job written told in
        λ i. spelt_entry (published i) (id_of shard (is_here.1.serial_is i)) (Queue name) (front i ++ back i)

    pub member_fits : IsPublishable job.message → IsShort job.message
        → fits (client_at m.seat.conn clients) entry ≡ true
    member_fits valid short =
        (λ i. fits (client_at (is_here.1.seat_is.conn_is i) clients) (entry_is i))
        ∙ (rooms_go_on clients r.conn 0 most_bytes (queued_entry shard job name r)
        (queued_short shard job name r valid short is_here.1.short) is_here.1.room).fits_one

    pub staged_at : (after : List Client)
        → after ≡ clients_with_change (with_entry entry) m.seat.conn clients
        → StagesAt shard job name (filter (is_asked first name) rs) at clients after
    staged_at after put = record {
      member = r;
      stands = is_here.0;
      put =
          put ∙ (λ i. clients_with_change (with_entry (entry_is i)) (is_here.1.seat_is.conn_is i) clients);
    }

-- ---- the jobs

claims_on : (first before job : Job) (name : List ℕ) → ClaimsWith first name before → FollowsAlike before job
    → ClaimsWith first name job
claims_on first before job name claims follows = record {
  named = follows.queues ∙ claims.named;
  short = record { plain = follows.plain; short = follows.short };
  subject = follows.subject ∙ claims.subject;
  publisher = follows.publisher ∙ claims.publisher;
  echo = follows.echo ∙ claims.echo;
}

each_claims : (first before : Job) (name : List ℕ) (jobs : List Job) → ClaimsWith first name before
    → AreAlike (before ∷ jobs)
    → Each (ClaimsWith first name) (before ∷ jobs)
each_claims first before name [] claims alike = each_one (ClaimsWith first name) before claims
each_claims first before name (job ∷ jobs) claims alike =
    each_cons (ClaimsWith first name) before (job ∷ jobs) claims
    (each_claims first job name jobs (claims_on first before job name claims (alike 0 before job refl refl))
    (alike_behind before (job ∷ jobs) alike))

turns_on : (begun : ℕ) (before : Job) (jobs : List Job) → AreAlike (before ∷ jobs) → before.turn ≡ begun + 1
    → Turns begun (before ∷ jobs) (begun + length (before ∷ jobs))
turns_on begun before [] alike turn = (omega (arith, turn), omega arith)
turns_on begun before (job ∷ jobs) alike turn =
    let next : job.turn ≡ before.turn + 1 = (alike 0 before job refl refl).turn in (
      omega (arith, turn),
      subst (Turns (suc begun) (job ∷ jobs)) (end jobs)
          (turns_on (suc begun) job jobs (alike_behind before (job ∷ jobs) alike) (omega (arith, next, turn))),
    )
  where
    end : (l : List Job) → suc begun + length (job ∷ l) ≡ begun + length (before ∷ job ∷ l)
    end l = omega arith

run_is : (finished : ℕ) (first : Job) (name : List ℕ) (run : List Job)
    → slice_get run 0 ≡ Some first → ClaimsWith first name first → first.turn ≡ finished + 1 → AreAlike run
    → Turns finished run (finished + length run) × IsClaimRun first name run
run_is finished first name [] begins claims turn alike = absurd (cc (begins))
run_is finished first name (job ∷ jobs) begins claims turn alike =
    let same : job ≡ first = same_Some job first begins in (
      turns_on finished job jobs alike (ap (λ (j : Job). j.turn) same ∙ turn),
      record {
        begins = begins;
        alike = each_claims first job name jobs (subst (ClaimsWith first name) (sym same) claims) alike;
      },
    )

-- the first so many, where a run may begin with the first
pub run_of : (finished : ℕ) (jobs run : List Job) (first : Job) (name : List ℕ) (count : ℕ)
    → slice_get jobs 0 ≡ Some first
    → first.queues ≡ name ∷ []
    → IsShort first.message
    → first.turn ≡ finished + 1
    → 0 < count
    → count ≤ length jobs
    → AreAlike (take count jobs)
    → run ≡ take count jobs
    → IsRunOf finished jobs first name run
run_of finished jobs run first name count begins named short turn some few alike taken =
    let both =
    run_is finished first name run (ap (λ l. slice_get l 0) taken ∙ at_front count jobs 0 some ∙ begins)
    (record { named = named; short = short; subject = refl; publisher = refl; echo = refl }) turn
    (subst AreAlike (sym taken) alike) in
    let len : length run ≡ count = ap length taken ∙ length-take-le count jobs few in
    record {
      some = omega (arith, some, len);
      few = omega (arith, few, len);
      taken = taken ∙ ap (λ n. take n jobs) (sym len);
      turns = both.0;
      run_is = both.1;
    }
