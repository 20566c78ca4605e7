-- Publications that are issued one after the other.
use Rattle.std.proofs.Common.{◌≡◌, ℕ, ◌+◌, ◌<◌, Bool, true, false, List, [], ◌∷◌, ◌++◌, length, Some, None, Ok, refl, sym, ap, ◌∙◌, subst, inl, append-nil, length-append, arith}
use Rattle.std.specs.Prelude.{nat_le, nat_lt, ◌||◌, if◌then◌else◌}
use Rattle.std.proofs.lemmas.Bool.Decides.{nat_tests}
use Rattle.std.proofs.lemmas.Option.{none-some}
use Rattle.list_laws.proofs.Tests.{no_cause, or_false, le_false}
use Rattle.subj.specs.Numbers.{next_turn}
use Rattle.subj.specs.QueueNames.{are_queue_names}
use Rattle.subj.specs.declared.jobs.Job.{Job}
use Rattle.subj.specs.declared.limits.TheConstants.{MAX_COUNTER}
use Rattle.subj.specs.declared.messages.Pub.{Pub}
use Rattle.claim_cells.specs.declared.parts.HubPart.{HubPart}
use Rattle.claim_cells.specs.Steps.{issued_one}
use Rattle.job_block.specs.declared.kept.Origin.{Origin}
use Rattle.job_block.specs.Blocks.{IsLast, job_of}
use Rattle.publication_runs.specs.Lent.{LentState, Gives, GivesOne}
use Rattle.hub_core.specs.Events as of_hub
use Rattle.hub_core.specs.Calls.{IsPlanned, after_frames}
use Rattle.hub_core.specs.Chosen.{IsPlanOf, publication_by, turn_refusal}
use Rattle.hub_core.specs.Local.{OwesLocalJob, HasTurnsFor, behind_local, local_job}
use Rattle.hub_core.specs.Publishing.{Publication, busy_fault, next_id, own_job, frames_of, publish_refusal}
use Rattle.hub_core.specs.declared.faults.HubFault.TheVariants.{Spent}
use Rattle.hub_core.proofs.Choices.Local.{is_local, stays_local, no_frames}
use Rattle.hub_core.proofs.Steps.Rooms.{or_none}
use Rattle.node_parts.specs.Sides.{HubWithSessions, ByHub, OfHub}
use Rattle.node_parts.specs.declared.told.Issued.{Issued}
use Rattle.node_threads.specs.AtHub.{AtHub, hub_at, Issues, IsAtHub, IsPublished, Publishes}
use Rattle.node_threads.specs.HubRuns.{IssuesEach, IssuesRun}
use Rattle.node_threads.proofs.Hubs.Publishing.{MayIssue, shows_room, HasIssued, published_done, issues}
use Rattle.node_threads.proofs.Lanes.Outlets.{last_behind}

-- ---- runs, one behind the other

gives_more : (ps qs : List Pub) (from between to : LentState)
    → Gives ps from between
    → Gives qs between to
    → Gives (ps ++ qs) from to
gives_more [] qs from between to first more = subst (λ (s : LentState). Gives qs s to) first more
gives_more (p ∷ ps) qs from between to first more =
    (first.0, first.1, gives_more ps qs first.0 between to first.2 more)

issues_more : (shards conn : ℕ) (ps qs : List Pub) (old between new : AtHub)
    → IssuesEach shards conn ps old between
    → IssuesEach shards conn qs between new
    → IssuesEach shards conn (ps ++ qs) old new
issues_more shards conn [] qs old between new first more =
    subst (λ (w : AtHub). IssuesEach shards conn qs w new) first more
issues_more shards conn (p ∷ ps) qs old between new first more =
    (first.0, first.1, first.2, issues_more shards conn ps qs first.0 between new first.3 more)

pub no_run : (shards conn : ℕ) (from to : LentState) (old new : AtHub)
    → to ≡ from
    → new ≡ old
    → IssuesRun shards conn 0 from to old new
no_run shards conn from to old new same stays = record { publications = []; counted = refl; given = same; each = stays }

pub runs_more : (shards conn m n : ℕ) (from between to : LentState) (old mid new : AtHub)
    → IssuesRun shards conn m from between old mid
    → IssuesRun shards conn n between to mid new
    → IssuesRun shards conn (m + n) from to old new
runs_more shards conn m n from between to old mid new first more = record {
  publications = first.publications ++ more.publications;
  counted =
      length-append first.publications more.publications ∙ (λ k. first.counted k + more.counted k);
  given = gives_more first.publications more.publications from between to first.given more.given;
  each = issues_more shards conn first.publications more.publications old mid new first.each more.each;
}

-- all of them are on one subject
subject_given : (ps : List Pub) (from to : LentState) → Gives ps from to → to.subject ≡ from.subject
subject_given [] from to given = ap (λ (s : LentState). s.subject) given
subject_given (p ∷ ps) from to given = subject_given ps given.0 to given.2 ∙ given.1.same_subject

pub same_subject : (shards conn count : ℕ) (from to : LentState) (old new : AtHub)
    → IssuesRun shards conn count from to old new
    → to.subject ≡ from.subject
same_subject shards conn count from to old new run = subject_given run.publications from to run.given

-- ---- one that owes a job, and nothing else

-- where a turn is free
pub may_issue : (shards : ℕ) (w : AtHub)
    → IsAtHub shards w
    → turn_refusal w.side.server w.side.hub w.finished ≡ None
    → MayIssue shards w
may_issue shards w i free =
    let hub = w.side.hub in
    let o = or_none (busy_fault w.side.server hub w.finished)
    (if nat_le MAX_COUNTER hub.published || nat_le MAX_COUNTER hub.issued then Some Spent else None) free in
    let spent = no_cause (nat_le MAX_COUNTER hub.published || nat_le MAX_COUNTER hub.issued) Spent None o.1 in
    let low = le_false MAX_COUNTER hub.issued
    (or_false (nat_le MAX_COUNTER hub.published) (nat_le MAX_COUNTER hub.issued) spent.0).1 in
    let same = i.turns in
    record { limit = omega arith; room = shows_room shards w i o.0 }

-- there is a turn then
pub has_turn : (turn : ℕ) → turn < MAX_COUNTER → None ≡ next_turn turn → ⊥
has_turn turn low none =
    let within : nat_lt MAX_COUNTER (turn + 1) ≡ false = grind (arith, nat_tests, low) in
    none-some (turn + 1) (none ∙ ap (λ b. if b then None else Some (turn + 1)) within)

pub next_is : (turn next : ℕ) → Some next ≡ next_turn turn → next ≡ turn + 1
next_is turn next is = go (nat_lt MAX_COUNTER (turn + 1)) is
  where
    go : (b : Bool) → Some next ≡ (if b then None else Some (turn + 1)) → next ≡ turn + 1
    go true e = absurd (cc (e))
    go false e = cc (e)

module _ (shards conn : ℕ) (w : AtHub) (said : Pub) (queues : List (List ℕ)) where
  abbrev asked : ℕ → Publication
  asked word = publication_by conn said word

  abbrev job : Job
  job = local_job w.side.server w.side.hub (asked 0) queues

  pub is_planned : OwesLocalJob w.side.server w.side.hub said.message.subject queues
      → turn_refusal w.side.server w.side.hub w.finished ≡ None
      → IsPlanned w.side.server w.side.hub []
  is_planned owes free =
      let local = is_local w.side.server w.side.hub (asked 0) queues owes in
      record {
        publication = asked 0;
        finished = w.finished;
        taken = local.refusal w.finished ∙ free;
        frames_are = sym local.frames;
      }

  module _ (side : HubWithSessions) (part : HubPart) (i : IsAtHub shards w)
      (owes : OwesLocalJob w.side.server w.side.hub said.message.subject queues)
      (free : turn_refusal w.side.server w.side.hub w.finished ≡ None)
      (side_is : side ≡ record w.side { hub = after_frames w.side.server w.side.hub [] })
      (part_is : part ≡ issued_one w.part) where
    abbrev after : AtHub
    after = hub_at side part w.finished (w.issued ++ job ∷ [])

    record IsIssued (p : Publication) : Type 0 where
      pub taken : publish_refusal w.side.server w.side.hub p w.finished ≡ None
      pub keeps : IsAtHub shards after
      pub issued : Issues w (ByHub (of_hub.Publish p w.finished))
          (OfHub (of_hub.Issued (own_job w.side.server w.side.hub p) (frames_of w.side.server w.side.hub p)))
          (own_job w.side.server w.side.hub p) after

    is_issued : (word : ℕ) → IsIssued (asked word)
    is_issued word =
        let p = asked word in
        let local = is_local w.side.server w.side.hub p queues owes in
        let own = own_job w.side.server w.side.hub p in
        let taken = local.refusal w.finished ∙ free in
        let plan : IsPlanOf w.side.server w.side.hub p own [] = record { job = refl; frames = sym local.frames } in
        let done = published_done w p own [] side taken plan side_is in
        let h : HasIssued w.part part = record {
          more = [];
          is =
              part_is
              ∙ ap (λ loads. record { issued = w.part.issued + 1; loads = loads }) (sym (append-nil w.part.loads));
        } in
        let two = issues shards w side part (ByHub (of_hub.Publish p w.finished))
        (OfHub (of_hub.Issued own (frames_of w.side.server w.side.hub p))) own i done h
        (ap (λ (t : HubWithSessions). t.hub.issued) side_is) refl refl
        (ap (λ (j : Job). are_queue_names j.queues) local.job ∙ owes.few) in
        let jobs_are : w.issued ++ own ∷ [] ≡ w.issued ++ job ∷ [] = λ k. w.issued ++ local.job k ∷ [] in
        record {
          taken = taken;
          keeps = subst (λ (js : List Job). IsAtHub shards (hub_at side part w.finished js)) jobs_are two.0;
          issued =
              subst (λ (js : List Job).
              Issues w (ByHub (of_hub.Publish p w.finished))
              (OfHub (of_hub.Issued own (frames_of w.side.server w.side.hub p))) own (hub_at side part w.finished js))
              jobs_are two.1;
        }

    pub keeps_local : IsAtHub shards after
    keeps_local = (is_issued 0).keeps

    pub publishes_local : (word : ℕ)
        → Publishes shards w (asked word) (Ok (record { turn = w.side.hub.issued + 1; frames = 0 })) after
    publishes_local word =
        let one = is_issued word in
        let local = is_local w.side.server w.side.hub (asked word) queues owes in
        let told : Issued = record { turn = w.side.hub.issued + 1; frames = 0 } in
        let published : IsPublished w (asked word) told after = record {
          issues = one.issued;
          turn = refl;
          frames = ap length (sym local.frames);
        } in
        record { seen = w; looks = inl refl; answered = (one.taken, published) }

    pub runs_local : (from to : LentState) → GivesOne said from to → IssuesRun shards conn 1 from to w after
    runs_local from to gives = record {
      publications = said ∷ [];
      counted = refl;
      given = (to, gives, refl);
      each = (after, record { turn = w.side.hub.issued + 1; frames = 0 }, publishes_local, refl);
    }

-- the last job is that of the one that was given last
pub is_last : (jobs : List Job) (job : Job) (conn : ℕ) (said : Pub) (queues : List (List ℕ)) (from to : LentState)
    → GivesOne said from to
    → job.message ≡ said.message
    → job.publisher ≡ Some conn
    → job.echo ≡ said.echo
    → job.queues ≡ queues
    → IsLast (Some conn) to.subject to.echo queues (jobs ++ job ∷ [])
is_last jobs job conn said queues from to gives message publisher echo names = record {
  last = job;
  stands = last_behind jobs (job ∷ []) (omega arith);
  subject_same =
      ap (λ m. m.subject) message
      ∙ ap (λ (p : Pub). p.message.subject) gives.is_as
      ∙ gives.is_on
      ∙ sym gives.same_subject;
  publisher_same = publisher;
  echo_same = echo ∙ ap (λ (p : Pub). p.echo) gives.is_as ∙ sym gives.same_echo;
  queues_same = names;
}

-- ---- the whole of it

pub record OneIssued (shards conn : ℕ) (queues : List (List ℕ)) (from to : LentState) (w new : AtHub) :
    Type 0 where
  pub keeps : IsAtHub shards new
  pub issues : IssuesRun shards conn 1 from to w new
  pub last : IsLast (Some conn) to.subject to.echo queues new.issued
  pub server : new.side.server ≡ w.side.server
  pub hub : new.side.hub ≡ behind_local 1 w.side.hub

pub one_issued : (shards conn : ℕ) (w : AtHub) (said : Pub) (queues : List (List ℕ)) (from between to : LentState)
    (origin : Origin) (turn : ℕ) (side : HubWithSessions) (part : HubPart) (jobs : List Job)
    → IsAtHub shards w
    → OwesLocalJob w.side.server w.side.hub from.subject queues
    → turn_refusal w.side.server w.side.hub w.finished ≡ None
    → between ≡ from
    → GivesOne said between to
    → Some turn ≡ next_turn w.side.hub.issued
    → origin ≡ record { id = next_id w.side.server w.side.hub; publisher = Some conn; echo = from.echo }
    → jobs ≡ w.issued ++ job_of origin turn said.message queues ∷ []
    → side ≡ record w.side { hub = after_frames w.side.server w.side.hub [] }
    → part ≡ issued_one w.part
    → OneIssued shards conn queues from to w (hub_at side part w.finished jobs)
one_issued shards conn w said queues from between to origin turn side part jobs i owes free same gives next origin_is
    jobs_are side_is part_is =
    let given : GivesOne said from to = subst (λ (s : LentState). GivesOne said s to) same gives in
    let on : said.message.subject ≡ from.subject = ap (λ (p : Pub). p.message.subject) given.is_as ∙ given.is_on in
    let local : OwesLocalJob w.side.server w.side.hub said.message.subject queues =
    subst (λ subject. OwesLocalJob w.side.server w.side.hub subject queues) (sym on) owes in
    let turn_is : turn ≡ w.side.hub.issued + 1 = next_is w.side.hub.issued turn next in
    let echo_is : from.echo ≡ said.echo = sym (ap (λ (p : Pub). p.echo) given.is_as) in
    let job = job_of origin turn said.message queues in
    let job_is : job ≡ local_job w.side.server w.side.hub (publication_by conn said 0) queues =
    (λ k. job_of (origin_is k) (turn_is k) said.message queues)
    ∙ (λ k.
    job_of (record { id = next_id w.side.server w.side.hub; publisher = Some conn; echo = echo_is k })
    (w.side.hub.issued + 1) said.message queues) in
    let all : jobs ≡ w.issued ++ local_job w.side.server w.side.hub (publication_by conn said 0) queues ∷ [] =
    jobs_are ∙ (λ k. w.issued ++ job_is k ∷ []) in
    record {
      keeps =
          subst (λ (js : List Job). IsAtHub shards (hub_at side part w.finished js)) (sym all)
          (keeps_local shards conn w said queues side part i local free side_is part_is);
      issues =
          subst (λ (js : List Job). IssuesRun shards conn 1 from to w (hub_at side part w.finished js)) (sym all)
          (runs_local shards conn w said queues side part i local free side_is part_is from to given);
      last =
          subst (λ (js : List Job). IsLast (Some conn) to.subject to.echo queues js) (sym all)
          (is_last w.issued (local_job w.side.server w.side.hub (publication_by conn said 0) queues) conn said queues
          from to given refl refl refl refl);
      server = ap (λ (t : HubWithSessions). t.server) side_is;
      hub = ap (λ (t : HubWithSessions). t.hub) side_is ∙ no_frames w.side.server w.side.hub;
    }

-- ---- all of them

-- what stays behind so many of them, of the hub that there was
pub record IsRunning (shards conn count : ℕ) (queues : List (List ℕ)) (from to : LentState) (old new : AtHub) :
    Type 0 where
  pub issues : IssuesRun shards conn count from to old new
  pub last : 0 < count → IsLast (Some conn) to.subject to.echo queues new.issued
  pub finished : new.finished ≡ old.finished
  pub server : new.side.server ≡ old.side.server
  pub hub : new.side.hub ≡ behind_local count old.side.hub

pub begins : (shards conn : ℕ) (queues : List (List ℕ)) (from : LentState) (w : AtHub)
    → IsRunning shards conn 0 queues from from w w
begins shards conn queues from w = record {
  issues = no_run shards conn from from w w refl refl;
  last = λ some. absurd (omega (arith, some));
  finished = refl;
  server = refl;
  hub = (λ k. record w.side.hub { issued = none w.side.hub.issued k; published = none w.side.hub.published k });
}
  where
    none : (n : ℕ) → n ≡ n + 0
    none n = omega arith

-- it owes a job still
pub still_local : (shards conn count : ℕ) (queues : List (List ℕ)) (from to : LentState) (old new : AtHub)
    → IsRunning shards conn count queues from to old new
    → OwesLocalJob old.side.server old.side.hub from.subject queues
    → OwesLocalJob new.side.server new.side.hub to.subject queues
still_local shards conn count queues from to old new r owes =
    let behind = stays_local old.side.server old.side.hub from.subject queues count owes in
    let same = same_subject shards conn count from to old new r.issues in
    subst (λ server. OwesLocalJob server new.side.hub to.subject queues) (sym r.server)
    (subst (λ hub. OwesLocalJob old.side.server hub to.subject queues) (sym r.hub)
    (subst (λ subject. OwesLocalJob old.side.server (behind_local count old.side.hub) subject queues) (sym same)
    behind))

-- a turn is free still
pub still_free : (shards conn count free : ℕ) (queues : List (List ℕ)) (from to : LentState) (old new : AtHub)
    → IsRunning shards conn count queues from to old new
    → HasTurnsFor old.side.server old.side.hub old.finished free
    → count < free
    → turn_refusal new.side.server new.side.hub new.finished ≡ None
still_free shards conn count free queues from to old new r has low =
    (λ k. turn_refusal (r.server k) (r.hub k) (r.finished k)) ∙ has count low

-- and one more is issued
pub runs_on : (shards conn count : ℕ) (queues : List (List ℕ)) (from between to : LentState) (old mid new : AtHub)
    → IsRunning shards conn count queues from between old mid
    → IssuesRun shards conn 1 between to mid new
    → IsLast (Some conn) to.subject to.echo queues new.issued
    → new.finished ≡ mid.finished
    → new.side.server ≡ mid.side.server
    → new.side.hub ≡ behind_local 1 mid.side.hub
    → IsRunning shards conn (count + 1) queues from to old new
runs_on shards conn count queues from between to old mid new r one last finished server hub = record {
  issues = runs_more shards conn count 1 from between to old mid new r.issues one;
  last = λ some. last;
  finished = finished ∙ r.finished;
  server = server ∙ r.server;
  hub =
      hub
      ∙ ap (λ h. behind_local 1 h) r.hub
      ∙ (λ k. record old.side.hub { issued = more old.side.hub.issued k; published = more old.side.hub.published k });
}
  where
    more : (n : ℕ) → n + count + 1 ≡ n + (count + 1)
    more n = omega arith

-- or it ends there
pub runs_out : (shards conn count : ℕ) (queues : List (List ℕ)) (from between to : LentState) (old mid new : AtHub)
    → IsRunning shards conn count queues from between old mid
    → IssuesRun shards conn 0 between to mid new
    → IssuesRun shards conn count from to old new
runs_out shards conn count queues from between to old mid new r none =
    subst (λ n. IssuesRun shards conn n from to old new) (let same : count + 0 ≡ count = omega arith in same)
    (runs_more shards conn count 0 from between to old mid new r.issues none)

-- the first is issued
pub runs_first : (shards conn : ℕ) (queues : List (List ℕ)) (from to : LentState) (old new : AtHub)
    → IssuesRun shards conn 1 from to old new
    → IsLast (Some conn) to.subject to.echo queues new.issued
    → new.finished ≡ old.finished
    → new.side.server ≡ old.side.server
    → new.side.hub ≡ behind_local 1 old.side.hub
    → IsRunning shards conn 1 queues from to old new
runs_first shards conn queues from to old new =
    runs_on shards conn 0 queues from from to old old new (begins shards conn queues from old)
