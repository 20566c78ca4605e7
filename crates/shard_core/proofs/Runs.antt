-- One job delivered at once, and a run of jobs.
use Rattle.std.proofs.Common.{◌≡◌, ℕ, suc, ◌+◌, Bool, true, false, cond, List, [], ◌∷◌, ◌++◌, length, map, filter}
use Rattle.std.proofs.Common.{Option, Some, None, refl, sym, ap, ◌∙◌, subst, inl, inr, arith}
use Rattle.std.specs.Prelude.{nat_eq, is_some, if◌then◌else◌}
use Rattle.std.specs.List.{flat_map}
use Rattle.list_laws.specs.Lists.{Each}
use Rattle.list_laws.proofs.Lists.{in_map}
use Rattle.list_laws.proofs.Changes.{append_nil, append_assoc, in_filter, map_filter, map_map}
use Rattle.list_laws.proofs.Tests.{true_eq, eq_true, eq_false}
use Rattle.outbox.specs.Views.{Written}
use Rattle.sub_table.specs.Subscriptions.{is_of}
use Rattle.sub_table.specs.declared.Subscription.{Subscription}
use Rattle.subj.specs.declared.jobs.Job.{Job}
use Rattle.shard_core.specs.declared.faults.ShardFault.TheVariants.{JobInHand, WrongTurn, NotAllTried}
use Rattle.shard_core.specs.declared.calls.Placed.{Placed}
use Rattle.shard_core.specs.Closings.{serials_of}
use Rattle.shard_core.specs.Lines.{Turns}
use Rattle.shard_core.specs.Opened.{AreApart}
use Rattle.shard_core.specs.Owed.{Walk, walk, whole_walk, walk_after_put, walk_with_entry, walk_with_shut, first_step}
use Rattle.shard_core.specs.Owed.{after_walk, due_entry, owed_entry, placed_for, owed_placed, is_due, sub_with_count}
use Rattle.shard_core.specs.Owed.{reaches}
use Rattle.shard_core.specs.ShardSteps.{begin_answer, done_with}
use Rattle.shard_core.specs.Shards.{State, Client, client_at, fits}
use Rattle.shard_core.specs.Runs.{after_job, IsWorked, placed_by, AreWorked, job_entries, run_entries, client_with}
use Rattle.shard_core.specs.Runs.{times_due, index_after, delivered_run, numbers_of}
use Rattle.shard_core.specs.Runs.{Takes, IsReceiver, CanRun, RunsAreWorked}
use Rattle.shard_core.proofs.RunEntries.{only, with_same, with_twice, with_none, apart_with, change_to_one, option_with}
use Rattle.shard_core.proofs.RunEntries.{still_takes, takes_same, takes_first, takes_one, TakesOne}
use Rattle.shard_core.proofs.RunCounts.{recounted, due_recounted, with_job, one_if, serials_recounted, times_first}
use Rattle.shard_core.proofs.RunCounts.{count_on, run_counted, no_jobs_counted, none_closed, job_counted, fewer_reach}

-- ---- the walk of a job

-- what is owed to a subscription for the job
abbrev pub owed : State → Job → Subscription → Written
owed s job sub = owed_entry s.shard s.clients job None sub

-- the entries of these subscriptions for one connection
abbrev pub entries_of : State → Job → List Subscription → ℕ → List Written
entries_of s job subs conn = map (owed s job) (filter (is_of conn) subs)

-- the entry of the first one
abbrev pub first_entries : State → Job → Subscription → ℕ → List Written
first_entries s job d = only d.conn (owed s job d ∷ [])

-- whoever is still to get an entry reaches no maximum with it, and its connection takes all that are still to come
pub record IsServed (s : State) (job : Job) (subs : List Subscription) (clients : List Client)
    (sub : Subscription) : Type 0 where
  pub unspent : reaches sub.max (sub.delivered + 1) ≡ false
  pub room : Takes (client_at sub.conn clients) (entries_of s job subs)

-- a walk in which all are served
abbrev pub served : State → Job → List Subscription → Walk → Walk
served s job subs w =
    record {
      clients = map (client_with (entries_of s job subs)) w.clients;
      given = w.given ++ subs;
      shut = w.shut;
      ended = w.ended;
    }

-- and one in which the first is
abbrev pub first_after : State → Job → Subscription → Walk → Walk
first_after s job d w =
    record {
      clients = map (client_with (first_entries s job d)) w.clients;
      given = w.given ++ d ∷ [];
      shut = w.shut;
      ended = w.ended;
    }

only_first : (s : State) (job : Job) (d : Subscription) (ds : List Subscription) (n : ℕ)
    → first_entries s job d n ++ entries_of s job ds n ≡ entries_of s job (d ∷ ds) n
only_first s job d ds n = by (nat_eq n d.conn) refl (nat_eq d.conn n) refl
  where
    by : (b : Bool) → nat_eq n d.conn ≡ b → (c : Bool) → nat_eq d.conn n ≡ c
        → cond b (owed s job d ∷ []) [] ++ entries_of s job ds n
        ≡ map (owed s job) (cond c (d ∷ filter (is_of n) ds) (filter (is_of n) ds))
    by true e true f = refl
    by true e false f = absurd (eq_false d.conn n f (sym (eq_true n d.conn e)))
    by false e true f = absurd (eq_false n d.conn e (sym (eq_true d.conn n f)))
    by false e false f = refl

first_here : (s : State) (job : Job) (d : Subscription) (ds : List Subscription)
    → entries_of s job (d ∷ ds) d.conn ≡ owed s job d ∷ entries_of s job ds d.conn
first_here s job d ds =
    ap (λ b. map (owed s job) (cond b (d ∷ filter (is_of d.conn) ds) (filter (is_of d.conn) ds)))
    (true_eq d.conn d.conn refl)

-- one is served
first_served : (s : State) (job : Job) (d : Subscription) (ds : List Subscription) (w : Walk)
    → AreApart (numbers_of w.clients) → IsServed s job (d ∷ ds) w.clients d
    → walk_after_put s job w d ≡ first_after s job d w
first_served s job d ds w apart is =
    ap (λ b. cond b (cond (fits (client_at d.conn w.clients) (owed s job d)) put shut) w) one.takes_events
    ∙ ap (λ b. cond b put shut) one.fits
    ∙ (λ i. record {
      clients = change_to_one d.conn (owed s job d ∷ []) w.clients apart i;
      given = w.given ++ d ∷ [];
      shut = w.shut;
      ended = w.ended ++ cond (is.unspent i) (d.serial ∷ []) [];
    })
    ∙ (λ i. record (first_after s job d w) { ended = append_nil w.ended i })
  where
    put : Walk
    put = walk_with_entry (owed s job d) d w

    shut : Walk
    shut = walk_with_shut s.subs d.conn w

    one : TakesOne (client_at d.conn w.clients) (owed s job d)
    one =
        takes_one d.conn w.clients (entries_of s job (d ∷ ds)) (owed s job d) (entries_of s job ds d.conn)
        (first_here s job d ds) is.room

-- the others are behind it
others_served : (s : State) (job : Job) (d : Subscription) (ds : List Subscription) (w : Walk)
    → Each (λ sub. IsServed s job (d ∷ ds) w.clients sub) (d ∷ ds)
    → Each (λ sub. IsServed s job ds (map (client_with (first_entries s job d)) w.clients) sub) ds
others_served s job d ds w each sub there =
    let was : IsServed s job (d ∷ ds) w.clients sub = each sub (inr there) in
    record {
      unspent = was.unspent;
      room =
          still_takes (first_entries s job d) (entries_of s job ds) sub.conn w.clients
          (takes_same (client_at sub.conn w.clients) (entries_of s job (d ∷ ds))
          (λ n. first_entries s job d n ++ entries_of s job ds n) (λ n. sym (only_first s job d ds n)) was.room);
    }

all_served : (s : State) (job : Job) (subs : List Subscription) (w : Walk) → AreApart (numbers_of w.clients)
    → Each (λ sub. IsServed s job subs w.clients sub) subs → walk s job subs w ≡ served s job subs w
all_served s job [] w apart each =
    λ i. record {
      clients = sym (with_none w.clients) i;
      given = sym (append_nil w.given) i;
      shut = w.shut;
      ended = w.ended;
    }
all_served s job (d ∷ ds) w apart each =
    ap (walk s job ds) (first_served s job d ds w apart (each d (inl refl)))
    ∙ all_served s job ds (first_after s job d w) (apart_with (first_entries s job d) w.clients apart)
    (others_served s job d ds w each)
    ∙ (λ i. record {
      clients =
          (with_twice (first_entries s job d) (entries_of s job ds) w.clients
          ∙ with_same (λ n. first_entries s job d n ++ entries_of s job ds n) (entries_of s job (d ∷ ds))
          (only_first s job d ds) w.clients) i;
      given = append_assoc w.given (d ∷ []) ds i;
      shut = w.shut;
      ended = w.ended;
    })

-- ---- a job

-- what a job puts for each connection
abbrev pub put_by : State → Job → ℕ → List Written
put_by s job conn = job_entries s conn job

-- whoever gets the job is served
pub record IsReady (s : State) (job : Job) (sub : Subscription) : Type 0 where
  pub unspent : reaches sub.max (sub.delivered + 1) ≡ false
  pub room : Takes (client_at sub.conn s.clients) (put_by s job)

abbrev pub AreReady : State → Job → Type 0
AreReady s job = Each (λ sub. is_due job sub ≡ true → IsReady s job sub) s.subs

-- the walk of the whole job
abbrev pub job_walk : State → Job → Walk
job_walk s job =
    record {
      clients = map (client_with (put_by s job)) s.clients;
      given = filter (is_due job) s.subs;
      shut = [];
      ended = [];
    }

job_served : (s : State) (job : Job) → AreApart (numbers_of s.clients) → AreReady s job
    → whole_walk s job ≡ job_walk s job
job_served s job apart ready =
    all_served s job (filter (is_due job) s.subs) (first_step s.clients) apart
    (λ sub there. let found = in_filter (is_due job) s.subs sub there in
    let is : IsReady s job sub = ready sub found.0 found.1 in
    record { unspent = is.unspent; room = is.room })

-- the shard with the job delivered
abbrev pub with_delivery : State → Job → State
with_delivery s job =
    record s {
      finished = s.finished + 1;
      hand = None;
      next_index = 0;
      clients = map (client_with (put_by s job)) s.clients;
      subs = map (recounted (with_job job)) s.subs;
    }

job_after : (s : State) (job : Job) → AreApart (numbers_of s.clients) → AreApart (serials_of s.subs)
    → job.turn ≡ s.finished + 1 → AreReady s job → after_job s job ≡ with_delivery s job
job_after s job apart serials turn ready =
    ap (λ (w : Walk). done_with (after_walk (record s { hand = Some job; next_index = 0 }) w) (Some job))
    (job_served s job apart ready)
    ∙ (λ i. record s {
      finished = turn i;
      hand = None;
      next_index = 0;
      clients = map (client_with (put_by s job)) s.clients;
      subs = (none_closed (map (sub_with_count (serials_of (filter (is_due job) s.subs))) s.subs)
          ∙ job_counted job s.subs serials) i;
      deltas = append_nil s.deltas i;
    })

job_worked : (s : State) (job : Job) → s.hand ≡ None → job.turn ≡ s.finished + 1 → job.queues ≡ []
    → AreApart (numbers_of s.clients) → AreReady s job → IsWorked s job (placed_by s job)
job_worked s job hand turn unnamed apart ready = record {
  begun = record {
    cause =
        ap (λ (h : Option Job). if is_some h then Some JobInHand
        else (if nat_eq job.turn (s.finished + 1) then None else Some WrongTurn)) hand
        ∙ ap (λ b. if b then None else Some WrongTurn) (true_eq job.turn (s.finished + 1) turn);
    asked = tt;
    answered = sym (ap (begin_answer s job) (job_served s job apart ready));
    after = refl;
  };
  ended = record {
    cause = ap (λ (names : List (List ℕ)). if nat_eq 0 (length names) then None else Some NotAllTried) unnamed;
    asked = tt;
    answered = refl;
    after = refl;
  };
}

-- ---- what a delivery leaves as it was

placed_kept : (s : State) (job j : Job) → placed_by (with_delivery s job) j ≡ placed_by s j
placed_kept s job j =
    ap (λ (l : List Subscription). map placed l) (due_recounted (with_job job) j s.subs)
    ∙ map_map (recounted (with_job job)) placed due
    ∙ (λ i. map (λ x. placed_for s.shard (option_with (put_by s job) x.conn s.clients i) j None x) due)
  where
    placed : Subscription → Placed
    placed = owed_placed s.shard (with_delivery s job).clients j None

    due : List Subscription
    due = filter (is_due j) s.subs

entries_kept : (s : State) (job : Job) (conn : ℕ) (j : Job)
    → job_entries (with_delivery s job) conn j ≡ job_entries s conn j
entries_kept s job conn j =
    ap (λ (l : List Subscription). map entry (filter (is_of conn) l)) (due_recounted (with_job job) j s.subs)
    ∙ ap (λ (l : List Subscription). map entry l)
    (map_filter (recounted (with_job job)) (is_of conn) (is_of conn) (filter (is_due j) s.subs) (λ x. refl))
    ∙ map_map (recounted (with_job job)) entry due
    ∙ (λ i. map (λ x. due_entry s.shard (option_with (put_by s job) x.conn s.clients i) j None x) due)
  where
    entry : Subscription → Written
    entry = owed_entry s.shard (with_delivery s job).clients j None

    due : List Subscription
    due = filter (is_of conn) (filter (is_due j) s.subs)

run_kept : (s : State) (job : Job) (jobs : List Job) (conn : ℕ)
    → run_entries (with_delivery s job) jobs conn ≡ run_entries s jobs conn
run_kept s job jobs conn = λ i. flat_map (λ j. entries_kept s job conn j i) jobs

-- the job's entries, and those of the others behind them
job_then_run : (s : State) (job : Job) (jobs : List Job) (conn : ℕ)
    → put_by s job conn ++ run_entries (with_delivery s job) jobs conn ≡ run_entries s (job ∷ jobs) conn
job_then_run s job jobs conn = ap (λ (l : List Written). put_by s job conn ++ l) (run_kept s job jobs conn)

-- ---- a run

-- the first job of a run is ready
first_ready : (s : State) (job : Job) (jobs : List Job) → CanRun s (job ∷ jobs) → AreReady s job
first_ready s job jobs can sub there due =
    let is : IsReceiver s (job ∷ jobs) sub = can.receivers job (inl refl) sub there due in
    let one : one_if (is_due job sub) ≡ 1 = ap one_if due in
    record {
      unspent =
          fewer_reach sub.max (sub.delivered + 1) (sub.delivered + times_due (job ∷ jobs) sub)
          (omega (arith, one, times_first job jobs sub)) is.unspent;
      room = takes_first (client_at sub.conn s.clients) (put_by s job) (run_entries s jobs) is.room;
    }

-- and behind it whoever gets others
still_receives : (s : State) (job : Job) (jobs : List Job) (x : Subscription) → IsReceiver s (job ∷ jobs) x
    → IsReceiver (with_delivery s job) jobs (recounted (with_job job) x)
still_receives s job jobs x was = record {
  unspent = ap (λ (n : ℕ). reaches x.max n) (count_on job jobs x) ∙ was.unspent;
  room =
      still_takes (put_by s job) (run_entries (with_delivery s job) jobs) x.conn s.clients
      (takes_same (client_at x.conn s.clients) (run_entries s (job ∷ jobs))
      (λ n. put_by s job n ++ run_entries (with_delivery s job) jobs n)
      (λ n. sym (job_then_run s job jobs n)) was.room);
}

rest_can : (s : State) (job : Job) (jobs : List Job) → CanRun s (job ∷ jobs) → CanRun (with_delivery s job) jobs
rest_can s job jobs can = record {
  hand = refl;
  turns =
      subst (λ (last : ℕ). Turns (s.finished + 1) jobs last) (omega arith)
      (subst (λ (first : ℕ). Turns first jobs (s.finished + suc (length jobs))) (omega arith) can.turns.1);
  unnamed = λ j there. can.unnamed j (inr there);
  numbers = apart_with (put_by s job) s.clients can.numbers;
  serials = subst AreApart (sym (serials_recounted (with_job job) s.subs)) can.serials;
  receivers = λ j there sub opened due.
      let found = in_map (recounted (with_job job)) s.subs sub opened in
      let gets : is_due j (recounted (with_job job) found.0) ≡ true = ap (is_due j) (sym found.2) ∙ due in
      let was : IsReceiver s (job ∷ jobs) found.0 = can.receivers j (inr there) found.0 found.1 gets in
      subst (IsReceiver (with_delivery s job) jobs) (sym found.2) (still_receives s job jobs found.0 was);
}

index_then : (jobs : List Job) → index_after 0 jobs ≡ 0
index_then [] = refl
index_then (job ∷ jobs) = refl

-- the first job delivered, and then the others, is the run delivered
one_and_rest : (s : State) (job : Job) (jobs : List Job) → s.hand ≡ None
    → delivered_run (with_delivery s job) jobs ≡ delivered_run s (job ∷ jobs)
one_and_rest s job jobs hand =
    let finished : (s.finished + 1) + length jobs ≡ s.finished + suc (length jobs) = omega arith in
    λ i. record s {
      finished = finished i;
      hand = sym hand i;
      next_index = index_then jobs i;
      clients =
          (with_twice (put_by s job) (run_entries (with_delivery s job) jobs) s.clients
          ∙ with_same (λ n. put_by s job n ++ run_entries (with_delivery s job) jobs n) (run_entries s (job ∷ jobs))
          (job_then_run s job jobs) s.clients) i;
      subs = run_counted job jobs s.subs i;
    }

none_delivered : (s : State) → delivered_run s [] ≡ s
none_delivered s =
    let finished : s.finished + 0 ≡ s.finished = omega arith in
    λ i. record s { finished = finished i; clients = with_none s.clients i; subs = no_jobs_counted s.subs i }

run_worked : (before s : State) (jobs : List Job) → CanRun s jobs
    → ((job : Job) → placed_by s job ≡ placed_by before job) → AreWorked before s jobs (delivered_run s jobs)
run_worked before s [] can same = none_delivered s
run_worked before s (job ∷ jobs) can same =
    let turn : job.turn ≡ s.finished + 1 = let next = can.turns.0 in omega arith in
    let ready = first_ready s job jobs can in (
      subst (IsWorked s job) (same job)
          (job_worked s job can.hand turn (can.unnamed job (inl refl)) can.numbers ready),
      subst (λ (mid : State). AreWorked before mid jobs (delivered_run s (job ∷ jobs)))
          (sym (job_after s job can.numbers can.serials turn ready))
          (subst (λ (to : State). AreWorked before (with_delivery s job) jobs to) (one_and_rest s job jobs can.hand)
          (run_worked before (with_delivery s job) jobs (rest_can s job jobs can)
          (λ j. placed_kept s job j ∙ same j))),
    )

pub runs_are_worked : RunsAreWorked
runs_are_worked s jobs can = run_worked s s jobs can (λ job. refl)
