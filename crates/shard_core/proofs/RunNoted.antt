-- A run delivered to receivers that are noted.
use Rattle.std.proofs.Common.{◌≡◌, ℕ, Bool, true, false, cond, List, [], ◌∷◌, ◌++◌, map, filter}
use Rattle.std.proofs.Common.{Option, Some, None, refl, sym, ap, ◌∙◌}
use Rattle.std.specs.Prelude.{◌&&◌, codes, drop, is_some, if◌then◌else◌}
use Rattle.list_laws.specs.Lists.{In, Each}
use Rattle.list_laws.proofs.Changes.{append_assoc, in_filter, map_filter, map_map}
use Rattle.list_laws.proofs.Tests.{eq_true}
use Rattle.client_frames.specs.Messages.{operation, before_sid, behind_sid, parts_with, line_around}
use Rattle.client_frames.specs.Messages.{head_bytes, tails_of}
use Rattle.outbox.specs.Bytes.{bytes_of, line_end}
use Rattle.outbox.specs.Views.{Written, spelt_entry}
use Rattle.outbox.specs.declared.entries.Mode.TheVariants.{Plain}
use Rattle.sub_table.specs.Subscriptions.{is_of, gets}
use Rattle.sub_table.specs.declared.Subscription.{Subscription}
use Rattle.subj.specs.Messages.{Content, body_bytes}
use Rattle.subj.specs.declared.jobs.Job.{Job}
use Rattle.shard_core.specs.Closings.{id_of}
use Rattle.shard_core.specs.Owed.{due_entry, is_due, is_plain, is_permitted}
use Rattle.shard_core.specs.Received.{Received, receiver_of}
use Rattle.shard_core.specs.ReceiverSteps.{entry_for, is_due_to}
use Rattle.shard_core.specs.Shards.{State, Client, takes_headers}
use Rattle.shard_core.specs.RunReceivers.{clients_with_entries}
use Rattle.shard_core.specs.Runs.{run_entries}
use Rattle.shard_core.specs.RunAlike.{IsLike, entries_for_sub, receivers_at, clients_by_receivers}
use Rattle.shard_core.specs.RunNoted.{noted_receivers, is_noted_of, noted_at, noted_entry, entries_for_noted}
use Rattle.shard_core.specs.RunNoted.{entries_for_all_noted, clients_by_noted, RunsGoToNoted}
use Rattle.shard_core.proofs.RunAlike.{entries_alike, flat_same, runs_go_by_receivers}
use Rattle.shard_core.proofs.RunCounts.{map_same_in}
use Rattle.shard_core.proofs.Runs.{owed}

-- ---- who is noted

-- a plain one that may get the job, whatever its pattern is
abbrev may_get : Job → Subscription → Bool
may_get job sub = is_plain sub && is_permitted job sub

due_of_matching : (job : Job) (subs : List Subscription)
    → filter (may_get job) (filter (gets job.message.subject) subs) ≡ filter (is_due job) subs
due_of_matching job [] = refl
due_of_matching job (x ∷ xs) =
    first (gets job.message.subject x)
    ∙ both (gets job.message.subject x) (is_plain x) (is_permitted job x)
    ∙ ap (λ l. cond (is_due job x) (x ∷ l) l) (due_of_matching job xs)
  where
    matching : List Subscription
    matching = filter (gets job.message.subject) xs

    behind : List Subscription
    behind = filter (may_get job) matching

    first : (b : Bool)
        → filter (may_get job) (cond b (x ∷ matching) matching)
        ≡ cond b (cond (may_get job x) (x ∷ behind) behind) behind
    first true = refl
    first false = refl

    both : (g p m : Bool) → cond g (cond (p && m) (x ∷ behind) behind) behind ≡ cond (p && (g && m)) (x ∷ behind) behind
    both true p m = refl
    both false true m = refl
    both false false m = refl

-- they are noted of those that get the job
pub noted_of_due : (subs : List Subscription) (job : Job)
    → noted_receivers subs job ≡ map (receiver_of job.message.subject) (filter (is_due job) subs)
noted_of_due subs job =
    map_filter (receiver_of job.message.subject) (may_get job) (is_due_to job)
    (filter (gets job.message.subject) subs) (λ x. refl)
    ∙ ap (map (receiver_of job.message.subject)) (due_of_matching job subs)

noted_here : (s : State) (job : Job) (conn : ℕ)
    → noted_at s job conn ≡ map (receiver_of job.message.subject) (receivers_at s job conn)
noted_here s job conn =
    ap (filter (is_noted_of conn)) (noted_of_due s.subs job)
    ∙ map_filter (receiver_of job.message.subject) (is_of conn) (is_noted_of conn) (filter (is_due job) s.subs)
    (λ x. refl)

-- ---- the bytes of an entry in two parts

-- in front of this header block, or of none
abbrev head_with : List ℕ → Option (List ℕ) → List ℕ
head_with head headers = if is_some headers then head else drop 1 head

-- both parts are the line and what stands behind it
spelt_with : (content : Content) (sid : List ℕ) (headers : Option (List ℕ))
    → head_with (head_bytes content.subject sid) headers
    ++ (behind_sid content headers ++ (line_end ++ (body_bytes headers content.payload ++ line_end)))
    ≡ bytes_of (line_around (parts_with content headers) sid) (Some (body_bytes headers content.payload))
spelt_with content sid headers =
    ap (λ l. l ++ (behind ++ rest)) (first headers ∙ front)
    ∙ append_assoc before sid (behind ++ rest)
    ∙ ap (λ l. before ++ l) (sym (append_assoc sid behind rest))
    ∙ sym (append_assoc before (sid ++ behind) rest)
    ∙ sym (append_assoc (before ++ (sid ++ behind)) line_end (body ++ line_end))
  where
    before : List ℕ
    before = before_sid content headers

    behind : List ℕ
    behind = behind_sid content headers

    body : List ℕ
    body = body_bytes headers content.payload

    rest : List ℕ
    rest = line_end ++ (body ++ line_end)

    first : (h : Option (List ℕ))
        → head_with (head_bytes content.subject sid) h ≡ operation h ++ (content.subject ++ (codes " " ++ sid))
    first None = refl
    first (Some block) = refl

    front : operation headers ++ (content.subject ++ (codes " " ++ sid)) ≡ before ++ sid
    front =
        ap (λ l. operation headers ++ l) (sym (append_assoc content.subject (codes " ") sid))
        ∙ sym (append_assoc (operation headers) (content.subject ++ codes " ") sid)

spelt_due : (shard : ℕ) (job : Job) (option : Bool) (sub : Subscription)
    → entry_for shard job.id (tails_of job.message) (receiver_of job.message.subject sub) option
    ≡ due_entry shard option job None sub
spelt_due shard job true sub =
    ap (spelt_entry job.id (id_of shard sub.serial) Plain) (spelt_with job.message sub.sid job.message.headers)
spelt_due shard job false sub =
    ap (spelt_entry job.id (id_of shard sub.serial) Plain) (spelt_with job.message sub.sid None)

-- ---- what they get

-- an entry in two parts is that of the subscription
spelt_alike : (shard : ℕ) (option : Bool) (job other : Job) (sub : Subscription) → IsLike job other
    → noted_entry shard option (receiver_of job.message.subject sub) other ≡ due_entry shard option other None sub
spelt_alike shard option job other sub like =
    (λ i. noted_entry shard option (receiver_of (sym like.subject i) sub) other) ∙ spelt_due shard other option sub

job_for_noted : (s : State) (job other : Job) (conn : ℕ) → IsLike job other
    → map (owed s other) (receivers_at s job conn)
    ≡ map (λ r. noted_entry s.shard (takes_headers conn s.clients) r other) (noted_at s job conn)
job_for_noted s job other conn like =
    map_same_in (owed s other) (λ sub. entry (receiver_of job.message.subject sub)) (receivers_at s job conn) same
    ∙ sym (map_map (receiver_of job.message.subject) entry (receivers_at s job conn))
    ∙ ap (map entry) (sym (noted_here s job conn))
  where
    option : Bool
    option = takes_headers conn s.clients

    entry : Received → Written
    entry r = noted_entry s.shard option r other

    same : (sub : Subscription) → In sub (receivers_at s job conn)
        → owed s other sub ≡ entry (receiver_of job.message.subject sub)
    same sub there =
        let inside = in_filter (is_of conn) (filter (is_due job) s.subs) sub there in
        let its : sub.conn ≡ conn = eq_true sub.conn conn inside.1 in
        ap (λ n. due_entry s.shard (takes_headers n s.clients) other None sub) its
        ∙ sym (spelt_alike s.shard option job other sub like)

noted_alike : (s : State) (job : Job) (jobs : List Job) (conn : ℕ) → Each (IsLike job) jobs
    → run_entries s jobs conn
    ≡ entries_for_all_noted s.shard (takes_headers conn s.clients) jobs (noted_at s job conn)
noted_alike s job jobs conn alike =
    entries_alike s job jobs conn alike
    ∙ flat_same (λ other. map (owed s other) (receivers_at s job conn))
    (λ other. map (λ r. noted_entry s.shard (takes_headers conn s.clients) r other) (noted_at s job conn)) jobs
    (λ other there. job_for_noted s job other conn (alike other there))

-- ---- one after the other

pub one_for_noted : (shard : ℕ) (job : Job) (jobs : List Job) (sub : Subscription) (now : List Client)
    → Each (IsLike job) jobs
    → entries_for_noted shard (takes_headers sub.conn now) jobs (receiver_of job.message.subject sub)
    ≡ entries_for_sub shard now jobs sub
one_for_noted shard job jobs sub now alike =
    map_same_in (noted_entry shard (takes_headers sub.conn now) (receiver_of job.message.subject sub))
    (λ other. due_entry shard (takes_headers sub.conn now) other None sub) jobs
    (λ other there. spelt_alike shard (takes_headers sub.conn now) job other sub (alike other there))

by_noted : (shard : ℕ) (job : Job) (jobs : List Job) (receivers : List Subscription) (now : List Client)
    → Each (IsLike job) jobs
    → clients_by_noted shard jobs (map (receiver_of job.message.subject) receivers) now
    ≡ clients_by_receivers shard jobs receivers now
by_noted shard job jobs [] now alike = refl
by_noted shard job jobs (sub ∷ receivers) now alike =
    ap (λ (l : List Written). clients_by_noted shard jobs (map (receiver_of job.message.subject) receivers)
    (clients_with_entries l sub.conn now)) (one_for_noted shard job jobs sub now alike)
    ∙ by_noted shard job jobs receivers
    (clients_with_entries (entries_for_sub shard now jobs sub) sub.conn now) alike

pub runs_go_to_noted : RunsGoToNoted
runs_go_to_noted s job jobs alike = record {
  entries = λ conn. noted_alike s job jobs conn alike;
  clients = λ numbers apart.
      ap (λ (rs : List Received). clients_by_noted s.shard jobs rs s.clients) (noted_of_due s.subs job)
      ∙ by_noted s.shard job jobs (filter (is_due job) s.subs) s.clients alike
      ∙ runs_go_by_receivers s job jobs alike numbers apart;
}
