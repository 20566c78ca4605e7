-- What the server of a pipe says to an ask, by the calls that serve it.
use Rattle.std.proofs.Common.{◌≡◌, ℕ, Bool, true, false, cond, not, nat_le, nat_lt, List, [], ◌∷◌, ◌++◌, length, Option, Some, None, Ok, Err, refl, ap, sym, ◌∙◌, subst, append-nil}
use Rattle.std.specs.Prelude.{is_some}
use Rattle.std.proofs.lemmas.Option.{none-some, same_Some}
use Rattle.subj.specs.declared.jobs.Job.{Job}
use Rattle.subj.specs.declared.keys.Key.{Key}
use Rattle.subj.specs.declared.limits.TheConstants.{MAX_COUNTER, MAX_QUEUE_NAMES, MAX_SERIAL}
use Rattle.subj.specs.declared.messages.Pub.{Pub}
use Rattle.client_frames.specs.ErrTexts.{err_line}
use Rattle.client_frames.specs.Frames.{reply_line}
use Rattle.client_frames.specs.declared.err_texts.ErrText.{ErrText}
use Rattle.client_frames.specs.declared.err_texts.ErrText.TheVariants as text
use Rattle.client_frames.specs.declared.server_frames.ReplyFrame.{ReplyFrame}
use Rattle.client_conn.specs.declared.ask.Refusal.{Refusal}
use Rattle.client_conn.specs.declared.ask.Refusal.TheVariants as refusal
use Rattle.outbox.specs.Views.{reply_entry}
use Rattle.shard_core.specs.declared.faults.ShardFault.{ShardFault}
use Rattle.shard_core.specs.declared.faults.ShardFault.TheVariants.{TooManySubs, Spent}
use Rattle.shard_core.specs.Owed.{whole_walk}
use Rattle.shard_core.specs.ShardEvents.{Event, Subscribe, Unsubscribe, Reply, SetHeaders, Shut, Take, Collect}
use Rattle.shard_core.specs.ShardSteps.{sub_called, is_full, new_sub, answer_fits, shard_refusal, shard_after}
use Rattle.shard_core.specs.Shards.{State, is_known}
use Rattle.node_core.specs.Served as of_node
use Rattle.mesh_pipe.specs.declared.pipe_server.Outcome.{Outcome}
use Rattle.mesh_pipe.specs.declared.pipe_server.Outcome.TheVariants.{Answered, Closed}
use Rattle.mesh_pipe.specs.declared.pipe_server.PipeServer.{PipeServer}
use Rattle.mesh_pipe.specs.PipeText.{Served, Output, at_first, at_rest, served_by, output_of, error_told, after_event, output_of_subscribe, opened_or_not, opening_refused, job_of, names_wanted, after_job, output_of_publish}
use Rattle.mesh_pipe.specs.PipeServing.{IsServing, Steps, HasIssued, HasWorkedOff, shard_in, waiting_in, all_entries, waiting_bytes, placing_refused, has_any}
use Rattle.client_refusals.specs.Refusals.{refusal_of_shard}
use Rattle.mesh_pipe.specs.PipeStates.{served_state, outcome_by, IsReady, IsNew, HasServed, IsTold}
use Rattle.mesh_pipe.proofs.Server.Outputs.{known_there, IsAlone, IsSettled, IsQuiet, IsStill, all_taken, behind_take, taken_served, output_text, output_closed, rests, alone_at_rest, settled_at_rest, replied_alone, behind_shut, subscribe_quiet, unsubscribe_quiet, quiet_alone, quiet_settled, chosen_alone, chosen_settled, worked_still, worked_done}

-- ---- the server behind an ask

pub record Rests {R : Type 0} (server : PipeServer R) (t : State) : Type 0 where
  pub ready : IsReady server
  pub same : served_state server ≡ served_by t

rests_at : {R : Type 0} (server : PipeServer R) (t : State)
    → IsServing server.node
    → server.conn ≡ 1
    → waiting_in server.node ≡ []
    → shard_in server.node ≡ t
    → IsAlone t [] false
    → IsSettled t
    → Rests server t
rests_at server t serving conn waiting is alone settled = record {
  ready = record {
    serving = serving;
    conn = conn;
    shard = is ∙ rests t alone settled ∙ ap (λ (u : State). at_rest (served_by u)) (sym is);
    waiting = waiting;
  };
  same = ap served_by is;
}

alone_of : {R : Type 0} (server : PipeServer R) → IsReady server → IsAlone (shard_in server.node) [] false
alone_of server ready = alone_at_rest (shard_in server.node) (served_state server) ready.shard

settled_of : {R : Type 0} (server : PipeServer R) → IsReady server → IsSettled (shard_in server.node)
settled_of server ready = settled_at_rest (shard_in server.node) (served_state server) ready.shard

-- what is put by an event at rest
output_at : {R : Type 0} (server : PipeServer R) (event : Event)
    → IsReady server
    → after_event event (served_state server) ≡ output_of (shard_after (shard_in server.node) event)
output_at server event ready = ap (λ (t : State). output_of (shard_after t event)) (sym ready.shard)

-- ---- the start

pub is_new : {R : Type 0} (server : PipeServer R)
    → IsServing server.node
    → shard_in server.node ≡ at_rest at_first
    → waiting_in server.node ≡ []
    → server.conn ≡ 1
    → server.output.items ≡ []
    → IsNew server
is_new server serving shard waiting conn empty = record {
  ready = record {
    serving = serving;
    conn = conn;
    shard = shard ∙ ap (λ (u : State). at_rest (served_by u)) (sym shard);
    waiting = waiting;
  };
  same = ap served_by shard;
  empty = empty;
}

-- ---- lines

pub reply_served : {R : Type 0} (old new : PipeServer R) (mid : of_node.Served) (frame : ReplyFrame) (shut : Bool)
    → IsReady old
    → Steps old.node (Reply 1 frame) mid
    → shut ≡ not (answer_fits (shard_in old.node) 1 (reply_line frame))
    → Steps mid (Take 1 all_entries) new.node
    → new.output.items ≡ old.output.items ++ waiting_bytes (shard_in mid)
    → new.conn ≡ old.conn
    → HasServed (outcome_by shut) (after_event (Reply 1 frame) (served_state old)) old new
reply_served old new mid frame shut ready replies is takes put conn = go shut is
  where
    t : State
    t = shard_in old.node

    u : State
    u = shard_after t (Reply 1 frame)

    fit : Bool
    fit = answer_fits t 1 (reply_line frame)

    said : Output
    said = after_event (Reply 1 frame) (served_state old)

    said_is : said ≡ output_of u
    said_is = output_at old (Reply 1 frame) ready

    text : new.output.items ≡ old.output.items ++ said.text
    text =
        let replied = replied_alone t (reply_line frame) fit (alone_of old ready) in
        put
        ∙ ap (λ (v : State). old.output.items ++ waiting_bytes v) replies.shard
        ∙ ap (λ l. old.output.items ++ l)
        (all_taken u replied.entries (not fit) replied.alone ∙ sym (ap (λ (r : Output). r.text) said_is))

    closed : said.closed ≡ not fit
    closed =
        let replied = replied_alone t (reply_line frame) fit (alone_of old ready) in
        ap (λ (r : Output). r.closed) said_is ∙ output_closed u replied.entries (not fit) replied.alone

    go : (b : Bool) → b ≡ not fit → HasServed (outcome_by b) said old new
    go true e = (closed ∙ sym e, text)
    go false e =
        let replied = replied_alone t (reply_line frame) fit (alone_of old ready) in
        let alone = behind_take u replied.entries false (subst (IsAlone u replied.entries) (sym e) replied.alone) in
        let settled = replied.settled (sym e) (settled_of old ready) in
        let shard : shard_in new.node ≡ shard_after u (Take 1 all_entries) =
        takes.shard ∙ ap (λ (v : State). shard_after v (Take 1 all_entries)) replies.shard in
        let at = rests_at new (shard_after u (Take 1 all_entries)) takes.serving (conn ∙ ready.conn)
        (takes.waiting ∙ replies.waiting ∙ ready.waiting) shard alone (record {
          hand = settled.hand;
          index = settled.index;
          deltas = settled.deltas;
          draining = settled.draining;
        }) in (
          closed ∙ sym e,
          record {
            text = text;
            ready = at.ready;
            same = at.same ∙ taken_served u ∙ sym (ap (λ (r : Output). r.served) said_is);
          },
        )

pub shut_served : {R : Type 0} (old new : PipeServer R) (mid : of_node.Served) (why : ErrText)
    → IsReady old
    → Steps old.node (Shut 1 why) mid
    → new.output.items ≡ old.output.items ++ waiting_bytes (shard_in mid)
    → HasServed Closed (after_event (Shut 1 why) (served_state old)) old new
shut_served old new mid why ready shuts put =
    let alone = behind_shut (shard_in old.node) (err_line why) (alone_of old ready) in
    let said_is = output_at old (Shut 1 why) ready in (
      ap (λ (r : Output). r.closed) said_is
          ∙ output_closed (shard_after (shard_in old.node) (Shut 1 why)) (reply_entry (err_line why) ∷ []) true alone,
      put ∙ ap (λ (v : State). old.output.items ++ waiting_bytes v) shuts.shard
          ∙ ap (λ l. old.output.items ++ l)
          (all_taken (shard_after (shard_in old.node) (Shut 1 why)) (reply_entry (err_line why) ∷ []) true alone
          ∙ sym (ap (λ (r : Output). r.text) said_is)),
    )

-- ---- what puts nothing

-- an event behind which nothing waits, and the server rests
silent_served : {R : Type 0} (old new : PipeServer R) (event : Event)
    → IsReady old
    → IsAlone (shard_after (shard_in old.node) event) [] false
    → Rests new (shard_after (shard_in old.node) event)
    → new.output.items ≡ old.output.items
    → HasServed (Answered (Ok tt)) (after_event event (served_state old)) old new
silent_served old new event ready alone at put =
    let u = shard_after (shard_in old.node) event in
    let said_is = output_at old event ready in (
      ap (λ (r : Output). r.closed) said_is ∙ output_closed u [] false alone,
      record {
        text =
            put
            ∙ sym (append-nil old.output.items)
            ∙ ap (λ l. old.output.items ++ l)
            (sym (ap (λ (r : Output). r.text) said_is ∙ output_text u [] false alone));
        ready = at.ready;
        same = at.same ∙ sym (ap (λ (r : Output). r.served) said_is);
      },
    )

pub headers_served : {R : Type 0} (old new : PipeServer R) (on : Bool)
    → IsReady old
    → Steps old.node (SetHeaders 1 on) new.node
    → new.output.items ≡ old.output.items
    → new.conn ≡ old.conn
    → HasServed (Answered (Ok tt)) (after_event (SetHeaders 1 on) (served_state old)) old new
headers_served old new on ready steps put conn =
    let t = shard_in old.node in
    let alone = chosen_alone t on (alone_of old ready) in
    let settled = chosen_settled t on (settled_of old ready) in
    silent_served old new (SetHeaders 1 on) ready alone
    (rests_at new (shard_after t (SetHeaders 1 on)) steps.serving (conn ∙ ready.conn) (steps.waiting ∙ ready.waiting)
    steps.shard alone settled)
    put

-- an event that leaves the connection, and then a collect
quiet_served : {R : Type 0} (old new : PipeServer R) (mid : of_node.Served) (event : Event)
    → IsReady old
    → IsQuiet (shard_in old.node) (shard_after (shard_in old.node) event)
    → Steps old.node event mid
    → waiting_in mid ≡ waiting_in old.node
    → Steps mid Collect new.node
    → new.output.items ≡ old.output.items
    → new.conn ≡ old.conn
    → HasServed (Answered (Ok tt)) (after_event event (served_state old)) old new
quiet_served old new mid event ready quiet steps waiting collects put conn =
    let t = shard_in old.node in
    let u = shard_after t event in
    let alone = quiet_alone t u quiet (alone_of old ready) in
    let shard : shard_in new.node ≡ shard_after u Collect =
    collects.shard ∙ ap (λ (v : State). shard_after v Collect) steps.shard in
    let at = rests_at new (shard_after u Collect) collects.serving (conn ∙ ready.conn)
    (collects.waiting ∙ waiting ∙ ready.waiting) shard
    (record {
      option = alone.option;
      shard = alone.shard;
      shards = alone.shards;
      next = alone.next;
      clients = alone.clients;
      few = alone.few;
    })
    (quiet_settled t u quiet (settled_of old ready)) in
    silent_served old new event ready alone (record { ready = at.ready; same = at.same }) put

pub unsubscribe_served : {R : Type 0} (old new : PipeServer R) (mid : of_node.Served) (sid : List ℕ) (max : Option ℕ)
    → IsReady old
    → Steps old.node (Unsubscribe 1 sid max) mid
    → Steps mid Collect new.node
    → new.output.items ≡ old.output.items
    → new.conn ≡ old.conn
    → HasServed (Answered (Ok tt)) (after_event (Unsubscribe 1 sid max) (served_state old)) old new
unsubscribe_served old new mid sid max ready steps collects put conn =
    quiet_served old new mid (Unsubscribe 1 sid max) ready
    (unsubscribe_quiet (shard_in old.node) max (sub_called 1 sid (shard_in old.node).subs)) steps steps.waiting collects
    put conn

pub subscribe_served : {R : Type 0} (old new : PipeServer R) (mid : of_node.Served) (key : Key) (sid : List ℕ)
    → IsReady old
    → shard_refusal (shard_in old.node) (Subscribe 1 key sid) ≡ None
    → Steps old.node (Subscribe 1 key sid) mid
    → Steps mid Collect new.node
    → new.output.items ≡ old.output.items
    → new.conn ≡ old.conn
    → HasServed (Answered (Ok tt)) (output_of_subscribe key sid (served_state old)) old new
subscribe_served old new mid key sid ready free steps collects put conn =
    let t = shard_in old.node in
    let done = quiet_served old new mid (Subscribe 1 key sid) ready
    (subscribe_quiet t (new_sub t 1 key sid) (sub_called 1 sid t.subs)) steps steps.waiting collects put conn in
    let cause : shard_refusal (at_rest (served_state old)) (Subscribe 1 key sid) ≡ None =
    ap (λ (u : State). shard_refusal u (Subscribe 1 key sid)) (sym ready.shard) ∙ free in
    subst (λ (said : Output). HasServed (Answered (Ok tt)) said old new)
    (sym (ap (opened_or_not key sid (served_state old)) cause)) done

-- the two causes for which a subscription is refused
told_of_opening : (s : Served) (full spent there : Bool) (fault : ShardFault)
    → (cond there None (cond full (Some TooManySubs) (cond spent (Some Spent) None))) ≡ Some fault
    → IsTold (refusal_of_shard fault) s (opening_refused fault s)
told_of_opening s full spent true fault e = absurd (none-some fault e)
told_of_opening s true spent false fault e =
    subst (λ (f : ShardFault). IsTold (refusal_of_shard f) s (opening_refused f s)) (same_Some TooManySubs fault e) refl
told_of_opening s false true false fault e =
    subst (λ (f : ShardFault). IsTold (refusal_of_shard f) s (opening_refused f s)) (same_Some Spent fault e) refl
told_of_opening s false false false fault e = absurd (none-some fault e)

pub opening_told : {R : Type 0} (old : PipeServer R) (key : Key) (sid : List ℕ) (fault : ShardFault)
    → IsReady old
    → shard_refusal (shard_in old.node) (Subscribe 1 key sid) ≡ Some fault
    → HasServed (Answered (Err (refusal_of_shard fault))) (output_of_subscribe key sid (served_state old)) old old
opening_told old key sid fault ready why =
    let s = served_state old in
    let cause : shard_refusal (at_rest s) (Subscribe 1 key sid) ≡ Some fault =
    ap (λ (u : State). shard_refusal u (Subscribe 1 key sid)) (sym ready.shard) ∙ why in (
      subst (IsTold (refusal_of_shard fault) s) (sym (ap (opened_or_not key sid s) cause))
          (told_of_opening s (is_full (at_rest s) key) (nat_le MAX_SERIAL s.opened) (is_some (sub_called 1 sid s.subs))
          fault cause),
      refl,
    )

-- ---- a publication

placing_done : (s : Served) (p : Pub) (spent many : Bool) (said : Output)
    → cond spent (Some refusal.NumbersSpent) (cond many (Some refusal.TooManyQueueGroups) None) ≡ None
    → cond spent (error_told text.NumbersSpent s) (cond many (error_told text.TooManyQueueGroups s) said) ≡ said
placing_done s p true many said e = absurd (none-some refusal.NumbersSpent (sym e))
placing_done s p false true said e = absurd (none-some refusal.TooManyQueueGroups (sym e))
placing_done s p false false said e = refl

told_of_placing : (s : Served) (spent many : Bool) (said : Output) (why : Refusal)
    → cond spent (Some refusal.NumbersSpent) (cond many (Some refusal.TooManyQueueGroups) None) ≡ Some why
    → IsTold why s (cond spent (error_told text.NumbersSpent s) (cond many (error_told text.TooManyQueueGroups s) said))
told_of_placing s true many said why e =
    subst (λ (r : Refusal). IsTold r s (error_told text.NumbersSpent s)) (same_Some refusal.NumbersSpent why e) refl
told_of_placing s false true said why e =
    subst (λ (r : Refusal). IsTold r s (error_told text.TooManyQueueGroups s))
    (same_Some refusal.TooManyQueueGroups why e) refl
told_of_placing s false false said why e = absurd (none-some why e)

pub placing_told : {R : Type 0} (old : PipeServer R) (p : Pub) (why : Refusal)
    → placing_refused p (shard_in old.node) ≡ Some why
    → HasServed (Answered (Err why)) (output_of_publish p (served_state old)) old old
placing_told old p why cause =
    let s = served_state old in (
      told_of_placing s (nat_le MAX_COUNTER s.jobs)
          (nat_lt MAX_QUEUE_NAMES (length (names_wanted p.message.subject s.subs)))
          (output_of (after_job (job_of p s) (at_rest s))) why cause,
      refl,
    )

same_first : (j k : Job) → (j ∷ []) ≡ k ∷ [] → j ≡ k
same_first j k e = ap (λ (jobs : List Job). first j jobs) e
  where
    first : Job → List Job → Job
    first d [] = d
    first d (x ∷ xs) = x

pub publish_served : {R : Type 0} (old new : PipeServer R) (issued worked counted : of_node.Served) (p : Pub)
    (shut : Bool)
    → IsReady old
    → placing_refused p (shard_in old.node) ≡ None
    → HasIssued p old.node issued
    → HasWorkedOff issued shut worked
    → Steps worked Collect counted
    → Steps counted (Take 1 all_entries) new.node
    → new.output.items ≡ old.output.items ++ waiting_bytes (shard_in counted)
    → new.conn ≡ old.conn
    → HasServed (outcome_by shut) (output_of_publish p (served_state old)) old new
publish_served old new issued worked counted p shut ready free issues works counts takes put conn =
    go shut works.is_shut
  where
    s : Served
    s = served_state old

    job : Job
    job = job_of p s

    t : State
    t = shard_in old.node

    u : State
    u = after_job job t

    job_is : works.job ≡ job
    job_is = same_first works.job job (sym works.first ∙ issues.waiting)

    shut_is : has_any (whole_walk (shard_in issued) works.job).shut ≡ has_any (whole_walk t job).shut
    shut_is = λ k. has_any (whole_walk (issues.shard k) (job_is k)).shut

    worked_is : shard_in worked ≡ u
    worked_is = works.shard ∙ (λ k. after_job (job_is k) (issues.shard k))

    still : IsStill u (has_any (whole_walk t job).shut)
    still = worked_still job t (alone_of old ready)

    said : Output
    said = output_of_publish p s

    said_is : said ≡ output_of u
    said_is =
        placing_done s p (nat_le MAX_COUNTER s.jobs)
        (nat_lt MAX_QUEUE_NAMES (length (names_wanted p.message.subject s.subs)))
        (output_of (after_job job (at_rest s))) free
        ∙ ap (λ (v : State). output_of (after_job job v)) (sym ready.shard)

    text : new.output.items ≡ old.output.items ++ said.text
    text =
        put
        ∙ ap (λ (v : State). old.output.items ++ waiting_bytes v)
        (counts.shard ∙ ap (λ (v : State). shard_after v Collect) worked_is)
        ∙ ap (λ l. old.output.items ++ l)
        (all_taken u still.entries (has_any (whole_walk t job).shut) still.alone
        ∙ sym (ap (λ (r : Output). r.text) said_is))

    closed : said.closed ≡ has_any (whole_walk t job).shut
    closed =
        ap (λ (r : Output). r.closed) said_is
        ∙ output_closed u still.entries (has_any (whole_walk t job).shut) still.alone

    go : (b : Bool) → b ≡ has_any (whole_walk (shard_in issued) works.job).shut → HasServed (outcome_by b) said old new
    go true e = (closed ∙ sym (e ∙ shut_is), text)
    go false e =
        let open_still : IsAlone u still.entries false =
        subst (IsAlone u still.entries) (sym (e ∙ shut_is)) still.alone in
        let v = shard_after (shard_after u Collect) (Take 1 all_entries) in
        let taken = behind_take u still.entries false open_still in
        let done = worked_done job t in
        let shard : shard_in new.node ≡ v = takes.shard
        ∙ ap (λ (w : State). shard_after w (Take 1 all_entries))
        (counts.shard ∙ ap (λ (w : State). shard_after w Collect) worked_is) in
        let at = rests_at new v takes.serving (conn ∙ ready.conn) (takes.waiting ∙ counts.waiting ∙ works.waiting) shard
        (record {
          option = taken.option;
          shard = taken.shard;
          shards = taken.shards;
          next = taken.next;
          clients = taken.clients;
          few = taken.few;
        })
        (record {
          hand = done.0;
          index = done.1;
          deltas = refl;
          draining = done.2 ∙ (settled_of old ready).draining;
        }) in (
          closed ∙ sym (e ∙ shut_is),
          record {
            text = text;
            ready = at.ready;
            same = at.same ∙ taken_served (shard_after u Collect) ∙ sym (ap (λ (r : Output). r.served) said_is);
          },
        )

pub published_known : {R : Type 0} (old : PipeServer R) (issued worked counted : of_node.Served) (p : Pub) (shut : Bool)
    → IsReady old
    → HasIssued p old.node issued
    → HasWorkedOff issued shut worked
    → Steps worked Collect counted
    → is_known 1 (shard_in counted).clients ≡ true
published_known old issued worked counted p shut ready issues works counts =
    let still = worked_still works.job (shard_in issued)
    (subst (λ (t : State). IsAlone t [] false) (sym issues.shard) (alone_of old ready)) in
    ap (λ (t : State). is_known 1 t.clients) (counts.shard ∙ ap (λ (t : State). shard_after t Collect) works.shard)
    ∙ known_there (after_job works.job (shard_in issued)) still.entries _ still.alone

pub publish_outcome : {R : Type 0} (outcome : Outcome) (old new : PipeServer R) (issued worked counted : of_node.Served)
    (p : Pub) (shut : Bool)
    → outcome ≡ outcome_by shut
    → IsReady old
    → placing_refused p (shard_in old.node) ≡ None
    → HasIssued p old.node issued
    → HasWorkedOff issued shut worked
    → Steps worked Collect counted
    → Steps counted (Take 1 all_entries) new.node
    → new.output.items ≡ old.output.items ++ waiting_bytes (shard_in counted)
    → new.conn ≡ old.conn
    → HasServed outcome (output_of_publish p (served_state old)) old new
publish_outcome outcome old new issued worked counted p shut is ready free issues works counts takes put conn =
    subst (λ (o : Outcome). HasServed o (output_of_publish p (served_state old)) old new) (sym is)
    (publish_served old new issued worked counted p shut ready free issues works counts takes put conn)
