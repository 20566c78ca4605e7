-- What the calls of a pipe's server come to, where its connection is the first one.
use Rattle.std.proofs.Common.{◌≡◌, ℕ, suc, ◌+◌, Bool, true, false, cond, not, nat_eq, List, [], ◌∷◌, ◌++◌, length, Option, Some, None, refl, sym, ap, ◌∙◌, subst, arith}
use Rattle.std.specs.Prelude.{is_some}
use Rattle.std.specs.Option.{option_map}
use Rattle.std.proofs.lemmas.Option.{none-some, same_Some}
use Rattle.list_laws.proofs.Tests.{true_eq}
use Rattle.subj.specs.Servers.{ServerIdentity}
use Rattle.subj.specs.declared.jobs.Job.{Job}
use Rattle.subj.specs.declared.messages.Pub.{Pub}
use Rattle.subj.specs.declared.identities.SubId.{SubId}
use Rattle.client_frames.specs.Frames.{reply_line}
use Rattle.client_frames.specs.declared.server_frames.ReplyFrame.{ReplyFrame}
use Rattle.client_conn.specs.declared.ask.Refusal.{Refusal}
use Rattle.outbox.specs.Views.{Written, bytes_of_all}
use Rattle.shard_core.specs.declared.faults.ShardFault.{ShardFault}
use Rattle.shard_core.specs.declared.faults.ShardFault.TheVariants.{JobInHand, WrongTurn}
use Rattle.shard_core.specs.Lines.{first_of, begun_turn, Turns}
use Rattle.shard_core.specs.ShardEvents as of_shard
use Rattle.shard_core.specs.ShardSteps.{answer_fits, shard_refusal, shard_after, shard_answer}
use Rattle.node_law.specs.declared.faults.NodeFault.{NodeFault}
use Rattle.node_law.specs.declared.faults.NodeFault.TheVariants.{Shard}
use Rattle.node_law.specs.declared.events.ConnEvent.{ConnEvent}
use Rattle.node_law.specs.declared.events.ConnEvent.TheVariants.{Reply, Take}
use Rattle.node_law.specs.declared.events.ShardWork.TheVariants.{Attach, Begin, Claim}
use Rattle.node_law.specs.Events.{OfConn, AtShard, Own}
use Rattle.node_core.specs.Served.{Served, ConnStep, WorkStep, answer_at, refusal, new_server}
use Rattle.node_law.specs.Steps.{conn_line, conn_event, begin_of, event_refusal}
use Rattle.node_core.specs.TakesBytes.{TakesBytes}
use Rattle.mesh_pipe.specs.PipeText.{at_rest, at_first}
use Rattle.mesh_pipe.specs.PipeServing.{pipe_server, line_in, shard_in, waiting_in, placing_refused, IsServing, Steps, all_entries, waiting_bytes, refusal_of}
use Rattle.client_refusals.specs.Refusals.{refusal_of_shard}
use Rattle.mesh_pipe.proofs.Server.Alone.{sound_line, conn_there, conn_refuses, conn_steps, work_refuses, no_map}
use Rattle.mesh_pipe.proofs.Server.Working.{some_map, works}

-- ---- refusals

pub cannot_refuse : (old : Served) (conn : ℕ) (event : ConnEvent) (why : NodeFault)
    → IsServing old
    → conn ≡ 1
    → shard_refusal (shard_in old) (conn_event 1 event) ≡ None
    → refusal old (Own (OfConn conn event)) ≡ Some why
    → ⊥
cannot_refuse old conn event why serving is free refused =
    none-some why (sym (conn_refuses old event serving ∙ ap (option_map Shard) free)
    ∙ sym (ap (λ n. refusal old (Own (OfConn n event))) is) ∙ refused)

pub by_conn : (old new : Served) (conn : ℕ) (event : ConnEvent) (answer : of_shard.Answer)
    → IsServing old
    → conn ≡ 1
    → ConnStep old conn event answer new
    → Steps old (conn_event 1 event) new
by_conn old new conn event answer serving is does =
    conn_steps old new event serving (subst (λ n. ConnStep old n event answer new) is does).step

-- ---- answers

answer_is : (old new : Served) (conn : ℕ) (event : ConnEvent) (answer : of_shard.Answer)
    → IsServing old
    → conn ≡ 1
    → ConnStep old conn event answer new
    → answer ≡ shard_answer (shard_in old) (conn_event 1 event)
answer_is old new conn event answer serving is does =
    let step = subst (λ n. ConnStep old n event answer new) is does in
    same_Some answer (shard_answer (shard_in old) (conn_event 1 event))
    (step.answered
    ∙ ap (λ (server : ServerIdentity). answer_at (Some (conn_event 1 event)) (conn_line server old.node 1))
    serving.server ∙ ap (answer_at (Some (conn_event 1 event))) (conn_there old serving))

abbrev shut_in : of_shard.Answer → Bool
shut_in (of_shard.Replied shut ended) = shut
shut_in other = false

pub reply_shut : (old new : Served) (conn : ℕ) (frame : ReplyFrame) (shut : Bool) (ended : List SubId)
    → IsServing old
    → conn ≡ 1
    → ConnStep old conn (Reply frame) (of_shard.Replied shut ended) new
    → shut ≡ not (answer_fits (shard_in old) 1 (reply_line frame))
reply_shut old new conn frame shut ended serving is does =
    ap shut_in (answer_is old new conn (Reply frame) (of_shard.Replied shut ended) serving is does)

abbrev taken_in : of_shard.Answer → List Written
taken_in (of_shard.Taken entries) = entries
taken_in other = []

pub take_text : (old new : Served) (conn taken : ℕ) (before bytes : List ℕ)
    → IsServing old
    → conn ≡ 1
    → (takes : TakesBytes old conn all_entries taken before bytes new)
    → bytes ≡ before ++ waiting_bytes (shard_in old)
take_text old new conn taken before bytes serving is takes =
    takes.bytes_are
    ∙ ap (λ (entries : List Written). before ++ bytes_of_all entries)
    (ap taken_in (answer_is old new conn (Take all_entries) (of_shard.Taken takes.entries) serving is takes.step))

-- ---- a subscription

pub opens : (old new : Served) (conn : ℕ) (event : ConnEvent) (answer : of_shard.Answer)
    → IsServing old
    → conn ≡ 1
    → refusal old (Own (OfConn conn event)) ≡ None
    → ConnStep old conn event answer new
    → (shard_refusal (shard_in old) (conn_event 1 event) ≡ None) × Steps old (conn_event 1 event) new
opens old new conn event answer serving is free does = (
  no_map (shard_refusal (shard_in old) (conn_event 1 event))
      (sym (conn_refuses old event serving) ∙ sym (ap (λ n. refusal old (Own (OfConn n event))) is) ∙ free),
  by_conn old new conn event answer serving is does,
)

pub opens_not : (old new : Served) (conn : ℕ) (event : ConnEvent) (why : NodeFault) (told : Refusal)
    → IsServing old
    → conn ≡ 1
    → refusal old (Own (OfConn conn event)) ≡ Some why
    → told ≡ refusal_of why
    → new ≡ old
    → (fault : ShardFault) × (shard_refusal (shard_in old) (conn_event 1 event) ≡ Some fault)
    × (told ≡ refusal_of_shard fault) × (new ≡ old)
opens_not old new conn event why told serving is refused tells same =
    let cause =
    sym (conn_refuses old event serving) ∙ sym (ap (λ n. refusal old (Own (OfConn n event))) is) ∙ refused in
    let found = some_map (shard_refusal (shard_in old) (conn_event 1 event)) why cause in
    let shard : why ≡ Shard found.0 =
    sym (same_Some (Shard found.0) why (sym (ap (option_map Shard) found.1) ∙ cause)) in
    (found.0, found.1, tells ∙ ap refusal_of shard, same)

-- ---- the start

started_serving : IsServing (new_server pipe_server)
started_serving = record {
  server = refl;
  line = refl;
  alone = refl;
  published = refl;
  changed = omega arith;
  opened = omega arith;
  ran = ([], refl);
}

pub cannot_attach : (s : Served) (why : NodeFault)
    → s ≡ new_server pipe_server
    → refusal s (Own (AtShard 1 Attach)) ≡ Some why
    → ⊥
cannot_attach s why is refused =
    none-some why (sym (ap (λ (t : Served). refusal t (Own (AtShard 1 Attach))) is) ∙ refused)

pub record IsFirst (node : Served) : Type 0 where
  pub serving : IsServing node
  pub shard : shard_in node ≡ at_rest at_first
  pub waiting : waiting_in node ≡ []

pub attaches : (old new : Served) (answer : of_shard.Answer)
    → old ≡ new_server pipe_server
    → WorkStep old 1 Attach false answer new
    → IsFirst new
attaches old new answer is does =
    let serving : IsServing old = subst IsServing (sym is) started_serving in
    let w = works old new Attach false of_shard.Attach serving refl refl does.step in
    record {
      serving = w.steps.serving;
      shard = w.steps.shard ∙ ap (λ (s : Served). shard_after (shard_in s) of_shard.Attach) is;
      waiting = w.steps.waiting ∙ ap (λ (s : Served). waiting_in s) is;
    }

-- ---- a job

record HasOne (waiting : List Job) : Type 0 where
  job : Job
  are : waiting ≡ job ∷ []

has_one : (waiting : List Job) → length waiting ≡ 1 → HasOne waiting
has_one [] one = absurd (omega (arith, one))
has_one (job ∷ []) one = record { job = job; are = refl }
has_one (job ∷ other ∷ more) one = absurd (omega (arith, one))

pub cannot_begin : (s : Served) (why : NodeFault)
    → IsServing s
    → (shard_in s).hand ≡ None
    → length (waiting_in s) ≡ 1
    → refusal s (Own (AtShard 1 Begin)) ≡ Some why
    → ⊥
cannot_begin s why serving none one refused =
    let first = has_one (waiting_in s) one in
    let turns = subst
    (λ (w : List Job). Turns (begun_turn (shard_in s).hand (shard_in s).finished) w s.node.race.issued) first.are
    (sound_line s serving).sound.turns in
    let turn : first.job.turn ≡ (shard_in s).finished + 1 =
    turns.0 ∙ ap (λ (h : Option Job). suc (begun_turn h (shard_in s).finished)) none ∙ (omega arith) in
    none-some why (sym (work_refuses s Begin serving
    ∙ ap (λ (w : List Job). event_refusal (line_in s) (begin_of (first_of w))) first.are ∙ (λ k.
    option_map Shard
    (cond (is_some (none k)) (Some JobInHand)
    (cond (nat_eq (turn k) ((shard_in s).finished + 1)) None (Some WrongTurn))))
    ∙ ap (λ b. option_map Shard (cond b None (Some WrongTurn)))
    (true_eq ((shard_in s).finished + 1) ((shard_in s).finished + 1) refl)) ∙ refused)

pub cannot_claim : (s : Served) (index : ℕ) (why : NodeFault)
    → IsServing s
    → shard_refusal (shard_in s) (of_shard.Claim index true) ≡ None
    → refusal s (Own (AtShard 1 (Claim index))) ≡ Some why
    → ⊥
cannot_claim s index why serving due refused =
    none-some why (sym (work_refuses s (Claim index) serving ∙ ap (option_map Shard) due) ∙ refused)

-- ---- a publication

pub publishes : (cause : Option NodeFault) (fault : NodeFault) (told : Refusal) (p : Pub) (old new : Served)
    → option_map refusal_of cause ≡ placing_refused p (shard_in old)
    → cause ≡ Some fault
    → told ≡ refusal_of fault
    → new ≡ old
    → (placing_refused p (shard_in old) ≡ Some told) × (new ≡ old)
publishes cause fault told p old new is refused tells same = (
  sym is ∙ ap (option_map refusal_of) refused ∙ ap Some (sym tells),
  same,
)
