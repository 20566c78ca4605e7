-- What is kept in writing stays what was done.
use Rattle.std.proofs.Common.{◌≡◌, ℕ, Bool, true, false, cond, List, [], ◌∷◌, ◌++◌, Option, Some, None, Result, Ok, Err, refl, sym, ap, ◌∙◌, subst, append-nil, inl, ⊎_elim}
use Rattle.std.specs.Option.{option_map}
use Rattle.std.specs.Prelude.{option_to_list, slice_get}
use Rattle.subj.specs.Answers.{IsAnswered, IsDecided}
use Rattle.subj.specs.Servers.{ServerIdentity}
use Rattle.subj.specs.declared.failures.Failure.{Failure}
use Rattle.subj.specs.declared.failures.Failure.TheVariants.{Refused, OutOfMemory}
use Rattle.subj.specs.declared.messages.Pub.{Pub}
use Rattle.route_values.specs.Frames.{Frame}
use Rattle.hub_core.specs.Chosen.{publication_by}
use Rattle.hub_core.specs.Events as of_hub
use Rattle.hub_core.specs.Steps.{hub_refusal}
use Rattle.hub_core.specs.Telling.{collect_frames}
use Rattle.hub_core.specs.declared.answers.CollectResult.{CollectResult}
use Rattle.hub_core.specs.declared.faults.HubFault.{HubFault}
use Rattle.node_law.specs.declared.faults.NodeFault.{NodeFault}
use Rattle.node_law.specs.declared.faults.NodeFault.TheVariants.{Hub}
use Rattle.node_parts.specs.Sides.{HubWithSessions, new_side, Event, ByHub, Answer, OfHub, IsAsked, IsDone, Leads, job_in}
use Rattle.node_parts.specs.declared.told.Issued.{Issued}
use Rattle.node_parts.specs.declared.told.Received.{Received}
use Rattle.node_parts.specs.declared.told.Received.TheVariants.{Routed, Heard}
use Rattle.shard_core.specs.ShardEvents as of_shard
use Rattle.shard_core.specs.ShardSteps.{shard_refusal}
use Rattle.shard_core.specs.declared.faults.ShardFault.{ShardFault}
use Rattle.node_threads.specs.AtHub.{AtHub, Collects, Does as HubDoes, Looks, Publishes, Receives, IsReceived}
use Rattle.node_threads.specs.AtWork.{AtWork, Does, Makes, TakesBytes, at_start}
use Rattle.node_threads.specs.HubRuns.{IssuesEach}
use Rattle.node_threads.specs.Tapes.{Grows, IsTape, entry, entry_of, told_of}
use Rattle.node_threads.specs.declared.shard_entries.ShardEntry.{ShardEntry}
use Rattle.node_threads.specs.declared.shard_entries.ShardEvent.{ShardEvent}
use Rattle.node_threads.specs.declared.shard_entries.ShardEvent.TheVariants as shard_event
use Rattle.node_threads.specs.declared.shard_entries.ShardTold.TheVariants as shard_told
use Rattle.node_threads.proofs.Shards.Clients.{is_client}
use Rattle.node_threads.proofs.Hubs.HubCalls.{same_server}
use Rattle.node_threads.proofs.Shards.Telling.{client_tells, grows_join, tape_more, tells_refused}
use Rattle.node_threads.proofs.Shards.Joining.{makes_nothing}
use Rattle.thread_node.specs.HubTapes.{IsHubTape, Made, Did, WasRefused, Logs, Refuses, side_refusal, steps_in, asked_of, told_by, entries_in, entries_with, hub_entry, of_received}
use Rattle.thread_node.specs.Told.{GivenNotes, HubNotes, ShardNotes, of_decision, told_in, told_of_hub, told_of_shard}
use Rattle.thread_node.specs.declared.hub_entries.HubEntry.{HubEntry}
use Rattle.thread_node.specs.declared.hub_entries.HubEvent.{HubEvent}
use Rattle.thread_node.specs.declared.hub_entries.HubEvent.TheVariants as event
use Rattle.thread_node.specs.declared.hub_entries.HubTold.{HubTold}
use Rattle.thread_node.specs.declared.hub_entries.HubTold.TheVariants as told

-- ---- a shard's

new_tape : (E : Type 0) (keep : Bool) → Grows {E = E} (Some []) [] (cond keep (Some []) None)
new_tape E true = refl
new_tape E false = tt

pub tape_starts : (shards : ℕ) (w : AtWork) (keep : Bool) (tape : Option (List ShardEntry))
    → w ≡ at_start w.part.shard shards
    → tape ≡ cond keep (Some []) None
    → IsTape shards w tape
tape_starts shards w keep tape fresh is =
    let nothing : Makes (at_start w.part.shard shards) [] w =
    subst (λ v. Makes (at_start w.part.shard shards) [] v) (sym fresh) (makes_nothing (at_start w.part.shard shards)) in
    record {
      log = [];
      makes = nothing;
      logs = nothing.led;
      grows = subst (Grows (Some []) []) (sym is) (new_tape _ keep);
    }

-- an event of a client more, or a collect
pub tape_does : (shards : ℕ) (w v : AtWork) (e : of_shard.Event) (answer : of_shard.Answer)
    (tape more : Option (List ShardEntry))
    → IsTape shards w tape
    → is_client e ≡ true
    → shard_refusal w.state e ≡ None
    → Does w e answer v
    → Grows tape (entry_of e answer ∷ []) more
    → IsTape shards v more
tape_does shards w v e answer tape more t c free d g =
    tape_more shards w v tape more t (client_tells w v e answer tape more c free d g)

-- what there is at most once, of a list of it
pub first_of_one : {X : Type 0} (o : Option X) → o ≡ slice_get (option_to_list o) 0
first_of_one None = refl
first_of_one (Some x) = refl

-- a call that takes no memory, as one that may
pub answered_so : {R T : Type 0} (cause : Option R) (done : T → Type 0) (same : Type 0) (result : Result T R)
    → IsDecided cause done same result
    → IsAnswered cause done same (of_decision result)
answered_so cause done same (Ok x) is = is
answered_so cause done same (Err why) is = is

-- nothing was done, and nothing is written
shard_stays : (shards : ℕ) (w v : AtWork) (tape more : Option (List ShardEntry))
    → IsTape shards w tape
    → v ≡ w
    → more ≡ tape
    → IsTape shards v more
shard_stays shards w v tape more t same unsaid =
    subst (λ u. IsTape shards u more) (sym same) (subst (IsTape shards w) (sym unsaid) t)

-- the same as it is answered: a step, a refusal, or nothing for want of memory
pub tape_answered : {X : Type 0} (shards : ℕ) (w v : AtWork) (e : of_shard.Event) (asked : ShardEvent)
    (answer : X → of_shard.Answer) (done : Result X (Failure ShardFault)) (tape more : Option (List ShardEntry))
    → IsTape shards w tape
    → is_client e ≡ true
    → ((a : of_shard.Answer) → entry_of e a ≡ entry asked (told_of a))
    → IsAnswered (shard_refusal w.state e) (λ x. Does w e (answer x) v) (v ≡ w) done
    → ShardNotes asked (told_of_shard (λ x. told_of (answer x)) done) tape more
    → IsTape shards v more
tape_answered shards w v e asked answer (Ok x) tape more t c is a n =
    tape_does shards w v e (answer x) tape more t c a.0 a.1
    (subst (λ (l : ShardEntry). Grows tape (l ∷ []) more) (sym (is (answer x))) n)
tape_answered shards w v e asked answer (Err (Refused why)) tape more t c is a n =
    let nothing : Makes w [] v = subst (λ u. Makes w [] u) (sym a.1) (makes_nothing w) in
    let cause : shard_refusal v.state e ≡ Some why = ap (λ (u : AtWork). shard_refusal u.state e) a.1 ∙ a.0 in
    let written = subst (λ (l : ShardEntry). Grows tape (l ∷ []) more)
    (ap (λ (x : ShardEntry). entry x.event (shard_told.Refused why)) (sym (is (of_shard.Collected [])))) n in
    tape_more shards w v tape more t (tells_refused w v e why tape more nothing (inl cause) written)
tape_answered shards w v e asked answer (Err OutOfMemory) tape more t c is a n =
    shard_stays shards w v tape more t a.1 n

-- bytes that are taken
pub tape_took : (shards : ℕ) (w v : AtWork) (conn count : ℕ) (before bytes : List ℕ)
    (done : Result ℕ (Failure ShardFault)) (tape more : Option (List ShardEntry))
    → IsTape shards w tape
    → IsAnswered (shard_refusal w.state (of_shard.Take conn count))
    (λ taken. TakesBytes w conn count taken before bytes v) ((v ≡ w) × (bytes ≡ before)) done
    → ShardNotes (shard_event.Take conn count) (told_of_shard (λ taken. shard_told.Taken taken) done) tape more
    → IsTape shards v more
tape_took shards w v conn count before bytes (Ok taken) tape more t a n =
    tape_does shards w v (of_shard.Take conn count) (of_shard.Taken a.1.entries) tape more t refl a.0 a.1.does
    (subst (λ k. Grows tape (entry (shard_event.Take conn count) (shard_told.Taken k) ∷ []) more) a.1.told n)
tape_took shards w v conn count before bytes (Err (Refused why)) tape more t a n =
    tape_answered {X = ℕ} shards w v (of_shard.Take conn count) (shard_event.Take conn count)
    (λ taken. of_shard.Taken []) (Err (Refused why)) tape more t refl (λ answer. refl) (a.0, a.1.0) n
tape_took shards w v conn count before bytes (Err OutOfMemory) tape more t a n =
    tape_answered {X = ℕ} shards w v (of_shard.Take conn count) (shard_event.Take conn count)
    (λ taken. of_shard.Taken []) (Err OutOfMemory) tape more t refl (λ answer. refl) (a.0, a.1.0) n

-- ---- the hub's

pub hub_tape_starts : (w : AtHub) (server : ServerIdentity) (keep : Bool) (tape : Option (List HubEntry))
    → w.side ≡ new_side server
    → w.issued ≡ []
    → tape ≡ cond keep (Some []) None
    → IsHubTape server w tape
hub_tape_starts w server keep tape fresh none is = record {
  whose = ap (λ (s : HubWithSessions). s.server) fresh;
  log = [];
  led = fresh ∙ ap new_side (sym (ap (λ (s : HubWithSessions). s.server) fresh));
  gave = none;
  grows = subst (Grows (Some []) []) (sym is) (new_tape _ keep);
}

-- the steps of a log lead where it leads
pub steps_lead : (from : HubWithSessions) (log : List Made) (to : HubWithSessions)
    → Logs from log to
    → Leads from (steps_in log) to
steps_lead from [] to is = is
steps_lead from (Did d ∷ earlier) to (done, logs) = (done, steps_lead from earlier d.before logs)
steps_lead from (WasRefused before event why ∷ earlier) to (refuses, same, logs) =
    subst (Leads from (steps_in earlier)) (sym same) (steps_lead from earlier before logs)

-- of the hub of one server
module _ {server : ServerIdentity} where
  -- one step more, with the jobs of its answer
  pub hub_more : (w v : AtHub) (e : Event) (answer : Answer) (tape more : Option (List HubEntry))
      → IsHubTape server w tape
      → IsDone w.side e answer v.side
      → v.issued ≡ w.issued ++ job_in answer
      → Grows tape (entries_in e answer) more
      → IsHubTape server v more
  hub_more w v e answer tape more t d gave g = record {
    whose = same_server w.side v.side e answer d ∙ t.whose;
    log = Did (record { before = w.side; event = e; answer = answer }) ∷ t.log;
    led = (d, subst (λ s. Logs (new_side s) t.log w.side) (sym (same_server w.side v.side e answer d)) t.led);
    gave = gave ∙ ap (λ l. l ++ job_in answer) t.gave;
    grows = grows_join (Some []) tape more _ (entries_in e answer) t.grows g;
  }

  -- the same where it gives no job
  pub hub_does : (w v : AtHub) (e : Event) (answer : Answer) (tape more : Option (List HubEntry))
      → IsHubTape server w tape
      → HubDoes w e answer v
      → job_in answer ≡ []
      → Grows tape (entries_in e answer) more
      → IsHubTape server v more
  hub_does w v e answer tape more t d quiet g =
      hub_more w v e answer tape more t d.done
      (ap (λ (x : AtHub). x.issued) d.after ∙ sym (append-nil w.issued) ∙ ap (λ l. w.issued ++ l) (sym quiet)) g

  -- a look at the shards is no step
  pub hub_looks : (shards : ℕ) (w v : AtHub) (tape : Option (List HubEntry))
      → Looks shards w v
      → IsHubTape server w tape
      → IsHubTape server v tape
  hub_looks shards w v tape l t =
      ⊎_elim (λ (same : v ≡ w). subst (λ x. IsHubTape server x tape) (sym same) t)
      (λ (looked : _ × (v ≡ record w { part = v.part; finished = v.finished })).
      subst (λ x. IsHubTape server x tape) (sym looked.1)
      (record { whose = t.whose; log = t.log; led = t.led; gave = t.gave; grows = t.grows }))
      l

  -- a refusal, by which nothing is done
  pub hub_refused : (w v : AtHub) (e : Event) (why : NodeFault) (tape more : Option (List HubEntry))
      → IsHubTape server w tape
      → v ≡ w
      → Refuses w.side e why
      → Grows tape (entries_with (asked_of e) (told.Refused why ∷ [])) more
      → IsHubTape server v more
  hub_refused w v e why tape more t same r g = subst (λ u. IsHubTape server u more) (sym same) (record {
    whose = t.whose;
    log = WasRefused w.side e why ∷ t.log;
    led = (r, refl, t.led);
    gave = t.gave;
    grows = grows_join (Some []) tape more _ (entries_with (asked_of e) (told.Refused why ∷ [])) t.grows g;
  })

  -- want of memory, for which nothing is done
  hub_short : (w v : AtHub) (tape more : Option (List HubEntry))
      → IsHubTape server w tape
      → v ≡ w
      → more ≡ tape
      → IsHubTape server v more
  hub_short w v tape more t same unsaid =
      subst (λ u. IsHubTape server u more) (sym same) (subst (IsHubTape server w) (sym unsaid) t)

  -- an event as it is answered, which gives no job: a step, a refusal, or nothing for want of memory
  pub hub_answered : {X F : Type 0} (w v : AtHub) (e : Event) (asked : HubEvent) (answer : X → Answer)
      (said : X → HubTold) (fault_of : F → NodeFault) (cause : Option F) (done : Result X (Failure F))
      (tape more : Option (List HubEntry))
      → IsHubTape server w tape
      → IsAsked w.side e
      → side_refusal w.side e ≡ option_map fault_of cause
      → asked_of e ≡ asked ∷ []
      → ((x : X) → told_by (answer x) ≡ said x ∷ [])
      → ((x : X) → job_in (answer x) ≡ [])
      → IsAnswered cause (λ x. HubDoes w e (answer x) v) (v ≡ w) done
      → HubNotes asked (told_in (λ fault. told.Refused (fault_of fault)) said done) tape more
      → IsHubTape server v more
  hub_answered w v e asked answer said fault_of cause (Ok x) tape more t may refusal asks tells quiet a n =
      hub_does w v e (answer x) tape more t a.1 (quiet x)
      (subst (λ es. Grows tape es more) (λ k. entries_with (sym asks k) (sym (tells x) k)) n)
  hub_answered w v e asked answer said fault_of cause (Err (Refused why)) tape more t may refusal asks tells quiet a n =
      hub_refused w v e (fault_of why) tape more t a.1
      (record { asked = may; cause = refusal ∙ ap (option_map fault_of) a.0 })
      (subst (λ es. Grows tape es more) (λ k. entries_with (sym asks k) (told.Refused (fault_of why) ∷ [])) n)
  hub_answered w v e asked answer said fault_of cause (Err OutOfMemory) tape more t may refusal asks tells quiet a n =
      hub_short w v tape more t a.1 n

  -- a publish that is done
  publish_kept : (shards : ℕ) (w v : AtHub) (conn word : ℕ) (publication : Pub) (issued : Issued)
      (tape more : Option (List HubEntry))
      → IsHubTape server w tape
      → Publishes shards w (publication_by conn publication word) (Ok issued) v
      → Grows tape
      (hub_entry (event.Publish conn publication word v.finished) (told.Issued issued.turn issued.frames) ∷ []) more
      → IsHubTape server v more
  publish_kept shards w v conn word publication issued tape more t d g =
      let p = publication_by conn publication word in
      let did = d.answered.1 in
      hub_more d.seen v _ _ tape more (hub_looks shards w d.seen tape d.looks t) did.issues.done did.issues.issued
      (subst (λ es. Grows tape es more)
      ((λ k.
      hub_entry (event.Publish conn publication word (did.issues.finished k))
      (told.Issued (did.turn k) (did.frames k)) ∷ []))
      g)

  -- a publish as it is answered
  pub publish_noted : (shards : ℕ) (w v : AtHub) (conn word : ℕ) (publication : Pub)
      (done : Result Issued (Failure HubFault)) (tape more : Option (List HubEntry))
      → IsHubTape server w tape
      → Publishes shards w (publication_by conn publication word) done v
      → HubNotes (event.Publish conn publication word v.finished)
      (told_of_hub (λ issued. told.Issued issued.turn issued.frames) done) tape more
      → IsHubTape server v more
  publish_noted shards w v conn word publication (Ok issued) tape more t d n =
      publish_kept shards w v conn word publication issued tape more t d n
  publish_noted shards w v conn word publication (Err (Refused why)) tape more t d n =
      let p = publication_by conn publication word in
      let same = d.answered.1 in
      hub_refused d.seen v (ByHub (of_hub.Publish p d.seen.finished)) (Hub why) tape more
      (hub_looks shards w d.seen tape d.looks t) same
      (record { asked = tt; cause = ap (option_map (λ fault. Hub fault)) d.answered.0 })
      (subst (λ es. Grows tape es more)
      (λ k.
      hub_entry (event.Publish conn publication word (ap (λ (x : AtHub). x.finished) same k))
      (told.Refused (Hub why)) ∷ [])
      n)
  publish_noted shards w v conn word publication (Err OutOfMemory) tape more t d n =
      hub_short d.seen v tape more (hub_looks shards w d.seen tape d.looks t) d.answered.1 n

  -- publications of a run, where no tape is kept: nothing is written of them
  pub run_unnoted : (shards conn : ℕ) (publications : List Pub) (w v : AtHub) (tape : Option (List HubEntry))
      → ((more : List HubEntry) → Grows tape more tape)
      → IsHubTape server w tape
      → IssuesEach shards conn publications w v
      → IsHubTape server v tape
  run_unnoted shards conn [] w v tape unkept t each = subst (λ (x : AtHub). IsHubTape server x tape) (sym each) t
  run_unnoted shards conn (said ∷ others) w v tape unkept t each =
      run_unnoted shards conn others each.0 v tape unkept
      (publish_noted shards w each.0 conn 0 said (Ok each.1) tape tape t (each.2 0)
      (unkept (hub_entry (event.Publish conn said 0 each.0.finished) (told.Issued each.1.turn each.1.frames) ∷ [])))
      each.3

  -- a frame of a peer that is taken
  receive_kept : (shards : ℕ) (w v : AtHub) (frame : Frame) (received : Received) (tape more : Option (List HubEntry))
      → IsHubTape server w tape
      → Receives shards w frame (Ok received) v
      → Grows tape (hub_entry (event.Receive frame v.finished) (of_received received) ∷ []) more
      → IsHubTape server v more
  receive_kept shards w v frame received tape more t d g = go received d.answered.1 g
    where
      seen : IsHubTape server d.seen tape
      seen = hub_looks shards w d.seen tape d.looks t

      go : (received : Received)
          → IsReceived d.seen frame received v
          → Grows tape (hub_entry (event.Receive frame v.finished) (of_received received) ∷ []) more
          → IsHubTape server v more
      go (Routed turn) did g =
          hub_more d.seen v _ _ tape more seen did.issues.done did.issues.issued
          (subst (λ es. Grows tape es more)
          ((λ k. hub_entry (event.Receive frame (did.issues.finished k)) (told.Routed (did.turn_is k)) ∷ [])) g)
      go (Heard mark) did g =
          hub_does d.seen v _ _ tape more seen did refl
          (subst (λ es. Grows tape es more)
          ((λ k. hub_entry (event.Receive frame (ap (λ (x : AtHub). x.finished) did.after k)) (told.Heard mark) ∷ []))
          g)

  -- a frame of a peer as it is answered
  pub receive_noted : (shards : ℕ) (w v : AtHub) (frame : Frame) (done : Result Received (Failure HubFault))
      (tape more : Option (List HubEntry))
      → IsHubTape server w tape
      → Receives shards w frame done v
      → HubNotes (event.Receive frame v.finished) (told_of_hub (λ received. of_received received) done) tape more
      → IsHubTape server v more
  receive_noted shards w v frame (Ok received) tape more t d n = receive_kept shards w v frame received tape more t d n
  receive_noted shards w v frame (Err (Refused why)) tape more t d n =
      let same = d.answered.1 in
      hub_refused d.seen v (ByHub (of_hub.Receive frame d.seen.finished)) (Hub why) tape more
      (hub_looks shards w d.seen tape d.looks t) same
      (record { asked = tt; cause = ap (option_map (λ fault. Hub fault)) d.answered.0 })
      (subst (λ es. Grows tape es more)
      (λ k. hub_entry (event.Receive frame (ap (λ (x : AtHub). x.finished) same k)) (told.Refused (Hub why)) ∷ []) n)
  receive_noted shards w v frame (Err OutOfMemory) tape more t d n =
      hub_short d.seen v tape more (hub_looks shards w d.seen tape d.looks t) d.answered.1 n

-- deltas that the hub is handed, as that answers
pub collects_so : (old : AtHub) (w : AtWork) (done : Result CollectResult (Failure HubFault)) (new : AtHub)
    (left : AtWork)
    → Collects old w done new left
    → IsAnswered (hub_refusal old.side.server old.side.hub (of_hub.Collect w.part.shard w.state.deltas))
    (λ told.
    HubDoes old (ByHub (of_hub.Collect w.part.shard w.state.deltas))
    (OfHub
    (of_hub.Collected told.changes.items (collect_frames old.side.server old.side.hub w.state.deltas) told.cut.items))
    new)
    (new ≡ old) done
collects_so old w (Ok told) new left is = (is.0, is.1.does)
collects_so old w (Err (Refused why)) new left is = (is.0, is.1.0)
collects_so old w (Err OutOfMemory) new left is = (is.0, is.1.0)

-- and as the shard gives them
pub gives_so : (shards : ℕ) (old : AtHub) (w : AtWork) (done : Result CollectResult (Failure HubFault)) (new : AtHub)
    (left : AtWork) (tape more : Option (List ShardEntry))
    → IsTape shards w tape
    → Collects old w done new left
    → GivenNotes done w.state.deltas tape more
    → IsTape shards left more
gives_so shards old w (Ok told) new left tape more t is n =
    tape_does shards w left of_shard.Collect (of_shard.Collected w.state.deltas) tape more t refl refl is.1.gives n
gives_so shards old w (Err (Refused why)) new left tape more t is n = shard_stays shards w left tape more t is.1.1 n
gives_so shards old w (Err OutOfMemory) new left tape more t is n = shard_stays shards w left tape more t is.1.1 n
