-- What is kept in writing of a shard's steps.
use Rattle.std.proofs.Common.{◌≡◌, ℕ, Bool, true, false, true≢false, cond, List, [], ◌∷◌, ◌++◌, Option, Some, None, refl, sym, ap, ◌∙◌, subst, append_assoc, append-nil, inr}
use Rattle.std.specs.Option.{option_or}
use Rattle.std.specs.Prelude.{is_some}
use Rattle.claim_cells.specs.declared.parts.ShardPart.{ShardPart}
use Rattle.subj.specs.Answers.{IsRefused}
use Rattle.subj.specs.declared.failures.Failure.{Failure}
use Rattle.subj.specs.declared.failures.Failure.TheVariants.{Refused, OutOfMemory}
use Rattle.subj.specs.declared.jobs.Job.{Job}
use Rattle.shard_core.specs.ShardEvents.{Event, DropJob, Answer}
use Rattle.shard_core.specs.ShardSteps.{shard_refusal, shard_answer}
use Rattle.shard_core.specs.Shards.{State}
use Rattle.shard_core.specs.declared.faults.ShardFault.{ShardFault}
use Rattle.shard_core.specs.declared.faults.ShardFault.TheVariants.{NoJob}
use Rattle.node_threads.specs.AtWork.{AtWork, Makes, Does, IsAtWork, at_start, seen_as}
use Rattle.node_threads.specs.Logs.{Made, Did, WasRefused, Refuses, Logs, steps_in}
use Rattle.node_threads.specs.Steps.{Done, Leads}
use Rattle.node_threads.specs.Tapes.{Grows, Tells, IsTape, drop_entry, entry_of, refused_entry, entries_of}
use Rattle.node_threads.specs.declared.shard_entries.ShardEntry.{ShardEntry}
use Rattle.node_threads.proofs.Shards.Joining.{makes_join, makes_nothing}
use Rattle.node_threads.proofs.Shards.Clients.{is_client, client_makes, with_state}
use Rattle.node_threads.proofs.Shards.Drops.{IsDropped, dropped_makes, with_dropped}
use Rattle.node_threads.proofs.Shards.Working.{step_of}

pub grows_not : {E : Type 0} (tape : Option (List E)) → Grows tape [] tape
grows_not None = tt
grows_not (Some l) = sym (append-nil l)

pub grows_join : {E : Type 0} (a b c : Option (List E)) (first then : List E)
    → Grows a first b
    → Grows b then c
    → Grows a (first ++ then) c
grows_join a b None first then g h = tt
grows_join a None (Some z) first then g h = absurd h
grows_join None (Some y) (Some z) first then g h = absurd g
grows_join (Some x) (Some y) (Some z) first then g h = h ∙ ap (λ l. l ++ then) g ∙ append_assoc x first then

entry_join : (first earlier all : List ShardEntry) (entry : ShardEntry)
    → all ≡ first ++ earlier
    → all ++ entry ∷ [] ≡ first ++ (earlier ++ entry ∷ [])
entry_join first earlier all entry is = ap (λ l. l ++ entry ∷ []) is ∙ append_assoc first earlier (entry ∷ [])

entries_join : (first then : List Made) → entries_of (then ++ first) ≡ entries_of first ++ entries_of then
entries_join first [] = sym (append-nil (entries_of first))
entries_join first (Did d ∷ earlier) =
    entry_join (entries_of first) (entries_of earlier) (entries_of (earlier ++ first)) (entry_of d.event d.answer)
    (entries_join first earlier)
entries_join first (WasRefused before e why ∷ earlier) =
    entry_join (entries_of first) (entries_of earlier) (entries_of (earlier ++ first)) (refused_entry e why)
    (entries_join first earlier)

steps_join : (first then : List Made) → steps_in (then ++ first) ≡ steps_in then ++ steps_in first
steps_join first [] = refl
steps_join first (Did d ∷ earlier) = ap (λ l. d ∷ l) (steps_join first earlier)
steps_join first (WasRefused before e why ∷ earlier) = steps_join first earlier

logs_join : (a b c : State) (first then : List Made) → Logs a first b → Logs b then c → Logs a (then ++ first) c
logs_join a b c first [] f t = subst (λ s. Logs a first s) (sym t) f
logs_join a b c first (Did d ∷ earlier) f t = (t.0, logs_join a b d.before first earlier f t.1)
logs_join a b c first (WasRefused before e why ∷ earlier) f t = (t.0, t.1, logs_join a b before first earlier f t.2)

pub tells_quiet : (w v : AtWork) (tape : Option (List ShardEntry)) → Makes w [] v → Tells w tape v tape
tells_quiet w v tape m = record { log = []; makes = m; logs = m.led; grows = grows_not tape }

pub tells_nothing : (w : AtWork) (tape : Option (List ShardEntry)) → Tells w tape w tape
tells_nothing w tape = tells_quiet w w tape (makes_nothing w)

pub tells_one : (w v : AtWork) (d : Done) (tape more : Option (List ShardEntry))
    → Makes w (d ∷ []) v
    → Grows tape (entry_of d.event d.answer ∷ []) more
    → Tells w tape v more
tells_one w v d tape more m g = record { log = Did d ∷ []; makes = m; logs = m.led; grows = g }

-- an event is refused, where nothing is done
pub tells_refused : (w v : AtWork) (e : Event) (why : ShardFault) (tape more : Option (List ShardEntry)) → Makes w [] v
    → Refuses v.state e why → Grows tape (refused_entry e why ∷ []) more → Tells w tape v more
tells_refused w v e why tape more m r g = record {
  log = WasRefused v.state e why ∷ [];
  makes = m;
  logs = (r, refl, m.led);
  grows = g;
}

-- a drop for which there is no job
pub tells_no_job : (w v : AtWork) (tape more : Option (List ShardEntry))
    → Makes w [] v
    → v.state.hand ≡ None
    → Grows tape (refused_entry (DropJob None) NoJob ∷ []) more
    → Tells w tape v more
tells_no_job w v tape more m none g =
    tells_refused w v (DropJob None) NoJob tape more m (inr (record { event_is = refl; hand = none; why_is = refl })) g

-- these steps, as what was done and refused
abbrev did_all : List Done → List Made
did_all [] = []
did_all (d ∷ earlier) = Did d ∷ did_all earlier

steps_did : (steps : List Done) → steps_in (did_all steps) ≡ steps
steps_did [] = refl
steps_did (d ∷ earlier) = ap (λ l. d ∷ l) (steps_did earlier)

logs_did : (from to : State) (steps : List Done) → Leads from steps to → Logs from (did_all steps) to
logs_did from to [] l = l
logs_did from to (d ∷ earlier) l = (l.0, logs_did from d.before earlier l.1)

-- several steps, where no tape is kept
pub tells_steps : (w v : AtWork) (steps : List Done) (tape : Option (List ShardEntry)) → Makes w steps v
    → ((entries : List ShardEntry) → Grows tape entries tape) → Tells w tape v tape
tells_steps w v steps tape m grows = record {
  log = did_all steps;
  makes = subst (λ s. Makes w s v) (sym (steps_did steps)) m;
  logs = logs_did w.state v.state steps m.led;
  grows = grows (entries_of (did_all steps));
}

pub tells_join : (a b c : AtWork) (s t u : Option (List ShardEntry)) → Tells a s b t → Tells b t c u → Tells a s c u
tells_join a b c s t u m n = record {
  log = n.log ++ m.log;
  makes =
      subst (λ steps. Makes a steps c) (sym (steps_join m.log n.log))
      (makes_join a b c (steps_in m.log) (steps_in n.log) m.makes n.makes);
  logs = logs_join a.state b.state c.state m.log n.log m.logs n.logs;
  grows =
      subst (λ es. Grows s es u) (sym (entries_join m.log n.log))
      (grows_join s t u (entries_of m.log) (entries_of n.log) m.grows n.grows);
}

-- the tape of all that a shard did goes on
pub tape_more : (shards : ℕ) (w v : AtWork) (tape more : Option (List ShardEntry))
    → IsTape shards w tape
    → Tells w tape v more
    → IsTape shards v more
tape_more shards w v tape more t n =
    subst (λ s. Tells (at_start s shards) (Some []) v more) (sym n.makes.shard)
    (tells_join (at_start w.part.shard shards) w v (Some []) tape more t n)

-- an event of a client, or a collect
pub client_tells : (w v : AtWork) (e : Event) (answer : Answer) (tape more : Option (List ShardEntry))
    → is_client e ≡ true
    → shard_refusal w.state e ≡ None
    → Does w e answer v
    → Grows tape (entry_of e answer ∷ []) more
    → Tells w tape v more
client_tells w v e answer tape more c free d g =
    let step : Done = record { before = w.state; event = e; answer = shard_answer w.state e } in
    subst (λ x. Tells w tape x more) (sym d.after)
    (tells_one w (with_state w _) step tape more (client_makes w e c free)
    (subst (λ a. Grows tape (entry_of e a ∷ []) more) d.answered g))

-- what a refusal leaves
pub refused_same : {R : Type 0} (cause : Option R) (same : Type 0) (why : Failure R) → IsRefused cause same why → same
refused_same cause same (Refused fault) h = h.1
refused_same cause same OutOfMemory h = h.1

-- the job that waited is the one that is dropped
pub waiting_dropped : (waits : Bool) (lane hand : Option Job) (job : Job)
    → (waits ≡ true → hand ≡ None)
    → option_or hand (cond waits lane None) ≡ Some job
    → cond waits lane None ≡ cond waits (Some job) None
waiting_dropped true lane hand job alone is = (λ k. option_or (sym (alone refl) k) lane) ∙ is
waiting_dropped false lane hand job alone is = refl

-- where a job waits, none is in hand
pub waits_alone : (shards next_index : ℕ) (state : State) (part : ShardPart) (popped : List Job) (lane : Option Job)
    (waits : Bool)
    → IsAtWork shards next_index (seen_as state part popped lane waits)
    → (waits ≡ true → is_some lane ≡ true)
    → waits ≡ true
    → state.hand ≡ None
waits_alone shards next_index state part popped (Some job) waits i held on =
    (i.waits job (ap (λ b. cond b (Some job) None) on)).alone
waits_alone shards next_index state part popped None waits i held on = absurd (true≢false (sym (held on)))

-- a drop is written with the job that it drops
pub dropped_tells : (w : AtWork) (job : Job)
    → IsDropped w job
    → (tape more : Option (List ShardEntry))
    → Grows tape (drop_entry w.waiting (Some job) ∷ []) more
    → Tells w tape (with_dropped w) more
dropped_tells w job d tape more g =
    tells_one w (with_dropped w) (step_of w.state (DropJob w.waiting)) tape more (dropped_makes w job d)
    (subst (λ o. Grows tape (drop_entry w.waiting o ∷ []) more) (sym d.job_is) g)
