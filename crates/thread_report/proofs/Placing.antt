-- What is written down of a shard names the messages that it placed.
use Rattle.std.proofs.Common.{◌≡◌, ℕ, Bool, true, false, List, [], ◌∷◌, ◌++◌, All, map, Option, Some, None, refl, sym, ap, ◌∙◌, subst, append-nil}
use Rattle.std.specs.Prelude.{option_to_list, slice_get}
use Rattle.std.proofs.lemmas.List.Concat.{flat_map-append}
use mathlib.Core.Option.{some-ne-none}
use Rattle.outbox.specs.declared.entries.Mode.{Mode}
use Rattle.subj.specs.declared.identities.PubId.{PubId}
use Rattle.subj.specs.declared.identities.SubId.{SubId}
use Rattle.sub_table.specs.declared.Subscription.{Subscription}
use Rattle.subj.specs.declared.jobs.Job.{Job}
use Rattle.claim_cells.specs.Rule.{At}
use Rattle.shard_core.specs.Owed.{candidate_of}
use Rattle.shard_core.specs.ShardEvents.{Event, Attach, Subscribe, Unsubscribe, Reply, SetHeaders, Shut, Detach, Take, Begin, Claim, End, DropJob, Drain, Collect}
use Rattle.shard_core.specs.ShardSteps.{claim_answer, shard_answer, sub_called, subscribe_answer}
use Rattle.shard_core.specs.Shards.{State}
use Rattle.shard_core.specs.declared.calls.Placed.{Placed}
use Rattle.shard_core.specs.declared.faults.ShardFault.{ShardFault}
use Rattle.node_threads.specs.Logs.{Made, Did, WasRefused, Logs, steps_in}
use Rattle.node_threads.specs.Steps.{placed_by, placed_in}
use Rattle.node_threads.specs.Tapes.{entries_of, entry_of, refused_entry}
use Rattle.node_threads.specs.declared.shard_entries.ShardEntry.{ShardEntry}
use Rattle.thread_law.specs.Once.{ArePutOnce, IsPut, puts_of}
use Rattle.thread_law.specs.Runs.{ShardRun}
use Rattle.thread_law.proofs.Places.{at_unmap}
use Rattle.thread_node.proofs.Starting.{all_first, all_rest}
use Rattle.thread_report.specs.Placements.{ArePlaced, all_placements, placements_in, placements_on, put_in}
use Rattle.thread_report.specs.Reports.{AreWritten, IsLogged, ShardLog, entries_written, run_of}

-- ---- of one step

by_claim : (s : State) (hand : Option Job) (chosen : Option Subscription) (won : Bool)
    → option_to_list (slice_get (placed_in (claim_answer s hand chosen won)) 0)
    ≡ placed_in (claim_answer s hand chosen won)
by_claim s None chosen won = refl
by_claim s (Some job) None won = refl
by_claim s (Some job) (Some sub) true = refl
by_claim s (Some job) (Some sub) false = refl

by_step : (s : State) (e : Event) → placements_in (entry_of e (shard_answer s e)).event ≡ placed_in (shard_answer s e)
by_step s Attach = refl
by_step s (Subscribe conn key sid) = go (sub_called conn sid s.subs)
  where
    go : (called : Option Subscription) → [] ≡ placed_in (subscribe_answer s called)
    go None = refl
    go (Some sub) = refl
by_step s (Unsubscribe conn sid max) = refl
by_step s (Reply conn frame) = refl
by_step s (SetHeaders conn on) = refl
by_step s (Shut conn text) = refl
by_step s (Detach conn) = refl
by_step s (Take conn count) = refl
by_step s (Begin job) = refl
by_step s (Claim index won) = by_claim s s.hand (candidate_of s s.hand index) won
by_step s End = refl
by_step s (DropJob waiting) = refl
by_step s Drain = refl
by_step s Collect = refl

by_refusal : (e : Event) (why : ShardFault) → placements_in (refused_entry e why).event ≡ []
by_refusal Attach why = refl
by_refusal (Subscribe conn key sid) why = refl
by_refusal (Unsubscribe conn sid max) why = refl
by_refusal (Reply conn frame) why = refl
by_refusal (SetHeaders conn on) why = refl
by_refusal (Shut conn text) why = refl
by_refusal (Detach conn) why = refl
by_refusal (Take conn count) why = refl
by_refusal (Begin job) why = refl
by_refusal (Claim index won) why = refl
by_refusal End why = refl
by_refusal (DropJob waiting) why = refl
by_refusal Drain why = refl
by_refusal Collect why = refl

-- ---- of all that a shard did and refused

one_more : (tape : List ShardEntry) (entry : ShardEntry)
    → placements_on (tape ++ entry ∷ []) ≡ placements_on tape ++ placements_in entry.event
one_more tape entry =
    flat_map-append (λ (e : ShardEntry). placements_in e.event) tape (entry ∷ [])
    ∙ ap (λ l. placements_on tape ++ l) (append-nil (placements_in entry.event))

by_log : (from : State) (log : List Made) (to : State)
    → Logs from log to
    → placements_on (entries_of log) ≡ placed_by (steps_in log)
by_log from [] to is = refl
by_log from (Did d ∷ earlier) to (done, led) =
    let here : placements_in (entry_of d.event d.answer).event ≡ placed_in d.answer =
    ap (λ a. placements_in (entry_of d.event a).event) done.answered ∙ by_step d.before d.event
    ∙ ap placed_in (sym done.answered) in
    one_more (entries_of earlier) (entry_of d.event d.answer)
    ∙ (λ i. by_log from earlier d.before led i ++ here i)
by_log from (WasRefused before e why ∷ earlier) to (refuses, same, led) =
    let tape = entries_of earlier in
    one_more tape (refused_entry e why) ∙ ap (λ l. placements_on tape ++ l) (by_refusal e why)
    ∙ append-nil (placements_on tape) ∙ by_log from earlier before led

-- ---- of all shards

by_shard : (kept : Bool) (shards : ℕ) (l : ShardLog)
    → IsLogged shards l
    → placements_on (entries_written kept l) ≡ put_in kept (run_of l)
by_shard true shards l logged = by_log _ l.log l.end.state logged
by_shard false shards l logged = refl

by_shards : (kept : Bool) (shards : ℕ) (logs : List ShardLog)
    → All (IsLogged shards) logs
    → all_placements (map (entries_written kept) logs) ≡ map (put_in kept) (map run_of logs)
by_shards kept shards [] logged = refl
by_shards kept shards (l ∷ logs) logged =
    let first = by_shard kept shards l (all_first (IsLogged shards) l logs logged) in
    let rest = by_shards kept shards logs (all_rest (IsLogged shards) l logs logged) in
    (λ i. first i ∷ rest i)

pub are_placed : (kept : Bool) (shards : ℕ) (runs : List ShardRun) (tapes : List (List ShardEntry))
    → AreWritten kept shards runs tapes
    → ArePlaced kept runs tapes
are_placed kept shards runs tapes w =
    ap all_placements w.tapes_are ∙ by_shards kept shards w.logs w.logged ∙ ap (map (put_in kept)) (sym w.runs_are)

-- ---- each is put once

none_put : (runs : List ShardRun) (shard place : ℕ) (id : PubId) (sub : SubId) (mode : Mode)
    → IsPut (map (put_in false) runs) shard place id sub mode
    → ⊥
none_put runs shard place id sub mode p =
    let u = at_unmap (put_in false) runs shard p.by_shard p.of_shard in
    some-ne-none p.put (sym (subst (λ (l : List Placed). At l place p.put) (sym u.2) p.there))

pub are_once : (kept : Bool) (runs : List ShardRun) (tapes : List (List ShardEntry))
    → ArePlaced kept runs tapes
    → ArePutOnce (puts_of runs)
    → ArePutOnce (all_placements tapes)
are_once true runs tapes placed once = subst ArePutOnce (sym placed) once
are_once false runs tapes placed once =
    subst ArePutOnce (sym placed) (record {
      members = λ s t i j id u v name a b. absurd (none_put runs s i id u _ a);
      plain = λ s t i j id u a b. absurd (none_put runs s i id u _ a);
      own = λ s i id u mode a. absurd (none_put runs s i id u mode a);
      rising = λ s i j a b u m n x y lt. absurd (none_put runs s i a u m x);
    })
