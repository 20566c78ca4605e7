-- A server alone with one shard: what it refuses, and what its steps make of it, by its shard.
use Rattle.std.proofs.Common.{◌≡◌, ◌+◌, ◌*◌, ◌≤◌, Bool, false, true≢false, List, [], ◌∷◌, set, Option, Some, None, refl, sym, ap, ◌∙◌, subst, arith, lit<}
use Rattle.std.specs.Prelude.{slice_get, is_some}
use Rattle.std.specs.Option.{option_map}
use Rattle.subj.specs.Servers.{ServerIdentity, IsListed}
use Rattle.subj.specs.declared.limits.TheConstants.{MAX_SERIAL}
use Rattle.claim_race.specs.Race.{RaceState}
use Rattle.shard_core.specs.Closings.{serials_of}
use Rattle.shard_core.specs.ShardSteps.{shard_refusal}
use Rattle.shard_core.specs.declared.faults.ShardFault.{ShardFault}
use Rattle.node_law.specs.declared.faults.NodeFault.TheVariants.{Shard}
use Rattle.node_law.specs.declared.events.ConnEvent.{ConnEvent}
use Rattle.node_law.specs.declared.events.ConnEvent.TheVariants.{Subscribe, Unsubscribe, Reply, SetHeaders, Shut, Detach, Take}
use Rattle.node_law.specs.declared.events.ShardWork.{ShardWork}
use Rattle.node_law.specs.Events.{OfConn, AtShard, NodeEvent, Own}
use Rattle.node_core.specs.Served.{Served, DoesStep, refusal}
use Rattle.node_law.specs.Sound.{SoundNode, LineAt}
use Rattle.node_law.specs.State.{ShardWithJobs, Node}
use Rattle.node_law.specs.Steps.{conn_place, conn_line, shard_line, conn_event, work_event, conn_refusal, work_refusal, event_refusal, line_after, line_after_if, on_line, node_refusal, NodeStep}
use Rattle.node_law.proofs.Interest.Replays.{Distinct}
use Rattle.node_law.proofs.Interest.CountsOpen.{is_collect}
use Rattle.node_law.proofs.Runs.Sound.{run_sound}
use Rattle.mesh_pipe.specs.PipeServing.{pipe_server, first_line, line_in, shard_in, HasRun, IsServing, Steps}
use Rattle.mesh_pipe.proofs.Server.Balance.{weight, IsBalanced, event_balance}

pub listed : IsListed pipe_server
listed = record { apart = λ i j d e lt le. absurd (omega arith); listed = lit< tt }

-- ---- its run

pub run_more : (old new : Served) (event : NodeEvent) (won : Bool)
    → old.server ≡ pipe_server
    → HasRun old.node
    → DoesStep old event won new
    → HasRun new.node
run_more old new event won is ran does = (
  (record { before = old.node; event = event; won = won; race = does.race }) ∷ ran.0,
  (subst (λ s. NodeStep s old.node event won does.race new.node) is does.step, ran.1),
)

pub sound : (s : Served) → IsServing s → SoundNode pipe_server s.node
sound s serving = run_sound pipe_server serving.ran.0 s.node listed serving.ran.1

pub sound_line : (s : Served) (serving : IsServing s) → LineAt pipe_server s.node.race.issued 0 (line_in s)
sound_line s serving =
    (sound s serving).lines 0 (line_in s) (ap (λ (ls : List ShardWithJobs). slice_get ls 0) serving.line)

pub apart : (s : Served) → IsServing s → Distinct (serials_of (shard_in s).subs)
apart s serving = (sound_line s serving).sound.apart

-- ---- its one line

pub conn_there : (s : Served) → IsServing s → conn_line pipe_server s.node 1 ≡ Some (line_in s)
conn_there s serving = ap (λ (ls : List ShardWithJobs). slice_get ls 0) serving.line

pub shard_there : (s : Served) → IsServing s → shard_line s.node 1 ≡ Some (line_in s)
shard_there s serving = ap (λ (ls : List ShardWithJobs). slice_get ls 0) serving.line

pub conn_refuses : (s : Served) (event : ConnEvent)
    → IsServing s
    → refusal s (Own (OfConn 1 event)) ≡ option_map Shard (shard_refusal (shard_in s) (conn_event 1 event))
conn_refuses s event serving =
    ap (λ (server : ServerIdentity). node_refusal server s.node (Own (OfConn 1 event))) serving.server
    ∙ ap (conn_refusal event 1) (conn_there s serving)

pub work_refuses : (s : Served) (work : ShardWork)
    → IsServing s
    → refusal s (Own (AtShard 1 work)) ≡ event_refusal (line_in s) (work_event work false (line_in s))
work_refuses s work serving = ap (work_refusal work) (shard_there s serving)

-- ---- its steps

-- the line, the hub and the race after a step
pub record Becomes (old : Served) (line : ShardWithJobs) (race : RaceState) (new : Served) : Type 0 where
  pub node : new.node ≡ record old.node { lines = line ∷ []; race = race }

pub conn_becomes : (old new : Served) (event : ConnEvent)
    → IsServing old
    → DoesStep old (Own (OfConn 1 event)) false new
    → Becomes old (line_after (conn_event 1 event) (line_in old)) old.node.race new
conn_becomes old new event serving does = record {
  node =
      does.step.after
      ∙ ap (λ (server : ServerIdentity).
      on_line old.node (conn_place server 1) (line_after (conn_event 1 event)) (conn_line server old.node 1))
      serving.server
      ∙ ap (on_line old.node 0 (line_after (conn_event 1 event))) (conn_there old serving)
      ∙ ap (λ (ls : List ShardWithJobs).
      let a : Node = record old.node { lines = set ls 0 (line_after (conn_event 1 event) (line_in old)) } in a)
      serving.line;
}

pub work_becomes : (old new : Served) (work : ShardWork) (won : Bool)
    → IsServing old
    → (does : DoesStep old (Own (AtShard 1 work)) won new)
    → Becomes old (line_after_if (work_event work won (line_in old)) (line_in old)) does.race new
work_becomes old new work won serving does = record {
  node =
      does.step.after
      ∙ ap (λ (o : Option ShardWithJobs).
      let a : Node = record (on_line old.node 0 (λ line. line_after_if (work_event work won line) line) o) {
        race = does.race;
      } in
      a)
      (shard_there old serving)
      ∙ ap (λ (ls : List ShardWithJobs).
      let a : Node = record old.node {
        lines = set ls 0 (line_after_if (work_event work won (line_in old)) (line_in old));
        race = does.race;
      } in
      a)
      serving.line;
}

pub line_becomes : (old new : Served) (line : ShardWithJobs) (race : RaceState)
    → Becomes old line race new
    → line_in new ≡ line
line_becomes old new line race becomes = ap (λ (a : Node). first_line a.lines) becomes.node

-- an event of the shard that isn't refused and no collect leaves a server that serves
pub serves_on : (old new : Served) (event : NodeEvent) (won : Bool) (line : ShardWithJobs) (race : RaceState)
    → IsServing old
    → DoesStep old event won new
    → Becomes old line race new
    → IsBalanced (shard_in old) line.shard
    → IsServing new
serves_on old new event won line race serving does becomes balance =
    let here = line_becomes old new line race becomes in
    let hub = ap (λ (a : Node). a.hub) becomes.node in
    record {
      server = does.server ∙ serving.server;
      line = ap (λ (a : Node). a.lines) becomes.node ∙ ap (λ (l : ShardWithJobs). l ∷ []) (sym here);
      alone = ap (λ h. h.peers) hub ∙ serving.alone;
      published = ap (λ h. h.published) hub ∙ serving.published ∙ sym (ap (λ h. h.issued) hub);
      changed =
          subst (λ (l : ShardWithJobs). new.node.hub.changed + weight l.shard ≤ 2 * l.shard.opened) (sym here)
          (subst (λ n. n + weight line.shard ≤ 2 * line.shard.opened) (sym (ap (λ h. h.changed) hub))
          (let even = balance.even in let before = serving.changed in omega (arith, even, before)));
      opened = subst (λ (l : ShardWithJobs). l.shard.opened ≤ MAX_SERIAL) (sym here) balance.opened;
      ran = run_more old new event won serving.server serving.ran does;
    }

conn_tells_not : (event : ConnEvent) → is_collect (conn_event 1 event) ≡ false
conn_tells_not (Subscribe key sid) = refl
conn_tells_not (Unsubscribe sid max) = refl
conn_tells_not (Reply frame) = refl
conn_tells_not (SetHeaders on) = refl
conn_tells_not (Shut text) = refl
conn_tells_not Detach = refl
conn_tells_not (Take count) = refl

pub no_map : (o : Option ShardFault) → option_map Shard o ≡ None → o ≡ None
no_map None e = refl
no_map (Some x) e = absurd (true≢false (ap is_some e))

pub conn_steps : (old new : Served) (event : ConnEvent)
    → IsServing old
    → DoesStep old (Own (OfConn 1 event)) false new
    → Steps old (conn_event 1 event) new
conn_steps old new event serving does =
    let becomes = conn_becomes old new event serving does in
    let here = line_becomes old new _ _ becomes in
    let cause = no_map (shard_refusal (shard_in old) (conn_event 1 event))
    (sym (conn_refuses old event serving) ∙ does.step.cause) in
    record {
      serving =
          serves_on old new (Own (OfConn 1 event)) false _ _ serving does becomes
          (event_balance (shard_in old) (conn_event 1 event) (apart old serving) cause (conn_tells_not event)
          serving.opened);
      shard = ap (λ (l : ShardWithJobs). l.shard) here;
      waiting = ap (λ (l : ShardWithJobs). l.waiting) here;
    }
