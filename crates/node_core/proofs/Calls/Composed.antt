-- From a line's call to the server's.
use Rattle.std.proofs.Common.{◌≡◌, ◌≢◌, ℕ, zero, suc, ◌+◌, ◌-◌, ◌%◌, ◌≤◌, ◌||◌, Bool, true, false, cond, nat_eq, nat_lt, List, [], ◌∷◌, length, set, map, Option, Some, None, Result, Ok, Err, refl, sym, ap, ◌∙◌, subst, arith}
use Rattle.std.specs.Prelude.{slice_get, slice_index}
use Rattle.std.specs.Option.{option_map, option_or}
use Rattle.std.proofs.lemmas.Option.{none-some, same_Some, slice_get_past}
use Rattle.list_laws.proofs.Tests.{eq_false, lt_false, lt_true}
use Rattle.subj.specs.Servers.{ServerIdentity}
use Rattle.claim_race.specs.Race.{RaceState, IsInTurn, IsFinished, finished_of}
use Rattle.subj.specs.Answers.{IsAnswered, IsDecided}
use Rattle.subj.specs.declared.failures.Failure.{Failure}
use Rattle.subj.specs.declared.failures.Failure.TheVariants.{Refused, OutOfMemory}
use Rattle.shard_core.specs.ShardEvents as of_shard
use Rattle.node_law.specs.declared.faults.NodeFault.{NodeFault}
use Rattle.node_law.specs.declared.faults.NodeFault.TheVariants.{Shard}
use Rattle.shard_core.specs.declared.faults.ShardFault.TheVariants.{NoConn}
use Rattle.node_law.specs.Events.{NodeEvent, Own, OfConn, AtShard}
use Rattle.node_law.specs.declared.events.ConnEvent.{ConnEvent}
use Rattle.node_law.specs.declared.events.ShardWork.{ShardWork}
use Rattle.node_law.specs.declared.events.ShardWork.TheVariants.{End, DropJob}
use Rattle.node_law.specs.State.{ShardWithJobs, Node}
use Rattle.node_law.specs.Steps.{conn_place, conn_line, shard_line, conn_event, work_event, conn_refusal, event_refusal, work_refusal, WorkRace, line_after, line_after_if, set_line}
use Rattle.node_parts.specs.Sides.{HubWithSessions}
use Rattle.node_core.specs.Served.{Served, LineStep, LineEnds, LineDrops, DropStep, WaitsNext, dropped_job, dropped_turn, DoesStep, ConnStep, WorkStep, work_answer, IsKept, served_of_parts, refusal, answer_at, place_of_conn, place_of_shard}
use Rattle.subj.specs.declared.jobs.Job.{Job}
use Rattle.subj.specs.declared.limits.TheConstants.{WINDOW}
use Rattle.shard_core.specs.Lines.{SoundLine, Turns, begun_turn, first_of}
use Rattle.node_law.proofs.Moves.LineEvents.{found}
use Rattle.node_law.proofs.Moves.Nodes.{stays_sound}
use Rattle.node_law.proofs.Claims.Raced.{next_turn}

-- ---- what always holds stays

pub step_keeps : (old : Served) (e : NodeEvent) (won : Bool) (new : Served)
    → IsKept old
    → DoesStep old e won new
    → IsKept new
step_keeps old e won new kept does =
    subst (λ server. IsKept (record { server = server; node = new.node })) (sym does.server) (record {
      listed = kept.listed;
      some = kept.some;
      few = kept.few;
      sound = stays_sound old.server old.node e won does.race new.node kept.listed kept.sound does.step;
    })

pub same_keeps : (old new : Served) → IsKept old → new ≡ old → IsKept new
same_keeps old new kept same = subst IsKept (sym same) kept

-- a call that may be refused and that takes memory
pub answer_keeps : {X : Type 0} (old new : Served) (e : NodeEvent) (won : Bool) (done : X → Type 0)
    (r : Result X (Failure NodeFault))
    → IsKept old
    → ((x : X) → done x → DoesStep old e won new)
    → IsAnswered (refusal old e) done (new ≡ old) r
    → IsKept new
answer_keeps old new e won done (Ok x) kept does h = step_keeps old e won new kept (does x h.1)
answer_keeps old new e won done (Err (Refused why)) kept does h = same_keeps old new kept h.1
answer_keeps old new e won done (Err OutOfMemory) kept does h = same_keeps old new kept h.1

pub decision_keeps : {X : Type 0} (old new : Served) (e : NodeEvent) (won : Bool) (done : X → Type 0)
    (r : Result X NodeFault)
    → IsKept old
    → ((x : X) → done x → DoesStep old e won new)
    → IsDecided (refusal old e) done (new ≡ old) r
    → IsKept new
decision_keeps old new e won done (Ok x) kept does h = step_keeps old e won new kept (does x h.1)
decision_keeps old new e won done (Err why) kept does h = same_keeps old new kept h.1

-- ---- lists

write_same : {A : Type 0} (xs : List A) (n : ℕ) (a : A) → slice_get xs n ≡ Some a → set xs n a ≡ xs
write_same [] n a e = refl
write_same (x ∷ xs) zero a e = ap (λ t. t ∷ xs) (sym (same_Some x a e))
write_same (x ∷ xs) (suc n) a e = ap (λ t. x ∷ t) (write_same xs n a e)

-- ---- which line it is

record IsPlace (server : ServerIdentity) (a : Node) (conn place : ℕ) (line : ShardWithJobs) : Type 0 where
  at : conn_place server conn ≡ place
  is : conn_line server a conn ≡ Some line

conn_found : (server : ServerIdentity) (a : Node) (conn count place : ℕ) (o : Option ℕ) (line : ShardWithJobs)
    → length a.lines ≡ server.shards
    → count ≡ length a.lines
    → o ≡ place_of_conn count conn
    → o ≡ Some place
    → slice_get a.lines place ≡ Some line
    → IsPlace server a conn place line
conn_found server a conn count place o line size is_count given some here = go (nat_eq conn 0) refl (sym given ∙ some)
  where
    at_place : (conn - 1) % count ≡ place → conn_place server conn ≡ place
    at_place e = ap (λ k. (conn - 1) % k) (sym (is_count ∙ size)) ∙ e

    go : (b : Bool)
        → nat_eq conn 0 ≡ b
        → cond b None (Some ((conn - 1) % count)) ≡ Some place
        → IsPlace server a conn place line
    go true z e = absurd (none-some place e)
    go false z e =
        let at = at_place (same_Some ((conn - 1) % count) place e) in
        record {
          at = at;
          is = ap (λ b. cond b None (slice_get a.lines (conn_place server conn))) z ∙ ap (slice_get a.lines) at ∙ here;
        }

pub record IsShard (a : Node) (shard place : ℕ) (line : ShardWithJobs) : Type 0 where
  pub at : shard - 1 ≡ place
  pub is : shard_line a shard ≡ Some line
  pub first : 1 ≤ shard
  pub last : shard ≤ length a.lines

positive : (m : ℕ) → m ≢ 0 → 1 ≤ m
positive zero n = absurd (n refl)
positive (suc m) n = omega arith

pub shard_found : (a : Node) (shard count place : ℕ) (o : Option ℕ) (line : ShardWithJobs)
    → count ≡ length a.lines
    → o ≡ place_of_shard count shard
    → o ≡ Some place
    → slice_get a.lines place ≡ Some line
    → IsShard a shard place line
shard_found a shard count place o line is_count given some here =
    go (nat_eq shard 0) refl (nat_lt count shard) refl (sym given ∙ some)
  where
    go : (b : Bool)
        → nat_eq shard 0 ≡ b
        → (d : Bool)
        → nat_lt count shard ≡ d
        → cond (b || d) None (Some (shard - 1)) ≡ Some place
        → IsShard a shard place line
    go true z d y e = absurd (none-some place e)
    go false z true y e = absurd (none-some place e)
    go false z false y e =
        let at = same_Some (shard - 1) place e in
        let apart = eq_false shard 0 z in
        let within = lt_false count shard y in
        record {
          at = at;
          is = ap (λ b. cond b None (slice_get a.lines (shard - 1))) z ∙ ap (slice_get a.lines) at ∙ here;
          first = positive shard apart;
          last = omega arith;
        }

-- ---- where there is no line

-- a server has some shards
pub some_lines : (side : HubWithSessions) (race : RaceState) (lines : List ShardWithJobs) (count : ℕ)
    → IsKept (served_of_parts side race lines)
    → count ≡ length lines
    → 1 ≤ count
some_lines side race lines count kept is_count = subst (λ n. 1 ≤ n) (sym (is_count ∙ kept.sound.size)) kept.some

pub no_conn : (side : HubWithSessions) (race : RaceState) (lines : List ShardWithJobs) (conn count : ℕ) (o : Option ℕ)
    (event : ConnEvent)
    → o ≡ place_of_conn count conn
    → o ≡ None
    → refusal (served_of_parts side race lines) (Own (OfConn conn event)) ≡ Some (Shard NoConn)
no_conn side race lines conn count o event given none = go (nat_eq conn 0) refl (sym given ∙ none)
  where
    go : (b : Bool)
        → nat_eq conn 0 ≡ b
        → cond b None (Some ((conn - 1) % count)) ≡ None
        → refusal (served_of_parts side race lines) (Own (OfConn conn event)) ≡ Some (Shard NoConn)
    go true z e = ap (λ b. conn_refusal event conn (cond b None (slice_get lines (conn_place side.server conn)))) z
    go false z e = absurd (none-some ((conn - 1) % count) (sym e))

pub no_shard : (a : Node) (shard count : ℕ) (o : Option ℕ)
    → count ≡ length a.lines
    → o ≡ place_of_shard count shard
    → o ≡ None
    → shard_line a shard ≡ None
no_shard a shard count o is_count given none = go (nat_eq shard 0) refl (nat_lt count shard) refl (sym given ∙ none)
  where
    here : Bool → Option ShardWithJobs
    here b = cond b None (slice_get a.lines (shard - 1))

    go : (b : Bool)
        → nat_eq shard 0 ≡ b
        → (d : Bool)
        → nat_lt count shard ≡ d
        → cond (b || d) None (Some (shard - 1)) ≡ None
        → here (nat_eq shard 0) ≡ None
    go true z d y e = ap here z
    go false z true y e =
        let over = lt_true count shard y in
        ap here z ∙ slice_get_past a.lines (shard - 1) (omega arith)
    go false z false y e = absurd (none-some (shard - 1) (sym e))

-- ---- connections

-- what holds after a call that was answered so
pub record Called (X : Type 0) (old new : Served) (e : NodeEvent) (done : X → Type 0)
    (r : Result X (Failure NodeFault)) : Type 0 where
  pub keeps : IsKept new
  pub answers : IsAnswered (refusal old e) done (new ≡ old) r

pub record Decided (X : Type 0) (old new : Served) (e : NodeEvent) (done : X → Type 0) (r : Result X NodeFault) :
    Type 0 where
  pub keeps : IsKept new
  pub answers : IsDecided (refusal old e) done (new ≡ old) r

pub lines_same : (lines : List ShardWithJobs) (place : ℕ) (line after : ShardWithJobs)
    → slice_get lines place ≡ Some line
    → after ≡ line
    → set lines place after ≡ lines
lines_same lines place line after here same = ap (set lines place) same ∙ write_same lines place line here

conn_done : (side : HubWithSessions) (race : RaceState) (lines : List ShardWithJobs) (conn place : ℕ)
    (event : ConnEvent) (line after : ShardWithJobs) (answer : of_shard.Answer)
    → IsPlace side.server (served_of_parts side race lines).node conn place line
    → event_refusal line (Some (conn_event conn event)) ≡ None
    → LineStep line (conn_event conn event) answer after
    → ConnStep (served_of_parts side race lines) conn event answer (served_of_parts side race (set lines place after))
conn_done side race lines conn place event line after answer p free does = record {
  step = record {
    race = race;
    server = refl;
    step = record {
      cause = ap (conn_refusal event conn) p.is ∙ free;
      moves = refl;
      after =
          let written : set lines place after
          ≡ set_line lines (conn_place side.server conn) (line_after (conn_event conn event))
          (conn_line side.server (served_of_parts side race lines).node conn) =
          ap (set lines place) does.after
          ∙ sym (λ k. set_line lines (p.at k) (line_after (conn_event conn event)) (p.is k)) in
          λ k. (served_of_parts side race (written k)).node;
    };
  };
  answered = ap Some does.answered ∙ sym (ap (answer_at (Some (conn_event conn event))) p.is);
}

pub conn_call : {X : Type 0} (side : HubWithSessions) (race : RaceState) (lines : List ShardWithJobs)
    (conn count place : ℕ) (o : Option ℕ) (event : ConnEvent) (line after : ShardWithJobs)
    (answer : X → of_shard.Answer) (r : Result X (Failure NodeFault))
    → IsKept (served_of_parts side race lines)
    → count ≡ length lines
    → o ≡ place_of_conn count conn
    → o ≡ Some place
    → slice_get lines place ≡ Some line
    → IsAnswered (event_refusal line (Some (conn_event conn event)))
    (λ x. LineStep line (conn_event conn event) (answer x) after) (after ≡ line) r
    → Called X (served_of_parts side race lines) (served_of_parts side race (set lines place after))
    (Own (OfConn conn event))
    (λ x.
    ConnStep (served_of_parts side race lines) conn event (answer x)
    (served_of_parts side race (set lines place after)))
    r
conn_call {X = X} side race lines conn count place o event line after answer r kept is_count given some here h =
    record {
      keeps =
          answer_keeps old new (Own (OfConn conn event)) false (λ x. ConnStep old conn event (answer x) new) r kept
          (λ x d. d.step) (go r h);
      answers = go r h;
    }
  where
    old : Served
    old = served_of_parts side race lines

    new : Served
    new = served_of_parts side race (set lines place after)

    p : IsPlace side.server old.node conn place line
    p = conn_found side.server old.node conn count place o line kept.sound.size is_count given some here

    cause : (c : Option NodeFault)
        → event_refusal line (Some (conn_event conn event)) ≡ c
        → refusal old (Own (OfConn conn event)) ≡ c
    cause c e = ap (conn_refusal event conn) p.is ∙ e

    same : after ≡ line → new ≡ old
    same e = ap (served_of_parts side race) (lines_same lines place line after here e)

    go : (r : Result X (Failure NodeFault))
        → IsAnswered (event_refusal line (Some (conn_event conn event)))
        (λ x. LineStep line (conn_event conn event) (answer x) after) (after ≡ line) r
        → IsAnswered (refusal old (Own (OfConn conn event))) (λ x. ConnStep old conn event (answer x) new) (new ≡ old) r
    go (Ok x) g = (cause None g.0, conn_done side race lines conn place event line after (answer x) p g.0 g.1)
    go (Err (Refused why)) g = (cause (Some why) g.0, same g.1)
    go (Err OutOfMemory) g = (cause None g.0, same g.1)

pub conn_decision : {X : Type 0} (side : HubWithSessions) (race : RaceState) (lines : List ShardWithJobs)
    (conn count place : ℕ) (o : Option ℕ) (event : ConnEvent) (line after : ShardWithJobs)
    (answer : X → of_shard.Answer) (r : Result X NodeFault)
    → IsKept (served_of_parts side race lines)
    → count ≡ length lines
    → o ≡ place_of_conn count conn
    → o ≡ Some place
    → slice_get lines place ≡ Some line
    → IsDecided (event_refusal line (Some (conn_event conn event)))
    (λ x. LineStep line (conn_event conn event) (answer x) after) (after ≡ line) r
    → Decided X (served_of_parts side race lines) (served_of_parts side race (set lines place after))
    (Own (OfConn conn event))
    (λ x.
    ConnStep (served_of_parts side race lines) conn event (answer x)
    (served_of_parts side race (set lines place after)))
    r
conn_decision {X = X} side race lines conn count place o event line after answer r kept is_count given some here h =
    record {
      keeps =
          decision_keeps old new (Own (OfConn conn event)) false (λ x. ConnStep old conn event (answer x) new) r kept
          (λ x d. d.step) (go r h);
      answers = go r h;
    }
  where
    old : Served
    old = served_of_parts side race lines

    new : Served
    new = served_of_parts side race (set lines place after)

    p : IsPlace side.server old.node conn place line
    p = conn_found side.server old.node conn count place o line kept.sound.size is_count given some here

    cause : (c : Option NodeFault)
        → event_refusal line (Some (conn_event conn event)) ≡ c
        → refusal old (Own (OfConn conn event)) ≡ c
    cause c e = ap (conn_refusal event conn) p.is ∙ e

    go : (r : Result X NodeFault)
        → IsDecided (event_refusal line (Some (conn_event conn event)))
        (λ x. LineStep line (conn_event conn event) (answer x) after) (after ≡ line) r
        → IsDecided (refusal old (Own (OfConn conn event))) (λ x. ConnStep old conn event (answer x) new) (new ≡ old) r
    go (Ok x) g = (cause None g.0, conn_done side race lines conn place event line after (answer x) p g.0 g.1)
    go (Err why) g = (cause (Some why) g.0, ap (served_of_parts side race) (lines_same lines place line after here g.1))

-- ---- shards

-- the step of a shard's work, with the race after it
pub work_done : (side : HubWithSessions) (race new_race : RaceState) (lines : List ShardWithJobs) (shard place : ℕ)
    (work : ShardWork) (won : Bool) (line after : ShardWithJobs)
    → IsShard (served_of_parts side race lines).node shard place line
    → event_refusal line (work_event work false line) ≡ None
    → after ≡ line_after_if (work_event work won line) line
    → WorkRace race shard work (Some line) won new_race
    → DoesStep (served_of_parts side race lines) (Own (AtShard shard work)) won
    (served_of_parts side new_race (set lines place after))
work_done side race new_race lines shard place work won line after p free does moves =
    let a : Node = (served_of_parts side race lines).node in
    record {
      race = new_race;
      server = refl;
      step = record {
        cause = ap (work_refusal work) p.is ∙ free;
        moves = subst (λ o. WorkRace race shard work o won new_race) (sym p.is) moves;
        after =
            let written : set lines place after
            ≡ set_line lines (shard - 1) (λ line. line_after_if (work_event work won line) line) (shard_line a shard) =
            ap (set lines place) does
            ∙ sym (λ k. set_line lines (p.at k) (λ line. line_after_if (work_event work won line) line) (p.is k)) in
            λ k. (served_of_parts side new_race (written k)).node;
      };
    }

-- of work that moves no race
pub work_call : {X : Type 0} (side : HubWithSessions) (race : RaceState) (lines : List ShardWithJobs)
    (shard count place : ℕ) (o : Option ℕ) (work : ShardWork) (line after : ShardWithJobs) (done : X → Type 0)
    (fact : X → Type 0) (r : Result X (Failure NodeFault))
    → IsKept (served_of_parts side race lines)
    → count ≡ length lines
    → o ≡ place_of_shard count shard
    → o ≡ Some place
    → slice_get lines place ≡ Some line
    → WorkRace race shard work (Some line) false race
    → ((x : X) → done x → after ≡ line_after_if (work_event work false line) line)
    → (shard_line (served_of_parts side race lines).node shard ≡ Some line → (x : X) → done x → fact x)
    → IsAnswered (event_refusal line (work_event work false line)) done (after ≡ line) r
    → Called X (served_of_parts side race lines) (served_of_parts side race (set lines place after))
    (Own (AtShard shard work))
    (λ x.
    DoesStep (served_of_parts side race lines) (Own (AtShard shard work)) false
    (served_of_parts side race (set lines place after))
    × fact x)
    r
work_call {X = X} side race lines shard count place o work line after done fact r kept is_count given some here moves
    does told h = record {
      keeps =
          answer_keeps old new (Own (AtShard shard work)) false
          (λ x. DoesStep old (Own (AtShard shard work)) false new × fact x) r kept (λ x d. d.0) (go r h);
      answers = go r h;
    }
  where
    old : Served
    old = served_of_parts side race lines

    new : Served
    new = served_of_parts side race (set lines place after)

    p : IsShard old.node shard place line
    p = shard_found old.node shard count place o line is_count given some here

    cause : (c : Option NodeFault)
        → event_refusal line (work_event work false line) ≡ c
        → refusal old (Own (AtShard shard work)) ≡ c
    cause c e = ap (work_refusal work) p.is ∙ e

    same : after ≡ line → new ≡ old
    same e = ap (served_of_parts side race) (lines_same lines place line after here e)

    go : (r : Result X (Failure NodeFault))
        → IsAnswered (event_refusal line (work_event work false line)) done (after ≡ line) r
        → IsAnswered (refusal old (Own (AtShard shard work)))
        (λ x. DoesStep old (Own (AtShard shard work)) false new × fact x) (new ≡ old) r
    go (Ok x) g = (
      cause None g.0,
      (work_done side race race lines shard place work false line after p g.0 (does x g.1) moves, told p.is x g.1),
    )
    go (Err (Refused why)) g = (cause (Some why) g.0, same g.1)
    go (Err OutOfMemory) g = (cause None g.0, same g.1)

-- the same of work that takes no memory
pub work_decision : {X : Type 0} (side : HubWithSessions) (race : RaceState) (lines : List ShardWithJobs)
    (shard count place : ℕ) (o : Option ℕ) (work : ShardWork) (line after : ShardWithJobs) (done : X → Type 0)
    (fact : X → Type 0) (r : Result X NodeFault)
    → IsKept (served_of_parts side race lines)
    → count ≡ length lines
    → o ≡ place_of_shard count shard
    → o ≡ Some place
    → slice_get lines place ≡ Some line
    → WorkRace race shard work (Some line) false race
    → ((x : X) → done x → after ≡ line_after_if (work_event work false line) line)
    → (shard_line (served_of_parts side race lines).node shard ≡ Some line → (x : X) → done x → fact x)
    → IsDecided (event_refusal line (work_event work false line)) done (after ≡ line) r
    → Decided X (served_of_parts side race lines) (served_of_parts side race (set lines place after))
    (Own (AtShard shard work))
    (λ x.
    DoesStep (served_of_parts side race lines) (Own (AtShard shard work)) false
    (served_of_parts side race (set lines place after))
    × fact x)
    r
work_decision {X = X} side race lines shard count place o work line after done fact r kept is_count given some here
    moves does told h = record {
      keeps =
          decision_keeps old new (Own (AtShard shard work)) false
          (λ x. DoesStep old (Own (AtShard shard work)) false new × fact x) r kept (λ x d. d.0) (go r h);
      answers = go r h;
    }
  where
    old : Served
    old = served_of_parts side race lines

    new : Served
    new = served_of_parts side race (set lines place after)

    p : IsShard old.node shard place line
    p = shard_found old.node shard count place o line is_count given some here

    cause : (c : Option NodeFault)
        → event_refusal line (work_event work false line) ≡ c
        → refusal old (Own (AtShard shard work)) ≡ c
    cause c e = ap (work_refusal work) p.is ∙ e

    go : (r : Result X NodeFault)
        → IsDecided (event_refusal line (work_event work false line)) done (after ≡ line) r
        → IsDecided (refusal old (Own (AtShard shard work)))
        (λ x. DoesStep old (Own (AtShard shard work)) false new × fact x) (new ≡ old) r
    go (Ok x) g = (
      cause None g.0,
      (work_done side race race lines shard place work false line after p g.0 (does x g.1) moves, told p.is x g.1),
    )
    go (Err why) g = (cause (Some why) g.0, ap (served_of_parts side race) (lines_same lines place line after here g.1))

-- an answer with another word for what was done
pub reworded : {X : Type 0} (cause : Option NodeFault) (same : Type 0) (done fact : X → Type 0)
    (r : Result X (Failure NodeFault))
    → ((x : X) → done x → fact x)
    → IsAnswered cause done same r
    → IsAnswered cause fact same r
reworded cause same done fact (Ok x) f h = (h.0, f x h.1)
reworded cause same done fact (Err (Refused why)) f h = h
reworded cause same done fact (Err OutOfMemory) f h = h

pub redecided : {X : Type 0} (cause : Option NodeFault) (same : Type 0) (done fact : X → Type 0)
    (r : Result X NodeFault)
    → ((x : X) → done x → fact x)
    → IsDecided cause done same r
    → IsDecided cause fact same r
redecided cause same done fact (Ok x) f h = (h.0, f x h.1)
redecided cause same done fact (Err why) f h = h

-- ---- a turn is finished

index_map : {A : Type 0} (f : A → ℕ) (xs : List A) (n : ℕ) (a : A)
    → slice_get xs n ≡ Some a
    → slice_index (map f xs) n ≡ f a
index_map f [] n a e = absurd (none-some a e)
index_map f (x ∷ xs) zero a e = ap f (same_Some x a e)
index_map f (x ∷ xs) (suc n) a e = index_map f xs n a e

map_length : {A B : Type 0} (f : A → B) (xs : List A) → length (map f xs) ≡ length xs
map_length f [] = refl
map_length f (x ∷ xs) = ap suc (map_length f xs)

turns_most : (b k : ℕ) (waiting : List Job) → Turns b waiting k → b ≤ k
turns_most b k [] t = omega arith
turns_most b k (job ∷ jobs) t = let z = turns_most (suc b) k jobs t.1 in omega arith

-- the job in hand is that of the turn that the race waits for
pub held_turn : (s : Served) (shard place turn : ℕ) (line : ShardWithJobs)
    → IsKept s
    → IsShard s.node shard place line
    → option_map (λ (job : Job). job.turn) line.shard.hand ≡ Some turn
    → (turn ≡ line.shard.finished + 1) × IsInTurn s.node.race shard turn
held_turn s shard place turn line kept p held = go line.shard.hand refl held
  where
    here : slice_get s.node.lines place ≡ Some line
    here =
        subst (λ q. slice_get s.node.lines q ≡ Some line) p.at
        (found (nat_eq shard 0) (slice_get s.node.lines (shard - 1)) line p.is)

    sound : SoundLine WINDOW s.node.race.issued line.shard line.waiting
    sound = (kept.sound.lines place line here).sound

    finished : finished_of s.node.race shard ≡ line.shard.finished
    finished =
        ap (λ q. slice_index s.node.race.finished q) p.at
        ∙ ap (λ t. slice_index t place) kept.sound.raced.finished
        ∙ index_map (λ (l : ShardWithJobs). l.shard.finished) s.node.lines place line here

    go : (hand : Option Job)
        → line.shard.hand ≡ hand
        → option_map (λ (job : Job). job.turn) hand ≡ Some turn
        → (turn ≡ line.shard.finished + 1) × IsInTurn s.node.race shard turn
    go None is e = absurd (none-some turn e)
    go (Some job) is e =
        let t = same_Some job.turn turn e in
        let next = sound.hand job is in
        let most = turns_most (suc line.shard.finished) s.node.race.issued line.waiting
        (subst (λ h. Turns (begun_turn h line.shard.finished) line.waiting s.node.race.issued) is sound.turns) in
        let size =
        ap length kept.sound.raced.finished ∙ map_length (λ (l : ShardWithJobs). l.shard.finished) s.node.lines in
        let last = p.last in
        let at = finished in
        (omega arith, record { first = p.first; last = omega arith; follows = omega arith; issued = omega arith })

pub end_done : (side : HubWithSessions) (race new_race : RaceState) (lines : List ShardWithJobs) (shard place turn : ℕ)
    (line after : ShardWithJobs)
    → IsKept (served_of_parts side race lines)
    → IsShard (served_of_parts side race lines).node shard place line
    → event_refusal line (Some of_shard.End) ≡ None
    → LineEnds line turn after
    → IsFinished race shard turn new_race
    → WorkStep (served_of_parts side race lines) shard End false of_shard.Finished
    (served_of_parts side new_race (set lines place after))
end_done side race new_race lines shard place turn line after kept p free ends over = record {
  step =
      work_done side race new_race lines shard place End false line after p free ends.after
      (subst (λ t. IsFinished race shard t new_race)
      (held_turn (served_of_parts side race lines) shard place turn line kept p ends.held).0 over);
  answered = sym (ap (work_answer End false) p.is);
}

-- so with the job that a drop takes
pub dropped_held : (s : Served) (shard place turn : ℕ) (line : ShardWithJobs)
    → IsKept s
    → IsShard s.node shard place line
    → option_map (λ (job : Job). job.turn) (dropped_job line) ≡ Some turn
    → (turn ≡ line.shard.finished + 1) × IsInTurn s.node.race shard turn
dropped_held s shard place turn line kept p held = go line.shard.hand refl held
  where
    here : slice_get s.node.lines place ≡ Some line
    here =
        subst (λ q. slice_get s.node.lines q ≡ Some line) p.at
        (found (nat_eq shard 0) (slice_get s.node.lines (shard - 1)) line p.is)

    sound : SoundLine WINDOW s.node.race.issued line.shard line.waiting
    sound = (kept.sound.lines place line here).sound

    finished : finished_of s.node.race shard ≡ line.shard.finished
    finished =
        ap (λ q. slice_index s.node.race.finished q) p.at
        ∙ ap (λ t. slice_index t place) kept.sound.raced.finished
        ∙ index_map (λ (l : ShardWithJobs). l.shard.finished) s.node.lines place line here

    first : (waiting : List Job)
        → Turns line.shard.finished waiting s.node.race.issued
        → option_map (λ (job : Job). job.turn) (first_of waiting) ≡ Some turn
        → (turn ≡ suc line.shard.finished) × (suc line.shard.finished ≤ s.node.race.issued)
    first [] t e = absurd (none-some turn e)
    first (job ∷ jobs) t e = (
      sym (same_Some job.turn turn e) ∙ t.0,
      turns_most (suc line.shard.finished) s.node.race.issued jobs t.1,
    )

    go : (hand : Option Job)
        → line.shard.hand ≡ hand
        → option_map (λ (job : Job). job.turn) (option_or hand (first_of line.waiting)) ≡ Some turn
        → (turn ≡ line.shard.finished + 1) × IsInTurn s.node.race shard turn
    go (Some job) is e = held_turn s shard place turn line kept p (ap (option_map (λ (job : Job). job.turn)) is ∙ e)
    go None is e =
        let t = first line.waiting
        (subst (λ h. Turns (begun_turn h line.shard.finished) line.waiting s.node.race.issued) is sound.turns) e in
        let next = t.0 in
        let most = t.1 in
        let size =
        ap length kept.sound.raced.finished ∙ map_length (λ (l : ShardWithJobs). l.shard.finished) s.node.lines in
        let last = p.last in
        let at = finished in
        (omega arith, record { first = p.first; last = omega arith; follows = omega arith; issued = omega arith })

pub waits_next : (s : Served) (shard place : ℕ) (line : ShardWithJobs)
    → IsKept s
    → IsShard s.node shard place line
    → WaitsNext line
waits_next s shard place line kept p job free first =
    let here = subst (λ q. slice_get s.node.lines q ≡ Some line) p.at
    (found (nat_eq shard 0) (slice_get s.node.lines (shard - 1)) line p.is) in
    let next = next_turn line.shard line.waiting s.node.race.issued job (kept.sound.lines place line here).sound.turns
    free first in
    omega arith

pub drop_done : (side : HubWithSessions) (race new_race : RaceState) (lines : List ShardWithJobs) (shard place turn : ℕ)
    (line after : ShardWithJobs)
    → IsKept (served_of_parts side race lines)
    → IsShard (served_of_parts side race lines).node shard place line
    → event_refusal line (work_event DropJob false line) ≡ None
    → LineDrops line turn after
    → IsFinished race shard turn new_race
    → DropStep (served_of_parts side race lines) shard turn (served_of_parts side new_race (set lines place after))
drop_done side race new_race lines shard place turn line after kept p free drops over = record {
  step =
      work_done side race new_race lines shard place DropJob false line after p free drops.after
      (subst (λ t. IsFinished race shard t new_race)
      (dropped_held (served_of_parts side race lines) shard place turn line kept p drops.held).0 over);
  answered = ap dropped_turn p.is ∙ drops.held;
}
