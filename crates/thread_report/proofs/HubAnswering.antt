-- The tape of a run of the hub and the sessions leads to the run's states, and has the lists of its answers.
use Rattle.std.proofs.Common.{◌≡◌, ◌+◌, true, cond, List, [], ◌∷◌, ◌++◌, append-nil, refl, sym, ap, ◌∙◌}
use Rattle.route_values.specs.declared.bodies.Body.{Body}
use Rattle.route_values.specs.declared.bodies.Body.TheVariants.{Plus, Minus, Snapshot, Msg}
use Rattle.route_values.specs.Frames.{Frame}
use Rattle.hub_core.specs.Events as of_hub
use Rattle.hub_core.specs.State as hub
use Rattle.hub_core.specs.Steps.{received_answer}
use Rattle.route_session.specs.Events as of_sessions
use Rattle.node_law.specs.declared.faults.NodeFault.{NodeFault}
use Rattle.node_parts.specs.Sides.{HubWithSessions, Event, ByHub, BySessions, Answer, IsAsked, IsDone, Done, side_after, side_answer}
use Rattle.thread_node.specs.HubTapes.{Made, Did, WasRefused, Logs, entries_in, entries_with, asked_of, hub_entries, hub_entry, told_by_hub}
use Rattle.thread_node.specs.declared.hub_entries.HubEntry.{HubEntry}
use Rattle.thread_node.specs.declared.hub_entries.HubEvent.{HubEvent}
use Rattle.thread_node.specs.declared.hub_entries.HubEvent.TheVariants as event
use Rattle.thread_node.specs.declared.hub_entries.HubTold.{HubTold}
use Rattle.thread_node.specs.declared.hub_entries.HubTold.TheVariants as told
use Rattle.thread_report.specs.HubAnswers.{asked, is_made, lists_at, lists_of, no_lists, state_after, state_behind}

-- a step has one entry, which says that it was made, and of what it was asked
record IsEntry (s : HubWithSessions) (e : Event) (a : Answer) : Type 0 where
  pub asks : HubEvent
  pub said : HubTold
  pub one : entries_in e a ≡ hub_entry asks said ∷ []
  pub is : asked s asks ≡ e
  pub made : is_made said ≡ true

-- what is told of a frame that was taken
record IsSaid (h : hub.State) (frame : Frame) (body : Body) : Type 0 where
  pub said : HubTold
  pub one : told_by_hub (received_answer h frame body) ≡ said ∷ []
  pub made : is_made said ≡ true

of_frame : (h : hub.State) (frame : Frame) (body : Body) → IsSaid h frame body
of_frame h frame (Plus weighted) = record { said = told.Heard frame.number; one = refl; made = refl }
of_frame h frame (Minus key) = record { said = told.Heard frame.number; one = refl; made = refl }
of_frame h frame (Snapshot keys) = record { said = told.Heard frame.number; one = refl; made = refl }
of_frame h frame (Msg content queues) = record { said = told.Routed (h.issued + 1); one = refl; made = refl }

entry_of_hub : (s : HubWithSessions) (e : of_hub.Event)
    → IsAsked s (ByHub e)
    → IsEntry s (ByHub e) (side_answer s (ByHub e))
entry_of_hub s (of_hub.Publish p finished) may = record {
  asks = event.Publish p.conn p.publication p.word finished;
  said = _;
  one = refl;
  is = refl;
  made = refl;
}
entry_of_hub s (of_hub.Receive frame finished) may =
    let f = of_frame s.hub frame frame.body in
    record {
      asks = event.Receive frame finished;
      said = f.said;
      one = ap (λ ts. entries_with (event.Receive frame finished ∷ []) ts) f.one;
      is = refl;
      made = f.made;
    }
entry_of_hub s (of_hub.Collect shard deltas) may =
    record { asks = event.Collect shard deltas; said = _; one = refl; is = refl; made = refl }
entry_of_hub s of_hub.Drain may = record { asks = event.Drain; said = _; one = refl; is = refl; made = refl }
entry_of_hub s (of_hub.Up peer inc) may = absurd may
entry_of_hub s (of_hub.Cut peer) may = absurd may
entry_of_hub s (of_hub.TakeFrom peer count) may =
    record { asks = event.TakeFrames peer count; said = _; one = refl; is = refl; made = refl }

entry_of_sessions : (s : HubWithSessions) (e : of_sessions.Event)
    → IsAsked s (BySessions e)
    → IsEntry s (BySessions e) (side_answer s (BySessions e))
entry_of_sessions s (of_sessions.Dial peer) may =
    record { asks = event.Dial peer; said = _; one = refl; is = refl; made = refl }
entry_of_sessions s of_sessions.Accept may =
    record { asks = event.Accept; said = _; one = refl; is = refl; made = refl }
entry_of_sessions s (of_sessions.OnInfo session info least) may = record {
  asks = event.Info session info;
  said = _;
  one = refl;
  is = ap (λ l. BySessions (of_sessions.OnInfo session info l)) (sym may);
  made = refl;
}
entry_of_sessions s (of_sessions.OnConnect session connect least) may = record {
  asks = event.Connect session connect;
  said = _;
  one = refl;
  is = ap (λ l. BySessions (of_sessions.OnConnect session connect l)) (sym may);
  made = refl;
}
entry_of_sessions s (of_sessions.Cut session) may =
    record { asks = event.Cut session; said = _; one = refl; is = refl; made = refl }

entry_of : (s : HubWithSessions) (e : Event) → IsAsked s e → IsEntry s e (side_answer s e)
entry_of s (ByHub e) may = entry_of_hub s e may
entry_of s (BySessions e) may = entry_of_sessions s e may

state_after_snoc : (s : HubWithSessions) (xs : List HubEntry) (x : HubEntry)
    → state_after s (xs ++ x ∷ []) ≡ state_behind (state_after s xs) x
state_after_snoc s [] x = refl
state_after_snoc s (y ∷ ys) x = state_after_snoc (state_behind s y) ys x

-- behind one step more
after_step : (from s to : HubWithSessions) (e : Event) (a : Answer) (xs : List HubEntry)
    → IsDone s e a to
    → state_after from xs ≡ s
    → state_after from (xs ++ entries_in e a) ≡ to
after_step from s to e a xs d led =
    let w = entry_of s e d.asked in
    let entry = hub_entry w.asks w.said in
    ap (λ es. state_after from (xs ++ es)) (ap (entries_in e) d.answered ∙ w.one) ∙ state_after_snoc from xs entry
    ∙ ap (λ t. state_behind t entry) led ∙ (λ k. cond (w.made k) (side_after s (w.is k)) s) ∙ sym d.after

-- a refusal leaves the state
after_refusal : (from : HubWithSessions) (why : NodeFault) (xs : List HubEntry) (asks : List HubEvent)
    → state_after from (xs ++ entries_with asks (told.Refused why ∷ [])) ≡ state_after from xs
after_refusal from why xs [] = ap (state_after from) (append-nil xs)
after_refusal from why xs (one ∷ more) = state_after_snoc from xs (hub_entry one (told.Refused why))

pub states_led : (from to : HubWithSessions) (log : List Made)
    → Logs from log to
    → state_after from (hub_entries log) ≡ to
states_led from to [] l = sym l
states_led from to (Did d ∷ earlier) l =
    after_step from d.before to d.event d.answer (hub_entries earlier) l.0 (states_led from d.before earlier l.1)
states_led from to (WasRefused before event why ∷ earlier) l =
    after_refusal from why (hub_entries earlier) (asked_of event) ∙ states_led from before earlier l.2 ∙ sym l.1

pub lists_answered : (d : Done) (to : HubWithSessions)
    → IsDone d.before d.event d.answer to
    → (entry : HubEntry)
    × (entries_in d.event d.answer ≡ entry ∷ [])
    × (lists_at d.before entry ≡ lists_of d.answer)
lists_answered d to done =
    let w = entry_of d.before d.event done.asked in (
      hub_entry w.asks w.said,
      ap (entries_in d.event) done.answered ∙ w.one,
      (λ k. cond (w.made k) (lists_of (side_answer d.before (w.is k))) no_lists)
          ∙ ap (λ a. lists_of a) (sym done.answered),
    )
