-- What the steps of a cluster in code keep, and that they are steps: over the fields of a value and how it is seen.
use Rattle.std.proofs.Common.{◌≡◌, ◌<◌, ◌≤◌, ℕ, ◌+◌, List, [], ◌∷◌, ◌++◌, map, set, length, Option, Some, None, refl, sym, ap, ◌∙◌, subst}
use Rattle.std.specs.Prelude.{slice_get}
use Rattle.std.specs.Option.{option_map}
use Rattle.std.proofs.Math.Logic.{∥∥₁_map}
use Rattle.std.proofs.lemmas.Option.{slice_get_within, slice_get-map}
use Rattle.list_laws.proofs.Changes.{append_nil}
use Rattle.subj.specs.Servers.{ServerIdentity}
use Rattle.node_law.specs.Answers.{Nothing}
use Rattle.node_law.specs.Events.{NodeEvent}
use Rattle.node_core.specs.InCode.{answer_of}
use Rattle.node_core.specs.Served.{Served, new_server}
use Rattle.world_law.specs.Changes.{LivesAreFound, EntriesWerePut}
use Rattle.world_law.specs.declared.faults.WorldFault.{WorldFault}
use Rattle.cluster_world.specs.declared.nodes.Made.{Made}
use Rattle.world_law.specs.Events.{Event, Start, Stop, event_for}
use Rattle.world_law.specs.Headline.{IsCluster}
use Rattle.world_law.specs.Outcomes.{Outcome, Done, Refused}
use Rattle.world_law.specs.Play.{PutsArePlaced}
use Rattle.world_law.specs.Refusals.{world_refusal, start_refusal, stop_refusal}
use Rattle.world_law.specs.State.{Cluster, World, server_at}
use Rattle.world_law.specs.Steps.{WorldStep, Carried}
use Rattle.cluster_world.specs.Entered.{entered_by, EntersUnless}
use Rattle.cluster_world.specs.Value.{Listed, listed_with, with_start, with_closed, inc_in, running_in, slot_refusal, IsMade, Shown, new_shown, value_of_parts, world_of, cluster_of, InPlace, IsFor, IsKept, IsStepped}
use Rattle.cluster_world.proofs.Clusters.Making.{cause_is, made_step, size_set}
use Rattle.cluster_world.proofs.Clusters.Entering.{made_enters}
use Rattle.cluster_world.proofs.Clusters.Starting.{stepped_more, refused_step, free_at, up_at, start_step, start_places, stop_step, stop_places}

abbrev pub CarriedOn : Type 0
CarriedOn =
    (c : Cluster) (w : World) (e : Event) (outcome : Outcome) (w' : World)
    → WorldStep c w e outcome w'
    → Carried c w
    → Carried c w'

abbrev pub CarriedOpen : Type 0
CarriedOpen = (c : Cluster) → IsCluster c → (w : World) → Carried c w → LivesAreFound w

module _ (server : ServerIdentity) (step : ℕ) (nodes : List (Option Served)) (l : Listed) (v : Shown)
    (view_is : value_of_parts server step nodes l ≡ v)
    (kept : IsKept server nodes (value_of_parts server step nodes l)) where
  abbrev c : Cluster
  c = cluster_of server

  abbrev w : World
  w = world_of step nodes l

  cause_here : (e : Event) (o : Option WorldFault) → world_refusal v.cluster v.world e ≡ o → world_refusal c w e ≡ o
  cause_here e o is = ap (λ (s : Shown). world_refusal s.cluster s.world e) view_is ∙ is

  now_here : (now : ℕ) → now ≡ v.world.step + 1 → now ≡ step + 1
  now_here now is = is ∙ ap (λ (s : Shown). s.world.step + 1) (sym view_is)

  -- as it is seen within
  abbrev here : Shown
  here = value_of_parts server step nodes l

  seen : (e : Event) (o : Outcome) (new : Shown) → IsStepped here e o new → IsStepped v e o new
  seen e o new s = subst (λ t. IsStepped t e o new) view_is s

  kept_on : CarriedOn
      → (e : Event) (o : Outcome) (now : ℕ) (new : List (Option Served)) (l' : Listed)
      → length new ≡ length nodes
      → InPlace c new
      → IsStepped here e o (value_of_parts server now new l')
      → IsKept server new (value_of_parts server now new l')
  kept_on on e o now new l' size places s = record {
    apart = kept.apart;
    tested = kept.tested;
    size = size ∙ kept.size;
    places = places;
    carried = on c w e o (world_of now new l') s.step kept.carried;
    came =
        ∥∥₁_map kept.came (λ r. (
          r.0 ++ e ∷ [],
          r.1 ++ o ∷ [],
          stepped_more (new_shown c) here (value_of_parts server now new l') r.0 r.1 e o r.2 s,
        ));
  }

  -- nothing is put, where the event is refused, or is a start or a stop
  idle_step : (e : Event) (o : Outcome) (now : ℕ) (new : List (Option Served)) (l' : Listed) (cause : Option WorldFault)
      → world_refusal c w e ≡ cause
      → EntersUnless cause c w e o (world_of now new l') []
      → l'.entered ≡ l.entered
      → WorldStep c w e o (world_of now new l')
      → IsStepped here e o (value_of_parts server now new l')
  idle_step e o now new l' cause is enters same s = record {
    cluster = refl;
    step = s;
    added = [];
    entered = same ∙ sym (append_nil l.entered);
    enters = subst (λ t. EntersUnless t c w e o (world_of now new l') []) (sym is) enters;
  }

  -- a refusal
  refused_here : (e : Event) (why : WorldFault) (now : ℕ)
      → now ≡ v.world.step + 1
      → world_refusal v.cluster v.world e ≡ Some why
      → IsStepped here e (Refused why) (value_of_parts server now nodes l)
  refused_here e why now next cause =
      let is = cause_here e (Some why) cause in
      idle_step e (Refused why) now nodes l (Some why) is refl refl (refused_step c w e why now (now_here now next) is)

  pub refused_steps : (e : Event) (why : WorldFault) (now : ℕ)
      → now ≡ v.world.step + 1
      → world_refusal v.cluster v.world e ≡ Some why
      → IsStepped v e (Refused why) (value_of_parts server now nodes l)
  refused_steps e why now next cause =
      seen e (Refused why) (value_of_parts server now nodes l) (refused_here e why now next cause)

  pub refused_keeps : CarriedOn
      → (e : Event) (why : WorldFault) (now : ℕ)
      → now ≡ v.world.step + 1
      → world_refusal v.cluster v.world e ≡ Some why
      → IsKept server nodes (value_of_parts server now nodes l)
  refused_keeps on e why now next cause =
      kept_on on e (Refused why) now nodes l refl kept.places (refused_here e why now next cause)

  -- why an event is refused at a place
  pub found_cause : (n : ℕ) (e : Event) (found : Option NodeEvent)
      → IsFor n e
      → found ≡ event_for w e
      → slot_refusal found (slice_get nodes n) ≡ world_refusal v.cluster v.world e
  found_cause n e found at is =
      cause_is server step n nodes l e found kept.places at is
      ∙ ap (λ (s : Shown). world_refusal s.cluster s.world e) view_is

  pub slot_free : (n : ℕ) (e : Event) (found : Option NodeEvent)
      → IsFor n e
      → found ≡ event_for w e
      → world_refusal v.cluster v.world e ≡ None
      → slot_refusal found (slice_get nodes n) ≡ None
  slot_free n e found at is cause = found_cause n e found at is ∙ cause

  pub start_cause : (n inc : ℕ)
      → start_refusal n inc l.started (option_map running_in (slice_get nodes n))
      ≡ world_refusal v.cluster v.world (Start n inc)
  start_cause n inc =
      ap (start_refusal n inc l.started) (sym (slice_get-map running_in nodes n))
      ∙ ap (λ (s : Shown). world_refusal s.cluster s.world (Start n inc)) view_is

  pub stop_cause : (n : ℕ)
      → stop_refusal (option_map running_in (slice_get nodes n)) ≡ world_refusal v.cluster v.world (Stop n)
  stop_cause n =
      ap stop_refusal (sym (slice_get-map running_in nodes n))
      ∙ ap (λ (s : Shown). world_refusal s.cluster s.world (Stop n)) view_is

  -- a server's step
  made_here : PutsArePlaced
      → EntriesWerePut
      → CarriedOpen
      → (n now : ℕ) (new : List (Option Served)) (l' : Listed) (e : Event) (found : Option NodeEvent) (made : Made)
      → now ≡ v.world.step + 1
      → IsFor n e
      → found ≡ event_for w e
      → world_refusal v.cluster v.world e ≡ None
      → IsMade n now found nodes made new
      → l' ≡ listed_with (record { step = now; node = n; inc = made.inc }) made.noted made.did l
      → IsStepped here e (Done (answer_of made.did.answer)) (value_of_parts server now new l') × InPlace c new
      × (length new ≡ length nodes)
  made_here puts were_put opens n now new l' e found made next at is cause m lists =
      let refusal = cause_here e None cause in
      let s = made_step puts server step now n nodes new l e found made (now_here now next) kept.places
      (opens c kept.apart w kept.carried) at is refusal m in (
        record {
          cluster = refl;
          step = subst (λ t. WorldStep c w e (Done (answer_of made.did.answer)) (world_of now new t)) (sym lists) s.0;
          added = map (entered_by now n made.inc) made.did.entries.items;
          entered = ap (λ (t : Listed). t.entered) lists;
          enters =
              made_enters were_put server step now n nodes new l l' e found made (now_here now next) kept.places at is
              refusal m;
        },
        s.1,
        s.2,
      )

  pub made_steps : PutsArePlaced
      → EntriesWerePut
      → CarriedOpen
      → (n now : ℕ) (new : List (Option Served)) (l' : Listed) (e : Event) (found : Option NodeEvent) (made : Made)
      → now ≡ v.world.step + 1
      → IsFor n e
      → found ≡ event_for w e
      → world_refusal v.cluster v.world e ≡ None
      → IsMade n now found nodes made new
      → l' ≡ listed_with (record { step = now; node = n; inc = made.inc }) made.noted made.did l
      → IsStepped v e (Done (answer_of made.did.answer)) (value_of_parts server now new l')
  made_steps puts were_put opens n now new l' e found made next at is cause m lists =
      seen e (Done (answer_of made.did.answer)) (value_of_parts server now new l')
      (made_here puts were_put opens n now new l' e found made next at is cause m lists).0

  pub made_keeps : PutsArePlaced
      → EntriesWerePut
      → CarriedOpen
      → CarriedOn
      → (n now : ℕ) (new : List (Option Served)) (l' : Listed) (e : Event) (found : Option NodeEvent) (made : Made)
      → now ≡ v.world.step + 1
      → IsFor n e
      → found ≡ event_for w e
      → world_refusal v.cluster v.world e ≡ None
      → IsMade n now found nodes made new
      → l' ≡ listed_with (record { step = now; node = n; inc = made.inc }) made.noted made.did l
      → IsKept server new (value_of_parts server now new l')
  made_keeps puts were_put opens on n now new l' e found made next at is cause m lists =
      let s = made_here puts were_put opens n now new l' e found made next at is cause m lists in
      kept_on on e (Done (answer_of made.did.answer)) now new l' s.2 s.1 s.0

  -- a start
  pub start_at : (n inc : ℕ) → world_refusal v.cluster v.world (Start n inc) ≡ None → slice_get nodes n ≡ Some None
  start_at n inc cause = free_at c step n inc nodes l (cause_here (Start n inc) None cause)

  pub start_within : (n inc : ℕ) → world_refusal v.cluster v.world (Start n inc) ≡ None → n < length server.names
  start_within n inc cause = subst (λ k. n < k) kept.size (slice_get_within nodes n None (start_at n inc cause))

  start_here : (n inc now : ℕ) (made : ServerIdentity) (y : Served) (l' : Listed)
      → now ≡ v.world.step + 1
      → 1 ≤ inc
      → world_refusal v.cluster v.world (Start n inc) ≡ None
      → made ≡ server_at c n inc
      → y ≡ new_server made
      → l' ≡ with_start n inc l
      → IsStepped here (Start n inc) (Done Nothing) (value_of_parts server now (set nodes n (Some y)) l')
  start_here n inc now made y l' next some cause made_is y_is lists =
      let is = cause_here (Start n inc) None cause in
      idle_step (Start n inc) (Done Nothing) now (set nodes n (Some y)) l' None is refl
      (ap (λ (t : Listed). t.entered) lists)
      (start_step server made step now n inc nodes l l' y (now_here now next) some is made_is y_is lists)

  pub start_steps : (n inc now : ℕ) (made : ServerIdentity) (y : Served) (l' : Listed)
      → now ≡ v.world.step + 1
      → 1 ≤ inc
      → world_refusal v.cluster v.world (Start n inc) ≡ None
      → made ≡ server_at c n inc
      → y ≡ new_server made
      → l' ≡ with_start n inc l
      → IsStepped v (Start n inc) (Done Nothing) (value_of_parts server now (set nodes n (Some y)) l')
  start_steps n inc now made y l' next some cause made_is y_is lists =
      seen (Start n inc) (Done Nothing) (value_of_parts server now (set nodes n (Some y)) l')
      (start_here n inc now made y l' next some cause made_is y_is lists)

  pub start_keeps : CarriedOn
      → (n inc now : ℕ) (made : ServerIdentity) (y : Served) (l' : Listed)
      → now ≡ v.world.step + 1
      → 1 ≤ inc
      → world_refusal v.cluster v.world (Start n inc) ≡ None
      → made ≡ server_at c n inc
      → y ≡ new_server made
      → l' ≡ with_start n inc l
      → IsKept server (set nodes n (Some y)) (value_of_parts server now (set nodes n (Some y)) l')
  start_keeps on n inc now made y l' next some cause made_is y_is lists =
      kept_on on (Start n inc) (Done Nothing) now (set nodes n (Some y)) l' (size_set nodes n (Some y))
      (start_places server made n inc step nodes l y kept.places (cause_here (Start n inc) None cause) made_is y_is)
      (start_here n inc now made y l' next some cause made_is y_is lists)

  -- a stop
  pub stop_at : (n : ℕ)
      → world_refusal v.cluster v.world (Stop n) ≡ None
      → (s : Served) × (slice_get nodes n ≡ Some (Some s))
  stop_at n cause = up_at c step n nodes l (cause_here (Stop n) None cause)

  stop_here : CarriedOpen
      → (n inc now : ℕ) (l' : Listed)
      → now ≡ v.world.step + 1
      → world_refusal v.cluster v.world (Stop n) ≡ None
      → Some inc ≡ inc_in (slice_get nodes n)
      → l' ≡ with_closed (record { step = now; node = n; inc = inc }) l
      → IsStepped here (Stop n) (Done Nothing) (value_of_parts server now (set nodes n None) l')
  stop_here opens n inc now l' next cause inc_is lists =
      let is = cause_here (Stop n) None cause in
      idle_step (Stop n) (Done Nothing) now (set nodes n None) l' None is refl (ap (λ (t : Listed). t.entered) lists)
      (stop_step server step now n inc nodes l l' (now_here now next) (opens c kept.apart w kept.carried) is inc_is
      lists)

  pub stop_steps : CarriedOpen
      → (n inc now : ℕ) (l' : Listed)
      → now ≡ v.world.step + 1
      → world_refusal v.cluster v.world (Stop n) ≡ None
      → Some inc ≡ inc_in (slice_get nodes n)
      → l' ≡ with_closed (record { step = now; node = n; inc = inc }) l
      → IsStepped v (Stop n) (Done Nothing) (value_of_parts server now (set nodes n None) l')
  stop_steps opens n inc now l' next cause inc_is lists =
      seen (Stop n) (Done Nothing) (value_of_parts server now (set nodes n None) l')
      (stop_here opens n inc now l' next cause inc_is lists)

  pub stop_keeps : CarriedOpen
      → CarriedOn
      → (n inc now : ℕ) (l' : Listed)
      → now ≡ v.world.step + 1
      → world_refusal v.cluster v.world (Stop n) ≡ None
      → Some inc ≡ inc_in (slice_get nodes n)
      → l' ≡ with_closed (record { step = now; node = n; inc = inc }) l
      → IsKept server (set nodes n None) (value_of_parts server now (set nodes n None) l')
  stop_keeps opens on n inc now l' next cause inc_is lists =
      kept_on on (Stop n) (Done Nothing) now (set nodes n None) l' (size_set nodes n None)
      (stop_places c step n nodes l kept.places (cause_here (Stop n) None cause))
      (stop_here opens n inc now l' next cause inc_is lists)
