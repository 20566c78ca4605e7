-- A list of events, gone through one by one.
use Rattle.std.proofs.Common.{◌≡◌, ◌<◌, ◌≤◌, ◌+◌, ℕ, true, false, List, [], ◌∷◌, ◌++◌, length, get_or, drop, map, Result, Ok, Err, refl, sym, ap, ◌∙◌, subst}
use Rattle.std.proofs.lemmas.List.{at_drop_more, drop_all}
use Rattle.list_laws.proofs.Changes.{append_assoc, append_nil, map_append}
use Rattle.subj.specs.Answers.{IsAnswered}
use Rattle.subj.specs.Servers.{ServerIdentity, IsListed}
use Rattle.node_core.specs.declared.did.Did.{Did}
use Rattle.node_law.specs.declared.events.NodeEvent as code
use Rattle.node_core.specs.declared.refused.Refused.{Refused}
use Rattle.node_core.specs.declared.refused.Refused.TheVariants.{Fault, OutOfMemory}
use Rattle.node_law.specs.Events.{NodeEvent}
use Rattle.node_core.specs.InCode.{result_in_code, event_of}
use Rattle.node_core.specs.OneRun.{GoesOn, IsRun, Follows, OneServerKeeps, done_with, is_out_of_memory, outcome_told}
use Rattle.node_core.specs.Outcome.{Outcome, Does, did_of}
use Rattle.node_law.specs.Runs.{Done, Ran}
use Rattle.node_core.specs.Served.{Served, refusal}

-- ---- the run so far, and what it is with the rest

-- with a run of the rest behind it, it is a run of all
abbrev pub IsBegun : Served → List NodeEvent → List (Result Outcome Refused) → Served → List NodeEvent → Type 0
IsBegun start all rs here rest =
    (more : List (Result Outcome Refused)) (new : Served) → IsRun here rest more new → IsRun start all (rs ++ more) new

-- the step of this event is answered so
abbrev pub IsStepped : Served → NodeEvent → Result Outcome Refused → Served → Type 0
IsStepped here e r next = IsAnswered (refusal here e) (λ did. Does here e did next) (next ≡ here) (result_in_code r)

pub one_more : (start : Served) (all : List NodeEvent) (rs : List (Result Outcome Refused)) (here : Served)
    (e : NodeEvent) (rest : List NodeEvent) (r : Result Outcome Refused) (next : Served)
    → IsBegun start all rs here (e ∷ rest)
    → IsStepped here e r next
    → is_out_of_memory r ≡ false
    → IsBegun start all (rs ++ r ∷ []) next rest
one_more start all rs here e rest r next begun step long more new run =
    subst (λ l. IsRun start all l new) (sym (append_assoc rs (r ∷ []) more))
    (begun (r ∷ more) new
    (next, step, subst (λ b. Follows b ((more ≡ []) × (new ≡ next)) (IsRun next rest more new)) (sym long) run))

pub the_last : (start : Served) (all : List NodeEvent) (rs : List (Result Outcome Refused)) (here : Served)
    (e : NodeEvent) (rest : List NodeEvent) (r : Result Outcome Refused) (next : Served)
    → IsBegun start all rs here (e ∷ rest)
    → IsStepped here e r next
    → is_out_of_memory r ≡ true
    → IsRun start all (rs ++ r ∷ []) next
the_last start all rs here e rest r next begun step short =
    begun (r ∷ []) next (
      next,
      step,
      subst (λ b. Follows b ((no_more ≡ no_more) × (next ≡ next)) (IsRun next rest no_more next)) (sym short)
          (refl, refl),
    )
  where
    no_more : List (Result Outcome Refused)
    no_more = []

pub all_made : (start : Served) (all : List NodeEvent) (rs : List (Result Outcome Refused)) (here : Served)
    (rest : List NodeEvent)
    → rest ≡ []
    → IsBegun start all rs here rest
    → IsRun start all rs here
all_made start all rs here rest none begun =
    subst (λ l. IsRun start all l here) (append_nil rs)
    (begun [] here (subst (λ es. IsRun here es [] here) (sym none) refl))

-- ---- the answers as told

pub as_told : (here : Served) (e : NodeEvent) (r : Result Did Refused) (next : Served)
    → IsAnswered (refusal here e) (λ did. Does here e (did_of did) next) (next ≡ here) (result_in_code r)
    → IsStepped here e (outcome_told r) next
as_told here e (Ok did) next a = a
as_told here e (Err why) next a = a

pub short_told : (r : Result Did Refused) → is_out_of_memory (outcome_told r) ≡ is_out_of_memory r
short_told (Ok did) = refl
short_told (Err (Fault why)) = refl
short_told (Err OutOfMemory) = refl

-- ---- the events as the code has them

next_event : (events : List code.NodeEvent) (i : ℕ) (e : code.NodeEvent)
    → i < length events
    → e ≡ get_or events i e
    → map event_of (drop i events) ≡ event_of e ∷ map event_of (drop (i + 1) events)
next_event events i e within is =
    at_drop_more (map event_of) events i e within ∙ ap (λ x. event_of x ∷ map event_of (drop (i + 1) events)) (sym is)

one_answer : (answers more : List (Result Did Refused)) (r : Result Did Refused)
    → more ≡ answers ++ r ∷ []
    → map outcome_told answers ++ outcome_told r ∷ [] ≡ map outcome_told more
one_answer answers more r is = sym (ap (map outcome_told) is ∙ map_append outcome_told answers (r ∷ []))

pub goes_one_on : (start here next : Served) (events : List code.NodeEvent) (i : ℕ) (e : code.NodeEvent)
    (answers more : List (Result Did Refused)) (r : Result Did Refused)
    → i < length events
    → e ≡ get_or events i e
    → more ≡ answers ++ r ∷ []
    → IsBegun start (map event_of events) (map outcome_told answers) here (map event_of (drop i events))
    → IsAnswered (refusal here (event_of e)) (λ did. Does here (event_of e) (did_of did) next) (next ≡ here)
    (result_in_code r)
    → is_out_of_memory r ≡ false
    → IsBegun start (map event_of events) (map outcome_told more) next (map event_of (drop (i + 1) events))
goes_one_on start here next events i e answers more r within is put begun step long =
    subst (λ l. IsBegun start (map event_of events) l next (map event_of (drop (i + 1) events)))
    (one_answer answers more r put)
    (one_more start (map event_of events) (map outcome_told answers) here (event_of e)
    (map event_of (drop (i + 1) events)) (outcome_told r) next
    (subst (IsBegun start (map event_of events) (map outcome_told answers) here) (next_event events i e within is)
    begun)
    (as_told here (event_of e) r next step) (short_told r ∙ long))

pub ends_here : (start here next : Served) (events : List code.NodeEvent) (i : ℕ) (e : code.NodeEvent)
    (answers more : List (Result Did Refused)) (r : Result Did Refused)
    → i < length events
    → e ≡ get_or events i e
    → more ≡ answers ++ r ∷ []
    → IsBegun start (map event_of events) (map outcome_told answers) here (map event_of (drop i events))
    → IsAnswered (refusal here (event_of e)) (λ did. Does here (event_of e) (did_of did) next) (next ≡ here)
    (result_in_code r)
    → is_out_of_memory r ≡ true
    → IsRun start (map event_of events) (map outcome_told more) next
ends_here start here next events i e answers more r within is put begun step short =
    subst (λ l. IsRun start (map event_of events) l next) (one_answer answers more r put)
    (the_last start (map event_of events) (map outcome_told answers) here (event_of e)
    (map event_of (drop (i + 1) events)) (outcome_told r) next
    (subst (IsBegun start (map event_of events) (map outcome_told answers) here) (next_event events i e within is)
    begun)
    (as_told here (event_of e) r next step) (short_told r ∙ short))

pub all_gone : (start here : Served) (events : List code.NodeEvent) (i : ℕ) (answers : List (Result Did Refused))
    → length events ≤ i
    → IsBegun start (map event_of events) (map outcome_told answers) here (map event_of (drop i events))
    → IsRun start (map event_of events) (map outcome_told answers) here
all_gone start here events i answers past begun =
    all_made start (map event_of events) (map outcome_told answers) here (map event_of (drop i events))
    (ap (map event_of) (drop_all i events past)) begun

-- ---- what it did since its start

-- these events led the server on, the newest first
abbrev Came : List NodeEvent → List Done → ServerIdentity → Served → Type 0
Came events h server s =
    (more : List Done)
    × (map (λ (d : Done). d.event) more ≡ events)
    × Ran s.server (more ++ h) s.node
    × (s.server ≡ server)

none_done : (es : List NodeEvent) → done_with es [] ≡ []
none_done [] = refl
none_done (e ∷ es) = refl

done_on : (old mid new : Served) (e : NodeEvent) (did : Outcome) (events : List NodeEvent) (h : List Done)
    → (a : Does old e did mid)
    → Came events (record { before = old.node; event = e; won = a.won; race = a.step.race } ∷ h) mid.server new
    → Came (events ++ e ∷ []) h old.server new
done_on old mid new e did events h a z =
    let d : Done = record { before = old.node; event = e; won = a.won; race = a.step.race } in (
      z.0 ++ d ∷ [],
      map_append (λ (x : Done). x.event) z.0 (d ∷ []) ∙ ap (λ l. l ++ e ∷ []) z.1,
      subst (λ l. Ran new.server l new.node) (sym (append_assoc z.0 (d ∷ []) h)) z.2,
      z.3 ∙ a.step.server,
    )

ran_on : (old : Served) (es : List NodeEvent) (rs : List (Result Outcome Refused)) (new : Served) (h : List Done)
    → IsRun old es rs new
    → Ran old.server h old.node
    → Came (done_with es rs) h old.server new
ran_on old [] [] new h run ran = subst (Came [] h old.server) (sym run) ([], refl, ran, refl)
ran_on old [] (r ∷ rs) new h run ran = absurd run
ran_on old (e ∷ es) [] new h run ran = absurd run
ran_on old (e ∷ es) (Ok did ∷ rs) new h run ran =
    let a = run.1.1 in
    let d : Done = record { before = old.node; event = e; won = a.won; race = a.step.race } in
    done_on old run.0 new e did (done_with es rs) h a
    (ran_on run.0 es rs new (d ∷ h) run.2
    (subst (λ server. Ran server (d ∷ h) run.0.node) (sym a.step.server) (a.step.step, ran)))
ran_on old (e ∷ es) (Err (Fault why) ∷ rs) new h run ran =
    let same : run.0 ≡ old = run.1.1 in
    subst (λ server. Came (done_with es rs) h server new) (ap (λ (s : Served). s.server) same)
    (ran_on run.0 es rs new h run.2 (subst (λ (s : Served). Ran s.server h s.node) (sym same) ran))
ran_on old (e ∷ es) (Err OutOfMemory ∷ rs) new h run ran =
    subst (λ l. Came l h old.server new) (sym (ap (done_with es) run.2.0 ∙ none_done es))
    (subst (Came [] h old.server) (sym (run.2.1 ∙ run.1.1)) ([], refl, ran, refl))

pub goes_on : OneServerKeeps
    → (old : Served) (es : List NodeEvent) (rs : List (Result Outcome Refused)) (new : Served)
    → IsListed old.server
    → IsRun old es rs new
    → (h : List Done)
    → Ran old.server h old.node
    → GoesOn (done_with es rs) h new
goes_on keeps old es rs new listed run h ran =
    let z = ran_on old es rs new h run ran in
    record {
      more = z.0;
      done = z.1;
      ran = z.2;
      keeps = keeps new.server (z.0 ++ h) new.node (subst IsListed (sym z.3) listed) z.2;
    }
