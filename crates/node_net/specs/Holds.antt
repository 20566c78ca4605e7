-- Which calls a client's connection makes of its shard and of the hub, one hold of a lock after the
-- other.
use Rattle.std.specs.Prelude.{◌≡◌, ◌≢◌, ◌⊎◌, ℕ, ◌<◌, ◌≤◌, Bool, true, false, List, [], ◌∷◌, ◌++◌, length, map, Option, Some, None, is_some, Result, Ok, Err}
use mathlib.Core.Logic.{inl, inr}
use Rattle.std.specs.declared.alloc.AllocError.{AllocError}
use Rattle.subj.specs.declared.limits.TheConstants.{WINDOW}
use Rattle.subj.specs.Servers.{ServerIdentity}
use Rattle.subj.specs.declared.messages.Pub.{Pub}
use Rattle.net_streams.specs.Writes.{Came}
use Rattle.server_calls.specs.Routed.{Routed}
use Rattle.client_conn.specs.Asks.{Asking}
use Rattle.client_conn.specs.declared.ask.ClientAction.TheVariants as action
use Rattle.client_calls.specs.Calls.{Called, attached, asked, detached, Chain}
use Rattle.client_calls.specs.Lives as life
use Rattle.client_calls.specs.Serving.{HasServed, HasBegun}
use Rattle.client_calls.specs.declared.outcome.Outcome.{Outcome}
use Rattle.client_calls.specs.declared.outcome.Outcome.TheVariants.{Elsewhere}
use Rattle.client_calls.specs.declared.outcome.Served.{Served}
use Rattle.client_calls.specs.declared.outcome.Served.TheVariants as ends
use Rattle.node_net.specs.Routes as route
use Rattle.node_net.specs.Sending.{Sends}
use Rattle.node_net.specs.declared.client_link.ClientLink.{ClientLink}
use Rattle.node_net.specs.declared.client_link.Sids.{Sids}
use Rattle.node_net.specs.declared.client_link.Place.{Place}
use Rattle.node_net.specs.declared.client_link.Place.TheVariants.{Shard, Hub}
use Rattle.node_net.specs.declared.connection.Connection.{Connection}
use Rattle.node_net.specs.declared.connection.Link.{Link}
use Rattle.node_net.specs.declared.connection.Link.TheVariants as link
use Rattle.node_net.specs.declared.limits.TheConstants.{SHARD_RUN}
use Rattle.node_net.specs.declared.route_link.Stepped.{Stepped}
use Rattle.node_net.specs.declared.route_link.Stepped.TheVariants as step
use Rattle.node_net.specs.declared.runs.Ran.{Ran}
use Rattle.node_net.specs.declared.runs.Ran.TheVariants as ran

-- ---- how a run of calls ends

-- Where there was no memory to read what is asked next, it is short of memory.
abbrev pub served_or_short : Result Served AllocError → Served
served_or_short (Ok served) = served
served_or_short (Err lack) = ends.Short

-- What is for another place is asked there next.
abbrev pub ran_of : Served → Ran
ran_of ends.Waits = ran.Waits
ran_of ends.Goes = ran.Goes
ran_of ends.Busy = ran.Busy
ran_of ends.Short = ran.Short
ran_of ends.Elsewhere = ran.Goes
ran_of ends.Over = ran.Shut

-- These are the calls that are asked for, with their outcomes, and no others.
abbrev pub Serves : {S : Type 0} → (S → Called → S → Type 0) → ℕ → ℕ → Result Served AllocError
    → Asking → S → Asking → S → Type 0
Serves made conn most (Ok served) old before new after =
    HasServed made conn most served old before new after
Serves made conn most (Err lack) old before new after = HasBegun made conn most old before new after

-- A run of at most so many calls that ended so: just those that are asked for, in order, each with
-- its outcome.
pub record Runs {S : Type 0} (made : S → Called → S → Type 0) (conn most : ℕ) (end : Ran)
    (old : Asking) (before : S) (new : Asking) (after : S) : Type 0 where
  pub served : Result Served AllocError
  pub serves : Serves made conn most served old before new after
  pub ends : end ≡ ran_of (served_or_short served)

-- Where the next ask is asked first: at the other place, behind one that is for elsewhere.
abbrev pub next_place : Place → Place → Served → Place
next_place place other ends.Waits = place
next_place place other ends.Goes = place
next_place place other ends.Busy = place
next_place place other ends.Short = place
next_place place other ends.Elsewhere = other
next_place place other ends.Over = place

-- The same, with where the next ask is asked first.
pub record RunsTo {S : Type 0} (made : S → Called → S → Type 0) (conn most : ℕ)
    (place other there : Place) (end : Ran) (old : Asking) (before : S) (new : Asking) (after : S) :
    Type 0 where
  pub runs : Runs made conn most end old before new after
  pub next : there ≡ next_place place other (served_or_short runs.served)

-- ---- one hold of a lock

-- While the shard of this number was held.
pub record RunsAtShard {S : Type 0} (made : S → Called → S → Type 0) (number : S → ℕ)
    (place there : Place) (shard conn : ℕ) (end : Ran) (old new : Asking) : Type 0 where
  pub before : S
  pub after : S
  pub is : number before ≡ shard
  pub runs : RunsTo made conn SHARD_RUN place Hub there end old before new after

-- A call that a hub is asked for: a publication is made by some word. All else is for elsewhere,
-- and changes nothing.
abbrev pub AskedOfHub : {H : Type 0} → (H → ℕ → Pub → ℕ → Outcome → H → Type 0) → H → Called → H
    → Type 0
AskedOfHub published before (asked conn (action.Publish publication) outcome) after =
    (word : ℕ) × published before conn publication word outcome after
AskedOfHub published before (asked conn (action.Reply frame) outcome) after =
    (outcome ≡ Elsewhere) × (after ≡ before)
AskedOfHub published before (asked conn (action.SetHeaders on) outcome) after =
    (outcome ≡ Elsewhere) × (after ≡ before)
AskedOfHub published before (asked conn (action.Shut text) outcome) after =
    (outcome ≡ Elsewhere) × (after ≡ before)
AskedOfHub published before (asked conn (action.Subscribe key sid) outcome) after =
    (outcome ≡ Elsewhere) × (after ≡ before)
AskedOfHub published before (asked conn (action.Unsubscribe sid max) outcome) after =
    (outcome ≡ Elsewhere) × (after ≡ before)
AskedOfHub published before (attached result) after = after ≡ before
AskedOfHub published before (detached conn result) after = after ≡ before

-- Nothing was counted, so nothing was published.
abbrev pub OnlyIfPublished : {H : Type 0} → H → Bool → H → Bool → Type 0
OnlyIfPublished before was_empty after is_empty =
    is_empty ≡ true → (was_empty ≡ true) × (after ≡ before)

-- The jobs of what was published are handed to the shards; where nothing was, the hub is as it was.
abbrev pub HandsOver : {H : Type 0} → (H → H → Type 0) → H → H → H → Type 0
HandsOver pushed before mid after = pushed mid after ⊎ ((mid ≡ before) × (after ≡ mid))

-- While the hub was held.
pub record RunsAtHub {H : Type 0} (published : H → ℕ → Pub → ℕ → Outcome → H → Type 0)
    (pushed : H → H → Type 0) (place there : Place) (conn : ℕ) (end : Ran) (old new : Asking) :
    Type 0 where
  pub before : H
  pub mid : H
  pub after : H
  pub runs : RunsTo (AskedOfHub published) conn WINDOW place Shard there end old before new mid
  pub hands : HandsOver pushed before mid after

-- There is no shard of this number, and nothing was asked.
pub record HasNoShard (lacks : ℕ → Type 0) (place there : Place) (shard : ℕ) (end : Ran)
    (old new : Asking) : Type 0 where
  pub is : lacks shard
  pub ends : end ≡ ran.Refused
  pub same : (new ≡ old) × (there ≡ place)

-- At the place where the next ask is asked first.
abbrev pub RunsAt : {S H : Type 0} → (S → Called → S → Type 0) → (S → ℕ) → (ℕ → Type 0)
    → (H → ℕ → Pub → ℕ → Outcome → H → Type 0) → (H → H → Type 0) → Place → Place → ℕ → ℕ → Ran
    → Asking → Asking → Type 0
RunsAt made number lacks published pushed Shard there shard conn end old new =
    RunsAtShard made number Shard there shard conn end old new
    ⊎ HasNoShard lacks Shard there shard end old new
RunsAt made number lacks published pushed Hub there shard conn end old new =
    RunsAtHub published pushed Hub there conn end old new

-- Two runs, the second at the place that the first has turned to.
pub record RunsTwice {S H : Type 0} (made : S → Called → S → Type 0) (number : S → ℕ)
    (lacks : ℕ → Type 0) (published : H → ℕ → Pub → ℕ → Outcome → H → Type 0)
    (pushed : H → H → Type 0) (place there : Place) (shard conn : ℕ) (end : Ran)
    (old new : Asking) : Type 0 where
  pub via : Place
  pub other : via ≢ place
  pub first : Ran
  pub mid : Asking
  pub one : RunsAt made number lacks published pushed place via shard conn first old mid
  pub two : RunsAt made number lacks published pushed via there shard conn end mid new

-- A run, or two, of which the first changed the place.
abbrev pub Advances : {S H : Type 0} → (S → Called → S → Type 0) → (S → ℕ) → (ℕ → Type 0)
    → (H → ℕ → Pub → ℕ → Outcome → H → Type 0) → (H → H → Type 0) → Place → Place → ℕ → ℕ → Ran
    → Asking → Asking → Type 0
Advances made number lacks published pushed place there shard conn end old new =
    RunsAt made number lacks published pushed place there shard conn end old new
    ⊎ RunsTwice made number lacks published pushed place there shard conn end old new

-- the calls that were made in a run
abbrev pub calls_of_serving : {S : Type 0}
    → (made : S → Called → S → Type 0) (conn most : ℕ) (result : Result Served AllocError)
    (old : Asking) (before : S) (new : Asking) (after : S)
    → Serves made conn most result old before new after
    → List Called
calls_of_serving made conn most (Ok served) old before new after serves = serves.calls
calls_of_serving made conn most (Err lack) old before new after serves = serves.calls

abbrev pub calls_of_run : {S H : Type 0}
    → (made : S → Called → S → Type 0) (number : S → ℕ) (lacks : ℕ → Type 0)
    (published : H → ℕ → Pub → ℕ → Outcome → H → Type 0) (pushed : H → H → Type 0)
    (place there : Place) (shard conn : ℕ) (end : Ran) (old new : Asking)
    → RunsAt made number lacks published pushed place there shard conn end old new
    → List Called
calls_of_run made number lacks published pushed Shard there shard conn end old new (inl at) =
    calls_of_serving made conn SHARD_RUN at.runs.runs.served old at.before new at.after
    at.runs.runs.serves
calls_of_run made number lacks published pushed Shard there shard conn end old new (inr none) = []
calls_of_run made number lacks published pushed Hub there shard conn end old new at =
    calls_of_serving (AskedOfHub published) conn WINDOW at.runs.runs.served old at.before new at.mid
    at.runs.runs.serves

-- the calls that were made in a turn: those of its runs, in order
abbrev pub calls_of_turn : {S H : Type 0}
    → (made : S → Called → S → Type 0) (number : S → ℕ) (lacks : ℕ → Type 0)
    (published : H → ℕ → Pub → ℕ → Outcome → H → Type 0) (pushed : H → H → Type 0)
    (place there : Place) (shard conn : ℕ) (end : Ran) (old new : Asking)
    → Advances made number lacks published pushed place there shard conn end old new
    → List Called
calls_of_turn made number lacks published pushed place there shard conn end old new (inl one) =
    calls_of_run made number lacks published pushed place there shard conn end old new one
calls_of_turn made number lacks published pushed place there shard conn end old new (inr two) =
    calls_of_run made number lacks published pushed place two.via shard conn two.first old two.mid
    two.one
    ++ calls_of_run made number lacks published pushed two.via there shard conn end two.mid new
    two.two

-- The calls that are made in a turn are one run in the life of a connection.
abbrev pub TurnsAreServed : {C S H : Type 0} → (S → Called → S → Type 0) → (S → ℕ)
    → (C → ℕ → Type 0) → (H → ℕ → Pub → ℕ → Outcome → H → Type 0) → (H → H → Type 0) → Type 0
TurnsAreServed {C} made number lacks published pushed =
    (node : C) (place there : Place) (shard conn : ℕ) (end : Ran) (old new : Asking)
    (turn : Advances made number (lacks node) published pushed place there shard conn end old new)
    → life.Lives conn old
    (life.served (calls_of_turn made number (lacks node) published pushed place there shard conn end
    old new turn) ∷ [])
    new

-- ---- the end of a connection

-- the names of the subscriptions that a client has open, as far as they are known
abbrev pub names_of : Sids → List (List ℕ)
names_of sids = map (λ text. text.items) sids.texts.keys

-- The last name is taken out; or there is none, or no memory for it.
abbrev pub Pops : List (List ℕ) → Option (List ℕ) → List (List ℕ) → Type 0
Pops names (Some name) left = names ≡ left ++ name ∷ []
Pops names None left =
    ((names ≡ []) × (left ≡ [])) ⊎ ((lost : List ℕ) × (names ≡ left ++ lost ∷ []))

-- Each of these calls closes the subscription of this connection that has the last name, and these
-- names are left.
abbrev pub ClosesInTurn : ℕ → List (List ℕ) → List Called → List (List ℕ) → Type 0
ClosesInTurn conn names [] left = left ≡ names
ClosesInTurn conn names (called ∷ more) left =
    (name : List ℕ)
    × (outcome : Outcome)
    × (rest : List (List ℕ))
    × (called ≡ asked conn (action.Unsubscribe name None) outcome)
    × (names ≡ rest ++ name ∷ [])
    × ClosesInTurn conn rest more left

-- So many are closed, or all that are left; for want of memory for a name fewer.
pub record Closes {S : Type 0} (made : S → Called → S → Type 0) (conn count : ℕ)
    (names : List (List ℕ)) (before : S) (left : List (List ℕ)) (after : S) : Type 0 where
  pub calls : List Called
  pub there : List (List ℕ)
  pub chain : Chain made before calls after
  pub closes : ClosesInTurn conn names calls there
  pub few : length calls ≤ count
  pub ends : ((length calls ≡ count) × (left ≡ there)) ⊎ Pops there None left

-- While the shard of this number was held.
pub record ClosesAtShard {S : Type 0} (made : S → Called → S → Type 0) (number : S → ℕ)
    (shard conn : ℕ) (names left : List (List ℕ)) : Type 0 where
  pub before : S
  pub after : S
  pub is : number before ≡ shard
  pub closes : Closes made conn SHARD_RUN names before left after

-- Some are closed where there are more than a server tells at once, unless it has left.
abbrev pub ClosesSome : {S : Type 0} → (S → Called → S → Type 0) → (S → ℕ) → (ℕ → Type 0) → ℕ → ℕ
    → Bool → List (List ℕ) → Bool → List (List ℕ) → Type 0
ClosesSome made number lacks shard conn has_left names true left =
    (has_left ≡ false)
    × (SHARD_RUN < length names)
    × ClosesAtShard made number shard conn names left
ClosesSome made number lacks shard conn has_left names false left =
    (left ≡ names) × ((has_left ≡ true) ⊎ ((length names ≤ SHARD_RUN) ⊎ lacks shard))

-- It is detached while the shard of this number is held, and that comes to this.
pub record IsDetached {S : Type 0} (made : S → Called → S → Type 0) (number : S → ℕ)
    (shard conn : ℕ) (result : Result (Unit {0}) AllocError) : Type 0 where
  pub before : S
  pub after : S
  pub is : number before ≡ shard
  pub call : made before (detached conn result) after

-- It goes: it is detached, unless it has left, or there is no such shard.
abbrev pub Detaches : {S : Type 0} → (S → Called → S → Type 0) → (S → ℕ) → (ℕ → Type 0) → ℕ → ℕ
    → Bool → Result (Unit {0}) AllocError → Type 0
Detaches made number lacks shard conn true result = result ≡ Ok tt
Detaches made number lacks shard conn false result =
    IsDetached made number shard conn result ⊎ (lacks shard × (result ≡ Ok tt))

-- It leaves: it has left where it is detached, and else not.
abbrev pub LeavesShard : {S : Type 0} → (S → Called → S → Type 0) → (S → ℕ) → (ℕ → Type 0) → ℕ → ℕ
    → Bool → Result (Unit {0}) AllocError → Bool → Type 0
LeavesShard made number lacks shard conn had_left (Ok done) has_left =
    (IsDetached made number shard conn (Ok done) × (has_left ≡ true))
    ⊎ (lacks shard × (has_left ≡ had_left))
LeavesShard made number lacks shard conn had_left (Err lack) has_left = has_left ≡ had_left

-- ---- the same of a connection

-- whether the handshake of a route is not over
abbrev pub is_proving : Link → Bool
is_proving (link.Client client) = false
is_proving (link.Route old) = is_some old.proof

-- What a turn of a client's connection keeps.
abbrev pub KeepsPlace : ClientLink → ClientLink → Type 0
KeepsPlace old new =
    (new ≡ record old { calls = new.calls; place = new.place; sids = new.sids })
    × (new.calls.id ≡ old.calls.id)

abbrev pub LinkAdvances : {S H : Type 0} → (S → Called → S → Type 0) → (S → ℕ) → (ℕ → Type 0)
    → (H → ℕ → Pub → ℕ → Outcome → H → Type 0) → (H → H → Type 0) → (H → Routed → H → Type 0)
    → ServerIdentity → Link → Stepped → Link → Type 0
LinkAdvances made number lacks published pushed routed server (link.Client old) (step.Ran run)
    (link.Client new) =
    Advances made number lacks published pushed old.place new.place old.shard old.calls.id run.end
    old.calls.conn.asking new.calls.conn.asking
    × KeepsPlace old new
LinkAdvances made number lacks published pushed routed server (link.Route old) stepped
    (link.Route new) = route.Advances routed pushed server old stepped new
LinkAdvances made number lacks published pushed routed server (link.Client old)
    (step.Greeted greeted) new = ⊥
LinkAdvances made number lacks published pushed routed server (link.Client old) stepped
    (link.Route new) = ⊥
LinkAdvances made number lacks published pushed routed server (link.Route old) stepped
    (link.Client new) = ⊥

abbrev pub LinkDetaches : {S H : Type 0}
    → (S → Called → S → Type 0)
    → (S → ℕ)
    → (ℕ → Type 0)
    → (H → Routed → H → Type 0)
    → Link
    → Result (Unit {0}) AllocError
    → Type 0
LinkDetaches made number lacks routed (link.Client client) result =
    Detaches made number lacks client.shard client.calls.id client.has_left result
LinkDetaches made number lacks routed (link.Route old) result =
    route.CutsSession routed old.session × (result ≡ Ok tt)

-- A client leaves; a route stays as it is.
abbrev pub LinkLeaves : {S : Type 0} → (S → Called → S → Type 0) → (S → ℕ) → (ℕ → Type 0) → Link
    → Result (Unit {0}) AllocError → Link → Type 0
LinkLeaves made number lacks (link.Client old) result (link.Client new) =
    LeavesShard made number lacks old.shard old.calls.id old.has_left result new.has_left
    × (new ≡ record old { has_left = new.has_left })
LinkLeaves made number lacks (link.Route old) result (link.Route new) =
    (new ≡ old) × (result ≡ Ok tt)
LinkLeaves made number lacks (link.Client old) result (link.Route new) = ⊥
LinkLeaves made number lacks (link.Route old) result (link.Client new) = ⊥

-- Some subscriptions of a client are closed; a route has none.
abbrev pub LinkCloses : {S : Type 0} → (S → Called → S → Type 0) → (S → ℕ) → (ℕ → Type 0) → Link
    → Bool → Link → Type 0
LinkCloses made number lacks (link.Client old) result (link.Client new) =
    ClosesSome made number lacks old.shard old.calls.id old.has_left (names_of old.sids) result
    (names_of new.sids)
    × (new ≡ record old { sids = new.sids })
LinkCloses made number lacks (link.Route old) result (link.Route new) =
    (new ≡ old) × (result ≡ false)
LinkCloses made number lacks (link.Client old) result (link.Route new) = ⊥
LinkCloses made number lacks (link.Route old) result (link.Client new) = ⊥

-- It leaves, and then what was taken for it is sent to it.
pub record LeavesAndSends {S T : Type 0} (made : S → Called → S → Type 0) (number : S → ℕ)
    (lacks : ℕ → Type 0) (gave wrote : T → Came → T → Type 0) (old : Connection T)
    (result : Result (Unit {0}) AllocError) (bytes : List ℕ) (new : Connection T) : Type 0 where
  pub left : Link
  pub leaves : LinkLeaves made number lacks old.link result left
  pub sends : Sends gave wrote (record old { link = left }) bytes new
