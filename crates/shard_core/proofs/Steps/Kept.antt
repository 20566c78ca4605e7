-- What a shard's fields keep, under each change.
use Rattle.std.proofs.Common.{◌≡◌, ℕ, ◌+◌, ◌*◌, ◌<◌, ◌≤◌, Bool, true, false, cond, List, [], ◌∷◌, ◌++◌, map, filter, Option, Some, None, refl, sym, ap, ◌∙◌, subst, arith}
use Rattle.std.specs.Prelude.{All, nat_eq, is_some}
use Rattle.std.specs.List.{list_any}
use Rattle.std.proofs.lemmas.List.Elements.{All-cons, All-head, All-tail, All-filter, All-push, All-weaker, All-map}
use Rattle.outbox.specs.Views.{Backlog, with_entry, with_last}
use Rattle.sub_table.specs.Subscriptions.{has_serial, with_max}
use Rattle.sub_table.specs.declared.Subscription.{Subscription}
use Rattle.subj.specs.declared.jobs.Job.{Job}
use Rattle.subj.specs.declared.limits.TheConstants.{MAX_COUNTER, MAX_QUEUE_NAMES}
use Rattle.shard_core.specs.Shards.{State, Client, has_number, with_outbox, with_headers, clients_with_headers, clients_with_change, without_client, client_at, is_open, fits}
use Rattle.shard_core.specs.Closings.{is_left, serials_of}
use Rattle.shard_core.specs.Owed.{Walk, walk, whole_walk, first_step, walk_with_entry, walk_with_shut, slow_consumer, owed_entry, is_due, sub_with_count}
use Rattle.shard_core.specs.declared.calls.Begun.{Begun}
use Rattle.shard_core.specs.Tallies.{HasPlaced}
use Rattle.shard_core.specs.ShardSteps.{new_client}
use Rattle.shard_core.specs.Answers.{Opens}
use Rattle.shard_core.specs.Boxes.{Clients, on_both}
use Rattle.shard_core.specs.Opened.{Opened, part_of, with_closings}
use Rattle.shard_core.specs.Held.{AreNumbered, HasTurns, IsNextTurn, IsPossible, ArePossible, IsSound, with_serial, most_counts, each_turn}

-- ---- connections

pub below_changed : (n : ℕ) (change : Backlog → Backlog) (conn : ℕ) (clients : List Client)
    → All (λ (client : Client). client.number < n) clients
    → All (λ (client : Client). client.number < n) (clients_with_change change conn clients)
below_changed n change conn [] below = below
below_changed n change conn (client ∷ clients) below =
    let P = λ (client : Client). client.number < n in
    by (has_number conn client) (All-head P client clients below) (All-tail P client clients below)
    (below_changed n change conn clients (All-tail P client clients below))
  where
    by : (b : Bool)
        → client.number < n
        → All (λ (client : Client). client.number < n) clients
        → All (λ (client : Client). client.number < n) (clients_with_change change conn clients)
        → All (λ (client : Client). client.number < n)
        (cond b (with_outbox change client ∷ clients) (client ∷ clients_with_change change conn clients))
    by true here rest more =
        All-cons (λ (client : Client). client.number < n) (with_outbox change client) clients here rest
    by false here rest more =
        All-cons (λ (client : Client). client.number < n) client (clients_with_change change conn clients) here more

pub numbered_changed : (shards n : ℕ) (change : Backlog → Backlog) (conn : ℕ) (clients : List Client)
    → AreNumbered shards n clients
    → AreNumbered shards n (clients_with_change change conn clients)
numbered_changed shards n change conn clients was = record {
  some = was.some;
  few = was.few;
  numbers = was.numbers;
  below = below_changed n change conn clients was.below;
}

below_chosen : (n : ℕ) (on : Bool) (conn : ℕ) (clients : List Client)
    → All (λ (client : Client). client.number < n) clients
    → All (λ (client : Client). client.number < n) (clients_with_headers on conn clients)
below_chosen n on conn [] below = below
below_chosen n on conn (client ∷ clients) below =
    let P = λ (client : Client). client.number < n in
    by (has_number conn client) (All-head P client clients below) (All-tail P client clients below)
    (below_chosen n on conn clients (All-tail P client clients below))
  where
    by : (b : Bool)
        → client.number < n
        → All (λ (client : Client). client.number < n) clients
        → All (λ (client : Client). client.number < n) (clients_with_headers on conn clients)
        → All (λ (client : Client). client.number < n)
        (cond b (with_headers on client ∷ clients) (client ∷ clients_with_headers on conn clients))
    by true here rest more =
        All-cons (λ (client : Client). client.number < n) (with_headers on client) clients here rest
    by false here rest more =
        All-cons (λ (client : Client). client.number < n) client (clients_with_headers on conn clients) here more

pub numbered_chosen : (shards n : ℕ) (on : Bool) (conn : ℕ) (clients : List Client)
    → AreNumbered shards n clients
    → AreNumbered shards n (clients_with_headers on conn clients)
numbered_chosen shards n on conn clients was = record {
  some = was.some;
  few = was.few;
  numbers = was.numbers;
  below = below_chosen n on conn clients was.below;
}

pub numbered_detached : (shards n : ℕ) (conn : ℕ) (clients : List Client)
    → AreNumbered shards n clients
    → AreNumbered shards n (without_client conn clients)
numbered_detached shards n conn clients was = record {
  some = was.some;
  few = was.few;
  numbers = was.numbers;
  below = All-filter _ (λ (client : Client). client.number < n) clients was.below;
}

pub numbered_attached : (shards n : ℕ) (clients : List Client)
    → n ≤ MAX_COUNTER
    → AreNumbered shards n clients
    → AreNumbered shards (n + shards) (clients ++ new_client n ∷ [])
numbered_attached shards n clients few was =
    let some = was.some in
    let most = was.few in
    record {
      some = was.some;
      few = was.few;
      numbers = omega arith;
      below =
          All-push (λ (client : Client). client.number < n + shards) clients (new_client n)
          (All-weaker (λ (client : Client). client.number < n) (λ (client : Client). client.number < n + shards)
          (λ c lt. omega arith) clients was.below)
          (omega arith);
    }

-- ---- subscriptions

pub more_possible : (opened opened2 most most2 : ℕ) (subs : List Subscription)
    → opened ≤ opened2
    → most ≤ most2
    → ArePossible opened most subs
    → ArePossible opened2 most2 subs
more_possible opened opened2 most most2 subs le1 le2 were =
    All-weaker (λ (sub : Subscription). IsPossible opened most sub)
    (λ (sub : Subscription). IsPossible opened2 most2 sub)
    (λ sub is.
    let serial = is.serial in let delivered = is.delivered in record { serial = omega arith; delivered = omega arith })
    subs were

pub possible_left : (opened most : ℕ) (ended : List ℕ) (subs : List Subscription)
    → ArePossible opened most subs
    → ArePossible opened most (filter (is_left ended) subs)
possible_left opened most ended subs were =
    All-filter (is_left ended) (λ (sub : Subscription). IsPossible opened most sub) subs were

pub possible_opened : (opened most : ℕ) (subs : List Subscription) (sub : Subscription)
    → sub.serial ≡ opened + 1
    → sub.delivered ≡ 0
    → ArePossible opened most subs
    → ArePossible (opened + 1) most (subs ++ sub ∷ [])
possible_opened opened most subs sub serial none were =
    All-push (λ (sub : Subscription). IsPossible (opened + 1) most sub) subs sub
    (more_possible opened (opened + 1) most most subs (omega arith) (omega arith) were)
    (record { serial = omega arith; delivered = omega arith })

counted_possible : (opened most : ℕ) (given : List ℕ) (sub : Subscription)
    → IsPossible opened most sub
    → IsPossible opened (most + 1) (sub_with_count given sub)
counted_possible opened most given sub is = by (list_any (nat_eq sub.serial) given) where
  by : (b : Bool) → IsPossible opened (most + 1) (cond b (record sub { delivered = sub.delivered + 1 }) sub)
  by true =
      let serial = is.serial in let delivered = is.delivered in record { serial = serial; delivered = omega arith }
  by false =
      let serial = is.serial in let delivered = is.delivered in record { serial = serial; delivered = omega arith }

pub possible_counted : (opened most : ℕ) (given : List ℕ) (subs : List Subscription)
    → ArePossible opened most subs
    → ArePossible opened (most + 1) (map (sub_with_count given) subs)
possible_counted opened most given subs were =
    All-map (λ (sub : Subscription). IsPossible opened (most + 1) sub) (sub_with_count given) subs
    (All-weaker (λ (sub : Subscription). IsPossible opened most sub)
    (λ (sub : Subscription). IsPossible opened (most + 1) (sub_with_count given sub))
    (counted_possible opened most given) subs were)

pub possible_max : (opened most serial : ℕ) (max : Option ℕ) (subs : List Subscription)
    → ArePossible opened most subs
    → ArePossible opened most (with_max serial max subs)
possible_max opened most serial max [] were = were
possible_max opened most serial max (sub ∷ subs) were =
    let P = λ (sub : Subscription). IsPossible opened most sub in
    by (has_serial serial sub) (All-head P sub subs were) (All-tail P sub subs were)
    (possible_max opened most serial max subs (All-tail P sub subs were))
  where
    by : (b : Bool)
        → IsPossible opened most sub
        → ArePossible opened most subs
        → ArePossible opened most (with_max serial max subs)
        → ArePossible opened most (cond b (record sub { max = max } ∷ subs) (sub ∷ with_max serial max subs))
    by true here rest more =
        All-cons (λ (sub : Subscription). IsPossible opened most sub) (record sub { max = max }) subs
        (record { serial = here.serial; delivered = here.delivered }) rest
    by false here rest more =
        All-cons (λ (sub : Subscription). IsPossible opened most sub) sub (with_max serial max subs) here more

-- ---- counts

-- a candidate that stands has its message to come
less_with : (hand : Option Job) (chosen : Option Subscription) (finished next_index : ℕ)
    → most_counts hand chosen finished next_index ≤ most_counts hand None finished next_index
less_with None chosen finished next_index = omega arith
less_with (Some job) None finished next_index = omega arith
less_with (Some job) (Some sub) finished next_index = omega arith

pub possible_dropped : (s : State) (chosen : Option Subscription)
    → ArePossible s.opened (most_counts s.hand chosen s.finished s.next_index) s.subs
    → ArePossible s.opened (most_counts s.hand None s.finished s.next_index) s.subs
possible_dropped s chosen were =
    more_possible s.opened s.opened _ _ s.subs (omega arith) (less_with s.hand chosen s.finished s.next_index) were

-- a turn that is finished counts as many as it could
next_turn : (hand : Option Job) (chosen : Option Subscription) (finished next_index turn : ℕ)
    → turn ≡ finished + 1
    → next_index ≤ MAX_QUEUE_NAMES
    → most_counts hand chosen finished next_index ≤ turn * each_turn
next_turn None chosen finished next_index turn is few = omega arith
next_turn (Some job) None finished next_index turn is few = omega arith
next_turn (Some job) (Some sub) finished next_index turn is few = omega arith

-- ---- the whole

-- where no candidate stands
pub sound : (s : State) (serial : Option ℕ) (next : List Client)
    → serial ≡ None
    → AreNumbered s.shards s.next_conn s.clients
    → HasTurns s.finished s.next_index s.hand
    → ArePossible s.opened (most_counts s.hand None s.finished s.next_index) s.subs
    → next ≡ s.clients
    → IsSound s (with_serial serial s.subs) next
sound s serial next none numbered turns possible staged =
    subst (λ o. IsSound s (with_serial o s.subs) next) (sym none)
    (record { numbered = numbered; turns = turns; possible = possible; staged = staged })

-- a candidate is dropped
pub sound_dropped : (s : State) (chosen : Option Subscription) (next : List Client) (serial : Option ℕ)
    (conns : Clients)
    → IsSound s chosen next
    → serial ≡ None
    → conns ≡ record { shown = s.clients; next = s.clients }
    → IsSound (record s { clients = conns.shown }) (with_serial serial s.subs) conns.next
sound_dropped s chosen next serial conns was none is =
    subst (λ (c : Clients). IsSound (record s { clients = c.shown }) (with_serial serial s.subs) c.next) (sym is)
    (sound s serial s.clients none was.numbered was.turns (possible_dropped s chosen was.possible) refl)

pub still_possible : (s : State) (chosen : Option Subscription) (next : List Client)
    → IsSound s chosen next
    → ArePossible s.opened (most_counts s.hand None s.finished s.next_index) s.subs
still_possible s chosen next was = possible_dropped s chosen was.possible

-- behind that connections change, and subscriptions
pub sound_changed : (s : State) (chosen : Option Subscription) (next : List Client) (serial : Option ℕ)
    (mid conns : Clients) (change : List Client → List Client) (openings : Opened)
    → IsSound s chosen next
    → serial ≡ None
    → mid ≡ record { shown = s.clients; next = s.clients }
    → conns ≡ on_both change mid
    → AreNumbered s.shards s.next_conn (change s.clients)
    → ArePossible s.opened (most_counts s.hand None s.finished s.next_index) openings.subs
    → IsSound (record s { clients = conns.shown; subs = openings.subs; deltas = openings.deltas })
    (with_serial serial openings.subs) conns.next
sound_changed s chosen next serial mid conns change openings was none dropped is numbered possible =
    let e : conns ≡ record { shown = change s.clients; next = change s.clients } = is ∙ ap (on_both change) dropped in
    subst (λ (c : Clients).
    IsSound (record s { clients = c.shown; subs = openings.subs; deltas = openings.deltas })
    (with_serial serial openings.subs) c.next)
    (sym e)
    (sound (record s { clients = change s.clients; subs = openings.subs; deltas = openings.deltas }) serial
    (change s.clients) none numbered was.turns possible refl)

-- and those of these serials close
pub sound_closed : (s : State) (chosen : Option Subscription) (next : List Client) (serial : Option ℕ)
    (mid conns : Clients) (change : List Client → List Client) (openings : Opened) (ended : List ℕ)
    → IsSound s chosen next
    → serial ≡ None
    → mid ≡ record { shown = s.clients; next = s.clients }
    → conns ≡ on_both change mid
    → AreNumbered s.shards s.next_conn (change s.clients)
    → openings ≡ with_closings ended (part_of s)
    → IsSound (record s { clients = conns.shown; subs = openings.subs; deltas = openings.deltas })
    (with_serial serial openings.subs) conns.next
sound_closed s chosen next serial mid conns change openings ended was none dropped is numbered closes =
    sound_changed s chosen next serial mid conns change openings was none dropped is numbered
    (subst (λ (o : Opened). ArePossible s.opened (most_counts s.hand None s.finished s.next_index) o.subs) (sym closes)
    (possible_left s.opened _ ended s.subs (possible_dropped s chosen was.possible)))

-- subscriptions alone change
-- the serial of a subscription that is opened
pub opens_next : (s : State) (called : Option Subscription) (o : Option ℕ) (serial : ℕ)
    → Opens s called o
    → o ≡ Some serial
    → serial ≡ s.opened + 1
opens_next s called o serial opens is = (subst (Opens s called) is opens).1

pub sound_opened : (s : State) (chosen : Option Subscription) (next : List Client) (serial : Option ℕ) (conns : Clients)
    (openings : Opened) (opened : ℕ)
    → IsSound s chosen next
    → serial ≡ None
    → conns ≡ record { shown = s.clients; next = s.clients }
    → ArePossible opened (most_counts s.hand None s.finished s.next_index) openings.subs
    → IsSound (record s { opened = opened; clients = conns.shown; subs = openings.subs; deltas = openings.deltas })
    (with_serial serial openings.subs) conns.next
sound_opened s chosen next serial conns openings opened was none is possible =
    subst (λ (c : Clients).
    IsSound (record s { opened = opened; clients = c.shown; subs = openings.subs; deltas = openings.deltas })
    (with_serial serial openings.subs) c.next)
    (sym is)
    (sound (record s { opened = opened; subs = openings.subs; deltas = openings.deltas }) serial s.clients none
    was.numbered was.turns possible refl)

-- a turn is finished
turn_done : (finished next_index : ℕ) (job : Job)
    → finished ≤ MAX_COUNTER
    → job.turn ≡ finished + 1
    → job.turn ≤ MAX_COUNTER
    → HasTurns job.turn 0 None
turn_done finished next_index job last is most = record { last = most; tried = omega arith; turn = tt }

pub sound_done : (s : State) (chosen : Option Subscription) (next : List Client) (serial : Option ℕ) (conns : Clients)
    (job : Job)
    → IsSound s chosen next
    → serial ≡ None
    → conns ≡ record { shown = s.clients; next = s.clients }
    → job.turn ≡ s.finished + 1
    → job.turn ≤ MAX_COUNTER
    → IsSound (record s { finished = job.turn; hand = None; next_index = 0; clients = conns.shown })
    (with_serial serial s.subs) conns.next
sound_done s chosen next serial conns job was none is turn few =
    subst (λ (c : Clients).
    IsSound (record s { finished = job.turn; hand = None; next_index = 0; clients = c.shown })
    (with_serial serial s.subs) c.next)
    (sym is)
    (sound (record s { finished = job.turn; hand = None; next_index = 0 }) serial s.clients none was.numbered
    (turn_done s.finished s.next_index job was.turns.last turn few)
    (more_possible s.opened s.opened _ _ s.subs (omega arith)
    (next_turn s.hand chosen s.finished s.next_index job.turn turn was.turns.tried) was.possible)
    refl)

next_of_hand : (finished : ℕ) (hand : Option Job) (job : Job)
    → hand ≡ Some job
    → IsNextTurn finished hand
    → (job.turn ≡ finished + 1) × (job.turn ≤ MAX_COUNTER)
next_of_hand finished hand job is next = subst (IsNextTurn finished) is next

-- the job in hand is done
pub sound_ended : (s : State) (chosen : Option Subscription) (next : List Client) (serial : Option ℕ) (conns : Clients)
    (job : Job)
    → IsSound s chosen next
    → serial ≡ None
    → conns ≡ record { shown = s.clients; next = s.clients }
    → s.hand ≡ Some job
    → IsSound (record s { finished = job.turn; hand = None; next_index = 0; clients = conns.shown })
    (with_serial serial s.subs) conns.next
sound_ended s chosen next serial conns job was none is hand =
    let turn = next_of_hand s.finished s.hand job hand was.turns.turn in
    sound_done s chosen next serial conns job was none is turn.0 turn.1

-- a maximum is noted
pub sound_max : (s : State) (chosen : Option Subscription) (next : List Client) (serial : Option ℕ) (conns : Clients)
    (openings : Opened) (of : ℕ) (max : Option ℕ)
    → IsSound s chosen next
    → serial ≡ None
    → conns ≡ record { shown = s.clients; next = s.clients }
    → openings ≡ record (part_of s) { subs = with_max of max s.subs }
    → IsSound (record s { clients = conns.shown; subs = openings.subs; deltas = openings.deltas })
    (with_serial serial openings.subs) conns.next
sound_max s chosen next serial conns openings of max was none is noted =
    sound_opened s chosen next serial conns openings s.opened was none is
    (subst (λ (o : Opened). ArePossible s.opened (most_counts s.hand None s.finished s.next_index) o.subs) (sym noted)
    (possible_max s.opened _ of max s.subs (still_possible s chosen next was)))

-- some close
pub sound_left : (s : State) (chosen : Option Subscription) (next : List Client) (serial : Option ℕ) (conns : Clients)
    (openings : Opened) (ended : List ℕ)
    → IsSound s chosen next
    → serial ≡ None
    → conns ≡ record { shown = s.clients; next = s.clients }
    → openings ≡ with_closings ended (part_of s)
    → IsSound (record s { clients = conns.shown; subs = openings.subs; deltas = openings.deltas })
    (with_serial serial openings.subs) conns.next
sound_left s chosen next serial conns openings ended was none is closes =
    sound_opened s chosen next serial conns openings s.opened was none is
    (subst (λ (o : Opened). ArePossible s.opened (most_counts s.hand None s.finished s.next_index) o.subs) (sym closes)
    (possible_left s.opened _ ended s.subs (still_possible s chosen next was)))

-- a job is begun
walk_numbered : (shards n : ℕ) (s : State) (job : Job) (due : List Subscription) (w : Walk)
    → AreNumbered shards n w.clients
    → AreNumbered shards n (walk s job due w).clients
walk_numbered shards n s job [] w was = was
walk_numbered shards n s job (u ∷ due) w was =
    by (is_open u.conn w.clients) (fits (client_at u.conn w.clients) (owed_entry s.shard s.clients job None u))
    (walk_numbered shards n s job due)
  where
    by : (o r : Bool)
        → ((v : Walk) → AreNumbered shards n v.clients → AreNumbered shards n (walk s job due v).clients)
        → AreNumbered shards n
        (walk s job due (cond o
        (cond r (walk_with_entry (owed_entry s.shard s.clients job None u) u w) (walk_with_shut s.subs u.conn w))
        w)).clients
    by false r more = more w was
    by true true more =
        more (walk_with_entry (owed_entry s.shard s.clients job None u) u w)
        (numbered_changed shards n (with_entry (owed_entry s.shard s.clients job None u)) u.conn w.clients was)
    by true false more =
        more (walk_with_shut s.subs u.conn w) (numbered_changed shards n (with_last slow_consumer) u.conn w.clients was)

none_is : {A : Type 0} (o : Option A) → is_some o ≡ false → o ≡ None
none_is None e = refl
none_is (Some x) e = absurd (cc)

first_counts : (hand : Option Job) (chosen : Option Subscription) (finished next_index : ℕ) (job : Job)
    → hand ≡ None
    → most_counts hand chosen finished next_index + 1 ≤ most_counts (Some job) None finished 0
first_counts None chosen finished next_index job e = omega arith
first_counts (Some x) chosen finished next_index job e = absurd (cc)

pub sound_begun : (s : State) (chosen : Option Subscription) (next : List Client) (serial : Option ℕ) (conns : Clients)
    (openings : Opened) (job : Job) (copies : Bool) (begun : Begun)
    → IsSound s chosen next
    → serial ≡ None
    → is_some s.hand ≡ false
    → HasPlaced copies s job (part_of s) begun conns openings
    → job.turn ≡ s.finished + 1
    → job.turn ≤ MAX_COUNTER
    → IsSound (record s {
      hand = Some job;
      next_index = 0;
      clients = conns.shown;
      subs = openings.subs;
      deltas = openings.deltas;
    })
    (with_serial serial openings.subs) conns.next
sound_begun s chosen next serial conns openings job copies begun was none free placed turn most =
    let w = whole_walk s job in
    let given = serials_of w.given in
    let hand = none_is s.hand free in
    let first : ArePossible s.opened (most_counts s.hand chosen s.finished s.next_index + 1)
    (filter (is_left w.ended) (map (sub_with_count given) s.subs)) = possible_left s.opened _ w.ended
    (map (sub_with_count given) s.subs) (possible_counted s.opened _ given s.subs was.possible) in
    let possible : ArePossible s.opened (most_counts (Some job) None s.finished 0)
    (filter (is_left w.ended) (map (sub_with_count given) s.subs)) = more_possible s.opened s.opened _ _ _ (omega arith)
    (first_counts s.hand chosen s.finished s.next_index job hand) first in
    subst (λ (c : Clients).
    IsSound
    (record s { hand = Some job; next_index = 0; clients = c.shown; subs = openings.subs; deltas = openings.deltas })
    (with_serial serial openings.subs) c.next)
    (sym placed.conns)
    (sound
    (record s { hand = Some job; next_index = 0; clients = w.clients; subs = openings.subs; deltas = openings.deltas })
    serial w.clients none
    (walk_numbered s.shards s.next_conn s job (filter (is_due job) s.subs) (first_step s.clients) was.numbered)
    (record { last = was.turns.last; tried = omega arith; turn = (turn, most) })
    (subst (λ (o : Opened). ArePossible s.opened (most_counts (Some job) None s.finished 0) o.subs)
    (sym placed.openings_are) possible)
    refl)
