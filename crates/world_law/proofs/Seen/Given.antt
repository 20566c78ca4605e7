-- What the outboxes gain is what the event puts, and the messages of it are those given.
use Rattle.std.proofs.Common.{◌≡◌, ℕ, zero, suc, ◌-◌, Bool, true, false, true≢false, cond, nat_eq, List, [], ◌∷◌, ◌++◌, map, set, length, drop, is_none, Option, Some, None, refl, sym, ap, ◌∙◌, subst, inl, inr}
use Rattle.std.specs.Prelude.{filter, slice_get}
use Rattle.std.proofs.lemmas.Option.{none-some}
use Rattle.list_laws.specs.Lists.{In, Each}
use Rattle.list_laws.proofs.Tests.{eq_true, eq_false, and_true}
use Rattle.list_laws.proofs.Changes.{append_nil, get_set_here, get_set_there, in_filter, in_sub, filter_append}
use Rattle.claim_race.specs.Race.{RaceState}
use Rattle.client_frames.specs.ErrTexts.{err_line}
use Rattle.client_frames.specs.Frames.{reply_line}
use Rattle.outbox.specs.Views.{Written}
use Rattle.sub_table.specs.Subscriptions.{is_of}
use Rattle.sub_table.specs.declared.Subscription.{Subscription}
use Rattle.subj.specs.declared.jobs.Job.{Job}
use Rattle.subj.specs.Servers.{ServerIdentity}
use Rattle.route_values.specs.Frames.{Frame}
use Rattle.route_values.specs.declared.bodies.Body.{Body}
use Rattle.route_values.specs.declared.bodies.Body.TheVariants.{Plus, Minus, Snapshot, Msg}
use Rattle.shard_core.specs.declared.calls.Placed.{Placed}
use Rattle.shard_core.specs.AsLaw.{given_by, job_by, given_by_claim}
use Rattle.shard_core.specs.Owed.{owed_entry, owed_placed, whole_walk, first_step, is_due, is_plain, is_wanted, candidate_of, slow_consumer}
use Rattle.shard_core.specs.Puts.{put_by, put_by_claim, put_line, entries_for, kept_of, ArePut}
use Rattle.shard_core.specs.ShardEvents as of_shard
use Rattle.shard_core.specs.ShardSteps.{shard_refusal, shard_after, answer_fits}
use Rattle.shard_core.specs.Shards.{State, Client, waits_for}
use Rattle.shard_core.proofs.Steps.LawEvents.{walk_gives}
use Rattle.shard_core.proofs.Clients.Outboxes.{entries_append}
use Rattle.node_law.specs.declared.faults.NodeFault.TheVariants.{NoShard, Shard}
use Rattle.node_law.specs.AsLaw.{Part, part_if, part_at, part_of, entries_for_job, messages_at, waits_in, is_message, MessagesAreGiven}
use Rattle.world_law.specs.Changes.{entries_at}
use Rattle.node_law.specs.declared.events.ConnEvent.{ConnEvent}
use Rattle.node_law.specs.declared.events.ShardWork.{ShardWork}
use Rattle.node_law.specs.Events.{OfConn, AtShard, Publish, Collect, Drain, Dial, Accept, CutSession, TakeFrames, NodeEvent, Own, Receive, OnInfo, OnConnect}
use Rattle.node_law.specs.State.{ShardWithJobs, Node}
use Rattle.node_law.specs.Steps.{NodeStep, conn_place, conn_line, shard_line, conn_event, work_event, conn_refusal, no_job, event_refusal, work_refusal, line_after, line_after_if, set_line, line_with_job, node_after, lines_after_body}
use Rattle.hub_core.specs.Publishing.{own_job}
use Rattle.hub_core.proofs.Steps.Rooms.{map_none}
use Rattle.node_law.proofs.Moves.LineEvents.{found, same_refusal}
use Rattle.hub_core.specs.Receiving.{routed_job}

-- ---- lists

drop_own : {A : Type 0} (xs ys : List A) → drop (length xs) (xs ++ ys) ≡ ys
drop_own [] ys = refl
drop_own (x ∷ xs) ys = drop_own xs ys

drop_all : {A : Type 0} (xs : List A) → drop (length xs) xs ≡ []
drop_all [] = refl
drop_all (x ∷ xs) = drop_all xs

-- what is left of a list without some of its front has nothing behind the whole
drop_rest : (n : ℕ) (xs : List Written) → drop (length xs) (drop n xs) ≡ []
drop_rest zero xs = drop_all xs
drop_rest (suc n) [] = refl
drop_rest (suc n) (x ∷ xs) = one_less (length xs) (drop n xs) (drop_rest n xs)
  where
    one_less : (m : ℕ) (ys : List Written) → drop m ys ≡ [] → drop (suc m) ys ≡ []
    one_less m [] e = refl
    one_less zero (y ∷ ys) e = ap (drop 1) e
    one_less (suc m) (y ∷ ys) e = one_less m ys e

-- ---- lines are no messages

no_messages : (conn : ℕ) (line : List ℕ) (conns : List ℕ)
    → filter is_message (entries_for conn (map (put_line line) conns)) ≡ []
no_messages conn line [] = refl
no_messages conn line (j ∷ js) = go (nat_eq j conn) (no_messages conn line js)
  where
    go : (b : Bool)
        → filter is_message (entries_for conn (map (put_line line) js)) ≡ []
        → filter is_message
        (map (λ (put : Placed). put.entry)
        (cond b (put_line line j ∷ filter (λ (put : Placed). nat_eq put.conn conn) (map (put_line line) js))
        (filter (λ (put : Placed). nat_eq put.conn conn) (map (put_line line) js)))) ≡ []
    go true below = below
    go false below = below

-- the messages of a begin are for plain subscriptions
plain_messages : (shard conn : ℕ) (clients : List Client) (job : Job) (us : List Subscription)
    → Each (λ u. u.key.queue ≡ None) us
    → filter is_message (entries_for conn (map (owed_placed shard clients job None) us))
    ≡ entries_for_job shard clients (Some job) (filter (is_of conn) us)
plain_messages shard conn clients job [] h = refl
plain_messages shard conn clients job (u ∷ us) h =
    go (nat_eq u.conn conn) (plain_messages shard conn clients job us (λ v i. h v (inr i)))
  where
    go : (b : Bool)
        → filter is_message (entries_for conn (map (owed_placed shard clients job None) us))
        ≡ entries_for_job shard clients (Some job) (filter (is_of conn) us)
        → filter is_message
        (map (λ (put : Placed). put.entry)
        (cond b
        (owed_placed shard clients job None u
        ∷ filter (λ (put : Placed). nat_eq put.conn conn) (map (owed_placed shard clients job None) us))
        (filter (λ (put : Placed). nat_eq put.conn conn) (map (owed_placed shard clients job None) us))))
        ≡ entries_for_job shard clients (Some job) (cond b (u ∷ filter (is_of conn) us) (filter (is_of conn) us))
    go true below = λ i. owed_entry shard clients job (sym (h u (inl refl)) i) u ∷ below i
    go false below = below

none_plain : (q : Option (List ℕ)) → is_none q ≡ true → q ≡ None
none_plain None e = refl
none_plain (Some name) e = absurd (true≢false (sym e))

given_plain : (s : State) (job : Job) → Each (λ u. u.key.queue ≡ None) (whole_walk s job).given
given_plain s job u i =
    let g = walk_gives s job (filter (is_due job) s.subs) (first_step s.clients) in
    let at =
    in_filter (is_due job) s.subs u (in_sub g.new (filter (is_due job) s.subs) g.some u (subst (In u) g.given i)) in
    none_plain u.key.queue (and_true (is_plain u) (is_wanted job u) at.1).0

claim_messages : (s : State) (conn : ℕ) (hand : Option Job) (u : Option Subscription) (won : Bool)
    → filter is_message (entries_for conn (put_by_claim s hand u won))
    ≡ entries_for_job s.shard s.clients hand (filter (is_of conn) (given_by_claim hand u won))
claim_messages s conn None u won = refl
claim_messages s conn (Some job) None won = refl
claim_messages s conn (Some job) (Some u) false = refl
claim_messages s conn (Some job) (Some u) true = go (nat_eq u.conn conn)
  where
    go : (b : Bool)
        → filter is_message
        (map (λ (put : Placed). put.entry) (cond b (owed_placed s.shard s.clients job u.key.queue u ∷ []) []))
        ≡ entries_for_job s.shard s.clients (Some job) (cond b (u ∷ []) [])
    go true = refl
    go false = refl

-- ---- of what an event puts, the messages are those given

shard_messages : (s : State) (e : of_shard.Event) (conn : ℕ)
    → filter is_message (entries_for conn (put_by s e))
    ≡ entries_for_job s.shard s.clients (job_by s e) (filter (is_of conn) (given_by s e))
shard_messages s of_shard.Attach conn = refl
shard_messages s (of_shard.Subscribe j key sid) conn = refl
shard_messages s (of_shard.Unsubscribe j sid max) conn = refl
shard_messages s (of_shard.Reply j frame) conn = go (answer_fits s j (reply_line frame))
  where
    go : (b : Bool)
        → filter is_message
        (entries_for conn (cond b (put_line (reply_line frame) j ∷ []) (put_line slow_consumer j ∷ []))) ≡ []
    go true = no_messages conn (reply_line frame) (j ∷ [])
    go false = no_messages conn slow_consumer (j ∷ [])
shard_messages s (of_shard.Shut j text) conn = no_messages conn (err_line text) (j ∷ [])
shard_messages s (of_shard.Detach j) conn = refl
shard_messages s (of_shard.SetHeaders j on) conn = refl
shard_messages s (of_shard.Take j count) conn = refl
shard_messages s (of_shard.Begin job) conn =
    ap (filter is_message)
    (entries_append conn (map (owed_placed s.shard s.clients job None) (whole_walk s job).given)
    (map (put_line slow_consumer) (whole_walk s job).shut))
    ∙ filter_append is_message
    (entries_for conn (map (owed_placed s.shard s.clients job None) (whole_walk s job).given))
    (entries_for conn (map (put_line slow_consumer) (whole_walk s job).shut))
    ∙ ap (λ t.
    filter is_message (entries_for conn (map (owed_placed s.shard s.clients job None) (whole_walk s job).given)) ++ t)
    (no_messages conn slow_consumer (whole_walk s job).shut)
    ∙ append_nil
    (filter is_message (entries_for conn (map (owed_placed s.shard s.clients job None) (whole_walk s job).given)))
    ∙ plain_messages s.shard conn s.clients job (whole_walk s job).given (given_plain s job)
shard_messages s (of_shard.Claim index won) conn = claim_messages s conn s.hand (candidate_of s s.hand index) won
shard_messages s of_shard.End conn = refl
shard_messages s (of_shard.DropJob waiting) conn = refl
shard_messages s of_shard.Drain conn = refl
shard_messages s of_shard.Collect conn = refl

part_messages : (part : Option Part) (place conn : ℕ)
    → filter is_message (entries_at part place conn) ≡ messages_at part place conn
part_messages None place conn = refl
part_messages (Some part) place conn = go (nat_eq part.place place)
  where
    go : (b : Bool)
        → filter is_message (cond b (entries_for conn (put_by part.line.shard part.event)) [])
        ≡ cond b
        (entries_for_job part.line.shard.shard part.line.shard.clients (job_by part.line.shard part.event)
        (filter (is_of conn) (given_by part.line.shard part.event)))
        []
    go true = shard_messages part.line.shard part.event conn
    go false = refl

-- ---- an event of a shard

module _ (puts : (s : State) (e : of_shard.Event) (conn : ℕ) → ArePut s e conn) where
  more : (s : State) (e : of_shard.Event) (conn : ℕ)
      → shard_refusal s e ≡ None
      → kept_of e conn (waits_for conn s.clients) ≡ waits_for conn s.clients
      → drop (length (waits_for conn s.clients)) (waits_for conn (shard_after s e).clients)
      ≡ entries_for conn (put_by s e)
  more s e conn cause kept =
      ap (drop (length (waits_for conn s.clients)))
      ((puts s e conn).entries cause ∙ ap (λ t. t ++ entries_for conn (put_by s e)) kept)
      ∙ drop_own (waits_for conn s.clients) (entries_for conn (put_by s e))

  less : (s : State) (e : of_shard.Event) (conn : ℕ)
      → shard_refusal s e ≡ None
      → entries_for conn (put_by s e) ≡ []
      → drop (length (waits_for conn s.clients)) (kept_of e conn (waits_for conn s.clients)) ≡ []
      → drop (length (waits_for conn s.clients)) (waits_for conn (shard_after s e).clients) ≡ []
  less s e conn cause none gone =
      ap (drop (length (waits_for conn s.clients)))
      ((puts s e conn).entries cause ∙ ap (λ t. kept_of e conn (waits_for conn s.clients) ++ t) none
      ∙ append_nil (kept_of e conn (waits_for conn s.clients)))
      ∙ gone

  -- what stands new in an outbox was put by the event
  shard_entries : (s : State) (e : of_shard.Event) (conn : ℕ)
      → shard_refusal s e ≡ None
      → drop (length (waits_for conn s.clients)) (waits_for conn (shard_after s e).clients)
      ≡ entries_for conn (put_by s e)
  shard_entries s of_shard.Attach conn cause = more s of_shard.Attach conn cause refl
  shard_entries s (of_shard.Subscribe j key sid) conn cause = more s (of_shard.Subscribe j key sid) conn cause refl
  shard_entries s (of_shard.Unsubscribe j sid max) conn cause = more s (of_shard.Unsubscribe j sid max) conn cause refl
  shard_entries s (of_shard.Reply j frame) conn cause = more s (of_shard.Reply j frame) conn cause refl
  shard_entries s (of_shard.Shut j text) conn cause = more s (of_shard.Shut j text) conn cause refl
  shard_entries s (of_shard.Detach j) conn cause = less s (of_shard.Detach j) conn cause refl (go (nat_eq j conn))
    where
      go : (b : Bool) → drop (length (waits_for conn s.clients)) (cond b [] (waits_for conn s.clients)) ≡ []
      go true = drop_none (length (waits_for conn s.clients))
        where
          drop_none : (n : ℕ) → drop n (filter is_message []) ≡ []
          drop_none zero = refl
          drop_none (suc n) = refl
      go false = drop_all (waits_for conn s.clients)
  shard_entries s (of_shard.SetHeaders j on) conn cause = more s (of_shard.SetHeaders j on) conn cause refl
  shard_entries s (of_shard.Take j count) conn cause =
      less s (of_shard.Take j count) conn cause refl (go (nat_eq j conn))
    where
      go : (b : Bool)
          → drop (length (waits_for conn s.clients))
          (cond b (drop count (waits_for conn s.clients)) (waits_for conn s.clients)) ≡ []
      go true = drop_rest count (waits_for conn s.clients)
      go false = drop_all (waits_for conn s.clients)
  shard_entries s (of_shard.Begin job) conn cause = more s (of_shard.Begin job) conn cause refl
  shard_entries s (of_shard.Claim index won) conn cause = more s (of_shard.Claim index won) conn cause refl
  shard_entries s of_shard.End conn cause = more s of_shard.End conn cause refl
  shard_entries s (of_shard.DropJob waiting) conn cause = more s (of_shard.DropJob waiting) conn cause refl
  shard_entries s of_shard.Drain conn cause = more s of_shard.Drain conn cause refl
  shard_entries s of_shard.Collect conn cause = more s of_shard.Collect conn cause refl

  -- ---- an event of a line

  line_entries : (lines : List ShardWithJobs) (p : ℕ) (line new : ShardWithJobs) (e : of_shard.Event) (place conn : ℕ)
      → slice_get lines p ≡ Some line
      → shard_refusal line.shard e ≡ None
      → new.shard ≡ shard_after line.shard e
      → drop (length (waits_in conn (slice_get lines place))) (waits_in conn (slice_get (set lines p new) place))
      ≡ entries_at (Some (record { place = p; line = line; event = e })) place conn
  line_entries lines p line new e place conn at cause same = go (nat_eq p place) refl
    where
      here : drop (length (waits_in conn (slice_get lines p))) (waits_in conn (slice_get (set lines p new) p))
          ≡ entries_for conn (put_by line.shard e)
      here =
          (λ i. drop (length (waits_in conn (at i))) (waits_in conn (get_set_here lines p line new at i)))
          ∙ ap (λ (s : State). drop (length (waits_for conn line.shard.clients)) (waits_for conn s.clients)) same
          ∙ shard_entries line.shard e conn cause

      go : (b : Bool)
          → nat_eq p place ≡ b
          → drop (length (waits_in conn (slice_get lines place))) (waits_in conn (slice_get (set lines p new) place))
          ≡ cond b (entries_for conn (put_by line.shard e)) []
      go true is =
          subst (λ q.
          drop (length (waits_in conn (slice_get lines q))) (waits_in conn (slice_get (set lines p new) q))
          ≡ entries_for conn (put_by line.shard e))
          (eq_true p place is) here
      go false is =
          ap (λ o. drop (length (waits_in conn (slice_get lines place))) (waits_in conn o))
          (get_set_there lines p place new (λ f. eq_false p place is (sym f)))
          ∙ drop_all (waits_in conn (slice_get lines place))

  -- with no event there is nothing new
  same_entries : (lines after : List ShardWithJobs) (place conn : ℕ)
      → waits_in conn (slice_get after place) ≡ waits_in conn (slice_get lines place)
      → drop (length (waits_in conn (slice_get lines place))) (waits_in conn (slice_get after place)) ≡ []
  same_entries lines after place conn same =
      ap (drop (length (waits_in conn (slice_get lines place)))) same ∙ drop_all (waits_in conn (slice_get lines place))

  -- ---- events of a server

  conn_entries : (server : ServerIdentity) (a : Node) (conn : ℕ) (event : ConnEvent) (o : Option ShardWithJobs)
      → conn_line server a conn ≡ o
      → conn_refusal event conn o ≡ None
      → (place j : ℕ)
      → drop (length (waits_in j (slice_get a.lines place)))
      (waits_in j (slice_get (set_line a.lines (conn_place server conn) (line_after (conn_event conn event)) o) place))
      ≡ entries_at (part_at (conn_place server conn) (λ line. Some (conn_event conn event)) o) place j
  conn_entries server a conn event None at cause place j = same_entries a.lines a.lines place j refl
  conn_entries server a conn event (Some line) at cause place j =
      line_entries a.lines (conn_place server conn) line (line_after (conn_event conn event) line)
      (conn_event conn event) place j (found (nat_eq conn 0) (slice_get a.lines (conn_place server conn)) line at)
      (map_none Shard (shard_refusal line.shard (conn_event conn event)) cause) refl

  work_entries : (a : Node) (shard : ℕ) (work : ShardWork) (won : Bool) (o : Option ShardWithJobs)
      → shard_line a shard ≡ o
      → work_refusal work o ≡ None
      → (place j : ℕ)
      → drop (length (waits_in j (slice_get a.lines place)))
      (waits_in j
      (slice_get (set_line a.lines (shard - 1) (λ line. line_after_if (work_event work won line) line) o) place))
      ≡ entries_at (part_at (shard - 1) (work_event work won) o) place j
  work_entries a shard work won None at cause place j = absurd (none-some NoShard (sym cause))
  work_entries a shard work won (Some line) at cause place j =
      go (work_event work won line) (sym (same_refusal work line won) ∙ cause)
    where
      go : (e : Option of_shard.Event)
          → event_refusal line e ≡ None
          → drop (length (waits_in j (slice_get a.lines place)))
          (waits_in j (slice_get (set a.lines (shard - 1) (line_after_if e line)) place))
          ≡ entries_at (part_if (shard - 1) line e) place j
      go None f = absurd (none-some (no_job line.shard.hand) (sym f))
      go (Some e) f =
          line_entries a.lines (shard - 1) line (line_after e line) e place j
          (found (nat_eq shard 0) (slice_get a.lines (shard - 1)) line at)
          (map_none Shard (shard_refusal line.shard e) f) refl

  queued_waits : (job : Job) (lines : List ShardWithJobs) (place j : ℕ)
      → waits_in j (slice_get (map (line_with_job job) lines) place) ≡ waits_in j (slice_get lines place)
  queued_waits job [] place j = refl
  queued_waits job (line ∷ lines) zero j = refl
  queued_waits job (line ∷ lines) (suc place) j = queued_waits job lines place j

  collected_waits : (lines : List ShardWithJobs) (p : ℕ) (o : Option ShardWithJobs)
      → ((line : ShardWithJobs) → o ≡ Some line → slice_get lines p ≡ Some line)
      → (place j : ℕ)
      → waits_in j (slice_get (set_line lines p (line_after of_shard.Collect) o) place)
      ≡ waits_in j (slice_get lines place)
  collected_waits lines p None h place j = refl
  collected_waits lines p (Some line) h place j = go (nat_eq p place) refl
    where
      here : waits_in j (slice_get (set lines p (line_after of_shard.Collect line)) p) ≡ waits_in j (slice_get lines p)
      here =
          ap (waits_in j) (get_set_here lines p line (line_after of_shard.Collect line) (h line refl))
          ∙ sym (ap (waits_in j) (h line refl))

      go : (b : Bool)
          → nat_eq p place ≡ b
          → waits_in j (slice_get (set lines p (line_after of_shard.Collect line)) place)
          ≡ waits_in j (slice_get lines place)
      go true is =
          subst (λ q.
          waits_in j (slice_get (set lines p (line_after of_shard.Collect line)) q) ≡ waits_in j (slice_get lines q))
          (eq_true p place is) here
      go false is =
          ap (waits_in j)
          (get_set_there lines p place (line_after of_shard.Collect line) (λ f. eq_false p place is (sym f)))

  body_waits : (a : Node) (frame : Frame) (body : Body) (place j : ℕ)
      → waits_in j (slice_get (lines_after_body a frame body) place) ≡ waits_in j (slice_get a.lines place)
  body_waits a frame (Plus weighted) place j = refl
  body_waits a frame (Minus key) place j = refl
  body_waits a frame (Snapshot keys) place j = refl
  body_waits a frame (Msg content queues) place j = queued_waits (routed_job a.hub frame content queues) a.lines place j

  after_entries : (server : ServerIdentity) (a : Node) (e : NodeEvent) (won : Bool) (race : RaceState) (place j : ℕ)
      → NodeStep server a e won race (node_after server a e won race)
      → drop (length (waits_in j (slice_get a.lines place)))
      (waits_in j (slice_get (node_after server a e won race).lines place))
      ≡ entries_at (part_of server a e won) place j
  after_entries server a (Own (OfConn conn event)) won race place j step =
      conn_entries server a conn event (conn_line server a conn) refl step.cause place j
  after_entries server a (Own (AtShard shard work)) won race place j step =
      work_entries a shard work won (shard_line a shard) refl step.cause place j
  after_entries server a (Own (Publish p)) won race place j step =
      same_entries a.lines _ place j (queued_waits (own_job server a.hub p) a.lines place j)
  after_entries server a (Own (Collect shard)) won race place j step =
      same_entries a.lines _ place j
      (collected_waits a.lines (shard - 1) (shard_line a shard)
      (λ line e. found (nat_eq shard 0) (slice_get a.lines (shard - 1)) line e) place j)
  after_entries server a (Own Drain) won race place j step = same_entries a.lines a.lines place j refl
  after_entries server a (Own (Dial q)) won race place j step = same_entries a.lines a.lines place j refl
  after_entries server a (Own Accept) won race place j step = same_entries a.lines a.lines place j refl
  after_entries server a (Own (CutSession session)) won race place j step = same_entries a.lines a.lines place j refl
  after_entries server a (Own (TakeFrames q count)) won race place j step = same_entries a.lines a.lines place j refl
  after_entries server a (Receive frame) won race place j step =
      same_entries a.lines _ place j (body_waits a frame frame.body place j)
  after_entries server a (OnInfo session info) won race place j step = same_entries a.lines a.lines place j refl
  after_entries server a (OnConnect session connect) won race place j step = same_entries a.lines a.lines place j refl

  pub entries_of_step : (server : ServerIdentity) (a : Node) (e : NodeEvent) (won : Bool) (race : RaceState) (b : Node)
      (place j : ℕ)
      → NodeStep server a e won race b
      → drop (length (waits_in j (slice_get a.lines place))) (waits_in j (slice_get b.lines place))
      ≡ entries_at (part_of server a e won) place j
  entries_of_step server a e won race b place j step =
      ap (λ (x : Node). drop (length (waits_in j (slice_get a.lines place))) (waits_in j (slice_get x.lines place)))
      step.after
      ∙ after_entries server a e won race place j (record { cause = step.cause; moves = step.moves; after = refl })

  pub messages_are_given : MessagesAreGiven
  messages_are_given server a e won race b place j step =
      ap (filter is_message) (entries_of_step server a e won race b place j step)
      ∙ part_messages (part_of server a e won) place j
