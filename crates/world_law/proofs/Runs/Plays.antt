-- Each event has a step: the one that the program on lists makes.
use Rattle.std.proofs.Common.{◌≡◌, ℕ, zero, suc, ◌<◌, ◌+◌, ◌-◌, arith, Bool, true, false, true≢false, cond, nat_eq, ◌&&◌, ◌||◌, List, [], ◌∷◌, ◌++◌, Option, Some, None, refl, sym, ap, ◌∙◌, subst, inl, inr, ⊎_elim}
use Rattle.std.specs.Prelude.{filter, find, map, slice_get, if◌then◌else◌}
use Rattle.std.specs.Option.{option_map}
use Rattle.std.proofs.lemmas.Option.{none-some}
use Rattle.list_laws.specs.Lists.{In, Each, SubList}
use Rattle.list_laws.proofs.Lists.{in_append, in_map}
use Rattle.list_laws.proofs.Tests.{eq_true, eq_false, true_eq, false_eq, or_false, no_cause}
use Rattle.claim_race.specs.Race.{RaceState, Win, winner, is_of_pair, winner_after, IsIssued, IsClaimed, IsFinished}
use Rattle.outbox.specs.declared.entries.Tag.{Tag}
use Rattle.outbox.specs.declared.entries.Tag.TheVariants as tag
use Rattle.outbox.specs.declared.entries.Mode.{Mode}
use Rattle.subj.specs.declared.identities.PubId.{PubId}
use Rattle.subj.specs.declared.identities.SubId.{SubId}
use Rattle.sub_table.specs.declared.Subscription.{Subscription}
use Rattle.subj.specs.declared.jobs.Job.{Job}
use Rattle.subj.specs.Servers.{ServerIdentity}
use Rattle.route_values.specs.declared.bodies.Body.{Body}
use Rattle.route_values.specs.declared.bodies.Body.TheVariants.{Plus, Minus, Snapshot, Msg}
use Rattle.shard_core.specs.declared.calls.Placed.{Placed}
use Rattle.client_frames.specs.ErrTexts.{err_line}
use Rattle.client_frames.specs.Frames.{reply_line}
use Rattle.shard_core.specs.Owed.{candidate_of, owed_placed, slow_consumer, whole_walk}
use Rattle.shard_core.specs.Puts.{put_by, put_by_claim, put_line, entries_for, ArePut}
use Rattle.shard_core.specs.ShardEvents as of_shard
use Rattle.shard_core.specs.ShardSteps.{answer_fits}
use Rattle.shard_core.specs.Shards.{State, Client, takes_headers}
use Rattle.node_law.specs.declared.faults.NodeFault.{NodeFault}
use Rattle.node_law.specs.AsLaw.{Part, part_at, part_if, part_of, is_message_tag, is_message}
use Rattle.node_law.specs.Answers.{Nothing}
use Rattle.node_law.specs.declared.events.ShardWork.{ShardWork}
use Rattle.node_law.specs.declared.events.ShardWork.TheVariants.{Attach, Begin, Claim, End, DropJob, DrainShard}
use Rattle.node_law.specs.Events.{OfConn, AtShard, Publish, Collect, Drain, Dial, Accept, CutSession, TakeFrames, NodeEvent, Own, Receive, OnInfo, OnConnect}
use Rattle.node_law.specs.State.{ShardWithJobs, Node}
use Rattle.node_law.specs.Steps.{NodeStep, NodeRace, WorkRace, ClaimRace, BodyRace, conn_line, conn_place, shard_line, conn_event, work_event, node_refusal}
use Rattle.world_law.specs.declared.faults.WorldFault.{WorldFault}
use Rattle.world_law.specs.declared.faults.WorldFault.TheVariants as fault
use Rattle.world_law.specs.State.{Cluster, Placement, Running, World, server_at}
use Rattle.world_law.specs.Events.{Event, Start, Stop, At, event_for}
use Rattle.world_law.specs.Events as of_world
use Rattle.world_law.specs.Outcomes.{Done}
use Rattle.world_law.specs.Refusals.{world_refusal, is_used, start_refusal, stop_refusal, refusal_at}
use Rattle.world_law.specs.Changes.{placement_of, placements_of, new_placements, is_on, entries_at, open_subs}
use Rattle.world_law.specs.Steps.{Acts, Starts, Stops, Happens, Decided, WorldStep}
use Rattle.world_law.specs.Headline.{EachUp}
use Rattle.world_law.specs.Play.{NoneAhead, issued_next, claimed_next, finished_next, with_win, is_free, wins, race_after_claim, work_wins, race_after_work, node_wins, race_after_body, node_race, put_if, put_at, puts, placements_put, PutsArePlaced, next_node, next_act, world_after_event, next_of, next, slot_answer, answer_of, outcome_of, outcome}
use Rattle.world_law.proofs.Seen.Gained.{news, takes_in, nothing_new, new_at, part_line}
use Rattle.world_law.proofs.Seen.Given.{entries_of_step}
use Rattle.world_law.proofs.Seen.Order.{in_lines, event_order}

-- ---- the race that forgets nothing is one of those that a step may have

same_turn : (a b : ℕ) → nat_eq a b ≡ nat_eq b a
same_turn a b = go (nat_eq b a) refl
  where
    go : (t : Bool) → nat_eq b a ≡ t → nat_eq a b ≡ t
    go true e = true_eq a b (sym (eq_true b a e))
    go false e = false_eq a b (λ f. eq_false b a e (sym f))

abbrev with_claim : Bool → RaceState → ℕ → ℕ → ℕ → List ℕ → RaceState
with_claim b race shard turn index next = record race {
  next = next;
  won = with_win b (record { turn = turn; index = index; shard = shard }) race.won;
}

winner_then : (b : Bool) (race : RaceState) (shard turn index : ℕ) (next : List ℕ) (t i : ℕ)
    → winner (with_claim b race shard turn index next) t i
    ≡ (if b then winner_after race shard turn index t i else winner race t i)
unfolding winner
winner_then false race shard turn index next t i = refl
winner_then true race shard turn index next t i =
    go (nat_eq turn t && nat_eq index i) (nat_eq t turn && nat_eq i index)
    (λ j. same_turn turn t j && same_turn index i j)
  where
    go : (p q : Bool)
        → p ≡ q
        → option_map (λ (win : Win). win.shard)
        (cond p (Some (record { turn = turn; index = index; shard = shard })) (find (is_of_pair t i) race.won))
        ≡ cond q (Some shard) (option_map (λ (win : Win). win.shard) (find (is_of_pair t i) race.won))
    go true true e = refl
    go false false e = refl
    go true false e = absurd (true≢false e)
    go false true e = absurd (true≢false (sym e))

pair_then : (b : Bool) (race : RaceState) (shard turn index : ℕ) (next : List ℕ)
    → winner (with_claim b race shard turn index next) turn index ≡ (if b then Some shard else winner race turn index)
pair_then false race shard turn index next = winner_then false race shard turn index next turn index
pair_then true race shard turn index next =
    winner_then true race shard turn index next turn index
    ∙ (λ j. cond (true_eq turn turn refl j && true_eq index index refl j) (Some shard) (winner race turn index))

claims : (race : RaceState) (shard turn index : ℕ)
    → IsClaimed race shard turn index (is_free race turn index) (claimed_next race shard turn index)
claims race shard turn index = record {
  decided = refl;
  issued = refl;
  finished = refl;
  next = refl;
  pair = pair_then (is_free race turn index) race shard turn index (claimed_next race shard turn index).next;
  winners = λ t i lt.
      winner_then (is_free race turn index) race shard turn index (claimed_next race shard turn index).next t i;
}

issues : (race : RaceState) → NoneAhead race → IsIssued race (race.issued + 1) (issued_next race)
unfolding winner
issues race ahead = record {
  after = refl;
  issued = refl;
  finished = refl;
  next = refl;
  kept = record { winners = λ t i lt. refl };
  fresh = λ i. ahead (race.issued + 1) i (omega arith);
}

finishes : (race : RaceState) (shard turn : ℕ) → IsFinished race shard turn (finished_next race shard turn)
unfolding winner
finishes race shard turn = record {
  issued = refl;
  finished = refl;
  next = refl;
  kept = record { winners = λ t i lt. refl };
}

claim_moves : (race : RaceState) (shard index : ℕ) (hand : Option Job) (u : Option Subscription)
    → ClaimRace race shard index hand u (wins race index hand u) (race_after_claim race shard index hand u)
claim_moves race shard index None None = refl
claim_moves race shard index None (Some u) = refl
claim_moves race shard index (Some job) None = refl
claim_moves race shard index (Some job) (Some u) = claims race shard job.turn index

work_moves : (race : RaceState) (shard : ℕ) (work : ShardWork) (o : Option ShardWithJobs)
    → WorkRace race shard work o (work_wins race work o) (race_after_work race shard work o)
work_moves race shard work None = refl
work_moves race shard Attach (Some line) = refl
work_moves race shard Begin (Some line) = refl
work_moves race shard (Claim index) (Some line) =
    claim_moves race shard index line.shard.hand (candidate_of line.shard line.shard.hand index)
work_moves race shard End (Some line) = finishes race shard (line.shard.finished + 1)
work_moves race shard DropJob (Some line) = finishes race shard (line.shard.finished + 1)
work_moves race shard DrainShard (Some line) = refl

body_moves : (a : Node) (body : Body) → NoneAhead a.race → BodyRace a body (race_after_body a.race body)
body_moves a (Plus weighted) ahead = refl
body_moves a (Minus key) ahead = refl
body_moves a (Snapshot keys) ahead = refl
body_moves a (Msg content queues) ahead = issues a.race ahead

node_moves : (a : Node) (e : NodeEvent) → NoneAhead a.race → NodeRace a e (node_wins a e) (node_race a e)
node_moves a (Own (OfConn conn event)) ahead = refl
node_moves a (Own (AtShard shard work)) ahead = work_moves a.race shard work (shard_line a shard)
node_moves a (Own (Publish p)) ahead = issues a.race ahead
node_moves a (Own (Collect shard)) ahead = refl
node_moves a (Own Drain) ahead = refl
node_moves a (Own (Dial q)) ahead = refl
node_moves a (Own Accept) ahead = refl
node_moves a (Own (CutSession session)) ahead = refl
node_moves a (Own (TakeFrames q count)) ahead = refl
node_moves a (Receive frame) ahead = body_moves a frame.body ahead
node_moves a (OnInfo session info) ahead = refl
node_moves a (OnConnect session connect) ahead = refl

-- ---- what the step puts is what the outboxes gain

-- a message that is put tells whether its connection takes headers
abbrev Marked : List Client → Placed → Type 0
Marked clients put = is_message put.entry ≡ true → put.headers ≡ takes_headers put.conn clients

lines_marked : (clients : List Client) (line : List ℕ) (conns : List ℕ)
    → Each (Marked clients) (map (put_line line) conns)
lines_marked clients line conns p i =
    let m = in_map (put_line line) conns p i in subst (Marked clients) (sym m.2) (λ f. absurd (true≢false (sym f)))

given_marked : (shard : ℕ) (clients : List Client) (job : Job) (queue : Option (List ℕ)) (subs : List Subscription)
    → Each (Marked clients) (map (owed_placed shard clients job queue) subs)
given_marked shard clients job queue subs p i =
    let m = in_map (owed_placed shard clients job queue) subs p i in subst (Marked clients) (sym m.2) (λ f. refl)

claim_marked : (s : State) (hand : Option Job) (u : Option Subscription) (won : Bool)
    → Each (Marked s.clients) (put_by_claim s hand u won)
claim_marked s None u won = λ p i. absurd i
claim_marked s (Some job) None won = λ p i. absurd i
claim_marked s (Some job) (Some u) true = given_marked s.shard s.clients job u.key.queue (u ∷ [])
claim_marked s (Some job) (Some u) false = λ p i. absurd i

puts_marked : (s : State) (e : of_shard.Event) → Each (Marked s.clients) (put_by s e)
puts_marked s of_shard.Attach = λ p i. absurd i
puts_marked s (of_shard.Subscribe conn key sid) = λ p i. absurd i
puts_marked s (of_shard.Unsubscribe conn sid max) = λ p i. absurd i
puts_marked s (of_shard.Reply conn frame) = go (answer_fits s conn (reply_line frame))
  where
    go : (b : Bool)
        → Each (Marked s.clients) (cond b (put_line (reply_line frame) conn ∷ []) (put_line slow_consumer conn ∷ []))
    go true = lines_marked s.clients (reply_line frame) (conn ∷ [])
    go false = lines_marked s.clients slow_consumer (conn ∷ [])
puts_marked s (of_shard.SetHeaders conn on) = λ p i. absurd i
puts_marked s (of_shard.Shut conn text) = lines_marked s.clients (err_line text) (conn ∷ [])
puts_marked s (of_shard.Detach conn) = λ p i. absurd i
puts_marked s (of_shard.Take conn count) = λ p i. absurd i
puts_marked s (of_shard.Begin job) = λ p i.
    ⊎_elim (λ (j : In p (map (owed_placed s.shard s.clients job None) (whole_walk s job).given)).
    given_marked s.shard s.clients job None (whole_walk s job).given p j)
    (λ (j : In p (map (put_line slow_consumer) (whole_walk s job).shut)).
    lines_marked s.clients slow_consumer (whole_walk s job).shut p j)
    (in_append p (map (owed_placed s.shard s.clients job None) (whole_walk s job).given)
    (map (put_line slow_consumer) (whole_walk s job).shut) i)
puts_marked s (of_shard.Claim index won) = claim_marked s s.hand (candidate_of s s.hand index) won
puts_marked s of_shard.End = λ p i. absurd i
puts_marked s (of_shard.DropJob waiting) = λ p i. absurd i
puts_marked s of_shard.Drain = λ p i. absurd i
puts_marked s of_shard.Collect = λ p i. absurd i

-- of what is put, the entries of one connection are its placements
placed_for_conn : (server : ServerIdentity) (now conn : ℕ) (clients : List Client) (ps : List Placed)
    → Each (Marked clients) ps
    → filter (is_on conn) (placements_put server now ps)
    ≡ placements_of server now conn (takes_headers conn clients) (entries_for conn ps)
placed_for_conn server now conn clients [] marked = refl
placed_for_conn server now conn clients (p ∷ ps) marked =
    go p.entry.tag (nat_eq p.conn conn) refl (marked p (inl refl))
    (placed_for_conn server now conn clients ps (λ q i. marked q (inr i)))
  where
    of_conn : ℕ → Bool → PubId → SubId → Mode → Placement
    of_conn k headers id sub mode = record {
      step = now;
      life = record { node = server.me; inc = server.inc; sub = sub };
      conn = k;
      id = id;
      mode = mode;
      bytes = p.entry.bytes;
      headers = headers;
    }

    others : List Placement
    others = filter (is_on conn) (placements_put server now ps)

    go : (t : Tag) (b : Bool)
        → nat_eq p.conn conn ≡ b
        → (is_message_tag t ≡ true → p.headers ≡ takes_headers p.conn clients)
        → filter (is_on conn) (placements_put server now ps)
        ≡ placements_of server now conn (takes_headers conn clients) (entries_for conn ps)
        → filter (is_on conn) (placement_of server now p.conn p.headers p.entry.bytes t ++ placements_put server now ps)
        ≡ placements_of server now conn (takes_headers conn clients)
        (map (λ (put : Placed). put.entry)
        (cond b
        (record { conn = p.conn; entry = record { tag = t; bytes = p.entry.bytes }; headers = p.headers }
        ∷ filter (λ (put : Placed). nat_eq put.conn conn) ps)
        (filter (λ (put : Placed). nat_eq put.conn conn) ps)))
    go tag.Reply true e told below = below
    go tag.Reply false e told below = below
    go (tag.Msg id sub mode) false e told below =
        ap (λ b. cond b (of_conn p.conn p.headers id sub mode ∷ others) others) e ∙ below
    go (tag.Msg id sub mode) true e told below =
        let here = eq_true p.conn conn e in
        let option : p.headers ≡ takes_headers conn clients = told refl ∙ ap (λ k. takes_headers k clients) here in
        ap (λ b. cond b (of_conn p.conn p.headers id sub mode ∷ others) others) e
        ∙ (λ j. of_conn (here j) (option j) id sub mode ∷ below j)

abbrev pub put_of : Option Part → List Placed
put_of None = []
put_of (Some part) = put_by part.line.shard part.event

put_in : (place : ℕ) (event : ShardWithJobs → Option of_shard.Event) (o : Option ShardWithJobs)
    → put_at o event ≡ put_of (part_at place event o)
put_in place event None = refl
put_in place event (Some line) = go (event line)
  where
    go : (e : Option of_shard.Event) → put_if line e ≡ put_of (part_if place line e)
    go None = refl
    go (Some e) = refl

pub puts_are : (server : ServerIdentity) (a : Node) (e : NodeEvent) (won : Bool)
    → puts server a e won ≡ put_of (part_of server a e won)
puts_are server a (Own (OfConn conn event)) won =
    put_in (conn_place server conn) (λ line. Some (conn_event conn event)) (conn_line server a conn)
puts_are server a (Own (AtShard shard work)) won = put_in (shard - 1) (work_event work won) (shard_line a shard)
puts_are server a (Own (Publish p)) won = refl
puts_are server a (Own (Collect shard)) won = refl
puts_are server a (Own Drain) won = refl
puts_are server a (Own (Dial q)) won = refl
puts_are server a (Own Accept) won = refl
puts_are server a (Own (CutSession session)) won = refl
puts_are server a (Own (TakeFrames q count)) won = refl
puts_are server a (Receive frame) won = refl
puts_are server a (OnInfo session info) won = refl
puts_are server a (OnConnect session connect) won = refl

abbrev pub Puts : Type 0
Puts = (s : State) (e : of_shard.Event) (conn : ℕ) → ArePut s e conn

puts_gained : Puts
    → (server : ServerIdentity) (now : ℕ) (a b : Node) (e : NodeEvent) (won : Bool) (race : RaceState) (conn : ℕ)
    → NodeStep server a e won race b
    → filter (is_on conn) (placements_put server now (puts server a e won))
    ≡ new_placements server now a.lines b.lines conn
puts_gained h server now a b e won race conn step =
    ap (λ t. filter (is_on conn) (placements_put server now t)) (puts_are server a e won)
    ∙ sym (go (part_of server a e won) refl)
  where
    news_are : (q : ℕ) → news a.lines b.lines q conn ≡ entries_at (part_of server a e won) q conn
    news_are q = entries_of_step h server a e won race b q conn step

    go : (o : Option Part)
        → part_of server a e won ≡ o
        → new_placements server now a.lines b.lines conn ≡ filter (is_on conn) (placements_put server now (put_of o))
    go None is =
        nothing_new server now conn a.lines b.lines (λ q.
        ap (placements_of server now conn (takes_in conn (slice_get a.lines q)))
        (news_are q ∙ ap (λ o. entries_at o q conn) is))
    go (Some p) is =
        new_at server now conn p.place a.lines b.lines p.line (part_line server a e won p is) (λ q apart.
        ap (placements_of server now conn (takes_in conn (slice_get a.lines q)))
        (news_are q ∙ ap (λ o. entries_at o q conn) is
        ∙ ap (λ t. cond t (entries_for conn (put_by p.line.shard p.event)) [])
        (false_eq p.place q (λ f. apart (sym f)))))
        ∙ ap (placements_of server now conn (takes_headers conn p.line.shard.clients))
        (news_are p.place ∙ ap (λ o. entries_at o p.place conn) is
        ∙ ap (λ t. cond t (entries_for conn (put_by p.line.shard p.event)) []) (true_eq p.place p.place refl))
        ∙ sym (placed_for_conn server now conn p.line.shard.clients (put_by p.line.shard p.event)
        (puts_marked p.line.shard p.event))

pub puts_placed : Puts → PutsArePlaced
puts_placed h server now a e won race b step = record {
  outboxes = λ conn. puts_gained h server now a b e won race conn step;
  order =
      subst (λ t. SubList (map (λ (p : Placement). p.life.sub) (placements_put server now t)) (open_subs a.lines))
      (sym (puts_are server a e won)) (go (part_of server a e won) refl);
}
  where
    go : (o : Option Part)
        → part_of server a e won ≡ o
        → SubList (map (λ (p : Placement). p.life.sub) (placements_put server now (put_of o))) (open_subs a.lines)
    go None is = tt
    go (Some p) is =
        in_lines a.lines p.place p.line _ (part_line server a e won p is) (event_order server now p.line.shard p.event)

-- ---- the step

acts : Puts
    → (c : Cluster) (w : World) (n : ℕ) (event : Option NodeEvent)
    → EachUp (λ k a. NoneAhead a.node.race) w
    → (o : Option (Option Running))
    → slice_get w.nodes n ≡ o
    → refusal_at c n event o ≡ None
    → Acts c w n event (Done (slot_answer c n o event)) (next_act c w n o event)
acts h c w n event ahead None at cause = absurd (none-some fault.NoSuch (sym cause))
acts h c w n event ahead (Some None) at cause = absurd (none-some fault.NodeDown (sym cause))
acts h c w n None ahead (Some (Some a)) at cause = absurd (none-some fault.NoSuch (sym cause))
acts h c w n (Some e) ahead (Some (Some a)) at cause =
    let steps : NodeStep (server_at c n a.inc) a.node e (node_wins a.node e) (node_race a.node e) (next_node c n a e) =
    record {
      cause = own (node_refusal (server_at c n a.inc) a.node e) cause;
      moves = node_moves a.node e (ahead n a at);
      after = refl;
    } in
    record {
      e = e;
      is = refl;
      a = a;
      a_is = at;
      won = node_wins a.node e;
      race = node_race a.node e;
      b = next_node c n a e;
      steps = steps;
      told = refl;
      gained =
          placements_put (server_at c n a.inc) (suc w.step) (puts (server_at c n a.inc) a.node e (node_wins a.node e));
      are_gained =
          puts_placed h (server_at c n a.inc) (suc w.step) a.node e (node_wins a.node e) (node_race a.node e)
          (next_node c n a e) steps;
      after = refl;
    }
  where
    own : (o : Option NodeFault) → option_map fault.Node o ≡ None → o ≡ None
    own None f = refl
    own (Some why) f = absurd (none-some (fault.Node why) (sym f))

above_none : (inc : ℕ) → nat_eq inc 0 ≡ false → 0 < inc
above_none zero e = absurd (eq_false zero 0 e refl)
above_none (suc inc) e = omega arith

starts : (c : Cluster) (w : World) (n inc : ℕ) (o : Option (Option Running))
    → slice_get w.nodes n ≡ o
    → start_refusal n inc w.started o ≡ None
    → Starts c w n inc (Done Nothing) (world_after_event c w (Start n inc))
starts c w n inc None at cause = absurd (none-some fault.NoSuch (sym cause))
starts c w n inc (Some (Some a)) at cause = absurd (none-some fault.NodeUp (sym cause))
starts c w n inc (Some None) at cause = record {
  some =
      above_none inc (or_false (nat_eq inc 0) (is_used n inc w.started)
      (no_cause (nat_eq inc 0 || is_used n inc w.started) fault.UsedIncarnation None cause).0).0;
  down = at;
  told = refl;
  after = refl;
}

stops : (c : Cluster) (w : World) (n : ℕ) (o : Option (Option Running))
    → slice_get w.nodes n ≡ o
    → stop_refusal o ≡ None
    → Stops w n (Done Nothing) (world_after_event c w (Stop n))
stops c w n None at cause = absurd (none-some fault.NoSuch (sym cause))
stops c w n (Some None) at cause = absurd (none-some fault.NodeDown (sym cause))
stops c w n (Some (Some a)) at cause = record { a = a; a_is = at; told = refl; after = refl }

happens : Puts
    → (c : Cluster) (w : World) (e : Event)
    → EachUp (λ k a. NoneAhead a.node.race) w
    → world_refusal c w e ≡ None
    → Happens c w e (Done (answer_of c w e)) (world_after_event c w e)
happens h c w (Start n inc) ahead cause = starts c w n inc (slice_get w.nodes n) refl cause
happens h c w (Stop n) ahead cause = stops c w n (slice_get w.nodes n) refl cause
happens h c w (of_world.Receive n k) ahead cause =
    acts h c w n (event_for w (of_world.Receive n k)) ahead (slice_get w.nodes n) refl cause
happens h c w (of_world.OnInfo n session k) ahead cause =
    acts h c w n (event_for w (of_world.OnInfo n session k)) ahead (slice_get w.nodes n) refl cause
happens h c w (of_world.OnConnect n session k) ahead cause =
    acts h c w n (event_for w (of_world.OnConnect n session k)) ahead (slice_get w.nodes n) refl cause
happens h c w (At n event) ahead cause = acts h c w n (event_for w (At n event)) ahead (slice_get w.nodes n) refl cause

pub has_step : Puts
    → (c : Cluster) (w : World) (e : Event)
    → EachUp (λ k a. NoneAhead a.node.race) w
    → WorldStep c w e (outcome c w e) (next c w e)
has_step h c w e ahead = go (world_refusal c w e) refl
  where
    go : (o : Option WorldFault) → world_refusal c w e ≡ o → Decided c w e o (outcome_of c w e o) (next_of c w e o)
    go None cause = happens h c w e ahead cause
    go (Some why) cause = (refl, refl)
