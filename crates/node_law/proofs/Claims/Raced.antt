-- The race keeps up with the shards over each step.
use Rattle.std.proofs.Common.{◌≡◌, ◌≢◌, ℕ, zero, suc, ◌+◌, ◌-◌, ◌≤◌, Bool, true, false, cond, ◌&&◌, nat_eq, nat_lt, List, [], ◌∷◌, length, map, set, Option, Some, None, is_some, refl, sym, ap, ◌∙◌, subst, arith, add-one}
use Rattle.std.specs.Prelude.{slice_get, slice_index}
use Rattle.std.specs.Option.{option_or}
use Rattle.std.proofs.lemmas.Option.{none-some, same_Some}
use Rattle.list_laws.proofs.Lists.{read_set}
use Rattle.list_laws.proofs.Changes.{map_set, map_set_same, map_map}
use Rattle.list_laws.proofs.Tests.{eq_true}
use Rattle.subj.specs.Servers.{ServerIdentity}
use Rattle.subj.specs.declared.jobs.Job.{Job}
use Rattle.subj.specs.declared.limits.TheConstants.{WINDOW}
use Rattle.sub_table.specs.declared.Subscription.{Subscription}
use Rattle.claim_race.specs.Race.{RaceState, IsIssued, IsFinished}
use Rattle.route_values.specs.Frames.{Frame}
use Rattle.route_values.specs.declared.bodies.Body.{Body}
use Rattle.route_values.specs.declared.bodies.Body.TheVariants.{Plus, Minus, Snapshot, Msg}
use Rattle.hub_core.specs.Publishing.{own_job}
use Rattle.hub_core.specs.Receiving.{routed_job}
use Rattle.hub_core.proofs.Steps.Rooms.{map_none}
use Rattle.shard_core.specs.Shards.{State}
use Rattle.shard_core.specs.Lines.{SoundLine, Turns, begun_turn, first_of}
use Rattle.shard_core.specs.Owed.{candidate_of, after_claim, after_put, after_try}
use Rattle.shard_core.specs.ShardEvents as of_shard
use Rattle.shard_core.specs.ShardSteps.{sub_called, new_sub, after_subscribe, ended_now, after_unsubscribe, answer_fits, claim_refusal, end_refusal, begin_refusal, done_with, shard_after}
use Rattle.shard_core.specs.declared.faults.ShardFault.TheVariants.{JobInHand, WrongTurn, BadIndex}
use Rattle.node_law.specs.declared.faults.NodeFault.TheVariants.{Shard}
use Rattle.node_law.specs.State.{ShardWithJobs, Node}
use Rattle.node_law.specs.Events.{ConnEvent, Subscribe, Unsubscribe, Reply, Shut, SetHeaders, Detach, Take, ShardWork, Attach, Begin, Claim, End, DropJob, DrainShard, OfConn, AtShard, Publish, Collect, Drain, Dial, Accept, CutSession, TakeFrames, NodeEvent, Own, Receive, OnInfo, OnConnect}
use Rattle.node_law.specs.Steps.{conn_place, conn_line, shard_line, conn_event, begin_of, drop_of, work_event, conn_refusal, event_refusal, work_refusal, collect_refusal_at, ClaimRace, WorkRace, NodeRace, node_refusal, node_after, line_after, line_after_if, set_line, line_with_job, lines_after_body, BodyRace}
use Rattle.node_law.specs.Sound.{SoundNode, IsRaced, tried_of}
use Rattle.node_law.proofs.Moves.LineEvents.{found, same_refusal}

-- as far with its turns as it was
record Tracks (s after : State) : Type 0 where
  finished : after.finished ≡ s.finished
  hand : after.hand ≡ s.hand
  next : after.next_index ≡ s.next_index

either : (s x y : State) (b : Bool) → Tracks s x → Tracks s y → Tracks s (cond b x y)
either s x y true f g = f
either s x y false f g = g

conn_tracks : (conn : ℕ) (event : ConnEvent) (s : State) → Tracks s (shard_after s (conn_event conn event))
conn_tracks conn (Subscribe key sid) s = go (sub_called conn sid s.subs)
  where
    go : (u : Option Subscription) → Tracks s (after_subscribe s (new_sub s conn key sid) u)
    go None = record { finished = refl; hand = refl; next = refl }
    go (Some u) = record { finished = refl; hand = refl; next = refl }
conn_tracks conn (Unsubscribe sid max) s = go (sub_called conn sid s.subs)
  where
    go : (u : Option Subscription) → Tracks s (after_unsubscribe s max u)
    go None = record { finished = refl; hand = refl; next = refl }
    go (Some u) =
        either s _ _ (ended_now max u) (record { finished = refl; hand = refl; next = refl })
        (record { finished = refl; hand = refl; next = refl })
conn_tracks conn (Reply frame) s =
    either s _ _ (answer_fits s conn _) (record { finished = refl; hand = refl; next = refl })
    (record { finished = refl; hand = refl; next = refl })
conn_tracks conn (Shut text) s = record { finished = refl; hand = refl; next = refl }
conn_tracks conn Detach s = record { finished = refl; hand = refl; next = refl }
conn_tracks conn (SetHeaders on) s = record { finished = refl; hand = refl; next = refl }
conn_tracks conn (Take count) s = record { finished = refl; hand = refl; next = refl }

-- ---- one line is written

moved : (race new : RaceState) (lines : List ShardWithJobs) (place : ℕ) (after : ShardWithJobs)
    → IsRaced race lines
    → new.finished ≡ set race.finished place after.shard.finished
    → ((p : ℕ) → p ≢ place → slice_index new.next p ≡ slice_index race.next p)
    → slice_index new.next place ≤ tried_of after.shard.hand after.shard.next_index
    → IsRaced new (set lines place after)
moved race new lines place after raced done there here = record {
  finished =
      done
      ∙ ap (λ t. set t place after.shard.finished) raced.finished
      ∙ sym (map_set (λ (line : ShardWithJobs). line.shard.finished) lines place after);
  next =
      read_set (λ p l. slice_index new.next p ≤ tried_of l.shard.hand l.shard.next_index) lines place after
      (λ p l apart e.
      subst (λ k. k ≤ tried_of l.shard.hand l.shard.next_index) (sym (there p apart)) (raced.next p l e))
      here;
}

-- no turn is finished
stayed : (race new : RaceState) (lines : List ShardWithJobs) (place : ℕ) (line after : ShardWithJobs)
    → slice_get lines place ≡ Some line
    → IsRaced race lines
    → new.finished ≡ race.finished
    → after.shard.finished ≡ line.shard.finished
    → ((p : ℕ) → p ≢ place → slice_index new.next p ≡ slice_index race.next p)
    → slice_index new.next place ≤ tried_of after.shard.hand after.shard.next_index
    → IsRaced new (set lines place after)
stayed race new lines place line after at raced done same there here = record {
  finished =
      done
      ∙ raced.finished
      ∙ sym (map_set_same (λ (line : ShardWithJobs). line.shard.finished) lines place line after at same);
  next =
      read_set (λ p l. slice_index new.next p ≤ tried_of l.shard.hand l.shard.next_index) lines place after
      (λ p l apart e.
      subst (λ k. k ≤ tried_of l.shard.hand l.shard.next_index) (sym (there p apart)) (raced.next p l e))
      here;
}

tracked : (race : RaceState) (lines : List ShardWithJobs) (place : ℕ) (line after : ShardWithJobs)
    → slice_get lines place ≡ Some line
    → IsRaced race lines
    → Tracks line.shard after.shard
    → IsRaced race (set lines place after)
tracked race lines place line after at raced t =
    stayed race race lines place line after at raced refl t.finished (λ p apart. refl)
    (subst (λ k. slice_index race.next place ≤ k) (λ i. tried_of (sym t.hand i) (sym t.next i))
    (raced.next place line at))

-- what is read of a list of numbers that was written
set_at : (xs : List ℕ) (i v : ℕ) → slice_index (set xs i v) i ≤ v
set_at [] i v = omega arith
set_at (x ∷ xs) zero v = omega arith
set_at (x ∷ xs) (suc i) v = set_at xs i v

set_off : (xs : List ℕ) (i v p : ℕ) → p ≢ i → slice_index (set xs i v) p ≡ slice_index xs p
set_off [] i v p apart = refl
set_off (x ∷ xs) zero v zero apart = absurd (apart refl)
set_off (x ∷ xs) zero v (suc p) apart = refl
set_off (x ∷ xs) (suc i) v zero apart = refl
set_off (x ∷ xs) (suc i) v (suc p) apart = set_off xs i v p (λ e. apart (ap suc e))

-- ---- each shard gets a job

got_map : {A B : Type 0} (f : A → B) (xs : List A) (n : ℕ) (b : B)
    → slice_get (map f xs) n ≡ Some b
    → (a : A) × (slice_get xs n ≡ Some a) × (b ≡ f a)
got_map f [] n b e = absurd (none-some b e)
got_map f (x ∷ xs) zero b e = (x, refl, sym (same_Some (f x) b e))
got_map f (x ∷ xs) (suc n) b e = got_map f xs n b e

issued : (race new : RaceState) (turn : ℕ) (job : Job) (lines : List ShardWithJobs)
    → IsRaced race lines
    → IsIssued race turn new
    → IsRaced new (map (line_with_job job) lines)
issued race new turn job lines raced is = record {
  finished =
      is.finished
      ∙ raced.finished
      ∙ sym (map_map (line_with_job job) (λ (line : ShardWithJobs). line.shard.finished) lines);
  next = λ p l e.
      let g = got_map (line_with_job job) lines p l e in
      subst (λ (t : ShardWithJobs). slice_index new.next p ≤ tried_of t.shard.hand t.shard.next_index) (sym g.2)
      (subst (λ t. slice_index t p ≤ tried_of g.0.shard.hand g.0.shard.next_index) (sym is.next)
      (raced.next p g.0 g.1));
}

-- ---- work of a shard

and_left : (a b : Bool) → a && b ≡ true → a ≡ true
and_left true b e = refl
and_left false b e = e

if_not : {A : Type 0} (a : A) (b : Bool) → cond b None (Some a) ≡ None → b ≡ true
if_not a true e = refl
if_not a false e = absurd (none-some a (sym e))

none_in_hand : (s : State) (job : Job) → begin_refusal s job ≡ None → s.hand ≡ None
none_in_hand s job cause = go s.hand refl cause
  where
    go : (hand : Option Job)
        → s.hand ≡ hand
        → cond (is_some hand) (Some JobInHand) (cond (nat_eq job.turn (s.finished + 1)) None (Some WrongTurn)) ≡ None
        → hand ≡ None
    go None e c = refl
    go (Some x) e c = absurd (none-some JobInHand (sym c))

-- a turn is over: it is finished in the race too
record IsOver (s after : State) (job : Job) : Type 0 where
  finished : after.finished ≡ job.turn
  hand : after.hand ≡ None

over_turn : (race new : RaceState) (lines : List ShardWithJobs) (shard : ℕ) (line after : ShardWithJobs) (job : Job)
    → IsRaced race lines
    → IsFinished race shard (line.shard.finished + 1) new
    → job.turn ≡ suc line.shard.finished
    → IsOver line.shard after.shard job
    → IsRaced new (set lines (shard - 1) after)
over_turn race new lines shard line after job raced h turn over =
    moved race new lines (shard - 1) after raced
    (h.finished ∙ ap (set race.finished (shard - 1)) (add-one line.shard.finished ∙ sym turn ∙ sym over.finished))
    (λ p apart. ap (λ t. slice_index t p) h.next ∙ set_off race.next (shard - 1) 0 p apart)
    (let z = subst (λ t. slice_index t (shard - 1) ≤ 0) (sym h.next) (set_at race.next (shard - 1) 0) in omega arith)

pub next_turn : (s : State) (waiting : List Job) (k : ℕ) (job : Job)
    → Turns (begun_turn s.hand s.finished) waiting k
    → s.hand ≡ None
    → first_of waiting ≡ Some job
    → job.turn ≡ suc s.finished
next_turn s [] k job turns free first = absurd (none-some job first)
next_turn s (j ∷ jobs) k job turns free first =
    ap (λ (t : Job). t.turn) (sym (same_Some j job first)) ∙ turns.0 ∙ ap (λ t. suc (begun_turn t s.finished)) free

dropped_free : (s : State) (job : Job) → s.hand ≡ None → IsOver s (shard_after s (of_shard.DropJob (Some job))) job
dropped_free s job free =
    subst (λ t. IsOver s (done_with s (option_or t (Some job))) job) (sym free)
    (record { finished = refl; hand = refl })

dropped_held : (s : State) (job : Job) → s.hand ≡ Some job → IsOver s (shard_after s (of_shard.DropJob None)) job
dropped_held s job held =
    subst (λ t. IsOver s (done_with s (option_or t None)) job) (sym held) (record { finished = refl; hand = refl })

work_raced : (race new : RaceState) (lines : List ShardWithJobs) (shard issued_turn : ℕ) (work : ShardWork) (won : Bool)
    (line : ShardWithJobs)
    → slice_get lines (shard - 1) ≡ Some line
    → IsRaced race lines
    → SoundLine WINDOW issued_turn line.shard line.waiting
    → event_refusal line (work_event work won line) ≡ None
    → WorkRace race shard work (Some line) won new
    → IsRaced new (set lines (shard - 1) (line_after_if (work_event work won line) line))
work_raced race new lines shard k Attach won line at raced sound cause h =
    subst (λ r. IsRaced r (set lines (shard - 1) (line_after of_shard.Attach line))) (sym h)
    (tracked race lines (shard - 1) line (line_after of_shard.Attach line) at raced
    (record { finished = refl; hand = refl; next = refl }))
work_raced race new lines shard k Begin won line at raced sound cause h =
    subst (λ r. IsRaced r (set lines (shard - 1) (line_after_if (begin_of (first_of line.waiting)) line))) (sym h)
    (go (first_of line.waiting) cause)
  where
    go : (f : Option Job)
        → event_refusal line (begin_of f) ≡ None
        → IsRaced race (set lines (shard - 1) (line_after_if (begin_of f) line))
    go None c = absurd (none-some _ (sym c))
    go (Some job) c =
        let free = none_in_hand line.shard job (map_none Shard (begin_refusal line.shard job) c) in
        stayed race race lines (shard - 1) line (line_after (of_shard.Begin job) line) at raced refl refl
        (λ p apart. refl)
        (subst (λ t. slice_index race.next (shard - 1) ≤ tried_of t line.shard.next_index) free
        (raced.next (shard - 1) line at))
work_raced race new lines shard k (Claim index) won line at raced sound cause h =
    go line.shard.hand refl (candidate_of line.shard line.shard.hand index)
    (map_none Shard (claim_refusal line.shard index line.shard.hand) cause) h
  where
    go : (hand : Option Job)
        → line.shard.hand ≡ hand
        → (u : Option Subscription)
        → claim_refusal line.shard index hand ≡ None
        → ClaimRace race shard index hand u won new
        → IsRaced new
        (set lines (shard - 1) (record { shard = after_claim line.shard hand u won; waiting = line.waiting }))
    go None is u c m = absurd (none-some _ (sym c))
    go (Some job) is None c m =
        subst (λ r. IsRaced r (set lines (shard - 1) (record { shard = after_try line.shard; waiting = line.waiting })))
        (sym m)
        (stayed race race lines (shard - 1) line (record { shard = after_try line.shard; waiting = line.waiting }) at
        raced refl refl (λ p apart. refl)
        (let z = raced.next (shard - 1) line at in
        subst (λ t. slice_index race.next (shard - 1) ≤ tried_of t (line.shard.next_index + 1)) (sym is)
        (let y = subst (λ t. slice_index race.next (shard - 1) ≤ tried_of t line.shard.next_index) is z in
        omega arith)))
    go (Some job) is (Some u) c m = both won m
      where
        here : (s : State)
            → new.next ≡ set race.next (shard - 1) (index + 1)
            → s.hand ≡ line.shard.hand
            → s.next_index ≡ line.shard.next_index + 1
            → slice_index new.next (shard - 1) ≤ tried_of s.hand s.next_index
        here s written hand next =
            subst (λ t. slice_index new.next (shard - 1) ≤ tried_of t s.next_index) (sym (hand ∙ is))
            (let e = eq_true index line.shard.next_index
            (and_left (nat_eq index line.shard.next_index) (nat_lt index (length job.queues))
            (if_not BadIndex (nat_eq index line.shard.next_index && nat_lt index (length job.queues)) c)) in
            let g = subst (λ t. slice_index t (shard - 1) ≤ index + 1) (sym written)
            (set_at race.next (shard - 1) (index + 1)) in
            omega arith)

        both : (b : Bool)
            → ClaimRace race shard index (Some job) (Some u) b new
            → IsRaced new (set lines (shard - 1)
            (record { shard = after_claim line.shard (Some job) (Some u) b; waiting = line.waiting }))
        both true m' =
            stayed race new lines (shard - 1) line
            (record { shard = after_put (after_try line.shard) job u; waiting = line.waiting }) at raced m'.finished
            refl (λ p apart. ap (λ t. slice_index t p) m'.next ∙ set_off race.next (shard - 1) (index + 1) p apart)
            (here (after_put (after_try line.shard) job u) m'.next refl refl)
        both false m' =
            stayed race new lines (shard - 1) line (record { shard = after_try line.shard; waiting = line.waiting }) at
            raced m'.finished refl
            (λ p apart. ap (λ t. slice_index t p) m'.next ∙ set_off race.next (shard - 1) (index + 1) p apart)
            (here (after_try line.shard) m'.next refl refl)
work_raced race new lines shard k End won line at raced sound cause h =
    go line.shard.hand refl (map_none Shard (end_refusal line.shard line.shard.hand) cause)
  where
    go : (hand : Option Job)
        → line.shard.hand ≡ hand
        → end_refusal line.shard hand ≡ None
        → IsRaced new (set lines (shard - 1) (record { shard = done_with line.shard hand; waiting = line.waiting }))
    go None is c = absurd (none-some _ (sym c))
    go (Some job) is c =
        over_turn race new lines shard line (record { shard = done_with line.shard (Some job); waiting = line.waiting })
        job raced h (sound.hand job is) (record { finished = refl; hand = refl })
work_raced race new lines shard k DropJob won line at raced sound cause h =
    go line.shard.hand refl (first_of line.waiting) refl cause
  where
    go : (hand : Option Job)
        → line.shard.hand ≡ hand
        → (f : Option Job)
        → first_of line.waiting ≡ f
        → event_refusal line (drop_of hand f) ≡ None
        → IsRaced new (set lines (shard - 1) (line_after_if (drop_of hand f) line))
    go None is None first c = absurd (none-some _ (sym c))
    go None is (Some job) first c =
        over_turn race new lines shard line (line_after (of_shard.DropJob (Some job)) line) job raced h
        (next_turn line.shard line.waiting k job sound.turns is first) (dropped_free line.shard job is)
    go (Some job) is f first c =
        over_turn race new lines shard line (line_after (of_shard.DropJob None) line) job raced h (sound.hand job is)
        (dropped_held line.shard job is)
work_raced race new lines shard k DrainShard won line at raced sound cause h =
    subst (λ r. IsRaced r (set lines (shard - 1) (line_after of_shard.Drain line))) (sym h)
    (tracked race lines (shard - 1) line (line_after of_shard.Drain line) at raced
    (record { finished = refl; hand = refl; next = refl }))

-- ---- each step

body_raced : (a : Node) (frame : Frame) (body : Body) (race : RaceState)
    → IsRaced a.race a.lines
    → BodyRace a body race
    → IsRaced race (lines_after_body a frame body)
body_raced a frame (Plus weighted) race raced h = subst (λ r. IsRaced r a.lines) (sym h) raced
body_raced a frame (Minus key) race raced h = subst (λ r. IsRaced r a.lines) (sym h) raced
body_raced a frame (Snapshot keys) race raced h = subst (λ r. IsRaced r a.lines) (sym h) raced
body_raced a frame (Msg content queues) race raced h =
    issued a.race race (a.race.issued + 1) (routed_job a.hub frame content queues) a.lines raced h

conn_raced : (server : ServerIdentity) (a : Node) (conn : ℕ) (event : ConnEvent) (o : Option ShardWithJobs)
    → conn_line server a conn ≡ o
    → IsRaced a.race a.lines
    → conn_refusal event conn o ≡ None
    → IsRaced a.race (set_line a.lines (conn_place server conn) (line_after (conn_event conn event)) o)
conn_raced server a conn event None at raced cause = absurd (none-some _ (sym cause))
conn_raced server a conn event (Some line) at raced cause =
    tracked a.race a.lines (conn_place server conn) line (line_after (conn_event conn event) line)
    (found (nat_eq conn 0) (slice_get a.lines (conn_place server conn)) line at) raced
    (conn_tracks conn event line.shard)

shard_raced : (server : ServerIdentity) (a : Node) (shard : ℕ) (work : ShardWork) (won : Bool) (race : RaceState)
    (o : Option ShardWithJobs)
    → SoundNode server a
    → shard_line a shard ≡ o
    → IsRaced a.race a.lines
    → work_refusal work o ≡ None
    → WorkRace a.race shard work o won race
    → IsRaced race (set_line a.lines (shard - 1) (λ line. line_after_if (work_event work won line) line) o)
shard_raced server a shard work won race None sound at raced cause h = absurd (none-some _ (sym cause))
shard_raced server a shard work won race (Some line) sound at raced cause h =
    let here = found (nat_eq shard 0) (slice_get a.lines (shard - 1)) line at in
    work_raced a.race race a.lines shard a.race.issued work won line here raced
    (sound.lines (shard - 1) line here).sound (sym (same_refusal work line won) ∙ cause) h

told_raced : (a : Node) (shard : ℕ) (o : Option ShardWithJobs)
    → shard_line a shard ≡ o
    → IsRaced a.race a.lines
    → collect_refusal_at a.hub o ≡ None
    → IsRaced a.race (set_line a.lines (shard - 1) (line_after of_shard.Collect) o)
told_raced a shard None at raced cause = absurd (none-some _ (sym cause))
told_raced a shard (Some line) at raced cause =
    tracked a.race a.lines (shard - 1) line (line_after of_shard.Collect line)
    (found (nat_eq shard 0) (slice_get a.lines (shard - 1)) line at) raced
    (record { finished = refl; hand = refl; next = refl })

pub raced_after : (server : ServerIdentity) (a : Node) (e : NodeEvent) (won : Bool) (race : RaceState)
    → SoundNode server a
    → IsRaced a.race a.lines
    → node_refusal server a e ≡ None
    → NodeRace a e won race
    → IsRaced (node_after server a e won race).race (node_after server a e won race).lines
raced_after server a (Own (OfConn conn event)) won race sound raced cause h =
    conn_raced server a conn event (conn_line server a conn) refl raced cause
raced_after server a (Own (AtShard shard work)) won race sound raced cause h =
    shard_raced server a shard work won race (shard_line a shard) sound refl raced cause h
raced_after server a (Own (Publish p)) won race sound raced cause h =
    issued a.race race (a.race.issued + 1) (own_job server a.hub p) a.lines raced h
raced_after server a (Own (Collect shard)) won race sound raced cause h =
    told_raced a shard (shard_line a shard) refl raced cause
raced_after server a (Own Drain) won race sound raced cause h = raced
raced_after server a (Own (Dial q)) won race sound raced cause h = raced
raced_after server a (Own Accept) won race sound raced cause h = raced
raced_after server a (Own (CutSession session)) won race sound raced cause h = raced
raced_after server a (Own (TakeFrames q count)) won race sound raced cause h = raced
raced_after server a (Receive frame) won race sound raced cause h = body_raced a frame frame.body race raced h
raced_after server a (OnInfo session info) won race sound raced cause h = raced
raced_after server a (OnConnect session connect) won race sound raced cause h = raced
