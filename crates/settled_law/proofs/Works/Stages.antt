-- How far each shard of a server has come with a job, and the step of an event of its work.
use Rattle.std.proofs.Common.{◌≡◌, ◌≢◌, ◌⊎◌, ℕ, zero, suc, ◌+◌, ◌<◌, Bool, true, false, true≢false, cond, ◌&&◌, nat_eq, nat_lt, List, [], ◌∷◌, ◌++◌, length, map, set, Option, Some, None, refl, sym, ap, ◌∙◌, subst, inl, inr, ⊎_elim, arith}
use Rattle.std.specs.Prelude.{filter, slice_get, is_none, is_some}
use Rattle.std.specs.Option.{option_map}
use Rattle.std.proofs.lemmas.Option.{none-some, same_Some}
use Rattle.list_laws.specs.Lists.{In, Pairs}
use Rattle.list_laws.proofs.Lists.{in_left, in_right, get_some}
use Rattle.list_laws.proofs.Changes.{get_set_here, get_set_there, in_mapped, filter_in}
use Rattle.list_laws.proofs.Tests.{true_eq, false_eq, eq_true, eq_false}
use Rattle.outbox.specs.declared.entries.Mode.TheVariants.{Plain}
use Rattle.sub_table.specs.declared.Subscription.{Subscription}
use Rattle.subj.specs.Servers.{ServerIdentity}
use Rattle.subj.specs.declared.jobs.Job.{Job}
use Rattle.subj.specs.declared.limits.TheConstants.{WINDOW}
use Rattle.claim_race.specs.Race.{RaceState, winner, winner_after, IsClaimed, IsFinished}
use Rattle.shard_core.specs.declared.calls.Placed.{Placed}
use Rattle.shard_core.specs.Causes.{AreHeld}
use Rattle.shard_core.specs.Closings.{id_of}
use Rattle.shard_core.specs.Lines.{first_of}
use Rattle.shard_core.specs.Owed.{candidate_of, owed_placed, whole_walk, slow_consumer, is_due, mode_of, after_begin}
use Rattle.shard_core.specs.Puts.{put_by, put_by_claim, put_line}
use Rattle.shard_core.specs.Shards as shards
use Rattle.shard_core.specs.ShardEvents as of_shard
use Rattle.shard_core.specs.ShardSteps.{claim_refusal, end_refusal}
use Rattle.node_law.specs.declared.events.ShardWork.{ShardWork}
use Rattle.node_law.specs.declared.events.ShardWork.TheVariants.{Begin, Claim, End}
use Rattle.node_law.specs.declared.faults.NodeFault.TheVariants as fault
use Rattle.node_law.specs.Events.{AtShard}
use Rattle.shard_core.specs.declared.faults.ShardFault.TheVariants.{JobInHand, WrongTurn, BadIndex, NotAllTried}
use Rattle.node_law.specs.Sound.{SoundNode}
use Rattle.node_law.specs.State.{ShardWithJobs}
use Rattle.node_law.specs.Steps.{ClaimRace, line_after_if, work_event, begin_of, work_refusal, event_refusal}
use Rattle.world_law.specs.Changes.{PlacementsAreOne, placement_of}
use Rattle.world_law.specs.Events.{Event, At}
use Rattle.world_law.specs.Outcomes.{Outcome, Done}
use Rattle.world_law.specs.Play.{PutsArePlaced, placements_put, put_if}
use Rattle.world_law.specs.State.{Cluster, World, Running, Placement, server_at}
use Rattle.world_law.specs.Steps.{WorldStep}
use Rattle.settled_law.specs.Delivered.{IsPlaced, IsServed}
use Rattle.settled_law.specs.Orders.{is_for, claims_from, work_events}
use Rattle.settled_law.specs.Room.{HasRoom, IsMember}
use Rattle.settled_law.proofs.Lists.{is_less}
use Rattle.settled_law.proofs.Shards.Works.{Works, begins, walks, candidate_there, candidate_is, claims}
use Rattle.settled_law.proofs.Works.Steps.{WorksAt, works_at, more_placed, more_served}

-- ---- what was placed so far: for plain subscriptions, and for the queue names before an index

pub record Goals (w : World) (m inc : ℕ) (job : Job) (start : ShardWithJobs) (i : ℕ) : Type 0 where
  pub plain : (u : Subscription)
      → In u start.shard.subs
      → is_due job u ≡ true
      → IsPlaced w job.id (record { node = m; inc = inc; sub = id_of start.shard.shard u.serial })
  pub groups : (j : ℕ) (name : List ℕ)
      → j < i
      → slice_get job.queues j ≡ Some name
      → (u : Subscription)
      → In u start.shard.subs
      → IsMember job.message.subject name u
      → IsServed w job.id name

-- ---- a line waits, works, or is over

pub record Waits (m place : ℕ) (job : Job) (start line : ShardWithJobs) (left : List Event) : Type 0 where
  pub left_is : left ≡ work_events m (suc place) (length job.queues)
  pub shard : line.shard ≡ start.shard
  pub waiting : line.waiting ≡ job ∷ []

pub record Working (w : World) (m inc place : ℕ) (job : Job) (start line : ShardWithJobs) (left : List Event) :
    Type 0 where
  pub i : ℕ
  pub count : ℕ
  pub left_is : left ≡ claims_from m (suc place) i count
  pub sum : i + count ≡ length job.queues
  pub works : Works start.shard job i line.shard
  pub goals : Goals w m inc job start i

pub record Over (w : World) (m inc place : ℕ) (job : Job) (start line : ShardWithJobs) (left : List Event) :
    Type 0 where
  pub left_is : left ≡ []
  pub goals : Goals w m inc job start (length job.queues)

abbrev pub Stage : World → ℕ → ℕ → ℕ → Job → ShardWithJobs → ShardWithJobs → List Event → Type 0
Stage w m inc place job start line left =
    Waits m place job start line left
    ⊎ (Working w m inc place job start line left ⊎ Over w m inc place job start line left)

-- where it all began
pub record Rests (job : Job) (start : ShardWithJobs) : Type 0 where
  pub held : AreHeld start.shard
  pub room : HasRoom job.message start.shard
  pub hand : start.shard.hand ≡ None
  pub waiting : start.waiting ≡ []
  pub turn : job.turn ≡ start.shard.finished + 1

pub record Errand (c : Cluster) (job : Job) (starts : List ShardWithJobs) : Type 0 where
  pub echo : job.echo ≡ true
  pub names : Pairs (λ a b. a ≢ b) job.queues
  pub size : length starts ≡ c.shards
  pub rest : (place : ℕ) (start : ShardWithJobs) → slice_get starts place ≡ Some start → Rests job start

pub record Busy (w : World) (m inc : ℕ) (job : Job) (starts : List ShardWithJobs) (left : List Event) : Type 0 where
  pub a : Running
  pub up : slice_get w.nodes m ≡ Some (Some a)
  pub inc_is : a.inc ≡ inc
  pub issued : a.node.race.issued ≡ job.turn
  pub lines : (place : ℕ) (start line : ShardWithJobs)
      → slice_get starts place ≡ Some start
      → slice_get a.node.lines place ≡ Some line
      → Stage w m inc place job start line (filter (is_for m (suc place)) left)
  pub won : (i : ℕ) (name : List ℕ)
      → is_some (winner a.node.race job.turn i) ≡ true
      → slice_get job.queues i ≡ Some name
      → IsServed w job.id name

-- ---- what was placed stays so

module _ (w w' : World) (gained : List Placement) (more : w'.placements ≡ w.placements ++ gained) where
  pub goals_more : (m inc : ℕ) (job : Job) (start : ShardWithJobs) (i : ℕ)
      → Goals w m inc job start i
      → Goals w' m inc job start i
  goals_more m inc job start i g = record {
    plain = λ u j due.
        more_placed w w' gained more job.id (record { node = m; inc = inc; sub = id_of start.shard.shard u.serial })
        (g.plain u j due);
    groups = λ j name lt at u k is. more_served w w' gained more job.id name (g.groups j name lt at u k is);
  }

  pub stage_more : (m inc place : ℕ) (job : Job) (start line : ShardWithJobs) (left : List Event)
      → Stage w m inc place job start line left
      → Stage w' m inc place job start line left
  stage_more m inc place job start line left s =
      ⊎_elim (λ (x : Waits m place job start line left). inl x)
      (λ s.
      ⊎_elim (λ (x : Working w m inc place job start line left).
      inr (inl (record {
        i = x.i;
        count = x.count;
        left_is = x.left_is;
        sum = x.sum;
        works = x.works;
        goals = goals_more m inc job start x.i x.goals;
      })))
      (λ (x : Over w m inc place job start line left).
      inr (inr (record { left_is = x.left_is; goals = goals_more m inc job start (length job.queues) x.goals })))
      s)
      s

-- a put message is placed
pub put_is_placed : (server : ServerIdentity) (now : ℕ) (put : Placed) (puts : List Placed) (x : Placement)
    → In put puts
    → In x (placement_of server now put.conn put.headers put.entry.bytes put.entry.tag)
    → In x (placements_put server now puts)
put_is_placed server now put [] x i j = absurd i
put_is_placed server now put (other ∷ puts) x i j =
    ⊎_elim (λ (e : put ≡ other).
    in_left x (placement_of server now other.conn other.headers other.entry.bytes other.entry.tag)
    (placements_put server now puts)
    (subst (λ (p : Placed). In x (placement_of server now p.conn p.headers p.entry.bytes p.entry.tag)) e j))
    (λ (k : In put puts).
    in_right x (placement_of server now other.conn other.headers other.entry.bytes other.entry.tag)
    (placements_put server now puts) (put_is_placed server now put puts x k j))
    i

-- ---- the first event that is left of a line

pub head_is : (e : Event) (es : List Event) (test : Event → Bool) (x : Event) (xs : List Event)
    → test e ≡ true
    → filter test (e ∷ es) ≡ x ∷ xs
    → (e ≡ x) × (filter test es ≡ xs)
head_is e es test x xs passes is =
    let f : e ∷ filter test es ≡ x ∷ xs = sym (ap (λ b. cond b (e ∷ filter test es) (filter test es)) passes) ∙ is in
    (cc, cc)

pub not_empty : (e : Event) (es : List Event) (test : Event → Bool) → test e ≡ true → filter test (e ∷ es) ≡ [] → ⊥
not_empty e es test passes is =
    let f : e ∷ filter test es ≡ [] = sym (ap (λ b. cond b (e ∷ filter test es) (filter test es)) passes) ∙ is in cc

pub skips : (e : Event) (es : List Event) (test : Event → Bool) → test e ≡ false → filter test (e ∷ es) ≡ filter test es
skips e es test other = ap (λ b. cond b (e ∷ filter test es) (filter test es)) other

pub work_elsewhere : (m place other : ℕ) (work : ShardWork)
    → other ≢ place
    → is_for m (suc other) (At m (AtShard (suc place) work)) ≡ false
work_elsewhere m place other work apart =
    λ i. both (nat_eq m m) (false_eq (suc place) (suc other) (λ e. apart (sym (same e)))) i
  where
    both : (a : Bool) → nat_eq (suc place) (suc other) ≡ false → (a && nat_eq (suc place) (suc other)) ≡ false
    both true e = e
    both false e = refl

    same : suc place ≡ suc other → place ≡ other
    same e = omega (arith, e)

in_window_of : (turn : ℕ) (race : RaceState) → race.issued ≡ turn → race.issued < turn + WINDOW
in_window_of turn race is = omega (arith, is)

-- ---- a step of work

module _ (one : PlacementsAreOne) (placed : PutsArePlaced) (c : Cluster) (w : World) (m inc : ℕ) (job : Job)
    (starts : List ShardWithJobs) (errand : Errand c job starts) (place : ℕ) (start line : ShardWithJobs) (a : Running)
    (at_start : slice_get starts place ≡ Some start) (up : slice_get w.nodes m ≡ Some (Some a))
    (at : slice_get a.node.lines place ≡ Some line) (inc_is : a.inc ≡ inc) (issued : a.node.race.issued ≡ job.turn)
    (sound : SoundNode (server_at c m a.inc) a.node) (held : AreHeld line.shard) where
  rest : Rests job start
  rest = errand.rest place start at_start

  -- the server after it, where its stage is known
  pub next : (e : Event) (es : List Event) (work : ShardWork) (won : Bool) (w' : World)
      → e ≡ At m (AtShard (suc place) work)
      → (t : WorksAt c w m place work a line won w')
      → t.race.issued ≡ job.turn
      → Stage w' m inc place job start (line_after_if (work_event work won line) line)
      (filter (is_for m (suc place)) es)
      → ((i : ℕ) (name : List ℕ) → is_some (winner t.race job.turn i) ≡ true → slice_get job.queues i ≡ Some name
      → IsServed w' job.id name)
      → ((p : ℕ) (start line : ShardWithJobs) → slice_get starts p ≡ Some start → slice_get a.node.lines p ≡ Some line
      → Stage w m inc p job start line (filter (is_for m (suc p)) (e ∷ es)))
      → Busy w' m inc job starts es
  next e es work won w' is t race_issued stage winners before = record {
    a = record {
      inc = a.inc;
      node = record a.node {
        lines = set a.node.lines place (line_after_if (work_event work won line) line);
        race = t.race;
      };
    };
    up = t.nodes;
    inc_is = inc_is;
    issued = race_issued;
    lines = λ p start2 line2 s l. by p start2 line2 s l (nat_eq p place) refl;
    won = winners;
  }
    where
      by : (p : ℕ) (start2 line2 : ShardWithJobs)
          → slice_get starts p ≡ Some start2
          → slice_get (set a.node.lines place (line_after_if (work_event work won line) line)) p ≡ Some line2
          → (b : Bool)
          → nat_eq p place ≡ b
          → Stage w' m inc p job start2 line2 (filter (is_for m (suc p)) es)
      by p start2 line2 s l true here =
          let q : p ≡ place = eq_true p place here in
          let s2 : start ≡ start2 = same_Some start start2 (sym at_start ∙ sym (ap (slice_get starts) q) ∙ s) in
          let l2 : line_after_if (work_event work won line) line ≡ line2 = same_Some
          (line_after_if (work_event work won line) line) line2
          (sym (get_set_here a.node.lines place line (line_after_if (work_event work won line) line) at)
          ∙ sym (ap (slice_get (set a.node.lines place (line_after_if (work_event work won line) line))) q) ∙ l) in
          subst (λ n. Stage w' m inc n job start2 line2 (filter (is_for m (suc n)) es)) (sym q)
          (subst (λ (x : ShardWithJobs). Stage w' m inc place job start2 x (filter (is_for m (suc place)) es)) l2
          (subst (λ (x : ShardWithJobs).
          Stage w' m inc place job x (line_after_if (work_event work won line) line) (filter (is_for m (suc place)) es))
          s2 stage))
      by p start2 line2 s l false there =
          let apart : p ≢ place = eq_false p place there in
          let old : slice_get a.node.lines p ≡ Some line2 =
          sym (get_set_there a.node.lines place p (line_after_if (work_event work won line) line) apart) ∙ l in
          let no : is_for m (suc p) e ≡ false = ap (is_for m (suc p)) is ∙ work_elsewhere m place p work apart in
          stage_more w w' (placements_put (server_at c m a.inc) (suc w.step) (put_if line (work_event work won line)))
          t.placements m inc p job start2 line2 (filter (is_for m (suc p)) es)
          (subst (Stage w m inc p job start2 line2) (skips e es (is_for m (suc p)) no) (before p start2 line2 s old))

  -- what an event of an order does at this server
  abbrev pub Done_so : (e : Event) (es : List Event) (outcome : Outcome) (w' : World) → Type 0
  Done_so e es outcome w' =
      ((told : _) × (outcome ≡ Done told))
      × (Busy w' m inc job starts es
      × (((o : ℕ) → o ≢ m → slice_get w'.nodes o ≡ slice_get w.nodes o)
      × ((w'.sent ≡ w.sent) × ((gained : List Placement) × (w'.placements ≡ w.placements ++ gained)))))

  module _ (e : Event) (es : List Event) (passes : is_for m (suc place) e ≡ true) (outcome : Outcome) (w' : World)
      (step : WorldStep c w e outcome w')
      (stages : (p : ℕ) (start line : ShardWithJobs) → slice_get starts p ≡ Some start
      → slice_get a.node.lines p ≡ Some line → Stage w m inc p job start line (filter (is_for m (suc p)) (e ∷ es)))
      (won_before : (i : ℕ) (name : List ℕ) → is_some (winner a.node.race job.turn i) ≡ true
      → slice_get job.queues i ≡ Some name → IsServed w job.id name) where
    -- ---- Begin

    begin_step : Waits m place job start line (filter (is_for m (suc place)) (e ∷ es)) → Done_so e es outcome w'
    begin_step x =
        let h = head_is e es (is_for m (suc place)) (At m (AtShard (suc place) Begin))
        (claims_from m (suc place) 0 (length job.queues)) passes x.left_is in
        let step2 : WorldStep c w (At m (AtShard (suc place) Begin)) outcome w' =
        subst (λ v. WorldStep c w v outcome w') h.0 step in
        let none_hand : line.shard.hand ≡ None = ap (λ (s : shards.State). s.hand) x.shard ∙ rest.hand in
        let turn : job.turn ≡ line.shard.finished + 1 =
        rest.turn ∙ ap (λ (s : shards.State). s.finished + 1) (sym x.shard) in
        let event : (won : Bool) → work_event Begin won line ≡ Some (of_shard.Begin job) =
        λ won. ap (λ l. begin_of (first_of l)) x.waiting in
        let none : work_refusal Begin (Some line) ≡ None =
        ap (event_refusal line) (event false) ∙ free none_hand turn in
        let t = works_at one placed c w m place Begin a line up at sound outcome w' none step2 in
        let won : Bool = t.1.0 in
        let y : WorksAt c w m place Begin a line t.1.0 w' = t.1.1 in
        let race_is : y.race ≡ a.node.race = y.moves in
        let put : put_if line (work_event Begin t.1.0 line) ≡ put_by start.shard (of_shard.Begin job) =
        ap (put_if line) (event t.1.0) ∙ ap (λ s. put_by s (of_shard.Begin job)) x.shard in
        let shard_is : (line_after_if (work_event Begin t.1.0 line) line).shard ≡ after_begin start.shard job =
        ap (λ v. (line_after_if v line).shard) (event t.1.0) ∙ ap (λ s. after_begin s job) x.shard in
        let placements : w'.placements
        ≡ w.placements ++ placements_put (server_at c m a.inc) (suc w.step) (put_by start.shard (of_shard.Begin job)) =
        y.placements ∙ ap (λ p. w.placements ++ placements_put (server_at c m a.inc) (suc w.step) p) put in
        let now : Stage w' m inc place job start (line_after_if (work_event Begin t.1.0 line) line)
        (filter (is_for m (suc place)) es) = inr (inl (record {
          i = 0;
          count = length job.queues;
          left_is = h.1;
          sum = omega arith;
          works =
              subst (Works start.shard job 0) (sym shard_is) (begins start.shard job rest.held errand.echo rest.room);
          goals = record {
            plain = λ u there due. plain_placed w' placements u there due;
            groups = λ j name lt. absurd (omega (arith, lt));
          };
        })) in
        let b = next e es Begin t.1.0 w' h.0 y (ap (λ (r : RaceState). r.issued) race_is ∙ issued) now
        (λ i name some q.
        more_served w w' (placements_put (server_at c m a.inc) (suc w.step) (put_by start.shard (of_shard.Begin job)))
        placements job.id name
        (won_before i name (ap (λ (r : RaceState). is_some (winner r job.turn i)) (sym race_is) ∙ some) q))
        stages in
        (t.0, (b, (y.others, (y.sent, (_, y.placements)))))
      where
        free : line.shard.hand ≡ None
            → job.turn ≡ line.shard.finished + 1
            → event_refusal line (Some (of_shard.Begin job)) ≡ None
        free hand turn = λ i.
            option_map fault.Shard
            (cond (is_some (hand i)) (Some JobInHand)
            (cond (true_eq job.turn (line.shard.finished + 1) turn i) None (Some WrongTurn)))

        plain_placed : (w' : World)
            → w'.placements
            ≡ w.placements
            ++ placements_put (server_at c m a.inc) (suc w.step) (put_by start.shard (of_shard.Begin job))
            → (u : Subscription)
            → In u start.shard.subs
            → is_due job u ≡ true
            → IsPlaced w' job.id (record { node = m; inc = inc; sub = id_of start.shard.shard u.serial })
        plain_placed w' placements u there due =
            let given : In u (whole_walk start.shard job).given = subst (In u)
            (sym (walks start.shard job rest.held errand.echo rest.room).given)
            (filter_in (is_due job) start.shard.subs u there due) in
            let put : In (owed_placed start.shard.shard start.shard.clients job None u)
            (put_by start.shard (of_shard.Begin job)) = in_left
            (owed_placed start.shard.shard start.shard.clients job None u)
            (map (owed_placed start.shard.shard start.shard.clients job None) (whole_walk start.shard job).given)
            (map (put_line slow_consumer) (whole_walk start.shard job).shut)
            (in_mapped (owed_placed start.shard.shard start.shard.clients job None) (whole_walk start.shard job).given u
            given) in
            let p : Placement = record {
              step = suc w.step;
              life = record { node = m; inc = a.inc; sub = id_of start.shard.shard u.serial };
              conn = u.conn;
              id = job.id;
              mode = Plain;
              bytes = (owed_placed start.shard.shard start.shard.clients job None u).entry.bytes;
              headers = (owed_placed start.shard.shard start.shard.clients job None u).headers;
            } in
            record {
              placement = record {
                step = suc w.step;
                life = record { node = m; inc = a.inc; sub = id_of start.shard.shard u.serial };
                conn = u.conn;
                id = job.id;
                mode = Plain;
                bytes = (owed_placed start.shard.shard start.shard.clients job None u).entry.bytes;
                headers = (owed_placed start.shard.shard start.shard.clients job None u).headers;
              };
              there =
                  subst (In p) (sym placements)
                  (in_right p w.placements
                  (placements_put (server_at c m a.inc) (suc w.step) (put_by start.shard (of_shard.Begin job)))
                  (put_is_placed (server_at c m a.inc) (suc w.step)
                  (owed_placed start.shard.shard start.shard.clients job None u)
                  (put_by start.shard (of_shard.Begin job)) p put (inl refl)));
              is = refl;
              life_is = ap (λ n. record { node = m; inc = n; sub = id_of start.shard.shard u.serial }) inc_is;
              plain = refl;
            }

    -- ---- Claim

    claim_step : (i left : ℕ)
        → filter (is_for m (suc place)) (e ∷ es) ≡ claims_from m (suc place) i (suc left)
        → i + suc left ≡ length job.queues
        → Works start.shard job i line.shard
        → Goals w m inc job start i
        → Done_so e es outcome w'
    claim_step i left left_is sum works goals =
        let h = head_is e es (is_for m (suc place)) (At m (AtShard (suc place) (Claim i)))
        (claims_from m (suc place) (suc i) left) passes left_is in
        let step2 : WorldStep c w (At m (AtShard (suc place) (Claim i))) outcome w' =
        subst (λ v. WorldStep c w v outcome w') h.0 step in
        let lt : i < length job.queues = omega (arith, sum) in
        let none : work_refusal (Claim i) (Some line) ≡ None = free works.hand works.next lt in
        let t = works_at one placed c w m place (Claim i) a line up at sound outcome w' none step2 in
        let y : WorksAt c w m place (Claim i) a line t.1.0 w' = t.1.1 in
        let name = get_some job.queues i lt in
        let moves :
        ClaimRace a.node.race (suc place) i (Some job) (candidate_of line.shard line.shard.hand i) t.1.0 y.race =
        subst (λ o. ClaimRace a.node.race (suc place) i o (candidate_of line.shard line.shard.hand i) t.1.0 y.race)
        works.hand y.moves in
        let r = raced name.0 name.1 works t.1.0 w' y (candidate_of line.shard line.shard.hand i) refl moves in
        let now : Stage w' m inc place job start (line_after_if (work_event (Claim i) t.1.0 line) line)
        (filter (is_for m (suc place)) es) = inr (inl (record {
          i = suc i;
          count = left;
          left_is = h.1;
          sum = omega (arith, sum);
          works = claims start.shard job i line.shard name.0 held errand.echo errand.names name.1 works t.1.0;
          goals = record {
            plain = λ u there due. (goals_more w w' _ y.placements m inc job start i goals).plain u there due;
            groups = λ j other below q u there is.
                served name.0 name.1 r.1.1 (goals_more w w' _ y.placements m inc job start i goals) j other below q u
                there is (nat_eq j i) refl;
          };
        })) in
        let b = next e es (Claim i) t.1.0 w' h.0 y r.0 now r.1.0 stages in
        (t.0, (b, (y.others, (y.sent, (_, y.placements)))))
      where
        free : line.shard.hand ≡ Some job
            → line.shard.next_index ≡ i
            → i < length job.queues
            → work_refusal (Claim i) (Some line) ≡ None
        free hand tried lt =
            let a : nat_eq i line.shard.next_index ≡ true = true_eq i line.shard.next_index (sym tried) in
            let b : nat_lt i (length job.queues) ≡ true = is_less i (length job.queues) lt in
            ap (λ o. option_map fault.Shard (claim_refusal line.shard i o)) hand
            ∙ λ k. option_map fault.Shard (cond (a k && b k) None (Some BadIndex))

        -- who was served by it
        served : (name : List ℕ)
            → slice_get job.queues i ≡ Some name
            → ((u : Subscription) → In u start.shard.subs → IsMember job.message.subject name u
            → IsServed w' job.id name)
            → Goals w' m inc job start i
            → (j : ℕ) (other : List ℕ)
            → j < suc i
            → slice_get job.queues j ≡ Some other
            → (u : Subscription)
            → In u start.shard.subs
            → IsMember job.message.subject other u
            → (b : Bool)
            → nat_eq j i ≡ b
            → IsServed w' job.id other
        served name at_i here goals j other below q u there is true same =
            let n : name ≡ other =
            same_Some name other (sym at_i ∙ sym (ap (slice_get job.queues) (eq_true j i same)) ∙ q) in
            subst (IsServed w' job.id) n (here u there (subst (λ x. IsMember job.message.subject x u) (sym n) is))
        served name at_i here goals j other below q u there is false apart =
            goals.groups j other (less (eq_false j i apart)) q u there is
          where
            less : j ≢ i → j < i
            less ne = omega (arith, below, ne)

        -- the race after it, and who is served
        raced : (name : List ℕ)
            → slice_get job.queues i ≡ Some name
            → Works start.shard job i line.shard
            → (won : Bool) (w' : World) (y : WorksAt c w m place (Claim i) a line won w')
            → (o : Option Subscription)
            → candidate_of line.shard line.shard.hand i ≡ o
            → ClaimRace a.node.race (suc place) i (Some job) o won y.race
            → (y.race.issued ≡ job.turn)
            × (((j : ℕ) (other : List ℕ) → is_some (winner y.race job.turn j) ≡ true
            → slice_get job.queues j ≡ Some other → IsServed w' job.id other)
            × ((u : Subscription) → In u start.shard.subs → IsMember job.message.subject name u
            → IsServed w' job.id name))
        raced name at_i works won w' y None e moves = (
          ap (λ (r : RaceState). r.issued) moves ∙ issued,
          (
            (λ j other some q.
                more_served w w' _ y.placements job.id other
                (won_before j other (ap (λ (r : RaceState). is_some (winner r job.turn j)) (sym moves) ∙ some) q)),
            (λ u there is.
                let k =
                candidate_there start.shard job i line.shard name held errand.echo errand.names at_i works u there is in
                absurd (none-some k.0 (sym e ∙ k.1))),
          ),
        )
        raced name at_i works false w' y (Some v) e moves =
            let is : IsClaimed a.node.race (suc place) job.turn i false y.race = moves in (
              is.issued ∙ issued,
              (
                (λ j other some q.
                    more_served w w' _ y.placements job.id other
                    (won_before j other
                    (ap is_some (sym (is.winners job.turn j (in_window_of job.turn y.race (is.issued ∙ issued))))
                    ∙ some)
                    q)),
                (λ u there member.
                    more_served w w' _ y.placements job.id name
                    (won_before i name (taken (winner a.node.race job.turn i) is.decided) at_i)),
              ),
            )
          where
            taken : (o : Option ℕ) → false ≡ is_none o → is_some o ≡ true
            taken None e = absurd (true≢false (sym e))
            taken (Some s) e = refl
        raced name at_i works true w' y (Some v) e moves =
            let is : IsClaimed a.node.race (suc place) job.turn i true y.race = moves in
            let who = candidate_is start.shard job i line.shard name held errand.echo errand.names at_i works v e in
            let put : put_if line (work_event (Claim i) true line)
            ≡ owed_placed line.shard.shard line.shard.clients job v.key.queue v ∷ [] =
            ap (λ h. put_by_claim line.shard h (candidate_of line.shard line.shard.hand i) true) works.hand
            ∙ ap (λ o. put_by_claim line.shard (Some job) o true) e in
            let p : Placement = record {
              step = suc w.step;
              life = record { node = m; inc = a.inc; sub = id_of line.shard.shard v.serial };
              conn = v.conn;
              id = job.id;
              mode = mode_of v.key.queue;
              bytes = (owed_placed line.shard.shard line.shard.clients job v.key.queue v).entry.bytes;
              headers = (owed_placed line.shard.shard line.shard.clients job v.key.queue v).headers;
            } in
            let here : IsServed w' job.id name = record {
              placement = p;
              there =
                  subst (In p) (sym y.placements)
                  (in_right p w.placements
                  (placements_put (server_at c m a.inc) (suc w.step) (put_if line (work_event (Claim i) true line)))
                  (subst (λ l. In p (placements_put (server_at c m a.inc) (suc w.step) l)) (sym put)
                  (put_is_placed (server_at c m a.inc) (suc w.step)
                  (owed_placed line.shard.shard line.shard.clients job v.key.queue v)
                  (owed_placed line.shard.shard line.shard.clients job v.key.queue v ∷ []) p (inl refl) (inl refl))));
              is = refl;
              mode = ap mode_of who.1;
            } in (
              is.issued ∙ issued,
              (
                (λ j other some q.
                    by_place here j other some q (nat_eq j i) refl
                    (is.winners job.turn j (in_window_of job.turn y.race (is.issued ∙ issued)))),
                (λ u there member. here),
              ),
            )
          where
            by_place : IsServed w' job.id name
                → (j : ℕ) (other : List ℕ)
                → is_some (winner y.race job.turn j) ≡ true
                → slice_get job.queues j ≡ Some other
                → (b : Bool)
                → nat_eq j i ≡ b
                → winner y.race job.turn j ≡ winner_after a.node.race (suc place) job.turn i job.turn j
                → IsServed w' job.id other
            by_place here j other some q true same now =
                subst (IsServed w' job.id)
                (same_Some name other (sym at_i ∙ sym (ap (slice_get job.queues) (eq_true j i same)) ∙ q)) here
            by_place here j other some q false apart now =
                more_served w w' _ y.placements job.id other
                (won_before j other (ap is_some (sym (now ∙ elsewhere (nat_eq job.turn job.turn))) ∙ some) q)
              where
                elsewhere : (b : Bool)
                    → cond (b && nat_eq j i) (Some (suc place)) (winner a.node.race job.turn j)
                    ≡ winner a.node.race job.turn j
                elsewhere true = ap (λ d. cond d (Some (suc place)) (winner a.node.race job.turn j)) apart
                elsewhere false = refl

    -- ---- End

    end_step : (i : ℕ)
        → filter (is_for m (suc place)) (e ∷ es) ≡ claims_from m (suc place) i 0
        → i + 0 ≡ length job.queues
        → Works start.shard job i line.shard
        → Goals w m inc job start i
        → Done_so e es outcome w'
    end_step i left_is sum works goals =
        let h = head_is e es (is_for m (suc place)) (At m (AtShard (suc place) End)) [] passes left_is in
        let step2 : WorldStep c w (At m (AtShard (suc place) End)) outcome w' =
        subst (λ v. WorldStep c w v outcome w') h.0 step in
        let all : i ≡ length job.queues = omega (arith, sum) in
        let none : work_refusal End (Some line) ≡ None = free works.hand (works.next ∙ all) in
        let t = works_at one placed c w m place End a line up at sound outcome w' none step2 in
        let y : WorksAt c w m place End a line t.1.0 w' = t.1.1 in
        let f : IsFinished a.node.race (suc place) (line.shard.finished + 1) y.race = y.moves in
        let now : Stage w' m inc place job start (line_after_if (work_event End t.1.0 line) line)
        (filter (is_for m (suc place)) es) = inr (inr (record {
          left_is = h.1;
          goals =
              goals_more w w' _ y.placements m inc job start (length job.queues)
              (subst (Goals w m inc job start) all goals);
        })) in
        let b = next e es End t.1.0 w' h.0 y (f.issued ∙ issued) now
        (λ j name some q.
        more_served w w' _ y.placements job.id name
        (won_before j name
        (ap is_some (sym (f.kept.winners job.turn j (in_window_of job.turn y.race (f.issued ∙ issued)))) ∙ some) q))
        stages in
        (t.0, (b, (y.others, (y.sent, (_, y.placements)))))
      where
        free : line.shard.hand ≡ Some job
            → line.shard.next_index ≡ length job.queues
            → work_refusal End (Some line) ≡ None
        free hand tried =
            ap (λ o. option_map fault.Shard (end_refusal line.shard o)) hand
            ∙ ap (λ b. option_map fault.Shard (cond b None (Some NotAllTried)))
            (true_eq line.shard.next_index (length job.queues) tried)

    pub busy_step : Stage w m inc place job start line (filter (is_for m (suc place)) (e ∷ es))
        → Done_so e es outcome w'
    busy_step s =
        ⊎_elim begin_step
        (λ t.
        ⊎_elim working (λ (x : Over w m inc place job start line (filter (is_for m (suc place)) (e ∷ es))).
        absurd (not_empty e es (is_for m (suc place)) passes x.left_is))
        t)
        s
      where
        working : Working w m inc place job start line (filter (is_for m (suc place)) (e ∷ es))
            → Done_so e es outcome w'
        working x = by x.count x.left_is x.sum
          where
            by : (count : ℕ)
                → filter (is_for m (suc place)) (e ∷ es) ≡ claims_from m (suc place) x.i count
                → x.i + count ≡ length job.queues
                → Done_so e es outcome w'
            by zero l s = end_step x.i l s x.works x.goals
            by (suc left) l s = claim_step x.i left l s x.works x.goals
