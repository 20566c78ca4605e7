-- Runs written as short scripts: what each line makes of a world, and what has to be so that it is a step.
use Rattle.std.proofs.Common.{◌≡◌, ◌≢◌, ℕ, zero, suc, ◌+◌, ◌<◌, ◌≤◌, true, false, List, [], ◌∷◌, ◌++◌, map, flat_map, set, length, Option, Some, None, refl, sym, ap, ◌∙◌, subst, inl, inr, ⊎_elim, arith}
use Rattle.std.specs.Prelude.{slice_get}
use Rattle.std.proofs.lemmas.List.{length-append}
use Rattle.list_laws.specs.Lists.{In, Each, Pairs, NoRepeat, Disjoint}
use Rattle.cluster_law.specs.Rules.{Where}
use Rattle.cluster_law.specs.Names.{Bytes}
use Rattle.cluster_law.specs.Interest.{View, Change, view_after}
use Rattle.cluster_law.specs.Messages.{Content, Routed, News, Frame, Message, Interest, Greeting}
use Rattle.cluster_law.specs.Config.{Config, Rules}
use Rattle.cluster_law.specs.History.{Job, Output, nothing}
use Rattle.cluster_law.proofs.Scripts.Races.{same_race}
use Rattle.cluster_law.specs.Hub.{Peer, Hub, new_peer, RoutedOf, Known, IsForMe, Taken, IsTold, next_id}
use Rattle.cluster_law.specs.Race.{Race, KeptOver}
use Rattle.cluster_law.specs.Shard.{Subscription, Shard, life_id, subs_without, closings_of, placement, IsOwedPlain, Subscribe, Close, Begin, Claim, End}
use Rattle.cluster_law.specs.Node.{Node, finished_turns, shard_with_job, next_publication, next_job, note_of, Publish, Announce, OnShard}
use Rattle.cluster_law.specs.Cluster.{World, Event, Start, Stop, Hand, At, Happens, Run, Reached, world_with, begin, all_closings, no_node, new_node, new_shard}

abbrev nth : {A : Type 0} → List A → ℕ → A → A
nth [] k d = d
nth (x ∷ xs) zero d = x
nth (x ∷ xs) (suc k) d = nth xs k d

abbrev pub node : World → ℕ → Node
node w n = nth w.nodes n no_node

abbrev pub shard : World → ℕ → ℕ → Shard
shard w n s = nth (node w n).shards s new_shard

abbrev pub peer : World → ℕ → ℕ → Peer
peer w n o = nth (node w n).hub.peers o (new_peer 0)

abbrev pub no_job : Job
no_job = record {
  node = 0;
  inc = 0;
  turn = 0;
  id = record { origin = 0; inc = 0; number = 0 };
  content = record { subject = []; reply = None; headers = None; payload = [] };
  names = [];
}

-- the job in hand
abbrev pub in_hand : Option Job → Job
in_hand None = no_job
in_hand (Some j) = j

abbrev pub rest_of : List Job → List Job
rest_of [] = []
rest_of (j ∷ js) = js

-- a line of a script
pub data Line : Type 0 where
  Starts : (n inc : ℕ) → Line
  Stops : (n : ℕ) → Line
  -- one frame of the node's own, after these changes
  Tells : (n : ℕ) (changes : List Change) (frame : Frame) → Line
  -- greeting k is handed over, and tells of a greater incarnation
  Greets : (n k origin inc : ℕ) → Line
  -- news k are handed over, and taken on this base
  Hears : (n k : ℕ) (news : News) (base : Peer) (view : View) → Line
  Opens : (n s : ℕ) (queue : Option Bytes) → Line
  Shuts : (n s serial : ℕ) → Line
  -- won is what the node keeps of the pairs won
  Sends : (n : ℕ) (names : List Bytes) (frames : List Routed) (won : List (ℕ × ℕ)) → Line
  -- message k is handed over, and taken on this base
  Takes : (n k : ℕ) (message : Routed) (base : Peer) → Line
  Begins : (n s : ℕ) (placed : List Subscription) → Line
  Wins : (n s : ℕ) (name : Bytes) (chosen : Subscription) → Line
  Ends : (n s : ℕ) → Line

-- all messages of a script are alike
abbrev pub hello : Content
hello = record { subject = 1 ∷ []; reply = None; headers = None; payload = 2 ∷ [] }

abbrev pub event_of : Line → Event
event_of (Starts n inc) = Start n inc
event_of (Stops n) = Stop n
event_of (Tells n changes frame) = At n (Announce changes)
event_of (Greets n k origin inc) = Hand n k
event_of (Hears n k news base view) = Hand n k
event_of (Opens n s queue) = At n (OnShard s (Subscribe 1 (1 ∷ []) (1 ∷ []) queue))
event_of (Shuts n s serial) = At n (OnShard s (Close (serial ∷ [])))
event_of (Sends n names frames won) = At n (Publish hello)
event_of (Takes n k message base) = Hand n k
event_of (Begins n s placed) = At n (OnShard s Begin)
event_of (Wins n s name chosen) = At n (OnShard s Claim)
event_of (Ends n s) = At n (OnShard s End)

abbrev with_shard : World → ℕ → ℕ → Race → Shard → Output → World
with_shard w n s race new out =
    world_with w n (record (node w n) { race = race; shards = set (node w n).shards s new }) out

abbrev with_job : World → ℕ → Hub → List (ℕ × ℕ) → Job → Output → World
with_job w n hub won job out =
    world_with w n (record (node w n) {
      hub = hub;
      race = record { issued = suc (node w n).race.issued; won = won };
      shards = map (shard_with_job job) (node w n).shards;
    })
    out

abbrev with_peer : World → ℕ → ℕ → Peer → World
with_peer w n origin known =
    world_with w n (record (node w n) { hub = record (node w n).hub { peers = set (node w n).hub.peers origin known } })
    nothing

-- what the line makes of the world
abbrev pub next : Config → World → Line → World
next c w (Starts n inc) = record {
  nodes = set w.nodes n (new_node c inc);
  step = suc w.step;
  past = record w.past { started = w.past.started ++ (n, inc) ∷ [] };
}
next c w (Stops n) =
    world_with w n no_node
    (record nothing { closings = all_closings n (node w n).inc (suc w.step) 0 (node w n).shards })
next c w (Tells n changes frame) =
    world_with w n (record (node w n) {
      hub = record (node w n).hub {
        changed = (node w n).hub.changed + length changes;
        interest = view_after c.follow changes (length changes) (node w n).hub.interest;
      };
    })
    (record nothing { frames = frame ∷ []; changes = map (note_of n (node w n).inc) changes })
next c w (Greets n k origin inc) = with_peer w n origin (new_peer inc)
next c w (Hears n k news base view) = with_peer w n news.origin (record base { heard = news.number; view = view })
next c w (Opens n s queue) =
    with_shard w n s (node w n).race
    (record (shard w n s) {
      serials = suc (shard w n s).serials;
      subscriptions =
          (shard w n s).subscriptions
          ++ record {
            serial = suc (shard w n s).serials;
            connection = 1;
            sid = 1 ∷ [];
            pattern = 1 ∷ [];
            queue = queue;
          } ∷ [];
    })
    (record nothing {
      lives =
          record {
            id = life_id n (node w n).inc s (suc (shard w n s).serials);
            connection = 1;
            sid = 1 ∷ [];
            pattern = 1 ∷ [];
            queue = queue;
            opened = suc w.step;
          } ∷ [];
    })
next c w (Shuts n s serial) =
    with_shard w n s (node w n).race
    (record (shard w n s) { subscriptions = subs_without (serial ∷ []) (shard w n s).subscriptions })
    (record nothing { closings = closings_of n (node w n).inc s (suc w.step) (serial ∷ []) })
next c w (Sends n names frames won) =
    with_job w n (record (node w n).hub { published = suc (node w n).hub.published }) won
    (next_job n (node w n) (next_id n (node w n).inc (node w n).hub) hello names) (record nothing {
      publications = next_publication n (suc w.step) (node w n) hello ∷ [];
      frames = map Message frames;
      jobs = next_job n (node w n) (next_id n (node w n).inc (node w n).hub) hello names ∷ [];
    })
next c w (Takes n k m base) =
    with_job w n
    (record (node w n).hub { peers = set (node w n).hub.peers m.id.origin (record base { mark = m.id.number }) })
    (node w n).race.won (next_job n (node w n) m.id m.content m.names)
    (record nothing { jobs = next_job n (node w n) m.id m.content m.names ∷ [] })
next c w (Begins n s placed) =
    let job = nth (shard w n s).waiting 0 no_job in
    with_shard w n s (node w n).race
    (record (shard w n s) {
      hand = Some job;
      next = 0;
      waiting = rest_of (shard w n s).waiting;
      subscriptions = subs_without [] (shard w n s).subscriptions;
    })
    (record nothing { placements = map (placement n (node w n).inc s (suc w.step) job) placed })
next c w (Wins n s name chosen) =
    let job = in_hand (shard w n s).hand in
    with_shard w n s
    (record { issued = (node w n).race.issued; won = (job.turn, (shard w n s).next) ∷ (node w n).race.won })
    (record (shard w n s) {
      next = suc (shard w n s).next;
      subscriptions = subs_without [] (shard w n s).subscriptions;
    })
    (record nothing { placements = placement n (node w n).inc s (suc w.step) job chosen ∷ [] })
next c w (Ends n s) =
    with_shard w n s (node w n).race
    (record (shard w n s) { finished = suc (shard w n s).finished; hand = None; next = 0 }) nothing

-- the node is up
abbrev IsUp : World → ℕ → Type 0
IsUp w n = (slice_get w.nodes n ≡ Some (node w n)) × ((node w n).up ≡ true)

abbrev HasShard : World → ℕ → ℕ → Type 0
HasShard w n s = IsUp w n × (slice_get (node w n).shards s ≡ Some (shard w n s))

abbrev HasRoom : Rules → Config → World → ℕ → Type 0
HasRoom rules c w n =
    Where rules.window
    ((s done : ℕ) → slice_get (finished_turns (node w n).shards) s ≡ Some done
    → suc (node w n).race.issued ≤ done + c.window)

-- what has to be so
abbrev pub IsLegal : Rules → Config → World → Line → Type 0
IsLegal rules c w (Starts n inc) =
    (slice_get w.nodes n ≡ Some (node w n))
    × ((node w n).up ≡ false)
    × (0 < inc)
    × Where rules.fresh (In (n, inc) w.past.started → ⊥)
IsLegal rules c w (Stops n) = IsUp w n
IsLegal rules c w (Tells n changes frame) =
    IsUp w n
    × IsTold n (node w n).inc (node w n).hub changes
    (record (node w n).hub {
      changed = (node w n).hub.changed + length changes;
      interest = view_after c.follow changes (length changes) (node w n).hub.interest;
    })
    frame
IsLegal rules c w (Greets n k origin inc) =
    IsUp w n
    × Where rules.sent (slice_get w.past.sent k ≡ Some (Greeting origin inc))
    × (origin ≢ n)
    × (slice_get (node w n).hub.peers origin ≡ Some (peer w n origin))
    × Known rules (peer w n origin) inc (new_peer inc)
IsLegal rules c w (Hears n k t base view) =
    IsUp w n
    × Where rules.sent (slice_get w.past.sent k ≡ Some (Interest t))
    × IsForMe rules n (node w n).inc t.to t.to_inc t.origin
    × (slice_get (node w n).hub.peers t.origin ≡ Some (peer w n t.origin))
    × Known rules (peer w n t.origin) t.inc base
    × Taken rules c t.body t.number base.heard base.view view
IsLegal rules c w (Opens n s queue) = HasShard w n s
IsLegal rules c w (Shuts n s serial) =
    HasShard w n s × (u : Subscription) × In u (shard w n s).subscriptions × (u.serial ≡ serial)
IsLegal rules c w (Sends n names frames won) =
    IsUp w n
    × HasRoom rules c w n
    × KeptOver c.window (suc (node w n).race.issued) (node w n).race.won won
    × NoRepeat names
    × (length (names ++ flat_map (λ (f : Routed). f.names) frames) ≤ c.queue_names)
    × Each (RoutedOf n (node w n).hub (next_publication n (suc w.step) (node w n) hello)) frames
    × Pairs (λ f g. Where rules.one_frame (f.to ≢ g.to) × Where rules.apart (Disjoint f.names g.names)) frames
    × Each (λ f. Where rules.apart (Disjoint f.names names)) frames
IsLegal rules c w (Takes n k m base) =
    IsUp w n
    × Where rules.sent (slice_get w.past.sent k ≡ Some (Message m))
    × HasRoom rules c w n
    × IsForMe rules n (node w n).inc m.to m.to_inc m.id.origin
    × (slice_get (node w n).hub.peers m.id.origin ≡ Some (peer w n m.id.origin))
    × Known rules (peer w n m.id.origin) m.id.inc base
    × Where rules.mark (base.mark < m.id.number)
IsLegal rules c w (Begins n s placed) =
    HasShard w n s
    × ((shard w n s).hand ≡ None)
    × ((shard w n s).waiting ≡ nth (shard w n s).waiting 0 no_job ∷ rest_of (shard w n s).waiting)
    × ((nth (shard w n s).waiting 0 no_job).turn ≡ suc (shard w n s).finished)
    × Each (IsOwedPlain c (shard w n s) (nth (shard w n s).waiting 0 no_job)) placed
    × Where rules.once (Pairs (λ u v. u.serial ≢ v.serial) placed)
IsLegal rules c w (Wins n s name chosen) =
    HasShard w n s
    × ((shard w n s).hand ≡ Some (in_hand (shard w n s).hand))
    × (slice_get (in_hand (shard w n s).hand).names (shard w n s).next ≡ Some name)
    × Where rules.unwon (In ((in_hand (shard w n s).hand).turn, (shard w n s).next) (node w n).race.won → ⊥)
    × Where rules.member (In chosen (shard w n s).subscriptions)
    × (chosen.queue ≡ Some name)
    × (c.matches chosen.pattern (in_hand (shard w n s).hand).content.subject ≡ true)
IsLegal rules c w (Ends n s) =
    HasShard w n s
    × ((shard w n s).hand ≡ Some (in_hand (shard w n s).hand))
    × ((shard w n s).next ≡ length (in_hand (shard w n s).hand).names)

few_of : (limit : ℕ) (names : List Bytes) (fs : List Routed)
    → length (names ++ flat_map (λ (f : Routed). f.names) fs) ≤ limit
    → (length names ≤ limit) × Each (λ f. length f.names ≤ limit) fs
few_of limit names fs le =
    let sum = length-append names (flat_map (λ (f : Routed). f.names) fs) in (omega arith, in_each fs (omega arith))
  where
    in_each : (fs : List Routed)
        → length (flat_map (λ (f : Routed). f.names) fs) ≤ limit
        → Each (λ f. length f.names ≤ limit) fs
    in_each [] le = λ f i. absurd i
    in_each (f ∷ fs) le =
        let sum = length-append f.names (flat_map (λ (f : Routed). f.names) fs) in
        λ g i.
        ⊎_elim (λ (e : g ≡ f). subst (λ (x : Routed). length x.names ≤ limit) (sym e) (omega arith))
        (λ (k : In g fs). in_each fs (omega arith) g k) i

one_open : (us : List Subscription) (u : Subscription) (serial : ℕ)
    → In u us
    → u.serial ≡ serial
    → Each (λ k. (v : Subscription) × In v us × (v.serial ≡ k)) (serial ∷ [])
one_open us u serial i e k l = ⊎_elim (λ (same : k ≡ serial). (u, i, e ∙ sym same)) (λ (m : ⊥). absurd m) l

pub is_event : (rules : Rules) (c : Config) (w : World) (l : Line)
    → IsLegal rules c w l
    → Happens rules c w (event_of l) (next c w l)
is_event rules c w (Starts n inc) h =
    (record { before = node w n; before_is = h.0; was_down = h.1; some = h.2; fresh = h.3; after = refl })
is_event rules c w (Stops n) h = (record { before = node w n; before_is = h.0; was_up = h.1; after = refl })
is_event rules c w (Tells n changes frame) h = (
  tt,
  record {
    before = node w n;
    before_is = h.0.0;
    up = h.0.1;
    out = _;
    new = _;
    after = refl;
    steps = record {
      hub = _;
      frames = frame ∷ [];
      announces = record {
        told = λ f i.
            ⊎_elim (λ (e : f ≡ frame). subst (IsTold n (node w n).inc (node w n).hub changes _) (sym e) h.1)
            (λ (m : ⊥). absurd m) i;
        after = refl;
      };
      out_is = refl;
      after = refl;
    };
  },
)
is_event rules c w (Greets n k origin inc) h = (record {
  frame = Greeting origin inc;
  frame_is = h.1;
  acts = record {
    before = node w n;
    before_is = h.0.0;
    up = h.0.1;
    out = _;
    new = _;
    after = refl;
    steps = record {
      hub = _;
      meets = record {
        other = h.2;
        peer = peer w n origin;
        peer_is = h.3;
        base = new_peer inc;
        known = h.4;
        after = refl;
      };
      frames = [];
      told = λ f i. absurd i;
      out_is = refl;
      after = refl;
    };
  };
})
is_event rules c w (Hears n k t base view) h = (record {
  frame = Interest t;
  frame_is = h.1;
  acts = record {
    before = node w n;
    before_is = h.0.0;
    up = h.0.1;
    out = _;
    new = _;
    after = refl;
    steps = record {
      hub = _;
      hears = record {
        for_me = h.2;
        peer = peer w n t.origin;
        peer_is = h.3;
        base = base;
        known = h.4;
        view = view;
        taken = h.5;
        after = refl;
      };
      out_is = refl;
      after = refl;
    };
  };
})
is_event rules c w (Opens n s queue) h = (
  tt,
  record {
    before = node w n;
    before_is = h.0.0;
    up = h.0.1;
    out = _;
    new = _;
    after = refl;
    steps = record {
      old = shard w n s;
      old_is = h.1;
      new = _;
      race = (node w n).race;
      steps = (record { out_is = refl; after = refl }, same_race c.window (node w n).race);
      after = refl;
    };
  },
)
is_event rules c w (Shuts n s serial) h = (
  tt,
  record {
    before = node w n;
    before_is = h.0.0.0;
    up = h.0.0.1;
    out = _;
    new = _;
    after = refl;
    steps = record {
      old = shard w n s;
      old_is = h.0.1;
      new = _;
      race = (node w n).race;
      steps = (
        record {
          are_open = record {
            each_open = one_open (shard w n s).subscriptions h.1 serial h.2 h.3;
            once = ((λ k i. absurd i), tt);
          };
          out_is = refl;
          after = refl;
        },
        same_race c.window (node w n).race,
      );
      after = refl;
    };
  },
)
is_event rules c w (Sends n names frames won) h = (
  tt,
  record {
    before = node w n;
    before_is = h.0.0;
    up = h.0.1;
    out = _;
    new = _;
    after = refl;
    steps = record {
      names = names;
      frames = frames;
      hub = _;
      race = record { issued = suc (node w n).race.issued; won = won };
      publishes = record {
        once = h.3;
        few = (few_of c.queue_names names frames h.4).0;
        few_in_frame = (few_of c.queue_names names frames h.4).1;
        frames_of = h.5;
        frames_apart = h.6;
        job_apart = h.7;
        after = refl;
      };
      issues = record { room = h.1; issued = refl; kept = h.2 };
      out_is = refl;
      after = refl;
    };
  },
)
is_event rules c w (Takes n k m base) h = (record {
  frame = Message m;
  frame_is = h.1;
  acts = record {
    before = node w n;
    before_is = h.0.0;
    up = h.0.1;
    out = _;
    new = _;
    after = refl;
    steps = record {
      hub = _;
      race = record { issued = suc (node w n).race.issued; won = (node w n).race.won };
      receives = record {
        for_me = h.3;
        peer = peer w n m.id.origin;
        peer_is = h.4;
        base = base;
        known = h.5;
        above = h.6;
        after = refl;
      };
      issues = record { room = h.2; issued = refl; kept = λ t i lt. ((λ x. x), (λ x. x)) };
      out_is = refl;
      after = refl;
    };
  };
})
is_event rules c w (Begins n s placed) h = (
  tt,
  record {
    before = node w n;
    before_is = h.0.0.0;
    up = h.0.0.1;
    out = _;
    new = _;
    after = refl;
    steps = record {
      old = shard w n s;
      old_is = h.0.1;
      new = _;
      race = (node w n).race;
      steps = (
        record {
          free = h.1;
          job = _;
          rest = _;
          first = h.2;
          turn = h.3;
          placed = placed;
          owed = h.4;
          once = h.5;
          closed = [];
          are_open = record { each_open = λ k i. absurd i; once = tt };
          out_is = refl;
          after = refl;
        },
        same_race c.window (node w n).race,
      );
      after = refl;
    };
  },
)
is_event rules c w (Wins n s name chosen) h = (
  tt,
  record {
    before = node w n;
    before_is = h.0.0.0;
    up = h.0.0.1;
    out = _;
    new = _;
    after = refl;
    steps = record {
      old = shard w n s;
      old_is = h.0.1;
      new = _;
      race = _;
      steps =
          inl (record {
            job = in_hand (shard w n s).hand;
            in_hand = h.1;
            name = name;
            name_is = h.2;
            wins = record {
              unwon = h.3;
              issued = refl;
              gains = λ t i lt. (
                (λ x.
                    ⊎_elim (λ (e : (t, i) ≡ ((in_hand (shard w n s).hand).turn, (shard w n s).next)).
                    inr (ap (λ (y : ℕ × ℕ). y.0) e, ap (λ (y : ℕ × ℕ). y.1) e))
                    (λ (k : In (t, i) (node w n).race.won). inl k) x),
                (λ x.
                    ⊎_elim (λ (k : In (t, i) (node w n).race.won). inr k)
                    (λ (e : (t ≡ (in_hand (shard w n s).hand).turn) × (i ≡ (shard w n s).next)).
                    inl (λ j. (e.0 j, e.1 j)))
                    x),
              );
            };
            chosen = chosen;
            is_open = h.4;
            member = h.5;
            matches = h.6;
            closed = [];
            are_open = record { each_open = λ k i. absurd i; once = tt };
            out_is = refl;
            after = refl;
          });
      after = refl;
    };
  },
)
is_event rules c w (Ends n s) h = (
  tt,
  record {
    before = node w n;
    before_is = h.0.0.0;
    up = h.0.0.1;
    out = _;
    new = _;
    after = refl;
    steps = record {
      old = shard w n s;
      old_is = h.0.1;
      new = _;
      race = (node w n).race;
      steps = (
        record { job = in_hand (shard w n s).hand; in_hand = h.1; all_tried = h.2; out_is = refl; after = refl },
        same_race c.window (node w n).race,
      );
      after = refl;
    };
  },
)

abbrev pub play : Config → World → List Line → World
play c w [] = w
play c w (l ∷ ls) = play c (next c w l) ls

abbrev pub AreLegal : Rules → Config → World → List Line → Type 0
AreLegal rules c w [] = Unit {0}
AreLegal rules c w (l ∷ ls) = IsLegal rules c w l × AreLegal rules c (next c w l) ls

pub is_run : (rules : Rules) (c : Config) (w : World) (ls : List Line)
    → AreLegal rules c w ls
    → Run rules c w (map event_of ls) (play c w ls)
is_run rules c w [] h = refl
is_run rules c w (l ∷ ls) h = (next c w l, inl (is_event rules c w l h.0), is_run rules c (next c w l) ls h.1)

pub is_reached : (rules : Rules) (c : Config) (ls : List Line)
    → AreLegal rules c (begin c) ls
    → Reached rules c (play c (begin c) ls)
is_reached rules c ls h = record { events = map event_of ls; run = is_run rules c (begin c) ls h }
