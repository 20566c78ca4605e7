-- Starts, stops, refusals and whole runs: each world of the exact cluster is seen as one that the cluster law's machine
-- reaches.
use Rattle.std.proofs.Common.{◌≡◌, ◌≢◌, ◌<◌, ℕ, zero, suc, ◌+◌, ◌-◌, Bool, true, false, true≢false, nat_eq, ◌&&◌, ◌||◌, List, [], ◌∷◌, ◌++◌, map, set, replicate, length, Option, Some, None, refl, sym, ap, ◌∙◌, subst, inl, inr, ⊎_elim, arith}
use Rattle.std.specs.Prelude.{slice_get}
use Rattle.std.proofs.lemmas.Option.{none-some, same_Some, slice_get_within}
use Rattle.list_laws.specs.Lists.{In, Each, Pairs, Along}
use Rattle.list_laws.proofs.Lists.{in_map, in_left, in_right, read_replicate, pairs_weaker}
use Rattle.list_laws.proofs.Tests.{true_eq, has_in, or_false, no_cause}
use Rattle.list_laws.proofs.Changes.{append_nil, append_assoc, map_append, get_set_there, in_mapped, along_in, along_pairs, pairs_map_back}
use Rattle.cluster_law.specs.Cluster as cluster
use Rattle.cluster_law.specs.Cluster.{Reached, world_with, all_closings}
use Rattle.cluster_law.specs.Config.{every_rule}
use Rattle.cluster_law.specs.Headline as law_headline
use Rattle.cluster_law.specs.History as history
use Rattle.cluster_law.specs.History.{Output, nothing}
use Rattle.cluster_law.specs.Messages as messages
use Rattle.cluster_law.specs.Names as names
use Rattle.cluster_law.specs.Shard as law_shard
use Rattle.cluster_law.specs.Shard.{life_id, closings_of}
use Rattle.client_frames.specs.Messages.{due_bytes}
use Rattle.outbox.specs.declared.entries.Mode.{Mode}
use Rattle.outbox.specs.declared.entries.Mode.TheVariants.{Plain, Queue}
use Rattle.sub_table.specs.declared.Subscription.{Subscription}
use Rattle.subj.specs.Matching.{subject_matches}
use Rattle.subj.specs.Servers.{ServerIdentity, name_at, place_in}
use Rattle.subj.specs.declared.identities.PubId.{PubId}
use Rattle.hub_core.proofs.Choices.Places.{name_there}
use Rattle.shard_core.specs.AsLaw.{sub_of}
use Rattle.shard_core.specs.Closings.{serials_of}
use Rattle.shard_core.specs.Owed.{mode_of}
use Rattle.shard_core.specs.Puts.{ArePut}
use Rattle.shard_core.specs.ShardEvents as of_shard
use Rattle.shard_core.specs.Shards.{State}
use Rattle.node_law.specs.AsLaw.{NodeFollows, StaysSound, node_of, line_of}
use Rattle.node_law.specs.Events.{NodeEvent, Own}
use Rattle.node_law.specs.Sound.{SoundNode}
use Rattle.node_law.specs.State.{ShardWithJobs, new_node}
use Rattle.node_law.specs.AsLaw.{is_open_in}
use Rattle.world_law.specs.declared.faults.WorldFault.{WorldFault}
use Rattle.world_law.specs.declared.faults.WorldFault.TheVariants as fault
use Rattle.world_law.specs.Changes.{is_open, is_open_at}
use Rattle.world_law.specs.Events.{Event, Start, Stop, Receive, OnInfo, OnConnect, At, event_for}
use Rattle.world_law.specs.Headline.{IsCluster, Headline, IsOwed, PlainOnce, OneMember, InOrder, Names, EachUp}
use Rattle.world_law.specs.Refusals.{world_refusal, start_refusal, is_used, is_start}
use Rattle.world_law.specs.Made.{Passed, acting_in, acting_if, acting_server, passed_events, jobs_of, jobs_made, changes_of, changes_made}
use Rattle.world_law.specs.Outcomes.{Outcome}
use Rattle.world_law.specs.State.{Cluster, LifeId, Placement, Running, World, server_at, new_world}
use Rattle.world_law.specs.Steps.{Starts, Stops, Happens, Decided, WorldStep, Run, set_node}
use Rattle.world_law.proofs.Seen.Given.{messages_are_given}
use Rattle.world_law.proofs.Seen.Machine.{law_for, pub_of, publication_of, law_id, own_id, own_content, life_of, seen_node, SeesPlacement, Sees, law_job, law_change}
use Rattle.world_law.proofs.Seen.Started.{is_started}
use Rattle.world_law.proofs.Seen.Worlds.{NodeLaws, Next, seen_set, sound_set, lives_same, numbered_after, open_after, closed_after, acts_next, Given, given_numbered, given_info, given_connect, set_size, server_is}

-- ---- a server that starts

start_used : (n inc : ℕ) (x : ℕ × ℕ) → (n, inc) ≡ x → is_start n inc x ≡ true
start_used n inc x e =
    ap (λ (y : ℕ × ℕ). is_start n inc y) (sym e)
    ∙ ap (λ t. t && nat_eq inc inc) (true_eq n n refl)
    ∙ true_eq inc inc refl

pub unused : (n inc : ℕ) (started : List (ℕ × ℕ)) → is_used n inc started ≡ false → In (n, inc) started → ⊥
unused n inc [] e i = i
unused n inc (x ∷ xs) e i = go (unused n inc xs) (is_start n inc x) refl e
  where
    go : (is_used n inc xs ≡ false → In (n, inc) xs → ⊥)
        → (b : Bool)
        → is_start n inc x ≡ b
        → (b || is_used n inc xs) ≡ false
        → ⊥
    go rest true f h = absurd (true≢false h)
    go rest false f h =
        ⊎_elim (λ (g : (n, inc) ≡ x). true≢false (sym (start_used n inc x g) ∙ f)) (λ (j : In (n, inc) xs). rest h j) i

-- what starts was never there
pub not_used : (n inc : ℕ) (started : List (ℕ × ℕ))
    → start_refusal n inc started (Some None) ≡ None
    → is_used n inc started ≡ false
not_used n inc started cause =
    (or_false (nat_eq inc 0) (is_used n inc started)
    (no_cause (nat_eq inc 0 || is_used n inc started) fault.UsedIncarnation None cause).0).1

abbrev after_start : Cluster → World → ℕ → ℕ → List (Option Running)
after_start c w n inc = set_node w n (Some (record { inc = inc; node = new_node (server_at c n inc) }))

start_next : NodeLaws
    → (c : Cluster)
    → IsCluster c
    → (w : World) (v : cluster.World) (n inc : ℕ) (outcome : Outcome) (w' : World)
    → start_refusal n inc w.started (slice_get w.nodes n) ≡ None
    → Starts c w n inc outcome w'
    → Sees c w v
    → Next c v w' None
start_next laws c set_up w v n inc outcome w' cause s h =
    let new : Option Running = Some (record { inc = inc; node = new_node (server_at c n inc) }) in
    let is =
    server_is c set_up n inc (let lt = slice_get_within w.nodes n None s.down in let size = h.size in omega arith) in
    let started = laws.started (server_at c n inc) is in
    let fresh : is_used n inc w.started ≡ false =
    not_used n inc w.started (sym (ap (start_refusal n inc w.started) s.down) ∙ cause) in
    record {
      seen = record {
        nodes = set v.nodes n (cluster.new_node (law_for c) inc);
        step = suc v.step;
        past = record v.past { started = v.past.started ++ (n, inc) ∷ [] };
      };
      event = cluster.Start n inc;
      steps =
          inl (record {
            before = cluster.no_node;
            before_is = h.nodes n None s.down;
            was_down = refl;
            some = s.some;
            fresh = λ i. unused n inc w.started fresh (subst (In (n, inc)) h.started i);
            after = refl;
          });
      jobs = sym (append_nil v.past.jobs);
      changes = sym (append_nil v.past.changes);
      sees =
          subst (λ x.
          Sees c x (record {
            nodes = set v.nodes n (cluster.new_node (law_for c) inc);
            step = suc v.step;
            past = record v.past { started = v.past.started ++ (n, inc) ∷ [] };
          }))
          (sym s.after) (record {
            step = ap suc h.step;
            size = set_size w.nodes n new ∙ h.size;
            nodes =
                subst (λ x.
                (k : ℕ) (o : Option Running)
                → slice_get (set w.nodes n new) k ≡ Some o
                → slice_get (set v.nodes n x) k ≡ Some (seen_node c k o))
                started.seen (seen_set c w.nodes v.nodes n None new s.down h.nodes);
            sound =
                sound_set c w.nodes n new h.sound (λ a e.
                subst (λ (x : Running). SoundNode (server_at c n x.inc) x.node) (same_Some _ a e) started.sound);
            started = ap (λ t. t ++ (n, inc) ∷ []) h.started;
            publications = h.publications;
            sent = h.sent;
            lives = h.lives;
            numbered = h.numbered;
            open_lives = λ l i none. still l.id (h.open_lives l i none);
            closed_lives = h.closed_lives;
            listed = h.listed;
            placements = h.placements;
          });
    }
  where
    -- what is open is at another server
    still : (id : LifeId) → is_open w.nodes id ≡ true → is_open (after_start c w n inc) id ≡ true
    still id was =
        ap (is_open_at id.inc id.sub)
        (get_set_there w.nodes n id.node (Some (record { inc = inc; node = new_node (server_at c n inc) })) apart)
        ∙ was
      where
        apart : id.node ≢ n
        apart e = true≢false (sym was ∙ ap (is_open_at id.inc id.sub) (ap (slice_get w.nodes) e ∙ s.down))

-- ---- a server that stops

in_all : (server : ServerIdentity) (now q : ℕ) (lines : List ShardWithJobs) (t k : ℕ)
    → is_open_in k (slice_get lines t) ≡ true
    → In (record { life = life_id server.me server.inc (q + t) k; step = now })
    (all_closings server.me server.inc now q (map (line_of server) lines))
in_all server now q [] t k e = absurd (true≢false (sym e))
in_all server now q (line ∷ lines) zero k e =
    in_left _
    (closings_of server.me server.inc q now
    (map (λ (u : law_shard.Subscription). u.serial) (map sub_of line.shard.subs)))
    (all_closings server.me server.inc now (suc q) (map (line_of server) lines))
    (subst (λ s.
    In (record { life = life_id server.me server.inc s k; step = now })
    (closings_of server.me server.inc q now
    (map (λ (u : law_shard.Subscription). u.serial) (map sub_of line.shard.subs))))
    (nothing_more q)
    (in_mapped (λ serial. record { life = life_id server.me server.inc q serial; step = now })
    (map (λ (u : law_shard.Subscription). u.serial) (map sub_of line.shard.subs)) k
    (there line.shard.subs (has_in k (serials_of line.shard.subs) e))))
  where
    nothing_more : (m : ℕ) → m ≡ m + 0
    nothing_more m = omega arith

    there : (us : List Subscription)
        → In k (serials_of us)
        → In k (map (λ (u : law_shard.Subscription). u.serial) (map sub_of us))
    there [] i = absurd i
    there (u ∷ us) i = ⊎_elim (λ f. inl f) (λ j. inr (there us j)) i
in_all server now q (line ∷ lines) (suc t) k e =
    in_right _
    (closings_of server.me server.inc q now
    (map (λ (u : law_shard.Subscription). u.serial) (map sub_of line.shard.subs)))
    (all_closings server.me server.inc now (suc q) (map (line_of server) lines))
    (subst (λ s.
    In (record { life = life_id server.me server.inc s k; step = now })
    (all_closings server.me server.inc now (suc q) (map (line_of server) lines)))
    (one_more q t) (in_all server now (suc q) lines t k e))
  where
    one_more : (m j : ℕ) → suc m + j ≡ m + suc j
    one_more m j = omega arith

stop_next : (c : Cluster) → (w : World) (v : cluster.World) (n : ℕ) (outcome : Outcome) (w' : World)
    → Stops w n outcome w' → Sees c w v → Next c v w' None
stop_next c w v n outcome w' s h =
    let before = node_of (server_at c n s.a.inc) s.a.node in
    let out : Output = record nothing { closings = all_closings n before.inc (suc v.step) 0 before.shards } in
    record {
      seen = world_with v n cluster.no_node out;
      event = cluster.Stop n;
      steps = inl (record { before = before; before_is = h.nodes n (Some s.a) s.a_is; was_up = refl; after = refl });
      jobs = refl;
      changes = refl;
      sees =
          subst (λ x. Sees c x (world_with v n cluster.no_node out)) (sym s.after) (record {
            step = ap suc h.step;
            size = set_size w.nodes n None ∙ h.size;
            nodes = seen_set c w.nodes v.nodes n (Some s.a) None s.a_is h.nodes;
            sound = sound_set c w.nodes n None h.sound (λ a e. absurd (none-some a e));
            started = h.started;
            publications = append_nil v.past.publications ∙ h.publications;
            sent = append_nil v.past.sent ∙ h.sent;
            lives = append_nil v.past.lives ∙ h.lives ∙ sym (lives_same (suc w.step) (set_node w n None) w.lives);
            numbered = numbered_after (suc w.step) (set_node w n None) w.lives h.numbered;
            open_lives = open_after (suc w.step) (set_node w n None) w.lives;
            closed_lives =
                closed_after n (suc w.step) w.nodes s.a None w.lives v.past.closings out.closings s.a_is h.open_lives
                h.numbered h.closed_lives (λ id own here my was now_not.
                subst (λ k. In (record { life = law_id id; step = suc k }) out.closings) h.step
                (subst (λ (x : names.LifeId). In (record { life = x; step = suc v.step }) out.closings)
                (λ j. record {
                  node = sym here j;
                  inc = sym my j;
                  shard = none_more (law_id id).shard j;
                  serial = id.sub.serial;
                })
                (in_all (server_at c n s.a.inc) (suc v.step) 0 s.a.node.lines (law_id id).shard id.sub.serial was)));
            listed = h.listed;
            placements = subst (Along (SeesPlacement c) w.placements) (sym (append_nil v.past.placements)) h.placements;
          });
    }
  where
    none_more : (k : ℕ) → 0 + k ≡ k
    none_more k = omega arith

-- ---- any step

refused_next : (c : Cluster) (w : World) (v : cluster.World) (w' : World)
    → w' ≡ record w { step = suc w.step }
    → Sees c w v
    → Next c v w' None
refused_next c w v w' is h = record {
  seen = record v { step = suc v.step };
  event = cluster.Stop 0;
  steps = inr refl;
  jobs = sym (append_nil v.past.jobs);
  changes = sym (append_nil v.past.changes);
  sees =
      subst (λ x. Sees c x (record v { step = suc v.step })) (sym is) (record {
        step = ap suc h.step;
        size = h.size;
        nodes = h.nodes;
        sound = h.sound;
        started = h.started;
        publications = h.publications;
        sent = h.sent;
        lives = h.lives;
        numbered = h.numbered;
        open_lives = h.open_lives;
        closed_lives = h.closed_lives;
        listed = h.listed;
        placements = h.placements;
      });
}

happens_next : NodeLaws
    → (c : Cluster)
    → IsCluster c
    → (w : World) (v : cluster.World) (e : Event) (outcome : Outcome) (w' : World)
    → world_refusal c w e ≡ None
    → Happens c w e outcome w'
    → Sees c w v
    → Next c v w' (acting_in w e)
happens_next laws c set_up w v (Start n inc) outcome w' cause s h =
    start_next laws c set_up w v n inc outcome w' cause s h
happens_next laws c set_up w v (Stop n) outcome w' cause s h = stop_next c w v n outcome w' s h
happens_next laws c set_up w v (Receive n k) outcome w' cause s h =
    acts_next laws c set_up w v n (event_for w (Receive n k)) outcome w' (given_numbered w k) s h
happens_next laws c set_up w v (OnInfo n session k) outcome w' cause s h =
    acts_next laws c set_up w v n (event_for w (OnInfo n session k)) outcome w' (given_info w session k) s h
happens_next laws c set_up w v (OnConnect n session k) outcome w' cause s h =
    acts_next laws c set_up w v n (event_for w (OnConnect n session k)) outcome w' (given_connect w session k) s h
happens_next laws c set_up w v (At n e) outcome w' cause s h =
    acts_next laws c set_up w v n (Some (Own e)) outcome w'
    (λ x is. subst (λ (y : NodeEvent). Given w y) (same_Some (Own e) x is) tt) s h

pub step_next : NodeLaws
    → (c : Cluster)
    → IsCluster c
    → (w : World) (v : cluster.World) (e : Event) (outcome : Outcome) (w' : World)
    → WorldStep c w e outcome w'
    → Sees c w v
    → Next c v w' (acting_server c w e)
step_next laws c set_up w v e outcome w' s h = go (world_refusal c w e) refl s
  where
    go : (o : Option WorldFault) → world_refusal c w e ≡ o → Decided c w e o outcome w' → Next c v w' (acting_if w e o)
    go None is d = happens_next laws c set_up w v e outcome w' is d h
    go (Some why) is d = refused_next c w v w' d.1 h

-- ---- the laws below

pub laws_of : NodeFollows → StaysSound → ((s : State) (e : of_shard.Event) (conn : ℕ) → ArePut s e conn) → NodeLaws
laws_of follows stays puts = record {
  follows = follows;
  stays = stays;
  started = λ server is. is_started server;
  given = messages_are_given puts;
}

-- ---- runs

-- the machine's run along a run: what it ends in, and the jobs and changes that it made
pub record Over (c : Cluster) (v : cluster.World) (w' : World) (steps : List Passed) : Type 0 where
  pub seen : cluster.World
  pub events : List cluster.Event
  pub run : cluster.Run every_rule (law_for c) v events seen
  pub sees : Sees c w' seen
  pub jobs : seen.past.jobs ≡ v.past.jobs ++ map (law_job c) (jobs_made c steps)
  pub changes : seen.past.changes ≡ v.past.changes ++ map law_change (changes_made c steps)

-- what two steps add, one after the other
both_add : {A B : Type 0} (f : A → B) (old mid new : List B) (here later : List A)
    → mid ≡ old ++ map f here
    → new ≡ mid ++ map f later
    → new ≡ old ++ map f (here ++ later)
both_add f old mid new here later first second =
    second
    ∙ ap (λ t. t ++ map f later) first
    ∙ append_assoc old (map f here) (map f later)
    ∙ ap (λ t. old ++ t) (sym (map_append f here later))

pub over : NodeLaws
    → (c : Cluster)
    → IsCluster c
    → (w : World) (v : cluster.World) (es : List Event) (w' : World) (r : Run c w es w')
    → Sees c w v
    → Over c v w' (passed_events c w es w' r)
over laws c set_up w v [] w' r h = record {
  seen = v;
  events = [];
  run = refl;
  sees = subst (λ x. Sees c x v) (sym r) h;
  jobs = sym (append_nil v.past.jobs);
  changes = sym (append_nil v.past.changes);
}
over laws c set_up w v (e ∷ es) w' r h =
    let first = step_next laws c set_up w v e r.1 r.0 r.2 h in
    let rest = over laws c set_up r.0 first.seen es w' r.3 first.sees in
    record {
      seen = rest.seen;
      events = first.event ∷ rest.events;
      run = (first.seen, first.steps, rest.run);
      sees = rest.sees;
      jobs =
          both_add (law_job c) v.past.jobs first.seen.past.jobs rest.seen.past.jobs (jobs_of c (acting_server c w e))
          (jobs_made c (passed_events c r.0 es w' r.3)) first.jobs rest.jobs;
      changes =
          both_add law_change v.past.changes first.seen.past.changes rest.seen.past.changes
          (changes_of (acting_server c w e)) (changes_made c (passed_events c r.0 es w' r.3)) first.changes
          rest.changes;
    }

replicate_size : {A : Type 0} (k : ℕ) (x : A) → length (replicate k x) ≡ k
replicate_size zero x = refl
replicate_size (suc k) x = let z = replicate_size k x in omega arith

same_place : {A B : Type 0} (k : ℕ) (x a : A) (y : B) (n : ℕ)
    → slice_get (replicate k x) n ≡ Some a
    → slice_get (replicate k y) n ≡ Some y
same_place zero x a y n e = absurd (none-some a e)
same_place (suc k) x a y zero e = refl
same_place (suc k) x a y (suc n) e = same_place k x a y n e

pub first_seen : (c : Cluster) → Sees c (new_world c) (cluster.begin (law_for c))
first_seen c = record {
  step = refl;
  size = replicate_size (length c.names) None;
  nodes = λ n o e.
      subst (λ x. slice_get (replicate (length c.names) cluster.no_node) n ≡ Some (seen_node c n x))
      (sym (read_replicate (length c.names) None o n e)) (same_place (length c.names) None o cluster.no_node n e);
  sound = λ n a e. absurd (none-some a (sym (read_replicate (length c.names) None (Some a) n e)));
  started = refl;
  publications = refl;
  sent = refl;
  lives = refl;
  numbered = λ l i. absurd i;
  open_lives = λ l i. absurd i;
  closed_lives = λ l i. absurd i;
  listed = λ p i. absurd i;
  placements = tt;
}

pub seen_over : NodeLaws
    → (c : Cluster)
    → IsCluster c
    → (es : List Event) (w : World) (r : Run c (new_world c) es w)
    → Over c (cluster.begin (law_for c)) w (passed_events c (new_world c) es w r)
seen_over laws c set_up es w r = over laws c set_up (new_world c) (cluster.begin (law_for c)) es w r (first_seen c)

pub is_reached : (c : Cluster) (w : World) (steps : List Passed) (o : Over c (cluster.begin (law_for c)) w steps)
    → Reached every_rule (law_for c) o.seen
is_reached c w steps o = record { events = o.events; run = o.run }

-- ---- what it says

abbrev queue_in : Mode → Option (List ℕ)
queue_in Plain = None
queue_in (Queue name) = Some name

same_queue : (q : Option (List ℕ)) → queue_in (mode_of q) ≡ q
same_queue None = refl
same_queue (Some name) = refl

queue_is : (c : Cluster) (p : Placement) (q : history.Placement) → SeesPlacement c p q → q.mode ≡ queue_in p.mode
queue_is c p q s = sym (same_queue q.mode) ∙ ap queue_in (sym s.mode)

pub headline_of : (c : Cluster) (w : World) (v : cluster.World)
    → Sees c w v
    → law_headline.Headline (law_for c) v.past
    → Headline w
headline_of c w v s h = record {
  plain_once =
      along_pairs (SeesPlacement c) PlainOnce law_headline.PlainOnce w.placements v.past.placements
      (λ p p' q q' a b r mode id life.
      r (queue_is c p q a ∙ ap queue_in mode) (a.id ∙ ap (pub_of c) id ∙ sym b.id) (lives a b life))
      s.placements h.plain_once;
  one_member =
      along_pairs (SeesPlacement c) OneMember law_headline.OneMember w.placements v.past.placements
      (λ p p' q q' a b r name id mode mode'.
      r name (a.id ∙ ap (pub_of c) id ∙ sym b.id) (queue_is c p q a ∙ ap queue_in mode)
      (queue_is c p' q' b ∙ ap queue_in mode'))
      s.placements h.one_member;
  owed = owed;
  in_order =
      along_pairs (SeesPlacement c) InOrder law_headline.InOrder w.placements v.past.placements
      (λ p p' q q' a b r life origin inc.
      let n = ap (λ (x : names.PubId). x.number) a.id in
      let m = ap (λ (x : names.PubId). x.number) b.id in
      let lt = r (lives a b life)
      (ap (λ (x : names.PubId). x.origin) a.id ∙ ap (λ name. place_in name c.names) origin
      ∙ sym (ap (λ (x : names.PubId). x.origin) b.id))
      (ap (λ (x : names.PubId). x.inc) a.id ∙ inc ∙ sym (ap (λ (x : names.PubId). x.inc) b.id)) in
      omega arith)
      s.placements h.in_order;
}
  where
    law_life : {p : Placement} {q : history.Placement} → SeesPlacement c p q → q.life ≡ law_id p.life
    law_life {p} {q} a = back q.life ∙ ap law_id (sym a.life)
      where
        less : (k : ℕ) → k ≡ suc k - 1
        less k = omega arith

        back : (x : names.LifeId) → x ≡ law_id (own_id x)
        back x = λ i. record { node = x.node; inc = x.inc; shard = less x.shard i; serial = x.serial }

    lives : {p p' : Placement} {q q' : history.Placement}
        → SeesPlacement c p q
        → SeesPlacement c p' q'
        → p.life ≡ p'.life
        → q.life ≡ q'.life
    lives a b life = law_life a ∙ ap law_id life ∙ sym (law_life b)

    -- a name of the list has its place alone
    one_name : (x y : List ℕ) → place_in x c.names < length c.names → place_in x c.names ≡ place_in y c.names → x ≡ y
    one_name x y lt e = sym (name_there c.names x lt) ∙ ap (name_at c.names) e ∙ name_there c.names y (omega (arith, e))

    one_id : (x y : PubId) → place_in x.origin c.names < length c.names → pub_of c x ≡ pub_of c y → x ≡ y
    one_id x y lt e = λ i. record {
      origin = one_name x.origin y.origin lt (ap (λ (z : names.PubId). z.origin) e) i;
      inc = ap (λ (z : names.PubId). z.inc) e i;
      number = ap (λ (z : names.PubId). z.number) e i;
    }

    owed : Each (IsOwed w.publications w.lives) w.placements
    owed p i =
        let f = along_in (SeesPlacement c) w.placements v.past.placements s.placements p i in
        let q = f.0 in
        let a = f.2 in
        let published = h.published q f.1 in
        let source = in_map (publication_of c) w.publications published.source
        (subst (In published.source) s.publications published.source_in) in
        let due = h.owed q f.1 in
        let life = in_map life_of w.lives due.life (subst (In due.life) s.lives due.life_in) in
        let step = a.step in
        let content = sym (ap (λ (x : messages.Publication). x.content) source.2) ∙ published.content in
        record {
          source = source.0;
          source_in = source.1;
          id =
              one_id source.0.id p.id (s.listed source.0 source.1)
              (sym (ap (λ (x : messages.Publication). x.id) source.2) ∙ published.id ∙ a.id);
          earlier =
              let lt = published.earlier in let is = ap (λ (x : messages.Publication). x.step) source.2 in omega arith;
          life = life.0;
          life_in = life.1;
          life_id =
              s.numbered life.0 life.1 ∙ ap own_id (sym (ap (λ (x : history.Life). x.id) life.2) ∙ due.id) ∙ sym a.life;
          conn = sym (ap (λ (x : history.Life). x.connection) life.2) ∙ due.connection ∙ a.conn;
          mode = ap mode_of (sym (ap (λ (x : history.Life). x.queue) life.2) ∙ due.mode) ∙ sym a.mode;
          matches =
              (λ j. subject_matches (sym (ap (λ (x : history.Life). x.pattern) life.2) j) (content j).subject)
              ∙ due.matches;
          opened = let lt = due.opened in let is = ap (λ (x : history.Life). x.opened) life.2 in omega arith;
          still = λ k is.
              let le = due.still (record { life = law_id life.0.id; step = k }) (s.closed_lives life.0 life.1 k is)
              (sym (ap (λ (x : history.Life). x.id) life.2) ∙ due.id) in
              omega arith;
          bytes =
              a.bytes
              ∙ (λ j.
              due_bytes (own_content (sym content j)) ((sym due.sid ∙ ap (λ (x : history.Life). x.sid) life.2) j)
              p.headers);
        }

pub sound_of : (c : Cluster) (w : World) (v : cluster.World)
    → Sees c w v
    → EachUp (λ n a. SoundNode (server_at c n a.inc) a.node) w
sound_of c w v s n a at = s.sound n a at

pub names_of : (c : Cluster) (w : World) (v : cluster.World) → Sees c w v → law_headline.Unique v.past → Names w
names_of c w v s unique = record {
  publications =
      pairs_weaker (λ p q. (publication_of c p).id ≢ (publication_of c q).id) (λ p q. p.id ≢ q.id) w.publications
      (λ p q i j r e. r (ap (pub_of c) e))
      (pairs_map_back (λ p q. p.id ≢ q.id) (publication_of c) w.publications
      (subst (Pairs (λ p q. p.id ≢ q.id)) s.publications unique.publications));
  lives =
      pairs_weaker (λ l m. (life_of l).id ≢ (life_of m).id) (λ l m. l.id ≢ m.id) w.lives
      (λ l m i j r e. r (ap law_id e))
      (pairs_map_back (λ l m. l.id ≢ m.id) life_of w.lives (subst (Pairs (λ l m. l.id ≢ m.id)) s.lives unique.lives));
}
