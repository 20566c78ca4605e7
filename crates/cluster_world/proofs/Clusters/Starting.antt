-- A cluster at its start, a server that starts or stops, a refusal, and runs.
use Rattle.std.proofs.Common.{◌≡◌, ◌<◌, ◌≤◌, ℕ, zero, suc, ◌+◌, Bool, true, false, true≢false, cond, ◌&&◌, List, [], ◌∷◌, ◌++◌, map, set, replicate, length, Option, Some, None, refl, sym, ap, ◌∙◌, subst, arith}
use Rattle.std.specs.Prelude.{slice_get, nat_lt}
use Rattle.std.specs.Option.{option_map}
use Rattle.std.proofs.lemmas.Option.{none-some, same_Some, slice_get-map}
use Rattle.list_laws.proofs.Lists.{read_replicate}
use Rattle.list_laws.proofs.Tests.{lt_false}
use Rattle.list_laws.proofs.Changes.{map_set}
use Rattle.subj.specs.Servers.{ServerIdentity, IsListed, is_server, server_of}
use Rattle.node_law.specs.Answers.{Nothing}
use Rattle.node_core.specs.Served.{Served, new_server}
use Rattle.world_law.specs.Changes.{LivesAreFound}
use Rattle.world_law.specs.declared.faults.WorldFault.{WorldFault}
use Rattle.world_law.specs.declared.faults.WorldFault.TheVariants as fault
use Rattle.world_law.specs.Events.{Event, Start, Stop}
use Rattle.world_law.specs.Outcomes.{Outcome, Done, Refused}
use Rattle.world_law.specs.Refusals.{world_refusal, start_refusal, stop_refusal}
use Rattle.world_law.specs.State.{Cluster, World, new_world, server_at}
use Rattle.world_law.specs.Steps.{Decided, WorldStep, outcomes_of, Answers, Carried}
use Rattle.cluster_world.specs.Value.{Listed, no_lists, with_start, with_closed, running_in, inc_in, world_of, cluster_of, value_of_parts, Shown, new_shown, InPlace, IsKept, CameBySteps, IsStepped, AreStepped, Ran, server_in, new_cluster}
use Rattle.cluster_world.proofs.Clusters.Making.{lives_are, all_close, in_place_set, shown_at}

-- ---- at first

map_replicate : {A B : Type 0} (f : A → B) (k : ℕ) (x : A) → map f (replicate k x) ≡ replicate k (f x)
map_replicate f zero x = refl
map_replicate f (suc k) x = ap (λ t. f x ∷ t) (map_replicate f k x)

size_replicate : {A : Type 0} (k : ℕ) (x : A) → length (replicate k x) ≡ k
size_replicate zero x = refl
size_replicate (suc k) x = let z = size_replicate k x in omega arith

first_world : (server : ServerIdentity) (count : ℕ) (nodes : List (Option Served)) (l : Listed)
    → count ≡ length server.names
    → nodes ≡ replicate count None
    → l ≡ no_lists
    → world_of 0 nodes l ≡ new_world (cluster_of server)
first_world server count nodes l size nodes_are lists =
    (λ i. world_of 0 (nodes_are i) (lists i))
    ∙ (λ i. record {
      step = 0;
      nodes = (map_replicate running_in count None ∙ ap (λ k. replicate k None) size) i;
      started = [];
      publications = [];
      lives = [];
      placements = [];
      sent = [];
    })

pub first_shown : (server : ServerIdentity) (count : ℕ) (nodes : List (Option Served)) (l : Listed)
    → count ≡ length server.names
    → nodes ≡ replicate count None
    → l ≡ no_lists
    → value_of_parts server 0 nodes l ≡ new_shown (cluster_of server)
first_shown server count nodes l size nodes_are lists = λ i. record {
  cluster = cluster_of server;
  world = first_world server count nodes l size nodes_are lists i;
  entered = ap (λ (t : Listed). t.entered) lists i;
}

pub first_kept : (server : ServerIdentity) (count : ℕ) (nodes : List (Option Served)) (v : Shown)
    → IsListed server
    → is_server (server_at (cluster_of server) 0 1) ≡ true
    → count ≡ length server.names
    → nodes ≡ replicate count None
    → v ≡ new_shown (cluster_of server)
    → Carried (cluster_of server) (new_world (cluster_of server))
    → IsKept server nodes v
first_kept server count nodes v listed tested size nodes_are is carried = record {
  apart = record { apart = listed.apart };
  tested = tested;
  size = ap length nodes_are ∙ size_replicate count None ∙ size;
  places = λ n s at.
      absurd (none-some s (sym (read_replicate count None (Some s) n (ap (λ t. slice_get t n) (sym nodes_are) ∙ at))));
  carried = subst (λ (s : Shown). Carried (cluster_of server) s.world) (sym is) carried;
  came = subst CameBySteps (sym is) ∣ ([], [], refl) ∣₁;
}

pub made_server : (s made : ServerIdentity) → Some made ≡ server_of s → (is_server s ≡ true) × (made ≡ s)
made_server s made e = go (is_server s) refl e
  where
    go : (b : Bool) → is_server s ≡ b → Some made ≡ cond b (Some s) None → (is_server s ≡ true) × (made ≡ s)
    go true f e = (f, same_Some made s e)
    go false f e = absurd (none-some made (sym e))

pub no_server : (s : ServerIdentity) → None ≡ server_of s → is_server s ≡ false
no_server s e = go (is_server s) refl e
  where
    go : (b : Bool) → is_server s ≡ b → None ≡ cond b (Some s) None → is_server s ≡ false
    go true f e = absurd (none-some s e)
    go false f e = f

pub new_made : (c : Cluster) (server : ServerIdentity) (v : Shown)
    → is_server (server_at c 0 1) ≡ true
    → cluster_of server ≡ c
    → v ≡ new_shown (cluster_of server)
    → Some v ≡ new_cluster c
new_made c server v tested same is =
    ap Some (is ∙ ap new_shown same) ∙ ap (λ b. cond b (Some (new_shown c)) None) (sym tested)

-- ---- the server of another place

swap : (a b b' s p : Bool) → (a && b && s && p) ≡ true → b' ≡ true → (a && b' && s && p) ≡ true
swap true true b' s p e f = ap (λ t. true && t && s && p) f ∙ e
swap true false b' s p e f = absurd (true≢false (sym e))
swap false b b' s p e f = absurd (true≢false (sym e))

is_below : (a b : ℕ) → a < b → nat_lt a b ≡ true
is_below a b lt = go (nat_lt a b) refl
  where
    go : (t : Bool) → nat_lt a b ≡ t → nat_lt a b ≡ true
    go true e = e
    go false e = absurd (let le = lt_false a b e in omega (arith, lt, le))

pub server_there : (server : ServerIdentity) (n inc : ℕ)
    → is_server (server_at (cluster_of server) 0 1) ≡ true
    → n < length server.names
    → server_in server n inc ≡ Some (server_at (cluster_of server) n inc)
server_there server n inc tested lt =
    ap (λ b. cond b (Some (server_at (cluster_of server) n inc)) None)
    (swap _ _ (nat_lt n (length server.names)) _ _ tested (is_below n (length server.names) lt))

-- ---- a refusal

pub refused_step : (c : Cluster) (w : World) (e : Event) (why : WorldFault) (now : ℕ)
    → now ≡ w.step + 1
    → world_refusal c w e ≡ Some why
    → WorldStep c w e (Refused why) (record w { step = now })
refused_step c w e why now now_is cause =
    subst (λ o. Decided c w e o (Refused why) (record w { step = now })) (sym cause)
    (refl, (λ i. record w { step = next i }))
  where
    next : now ≡ suc w.step
    next = omega (arith, now_is)

-- ---- a server that starts

pub free_of : (n inc : ℕ) (used : List (ℕ × ℕ)) (o : Option (Option Served))
    → start_refusal n inc used (option_map running_in o) ≡ None
    → o ≡ Some None
free_of n inc used None e = absurd (none-some fault.NoSuch (sym e))
free_of n inc used (Some None) e = refl
free_of n inc used (Some (Some s)) e = absurd (none-some fault.NodeUp (sym e))

pub free_at : (c : Cluster) (step n inc : ℕ) (nodes : List (Option Served)) (l : Listed)
    → world_refusal c (world_of step nodes l) (Start n inc) ≡ None
    → slice_get nodes n ≡ Some None
free_at c step n inc nodes l cause =
    free_of n inc l.started (slice_get nodes n)
    (ap (start_refusal n inc l.started) (sym (slice_get-map running_in nodes n)) ∙ cause)

pub start_step : (server made : ServerIdentity) (step now n inc : ℕ) (nodes : List (Option Served)) (l l' : Listed)
    (y : Served)
    → now ≡ step + 1
    → 1 ≤ inc
    → world_refusal (cluster_of server) (world_of step nodes l) (Start n inc) ≡ None
    → made ≡ server_at (cluster_of server) n inc
    → y ≡ new_server made
    → l' ≡ with_start n inc l
    → WorldStep (cluster_of server) (world_of step nodes l) (Start n inc) (Done Nothing)
    (world_of now (set nodes n (Some y)) l')
start_step server made step now n inc nodes l l' y now_is some cause made_is y_is lists =
    subst (λ o.
    Decided (cluster_of server) (world_of step nodes l) (Start n inc) o (Done Nothing)
    (world_of now (set nodes n (Some y)) l'))
    (sym cause) (record {
      some = omega (arith, some);
      down = shown_at nodes n None (free_at (cluster_of server) step n inc nodes l cause);
      told = refl;
      after =
          (λ i. world_of (next i) (set nodes n (Some (is i))) (lists i))
          ∙ (λ i. record {
            step = suc step;
            nodes = map_set running_in nodes n (Some (new_server (server_at (cluster_of server) n inc))) i;
            started = l.started ++ (n, inc) ∷ [];
            publications = l.publications;
            lives = l.lives;
            placements = l.placements;
            sent = l.sent;
          });
    })
  where
    next : now ≡ suc step
    next = omega (arith, now_is)

    is : y ≡ new_server (server_at (cluster_of server) n inc)
    is = y_is ∙ ap new_server made_is

pub start_places : (server made : ServerIdentity) (n inc step : ℕ) (nodes : List (Option Served)) (l : Listed)
    (y : Served)
    → InPlace (cluster_of server) nodes
    → world_refusal (cluster_of server) (world_of step nodes l) (Start n inc) ≡ None
    → made ≡ server_at (cluster_of server) n inc
    → y ≡ new_server made
    → InPlace (cluster_of server) (set nodes n (Some y))
start_places server made n inc step nodes l y places cause made_is y_is =
    in_place_set (cluster_of server) nodes n None (Some y) places (free_at (cluster_of server) step n inc nodes l cause)
    (λ s is.
    subst (λ (t : Served). t.server ≡ server_at (cluster_of server) n t.server.inc) (same_Some y s is)
    (subst (λ (t : Served). t.server ≡ server_at (cluster_of server) n t.server.inc)
    (sym (y_is ∙ ap new_server made_is)) refl))

-- ---- a server that stops

pub up_of : (o : Option (Option Served))
    → stop_refusal (option_map running_in o) ≡ None
    → (s : Served) × (o ≡ Some (Some s))
up_of None e = absurd (none-some fault.NoSuch (sym e))
up_of (Some None) e = absurd (none-some fault.NodeDown (sym e))
up_of (Some (Some s)) e = (s, refl)

pub up_at : (c : Cluster) (step n : ℕ) (nodes : List (Option Served)) (l : Listed)
    → world_refusal c (world_of step nodes l) (Stop n) ≡ None
    → (s : Served) × (slice_get nodes n ≡ Some (Some s))
up_at c step n nodes l cause =
    up_of (slice_get nodes n) (ap stop_refusal (sym (slice_get-map running_in nodes n)) ∙ cause)

pub stop_step : (server : ServerIdentity) (step now n inc : ℕ) (nodes : List (Option Served)) (l l' : Listed)
    → now ≡ step + 1
    → LivesAreFound (world_of step nodes l)
    → world_refusal (cluster_of server) (world_of step nodes l) (Stop n) ≡ None
    → Some inc ≡ inc_in (slice_get nodes n)
    → l' ≡ with_closed (record { step = now; node = n; inc = inc }) l
    → WorldStep (cluster_of server) (world_of step nodes l) (Stop n) (Done Nothing) (world_of now (set nodes n None) l')
stop_step server step now n inc nodes l l' now_is opens cause inc_is lists =
    let s = up_at (cluster_of server) step n nodes l cause in
    let at = shown_at nodes n (Some s.0) s.1 in
    let same : inc ≡ s.0.server.inc = same_Some inc s.0.server.inc (inc_is ∙ ap inc_in s.1) in
    subst (λ o.
    Decided (cluster_of server) (world_of step nodes l) (Stop n) o (Done Nothing) (world_of now (set nodes n None) l'))
    (sym cause) (record {
      a = record { inc = s.0.server.inc; node = s.0.node };
      a_is = at;
      told = refl;
      after =
          (λ i.
          world_of (next i) (set nodes n None)
          ((lists ∙ (λ j. with_closed (record { step = next j; node = n; inc = same j }) l)) i))
          ∙ (λ i. record {
            step = suc step;
            nodes = map_set running_in nodes n None i;
            started = l.started;
            publications = l.publications;
            lives =
                lives_are (suc step) n (world_of step nodes l) (record { inc = s.0.server.inc; node = s.0.node }) None
                None opens at (all_close (record { inc = s.0.server.inc; node = s.0.node })) i;
            placements = l.placements;
            sent = l.sent;
          });
    })
  where
    next : now ≡ suc step
    next = omega (arith, now_is)

pub stop_places : (c : Cluster) (step n : ℕ) (nodes : List (Option Served)) (l : Listed)
    → InPlace c nodes
    → world_refusal c (world_of step nodes l) (Stop n) ≡ None
    → InPlace c (set nodes n None)
stop_places c step n nodes l places cause =
    let s = up_at c step n nodes l cause in
    in_place_set c nodes n (Some s.0) None places s.1 (λ z is. absurd (none-some z is))

-- ---- one step more of a run

pub stepped_more : (old mid new : Shown) (es : List Event) (os : List Outcome) (e : Event) (o : Outcome)
    → AreStepped old es os mid
    → IsStepped mid e o new
    → AreStepped old (es ++ e ∷ []) (os ++ o ∷ []) new
stepped_more old mid new [] [] e o rs s = (new, subst (λ (x : Shown). IsStepped x e o new) rs s, refl)
stepped_more old mid new [] (y ∷ os) e o rs s = absurd rs
stepped_more old mid new (x ∷ es) [] e o rs s = absurd rs
stepped_more old mid new (x ∷ es) (y ∷ os) e o rs s = (rs.0, rs.1, stepped_more rs.0 mid new es os e o rs.2 s)

pub ran_more : (old mid new : Shown) (es : List Event) (os : List Outcome) (e : Event) (o : Outcome)
    → Ran old es os mid
    → IsStepped mid e o new
    → Ran old (es ++ e ∷ []) (os ++ o ∷ []) new
ran_more old mid new es os e o r s = record {
  cluster = s.cluster ∙ r.cluster;
  run =
      more old.cluster old.world es os mid.world e o new.world r.run
      (subst (λ c. WorldStep c mid.world e o new.world) r.cluster s.step);
  steps = stepped_more old mid new es os e o r.steps s;
}
  where
    more : (c : Cluster) (w : World) (es : List Event) (os : List Outcome) (w' : World) (e : Event) (o : Outcome)
        (w'' : World)
        → Answers c w es os w'
        → WorldStep c w' e o w''
        → Answers c w (es ++ e ∷ []) (os ++ o ∷ []) w''
    more c w [] os w' e o w'' a step = (
      (w'', o, subst (λ (x : World). WorldStep c x e o w'') a.0 step, refl),
      ap (λ t. t ++ o ∷ []) a.1,
    )
    more c w (x ∷ es) os w' e o w'' a step =
        let r = a.0 in
        let rest = more c r.0 es (outcomes_of c r.0 es w' r.3) w' e o w'' (r.3, refl) step in
        ((r.0, r.1, r.2, rest.0), ap (λ t. r.1 ∷ t) rest.1 ∙ ap (λ t. t ++ o ∷ []) a.1)
