-- The exact cluster as the cluster law's machine sees it: what is seen, and that each step of a server keeps it.
use Rattle.std.proofs.Common.{◌≡◌, ◌⊎◌, ◌<◌, ◌+◌, ◌-◌, arith, length, ℕ, zero, suc, Bool, true, false, true≢false, cond, nat_eq, not, ◌&&◌, List, [], ◌∷◌, ◌++◌, map, set, Option, Some, None, is_none, refl, sym, ap, ◌∙◌, subst, inl, inr, ⊎_elim}
use Rattle.std.specs.Prelude.{slice_get}
use Rattle.std.proofs.lemmas.Option.{none-some, same_Some, slice_get_within}
use Rattle.list_laws.specs.Lists.{In, Each, Along}
use Rattle.list_laws.proofs.Lists.{read_set, in_map, in_left, in_right, each_append}
use Rattle.list_laws.proofs.Tests.{eq_true, eq_false, true_eq, false_eq, and_true}
use Rattle.list_laws.proofs.Changes.{get_set_here, get_set_there, get_map, in_mapped, map_append, map_map, map_same, along_append}
use Rattle.cluster_law.specs.Cluster as cluster
use Rattle.cluster_law.specs.Cluster.{Step, world_with}
use Rattle.cluster_law.specs.Config.{every_rule}
use Rattle.cluster_law.specs.History.{Closing}
use Rattle.cluster_law.specs.Names as names
use Rattle.cluster_law.specs.Node as law
use Rattle.subj.specs.Servers.{ServerIdentity, place_in}
use Rattle.sub_table.specs.declared.Subscription.{Subscription}
use Rattle.route_values.specs.declared.frames.RouteFrame.{RouteFrame}
use Rattle.route_values.specs.declared.frames.RouteFrame.TheVariants as route
use Rattle.subj.specs.Servers.{IsListed}
use Rattle.hub_core.proofs.Choices.Places.{named}
use Rattle.hub_core.specs.AsLaw.{change_of}
use Rattle.interest.specs.declared.changes.Change.{Change}
use Rattle.shard_core.specs.AsLaw as of_shard
use Rattle.shard_core.specs.ShardSteps.{sub_called}
use Rattle.node_law.specs.AsLaw.{Shown, IsOpenAt, NodeFollows, StaysSound, IsStarted, MessagesAreGiven, node_of, jobs_by, changes_by}
use Rattle.node_law.specs.AsLaw as node
use Rattle.node_law.specs.declared.events.ConnEvent.{ConnEvent}
use Rattle.node_law.specs.declared.events.ConnEvent.TheVariants.{Subscribe, Unsubscribe, Reply, Shut, SetHeaders, Detach, Take}
use Rattle.node_law.specs.Events.{OfConn, AtShard, Publish, Collect, Drain, Dial, Accept, CutSession, TakeFrames, NodeEvent, Own, Receive, OnInfo, OnConnect}
use Rattle.node_law.specs.Sound.{SoundNode}
use Rattle.node_law.specs.State.{ShardWithJobs, Node}
use Rattle.node_law.specs.Steps.{node_frames, conn_line, conn_place, shard_line}
use Rattle.node_law.specs.AsLaw.{is_open_in}
use Rattle.world_law.specs.Changes.{publication, publications_of, lives_of, conn_lives, new_life, looked_at, is_open, is_open_at}
use Rattle.world_law.specs.Events.{frame_at, numbered_event, info_on, connect_on}
use Rattle.world_law.specs.Headline.{IsCluster}
use Rattle.world_law.specs.Made.{Acting, acting_at, jobs_of, changes_of}
use Rattle.world_law.specs.Outcomes.{Outcome}
use Rattle.world_law.specs.State.{Cluster, Publication, LifeId, Life, Running, World, server_at}
use Rattle.world_law.specs.Steps.{Acts, set_node}
use Rattle.world_law.proofs.Seen.Gained.{node_gives}
use Rattle.world_law.proofs.Seen.Machine.{law_for, frame_of, publication_of, law_id, own_id, life_of, seen_node, SeesPlacement, Sees, law_job, law_change}

-- the laws of one server
pub record NodeLaws : Type 0 where
  pub follows : NodeFollows
  pub stays : StaysSound
  pub started : (server : ServerIdentity) → IsListed server → IsStarted server
  pub given : MessagesAreGiven

-- the next world of the machine, by a step that makes just these jobs and changes
pub record Next (c : Cluster) (v : cluster.World) (w' : World) (x : Option Acting) : Type 0 where
  pub seen : cluster.World
  pub event : cluster.Event
  pub steps : Step every_rule (law_for c) v event seen
  pub sees : Sees c w' seen
  pub jobs : seen.past.jobs ≡ v.past.jobs ++ map (law_job c) (jobs_of c x)
  pub changes : seen.past.changes ≡ v.past.changes ++ map law_change (changes_of x)

-- ---- one server changes

pub seen_set : (c : Cluster) (nodes : List (Option Running)) (law_nodes : List law.Node) (n : ℕ)
    (old new : Option Running)
    → slice_get nodes n ≡ Some old
    → ((k : ℕ) (o : Option Running) → slice_get nodes k ≡ Some o → slice_get law_nodes k ≡ Some (seen_node c k o))
    → (k : ℕ) (o : Option Running)
    → slice_get (set nodes n new) k ≡ Some o
    → slice_get (set law_nodes n (seen_node c n new)) k ≡ Some (seen_node c k o)
seen_set c nodes law_nodes n old new at h =
    read_set (λ k o. slice_get (set law_nodes n (seen_node c n new)) k ≡ Some (seen_node c k o)) nodes n new
    (λ k o apart e. get_set_there law_nodes n k (seen_node c n new) apart ∙ h k o e)
    (get_set_here law_nodes n (seen_node c n old) (seen_node c n new) (h n old at))

pub sound_set : (c : Cluster) (nodes : List (Option Running)) (n : ℕ) (new : Option Running)
    → ((k : ℕ) (a : Running) → slice_get nodes k ≡ Some (Some a) → SoundNode (server_at c k a.inc) a.node)
    → ((a : Running) → new ≡ Some a → SoundNode (server_at c n a.inc) a.node)
    → (k : ℕ) (a : Running)
    → slice_get (set nodes n new) k ≡ Some (Some a)
    → SoundNode (server_at c k a.inc) a.node
sound_set c nodes n new h here k a e =
    read_set (λ k o. (a : Running) → o ≡ Some a → SoundNode (server_at c k a.inc) a.node) nodes n new
    (λ k o apart f a is. h k a (f ∙ ap Some is)) here k (Some a) e a refl

-- ---- a shard's number and its place

pub shard_line_at : (a : Node) (k place : ℕ) → k ≡ suc place → shard_line a k ≡ slice_get a.lines place
shard_line_at a k place e =
    ap (λ t. cond t None (slice_get a.lines (k - 1))) (false_eq k 0 (omega arith))
    ∙ ap (slice_get a.lines) (less k place e)
  where
    less : (k place : ℕ) → k ≡ suc place → k - 1 ≡ place
    less k place e = omega arith

-- what an open life is
pub open_at : (nodes : List (Option Running)) (id : LifeId) (a : Running)
    → slice_get nodes id.node ≡ Some (Some a)
    → id ≡ own_id (law_id id)
    → is_open nodes id ≡ (nat_eq a.inc id.inc && is_open_in id.sub.serial (slice_get a.node.lines (law_id id).shard))
open_at nodes id a at is =
    ap (is_open_at id.inc id.sub) at
    ∙ ap (λ o. nat_eq a.inc id.inc && is_open_in id.sub.serial o)
    (shard_line_at a.node id.sub.shard (law_id id).shard (ap (λ (x : LifeId). x.sub.shard) is))

-- ---- lives, looked at after a step

life_same : (now : ℕ) (nodes : List (Option Running)) (l : Life) → life_of (looked_at now nodes l) ≡ life_of l
life_same now nodes l = go (is_none l.closed && not (is_open nodes l.id))
  where
    go : (t : Bool) → life_of (cond t (record l { closed = Some now }) l) ≡ life_of l
    go true = refl
    go false = refl

pub lives_same : (now : ℕ) (nodes : List (Option Running)) (ls : List Life)
    → map life_of (map (looked_at now nodes) ls) ≡ map life_of ls
lives_same now nodes ls =
    map_map (looked_at now nodes) life_of ls
    ∙ map_same (λ l. life_of (looked_at now nodes l)) life_of ls (life_same now nodes)

-- it closes now, or it stays as it is and is not one that should have closed
abbrev pub Fate : ℕ → List (Option Running) → Life → Life → Type 0
Fate now nodes l after =
    ((l.closed ≡ None) × (is_open nodes l.id ≡ false) × (after ≡ record l { closed = Some now }))
    ⊎ ((after ≡ l) × (l.closed ≡ None → is_open nodes l.id ≡ true))

pub fate : (now : ℕ) (nodes : List (Option Running)) (l : Life) → Fate now nodes l (looked_at now nodes l)
fate now nodes l = go l.closed refl (is_open nodes l.id) refl
  where
    go : (o : Option ℕ)
        → l.closed ≡ o
        → (q : Bool)
        → is_open nodes l.id ≡ q
        → Fate now nodes l (cond (is_none o && not q) (record l { closed = Some now }) l)
    go (Some k) e q g = inr (refl, λ h. absurd (none-some k (sym h ∙ e)))
    go None e true g = inr (refl, λ h. g)
    go None e false g = inl (e, g, refl)

pub numbered_after : (now : ℕ) (nodes : List (Option Running)) (ls : List Life)
    → Each (λ l. l.id ≡ own_id (law_id l.id)) ls
    → Each (λ l. l.id ≡ own_id (law_id l.id)) (map (looked_at now nodes) ls)
numbered_after now nodes ls h x i =
    let m = in_map (looked_at now nodes) ls x i in
    ⊎_elim
    (λ (f : (m.0.closed ≡ None) × (is_open nodes m.0.id ≡ false)
    × (looked_at now nodes m.0 ≡ record m.0 { closed = Some now })).
    subst (λ (l : Life). l.id ≡ own_id (law_id l.id)) (sym (m.2 ∙ f.2)) (h m.0 m.1))
    (λ (f : (looked_at now nodes m.0 ≡ m.0) × (m.0.closed ≡ None → is_open nodes m.0.id ≡ true)).
    subst (λ (l : Life). l.id ≡ own_id (law_id l.id)) (sym (m.2 ∙ f.0)) (h m.0 m.1))
    (fate now nodes m.0)

pub open_after : (now : ℕ) (nodes : List (Option Running)) (ls : List Life)
    → Each (λ l. l.closed ≡ None → is_open nodes l.id ≡ true) (map (looked_at now nodes) ls)
open_after now nodes ls x i none =
    let m = in_map (looked_at now nodes) ls x i in
    ⊎_elim
    (λ (f : (m.0.closed ≡ None) × (is_open nodes m.0.id ≡ false)
    × (looked_at now nodes m.0 ≡ record m.0 { closed = Some now })).
    absurd (none-some now (sym none ∙ ap (λ (l : Life). l.closed) (m.2 ∙ f.2))))
    (λ (f : (looked_at now nodes m.0 ≡ m.0) × (m.0.closed ≡ None → is_open nodes m.0.id ≡ true)).
    let same : x ≡ m.0 = m.2 ∙ f.0 in
    subst (λ (l : Life). is_open nodes l.id ≡ true) (sym same) (f.1 (sym (ap (λ (l : Life). l.closed) same) ∙ none)))
    (fate now nodes m.0)

-- what was open and is not any more is closed now, where the one server that changed shows its closings
pub closed_after : (n now : ℕ) (nodes : List (Option Running)) (a : Running) (new : Option Running) (ls : List Life)
    (closings more : List Closing)
    → slice_get nodes n ≡ Some (Some a)
    → Each (λ l. l.closed ≡ None → is_open nodes l.id ≡ true) ls
    → Each (λ l. l.id ≡ own_id (law_id l.id)) ls
    → Each (λ l. (k : ℕ) → l.closed ≡ Some k → In (record { life = law_id l.id; step = k }) closings) ls
    → ((id : LifeId) → id ≡ own_id (law_id id) → id.node ≡ n → id.inc ≡ a.inc
    → is_open_in id.sub.serial (slice_get a.node.lines (law_id id).shard) ≡ true → is_open (set nodes n new) id ≡ false
    → In (record { life = law_id id; step = now }) more)
    → Each (λ l. (k : ℕ) → l.closed ≡ Some k → In (record { life = law_id l.id; step = k }) (closings ++ more))
    (map (looked_at now (set nodes n new)) ls)
closed_after n now nodes a new ls closings more at open_lives numbered_lives closed_lives gone x i k is =
    let m = in_map (looked_at now (set nodes n new)) ls x i in
    ⊎_elim
    (λ (f : (m.0.closed ≡ None) × (is_open (set nodes n new) m.0.id ≡ false)
    × (looked_at now (set nodes n new) m.0 ≡ record m.0 { closed = Some now })).
    let was : is_open nodes m.0.id ≡ true = open_lives m.0 m.1 f.0 in
    let own = numbered_lives m.0 m.1 in
    let here : m.0.id.node ≡ n = at_n m.0.id was f.1 in
    let shown : (nat_eq a.inc m.0.id.inc ≡ true)
    × (is_open_in m.0.id.sub.serial (slice_get a.node.lines (law_id m.0.id).shard) ≡ true) =
    and_true _ _ (sym (open_at nodes m.0.id a (ap (slice_get nodes) here ∙ at) own) ∙ was) in
    let step : now ≡ k = same_Some now k (ap (λ (l : Life). l.closed) (sym (m.2 ∙ f.2)) ∙ is) in
    in_right _ closings more
    (subst (λ (y : Closing). In y more) (λ j. record { life = law_id (sym (m.2 ∙ f.2) j).id; step = step j })
    (gone m.0.id own here (sym (eq_true a.inc m.0.id.inc shown.0)) shown.1 f.1)))
    (λ (f :
    (looked_at now (set nodes n new) m.0 ≡ m.0) × (m.0.closed ≡ None → is_open (set nodes n new) m.0.id ≡ true)).
    let same : x ≡ m.0 = m.2 ∙ f.0 in
    in_left _ closings more
    (subst (λ (l : Life). In (record { life = law_id l.id; step = k }) closings) (sym same)
    (closed_lives m.0 m.1 k (sym (ap (λ (l : Life). l.closed) same) ∙ is))))
    (fate now (set nodes n new) m.0)
  where
    at_n : (id : LifeId) → is_open nodes id ≡ true → is_open (set nodes n new) id ≡ false → id.node ≡ n
    at_n id was now_not = go (nat_eq id.node n) refl
      where
        go : (b : Bool) → nat_eq id.node n ≡ b → id.node ≡ n
        go true e = eq_true id.node n e
        go false e =
            absurd (true≢false (sym was
            ∙ sym (ap (is_open_at id.inc id.sub) (get_set_there nodes n id.node new (eq_false id.node n e))) ∙ now_not))

-- ---- what an event is given

abbrev pub Given : World → NodeEvent → Type 0
Given w (Own e) = Unit {0}
Given w (Receive frame) = (j : ℕ) × (slice_get w.sent j ≡ Some (route.Numbered frame))
Given w (OnInfo session info) = (j : ℕ) × (slice_get w.sent j ≡ Some (route.Info info))
Given w (OnConnect session connect) = (j : ℕ) × (slice_get w.sent j ≡ Some (route.Connect connect))

pub given_numbered : (w : World) (k : ℕ) (e : NodeEvent) → numbered_event (frame_at k w.sent) ≡ Some e → Given w e
given_numbered w zero e is = absurd (none-some e is)
given_numbered w (suc k) e is = go (slice_get w.sent k) refl is
  where
    go : (o : Option RouteFrame) → slice_get w.sent k ≡ o → numbered_event o ≡ Some e → Given w e
    go None at f = absurd (none-some e f)
    go (Some (route.Numbered frame)) at f = subst (Given w) (same_Some (Receive frame) e f) (k, at)
    go (Some (route.Info info)) at f = absurd (none-some e f)
    go (Some (route.Connect connect)) at f = absurd (none-some e f)

pub given_info : (w : World) (session k : ℕ) (e : NodeEvent) → info_on session (frame_at k w.sent) ≡ Some e → Given w e
given_info w session zero e is = absurd (none-some e is)
given_info w session (suc k) e is = go (slice_get w.sent k) refl is
  where
    go : (o : Option RouteFrame) → slice_get w.sent k ≡ o → info_on session o ≡ Some e → Given w e
    go None at f = absurd (none-some e f)
    go (Some (route.Numbered frame)) at f = absurd (none-some e f)
    go (Some (route.Info info)) at f = subst (Given w) (same_Some (OnInfo session info) e f) (k, at)
    go (Some (route.Connect connect)) at f = absurd (none-some e f)

pub given_connect : (w : World) (session k : ℕ) (e : NodeEvent)
    → connect_on session (frame_at k w.sent) ≡ Some e
    → Given w e
given_connect w session zero e is = absurd (none-some e is)
given_connect w session (suc k) e is = go (slice_get w.sent k) refl is
  where
    go : (o : Option RouteFrame) → slice_get w.sent k ≡ o → connect_on session o ≡ Some e → Given w e
    go None at f = absurd (none-some e f)
    go (Some (route.Numbered frame)) at f = absurd (none-some e f)
    go (Some (route.Info info)) at f = absurd (none-some e f)
    go (Some (route.Connect connect)) at f = subst (Given w) (same_Some (OnConnect session connect) e f) (k, at)

hand : (c : Cluster) (w : World) (v v' : cluster.World) (n j : ℕ) (frame : RouteFrame) (x : law.NodeEvent)
    → v.past.sent ≡ map (frame_of c) w.sent
    → slice_get w.sent j ≡ Some frame
    → x ≡ law.Receive (frame_of c frame)
    → cluster.Acts every_rule (law_for c) v n x v'
    → (e : cluster.Event) × Step every_rule (law_for c) v e v'
hand c w v v' n j frame x sent at is acts = (
  cluster.Hand n j,
  inl (record {
    frame = frame_of c frame;
    frame_is = ap (λ t. slice_get t j) sent ∙ get_map (frame_of c) w.sent j frame at;
    acts = subst (λ y. cluster.Acts every_rule (law_for c) v n y v') is acts;
  }),
)

step_of : (c : Cluster) (w : World) (v v' : cluster.World) (n inc : ℕ) (e : NodeEvent) (x : law.NodeEvent)
    → v.past.sent ≡ map (frame_of c) w.sent
    → Given w e
    → Shown (server_at c n inc) e x
    → cluster.Acts every_rule (law_for c) v n x v'
    → (ev : cluster.Event) × Step every_rule (law_for c) v ev v'
step_of c w v v' n inc (Own e) x sent given shown acts = (cluster.At n x, inl (shown, acts))
step_of c w v v' n inc (Receive frame) x sent given shown acts =
    hand c w v v' n given.0 (route.Numbered frame) x sent given.1 shown acts
step_of c w v v' n inc (OnInfo session info) x sent given shown acts =
    hand c w v v' n given.0 (route.Info info) x sent given.1 shown acts
step_of c w v v' n inc (OnConnect session connect) x sent given shown acts =
    hand c w v v' n given.0 (route.Connect connect) x sent given.1 shown acts

-- ---- what a step opens

-- it hasn't closed, and its shard has the number of its place
new_at : (c : Cluster) (n inc now conn : ℕ) (event : ConnEvent) (a : Node) (place : ℕ) (o : Option ShardWithJobs)
    → ((line : ShardWithJobs) → o ≡ Some line → line.shard.shard ≡ suc place)
    → Each (λ l. (l.closed ≡ None) × (l.id.sub.shard ≡ suc place) × (l.id.node ≡ n) × (l.id.inc ≡ inc))
    (conn_lives (server_at c n inc) now conn event o)
new_at c n inc now conn event a place None h l i = absurd i
new_at c n inc now conn (Subscribe key sid) a place (Some line) h l i = go (sub_called conn sid line.shard.subs) i
  where
    go : (u : Option Subscription)
        → In l (new_life (server_at c n inc) now conn key sid line u)
        → (l.closed ≡ None) × (l.id.sub.shard ≡ suc place) × (l.id.node ≡ n) × (l.id.inc ≡ inc)
    go (Some u) j = absurd j
    go None j =
        ⊎_elim (λ f. (
          ap (λ (x : Life). x.closed) f,
          ap (λ (x : Life). x.id.sub.shard) f ∙ h line refl,
          ap (λ (x : Life). x.id.node) f,
          ap (λ (x : Life). x.id.inc) f,
        ))
        (λ f. absurd f) j
new_at c n inc now conn (Unsubscribe sid max) a place (Some line) h l i = absurd i
new_at c n inc now conn (Reply frame) a place (Some line) h l i = absurd i
new_at c n inc now conn (Shut text) a place (Some line) h l i = absurd i
new_at c n inc now conn Detach a place (Some line) h l i = absurd i
new_at c n inc now conn (SetHeaders on) a place (Some line) h l i = absurd i
new_at c n inc now conn (Take count) a place (Some line) h l i = absurd i

pub conn_line_at : (server : ServerIdentity) (a : Node) (conn : ℕ) (line : ShardWithJobs)
    → conn_line server a conn ≡ Some line
    → slice_get a.lines (conn_place server conn) ≡ Some line
conn_line_at server a conn line e = go (nat_eq conn 0) e
  where
    go : (b : Bool)
        → cond b None (slice_get a.lines (conn_place server conn)) ≡ Some line
        → slice_get a.lines (conn_place server conn) ≡ Some line
    go true f = absurd (none-some line f)
    go false f = f

new_lives : (c : Cluster) (n inc now : ℕ) (a : Node) (e : NodeEvent)
    → SoundNode (server_at c n inc) a
    → Each (λ l. (l.closed ≡ None) × (l.id ≡ own_id (law_id l.id)) × (l.id.node ≡ n) × (l.id.inc ≡ inc))
    (lives_of (server_at c n inc) now a e)
new_lives c n inc now a (Own (OfConn conn event)) sound l i =
    let x = new_at c n inc now conn event a (conn_place (server_at c n inc) conn) (conn_line (server_at c n inc) a conn)
    (λ line e.
    (sound.lines (conn_place (server_at c n inc) conn) line (conn_line_at (server_at c n inc) a conn line e)).number)
    l i in
    (x.0, own l.id (conn_place (server_at c n inc) conn) x.1, x.2, x.3)
  where
    same : (k place : ℕ) → k ≡ suc place → k ≡ suc (k - 1)
    same k place e = omega arith

    own : (id : LifeId) (place : ℕ) → id.sub.shard ≡ suc place → id ≡ own_id (law_id id)
    own id place e = λ i. record {
      node = id.node;
      inc = id.inc;
      sub = record { shard = same id.sub.shard place e i; serial = id.sub.serial };
    }
new_lives c n inc now a (Own (AtShard shard work)) sound l i = absurd i
new_lives c n inc now a (Own (Publish p)) sound l i = absurd i
new_lives c n inc now a (Own (Collect shard)) sound l i = absurd i
new_lives c n inc now a (Own Drain) sound l i = absurd i
new_lives c n inc now a (Own (Dial q)) sound l i = absurd i
new_lives c n inc now a (Own Accept) sound l i = absurd i
new_lives c n inc now a (Own (CutSession session)) sound l i = absurd i
new_lives c n inc now a (Own (TakeFrames q count)) sound l i = absurd i
new_lives c n inc now a (Receive frame) sound l i = absurd i
new_lives c n inc now a (OnInfo session info) sound l i = absurd i
new_lives c n inc now a (OnConnect session connect) sound l i = absurd i

-- they are the law's
lives_are_at : (c : Cluster) (n inc now conn : ℕ) (event : ConnEvent) (place : ℕ) (o : Option ShardWithJobs)
    → place ≡ conn_place (server_at c n inc) conn
    → ((line : ShardWithJobs) → o ≡ Some line → line.shard.shard ≡ suc place)
    → node.conn_lives (server_at c n inc) now conn event o
    ≡ map life_of (conn_lives (server_at c n inc) now conn event o)
lives_are_at c n inc now conn event place None same h = refl
lives_are_at c n inc now conn (Subscribe key sid) place (Some line) same h = go (sub_called conn sid line.shard.subs)
  where
    less : (k place : ℕ) → k ≡ suc place → place ≡ k - 1
    less k place e = omega arith

    go : (u : Option Subscription)
        → of_shard.opened_by n inc now (conn_place (server_at c n inc) conn) line.shard conn key sid u
        ≡ map life_of (new_life (server_at c n inc) now conn key sid line u)
    go (Some u) = refl
    go None = λ i.
        record {
          id = record {
            node = n;
            inc = inc;
            shard = (sym same ∙ less line.shard.shard place (h line refl)) i;
            serial = line.shard.opened + 1;
          };
          connection = conn;
          sid = sid;
          pattern = key.pattern;
          queue = key.queue;
          opened = now;
        } ∷ []
lives_are_at c n inc now conn (Unsubscribe sid max) place (Some line) same h = refl
lives_are_at c n inc now conn (Reply frame) place (Some line) same h = refl
lives_are_at c n inc now conn (Shut text) place (Some line) same h = refl
lives_are_at c n inc now conn Detach place (Some line) same h = refl
lives_are_at c n inc now conn (SetHeaders on) place (Some line) same h = refl
lives_are_at c n inc now conn (Take count) place (Some line) same h = refl

lives_are : (c : Cluster) (n inc now : ℕ) (a : Node) (e : NodeEvent)
    → SoundNode (server_at c n inc) a
    → node.lives_at (server_at c n inc) now a e ≡ map life_of (lives_of (server_at c n inc) now a e)
lives_are c n inc now a (Own (OfConn conn event)) sound =
    lives_are_at c n inc now conn event (conn_place (server_at c n inc) conn) (conn_line (server_at c n inc) a conn)
    refl (λ line e.
    (sound.lines (conn_place (server_at c n inc) conn) line (conn_line_at (server_at c n inc) a conn line e)).number)
lives_are c n inc now a (Own (AtShard shard work)) sound = refl
lives_are c n inc now a (Own (Publish p)) sound = refl
lives_are c n inc now a (Own (Collect shard)) sound = refl
lives_are c n inc now a (Own Drain) sound = refl
lives_are c n inc now a (Own (Dial q)) sound = refl
lives_are c n inc now a (Own Accept) sound = refl
lives_are c n inc now a (Own (CutSession session)) sound = refl
lives_are c n inc now a (Own (TakeFrames q count)) sound = refl
lives_are c n inc now a (Receive frame) sound = refl
lives_are c n inc now a (OnInfo session info) sound = refl
lives_are c n inc now a (OnConnect session connect) sound = refl

-- and its publications
publications_are : (c : Cluster) (n inc now : ℕ) (a : Node) (e : NodeEvent)
    → node.publications_by (server_at c n inc) now a e
    ≡ map (publication_of c) (publications_of (server_at c n inc) now a e)
publications_are c n inc now a (Own (OfConn conn event)) = refl
publications_are c n inc now a (Own (AtShard shard work)) = refl
publications_are c n inc now a (Own (Publish p)) = refl
publications_are c n inc now a (Own (Collect shard)) = refl
publications_are c n inc now a (Own Drain) = refl
publications_are c n inc now a (Own (Dial q)) = refl
publications_are c n inc now a (Own Accept) = refl
publications_are c n inc now a (Own (CutSession session)) = refl
publications_are c n inc now a (Own (TakeFrames q count)) = refl
publications_are c n inc now a (Receive frame) = refl
publications_are c n inc now a (OnInfo session info) = refl
publications_are c n inc now a (OnConnect session connect) = refl

-- a new publication is of this server
new_listed : (c : Cluster) (n inc now : ℕ)
    → IsListed (server_at c n inc)
    → (a : Node) (e : NodeEvent)
    → Each (λ p. place_in p.id.origin c.names < length c.names) (publications_of (server_at c n inc) now a e)
new_listed c n inc now is a (Own (OfConn conn event)) p i = absurd i
new_listed c n inc now is a (Own (AtShard shard work)) p i = absurd i
new_listed c n inc now is a (Own (Publish x)) p i =
    ⊎_elim (λ (e : p ≡ publication (server_at c n inc) now a x).
    subst (λ (y : Publication). place_in y.id.origin c.names < length c.names) (sym e)
    (subst (λ k. k < length c.names) (sym (named (server_at c n inc) is n is.listed)) is.listed))
    (λ k. absurd k) i
new_listed c n inc now is a (Own (Collect shard)) p i = absurd i
new_listed c n inc now is a (Own Drain) p i = absurd i
new_listed c n inc now is a (Own (Dial q)) p i = absurd i
new_listed c n inc now is a (Own Accept) p i = absurd i
new_listed c n inc now is a (Own (CutSession session)) p i = absurd i
new_listed c n inc now is a (Own (TakeFrames q count)) p i = absurd i
new_listed c n inc now is a (Receive frame) p i = absurd i
new_listed c n inc now is a (OnInfo session info) p i = absurd i
new_listed c n inc now is a (OnConnect session connect) p i = absurd i

pub set_size : {A : Type 0} (xs : List A) (n : ℕ) (x : A) → length (set xs n x) ≡ length xs
set_size [] n x = refl
set_size (y ∷ ys) zero x = refl
set_size (y ∷ ys) (suc n) x = let z = set_size ys n x in omega arith

pub server_is : (c : Cluster) → IsCluster c → (n inc : ℕ) → n < length c.names → IsListed (server_at c n inc)
server_is c set_up n inc lt = record { apart = set_up.apart; listed = lt }

-- ---- a step of a server

changes_seen : (n inc : ℕ) (changes : List Change)
    → map (law.note_of n inc) (map change_of changes)
    ≡ map law_change (map (λ change. record { node = n; inc = inc; change = change }) changes)
changes_seen n inc changes =
    map_map change_of (law.note_of n inc) changes
    ∙ sym (map_map (λ change. record { node = n; inc = inc; change = change }) law_change changes)

abbrev pub after_act : World → ℕ → ℕ → Node → List (Option Running)
after_act w n inc b = set_node w n (Some (record { inc = inc; node = b }))

pub acts_next : NodeLaws
    → (c : Cluster)
    → IsCluster c
    → (w : World) (v : cluster.World) (n : ℕ) (event : Option NodeEvent) (outcome : Outcome) (w' : World)
    → ((e : NodeEvent) → event ≡ Some e → Given w e)
    → Acts c w n event outcome w'
    → Sees c w v
    → Next c v w' (acting_at n (slice_get w.nodes n) event)
acts_next laws c set_up w v n event outcome w' given s h =
    let server = server_at c n s.a.inc in
    let now = suc w.step in
    let new : Option Running = Some (record { inc = s.a.inc; node = s.b }) in
    let sound = h.sound n s.a s.a_is in
    let is : IsListed (server_at c n s.a.inc) = server_is c set_up n s.a.inc
    (let lt = slice_get_within w.nodes n (Some s.a) s.a_is in let size = h.size in omega arith) in
    let gives =
    node_gives laws.given c n s.a.inc (suc w.step) s.a.node s.b s.e s.won s.race s.gained sound s.steps s.are_gained in
    let moves = laws.follows (server_at c n s.a.inc) (suc w.step) s.a.node s.e s.won s.race s.b gives.subs is sound
    s.steps gives.these in
    let m = moves.2 in
    let acts :
    cluster.Acts every_rule (law_for c) v n moves.0 (world_with v n (node_of (server_at c n s.a.inc) s.b) m.out) =
    record {
      before = node_of (server_at c n s.a.inc) s.a.node;
      before_is = h.nodes n (Some s.a) s.a_is;
      up = refl;
      out = m.out;
      new = node_of (server_at c n s.a.inc) s.b;
      steps =
          subst (λ k.
          law.NodeStep every_rule (law_for c) n (suc k) (node_of (server_at c n s.a.inc) s.a.node) moves.0 m.out
          (node_of (server_at c n s.a.inc) s.b))
          (sym h.step) m.steps;
      after = refl;
    } in
    let stepped = step_of c w v (world_with v n (node_of (server_at c n s.a.inc) s.b) m.out) n s.a.inc s.e moves.0
    h.sent (given s.e s.is) moves.1 acts in
    subst (Next c v w') (sym (λ i. acting_at n (s.a_is i) (s.is i))) (record {
      seen = world_with v n (node_of (server_at c n s.a.inc) s.b) m.out;
      event = stepped.0;
      steps = stepped.1;
      jobs =
          ap (λ t. v.past.jobs ++ t)
          (m.jobs_are
          ∙ sym (map_map (λ job. record { node = n; inc = s.a.inc; job = job }) (law_job c)
          (jobs_by (server_at c n s.a.inc) s.a.node s.e)));
      changes = ap (λ t. v.past.changes ++ t) (m.changes_are ∙ changes_seen n s.a.inc (changes_by s.a.node s.e));
      sees =
          subst (λ x. Sees c x (world_with v n (node_of (server_at c n s.a.inc) s.b) m.out)) (sym s.after) (record {
            step = ap suc h.step;
            size = set_size w.nodes n new ∙ h.size;
            nodes = seen_set c w.nodes v.nodes n (Some s.a) new s.a_is h.nodes;
            sound =
                sound_set c w.nodes n new h.sound (λ a e.
                subst (λ (x : Running). SoundNode (server_at c n x.inc) x.node) (same_Some _ a e)
                (laws.stays (server_at c n s.a.inc) s.a.node s.e s.won s.race s.b is sound s.steps));
            started = h.started;
            publications =
                (λ i.
                h.publications i ++ (m.publications_are ∙ publications_are c n s.a.inc (suc w.step) s.a.node s.e) i)
                ∙ sym (map_append (publication_of c) w.publications
                (publications_of (server_at c n s.a.inc) (suc w.step) s.a.node s.e));
            sent =
                (λ i. h.sent i ++ m.frames_are i)
                ∙ sym (map_append (frame_of c) w.sent (node_frames (server_at c n s.a.inc) s.a.node s.e));
            lives =
                (λ i.
                (h.lives ∙ sym (lives_same (suc w.step) (set_node w n new) w.lives)) i
                ++ (m.lives_are ∙ lives_are c n s.a.inc (suc w.step) s.a.node s.e sound) i)
                ∙ sym (map_append life_of (map (looked_at (suc w.step) (set_node w n new)) w.lives)
                (lives_of (server_at c n s.a.inc) (suc w.step) s.a.node s.e));
            numbered =
                each_append (λ l. l.id ≡ own_id (law_id l.id)) (map (looked_at (suc w.step) (set_node w n new)) w.lives)
                (lives_of (server_at c n s.a.inc) (suc w.step) s.a.node s.e)
                (numbered_after (suc w.step) (set_node w n new) w.lives h.numbered)
                (λ l i. (new_lives c n s.a.inc (suc w.step) s.a.node s.e sound l i).1);
            open_lives =
                each_append (λ l. l.closed ≡ None → is_open (set_node w n new) l.id ≡ true)
                (map (looked_at (suc w.step) (set_node w n new)) w.lives)
                (lives_of (server_at c n s.a.inc) (suc w.step) s.a.node s.e)
                (open_after (suc w.step) (set_node w n new) w.lives) (λ l i none.
                opened l (new_lives c n s.a.inc (suc w.step) s.a.node s.e sound l i)
                (m.opened (life_of l)
                (subst (In (life_of l)) (sym (lives_are c n s.a.inc (suc w.step) s.a.node s.e sound))
                (in_mapped life_of (lives_of (server_at c n s.a.inc) (suc w.step) s.a.node s.e) l i))));
            closed_lives =
                each_append (λ l.
                (k : ℕ)
                → l.closed ≡ Some k
                → In (record { life = law_id l.id; step = k }) (v.past.closings ++ m.out.closings))
                (map (looked_at (suc w.step) (set_node w n new)) w.lives)
                (lives_of (server_at c n s.a.inc) (suc w.step) s.a.node s.e)
                (closed_after n (suc w.step) w.nodes s.a new w.lives v.past.closings m.out.closings s.a_is h.open_lives
                h.numbered h.closed_lives (λ id own here my was now_not.
                subst (λ (x : names.LifeId). In (record { life = x; step = suc w.step }) m.out.closings)
                (λ i. record { node = sym here i; inc = sym my i; shard = (law_id id).shard; serial = id.sub.serial })
                (m.closings (law_id id).shard id.sub.serial was (shut id own here my now_not))))
                (λ l i k is.
                absurd (none-some k (sym (new_lives c n s.a.inc (suc w.step) s.a.node s.e sound l i).0 ∙ is)));
            listed =
                each_append (λ p. place_in p.id.origin c.names < length c.names) w.publications
                (publications_of (server_at c n s.a.inc) (suc w.step) s.a.node s.e) h.listed
                (new_listed c n s.a.inc (suc w.step) is s.a.node s.e);
            placements =
                along_append (SeesPlacement c) w.placements s.gained v.past.placements m.out.placements h.placements
                (subst (Along (SeesPlacement c) s.gained) (sym m.placements_are) gives.placements);
          });
    })
  where
    is_at : (id : LifeId)
        → id.node ≡ n
        → slice_get (after_act w n s.a.inc s.b) id.node ≡ Some (Some (record { inc = s.a.inc; node = s.b }))
    is_at id here =
        ap (slice_get (after_act w n s.a.inc s.b)) here
        ∙ get_set_here w.nodes n (Some s.a) (Some (record { inc = s.a.inc; node = s.b })) s.a_is

    opened : (l : Life)
        → (l.closed ≡ None) × (l.id ≡ own_id (law_id l.id)) × (l.id.node ≡ n) × (l.id.inc ≡ s.a.inc)
        → IsOpenAt (server_at c n s.a.inc) s.b (law_id l.id)
        → is_open (after_act w n s.a.inc s.b) l.id ≡ true
    opened l f o =
        open_at (after_act w n s.a.inc s.b) l.id (record { inc = s.a.inc; node = s.b }) (is_at l.id f.2) f.1
        ∙ (λ i. true_eq s.a.inc l.id.inc (sym f.3) i && o.is_open i)

    shut : (id : LifeId)
        → id ≡ own_id (law_id id)
        → id.node ≡ n
        → id.inc ≡ s.a.inc
        → is_open (after_act w n s.a.inc s.b) id ≡ false
        → node.is_open_in id.sub.serial (slice_get s.b.lines (law_id id).shard) ≡ false
    shut id own here my now_not =
        sym (λ i.
        true_eq s.a.inc id.inc (sym my) i && node.is_open_in id.sub.serial (slice_get s.b.lines (law_id id).shard))
        ∙ sym (open_at (after_act w n s.a.inc s.b) id (record { inc = s.a.inc; node = s.b }) (is_at id here) own)
        ∙ now_not
