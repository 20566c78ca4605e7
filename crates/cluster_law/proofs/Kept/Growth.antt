-- An incarnation's finished turns stay; and the worlds of a machine that knows more are reached.
use Rattle.std.proofs.Common.{◌≡◌, ℕ, suc, ◌≤◌, List, [], ◌∷◌, ◌++◌, map, set, Some, true, true≢false, refl, sym, ap, ◌∙◌, subst, inl, ⊎_elim, arith}
use Rattle.std.specs.Prelude.{slice_get}
use Rattle.std.proofs.lemmas.Option.{same_Some}
use Rattle.list_laws.specs.Lists.{In, Each}
use Rattle.cluster_law.specs.Messages.{Message, Interest, Greeting}
use Rattle.cluster_law.specs.Config.{Config, every_rule}
use Rattle.cluster_law.specs.History.{Job, Output}
use Rattle.cluster_law.specs.Race.{Race}
use Rattle.cluster_law.specs.Shard.{Shard, ShardEvent, Subscribe, Close, Begin, Claim, End, Drop, ShardStep, Wins, Passes}
use Rattle.cluster_law.specs.Node.{Node, NodeEvent, Publish, Receive, Announce, OnShard, NodeStep, shard_with_job}
use Rattle.cluster_law.specs.Cluster.{World, Event, Start, Stop, Hand, At, Acts, Happens, Step, Run, Reached, begin, new_node, no_node}
use Rattle.cluster_law.specs.Runs.{TurnsStay, Follows, Path}
use Rattle.list_laws.proofs.Lists.{in_left, read_set, read_map}
use Rattle.cluster_law.proofs.Kept.Whole.{reached}

-- each shard was there before, with no more finished turns
abbrev ShardsStay : List Shard → List Shard → Type 0
ShardsStay old new =
    (s : ℕ) (y : Shard)
    → slice_get new s ≡ Some y
    → (x : Shard) × (slice_get old s ≡ Some x) × (x.finished ≤ y.finished)

stays_also : (old mid new : List Shard) → ShardsStay old mid → ShardsStay mid new → ShardsStay old new
stays_also old mid new h k s y e =
    let m = k s y e in
    let o = h s m.0 m.1 in
    let first = o.2 in
    let second = m.2 in
    (o.0, o.1, omega arith)

same_shards : (old new : List Shard) → new ≡ old → ShardsStay old new
same_shards old new is s y e = (y, ap (λ (l : List Shard). slice_get l s) (sym is) ∙ e, omega arith)

all_queued : (j : Job) (old new : List Shard) → new ≡ map (shard_with_job j) old → ShardsStay old new
all_queued j old new is s y e =
    let m = read_map (shard_with_job j) old s y (ap (λ (l : List Shard). slice_get l s) (sym is) ∙ e) in
    let same = ap (λ (z : Shard). z.finished) m.2 in
    (m.0, m.1, omega arith)

shard_step : (c : Config) (n inc now s : ℕ) (race : Race) (sh : Shard) (e : ShardEvent) (out : Output) (new : Shard)
    (after_race : Race)
    → ShardStep every_rule c n inc now s race sh e out new after_race
    → sh.finished ≤ new.finished
shard_step c n inc now s race sh (Subscribe connection sid pattern queue) out new after_race q =
    let is = ap (λ (z : Shard). z.finished) q.0.after in omega arith
shard_step c n inc now s race sh (Close closed) out new after_race q =
    let is = ap (λ (z : Shard). z.finished) q.0.after in omega arith
shard_step c n inc now s race sh Begin out new after_race q =
    let is = ap (λ (z : Shard). z.finished) q.0.after in omega arith
shard_step c n inc now s race sh Claim out new after_race q =
    ⊎_elim (λ (v : Wins every_rule c n inc now s race sh out new after_race).
    let is = ap (λ (z : Shard). z.finished) v.after in omega arith)
    (λ (v : Passes c.window race sh out new after_race). let is = ap (λ (z : Shard). z.finished) v.after in omega arith)
    q
shard_step c n inc now s race sh End out new after_race q =
    let is = ap (λ (z : Shard). z.finished) q.0.after in omega arith
shard_step c n inc now s race sh Drop out new after_race q =
    let is = ap (λ (z : Shard). z.finished) q.0.after in omega arith

-- the same incarnation
abbrev Stays : Node → Node → Type 0
Stays a b = (b.inc ≡ a.inc) × ShardsStay a.shards b.shards

node_step : (c : Config) (n now : ℕ) (a : Node) (e : NodeEvent) (out : Output) (b : Node)
    → NodeStep every_rule c n now a e out b
    → Stays a b
node_step c n now a (Publish content) out b s = (
  ap (λ (x : Node). x.inc) s.after,
  all_queued _ a.shards b.shards (ap (λ (x : Node). x.shards) s.after),
)
node_step c n now a (Receive (Message m)) out b s = (
  ap (λ (x : Node). x.inc) s.after,
  all_queued _ a.shards b.shards (ap (λ (x : Node). x.shards) s.after),
)
node_step c n now a (Receive (Interest t)) out b s = (
  ap (λ (x : Node). x.inc) s.after,
  same_shards a.shards b.shards (ap (λ (x : Node). x.shards) s.after),
)
node_step c n now a (Receive (Greeting o v)) out b s = (
  ap (λ (x : Node). x.inc) s.after,
  same_shards a.shards b.shards (ap (λ (x : Node). x.shards) s.after),
)
node_step c n now a (Announce changes) out b s = (
  ap (λ (x : Node). x.inc) s.after,
  same_shards a.shards b.shards (ap (λ (x : Node). x.shards) s.after),
)
node_step c n now a (OnShard k e) out b s = (
  ap (λ (x : Node). x.inc) s.after,
  λ t y g. read_set (λ u z. (x : Shard) × (slice_get a.shards u ≡ Some x) × (x.finished ≤ z.finished)) a.shards k s.new
      (λ u z apart at. (z, at, omega arith))
      (s.old, s.old_is, shard_step c n a.inc now k a.race s.old e out s.new s.race s.steps)
      t y (ap (λ (z : Node). slice_get z.shards t) (sym s.after) ∙ g),
)

-- what is so of node n after a world in which it was a: its incarnation is a used one, and where it still runs its
-- shards stay
record Since (n : ℕ) (a : Node) (w : World) : Type 0 where
  started : In (n, a.inc) w.past.started
  stays : (b : Node) → slice_get w.nodes n ≡ Some b → b.up ≡ true → b.inc ≡ a.inc → ShardsStay a.shards b.shards

-- node k becomes x
one_node : (n : ℕ) (a : Node) (w w' : World) (k : ℕ) (x : Node)
    → w'.nodes ≡ set w.nodes k x
    → In (n, a.inc) w'.past.started
    → (k ≡ n → x.up ≡ true → x.inc ≡ a.inc → ShardsStay a.shards x.shards)
    → Since n a w
    → Since n a w'
one_node n a w w' k x nodes started this h = record {
  started = started;
  stays = λ b e.
      read_set (λ m y. m ≡ n → y.up ≡ true → y.inc ≡ a.inc → ShardsStay a.shards y.shards) w.nodes k x
      (λ m y apart at is. h.stays y (ap (slice_get w.nodes) (sym is) ∙ at)) this n b
      (ap (λ (l : List Node). slice_get l n) (sym nodes) ∙ e) refl;
}

acts : (c : Config) (n : ℕ) (a : Node) (w : World) (m : ℕ) (e : NodeEvent) (w' : World)
    → Acts every_rule c w m e w'
    → Since n a w
    → Since n a w'
acts c n a w m e w' s h =
    let k = node_step c m (suc w.step) s.before e s.out s.new s.steps in
    one_node n a w w' m s.new (ap (λ (x : World). x.nodes) s.after)
    (subst (λ (x : World). In (n, a.inc) x.past.started) (sym s.after) h.started)
    (λ is up inc.
    stays_also a.shards s.before.shards s.new.shards
    (h.stays s.before (ap (slice_get w.nodes) (sym is) ∙ s.before_is) s.up (sym k.0 ∙ inc)) k.1)
    h

since : (c : Config) (n : ℕ) (a : Node) (w : World) (e : Event) (w' : World)
    → Step every_rule c w e w'
    → Since n a w
    → Since n a w'
since c n a w e w' s h =
    ⊎_elim (λ (d : Happens every_rule c w e w'). go e d)
    (λ (same : w' ≡ record w { step = suc w.step }).
    subst (Since n a) (sym same) (record { started = h.started; stays = h.stays }))
    s
  where
    go : (e : Event) → Happens every_rule c w e w' → Since n a w'
    go (Start m inc) d =
        one_node n a w w' m (new_node c inc) (ap (λ (x : World). x.nodes) d.after)
        (subst (λ (x : World). In (n, a.inc) x.past.started) (sym d.after)
        (in_left (n, a.inc) w.past.started ((m, inc) ∷ []) h.started))
        (λ is up same.
        absurd (d.fresh (subst (λ (y : ℕ × ℕ). In y w.past.started) (λ i. (sym is i, sym same i)) h.started)))
        h
    go (Stop m) d =
        one_node n a w w' m no_node (ap (λ (x : World). x.nodes) d.after)
        (subst (λ (x : World). In (n, a.inc) x.past.started) (sym d.after) h.started)
        (λ is up. absurd (true≢false (sym up))) h
    go (Hand m number) d = acts c n a w m (Receive d.frame) w' d.acts h
    go (At m e) d = acts c n a w m e w' d.1 h

since_run : (c : Config) (n : ℕ) (a : Node) (w : World) (es : List Event) (w' : World)
    → Run every_rule c w es w'
    → Since n a w
    → Since n a w'
since_run c n a w [] w' r h = subst (Since n a) (sym r) h
since_run c n a w (e ∷ es) w' r h = since_run c n a r.0 es w' r.2 (since c n a w e r.0 r.1 h)

pub turns_stay : (c : Config) (w : World) (es : List Event) (w' : World)
    → Reached every_rule c w
    → Run every_rule c w es w'
    → TurnsStay w w'
turns_stay c w es w' before r n a b at bt up up' inc s x y e f =
    let first : Since n a w = record {
      started = ((reached c w before).hubs.nodes n a at up).started;
      stays = λ z i u v. same_shards a.shards z.shards (ap (λ (k : Node). k.shards) (same_Some z a (sym i ∙ at)));
    } in
    let m = (since_run c n a w es w' r first).stays b bt up' inc s y f in
    let same = ap (λ (z : Shard). z.finished) (same_Some x m.0 (sym e ∙ m.1)) in
    let le = m.2 in
    omega arith

-- Paths

one_more : (c : Config) (w v x : World) (es : List Event) (e : Event)
    → Run every_rule c w es v
    → Step every_rule c v e x
    → Run every_rule c w (es ++ e ∷ []) x
one_more c w v x [] e r s = (x, subst (λ (y : World). Step every_rule c y e x) r s, refl)
one_more c w v x (f ∷ es) e r s = (r.0, r.1, one_more c r.0 v x es e r.2 s)

follows_reached : (c : Config) (w v : World) → Reached every_rule c w → Follows c w v → Reached every_rule c v
follows_reached c w v r f =
    ⊎_elim (λ (s : (e : Event) × Step every_rule c w e v). record {
      events = r.events ++ s.0 ∷ [];
      run = one_more c (begin c) w v r.events s.0 r.run s.1;
    })
    (λ (same : v ≡ w). subst (Reached every_rule c) (sym same) r) f

pub path_reached : (c : Config) (w : World) (vs : List World)
    → Reached every_rule c w
    → Path c w vs
    → Each (Reached every_rule c) vs
path_reached c w [] r p = λ x i. absurd i
path_reached c w (v ∷ vs) r p =
    let here = follows_reached c w v r p.0 in
    λ x i.
    ⊎_elim (λ (e : x ≡ v). subst (Reached every_rule c) (sym e) here)
    (λ (k : In x vs). path_reached c v vs here p.1 x k) i

pub one_more_reached : (c : Config) (w v : World) (e : Event)
    → Reached every_rule c w
    → Step every_rule c w e v
    → Reached every_rule c v
one_more_reached c w v e r s = follows_reached c w v r (inl (e, s))
