-- Each view is one that its origin had: what was told, and what was heard.
use Rattle.std.proofs.Common.{◌≡◌, ◌≢◌, ◌&&◌, ℕ, zero, suc, ◌+◌, ◌<◌, ◌≤◌, Bool, true, false, cond, nat_eq, List, [], ◌∷◌, ◌++◌, map, set, length, slice_get, Some, refl, sym, ap, ◌∙◌, subst, inl, inr, ⊎_elim, true≢false, arith, length-append}
use Rattle.std.proofs.lemmas.Option.{same_Some, none-some}
use Rattle.std.proofs.lemmas.Bool.{eqb-true, eq-eqb}
use Rattle.list_laws.specs.Lists.{In, Each}
use Rattle.cluster_law.specs.Interest.{View, Change, Noted, changes_of, view_after}
use Rattle.cluster_law.specs.Messages.{Routed, Body, Changed, Snapshot, News, Frame, Message, Interest, Greeting}
use Rattle.cluster_law.specs.Config.{Config, every_rule}
use Rattle.cluster_law.specs.History.{History, Output, history_with}
use Rattle.cluster_law.specs.Hub.{Peer, Hub, new_peer, Known, Taken, Says, IsTold, HubReceives, HubHears, HubMeets, HubAnnounces}
use Rattle.cluster_law.specs.Node.{Node, note_of}
use Rattle.cluster_law.specs.Cluster.{World, world_with}
use Rattle.cluster_law.specs.Headline.{IsView}
use Rattle.list_laws.proofs.Lists.{in_map, each_append, read_set}
use Rattle.cluster_law.proofs.Kept.HubEvents.{known_seen}
use Rattle.cluster_law.proofs.Kept.Invariants.{Told, FrameOk, InterestIs, Interests}

-- Changes of one incarnation

pub changes_append : (xs ys : List Noted) (n inc : ℕ)
    → changes_of (xs ++ ys) n inc ≡ changes_of xs n inc ++ changes_of ys n inc
changes_append [] ys n inc = refl
changes_append (x ∷ xs) ys n inc = go (nat_eq x.node n && nat_eq x.inc inc) (changes_append xs ys n inc)
  where
    go : (b : Bool)
        → changes_of (xs ++ ys) n inc ≡ changes_of xs n inc ++ changes_of ys n inc
        → cond b (x.change ∷ changes_of (xs ++ ys) n inc) (changes_of (xs ++ ys) n inc)
        ≡ cond b (x.change ∷ changes_of xs n inc) (changes_of xs n inc) ++ changes_of ys n inc
    go true h = ap (λ l. x.change ∷ l) h
    go false h = h

changes_own : (cs : List Change) (n inc : ℕ) → changes_of (map (note_of n inc) cs) n inc ≡ cs
changes_own [] n inc = refl
changes_own (c ∷ cs) n inc =
    let a = eq-eqb n n refl in let b = eq-eqb inc inc refl in rw (a, b) (ap (λ l. c ∷ l) (changes_own cs n inc))

and_parts : (a b : Bool) → (a && b) ≡ true → (a ≡ true) × (b ≡ true)
and_parts true b e = (refl, e)
and_parts false b e = absurd (true≢false (sym e))

pub changes_none : (xs : List Noted) (n inc : ℕ)
    → Each (λ x. x.node ≡ n → x.inc ≡ inc → ⊥) xs
    → changes_of xs n inc ≡ []
changes_none [] n inc h = refl
changes_none (x ∷ xs) n inc h =
    go (nat_eq x.node n && nat_eq x.inc inc) refl (changes_none xs n inc (λ y i. h y (inr i)))
  where
    go : (b : Bool)
        → (nat_eq x.node n && nat_eq x.inc inc) ≡ b
        → changes_of xs n inc ≡ []
        → cond b (x.change ∷ changes_of xs n inc) (changes_of xs n inc) ≡ []
    go true e k =
        absurd (let both = and_parts (nat_eq x.node n) (nat_eq x.inc inc) e in
        h x (inl refl) (eqb-true x.node n both.0) (eqb-true x.inc inc both.1))
    go false e k = k

-- Views

pub view_none : (f : Change → View → View) (l : List Change) (v : View) → view_after f l 0 v ≡ v
view_none f [] v = refl
view_none f (c ∷ cs) v = refl

view_more : (f : Change → View → View) (l more : List Change) (m : ℕ) (v : View)
    → m ≤ length l
    → view_after f (l ++ more) m v ≡ view_after f l m v
view_more f [] [] m v le = refl
view_more f [] (c ∷ cs) zero v le = refl
view_more f [] (c ∷ cs) (suc m) v le = absurd (omega arith)
view_more f (c ∷ cs) more zero v le = refl
view_more f (c ∷ cs) more (suc m) v le = view_more f cs more m (f c v) (omega arith)

view_next : (f : Change → View → View) (l : List Change) (m : ℕ) (c : Change) (v : View)
    → slice_get l m ≡ Some c
    → (suc m ≤ length l) × (view_after f l (suc m) v ≡ f c (view_after f l m v))
view_next f [] m c v e = absurd (none-some c e)
view_next f (d ∷ []) zero c v e = (omega arith, ap (λ x. f x v) (same_Some d c e))
view_next f (d ∷ e' ∷ ds) zero c v e = (omega arith, ap (λ x. f x v) (same_Some d c e))
view_next f (d ∷ ds) (suc m) c v e = let h = view_next f ds m c (f d v) e in let le = h.0 in (omega arith, h.1)

-- all changes of the one list, then all of the other
pub view_both : (f : Change → View → View) (l cs : List Change) (v : View)
    → view_after f (l ++ cs) (length l + length cs) v ≡ view_after f cs (length cs) (view_after f l (length l) v)
view_both f [] cs v = let e : 0 + length cs ≡ length cs = omega arith in ap (λ k. view_after f cs k v) e
view_both f (x ∷ l) cs v =
    let e : suc (length l) + length cs ≡ suc (length l + length cs) = omega arith in
    ap (λ k. view_after f (x ∷ (l ++ cs)) k v) e ∙ view_both f l cs (f x v)

read_more : (l more : List Change) (m : ℕ) (c : Change) → slice_get l m ≡ Some c → slice_get (l ++ more) m ≡ Some c
read_more [] more m c e = absurd (none-some c e)
read_more (d ∷ ds) more zero c e = e
read_more (d ∷ ds) more (suc m) c e = read_more ds more m c e

read_after : (l more : List Change) (k : ℕ) → slice_get (l ++ more) (length l + k) ≡ slice_get more k
read_after [] more k = let e : 0 + k ≡ k = omega arith in ap (slice_get more) e
read_after (d ∷ ds) more k =
    let e : suc (length ds) + k ≡ suc (length ds + k) = omega arith in
    ap (slice_get (d ∷ (ds ++ more))) e ∙ read_after ds more k

-- What stays so where more changes are made

told_more : (f : Change → View → View) (l more : List Change) (number : ℕ) (b : Body)
    → Told f l number b
    → Told f (l ++ more) number b
told_more f l more number (Changed c) h = (h.0, h.1, read_more l more h.0 c h.2)
told_more f l more number (Snapshot v) h =
    let le = h.0 in (omega (arith, length-append l more), h.1 ∙ sym (view_more f l more number [] h.0))

frame_more : (c : Config) (starts : List (ℕ × ℕ)) (xs more : List Noted) (t : Frame)
    → FrameOk c starts xs t
    → FrameOk c starts (xs ++ more) t
frame_more c starts xs more (Message m) h = tt
frame_more c starts xs more (Interest t) h = (
  h.0,
  subst (λ l. Told c.follow l t.number t.body) (sym (changes_append xs more t.origin t.inc))
      (told_more c.follow (changes_of xs t.origin t.inc) (changes_of more t.origin t.inc) t.number t.body h.1),
)
frame_more c starts xs more (Greeting o v) h = h

pub view_kept : (c : Config) (past : History) (out : Output) (o : ℕ) (p : Peer)
    → IsView c past o p
    → IsView c (history_with past out) o p
view_kept c past out o p h =
    let l = changes_of past.changes o p.seen in
    let more = changes_of out.changes o p.seen in
    let is = changes_append past.changes out.changes o p.seen in
    let le = h.reached in
    record {
      seen = h.seen;
      reached = subst (λ y. p.heard ≤ length y) (sym is) (omega (arith, length-append l more));
      view =
          h.view
          ∙ sym (view_more c.follow l more p.heard [] h.reached)
          ∙ ap (λ y. view_after c.follow y p.heard []) (sym is);
    }

-- the same incarnation, with no change of its own added
interest_more : (c : Config) (past : History) (out : Output) (n inc : ℕ) (old new : Hub)
    → changes_of out.changes n inc ≡ []
    → new.changed ≡ old.changed
    → new.interest ≡ old.interest
    → ((o : ℕ) (p : Peer) → slice_get new.peers o ≡ Some p → IsView c past o p)
    → InterestIs c past n inc old
    → InterestIs c (history_with past out) n inc new
interest_more c past out n inc old new none changed interest peers h =
    let l = changes_of past.changes n inc in
    let is : changes_of (past.changes ++ out.changes) n inc ≡ l ++ [] =
    changes_append past.changes out.changes n inc ∙ ap (λ y. l ++ y) none in
    let count = h.changed in
    let sum = length-append l [] in
    record {
      started = h.started;
      changed = changed ∙ subst (λ y. old.changed ≡ length y) (sym is) (omega arith);
      interest =
          interest
          ∙ h.interest
          ∙ sym (view_more c.follow l [] old.changed [] (omega arith))
          ∙ ap (λ y. view_after c.follow y old.changed []) (sym is)
          ∙ ap (λ k. view_after c.follow (changes_of (past.changes ++ out.changes) n inc) k []) (sym changed);
      peers = λ o p e. view_kept c past out o p (peers o p e);
    }

-- what a step adds
pub record Tells (c : Config) (w : World) (n : ℕ) (b : Node) (out : Output) : Type 0 where
  pub changes : Each (λ x. (x.node ≡ n) × In (x.node, x.inc) w.past.started) out.changes
  pub frames : Each (FrameOk c w.past.started (w.past.changes ++ out.changes)) out.frames
  pub hub : b.up ≡ true → InterestIs c (history_with w.past out) n b.inc b.hub

pub interests_kept : (c : Config) (w : World) (n : ℕ) (b : Node) (out : Output)
    → Interests c w
    → Tells c w n b out
    → Interests c (world_with w n b out)
interests_kept c w n b out h d = record {
  changes =
      each_append (λ x. In (x.node, x.inc) w.past.started) w.past.changes out.changes h.changes
      (λ x i. (d.changes x i).1);
  frames =
      each_append (FrameOk c w.past.started (w.past.changes ++ out.changes)) w.past.sent out.frames
      (λ t i. frame_more c w.past.started w.past.changes out.changes t (h.frames t i)) d.frames;
  nodes =
      read_set (λ m x. x.up ≡ true → InterestIs c (history_with w.past out) m x.inc x.hub) w.nodes n b
      (λ m x apart e up.
      let o = h.nodes m x e up in
      interest_more c w.past out m x.inc x.hub x.hub
      (changes_none out.changes m x.inc (λ y i at my. apart (sym at ∙ (d.changes y i).0))) refl refl o.peers o)
      d.hub;
}

-- a step that tells nothing, of a hub that changed no interest of its own
pub nothing_is_told : (c : Config) (w : World) (n : ℕ) (b : Node) (out : Output) (old : Hub)
    → InterestIs c w.past n b.inc old
    → out.changes ≡ []
    → Each (FrameOk c w.past.started (w.past.changes ++ out.changes)) out.frames
    → b.hub.changed ≡ old.changed
    → b.hub.interest ≡ old.interest
    → ((o : ℕ) (p : Peer) → slice_get b.hub.peers o ≡ Some p → IsView c w.past o p)
    → Tells c w n b out
nothing_is_told c w n b out old h none frames changed interest peers = record {
  changes = λ x i. absurd (subst (In x) none i);
  frames = frames;
  hub =
      λ up. interest_more c w.past out n b.inc old b.hub (ap (λ l. changes_of l n b.inc) none) changed interest peers h;
}

-- what is known of an origin where a greater incarnation begins anew
known_view : (c : Config) (past : History) (o inc : ℕ) (peer base : Peer)
    → In (o, inc) past.started
    → Known every_rule peer inc base
    → IsView c past o peer
    → IsView c past o base
known_view c past o inc peer base started known h =
    ⊎_elim (λ (k : (inc ≢ peer.seen) × (peer.seen < inc) × (base ≡ new_peer inc)).
    subst (IsView c past o) (sym k.2) (record {
      seen = inr started;
      reached = omega arith;
      view = sym (view_none c.follow (changes_of past.changes o inc) []);
    }))
    (λ (k : (inc ≡ peer.seen) × (base ≡ peer)). subst (IsView c past o) (sym k.1) h) known

peers_set : (c : Config) (past : History) (peers : List Peer) (origin : ℕ) (new : Peer)
    → ((o : ℕ) (p : Peer) → slice_get peers o ≡ Some p → IsView c past o p)
    → IsView c past origin new
    → (o : ℕ) (p : Peer)
    → slice_get (set peers origin new) o ≡ Some p
    → IsView c past o p
peers_set c past peers origin new old this =
    read_set (λ o p. IsView c past o p) peers origin new (λ o p apart e. old o p e) this

-- The parts of a hub's steps

-- a message moves the publication mark alone
pub after_message : (c : Config) (w : World) (n inc : ℕ) (hub : Hub) (m : Routed) (new : Hub)
    → In (m.id.origin, m.id.inc) w.past.started
    → InterestIs c w.past n inc hub
    → HubReceives every_rule n inc hub m new
    → (o : ℕ) (p : Peer)
    → slice_get new.peers o ≡ Some p
    → IsView c w.past o p
after_message c w n inc hub m new started h q =
    let v =
    known_view c w.past m.id.origin m.id.inc q.peer q.base started q.known (h.peers m.id.origin q.peer q.peer_is) in
    subst (λ (x : Hub). (o : ℕ) (p : Peer) → slice_get x.peers o ≡ Some p → IsView c w.past o p) (sym q.after)
    (peers_set c w.past hub.peers m.id.origin (record q.base { mark = m.id.number }) h.peers
    (record { seen = v.seen; reached = v.reached; view = v.view }))

-- news that are taken give a view that the origin had
taken_view : (c : Config) (l : List Change) (b : Body) (number heard : ℕ) (view now : View)
    → Told c.follow l number b
    → heard ≤ length l
    → view ≡ view_after c.follow l heard []
    → Taken every_rule c b number heard view now
    → (number ≤ length l) × (now ≡ view_after c.follow l number [])
taken_view c l (Changed d) number heard view now so le is t =
    let same : so.0 ≡ heard = let a = so.1 in let b = t.0 in omega arith in
    let n = view_next c.follow l heard d [] (subst (λ (y : ℕ). slice_get l y ≡ Some d) same so.2) in
    let room = n.0 in
    let is_next = t.0 in
    (omega arith, t.1 ∙ ap (c.follow d) is ∙ sym n.1 ∙ ap (λ (y : ℕ). view_after c.follow l y []) (sym t.0))
taken_view c l (Snapshot v) number heard view now so le is t = (so.0, t.1 ∙ so.1)

pub after_news : (c : Config) (w : World) (n inc : ℕ) (hub : Hub) (t : News) (new : Hub)
    → FrameOk c w.past.started w.past.changes (Interest t)
    → InterestIs c w.past n inc hub
    → HubHears every_rule c n inc hub t new
    → (o : ℕ) (p : Peer)
    → slice_get new.peers o ≡ Some p
    → IsView c w.past o p
after_news c w n inc hub t new told h q =
    let v = known_view c w.past t.origin t.inc q.peer q.base told.0 q.known (h.peers t.origin q.peer q.peer_is) in
    let seen = known_seen q.peer q.base t.inc q.known in
    let l = changes_of w.past.changes t.origin t.inc in
    let at = subst (λ (y : ℕ).
    (q.base.heard ≤ length (changes_of w.past.changes t.origin y))
    × (q.base.view ≡ view_after c.follow (changes_of w.past.changes t.origin y) q.base.heard []))
    seen (v.reached, v.view) in
    let got = taken_view c l t.body t.number q.base.heard q.base.view q.view told.1 at.0 at.1 q.taken in
    subst (λ (x : Hub). (o : ℕ) (p : Peer) → slice_get x.peers o ≡ Some p → IsView c w.past o p) (sym q.after)
    (peers_set c w.past hub.peers t.origin (record q.base { heard = t.number; view = q.view }) h.peers (record {
      seen = v.seen;
      reached = subst (λ (y : ℕ). t.number ≤ length (changes_of w.past.changes t.origin y)) (sym seen) got.0;
      view = got.1 ∙ ap (λ (y : ℕ). view_after c.follow (changes_of w.past.changes t.origin y) t.number []) (sym seen);
    }))

pub after_greeting : (c : Config) (w : World) (n own_inc : ℕ) (hub : Hub) (origin inc : ℕ) (new : Hub)
    → In (origin, inc) w.past.started
    → InterestIs c w.past n own_inc hub
    → HubMeets every_rule n hub origin inc new
    → (o : ℕ) (p : Peer)
    → slice_get new.peers o ≡ Some p
    → IsView c w.past o p
after_greeting c w n own_inc hub origin inc new started h q =
    subst (λ (x : Hub). (o : ℕ) (p : Peer) → slice_get x.peers o ≡ Some p → IsView c w.past o p) (sym q.after)
    (peers_set c w.past hub.peers origin q.base h.peers
    (known_view c w.past origin inc q.peer q.base started q.known (h.peers origin q.peer q.peer_is)))

-- frames of its own, where the hub's number and interest are those of its changes
pub own_frames : (c : Config) (past : History) (n inc : ℕ) (hub : Hub) (changes : List Change) (new : Hub)
    → In (n, inc) past.started
    → hub.changed ≡ length (changes_of past.changes n inc)
    → new.changed ≡ hub.changed + length changes
    → new.interest
    ≡ view_after c.follow (changes_of past.changes n inc ++ changes)
    (length (changes_of past.changes n inc) + length changes) []
    → (t : Frame)
    → IsTold n inc hub changes new t
    → FrameOk c past.started (past.changes ++ map (note_of n inc) changes) t
own_frames c past n inc hub changes new started count later all (Message m) h = tt
own_frames c past n inc hub changes new started count later all (Greeting o v) h =
    subst (λ (y : ℕ × ℕ). In y past.started) (λ i. (sym h.0 i, sym h.1 i)) started
own_frames c past n inc hub changes new started count later all (Interest t) h =
    let l = changes_of past.changes n inc in
    let is : changes_of (past.changes ++ map (note_of n inc) changes) n inc ≡ l ++ changes =
    changes_append past.changes (map (note_of n inc) changes) n inc ∙ ap (λ y. l ++ y) (changes_own changes n inc) in
    let there = subst (λ (y : ℕ × ℕ). In y past.started) (λ i. (sym h.origin i, sym h.inc i)) started in (
      there,
      subst (λ (y : ℕ × ℕ).
          Told c.follow (changes_of (past.changes ++ map (note_of n inc) changes) y.0 y.1) t.number t.body)
          (λ i. (sym h.origin i, sym h.inc i))
          (subst (λ y. Told c.follow y t.number t.body) (sym is) (go t.body h.says)),
    )
  where
    go : (b : Body)
        → Says hub changes new t.number b
        → Told c.follow (changes_of past.changes n inc ++ changes) t.number b
    go (Changed d) s =
        let l = changes_of past.changes n inc in
        let at = s.2 in
        (length l + s.0, omega arith, read_after l changes s.0 ∙ s.1)
    go (Snapshot v) s =
        let l = changes_of past.changes n inc in
        let sum = length-append l changes in
        let at = s.0 in
        let number : length l + length changes ≡ t.number = omega arith in
        (omega arith, s.1 ∙ all ∙ ap (λ k. view_after c.follow (l ++ changes) k []) number)

pub after_announcement : (c : Config) (w : World) (n : ℕ) (a b : Node) (changes : List Change) (frames : List Frame)
    (out : Output)
    → InterestIs c w.past n a.inc a.hub
    → HubAnnounces c n a.inc a.hub changes frames b.hub
    → b.inc ≡ a.inc
    → out.changes ≡ map (note_of n a.inc) changes
    → out.frames ≡ frames
    → Tells c w n b out
after_announcement c w n a b changes frames out h q inc changes_are frames_are =
    let l = changes_of w.past.changes n a.inc in
    let more = map (note_of n a.inc) changes in
    let count = h.changed in
    let later : b.hub.changed ≡ a.hub.changed + length changes = ap (λ (x : Hub). x.changed) q.after in
    let all : b.hub.interest ≡ view_after c.follow (l ++ changes) (length l + length changes) [] =
    ap (λ (x : Hub). x.interest) q.after
    ∙ ap (view_after c.follow changes (length changes)) (h.interest ∙ ap (λ k. view_after c.follow l k []) h.changed)
    ∙ sym (view_both c.follow l changes []) in
    let is : changes_of (w.past.changes ++ more) n a.inc ≡ l ++ changes =
    changes_append w.past.changes more n a.inc ∙ ap (λ y. l ++ y) (changes_own changes n a.inc) in
    let sum = length-append l changes in
    let number : b.hub.changed ≡ length (l ++ changes) = omega arith in
    let hub : (y : List Noted)
    → y ≡ more
    → (v : ℕ)
    → v ≡ a.inc
    → (b.hub.changed ≡ length (changes_of (w.past.changes ++ y) n v))
    × (b.hub.interest ≡ view_after c.follow (changes_of (w.past.changes ++ y) n v) b.hub.changed []) = λ y e v f.
    subst (λ (y : List Noted).
    (b.hub.changed ≡ length (changes_of (w.past.changes ++ y) n v))
    × (b.hub.interest ≡ view_after c.follow (changes_of (w.past.changes ++ y) n v) b.hub.changed []))
    (sym e)
    (subst (λ (v : ℕ).
    (b.hub.changed ≡ length (changes_of (w.past.changes ++ more) n v))
    × (b.hub.interest ≡ view_after c.follow (changes_of (w.past.changes ++ more) n v) b.hub.changed []))
    (sym f)
    (subst (λ (z : List Change). (b.hub.changed ≡ length z) × (b.hub.interest ≡ view_after c.follow z b.hub.changed []))
    (sym is) (number, all ∙ ap (λ k. view_after c.follow (l ++ changes) k []) (sym (number ∙ sum))))) in
    record {
      changes = λ x i.
          let m = in_map (note_of n a.inc) changes x (subst (In x) changes_are i) in (
            ap (λ (y : Noted). y.node) m.2,
            subst (λ (y : ℕ × ℕ). In y w.past.started) (λ i. ((sym m.2 i).node, (sym m.2 i).inc)) h.started,
          );
      frames = λ t i.
          subst (λ y. FrameOk c w.past.started (w.past.changes ++ y) t) (sym changes_are)
          (own_frames c w.past n a.inc a.hub changes b.hub h.started h.changed later all t
          (q.told t (subst (In t) frames_are i)));
      hub = λ up.
          let o = hub out.changes changes_are b.inc inc in
          record {
            started = subst (λ v. In (n, v) w.past.started) (sym inc) h.started;
            changed = o.0;
            interest = o.1;
            peers = λ x p e.
                view_kept c w.past out x p (h.peers x p (ap (λ (y : Hub). slice_get y.peers x) (sym q.after) ∙ e));
          };
    }
