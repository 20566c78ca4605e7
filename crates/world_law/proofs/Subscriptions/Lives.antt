-- A life that has not closed is a subscription that is open, and it closes with a cause.
use Rattle.std.proofs.Common.{◌≡◌, ◌≢◌, ℕ, suc, ◌+◌, Bool, true, false, true≢false, nat_eq, ◌&&◌, List, [], ◌∷◌, map, set, Option, Some, None, refl, sym, ap, ◌∙◌, subst, inl, inr, ⊎_elim, arith}
use Rattle.std.specs.Prelude.{slice_get, ◌↔◌}
use Rattle.std.proofs.lemmas.Option.{none-some, same_Some, slice_get_within}
use Rattle.list_laws.specs.Lists.{In, Each}
use Rattle.list_laws.proofs.Lists.{in_append, in_map, in_right}
use Rattle.list_laws.proofs.Tests.{eq_true, eq_false, true_eq, has_in, in_has}
use Rattle.list_laws.proofs.Changes.{get_set_here, get_set_there, in_mapped}
use Rattle.sub_table.specs.Subscriptions.{serial_of}
use Rattle.sub_table.specs.declared.Subscription.{Subscription}
use Rattle.subj.specs.Servers.{ServerIdentity, IsListed}
use Rattle.subj.specs.declared.keys.Key.{Key}
use Rattle.shard_core.specs.AsLaw.{is_open_serial}
use Rattle.shard_core.specs.Causes.{AreHeld, sub_after, IsOpening}
use Rattle.shard_core.specs.Closings.{id_of, serials_of}
use Rattle.shard_core.specs.Shards.{State}
use Rattle.shard_core.specs.ShardEvents as of_shard
use Rattle.shard_core.specs.ShardSteps.{sub_called, new_sub, after_subscribe, shard_refusal, shard_after}
use Rattle.shard_core.proofs.Closings.Causes.{one}
use Rattle.shard_core.proofs.Closings.Reasons.{subs_go_on}
use Rattle.shard_core.proofs.Closings.Whys.{closes_by_cause}
use Rattle.shard_core.proofs.Closings.Fixed.{fixed}
use Rattle.node_law.specs.AsLaw.{Part, part_at, part_of}
use Rattle.node_law.specs.EachShard.{ShardsStayHeld}
use Rattle.node_law.specs.declared.events.ConnEvent.{ConnEvent}
use Rattle.node_law.specs.declared.events.ConnEvent.TheVariants.{Subscribe, Unsubscribe, Reply, Shut, SetHeaders, Detach, Take}
use Rattle.node_law.specs.Events as of_node
use Rattle.node_law.specs.Events.{NodeEvent}
use Rattle.node_law.specs.Sound.{SoundNode}
use Rattle.node_law.specs.State.{ShardWithJobs, new_node}
use Rattle.node_law.specs.Steps.{conn_place, conn_line}
use Rattle.node_law.proofs.Runs.EachShard.{Goes, step_goes}
use Rattle.node_law.proofs.Runs.Sound.{run_sound}
use Rattle.node_law.specs.AsLaw.{is_open_in}
use Rattle.world_law.specs.declared.faults.WorldFault.{WorldFault}
use Rattle.world_law.specs.Changes.{lives_of, conn_lives, new_life, looked_at, is_open, is_open_at}
use Rattle.world_law.specs.Events.{Event, Start, Stop, Receive, OnInfo, OnConnect, At, event_for}
use Rattle.world_law.specs.Headline.{IsCluster}
use Rattle.world_law.specs.Lives.{IsOpenLife, LivesAreOpen, IsCaused, LivesCloseByCause}
use Rattle.world_law.specs.Outcomes.{Outcome}
use Rattle.world_law.specs.Refusals.{world_refusal}
use Rattle.world_law.specs.State.{Cluster, LifeId, Life, Running, World, new_world, server_at}
use Rattle.world_law.specs.Steps.{Acts, Starts, Stops, Happens, Decided, WorldStep, Run, set_node}
use Rattle.world_law.proofs.Seen.Waiting.{same_size, at_both}
use Rattle.world_law.proofs.Runs.OwnRuns.{Rans, step_rans, first_rans}
use Rattle.world_law.proofs.Seen.Worlds.{after_act, shard_line_at, conn_line_at, fate}

-- ---- where a life is looked for

abbrev id_at : ℕ → ℕ → ℕ → ℕ → LifeId
id_at n inc place serial = record { node = n; inc = inc; sub = record { shard = suc place; serial = serial } }

open_here : (nodes : List (Option Running)) (n : ℕ) (b : Running) (place serial : ℕ) (y : ShardWithJobs)
    → slice_get nodes n ≡ Some (Some b)
    → slice_get b.node.lines place ≡ Some y
    → is_open nodes (id_at n b.inc place serial) ≡ is_open_serial serial y.shard.subs
open_here nodes n b place serial y up at =
    ap (is_open_at b.inc (record { shard = suc place; serial = serial })) up
    ∙ ap (λ o. nat_eq b.inc b.inc && is_open_in serial o) (shard_line_at b.node (suc place) place refl ∙ at)
    ∙ ap (λ t. t && is_open_serial serial y.shard.subs) (true_eq b.inc b.inc refl)

-- a server that is up is sound, and its shards keep what they keep
record Keeps (c : Cluster) (n : ℕ) (a : Running) : Type 0 where
  sound : SoundNode (server_at c n a.inc) a.node
  held : (place : ℕ) (line : ShardWithJobs) → slice_get a.node.lines place ≡ Some line → AreHeld line.shard

keeps_at : ShardsStayHeld
    → (c : Cluster)
    → IsCluster c
    → (w : World)
    → Rans c w
    → (n : ℕ) (a : Running)
    → slice_get w.nodes n ≡ Some (Some a)
    → Keeps c n a
keeps_at held c set_up w r n a at =
    let came = r.each n a at in
    let listed : IsListed (server_at c n a.inc) = record {
      apart = set_up.apart;
      listed = (let below = slice_get_within w.nodes n (Some a) at in let s = r.size in omega arith);
    } in
    record {
      sound = run_sound (server_at c n a.inc) came.steps a.node listed came.ran;
      held = λ place line f. (held (server_at c n a.inc) came.steps a.node listed came.ran place line f).subs;
    }

-- the id of an open life
life_is : (c : Cluster) (w : World) (l : Life) (x : IsOpenLife w l)
    → Keeps c l.id.node x.a
    → l.id ≡ id_at l.id.node x.a.inc x.place x.sub.serial
life_is c w l x k =
    x.is.id
    ∙ ap (λ m. record { node = l.id.node; inc = x.a.inc; sub = record { shard = m; serial = x.sub.serial } })
    (k.sound.lines x.place x.line x.at).number

was_open : (c : Cluster) (w : World) (l : Life) (x : IsOpenLife w l)
    → Keeps c l.id.node x.a
    → is_open w.nodes l.id ≡ true
was_open c w l x k =
    ap (is_open w.nodes) (life_is c w l x k)
    ∙ open_here w.nodes l.id.node x.a x.place x.sub.serial x.line x.up x.at
    ∙ in_has x.sub.serial (serials_of x.line.shard.subs) (in_mapped serial_of x.line.shard.subs x.sub x.there)

-- ---- why a life closes

there_still : (nodes : List (Option Running)) (n : ℕ) (new : Option Running) (id : LifeId)
    → id.node ≢ n
    → is_open (set nodes n new) id ≡ is_open nodes id
there_still nodes n new id apart = ap (is_open_at id.inc id.sub) (get_set_there nodes n id.node new apart)

acts_close : (c : Cluster) (w : World)
    → ((n : ℕ) (a : Running) → slice_get w.nodes n ≡ Some (Some a) → Keeps c n a)
    → (l : Life) (x : IsOpenLife w l) (n : ℕ) (event : Option NodeEvent) (told : Outcome) (w' : World)
    (s : Acts c w n event told w')
    → (is_open (after_act w n s.a.inc s.b) l.id ≡ false)
    ↔ ((l.id.node ≡ n) × IsCaused (part_of (server_at c n s.a.inc) s.a.node s.e s.won) x.place x.sub)
acts_close c w keeps l x n event told w' s = go (nat_eq l.id.node n) refl
  where
    own : Keeps c l.id.node x.a
    own = keeps l.id.node x.a x.up

    elsewhere : l.id.node ≢ n → is_open (after_act w n s.a.inc s.b) l.id ≡ true
    elsewhere apart =
        there_still w.nodes n (Some (record { inc = s.a.inc; node = s.b })) l.id apart ∙ was_open c w l x own

    here : l.id.node ≡ n
        → (is_open (after_act w n s.a.inc s.b) l.id ≡ false)
        ↔ ((l.id.node ≡ n) × IsCaused (part_of (server_at c n s.a.inc) s.a.node s.e s.won) x.place x.sub)
    here is = by (step_goes (server_at c n s.a.inc) s.a.node s.e s.won s.race s.b s.steps x.place x.line y.0 at y.1)
      where
        same : x.a ≡ s.a
        same = same_Some x.a s.a (same_Some (Some x.a) (Some s.a) (sym x.up ∙ ap (slice_get w.nodes) is ∙ s.a_is))

        at : slice_get s.a.node.lines x.place ≡ Some x.line
        at = ap (λ (a : Running). slice_get a.node.lines x.place) (sym same) ∙ x.at

        y : (new : ShardWithJobs) × (slice_get s.b.lines x.place ≡ Some new)
        y =
            at_both s.a.node.lines s.b.lines x.place x.line
            (same_size (server_at c n s.a.inc) s.a.node s.e s.won s.race s.b s.steps) at

        looked : is_open (after_act w n s.a.inc s.b) l.id ≡ is_open_serial x.sub.serial y.0.shard.subs
        looked =
            ap (is_open (after_act w n s.a.inc s.b))
            (life_is c w l x own ∙ (λ i. id_at (is i) (same i).inc x.place x.sub.serial))
            ∙ open_here (after_act w n s.a.inc s.b) n (record { inc = s.a.inc; node = s.b }) x.place x.sub.serial y.0
            (get_set_here w.nodes n (Some s.a) (Some (record { inc = s.a.inc; node = s.b })) s.a_is) y.1

        was : is_open_serial x.sub.serial x.line.shard.subs ≡ true
        was = in_has x.sub.serial (serials_of x.line.shard.subs) (in_mapped serial_of x.line.shard.subs x.sub x.there)

        stepped : (e : of_shard.Event)
            → part_of (server_at c n s.a.inc) s.a.node s.e s.won
            ≡ Some (record { place = x.place; line = x.line; event = e })
            → shard_refusal x.line.shard e ≡ None
            → y.0.shard ≡ shard_after x.line.shard e
            → (is_open (after_act w n s.a.inc s.b) l.id ≡ false)
            ↔ ((l.id.node ≡ n) × IsCaused (part_of (server_at c n s.a.inc) s.a.node s.e s.won) x.place x.sub)
        stepped e told cause after =
            let caused = closes_by_cause x.line.shard e (own.held x.place x.line x.at) cause x.sub x.there in
            let shown :
            is_open (after_act w n s.a.inc s.b) l.id ≡ is_open_serial x.sub.serial (shard_after x.line.shard e).subs =
            looked ∙ ap (λ (t : State). is_open_serial x.sub.serial t.subs) after in (
              (λ f. (is, subst (λ o. IsCaused o x.place x.sub) (sym told) (refl, caused.0 (was, sym shown ∙ f)))),
              (λ f. shown ∙ (caused.1 (subst (λ o. IsCaused o x.place x.sub) told f.1).1).1),
            )

        rested : is_open_serial x.sub.serial y.0.shard.subs ≡ is_open_serial x.sub.serial x.line.shard.subs
            → ((p : Part) → part_of (server_at c n s.a.inc) s.a.node s.e s.won ≡ Some p → p.place ≢ x.place)
            → (is_open (after_act w n s.a.inc s.b) l.id ≡ false)
            ↔ ((l.id.node ≡ n) × IsCaused (part_of (server_at c n s.a.inc) s.a.node s.e s.won) x.place x.sub)
        rested same apart = (
          (λ f. absurd (true≢false (sym (looked ∙ same ∙ was) ∙ f))),
          (λ f. absurd (out (part_of (server_at c n s.a.inc) s.a.node s.e s.won) apart f.1)),
        )
          where
            out : (o : Option Part) → ((p : Part) → o ≡ Some p → p.place ≢ x.place) → IsCaused o x.place x.sub → ⊥
            out None apart f = f
            out (Some p) apart f = apart p refl f.0

        by : Goes (part_of (server_at c n s.a.inc) s.a.node s.e s.won) x.place x.line y.0
            → (is_open (after_act w n s.a.inc s.b) l.id ≡ false)
            ↔ ((l.id.node ≡ n) × IsCaused (part_of (server_at c n s.a.inc) s.a.node s.e s.won) x.place x.sub)
        by (inl (e, told, cause, after)) = stepped e told cause after
        by (inr (inl same, apart)) = rested (ap (λ (t : State). is_open_serial x.sub.serial t.subs) same) apart
        by (inr (inr same, apart)) = rested (ap (λ (t : State). is_open_serial x.sub.serial t.subs) same) apart

    go : (b : Bool)
        → nat_eq l.id.node n ≡ b
        → (is_open (after_act w n s.a.inc s.b) l.id ≡ false)
        ↔ ((l.id.node ≡ n) × IsCaused (part_of (server_at c n s.a.inc) s.a.node s.e s.won) x.place x.sub)
    go true e = here (eq_true l.id.node n e)
    go false e = (
      (λ f. absurd (true≢false (sym (elsewhere (eq_false l.id.node n e)) ∙ f))),
      (λ f. absurd (eq_false l.id.node n e f.0)),
    )

stops_close : (c : Cluster) (w : World)
    → ((n : ℕ) (a : Running) → slice_get w.nodes n ≡ Some (Some a) → Keeps c n a)
    → (l : Life) (x : IsOpenLife w l) (n : ℕ) (told : Outcome) (w' : World) (s : Stops w n told w')
    → (is_open (set_node w n None) l.id ≡ false) ↔ (l.id.node ≡ n)
stops_close c w keeps l x n told w' s = (
  to,
  λ e.
      ap (is_open_at l.id.inc l.id.sub)
      (ap (slice_get (set_node w n None)) e ∙ get_set_here w.nodes n (Some s.a) None s.a_is),
)
  where
    to : is_open (set_node w n None) l.id ≡ false → l.id.node ≡ n
    to f = go (nat_eq l.id.node n) refl
      where
        go : (b : Bool) → nat_eq l.id.node n ≡ b → l.id.node ≡ n
        go true e = eq_true l.id.node n e
        go false e =
            absurd (true≢false (sym
            (there_still w.nodes n None l.id (eq_false l.id.node n e) ∙ was_open c w l x (keeps l.id.node x.a x.up))
            ∙ f))

starts_close_none : (c : Cluster) (w : World) (l : Life) (x : IsOpenLife w l) (n inc : ℕ) (told : Outcome) (w' : World)
    (s : Starts c w n inc told w')
    → is_open (set_node w n (Some (record { inc = inc; node = new_node (server_at c n inc) }))) l.id
    ≡ is_open w.nodes l.id
starts_close_none c w l x n inc told w' s =
    there_still w.nodes n (Some (record { inc = inc; node = new_node (server_at c n inc) })) l.id
    (λ e. absurd (none-some x.a (same_Some None (Some x.a) (sym s.down ∙ ap (slice_get w.nodes) (sym e) ∙ x.up))))

-- ---- a life that has not closed is open

abbrev Open : World → Type 0
Open w = Each (λ l. l.closed ≡ None → IsOpenLife w l) w.lives

-- the same server is up
moved : (w w' : World) (l : Life) (x : IsOpenLife w l)
    → slice_get w'.nodes l.id.node ≡ slice_get w.nodes l.id.node
    → IsOpenLife w' l
moved w w' l x same = record {
  a = x.a;
  up = same ∙ x.up;
  place = x.place;
  line = x.line;
  at = x.at;
  sub = x.sub;
  there = x.there;
  is = x.is;
}

-- of those that are looked at, one that has not closed is as it was, and open
record LookedOpen (now : ℕ) (nodes : List (Option Running)) (lives : List Life) (l : Life) : Type 0 where
  life : Life
  there : In life lives
  same : l ≡ life
  open_before : life.closed ≡ None
  still : is_open nodes life.id ≡ true

looked_open : (now : ℕ) (nodes : List (Option Running)) (lives : List Life) (l : Life)
    → In l (map (looked_at now nodes) lives)
    → l.closed ≡ None
    → LookedOpen now nodes lives l
looked_open now nodes lives l i none =
    let m = in_map (looked_at now nodes) lives l i in
    ⊎_elim
    (λ (f : (m.0.closed ≡ None) × (is_open nodes m.0.id ≡ false)
    × (looked_at now nodes m.0 ≡ record m.0 { closed = Some now })).
    absurd (none-some now (sym none ∙ ap (λ (x : Life). x.closed) (m.2 ∙ f.2))))
    (λ (f : (looked_at now nodes m.0 ≡ m.0) × (m.0.closed ≡ None → is_open nodes m.0.id ≡ true)).
    let was : m.0.closed ≡ None = sym (ap (λ (x : Life). x.closed) (m.2 ∙ f.0)) ∙ none in
    record { life = m.0; there = m.1; same = m.2 ∙ f.0; open_before = was; still = f.1 was })
    (fate now nodes m.0)

abbrev is_subscribe : ConnEvent → Bool
is_subscribe (Subscribe key sid) = true
is_subscribe (Unsubscribe sid max) = false
is_subscribe (Reply frame) = false
is_subscribe (Shut text) = false
is_subscribe Detach = false
is_subscribe (SetHeaders on) = false
is_subscribe (Take count) = false

-- the shard's part of a subscribe
abbrev opened_part : ServerIdentity → ℕ → Key → List ℕ → Option ShardWithJobs → Option Part
opened_part server conn key sid o = part_at (conn_place server conn) (λ line. Some (of_shard.Subscribe conn key sid)) o

module _ (c : Cluster) (w : World) (n : ℕ) (event : Option NodeEvent) (told : Outcome) (w' : World)
    (s : Acts c w n event told w')
    (keeps : (k : ℕ) (a : Running) → slice_get w.nodes k ≡ Some (Some a) → Keeps c k a) where
  now_up : slice_get w'.nodes n ≡ Some (Some (record { inc = s.a.inc; node = s.b }))
  now_up =
      ap (λ (x : World). slice_get x.nodes n) s.after
      ∙ get_set_here w.nodes n (Some s.a) (Some (record { inc = s.a.inc; node = s.b })) s.a_is

  -- what is open afterwards under the serial of one that was open is that one
  same_sub : (place : ℕ) (x y : ShardWithJobs) (held : AreHeld x.shard)
      → Goes (part_of (server_at c n s.a.inc) s.a.node s.e s.won) place x y
      → (u v : Subscription)
      → In u x.shard.subs
      → In v y.shard.subs
      → v.serial ≡ u.serial
      → (v.conn ≡ u.conn) × (v.key ≡ u.key) × (v.sid ≡ u.sid)
  same_sub place x y held (inl (e, is, cause, after)) u v i j same =
      ⊎_elim (λ (f : (old : Subscription) × In old x.shard.subs × (v ≡ sub_after x.shard e old)).
      let it : f.0 ≡ u =
      one x.shard.subs held.rising f.0 u f.1 i (sym (ap (λ (z : Subscription). z.serial) f.2) ∙ same) in (
        ap (λ (z : Subscription). z.conn) f.2 ∙ ap (λ (z : Subscription). z.conn) it,
        ap (λ (z : Subscription). z.key) f.2 ∙ ap (λ (z : Subscription). z.key) it,
        ap (λ (z : Subscription). z.sid) f.2 ∙ ap (λ (z : Subscription). z.sid) it,
      ))
      (λ f. absurd (fresh e f)) (subs_go_on x.shard e held cause v (subst (λ (t : State). In v t.subs) after j))
    where
      fresh : (e : of_shard.Event) → IsOpening x.shard e v → ⊥
      fresh (of_shard.Subscribe conn key sid) f =
          let le = held.given u i in let is = ap (λ (z : Subscription). z.serial) f in absurd (omega arith)
      fresh of_shard.Attach f = f
      fresh (of_shard.Unsubscribe conn sid max) f = f
      fresh (of_shard.Reply conn frame) f = f
      fresh (of_shard.Shut conn text) f = f
      fresh (of_shard.Detach conn) f = f
      fresh (of_shard.SetHeaders conn on) f = f
      fresh (of_shard.Take conn count) f = f
      fresh (of_shard.Begin job) f = f
      fresh (of_shard.Claim index won) f = f
      fresh of_shard.End f = f
      fresh (of_shard.DropJob waiting) f = f
      fresh of_shard.Drain f = f
      fresh of_shard.Collect f = f
  same_sub place x y held (inr (rests, apart)) u v i j same =
      let k : In v x.shard.subs = ⊎_elim (λ (f : y.shard ≡ x.shard). subst (λ (t : State). In v t.subs) f j)
      (λ (f : y.shard ≡ shard_after x.shard of_shard.Collect). subst (λ (t : State). In v t.subs) f j) rests in
      let it : v ≡ u = one x.shard.subs held.rising v u k i same in
      (ap (λ (z : Subscription). z.conn) it, ap (λ (z : Subscription). z.key) it, ap (λ (z : Subscription). z.sid) it)

  old_open : (l : Life) → IsOpenLife w l → is_open (after_act w n s.a.inc s.b) l.id ≡ true → IsOpenLife w' l
  old_open l x still = go (nat_eq l.id.node n) refl
    where
      own : Keeps c l.id.node x.a
      own = keeps l.id.node x.a x.up

      here : l.id.node ≡ n → IsOpenLife w' l
      here is = record {
        a = record { inc = s.a.inc; node = s.b };
        up = ap (slice_get w'.nodes) is ∙ now_up;
        place = x.place;
        line = y.0;
        at = y.1;
        sub = v.0;
        there = v.1;
        is =
            let z = same_sub x.place x.line y.0 (own.held x.place x.line x.at) goes x.sub v.0 x.there v.1 (sym v.2) in
            record {
              id =
                  x.is.id
                  ∙ (λ i. record {
                    node = l.id.node;
                    inc = (same i).inc;
                    sub = record { shard = number i; serial = v.2 i };
                  });
              conn = x.is.conn ∙ sym z.0;
              key = x.is.key ∙ sym z.1;
              sid = x.is.sid ∙ sym z.2;
            };
      }
        where
          same : x.a ≡ s.a
          same = same_Some x.a s.a (same_Some (Some x.a) (Some s.a) (sym x.up ∙ ap (slice_get w.nodes) is ∙ s.a_is))

          at : slice_get s.a.node.lines x.place ≡ Some x.line
          at = ap (λ (a : Running). slice_get a.node.lines x.place) (sym same) ∙ x.at

          y : (new : ShardWithJobs) × (slice_get s.b.lines x.place ≡ Some new)
          y =
              at_both s.a.node.lines s.b.lines x.place x.line
              (same_size (server_at c n s.a.inc) s.a.node s.e s.won s.race s.b s.steps) at

          goes : Goes (part_of (server_at c n s.a.inc) s.a.node s.e s.won) x.place x.line y.0
          goes = step_goes (server_at c n s.a.inc) s.a.node s.e s.won s.race s.b s.steps x.place x.line y.0 at y.1

          -- both have the number of their place
          number : x.line.shard.shard ≡ y.0.shard.shard
          number = by goes
            where
              by : Goes (part_of (server_at c n s.a.inc) s.a.node s.e s.won) x.place x.line y.0
                  → x.line.shard.shard ≡ y.0.shard.shard
              by (inl (e, told, cause, after)) = sym (ap (λ (t : State). t.shard) after ∙ (fixed x.line.shard e).shard)
              by (inr (inl f, apart)) = sym (ap (λ (t : State). t.shard) f)
              by (inr (inr f, apart)) = sym (ap (λ (t : State). t.shard) f)

          open_now : is_open_serial x.sub.serial y.0.shard.subs ≡ true
          open_now =
              sym (ap (is_open (after_act w n s.a.inc s.b))
              (life_is c w l x own ∙ (λ i. id_at (is i) (same i).inc x.place x.sub.serial))
              ∙ open_here (after_act w n s.a.inc s.b) n (record { inc = s.a.inc; node = s.b }) x.place x.sub.serial y.0
              (get_set_here w.nodes n (Some s.a) (Some (record { inc = s.a.inc; node = s.b })) s.a_is) y.1)
              ∙ still

          v : (u : Subscription) × In u y.0.shard.subs × (x.sub.serial ≡ u.serial)
          v = in_map serial_of y.0.shard.subs x.sub.serial (has_in x.sub.serial (serials_of y.0.shard.subs) open_now)

      go : (b : Bool) → nat_eq l.id.node n ≡ b → IsOpenLife w' l
      go true e = here (eq_true l.id.node n e)
      go false e =
          moved w w' l x (ap (λ (x : World). slice_get x.nodes l.id.node) s.after
          ∙ get_set_there w.nodes n l.id.node (Some (record { inc = s.a.inc; node = s.b })) (eq_false l.id.node n e))

  -- what opens is open
  opens_at : (conn : ℕ) (key : Key) (sid : List ℕ) (o : Option ShardWithJobs)
      → conn_line (server_at c n s.a.inc) s.a.node conn ≡ o
      → part_of (server_at c n s.a.inc) s.a.node s.e s.won ≡ opened_part (server_at c n s.a.inc) conn key sid o
      → (l : Life)
      → In l (conn_lives (server_at c n s.a.inc) (suc w.step) conn (Subscribe key sid) o)
      → IsOpenLife w' l
  opens_at conn key sid None is part l i = absurd i
  opens_at conn key sid (Some line) is part l i = go (sub_called conn sid line.shard.subs) refl i
    where
      at : slice_get s.a.node.lines (conn_place (server_at c n s.a.inc) conn) ≡ Some line
      at = conn_line_at (server_at c n s.a.inc) s.a.node conn line is

      y : (new : ShardWithJobs) × (slice_get s.b.lines (conn_place (server_at c n s.a.inc) conn) ≡ Some new)
      y =
          at_both s.a.node.lines s.b.lines (conn_place (server_at c n s.a.inc) conn) line
          (same_size (server_at c n s.a.inc) s.a.node s.e s.won s.race s.b s.steps) at

      after_is : Goes (part_of (server_at c n s.a.inc) s.a.node s.e s.won) (conn_place (server_at c n s.a.inc) conn)
          line y.0
          → y.0.shard ≡ shard_after line.shard (of_shard.Subscribe conn key sid)
      after_is (inl (e, f, cause, after)) =
          after ∙ ap (shard_after line.shard) (ap (λ (p : Part). p.event) (same_Some _ _ (sym f ∙ part)))
      after_is (inr (rests, apart)) = absurd (apart _ part refl)

      go : (u : Option Subscription)
          → sub_called conn sid line.shard.subs ≡ u
          → In l (new_life (server_at c n s.a.inc) (suc w.step) conn key sid line u)
          → IsOpenLife w' l
      go (Some u) f j = absurd j
      go None f j =
          ⊎_elim
          (λ (e : l ≡ record {
            id = record { node = n; inc = s.a.inc; sub = id_of line.shard.shard (line.shard.opened + 1) };
            conn = conn;
            key = key;
            sid = sid;
            opened = suc w.step;
            closed = None;
          }).
          subst (IsOpenLife w') (sym e) made)
          (λ k. absurd k) j
        where
          after : y.0.shard ≡ after_subscribe line.shard (new_sub line.shard conn key sid) None
          after =
              after_is (step_goes (server_at c n s.a.inc) s.a.node s.e s.won s.race s.b s.steps
              (conn_place (server_at c n s.a.inc) conn) line y.0 at y.1)
              ∙ ap (after_subscribe line.shard (new_sub line.shard conn key sid)) f

          made : IsOpenLife w' (record {
            id = record { node = n; inc = s.a.inc; sub = id_of line.shard.shard (line.shard.opened + 1) };
            conn = conn;
            key = key;
            sid = sid;
            opened = suc w.step;
            closed = None;
          })
          made = record {
            a = record { inc = s.a.inc; node = s.b };
            up = now_up;
            place = conn_place (server_at c n s.a.inc) conn;
            line = y.0;
            at = y.1;
            sub = new_sub line.shard conn key sid;
            there =
                subst (λ (t : State). In (new_sub line.shard conn key sid) t.subs) (sym after)
                (in_right (new_sub line.shard conn key sid) line.shard.subs (new_sub line.shard conn key sid ∷ [])
                (inl refl));
            is = record {
              id = λ i. record {
                node = n;
                inc = s.a.inc;
                sub = record { shard = (sym (ap (λ (t : State). t.shard) after)) i; serial = line.shard.opened + 1 };
              };
              conn = refl;
              key = refl;
              sid = refl;
            };
          }

  quiet_event : (conn : ℕ) (e : ConnEvent) (o : Option ShardWithJobs)
      → is_subscribe e ≡ false
      → conn_lives (server_at c n s.a.inc) (suc w.step) conn e o ≡ []
  quiet_event conn e None not = refl
  quiet_event conn (Subscribe key sid) (Some line) not = absurd (true≢false not)
  quiet_event conn (Unsubscribe sid max) (Some line) not = refl
  quiet_event conn (Reply frame) (Some line) not = refl
  quiet_event conn (Shut text) (Some line) not = refl
  quiet_event conn Detach (Some line) not = refl
  quiet_event conn (SetHeaders on) (Some line) not = refl
  quiet_event conn (Take count) (Some line) not = refl

  new_open : (e : NodeEvent)
      → s.e ≡ e
      → (l : Life)
      → In l (lives_of (server_at c n s.a.inc) (suc w.step) s.a.node e)
      → IsOpenLife w' l
  new_open (of_node.Own (of_node.OfConn conn (Subscribe key sid))) is l i =
      opens_at conn key sid (conn_line (server_at c n s.a.inc) s.a.node conn) refl
      (ap (λ z. part_of (server_at c n s.a.inc) s.a.node z s.won) is) l i
  new_open (of_node.Own (of_node.OfConn conn (Unsubscribe sid max))) is l i =
      absurd
      (subst (In l) (quiet_event conn (Unsubscribe sid max) (conn_line (server_at c n s.a.inc) s.a.node conn) refl) i)
  new_open (of_node.Own (of_node.OfConn conn (Reply frame))) is l i =
      absurd (subst (In l) (quiet_event conn (Reply frame) (conn_line (server_at c n s.a.inc) s.a.node conn) refl) i)
  new_open (of_node.Own (of_node.OfConn conn (Shut text))) is l i =
      absurd (subst (In l) (quiet_event conn (Shut text) (conn_line (server_at c n s.a.inc) s.a.node conn) refl) i)
  new_open (of_node.Own (of_node.OfConn conn Detach)) is l i =
      absurd (subst (In l) (quiet_event conn Detach (conn_line (server_at c n s.a.inc) s.a.node conn) refl) i)
  new_open (of_node.Own (of_node.OfConn conn (SetHeaders on))) is l i =
      absurd (subst (In l) (quiet_event conn (SetHeaders on) (conn_line (server_at c n s.a.inc) s.a.node conn) refl) i)
  new_open (of_node.Own (of_node.OfConn conn (Take count))) is l i =
      absurd (subst (In l) (quiet_event conn (Take count) (conn_line (server_at c n s.a.inc) s.a.node conn) refl) i)
  new_open (of_node.Own (of_node.AtShard shard work)) is l i = absurd i
  new_open (of_node.Own (of_node.Publish p)) is l i = absurd i
  new_open (of_node.Own (of_node.Collect shard)) is l i = absurd i
  new_open (of_node.Own of_node.Drain) is l i = absurd i
  new_open (of_node.Own (of_node.Dial q)) is l i = absurd i
  new_open (of_node.Own of_node.Accept) is l i = absurd i
  new_open (of_node.Own (of_node.CutSession session)) is l i = absurd i
  new_open (of_node.Own (of_node.TakeFrames q count)) is l i = absurd i
  new_open (of_node.Receive frame) is l i = absurd i
  new_open (of_node.OnInfo session info) is l i = absurd i
  new_open (of_node.OnConnect session connect) is l i = absurd i

  acts_open : Open w → Open w'
  acts_open h l i none =
      ⊎_elim old (λ j. new_open s.e refl l j)
      (in_append l (map (looked_at (suc w.step) (after_act w n s.a.inc s.b)) w.lives)
      (lives_of (server_at c n s.a.inc) (suc w.step) s.a.node s.e) (subst (λ (x : World). In l x.lives) s.after i))
    where
      old : In l (map (looked_at (suc w.step) (after_act w n s.a.inc s.b)) w.lives) → IsOpenLife w' l
      old j =
          let z = looked_open (suc w.step) (after_act w n s.a.inc s.b) w.lives l j none in
          subst (IsOpenLife w') (sym z.same) (old_open z.life (h z.life z.there z.open_before) z.still)

-- ---- any step

down_still : (w w' : World) (n : ℕ) (new : Option Running) (l : Life) (x : IsOpenLife w l)
    → l.id.node ≢ n
    → w'.nodes ≡ set_node w n new
    → IsOpenLife w' l
down_still w w' n new l x apart is =
    moved w w' l x (ap (λ t. slice_get t l.id.node) is ∙ get_set_there w.nodes n l.id.node new apart)

happens_open : (c : Cluster) (w w' : World) (e : Event) (told : Outcome)
    → ((k : ℕ) (a : Running) → slice_get w.nodes k ≡ Some (Some a) → Keeps c k a) → Happens c w e told w' → Open w
    → Open w'
happens_open c w w' (Start n inc) told keeps s h l i none =
    let x = h l (subst (λ (t : World). In l t.lives) s.after i) none in
    down_still w w' n _ l x
    (λ e. absurd (none-some x.a (same_Some None (Some x.a) (sym s.down ∙ ap (slice_get w.nodes) (sym e) ∙ x.up))))
    (ap (λ (t : World). t.nodes) s.after)
happens_open c w w' (Stop n) told keeps s h l i none =
    let z =
    looked_open (suc w.step) (set_node w n None) w.lives l (subst (λ (t : World). In l t.lives) s.after i) none in
    let x = h z.life z.there z.open_before in
    subst (IsOpenLife w') (sym z.same)
    (down_still w w' n None z.life x
    (λ e.
    true≢false (sym z.still
    ∙ ap (is_open_at z.life.id.inc z.life.id.sub)
    (ap (slice_get (set_node w n None)) e ∙ get_set_here w.nodes n (Some s.a) None s.a_is)))
    (ap (λ (t : World). t.nodes) s.after))
happens_open c w w' (Receive n k) told keeps s h l i none =
    acts_open c w n (event_for w (Receive n k)) told w' s keeps h l i none
happens_open c w w' (OnInfo n session k) told keeps s h l i none =
    acts_open c w n (event_for w (OnInfo n session k)) told w' s keeps h l i none
happens_open c w w' (OnConnect n session k) told keeps s h l i none =
    acts_open c w n (event_for w (OnConnect n session k)) told w' s keeps h l i none
happens_open c w w' (At n event) told keeps s h l i none =
    acts_open c w n (event_for w (At n event)) told w' s keeps h l i none

step_open : (c : Cluster) (w w' : World) (e : Event) (told : Outcome)
    → ((k : ℕ) (a : Running) → slice_get w.nodes k ≡ Some (Some a) → Keeps c k a) → WorldStep c w e told w' → Open w
    → Open w'
step_open c w w' e told keeps s h = go (world_refusal c w e) s
  where
    go : (o : Option WorldFault) → Decided c w e o told w' → Open w'
    go None d = happens_open c w w' e told keeps d h
    go (Some why) d = subst Open (sym d.1) (λ l i none. moved w (record w { step = suc w.step }) l (h l i none) refl)

over_open : ShardsStayHeld
    → (c : Cluster)
    → IsCluster c
    → (w : World) (es : List Event) (w' : World)
    → Run c w es w'
    → Rans c w
    → Open w
    → Open w' × Rans c w'
over_open held c set_up w [] w' run r h = (subst Open (sym run) h, subst (Rans c) (sym run) r)
over_open held c set_up w (e ∷ es) w' run r h =
    over_open held c set_up run.0 es w' run.3 (step_rans c set_up w run.0 e run.1 run.2 r)
    (step_open c w run.0 e run.1 (keeps_at held c set_up w r) run.2 h)

no_lives : (c : Cluster) → Open (new_world c)
no_lives c l i none = absurd i

pub lives_are_open : ShardsStayHeld → LivesAreOpen
lives_are_open held c set_up es w run = (over_open held c set_up (new_world c) es w run (first_rans c) (no_lives c)).0

pub lives_close_by_cause : ShardsStayHeld → LivesCloseByCause
lives_close_by_cause held c set_up es w run l x =
    let keeps =
    keeps_at held c set_up w (over_open held c set_up (new_world c) es w run (first_rans c) (no_lives c)).1 in
    record {
      before = was_open c w l x (keeps l.id.node x.a x.up);
      acts = λ n event told w' s.
          let z = acts_close c w keeps l x n event told w' s in (
            (λ f. z.0 (sym (ap (λ (t : World). is_open t.nodes l.id) s.after) ∙ f)),
            (λ f. ap (λ (t : World). is_open t.nodes l.id) s.after ∙ z.1 f),
          );
      stops = λ n told w' s.
          let z = stops_close c w keeps l x n told w' s in (
            (λ f. z.0 (sym (ap (λ (t : World). is_open t.nodes l.id) s.after) ∙ f)),
            (λ f. ap (λ (t : World). is_open t.nodes l.id) s.after ∙ z.1 f),
          );
      starts = λ n inc told w' s.
          ap (λ (t : World). is_open t.nodes l.id) s.after
          ∙ starts_close_none c w l x n inc told w' s
          ∙ was_open c w l x (keeps l.id.node x.a x.up);
    }
