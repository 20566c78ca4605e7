-- From outboxes to placements: what the outboxes gain are the messages given, each once.
use Rattle.std.proofs.Common.{◌≡◌, ◌≢◌, ℕ, zero, suc, Bool, true, false, cond, nat_eq, List, [], ◌∷◌, ◌++◌, ◌-◌, map, length, drop, Option, Some, None, refl, sym, ap, ◌∙◌, subst, inl, inr, ⊎_elim, arith}
use Rattle.std.specs.Prelude.{filter, slice_get}
use Rattle.std.proofs.lemmas.Option.{none-some, same_Some}
use Rattle.list_laws.specs.Lists.{In, Each, Pairs, Along}
use Rattle.list_laws.proofs.Lists.{in_map, pairs_cases, pairs_map}
use Rattle.list_laws.proofs.Tests.{eq_true, eq_false, true_eq, false_eq}
use Rattle.list_laws.proofs.Changes.{append_nil, append_assoc, in_filter, filter_in, in_mapped, pairs_filter, pairs_map_back, pairs_sub, pairs_one, choose, map_filter}
use Rattle.client_frames.specs.Messages.{due_line, due_body}
use Rattle.outbox.specs.Bytes.{bytes_of}
use Rattle.outbox.specs.Views.{Written}
use Rattle.outbox.specs.declared.entries.Tag.{Tag}
use Rattle.outbox.specs.declared.entries.Tag.TheVariants as tag
use Rattle.cluster_law.specs.Shard as law_shard
use Rattle.sub_table.specs.Subscriptions.{is_of, serial_of}
use Rattle.sub_table.specs.declared.Subscription.{Subscription}
use Rattle.subj.specs.declared.jobs.Job.{Job}
use Rattle.subj.specs.Servers.{ServerIdentity}
use Rattle.claim_race.specs.Race.{RaceState}
use Rattle.hub_core.specs.AsLaw.{id_of}
use Rattle.shard_core.specs.AsLaw.{job_of, sub_of, given_by, job_by, given_by_claim, placements_for, AreThese}
use Rattle.shard_core.specs.Closings as closings
use Rattle.shard_core.specs.Closings.{serials_of}
use Rattle.shard_core.specs.Owed.{mode_of, first_step, is_due, candidate_of}
use Rattle.shard_core.specs.Shards.{State, Client, takes_headers}
use Rattle.shard_core.specs.ShardEvents as of_shard
use Rattle.shard_core.proofs.Steps.LawEvents.{walk_gives}
use Rattle.node_law.specs.AsLaw.{Part, part_at, part_if, part_of, given_at, placements_at, entries_for_job, messages_at, waits_in, is_message_tag, is_message, MessagesAreGiven}
use Rattle.node_law.specs.Events.{OfConn, AtShard, Publish, Collect, Drain, Dial, Accept, CutSession, TakeFrames, NodeEvent, Own, Receive, OnInfo, OnConnect}
use Rattle.node_law.specs.Sound.{SoundNode}
use Rattle.node_law.specs.State.{ShardWithJobs, Node}
use Rattle.node_law.specs.Steps.{NodeStep, conn_place, conn_event, work_event}
use Rattle.world_law.specs.Changes.{placement_of, placements_of, new_placements, is_on, AreGained}
use Rattle.world_law.specs.State.{Cluster, Placement, server_at}
use Rattle.world_law.proofs.Seen.Machine.{SeesPlacement}

-- ---- the new entries of a connection, shard by shard, and the form that it takes there

abbrev pub news : List ShardWithJobs → List ShardWithJobs → ℕ → ℕ → List Written
news old new place conn = drop (length (waits_in conn (slice_get old place))) (waits_in conn (slice_get new place))

abbrev pub takes_in : ℕ → Option ShardWithJobs → Bool
takes_in conn None = false
takes_in conn (Some line) = takes_headers conn line.shard.clients

abbrev nothing : List Written
nothing = []

nothing_dropped : (n : ℕ) → drop n nothing ≡ nothing
nothing_dropped zero = refl
nothing_dropped (suc n) = refl

module _ (server : ServerIdentity) (now conn : ℕ) where
  -- only messages count
  of_messages : (headers : Bool) (es : List Written)
      → placements_of server now conn headers es ≡ placements_of server now conn headers (filter is_message es)
  of_messages headers [] = refl
  of_messages headers (x ∷ es) = go x.tag (of_messages headers es)
    where
      go : (t : Tag)
          → placements_of server now conn headers es ≡ placements_of server now conn headers (filter is_message es)
          → placement_of server now conn headers x.bytes t ++ placements_of server now conn headers es
          ≡ placements_of server now conn headers
          (cond (is_message_tag t) (record { tag = t; bytes = x.bytes } ∷ filter is_message es) (filter is_message es))
      go tag.Reply below = below
      go (tag.Msg id sub mode) below =
          ap (λ t. placement_of server now conn headers x.bytes (tag.Msg id sub mode) ++ t) below

  pub nothing_new : (old new : List ShardWithJobs)
      → ((q : ℕ) → placements_of server now conn (takes_in conn (slice_get old q)) (news old new q conn) ≡ [])
      → new_placements server now old new conn ≡ []
  nothing_new [] new h = refl
  nothing_new (x ∷ old) [] h = refl
  nothing_new (x ∷ old) (y ∷ new) h = λ i. h zero i ++ nothing_new old new (λ q. h (suc q)) i

  -- at one place alone
  pub new_at : (p : ℕ) (old new : List ShardWithJobs) (line : ShardWithJobs)
      → slice_get old p ≡ Some line
      → ((q : ℕ) → q ≢ p → placements_of server now conn (takes_in conn (slice_get old q)) (news old new q conn) ≡ [])
      → new_placements server now old new conn
      ≡ placements_of server now conn (takes_headers conn line.shard.clients) (news old new p conn)
  new_at p [] new line e h = absurd (none-some line e)
  new_at zero (x ∷ old) [] line e h =
      sym (ap (placements_of server now conn (takes_headers conn line.shard.clients))
      (nothing_dropped (length (waits_in conn (Some x)))))
  new_at (suc p) (x ∷ old) [] line e h =
      sym (ap (placements_of server now conn (takes_headers conn line.shard.clients))
      (nothing_dropped (length (waits_in conn (slice_get old p)))))
  new_at zero (x ∷ old) (y ∷ new) line e h =
      ap (λ t.
      placements_of server now conn (takes_headers conn x.shard.clients) (news (x ∷ old) (y ∷ new) zero conn) ++ t)
      (nothing_new old new (λ q. h (suc q) (omega arith)))
      ∙ append_nil
      (placements_of server now conn (takes_headers conn x.shard.clients) (news (x ∷ old) (y ∷ new) zero conn))
      ∙ ap (λ (l : ShardWithJobs).
      placements_of server now conn (takes_headers conn l.shard.clients) (news (x ∷ old) (y ∷ new) zero conn))
      (same_Some x line e)
  new_at (suc p) (x ∷ old) (y ∷ new) line e h =
      λ i. h zero (omega arith) i ++ new_at p old new line e (λ q apart. h (suc q) (omega arith)) i

-- ---- the placement that an entry stands for

abbrev pub placed : ServerIdentity → ℕ → ℕ → List Client → Job → Subscription → Placement
placed server now shard clients job u = record {
  step = now;
  life = record { node = server.me; inc = server.inc; sub = closings.id_of shard u.serial };
  conn = u.conn;
  id = job.id;
  mode = mode_of u.key.queue;
  bytes =
      bytes_of (due_line job.message u.sid (takes_headers u.conn clients))
      (Some (due_body job.message (takes_headers u.conn clients)));
  headers = takes_headers u.conn clients;
}

entries_placed : (server : ServerIdentity) (now shard conn : ℕ) (clients : List Client) (job : Job)
    (us : List Subscription)
    → placements_of server now conn (takes_headers conn clients)
    (entries_for_job shard clients (Some job) (filter (is_of conn) us))
    ≡ map (placed server now shard clients job) (filter (is_of conn) us)
entries_placed server now shard conn clients job [] = refl
entries_placed server now shard conn clients job (u ∷ us) =
    go (nat_eq u.conn conn) refl (entries_placed server now shard conn clients job us)
  where
    go : (b : Bool)
        → nat_eq u.conn conn ≡ b
        → placements_of server now conn (takes_headers conn clients)
        (entries_for_job shard clients (Some job) (filter (is_of conn) us))
        ≡ map (placed server now shard clients job) (filter (is_of conn) us)
        → placements_of server now conn (takes_headers conn clients)
        (entries_for_job shard clients (Some job) (cond b (u ∷ filter (is_of conn) us) (filter (is_of conn) us)))
        ≡ map (placed server now shard clients job) (cond b (u ∷ filter (is_of conn) us) (filter (is_of conn) us))
    go false e below = below
    go true e below = λ i.
        record (placed server now shard clients job u) {
          conn = sym (eq_true u.conn conn e) i;
          headers = takes_headers (sym (eq_true u.conn conn e) i) clients;
        }
        ∷ below i

-- ---- who was given a message

no_job : (s : State) (e : of_shard.Event) → job_by s e ≡ None → given_by s e ≡ []
no_job s of_shard.Attach h = refl
no_job s (of_shard.Subscribe conn key sid) h = refl
no_job s (of_shard.Unsubscribe conn sid max) h = refl
no_job s (of_shard.Reply conn frame) h = refl
no_job s (of_shard.Shut conn text) h = refl
no_job s (of_shard.Detach conn) h = refl
no_job s (of_shard.SetHeaders conn on) h = refl
no_job s (of_shard.Take conn count) h = refl
no_job s (of_shard.Begin job) h = absurd (none-some job (sym h))
no_job s (of_shard.Claim index won) h = ap (λ t. given_by_claim t (candidate_of s t index) won) h
no_job s of_shard.End h = refl
no_job s (of_shard.DropJob waiting) h = refl
no_job s of_shard.Drain h = refl
no_job s of_shard.Collect h = refl

-- none twice
abbrev Apart : List Subscription → Type 0
Apart us = Pairs (λ u v. u.serial ≢ v.serial) us

by_claim : (hand : Option Job) (u : Option Subscription) (won : Bool) → Apart (given_by_claim hand u won)
by_claim None u won = tt
by_claim (Some job) None won = tt
by_claim (Some job) (Some u) true = ((λ v i. absurd i), tt)
by_claim (Some job) (Some u) false = tt

given_apart : (s : State) (e : of_shard.Event) → Pairs (λ j k. j ≢ k) (serials_of s.subs) → Apart (given_by s e)
given_apart s of_shard.Attach apart = tt
given_apart s (of_shard.Subscribe conn key sid) apart = tt
given_apart s (of_shard.Unsubscribe conn sid max) apart = tt
given_apart s (of_shard.Reply conn frame) apart = tt
given_apart s (of_shard.Shut conn text) apart = tt
given_apart s (of_shard.Detach conn) apart = tt
given_apart s (of_shard.SetHeaders conn on) apart = tt
given_apart s (of_shard.Take conn count) apart = tt
given_apart s (of_shard.Begin job) apart =
    let g = walk_gives s job (filter (is_due job) s.subs) (first_step s.clients) in
    subst Apart (sym g.given)
    (pairs_sub (λ u v. u.serial ≢ v.serial) g.new (filter (is_due job) s.subs) g.some
    (pairs_filter (λ u v. u.serial ≢ v.serial) (is_due job) s.subs
    (pairs_map_back (λ j k. j ≢ k) serial_of s.subs apart)))
given_apart s (of_shard.Claim index won) apart = by_claim s.hand (candidate_of s s.hand index) won
given_apart s of_shard.End apart = tt
given_apart s (of_shard.DropJob waiting) apart = tt
given_apart s of_shard.Drain apart = tt
given_apart s of_shard.Collect apart = tt

-- ---- the order between connections is open

-- entries that stand so to one another of each key, and of different keys anyway
by_key : {A : Type 0} (R : A → A → Type 0) (key : A → ℕ) (xs : List A)
    → ((k : ℕ) → Pairs R (filter (λ x. nat_eq (key x) k) xs))
    → ((x y : A) → In x xs → In y xs → key x ≢ key y → R x y)
    → Pairs R xs
by_key R key [] h apart = tt
by_key {A} R key (x ∷ xs) h apart = (
  first,
  by_key R key xs (λ k. pairs_one R (nat_eq (key x) k) x (filter (λ y. nat_eq (key y) k) xs) (h k))
      (λ a b i j. apart a b (inr i) (inr j)),
)
  where
    first : Each (R x) xs
    first y i = go (nat_eq (key y) (key x)) refl
      where
        go : (b : Bool) → nat_eq (key y) (key x) ≡ b → R x y
        go true e =
            (subst (λ t.
            Pairs R (cond t (x ∷ filter (λ z. nat_eq (key z) (key x)) xs) (filter (λ z. nat_eq (key z) (key x)) xs)))
            (true_eq (key x) (key x) refl) (h (key x))).0
            y (filter_in (λ z. nat_eq (key z) (key x)) xs y i e)
        go false e = apart x y (inl refl) (inr i) (λ f. eq_false (key y) (key x) e (sym f))

pub record Chosen (f : Subscription → Placement) (given : List Subscription) (gained : List Placement) : Type 0 where
  pub subs : List Subscription
  pub are : gained ≡ map f subs
  pub these : AreThese given subs

module _ (server : ServerIdentity) (now shard : ℕ) (clients : List Client) (job : Job) (given : List Subscription)
    (gained : List Placement)
    (h : (k : ℕ) → filter (is_on k) gained ≡ map (placed server now shard clients job) (filter (is_of k) given))
    (distinct : Apart given) where
  abbrev f : Subscription → Placement
  f = placed server now shard clients job

  each : Each (λ p. (u : Subscription) × In u given × (p ≡ placed server now shard clients job u)) gained
  each p i =
      let m = in_map (placed server now shard clients job) (filter (is_of p.conn) given) p
      (subst (In p) (h p.conn) (filter_in (is_on p.conn) gained p i (true_eq p.conn p.conn refl))) in
      (m.0, (in_filter (is_of p.conn) given m.0 m.1).0, m.2)

  one_of : (u v : Subscription) → In u given → In v given → u.serial ≡ v.serial → u ≡ v
  one_of u v i j e =
      ⊎_elim (λ (q : u ≡ v). q)
      (λ r. ⊎_elim (λ (d : u.serial ≢ v.serial). absurd (d e)) (λ (d : v.serial ≢ u.serial). absurd (d (sym e))) r)
      (pairs_cases (λ u v. u.serial ≢ v.serial) given distinct u v i j)

  from : (subs : List Subscription)
      → gained ≡ map (placed server now shard clients job) subs
      → Each (λ u. In u given) subs
      → Chosen (placed server now shard clients job) given gained
  from subs are some = record { subs = subs; are = are; these = record { some = some; all = all; once = once } }
    where
      all : Each (λ u. In u subs) given
      all u i =
          let there =
          (in_filter (is_on u.conn) gained (placed server now shard clients job u)
          (subst (In (placed server now shard clients job u)) (sym (h u.conn))
          (in_mapped (placed server now shard clients job) (filter (is_of u.conn) given) u
          (filter_in (is_of u.conn) given u i (true_eq u.conn u.conn refl))))).0 in
          let m = in_map (placed server now shard clients job) subs (placed server now shard clients job u)
          (subst (In (placed server now shard clients job u)) are there) in
          subst (λ v. In v subs) (sym (one_of u m.0 i (some m.0 m.1) (ap (λ (p : Placement). p.life.sub.serial) m.2)))
          m.1

      at : (k : ℕ)
          → map (placed server now shard clients job) (filter (is_of k) given)
          ≡ map (placed server now shard clients job) (filter (is_of k) subs)
      at k =
          sym (h k)
          ∙ ap (filter (is_on k)) are
          ∙ map_filter (placed server now shard clients job) (is_of k) (is_on k) subs (λ u. refl)

      once : Pairs (λ u v. u.serial ≢ v.serial) subs
      once =
          by_key (λ u v. u.serial ≢ v.serial) (λ u. u.conn) subs
          (λ k.
          pairs_map_back (λ p q. p.life.sub.serial ≢ q.life.sub.serial) (placed server now shard clients job)
          (filter (is_of k) subs)
          (subst (Pairs (λ p q. p.life.sub.serial ≢ q.life.sub.serial)) (at k)
          (pairs_map (λ p q. p.life.sub.serial ≢ q.life.sub.serial) (placed server now shard clients job)
          (filter (is_of k) given) (pairs_filter (λ u v. u.serial ≢ v.serial) (is_of k) given distinct))))
          (λ u v i j apart e. apart (ap (λ (x : Subscription). x.conn) (one_of u v (some u i) (some v j) e)))

  pub chosen : Chosen (placed server now shard clients job) given gained
  chosen = let c = choose (placed server now shard clients job) given gained each in from c.0 c.1 c.2

-- without any, none
none_gained : (gained : List Placement) → ((k : ℕ) → filter (is_on k) gained ≡ []) → gained ≡ []
none_gained [] h = refl
none_gained (p ∷ ps) h =
    absurd (subst (In p) (h p.conn) (filter_in (is_on p.conn) (p ∷ ps) p (inl refl) (true_eq p.conn p.conn refl)))

-- ---- the law's placements

same_bytes : (line payload end : List ℕ) → (line ++ end) ++ (payload ++ end) ≡ line ++ (end ++ (payload ++ end))
same_bytes line payload end = append_assoc line end (payload ++ end)

seen_placed : (c : Cluster) (n inc now shard place : ℕ) (clients : List Client) (job : Job)
    → shard ≡ suc place
    → (us : List Subscription)
    → Along (SeesPlacement c) (map (placed (server_at c n inc) now shard clients job) us)
    (map (law_shard.placement n inc place now (job_of (id_of (server_at c n inc)) n inc job)) (map sub_of us))
seen_placed c n inc now shard place clients job e [] = tt
seen_placed c n inc now shard place clients job e (u ∷ us) = (
  record {
    id = refl;
    life = λ i. record { node = n; inc = inc; sub = record { shard = e i; serial = u.serial } };
    conn = refl;
    mode = refl;
    step = refl;
    bytes =
        append_assoc (due_line job.message u.sid (takes_headers u.conn clients)) (13 ∷ 10 ∷ [])
        (due_body job.message (takes_headers u.conn clients) ++ 13 ∷ 10 ∷ []);
  },
  seen_placed c n inc now shard place clients job e us,
)

-- ---- a step of a server

part_line_at : (lines : List ShardWithJobs) (place : ℕ) (event : ShardWithJobs → Option of_shard.Event) (b : Bool)
    (p : Part)
    → part_at place event (cond b None (slice_get lines place)) ≡ Some p
    → slice_get lines p.place ≡ Some p.line
part_line_at lines place event true p e = absurd (none-some p e)
part_line_at lines place event false p e = go (slice_get lines place) refl e
  where
    go : (o : Option ShardWithJobs)
        → slice_get lines place ≡ o
        → part_at place event o ≡ Some p
        → slice_get lines p.place ≡ Some p.line
    go None at f = absurd (none-some p f)
    go (Some line) at f = by (event line) refl f
      where
        by : (ev : Option of_shard.Event)
            → event line ≡ ev
            → part_at place event (Some line) ≡ Some p
            → slice_get lines p.place ≡ Some p.line
        by None is g = absurd (none-some p (sym (ap (λ t. part_if place line t) is) ∙ g))
        by (Some x) is g =
            subst (λ (q : Part). slice_get lines q.place ≡ Some q.line)
            (same_Some (record { place = place; line = line; event = x }) p
            (sym (ap (λ t. part_if place line t) is) ∙ g))
            at

pub part_line : (server : ServerIdentity) (a : Node) (e : NodeEvent) (won : Bool) (p : Part)
    → part_of server a e won ≡ Some p
    → slice_get a.lines p.place ≡ Some p.line
part_line server a (Own (OfConn conn event)) won p e =
    part_line_at a.lines (conn_place server conn) (λ line. Some (conn_event conn event)) (nat_eq conn 0) p e
part_line server a (Own (AtShard shard work)) won p e =
    part_line_at a.lines (shard - 1) (work_event work won) (nat_eq shard 0) p e
part_line server a (Own (Publish q)) won p e = absurd (none-some p e)
part_line server a (Own (Collect shard)) won p e = absurd (none-some p e)
part_line server a (Own Drain) won p e = absurd (none-some p e)
part_line server a (Own (Dial q)) won p e = absurd (none-some p e)
part_line server a (Own Accept) won p e = absurd (none-some p e)
part_line server a (Own (CutSession session)) won p e = absurd (none-some p e)
part_line server a (Own (TakeFrames q count)) won p e = absurd (none-some p e)
part_line server a (Receive frame) won p e = absurd (none-some p e)
part_line server a (OnInfo session info) won p e = absurd (none-some p e)
part_line server a (OnConnect session connect) won p e = absurd (none-some p e)

-- those to whom it gives a message, in an order in which its placements may be listed
pub record Gives (c : Cluster) (n inc now : ℕ) (part : Option Part) (gained : List Placement) : Type 0 where
  pub subs : List Subscription
  pub these : AreThese (given_at part) subs
  pub placements : Along (SeesPlacement c) gained (placements_at (server_at c n inc) now part subs)

pub node_gives : MessagesAreGiven
    → (c : Cluster) (n inc now : ℕ) (a b : Node) (e : NodeEvent) (won : Bool) (race : RaceState)
    (gained : List Placement)
    → SoundNode (server_at c n inc) a
    → NodeStep (server_at c n inc) a e won race b
    → AreGained (server_at c n inc) now a.lines b.lines gained
    → Gives c n inc now (part_of (server_at c n inc) a e won) gained
node_gives given c n inc now a b e won race gained sound step g = go (part_of (server_at c n inc) a e won) refl
  where
    news_are : (headers : Bool) (q conn : ℕ)
        → placements_of (server_at c n inc) now conn headers (news a.lines b.lines q conn)
        ≡ placements_of (server_at c n inc) now conn headers (messages_at (part_of (server_at c n inc) a e won) q conn)
    news_are headers q conn =
        of_messages (server_at c n inc) now conn headers (news a.lines b.lines q conn)
        ∙ ap (placements_of (server_at c n inc) now conn headers) (given (server_at c n inc) a e won race b q conn step)

    go : (o : Option Part) → part_of (server_at c n inc) a e won ≡ o → Gives c n inc now o gained
    go None is =
        let none : gained ≡ [] = none_gained gained (λ conn.
        g.outboxes conn
        ∙ nothing_new (server_at c n inc) now conn a.lines b.lines (λ q.
        news_are (takes_in conn (slice_get a.lines q)) q conn
        ∙ ap
        (λ o. placements_of (server_at c n inc) now conn (takes_in conn (slice_get a.lines q)) (messages_at o q conn))
        is)) in
        record {
          subs = [];
          these = record { some = λ u i. absurd i; all = λ u i. absurd i; once = tt };
          placements = subst (λ t. Along (SeesPlacement c) t []) (sym none) tt;
        }
    go (Some p) is = by (job_by p.line.shard p.event) refl
      where
        at : slice_get a.lines p.place ≡ Some p.line
        at = part_line (server_at c n inc) a e won p is

        takes : ℕ → Bool
        takes conn = takes_headers conn p.line.shard.clients

        per : (conn : ℕ)
            → filter (is_on conn) gained
            ≡ placements_of (server_at c n inc) now conn (takes conn)
            (entries_for_job p.line.shard.shard p.line.shard.clients (job_by p.line.shard p.event)
            (filter (is_of conn) (given_by p.line.shard p.event)))
        per conn =
            g.outboxes conn
            ∙ new_at (server_at c n inc) now conn p.place a.lines b.lines p.line at (λ q apart.
            news_are (takes_in conn (slice_get a.lines q)) q conn
            ∙ ap (λ o.
            placements_of (server_at c n inc) now conn (takes_in conn (slice_get a.lines q)) (messages_at o q conn))
            is
            ∙ ap (λ t.
            placements_of (server_at c n inc) now conn (takes_in conn (slice_get a.lines q))
            (cond t
            (entries_for_job p.line.shard.shard p.line.shard.clients (job_by p.line.shard p.event)
            (filter (is_of conn) (given_by p.line.shard p.event)))
            []))
            (false_eq p.place q (λ f. apart (sym f))))
            ∙ news_are (takes conn) p.place conn
            ∙ ap (λ o. placements_of (server_at c n inc) now conn (takes conn) (messages_at o p.place conn)) is
            ∙ ap (λ t.
            placements_of (server_at c n inc) now conn (takes conn)
            (cond t
            (entries_for_job p.line.shard.shard p.line.shard.clients (job_by p.line.shard p.event)
            (filter (is_of conn) (given_by p.line.shard p.event)))
            []))
            (true_eq p.place p.place refl)

        by : (j : Option Job) → job_by p.line.shard p.event ≡ j → Gives c n inc now (Some p) gained
        by None f =
            let none : gained ≡ [] = none_gained gained (λ conn.
            per conn
            ∙ ap (λ j.
            placements_of (server_at c n inc) now conn (takes conn)
            (entries_for_job p.line.shard.shard p.line.shard.clients j
            (filter (is_of conn) (given_by p.line.shard p.event))))
            f) in
            let empty : given_by p.line.shard p.event ≡ [] = no_job p.line.shard p.event f in
            record {
              subs = [];
              these = record { some = λ u i. absurd i; all = λ u i. absurd (subst (In u) empty i); once = tt };
              placements =
                  subst (λ t.
                  Along (SeesPlacement c) t
                  (placements_for (id_of (server_at c n inc)) n inc now p.place (job_by p.line.shard p.event) []))
                  (sym none)
                  (subst
                  (λ j. Along (SeesPlacement c) [] (placements_for (id_of (server_at c n inc)) n inc now p.place j []))
                  (sym f) tt);
            }
        by (Some job) f =
            let r = chosen (server_at c n inc) now p.line.shard.shard p.line.shard.clients job
            (given_by p.line.shard p.event) gained
            (λ conn.
            per conn
            ∙ ap (λ j.
            placements_of (server_at c n inc) now conn (takes conn)
            (entries_for_job p.line.shard.shard p.line.shard.clients j
            (filter (is_of conn) (given_by p.line.shard p.event))))
            f
            ∙ entries_placed (server_at c n inc) now p.line.shard.shard conn p.line.shard.clients job
            (given_by p.line.shard p.event))
            (given_apart p.line.shard p.event (sound.lines p.place p.line at).sound.apart) in
            record {
              subs = r.subs;
              these = r.these;
              placements =
                  subst (λ t.
                  Along (SeesPlacement c) t
                  (placements_for (id_of (server_at c n inc)) n inc now p.place (job_by p.line.shard p.event) r.subs))
                  (sym r.are)
                  (subst (λ j.
                  Along (SeesPlacement c)
                  (map (placed (server_at c n inc) now p.line.shard.shard p.line.shard.clients job) r.subs)
                  (placements_for (id_of (server_at c n inc)) n inc now p.place j r.subs))
                  (sym f)
                  (seen_placed c n inc now p.line.shard.shard p.place p.line.shard.clients job
                  (sound.lines p.place p.line at).number r.subs));
            }
