-- A publish, a message that is taken, and what else moves the marks, keep what holds of publications, messages and
-- jobs.
use Rattle.std.proofs.Common.{◌≡◌, ◌≢◌, ◌⊎◌, ℕ, suc, ◌<◌, ◌≤◌, List, [], ◌∷◌, ◌++◌, set, Some, refl, sym, ap, ◌∙◌, subst, inl, inr, ⊎_elim, arith}
use Rattle.std.specs.Prelude.{slice_get}
use Rattle.list_laws.specs.Lists.{In, Each, Pairs, Disjoint}
use Rattle.cluster_law.specs.Names.{Bytes, PubId}
use Rattle.cluster_law.specs.Messages.{Content, Routed, messages}
use Rattle.cluster_law.specs.Config.{Config, every_rule}
use Rattle.cluster_law.specs.History.{Job, Output}
use Rattle.cluster_law.specs.Hub.{Peer, Hub, new_peer, Known, HubReceives, next_id}
use Rattle.cluster_law.specs.Node.{Node, next_publication, next_job, Publishes, Receives}
use Rattle.cluster_law.specs.Cluster.{World}
use Rattle.list_laws.proofs.Lists.{each_one, in_left, in_right, each_append, pairs_cases, read_set, moved}
use Rattle.cluster_law.proofs.Kept.Invariants.{HasPublication, RoutedApart, Local, Remote, JobOk, JobsApart, PublicationOk, Passed, HubIs, HubOk, Hubs}
use Rattle.cluster_law.proofs.Kept.Hubs.{Adds, has_pub_more, messages_map}

-- A publish

-- the next number was not given yet
fresh : (w : World) (n : ℕ) (a : Node) (content : Content) (id : PubId)
    → HubOk w n a
    → HasPublication w.past.publications id content
    → id.origin ≡ n
    → id.inc ≡ a.inc
    → id.number ≤ a.hub.published
fresh w n a content id k p o i =
    let le = k.numbers p.source p.source_in (ap (λ (x : PubId). x.origin) p.source_id ∙ o)
    (ap (λ (x : PubId). x.inc) p.source_id ∙ i) in
    subst (λ (x : PubId). x.number ≤ a.hub.published) p.source_id le

not_new : (w : World) (n : ℕ) (a : Node) (content : Content) (id : PubId)
    → HubOk w n a
    → HasPublication w.past.publications id content
    → id ≡ next_id n a.inc a.hub
    → ⊥
not_new w n a content id k p e =
    let le = fresh w n a content id k p (ap (λ (x : PubId). x.origin) e) (ap (λ (x : PubId). x.inc) e) in
    let is = ap (λ (x : PubId). x.number) e in
    omega arith

frames_pairs : (p : PubId) (fs : List Routed)
    → Pairs (λ f g. (f.to ≢ g.to) × Disjoint f.names g.names) fs
    → Pairs RoutedApart fs
frames_pairs p [] q = tt
frames_pairs p (f ∷ fs) q = (
  (λ g i. record { other = λ e. (q.0 g i).0; names = λ e. (q.0 g i).1 }),
  frames_pairs p fs q.1,
)

pub publishes : (c : Config) (w : World) (n : ℕ) (a : Node) (content : Content) (out : Output) (b : Node)
    (s : Publishes every_rule c n (suc w.step) a content out b)
    → Hubs c.queue_names w
    → HubOk w n a
    → Adds c.queue_names w n b out s.frames
publishes c w n a content out b s h k =
    let p = next_publication n (suc w.step) a content in
    let j = next_job n a p.id content s.names in
    let limit = c.queue_names in
    let q = s.publishes in
    let its : (x : PubId) (t : Content) → x ≡ p.id → t ≡ content → HasPublication (w.past.publications ++ p ∷ []) x t =
    λ x t e f. record {
      source = p;
      source_in = in_right p w.past.publications (p ∷ []) (inl refl);
      source_id = sym e;
      source_content = sym f;
    } in
    let issued = s.issues.issued in
    moved (λ (x : Node) (o : Output). Adds limit w n x o s.frames) b _ out _ s.after s.out_is (record {
      frames_are = messages_map s.frames;
      pubs =
          each_one (λ r. (r.id.origin ≡ n) × PublicationOk w.past.started (suc w.step) r) p
          (refl, record { started = k.started; before = omega arith });
      ids = ((λ r i. absurd i), tt);
      ids_cross = λ r t i l.
          each_one (λ t. r.id ≢ t.id) p
          (λ e.
          not_new w n a r.content r.id k (record { source = r; source_in = i; source_id = refl; source_content = refl })
          e)
          t l;
      frames_ok = λ f i.
          let o = q.frames_of f i in
          record { published = its f.id f.content o.id o.content; once = o.once; few = q.few_in_frame f i };
      frames_apart = frames_pairs p.id s.frames q.frames_apart;
      frames_cross = λ f g i l.
          let old = (h.frames f i).published in
          record {
            other = λ e. absurd (not_new w n a f.content f.id k old (e ∙ (q.frames_of g l).id));
            names = λ e. absurd (not_new w n a f.content f.id k old (e ∙ (q.frames_of g l).id));
          };
      jobs =
          each_one (λ i.
          (i.node ≡ n)
          × JobOk limit (w.past.publications ++ p ∷ []) w.past.started (messages w.past.sent ++ s.frames) i)
          j (
            refl,
            record {
              published = its p.id content refl refl;
              once = q.once;
              few = q.few;
              started = k.started;
              source =
                  inl (record {
                    node = refl;
                    inc = refl;
                    names =
                        each_append (λ f. f.id ≡ p.id → Disjoint f.names s.names) (messages w.past.sent) s.frames
                        (λ f i e. absurd (not_new w n a f.content f.id k (h.frames f i).published e))
                        (λ f i e. q.job_apart f i);
                  });
            },
          );
      jobs_apart = ((λ i l. absurd l), tt);
      jobs_cross = λ i m l.
          each_one (JobsApart i) j
          (record {
            turn = λ at my. let le = k.turns i l at my in omega arith;
            number = λ at my o e. let le = fresh w n a i.content i.id k (h.jobs i l).published o e in omega arith;
            names = λ e. absurd (not_new w n a i.content i.id k (h.jobs i l).published e);
            node = λ e. absurd (not_new w n a i.content i.id k (h.jobs i l).published e);
          })
          m;
      local =
          λ i f l m e. absurd (not_new w n a i.content i.id k (h.jobs i l).published (sym e ∙ (q.frames_of f m).id));
      hub = λ up.
          subst (λ (x : Hub).
          HubIs w.past.started (w.past.publications ++ p ∷ []) (w.past.jobs ++ j ∷ []) n a.inc x s.race.issued)
          (sym q.after) (record {
            started = k.started;
            numbers =
                each_append (λ r. r.id.origin ≡ n → r.id.inc ≡ a.inc → r.id.number ≤ suc a.hub.published)
                w.past.publications (p ∷ []) (λ r i o e. let le = k.numbers r i o e in omega arith)
                (each_one (λ r. r.id.origin ≡ n → r.id.inc ≡ a.inc → r.id.number ≤ suc a.hub.published) p
                (λ o e. omega arith));
            turns =
                each_append (λ i. i.node ≡ n → i.inc ≡ a.inc → i.turn ≤ s.race.issued) w.past.jobs (j ∷ [])
                (λ i l at my. let le = k.turns i l at my in omega arith)
                (each_one (λ i. i.node ≡ n → i.inc ≡ a.inc → i.turn ≤ s.race.issued) j (λ at my. omega arith));
            marks = λ o r e.
                each_append (λ i. i.node ≡ n → i.inc ≡ a.inc → o ≢ n → i.id.origin ≡ o → Passed r i.id) w.past.jobs
                (j ∷ []) (k.marks o r e)
                (each_one (λ i. i.node ≡ n → i.inc ≡ a.inc → o ≢ n → i.id.origin ≡ o → Passed r i.id) j
                (λ at my other same. absurd (other (sym same))));
          });
    })

-- Marks

-- what was passed is passed also where a greater incarnation begins anew
pub passed_known : (peer base : Peer) (inc : ℕ) (id : PubId)
    → Known every_rule peer inc base
    → Passed peer id
    → Passed base id
passed_known peer base inc id known p =
    ⊎_elim (λ (k : (inc ≢ peer.seen) × (peer.seen < inc) × (base ≡ new_peer inc)).
    let lt = k.1 in
    subst (λ (x : Peer). Passed x id) (sym k.2)
    (inl (⊎_elim (λ (v : id.inc < peer.seen). omega arith)
    (λ (v : (id.inc ≡ peer.seen) × (id.number ≤ peer.mark)). omega arith) p)))
    (λ (k : (inc ≡ peer.seen) × (base ≡ peer)). subst (λ (x : Peer). Passed x id) (sym k.1) p) known

pub known_seen : (peer base : Peer) (inc : ℕ) → Known every_rule peer inc base → base.seen ≡ inc
known_seen peer base inc known =
    ⊎_elim (λ (k : (inc ≢ peer.seen) × (peer.seen < inc) × (base ≡ new_peer inc)). ap (λ (x : Peer). x.seen) k.2)
    (λ (k : (inc ≡ peer.seen) × (base ≡ peer)). ap (λ (x : Peer). x.seen) k.1 ∙ sym k.0) known

-- a greater mark passes no less
pub passed_mark : (base : Peer) (mark heard : ℕ) (id : PubId)
    → base.mark ≤ mark
    → Passed base id
    → Passed (record base { mark = mark }) id
passed_mark base mark heard id le p =
    ⊎_elim (λ (v : id.inc < base.seen). inl v)
    (λ (v : (id.inc ≡ base.seen) × (id.number ≤ base.mark)). inr (v.0, omega arith)) p

rises : (base : Peer) (old new : PubId)
    → Passed base old
    → base.seen ≡ new.inc
    → base.mark < new.number
    → old.inc ≡ new.inc
    → old.number < new.number
rises base old new p seen above e =
    ⊎_elim (λ (v : old.inc < base.seen). absurd (omega arith))
    (λ (v : (old.inc ≡ base.seen) × (old.number ≤ base.mark)). omega arith) p

-- the marks of a hub after what it knows of one origin has changed
pub marks_set : (jobs : List Job) (n inc : ℕ) (hub : Hub) (origin : ℕ) (new : Peer)
    → ((o : ℕ) (p : Peer) → o ≢ origin → slice_get hub.peers o ≡ Some p
    → Each (λ j. j.node ≡ n → j.inc ≡ inc → o ≢ n → j.id.origin ≡ o → Passed p j.id) jobs)
    → Each (λ j. j.node ≡ n → j.inc ≡ inc → origin ≢ n → j.id.origin ≡ origin → Passed new j.id) jobs
    → (o : ℕ) (p : Peer)
    → slice_get (set hub.peers origin new) o ≡ Some p
    → Each (λ j. j.node ≡ n → j.inc ≡ inc → o ≢ n → j.id.origin ≡ o → Passed p j.id) jobs
marks_set jobs n inc hub origin new old this =
    read_set (λ o q. Each (λ i. i.node ≡ n → i.inc ≡ inc → o ≢ n → i.id.origin ≡ o → Passed q i.id) jobs) hub.peers
    origin new old this

-- A message that is taken

pub turned : {A : Type 0} (xs ys : List A) → Disjoint xs ys → Disjoint ys xs
turned xs ys d x i k = d x k i

-- its job and an older job
received_apart : (limit : ℕ) (w : World) (n : ℕ) (a : Node) (f : Routed) (hub : Hub)
    → Hubs limit w
    → HubOk w n a
    → In f (messages w.past.sent)
    → HubReceives every_rule n a.inc a.hub f hub
    → (i : Job)
    → In i w.past.jobs
    → JobsApart i (next_job n a f.id f.content f.names)
received_apart limit w n a f hub h k sent r i l =
    let me = r.for_me.me in
    let my_inc = r.for_me.my_inc in
    let other = r.for_me.other in
    let number : i.node ≡ n
    → i.inc ≡ a.inc
    → i.id.origin ≡ f.id.origin
    → i.id.inc ≡ f.id.inc
    → i.id.number < f.id.number = λ at my o e.
    rises r.base i.id f.id
    (passed_known r.peer r.base f.id.inc i.id r.known (k.marks f.id.origin r.peer r.peer_is i l at my other o))
    (known_seen r.peer r.base f.id.inc r.known) r.above e in
    -- the older job was for another frame
    let not_same : (x : Remote (messages w.past.sent) i) → i.id ≡ f.id → x.frame ≡ f → ⊥ = λ x e same.
    let lt = number (sym x.to ∙ ap (λ (g : Routed). g.to) same ∙ me)
    (sym x.to_inc ∙ ap (λ (g : Routed). g.to_inc) same ∙ my_inc) (ap (λ (d : PubId). d.origin) e)
    (ap (λ (d : PubId). d.inc) e) in
    let is = ap (λ (d : PubId). d.number) e in
    omega arith in
    let two : (x : Remote (messages w.past.sent) i) → i.id ≡ f.id → RoutedApart x.frame f ⊎ RoutedApart f x.frame =
    λ x e.
    ⊎_elim (λ (same : x.frame ≡ f). absurd (not_same x e same))
    (λ (v : RoutedApart x.frame f ⊎ RoutedApart f x.frame). v)
    (pairs_cases RoutedApart (messages w.past.sent) h.frames_apart x.frame f x.frame_in sent) in
    record {
      turn = λ at my. let le = k.turns i l at my in omega arith;
      number = number;
      names = λ e.
          ⊎_elim (λ (x : Local (messages w.past.sent) i). turned f.names i.names (x.names f sent (sym e)))
          (λ (x : Remote (messages w.past.sent) i).
          subst (λ (ns : List Bytes). Disjoint ns f.names) x.names
          (⊎_elim (λ (v : RoutedApart x.frame f). v.names (x.id ∙ e))
          (λ (v : RoutedApart f x.frame). turned f.names x.frame.names (v.names (sym e ∙ sym x.id))) (two x e)))
          (h.jobs i l).source;
      node = λ e at.
          ⊎_elim (λ (x : Local (messages w.past.sent) i). other (sym (ap (λ (d : PubId). d.origin) e) ∙ x.node ∙ at))
          (λ (x : Remote (messages w.past.sent) i).
          ⊎_elim (λ (v : RoutedApart x.frame f). v.other (x.id ∙ e) (x.to ∙ at ∙ sym me))
          (λ (v : RoutedApart f x.frame). v.other (sym e ∙ sym x.id) (me ∙ sym at ∙ sym x.to)) (two x e))
          (h.jobs i l).source;
    }

pub receives : (c : Config) (w : World) (n : ℕ) (a : Node) (f : Routed) (out : Output) (b : Node)
    → Receives every_rule c n a f out b
    → Hubs c.queue_names w
    → HubOk w n a
    → In f (messages w.past.sent)
    → Adds c.queue_names w n b out []
receives c w n a f out b s h k sent =
    let j = next_job n a f.id f.content f.names in
    let limit = c.queue_names in
    let r = s.receives in
    let issued = s.issues.issued in
    let above = r.above in
    let seen = known_seen r.peer r.base f.id.inc r.known in
    let new : Peer = record r.base { mark = f.id.number } in
    moved (λ (x : Node) (o : Output). Adds limit w n x o []) b _ out _ s.after s.out_is (record {
      frames_are = refl;
      pubs = λ p i. absurd i;
      ids = tt;
      ids_cross = λ p q i l. absurd l;
      frames_ok = λ g i. absurd i;
      frames_apart = tt;
      frames_cross = λ g e i l. absurd l;
      jobs =
          each_one
          (λ i. (i.node ≡ n) × JobOk limit (w.past.publications ++ []) w.past.started (messages w.past.sent ++ []) i)
          j (
            refl,
            record {
              published = has_pub_more w.past.publications [] f.id f.content (h.frames f sent).published;
              once = (h.frames f sent).once;
              few = (h.frames f sent).few;
              started = k.started;
              source =
                  inr (record {
                    other = r.for_me.other;
                    frame = f;
                    frame_in = in_left f (messages w.past.sent) [] sent;
                    id = refl;
                    to = r.for_me.me;
                    to_inc = r.for_me.my_inc;
                    names = refl;
                  });
            },
          );
      jobs_apart = ((λ i l. absurd l), tt);
      jobs_cross = λ i m l. each_one (JobsApart i) j (received_apart limit w n a f s.hub h k sent r i l) m;
      local = λ i g l m. absurd m;
      hub = λ up.
          subst (λ (x : Hub).
          HubIs w.past.started (w.past.publications ++ []) (w.past.jobs ++ j ∷ []) n a.inc x s.race.issued)
          (sym r.after) (record {
            started = k.started;
            numbers =
                each_append (λ q. q.id.origin ≡ n → q.id.inc ≡ a.inc → q.id.number ≤ a.hub.published)
                w.past.publications [] k.numbers (λ q i. absurd i);
            turns =
                each_append (λ i. i.node ≡ n → i.inc ≡ a.inc → i.turn ≤ s.race.issued) w.past.jobs (j ∷ [])
                (λ i l at my. let le = k.turns i l at my in omega arith)
                (each_one (λ i. i.node ≡ n → i.inc ≡ a.inc → i.turn ≤ s.race.issued) j (λ at my. omega arith));
            marks =
                marks_set (w.past.jobs ++ j ∷ []) n a.inc a.hub f.id.origin new
                (λ o q apart e.
                each_append (λ i. i.node ≡ n → i.inc ≡ a.inc → o ≢ n → i.id.origin ≡ o → Passed q i.id) w.past.jobs
                (j ∷ []) (k.marks o q e)
                (each_one (λ i. i.node ≡ n → i.inc ≡ a.inc → o ≢ n → i.id.origin ≡ o → Passed q i.id) j
                (λ at my far same. absurd (apart (sym same)))))
                (each_append
                (λ i. i.node ≡ n → i.inc ≡ a.inc → f.id.origin ≢ n → i.id.origin ≡ f.id.origin → Passed new i.id)
                w.past.jobs (j ∷ [])
                (λ i l at my far same.
                passed_mark r.base f.id.number 0 i.id (omega arith)
                (passed_known r.peer r.base f.id.inc i.id r.known
                (k.marks f.id.origin r.peer r.peer_is i l at my far same)))
                (each_one
                (λ i. i.node ≡ n → i.inc ≡ a.inc → f.id.origin ≢ n → i.id.origin ≡ f.id.origin → Passed new i.id) j
                (λ at my far same. inr (sym seen, omega arith))));
          });
    })
