-- What holds of publications, messages and jobs is kept.
use Rattle.std.proofs.Common.{◌≡◌, ◌≢◌, ◌⊎◌, ℕ, suc, ◌≤◌, List, [], ◌∷◌, ◌++◌, map, true, true≢false, refl, sym, ap, ◌∙◌, subst, inl, inr, ⊎_elim, arith, Some}
use Rattle.std.specs.Prelude.{slice_get}
use Rattle.list_laws.specs.Lists.{In, Each, Pairs, Disjoint}
use Rattle.cluster_law.specs.Names.{PubId}
use Rattle.cluster_law.specs.Messages.{Content, Publication, Routed, Frame, Message, Interest, Greeting, messages}
use Rattle.cluster_law.specs.History.{Job, Output}
use Rattle.cluster_law.specs.Hub.{Peer, Hub}
use Rattle.cluster_law.specs.Node.{Node}
use Rattle.cluster_law.specs.Cluster.{World, world_with, no_node}
use Rattle.list_laws.proofs.Lists.{in_left, each_append, pairs_append, read_set}
use Rattle.cluster_law.proofs.Kept.Invariants.{HasPublication, RoutedOk, RoutedApart, Local, Remote, JobOk, JobsApart, PublicationOk, Passed, HubOk, Hubs}

pub has_pub_more : (pubs new : List Publication) (id : PubId) (content : Content)
    → HasPublication pubs id content
    → HasPublication (pubs ++ new) id content
has_pub_more pubs new id content h = record {
  source = h.source;
  source_in = in_left h.source pubs new h.source_in;
  source_id = h.source_id;
  source_content = h.source_content;
}

frame_more : (limit : ℕ) (pubs new : List Publication) (f : Routed)
    → RoutedOk limit pubs f
    → RoutedOk limit (pubs ++ new) f
frame_more limit pubs new f h = record {
  published = has_pub_more pubs new f.id f.content h.published;
  once = h.once;
  few = h.few;
}

source_more : (sent frames : List Routed) (j : Job)
    → Each (λ f. f.id ≡ j.id → Disjoint f.names j.names) frames
    → Local sent j ⊎ Remote sent j
    → Local (sent ++ frames) j ⊎ Remote (sent ++ frames) j
source_more sent frames j new h =
    ⊎_elim (λ (l : Local sent j).
    inl (record {
      node = l.node;
      inc = l.inc;
      names = each_append (λ f. f.id ≡ j.id → Disjoint f.names j.names) sent frames l.names new;
    }))
    (λ (r : Remote sent j).
    inr (record {
      other = r.other;
      frame = r.frame;
      frame_in = in_left r.frame sent frames r.frame_in;
      id = r.id;
      to = r.to;
      to_inc = r.to_inc;
      names = r.names;
    }))
    h

job_more : (limit : ℕ) (pubs new : List Publication) (used : List (ℕ × ℕ)) (sent frames : List Routed) (j : Job)
    → Each (λ f. f.id ≡ j.id → Disjoint f.names j.names) frames
    → JobOk limit pubs used sent j
    → JobOk limit (pubs ++ new) used (sent ++ frames) j
job_more limit pubs new used sent frames j apart h = record {
  published = has_pub_more pubs new j.id j.content h.published;
  once = h.once;
  few = h.few;
  started = h.started;
  source = source_more sent frames j apart h.source;
}

-- a node that did not step, or whose hub did nothing
pub hub_more : (w : World) (n m : ℕ) (a b : Node) (out : Output)
    → HubOk w n a
    → Each (λ p. p.id.origin ≡ n → p.id.inc ≡ a.inc → p.id.number ≤ a.hub.published) out.publications
    → Each (λ j. j.node ≢ n) out.jobs
    → HubOk (world_with w m b out) n a
hub_more w n m a b out h pubs jobs = record {
  started = h.started;
  numbers =
      each_append (λ p. p.id.origin ≡ n → p.id.inc ≡ a.inc → p.id.number ≤ a.hub.published) w.past.publications
      out.publications h.numbers pubs;
  turns =
      each_append (λ j. j.node ≡ n → j.inc ≡ a.inc → j.turn ≤ a.race.issued) w.past.jobs out.jobs h.turns
      (λ j i at. absurd (jobs j i at));
  marks = λ o p e.
      each_append (λ j. j.node ≡ n → j.inc ≡ a.inc → o ≢ n → j.id.origin ≡ o → Passed p j.id) w.past.jobs out.jobs
      (h.marks o p e) (λ j i at. absurd (jobs j i at));
}

-- the messages among the frames
pub messages_append : (xs ys : List Frame) → messages (xs ++ ys) ≡ messages xs ++ messages ys
messages_append [] ys = refl
messages_append (Message m ∷ xs) ys = ap (λ l. m ∷ l) (messages_append xs ys)
messages_append (Interest t ∷ xs) ys = messages_append xs ys
messages_append (Greeting o v ∷ xs) ys = messages_append xs ys

pub messages_map : (ms : List Routed) → messages (map Message ms) ≡ ms
messages_map [] = refl
messages_map (m ∷ ms) = ap (λ l. m ∷ l) (messages_map ms)

-- what a step adds, with these messages
pub record Adds (limit : ℕ) (w : World) (n : ℕ) (b : Node) (out : Output) (frames : List Routed) : Type 0 where
  pub frames_are : messages out.frames ≡ frames
  pub pubs : Each (λ p. (p.id.origin ≡ n) × PublicationOk w.past.started (suc w.step) p) out.publications
  pub ids : Pairs (λ p q. p.id ≢ q.id) out.publications
  pub ids_cross : (p q : Publication) → In p w.past.publications → In q out.publications → p.id ≢ q.id
  pub frames_ok : Each (RoutedOk limit (w.past.publications ++ out.publications)) frames
  pub frames_apart : Pairs RoutedApart frames
  pub frames_cross : (f g : Routed) → In f (messages w.past.sent) → In g frames → RoutedApart f g
  pub jobs : Each (λ j.
      (j.node ≡ n)
      × JobOk limit (w.past.publications ++ out.publications) w.past.started (messages w.past.sent ++ frames) j)
      out.jobs
  pub jobs_apart : Pairs JobsApart out.jobs
  pub jobs_cross : (i j : Job) → In i w.past.jobs → In j out.jobs → JobsApart i j
  pub local : (j : Job) (f : Routed) → In j w.past.jobs → In f frames → f.id ≡ j.id → Disjoint f.names j.names
  pub hub : b.up ≡ true → HubOk (world_with w n b out) n b

pub hubs_kept : (limit : ℕ) (w : World) (n : ℕ) (b : Node) (out : Output) (frames : List Routed)
    → Hubs limit w
    → Adds limit w n b out frames
    → Hubs limit (world_with w n b out)
hubs_kept limit w n b out frames h d =
    let old = messages w.past.sent in
    let is : old ++ frames ≡ messages (w.past.sent ++ out.frames) =
    sym (messages_append w.past.sent out.frames ∙ ap (λ l. old ++ l) d.frames_are) in
    let pubs = w.past.publications ++ out.publications in
    record {
      publications =
          each_append (PublicationOk w.past.started (suc w.step)) w.past.publications out.publications
          (λ p i. record {
            started = (h.publications p i).started;
            before = let k = (h.publications p i).before in omega arith;
          })
          (λ p i. (d.pubs p i).1);
      frames =
          subst (Each (RoutedOk limit pubs)) is
          (each_append (RoutedOk limit pubs) old frames
          (λ f i. frame_more limit w.past.publications out.publications f (h.frames f i)) d.frames_ok);
      jobs =
          subst (λ l. Each (JobOk limit pubs w.past.started l) (w.past.jobs ++ out.jobs)) is
          (each_append (JobOk limit pubs w.past.started (old ++ frames)) w.past.jobs out.jobs
          (λ j i.
          job_more limit w.past.publications out.publications w.past.started old frames j (λ f k. d.local j f i k)
          (h.jobs j i))
          (λ j i. (d.jobs j i).1));
      ids = pairs_append (λ p q. p.id ≢ q.id) w.past.publications out.publications h.ids d.ids d.ids_cross;
      frames_apart =
          subst (Pairs RoutedApart) is
          (pairs_append RoutedApart old frames h.frames_apart d.frames_apart d.frames_cross);
      jobs_apart = pairs_append JobsApart w.past.jobs out.jobs h.jobs_apart d.jobs_apart d.jobs_cross;
      nodes =
          read_set (λ m x. x.up ≡ true → HubOk (world_with w n b out) m x) w.nodes n b
          (λ m x apart e up.
          hub_more w m n x b out (h.nodes m x e up) (λ p i at. absurd (apart (sym at ∙ (d.pubs p i).0)))
          (λ j i at. apart (sym at ∙ (d.jobs j i).0)))
          d.hub;
    }

-- a step without publications, messages and jobs: of the hub only what is known of origins may change, and must say no
-- less
pub quiet : (limit : ℕ) (w : World) (n : ℕ) (a b : Node) (out : Output)
    → HubOk w n a
    → b.inc ≡ a.inc
    → b.hub.published ≡ a.hub.published
    → b.race.issued ≡ a.race.issued
    → out.publications ≡ []
    → messages out.frames ≡ []
    → out.jobs ≡ []
    → ((o : ℕ) (p : Peer) → slice_get b.hub.peers o ≡ Some p
    → Each (λ j. j.node ≡ n → j.inc ≡ a.inc → o ≢ n → j.id.origin ≡ o → Passed p j.id) w.past.jobs)
    → Adds limit w n b out []
quiet limit w n a b out h inc published issued pubs frames jobs marks =
    let no_pub : (p : Publication) → In p out.publications → ⊥ = λ p i. subst (In p) pubs i in
    let no_job : (j : Job) → In j out.jobs → ⊥ = λ j i. subst (In j) jobs i in
    record {
      frames_are = frames;
      pubs = λ p i. absurd (no_pub p i);
      ids = subst (Pairs (λ p q. p.id ≢ q.id)) (sym pubs) tt;
      ids_cross = λ p q i k. absurd (no_pub q k);
      frames_ok = λ f i. absurd i;
      frames_apart = tt;
      frames_cross = λ f g i k. absurd k;
      jobs = λ j i. absurd (no_job j i);
      jobs_apart = subst (Pairs JobsApart) (sym jobs) tt;
      jobs_cross = λ i j k l. absurd (no_job j l);
      local = λ j f i k. absurd k;
      hub = λ up.
          let old = hub_more w n n a b out h (λ p i. absurd (no_pub p i)) (λ j i. absurd (no_job j i)) in
          record {
            started = subst (λ v. In (n, v) w.past.started) (sym inc) old.started;
            numbers = λ p i o e. subst (λ (x : ℕ). p.id.number ≤ x) (sym published) (old.numbers p i o (e ∙ inc));
            turns = λ j i o e. subst (λ (x : ℕ). j.turn ≤ x) (sym issued) (old.turns j i o (e ∙ inc));
            marks = λ o p e.
                each_append (λ j. j.node ≡ n → j.inc ≡ b.inc → o ≢ n → j.id.origin ≡ o → Passed p j.id) w.past.jobs
                out.jobs (λ j i at my. marks o p e j i at (my ∙ inc)) (λ j i. absurd (no_job j i));
          };
    }

-- the hub stays as it was
pub still : (limit : ℕ) (w : World) (n : ℕ) (a b : Node) (out : Output)
    → HubOk w n a
    → b.inc ≡ a.inc
    → b.hub ≡ a.hub
    → b.race.issued ≡ a.race.issued
    → out.publications ≡ []
    → messages out.frames ≡ []
    → out.jobs ≡ []
    → Adds limit w n b out []
still limit w n a b out h inc hub issued pubs frames jobs =
    quiet limit w n a b out h inc (ap (λ (x : Hub). x.published) hub) issued pubs frames jobs
    (λ o p e. h.marks o p (ap (λ (x : Hub). slice_get x.peers o) (sym hub) ∙ e))

-- the node goes down
pub gone : (limit : ℕ) (w : World) (n : ℕ) (a : Node) (out : Output)
    → HubOk w n a
    → out.publications ≡ []
    → messages out.frames ≡ []
    → out.jobs ≡ []
    → Adds limit w n no_node out []
gone limit w n a out h pubs frames jobs =
    let d = still limit w n a a out h refl refl refl pubs frames jobs in
    record {
      frames_are = d.frames_are;
      pubs = d.pubs;
      ids = d.ids;
      ids_cross = d.ids_cross;
      frames_ok = d.frames_ok;
      frames_apart = d.frames_apart;
      frames_cross = d.frames_cross;
      jobs = d.jobs;
      jobs_apart = d.jobs_apart;
      jobs_cross = d.jobs_cross;
      local = d.local;
      hub = λ up. absurd (true≢false (sym up));
    }
