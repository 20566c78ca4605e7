-- A start keeps what holds: nothing in the histories is of the new incarnation. So does a step that changes nothing.
use Rattle.std.proofs.Common.{◌≡◌, ℕ, suc, List, [], ◌∷◌, ◌++◌, set, length, true, refl, sym, ap, subst, inl, inr, ⊎_elim, arith}
use Rattle.std.proofs.lemmas.Option.{none-some}
use Rattle.list_laws.specs.Lists.{In}
use Rattle.cluster_law.specs.Interest.{changes_of}
use Rattle.cluster_law.specs.Messages.{Frame, Message, Interest, Greeting}
use Rattle.cluster_law.specs.Config.{Config}
use Rattle.cluster_law.specs.Hub.{Peer, new_peer}
use Rattle.cluster_law.specs.Cluster.{World, new_shard, new_node}
use Rattle.cluster_law.specs.Headline.{IsView}
use Rattle.list_laws.proofs.Lists.{in_left, in_right, read_set, read_replicate}
use Rattle.cluster_law.proofs.Kept.Views.{changes_none, view_none}
use Rattle.cluster_law.proofs.Kept.Invariants.{HubIs, ShardIs, NodeIs, FrameOk, InterestIs, Holds}

same_pair : (n inc o v : ℕ) (used : List (ℕ × ℕ)) → In (o, v) used → o ≡ n → v ≡ inc → In (n, inc) used
same_pair n inc o v used i e f = subst (λ (y : ℕ × ℕ). In y used) (λ k. (e k, f k)) i

abbrev pub start_of : Config → World → ℕ → ℕ → World
start_of c w n inc = record {
  nodes = set w.nodes n (new_node c inc);
  step = suc w.step;
  past = record w.past { started = w.past.started ++ (n, inc) ∷ [] };
}

pub started : (c : Config) (w : World) (n inc : ℕ)
    → (In (n, inc) w.past.started → ⊥)
    → Holds c w
    → Holds c (start_of c w n inc)
started c w n inc unused h =
    let used : List (ℕ × ℕ) = w.past.started ++ (n, inc) ∷ [] in
    let later : (y : ℕ × ℕ) → In y w.past.started → In y used = λ y i. in_left y w.past.started ((n, inc) ∷ []) i in
    let no_pub : (o v : ℕ) → In (o, v) w.past.started → o ≡ n → v ≡ inc → ⊥ =
    λ o v i e f. unused (same_pair n inc o v w.past.started i e f) in
    let none = changes_none w.past.changes n inc (λ x i at my. no_pub x.node x.inc (h.interests.changes x i) at my) in
    record {
      hubs = record {
        publications = λ p i.
            let o = h.hubs.publications p i in
            record { started = later _ o.started; before = let le = o.before in omega arith };
        frames = h.hubs.frames;
        jobs = λ j i.
            let o = h.hubs.jobs j i in
            record {
              published = o.published;
              once = o.once;
              few = o.few;
              started = later _ o.started;
              source = o.source;
            };
        ids = h.hubs.ids;
        frames_apart = h.hubs.frames_apart;
        jobs_apart = h.hubs.jobs_apart;
        nodes =
            read_set (λ m b. b.up ≡ true → HubIs used w.past.publications w.past.jobs m b.inc b.hub b.race.issued)
            w.nodes n (new_node c inc)
            (λ m b apart e up.
            let k = h.hubs.nodes m b e up in
            record { started = later _ k.started; numbers = k.numbers; turns = k.turns; marks = k.marks })
            (λ up. record {
              started = in_right (n, inc) w.past.started ((n, inc) ∷ []) (inl refl);
              numbers = λ p i o e. absurd (no_pub p.id.origin p.id.inc (h.hubs.publications p i).started o e);
              turns = λ j i o e. absurd (no_pub j.node j.inc (h.hubs.jobs j i).started o e);
              marks = λ o p at j i e f. absurd (no_pub j.node j.inc (h.hubs.jobs j i).started e f);
            });
      };
      rest = record {
        placed = λ p i.
            let o = h.rest.placed p i in
            record {
              for_job = o.for_job;
              published = o.published;
              owed = o.owed;
              before = let le = o.before in omega arith;
            };
        lives = λ l i.
            let o = h.rest.lives l i in
            record { started = later _ o.started; before = let le = o.before in omega arith };
        closings = λ x i. let o = h.rest.closings x i in record { started = later _ o.started; opened = o.opened };
        life_ids = h.rest.life_ids;
        closed_once = h.rest.closed_once;
        in_order = h.rest.in_order;
        one_member = h.rest.one_member;
        nodes =
            read_set (λ m b.
            b.up ≡ true
            → NodeIs c.window w.past.jobs w.past.lives w.past.closings w.past.placements m b.inc b.race b.shards)
            w.nodes n (new_node c inc) (λ m b apart e up. h.rest.nodes m b e up) (λ up. record {
              shards = λ s sh e.
                  subst (ShardIs c.window w.past.jobs w.past.lives w.past.closings w.past.placements n inc 0 s)
                  (sym (read_replicate c.shards new_shard sh s e)) (record {
                    line = record {
                      in_hand = λ j at. absurd (none-some j at);
                      mine = λ j i. absurd i;
                      line = tt;
                      ahead = λ j i. absurd i;
                      within = λ j i. absurd i;
                      reached = omega arith;
                    };
                    room = omega arith;
                    begun_all = λ j p i k at my. absurd (no_pub j.node j.inc (h.hubs.jobs j i).started at my);
                    serials = λ l i at my. absurd (no_pub l.id.node l.id.inc (h.rest.lives l i).started at my);
                    closed = λ x i at my. absurd (no_pub x.life.node x.life.inc (h.rest.closings x i).started at my);
                    subscriptions = λ u i. absurd i;
                    apart = tt;
                  });
              won = λ j p x q i k at my. absurd (no_pub j.node j.inc (h.hubs.jobs j i).started at my);
            });
      };
      interests = record {
        changes = λ x i. later _ (h.interests.changes x i);
        frames = λ t i. frame_later t (h.interests.frames t i);
        nodes =
            read_set (λ m b. b.up ≡ true → InterestIs c (record w.past { started = used }) m b.inc b.hub) w.nodes n
            (new_node c inc)
            (λ m b apart e up.
            let k = h.interests.nodes m b e up in
            record {
              started = later _ k.started;
              changed = k.changed;
              interest = k.interest;
              peers = λ o p e. view_later o p (k.peers o p e);
            })
            (λ up. record {
              started = in_right (n, inc) w.past.started ((n, inc) ∷ []) (inl refl);
              changed = ap length (sym none);
              interest = sym (view_none c.follow (changes_of w.past.changes n inc) []);
              peers = λ o p e.
                  subst (IsView c (record w.past { started = used }) o)
                  (sym (read_replicate c.nodes (new_peer 0) p o e)) (record {
                    seen = inl refl;
                    reached = omega arith;
                    view = sym (view_none c.follow (changes_of w.past.changes o 0) []);
                  });
            });
      };
    }
  where
    frame_later : (t : Frame)
        → FrameOk c w.past.started w.past.changes t
        → FrameOk c (w.past.started ++ (n, inc) ∷ []) w.past.changes t
    frame_later (Message m) o = tt
    frame_later (Interest t) o = (in_left _ w.past.started ((n, inc) ∷ []) o.0, o.1)
    frame_later (Greeting x v) o = in_left _ w.past.started ((n, inc) ∷ []) o

    view_later : (o : ℕ) (p : Peer)
        → IsView c w.past o p
        → IsView c (record w.past { started = w.past.started ++ (n, inc) ∷ [] }) o p
    view_later o p k = record {
      seen =
          ⊎_elim (λ (z : p.seen ≡ 0). inl z)
          (λ (z : In (o, p.seen) w.past.started). inr (in_left _ w.past.started ((n, inc) ∷ []) z)) k.seen;
      reached = k.reached;
      view = k.view;
    }

pub passed : (c : Config) (w : World) → Holds c w → Holds c (record w { step = suc w.step })
passed c w h = record {
  hubs = record {
    publications = λ p i.
        let o = h.hubs.publications p i in record { started = o.started; before = let le = o.before in omega arith };
    frames = h.hubs.frames;
    jobs = h.hubs.jobs;
    ids = h.hubs.ids;
    frames_apart = h.hubs.frames_apart;
    jobs_apart = h.hubs.jobs_apart;
    nodes = h.hubs.nodes;
  };
  rest = record {
    placed = λ p i.
        let o = h.rest.placed p i in
        record {
          for_job = o.for_job;
          published = o.published;
          owed = o.owed;
          before = let le = o.before in omega arith;
        };
    lives =
        λ l i. let o = h.rest.lives l i in record { started = o.started; before = let le = o.before in omega arith };
    closings = h.rest.closings;
    life_ids = h.rest.life_ids;
    closed_once = h.rest.closed_once;
    in_order = h.rest.in_order;
    one_member = h.rest.one_member;
    nodes = h.rest.nodes;
  };
  interests = record { changes = h.interests.changes; frames = h.interests.frames; nodes = h.interests.nodes };
}
