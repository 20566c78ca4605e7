-- A publish that is not refused is one of the law's.
use Rattle.std.proofs.Common.{◌≡◌, ◌≢◌, ℕ, suc, ◌+◌, ◌<◌, ◌≤◌, Bool, true, false, cond, nat_eq, nat_lt, nat_le, not, ◌&&◌, ◌||◌, List, [], ◌∷◌, ◌++◌, map, length, Option, Some, None, refl, sym, ap, ◌∙◌, subst, ⊎_elim, arith}
use Rattle.std.specs.Prelude.{slice_get, if◌then◌else◌}
use Rattle.list_laws.specs.Lists.{In, Each, Pairs, Disjoint, NoRepeat}
use Rattle.list_laws.proofs.Lists.{in_append, pairs_weaker}
use Rattle.list_laws.proofs.Changes.{get_map, map_append}
use Rattle.list_laws.proofs.Tests.{eq_false, lt_false, no_cause, not_true, and_true}
use Rattle.cluster_law.specs.Hub as law
use Rattle.cluster_law.specs.Hub.{RoutedOf}
use Rattle.cluster_law.specs.Messages as messages
use Rattle.cluster_law.specs.Names as names
use Rattle.subj.specs.declared.limits.TheConstants.{MAX_COUNTER, MAX_QUEUE_NAMES}
use Rattle.subj.specs.Messages.{Content}
use Rattle.subj.specs.QueueNames.{is_named}
use Rattle.subj.specs.Servers.{ServerIdentity, IsListed, name_of, own_name, place}
use Rattle.route_values.specs.declared.bodies.Body.TheVariants.{Msg}
use Rattle.route_values.specs.Frames.{Frame}
use Rattle.hub_core.specs.declared.faults.HubFault.TheVariants.{Spent, TooManyQueues}
use Rattle.hub_core.specs.State.{Peer}
use Rattle.hub_core.specs.Choice.{is_eligible, names_for}
use Rattle.hub_core.specs.Publishing.{subject_of, names_of, choice_of, busy_fault, publish_fault, is_owed, frames_from, frames_of}
use Rattle.cluster_law.specs.Values.{content_of}
use Rattle.hub_core.specs.AsLaw.{frame_of, hub_of, peer_of, PublishesInLaw}
use Rattle.hub_core.proofs.Choices.Places.{named}
use Rattle.hub_core.proofs.Choices.Names.{Distinct, names_distinct, for_distinct, names_apart, fewer}
use Rattle.hub_core.proofs.Neighbours.Known.{frames_unseen, frames_length}
use Rattle.hub_core.proofs.Steps.Rooms.{or_none, has_room}

-- ---- the frames, by places

module _ (server : ServerIdentity) (id : names.PubId) (content : Content) (choice : List ℕ → Option (List ℕ))
    (all : List (List ℕ)) where
  abbrev law_frame : ℕ → Peer → messages.Routed
  law_frame q peer = record {
    id = id;
    to = q;
    to_inc = peer.seen;
    content = content_of content;
    names = names_for choice (name_of server q) all;
  }

  abbrev is_sent : ℕ → Peer → Bool
  is_sent q peer = is_eligible server q peer && is_owed content.subject (names_for choice (name_of server q) all) peer

  abbrev law_from : ℕ → List Peer → List messages.Routed
  law_from q [] = []
  law_from q (peer ∷ peers) = cond (is_sent q peer) (law_frame q peer ∷ []) [] ++ law_from (suc q) peers

  -- what each of them is
  record IsOneOf (q : ℕ) (peers : List Peer) (m : messages.Routed) : Type 0 where
    j : ℕ
    peer : Peer
    at : slice_get peers j ≡ Some peer
    to : m.to ≡ q + j
    below : j < length peers
    to_inc : m.to_inc ≡ peer.seen
    id_is : m.id ≡ id
    content_is : m.content ≡ content_of content
    names_are : m.names ≡ names_for choice (name_of server m.to) all
    other : m.to ≢ server.me

  each_is : (q : ℕ) (peers : List Peer) → Each (IsOneOf q peers) (law_from q peers)
  each_is q [] m i = absurd i
  each_is q (peer ∷ peers) m i =
      ⊎_elim (λ x. one (is_sent q peer) refl x)
      (λ x.
      let f = each_is (suc q) peers m x in
      record {
        j = suc f.j;
        peer = f.peer;
        at = f.at;
        to = (let t = f.to in omega arith);
        below = (let b = f.below in omega arith);
        to_inc = f.to_inc;
        id_is = f.id_is;
        content_is = f.content_is;
        names_are = f.names_are;
        other = f.other;
      })
      (in_append m (cond (is_sent q peer) (law_frame q peer ∷ []) []) (law_from (suc q) peers) i)
    where
      one : (b : Bool) → is_sent q peer ≡ b → In m (cond b (law_frame q peer ∷ []) []) → IsOneOf q (peer ∷ peers) m
      one false e x = absurd x
      one true e x =
          ⊎_elim (λ (is : m ≡ law_frame q peer).
          subst (IsOneOf q (peer ∷ peers)) (sym is) (record {
            j = 0;
            peer = peer;
            at = refl;
            to = omega arith;
            below = omega arith;
            to_inc = refl;
            id_is = refl;
            content_is = refl;
            names_are = refl;
            other =
                eq_false q server.me
                (not_true (nat_eq q server.me)
                (and_true (not (nat_eq q server.me)) _ (and_true (is_eligible server q peer) _ e).0).0);
          }))
          (λ k. absurd k) x

  rise : (q : ℕ) (peers : List Peer) → Pairs (λ f g. f.to < g.to) (law_from q peers)
  rise q [] = tt
  rise q (peer ∷ peers) = one (is_sent q peer) (rise (suc q) peers) (each_is (suc q) peers)
    where
      one : (b : Bool)
          → Pairs (λ f g. f.to < g.to) (law_from (suc q) peers)
          → Each (IsOneOf (suc q) peers) (law_from (suc q) peers)
          → Pairs (λ f g. f.to < g.to) (cond b (law_frame q peer ∷ []) [] ++ law_from (suc q) peers)
      one false p each = p
      one true p each = ((λ g i. let f = each g i in let t = f.to in omega arith), p)

-- the frames by names are these
seen_from : (server : ServerIdentity)
    → IsListed server
    → (number : ℕ) (content : Content) (choice : List ℕ → Option (List ℕ)) (all : List (List ℕ)) (q : ℕ)
    (peers : List Peer)
    → q + length peers ≤ length server.names
    → map (frame_of server) (frames_from server number content choice all q peers)
    ≡ map messages.Message
    (law_from server (record { origin = server.me; inc = server.inc; number = number }) content choice all q peers)
seen_from server is number content choice all q [] fits = refl
seen_from server is number content choice all q (peer ∷ peers) fits =
    map_append (frame_of server) (cond sent (frame ∷ []) [])
    (frames_from server number content choice all (suc q) peers)
    ∙ (λ i. one sent i ++ seen_from server is number content choice all (suc q) peers (omega arith) i)
    ∙ sym (map_append messages.Message (cond sent (law_frame server id content choice all q peer ∷ []) [])
    (law_from server id content choice all (suc q) peers))
  where
    id : names.PubId
    id = record { origin = server.me; inc = server.inc; number = number }

    sent : Bool
    sent = is_eligible server q peer && is_owed content.subject (names_for choice (name_of server q) all) peer

    frame : Frame
    frame = record {
      from = own_name server;
      inc = server.inc;
      to = name_of server q;
      to_inc = peer.seen;
      number = number;
      body = Msg content (names_for choice (name_of server q) all);
    }

    one : (b : Bool)
        → map (frame_of server) (cond b (frame ∷ []) [])
        ≡ map messages.Message (cond b (law_frame server id content choice all q peer ∷ []) [])
    one true = λ i.
        messages.Message (record {
          id = record { origin = named server is server.me is.listed i; inc = server.inc; number = number };
          to = named server is q (omega arith) i;
          to_inc = peer.seen;
          content = content_of content;
          names = names_for choice (name_of server q) all;
        }) ∷ []
    one false = refl

-- ---- the publish

pub publishes_in_law : PublishesInLaw
publishes_in_law c server hub p finished now is size cause = record {
  frames = frames;
  frames_are =
      seen_from server is (hub.published + 1) p.publication.message choice all 0 hub.peers (omega arith)
      ∙ ap (λ k.
      map messages.Message
      (law_from server (record { origin = server.me; inc = server.inc; number = k }) p.publication.message choice all 0
      hub.peers))
      next;
  id_is = λ i. record { origin = named server is server.me is.listed i; inc = server.inc; number = next i };
  publishes = record {
    once = for_distinct choice (own_name server) all distinct;
    few = (let f = fewer (λ name. is_named (own_name server) (choice name)) all in omega (arith, few_all, f));
    few_in_frame = λ f i.
        subst (λ t. length t ≤ MAX_QUEUE_NAMES) (sym (each f i).names_are)
        (let g = fewer (λ name. is_named (name_of server f.to) (choice name)) all in omega (arith, few_all, g));
    frames_of = routed;
    frames_apart =
        pairs_weaker (λ f g. f.to < g.to) (λ f g. (f.to ≢ g.to) × Disjoint f.names g.names) frames
        (λ f g i j lt. ((λ e. omega arith), apart f g i j (λ e. omega arith)))
        (rise server id p.publication.message choice all 0 hub.peers);
    job_apart = λ f i x k l.
        (let one = each f i in
        names_apart choice (name_of server f.to) (own_name server) all
        (differ f.to server.me (there f i) is.listed one.other) x (subst (In x) one.names_are k) l);
    after = λ i. record (hub_of hub) {
      published = next i;
      peers = frames_unseen server (frames_of server hub p) 0 hub.peers i;
    };
  };
  room = has_room server hub finished causes.0;
  peers = frames_length server (frames_of server hub p) 0 hub.peers ∙ size;
}
  where
    choice : List ℕ → Option (List ℕ)
    choice = choice_of server hub p

    all : List (List ℕ)
    all = names_of server hub p

    next : hub.published + 1 ≡ suc hub.published
    next = omega arith

    id : names.PubId
    id = law.next_id server.me server.inc (hub_of hub)

    frames : List messages.Routed
    frames =
        law_from server (law.next_id server.me server.inc (hub_of hub)) p.publication.message (choice_of server hub p)
        (names_of server hub p) 0 hub.peers

    causes : (busy_fault server hub finished ≡ None) × (publish_fault server hub p ≡ None)
    causes = or_none (busy_fault server hub finished) (publish_fault server hub p) cause

    few_all : length (names_of server hub p) ≤ MAX_QUEUE_NAMES
    few_all =
        lt_false MAX_QUEUE_NAMES (length (names_of server hub p))
        (no_cause (nat_lt MAX_QUEUE_NAMES (length (names_of server hub p))) TooManyQueues None
        (no_cause (nat_le MAX_COUNTER hub.published || nat_le MAX_COUNTER hub.issued) Spent
        (if nat_lt MAX_QUEUE_NAMES (length (names_of server hub p)) then Some TooManyQueues else None) causes.1).1).0

    distinct : Distinct (names_of server hub p)
    distinct = names_distinct server hub (subject_of p)

    each : Each
        (IsOneOf server (law.next_id server.me server.inc (hub_of hub)) p.publication.message (choice_of server hub p)
        (names_of server hub p) 0 hub.peers)
        (law_from server (law.next_id server.me server.inc (hub_of hub)) p.publication.message (choice_of server hub p)
        (names_of server hub p) 0 hub.peers)
    each =
        each_is server (law.next_id server.me server.inc (hub_of hub)) p.publication.message (choice_of server hub p)
        (names_of server hub p) 0 hub.peers

    there : (f : messages.Routed)
        → In f (law_from server (law.next_id server.me server.inc (hub_of hub)) p.publication.message
        (choice_of server hub p) (names_of server hub p) 0 hub.peers)
        → f.to < length server.names
    there f i = let one = each f i in let t = one.to in let b = one.below in omega arith

    differ : (a b : ℕ) → a < length server.names → b < length server.names → a ≢ b → name_of server a ≢ name_of server b
    differ a b la lb apart same = apart (sym (named server is a la) ∙ ap (place server) same ∙ named server is b lb)

    apart : (f g : messages.Routed)
        → In f (law_from server (law.next_id server.me server.inc (hub_of hub)) p.publication.message
        (choice_of server hub p) (names_of server hub p) 0 hub.peers)
        → In g (law_from server (law.next_id server.me server.inc (hub_of hub)) p.publication.message
        (choice_of server hub p) (names_of server hub p) 0 hub.peers)
        → f.to ≢ g.to
        → Disjoint f.names g.names
    apart f g i j d x k l =
        names_apart (choice_of server hub p) (name_of server f.to) (name_of server g.to) (names_of server hub p)
        (differ f.to g.to (there f i) (there g j) d) x (subst (In x) (each f i).names_are k)
        (subst (In x) (each g j).names_are l)

    routed : Each
        (RoutedOf server.me (hub_of hub) (record {
          id = law.next_id server.me server.inc (hub_of hub);
          content = content_of p.publication.message;
          step = now;
        }))
        (law_from server (law.next_id server.me server.inc (hub_of hub)) p.publication.message (choice_of server hub p)
        (names_of server hub p) 0 hub.peers)
    routed f i =
        let one = each f i in
        let at : f.to ≡ one.j = (let t = one.to in omega arith) in
        record {
          id = one.id_is;
          content = one.content_is;
          other = one.other;
          peer = peer_of one.peer;
          peer_is = get_map peer_of hub.peers f.to one.peer (ap (slice_get hub.peers) at ∙ one.at);
          to_inc = one.to_inc;
          once =
              subst NoRepeat (sym one.names_are)
              (for_distinct (choice_of server hub p) (name_of server f.to) (names_of server hub p) distinct);
        }
