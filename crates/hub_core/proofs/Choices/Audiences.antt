-- Who wants a subject depends on who is eligible, and on what was heard, and on nothing else of the peers.
use Rattle.std.proofs.Common.{◌≡◌, ℕ, zero, suc, ◌+◌, ◌*◌, ◌<◌, ◌≤◌, Bool, true, false, ◌&&◌, cond, List, [], ◌∷◌, ◌++◌, length, take, drop, get_or, Option, Some, None, refl, sym, ap, ◌∙◌, subst, arith, append_assoc}
use Rattle.std.specs.Prelude.{map, nat_eq, slice_get, slice_set, nat_le, if◌then◌else◌, IsSome}
use Rattle.std.proofs.lemmas.List.Sums.{sum_by-append}
use Rattle.std.proofs.lemmas.Option.{none-some, same_Some, slice_get-get_or}
use Rattle.pick.specs.Pick.{Weighted, total_weight, pick_of}
use Rattle.subj.specs.declared.limits.TheConstants.{MAX_QUEUE_NAMES}
use Rattle.subj.specs.QueueNames.{are_rising, queue_names_of}
use Rattle.subj.specs.Servers.{ServerIdentity, name_of}
use Rattle.route_values.specs.Frames.{Frame}
use Rattle.interest.specs.Counts.{Counts}
use Rattle.interest.specs.Heard.{Heard, nothing_heard}
use Rattle.interest.specs.Matches.{names_in, weight_in, has_plain_match}
use Rattle.hub_core.specs.declared.audience.Audience.{Audience}
use Rattle.hub_core.specs.declared.audience.AudienceMemo.{AudienceMemo}
use Rattle.hub_core.specs.State.{State, Peer, is_new_life, peer_in_life}
use Rattle.hub_core.specs.Receiving.{has_message, told_by}
use Rattle.route_values.specs.declared.bodies.Body.{Body}
use Rattle.route_values.specs.declared.bodies.Body.TheVariants.{Plus, Minus, Snapshot, Msg}
use Rattle.hub_core.specs.Choice.{is_eligible, weight_at, weights_from, names_from}
use Rattle.hub_core.specs.Publishing.{Publication, subject_of, choice_of, with_frames}
use Rattle.hub_core.specs.Audiences.{IsAudience, IsInMind, eligible_from, plain_of, views_of}
use Rattle.hub_core.proofs.Choices.Choosing.{weights_step}
use Rattle.hub_core.proofs.Choices.Wanted.{names_are_wanted}
use Rattle.hub_core.proofs.Neighbours.Sending.{within}

-- ---- peer by peer

pub weights_put : (server : ServerIdentity) (counts : Counts) (subject name : List ℕ) (peers : List Peer) (i : ℕ)
    (peer : Peer) (server_name : List ℕ) (weight : ℕ) (before after all : List Weighted)
    → i < length peers
    → length peers ≡ length server.names
    → peer ≡ get_or peers i peer
    → server_name ≡ get_or server.names i server_name
    → weight ≡ weight_at server counts subject name i peer
    → after ≡ before ++ (server_name, weight) ∷ []
    → before ++ weights_from server counts subject name i (drop i peers) ≡ all
    → after ++ weights_from server counts subject name (i + 1) (drop (i + 1) peers) ≡ all
weights_put server counts subject name peers i peer server_name weight before after all below placed read named is put
    whole =
    let rest = weights_from server counts subject name (i + 1) (drop (i + 1) peers) in
    ap (λ l. l ++ rest) put
    ∙ append_assoc before ((server_name, weight) ∷ []) rest
    ∙ ap (λ l. before ++ l)
    (sym (weights_step server counts subject name peers i peer server_name weight below placed read named is))
    ∙ whole

pub total_put : (before after : List Weighted) (i most : ℕ) (server : Weighted)
    → after ≡ before ++ server ∷ []
    → total_weight before ≤ i * most
    → server.1 ≤ most
    → total_weight after ≤ (i + 1) * most
total_put before after i most server put fits one =
    let whole = ap total_weight put ∙ sum_by-append (λ (s : Weighted). s.1) before (server ∷ []) in
    let more : (i + 1) * most ≡ i * most + most = omega arith in
    omega arith

-- the names that are found are queue names
pub some_names : (server : ServerIdentity) (counts : Counts) (peers : List Peer) (subject : List ℕ)
    (found copies : List (List ℕ)) (names : Option (List (List ℕ)))
    → names ≡ queue_names_of copies
    → copies ≡ found
    → found ≡ names_from server subject 0 peers (names_in subject counts [])
    → length (names_from server subject 0 peers (names_in subject counts [])) ≤ MAX_QUEUE_NAMES
    → IsSome names
some_names server counts peers subject found copies names named copied is most =
    let state : State = record {
      issued = 0;
      published = 0;
      changed = 0;
      draining = false;
      counts = counts;
      peers = peers;
    } in
    let same = copied ∙ is in
    let rising : are_rising copies ≡ true = ap are_rising same ∙ names_are_wanted.rising server state subject in
    let size = ap length same in
    let few : nat_le (length copies) MAX_QUEUE_NAMES ≡ true =
    within (length copies) MAX_QUEUE_NAMES (omega (arith, size, most)) in
    subst IsSome
    (sym (named ∙ (λ k. let o : Option (List (List ℕ)) = if few k && rising k then Some copies else None in o))) refl

-- ---- what a look finds, by who is eligible and what was heard

module _ (server : ServerIdentity) (subject : List ℕ) where
  abbrev names_by : List Bool → List Heard → List (List ℕ) → List (List ℕ)
  names_by [] views names = names
  names_by (e ∷ es) [] names = names
  names_by (e ∷ es) (view ∷ views) names = names_by es views (cond e (names_in subject view.keys names) names)

  names_are_by : (q : ℕ) (peers : List Peer) (names : List (List ℕ))
      → names_from server subject q peers names ≡ names_by (eligible_from server q peers) (views_of peers) names
  names_are_by q [] names = refl
  names_are_by q (peer ∷ peers) names =
      names_are_by (suc q) peers (cond (is_eligible server q peer) (names_in subject peer.heard.keys names) names)

  module _ (counts : Counts) (name : List ℕ) where
    abbrev weights_by : ℕ → List Bool → List Heard → List Weighted
    weights_by q [] views = []
    weights_by q (e ∷ es) [] = []
    weights_by q (e ∷ es) (view ∷ views) = (
      name_of server q,
      cond (nat_eq q server.me) (weight_in subject name counts) (cond e (weight_in subject name view.keys) 0),
    )
        ∷ weights_by (suc q) es views

    weights_are_by : (q : ℕ) (peers : List Peer)
        → weights_from server counts subject name q peers
        ≡ weights_by q (eligible_from server q peers) (views_of peers)
    weights_are_by q [] = refl
    weights_are_by q (peer ∷ peers) =
        ap (λ l. (
          name_of server q,
          cond (nat_eq q server.me) (weight_in subject name counts)
              (cond (is_eligible server q peer) (weight_in subject name peer.heard.keys) 0),
        )
        ∷ l)
        (weights_are_by (suc q) peers)

  abbrev plain_by : List Heard → List Bool
  plain_by views = map (λ view. has_plain_match subject view.keys) views

  plain_is_by : (peers : List Peer) → plain_of subject peers ≡ plain_by (views_of peers)
  plain_is_by [] = refl
  plain_is_by (peer ∷ peers) = ap (λ l. has_plain_match subject peer.heard.keys ∷ l) (plain_is_by peers)

  module _ (counts : Counts) (peers others : List Peer) (heard : views_of others ≡ views_of peers)
      (who : eligible_from server 0 others ≡ eligible_from server 0 peers) where
    names_same : (names : List (List ℕ))
        → names_from server subject 0 peers names ≡ names_from server subject 0 others names
    names_same names =
        names_are_by 0 peers names
        ∙ (λ k. names_by (sym who k) (sym heard k) names)
        ∙ sym (names_are_by 0 others names)

    weights_same : (name : List ℕ)
        → weights_from server counts subject name 0 peers ≡ weights_from server counts subject name 0 others
    weights_same name =
        weights_are_by counts name 0 peers
        ∙ (λ k. weights_by counts name 0 (sym who k) (sym heard k))
        ∙ sym (weights_are_by counts name 0 others)

    all_weights_same : (names : List (List ℕ))
        → map (λ name. weights_from server counts subject name 0 peers) names
        ≡ map (λ name. weights_from server counts subject name 0 others) names
    all_weights_same [] = refl
    all_weights_same (name ∷ names) = (λ k. weights_same name k ∷ all_weights_same names k)

    -- so it is the same of other peers of whom the same was heard, where the same are eligible
    pub audience_same : (audience : Audience)
        → IsAudience server counts peers subject audience
        → IsAudience server counts others subject audience
    audience_same audience is = record {
      few = is.few;
      names = is.names ∙ names_same (names_in subject counts []);
      weights = is.weights ∙ all_weights_same audience.names;
      plain = is.plain ∙ plain_is_by peers ∙ ap plain_by (sym heard) ∙ sym (plain_is_by others);
    }

-- ---- what is in mind

pub kept_in_mind : (server : ServerIdentity) (counts : Counts) (peers : List Peer) (memo : AudienceMemo)
    → memo.eligible.items ≡ eligible_from server 0 peers
    → IsAudience server counts peers memo.subject memo.audience
    → IsInMind server counts peers (Some memo)
kept_in_mind server counts peers memo eligible is = λ others heard who.
    audience_same server memo.subject counts peers others heard (who ∙ eligible) memo.audience is

-- it stays so where nothing else is heard
pub stays_in_mind : (server : ServerIdentity) (counts : Counts) (peers later : List Peer) (memo : Option AudienceMemo)
    → views_of later ≡ views_of peers
    → IsInMind server counts peers memo
    → IsInMind server counts later memo
stays_in_mind server counts peers later None same kept = tt
stays_in_mind server counts peers later (Some memo) same kept = λ others heard who. kept others (heard ∙ same) who

pub stays_unless : (server : ServerIdentity) (counts : Counts) (peers later : List Peer) (memo : Option AudienceMemo)
    (forgets : Bool)
    → (forgets ≡ false → views_of later ≡ views_of peers)
    → IsInMind server counts peers memo
    → IsInMind server counts later (if forgets then None else memo)
stays_unless server counts peers later memo true same kept = tt
stays_unless server counts peers later memo false same kept =
    stays_in_mind server counts peers later memo (same refl) kept

-- ---- what leaves alone what was heard

pub same_place : (peers : List Peer) (q : ℕ) (one other : Peer)
    → q < length peers
    → one ≡ get_or peers q one
    → other ≡ get_or peers q other
    → one ≡ other
same_place peers q one other below at there =
    same_Some one other
    (ap (λ (p : Peer). let o : Option Peer = Some p in o) at
    ∙ sym (slice_get-get_or peers q one below)
    ∙ slice_get-get_or peers q other below
    ∙ sym (ap (λ (p : Peer). let o : Option Peer = Some p in o) there))

pub heard_stays : (body : Body) (number inc : ℕ) (peer : Peer)
    → has_message body ≡ true
    → is_new_life peer inc ≡ false
    → (told_by body number (peer_in_life peer inc)).heard ≡ peer.heard
heard_stays (Plus weighted) number inc peer says same = cc
heard_stays (Minus key) number inc peer says same = cc
heard_stays (Snapshot keys) number inc peer says same = cc
heard_stays (Msg content queues) number inc peer says same =
    ap (λ (b : Bool).
    let base : Peer = if b then record { seen = inc; mark = 0; heard = nothing_heard; up = false; outbox = peer.outbox }
    else peer in
    base.heard)
    same

pub views_set : (peers : List Peer) (q : ℕ) (old new : Peer)
    → q < length peers
    → old ≡ get_or peers q old
    → new.heard ≡ old.heard
    → views_of (slice_set peers q new) ≡ views_of peers
views_set [] q old new below at same = absurd (omega arith)
views_set (peer ∷ peers) zero old new below at same =
    (λ k. (same ∙ ap (λ (p : Peer). p.heard) at) k ∷ views_of peers)
views_set (peer ∷ peers) (suc q) old new below at same =
    ap (λ l. peer.heard ∷ l) (views_set peers q old new (omega (arith, below)) at same)

pub views_with : (server : ServerIdentity) (frames : List Frame) (q : ℕ) (peers : List Peer)
    → views_of (with_frames server frames q peers) ≡ views_of peers
views_with server frames q [] = refl
views_with server frames q (peer ∷ peers) = ap (λ l. peer.heard ∷ l) (views_with server frames (suc q) peers)

-- ---- a publication that those want

pub picked_all : (server : ServerIdentity) (hub : State) (p : Publication) (names : List (List ℕ))
    → map (λ weights. pick_of weights p.word)
    (map (λ name. weights_from server hub.counts (subject_of p) name 0 hub.peers) names)
    ≡ map (choice_of server hub p) names
picked_all server hub p [] = refl
picked_all server hub p (name ∷ names) = ap (λ l. choice_of server hub p name ∷ l) (picked_all server hub p names)

pub plain_known : (subject : List ℕ) (peers : List Peer) (q : ℕ) (peer : Peer)
    → slice_get peers q ≡ Some peer
    → slice_get (plain_of subject peers) q ≡ Some (has_plain_match subject peer.heard.keys)
plain_known subject [] q peer at = absurd (none-some peer at)
plain_known subject (first ∷ peers) zero peer at =
    ap (λ (p : Peer). let o : Option Bool = Some (has_plain_match subject p.heard.keys) in o) (same_Some first peer at)
plain_known subject (first ∷ peers) (suc q) peer at = plain_known subject peers q peer at

-- where no name wants it, no server is picked
pub none_picked : (choice : List ℕ → Option (List ℕ)) (names : List (List ℕ)) (servers : List (Option (List ℕ)))
    → names ≡ []
    → take (length names) servers ≡ map choice names
none_picked choice names servers none =
    ap (λ (names : List (List ℕ)). take (length names) servers) none ∙ sym (ap (map choice) none)
