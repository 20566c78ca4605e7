-- The frames of a publication, peer by peer, and the names of each server.
use Rattle.std.proofs.Common.{◌≡◌, ℕ, suc, ◌+◌, ◌<◌, ◌≤◌, Bool, true, false, ◌&&◌, cond, List, [], ◌∷◌, ◌++◌, length, take, drop, get_or, Option, refl, sym, ap, ◌∙◌, arith, append_assoc, add-one}
use Rattle.std.specs.Prelude.{map, filter, unwrap_or, not, nat_eq, nat_lt, nat_le, if◌then◌else◌}
use Rattle.std.proofs.lemmas.Bool.Decides.{nat_tests}
use Rattle.std.proofs.lemmas.List.{at_drop_more, length-map, take_all}
use Rattle.std.proofs.lemmas.Option.{slice_get-get_or}
use Rattle.list_laws.proofs.Tests.{and_true}
use Rattle.subj.specs.declared.limits.TheConstants.{MAX_QUEUE_NAMES, ROUTE_FRAMES}
use Rattle.subj.specs.Messages.{Content}
use Rattle.subj.proofs.Rising.{before_trans}
use Rattle.subj.specs.QueueNames.{is_before, is_before_first, are_rising, is_named, are_queue_names}
use Rattle.subj.specs.Servers.{ServerIdentity, name_of}
use Rattle.route_values.specs.Frames.{Frame}
use Rattle.hub_core.specs.State.{State, Peer}
use Rattle.hub_core.specs.Choice.{is_eligible, names_for}
use Rattle.hub_core.specs.Publishing.{Publication, choice_of, is_owed, frames_from}
use Rattle.hub_core.specs.Chosen.{chosen_for, message_frame, frame_at, sent_from, IsSplit}
use Rattle.hub_core.specs.Serving.{IsServed}
use Rattle.hub_core.proofs.Choices.Names.{fewer}

-- ---- who is eligible is up

pub eligible_up : (server : ServerIdentity) (q : ℕ) (peer : Peer) → is_eligible server q peer ≡ true → peer.up ≡ true
eligible_up server q peer is =
    (and_true peer.up (nat_lt (length peer.outbox) ROUTE_FRAMES)
    (and_true (not (nat_eq q server.me)) (peer.up && nat_lt (length peer.outbox) ROUTE_FRAMES) is).1).0

-- ---- peer by peer

pub frames_step : (server : ServerIdentity) (number : ℕ) (content : Content) (queues_of : List ℕ → List (List ℕ))
    (peers : List Peer) (i : ℕ) (peer : Peer) (frames before all : List Frame)
    → i < length peers
    → peer ≡ get_or peers i peer
    → frames ≡ frame_at server number content (queues_of (name_of server i)) i peer
    → before ++ sent_from server number content queues_of i (drop i peers) ≡ all
    → (before ++ frames) ++ sent_from server number content queues_of (i + 1) (drop (i + 1) peers) ≡ all
frames_step server number content queues_of peers i peer frames before all below read are is =
    append_assoc before frames (sent_from server number content queues_of (i + 1) (drop (i + 1) peers))
    ∙ ap (λ l. before ++ l)
    ((λ k.
    (are ∙ ap (frame_at server number content (queues_of (name_of server i)) i) read) k
    ++ sent_from server number content queues_of (add-one i k) (drop (i + 1) peers))
    ∙ sym (at_drop_more (sent_from server number content queues_of i) peers i peer below))
    ∙ is

pub listed_name : (server : ServerIdentity) (names : List (List ℕ)) (q : ℕ) (name : List ℕ)
    → names ≡ server.names
    → q < length server.names
    → name ≡ get_or names q name
    → name ≡ name_of server q
listed_name server names q name are below read =
    read
    ∙ ap (λ (names : List (List ℕ)). get_or names q name) are
    ∙ sym (ap (λ o. unwrap_or o []) (slice_get-get_or server.names q name below))

-- what an eligible peer gets, of names that its name has
module _ (server : ServerIdentity) (number : ℕ) (content : Content) (names : List (List ℕ))
    (servers : List (Option (List ℕ))) (q : ℕ) (peer : Peer) (name : List ℕ) (queues : List (List ℕ))
    (called : name ≡ name_of server q) (queues_are : queues ≡ chosen_for name names servers)
    (is : is_eligible server q peer ≡ true) where
  same : queues ≡ chosen_for (name_of server q) names servers
  same = queues_are ∙ ap (λ name. chosen_for name names servers) called

  pub none_owed : is_owed content.subject queues peer ≡ false
      → frame_at server number content (chosen_for (name_of server q) names servers) q peer ≡ []
  none_owed free =
      ap (λ queues. frame_at server number content queues q peer) (sym same)
      ∙ (λ k. if is k && free k then message_frame server number content queues q peer ∷ [] else [])

  pub one_owed : is_owed content.subject queues peer ≡ true
      → frame_at server number content (chosen_for (name_of server q) names servers) q peer
      ≡ message_frame server number content queues q peer ∷ []
  one_owed due =
      ap (λ queues. frame_at server number content queues q peer) (sym same)
      ∙ (λ k. if is k && due k then message_frame server number content queues q peer ∷ [] else [])

-- the frames of a publication are these
pub sent_is : (server : ServerIdentity) (number : ℕ) (content : Content) (choice : List ℕ → Option (List ℕ))
    (names : List (List ℕ)) (q : ℕ) (peers : List Peer)
    → sent_from server number content (λ name. names_for choice name names) q peers
    ≡ frames_from server number content choice names q peers
sent_is server number content choice names q [] = refl
sent_is server number content choice names q (peer ∷ peers) =
    ap (λ l. frame_at server number content (names_for choice (name_of server q) names) q peer ++ l)
    (sent_is server number content choice names (suc q) peers)

-- ---- the names of one server, of names that have their servers

pub chosen_is : (choice : List ℕ → Option (List ℕ)) (server_name : List ℕ) (names : List (List ℕ))
    (servers : List (Option (List ℕ)))
    → take (length names) servers ≡ map choice names
    → chosen_for server_name names servers ≡ names_for choice server_name names
chosen_is choice server_name [] servers is = refl
chosen_is choice server_name (name ∷ names) [] is = cc
chosen_is choice server_name (name ∷ names) (server ∷ servers) is =
    let first : server ≡ choice name = cc in
    let others : take (length names) servers ≡ map choice names = cc in
    (λ k.
    if is_named server_name (first k) then name ∷ chosen_is choice server_name names servers others k
    else chosen_is choice server_name names servers others k)

-- ---- names of one server rise as all of them do

-- what stands before the first stands before the first of those that are left
first_left : (test : List ℕ → Bool) (x : List ℕ) (names : List (List ℕ))
    → is_before_first x names ≡ true
    → are_rising names ≡ true
    → is_before_first x (filter test names) ≡ true
first_left test x [] before rise = refl
first_left test x (y ∷ names) before rise =
    let parts = and_true (is_before_first y names) (are_rising names) rise in
    go (test y) (first_left test x names (next names before parts.0) parts.1)
  where
    next : (zs : List (List ℕ)) → is_before x y ≡ true → is_before_first y zs ≡ true → is_before_first x zs ≡ true
    next [] a b = refl
    next (z ∷ zs) a b = before_trans x y z a b

    go : (b : Bool)
        → is_before_first x (filter test names) ≡ true
        → is_before_first x (cond b (y ∷ filter test names) (filter test names)) ≡ true
    go true rest = before
    go false rest = rest

pub rising_left : (test : List ℕ → Bool) (names : List (List ℕ))
    → are_rising names ≡ true
    → are_rising (filter test names) ≡ true
rising_left test [] rise = refl
rising_left test (x ∷ names) rise =
    let parts = and_true (is_before_first x names) (are_rising names) rise in
    go (test x) (first_left test x names parts.0 parts.1) (rising_left test names parts.1)
  where
    go : (b : Bool)
        → is_before_first x (filter test names) ≡ true
        → are_rising (filter test names) ≡ true
        → are_rising (cond b (x ∷ filter test names) (filter test names)) ≡ true
    go true first rest = (λ k. first k && rest k)
    go false first rest = rest

pub within : (n m : ℕ) → n ≤ m → nat_le n m ≡ true
within n m few = grind (arith, nat_tests)

pub are_some : (test : List ℕ → Bool) (names : List (List ℕ))
    → are_rising names ≡ true
    → length names ≤ MAX_QUEUE_NAMES
    → are_queue_names (filter test names) ≡ true
are_some test names rise few =
    let less = fewer test names in
    let short : length (filter test names) ≤ MAX_QUEUE_NAMES = omega arith in
    (λ k. within (length (filter test names)) MAX_QUEUE_NAMES short k && rising_left test names rise k)

pub split_is : (choice : List ℕ → Option (List ℕ)) (names : List (List ℕ)) (servers : List (Option (List ℕ)))
    → length names ≤ length servers
    → take (length names) servers ≡ map choice names
    → are_rising names ≡ true
    → length names ≤ MAX_QUEUE_NAMES
    → IsSplit names servers
split_is choice names servers room is rise few = record {
  few = room;
  ordered = λ server_name.
      ap are_queue_names (chosen_is choice server_name names servers is)
      ∙ are_some (λ name. is_named server_name (choice name)) names rise few;
}

-- each name has its server
pub served_all : (server : ServerIdentity) (hub : State) (p : Publication) (names : List (List ℕ))
    (servers : List (Option (List ℕ)))
    → length names ≤ MAX_QUEUE_NAMES
    → servers ≡ map (choice_of server hub p) names
    → IsServed server hub p names servers
served_all server hub p names servers few are =
    let same : length servers ≡ length names = ap length are ∙ length-map names (choice_of server hub p) in record {
      few = few;
      room = omega arith;
      picks = ap (λ n. take n servers) (sym same) ∙ take_all (length servers) servers (omega arith) ∙ are;
    }

-- ---- no more names than a publication may have

pub not_too_many : (n m : ℕ) → n ≤ m → nat_lt m n ≡ false
not_too_many n m few = grind (arith, nat_tests)
