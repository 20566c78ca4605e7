-- A publication that owes the server's own shards a job and nothing else.
use Rattle.std.proofs.Common.{◌≡◌, ◌≢◌, ℕ, suc, ◌+◌, ◌<◌, ◌≤◌, Bool, true, false, ◌&&◌, ◌||◌, cond, List, [], ◌∷◌, ◌++◌, length, Option, Some, None, refl, sym, ap, ◌∙◌, inl, inr, append-nil, arith}
use Rattle.std.specs.Prelude.{nat_eq, nat_lt, nat_le, not, filter, if◌then◌else◌}
use Rattle.std.specs.Option.{option_or}
use Rattle.std.proofs.lemmas.Slice.Eq.{bytes_eq-Decides}
use Rattle.list_laws.specs.Lists.{In}
use Rattle.list_laws.proofs.Tests.{and_true, or_false, not_true, eq_false, le_true}
use Rattle.subj.specs.declared.limits.TheConstants.{MAX_COUNTER, MAX_QUEUE_NAMES, ROUTE_FRAMES}
use Rattle.subj.specs.Messages.{Content}
use Rattle.subj.specs.Numbers.{next_turn}
use Rattle.subj.specs.QueueNames.{are_rising, is_named}
use Rattle.subj.specs.Servers.{ServerIdentity, IsListed, name_of, own_name, place}
use Rattle.route_values.specs.declared.bodies.Body.TheVariants.{Msg}
use Rattle.route_values.specs.Frames.{Frame}
use Rattle.interest.specs.Matches.{has_plain_match}
use Rattle.hub_core.specs.declared.faults.HubFault.TheVariants.{Spent, TooManyQueues}
use Rattle.hub_core.specs.State.{State, Peer, IsSound}
use Rattle.hub_core.specs.Calls.{after_frames}
use Rattle.hub_core.specs.Choice.{is_eligible, names_for, queue_names}
use Rattle.hub_core.specs.Local.{wants_plain_from, OwesLocalJob, behind_local, local_job, IsLocal, LocalJobsFollow}
use Rattle.hub_core.specs.Publishing.{Publication, subject_of, choice_of, busy_fault, is_owed, frames_from, frames_of, with_frames}
use Rattle.hub_core.specs.Serving.{is_alone_from, ServesAlone}
use Rattle.hub_core.proofs.Choices.Alone.{first, others, wanted_alone, chosen_alone}
use Rattle.hub_core.proofs.Choices.Places.{differs, named}
use Rattle.hub_core.proofs.Neighbours.Sending.{not_too_many}
use Rattle.hub_core.proofs.Steps.Issued.{next_turn_is}

-- ---- names that this server serves, and no other

filter_all : (test : List ℕ → Bool) (xs : List (List ℕ))
    → ((z : List ℕ) → In z xs → test z ≡ true)
    → filter test xs ≡ xs
filter_all test [] all = refl
filter_all test (x ∷ xs) all =
    ap (λ b. cond b (x ∷ filter test xs) (filter test xs)) (all x (inl refl))
    ∙ ap (λ l. x ∷ l) (filter_all test xs (λ z i. all z (inr i)))

filter_none : (test : List ℕ → Bool) (xs : List (List ℕ))
    → ((z : List ℕ) → In z xs → test z ≡ false)
    → filter test xs ≡ []
filter_none test [] none = refl
filter_none test (x ∷ xs) none =
    ap (λ b. cond b (x ∷ filter test xs) (filter test xs)) (none x (inl refl))
    ∙ filter_none test xs (λ z i. none z (inr i))

not_me : (server : ServerIdentity) (q : ℕ) (peer : Peer)
    → is_eligible server q peer ≡ true
    → nat_eq q server.me ≡ false
not_me server q peer is =
    not_true (nat_eq q server.me)
    (and_true (not (nat_eq q server.me)) (peer.up && nat_lt (length peer.outbox) ROUTE_FRAMES) is).0

module _ (server : ServerIdentity) (listed : IsListed server) (choice : List ℕ → Option (List ℕ))
    (queues : List (List ℕ)) (served : (z : List ℕ) → In z queues → choice z ≡ Some (own_name server)) where
  own_names : names_for choice (own_name server) queues ≡ queues
  own_names =
      filter_all (λ name. is_named (own_name server) (choice name)) queues
      (λ z i.
      ap (is_named (own_name server)) (served z i) ∙ (bytes_eq-Decides (own_name server) (own_name server)).1 refl)

  other_name : (q : ℕ) → q < length server.names → nat_eq q server.me ≡ false → own_name server ≢ name_of server q
  other_name q lt other same =
      eq_false q server.me other
      (sym (named server listed q lt)
      ∙ ap (place server) (sym same)
      ∙ named server listed server.me listed.listed)

  no_names : (q : ℕ)
      → q < length server.names
      → nat_eq q server.me ≡ false
      → names_for choice (name_of server q) queues ≡ []
  no_names q lt other =
      filter_none (λ name. is_named (name_of server q) (choice name)) queues
      (λ z i.
      ap (is_named (name_of server q)) (served z i)
      ∙ differs (own_name server) (name_of server q) (other_name q lt other))

  -- ---- no frame is owed

  unowed : (subject : List ℕ) (q : ℕ) (peer : Peer)
      → q < length server.names
      → (is_eligible server q peer && has_plain_match subject peer.heard.keys) ≡ false
      → (is_eligible server q peer && is_owed subject (names_for choice (name_of server q) queues) peer) ≡ false
  unowed subject q peer lt none = go (is_eligible server q peer) refl none
    where
      go : (b : Bool)
          → is_eligible server q peer ≡ b
          → (b && has_plain_match subject peer.heard.keys) ≡ false
          → (b && is_owed subject (names_for choice (name_of server q) queues) peer) ≡ false
      go true is plain =
          ap (λ names. is_owed subject names peer) (no_names q lt (not_me server q peer is))
          ∙ ap (λ b. b || false) plain
      go false is plain = refl

  no_frame : (number : ℕ) (content : Content) (q : ℕ) (peers : List Peer)
      → q + length peers ≤ length server.names
      → wants_plain_from server content.subject q peers ≡ false
      → frames_from server number content choice queues q peers ≡ []
  no_frame number content q [] within none = refl
  no_frame number content q (peer ∷ peers) within none =
      let parts = or_false (is_eligible server q peer && has_plain_match content.subject peer.heard.keys)
      (wants_plain_from server content.subject (suc q) peers) none in
      let frame : Frame = record {
        from = own_name server;
        inc = server.inc;
        to = name_of server q;
        to_inc = peer.seen;
        number = number;
        body = Msg content (names_for choice (name_of server q) queues);
      } in
      ap (λ b. cond b (frame ∷ []) [] ++ frames_from server number content choice queues (suc q) peers)
      (unowed content.subject q peer (omega (arith, within)) parts.0)
      ∙ no_frame number content (suc q) peers (omega (arith, within)) parts.1

-- ---- the hub behind one that owes no frame

none_put : (server : ServerIdentity) (q : ℕ) (peers : List Peer) → with_frames server [] q peers ≡ peers
none_put server q [] = refl
none_put server q (peer ∷ peers) =
    (λ k. record peer { outbox = append-nil peer.outbox k } ∷ none_put server (suc q) peers k)

-- the hub behind no frame
pub no_frames : (server : ServerIdentity) (hub : State) → after_frames server hub [] ≡ behind_local 1 hub
no_frames server hub =
    (λ k. record hub {
      issued = hub.issued + 1;
      published = hub.published + 1;
      peers = none_put server 0 hub.peers k;
    })

-- behind none, and behind some more
pub behind_none : (hub : State) → behind_local 0 hub ≡ hub
behind_none hub =
    let issued : hub.issued + 0 ≡ hub.issued = omega arith in
    let published : hub.published + 0 ≡ hub.published = omega arith in
    (λ k. record hub { issued = issued k; published = published k })

-- behind one that takes the next turn and the next number
pub local_issued : (server : ServerIdentity) (hub : State) (issued : ℕ) (next : Option ℕ)
    → next ≡ next_turn hub.issued
    → next ≡ Some issued
    → record hub { issued = issued; published = hub.published + 1 } ≡ after_frames server hub []
local_issued server hub issued next next_is is =
    let turn : hub.issued + 1 ≡ issued =
    next_turn_is (nat_lt MAX_COUNTER (hub.issued + 1)) (hub.issued + 1) issued (sym next_is ∙ is) in
    (λ k. record hub { issued = sym turn k; published = hub.published + 1 }) ∙ sym (no_frames server hub)

-- ---- what is owed then

module _ (server : ServerIdentity) (hub : State) (p : Publication) (queues : List (List ℕ))
    (owes : OwesLocalJob server hub (subject_of p) queues) where
  abbrev choice : List ℕ → Option (List ℕ)
  choice = choice_of server hub p

  few : nat_lt MAX_QUEUE_NAMES (length queues) ≡ false
  few =
      not_too_many (length queues) MAX_QUEUE_NAMES
      (le_true (length queues) MAX_QUEUE_NAMES
      (and_true (nat_le (length queues) MAX_QUEUE_NAMES) (are_rising queues) owes.few).0)

  queues_are : names_for choice (own_name server) (queue_names server hub (subject_of p)) ≡ queues
  queues_are =
      ap (names_for choice (own_name server)) owes.wanted
      ∙ own_names server owes.listed choice queues (owes.served p.word)

  owed_none : frames_of server hub p ≡ []
  owed_none =
      ap (λ names. frames_from server (hub.published + 1) p.publication.message choice names 0 hub.peers) owes.wanted
      ∙ no_frame server owes.listed choice queues (owes.served p.word) (hub.published + 1) p.publication.message 0
      hub.peers (omega (arith, owes.placed)) owes.unsent

  pub is_local : IsLocal server hub p queues
  is_local = record {
    refusal =
        λ finished.
        ap (λ (names : List (List ℕ)).
        option_or (busy_fault server hub finished)
        (if nat_le MAX_COUNTER hub.published || nat_le MAX_COUNTER hub.issued then Some Spent
        else (if nat_lt MAX_QUEUE_NAMES (length names) then Some TooManyQueues else None)))
        owes.wanted
        ∙ ap (λ b.
        option_or (busy_fault server hub finished)
        (if nat_le MAX_COUNTER hub.published || nat_le MAX_COUNTER hub.issued then Some Spent
        else (if b then Some TooManyQueues else None)))
        few;
    job = ap (local_job server hub p) queues_are;
    frames = owed_none;
    after = ap (after_frames server hub) owed_none ∙ no_frames server hub;
  }

-- it stays so behind others
pub stays_local : (server : ServerIdentity) (hub : State) (subject : List ℕ) (queues : List (List ℕ)) (count : ℕ)
    → OwesLocalJob server hub subject queues
    → OwesLocalJob server (behind_local count hub) subject queues
stays_local server hub subject queues count owes = record {
  listed = owes.listed;
  placed = owes.placed;
  wanted = owes.wanted;
  few = owes.few;
  served = owes.served;
  unsent = owes.unsent;
}

pub local_jobs_follow : LocalJobsFollow
local_jobs_follow = record { local = is_local; stays = stays_local; no_frames = no_frames }

-- ---- where no peer is eligible

unwanted : (server : ServerIdentity) (subject : List ℕ) (q : ℕ) (peers : List Peer)
    → is_alone_from server q peers ≡ true
    → wants_plain_from server subject q peers ≡ false
unwanted server subject q [] alone = refl
unwanted server subject q (peer ∷ peers) alone =
    ap (λ b. (b && has_plain_match subject peer.heard.keys) || wants_plain_from server subject (suc q) peers)
    (first server q peer peers alone)
    ∙ unwanted server subject (suc q) peers (others server q peer peers alone)

pub local_alone : (server : ServerIdentity) (hub : State) (subject : List ℕ) (names : List (List ℕ))
    → IsListed server
    → IsSound server hub
    → ServesAlone server hub subject names
    → OwesLocalJob server hub subject names
local_alone server hub subject names listed sound serves = record {
  listed = listed;
  placed = sound.placed;
  wanted = sym (wanted_alone server hub subject names serves);
  few = serves.in_mind.ordered;
  served = chosen_alone server hub subject names listed sound serves;
  unsent = unwanted server subject 0 hub.peers serves.alone;
}
