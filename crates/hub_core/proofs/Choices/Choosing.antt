-- The choice, name by name and peer by peer.
use Rattle.std.proofs.Common.{◌≡◌, ℕ, suc, ◌+◌, ◌<◌, ◌≤◌, Bool, true, false, ◌&&◌, ◌||◌, cond, List, [], ◌∷◌, ◌++◌, length, take, drop, get_or, Option, Some, refl, sym, ap, ◌∙◌, arith, append_assoc, add-one}
use Rattle.std.specs.Prelude.{slice_get, unwrap_or, option_to_list, if◌then◌else◌}
use Rattle.std.proofs.lemmas.List.{length-take-le, at_drop_more}
use Rattle.std.specs.List.{count_by}
use Rattle.std.proofs.lemmas.List.Sums.{sum_by-cons, count_by-le-length}
use Rattle.std.proofs.lemmas.Option.{slice_get-get_or}
use Rattle.list_laws.proofs.Tests.{or_false}
use Rattle.subj.specs.QueueNames.{is_named}
use Rattle.subj.specs.Servers.{ServerIdentity, name_of}
use Rattle.interest.specs.Counts.{Counts}
use Rattle.interest.specs.Matches.{names_in, has_queue_match}
use Rattle.interest.proofs.Matching.Gathering.{not_fewer_in, none_queued}
use Rattle.hub_core.specs.State.{State, Peer}
use Rattle.hub_core.specs.Choice.{is_eligible, weight_at, weights_from, names_from, queue_names}
use Rattle.hub_core.specs.Chosen.{chosen_for, wants_name_from}

-- ---- the names, peer by peer

abbrev pub names_with : ServerIdentity → List ℕ → ℕ → Peer → List (List ℕ) → List (List ℕ)
names_with server subject q peer names =
    if is_eligible server q peer then names_in subject peer.heard.keys names else names

not_fewer_with : (server : ServerIdentity) (subject : List ℕ) (q : ℕ) (peer : Peer) (names : List (List ℕ))
    → length names ≤ length (names_with server subject q peer names)
not_fewer_with server subject q peer names =
    elim (is_eligible server q peer) as
    (λ b. length names ≤ length (cond b (names_in subject peer.heard.keys names) names)) [
      | true ↦ not_fewer_in subject peer.heard.keys names
      | false ↦ omega arith
    ]

pub not_fewer_from : (server : ServerIdentity) (subject : List ℕ) (q : ℕ) (peers : List Peer) (names : List (List ℕ))
    → length names ≤ length (names_from server subject q peers names)
not_fewer_from server subject q [] names = omega arith
not_fewer_from server subject q (peer ∷ peers) names =
    let one = not_fewer_with server subject q peer names in
    let rest = not_fewer_from server subject (suc q) peers (names_with server subject q peer names) in
    omega arith

names_step : (server : ServerIdentity) (subject : List ℕ) (peers : List Peer) (i : ℕ) (d : Peer) (names : List (List ℕ))
    → i < length peers
    → names_from server subject i (drop i peers) names
    ≡ names_from server subject (suc i) (drop (i + 1) peers) (names_with server subject i (get_or peers i d) names)
names_step server subject peers i d names below =
    at_drop_more (λ l. names_from server subject i l names) peers i d below

pub too_many_at : (server : ServerIdentity) (subject : List ℕ) (peers : List Peer) (i : ℕ) (peer : Peer)
    (names first all : List (List ℕ)) (most : ℕ)
    → i < length peers
    → peer ≡ get_or peers i peer
    → names_from server subject i (drop i peers) names ≡ names_from server subject 0 peers first
    → first ≡ all
    → most < length (names_with server subject i peer names)
    → most < length (names_from server subject 0 peers all)
too_many_at server subject peers i peer names first all most below read is begun more =
    let here = ap (λ p. length (names_with server subject i p names)) read in
    let rest = not_fewer_from server subject (suc i) (drop (i + 1) peers)
    (names_with server subject i (get_or peers i peer) names) in
    let same = ap length
    (sym (names_step server subject peers i peer names below) ∙ is ∙ ap (names_from server subject 0 peers) begun) in
    omega arith

-- ---- where nobody wants a name, there is none

none_with : (server : ServerIdentity) (subject : List ℕ) (q : ℕ) (peer : Peer) (names : List (List ℕ))
    → (is_eligible server q peer && has_queue_match subject peer.heard.keys) ≡ false
    → names_with server subject q peer names ≡ names
none_with server subject q peer names = go (is_eligible server q peer)
  where
    go : (b : Bool)
        → (b && has_queue_match subject peer.heard.keys) ≡ false
        → cond b (names_in subject peer.heard.keys names) names ≡ names
    go true none = none_queued subject peer.heard.keys names none
    go false none = refl

none_from : (server : ServerIdentity) (subject : List ℕ) (q : ℕ) (peers : List Peer) (names : List (List ℕ))
    → wants_name_from server subject q peers ≡ false
    → names_from server subject q peers names ≡ names
none_from server subject q [] names none = refl
none_from server subject q (peer ∷ peers) names none =
    let parts = or_false (is_eligible server q peer && has_queue_match subject peer.heard.keys)
    (wants_name_from server subject (suc q) peers) none in
    ap (names_from server subject (suc q) peers) (none_with server subject q peer names parts.0)
    ∙ none_from server subject (suc q) peers names parts.1

pub none_wanted : (server : ServerIdentity) (hub : State) (subject : List ℕ)
    → (has_queue_match subject hub.counts || wants_name_from server subject 0 hub.peers) ≡ false
    → queue_names server hub subject ≡ []
none_wanted server hub subject none =
    let parts = or_false (has_queue_match subject hub.counts) (wants_name_from server subject 0 hub.peers) none in
    ap (names_from server subject 0 hub.peers) (none_queued subject hub.counts [] parts.0)
    ∙ none_from server subject 0 hub.peers [] parts.1

-- ---- the weights, peer by peer

pub weights_step : (server : ServerIdentity) (counts : Counts) (subject name : List ℕ) (peers : List Peer) (i : ℕ)
    (peer : Peer) (server_name : List ℕ) (weight : ℕ)
    → i < length peers
    → length peers ≡ length server.names
    → peer ≡ get_or peers i peer
    → server_name ≡ get_or server.names i server_name
    → weight ≡ weight_at server counts subject name i peer
    → weights_from server counts subject name i (drop i peers)
    ≡ (server_name, weight) ∷ weights_from server counts subject name (i + 1) (drop (i + 1) peers)
weights_step server counts subject name peers i peer server_name weight below placed read named is =
    at_drop_more (weights_from server counts subject name i) peers i peer below
    ∙ (λ k.
    (sym called k, sym weighs k) ∷ weights_from server counts subject name (sym (add-one i) k) (drop (i + 1) peers))
  where
    called : server_name ≡ name_of server i
    called = named ∙ sym (ap (λ o. unwrap_or o []) (slice_get-get_or server.names i server_name (omega arith)))

    weighs : weight ≡ weight_at server counts subject name i (get_or peers i peer)
    weighs = is ∙ ap (weight_at server counts subject name i) read

-- ---- the names, copied one by one

pub copy_step : {A : Type 0} (xs ys zs : List A) (i : ℕ) (d : A) (x : Option A)
    → i < length xs
    → x ≡ slice_get xs i
    → zs ≡ ys ++ option_to_list x
    → ys ++ drop i xs ≡ xs
    → zs ++ drop (i + 1) xs ≡ xs
copy_step xs ys zs i d x below is put before =
    let value : option_to_list x ≡ get_or xs i d ∷ [] = ap option_to_list (is ∙ slice_get-get_or xs i d below) in
    ap (λ l. l ++ drop (i + 1) xs) (put ∙ ap (λ l. ys ++ l) value)
    ∙ append_assoc ys (get_or xs i d ∷ []) (drop (i + 1) xs)
    ∙ ap (λ l. ys ++ l) (sym (at_drop_more (λ l. l) xs i d below))
    ∙ before

-- ---- the names of one server

one_name : (b : Bool) (name : List ℕ) (rest : List (List ℕ))
    → cond b (name ∷ rest) rest ≡ (if b then option_to_list (Some name) else []) ++ rest
one_name true name rest = refl
one_name false name rest = refl

pub chosen_step : (server_name : List ℕ) (names : List (List ℕ)) (servers : List (Option (List ℕ))) (i : ℕ)
    (server : Option (List ℕ)) (name : Option (List ℕ)) (put : Bool)
    → i < length names
    → i < length servers
    → server ≡ get_or servers i server
    → name ≡ slice_get names i
    → put ≡ is_named server_name server
    → chosen_for server_name (drop i names) (drop i servers)
    ≡ (if put then option_to_list name else []) ++ chosen_for server_name (drop (i + 1) names) (drop (i + 1) servers)
chosen_step server_name names servers i server name put below room read is test =
    at_drop_more (λ l. chosen_for server_name l (drop i servers)) names i [] below
    ∙ at_drop_more (λ l. chosen_for server_name (get_or names i [] ∷ drop (i + 1) names) l) servers i server room
    ∙ one_name (is_named server_name (get_or servers i server)) (get_or names i [])
    (chosen_for server_name (drop (i + 1) names) (drop (i + 1) servers))
    ∙ (λ k.
    (if (sym (test ∙ ap (is_named server_name) read)) k
    then option_to_list ((sym (slice_get-get_or names i [] below) ∙ sym is) k)
    else [])
    ++ chosen_for server_name (drop (i + 1) names) (drop (i + 1) servers))

-- where the server was chosen for none of the names, and for all of them

pub chosen_none : (server_name : List ℕ) (names : List (List ℕ)) (servers : List (Option (List ℕ)))
    → count_by (is_named server_name) (take (length names) servers) ≡ 0
    → chosen_for server_name names servers ≡ []
chosen_none server_name [] servers none = refl
chosen_none server_name (name ∷ names) [] none = refl
chosen_none server_name (name ∷ names) (server ∷ servers) none =
    go (chosen_none server_name names servers) (is_named server_name server) refl
  where
    parts : count_by (is_named server_name) (take (suc (length names)) (server ∷ servers))
        ≡ cond (is_named server_name server) 1 0 + count_by (is_named server_name) (take (length names) servers)
    parts =
        sum_by-cons (λ (s : Option (List ℕ)). cond (is_named server_name s) 1 0) server (take (length names) servers)

    go : (count_by (is_named server_name) (take (length names) servers) ≡ 0 → chosen_for server_name names servers ≡ [])
        → (b : Bool)
        → is_named server_name server ≡ b
        → cond b (name ∷ chosen_for server_name names servers) (chosen_for server_name names servers) ≡ []
    go later true e = let one = ap {B = ℕ} (λ b. cond b 1 0) e in absurd (omega (arith, none, parts, one))
    go later false e = let zero = ap {B = ℕ} (λ b. cond b 1 0) e in later (omega (arith, none, parts, zero))

pub chosen_all : (server_name : List ℕ) (names : List (List ℕ)) (servers : List (Option (List ℕ)))
    → length names ≤ length servers
    → count_by (is_named server_name) (take (length names) servers) ≡ length names
    → chosen_for server_name names servers ≡ names
chosen_all server_name [] servers room all = refl
chosen_all server_name (name ∷ names) [] room all = absurd (omega (arith, room))
chosen_all server_name (name ∷ names) (server ∷ servers) room all =
    go (chosen_all server_name names servers (omega (arith, room))) (is_named server_name server) refl
  where
    parts : count_by (is_named server_name) (take (suc (length names)) (server ∷ servers))
        ≡ cond (is_named server_name server) 1 0 + count_by (is_named server_name) (take (length names) servers)
    parts =
        sum_by-cons (λ (s : Option (List ℕ)). cond (is_named server_name s) 1 0) server (take (length names) servers)

    most : count_by (is_named server_name) (take (length names) servers) ≤ length names
    most =
        let some = count_by-le-length (is_named server_name) (take (length names) servers) in
        let few = length-take-le (length names) servers (omega (arith, room)) in omega (arith, some, few)

    go : (count_by (is_named server_name) (take (length names) servers) ≡ length names
        → chosen_for server_name names servers ≡ names)
        → (b : Bool)
        → is_named server_name server ≡ b
        → cond b (name ∷ chosen_for server_name names servers) (chosen_for server_name names servers) ≡ name ∷ names
    go later true e =
        let one = ap {B = ℕ} (λ b. cond b 1 0) e in ap (λ l. name ∷ l) (later (omega (arith, all, parts, one)))
    go later false e = let zero = ap {B = ℕ} (λ b. cond b 1 0) e in absurd (omega (arith, all, parts, zero, most))
