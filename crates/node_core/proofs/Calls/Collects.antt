-- A collect or a drain at a server: how many frames it puts, and what it changes.
use Rattle.std.proofs.Common.{◌≡◌, ℕ, suc, ◌+◌, ◌-◌, ◌*◌, ◌≤◌, Bool, true, false, cond, List, [], ◌∷◌, ◌++◌, length, map, set, Some, refl, sym, ap, ◌∙◌, subst, arith, length-append}
use Rattle.std.specs.Prelude.{filter, slice_get, if◌then◌else◌}
use Rattle.std.specs.List.{count_by}
use Rattle.std.specs.Option.{option_map}
use Rattle.std.proofs.Math.Nat.{add-mul, mul-add, mul-one, mul-zero, zero-mul, mul-le-mul_left}
use Rattle.std.proofs.lemmas.List.Sums.{sum_by-cons}
use Rattle.list_laws.proofs.Tests.{and_true, le_true}
use Rattle.subj.specs.Servers.{ServerIdentity, name_of, own_name}
use Rattle.subj.specs.declared.limits.TheConstants.{MAX_NODES, ROUTE_FRAMES}
use Rattle.interest.specs.declared.changes.Change.{Change}
use Rattle.subj.specs.declared.keys.Delta.{Delta}
use Rattle.claim_race.specs.Race.{RaceState}
use Rattle.route_values.specs.Frames.{Frame}
use Rattle.hub_core.specs.State as hub
use Rattle.hub_core.specs.State.{Peer}
use Rattle.hub_core.specs.Events as of_hub
use Rattle.hub_core.specs.AsLaw.{HasPeers}
use Rattle.hub_core.specs.Publishing.{is_to, with_frames}
use Rattle.hub_core.specs.Telling.{is_told, has_room_for, without_slow, body_of, changes_of, count_of_changes, frames_of_change, frames_behind, collect_frames, after_collect, slow_peers, clearing, drain_frames, peers_too_slow}
use Rattle.node_parts.specs.Sides.{HubWithSessions, ByHub, OfHub, IsDone, side_after}
use Rattle.shard_core.specs.ShardEvents as of_shard
use Rattle.node_law.specs.declared.faults.NodeFault.TheVariants as node_fault
use Rattle.node_law.specs.Answers as answer
use Rattle.node_law.specs.State.{ShardWithJobs, Node}
use Rattle.node_law.specs.Steps.{shard_line, line_after, set_line, deltas_at, collect_refusal_at}
use Rattle.node_core.specs.Served.{CollectStep, DrainStep, served_of_parts}
use Rattle.node_core.proofs.Calls.Composed.{IsShard, lines_same}

-- ---- how many frames

abbrev pub is_up : Peer → Bool
is_up peer = peer.up

counted : {A : Type 0} (p : A → Bool) (x : A) (xs : List A) → count_by p (x ∷ xs) ≡ cond (p x) 1 0 + count_by p xs
counted p x xs = sum_by-cons (λ y. cond (p y) 1 0) x xs

one_if : (b : Bool) (frame : Frame) (frames : List Frame)
    → length ((if b then frame ∷ [] else []) ++ frames) ≡ cond b 1 0 + length frames
one_if true frame frames = omega arith
one_if false frame frames = omega arith

-- a change is told to each peer that is told
of_change : (server : ServerIdentity) (count number : ℕ) (change : Change) (q : ℕ) (peers : List Peer)
    → length (frames_of_change server count number change q peers) ≡ count_by (is_told count) peers
of_change server count number change q [] = refl
of_change server count number change q (peer ∷ peers) =
    one_if (is_told count peer)
    (record {
      from = own_name server;
      inc = server.inc;
      to = name_of server q;
      to_inc = peer.seen;
      number = number;
      body = body_of change;
    })
    (frames_of_change server count number change (suc q) peers)
    ∙ ap (λ n. cond (is_told count peer) 1 0 + n) (of_change server count number change (suc q) peers)
    ∙ sym (counted (is_told count) peer peers)

more : (n k : ℕ) → k + n * k ≡ suc n * k
more n k =
    (let e = add-mul n 1 k in
    let f = mul-one k in
    let g : suc n ≡ n + 1 = omega arith in
    sym (ap (λ t. t * k) g ∙ e ∙ (let h : 1 * k ≡ k = omega arith in ap (λ t. n * k + t) h) ∙ swap (n * k) k))
  where
    swap : (a b : ℕ) → a + b ≡ b + a
    swap a b = omega arith

of_changes : (server : ServerIdentity) (count number : ℕ) (changes : List Change) (peers : List Peer)
    → length (frames_behind server count number changes peers) ≡ length changes * count_by (is_told count) peers
of_changes server count number [] peers = sym (zero-mul (count_by (is_told count) peers))
of_changes server count number (change ∷ changes) peers =
    length-append (frames_of_change server count (number + 1) change 0 peers)
    (frames_behind server count (number + 1) changes peers)
    ∙ (λ i. of_change server count (number + 1) change 0 peers i + of_changes server count (number + 1) changes peers i)
    ∙ more (length changes) (count_by (is_told count) peers)

-- who is told is up after it
up_with : (server : ServerIdentity) (frames : List Frame) (q : ℕ) (peers : List Peer)
    → count_by is_up (with_frames server frames q peers) ≡ count_by is_up peers
up_with server frames q [] = refl
up_with server frames q (peer ∷ peers) =
    counted is_up (record peer { outbox = peer.outbox ++ filter (is_to server q) frames })
    (with_frames server frames (suc q) peers)
    ∙ ap (λ n. cond peer.up 1 0 + n) (up_with server frames (suc q) peers)
    ∙ sym (counted is_up peer peers)

up_told : (count : ℕ) (peers : List Peer)
    → count_by is_up (map (without_slow count) peers) ≡ count_by (is_told count) peers
up_told count [] = refl
up_told count (peer ∷ peers) =
    counted is_up (without_slow count peer) (map (without_slow count) peers)
    ∙ ap (λ n. cond (is_told count peer) 1 0 + n) (up_told count peers)
    ∙ sym (counted (is_told count) peer peers)

pub told_is : (server : ServerIdentity) (hub : hub.State) (deltas : List Delta)
    → count_by is_up (after_collect server hub deltas).peers
    ≡ count_by (is_told (count_of_changes hub deltas)) hub.peers
told_is server hub deltas =
    up_with server (collect_frames server hub deltas) 0 (map (without_slow (count_of_changes hub deltas)) hub.peers)
    ∙ up_told (count_of_changes hub deltas) hub.peers

pub frames_told : (server : ServerIdentity) (hub : hub.State) (deltas : List Delta)
    → count_of_changes hub deltas * count_by is_up (after_collect server hub deltas).peers
    ≡ length (collect_frames server hub deltas)
frames_told server hub deltas =
    ap (λ n. count_of_changes hub deltas * n) (told_is server hub deltas)
    ∙ sym (of_changes server (count_of_changes hub deltas) hub.changed (changes_of hub deltas) hub.peers)

-- a peer that is told has room for all of them
told_few : (count : ℕ) (peer : Peer) → is_told count peer ≡ true → count ≤ ROUTE_FRAMES
told_few count peer e =
    let room = le_true (length peer.outbox + count) ROUTE_FRAMES (and_true peer.up (has_room_for count peer) e).1 in
    omega arith

few_told : (count : ℕ) (peers : List Peer) → count * count_by (is_told count) peers ≤ ROUTE_FRAMES * length peers
few_told count [] = let z = mul-zero count in omega arith
few_told count (peer ∷ peers) = go (few_told count peers) (is_told count peer) refl
  where
    go : count * count_by (is_told count) peers ≤ ROUTE_FRAMES * length peers
        → (b : Bool)
        → is_told count peer ≡ b
        → count * count_by (is_told count) (peer ∷ peers) ≤ ROUTE_FRAMES * suc (length peers)
    go rest true e =
        let few = told_few count peer e in
        let one = mul-one count in
        let split :
        count * count_by (is_told count) (peer ∷ peers) ≡ count * 1 + count * count_by (is_told count) peers =
        ap (λ n. count * n)
        (counted (is_told count) peer peers ∙ ap (λ b. cond b 1 0 + count_by (is_told count) peers) e)
        ∙ mul-add count 1 (count_by (is_told count) peers) in
        omega arith
    go rest false e =
        let drop_none : 0 + count_by (is_told count) peers ≡ count_by (is_told count) peers = omega arith in
        let none : count * count_by (is_told count) (peer ∷ peers) ≡ count * count_by (is_told count) peers =
        ap (λ n. count * n)
        (counted (is_told count) peer peers ∙ ap (λ b. cond b 1 0 + count_by (is_told count) peers) e ∙ drop_none) in
        omega arith

pub frames_few : (server : ServerIdentity) (hub : hub.State) (deltas : List Delta)
    → count_of_changes hub deltas * count_by is_up (after_collect server hub deltas).peers
    ≤ ROUTE_FRAMES * length hub.peers
frames_few server hub deltas =
    subst (λ n. count_of_changes hub deltas * n ≤ ROUTE_FRAMES * length hub.peers) (sym (told_is server hub deltas))
    (few_told (count_of_changes hub deltas) hub.peers)

-- so the number of frames is no great one
pub frames_within : (server : ServerIdentity) (hub : hub.State) (deltas : List Delta) (count ups : ℕ)
    → HasPeers server hub
    → length server.names ≤ MAX_NODES
    → count ≡ count_of_changes hub deltas
    → ups ≡ count_by is_up (after_collect server hub deltas).peers
    → count * ups ≤ ROUTE_FRAMES * MAX_NODES
frames_within server hub deltas count ups size few count_is ups_are =
    let bound : count * ups ≤ ROUTE_FRAMES * length hub.peers = subst (λ n. n ≤ ROUTE_FRAMES * length hub.peers)
    (sym (λ k. count_is k * ups_are k)) (frames_few server hub deltas) in
    let most : ROUTE_FRAMES * length hub.peers ≤ ROUTE_FRAMES * MAX_NODES =
    mul-le-mul_left {m = length hub.peers} {n = MAX_NODES} ROUTE_FRAMES (omega arith) in
    omega arith

-- ---- what is done

-- the side has counted and told the line's deltas, and the line has given them up
pub record IsToldOf (old new : HubWithSessions) (shard : ℕ) (line after : ShardWithJobs) (changes : List Change)
    (ups : ℕ) (cut : List ℕ) : Type 0 where
  pub done : IsDone old (ByHub (of_hub.Collect shard line.shard.deltas))
      (OfHub (of_hub.Collected changes (collect_frames old.server old.hub line.shard.deltas) cut)) new
  pub ups_are : ups ≡ count_by is_up new.hub.peers
  pub after_is : after ≡ line_after of_shard.Collect line

pub changes_told : (old new : HubWithSessions) (shard : ℕ) (line after : ShardWithJobs) (changes : List Change)
    (ups : ℕ) (cut : List ℕ)
    → IsToldOf old new shard line after changes ups cut
    → changes ≡ changes_of old.hub line.shard.deltas
changes_told old new shard line after changes ups cut told =
    let d = line.shard.deltas in
    let e : OfHub (of_hub.Collected changes (collect_frames old.server old.hub d) cut)
    ≡ OfHub (of_hub.Collected (changes_of old.hub d) (collect_frames old.server old.hub d) (slow_peers old.hub d)) =
    told.done.answered in
    let is : changes ≡ changes_of old.hub d = cc (e) in
    is

cut_told : (old new : HubWithSessions) (shard : ℕ) (line after : ShardWithJobs) (changes : List Change) (ups : ℕ)
    (cut : List ℕ)
    → IsToldOf old new shard line after changes ups cut
    → cut ≡ slow_peers old.hub line.shard.deltas
cut_told old new shard line after changes ups cut told =
    let d = line.shard.deltas in
    let e : OfHub (of_hub.Collected changes (collect_frames old.server old.hub d) cut)
    ≡ OfHub (of_hub.Collected (changes_of old.hub d) (collect_frames old.server old.hub d) (slow_peers old.hub d)) =
    told.done.answered in
    let is : cut ≡ slow_peers old.hub d = cc (e) in
    is

pub ups_told : (old new : HubWithSessions) (shard : ℕ) (line after : ShardWithJobs) (changes : List Change) (ups : ℕ)
    (cut : List ℕ)
    → IsToldOf old new shard line after changes ups cut
    → ups ≡ count_by is_up (after_collect old.server old.hub line.shard.deltas).peers
ups_told old new shard line after changes ups cut told =
    told.ups_are ∙ ap (λ (s : HubWithSessions). count_by is_up s.hub.peers) told.done.after

pub collect_done : (old new : HubWithSessions) (race : RaceState) (lines : List ShardWithJobs) (shard place : ℕ)
    (line after : ShardWithJobs) (changes : List Change) (ups : ℕ) (cut : List ℕ)
    → IsShard (served_of_parts old race lines).node shard place line
    → IsToldOf old new shard line after changes ups cut
    → CollectStep (served_of_parts old race lines) shard (length changes) (length changes * ups) cut
    (served_of_parts new race (set lines place after))
collect_done old new race lines shard place line after changes ups cut p told = record {
  step = record {
    race = race;
    server = ap (λ (s : HubWithSessions). s.server) told.done.after;
    step = record {
      cause = ap (collect_refusal_at old.hub) p.is ∙ ap (option_map node_fault.Hub) told.done.free;
      moves = refl;
      after = λ k. (served_of_parts (side_is k) race (lines_are k)).node;
    };
  };
  answered = λ k. answer.Collected (changes_length k) (frames_are k) (cut_are k);
} where
  a : Node
  a = (served_of_parts old race lines).node

  side_is : new ≡ side_after old (ByHub (of_hub.Collect shard (deltas_at (shard_line a shard))))
  side_is = told.done.after ∙ ap (λ o. side_after old (ByHub (of_hub.Collect shard (deltas_at o)))) (sym p.is)

  cut_are : cut ≡ slow_peers old.hub (deltas_at (shard_line a shard))
  cut_are =
      cut_told old new shard line after changes ups cut told ∙ ap (λ o. slow_peers old.hub (deltas_at o)) (sym p.is)

  lines_are : set lines place after ≡ set_line lines (shard - 1) (line_after of_shard.Collect) (shard_line a shard)
  lines_are =
      ap (set lines place) told.after_is ∙ sym (λ k. set_line lines (p.at k) (line_after of_shard.Collect) (p.is k))

  changes_length : length changes ≡ length (changes_of old.hub (deltas_at (shard_line a shard)))
  changes_length =
      ap length (changes_told old new shard line after changes ups cut told)
      ∙ ap (λ o. length (changes_of old.hub (deltas_at o))) (sym p.is)

  frames_are : length changes * ups ≡ length (collect_frames old.server old.hub (deltas_at (shard_line a shard)))
  frames_are =
      (λ k.
      length (changes_told old new shard line after changes ups cut told k)
      * ups_told old new shard line after changes ups cut told k)
      ∙ frames_told old.server old.hub line.shard.deltas
      ∙ ap (λ o. length (collect_frames old.server old.hub (deltas_at o))) (sym p.is)

-- what the calls have said
pub told_of : (old new : HubWithSessions) (shard : ℕ) (line after : ShardWithJobs) (deltas : List Delta)
    (changes : List Change) (ups : ℕ) (cut : List ℕ)
    → deltas ≡ line.shard.deltas
    → IsDone old (ByHub (of_hub.Collect shard deltas))
    (OfHub (of_hub.Collected changes (collect_frames old.server old.hub deltas) cut)) new
    → ups ≡ count_by is_up new.hub.peers
    → after ≡ line_after of_shard.Collect line
    → IsToldOf old new shard line after changes ups cut
told_of old new shard line after deltas changes ups cut same done ups_are after_is = record {
  done =
      subst (λ d.
      IsDone old (ByHub (of_hub.Collect shard d))
      (OfHub (of_hub.Collected changes (collect_frames old.server old.hub d) cut)) new)
      same done;
  ups_are = ups_are;
  after_is = after_is;
}

-- a collect that is refused leaves all as it was
pub collect_left : (old new : HubWithSessions) (race : RaceState) (lines : List ShardWithJobs) (place : ℕ)
    (line : ShardWithJobs)
    → new ≡ old
    → slice_get lines place ≡ Some line
    → served_of_parts new race (set lines place line) ≡ served_of_parts old race lines
collect_left old new race lines place line left here =
    λ k. served_of_parts (left k) race (lines_same lines place line line here refl k)

-- ---- a drain

pub drain_done : (old new : HubWithSessions) (race : RaceState) (lines : List ShardWithJobs) (ups : ℕ) (cut : List ℕ)
    → IsDone old (ByHub of_hub.Drain) (OfHub (of_hub.Drained (drain_frames old.server old.hub) cut)) new
    → ups ≡ count_by is_up new.hub.peers
    → DrainStep (served_of_parts old race lines) 1 ups cut (served_of_parts new race lines)
drain_done old new race lines ups cut done ups_are = record {
  step = record {
    race = race;
    server = ap (λ (s : HubWithSessions). s.server) done.after;
    step = record {
      cause = ap (option_map node_fault.Hub) done.free;
      moves = refl;
      after = λ k. (served_of_parts (done.after k) race lines).node;
    };
  };
  answered = λ k. answer.Collected 1 (frames_are k) (cut_are k);
} where
  frames : List Frame
  frames = drain_frames old.server old.hub

  cut_are : cut ≡ peers_too_slow old.hub
  cut_are =
      let e : OfHub (of_hub.Drained (drain_frames old.server old.hub) cut)
      ≡ OfHub (of_hub.Drained (drain_frames old.server old.hub) (peers_too_slow old.hub)) = done.answered in
      let is : cut ≡ peers_too_slow old.hub = cc (e) in
      is

  -- one frame for each peer that is told
  frames_are : ups ≡ length (drain_frames old.server old.hub)
  frames_are =
      let up : ups ≡ count_by (is_told 1) old.hub.peers = ups_are
      ∙ ap (λ (s : HubWithSessions). count_by is_up s.hub.peers) done.after
      ∙ up_with old.server frames 0 (map (without_slow 1) old.hub.peers) ∙ up_told 1 old.hub.peers in
      let each = of_changes old.server 1 old.hub.changed clearing old.hub.peers in
      omega arith
