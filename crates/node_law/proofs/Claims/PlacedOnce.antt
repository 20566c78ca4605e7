-- A Claim places where it won, so over a run as many messages are placed as Claims were won; and nothing else is put
-- for a queue name.
use Rattle.std.proofs.Common.{◌≡◌, ℕ, ◌+◌, ◌-◌, ◌≤◌, Bool, true, false, true≢false, cond, nat_eq, ◌&&◌, List, [], ◌∷◌, ◌++◌, length, map, Option, Some, None, is_some, refl, sym, ap, ◌∙◌, subst, inl, arith}
use Rattle.std.specs.Prelude.{filter, slice_get}
use Rattle.std.specs.List.{flat_map, list_any}
use Rattle.std.proofs.lemmas.Grind.{flat_map-append}
use Rattle.std.proofs.lemmas.List.{length-append}
use Rattle.std.proofs.lemmas.Option.{none-some, same_Some}
use Rattle.list_laws.specs.Lists.{Each}
use Rattle.list_laws.proofs.Lists.{in_left, in_right}
use Rattle.list_laws.proofs.Tests.{eq_true, true_eq, same_bytes}
use Rattle.list_laws.proofs.Changes.{filter_append}
use Rattle.subj.specs.QueueNames.{is_named}
use Rattle.subj.specs.Servers.{ServerIdentity}
use Rattle.subj.specs.declared.jobs.Job.{Job}
use Rattle.sub_table.specs.declared.Subscription.{Subscription}
use Rattle.shard_core.specs.declared.calls.Placed.{Placed}
use Rattle.shard_core.specs.Shards as shards
use Rattle.shard_core.specs.AsLaw.{job_by}
use Rattle.shard_core.specs.Lines.{first_of}
use Rattle.shard_core.specs.Owed.{whole_walk, slow_consumer, candidate_of, candidate_named, owed_placed, mode_of}
use Rattle.shard_core.specs.Puts.{put_line, put_by, put_by_claim}
use Rattle.shard_core.specs.ShardEvents as of_shard
use Rattle.shard_core.proofs.Steps.LawEvents.{candidate_is}
use Rattle.node_law.specs.AsLaw.{part_if, part_at, part_of}
use Rattle.node_law.specs.Events as of_node
use Rattle.node_law.specs.Events.{ConnEvent, ShardWork, NodeEvent, Own, Receive, OnInfo, OnConnect}
use Rattle.node_law.specs.OneServer.{Claimed, claims_of, claims_by, work_claims, claimed_at, claimed_with, option_for, is_of_pair, is_tried, is_win, placed_with}
use Rattle.node_law.specs.PlacedOnce.{placed_of, all_placed, PlacesOnce, mode_name, is_for, is_of_turn, put_for, entries_put, StandsAt, PutsOnce}
use Rattle.node_law.specs.Runs.{Done}
use Rattle.node_law.specs.State.{ShardWithJobs, Node}
use Rattle.node_law.specs.Steps.{conn_place, conn_line, shard_line, conn_event, begin_of, drop_of, work_event}
use Rattle.node_law.proofs.Claims.OneWinner.{queue_names_have_one_winner}
use Rattle.node_law.proofs.Claims.OneJob.{turns_have_one_job}

-- a Claim places one message where it won
places_one : (turn index : ℕ) (x : Claimed) → length (placed_of turn index x) ≡ cond (is_win turn index x) 1 0
places_one turn index x = go x.candidate x.won (is_of_pair turn index x)
  where
    go : (candidate : Option Subscription) (won ours : Bool)
        → length (cond ours (placed_with x.shard x.headers x.job candidate won) [])
        ≡ cond (won && (is_some candidate && ours)) 1 0
    go None true true = refl
    go None true false = refl
    go None false true = refl
    go None false false = refl
    go (Some u) true true = refl
    go (Some u) true false = refl
    go (Some u) false true = refl
    go (Some u) false false = refl

as_many : (turn index : ℕ) (claims : List Claimed)
    → length (flat_map (placed_of turn index) claims) ≡ length (filter (is_win turn index) claims)
as_many turn index [] = refl
as_many turn index (x ∷ claims) =
    length-append (placed_of turn index x) (flat_map (placed_of turn index) claims)
    ∙ go (is_win turn index x) (places_one turn index x) (as_many turn index claims)
  where
    go : (b : Bool)
        → length (placed_of turn index x) ≡ cond b 1 0
        → length (flat_map (placed_of turn index) claims) ≡ length (filter (is_win turn index) claims)
        → length (placed_of turn index x) + length (flat_map (placed_of turn index) claims)
        ≡ length (cond b (x ∷ filter (is_win turn index) claims) (filter (is_win turn index) claims))
    go true one below = omega arith
    go false one below = omega arith

pub queue_messages_are_placed_once : PlacesOnce
queue_messages_are_placed_once server h a listed ran turn index =
    as_many turn index (claims_of h) ∙ queue_names_have_one_winner server h a listed ran turn index

-- ---- by outboxes

no_line_for : (name line : List ℕ) (conns : List ℕ) → filter (is_for name) (map (put_line line) conns) ≡ []
no_line_for name line [] = refl
no_line_for name line (conn ∷ conns) = no_line_for name line conns

no_plain_for : (name : List ℕ) (shard : ℕ) (clients : List shards.Client) (job : Job) (us : List Subscription)
    → filter (is_for name) (map (owed_placed shard clients job None) us) ≡ []
no_plain_for name shard clients job [] = refl
no_plain_for name shard clients job (u ∷ us) = no_plain_for name shard clients job us

abbrev PutAt : ℕ → List ℕ → shards.State → of_shard.Event → List Placed
PutAt turn name s e = cond (is_of_turn turn (job_by s e)) (filter (is_for name) (put_by s e)) []

abbrev is_claim : of_shard.Event → Bool
is_claim (of_shard.Claim index won) = true
is_claim other = false

-- no event but a Claim puts anything for a queue name
none_else : (turn : ℕ) (name : List ℕ) (s : shards.State) (e : of_shard.Event)
    → is_claim e ≡ false
    → PutAt turn name s e ≡ []
none_else turn name s of_shard.Attach other = refl
none_else turn name s (of_shard.Subscribe conn key sid) other = refl
none_else turn name s (of_shard.Unsubscribe conn sid max) other = refl
none_else turn name s (of_shard.Reply conn frame) other = refl
none_else turn name s (of_shard.Shut conn text) other = refl
none_else turn name s (of_shard.Detach conn) other = refl
none_else turn name s (of_shard.SetHeaders conn on) other = refl
none_else turn name s (of_shard.Take conn count) other = refl
none_else turn name s (of_shard.Begin job) other = go (nat_eq job.turn turn)
  where
    none : filter (is_for name) (put_by s (of_shard.Begin job)) ≡ []
    none =
        filter_append (is_for name) (map (owed_placed s.shard s.clients job None) (whole_walk s job).given)
        (map (put_line slow_consumer) (whole_walk s job).shut)
        ∙ ap (λ t. t ++ filter (is_for name) (map (put_line slow_consumer) (whole_walk s job).shut))
        (no_plain_for name s.shard s.clients job (whole_walk s job).given)
        ∙ no_line_for name slow_consumer (whole_walk s job).shut

    go : (b : Bool) → cond b (filter (is_for name) (put_by s (of_shard.Begin job))) [] ≡ []
    go true = none
    go false = refl
none_else turn name s (of_shard.Claim index won) other = absurd (true≢false other)
none_else turn name s of_shard.End other = refl
none_else turn name s (of_shard.DropJob waiting) other = refl
none_else turn name s of_shard.Drain other = refl
none_else turn name s of_shard.Collect other = refl

-- where the name stands in the job of the turn
abbrev Stands : ℕ → List ℕ → ℕ → Claimed → Type 0
Stands turn name index x = x.job.turn ≡ turn → StandsAt name index x.job

-- what a Claim puts for the name, its index places
claim_less : (turn index : ℕ) (name : List ℕ) (shard k : ℕ) (won : Bool) (s : shards.State) (hand : Option Job)
    (u : Option Subscription)
    → candidate_of s hand k ≡ u
    → Each (Stands turn name index) (claimed_with shard k won s.clients hand u)
    → length (cond (is_of_turn turn hand) (filter (is_for name) (put_by_claim s hand u won)) [])
    ≤ length (flat_map (placed_of turn index) (claimed_with shard k won s.clients hand u))
claim_less turn index name shard k won s None u is stands = omega arith
claim_less turn index name shard k won s (Some job) None is stands = go (nat_eq job.turn turn)
  where
    go : (b : Bool)
        → length (cond {A = List Placed} b [] [])
        ≤ length (flat_map (placed_of turn index)
        (record {
          shard = shard;
          job = job;
          index = k;
          candidate = None;
          headers = option_for s.clients None;
          won = won;
        } ∷ []))
    go true = omega arith
    go false = omega arith
claim_less turn index name shard k false s (Some job) (Some u) is stands = go (nat_eq job.turn turn)
  where
    go : (b : Bool)
        → length (cond {A = List Placed} b [] [])
        ≤ length (flat_map (placed_of turn index)
        (record {
          shard = shard;
          job = job;
          index = k;
          candidate = Some u;
          headers = option_for s.clients (Some u);
          won = false;
        } ∷ []))
    go true = omega arith
    go false = omega arith
claim_less turn index name shard k true s (Some job) (Some u) is stands =
    go (nat_eq job.turn turn) (is_for name (owed_placed s.shard s.clients job u.key.queue u)) refl refl
  where
    named_by : (o : Option (List ℕ))
        → slice_get job.queues k ≡ o
        → candidate_named s job o ≡ Some u
        → is_for name (owed_placed s.shard s.clients job u.key.queue u) ≡ true
        → slice_get job.queues k ≡ Some name
    named_by None at f g = absurd (none-some u f)
    named_by (Some other) at f g =
        let q = (candidate_is s job other u f).1 in
        at ∙ ap Some (same_bytes other name (sym (ap (λ o. is_named name (mode_name (mode_of o))) q) ∙ g))

    go : (b c : Bool)
        → nat_eq job.turn turn ≡ b
        → is_for name (owed_placed s.shard s.clients job u.key.queue u) ≡ c
        → length (cond b (cond c (owed_placed s.shard s.clients job u.key.queue u ∷ []) []) [])
        ≤ length (cond (b && nat_eq k index) (owed_placed shard s.clients job u.key.queue u ∷ []) [] ++ [])
    go false c e f = omega arith
    go true false e f = omega arith
    go true true e f =
        let here = stands _ (inl refl) (eq_true job.turn turn e) k (named_by (slice_get job.queues k) refl is f) in
        subst (λ b. 1 ≤ length (cond b (owed_placed shard s.clients job u.key.queue u ∷ []) [] ++ []))
        (sym (true_eq k index here)) (omega arith)

none_less : (xs : List Placed) (n : ℕ) → xs ≡ [] → length xs ≤ n
none_less xs n e = subst (λ t. length t ≤ n) (sym e) (omega arith)

not_claimed : (conn : ℕ) (event : ConnEvent) → is_claim (conn_event conn event) ≡ false
not_claimed conn (of_node.Subscribe key sid) = refl
not_claimed conn (of_node.Unsubscribe sid max) = refl
not_claimed conn (of_node.Reply frame) = refl
not_claimed conn (of_node.Shut text) = refl
not_claimed conn of_node.Detach = refl
not_claimed conn (of_node.SetHeaders on) = refl
not_claimed conn (of_node.Take count) = refl

module _ (turn index : ℕ) (name : List ℕ) where
  if_less : (place : ℕ) (line : ShardWithJobs) (e : Option of_shard.Event) (n : ℕ)
      → ((x : of_shard.Event) → e ≡ Some x → is_claim x ≡ false)
      → length (put_for turn name (part_if place line e)) ≤ n
  if_less place line None n other = omega arith
  if_less place line (Some e) n other = none_less _ n (none_else turn name line.shard e (other e refl))

  work_less : (a : Node) (shard : ℕ) (work : ShardWork) (won : Bool)
      → Each (Stands turn name index) (work_claims a shard work won)
      → length (put_for turn name (part_at (shard - 1) (work_event work won) (shard_line a shard)))
      ≤ length (flat_map (placed_of turn index) (work_claims a shard work won))
  work_less a shard work won stands = go work (shard_line a shard) refl stands
    where
      begins : (f : Option Job) (x : of_shard.Event) → begin_of f ≡ Some x → is_claim x ≡ false
      begins None x e = absurd (none-some x e)
      begins (Some job) x e = ap is_claim (sym (same_Some (of_shard.Begin job) x e))

      drops : (hand f : Option Job) (x : of_shard.Event) → drop_of hand f ≡ Some x → is_claim x ≡ false
      drops None None x e = absurd (none-some x e)
      drops None (Some job) x e = ap is_claim (sym (same_Some (of_shard.DropJob (Some job)) x e))
      drops (Some job) f x e = ap is_claim (sym (same_Some (of_shard.DropJob None) x e))

      go : (work : ShardWork) (o : Option ShardWithJobs)
          → shard_line a shard ≡ o
          → Each (Stands turn name index) (work_claims a shard work won)
          → length (put_for turn name (part_at (shard - 1) (work_event work won) o))
          ≤ length (flat_map (placed_of turn index) (work_claims a shard work won))
      go work None at stands = omega arith
      go of_node.Attach (Some line) at stands = omega arith
      go of_node.Begin (Some line) at stands =
          if_less (shard - 1) line (begin_of (first_of line.waiting)) _ (begins (first_of line.waiting))
      go (of_node.Claim k) (Some line) at stands =
          subst (λ o.
          length (put_for turn name (Some (record { place = shard - 1; line = line; event = of_shard.Claim k won })))
          ≤ length (flat_map (placed_of turn index) (claimed_at shard k won o)))
          (sym at)
          (claim_less turn index name shard k won line.shard line.shard.hand (candidate_of line.shard line.shard.hand k)
          refl (subst (λ o. Each (Stands turn name index) (claimed_at shard k won o)) at stands))
      go of_node.End (Some line) at stands = omega arith
      go of_node.DropJob (Some line) at stands =
          if_less (shard - 1) line (drop_of line.shard.hand (first_of line.waiting)) _
          (drops line.shard.hand (first_of line.waiting))
      go of_node.DrainShard (Some line) at stands = omega arith

  step_less : (server : ServerIdentity) (a : Node) (e : NodeEvent) (won : Bool)
      → Each (Stands turn name index) (claims_by a e won)
      → length (put_for turn name (part_of server a e won))
      ≤ length (flat_map (placed_of turn index) (claims_by a e won))
  step_less server a (Own (of_node.OfConn conn event)) won stands = go (conn_line server a conn)
    where
      go : (o : Option ShardWithJobs)
          → length (put_for turn name (part_at (conn_place server conn) (λ line. Some (conn_event conn event)) o)) ≤ 0
      go None = omega arith
      go (Some line) = none_less _ 0 (none_else turn name line.shard (conn_event conn event) (not_claimed conn event))
  step_less server a (Own (of_node.AtShard shard work)) won stands = work_less a shard work won stands
  step_less server a (Own (of_node.Publish p)) won stands = omega arith
  step_less server a (Own (of_node.Collect shard)) won stands = omega arith
  step_less server a (Own of_node.Drain) won stands = omega arith
  step_less server a (Own (of_node.Dial q)) won stands = omega arith
  step_less server a (Own of_node.Accept) won stands = omega arith
  step_less server a (Own (of_node.CutSession session)) won stands = omega arith
  step_less server a (Own (of_node.TakeFrames q count)) won stands = omega arith
  step_less server a (Receive frame) won stands = omega arith
  step_less server a (OnInfo session info) won stands = omega arith
  step_less server a (OnConnect session connect) won stands = omega arith

  run_less : (server : ServerIdentity) (h : List Done)
      → Each (Stands turn name index) (claims_of h)
      → length (entries_put server turn name h) ≤ length (all_placed turn index h)
  run_less server [] stands = omega arith
  run_less server (d ∷ earlier) stands =
      let here = step_less server d.before d.event d.won
      (λ x i. stands x (in_left x (claims_by d.before d.event d.won) (claims_of earlier) i)) in
      let later =
      run_less server earlier (λ x i. stands x (in_right x (claims_by d.before d.event d.won) (claims_of earlier) i)) in
      let p = length-append (put_for turn name (part_of server d.before d.event d.won))
      (entries_put server turn name earlier) in
      let q = ap length (flat_map-append (placed_of turn index) (claims_by d.before d.event d.won) (claims_of earlier))
      ∙ length-append (flat_map (placed_of turn index) (claims_by d.before d.event d.won))
      (all_placed turn index earlier) in
      omega arith

at_most_one : (n : ℕ) (b : Bool) → n ≡ cond b 1 0 → n ≤ 1
at_most_one n true e = omega arith
at_most_one n false e = omega arith

pub queue_messages_are_put_once : PutsOnce
queue_messages_are_put_once server h a listed ran turn index name stands =
    let less =
    run_less turn index name server h (λ x i. stands x.job ((turns_have_one_job server h a listed ran).claims x i)) in
    let one = at_most_one (length (all_placed turn index h)) (list_any (is_tried turn index) (claims_of h))
    (queue_messages_are_placed_once server h a listed ran turn index) in
    omega arith
