-- What a server tells closed is just what was open and is open no more.
use Rattle.std.proofs.Common.{◌≡◌, ◌≢◌, ℕ, zero, suc, ◌-◌, Bool, true, false, true≢false, cond, not, ◌&&◌, ◌||◌, nat_eq, List, [], ◌∷◌, ◌++◌, map, set, Option, Some, None, refl, sym, ap, ◌∙◌, arith}
use Rattle.std.specs.Prelude.{filter, slice_get}
use Rattle.std.specs.List.{list_any}
use Rattle.std.specs.Option.{option_map, option_or}
use Rattle.std.proofs.lemmas.Option.{none-some, slice_get-map}
use Rattle.list_laws.proofs.Lists.{in_left}
use Rattle.list_laws.proofs.Tests.{eq_true, eq_false, true_eq, false_eq, has_in, in_has}
use Rattle.list_laws.proofs.Changes.{get_set_here, get_set_there, map_append}
use Rattle.claim_race.specs.Race.{RaceState}
use Rattle.client_frames.specs.Frames.{reply_line}
use Rattle.outbox.specs.Views.{reply_entry, with_entry}
use Rattle.sub_table.specs.Subscriptions.{serial_of, with_max}
use Rattle.sub_table.specs.declared.Subscription.{Subscription}
use Rattle.subj.specs.declared.identities.SubId.{SubId}
use Rattle.subj.specs.declared.jobs.Job.{Job}
use Rattle.subj.specs.Servers.{ServerIdentity}
use Rattle.route_values.specs.declared.bodies.Body.{Body}
use Rattle.route_values.specs.declared.bodies.Body.TheVariants.{Plus, Minus, Snapshot, Msg}
use Rattle.route_values.specs.Frames.{Frame}
use Rattle.hub_core.specs.Publishing.{own_job}
use Rattle.hub_core.specs.Receiving.{routed_job}
use Rattle.shard_core.specs.AsLaw.{is_open_serial}
use Rattle.shard_core.specs.Closings.{serials_of, is_left, left_of, without_subs, ended_ids}
use Rattle.shard_core.specs.Owed.{whole_walk, sub_with_count, ended_by, candidate_of, after_claim, slow_consumer}
use Rattle.shard_core.specs.ShardEvents.{Event, Attach, Subscribe, Unsubscribe, Reply, SetHeaders, Shut, Detach, Take, Begin, Claim, End, DropJob, Drain, Collect}
use Rattle.shard_core.specs.ShardSteps.{sub_called, new_sub, after_subscribe, subscribe_answer, ended_now, after_unsubscribe, ended_by_unsubscribe, answer_fits, ended_by_reply, was_shut, done_with, claim_answer, shard_after, shard_answer, ended_of}
use Rattle.shard_core.specs.Shards.{State, clients_with_change}
use Rattle.shard_core.proofs.Closings.Closed.{counted_serials, max_serials}
use Rattle.node_law.specs.AsLaw.{part_if, part_at, part_of}
use Rattle.node_law.specs.Events as of_node
use Rattle.node_law.specs.Events.{OfConn, AtShard, Publish, Dial, Accept, CutSession, TakeFrames, NodeEvent, Own, Receive, OnInfo, OnConnect}
use Rattle.node_core.specs.Outcome.{ended_at}
use Rattle.node_law.specs.Sound.{SoundNode}
use Rattle.node_law.specs.State.{ShardWithJobs, Node}
use Rattle.node_law.specs.Steps.{conn_place, conn_line, shard_line, conn_event, work_event, line_after, line_after_if, set_line, line_with_job, lines_after_body, node_after}
use Rattle.node_law.specs.AsLaw.{is_open_in}
use Rattle.world_law.specs.State.{is_sub}

-- ---- a shard

abbrev ended_by_claim : Option Job → Option Subscription → Bool → List ℕ
ended_by_claim None u won = []
ended_by_claim (Some job) None won = []
ended_by_claim (Some job) (Some u) true = ended_by u
ended_by_claim (Some job) (Some u) false = []

-- the serials that an event tells closed
abbrev ended_serials : State → Event → List ℕ
ended_serials s Attach = []
ended_serials s (Subscribe conn key sid) = []
ended_serials s (Unsubscribe conn sid max) = ended_by_unsubscribe max (sub_called conn sid s.subs)
ended_serials s (Reply conn frame) = ended_by_reply s conn (reply_line frame)
ended_serials s (SetHeaders conn on) = []
ended_serials s (Shut conn text) = left_of conn [] s.subs
ended_serials s (Detach conn) = left_of conn [] s.subs
ended_serials s (Take conn count) = []
ended_serials s (Begin job) = (whole_walk s job).ended
ended_serials s (Claim index won) = ended_by_claim s.hand (candidate_of s s.hand index) won
ended_serials s End = []
ended_serials s (DropJob waiting) = []
ended_serials s Drain = []
ended_serials s Collect = []

told : (s : State) (e : Event) → ended_of (shard_answer s e) ≡ ended_ids s.shard (ended_serials s e)
told s Attach = refl
told s (Subscribe conn key sid) = go (sub_called conn sid s.subs)
  where
    go : (o : Option Subscription) → ended_of (subscribe_answer s o) ≡ []
    go None = refl
    go (Some u) = refl
told s (Unsubscribe conn sid max) = refl
told s (Reply conn frame) = refl
told s (SetHeaders conn on) = refl
told s (Shut conn text) = refl
told s (Detach conn) = refl
told s (Take conn count) = refl
told s (Begin job) = refl
told s (Claim index won) = go s.hand (candidate_of s s.hand index) won
  where
    go : (hand : Option Job) (u : Option Subscription) (won : Bool)
        → ended_of (claim_answer s hand u won) ≡ ended_ids s.shard (ended_by_claim hand u won)
    go None u won = refl
    go (Some job) None won = refl
    go (Some job) (Some u) true = refl
    go (Some job) (Some u) false = refl
told s End = refl
told s (DropJob waiting) = refl
told s Drain = refl
told s Collect = refl

-- of what was open, just what is told is open no more
abbrev Agrees : List ℕ → List Subscription → List Subscription → Type 0
Agrees ended before after =
    (k : ℕ) → is_open_serial k before ≡ true → list_any (nat_eq k) ended ≡ not (is_open_serial k after)

nothing : (us us' : List Subscription) → serials_of us' ≡ serials_of us → Agrees [] us us'
nothing us us' same k is = ap not (sym (ap (list_any (nat_eq k)) same ∙ is))

not_not : (b : Bool) → b ≡ not (not b)
not_not true = refl
not_not false = refl

open_left : (ended : List ℕ) (us : List Subscription) (k : ℕ)
    → is_open_serial k (filter (is_left ended) us) ≡ (is_open_serial k us && not (list_any (nat_eq k) ended))
open_left ended [] k = refl
open_left ended (u ∷ us) k = go (list_any (nat_eq u.serial) ended) refl (nat_eq k u.serial) refl (open_left ended us k)
  where
    go : (gone : Bool)
        → list_any (nat_eq u.serial) ended ≡ gone
        → (here : Bool)
        → nat_eq k u.serial ≡ here
        → is_open_serial k (filter (is_left ended) us) ≡ (is_open_serial k us && not (list_any (nat_eq k) ended))
        → is_open_serial k (cond (not gone) (u ∷ filter (is_left ended) us) (filter (is_left ended) us))
        ≡ ((here || is_open_serial k us) && not (list_any (nat_eq k) ended))
    go true f true e below =
        below
        ∙ ap (λ b. is_open_serial k us && not b) (is_gone true f e)
        ∙ and_false (is_open_serial k us)
        ∙ ap not (sym (is_gone true f e))
      where
        is_gone : (b : Bool)
            → list_any (nat_eq u.serial) ended ≡ b
            → nat_eq k u.serial ≡ true
            → list_any (nat_eq k) ended ≡ b
        is_gone b f e = ap (λ j. list_any (nat_eq j) ended) (eq_true k u.serial e) ∙ f

        and_false : (b : Bool) → (b && false) ≡ false
        and_false true = refl
        and_false false = refl
    go true f false e below = below
    go false f true e below =
        ap (λ b. b || is_open_serial k (filter (is_left ended) us)) e
        ∙ ap not (sym (ap (λ j. list_any (nat_eq j) ended) (eq_true k u.serial e) ∙ f))
    go false f false e below = ap (λ b. b || is_open_serial k (filter (is_left ended) us)) e ∙ below

left_agrees : (ended : List ℕ) (us us' : List Subscription)
    → serials_of us' ≡ serials_of us
    → Agrees ended us (filter (is_left ended) us')
left_agrees ended us us' same k is =
    not_not (list_any (nat_eq k) ended)
    ∙ ap (λ b. not (b && not (list_any (nat_eq k) ended))) (sym (ap (list_any (nat_eq k)) same ∙ is))
    ∙ ap not (sym (open_left ended us' k))

one_more : (us : List Subscription) (u : Subscription) → Agrees [] us (us ++ u ∷ [])
one_more us u k is =
    ap not (sym (ap (list_any (nat_eq k)) (map_append serial_of us (u ∷ []))
    ∙ in_has k (serials_of us ++ u.serial ∷ [])
    (in_left k (serials_of us) (u.serial ∷ []) (has_in k (serials_of us) is))))

shard_agrees : (s : State) (e : Event) → Agrees (ended_serials s e) s.subs (shard_after s e).subs
shard_agrees s Attach = nothing s.subs s.subs refl
shard_agrees s (Subscribe conn key sid) = go (sub_called conn sid s.subs)
  where
    go : (o : Option Subscription) → Agrees [] s.subs (after_subscribe s (new_sub s conn key sid) o).subs
    go None = one_more s.subs (new_sub s conn key sid)
    go (Some u) = nothing s.subs s.subs refl
shard_agrees s (Unsubscribe conn sid max) = go (sub_called conn sid s.subs)
  where
    of : (u : Subscription) (b : Bool)
        → Agrees (cond b (u.serial ∷ []) []) s.subs
        (cond b (without_subs (u.serial ∷ []) s) (record s { subs = with_max u.serial max s.subs })).subs
    of u true = left_agrees (u.serial ∷ []) s.subs s.subs refl
    of u false = nothing s.subs (with_max u.serial max s.subs) (max_serials u.serial max s.subs)

    go : (o : Option Subscription) → Agrees (ended_by_unsubscribe max o) s.subs (after_unsubscribe s max o).subs
    go None = nothing s.subs s.subs refl
    go (Some u) = of u (ended_now max u)
shard_agrees s (Reply conn frame) = go (answer_fits s conn (reply_line frame))
  where
    go : (b : Bool)
        → Agrees (cond b [] (left_of conn [] s.subs)) s.subs
        (cond b
        (record s { clients = clients_with_change (with_entry (reply_entry (reply_line frame))) conn s.clients })
        (was_shut s conn slow_consumer)).subs
    go true = nothing s.subs s.subs refl
    go false = left_agrees (left_of conn [] s.subs) s.subs s.subs refl
shard_agrees s (SetHeaders conn on) = nothing s.subs s.subs refl
shard_agrees s (Shut conn text) = left_agrees (left_of conn [] s.subs) s.subs s.subs refl
shard_agrees s (Detach conn) = left_agrees (left_of conn [] s.subs) s.subs s.subs refl
shard_agrees s (Take conn count) = nothing s.subs s.subs refl
shard_agrees s (Begin job) =
    left_agrees (whole_walk s job).ended s.subs (map (sub_with_count (serials_of (whole_walk s job).given)) s.subs)
    (counted_serials (serials_of (whole_walk s job).given) s.subs)
shard_agrees s (Claim index won) = go s.hand (candidate_of s s.hand index) won
  where
    go : (hand : Option Job) (u : Option Subscription) (won : Bool)
        → Agrees (ended_by_claim hand u won) s.subs (after_claim s hand u won).subs
    go None u won = nothing s.subs s.subs refl
    go (Some job) None won = nothing s.subs s.subs refl
    go (Some job) (Some u) true =
        left_agrees (ended_by u) s.subs (map (sub_with_count (u.serial ∷ [])) s.subs)
        (counted_serials (u.serial ∷ []) s.subs)
    go (Some job) (Some u) false = nothing s.subs s.subs refl
shard_agrees s End = go s.hand
  where
    go : (hand : Option Job) → Agrees [] s.subs (done_with s hand).subs
    go None = nothing s.subs s.subs refl
    go (Some job) = nothing s.subs s.subs refl
shard_agrees s (DropJob waiting) = go (option_or s.hand waiting)
  where
    go : (hand : Option Job) → Agrees [] s.subs (done_with s hand).subs
    go None = nothing s.subs s.subs refl
    go (Some job) = nothing s.subs s.subs refl
shard_agrees s Drain = nothing s.subs s.subs refl
shard_agrees s Collect = nothing s.subs s.subs refl

-- ---- a server

-- it is open in the line of its shard
abbrev open_in : SubId → List ShardWithJobs → Bool
open_in sub lines = is_open_in sub.serial (cond (nat_eq sub.shard 0) None (slice_get lines (sub.shard - 1)))

ids_here : (sub : SubId) (shard : ℕ)
    → nat_eq sub.shard shard ≡ true
    → (ks : List ℕ)
    → list_any (is_sub sub) (ended_ids shard ks) ≡ list_any (nat_eq sub.serial) ks
ids_here sub shard e [] = refl
ids_here sub shard e (k ∷ ks) = (λ i. (e i && nat_eq sub.serial k) || ids_here sub shard e ks i)

ids_there : (sub : SubId) (shard : ℕ)
    → nat_eq sub.shard shard ≡ false
    → (ks : List ℕ)
    → list_any (is_sub sub) (ended_ids shard ks) ≡ false
ids_there sub shard e [] = refl
ids_there sub shard e (k ∷ ks) = (λ i. (e i && nat_eq sub.serial k) || ids_there sub shard e ks i)

pub at_part : (lines : List ShardWithJobs) (place : ℕ) (line : ShardWithJobs) (ev : Event)
    → slice_get lines place ≡ Some line
    → line.shard.shard ≡ suc place
    → (sub : SubId)
    → open_in sub lines ≡ true
    → list_any (is_sub sub) (ended_of (shard_answer line.shard ev))
    ≡ not (open_in sub (set lines place (line_after ev line)))
at_part lines place line ev at number sub = go (nat_eq sub.shard 0) refl (nat_eq (sub.shard - 1) place) refl
  where
    after : List ShardWithJobs
    after = set lines place (line_after ev line)

    go : (none : Bool)
        → nat_eq sub.shard 0 ≡ none
        → (here : Bool)
        → nat_eq (sub.shard - 1) place ≡ here
        → is_open_in sub.serial (cond none None (slice_get lines (sub.shard - 1))) ≡ true
        → list_any (is_sub sub) (ended_of (shard_answer line.shard ev))
        ≡ not (is_open_in sub.serial (cond none None (slice_get after (sub.shard - 1))))
    go true z here e is = absurd (true≢false (sym is))
    go false z true e is =
        let p : sub.shard - 1 ≡ place = eq_true (sub.shard - 1) place e in
        let pos = eq_false sub.shard 0 z in
        let own : nat_eq sub.shard line.shard.shard ≡ true =
        true_eq sub.shard line.shard.shard (same_number sub.shard line.shard.shard place p number pos) in
        ap (list_any (is_sub sub)) (told line.shard ev)
        ∙ ids_here sub line.shard.shard own (ended_serials line.shard ev)
        ∙ shard_agrees line.shard ev sub.serial (sym (ap (is_open_in sub.serial) (ap (slice_get lines) p ∙ at)) ∙ is)
        ∙ ap (λ o. not (is_open_in sub.serial o))
        (sym (ap (slice_get after) p ∙ get_set_here lines place line (line_after ev line) at))
      where
        same_number : (a b q : ℕ) → a - 1 ≡ q → b ≡ suc q → a ≢ 0 → a ≡ b
        same_number zero b q p number pos = absurd (pos refl)
        same_number (suc a) b q p number pos = omega (arith, p, number)
    go false z false e is =
        let apart = eq_false (sub.shard - 1) place e in
        ap (list_any (is_sub sub)) (told line.shard ev)
        ∙ ids_there sub line.shard.shard
        (false_eq sub.shard line.shard.shard (λ f. apart (less sub.shard line.shard.shard place f number)))
        (ended_serials line.shard ev)
        ∙ ap not
        (sym (ap (is_open_in sub.serial) (get_set_there lines place (sub.shard - 1) (line_after ev line) apart) ∙ is))
      where
        less : (a b q : ℕ) → a ≡ b → b ≡ suc q → a - 1 ≡ q
        less a b q e number = omega (arith, e, number)

-- nothing is told, and nothing closes
same_open : (sub : SubId) (lines after : List ShardWithJobs)
    → ((q : ℕ) → is_open_in sub.serial (slice_get after q) ≡ is_open_in sub.serial (slice_get lines q))
    → open_in sub lines ≡ true
    → false ≡ not (open_in sub after)
same_open sub lines after same = go (nat_eq sub.shard 0)
  where
    go : (none : Bool)
        → is_open_in sub.serial (cond none None (slice_get lines (sub.shard - 1))) ≡ true
        → false ≡ not (is_open_in sub.serial (cond none None (slice_get after (sub.shard - 1))))
    go true is = absurd (true≢false (sym is))
    go false is = ap not (sym (same (sub.shard - 1) ∙ is))

queued_same : (sub : SubId) (job : Job) (lines : List ShardWithJobs) (q : ℕ)
    → is_open_in sub.serial (slice_get (map (line_with_job job) lines) q) ≡ is_open_in sub.serial (slice_get lines q)
queued_same sub job lines q =
    ap (is_open_in sub.serial) (slice_get-map (line_with_job job) lines q) ∙ go (slice_get lines q)
  where
    go : (o : Option ShardWithJobs) → is_open_in sub.serial (option_map (line_with_job job) o) ≡ is_open_in sub.serial o
    go None = refl
    go (Some line) = refl

-- a line that is put where it was
put_back : (lines : List ShardWithJobs) (place : ℕ) (line : ShardWithJobs)
    → slice_get lines place ≡ Some line
    → (q : ℕ)
    → slice_get (set lines place line) q ≡ slice_get lines q
put_back lines place line at q = go (nat_eq q place) refl
  where
    go : (b : Bool) → nat_eq q place ≡ b → slice_get (set lines place line) q ≡ slice_get lines q
    go true e =
        ap (slice_get (set lines place line)) (eq_true q place e)
        ∙ get_set_here lines place line line at
        ∙ sym (ap (slice_get lines) (eq_true q place e) ∙ at)
    go false e = get_set_there lines place q line (eq_false q place e)

found_at : (none : Bool) (o : Option ShardWithJobs) (line : ShardWithJobs)
    → cond none None o ≡ Some line
    → o ≡ Some line
found_at true o line e = absurd (none-some line e)
found_at false o line e = e

module _ (server : ServerIdentity) (a : Node) (sound : SoundNode server a) (sub : SubId)
    (is : open_in sub a.lines ≡ true) where
  -- the part of an event at a line, if any
  on_part : (place : ℕ) (line : ShardWithJobs) (o : Option Event)
      → slice_get a.lines place ≡ Some line
      → list_any (is_sub sub) (ended_at (part_if place line o))
      ≡ not (open_in sub (set a.lines place (line_after_if o line)))
  on_part place line None at =
      same_open sub a.lines (set a.lines place line)
      (λ q. ap (is_open_in sub.serial) (put_back a.lines place line at q)) is
  on_part place line (Some ev) at = at_part a.lines place line ev at (sound.lines place line at).number sub is

  on_line : (place : ℕ) (event : ShardWithJobs → Option Event) (o : Option ShardWithJobs)
      → ((line : ShardWithJobs) → o ≡ Some line → slice_get a.lines place ≡ Some line)
      → list_any (is_sub sub) (ended_at (part_at place event o))
      ≡ not (open_in sub (set_line a.lines place (λ line. line_after_if (event line) line) o))
  on_line place event None at = same_open sub a.lines a.lines (λ q. refl) is
  on_line place event (Some line) at = on_part place line (event line) (at line refl)

  on_collect : (place : ℕ) (o : Option ShardWithJobs)
      → ((line : ShardWithJobs) → o ≡ Some line → slice_get a.lines place ≡ Some line)
      → false ≡ not (open_in sub (set_line a.lines place (line_after Collect) o))
  on_collect place None at = same_open sub a.lines a.lines (λ q. refl) is
  on_collect place (Some line) at =
      at_part a.lines place line Collect (at line refl) (sound.lines place line (at line refl)).number sub is

  on_body : (frame : Frame) (body : Body) → false ≡ not (open_in sub (lines_after_body a frame body))
  on_body frame (Plus weighted) = same_open sub a.lines a.lines (λ q. refl) is
  on_body frame (Minus key) = same_open sub a.lines a.lines (λ q. refl) is
  on_body frame (Snapshot keys) = same_open sub a.lines a.lines (λ q. refl) is
  on_body frame (Msg content queues) =
      let job = routed_job a.hub frame content queues in
      same_open sub a.lines (map (line_with_job job) a.lines) (queued_same sub job a.lines) is

  here : (k q : ℕ) (line : ShardWithJobs)
      → cond (nat_eq k 0) None (slice_get a.lines q) ≡ Some line
      → slice_get a.lines q ≡ Some line
  here k q line e = found_at (nat_eq k 0) (slice_get a.lines q) line e

  pub server_agrees : (e : NodeEvent) (won : Bool) (race : RaceState)
      → list_any (is_sub sub) (ended_at (part_of server a e won))
      ≡ not (open_in sub (node_after server a e won race).lines)
  server_agrees (Own (OfConn conn event)) won race =
      on_line (conn_place server conn) (λ line. Some (conn_event conn event)) (conn_line server a conn)
      (here conn (conn_place server conn))
  server_agrees (Own (AtShard shard work)) won race =
      on_line (shard - 1) (work_event work won) (shard_line a shard) (here shard (shard - 1))
  server_agrees (Own (Publish p)) won race =
      let job = own_job server a.hub p in
      same_open sub a.lines (map (line_with_job job) a.lines) (queued_same sub job a.lines) is
  server_agrees (Own (of_node.Collect shard)) won race =
      on_collect (shard - 1) (shard_line a shard) (here shard (shard - 1))
  server_agrees (Own of_node.Drain) won race = same_open sub a.lines a.lines (λ q. refl) is
  server_agrees (Own (Dial q)) won race = same_open sub a.lines a.lines (λ q. refl) is
  server_agrees (Own Accept) won race = same_open sub a.lines a.lines (λ q. refl) is
  server_agrees (Own (CutSession session)) won race = same_open sub a.lines a.lines (λ q. refl) is
  server_agrees (Own (TakeFrames q count)) won race = same_open sub a.lines a.lines (λ q. refl) is
  server_agrees (Receive frame) won race = on_body frame frame.body
  server_agrees (OnInfo session info) won race = same_open sub a.lines a.lines (λ q. refl) is
  server_agrees (OnConnect session connect) won race = same_open sub a.lines a.lines (λ q. refl) is
