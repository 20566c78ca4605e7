-- Who publishes without echo gets the message on none of its own subscriptions.
use Rattle.std.proofs.Common.{◌≡◌, ◌≢◌, ℕ, suc, Bool, true, false, true≢false, cond, nat_eq, not, ◌&&◌, ◌||◌, ◌-◌, List, [], ◌∷◌, ◌++◌, map, Option, Some, None, refl, sym, ap, ◌∙◌, subst, inl, inr, ⊎_elim, arith}
use Rattle.std.specs.Prelude.{slice_get, filter}
use Rattle.std.proofs.lemmas.Option.{none-some, same_Some, slice_get_within}
use Rattle.list_laws.specs.Lists.{In, Each}
use Rattle.list_laws.proofs.Lists.{in_append, in_left, in_read, pairs_cases}
use Rattle.list_laws.proofs.Changes.{append_assoc, in_filter, in_sub}
use Rattle.list_laws.proofs.Tests.{and_true, true_eq}
use Rattle.sub_table.specs.Subscriptions.{gets}
use Rattle.sub_table.specs.declared.Subscription.{Subscription}
use Rattle.subj.specs.QueueNames.{is_named}
use Rattle.subj.specs.Servers.{ServerIdentity, IsListed}
use Rattle.subj.specs.declared.jobs.Job.{Job}
use Rattle.shard_core.specs.declared.calls.Placed.{Placed}
use Rattle.shard_core.specs.Lines.{first_of}
use Rattle.shard_core.specs.Owed.{owed_placed, is_due, is_plain, is_wanted, is_permitted, is_publisher, is_candidate, candidate_of, candidate_named, whole_walk, first_step, slow_consumer, owed_entry}
use Rattle.shard_core.specs.Puts.{put_by, put_by_walk, put_by_claim, put_line}
use Rattle.shard_core.specs.ShardSteps.{answer_fits}
use Rattle.shard_core.specs.Shards.{State, Client, client_at, fits}
use Rattle.shard_core.proofs.Steps.LawEvents.{walk_gives}
use Rattle.client_frames.specs.Frames.{reply_line}
use Rattle.node_law.specs.declared.events.ConnEvent.{ConnEvent}
use Rattle.node_law.specs.declared.events.ConnEvent.TheVariants.{Subscribe, Unsubscribe, Reply, Shut, SetHeaders, Detach, Take}
use Rattle.node_law.specs.declared.events.ShardWork.{ShardWork}
use Rattle.node_law.specs.declared.events.ShardWork.TheVariants.{Attach, Begin, Claim, End, DropJob, DrainShard}
use Rattle.node_law.specs.Events as of_node
use Rattle.node_law.specs.Events.{NodeEvent, Own, OfConn, AtShard}
use Rattle.node_law.specs.OneServer.{jobs_of}
use Rattle.node_law.specs.State.{ShardWithJobs, Node}
use Rattle.node_law.specs.Steps.{conn_line, shard_line, conn_event, begin_of, drop_of, work_event}
use Rattle.node_law.proofs.Moves.LineEvents.{found}
use Rattle.node_law.proofs.Claims.OneJob.{Known, run_known}
use Rattle.node_law.proofs.Runs.Sound.{run_sound}
use Rattle.world_law.specs.declared.faults.WorldFault.{WorldFault}
use Rattle.world_law.specs.Changes.{placement_of, publications_of}
use Rattle.world_law.specs.Echo.{EchoesAreKept}
use Rattle.world_law.specs.Events.{Event, Start, Stop, Receive, OnInfo, OnConnect, At, event_for}
use Rattle.world_law.specs.Headline.{IsCluster, Names}
use Rattle.world_law.specs.Outcomes.{Outcome}
use Rattle.world_law.specs.Play.{puts, put_at, put_if, placements_put, PutsArePlaced}
use Rattle.world_law.specs.Refusals.{world_refusal}
use Rattle.world_law.specs.State.{Cluster, Publication, Placement, World, new_world, server_at}
use Rattle.world_law.specs.Steps.{Acts, Happens, Decided, WorldStep, Run}
use Rattle.world_law.proofs.Seen.Order.{placements_are_one}
use Rattle.world_law.proofs.Runs.OwnRuns.{Rans, step_rans, first_rans}
use Rattle.world_law.proofs.Runs.Sources.{IsOwnOf}

-- ---- who is given a message is permitted

-- it is one of this job, for a connection that may get it
record IsOf (server : ServerIdentity) (job : Job) (p : Placement) : Type 0 where
  id : p.id ≡ job.id
  here : p.life.node ≡ server.me
  permitted : (job.echo || not (is_publisher job.publisher p.conn)) ≡ true

placed_of : (server : ServerIdentity) (now shard : ℕ) (clients : List Client) (job : Job) (queue : Option (List ℕ))
    (us : List Subscription)
    → Each (λ u. is_permitted job u ≡ true) us
    → Each (IsOf server job) (placements_put server now (map (owed_placed shard clients job queue) us))
placed_of server now shard clients job queue [] h p i = absurd i
placed_of server now shard clients job queue (u ∷ us) h p (inl e) =
    subst (IsOf server job) (sym e) (record { id = refl; here = refl; permitted = h u (inl refl) })
placed_of server now shard clients job queue (u ∷ us) h p (inr i) =
    placed_of server now shard clients job queue us (λ v j. h v (inr j)) p i

no_lines : (server : ServerIdentity) (now : ℕ) (line conns : List ℕ)
    → placements_put server now (map (put_line line) conns) ≡ []
no_lines server now line [] = refl
no_lines server now line (conn ∷ conns) = no_lines server now line conns

put_more : (server : ServerIdentity) (now : ℕ) (xs ys : List Placed)
    → placements_put server now (xs ++ ys) ≡ placements_put server now xs ++ placements_put server now ys
put_more server now [] ys = refl
put_more server now (x ∷ xs) ys =
    ap (λ t. placement_of server now x.conn x.headers x.entry.bytes x.entry.tag ++ t) (put_more server now xs ys)
    ∙ sym (append_assoc (placement_of server now x.conn x.headers x.entry.bytes x.entry.tag)
    (placements_put server now xs) (placements_put server now ys))

given_permitted : (s : State) (job : Job) → Each (λ u. is_permitted job u ≡ true) (whole_walk s job).given
given_permitted s job u i =
    let g = walk_gives s job (filter (is_due job) s.subs) (first_step s.clients) in
    let at =
    in_filter (is_due job) s.subs u (in_sub g.new (filter (is_due job) s.subs) g.some u (subst (In u) g.given i)) in
    (and_true (gets job.message.subject u) (is_permitted job u) (and_true (is_plain u) (is_wanted job u) at.1).1).1

begin_gives : (server : ServerIdentity) (now : ℕ) (s : State) (job : Job)
    → Each (IsOf server job) (placements_put server now (put_by_walk s job (whole_walk s job)))
begin_gives server now s job p i =
    ⊎_elim (λ j. placed_of server now s.shard s.clients job None (whole_walk s job).given (given_permitted s job) p j)
    (λ j. absurd (subst (In p) (no_lines server now slow_consumer (whole_walk s job).shut) j))
    (in_append p (placements_put server now (map (owed_placed s.shard s.clients job None) (whole_walk s job).given))
    (placements_put server now (map (put_line slow_consumer) (whole_walk s job).shut))
    (subst (In p)
    (put_more server now (map (owed_placed s.shard s.clients job None) (whole_walk s job).given)
    (map (put_line slow_consumer) (whole_walk s job).shut))
    i))

candidate_permitted : (s : State) (job : Job) (name : Option (List ℕ)) (u : Subscription)
    → candidate_named s job name ≡ Some u
    → is_permitted job u ≡ true
candidate_permitted s job None u e = absurd (none-some u e)
candidate_permitted s job (Some name) u e =
    let f = in_filter (is_candidate s job name) s.subs u (in_read _ _ u e) in
    let wanted = and_true (is_wanted job u)
    (fits (client_at u.conn s.clients) (owed_entry s.shard s.clients job (Some name) u))
    (and_true (is_named name u.key.queue)
    (is_wanted job u && fits (client_at u.conn s.clients) (owed_entry s.shard s.clients job (Some name) u)) f.1).1 in
    (and_true (gets job.message.subject u) (is_permitted job u) wanted.0).1

claim_gives : (server : ServerIdentity) (now : ℕ) (s : State) (job : Job) (u : Option Subscription) (won : Bool)
    → ((v : Subscription) → u ≡ Some v → is_permitted job v ≡ true)
    → Each (IsOf server job) (placements_put server now (put_by_claim s (Some job) u won))
claim_gives server now s job None won h p i = absurd i
claim_gives server now s job (Some v) false h p i = absurd i
claim_gives server now s job (Some v) true h p i =
    placed_of server now s.shard s.clients job v.key.queue (v ∷ [])
    (λ x j.
    ⊎_elim (λ (e : x ≡ v). subst (λ (y : Subscription). is_permitted job y ≡ true) (sym e) (h v refl))
    (λ (z : ⊥). absurd z) j)
    p i

conn_gives : (server : ServerIdentity) (now : ℕ) (s : State) (conn : ℕ) (event : ConnEvent)
    → placements_put server now (put_by s (conn_event conn event)) ≡ []
conn_gives server now s conn (Subscribe key sid) = refl
conn_gives server now s conn (Unsubscribe sid max) = refl
conn_gives server now s conn (Reply frame) = go (answer_fits s conn (reply_line frame))
  where
    go : (b : Bool)
        → placements_put server now (cond b (put_line (reply_line frame) conn ∷ []) (put_line slow_consumer conn ∷ []))
        ≡ []
    go true = refl
    go false = refl
conn_gives server now s conn (Shut text) = refl
conn_gives server now s conn Detach = refl
conn_gives server now s conn (SetHeaders on) = refl
conn_gives server now s conn (Take count) = refl

-- ---- each message that a step puts is of a job of its line

abbrev OfSome : ServerIdentity → List Job → Placement → Type 0
OfSome server jobs p = (job : Job) × In job jobs × IsOf server job p

first_in : (jobs waiting : List Job)
    → Each (λ j. In j jobs) waiting
    → (job : Job)
    → first_of waiting ≡ Some job
    → In job jobs
first_in jobs [] w job e = absurd (none-some job e)
first_in jobs (x ∷ waiting) w job e = w job (inl (sym (same_Some x job e)))

work_gives : (server : ServerIdentity) (now : ℕ) (jobs : List Job) (line : ShardWithJobs) (work : ShardWork)
    (won : Bool)
    → Known jobs line
    → Each (OfSome server jobs) (placements_put server now (put_if line (work_event work won line)))
work_gives server now jobs line Attach won k p i = absurd i
work_gives server now jobs line Begin won k p i = go (first_of line.waiting) refl i
  where
    go : (o : Option Job)
        → first_of line.waiting ≡ o
        → In p (placements_put server now (put_if line (begin_of o)))
        → OfSome server jobs p
    go None is j = absurd j
    go (Some job) is j = (job, first_in jobs line.waiting k.waiting job is, begin_gives server now line.shard job p j)
work_gives server now jobs line (Claim index) won k p i = go line.shard.hand refl i
  where
    go : (hand : Option Job)
        → line.shard.hand ≡ hand
        → In p (placements_put server now (put_by_claim line.shard hand (candidate_of line.shard hand index) won))
        → OfSome server jobs p
    go None is j = absurd j
    go (Some job) is j = (
      job,
      k.hand job is,
      claim_gives server now line.shard job (candidate_named line.shard job (slice_get job.queues index)) won
          (λ v e. candidate_permitted line.shard job (slice_get job.queues index) v e) p j,
    )
work_gives server now jobs line End won k p i = absurd i
work_gives server now jobs line DropJob won k p i = go line.shard.hand (first_of line.waiting) i
  where
    go : (hand o : Option Job) → In p (placements_put server now (put_if line (drop_of hand o))) → OfSome server jobs p
    go None None j = absurd j
    go None (Some job) j = absurd j
    go (Some busy) o j = absurd j
work_gives server now jobs line DrainShard won k p i = absurd i

step_gives : (server : ServerIdentity) (now : ℕ) (a : Node) (e : NodeEvent) (won : Bool) (jobs : List Job)
    → ((place : ℕ) (line : ShardWithJobs) → slice_get a.lines place ≡ Some line → Known jobs line)
    → Each (OfSome server jobs) (placements_put server now (puts server a e won))
step_gives server now a (Own (OfConn conn event)) won jobs known p i = go (conn_line server a conn) i
  where
    go : (o : Option ShardWithJobs)
        → In p (placements_put server now (put_at o (λ line. Some (conn_event conn event))))
        → OfSome server jobs p
    go None j = absurd j
    go (Some line) j = absurd (subst (In p) (conn_gives server now line.shard conn event) j)
step_gives server now a (Own (AtShard shard work)) won jobs known p i = go (shard_line a shard) refl i
  where
    go : (o : Option ShardWithJobs)
        → shard_line a shard ≡ o
        → In p (placements_put server now (put_at o (work_event work won)))
        → OfSome server jobs p
    go None at j = absurd j
    go (Some line) at j =
        work_gives server now jobs line work won
        (known (shard - 1) line (found (nat_eq shard 0) (slice_get a.lines (shard - 1)) line at)) p j
step_gives server now a (Own (of_node.Publish q)) won jobs known p i = absurd i
step_gives server now a (Own (of_node.Collect shard)) won jobs known p i = absurd i
step_gives server now a (Own of_node.Drain) won jobs known p i = absurd i
step_gives server now a (Own (of_node.Dial q)) won jobs known p i = absurd i
step_gives server now a (Own of_node.Accept) won jobs known p i = absurd i
step_gives server now a (Own (of_node.CutSession session)) won jobs known p i = absurd i
step_gives server now a (Own (of_node.TakeFrames q count)) won jobs known p i = absurd i
step_gives server now a (of_node.Receive frame) won jobs known p i = absurd i
step_gives server now a (of_node.OnInfo session info) won jobs known p i = absurd i
step_gives server now a (of_node.OnConnect session connect) won jobs known p i = absurd i

-- ---- over a run

record Echoed (c : Cluster) (publications : List Publication) (p : Placement) : Type 0 where
  source : Publication
  source_in : In source publications
  id : source.id ≡ p.id
  skips : slice_get c.names p.life.node ≡ Some p.id.origin → source.echo ≡ false → p.conn ≢ source.publisher

more_echoed : (c : Cluster) (ps more : List Publication) (p : Placement) → Echoed c ps p → Echoed c (ps ++ more) p
more_echoed c ps more p x = record {
  source = x.source;
  source_in = in_left x.source ps more x.source_in;
  id = x.id;
  skips = x.skips;
}

of_job : (c : Cluster) (ps : List Publication) (n inc : ℕ) (job : Job) (p : Placement)
    → IsOwnOf c ps n job
    → IsOf (server_at c n inc) job p
    → Echoed c ps p
of_job c ps n inc job p own is = record {
  source = own.made.source;
  source_in = own.made.source_in;
  id = own.made.id_is ∙ sym is.id;
  skips = λ at quiet same.
      let o = own.own ((λ i. slice_get c.names (sym is.here i)) ∙ at ∙ (λ i. Some (is.id i).origin)) in
      true≢false (sym is.permitted ∙ (λ i. (o.1 ∙ quiet) i || not (is_publisher (o.0 i) p.conn))
      ∙ ap not (true_eq own.made.source.publisher p.conn (sym same)));
}

abbrev Echoes : Cluster → World → Type 0
Echoes c w = Each (Echoed c w.publications) w.placements

acts_echo : PutsArePlaced
    → (c : Cluster)
    → IsCluster c
    → (w w' : World) (n : ℕ) (event : Option NodeEvent) (told : Outcome)
    → Acts c w n event told w'
    → Rans c w
    → Echoes c w
    → Echoes c w'
acts_echo placed c set_up w w' n event told s r h =
    subst (Echoes c) (sym s.after) (λ p i.
    more_echoed c w.publications (publications_of server (suc w.step) s.a.node s.e) p
    (⊎_elim (λ j. h p j) (λ j. here p j) (in_append p w.placements s.gained i)))
  where
    server : ServerIdentity
    server = server_at c n s.a.inc

    listed : IsListed server
    listed = record {
      apart = set_up.apart;
      listed = (let below = slice_get_within w.nodes n (Some s.a) s.a_is in let size = r.size in omega arith);
    }

    here : (p : Placement) → In p s.gained → Echoed c w.publications p
    here p j =
        let came = r.each n s.a s.a_is in
        let same = placements_are_one server (suc w.step) s.a.node s.b.lines s.gained
        (placements_put server (suc w.step) (puts server s.a.node s.e s.won))
        (run_sound server came.steps s.a.node listed came.ran) s.are_gained
        (placed server (suc w.step) s.a.node s.e s.won s.race s.b s.steps) in
        let x = step_gives server (suc w.step) s.a.node s.e s.won (jobs_of server came.steps)
        (run_known server came.steps s.a.node listed came.ran).lines_known p (subst (In p) same j) in
        of_job c w.publications n s.a.inc x.0 p (came.made x.0 x.1) x.2

happens_echo : PutsArePlaced
    → (c : Cluster)
    → IsCluster c
    → (w w' : World) (e : Event) (told : Outcome)
    → Happens c w e told w'
    → Rans c w
    → Echoes c w
    → Echoes c w'
happens_echo placed c set_up w w' (Start n inc) told s r h = subst (Echoes c) (sym s.after) h
happens_echo placed c set_up w w' (Stop n) told s r h = subst (Echoes c) (sym s.after) h
happens_echo placed c set_up w w' (Receive n k) told s r h =
    acts_echo placed c set_up w w' n (event_for w (Receive n k)) told s r h
happens_echo placed c set_up w w' (OnInfo n session k) told s r h =
    acts_echo placed c set_up w w' n (event_for w (OnInfo n session k)) told s r h
happens_echo placed c set_up w w' (OnConnect n session k) told s r h =
    acts_echo placed c set_up w w' n (event_for w (OnConnect n session k)) told s r h
happens_echo placed c set_up w w' (At n event) told s r h =
    acts_echo placed c set_up w w' n (event_for w (At n event)) told s r h

step_echo : PutsArePlaced
    → (c : Cluster)
    → IsCluster c
    → (w w' : World) (e : Event) (told : Outcome)
    → WorldStep c w e told w'
    → Rans c w
    → Echoes c w
    → Echoes c w'
step_echo placed c set_up w w' e told s r h = go (world_refusal c w e) s
  where
    go : (o : Option WorldFault) → Decided c w e o told w' → Echoes c w'
    go None d = happens_echo placed c set_up w w' e told d r h
    go (Some why) d = subst (Echoes c) (sym d.1) h

over_echo : PutsArePlaced
    → (c : Cluster)
    → IsCluster c
    → (w : World) (es : List Event) (w' : World)
    → Run c w es w'
    → Rans c w
    → Echoes c w
    → Echoes c w'
over_echo placed c set_up w [] w' run r h = subst (Echoes c) (sym run) h
over_echo placed c set_up w (e ∷ es) w' run r h =
    over_echo placed c set_up run.0 es w' run.3 (step_rans c set_up w run.0 e run.1 run.2 r)
    (step_echo placed c set_up w run.0 e run.1 run.2 r h)

pub echoes_are_kept : PutsArePlaced
    → ((c : Cluster) → IsCluster c → (events : List Event) (w : World) → Run c (new_world c) events w → Names w)
    → EchoesAreKept
echoes_are_kept placed names c set_up es w run s i p j same at quiet conn =
    let x = over_echo placed c set_up (new_world c) es w run (first_rans c) (λ q k. absurd k) p j in
    let one : x.source ≡ s = ⊎_elim (λ (e : x.source ≡ s). e)
    (λ f. absurd (⊎_elim (λ g. g (x.id ∙ sym same)) (λ g. g (same ∙ sym x.id)) f))
    (pairs_cases (λ (a b : Publication). a.id ≢ b.id) w.publications (names c set_up es w run).publications x.source s
    x.source_in i) in
    x.skips (at ∙ (λ k. Some (same k).origin)) (ap (λ (t : Publication). t.echo) one ∙ quiet)
    (conn ∙ ap (λ (t : Publication). t.publisher) (sym one))
