-- Each turn has one job, in all shards.
use Rattle.std.proofs.Common.{◌≡◌, ◌≢◌, ℕ, zero, suc, ◌+◌, ◌-◌, ◌≤◌, Bool, true, false, cond, nat_eq, List, [], ◌∷◌, ◌++◌, map, Option, Some, None, refl, sym, ap, ◌∙◌, subst, inl, inr, ⊎_elim, arith}
use Rattle.std.specs.Prelude.{slice_get}
use Rattle.std.specs.Option.{option_or}
use Rattle.std.proofs.lemmas.Option.{none-some, same_Some}
use Rattle.list_laws.specs.Lists.{In, Each, Pairs}
use Rattle.list_laws.proofs.Lists.{read_set, read_map, in_append}
use Rattle.subj.specs.Servers.{ServerIdentity, IsListed}
use Rattle.subj.specs.declared.jobs.Job.{Job}
use Rattle.sub_table.specs.declared.Subscription.{Subscription}
use Rattle.claim_race.specs.Race.{RaceState}
use Rattle.hub_core.specs.Publishing.{own_job}
use Rattle.hub_core.specs.Receiving.{routed_job}
use Rattle.route_values.specs.Frames.{Frame}
use Rattle.route_values.specs.declared.bodies.Body.{Body}
use Rattle.route_values.specs.declared.bodies.Body.TheVariants.{Plus, Minus, Snapshot, Msg}
use Rattle.shard_core.specs.Lines.{first_of, rest_of, waiting_after}
use Rattle.shard_core.specs.Owed.{candidate_of, after_claim}
use Rattle.shard_core.specs.ShardEvents as of_shard
use Rattle.shard_core.specs.Shards as shards
use Rattle.shard_core.specs.ShardSteps.{sub_called, new_sub, after_subscribe, ended_now, after_unsubscribe, answer_fits, done_with, shard_after}
use Rattle.node_law.specs.AsLaw.{jobs_by, body_jobs}
use Rattle.node_law.specs.Events.{ConnEvent, Subscribe, Unsubscribe, Reply, Shut, SetHeaders, Detach, Take, ShardWork, Attach, Begin, Claim, End, DropJob, DrainShard, OfConn, AtShard, Publish, Collect, Drain, Dial, Accept, CutSession, TakeFrames, NodeEvent, Own, Receive, OnInfo, OnConnect}
use Rattle.node_law.specs.OneServer.{Claimed, claimed_at, claimed_with, option_for, work_claims, claims_by, claims_of, Ended, ended_with, ended_at, work_ends, ends_by, ends_of, jobs_of, HasOneJob}
use Rattle.node_law.specs.Runs.{Done, Ran}
use Rattle.node_law.specs.Sound.{SoundNode}
use Rattle.node_law.specs.State.{ShardWithJobs, Node, lines_from}
use Rattle.node_law.specs.Steps.{conn_place, conn_line, shard_line, conn_event, begin_of, drop_of, work_event, BodyRace, NodeRace, line_after, line_after_if, set_line, line_with_job, lines_after_body, node_after}
use Rattle.node_law.proofs.Moves.LineEvents.{found}
use Rattle.node_law.proofs.Claims.OneWinner.{work_issued}
use Rattle.node_law.proofs.Runs.Sound.{run_sound}

-- ---- events of connections leave the job in hand

abbrev KeepsHand : shards.State → shards.State → Type 0
KeepsHand s after = after.hand ≡ s.hand

either : (s x y : shards.State) (b : Bool) → KeepsHand s x → KeepsHand s y → KeepsHand s (cond b x y)
either s x y true f g = f
either s x y false f g = g

conn_keeps : (s : shards.State) (conn : ℕ) (e : ConnEvent) → KeepsHand s (shard_after s (conn_event conn e))
conn_keeps s conn (Subscribe key sid) = go (sub_called conn sid s.subs)
  where
    go : (u : Option Subscription) → KeepsHand s (after_subscribe s (new_sub s conn key sid) u)
    go None = refl
    go (Some u) = refl
conn_keeps s conn (Unsubscribe sid max) = go (sub_called conn sid s.subs)
  where
    go : (u : Option Subscription) → KeepsHand s (after_unsubscribe s max u)
    go None = refl
    go (Some u) = either s _ _ (ended_now max u) refl refl
conn_keeps s conn (Reply frame) = either s _ _ (answer_fits s conn _) refl refl
conn_keeps s conn (Shut text) = refl
conn_keeps s conn Detach = refl
conn_keeps s conn (SetHeaders on) = refl
conn_keeps s conn (Take count) = refl

claim_keeps : (s : shards.State) (hand : Option Job) (u : Option Subscription) (won : Bool)
    → KeepsHand s (after_claim s hand u won)
claim_keeps s None u won = refl
claim_keeps s (Some job) None won = refl
claim_keeps s (Some job) (Some u) true = refl
claim_keeps s (Some job) (Some u) false = refl

done_keeps : (s : shards.State) (o : Option Job) (job : Job) → (done_with s o).hand ≡ Some job → s.hand ≡ Some job
done_keeps s None job e = e
done_keeps s (Some x) job e = absurd (none-some job e)

-- ---- the jobs of a line are among those issued

pub record Known (jobs : List Job) (line : ShardWithJobs) : Type 0 where
  pub hand : (job : Job) → line.shard.hand ≡ Some job → In job jobs
  pub waiting : Each (λ j. In j jobs) line.waiting

first_in : (jobs waiting : List Job)
    → Each (λ j. In j jobs) waiting
    → (job : Job)
    → first_of waiting ≡ Some job
    → In job jobs
first_in jobs [] w job e = absurd (none-some job e)
first_in jobs (x ∷ waiting) w job e = w job (inl (sym (same_Some x job e)))

rest_in : (jobs waiting : List Job) → Each (λ j. In j jobs) waiting → Each (λ j. In j jobs) (rest_of waiting)
rest_in jobs [] w = λ j i. absurd i
rest_in jobs (x ∷ waiting) w = λ j i. w j (inr i)

drop_in : (jobs waiting : List Job) (hand o : Option Job)
    → Each (λ j. In j jobs) waiting
    → Each (λ j. In j jobs) (waiting_after hand (of_shard.DropJob o) waiting)
drop_in jobs waiting None o w = rest_in jobs waiting w
drop_in jobs waiting (Some job) o w = w

conn_known : (jobs : List Job) (conn : ℕ) (e : ConnEvent) (line : ShardWithJobs)
    → Known jobs line
    → Known jobs (line_after (conn_event conn e) line)
conn_known jobs conn e line k = record {
  hand = λ job f. k.hand job (sym (conn_keeps line.shard conn e) ∙ f);
  waiting = subst (λ w. Each (λ j. In j jobs) w) (sym (same e)) k.waiting;
}
  where
    same : (e : ConnEvent) → waiting_after line.shard.hand (conn_event conn e) line.waiting ≡ line.waiting
    same (Subscribe key sid) = refl
    same (Unsubscribe sid max) = refl
    same (Reply frame) = refl
    same (Shut text) = refl
    same Detach = refl
    same (SetHeaders on) = refl
    same (Take count) = refl

work_known : (jobs : List Job) (work : ShardWork) (won : Bool) (line : ShardWithJobs)
    → Known jobs line
    → Known jobs (line_after_if (work_event work won line) line)
work_known jobs Attach won line k = record { hand = k.hand; waiting = k.waiting }
work_known jobs Begin won line k = go (first_of line.waiting) refl
  where
    go : (o : Option Job) → first_of line.waiting ≡ o → Known jobs (line_after_if (begin_of o) line)
    go None is = k
    go (Some first) is = record {
      hand = λ job e. subst (λ j. In j jobs) (same_Some first job e) (first_in jobs line.waiting k.waiting first is);
      waiting = rest_in jobs line.waiting k.waiting;
    }
work_known jobs (Claim index) won line k = record {
  hand = λ job f.
      k.hand job (sym (claim_keeps line.shard line.shard.hand (candidate_of line.shard line.shard.hand index) won) ∙ f);
  waiting = k.waiting;
}
work_known jobs End won line k = record {
  hand = λ job f. k.hand job (done_keeps line.shard line.shard.hand job f);
  waiting = k.waiting;
}
work_known jobs DropJob won line k = go line.shard.hand (first_of line.waiting)
  where
    go : (hand o : Option Job) → Known jobs (line_after_if (drop_of hand o) line)
    go None None = k
    go None (Some job) = record {
      hand = λ j f. k.hand j (done_keeps line.shard (option_or line.shard.hand (Some job)) j f);
      waiting = drop_in jobs line.waiting line.shard.hand (Some job) k.waiting;
    }
    go (Some busy) o = record {
      hand = λ j f. k.hand j (done_keeps line.shard (option_or line.shard.hand None) j f);
      waiting = drop_in jobs line.waiting line.shard.hand None k.waiting;
    }
work_known jobs DrainShard won line k = record { hand = k.hand; waiting = k.waiting }

-- ---- of the whole server

pub record Jobs (issued : ℕ) (lines : List ShardWithJobs) (jobs : List Job) (claims : List Claimed)
    (ends : List Ended) : Type 0 where
  pub lines_known : (place : ℕ) (line : ShardWithJobs) → slice_get lines place ≡ Some line → Known jobs line
  turns : Pairs (λ j k. j.turn ≢ k.turn) jobs
  below : Each (λ j. j.turn ≤ issued) jobs
  claims_known : Each (λ x. In x.job jobs) claims
  ends_known : Each (λ x. In x.job jobs) ends

at_known : (issued place : ℕ) (change : ShardWithJobs → ShardWithJobs) (lines : List ShardWithJobs) (jobs : List Job)
    (claims : List Claimed) (ends : List Ended) (o : Option ShardWithJobs)
    → ((line : ShardWithJobs) → o ≡ Some line → slice_get lines place ≡ Some line)
    → ((line : ShardWithJobs) → Known jobs line → Known jobs (change line))
    → Jobs issued lines jobs claims ends
    → Jobs issued (set_line lines place change o) jobs claims ends
at_known issued place change lines jobs claims ends None at step k = k
at_known issued place change lines jobs claims ends (Some line) at step k = record {
  lines_known =
      read_set (λ t l. Known jobs l) lines place (change line) (λ t l apart e. k.lines_known t l e)
      (step line (k.lines_known place line (at line refl)));
  turns = k.turns;
  below = k.below;
  claims_known = k.claims_known;
  ends_known = k.ends_known;
}

more_claims : (s index : ℕ) (won : Bool) (jobs : List Job) (claims : List Claimed) (o : Option ShardWithJobs)
    → ((line : ShardWithJobs) → o ≡ Some line → Known jobs line)
    → Each (λ x. In x.job jobs) claims
    → Each (λ x. In x.job jobs) (claimed_at s index won o ++ claims)
more_claims s index won jobs claims None known k = k
more_claims s index won jobs claims (Some line) known k =
    go line.shard.hand (candidate_of line.shard line.shard.hand index) refl
  where
    go : (hand : Option Job) (u : Option Subscription)
        → line.shard.hand ≡ hand
        → Each (λ x. In x.job jobs) (claimed_with s index won line.shard.clients hand u ++ claims)
    go None u is = k
    go (Some job) u is = λ x i.
        ⊎_elim
        (λ (e : x ≡ record {
          shard = s;
          job = job;
          index = index;
          candidate = u;
          headers = option_for line.shard.clients u;
          won = won;
        }).
        subst (λ (y : Claimed). In y.job jobs) (sym e) ((known line refl).hand job is))
        (λ (j : In x claims). k x j) i

more_ended : (s : ℕ) (jobs : List Job) (ends : List Ended) (o : Option ShardWithJobs)
    → ((line : ShardWithJobs) → o ≡ Some line → Known jobs line)
    → Each (λ x. In x.job jobs) ends
    → Each (λ x. In x.job jobs) (ended_at s o ++ ends)
more_ended s jobs ends None known k = k
more_ended s jobs ends (Some line) known k = go line.shard.hand refl
  where
    go : (hand : Option Job) → line.shard.hand ≡ hand → Each (λ x. In x.job jobs) (ended_with s hand ++ ends)
    go None is = k
    go (Some job) is = λ x i.
        ⊎_elim (λ (e : x ≡ record { shard = s; job = job }).
        subst (λ (y : Ended). In y.job jobs) (sym e) ((known line refl).hand job is))
        (λ (j : In x ends). k x j) i

work_claims_known : (a : Node) (s : ℕ) (work : ShardWork) (won : Bool) (jobs : List Job) (claims : List Claimed)
    → ((line : ShardWithJobs) → shard_line a s ≡ Some line → Known jobs line)
    → Each (λ x. In x.job jobs) claims
    → Each (λ x. In x.job jobs) (work_claims a s work won ++ claims)
work_claims_known a s Attach won jobs claims known k = k
work_claims_known a s Begin won jobs claims known k = k
work_claims_known a s (Claim index) won jobs claims known k =
    more_claims s index won jobs claims (shard_line a s) known k
work_claims_known a s End won jobs claims known k = k
work_claims_known a s DropJob won jobs claims known k = k
work_claims_known a s DrainShard won jobs claims known k = k

work_ends_known : (a : Node) (s : ℕ) (work : ShardWork) (jobs : List Job) (ends : List Ended)
    → ((line : ShardWithJobs) → shard_line a s ≡ Some line → Known jobs line)
    → Each (λ x. In x.job jobs) ends
    → Each (λ x. In x.job jobs) (work_ends a s work ++ ends)
work_ends_known a s Attach jobs ends known k = k
work_ends_known a s Begin jobs ends known k = k
work_ends_known a s (Claim index) jobs ends known k = k
work_ends_known a s End jobs ends known k = more_ended s jobs ends (shard_line a s) known k
work_ends_known a s DropJob jobs ends known k = k
work_ends_known a s DrainShard jobs ends known k = k

-- a new job
queue_known : (issued issued' : ℕ) (lines : List ShardWithJobs) (job : Job) (jobs : List Job) (claims : List Claimed)
    (ends : List Ended)
    → job.turn ≡ suc issued
    → issued' ≡ suc issued
    → Jobs issued lines jobs claims ends
    → Jobs issued' (map (line_with_job job) lines) (job ∷ jobs) claims ends
queue_known issued issued' lines job jobs claims ends turn is k = record {
  lines_known = λ s line e.
      let m = read_map (line_with_job job) lines s line e in
      let h = k.lines_known s m.0 m.1 in
      subst (Known (job ∷ jobs)) (sym m.2) (record {
        hand = λ j f. inr (h.hand j f);
        waiting = λ j i.
            ⊎_elim (λ (x : In j m.0.waiting). inr (h.waiting j x))
            (λ (x : In j (job ∷ [])). ⊎_elim (λ (f : j ≡ job). inl f) (λ (z : ⊥). absurd z) x)
            (in_append j m.0.waiting (job ∷ []) i);
      });
  turns = ((λ j i e. let b = k.below j i in absurd (omega arith)), k.turns);
  below = λ j i.
      ⊎_elim (λ (f : j ≡ job). let g = ap (λ (x : Job). x.turn) f in omega arith)
      (λ (x : In j jobs). let b = k.below j x in omega arith) i;
  claims_known = λ x i. inr (k.claims_known x i);
  ends_known = λ x i. inr (k.ends_known x i);
}

rise : (m n : ℕ) (lines : List ShardWithJobs) (jobs : List Job) (claims : List Claimed) (ends : List Ended)
    → m ≤ n
    → Jobs m lines jobs claims ends
    → Jobs n lines jobs claims ends
rise m n lines jobs claims ends le k = record {
  lines_known = k.lines_known;
  turns = k.turns;
  below = λ j i. let b = k.below j i in omega arith;
  claims_known = k.claims_known;
  ends_known = k.ends_known;
}

next_is : (h r : ℕ) → h ≡ r → h + 1 ≡ suc r
next_is h r e = omega arith

issued_is : (r n turn : ℕ) → turn ≡ r + 1 → n ≡ turn → n ≡ suc r
issued_is r n turn e f = omega arith

body_jobs_known : (server : ServerIdentity) (a : Node) (frame : Frame) (body : Body) (r : RaceState) (jobs : List Job)
    (claims : List Claimed) (ends : List Ended)
    → SoundNode server a
    → BodyRace a body r
    → Jobs a.race.issued a.lines jobs claims ends
    → Jobs r.issued (lines_after_body a frame body) (body_jobs a frame body ++ jobs) claims ends
body_jobs_known server a frame (Plus weighted) r jobs claims ends sound race k =
    subst (λ (x : RaceState). Jobs x.issued a.lines jobs claims ends) (sym race) k
body_jobs_known server a frame (Minus key) r jobs claims ends sound race k =
    subst (λ (x : RaceState). Jobs x.issued a.lines jobs claims ends) (sym race) k
body_jobs_known server a frame (Snapshot keys) r jobs claims ends sound race k =
    subst (λ (x : RaceState). Jobs x.issued a.lines jobs claims ends) (sym race) k
body_jobs_known server a frame (Msg content queues) r jobs claims ends sound race k =
    queue_known a.race.issued r.issued a.lines (routed_job a.hub frame content queues) jobs claims ends
    (next_is a.hub.issued a.race.issued sound.issued)
    (issued_is a.race.issued r.issued (a.race.issued + 1) race.after race.issued) k

step_jobs : (server : ServerIdentity) (a : Node) (e : NodeEvent) (b : Bool) (r : RaceState) (jobs : List Job)
    (claims : List Claimed) (ends : List Ended)
    → SoundNode server a
    → NodeRace a e b r
    → Jobs a.race.issued a.lines jobs claims ends
    → Jobs (node_after server a e b r).race.issued (node_after server a e b r).lines (jobs_by server a e ++ jobs)
    (claims_by a e b ++ claims) (ends_by a e ++ ends)
step_jobs server a (Own (OfConn conn event)) b r jobs claims ends sound race k =
    at_known a.race.issued (conn_place server conn) (line_after (conn_event conn event)) a.lines jobs claims ends
    (conn_line server a conn) (λ line at. found (nat_eq conn 0) (slice_get a.lines (conn_place server conn)) line at)
    (λ line h. conn_known jobs conn event line h) k
step_jobs server a (Own (AtShard s work)) b r jobs claims ends sound race k =
    let there : (line : ShardWithJobs) → shard_line a s ≡ Some line → slice_get a.lines (s - 1) ≡ Some line =
    λ line at. found (nat_eq s 0) (slice_get a.lines (s - 1)) line at in
    let x = at_known a.race.issued (s - 1) (λ line. line_after_if (work_event work b line) line) a.lines jobs claims
    ends (shard_line a s) there (λ line h. work_known jobs work b line h) k in
    rise a.race.issued r.issued _ jobs _ _ (work_issued a.race s work (shard_line a s) b r race) (record {
      lines_known = x.lines_known;
      turns = x.turns;
      below = x.below;
      claims_known =
          work_claims_known a s work b jobs claims (λ line f. k.lines_known (s - 1) line (there line f)) k.claims_known;
      ends_known =
          work_ends_known a s work jobs ends (λ line f. k.lines_known (s - 1) line (there line f)) k.ends_known;
    })
step_jobs server a (Own (Publish p)) b r jobs claims ends sound race k =
    queue_known a.race.issued r.issued a.lines (own_job server a.hub p) jobs claims ends
    (next_is a.hub.issued a.race.issued sound.issued)
    (issued_is a.race.issued r.issued (a.race.issued + 1) race.after race.issued) k
step_jobs server a (Own (Collect s)) b r jobs claims ends sound race k =
    at_known a.race.issued (s - 1) (line_after of_shard.Collect) a.lines jobs claims ends (shard_line a s)
    (λ line at. found (nat_eq s 0) (slice_get a.lines (s - 1)) line at)
    (λ line h. record { hand = h.hand; waiting = h.waiting }) k
step_jobs server a (Own Drain) b r jobs claims ends sound race k = k
step_jobs server a (Own (Dial q)) b r jobs claims ends sound race k = k
step_jobs server a (Own Accept) b r jobs claims ends sound race k = k
step_jobs server a (Own (CutSession q)) b r jobs claims ends sound race k = k
step_jobs server a (Own (TakeFrames q count)) b r jobs claims ends sound race k = k
step_jobs server a (Receive frame) b r jobs claims ends sound race k =
    body_jobs_known server a frame frame.body r jobs claims ends sound race k
step_jobs server a (OnInfo q info) b r jobs claims ends sound race k = k
step_jobs server a (OnConnect q connect) b r jobs claims ends sound race k = k

new_known : (shards first count place : ℕ) (line : ShardWithJobs)
    → slice_get (lines_from shards first count) place ≡ Some line
    → Known [] line
new_known shards first zero place line e = absurd (none-some line e)
new_known shards first (suc count) zero line e =
    subst (Known []) (same_Some _ line e)
    (record { hand = λ job f. absurd (none-some job f); waiting = λ j i. absurd i })
new_known shards first (suc count) (suc place) line e = new_known shards (suc first) count place line e

pub run_known : (server : ServerIdentity) (h : List Done) (a : Node)
    → IsListed server
    → Ran server h a
    → Jobs a.race.issued a.lines (jobs_of server h) (claims_of h) (ends_of h)
run_known server [] a listed is =
    subst (λ (x : Node). Jobs x.race.issued x.lines [] [] []) (sym is) (record {
      lines_known = new_known server.shards 1 server.shards;
      turns = tt;
      below = λ j i. absurd i;
      claims_known = λ x i. absurd i;
      ends_known = λ x i. absurd i;
    })
run_known server (d ∷ earlier) a listed ran =
    subst (λ (x : Node).
    Jobs x.race.issued x.lines (jobs_of server (d ∷ earlier)) (claims_of (d ∷ earlier)) (ends_of (d ∷ earlier)))
    (sym ran.0.after)
    (step_jobs server d.before d.event d.won d.race (jobs_of server earlier) (claims_of earlier) (ends_of earlier)
    (run_sound server earlier d.before listed ran.1) ran.0.moves (run_known server earlier d.before listed ran.1))

pub turns_have_one_job : (server : ServerIdentity) (h : List Done) (a : Node)
    → IsListed server
    → Ran server h a
    → HasOneJob server h
turns_have_one_job server h a listed ran =
    let k = run_known server h a listed ran in record { turns = k.turns; claims = k.claims_known; ends = k.ends_known }
