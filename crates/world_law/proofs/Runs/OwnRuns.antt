-- Each server that is up came to its state by a run of its own.
use Rattle.std.proofs.Common.{◌≡◌, ℕ, zero, suc, ◌≤◌, ⊎_elim, ◌++◌, map, List, [], ◌∷◌, set, length, replicate, Option, Some, None, refl, sym, ap, ◌∙◌, subst, arith}
use Rattle.std.specs.Prelude.{slice_get}
use Rattle.std.proofs.lemmas.Option.{none-some, same_Some, slice_get_within}
use Rattle.list_laws.proofs.Lists.{read_set, read_replicate}
use Rattle.hub_core.proofs.Neighbours.Known.{set_length}
use Rattle.node_law.specs.Events.{NodeEvent}
use Rattle.node_law.specs.EachShard.{ShardsStayHeld}
use Rattle.node_law.specs.Events as of_node
use Rattle.node_law.specs.HubsSound.{IsSpelt, HubsStaySound}
use Rattle.node_law.specs.Promises.{OneServerKeeps}
use Rattle.node_law.specs.State.{Node}
use Rattle.node_law.specs.Steps.{node_frames}
use Rattle.hub_core.specs.Publishing.{frames_of}
use Rattle.route_values.specs.Frames.{Frame}
use Rattle.route_values.specs.declared.frames.RouteFrame.{RouteFrame}
use Rattle.route_values.specs.declared.frames.RouteFrame.TheVariants as route
use Rattle.subj.specs.Servers.{ServerIdentity}
use Rattle.list_laws.specs.Lists.{In, Each}
use Rattle.list_laws.proofs.Lists.{in_map, in_read, each_append}
use Rattle.node_law.specs.Runs.{Done, Ran}
use Rattle.world_law.specs.declared.faults.WorldFault.{WorldFault}
use Rattle.world_law.specs.Events.{Event, Start, Stop, Receive, OnInfo, OnConnect, At, event_for}
use Rattle.world_law.specs.Outcomes.{Outcome}
use Rattle.world_law.specs.Refusals.{world_refusal}
use Rattle.world_law.specs.State.{Cluster, Running, World, new_world, server_at}
use Rattle.world_law.specs.Steps.{Acts, Happens, Decided, WorldStep, Run}
use Rattle.world_law.specs.OwnRuns.{EachHasRun, EachKeepsItsLaws}
use Rattle.subj.specs.Servers.{IsListed}
use Rattle.list_laws.proofs.Lists.{in_append}
use Rattle.node_law.specs.AsLaw.{jobs_by}
use Rattle.node_law.specs.OneServer.{jobs_of}
use Rattle.world_law.specs.Changes.{publications_of}
use Rattle.world_law.specs.Headline.{IsCluster}
use Rattle.world_law.specs.RestsOn.{messages_in, IsMessageOf}
use Rattle.world_law.specs.State.{Publication}
use Rattle.world_law.proofs.Runs.Sources.{IsOwnOf, more_message, more_own, messages_more, node_messages, node_jobs}
use Rattle.world_law.proofs.Seen.Worlds.{Given, given_numbered, given_info, given_connect}

-- ---- what an INFO or a CONNECT tells can be spelt

abbrev pub IsToldOf : RouteFrame → Type 0
IsToldOf (route.Info info) = 1 ≤ info.inc
IsToldOf (route.Connect connect) = 1 ≤ connect.inc
IsToldOf (route.Numbered frame) = Unit {0}

all_numbered : (frames : List Frame) → Each IsToldOf (map route.Numbered frames)
all_numbered frames f i = let m = in_map route.Numbered frames f i in subst IsToldOf (sym m.2) tt

one_told : (f x : RouteFrame) → IsToldOf f → x ≡ f → IsToldOf x
one_told f x told e = subst IsToldOf (sym e) told

frames_told : (server : ServerIdentity) (a : Node) (e : NodeEvent)
    → 1 ≤ server.inc
    → Each IsToldOf (node_frames server a e)
frames_told server a (of_node.Own (of_node.OfConn conn event)) some f i = absurd i
frames_told server a (of_node.Own (of_node.AtShard shard work)) some f i = absurd i
frames_told server a (of_node.Own (of_node.Publish p)) some f i = all_numbered (frames_of server a.hub p) f i
frames_told server a (of_node.Own (of_node.Collect shard)) some f i = all_numbered _ f i
frames_told server a (of_node.Own of_node.Drain) some f i = all_numbered _ f i
frames_told server a (of_node.Own (of_node.Dial q)) some f i = absurd i
frames_told server a (of_node.Own of_node.Accept) some f i = ⊎_elim (λ e. one_told _ f some e) (λ j. absurd j) i
frames_told server a (of_node.Own (of_node.CutSession session)) some f i = absurd i
frames_told server a (of_node.Own (of_node.TakeFrames q count)) some f i = absurd i
frames_told server a (of_node.Receive frame) some f i = absurd i
frames_told server a (of_node.OnInfo session info) some f i =
    ⊎_elim (λ e. one_told _ f some e) (λ j. ⊎_elim (λ e. one_told _ f tt e) (λ k. absurd k) j) i
frames_told server a (of_node.OnConnect session connect) some f i = ⊎_elim (λ e. one_told _ f tt e) (λ j. absurd j) i

given_spelt : (w : World) (e : NodeEvent) → Each IsToldOf w.sent → Given w e → IsSpelt e
given_spelt w (of_node.Own event) told given = tt
given_spelt w (of_node.Receive frame) told given = tt
given_spelt w (of_node.OnInfo session info) told given =
    told (route.Info info) (in_read w.sent given.0 (route.Info info) given.1)
given_spelt w (of_node.OnConnect session connect) told given =
    told (route.Connect connect) (in_read w.sent given.0 (route.Connect connect) given.1)

-- ---- the run of each server

-- each job of the run is of one of these publications
pub record Came (c : Cluster) (publications : List Publication) (n : ℕ) (a : Running) : Type 0 where
  pub some : 1 ≤ a.inc
  pub steps : List Done
  pub ran : Ran (server_at c n a.inc) steps a.node
  pub spelt : Each (λ d. IsSpelt d.event) steps
  pub made : Each (IsOwnOf c publications n) (jobs_of (server_at c n a.inc) steps)

pub record Rans (c : Cluster) (w : World) : Type 0 where
  pub size : length w.nodes ≡ length c.names
  pub each : (n : ℕ) (a : Running) → slice_get w.nodes n ≡ Some (Some a) → Came c w.publications n a
  pub told : Each IsToldOf w.sent
  pub made : Each (IsMessageOf w.publications) (messages_in w.sent)

more_came : (c : Cluster) (ps more : List Publication) (n : ℕ) (a : Running) → Came c ps n a → Came c (ps ++ more) n a
more_came c ps more n a x = record {
  some = x.some;
  steps = x.steps;
  ran = x.ran;
  spelt = x.spelt;
  made = λ job i. more_own c ps more n job (x.made job i);
}

abbrev AllCame : Cluster → List Publication → List (Option Running) → Type 0
AllCame c ps nodes = (n : ℕ) (a : Running) → slice_get nodes n ≡ Some (Some a) → Came c ps n a

set_came : (c : Cluster) (ps : List Publication) (nodes : List (Option Running)) (n : ℕ) (new : Option Running)
    → ((a : Running) → new ≡ Some a → Came c ps n a)
    → AllCame c ps nodes
    → AllCame c ps (set nodes n new)
set_came c ps nodes n new here h k a e =
    read_set (λ k o. (a : Running) → o ≡ Some a → Came c ps k a) nodes n new
    (λ k o apart f a is. h k a (f ∙ ap Some is)) here k (Some a) e a refl

acts_rans : (c : Cluster)
    → IsCluster c
    → (w w' : World) (n : ℕ) (event : Option NodeEvent) (told : Outcome)
    → ((e : NodeEvent) → event ≡ Some e → Given w e)
    → Acts c w n event told w'
    → Rans c w
    → Rans c w'
acts_rans c set_up w w' n event told given s r =
    subst (Rans c) (sym s.after) (record {
      size = set_length w.nodes n (Some (record { inc = s.a.inc; node = s.b })) ∙ r.size;
      each =
          set_came c (w.publications ++ publications_of (server_at c n s.a.inc) (suc w.step) s.a.node s.e) w.nodes n
          (Some (record { inc = s.a.inc; node = s.b }))
          (λ a e.
          subst (Came c (w.publications ++ publications_of (server_at c n s.a.inc) (suc w.step) s.a.node s.e) n)
          (same_Some _ a e) here)
          (λ k a at.
          more_came c w.publications (publications_of (server_at c n s.a.inc) (suc w.step) s.a.node s.e) k a
          (r.each k a at));
      told =
          each_append IsToldOf w.sent (node_frames (server_at c n s.a.inc) s.a.node s.e) r.told
          (frames_told (server_at c n s.a.inc) s.a.node s.e (r.each n s.a s.a_is).some);
      made = λ m i.
          ⊎_elim (λ j.
          more_message w.publications (publications_of (server_at c n s.a.inc) (suc w.step) s.a.node s.e) m
          (r.made m j))
          (λ j. node_messages (server_at c n s.a.inc) (suc w.step) s.a.node s.e w.publications m j)
          (in_append m (messages_in w.sent) (messages_in (node_frames (server_at c n s.a.inc) s.a.node s.e))
          (subst (In m) (messages_more w.sent (node_frames (server_at c n s.a.inc) s.a.node s.e)) i));
    })
  where
    listed : IsListed (server_at c n s.a.inc)
    listed = record {
      apart = set_up.apart;
      listed = (let below = slice_get_within w.nodes n (Some s.a) s.a_is in let size = r.size in omega arith);
    }

    here : Came c (w.publications ++ publications_of (server_at c n s.a.inc) (suc w.step) s.a.node s.e) n
        (record { inc = s.a.inc; node = s.b })
    here =
        let old = r.each n s.a s.a_is in
        let ps = publications_of (server_at c n s.a.inc) (suc w.step) s.a.node s.e in
        record {
          some = old.some;
          steps = record { before = s.a.node; event = s.e; won = s.won; race = s.race } ∷ old.steps;
          ran = (s.steps, old.ran);
          spelt = λ d i.
              ⊎_elim (λ (e : d ≡ record { before = s.a.node; event = s.e; won = s.won; race = s.race }).
              subst (λ (x : Done). IsSpelt x.event) (sym e) (given_spelt w s.e r.told (given s.e s.is)))
              (λ j. old.spelt d j) i;
          made = λ job i.
              ⊎_elim (λ j.
              node_jobs c w n s.a.inc (suc w.step) listed s.a.node s.e r.made (given s.e s.is) s.steps.cause job j)
              (λ j. more_own c w.publications ps n job (old.made job j))
              (in_append job (jobs_by (server_at c n s.a.inc) s.a.node s.e) (jobs_of (server_at c n s.a.inc) old.steps)
              i);
        }

happens_rans : (c : Cluster) → IsCluster c → (w w' : World) (e : Event) (told : Outcome) → Happens c w e told w'
    → Rans c w → Rans c w'
happens_rans c set_up w w' (Start n inc) told s r =
    subst (Rans c) (sym s.after) (record {
      size = set_length w.nodes n _ ∙ r.size;
      each =
          set_came c w.publications w.nodes n _
          (λ a e.
          subst (Came c w.publications n) (same_Some _ a e)
          (record { some = s.some; steps = []; ran = refl; spelt = λ d i. absurd i; made = λ job i. absurd i }))
          r.each;
      told = r.told;
      made = r.made;
    })
happens_rans c set_up w w' (Stop n) told s r =
    subst (Rans c) (sym s.after) (record {
      size = set_length w.nodes n None ∙ r.size;
      each = set_came c w.publications w.nodes n None (λ a e. absurd (none-some a e)) r.each;
      told = r.told;
      made = r.made;
    })
happens_rans c set_up w w' (Receive n k) told s r =
    acts_rans c set_up w w' n (event_for w (Receive n k)) told (given_numbered w k) s r
happens_rans c set_up w w' (OnInfo n session k) told s r =
    acts_rans c set_up w w' n (event_for w (OnInfo n session k)) told (given_info w session k) s r
happens_rans c set_up w w' (OnConnect n session k) told s r =
    acts_rans c set_up w w' n (event_for w (OnConnect n session k)) told (given_connect w session k) s r
happens_rans c set_up w w' (At n event) told s r =
    acts_rans c set_up w w' n (event_for w (At n event)) told
    (λ x is. subst (λ (y : NodeEvent). Given w y) (same_Some (of_node.Own event) x is) tt) s r

pub step_rans : (c : Cluster) → IsCluster c → (w w' : World) (e : Event) (told : Outcome) → WorldStep c w e told w'
    → Rans c w → Rans c w'
step_rans c set_up w w' e told s r = go (world_refusal c w e) s
  where
    go : (o : Option WorldFault) → Decided c w e o told w' → Rans c w'
    go None d = happens_rans c set_up w w' e told d r
    go (Some why) d = subst (Rans c) (sym d.1) (record { size = r.size; each = r.each; told = r.told; made = r.made })

more_rans : (c : Cluster) → IsCluster c → (es : List Event) (w w' : World) → Run c w es w' → Rans c w → Rans c w'
more_rans c set_up [] w w' run r = subst (Rans c) (sym run) r
more_rans c set_up (e ∷ es) w w' run r =
    more_rans c set_up es run.0 w' run.3 (step_rans c set_up w run.0 e run.1 run.2 r)

replicate_length : {A : Type 0} (k : ℕ) (x : A) → length (replicate k x) ≡ k
replicate_length zero x = refl
replicate_length (suc k) x = let z = replicate_length k x in omega arith

pub first_rans : (c : Cluster) → Rans c (new_world c)
first_rans c = record {
  size = replicate_length (length c.names) None;
  each = λ k b e. absurd (none-some b (sym (read_replicate (length c.names) None (Some b) k e)));
  told = λ f i. absurd i;
  made = λ m i. absurd i;
}

pub each_has_run : EachHasRun
each_has_run c set_up es w run n a at =
    let r = more_rans c set_up es (new_world c) w run (first_rans c) in
    let came = r.each n a at in
    record {
      listed = record {
        apart = set_up.apart;
        listed = (let below = slice_get_within w.nodes n (Some a) at in let s = r.size in omega arith);
      };
      steps = came.steps;
      ran = came.ran;
      spelt = came.spelt;
    }

pub each_keeps : OneServerKeeps → HubsStaySound → ShardsStayHeld → EachKeepsItsLaws
each_keeps promises hubs shards c set_up es w run n a at =
    let r = each_has_run c set_up es w run n a at in
    record {
      run = r;
      promises = promises (server_at c n a.inc) r.steps a.node r.listed r.ran;
      hub = hubs (server_at c n a.inc) r.steps a.node r.listed r.spelt r.ran;
      shards = shards (server_at c n a.inc) r.steps a.node r.listed r.ran;
    }
