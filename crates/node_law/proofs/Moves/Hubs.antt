-- Steps that leave the shards, or give each of them a job, as the cluster law's node sees them.
use Rattle.std.proofs.Common.{◌≡◌, ℕ, zero, suc, ◌+◌, ◌≤◌, true≢false, List, [], ◌∷◌, ◌++◌, map, Some, refl, sym, ap, ◌∙◌, subst, arith}
use Rattle.std.specs.Prelude.{slice_get}
use Rattle.std.proofs.lemmas.Option.{slice_get_within}
use Rattle.list_laws.specs.Lists.{Each}
use Rattle.list_laws.proofs.Lists.{read_map}
use Rattle.list_laws.proofs.Changes.{get_map, map_map, map_append}
use Rattle.cluster_law.specs.Config.{every_rule}
use Rattle.cluster_law.specs.History as history
use Rattle.cluster_law.specs.Hub.{HubHears, HubMeets, IsTold}
use Rattle.cluster_law.specs.Messages as messages
use Rattle.cluster_law.specs.Node as law
use Rattle.cluster_law.specs.Race as law_race
use Rattle.cluster_law.specs.Shard as law_shard
use Rattle.subj.specs.Servers.{ServerIdentity}
use Rattle.subj.specs.declared.jobs.Job.{Job}
use Rattle.subj.specs.declared.limits.TheConstants.{WINDOW}
use Rattle.claim_race.specs.Race.{RaceState, IsIssued}
use Rattle.interest.specs.Counts.{IsInterest}
use Rattle.interest.specs.declared.changes.Change.{Change}
use Rattle.hub_core.specs.State as hub
use Rattle.hub_core.specs.AsLaw.{hub_of, id_of, change_of, routing, HasPeers, HasRoom}
use Rattle.hub_core.proofs.Neighbours.Known.{map_length}
use Rattle.route_session.specs.State as sessions
use Rattle.shard_core.specs.AsLaw.{job_of}
use Rattle.shard_core.specs.Lines.{Turns, begun_turn}
use Rattle.node_law.specs.Race.{race_of}
use Rattle.node_law.specs.State.{ShardWithJobs, Node, finished_turns}
use Rattle.node_law.specs.Steps.{line_with_job}
use Rattle.node_law.specs.Sound.{LineAt, SoundNode}
use Rattle.node_law.specs.AsLaw.{law_at, line_of, node_of, is_open_in}
use Rattle.node_law.proofs.Claims.Winners.{races_follow_the_law}
use Rattle.node_law.proofs.Moves.Lines.{InOrder, Steps}

-- what is open stays so, and nothing else is
abbrev pub SameOpen : List ShardWithJobs → List ShardWithJobs → Type 0
SameOpen old new =
    (place serial : ℕ) → is_open_in serial (slice_get new place) ≡ is_open_in serial (slice_get old place)

pub queued_open : (job : Job) (lines : List ShardWithJobs) → SameOpen lines (map (line_with_job job) lines)
queued_open job [] place serial = refl
queued_open job (line ∷ lines) zero serial = refl
queued_open job (line ∷ lines) (suc place) serial = queued_open job lines place serial

pub hub_steps : (server : ServerIdentity) (now : ℕ) (a b : Node) (x : law.NodeEvent) (out : history.Output)
    (publications : List messages.Publication) (frames : List messages.Frame) (changes : List Change) (jobs : List Job)
    → SameOpen a.lines b.lines
    → InOrder server b
    → law.NodeStep every_rule (law_at server) server.me now (node_of server a) x out (node_of server b)
    → out.publications ≡ publications
    → out.frames ≡ frames
    → out.changes ≡ map (law.note_of server.me server.inc) (map change_of changes)
    → out.jobs ≡ map (job_of (id_of server) server.me server.inc) jobs
    → out.lives ≡ []
    → out.placements ≡ []
    → Steps server now a b x publications frames changes jobs [] []
hub_steps server now a b x out publications frames changes jobs same sound steps publications_are frames_are changes_are
    jobs_are lives_are placements_are = record {
      moves = record {
        out = out;
        steps = steps;
        publications_are = publications_are;
        frames_are = frames_are;
        changes_are = changes_are;
        jobs_are = jobs_are;
        lives_are = lives_are;
        placements_are = placements_are;
        opened = λ life i. absurd i;
        closings = λ place serial was now_not. absurd (true≢false (sym was ∙ sym (same place serial) ∙ now_not));
      };
      sound = sound;
    }

-- ---- no job, and the same lines

sound_with : (server : ServerIdentity) (a : Node) (hub : hub.State) (sessions : sessions.State) (race : RaceState)
    → SoundNode server a
    → race ≡ a.race
    → hub.issued ≡ a.hub.issued
    → HasPeers server hub
    → hub.counts ≡ a.hub.counts
    → InOrder server (record { hub = hub; sessions = sessions; race = race; lines = a.lines })
sound_with server a hub sessions race sound same issued peers counts =
    subst (λ r. InOrder server (record { hub = hub; sessions = sessions; race = r; lines = a.lines })) (sym same)
    (record {
      issued = issued ∙ sound.issued;
      size = sound.size;
      lines = sound.lines;
      peers = peers;
      counts = subst IsInterest (sym counts) sound.counts;
    })

pub told_steps : (server : ServerIdentity) (now : ℕ) (a : Node) (hub : hub.State) (sessions : sessions.State)
    (race : RaceState) (frames : List messages.Frame)
    → SoundNode server a
    → race ≡ a.race
    → hub_of hub ≡ hub_of a.hub
    → hub.issued ≡ a.hub.issued
    → HasPeers server hub
    → hub.counts ≡ a.hub.counts
    → Each (IsTold server.me server.inc (hub_of a.hub) [] (hub_of a.hub)) frames
    → Steps server now a (record { hub = hub; sessions = sessions; race = race; lines = a.lines }) (law.Announce []) []
    frames [] [] [] []
told_steps server now a hub sessions race frames sound race_is same issued peers counts told =
    hub_steps server now a (record { hub = hub; sessions = sessions; race = race; lines = a.lines }) (law.Announce [])
    (record history.nothing { frames = frames }) [] frames [] [] (λ place serial. refl)
    (sound_with server a hub sessions race sound race_is issued peers counts)
    (record {
      hub = hub_of a.hub;
      frames = frames;
      announces = record { told = told; after = λ i. record (hub_of a.hub) { changed = none i } };
      out_is = refl;
      after = λ i. record (node_of server a) { hub = same i; race = race_of (race_is i) };
    })
    refl refl refl refl refl refl
  where
    none : a.hub.changed ≡ a.hub.changed + 0
    none = omega arith

pub news_steps : (server : ServerIdentity) (now : ℕ) (a : Node) (hub : hub.State) (sessions : sessions.State)
    (race : RaceState) (news : messages.News)
    → SoundNode server a
    → race ≡ a.race
    → HubHears every_rule (routing (law_at server)) server.me server.inc (hub_of a.hub) news (hub_of hub)
    → hub.issued ≡ a.hub.issued
    → HasPeers server hub
    → hub.counts ≡ a.hub.counts
    → Steps server now a (record { hub = hub; sessions = sessions; race = race; lines = a.lines })
    (law.Receive (messages.Interest news)) [] [] [] [] [] []
news_steps server now a hub sessions race news sound race_is hears issued peers counts =
    hub_steps server now a (record { hub = hub; sessions = sessions; race = race; lines = a.lines })
    (law.Receive (messages.Interest news)) history.nothing [] [] [] [] (λ place serial. refl)
    (sound_with server a hub sessions race sound race_is issued peers counts)
    (record {
      hub = hub_of hub;
      hears = hears;
      out_is = refl;
      after = λ i. record (node_of server a) { hub = hub_of hub; race = race_of (race_is i) };
    })
    refl refl refl refl refl refl

pub meets_steps : (server : ServerIdentity) (now : ℕ) (a : Node) (hub : hub.State) (sessions : sessions.State)
    (race : RaceState) (origin inc : ℕ) (frames : List messages.Frame)
    → SoundNode server a
    → race ≡ a.race
    → HubMeets every_rule server.me (hub_of a.hub) origin inc (hub_of hub)
    → Each (IsTold server.me server.inc (hub_of a.hub) [] (hub_of a.hub)) frames
    → hub.issued ≡ a.hub.issued
    → HasPeers server hub
    → hub.counts ≡ a.hub.counts
    → Steps server now a (record { hub = hub; sessions = sessions; race = race; lines = a.lines })
    (law.Receive (messages.Greeting origin inc)) [] frames [] [] [] []
meets_steps server now a hub sessions race origin inc frames sound race_is meets told issued peers counts =
    hub_steps server now a (record { hub = hub; sessions = sessions; race = race; lines = a.lines })
    (law.Receive (messages.Greeting origin inc)) (record history.nothing { frames = frames }) [] frames [] []
    (λ place serial. refl) (sound_with server a hub sessions race sound race_is issued peers counts)
    (record {
      hub = hub_of hub;
      meets = meets;
      frames = frames;
      told = told;
      out_is = refl;
      after = λ i. record (node_of server a) { hub = hub_of hub; race = race_of (race_is i) };
    })
    refl refl refl refl refl refl

-- ---- each line gets a job

-- no shard is a window behind
abbrev pub AllRoom : Node → Type 0
AllRoom a = (place done : ℕ) → slice_get (finished_turns a.lines) place ≡ Some done → suc a.hub.issued ≤ done + WINDOW

pub all_room : (server : ServerIdentity) (a : Node)
    → SoundNode server a
    → HasRoom server a.hub (finished_turns a.lines)
    → AllRoom a
all_room server a sound room place done at =
    room place done
    (let within = slice_get_within (finished_turns a.lines) place done at in
    let same = map_length (λ (line : ShardWithJobs). line.shard.finished) a.lines in
    let size = sound.size in
    omega arith)
    at

turns_more : (begun : ℕ) (waiting : List Job) (issued : ℕ) (job : Job)
    → job.turn ≡ suc issued
    → Turns begun waiting issued
    → Turns begun (waiting ++ job ∷ []) (suc issued)
turns_more begun [] issued job turn t = (turn ∙ ap suc (sym t), ap suc t)
turns_more begun (x ∷ waiting) issued job turn t = (t.0, turns_more (suc begun) waiting issued job turn t.1)

pub queued_seen : (server : ServerIdentity) (job : Job) (j : history.Job) (lines : List ShardWithJobs)
    → job_of (id_of server) server.me server.inc job ≡ j
    → map (line_of server) (map (line_with_job job) lines) ≡ map (law.shard_with_job j) (map (line_of server) lines)
queued_seen server job j [] e = refl
queued_seen server job j (line ∷ lines) e = λ i.
    record (line_of server line) {
      waiting = (map_append seen line.waiting (job ∷ []) ∙ ap (λ t. map seen line.waiting ++ t ∷ []) e) i;
    }
    ∷ queued_seen server job j lines e i
  where
    seen : Job → history.Job
    seen = job_of (id_of server) server.me server.inc

pub issued_sound : (server : ServerIdentity) (a : Node) (hub : hub.State) (sessions : sessions.State) (race : RaceState)
    (turn : ℕ) (job : Job)
    → SoundNode server a
    → IsIssued a.race turn race
    → hub.issued ≡ a.hub.issued + 1
    → HasPeers server hub
    → hub.counts ≡ a.hub.counts
    → job.turn ≡ a.hub.issued + 1
    → AllRoom a
    → InOrder server (record { hub = hub; sessions = sessions; race = race; lines = map (line_with_job job) a.lines })
issued_sound server a hub sessions race turn job sound issue issued peers counts job_turn room = record {
  issued = let r = next in let h = sound.issued in omega arith;
  size = map_length (line_with_job job) a.lines ∙ sound.size;
  lines = λ place line e.
      let m = read_map (line_with_job job) a.lines place line e in
      let at = sound.lines place m.0 m.1 in
      let old = at.sound in
      let h = sound.issued in
      subst (λ l. LineIs place l) (sym m.2) (record {
        sound = record {
          hand = old.hand;
          turns =
              subst (λ k. Turns (begun_turn m.0.shard.hand m.0.shard.finished) (m.0.waiting ++ job ∷ []) k) (sym next)
              (turns_more (begun_turn m.0.shard.hand m.0.shard.finished) m.0.waiting a.race.issued job (omega arith)
              old.turns);
          room =
              let r =
              room place m.0.shard.finished (get_map (λ (x : ShardWithJobs). x.shard.finished) a.lines place m.0 m.1) in
              let n = next in
              omega arith;
          apart = old.apart;
          below = old.below;
        };
        number = at.number;
        shards = at.shards;
      });
  peers = peers;
  counts = subst IsInterest (sym counts) sound.counts;
}
  where
    next : race.issued ≡ suc a.race.issued
    next = (races_follow_the_law.issues a.race turn race issue).issued

    LineIs : ℕ → ShardWithJobs → Type 0
    LineIs place line = LineAt server race.issued place line

law_finished : (server : ServerIdentity) (lines : List ShardWithJobs)
    → law.finished_turns (map (line_of server) lines) ≡ finished_turns lines
law_finished server lines = map_map (line_of server) (λ (x : law_shard.Shard). x.finished) lines

pub law_issues : (server : ServerIdentity) (a : Node) (race : RaceState) (turn : ℕ)
    → SoundNode server a
    → IsIssued a.race turn race
    → AllRoom a
    → law_race.Issues every_rule WINDOW (law.finished_turns (map (line_of server) a.lines)) (race_of a.race)
    (race_of race)
law_issues server a race turn sound issue room =
    let r = races_follow_the_law.issues a.race turn race issue in
    record {
      room = λ s done e.
          let x = room s done (sym (ap (λ t. slice_get t s) (law_finished server a.lines)) ∙ e) in
          let z = sound.issued in
          omega arith;
      issued = r.issued;
      kept = r.kept;
    }
