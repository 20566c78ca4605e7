-- A step of one line as the cluster law's node sees it.
use Rattle.std.proofs.Common.{◌≡◌, ℕ, Bool, true, false, true≢false, nat_eq, List, [], length, set, Some, refl, sym, ap, ◌∙◌, subst}
use Rattle.std.specs.Prelude.{slice_get}
use Rattle.list_laws.specs.Lists.{In, Each}
use Rattle.list_laws.proofs.Lists.{read_set}
use Rattle.list_laws.proofs.Tests.{eq_true, eq_false}
use Rattle.list_laws.proofs.Changes.{get_set_here, get_set_there, get_map, map_set, in_mapped}
use Rattle.cluster_law.specs.History as history
use Rattle.cluster_law.specs.Messages as messages
use Rattle.cluster_law.specs.Node as law
use Rattle.cluster_law.specs.Shard as law_shard
use Rattle.subj.specs.Servers.{ServerIdentity}
use Rattle.subj.specs.declared.jobs.Job.{Job}
use Rattle.claim_race.specs.Race.{RaceState}
use Rattle.interest.specs.declared.changes.Change.{Change}
use Rattle.interest.specs.Counts.{IsInterest}
use Rattle.hub_core.specs.AsLaw.{id_of, HasPeers}
use Rattle.hub_core.proofs.Neighbours.Known.{set_length}
use Rattle.shard_core.specs.AsLaw.{LawStep}
use Rattle.node_law.specs.Race.{race_of}
use Rattle.node_law.specs.State.{ShardWithJobs, Node}
use Rattle.node_law.specs.Sound.{LineAt, SoundNode}
use Rattle.node_law.specs.AsLaw.{law_at, line_of, node_of, is_open_in, Moves}
use Rattle.node_law.proofs.Moves.ShardKeeps.{Same, OpenHere}

-- a sound server, but for its race
pub record InOrder (server : ServerIdentity) (a : Node) : Type 0 where
  pub issued : a.hub.issued ≡ a.race.issued
  pub size : length a.lines ≡ server.shards
  pub lines : (place : ℕ) (line : ShardWithJobs)
      → slice_get a.lines place ≡ Some line
      → LineAt server a.race.issued place line
  pub peers : HasPeers server a.hub
  pub counts : IsInterest a.hub.counts

-- what a step shows, and that all stays in order
pub record Steps (server : ServerIdentity) (now : ℕ) (a b : Node) (x : law.NodeEvent)
    (publications : List messages.Publication) (frames : List messages.Frame) (changes : List Change) (jobs : List Job)
    (lives : List history.Life) (placements : List history.Placement) : Type 0 where
  pub moves : Moves server now a b x publications frames changes jobs lives placements
  pub sound : InOrder server b

pub line_steps : (server : ServerIdentity) (now place : ℕ) (a : Node) (line after : ShardWithJobs) (race : RaceState)
    (lives : List history.Life) (placements : List history.Placement)
    → SoundNode server a
    → slice_get a.lines place ≡ Some line
    → race.issued ≡ a.race.issued
    → Same line.shard after.shard
    → (m : LawStep (law_at server) (id_of server) server.me server.inc now place a.race.issued (race_of a.race)
    (race_of race) line.shard line.waiting after.shard after.waiting lives placements)
    → Each (OpenHere server.me server.inc place after.shard) lives
    → Steps server now a (record a { lines = set a.lines place after; race = race }) (law.OnShard place m.event) [] []
    [] [] lives placements
line_steps server now place a line after race lives placements sound at issued same m open_after = record {
  moves = record {
    out = record history.nothing {
      lives = lives;
      closings = law_shard.closings_of server.me server.inc place now m.closed;
      placements = placements;
    };
    steps = record {
      old = line_of server line;
      old_is = get_map (line_of server) a.lines place line at;
      new = line_of server after;
      race = race_of race;
      steps = m.steps;
      after = λ i. record (node_of server a) {
        race = race_of race;
        shards = map_set (line_of server) a.lines place after i;
      };
    };
    publications_are = refl;
    frames_are = refl;
    changes_are = refl;
    jobs_are = refl;
    lives_are = refl;
    placements_are = refl;
    opened = λ life i.
        let o = open_after life i in
        record {
          node = o.node;
          inc = o.inc_is;
          is_open =
              ap (λ t. is_open_in life.id.serial (slice_get (set a.lines place after) t)) o.shard
              ∙ ap (is_open_in life.id.serial) (get_set_here a.lines place line after at)
              ∙ o.is_open;
        };
    closings = λ p serial was now_not. go p serial was now_not (nat_eq p place) refl;
  };
  sound = record {
    issued = sound.issued ∙ sym issued;
    size = set_length a.lines place after ∙ sound.size;
    lines =
        subst (λ x. (t : ℕ) (l : ShardWithJobs) → slice_get (set a.lines place after) t ≡ Some l → LineAt server x t l)
        (sym issued)
        (read_set (λ t l. LineAt server a.race.issued t l) a.lines place after (λ t l apart e. sound.lines t l e)
        (let old = sound.lines place line at in
        record { sound = m.sound; number = same.shard ∙ old.number; shards = same.shards ∙ old.shards }));
    peers = sound.peers;
    counts = sound.counts;
  };
}
  where
    go : (p serial : ℕ)
        → is_open_in serial (slice_get a.lines p) ≡ true
        → is_open_in serial (slice_get (set a.lines place after) p) ≡ false
        → (b : Bool)
        → nat_eq p place ≡ b
        → In (record { life = law_shard.life_id server.me server.inc p serial; step = now })
        (law_shard.closings_of server.me server.inc place now m.closed)
    go p serial was now_not true e =
        let here = eq_true p place e in
        let i = m.closes serial (sym (ap (is_open_in serial) (ap (slice_get a.lines) here ∙ at)) ∙ was)
        (sym (ap (is_open_in serial)
        (ap (slice_get (set a.lines place after)) here ∙ get_set_here a.lines place line after at)) ∙ now_not) in
        subst (λ q.
        In (record { life = law_shard.life_id server.me server.inc q serial; step = now })
        (law_shard.closings_of server.me server.inc place now m.closed))
        (sym here)
        (in_mapped {A = ℕ} {B = history.Closing}
        (λ k. record { life = law_shard.life_id server.me server.inc place k; step = now }) m.closed serial i)
    go p serial was now_not false e =
        absurd (true≢false
        (sym was ∙ sym (ap (is_open_in serial) (get_set_there a.lines place p after (eq_false p place e))) ∙ now_not))
