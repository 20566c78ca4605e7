-- The events of connections and of shards, as the cluster law's node sees them.
use Rattle.std.proofs.Common.{◌≡◌, ℕ, ◌-◌, ◌+◌, Bool, true, false, cond, nat_eq, List, [], set, Option, Some, None, refl, sym, ap, ◌∙◌, subst}
use Rattle.std.specs.Prelude.{slice_get}
use Rattle.std.proofs.lemmas.Option.{none-some, same_Some}
use Rattle.cluster_law.specs.Race.{Keeps}
use Rattle.cluster_law.specs.Node as law
use Rattle.cluster_law.specs.Cluster.{IsOwn}
use Rattle.subj.specs.Servers.{ServerIdentity}
use Rattle.subj.specs.declared.jobs.Job.{Job}
use Rattle.subj.specs.declared.limits.TheConstants.{WINDOW}
use Rattle.sub_table.specs.declared.Subscription.{Subscription}
use Rattle.claim_race.specs.Race.{RaceState}
use Rattle.hub_core.specs.AsLaw.{id_of}
use Rattle.hub_core.proofs.Steps.Rooms.{map_none}
use Rattle.shard_core.specs.Owed.{candidate_of}
use Rattle.shard_core.specs.ShardEvents as of_shard
use Rattle.shard_core.specs.ShardSteps.{shard_refusal}
use Rattle.shard_core.specs.Lines.{HasJob, first_of}
use Rattle.shard_core.specs.AsLaw.{RaceMoves, ClaimMoves, AreThese, lives_by}
use Rattle.shard_core.proofs.Steps.LawEvents.{shards_follow_the_law}
use Rattle.node_law.specs.declared.faults.NodeFault.TheVariants.{Shard}
use Rattle.node_law.specs.Race.{race_of}
use Rattle.node_law.specs.State.{ShardWithJobs, Node}
use Rattle.node_law.specs.Events.{ConnEvent, Subscribe, Unsubscribe, Reply, Shut, SetHeaders, Detach, Take, ShardWork, Attach, Begin, Claim, End, DropJob, DrainShard}
use Rattle.node_law.specs.Steps.{conn_place, conn_line, shard_line, conn_event, begin_of, drop_of, work_event, conn_refusal, event_refusal, work_refusal, ClaimRace, WorkRace, line_after, line_after_if, set_line}
use Rattle.node_law.specs.Sound.{SoundNode}
use Rattle.node_law.specs.AsLaw.{law_at, part_if, part_at, given_at, placements_at, conn_lives}
use Rattle.node_law.proofs.Claims.Winners.{races_follow_the_law}
use Rattle.node_law.proofs.Moves.ShardKeeps.{keeps_number, lives_open}
use Rattle.node_law.proofs.Moves.Lines.{Steps, line_steps}

same_race : (race : RaceState) → Keeps WINDOW (race_of race) (race_of race)
same_race race = record { issued = refl; kept = λ t i lt. ((λ x. x), (λ x. x)) }

-- what an event of a shard needs of its line and of the race
pub record Ready (line : ShardWithJobs) (e : of_shard.Event) (old new : RaceState) : Type 0 where
  pub has : HasJob line.shard.hand e line.waiting
  pub moves : RaceMoves WINDOW line.shard e (race_of old) (race_of new)
  pub issued : new.issued ≡ old.issued

pub event_steps : (server : ServerIdentity) (now place : ℕ) (a : Node) (line : ShardWithJobs) (e : of_shard.Event)
    (race : RaceState) (subs : List Subscription)
    → SoundNode server a
    → slice_get a.lines place ≡ Some line
    → shard_refusal line.shard e ≡ None
    → Ready line e a.race race
    → AreThese (given_at (Some (record { place = place; line = line; event = e }))) subs
    → (x : law.NodeEvent) × IsOwn x
    × Steps server now a (record a { lines = set a.lines place (line_after e line); race = race }) x [] [] [] []
    (lives_by server.me server.inc now place line.shard e)
    (placements_at server now (Some (record { place = place; line = line; event = e })) subs)
event_steps server now place a line e race subs sound at cause ready these =
    let m = shards_follow_the_law (law_at server) (id_of server) server.me server.inc now place a.race.issued
    (race_of a.race) (race_of race) line.shard line.waiting e subs (sound.lines place line at).sound cause ready.has
    ready.moves these in (
      law.OnShard place m.event,
      tt,
      line_steps server now place a line (line_after e line) race _ _ sound at ready.issued (keeps_number line.shard e)
          m (lives_open server.me server.inc now place line.shard e),
    )

-- ---- connections

conn_ready : (conn : ℕ) (event : ConnEvent) (line : ShardWithJobs) (race : RaceState)
    → Ready line (conn_event conn event) race race
conn_ready conn (Subscribe key sid) line race = record { has = tt; moves = same_race race; issued = refl }
conn_ready conn (Unsubscribe sid max) line race = record { has = tt; moves = same_race race; issued = refl }
conn_ready conn (Reply frame) line race = record { has = tt; moves = same_race race; issued = refl }
conn_ready conn (Shut text) line race = record { has = tt; moves = same_race race; issued = refl }
conn_ready conn Detach line race = record { has = tt; moves = same_race race; issued = refl }
conn_ready conn (SetHeaders on) line race = record { has = tt; moves = same_race race; issued = refl }
conn_ready conn (Take count) line race = record { has = tt; moves = same_race race; issued = refl }

-- a look-up that may be refused beforehand
pub found : (b : Bool) (o : Option ShardWithJobs) (line : ShardWithJobs) → cond b None o ≡ Some line → o ≡ Some line
found true o line e = absurd (none-some line e)
found false o line e = e

pub conn_steps : (server : ServerIdentity) (now conn : ℕ) (a : Node) (event : ConnEvent) (o : Option ShardWithJobs)
    (race : RaceState) (subs : List Subscription)
    → SoundNode server a
    → conn_line server a conn ≡ o
    → conn_refusal event conn o ≡ None
    → race ≡ a.race
    → AreThese (given_at (part_at (conn_place server conn) (λ line. Some (conn_event conn event)) o)) subs
    → (x : law.NodeEvent) × IsOwn x
    × Steps server now a
    (record a { lines = set_line a.lines (conn_place server conn) (line_after (conn_event conn event)) o }) x [] [] []
    [] (conn_lives server now conn event o)
    (placements_at server now (part_at (conn_place server conn) (λ line. Some (conn_event conn event)) o) subs)
conn_steps server now conn a event None race subs sound at cause same these = absurd (none-some _ (sym cause))
conn_steps server now conn a event (Some line) race subs sound at cause same these =
    event_steps server now (conn_place server conn) a line (conn_event conn event) a.race subs sound
    (found (nat_eq conn 0) (slice_get a.lines (conn_place server conn)) line at)
    (map_none Shard (shard_refusal line.shard (conn_event conn event)) cause) (conn_ready conn event line a.race) these

-- ---- shards

claim_ready : (line : ShardWithJobs) (shard index : ℕ) (hand : Option Job) (u : Option Subscription) (won : Bool)
    (old new : RaceState)
    → ClaimRace old shard index hand u won new
    → ClaimMoves WINDOW index hand u won (race_of old) (race_of new) × (new.issued ≡ old.issued)
claim_ready line shard index None u won old new h = (
  subst (λ r. Keeps WINDOW (race_of old) (race_of r)) (sym h) (same_race old),
  ap (λ (r : RaceState). r.issued) h,
)
claim_ready line shard index (Some job) None won old new h = (
  subst (λ r. Keeps WINDOW (race_of old) (race_of r)) (sym h) (same_race old),
  ap (λ (r : RaceState). r.issued) h,
)
claim_ready line shard index (Some job) (Some u) true old new h = (
  races_follow_the_law.claims old shard job.turn index true new h,
  h.issued,
)
claim_ready line shard index (Some job) (Some u) false old new h = (
  (races_follow_the_law.claims old shard job.turn index false new h).1,
  h.issued,
)

-- the events that a shard's work may be, each ready
work_ready : (shard : ℕ) (work : ShardWork) (line : ShardWithJobs) (won : Bool) (old new : RaceState)
    → WorkRace old shard work (Some line) won new
    → (e : of_shard.Event)
    → work_event work won line ≡ Some e
    → Ready line e old new
work_ready shard Attach line won old new h e is =
    subst (λ x. Ready line x old new) (same_Some of_shard.Attach e is) (record {
      has = tt;
      moves = subst (λ r. Keeps WINDOW (race_of old) (race_of r)) (sym h) (same_race old);
      issued = ap (λ (r : RaceState). r.issued) h;
    })
work_ready shard Begin line won old new h e is = go (first_of line.waiting) refl is
  where
    go : (f : Option Job) → first_of line.waiting ≡ f → begin_of f ≡ Some e → Ready line e old new
    go None at g = absurd (none-some e g)
    go (Some job) at g =
        subst (λ x. Ready line x old new) (same_Some (of_shard.Begin job) e g) (record {
          has = at;
          moves = subst (λ r. Keeps WINDOW (race_of old) (race_of r)) (sym h) (same_race old);
          issued = ap (λ (r : RaceState). r.issued) h;
        })
work_ready shard (Claim index) line won old new h e is =
    let c =
    claim_ready line shard index line.shard.hand (candidate_of line.shard line.shard.hand index) won old new h in
    subst (λ x. Ready line x old new) (same_Some (of_shard.Claim index won) e is)
    (record { has = tt; moves = c.0; issued = c.1 })
work_ready shard End line won old new h e is =
    subst (λ x. Ready line x old new) (same_Some of_shard.End e is) (record {
      has = tt;
      moves = races_follow_the_law.finishes old shard (line.shard.finished + 1) new h;
      issued = h.issued;
    })
work_ready shard DropJob line won old new h e is = go line.shard.hand refl (first_of line.waiting) refl is
  where
    go : (hand : Option Job)
        → line.shard.hand ≡ hand
        → (f : Option Job)
        → first_of line.waiting ≡ f
        → drop_of hand f ≡ Some e
        → Ready line e old new
    go None in_hand None at g = absurd (none-some e g)
    go None in_hand (Some job) at g =
        subst (λ x. Ready line x old new) (same_Some (of_shard.DropJob (Some job)) e g) (record {
          has = subst (λ m. HasJob m (of_shard.DropJob (Some job)) line.waiting) (sym in_hand) (job, refl, at);
          moves = races_follow_the_law.finishes old shard (line.shard.finished + 1) new h;
          issued = h.issued;
        })
    go (Some job) in_hand f at g =
        subst (λ x. Ready line x old new) (same_Some (of_shard.DropJob None) e g) (record {
          has = subst (λ m. HasJob m (of_shard.DropJob None) line.waiting) (sym in_hand) refl;
          moves = races_follow_the_law.finishes old shard (line.shard.finished + 1) new h;
          issued = h.issued;
        })
work_ready shard DrainShard line won old new h e is =
    subst (λ x. Ready line x old new) (same_Some of_shard.Drain e is) (record {
      has = tt;
      moves = subst (λ r. Keeps WINDOW (race_of old) (race_of r)) (sym h) (same_race old);
      issued = ap (λ (r : RaceState). r.issued) h;
    })

no_lives : (work : ShardWork) (line : ShardWithJobs) (won : Bool) (e : of_shard.Event)
    → work_event work won line ≡ Some e
    → (n inc now place : ℕ)
    → lives_by n inc now place line.shard e ≡ []
no_lives Attach line won e is n inc now place =
    subst (λ x. lives_by n inc now place line.shard x ≡ []) (same_Some of_shard.Attach e is) refl
no_lives Begin line won e is n inc now place = go (first_of line.waiting) is
  where
    go : (f : Option Job) → begin_of f ≡ Some e → lives_by n inc now place line.shard e ≡ []
    go None g = absurd (none-some e g)
    go (Some job) g = subst (λ x. lives_by n inc now place line.shard x ≡ []) (same_Some (of_shard.Begin job) e g) refl
no_lives (Claim index) line won e is n inc now place =
    subst (λ x. lives_by n inc now place line.shard x ≡ []) (same_Some (of_shard.Claim index won) e is) refl
no_lives End line won e is n inc now place =
    subst (λ x. lives_by n inc now place line.shard x ≡ []) (same_Some of_shard.End e is) refl
no_lives DropJob line won e is n inc now place = go line.shard.hand (first_of line.waiting) is
  where
    go : (hand f : Option Job) → drop_of hand f ≡ Some e → lives_by n inc now place line.shard e ≡ []
    go None None g = absurd (none-some e g)
    go None (Some job) g =
        subst (λ x. lives_by n inc now place line.shard x ≡ []) (same_Some (of_shard.DropJob (Some job)) e g) refl
    go (Some job) f g =
        subst (λ x. lives_by n inc now place line.shard x ≡ []) (same_Some (of_shard.DropJob None) e g) refl
no_lives DrainShard line won e is n inc now place =
    subst (λ x. lives_by n inc now place line.shard x ≡ []) (same_Some of_shard.Drain e is) refl

-- whether a claim is won does not decide whether it is refused
pub same_refusal : (work : ShardWork) (line : ShardWithJobs) (won : Bool)
    → event_refusal line (work_event work false line) ≡ event_refusal line (work_event work won line)
same_refusal Attach line won = refl
same_refusal Begin line won = refl
same_refusal (Claim index) line won = refl
same_refusal End line won = refl
same_refusal DropJob line won = refl
same_refusal DrainShard line won = refl

pub work_steps : (server : ServerIdentity) (now shard : ℕ) (a : Node) (work : ShardWork) (won : Bool)
    (o : Option ShardWithJobs) (race : RaceState) (subs : List Subscription)
    → SoundNode server a
    → shard_line a shard ≡ o
    → work_refusal work o ≡ None
    → WorkRace a.race shard work o won race
    → AreThese (given_at (part_at (shard - 1) (work_event work won) o)) subs
    → (x : law.NodeEvent) × IsOwn x
    × Steps server now a
    (record a {
      lines = set_line a.lines (shard - 1) (λ line. line_after_if (work_event work won line) line) o;
      race = race;
    })
    x [] [] [] [] [] (placements_at server now (part_at (shard - 1) (work_event work won) o) subs)
work_steps server now shard a work won None race subs sound at cause h these = absurd (none-some _ (sym cause))
work_steps server now shard a work won (Some line) race subs sound at cause h these =
    go (work_event work won line) refl (sym (same_refusal work line won) ∙ cause) these
  where
    go : (ev : Option of_shard.Event)
        → work_event work won line ≡ ev
        → event_refusal line ev ≡ None
        → AreThese (given_at (part_if (shard - 1) line ev)) subs
        → (x : law.NodeEvent) × IsOwn x
        × Steps server now a (record a { lines = set a.lines (shard - 1) (line_after_if ev line); race = race }) x [] []
        [] [] [] (placements_at server now (part_if (shard - 1) line ev) subs)
    go None is none t = absurd (none-some _ (sym none))
    go (Some e) is none t =
        let s = event_steps server now (shard - 1) a line e race subs sound
        (found (nat_eq shard 0) (slice_get a.lines (shard - 1)) line at)
        (map_none Shard (shard_refusal line.shard e) none) (work_ready shard work line won a.race race h e is) t in (
          s.0,
          s.1,
          subst (λ lives.
              Steps server now a (record a { lines = set a.lines (shard - 1) (line_after e line); race = race }) s.0 []
              [] [] [] lives
              (placements_at server now (Some (record { place = shard - 1; line = line; event = e })) subs))
              (no_lives work line won e is server.me server.inc now (shard - 1)) s.2,
        )
