-- Which publications a hub gave to the shards, by what is written down of it.
use Rattle.std.specs.Prelude.{◌≡◌, ℕ, ◌+◌, Bool, cond, List, [], ◌∷◌, ◌++◌, length, map}
use Rattle.subj.specs.Servers.{ServerIdentity, own_name}
use Rattle.subj.specs.declared.identities.PubId.{PubId}
use Rattle.subj.specs.declared.jobs.Job.{Job}
use Rattle.route_values.specs.Frames.{Frame}
use Rattle.thread_law.specs.Runs.{HubRun}
use Rattle.thread_node.specs.declared.hub_entries.HubEntry.{HubEntry}
use Rattle.thread_node.specs.declared.hub_entries.HubEvent.{HubEvent}
use Rattle.thread_node.specs.declared.hub_entries.HubEvent.TheVariants as event
use Rattle.thread_node.specs.declared.hub_entries.HubTold.{HubTold}
use Rattle.thread_node.specs.declared.hub_entries.HubTold.TheVariants as told
use Rattle.thread_report.specs.declared.issued.IssuedJob.{IssuedJob}
use Rattle.thread_report.specs.declared.issued.IssuedJob.TheVariants.{Own, Routed}

-- ---- by entries

-- the turn of the job that an answer tells
abbrev pub turns_in : HubTold → List ℕ
turns_in (told.Issued turn frames) = turn ∷ []
turns_in (told.Routed turn) = turn ∷ []
turns_in (told.Heard mark) = []
turns_in (told.Collected changes cut) = []
turns_in (told.Taken frames) = []
turns_in (told.Dialed session) = []
turns_in (told.Accepted session info) = []
turns_in (told.KeptAfterInfo instead_of connect) = []
turns_in (told.Kept instead_of) = []
turns_in (told.WasCut peer) = []
turns_in (told.Refused why) = []

-- how many publications of the server's own clients an entry takes
abbrev pub owned : HubEvent → HubTold → ℕ
owned (event.Publish conn publication word finished) told = length (turns_in told)
owned (event.Receive frame finished) told = 0
owned (event.Collect shard deltas) told = 0
owned event.Drain told = 0
owned (event.TakeFrames peer count) told = 0
owned (event.Dial peer) told = 0
owned event.Accept told = 0
owned (event.Info session info) told = 0
owned (event.Connect session connect) told = 0
owned (event.Cut session) told = 0

abbrev pub owned_in : List HubEntry → ℕ
owned_in [] = 0
owned_in (entry ∷ tape) = owned entry.event entry.told + owned_in tape

abbrev pub id_in : Frame → PubId
id_in frame = record { origin = frame.from; inc = frame.inc; number = frame.number }

-- the job of an entry, where the next publication of an own client has this number
abbrev pub issued_by : ℕ → HubEvent → HubTold → List IssuedJob
issued_by next (event.Publish conn publication word finished) told =
    map (λ turn. Own turn next) (turns_in told)
issued_by next (event.Receive frame finished) told =
    map (λ turn. Routed turn (id_in frame)) (turns_in told)
issued_by next (event.Collect shard deltas) told = []
issued_by next event.Drain told = []
issued_by next (event.TakeFrames peer count) told = []
issued_by next (event.Dial peer) told = []
issued_by next event.Accept told = []
issued_by next (event.Info session info) told = []
issued_by next (event.Connect session connect) told = []
issued_by next (event.Cut session) told = []

abbrev pub issued_on : ℕ → List HubEntry → List IssuedJob
issued_on next [] = []
issued_on next (entry ∷ tape) =
    issued_by next entry.event entry.told ++ issued_on (next + owned entry.event entry.told) tape

-- ---- the jobs that were given

-- the turn, and the publication's id at this server
abbrev pub turn_and_id : ServerIdentity → IssuedJob → ℕ × PubId
turn_and_id server (Own turn number) = (
  turn,
  record { origin = own_name server; inc = server.inc; number = number },
)
turn_and_id server (Routed turn id) = (turn, id)

abbrev pub of_job : Job → ℕ × PubId
of_job job = (job.turn, job.id)

-- just the jobs that the hub gave to the shards, in order, where that is written down
abbrev pub AreIssued : Bool → HubRun → List IssuedJob → Type 0
AreIssued kept hub jobs =
    map (turn_and_id hub.end.side.server) jobs ≡ cond kept (map of_job hub.end.issued) []
