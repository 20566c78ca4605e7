-- A shard as its callers see it, and its connections.
use Rattle.std.specs.Prelude.{ℕ, Bool, false, not, nat_eq, List, [], ◌∷◌, filter, find, Option, Some, None, is_some, if◌then◌else◌}
use Rattle.subj.specs.declared.keys.Delta.{Delta}
use Rattle.outbox.specs.Views.{Written, Backlog, has_room}
use Rattle.sub_table.specs.declared.Subscription.{Subscription}
use Rattle.subj.specs.declared.jobs.Job.{Job}
use Rattle.std.specs.Prelude.{length}

-- a connection: its number, what waits for it and the limits of that, and whether it takes headers
pub record Client : Type 0 where
  pub number : ℕ
  pub outbox : Backlog
  pub max_entries : ℕ
  pub max_bytes : ℕ
  pub headers : Bool

-- A shard of a server (profile): which of how many it is, counted from 1; the number of its next
-- connection; how many subscriptions it has opened; the last turn that it finished; the job that it
-- works off, and the index of the queue name to be claimed next there; its connections in order of
-- attaching; its open subscriptions in order of opening; whether it drains, and takes no more of
-- them; and the openings and closings that the hub was not told of yet, in order.
pub record State : Type 0 where
  pub shard : ℕ
  pub shards : ℕ
  pub next_conn : ℕ
  pub opened : ℕ
  pub finished : ℕ
  pub hand : Option Job
  pub next_index : ℕ
  pub clients : List Client
  pub subs : List Subscription
  pub draining : Bool
  pub deltas : List Delta

-- a shard without connections; it numbers them s, s + K, s + 2K, .. (profile)
abbrev pub new_shard : ℕ → ℕ → State
new_shard shard shards = record {
  shard = shard;
  shards = shards;
  next_conn = shard;
  opened = 0;
  finished = 0;
  hand = None;
  next_index = 0;
  clients = [];
  subs = [];
  draining = false;
  deltas = [];
}

-- ---- connections

abbrev pub has_number : ℕ → Client → Bool
has_number number client = nat_eq client.number number

abbrev pub client_at : ℕ → List Client → Option Client
client_at number clients = find (has_number number) clients

-- a connection that is there and not shut answers all calls
abbrev pub takes_events : Option Client → Bool
takes_events None = false
takes_events (Some client) = not client.outbox.shut

abbrev pub is_open : ℕ → List Client → Bool
is_open number clients = takes_events (client_at number clients)

-- a shut connection answers only a take and a detach
abbrev pub is_known : ℕ → List Client → Bool
is_known number clients = is_some (client_at number clients)

-- the list with a change to what waits for the connection
abbrev pub with_outbox : (Backlog → Backlog) → Client → Client
with_outbox change client = record client { outbox = change client.outbox }

abbrev pub clients_with_change : (Backlog → Backlog) → ℕ → List Client → List Client
clients_with_change change number [] = []
clients_with_change change number (client ∷ clients) =
    if has_number number client then with_outbox change client ∷ clients
    else client ∷ clients_with_change change number clients

-- NATS documentation, "Client Protocol", "CONNECT", `headers`: a connection that takes them is sent
-- a message with its header block by `HMSG`; one that is not there takes none
abbrev pub option_of : Option Client → Bool
option_of None = false
option_of (Some client) = client.headers

abbrev pub takes_headers : ℕ → List Client → Bool
takes_headers number clients = option_of (client_at number clients)

-- the list with another option of the connection
abbrev pub with_headers : Bool → Client → Client
with_headers on client = record client { headers = on }

abbrev pub clients_with_headers : Bool → ℕ → List Client → List Client
clients_with_headers on number [] = []
clients_with_headers on number (client ∷ clients) =
    if has_number number client then with_headers on client ∷ clients
    else client ∷ clients_with_headers on number clients

-- the list without the connection
abbrev pub without_client : ℕ → List Client → List Client
without_client number clients = filter (λ client. not (has_number number client)) clients

-- an entry may be put: the connection is there and not shut, and both limits allow it (profile)
abbrev pub room_of : Client → ℕ → Bool
room_of client len = has_room client.max_entries client.max_bytes len client.outbox

-- an entry of so many bytes
abbrev pub fits_len : Option Client → ℕ → Bool
fits_len None len = false
fits_len (Some client) len = room_of client len

abbrev pub fits : Option Client → Written → Bool
fits client entry = fits_len client (length entry.bytes)

-- what waits for the connection
abbrev pub entries_of : Option Client → List Written
entries_of None = []
entries_of (Some client) = client.outbox.entries

abbrev pub waits_for : ℕ → List Client → List Written
waits_for number clients = entries_of (client_at number clients)
