-- Connections as a shard keeps them: what waits for each, and what will wait once all that was
-- staged is shown.
use Rattle.std.specs.Prelude.{◌≡◌, ℕ, ◌-◌, ◌<◌, Bool, List, ◌∷◌, length, map, position, slice_index_or, nat_eq, false, slice_get, slice_set, Some, true}
use Rattle.std.specs.List.{AllPairs, list_any}
use Rattle.outbox.specs.Views.{Waiting, Backlog, size_of, has_room}
use Rattle.sub_table.specs.declared.Room.{Room}
use Rattle.shard_core.specs.declared.connections.Conn.{Conn}
use Rattle.shard_core.specs.declared.standings.FormLengths.{FormLengths}
use Rattle.shard_core.specs.declared.standings.Seat.{Seat}
use Rattle.shard_core.specs.declared.standings.Standing.{Standing}
use Rattle.shard_core.specs.declared.standings.Standing.TheVariants.{Shut, Full, Ready}
use Rattle.shard_core.specs.Shards.{Client, client_at, fits_len, has_number, is_open, takes_headers}

pub record Clients : Type 0 where
  pub shown : List Client
  pub next : List Client

-- nothing is staged
abbrev pub on_both : (List Client → List Client) → Clients → Clients
on_both change c = record { shown = change c.shown; next = change c.next }

-- what is staged is dropped
abbrev pub on_shown : (List Client → List Client) → Clients → Clients
on_shown change c = record { shown = change c.shown; next = change c.shown }

abbrev pub IsSettled : Clients → Type 0
IsSettled c = c.next ≡ c.shown

-- one of the two backlogs of a connection
abbrev pub client_in_view : (Waiting → Backlog) → Conn → Client
client_in_view backlog conn = record {
  number = conn.number;
  outbox = backlog conn.outbox;
  max_entries = conn.outbox.max_entries;
  max_bytes = conn.outbox.max_bytes;
  headers = conn.headers;
}

abbrev pub shown_backlog : Waiting → Backlog
shown_backlog box = box.shown

abbrev pub next_backlog : Waiting → Backlog
next_backlog box = box.next

abbrev pub number_of : Conn → ℕ
number_of conn = conn.number

-- connections stand in order of their numbers, each once
abbrev pub AreRising : List Conn → Type 0
AreRising conns = AllPairs (λ (a b : ℕ). a < b) (map number_of conns)

-- what waits and what will wait differ at these places alone
abbrev pub IsStagedWithin : List ℕ → List Conn → Type 0
IsStagedWithin places conns =
    (i : ℕ) (d : Conn)
    → i < length conns
    → list_any (nat_eq i) places ≡ false
    → client_in_view next_backlog (slice_index_or conns i d)
    ≡ client_in_view shown_backlog (slice_index_or conns i d)

-- the same places, in whatever order and how often
abbrev pub AreAlike : List ℕ → List ℕ → Type 0
AreAlike places others = (i : ℕ) → list_any (nat_eq i) places ≡ list_any (nat_eq i) others

pub record AreConns (places : List ℕ) (conns : List Conn) : Type 0 where
  pub rising : AreRising conns
  pub staged : IsStagedWithin places conns

-- nothing is staged at this place any more
abbrev pub IsSettledAt : ℕ → List Conn → List Conn → Type 0
IsSettledAt place old new = (places : List ℕ) → AreConns (place ∷ places) old → AreConns places new

-- what may still be put for a connection
abbrev pub room_left : Client → Room
room_left client = record {
  entries = client.max_entries - length client.outbox.entries;
  bytes = client.max_bytes - size_of client.outbox.entries;
}

-- the connection at this place is there, with room for an entry of so many bytes,
abbrev pub HasRoomAt : ℕ → ℕ → List Conn → Type 0
HasRoomAt place len conns =
    (conn : Conn)
    → slice_get conns place ≡ Some conn
    → has_room conn.outbox.max_entries conn.outbox.max_bytes len conn.outbox.next ≡ true

-- or it is not shut,
abbrev pub IsOpenAt : ℕ → List Conn → Type 0
IsOpenAt place conns =
    (conn : Conn) → slice_get conns place ≡ Some conn → conn.outbox.next.shut ≡ false

-- or it has this change staged
abbrev pub IsBoxStaged : ℕ → (Backlog → Backlog) → List Conn → List Conn → Type 0
IsBoxStaged place change old new =
    (conn : Conn)
    → slice_get old place ≡ Some conn
    → new
    ≡ slice_set old place (record {
      number = conn.number;
      outbox = record conn.outbox { next = change conn.outbox.next };
      headers = conn.headers;
    })

-- ---- where a connection stands

-- it stands there
abbrev pub IsSeated : Seat → List Client → Type 0
IsSeated seat clients = position (has_number seat.conn) clients ≡ Some seat.place

pub record IsSeatOf (conn : ℕ) (seat : Seat) (clients : List Client) : Type 0 where
  pub conn_is : seat.conn ≡ conn
  pub seated : IsSeated seat clients
  pub option : seat.takes_headers ≡ takes_headers conn clients

-- how many bytes an entry has, by whether it goes to a connection that takes headers
abbrev pub form_length : FormLengths → Bool → ℕ
form_length lengths true = lengths.headed
form_length lengths false = lengths.plain

-- a connection that is open stands there, with room for the form that it is due or without
pub record IsOpenSeat (seat : Seat) (conn : ℕ) (lengths : FormLengths) (room : Bool)
    (clients : List Client) : Type 0 where
  pub seat_is : IsSeatOf conn seat clients
  pub opened : is_open conn clients ≡ true
  pub fits :
      fits_len (client_at conn clients) (form_length lengths (takes_headers conn clients)) ≡ room

abbrev pub IsStanding : Standing → ℕ → FormLengths → List Client → Type 0
IsStanding Shut conn lengths clients = is_open conn clients ≡ false
IsStanding (Full seat) conn lengths clients = IsOpenSeat seat conn lengths false clients
IsStanding (Ready seat) conn lengths clients = IsOpenSeat seat conn lengths true clients

-- by whether there is room, and whether it is shut
abbrev pub standing_of : Seat → Bool → Bool → Standing
standing_of seat true shut = Ready seat
standing_of seat false true = Shut
standing_of seat false false = Full seat
