-- What is taken of a shard for its clients, and sent to them.
use Rattle.std.specs.Prelude.{◌≡◌, ◌⊎◌, ℕ, zero, suc, ◌-◌, ◌^◌, ◌≤◌, true, false, nat_eq, if◌then◌else◌, List, [], ◌∷◌, ◌++◌, map, length, slice_range, Option, Some, None, MatchOption, Result, Ok, Err, IfOk}
use Rattle.std.specs.List.{range_with_len}
use Rattle.std.specs.declared.alloc.AllocError.{AllocError}
use Rattle.slab.specs.Slab.{Slab, get}
use Rattle.net_streams.specs.Writes.{Came}
use Rattle.node_net.specs.Keyed.{ChangesAt, Behind, EachStays}
use Rattle.node_net.specs.Sending.{SendsTaken, KeepsStream, Rests, IsNoted}
use Rattle.node_net.specs.declared.connection.Connection.{Connection}
use Rattle.node_net.specs.declared.connections.Connections.{Connections}
use Rattle.node_net.specs.declared.flushing.Awaited.{Awaited}
use Rattle.node_net.specs.declared.flushing.Awaited.TheVariants as awaited
use Rattle.node_net.specs.declared.connection.Link.{Link}
use Rattle.node_net.specs.declared.connection.Link.TheVariants as link
use Rattle.node_net.specs.declared.taken.Taken.{Taken}

-- ---- parts

-- what stands behind the others, where there was no memory to put it among them
abbrev pub last_part : Option ℕ → List ℕ → List (ℕ × List ℕ)
last_part None bytes = []
last_part (Some key) bytes = (key, bytes) ∷ []

-- all that was taken, in order: each time the key of a connection, and the bytes that are for it
abbrev pub all_parts : Taken → List (ℕ × List ℕ)
all_parts taken = taken.parts ++ last_part taken.last taken.lent.items

-- ---- which connections are looked at

-- the keys of connections for which something may wait, in order
abbrev pub keys_of : Awaited → List ℕ
keys_of (awaited.All count) = range_with_len 0 count
keys_of (awaited.These keys) = keys.now

-- ---- what a shard gives

-- the client at the other end, where it is of this shard
abbrev pub client_in : ℕ → Link → Option ℕ
client_in shard (link.Client client) =
    if nat_eq client.shard shard then Some client.calls.id else None
client_in shard (link.Route route) = None

-- This client is at the other end, and is of this shard. All that was sent to it before is written,
-- and its stream has not failed.
abbrev pub IsAsked : {S : Type 0} → ℕ → Connection S → ℕ → Type 0
IsAsked shard c conn =
    (client_in shard c.link ≡ Some conn) × (c.out ≡ []) × (c.wire.has_failed ≡ false)

-- No client of this shard is, or something that was sent to it before waits still, or its stream
-- has failed.
abbrev pub IsLeft : {S : Type 0} → ℕ → Connection S → Type 0
IsLeft shard c =
    (client_in shard c.link ≡ None) ⊎ ((¬ (c.out ≡ [])) ⊎ (c.wire.has_failed ≡ true))

-- A shard is asked for all that waits for the client of a connection, and gives these bytes; or it
-- is not to be asked for it, and there are none.
abbrev pub Gives : {H S : Type 0} → (H → ℕ → ℕ → List ℕ → H → Type 0) → (H → ℕ) → Connection S → H
    → List ℕ → H → Type 0
Gives takes number c before bytes after =
    ((conn : ℕ) × IsAsked (number before) c conn × takes before conn (2 ^ 64 - 1) bytes after)
    ⊎ (IsLeft (number before) c × (bytes ≡ []) × (after ≡ before))

-- So it is for the connection at this key, where there is one.
abbrev pub GivesAt : {H S : Type 0} → (H → ℕ → ℕ → List ℕ → H → Type 0) → (H → ℕ)
    → Slab (Connection S) → ℕ → H → List ℕ → H → Type 0
GivesAt takes number table key before bytes after =
    MatchOption (get table key) ((bytes ≡ []) × (after ≡ before))
    (λ connection. Gives takes number connection before bytes after)

-- What is given stands behind what stood there.
abbrev pub Lends : {H S : Type 0} → (H → ℕ → ℕ → List ℕ → H → Type 0) → (H → ℕ) → Connection S
    → List ℕ → H → List ℕ → H → Type 0
Lends takes number c had before has after =
    (bytes : List ℕ) × (has ≡ had ++ bytes) × Gives takes number c before bytes after

abbrev pub LendsAt : {H S : Type 0} → (H → ℕ → ℕ → List ℕ → H → Type 0) → (H → ℕ)
    → Slab (Connection S) → ℕ → List ℕ → H → List ℕ → H → Type 0
LendsAt takes number table key had before has after =
    (bytes : List ℕ) × (has ≡ had ++ bytes) × GivesAt takes number table key before bytes after

-- So it is for the connections at these keys, one after the other.
abbrev pub GivesEach : {H S : Type 0} → (H → ℕ → ℕ → List ℕ → H → Type 0) → (H → ℕ)
    → Slab (Connection S) → H → List (ℕ × List ℕ) → H → Type 0
GivesEach takes number table before [] after = after ≡ before
GivesEach {H} takes number table before (given ∷ more) after =
    (next : H)
    × GivesAt takes number table given.0 before given.1 next
    × GivesEach takes number table next more after

-- What was given is there part by part, in order. A part without bytes may be left out.
abbrev pub ArePartsOf : List (ℕ × List ℕ) → List (ℕ × List ℕ) → Type 0
ArePartsOf [] parts = parts ≡ []
ArePartsOf (given ∷ more) parts =
    ((rest : List (ℕ × List ℕ)) × (parts ≡ given ∷ rest) × ArePartsOf more rest)
    ⊎ ((given.1 ≡ []) × ArePartsOf more parts)

-- What was given for the connection at this key stands behind the others. Where it is nothing it
-- may be left out.
abbrev pub PutsPart : List (ℕ × List ℕ) → ℕ → List ℕ → List (ℕ × List ℕ) → Type 0
PutsPart had key bytes has = (has ≡ had ++ (key, bytes) ∷ []) ⊎ ((bytes ≡ []) × (has ≡ had))

-- What waits for the connection at this key is taken of a shard. Nothing is sent meanwhile.
pub record TakesOne {H S : Type 0} (takes : H → ℕ → ℕ → List ℕ → H → Type 0) (number : H → ℕ)
    (key : ℕ) (old : Slab (Connection S)) (before : H) (had : List (ℕ × List ℕ))
    (new : Slab (Connection S)) (after : H) (has : List (ℕ × List ℕ)) : Type 0 where
  pub bytes : List ℕ
  pub gives : GivesAt takes number old key before bytes after
  pub puts : PutsPart had key bytes has
  pub kept : EachStays KeepsStream old new

-- What waits for the connections at these keys is taken, for one after the other, and these parts
-- stand behind those that were taken before.
pub record TakesSome {H S : Type 0} (takes : H → ℕ → ℕ → List ℕ → H → Type 0) (number : H → ℕ)
    (keys : List ℕ) (old : Slab (Connection S)) (before : H) (had : List (ℕ × List ℕ))
    (new : Slab (Connection S)) (after : H) (has : List (ℕ × List ℕ)) : Type 0 where
  pub given : List (ℕ × List ℕ)
  pub parts : List (ℕ × List ℕ)
  pub these : map (λ (one : ℕ × List ℕ). one.0) given ≡ keys
  pub gives : GivesEach takes number old before given after
  pub are : ArePartsOf given parts
  pub put : has ≡ had ++ parts
  pub kept : EachStays KeepsStream old new

-- What waits for the connections at those of these keys that stand between two places is taken. The
-- first place is this one, and the other is where it is gone on with, unless there was no memory.
pub record TakesOn {H S : Type 0} (takes : H → ℕ → ℕ → List ℕ → H → Type 0) (number : H → ℕ)
    (keys : List ℕ) (place : ℕ) (came : Result ℕ AllocError) (old : Slab (Connection S))
    (before : H) (had : List (ℕ × List ℕ)) (new : Slab (Connection S)) (after : H)
    (has : List (ℕ × List ℕ)) : Type 0 where
  pub stop : ℕ
  pub some : TakesSome takes number (slice_range keys place stop) old before had new after has
  pub ends : IfOk came (λ next. next ≡ stop)

-- That is done while the shard of this number is held.
pub record TakesAtShard {H S : Type 0} (takes : H → ℕ → ℕ → List ℕ → H → Type 0) (number : H → ℕ)
    (shard : ℕ) (keys : List ℕ) (place : ℕ) (came : Result ℕ AllocError)
    (old : Slab (Connection S)) (parts : List (ℕ × List ℕ)) (new : Slab (Connection S)) : Type 0
  where
    pub before : H
    pub after : H
    pub is : number before ≡ shard
    pub on : TakesOn takes number keys place came old before [] new after parts

-- So it is, unless there is no such shard, of which nothing waits for any.
abbrev pub TakesParts : {H S : Type 0} → (H → ℕ → ℕ → List ℕ → H → Type 0) → (H → ℕ)
    → (ℕ → Type 0) → ℕ → List ℕ → ℕ → Result ℕ AllocError → Slab (Connection S)
    → List (ℕ × List ℕ) → Slab (Connection S) → Type 0
TakesParts takes number lacks shard keys place came old parts new =
    TakesAtShard takes number shard keys place came old parts new
    ⊎ (lacks shard × (parts ≡ []) × (new ≡ old) × (came ≡ Ok (length keys)))

-- ---- what is sent

-- The bytes of a part are sent to its connection, of which is noted then what follows.
abbrev pub SendsPart : {S : Type 0} → (S → Came → S → Type 0) → (S → Came → S → Type 0) → List ℕ
    → Connection S → Connection S → Type 0
SendsPart gave wrote bytes = Behind (Behind (SendsTaken gave wrote bytes) Rests) IsNoted

-- The bytes of each part are sent to the connection at its key, in order, and no connection is sent
-- anything else.
abbrev pub SendsEach : {S : Type 0} → (S → Came → S → Type 0) → (S → Came → S → Type 0)
    → Slab (Connection S) → List (ℕ × List ℕ) → Slab (Connection S) → Type 0
SendsEach gave wrote old [] new = new ≡ old
SendsEach {S} gave wrote old (part ∷ parts) new =
    (mid : Slab (Connection S))
    × ChangesAt (SendsPart gave wrote part.1) part.0 old mid
    × SendsEach gave wrote mid parts new

-- It is noted that there was no memory for something, and that something may wait for any client.
abbrev pub IsPutOff : {S : Type 0} → Connections S → Type 0
IsPutOff connections = (connections.is_short ≡ true) × (connections.awaits_any ≡ true)

-- It is gone on with at this place, of so many; where there was no memory none is left now, and all
-- are looked at again later.
abbrev pub GoesOnAt : {S : Type 0} → ℕ → Result ℕ AllocError → ℕ → Connections S → Type 0
GoesOnAt count (Ok next) place connections = place ≡ next
GoesOnAt count (Err lack) place connections = (place ≡ count) × IsPutOff connections

-- Under one hold of the shard of this number parts are taken for the connections at some of these
-- keys, from the first place on, and behind it just these parts are sent. The second place is where
-- it is gone on with.
pub record FlushesSome {H S : Type 0} (takes : H → ℕ → ℕ → List ℕ → H → Type 0) (number : H → ℕ)
    (lacks : ℕ → Type 0) (gave wrote : S → Came → S → Type 0) (shard : ℕ) (keys : List ℕ)
    (place next : ℕ) (old new : Connections S) : Type 0 where
  pub came : Result ℕ AllocError
  pub parts : List (ℕ × List ℕ)
  pub mid : Slab (Connection S)
  pub taken : TakesParts takes number lacks shard keys place came old.table parts mid
  pub sent : SendsEach gave wrote mid parts new.table
  pub goes_on : GoesOnAt (length keys) came next new

-- That is done so many times in a row, each time from the place on to which the time before has
-- come.
abbrev pub FlushesMany : {H S : Type 0} → (H → ℕ → ℕ → List ℕ → H → Type 0) → (H → ℕ)
    → (ℕ → Type 0) → (S → Came → S → Type 0) → (S → Came → S → Type 0) → ℕ → List ℕ
    → Connections S → ℕ → ℕ → Connections S → Type 0
FlushesMany takes number lacks gave wrote shard keys old zero until new =
    (until ≡ 0) × (new ≡ old)
FlushesMany {H} {S} takes number lacks gave wrote shard keys old (suc rounds) until new =
    (mid : Connections S)
    × (place : ℕ)
    × FlushesMany takes number lacks gave wrote shard keys old rounds place mid
    × FlushesSome takes number lacks gave wrote shard keys place until mid new

-- That is done from the first of these keys on, until none is left, or 2^64 - 1 times.
pub record FlushesAll {H S : Type 0} (takes : H → ℕ → ℕ → List ℕ → H → Type 0) (number : H → ℕ)
    (lacks : ℕ → Type 0) (gave wrote : S → Came → S → Type 0) (shard : ℕ) (keys : List ℕ)
    (old new : Connections S) : Type 0 where
  pub rounds : ℕ
  pub until : ℕ
  pub many : FlushesMany takes number lacks gave wrote shard keys old rounds until new
  pub ends : (length keys ≤ until) ⊎ (rounds ≡ 2 ^ 64 - 1)
