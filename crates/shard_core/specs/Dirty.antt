-- For which connections something was put.
use Rattle.std.specs.Prelude.{◌≡◌, ℕ, ◌<◌, Bool, true, false, ◌||◌, nat_eq, List, [], length, slice_index_or}
use Rattle.std.specs.List.{list_any}
use Rattle.outbox.specs.Views.{is_half_full}
use Rattle.shard_core.specs.declared.connections.Conn.{Conn}
use Rattle.shard_core.specs.Shards.{Client}

-- the connections that are told by themselves, or that it may be any; and whether they are to be
-- asked for soon
pub record Dirty : Type 0 where
  pub conns : List ℕ
  pub any : Bool
  pub urgent : Bool

abbrev pub none_dirty : Dirty
none_dirty = record { conns = []; any = false; urgent = false }

-- something was put for the connection: it is told, by itself or with all others
abbrev pub is_dirty : ℕ → Dirty → Bool
is_dirty conn dirty = dirty.any || list_any (nat_eq conn) dirty.conns

-- nobody is forgotten, and nothing becomes less urgent
pub record AreKept (old new : Dirty) : Type 0 where
  pub dirty : (conn : ℕ) → is_dirty conn old ≡ true → is_dirty conn new ≡ true
  pub urgent : old.urgent ≡ true → new.urgent ≡ true

-- half of the room for what waits for the connection is used, or it is shut
abbrev pub is_client_half_full : Client → Bool
is_client_half_full client = is_half_full client.max_entries client.max_bytes client.outbox

-- Each connection for which another thing waits than before is told; and where half of its room is
-- used, all are to be asked for soon.
pub record AreTold (old new : List Client) (before after : Dirty) : Type 0 where
  pub dirty : (i : ℕ) (d : Client)
      → i < length new
      → is_dirty (slice_index_or new i d).number after ≡ false
      → slice_index_or new i d ≡ slice_index_or old i d
  pub urgent : (i : ℕ) (d : Client)
      → i < length new
      → is_client_half_full (slice_index_or new i d) ≡ true
      → after.urgent ≡ false
      → slice_index_or new i d ≡ slice_index_or old i d
  pub kept : AreKept before after

-- ---- as the code notes them

-- the connection is told, and all are to be asked for soon where half of its room is used
pub record IsTold (conn : Conn) (dirty : Dirty) : Type 0 where
  pub noted : is_dirty conn.number dirty ≡ true
  pub urgent : is_half_full conn.outbox.max_entries conn.outbox.max_bytes conn.outbox.next ≡ true
      → dirty.urgent ≡ true

abbrev pub IsToldAt : ℕ → List Conn → Dirty → Type 0
IsToldAt place conns dirty =
    (d : Conn) → place < length conns → IsTold (slice_index_or conns place d) dirty

-- those at the places are told, but for those at the places that are left
abbrev pub AreToldBut : List ℕ → List ℕ → List Conn → Dirty → Type 0
AreToldBut left places conns dirty =
    (i : ℕ)
    → list_any (nat_eq i) places ≡ true
    → list_any (nat_eq i) left ≡ false
    → IsToldAt i conns dirty
