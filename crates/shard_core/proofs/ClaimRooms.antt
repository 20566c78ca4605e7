-- Room for a run of claims.
use Rattle.std.proofs.Common.{◌≡◌, ℕ, suc, ◌+◌, ◌*◌, ◌≤◌, Bool, true, false, List, [], ◌∷◌, length, Option, Some, None, refl, sym, ap, ◌∙◌, subst, arith, length-append, suc-mul}
use Rattle.std.specs.Prelude.{nat_eq, nat_lt, nat_le, not, ◌&&◌, option_map}
use Rattle.std.proofs.lemmas.Bool.{lt-ltb, le-leb}
use Rattle.list_laws.proofs.Tests.{eq_true, eq_false}
use Rattle.outbox.specs.Views.{Written, with_entry, size_of}
use Rattle.shard_core.specs.ClaimRuns.{HasRoomAt, RoomGoesOn}
use Rattle.shard_core.specs.Shards.{Client, client_at, with_outbox, clients_with_change, fits}
use Rattle.shard_core.proofs.Clients.Outboxes.{changed_here, changed_there}
use Rattle.shard_core.proofs.RunEntries.{size_append, size_cons}

one_more : (count len : ℕ) → (count + 1) * len ≡ count * len + len
one_more count len = ap (λ n. n * len) {x = count + 1} {y = suc count} (omega arith) ∙ suc-mul count len

entry_fits : (count len : ℕ) (entry : Written) (o : Option Client)
    → length entry.bytes ≤ len → HasRoomAt (count + 1) len o → fits o entry ≡ true
entry_fits count len entry None small room = absurd room
entry_fits count len entry (Some c) small room =
    let few = room.few in
    let most = room.small in
    let shut = room.not_shut in
    let bytes = size_of c.outbox.entries + length entry.bytes in
    let lt : nat_lt (length c.outbox.entries) c.max_entries ≡ true =
    lt-ltb (length c.outbox.entries) c.max_entries (omega (arith, few)) in
    let le : nat_le bytes c.max_bytes ≡ true =
    le-leb bytes c.max_bytes (let z : ℕ = count * len in let e = one_more count len in omega (arith, most, small, e)) in
    λ i. not (shut i) && (lt i && le i)

pub with_less : (count len : ℕ) (o : Option Client) → HasRoomAt (count + 1) len o → HasRoomAt count len o
with_less count len None room = room
with_less count len (Some c) room =
    let few = room.few in
    let most = room.small in
    record {
      not_shut = room.not_shut;
      few = omega (arith, few);
      small = let e = one_more count len in omega (arith, most, e);
    }

with_one : (count len : ℕ) (entry : Written) (o : Option Client)
    → length entry.bytes ≤ len → HasRoomAt (count + 1) len o
    → HasRoomAt count len (option_map (with_outbox (with_entry entry)) o)
with_one count len entry None small room = room
with_one count len entry (Some c) small room =
    let few = room.few in
    let most = room.small in
    record {
      not_shut = room.not_shut;
      few = omega (arith, few, length-append c.outbox.entries (entry ∷ []));
      small =
          let e = one_more count len in
          let a = size_append c.outbox.entries (entry ∷ []) in
          let b = size_cons entry [] in
          omega (arith, most, small, e, a, b);
    }

pub rooms_go_on : (clients : List Client) (conn count len : ℕ) (entry : Written)
    → length entry.bytes ≤ len → HasRoomAt (count + 1) len (client_at conn clients)
    → RoomGoesOn clients conn count len entry
rooms_go_on clients conn count len entry small room = record {
  fits_one = entry_fits count len entry (client_at conn clients) small room;
  others = λ to. by to (nat_eq conn to) refl;
}
  where
    by : (to : ℕ) (b : Bool) → nat_eq conn to ≡ b
        → HasRoomAt count len (client_at conn (clients_with_change (with_entry entry) to clients))
    by to true e =
        subst (λ (n : ℕ). HasRoomAt count len (client_at conn (clients_with_change (with_entry entry) n clients)))
        (eq_true conn to e)
        (subst (HasRoomAt count len) (sym (changed_here (with_entry entry) conn clients))
        (with_one count len entry (client_at conn clients) small room))
    by to false e =
        subst (HasRoomAt count len) (sym (changed_there (with_entry entry) conn to clients (eq_false conn to e)))
        (with_less count len (client_at conn clients) room)
