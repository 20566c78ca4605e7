-- Lists of open subscriptions.
use Rattle.std.specs.Prelude.{ℕ, ◌+◌, ◌-◌, ◌<◌, ◌^◌, IfSome, Bool, not, ◌&&◌, nat_eq, nat_le, List, [], ◌∷◌, length, map, filter, sum_by, Option, Some, None, if◌then◌else◌}
use Rattle.std.specs.Option.{option_map}
use Rattle.std.specs.List.{find}
use Rattle.std.specs.Str.{bytes_eq}
use Rattle.subj.specs.Keys.{cost_of}
use Rattle.subj.specs.Matching.{subject_matches}
use Rattle.sub_table.specs.declared.Room.{Room}
use Rattle.sub_table.specs.declared.Subscription.{Subscription}

-- NATS documentation, "Client Protocol": a subscription gets what its pattern matches
abbrev pub gets : List ℕ → Subscription → Bool
gets subject sub = subject_matches sub.key.pattern subject

abbrev pub is_of : ℕ → Subscription → Bool
is_of conn sub = nat_eq sub.conn conn

abbrev pub is_of_another : ℕ → Subscription → Bool
is_of_another conn sub = not (is_of conn sub)

abbrev pub has_serial : ℕ → Subscription → Bool
has_serial serial sub = nat_eq sub.serial serial

-- what the connection calls by this id
abbrev pub is_called : ℕ → List ℕ → Subscription → Bool
is_called conn sid sub = is_of conn sub && bytes_eq sub.sid sid

abbrev pub serial_of : Subscription → ℕ
serial_of sub = sub.serial

-- the serial of what the connection calls by this id
abbrev pub serial_called : ℕ → List ℕ → List Subscription → Option ℕ
serial_called conn sid subs = option_map serial_of (find (is_called conn sid) subs)

abbrev pub serials_of : ℕ → List Subscription → List ℕ
serials_of conn subs = map serial_of (filter (is_of conn) subs)

-- the list without the one of this serial
abbrev pub without_serial : ℕ → List Subscription → List Subscription
without_serial serial [] = []
without_serial serial (sub ∷ subs) =
    if has_serial serial sub then subs else sub ∷ without_serial serial subs

-- the list with a change to the one of this serial
abbrev pub with_changed : ℕ → (Subscription → Subscription) → List Subscription → List Subscription
with_changed serial change [] = []
with_changed serial change (sub ∷ subs) =
    if has_serial serial sub then change sub ∷ subs else sub ∷ with_changed serial change subs

-- so many messages more can be counted for the one of this serial
abbrev pub CountsFit : ℕ → ℕ → List Subscription → Type 0
CountsFit serial count subs =
    IfSome (find (has_serial serial) subs) (λ sub. sub.delivered + count < 2 ^ 64)

-- and are
abbrev pub with_more : ℕ → ℕ → List Subscription → List Subscription
with_more serial count subs =
    with_changed serial (λ sub. record sub { delivered = sub.delivered + count }) subs

-- one more
abbrev pub CountFits : ℕ → List Subscription → Type 0
CountFits serial subs = CountsFit serial 1 subs

abbrev pub with_one_more : ℕ → List Subscription → List Subscription
with_one_more serial subs = with_more serial 1 subs

abbrev pub with_max : ℕ → Option ℕ → List Subscription → List Subscription
with_max serial max subs = with_changed serial (λ sub. record sub { max = max }) subs

-- profile: a subscription counts what its key does
abbrev pub total_cost : List Subscription → ℕ
total_cost subs = sum_by (λ sub. cost_of sub.key) subs

-- ---- room for a message

-- those of a connection that get the subject
abbrev pub matching_of : ℕ → List ℕ → List Subscription → List Subscription
matching_of conn subject subs = filter (λ sub. is_of conn sub && gets subject sub) subs

-- the bytes of a message for the subscription that has so many beside the id
abbrev pub length_for : ℕ → Subscription → ℕ
length_for len sub = len + length sub.sid

-- there is room for one such message for each of these
abbrev pub is_room : ℕ → Room → List Subscription → Bool
is_room len room subs =
    nat_le (length subs) room.entries && nat_le (sum_by (length_for len) subs) room.bytes

-- what is left of room behind an entry of so many bytes
abbrev pub room_behind : ℕ → Room → Option Room
room_behind len room =
    if nat_le 1 room.entries && nat_le len room.bytes
    then Some (record { entries = room.entries - 1; bytes = room.bytes - len })
    else None

-- and behind the message for a subscription, if it is one of these
abbrev pub room_left : ℕ → List ℕ → ℕ → Subscription → Room → Option Room
room_left conn subject len sub room =
    if is_of conn sub && gets subject sub then room_behind (length_for len sub) room else Some room
