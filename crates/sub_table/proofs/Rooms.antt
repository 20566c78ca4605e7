-- Room for the messages of a list of subscriptions, taken up one by one.
use Rattle.std.proofs.Common.{◌≡◌, ℕ, suc, ◌+◌, ◌-◌, ◌<◌, ◌≤◌, Bool, true, false, cond, ◌&&◌, nat_le, List, [], ◌∷◌, length, drop, get_or, Option, Some, None, refl, sym, ap, ◌∙◌, arith}
use Rattle.std.specs.Prelude.{sum_by}
use Rattle.std.proofs.lemmas.Bool.Decides.{nat_tests}
use Rattle.std.proofs.lemmas.List.{at_drop_more, at_drop_all}
use Rattle.std.proofs.lemmas.List.Sums.{sum_by-cons}
use Rattle.sub_table.specs.declared.Room.{Room}
use Rattle.sub_table.specs.declared.Subscription.{Subscription}
use Rattle.sub_table.specs.Subscriptions.{is_of, gets, matching_of, length_for, is_room, room_behind, room_left}

abbrev pub is_left : ℕ → List Subscription → Option Room → Bool
is_left len subs None = false
is_left len subs (Some left) = is_room len left subs

-- there is room for one more and the others just where there is room for it, and behind it for the others
room_more : (k s n e b : ℕ)
    → (nat_le (suc k) e && nat_le (n + s) b)
    ≡ cond (nat_le 1 e && nat_le n b) (nat_le k (e - 1) && nat_le s (b - n)) false
room_more k s n e b = grind (arith, nat_tests)

room_cons : (len : ℕ) (room : Room) (sub : Subscription) (subs : List Subscription)
    → is_room len room (sub ∷ subs) ≡ is_left len subs (room_behind (length_for len sub) room)
room_cons len room sub subs =
    ap (λ t. nat_le (suc (length subs)) room.entries && nat_le t room.bytes) (sum_by-cons (length_for len) sub subs)
    ∙ room_more (length subs) (sum_by (length_for len) subs) (length_for len sub) room.entries room.bytes
    ∙ by (nat_le 1 room.entries && nat_le (length_for len sub) room.bytes)
  where
    by : (b : Bool)
        → cond b
        (nat_le (length subs) (room.entries - 1)
        && nat_le (sum_by (length_for len) subs) (room.bytes - length_for len sub))
        false
        ≡ is_left len subs
        (cond b (Some (record { entries = room.entries - 1; bytes = room.bytes - length_for len sub })) None)
    by true = refl
    by false = refl

-- one subscription, and those behind it
pub room_next : (conn : ℕ) (subject : List ℕ) (len : ℕ) (room : Room) (sub : Subscription) (subs : List Subscription)
    → is_room len room (matching_of conn subject (sub ∷ subs))
    ≡ is_left len (matching_of conn subject subs) (room_left conn subject len sub room)
room_next conn subject len room sub subs = by (is_of conn sub && gets subject sub)
  where
    by : (b : Bool)
        → is_room len room (cond b (sub ∷ matching_of conn subject subs) (matching_of conn subject subs))
        ≡ is_left len (matching_of conn subject subs) (cond b (room_behind (length_for len sub) room) (Some room))
    by true = room_cons len room sub (matching_of conn subject subs)
    by false = refl

room_at : (conn : ℕ) (subject : List ℕ) (len : ℕ) (room : Room) (subs : List Subscription) (i : ℕ) (sub : Subscription)
    → i < length subs
    → sub ≡ get_or subs i sub
    → is_room len room (matching_of conn subject (drop i subs))
    ≡ is_left len (matching_of conn subject (drop (i + 1) subs)) (room_left conn subject len sub room)
room_at conn subject len room subs i sub lt is =
    at_drop_more (λ l. is_room len room (matching_of conn subject l)) subs i sub lt
    ∙ room_next conn subject len room (get_or subs i sub) (drop (i + 1) subs)
    ∙ ap (λ x. is_left len (matching_of conn subject (drop (i + 1) subs)) (room_left conn subject len x room)) (sym is)

-- there is room for one, and what is left decides
pub room_on : (conn : ℕ) (subject : List ℕ) (len : ℕ) (room left : Room) (whole : Bool) (subs : List Subscription)
    (i : ℕ) (sub : Subscription)
    → i < length subs
    → sub ≡ get_or subs i sub
    → room_left conn subject len sub room ≡ Some left
    → whole ≡ is_room len room (matching_of conn subject (drop i subs))
    → whole ≡ is_room len left (matching_of conn subject (drop (i + 1) subs))
room_on conn subject len room left whole subs i sub lt is some so =
    so
    ∙ room_at conn subject len room subs i sub lt is
    ∙ ap (is_left len (matching_of conn subject (drop (i + 1) subs))) some

-- there is none
pub room_not : (conn : ℕ) (subject : List ℕ) (len : ℕ) (room : Room) (whole : Bool) (subs : List Subscription) (i : ℕ)
    (sub : Subscription)
    → i < length subs
    → sub ≡ get_or subs i sub
    → room_left conn subject len sub room ≡ None
    → whole ≡ is_room len room (matching_of conn subject (drop i subs))
    → false ≡ whole
room_not conn subject len room whole subs i sub lt is none so =
    sym (so ∙ room_at conn subject len room subs i sub lt is
    ∙ ap (is_left len (matching_of conn subject (drop (i + 1) subs))) none)

-- there was room for all
pub room_all : (conn : ℕ) (subject : List ℕ) (len : ℕ) (room : Room) (whole : Bool) (subs : List Subscription) (i : ℕ)
    → length subs ≤ i
    → whole ≡ is_room len room (matching_of conn subject (drop i subs))
    → true ≡ whole
room_all conn subject len room whole subs i past so =
    sym (so ∙ at_drop_all (λ l. is_room len room (matching_of conn subject l)) subs i past ∙ none)
  where
    none : is_room len room [] ≡ true
    none = grind (arith, nat_tests)
