-- Room for a message to the subscriptions of a connection, which are found by its serials.
use Rattle.std.proofs.Common.{◌≡◌, ℕ, ◌+◌, ◌<◌, Bool, true, false, cond, ◌&&◌, List, [], ◌∷◌, ◌++◌, length, drop, get_or, Some, None, refl, sym, ap, ◌∙◌}
use Rattle.std.specs.Prelude.{filter, find}
use Rattle.std.specs.Option.{option_to_list}
use Rattle.std.proofs.lemmas.List.{at_drop_more}
use Rattle.sub_table.specs.declared.Room.{Room}
use Rattle.sub_table.specs.declared.Subscription.{Subscription}
use Rattle.sub_table.specs.Subscriptions.{is_of, gets, has_serial, matching_of, serials_of, is_room, room_left}
use Rattle.sub_table.proofs.Rooms.{is_left, room_next}
use Rattle.sub_trie.specs.Recalls.{subs_of_serials}
use Rattle.sub_trie.specs.Rising.{is_rising}
use Rattle.sub_trie.proofs.Orders.{looked_all}

-- of those of a connection, the ones that it has and that get the subject
matching_twice : (conn : ℕ) (subject : List ℕ) (subs : List Subscription)
    → matching_of conn subject (filter (is_of conn) subs) ≡ matching_of conn subject subs
matching_twice conn subject [] = refl
matching_twice conn subject (sub ∷ subs) = by (is_of conn sub) refl (matching_twice conn subject subs)
  where
    by : (b : Bool)
        → is_of conn sub ≡ b
        → matching_of conn subject (filter (is_of conn) subs) ≡ matching_of conn subject subs
        → matching_of conn subject (cond b (sub ∷ filter (is_of conn) subs) (filter (is_of conn) subs))
        ≡ matching_of conn subject (sub ∷ subs)
    by true is rest = ap (λ l. cond (is_of conn sub && gets subject sub) (sub ∷ l) l) rest
    by false is rest =
        rest
        ∙ sym (ap
        (λ b. cond (b && gets subject sub) (sub ∷ matching_of conn subject subs) (matching_of conn subject subs)) is)

pub matching_owned : (conn : ℕ) (subject : List ℕ) (subs : List Subscription)
    → is_rising subs ≡ true
    → matching_of conn subject (subs_of_serials subs (serials_of conn subs)) ≡ matching_of conn subject subs
matching_owned conn subject subs rising =
    ap (matching_of conn subject) (looked_all (is_of conn) subs rising) ∙ matching_twice conn subject subs

-- one serial, and those behind it
module _ (conn : ℕ) (subject : List ℕ) (len : ℕ) (room : Room) (subs : List Subscription) (ns : List ℕ) (i : ℕ)
    (lt : i < length ns) where
  pub room_none : find (has_serial (get_or ns i 0)) subs ≡ None
      → is_room len room (matching_of conn subject (subs_of_serials subs (drop i ns)))
      ≡ is_room len room (matching_of conn subject (subs_of_serials subs (drop (i + 1) ns)))
  room_none found =
      at_drop_more (λ l. is_room len room (matching_of conn subject (subs_of_serials subs l))) ns i 0 lt
      ∙ ap
      (λ o. is_room len room (matching_of conn subject (option_to_list o ++ subs_of_serials subs (drop (i + 1) ns))))
      found

  pub room_some : (sub : Subscription)
      → find (has_serial (get_or ns i 0)) subs ≡ Some sub
      → is_room len room (matching_of conn subject (subs_of_serials subs (drop i ns)))
      ≡ is_left len (matching_of conn subject (subs_of_serials subs (drop (i + 1) ns)))
      (room_left conn subject len sub room)
  room_some sub found =
      at_drop_more (λ l. is_room len room (matching_of conn subject (subs_of_serials subs l))) ns i 0 lt
      ∙ ap
      (λ o. is_room len room (matching_of conn subject (option_to_list o ++ subs_of_serials subs (drop (i + 1) ns))))
      found
      ∙ room_next conn subject len room sub (subs_of_serials subs (drop (i + 1) ns))
