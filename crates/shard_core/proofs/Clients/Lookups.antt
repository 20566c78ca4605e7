-- A connection of the code, looked up and changed in a list of clients.
use Rattle.std.proofs.Common.{◌≡◌, ℕ, suc, ◌+◌, ◌<◌, ◌≤◌, ◌==◌, Bool, true, false, true≢false, not, ◌&&◌, nat_le, cond, List, [], ◌∷◌, length, map, filter, get_or, Some, None, refl, sym, ap, subst, ◌∙◌, arith}
use Rattle.std.proofs.Math.Seq.{map-set_same}
use Rattle.std.specs.Prelude.{position, slice_set, slice_index_or, nat_lt}
use Rattle.std.specs.List.{position_or_len}
use Rattle.std.proofs.lemmas.Bool.Decides.{nat_tests}
use Rattle.std.proofs.lemmas.List.{length-map}
use Rattle.outbox.specs.Views.{Waiting, Backlog, Written, has_room, size_of}
use Rattle.shard_core.specs.declared.connections.Conn.{Conn}
use Rattle.shard_core.specs.Shards.{Client, client_at, clients_with_change, clients_with_headers, has_number, with_outbox, with_headers, option_of, without_client, fits, fits_len, is_open, room_of, takes_events, entries_of, waits_for}
use Rattle.shard_core.specs.declared.standings.Seat.{Seat}
use Rattle.shard_core.specs.declared.standings.Standing.{Standing}
use Rattle.shard_core.specs.declared.standings.FormLengths.{FormLengths}
use Rattle.shard_core.specs.Boxes.{IsSeated, IsSeatOf, IsStanding, form_length, client_in_view, shown_backlog, next_backlog, number_of, standing_of}

-- an outbox that changes leaves the numbers
pub numbers_stay : (conns : List Conn) (i : ℕ) (r : Conn) (box : Waiting)
    → map number_of (slice_set conns i
    (record { number = (slice_index_or conns i r).number; outbox = box; headers = (slice_index_or conns i r).headers }))
    ≡ map number_of conns
numbers_stay conns i r box =
    map-set_same number_of conns i
    (record { number = (slice_index_or conns i r).number; outbox = box; headers = (slice_index_or conns i r).headers })
    r refl

abbrev has_conn : ℕ → Conn → Bool
has_conn n conn = conn.number == n

-- ---- the place

past : (a b : ℕ) → cond (nat_lt a b) (Some a) None ≡ None → b ≤ a
past a b e = grind (arith, nat_tests)

within : (a b i : ℕ) → cond (nat_lt a b) (Some a) None ≡ Some i → (a < b) × (a ≡ i)
within a b i e = grind (arith, nat_tests)

pub place_within : (n : ℕ) (conns : List Conn) (i : ℕ)
    → position (λ (x : Conn). x.number == n) conns ≡ Some i
    → i < length conns
place_within n conns i at =
    let is = within (position_or_len (has_conn n) conns) (length conns) i at in
    subst (λ k. k < length conns) is.1 is.0

-- the place behind the first element
get_next : {A : Type 0} (x : A) (xs : List A) (k : ℕ) (d : A) → get_or (x ∷ xs) (1 + k) d ≡ get_or xs k d
get_next x xs k d = let e : 1 + k ≡ suc k = omega arith in ap (λ n. get_or (x ∷ xs) n d) e

set_next : {A : Type 0} (x : A) (xs : List A) (k : ℕ) (y : A) → slice_set (x ∷ xs) (1 + k) y ≡ x ∷ slice_set xs k y
set_next x xs k y = let e : 1 + k ≡ suc k = omega arith in ap (λ n. slice_set (x ∷ xs) n y) e

module _ (backlog : Waiting → Backlog) (n : ℕ) where
  none_past : (conns : List Conn)
      → length conns ≤ position_or_len (has_conn n) conns
      → client_at n (map (client_in_view backlog) conns) ≡ None
  none_past [] over = refl
  none_past (c ∷ cs) over =
      elim (c.number == n) as (λ b.
      length (c ∷ cs) ≤ cond (not b) (1 + position_or_len (has_conn n) cs) 0
      → cond b (Some (client_in_view backlog c)) (client_at n (map (client_in_view backlog) cs)) ≡ None) [
        | true ↦ λ le. absurd (omega arith)
        | false ↦ λ le. none_past cs (omega arith)
      ] over

  same_past : (change : Backlog → Backlog) (conns : List Conn)
      → length conns ≤ position_or_len (has_conn n) conns
      → clients_with_change change n (map (client_in_view backlog) conns) ≡ map (client_in_view backlog) conns
  same_past change [] over = refl
  same_past change (c ∷ cs) over =
      elim (c.number == n) as (λ b.
      length (c ∷ cs) ≤ cond (not b) (1 + position_or_len (has_conn n) cs) 0
      → cond b (with_outbox change (client_in_view backlog c) ∷ map (client_in_view backlog) cs)
      (client_in_view backlog c ∷ clients_with_change change n (map (client_in_view backlog) cs))
      ≡ client_in_view backlog c ∷ map (client_in_view backlog) cs) [
        | true ↦ λ le. absurd (omega arith)
        | false ↦ λ le. ap (λ l. client_in_view backlog c ∷ l) (same_past change cs (omega arith))
      ] over

  some_there : (conns : List Conn) (d : Conn)
      → position_or_len (has_conn n) conns < length conns
      → client_at n (map (client_in_view backlog) conns)
      ≡ Some (client_in_view backlog (get_or conns (position_or_len (has_conn n) conns) d))
  some_there [] d lt = absurd (omega arith)
  some_there (c ∷ cs) d lt =
      elim (c.number == n) as (λ b.
      cond (not b) (1 + position_or_len (has_conn n) cs) 0 < length (c ∷ cs)
      → cond b (Some (client_in_view backlog c)) (client_at n (map (client_in_view backlog) cs))
      ≡ Some (client_in_view backlog (get_or (c ∷ cs) (cond (not b) (1 + position_or_len (has_conn n) cs) 0) d))) [
        | true ↦ λ le. refl
        | false ↦ λ le.
            some_there cs d (omega arith)
            ∙ sym
            (ap (λ (x : Conn). Some (client_in_view backlog x)) (get_next c cs (position_or_len (has_conn n) cs) d))
      ] lt

  changed_there : (change : Backlog → Backlog) (conns : List Conn) (d y : Conn)
      → position_or_len (has_conn n) conns < length conns
      → client_in_view backlog y
      ≡ with_outbox change (client_in_view backlog (get_or conns (position_or_len (has_conn n) conns) d))
      → map (client_in_view backlog) (slice_set conns (position_or_len (has_conn n) conns) y)
      ≡ clients_with_change change n (map (client_in_view backlog) conns)
  changed_there change [] d y lt made = absurd (omega arith)
  changed_there change (c ∷ cs) d y lt made =
      elim (c.number == n) as (λ b.
      cond (not b) (1 + position_or_len (has_conn n) cs) 0 < length (c ∷ cs)
      → client_in_view backlog y
      ≡ with_outbox change
      (client_in_view backlog (get_or (c ∷ cs) (cond (not b) (1 + position_or_len (has_conn n) cs) 0) d))
      → map (client_in_view backlog) (slice_set (c ∷ cs) (cond (not b) (1 + position_or_len (has_conn n) cs) 0) y)
      ≡ cond b (with_outbox change (client_in_view backlog c) ∷ map (client_in_view backlog) cs)
      (client_in_view backlog c ∷ clients_with_change change n (map (client_in_view backlog) cs))) [
        | true ↦ λ le is. ap (λ v. v ∷ map (client_in_view backlog) cs) is
        | false ↦ λ le is.
            ap (map (client_in_view backlog)) (set_next c cs (position_or_len (has_conn n) cs) y)
            ∙ ap (λ l. client_in_view backlog c ∷ l)
            (changed_there change cs d y (omega arith)
            (is
            ∙ ap (λ (x : Conn). with_outbox change (client_in_view backlog x))
            (get_next c cs (position_or_len (has_conn n) cs) d)))
      ] lt made

  same_unchosen : (on : Bool) (conns : List Conn)
      → length conns ≤ position_or_len (has_conn n) conns
      → clients_with_headers on n (map (client_in_view backlog) conns) ≡ map (client_in_view backlog) conns
  same_unchosen on [] over = refl
  same_unchosen on (c ∷ cs) over =
      elim (c.number == n) as (λ b.
      length (c ∷ cs) ≤ cond (not b) (1 + position_or_len (has_conn n) cs) 0
      → cond b (with_headers on (client_in_view backlog c) ∷ map (client_in_view backlog) cs)
      (client_in_view backlog c ∷ clients_with_headers on n (map (client_in_view backlog) cs))
      ≡ client_in_view backlog c ∷ map (client_in_view backlog) cs) [
        | true ↦ λ le. absurd (omega arith)
        | false ↦ λ le. ap (λ l. client_in_view backlog c ∷ l) (same_unchosen on cs (omega arith))
      ] over

  chosen_there : (on : Bool) (conns : List Conn) (d y : Conn)
      → position_or_len (has_conn n) conns < length conns
      → client_in_view backlog y
      ≡ with_headers on (client_in_view backlog (get_or conns (position_or_len (has_conn n) conns) d))
      → map (client_in_view backlog) (slice_set conns (position_or_len (has_conn n) conns) y)
      ≡ clients_with_headers on n (map (client_in_view backlog) conns)
  chosen_there on [] d y lt made = absurd (omega arith)
  chosen_there on (c ∷ cs) d y lt made =
      elim (c.number == n) as (λ b.
      cond (not b) (1 + position_or_len (has_conn n) cs) 0 < length (c ∷ cs)
      → client_in_view backlog y
      ≡ with_headers on
      (client_in_view backlog (get_or (c ∷ cs) (cond (not b) (1 + position_or_len (has_conn n) cs) 0) d))
      → map (client_in_view backlog) (slice_set (c ∷ cs) (cond (not b) (1 + position_or_len (has_conn n) cs) 0) y)
      ≡ cond b (with_headers on (client_in_view backlog c) ∷ map (client_in_view backlog) cs)
      (client_in_view backlog c ∷ clients_with_headers on n (map (client_in_view backlog) cs))) [
        | true ↦ λ le is. ap (λ v. v ∷ map (client_in_view backlog) cs) is
        | false ↦ λ le is.
            ap (map (client_in_view backlog)) (set_next c cs (position_or_len (has_conn n) cs) y)
            ∙ ap (λ l. client_in_view backlog c ∷ l)
            (chosen_there on cs d y (omega arith)
            (is
            ∙ ap (λ (x : Conn). with_headers on (client_in_view backlog x))
            (get_next c cs (position_or_len (has_conn n) cs) d)))
      ] lt made

  -- ---- by the place that was found

  pub client_none : (conns : List Conn)
      → position (λ (x : Conn). x.number == n) conns ≡ None
      → client_at n (map (client_in_view backlog) conns) ≡ None
  client_none conns none = none_past conns (past (position_or_len (has_conn n) conns) (length conns) none)

  pub client_some : (conns : List Conn) (i : ℕ) (d : Conn)
      → position (λ (x : Conn). x.number == n) conns ≡ Some i
      → client_at n (map (client_in_view backlog) conns) ≡ Some (client_in_view backlog (slice_index_or conns i d))
  client_some conns i d at =
      let is = within (position_or_len (has_conn n) conns) (length conns) i at in
      some_there conns d is.0 ∙ ap (λ k. Some (client_in_view backlog (get_or conns k d))) is.1

  pub changed_none : (change : Backlog → Backlog) (conns : List Conn)
      → position (λ (x : Conn). x.number == n) conns ≡ None
      → clients_with_change change n (map (client_in_view backlog) conns) ≡ map (client_in_view backlog) conns
  changed_none change conns none =
      same_past change conns (past (position_or_len (has_conn n) conns) (length conns) none)

  pub changed_some : (change : Backlog → Backlog) (conns : List Conn) (i : ℕ) (d y : Conn)
      → position (λ (x : Conn). x.number == n) conns ≡ Some i
      → client_in_view backlog y ≡ with_outbox change (client_in_view backlog (slice_index_or conns i d))
      → map (client_in_view backlog) (slice_set conns i y)
      ≡ clients_with_change change n (map (client_in_view backlog) conns)
  changed_some change conns i d y at made =
      let is = within (position_or_len (has_conn n) conns) (length conns) i at in
      ap (λ k. map (client_in_view backlog) (slice_set conns k y)) (sym is.1)
      ∙ changed_there change conns d y is.0
      (made ∙ ap (λ k. with_outbox change (client_in_view backlog (get_or conns k d))) (sym is.1))

  pub chosen_none : (on : Bool) (conns : List Conn)
      → position (λ (x : Conn). x.number == n) conns ≡ None
      → clients_with_headers on n (map (client_in_view backlog) conns) ≡ map (client_in_view backlog) conns
  chosen_none on conns none = same_unchosen on conns (past (position_or_len (has_conn n) conns) (length conns) none)

  pub chosen_some : (on : Bool) (conns : List Conn) (i : ℕ) (d y : Conn)
      → position (λ (x : Conn). x.number == n) conns ≡ Some i
      → client_in_view backlog y ≡ with_headers on (client_in_view backlog (slice_index_or conns i d))
      → map (client_in_view backlog) (slice_set conns i y)
      ≡ clients_with_headers on n (map (client_in_view backlog) conns)
  chosen_some on conns i d y at made =
      let is = within (position_or_len (has_conn n) conns) (length conns) i at in
      ap (λ k. map (client_in_view backlog) (slice_set conns k y)) (sym is.1)
      ∙ chosen_there on conns d y is.0
      (made ∙ ap (λ k. with_headers on (client_in_view backlog (get_or conns k d))) (sym is.1))

  -- a connection goes
  pub detached_is : (conns : List Conn)
      → map (client_in_view backlog) (filter (λ (x : Conn). not (x.number == n)) conns)
      ≡ without_client n (map (client_in_view backlog) conns)
  detached_is [] = refl
  detached_is (c ∷ cs) =
      elim (c.number == n) as (λ b.
      map (client_in_view backlog)
      (cond (not b) (c ∷ filter (λ (x : Conn). not (x.number == n)) cs) (filter (λ (x : Conn). not (x.number == n)) cs))
      ≡ cond (not b) (client_in_view backlog c ∷ without_client n (map (client_in_view backlog) cs))
      (without_client n (map (client_in_view backlog) cs))) [
        | true ↦ detached_is cs
        | false ↦ ap (λ l. client_in_view backlog c ∷ l) (detached_is cs)
      ]

-- one of the backlogs is left as it was
pub same_seen : (backlog : Waiting → Backlog) (conns : List Conn) (i : ℕ) (d y : Conn)
    → client_in_view backlog y ≡ client_in_view backlog (slice_index_or conns i d)
    → map (client_in_view backlog) (slice_set conns i y) ≡ map (client_in_view backlog) conns
same_seen backlog conns i d y same = map-set_same (client_in_view backlog) conns i y d same

-- ---- the connection that is written to

module _ (backlog : Waiting → Backlog) (n : ℕ) (conns : List Conn) (i : ℕ) (x : Conn)
    (at : position (λ (c : Conn). c.number == n) conns ≡ Some i) (is : x ≡ slice_index_or conns i x) where
  pub client_is : client_at n (map (client_in_view backlog) conns) ≡ Some (client_in_view backlog x)
  client_is = client_some backlog n conns i x at ∙ ap (λ (y : Conn). Some (client_in_view backlog y)) (sym is)

  pub room_is : (entry : Written)
      → fits (client_at n (map (client_in_view backlog) conns)) entry
      ≡ has_room x.outbox.max_entries x.outbox.max_bytes (length entry.bytes) (backlog x.outbox)
  room_is entry = ap (λ o. fits o entry) client_is

  pub open_is : is_open n (map (client_in_view backlog) conns) ≡ not (backlog x.outbox).shut
  open_is = ap takes_events client_is

  pub waits_is : waits_for n (map (client_in_view backlog) conns) ≡ (backlog x.outbox).entries
  waits_is = ap entries_of client_is

  pub changed_is : (change : Backlog → Backlog) (box : Waiting)
      → client_in_view backlog (record { number = x.number; outbox = box; headers = x.headers })
      ≡ with_outbox change (client_in_view backlog x)
      → map (client_in_view backlog)
      (slice_set conns i (record { number = x.number; outbox = box; headers = x.headers }))
      ≡ clients_with_change change n (map (client_in_view backlog) conns)
  changed_is change box made =
      changed_some backlog n change conns i x (record { number = x.number; outbox = box; headers = x.headers }) at
      (made ∙ ap (λ (y : Conn). with_outbox change (client_in_view backlog y)) is)

  pub chosen_is : (on : Bool)
      → map (client_in_view backlog) (slice_set conns i (record { number = x.number; outbox = x.outbox; headers = on }))
      ≡ clients_with_headers on n (map (client_in_view backlog) conns)
  chosen_is on =
      chosen_some backlog n on conns i x (record { number = x.number; outbox = x.outbox; headers = on }) at
      (ap (λ (y : Conn). with_headers on (client_in_view backlog y)) is)

  pub same_is : (box : Waiting)
      → client_in_view backlog (record { number = x.number; outbox = box; headers = x.headers })
      ≡ client_in_view backlog x
      → map (client_in_view backlog)
      (slice_set conns i (record { number = x.number; outbox = box; headers = x.headers }))
      ≡ map (client_in_view backlog) conns
  same_is box same =
      same_seen backlog conns i x (record { number = x.number; outbox = box; headers = x.headers })
      (same ∙ ap (client_in_view backlog) is)

pub not_shut : (b : Bool) → not b ≡ true → b ≡ false
not_shut true e = cc
not_shut false e = refl

-- where nothing is staged, nothing is staged for it
pub settled_box : (n : ℕ) (conns : List Conn) (i : ℕ) (x : Conn)
    → position (λ (c : Conn). c.number == n) conns ≡ Some i
    → x ≡ slice_index_or conns i x
    → map (client_in_view next_backlog) conns ≡ map (client_in_view shown_backlog) conns
    → x.outbox.next ≡ x.outbox.shown
settled_box n conns i x at is settled =
    let e : Some (client_in_view next_backlog x) ≡ Some (client_in_view shown_backlog x) =
    sym (client_is next_backlog n conns i x at is)
    ∙ ap (λ (l : List Client). client_at n l) settled
    ∙ client_is shown_backlog n conns i x at is in
    let same : client_in_view next_backlog x ≡ client_in_view shown_backlog x = cc in
    ap (λ (c : Client). c.outbox) same

-- ---- the place among what is seen

place_seen : (backlog : Waiting → Backlog) (n : ℕ) (conns : List Conn)
    → position_or_len (has_number n) (map (client_in_view backlog) conns) ≡ position_or_len (has_conn n) conns
place_seen backlog n [] = refl
place_seen backlog n (c ∷ cs) = ap (λ k. cond (not (c.number == n)) (1 + k) 0) (place_seen backlog n cs)

pub same_place : (backlog : Waiting → Backlog) (n : ℕ) (conns : List Conn)
    → position (has_number n) (map (client_in_view backlog) conns) ≡ position (λ (x : Conn). x.number == n) conns
same_place backlog n conns =
    let place = place_seen backlog n conns in
    let many = length-map conns (client_in_view backlog) in
    λ k. cond (nat_lt (place k) (many k)) (Some (place k)) None

-- ---- how a connection stands

pub seat_found : (n place : ℕ) (conns : List Conn) (x : Conn)
    → position (λ (c : Conn). c.number == n) conns ≡ Some place
    → x ≡ slice_index_or conns place x
    → IsSeatOf n (record { conn = n; place = place; takes_headers = x.headers })
    (map (client_in_view next_backlog) conns)
seat_found n place conns x at is = record {
  conn_is = refl;
  seated = same_place next_backlog n conns ∙ at;
  option = sym (ap option_of (client_is next_backlog n conns place x at is));
}

stands : (seat : Seat) (n : ℕ) (lengths : FormLengths) (clients : List Client) (client : Client) (room shut : Bool)
    → IsSeatOf n seat clients
    → client_at n clients ≡ Some client
    → room_of client (form_length lengths client.headers) ≡ room
    → client.outbox.shut ≡ shut
    → IsStanding (standing_of seat room shut) n lengths clients
stands seat n lengths clients client true true is at room shut =
    absurd (true≢false (sym room
    ∙ ap (λ b.
    not b
    && (nat_lt (length client.outbox.entries) client.max_entries
    && nat_le (size_of client.outbox.entries + form_length lengths client.headers) client.max_bytes))
    shut))
stands seat n lengths clients client true false is at room shut = record {
  seat_is = is;
  opened = ap takes_events at ∙ ap not shut;
  fits = ap (λ o. fits_len o (form_length lengths (option_of o))) at ∙ room;
}
stands seat n lengths clients client false true is at room shut = ap takes_events at ∙ ap not shut
stands seat n lengths clients client false false is at room shut = record {
  seat_is = is;
  opened = ap takes_events at ∙ ap not shut;
  fits = ap (λ o. fits_len o (form_length lengths (option_of o))) at ∙ room;
}

pub standing_is : (told : Standing) (n place : ℕ) (lengths : FormLengths) (conns : List Conn) (x : Conn)
    → position (λ (c : Conn). c.number == n) conns ≡ Some place
    → x ≡ slice_index_or conns place x
    → told
    ≡ standing_of (record { conn = n; place = place; takes_headers = x.headers })
    (has_room x.outbox.max_entries x.outbox.max_bytes (form_length lengths x.headers) x.outbox.next) x.outbox.next.shut
    → IsStanding told n lengths (map (client_in_view next_backlog) conns)
standing_is told n place lengths conns x at is told_is =
    subst (λ s. IsStanding s n lengths (map (client_in_view next_backlog) conns)) (sym told_is)
    (stands (record { conn = n; place = place; takes_headers = x.headers }) n lengths
    (map (client_in_view next_backlog) conns) (client_in_view next_backlog x) _ _ (seat_found n place conns x at is)
    (client_is next_backlog n conns place x at is) refl refl)

-- a seat is the place in the code's own list
pub seat_place : (seat : Seat) (conns : List Conn)
    → IsSeated seat (map (client_in_view next_backlog) conns)
    → position (λ (c : Conn). c.number == seat.conn) conns ≡ Some seat.place
seat_place seat conns seated = sym (same_place next_backlog seat.conn conns) ∙ seated
