-- What waits and what will wait, where entries are staged at some places.
use Rattle.std.proofs.Common.{◌≡◌, ℕ, zero, Some, ◌<◌, ◌≤◌, Bool, true, false, List, [], ◌∷◌, ◌++◌, length, map, get_or, refl, sym, ap, ◌∙◌, arith}
use Rattle.std.specs.Prelude.{nat_eq, ◌||◌, slice_set}
use Rattle.std.specs.List.{list_any}
use Rattle.std.proofs.lemmas.Bool.Decides.{nat_tests}
use Rattle.std.proofs.Common.{cond}
use Rattle.std.proofs.lemmas.List.{nil_from_length, map-append, ext_get_or, get_or-map, length-map, length-set, get_or-set_other}
use Rattle.std.proofs.Math.Seq.{map-set_same}
use Rattle.std.proofs.lemmas.Grind.{common_steps}
use Rattle.shard_core.specs.declared.connections.Conn.{Conn}
use Rattle.shard_core.specs.Shards.{Client, client_at, clients_with_change, with_headers, fits, is_open}
use Rattle.std.proofs.Common.{subst, filter, not, suc}
use Rattle.std.specs.List.{AllPairs}
use Rattle.std.specs.Prelude.{◌==◌, All, OnErr, Result, Ok, Err, slice_index_or, slice_get, position}
use Rattle.std.proofs.lemmas.Option.{same_Some, slice_get-get_or}
use Rattle.std.proofs.lemmas.List.Kept.{AllPairs-filter}
use Rattle.std.proofs.lemmas.List.Quantifiers.{all_pairs_push}
use Rattle.outbox.specs.Views.{Waiting, Backlog, Written, has_room}
use Rattle.shard_core.specs.Boxes.{AreAlike, AreRising, AreConns, HasRoomAt, IsBoxStaged, IsOpenAt, IsStagedWithin, client_in_view, number_of, shown_backlog, next_backlog}
use Rattle.shard_core.proofs.Clients.Lookups.{numbers_stay, place_within, changed_is, same_is, room_is, open_is, not_shut}

-- ---- places

any_append : (i p : ℕ) (places : List ℕ)
    → list_any (nat_eq i) (places ++ p ∷ []) ≡ false
    → (list_any (nat_eq i) places ≡ false) × (nat_eq i p ≡ false)
any_append i p [] e = (refl, by (nat_eq i p) e) where
  by : (b : Bool) → (b || false) ≡ false → b ≡ false
  by true e = e
  by false e = refl
any_append i p (q ∷ places) e = by (any_append i p places) (nat_eq i q) e where
  by : (list_any (nat_eq i) (places ++ p ∷ []) ≡ false → (list_any (nat_eq i) places ≡ false) × (nat_eq i p ≡ false))
      → (b : Bool)
      → (b || list_any (nat_eq i) (places ++ p ∷ [])) ≡ false
      → ((b || list_any (nat_eq i) places) ≡ false) × (nat_eq i p ≡ false)
  by rest true e = (e, cc)
  by rest false e = rest e

-- ---- where it is settled, nothing is staged

pub none_staged : (places : List ℕ) (conns : List Conn)
    → map (client_in_view next_backlog) conns ≡ map (client_in_view shown_backlog) conns
    → IsStagedWithin places conns
none_staged places conns settled i d within out =
    sym (get_or-map (client_in_view next_backlog) conns i d ((client_in_view next_backlog) d) within)
    ∙ ap (λ (l : List Client). get_or l i ((client_in_view next_backlog) d)) settled
    ∙ get_or-map (client_in_view shown_backlog) conns i d ((client_in_view next_backlog) d) within

pub all_settled : (conns : List Conn)
    → IsStagedWithin [] conns
    → map (client_in_view next_backlog) conns ≡ map (client_in_view shown_backlog) conns
all_settled [] within = refl
all_settled (c ∷ cs) within =
    let conns = c ∷ cs in
    ext_get_or ((client_in_view next_backlog) c) (map (client_in_view next_backlog) conns)
    (map (client_in_view shown_backlog) conns)
    (length-map conns (client_in_view next_backlog) ∙ sym (length-map conns (client_in_view shown_backlog))) (λ k lt.
    let inside : k < length conns = omega (arith, length-map conns (client_in_view next_backlog)) in
    get_or-map (client_in_view next_backlog) conns k c ((client_in_view next_backlog) c) inside
    ∙ within k c inside refl
    ∙ sym (get_or-map (client_in_view shown_backlog) conns k c ((client_in_view next_backlog) c) inside))

-- where nothing is staged anywhere, what will wait is what waits
pub nothing_staged : (places : List ℕ) (conns : List Conn)
    → length places ≡ 0
    → AreConns places conns
    → map (client_in_view next_backlog) conns ≡ map (client_in_view shown_backlog) conns
nothing_staged places conns none was =
    all_settled conns (subst (λ (ps : List ℕ). IsStagedWithin ps conns) (nil_from_length places none) was.staged)

-- ---- one more place

pub staged_at : (places : List ℕ) (conns : List Conn) (p : ℕ) (y : Conn)
    → IsStagedWithin places conns
    → IsStagedWithin (places ++ p ∷ []) (slice_set conns p y)
staged_at places conns p y within i d inside out =
    let apart = any_append i p places out in
    let same : get_or (slice_set conns p y) i d ≡ get_or conns i d =
    get_or-set_other conns p i y d (grind (arith, nat_tests)) in
    ap (client_in_view next_backlog) same
    ∙ within i d (omega (arith, length-set conns p y)) apart.0
    ∙ sym (ap (client_in_view shown_backlog) same)

pub place_added : (places : List ℕ) (conns : List Conn) (p : ℕ)
    → IsStagedWithin places conns
    → IsStagedWithin (places ++ p ∷ []) conns
place_added places conns p within i d inside out = within i d inside (any_append i p places out).0

-- ---- one place less, which was settled

pub settled_at_place : (places : List ℕ) (conns : List Conn) (p : ℕ) (y : Conn)
    → (client_in_view next_backlog) y ≡ (client_in_view shown_backlog) y
    → p < length conns
    → IsStagedWithin (p ∷ places) conns
    → IsStagedWithin places (slice_set conns p y)
settled_at_place places conns p y settled there within i d inside out = by (nat_eq i p) refl where
  by : (b : Bool)
      → nat_eq i p ≡ b
      → (client_in_view next_backlog) (get_or (slice_set conns p y) i d)
      ≡ (client_in_view shown_backlog) (get_or (slice_set conns p y) i d)
  by true e =
      let at : get_or (slice_set conns p y) i d ≡ y = grind (arith, nat_tests, common_steps) in
      ap (client_in_view next_backlog) at ∙ settled ∙ sym (ap (client_in_view shown_backlog) at)
  by false e =
      let same : get_or (slice_set conns p y) i d ≡ get_or conns i d =
      get_or-set_other conns p i y d (grind (arith, nat_tests)) in
      ap (client_in_view next_backlog) same
      ∙ within i d (omega (arith, length-set conns p y)) (ap (λ b. b || list_any (nat_eq i) places) e ∙ out)
      ∙ sym (ap (client_in_view shown_backlog) same)

-- a place that is not there
pub no_such_place : (places : List ℕ) (conns : List Conn) (p : ℕ)
    → length conns ≤ p
    → IsStagedWithin (p ∷ places) conns
    → IsStagedWithin places conns
no_such_place places conns p past within i d inside out =
    let apart : nat_eq i p ≡ false = grind (arith, nat_tests) in
    within i d inside (ap (λ b. b || list_any (nat_eq i) places) apart ∙ out)

-- ---- connections in order, staged at their places

rising_still : (old new : List Conn) → map number_of new ≡ map number_of old → AreRising old → AreRising new
rising_still old new same rising = subst (AllPairs (λ (a b : ℕ). a < b)) (sym same) rising

written : (conns : List Conn) (i : ℕ) (x : Conn) (box : Waiting)
    → x ≡ slice_index_or conns i x
    → map number_of (slice_set conns i (record { number = x.number; outbox = box; headers = x.headers }))
    ≡ map number_of conns
written conns i x box is =
    ap
    (λ (y : Conn). map number_of (slice_set conns i (record { number = y.number; outbox = box; headers = y.headers })))
    is
    ∙ numbers_stay conns i x box

more_places : (places : List ℕ) (p : ℕ) (conns : List Conn)
    → IsStagedWithin places conns
    → IsStagedWithin (p ∷ places) conns
more_places places p conns within i d inside out = within i d inside (by (nat_eq i p) out) where
  by : (b : Bool) → (b || list_any (nat_eq i) places) ≡ false → list_any (nat_eq i) places ≡ false
  by true e = cc
  by false e = e

pub conns_staged : (places : List ℕ) (conns : List Conn) (i : ℕ) (x : Conn) (box : Waiting)
    → x ≡ slice_index_or conns i x
    → AreConns places conns
    → AreConns (places ++ i ∷ []) (slice_set conns i (record { number = x.number; outbox = box; headers = x.headers }))
conns_staged places conns i x box is was = record {
  rising =
      rising_still conns (slice_set conns i (record { number = x.number; outbox = box; headers = x.headers }))
      (written conns i x box is) was.rising;
  staged = staged_at places conns i (record { number = x.number; outbox = box; headers = x.headers }) was.staged;
}

pub conns_noted : (places : List ℕ) (conns : List Conn) (i : ℕ)
    → AreConns places conns
    → AreConns (places ++ i ∷ []) conns
conns_noted places conns i was = record { rising = was.rising; staged = place_added places conns i was.staged }

pub conns_settled : (places : List ℕ) (conns : List Conn) (i : ℕ) (x : Conn) (box : Waiting)
    → x ≡ slice_index_or conns i x
    → i < length conns
    → box.next ≡ box.shown
    → AreConns places conns
    → AreConns places (slice_set conns i (record { number = x.number; outbox = box; headers = x.headers }))
conns_settled places conns i x box is there alike was = record {
  rising =
      rising_still conns (slice_set conns i (record { number = x.number; outbox = box; headers = x.headers }))
      (written conns i x box is) was.rising;
  staged =
      settled_at_place places conns i (record { number = x.number; outbox = box; headers = x.headers })
      (ap (λ backlog. record {
        number = x.number;
        outbox = backlog;
        max_entries = box.max_entries;
        max_bytes = box.max_bytes;
        headers = x.headers;
      })
      alike)
      there (more_places places i conns was.staged);
}

-- another option of a connection leaves what is staged
pub conns_chosen : (on : Bool) (places : List ℕ) (conns : List Conn) (i : ℕ) (x : Conn)
    → x ≡ slice_index_or conns i x
    → AreConns places conns
    → AreConns places (slice_set conns i (record { number = x.number; outbox = x.outbox; headers = on }))
conns_chosen on places conns i x is was = record {
  rising = rising_still conns (slice_set conns i y) (map-set_same number_of conns i y x (ap number_of is)) was.rising;
  staged = within;
}
  where
    y : Conn
    y = record { number = x.number; outbox = x.outbox; headers = on }

    within : IsStagedWithin places (slice_set conns i y)
    within j d inside out = by (nat_eq j i) refl where
      lt : j < length conns
      lt = omega (arith, length-set conns i y)

      by : (b : Bool)
          → nat_eq j i ≡ b
          → client_in_view next_backlog (get_or (slice_set conns i y) j d)
          ≡ client_in_view shown_backlog (get_or (slice_set conns i y) j d)
      by true e =
          let at : get_or (slice_set conns i y) j d ≡ y = grind (arith, nat_tests, common_steps, lt) in
          let there : j ≡ i = grind (arith, nat_tests) in
          let here : x ≡ get_or conns j x = is ∙ ap (λ k. get_or conns k x) (sym there) in
          let seen : client_in_view next_backlog x ≡ client_in_view shown_backlog x =
          ap (client_in_view next_backlog) here
          ∙ was.staged j x lt out
          ∙ sym (ap (client_in_view shown_backlog) here) in
          ap (client_in_view next_backlog) at ∙ ap (with_headers on) seen ∙ sym (ap (client_in_view shown_backlog) at)
      by false e =
          let same : get_or (slice_set conns i y) j d ≡ get_or conns j d =
          get_or-set_other conns i j y d (grind (arith, nat_tests)) in
          ap (client_in_view next_backlog) same ∙ was.staged j d lt out ∙ sym (ap (client_in_view shown_backlog) same)

-- the same places in another form
pub conns_alike : {old new : List ℕ} (conns : List Conn) → AreAlike new old → AreConns old conns → AreConns new conns
conns_alike conns alike was = record {
  rising = was.rising;
  staged = λ i d within out. was.staged i d within (sym (alike i) ∙ out);
}

any_more : (i p : ℕ) (places : List ℕ)
    → list_any (nat_eq i) (places ++ p ∷ []) ≡ (list_any (nat_eq i) places || nat_eq i p)
any_more i p [] = by (nat_eq i p) where
  by : (b : Bool) → (b || false) ≡ (false || b)
  by true = refl
  by false = refl
any_more i p (q ∷ places) = by (any_more i p places) (nat_eq i q) where
  by : list_any (nat_eq i) (places ++ p ∷ []) ≡ (list_any (nat_eq i) places || nat_eq i p)
      → (b : Bool)
      → (b || list_any (nat_eq i) (places ++ p ∷ [])) ≡ ((b || list_any (nat_eq i) places) || nat_eq i p)
  by rest true = refl
  by rest false = rest

-- a place that stands among them already
pub alike_there : (p : ℕ) (places : List ℕ) → list_any (nat_eq p) places ≡ true → AreAlike places (places ++ p ∷ [])
alike_there p places there i = by (nat_eq i p) refl ∙ sym (any_more i p places) where
  by : (b : Bool) → nat_eq i p ≡ b → list_any (nat_eq i) places ≡ (list_any (nat_eq i) places || b)
  by true e =
      let same : i ≡ p = grind (arith, nat_tests) in
      let any : list_any (nat_eq i) places ≡ true = ap (λ k. list_any (nat_eq k) places) same ∙ there in
      any ∙ sym (ap (λ b. b || true) any)
  by false e = either (list_any (nat_eq i) places) where
    either : (b : Bool) → b ≡ (b || false)
    either true = refl
    either false = refl

-- one place less
pub conns_less : (places : List ℕ) (conns : List Conn) (i : ℕ) (x : Conn) (box : Waiting)
    → x ≡ slice_index_or conns i x
    → i < length conns
    → box.next ≡ box.shown
    → AreConns (i ∷ places) conns
    → AreConns places (slice_set conns i (record { number = x.number; outbox = box; headers = x.headers }))
conns_less places conns i x box is there alike was = record {
  rising =
      rising_still conns (slice_set conns i (record { number = x.number; outbox = box; headers = x.headers }))
      (written conns i x box is) was.rising;
  staged =
      settled_at_place places conns i (record { number = x.number; outbox = box; headers = x.headers })
      (ap (λ backlog. record {
        number = x.number;
        outbox = backlog;
        max_entries = box.max_entries;
        max_bytes = box.max_bytes;
        headers = x.headers;
      })
      alike)
      there was.staged;
}

-- connections go, where nothing is staged
head_same : (c : Conn) (cs : List Conn)
    → IsStagedWithin [] (c ∷ cs)
    → client_in_view next_backlog c ≡ client_in_view shown_backlog c
head_same c cs within = within 0 c (omega arith) refl

tail_same : (c : Conn) (cs : List Conn) → IsStagedWithin [] (c ∷ cs) → IsStagedWithin [] cs
tail_same c cs within i d inside out = within (suc i) d (omega arith) refl

none_left : (p : Conn → Bool) (conns : List Conn)
    → IsStagedWithin [] conns
    → map (client_in_view next_backlog) (filter p conns) ≡ map (client_in_view shown_backlog) (filter p conns)
none_left p [] within = refl
none_left p (c ∷ cs) within =
    elim (p c) as (λ b.
    map (client_in_view next_backlog) (cond b (c ∷ filter p cs) (filter p cs))
    ≡ map (client_in_view shown_backlog) (cond b (c ∷ filter p cs) (filter p cs))) [
      | true ↦ (λ k. head_same c cs within k ∷ none_left p cs (tail_same c cs within) k)
      | false ↦ none_left p cs (tail_same c cs within)
    ]

filter_numbers : (q : ℕ → Bool) (conns : List Conn)
    → map number_of (filter (λ (x : Conn). q x.number) conns) ≡ filter q (map number_of conns)
filter_numbers q [] = refl
filter_numbers q (c ∷ cs) =
    elim (q c.number) as (λ b.
    map number_of (cond b (c ∷ filter (λ (x : Conn). q x.number) cs) (filter (λ (x : Conn). q x.number) cs))
    ≡ cond b (c.number ∷ filter q (map number_of cs)) (filter q (map number_of cs))) [
      | true ↦ ap (λ l. c.number ∷ l) (filter_numbers q cs)
      | false ↦ filter_numbers q cs
    ]

pub conns_without : (places : List ℕ) (conns left : List Conn) (n : ℕ)
    → map (client_in_view next_backlog) conns ≡ map (client_in_view shown_backlog) conns
    → left ≡ filter (λ (x : Conn). not (x.number == n)) conns
    → AreConns places conns
    → AreConns [] left
conns_without places conns left n settled is was =
    subst (AreConns []) (sym is) (record {
      rising =
          subst (AllPairs (λ (a b : ℕ). a < b)) (sym (filter_numbers (λ m. not (m == n)) conns))
          (AllPairs-filter (λ (a b : ℕ). a < b) (λ m. not (m == n)) (map number_of conns) was.rising);
      staged =
          none_staged [] (filter (λ (x : Conn). not (x.number == n)) conns)
          (none_left (λ (x : Conn). not (x.number == n)) conns (none_staged [] conns settled));
    })

-- one more behind the others, with nothing staged
pub conns_attached : (places : List ℕ) (conns : List Conn) (x : Conn)
    → x.outbox.next ≡ x.outbox.shown
    → All (λ m. m < x.number) (map number_of conns)
    → map (client_in_view next_backlog) conns ≡ map (client_in_view shown_backlog) conns
    → AreConns places conns
    → AreConns places (conns ++ x ∷ [])
conns_attached places conns x alike above settled was = record {
  rising =
      subst (AllPairs (λ (a b : ℕ). a < b)) (sym (map-append number_of conns (x ∷ [])))
      (all_pairs_push (λ (a b : ℕ). a < b) (map number_of conns) x.number was.rising (λ k d within. above k d within));
  staged =
      none_staged places (conns ++ x ∷ [])
      (map-append (client_in_view next_backlog) conns (x ∷ [])
      ∙ ap (λ l. l ++ client_in_view next_backlog x ∷ []) settled
      ∙ ap (λ backlog.
      map (client_in_view shown_backlog) conns
      ++ record {
        number = x.number;
        outbox = backlog;
        max_entries = x.outbox.max_entries;
        max_bytes = x.outbox.max_bytes;
        headers = x.headers;
      } ∷ [])
      alike ∙ sym (map-append (client_in_view shown_backlog) conns (x ∷ [])));
}

-- by the place alone
pub conns_less_at : (places : List ℕ) (conns : List Conn) (i : ℕ) (r : Conn) (box : Waiting)
    → i < length conns
    → box.next ≡ box.shown
    → AreConns (i ∷ places) conns
    → AreConns places
    (slice_set conns i
    (record { number = (slice_index_or conns i r).number; outbox = box; headers = (slice_index_or conns i r).headers }))
conns_less_at places conns i r box there alike was = record {
  rising =
      rising_still conns
      (slice_set conns i (record {
        number = (slice_index_or conns i r).number;
        outbox = box;
        headers = (slice_index_or conns i r).headers;
      }))
      (numbers_stay conns i r box) was.rising;
  staged =
      settled_at_place places conns i
      (record {
        number = (slice_index_or conns i r).number;
        outbox = box;
        headers = (slice_index_or conns i r).headers;
      })
      (ap (λ backlog. record {
        number = (slice_index_or conns i r).number;
        outbox = backlog;
        max_entries = box.max_entries;
        max_bytes = box.max_bytes;
        headers = (slice_index_or conns i r).headers;
      })
      alike)
      there was.staged;
}

pub no_such_conn : (places : List ℕ) (conns : List Conn) (i : ℕ)
    → length conns ≤ i
    → AreConns (i ∷ places) conns
    → AreConns places conns
no_such_conn places conns i past was = record {
  rising = was.rising;
  staged = no_such_place places conns i past was.staged;
}

-- numbers above those of the clients are above those of the connections
pub numbers_below : (n : ℕ) (conns : List Conn)
    → All (λ (c : Client). c.number < n) (map (client_in_view shown_backlog) conns)
    → All (λ m. m < n) (map number_of conns)
numbers_below n [] above k d within = absurd (omega arith)
numbers_below n (c ∷ cs) above k d within =
    let conns = c ∷ cs in
    let inside : k < length conns = omega (arith, length-map conns number_of) in
    let number : get_or (map number_of conns) k d ≡ (get_or conns k c).number =
    get_or-map number_of conns k c d inside in
    let client : get_or (map (client_in_view shown_backlog) conns) k (client_in_view shown_backlog c)
    ≡ client_in_view shown_backlog (get_or conns k c) =
    get_or-map (client_in_view shown_backlog) conns k c (client_in_view shown_backlog c) inside in
    let same : (get_or (map (client_in_view shown_backlog) conns) k (client_in_view shown_backlog c)).number
    ≡ (get_or conns k c).number = ap (λ (x : Client). x.number) client in
    let below : (get_or (map (client_in_view shown_backlog) conns) k (client_in_view shown_backlog c)).number < n =
    above k (client_in_view shown_backlog c) (omega (arith, length-map conns (client_in_view shown_backlog))) in
    omega (arith, number, same, below)

-- ---- the connection at a place

there_is : (conns : List Conn) (i : ℕ) → i < length conns → (x : Conn) × (slice_get conns i ≡ Some x)
there_is [] i within = absurd (omega arith)
there_is (c ∷ cs) zero within = (c, refl)
there_is (c ∷ cs) (suc i) within = there_is cs i (omega arith)

read_is : (conns : List Conn) (i : ℕ) (x : Conn)
    → i < length conns
    → x ≡ slice_index_or conns i x
    → slice_get conns i ≡ Some x
read_is conns i x within is = slice_get-get_or conns i x within ∙ ap Some (sym is)

pub room_at : (conns : List Conn) (i len : ℕ) (x : Conn)
    → i < length conns
    → x ≡ slice_index_or conns i x
    → HasRoomAt i len conns
    → has_room x.outbox.max_entries x.outbox.max_bytes len x.outbox.next ≡ true
room_at conns i len x within is room = room x (read_is conns i x within is)

pub open_at : (conns : List Conn) (i : ℕ) (x : Conn)
    → i < length conns
    → x ≡ slice_index_or conns i x
    → IsOpenAt i conns
    → x.outbox.next.shut ≡ false
open_at conns i x within is once = once x (read_is conns i x within is)

pub box_staged : (change : Backlog → Backlog) (conns : List Conn) (i : ℕ) (x : Conn) (box : Waiting)
    → i < length conns
    → x ≡ slice_index_or conns i x
    → box ≡ record x.outbox { next = change x.outbox.next }
    → IsBoxStaged i change conns (slice_set conns i (record { number = x.number; outbox = box; headers = x.headers }))
box_staged change conns i x box within is made y at =
    ap (λ (b : Waiting). slice_set conns i (record { number = x.number; outbox = b; headers = x.headers })) made
    ∙ ap (λ (z : Conn).
    slice_set conns i
    (record { number = z.number; outbox = record z.outbox { next = change z.outbox.next }; headers = z.headers }))
    (same_Some x y (sym (read_is conns i x within is) ∙ at))

pub none_staged_at : (conns : List Conn) (i : ℕ) (x : Conn) (box : Waiting)
    → i < length conns
    → x ≡ slice_index_or conns i x
    → box ≡ x.outbox
    → IsBoxStaged i (λ backlog. backlog) conns
    (slice_set conns i (record { number = x.number; outbox = box; headers = x.headers }))
none_staged_at conns i x box within is same = box_staged (λ backlog. backlog) conns i x box within is same

-- a failure leaves it so
pub left_after : {T E P : Type 0} (r : Result T E) → P → OnErr r P
left_after (Ok x) p = tt
left_after (Err e) p = p

-- ---- a connection has a change staged

-- what is seen then
pub record IsStaged (change : Backlog → Backlog) (n i : ℕ) (places : List ℕ) (old new : List Conn) : Type 0 where
  pub keeps : AreConns (places ++ i ∷ []) new
  pub shown : map (client_in_view shown_backlog) new ≡ map (client_in_view shown_backlog) old
  pub next :
      map (client_in_view next_backlog) new ≡ clients_with_change change n (map (client_in_view next_backlog) old)

-- and where nothing was staged but the place is noted
pub record IsLeftStaged (i : ℕ) (places : List ℕ) (old new : List Conn) : Type 0 where
  pub keeps : AreConns (places ++ i ∷ []) new
  pub shown : map (client_in_view shown_backlog) new ≡ map (client_in_view shown_backlog) old
  pub next : map (client_in_view next_backlog) new ≡ map (client_in_view next_backlog) old

module _ (n : ℕ) (conns : List Conn) (i : ℕ) (at : position (λ (c : Conn). c.number == n) conns ≡ Some i) where
  inside : i < length conns
  inside = place_within n conns i at

  is_read : (x : Conn) → slice_get conns i ≡ Some x → x ≡ slice_index_or conns i x
  is_read x there = same_Some x (slice_index_or conns i x) (sym there ∙ slice_get-get_or conns i x inside)

  pub staged_is : (change : Backlog → Backlog) (places : List ℕ) (new : List Conn)
      → AreConns places conns
      → IsBoxStaged i change conns new
      → IsStaged change n i places conns new
  staged_is change places new was staged =
      let there = there_is conns i inside in
      let x = there.0 in
      let is = is_read x there.1 in
      let box : Waiting = record x.outbox { next = change x.outbox.next } in
      let made = staged x there.1 in
      record {
        keeps = subst (AreConns (places ++ i ∷ [])) (sym made) (conns_staged places conns i x box is was);
        shown = ap (map (client_in_view shown_backlog)) made ∙ same_is shown_backlog n conns i x at is box refl;
        next = ap (map (client_in_view next_backlog)) made ∙ changed_is next_backlog n conns i x at is change box refl;
      }

  -- without a change
  pub left_is : (places : List ℕ) (new : List Conn)
      → AreConns places conns
      → IsBoxStaged i (λ backlog. backlog) conns new
      → IsLeftStaged i places conns new
  left_is places new was staged =
      let there = there_is conns i inside in
      let x = there.0 in
      let is = is_read x there.1 in
      let made = staged x there.1 in
      record {
        keeps = subst (AreConns (places ++ i ∷ [])) (sym made) (conns_staged places conns i x x.outbox is was);
        shown = ap (map (client_in_view shown_backlog)) made ∙ same_is shown_backlog n conns i x at is x.outbox refl;
        next = ap (map (client_in_view next_backlog)) made ∙ same_is next_backlog n conns i x at is x.outbox refl;
      }

  pub has_room_at : (entry : Written)
      → fits (client_at n (map (client_in_view next_backlog) conns)) entry ≡ true
      → HasRoomAt i (length entry.bytes) conns
  has_room_at entry room x there =
      let is = is_read x there in
      sym (room_is next_backlog n conns i x at is entry) ∙ room

  pub is_open_at : is_open n (map (client_in_view next_backlog) conns) ≡ true → IsOpenAt i conns
  is_open_at once x there =
      let is = is_read x there in
      not_shut x.outbox.next.shut (sym (open_is next_backlog n conns i x at is) ∙ once)
