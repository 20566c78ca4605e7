-- Whom a run of claims may go to, once an entry was put and counted.
use Rattle.std.proofs.Common.{◌≡◌, ℕ, zero, suc, ◌+◌, ◌^◌, ◌<◌, ◌≤◌, Bool, true, false, not, cond, List, [], ◌∷◌, length, map, filter, Some, None, refl, sym, ap, ◌∙◌, subst, arith}
use Rattle.std.specs.Prelude.{position, nat_eq, nat_lt}
use Rattle.std.specs.List.{list_any, position_or_len}
use Rattle.std.proofs.lemmas.List.Elements.{All-weaker, All-map}
use Rattle.list_laws.specs.Lists.{Along}
use Rattle.list_laws.proofs.Changes.{map_filter, map_map, map_same}
use Rattle.outbox.specs.Views.{Backlog, Written, with_entry}
use Rattle.sub_table.specs.Subscriptions.{gets}
use Rattle.sub_table.specs.declared.Subscription.{Subscription}
use Rattle.subj.specs.declared.jobs.Job.{Job}
use Rattle.shard_core.specs.declared.claim_run.Member.{Member}
use Rattle.shard_core.specs.Boxes.{IsSeatOf}
use Rattle.shard_core.specs.ClaimMembers.{IsMember, IsOpenRun, IsOpenFor, StaysOpen, KeepsOrder, is_asked, most_bytes}
use Rattle.shard_core.specs.Held.{ArePossible}
use Rattle.shard_core.specs.Owed.{sub_with_count}
use Rattle.shard_core.specs.Received.{Received, receiver_of, receivers_of}
use Rattle.shard_core.specs.Shards.{Client, client_at, clients_with_change, has_number, with_outbox}
use Rattle.shard_core.proofs.ClaimRooms.{rooms_go_on, with_less}
use Rattle.shard_core.proofs.Clients.Options.{option_kept}
use Rattle.shard_core.proofs.Steps.Kept.{below_changed, possible_counted, more_possible}

-- ---- where a connection stands

module _ (change : Backlog → Backlog) (k j : ℕ) where
  length_stays : (xs : List Client) → length (clients_with_change change j xs) ≡ length xs
  length_stays [] = refl
  length_stays (x ∷ xs) = by (has_number j x) (length_stays xs)
    where
      by : (b : Bool) → length (clients_with_change change j xs) ≡ length xs
          → length (cond b (with_outbox change x ∷ xs) (x ∷ clients_with_change change j xs)) ≡ length (x ∷ xs)
      by true rest = refl
      by false rest = ap (λ (n : ℕ). suc n) rest

  first_stays : (xs : List Client)
      → position_or_len (has_number k) (clients_with_change change j xs) ≡ position_or_len (has_number k) xs
  first_stays [] = refl
  first_stays (x ∷ xs) = by (has_number j x) (first_stays xs)
    where
      by : (b : Bool)
          → position_or_len (has_number k) (clients_with_change change j xs) ≡ position_or_len (has_number k) xs
          → position_or_len (has_number k) (cond b (with_outbox change x ∷ xs) (x ∷ clients_with_change change j xs))
          ≡ position_or_len (has_number k) (x ∷ xs)
      by true rest = refl
      by false rest = ap (λ (n : ℕ). cond (not (has_number k x)) (1 + n) 0) rest

  place_stays : (xs : List Client)
      → position (has_number k) (clients_with_change change j xs) ≡ position (has_number k) xs
  place_stays xs = λ i. cond (nat_lt (first_stays xs i) (length_stays xs i)) (Some (first_stays xs i)) None

-- ---- members

pub along_with : {A B : Type 0} (R S : A → B → Type 0) (xs : List A) (ys : List B)
    → ((x : A) (y : B) → R x y → S x y) → Along R xs ys → Along S xs ys
along_with R S [] [] f along = tt
along_with R S [] (y ∷ ys) f along = absurd along
along_with R S (x ∷ xs) [] f along = absurd along
along_with R S (x ∷ xs) (y ∷ ys) f along = (f x y along.0, along_with R S xs ys f along.1)

fewer : (count : ℕ) (receivers : List Received) (clients : List Client) (m : Member) (r : Received)
    → IsMember (count + 1) receivers clients m r → IsMember count receivers clients m r
fewer count receivers clients m r is = record {
  stands = is.stands;
  serial_is = is.serial_is;
  unlimited = is.unlimited;
  seat_is = is.seat_is;
  short = is.short;
  room = with_less count most_bytes (client_at r.conn clients) is.room;
}

seat_stays : (conn : ℕ) (change : Backlog → Backlog) (to : ℕ) (clients : List Client) (m : Member)
    → IsSeatOf conn m.seat clients → IsSeatOf conn m.seat (clients_with_change change to clients)
seat_stays conn change to clients m is = record {
  conn_is = is.conn_is;
  seated = place_stays change m.seat.conn to clients ∙ is.seated;
  option = is.option ∙ sym (option_kept change conn to clients);
}

others_stay : (count : ℕ) (receivers : List Received) (clients : List Client) (entry : Written) (to : ℕ) (m : Member)
    (r : Received)
    → length entry.bytes ≤ most_bytes
    → IsMember (count + 1) receivers clients m r
    → IsMember count receivers (clients_with_change (with_entry entry) to clients) m r
others_stay count receivers clients entry to m r small is = record {
  stands = is.stands;
  serial_is = is.serial_is;
  unlimited = is.unlimited;
  seat_is = seat_stays r.conn (with_entry entry) to clients m is.seat_is;
  short = is.short;
  room = (rooms_go_on clients r.conn count most_bytes entry small is.room).others to;
}

-- the run stays open where nothing is put
pub open_still : (first : Job) (name : List ℕ) (members : List Member) (clients : List Client)
    (subs : List Subscription)
    → StaysOpen first name members clients clients subs subs
open_still first name members clients subs count ready =
    let rs = receivers_of first.message.subject (filter (gets first.message.subject) subs) in
    record {
      undue = ready.undue;
      members_are =
          along_with (IsMember (count + 1) rs clients) (IsMember count rs clients) members
          (filter (is_asked first name) rs) (fewer count rs clients) ready.members_are;
    }

-- ---- counted

counted_gets : (subject : List ℕ) (given : List ℕ) (sub : Subscription)
    → gets subject (sub_with_count given sub) ≡ gets subject sub
counted_gets subject given sub = by (list_any (nat_eq sub.serial) given) where
  by : (b : Bool) → gets subject (cond b (record sub { delivered = sub.delivered + 1 }) sub) ≡ gets subject sub
  by true = refl
  by false = refl

counted_receiver : (subject : List ℕ) (given : List ℕ) (sub : Subscription)
    → receiver_of subject (sub_with_count given sub) ≡ receiver_of subject sub
counted_receiver subject given sub = by (list_any (nat_eq sub.serial) given) where
  by : (b : Bool)
      → receiver_of subject (cond b (record sub { delivered = sub.delivered + 1 }) sub) ≡ receiver_of subject sub
  by true = refl
  by false = refl

receivers_stay : (subject : List ℕ) (given : List ℕ) (subs : List Subscription)
    → receivers_of subject (filter (gets subject) (map (sub_with_count given) subs))
    ≡ receivers_of subject (filter (gets subject) subs)
receivers_stay subject given subs =
    ap (receivers_of subject)
    (map_filter (sub_with_count given) (gets subject) (gets subject) subs (counted_gets subject given))
    ∙ map_map (sub_with_count given) (receiver_of subject) (filter (gets subject) subs)
    ∙ map_same (λ sub. receiver_of subject (sub_with_count given sub)) (receiver_of subject)
    (filter (gets subject) subs) (counted_receiver subject given)

-- the run stays open where an entry is put that is not longer than what the members have room for
pub open_on : (first : Job) (name : List ℕ) (members : List Member) (clients : List Client)
    (subs : List Subscription) (entry : Written) (to : ℕ) (given : List ℕ)
    → length entry.bytes ≤ most_bytes
    → StaysOpen first name members clients (clients_with_change (with_entry entry) to clients) subs
    (map (sub_with_count given) subs)
open_on first name members clients subs entry to given small count ready =
    let subject = first.message.subject in
    let rs = receivers_of subject (filter (gets subject) subs) in
    let new = clients_with_change (with_entry entry) to clients in
    subst (λ (l : List Received). IsOpenRun count first name l new members)
    (sym (receivers_stay subject given subs))
    (record {
      undue = ready.undue;
      members_are =
          along_with (IsMember (count + 1) rs clients) (IsMember count rs new) members
          (filter (is_asked first name) rs)
          (λ m r is. others_stay count rs clients entry to m r small is) ready.members_are;
    })

-- ---- what is kept

pub keeps_all : (count : ℕ) (clients : List Client) (subs : List Subscription)
    → KeepsOrder count clients clients subs subs
keeps_all count clients subs = record {
  numbers = λ most were. were;
  possible = λ opened most were. more_possible opened opened most (most + count) subs (omega arith) (omega arith) were;
  counts = λ more were.
      All-weaker (λ (sub : Subscription). sub.delivered + (more + count) < 2 ^ 64)
      (λ (sub : Subscription). sub.delivered + more < 2 ^ 64) (λ sub lt. omega (arith, lt)) subs were;
}

count_left : (given : List ℕ) (more : ℕ) (sub : Subscription)
    → sub.delivered + (more + 1) < 2 ^ 64 → (sub_with_count given sub).delivered + more < 2 ^ 64
count_left given more sub lt = by (list_any (nat_eq sub.serial) given) where
  by : (b : Bool) → (cond b (record sub { delivered = sub.delivered + 1 }) sub).delivered + more < 2 ^ 64
  by true = omega (arith, lt)
  by false = omega (arith, lt)

pub keeps_put : (change : Backlog → Backlog) (to : ℕ) (given : List ℕ) (clients : List Client)
    (subs : List Subscription)
    → KeepsOrder 1 clients (clients_with_change change to clients) subs (map (sub_with_count given) subs)
keeps_put change to given clients subs = record {
  numbers = λ most were. below_changed most change to clients were;
  possible = λ opened most were. possible_counted opened most given subs were;
  counts = λ more were.
      All-map (λ (sub : Subscription). sub.delivered + more < 2 ^ 64) (sub_with_count given) subs
      (All-weaker (λ (sub : Subscription). sub.delivered + (more + 1) < 2 ^ 64)
      (λ (sub : Subscription). (sub_with_count given sub).delivered + more < 2 ^ 64) (count_left given more) subs were);
}

-- one more
pub keeps_on : (count : ℕ) (first before after : List Client) (subs subs2 subs3 : List Subscription)
    → KeepsOrder count first before subs subs2
    → KeepsOrder 1 before after subs2 subs3
    → KeepsOrder (count + 1) first after subs subs3
keeps_on count first before after subs subs2 subs3 so_far one = record {
  numbers = λ most were. one.numbers most (so_far.numbers most were);
  possible = λ opened most were.
      subst (λ n. ArePossible opened n subs3) (sum most)
      (one.possible opened (most + count) (so_far.possible opened most were));
  counts = λ more were.
      one.counts more (so_far.counts (more + 1)
      (All-weaker (λ (sub : Subscription). sub.delivered + (more + (count + 1)) < 2 ^ 64)
      (λ (sub : Subscription). sub.delivered + (more + 1 + count) < 2 ^ 64) (λ sub lt. omega (arith, lt)) subs were));
}
  where
    sum : (most : ℕ) → most + count + 1 ≡ most + (count + 1)
    sum most = omega arith

-- ---- a run that is open for some is for one

pub open_one : (first : Job) (name : List ℕ) (members : List Member) (clients : List Client) (subs : List Subscription)
    (count : ℕ)
    → IsOpenFor (count + 1) first name subs clients members → IsOpenFor 1 first name subs clients members
open_one first name members clients subs zero ready = ready
open_one first name members clients subs (suc count) ready =
    open_one first name members clients subs count
    (open_still first name members clients subs (count + 1)
    (subst (λ n. IsOpenFor n first name subs clients members) (more count) ready))
  where
    more : (n : ℕ) → suc n + 1 ≡ n + 1 + 1
    more n = omega arith
