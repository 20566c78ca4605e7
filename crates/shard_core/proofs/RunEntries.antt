-- Entries put for connections: in one piece, and to all at once.
use Rattle.std.proofs.Common.{◌≡◌, ◌≢◌, ℕ, ◌+◌, Bool, true, false, cond, List, [], ◌∷◌, ◌++◌, length, map}
use Rattle.std.proofs.Common.{Option, Some, None, refl, sym, ap, ◌∙◌, subst, inl, inr, arith, length-append}
use Rattle.std.specs.Prelude.{nat_eq, nat_lt, nat_le, not, ◌&&◌, option_map}
use Rattle.std.proofs.lemmas.Bool.{lt-ltb, le-leb}
use Rattle.std.proofs.lemmas.List.Sums.{sum_by-append, sum_by-cons}
use Rattle.list_laws.specs.Lists.{Each}
use Rattle.list_laws.proofs.Changes.{map_map, map_same, append_nil, append_assoc}
use Rattle.list_laws.proofs.Tests.{eq_true, false_eq}
use Rattle.outbox.specs.Views.{Written, Backlog, with_entry, with_entries, size_of}
use Rattle.shard_core.specs.Opened.{AreApart}
use Rattle.shard_core.specs.Shards.{Client, client_at, takes_events, option_of, takes_headers}
use Rattle.shard_core.specs.Shards.{with_outbox, clients_with_change, fits}
use Rattle.shard_core.specs.Runs.{client_with, numbers_of, TakesAll, Takes}
use Rattle.shard_core.specs.RunReceivers.{EntriesGoOn}

abbrev pub number_of : Client → ℕ
number_of client = client.number

-- these entries for one connection, and none for others
abbrev pub only : ℕ → List Written → ℕ → List Written
only conn entries number = cond (nat_eq number conn) entries []

-- ---- one connection

pub none_put : (c : Client) → with_outbox (with_entries []) c ≡ c
none_put c =
    ap (λ (es : List Written). record c { outbox = record { entries = es; shut = c.outbox.shut } })
    (append_nil c.outbox.entries)

pub put_twice : (entries next : List Written) (c : Client)
    → with_outbox (with_entries next) (with_outbox (with_entries entries) c)
    ≡ with_outbox (with_entries (entries ++ next)) c
put_twice entries next c =
    ap (λ (es : List Written). record c { outbox = record { entries = es; shut = c.outbox.shut } })
    (append_assoc c.outbox.entries entries next)

-- ---- all connections

pub with_same : (f g : ℕ → List Written) → ((n : ℕ) → f n ≡ g n) → (clients : List Client)
    → map (client_with f) clients ≡ map (client_with g) clients
with_same f g same clients =
    map_same (client_with f) (client_with g) clients
    (λ c. ap (λ (es : List Written). with_outbox (with_entries es) c) (same c.number))

pub with_twice : (f g : ℕ → List Written) (clients : List Client)
    → map (client_with g) (map (client_with f) clients) ≡ map (client_with (λ n. f n ++ g n)) clients
with_twice f g clients =
    map_map (client_with f) (client_with g) clients
    ∙ map_same (λ c. client_with g (client_with f c)) (client_with (λ n. f n ++ g n)) clients
    (λ c. put_twice (f c.number) (g c.number) c)

pub with_none : (clients : List Client) → map (client_with (λ n. [])) clients ≡ clients
with_none [] = refl
with_none (c ∷ cs) = λ i. none_put c i ∷ with_none cs i

pub numbers_with : (f : ℕ → List Written) (clients : List Client)
    → numbers_of (map (client_with f) clients) ≡ numbers_of clients
numbers_with f clients = map_map (client_with f) number_of clients

pub apart_with : (f : ℕ → List Written) (clients : List Client)
    → AreApart (numbers_of clients) → AreApart (numbers_of (map (client_with f) clients))
apart_with f clients apart = subst AreApart (sym (numbers_with f clients)) apart

-- ---- a change to one connection is one to all, where numbers stay apart

none_of_others : (conn : ℕ) (entries : List Written) (clients : List Client)
    → Each (λ n. conn ≢ n) (numbers_of clients) → map (client_with (only conn entries)) clients ≡ clients
none_of_others conn entries [] other = refl
none_of_others conn entries (c ∷ cs) other =
    λ i. head i ∷ none_of_others conn entries cs (λ n there. other n (inr there)) i
  where
    not_it : nat_eq c.number conn ≡ false
    not_it = false_eq c.number conn (λ same. other c.number (inl refl) (sym same))

    head : client_with (only conn entries) c ≡ c
    head = ap (λ b. with_outbox (with_entries (cond b entries [])) c) not_it ∙ none_put c

pub change_to_one : (conn : ℕ) (entries : List Written) (clients : List Client) → AreApart (numbers_of clients)
    → clients_with_change (with_entries entries) conn clients ≡ map (client_with (only conn entries)) clients
change_to_one conn entries [] apart = refl
change_to_one conn entries (c ∷ cs) apart =
    by (change_to_one conn entries cs apart.1) (nat_eq c.number conn) refl
  where
    by : clients_with_change (with_entries entries) conn cs ≡ map (client_with (only conn entries)) cs
        → (b : Bool) → nat_eq c.number conn ≡ b
        → cond b (with_outbox (with_entries entries) c ∷ cs) (c ∷ clients_with_change (with_entries entries) conn cs)
        ≡ with_outbox (with_entries (cond b entries [])) c ∷ map (client_with (only conn entries)) cs
    by below true e =
        let others = subst (λ n. Each (λ m. n ≢ m) (numbers_of cs)) (eq_true c.number conn e) apart.0 in
        ap (λ l. with_outbox (with_entries entries) c ∷ l) (sym (none_of_others conn entries cs others))
    by below false e = λ i. sym (none_put c) i ∷ below i

-- ---- looking a connection up

pub at_with : (f : ℕ → List Written) (n : ℕ) (clients : List Client)
    → client_at n (map (client_with f) clients) ≡ option_map (client_with f) (client_at n clients)
at_with f n [] = refl
at_with f n (c ∷ cs) = by (at_with f n cs) (nat_eq c.number n)
  where
    by : client_at n (map (client_with f) cs) ≡ option_map (client_with f) (client_at n cs) → (b : Bool)
        → cond b (Some (client_with f c)) (client_at n (map (client_with f) cs))
        ≡ option_map (client_with f) (cond b (Some c) (client_at n cs))
    by below true = refl
    by below false = below

-- what waits does not matter for whether headers are taken
pub option_with : (f : ℕ → List Written) (n : ℕ) (clients : List Client)
    → takes_headers n (map (client_with f) clients) ≡ takes_headers n clients
option_with f n clients = ap option_of (at_with f n clients) ∙ by (client_at n clients)
  where
    by : (o : Option Client) → option_of (option_map (client_with f) o) ≡ option_of o
    by None = refl
    by (Some c) = refl

pub number_found : (n : ℕ) (clients : List Client) (found : Client)
    → client_at n clients ≡ Some found → found.number ≡ n
number_found n [] found e = absurd (cc)
number_found n (c ∷ cs) found e = by (number_found n cs found) (nat_eq c.number n) refl e
  where
    by : (client_at n cs ≡ Some found → found.number ≡ n) → (b : Bool) → nat_eq c.number n ≡ b
        → cond b (Some c) (client_at n cs) ≡ Some found → found.number ≡ n
    by below true is at = let same : c ≡ found = cc in ap number_of (sym same) ∙ eq_true c.number n is
    by below false is at = below at

-- ---- room

pub size_append : (xs ys : List Written) → size_of (xs ++ ys) ≡ size_of xs + size_of ys
size_append xs ys = sum_by-append (λ (entry : Written). length entry.bytes) xs ys

pub size_cons : (x : Written) (xs : List Written) → size_of (x ∷ xs) ≡ length x.bytes + size_of xs
size_cons x xs = sum_by-cons (λ (entry : Written). length entry.bytes) x xs

takes_rest : (c : Client) (entries next : List Written)
    → TakesAll c (entries ++ next) → TakesAll (with_outbox (with_entries entries) c) next
takes_rest c entries next takes =
    let few = takes.few in
    let small = takes.small in
    record {
      takes_events = takes.takes_events;
      few = omega (arith, few, length-append entries next, length-append c.outbox.entries entries);
      small = omega (arith, small, size_append entries next, size_append c.outbox.entries entries);
    }

-- whoever takes some and then others takes the others behind those
pub still_takes : (f g : ℕ → List Written) (n : ℕ) (clients : List Client)
    → Takes (client_at n clients) (λ m. f m ++ g m) → Takes (client_at n (map (client_with f) clients)) g
still_takes f g n clients takes = subst (λ o. Takes o g) (sym (at_with f n clients)) (by (client_at n clients) takes)
  where
    by : (o : Option Client) → Takes o (λ m. f m ++ g m) → Takes (option_map (client_with f) o) g
    by None takes = takes
    by (Some c) takes = takes_rest c (f c.number) (g c.number) takes

pub takes_same : (o : Option Client) (f g : ℕ → List Written) → ((n : ℕ) → f n ≡ g n) → Takes o f → Takes o g
takes_same None f g same takes = takes
takes_same (Some c) f g same takes = subst (TakesAll c) (same c.number) takes

takes_less : (c : Client) (entries next : List Written) → TakesAll c (entries ++ next) → TakesAll c entries
takes_less c entries next takes =
    let few = takes.few in
    let small = takes.small in
    record {
      takes_events = takes.takes_events;
      few = omega (arith, few, length-append entries next);
      small = omega (arith, small, size_append entries next);
    }

-- whoever takes some and then others takes the first
pub takes_first : (o : Option Client) (f g : ℕ → List Written) → Takes o (λ n. f n ++ g n) → Takes o f
takes_first None f g takes = takes
takes_first (Some c) f g takes = takes_less c (f c.number) (g c.number) takes

-- there is a connection that takes events, and the first entry fits
pub record TakesOne (o : Option Client) (entry : Written) : Type 0 where
  pub takes_events : takes_events o ≡ true
  pub fits : fits o entry ≡ true

one_fits : (c : Client) (entry : Written) (rest : List Written) → TakesAll c (entry ∷ rest) → TakesOne (Some c) entry
one_fits c entry rest takes =
    let few = takes.few in
    let small = takes.small in
    let shut = takes.takes_events in
    let waiting = length c.outbox.entries in
    let bytes = size_of c.outbox.entries + length entry.bytes in
    let lt : nat_lt waiting c.max_entries ≡ true = lt-ltb waiting c.max_entries (omega (arith, few)) in
    let le : nat_le bytes c.max_bytes ≡ true = le-leb bytes c.max_bytes (omega (arith, small, size_cons entry rest)) in
    record { takes_events = ap not shut; fits = λ i. not (shut i) && (lt i && le i) }

pub takes_one : (conn : ℕ) (clients : List Client) (f : ℕ → List Written) (entry : Written) (rest : List Written)
    → f conn ≡ entry ∷ rest → Takes (client_at conn clients) f → TakesOne (client_at conn clients) entry
takes_one conn clients f entry rest is takes = by (client_at conn clients) refl takes
  where
    by : (o : Option Client) → client_at conn clients ≡ o → Takes o f → TakesOne o entry
    by None at takes = absurd takes
    by (Some c) at takes =
        one_fits c entry rest (subst (TakesAll c) (ap f (number_found conn clients c at) ∙ is) takes)

-- ---- entries one behind another

change_same : (f g h : Backlog → Backlog) (n : ℕ) (clients : List Client)
    → ((c : Client) → with_outbox f (with_outbox g c) ≡ with_outbox h c)
    → clients_with_change f n (clients_with_change g n clients) ≡ clients_with_change h n clients
change_same f g h n [] same = refl
change_same f g h n (c ∷ cs) same = by (change_same f g h n cs same) (nat_eq c.number n) refl
  where
    rest : List Client
    rest = clients_with_change g n cs

    by : clients_with_change f n (clients_with_change g n cs) ≡ clients_with_change h n cs
        → (b : Bool) → nat_eq c.number n ≡ b
        → clients_with_change f n (cond b (with_outbox g c ∷ cs) (c ∷ clients_with_change g n cs))
        ≡ cond b (with_outbox h c ∷ cs) (c ∷ clients_with_change h n cs)
    by below true e =
        ap (λ b. cond b (with_outbox f (with_outbox g c) ∷ cs) (with_outbox g c ∷ clients_with_change f n cs)) e
        ∙ ap (λ d. d ∷ cs) (same c)
    by below false e =
        ap (λ b. cond b (with_outbox f c ∷ rest) (c ∷ clients_with_change f n rest)) e ∙ ap (λ l. c ∷ l) below

no_change : (n : ℕ) (clients : List Client) → clients_with_change (with_entries []) n clients ≡ clients
no_change n [] = refl
no_change n (c ∷ cs) = by (no_change n cs) (nat_eq c.number n)
  where
    by : clients_with_change (with_entries []) n cs ≡ cs → (b : Bool)
        → cond b (with_outbox (with_entries []) c ∷ cs) (c ∷ clients_with_change (with_entries []) n cs) ≡ c ∷ cs
    by below true = ap (λ d. d ∷ cs) (none_put c)
    by below false = ap (λ l. c ∷ l) below

pub entries_go_on : (conn : ℕ) (clients : List Client) → EntriesGoOn conn clients
entries_go_on conn clients = record {
  none = no_change conn clients;
  more = λ entries entry.
      change_same (with_entry entry) (with_entries entries) (with_entries (entries ++ entry ∷ [])) conn clients
      (put_twice entries (entry ∷ []));
  all = λ entries next.
      change_same (with_entries next) (with_entries entries) (with_entries (entries ++ next)) conn clients
      (put_twice entries next);
}
