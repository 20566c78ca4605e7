-- Room for a message to each subscription of a connection, by what is left in its outbox.
use Rattle.std.proofs.Common.{◌≡◌, ℕ, ◌+◌, ◌-◌, ◌<◌, ◌≤◌, Bool, true, false, ◌&&◌, nat_le, List, [], ◌∷◌, length, drop, get_or, refl, sym, ap, ◌∙◌, arith}
use Rattle.std.specs.Prelude.{sum_by}
use Rattle.std.specs.List.{list_all}
use Rattle.std.proofs.lemmas.Bool.Decides.{nat_tests}
use Rattle.std.proofs.lemmas.List.{at_drop_more}
use Rattle.std.proofs.lemmas.List.Sums.{sum_by-cons}
use Rattle.client_frames.specs.Messages.{due_bytes}
use Rattle.outbox.specs.Views.{size_of}
use Rattle.sub_table.specs.Subscriptions.{is_room, length_for, matching_of}
use Rattle.sub_table.specs.declared.Subscription.{Subscription}
use Rattle.subj.specs.Messages.{Content}
use Rattle.shard_core.specs.declared.standings.FormLengths.{FormLengths}
use Rattle.shard_core.specs.Boxes.{form_length, room_left}
use Rattle.shard_core.specs.Room.{due_length, takes_all, has_room_for}
use Rattle.shard_core.specs.Shards.{State, Client}

module _ (message : Content) (option : Bool) (len : ℕ)
    (same : (sid : List ℕ) → length (due_bytes message sid option) ≡ len + length sid) where
  sums : (subs : List Subscription) → sum_by (due_length message option) subs ≡ sum_by (length_for len) subs
  sums [] = refl
  sums (sub ∷ subs) =
      let a = sum_by-cons (due_length message option) sub subs in
      let b = sum_by-cons (length_for len) sub subs in
      let c = sums subs in
      let d = same sub.sid in
      omega (arith, a, b, c, d)

-- a message has some bytes, so what is left of a limit that is passed takes none
fits : (k s e f m n : ℕ)
    → 1 ≤ k
    → 1 ≤ s
    → (nat_le (e + k) m && nat_le (f + s) n) ≡ (nat_le k (m - e) && nat_le s (n - f))
fits k s e f m n some bytes = grind (arith, nat_tests)

module _ (message : Content) (lengths : FormLengths)
    (same : (sid : List ℕ) (option : Bool)
    → length (due_bytes message sid option) ≡ form_length lengths option + length sid)
    (some : (option : Bool) → 1 ≤ form_length lengths option) where
  pub takes_is_room : (client : Client) (subs : List Subscription)
      → takes_all message subs client ≡ is_room (form_length lengths client.headers) (room_left client) subs
  takes_is_room client [] = sym (none (form_length lengths client.headers) client)
    where
      none : (len : ℕ) (client : Client) → is_room len (room_left client) [] ≡ true
      none len client = grind (arith, nat_tests)
  takes_is_room client (sub ∷ subs) =
      by (form_length lengths client.headers) (λ sid. same sid client.headers) (some client.headers)
    where
      by : (len : ℕ)
          → ((sid : List ℕ) → length (due_bytes message sid client.headers) ≡ len + length sid)
          → 1 ≤ len
          → takes_all message (sub ∷ subs) client ≡ is_room len (room_left client) (sub ∷ subs)
      by len are some =
          ap (λ s.
          nat_le (length client.outbox.entries + length (sub ∷ subs)) client.max_entries
          && nat_le (size_of client.outbox.entries + s) client.max_bytes)
          (sums message client.headers len are (sub ∷ subs))
          ∙ fits (length (sub ∷ subs)) (sum_by (length_for len) (sub ∷ subs)) (length client.outbox.entries)
          (size_of client.outbox.entries) client.max_entries client.max_bytes (omega arith)
          (let b = sum_by-cons (length_for len) sub subs in omega (arith, b, some))

  pub room_is : (s : State)
      → has_room_for message s
      ≡ list_all (λ client.
      is_room (form_length lengths client.headers) (room_left client)
      (matching_of client.number message.subject s.subs))
      s.clients
  room_is s = each s.clients
    where
      each : (clients : List Client)
          → list_all (λ client. takes_all message (matching_of client.number message.subject s.subs) client) clients
          ≡ list_all (λ client.
          is_room (form_length lengths client.headers) (room_left client)
          (matching_of client.number message.subject s.subs))
          clients
      each [] = refl
      each (client ∷ clients) =
          λ i. takes_is_room client (matching_of client.number message.subject s.subs) i && each clients i

-- ---- a test of each, one by one

all_next : {X : Type 0} (p : X → Bool) (xs : List X) (i : ℕ) (x : X) (b : Bool)
    → i < length xs
    → x ≡ get_or xs i x
    → b ≡ p x
    → list_all p (drop i xs) ≡ (b && list_all p (drop (i + 1) xs))
all_next p xs i x b lt is told =
    at_drop_more (list_all p) xs i x lt ∙ (λ k. (ap p (sym is) ∙ sym told) k && list_all p (drop (i + 1) xs))

-- one more passes, and the rest decides
pub all_on : {X : Type 0} (p : X → Bool) (xs : List X) (i : ℕ) (x : X) (b whole : Bool)
    → i < length xs
    → x ≡ get_or xs i x
    → b ≡ p x
    → b ≡ true
    → list_all p (drop i xs) ≡ whole
    → list_all p (drop (i + 1) xs) ≡ whole
all_on p xs i x b whole lt is told passes so =
    sym (all_next p xs i x b lt is told ∙ ap (λ t. t && list_all p (drop (i + 1) xs)) passes) ∙ so

-- one does not
pub all_not : {X : Type 0} (p : X → Bool) (xs : List X) (i : ℕ) (x : X) (b whole : Bool)
    → i < length xs
    → x ≡ get_or xs i x
    → b ≡ p x
    → b ≡ false
    → list_all p (drop i xs) ≡ whole
    → false ≡ whole
all_not p xs i x b whole lt is told fails so =
    sym (all_next p xs i x b lt is told ∙ ap (λ t. t && list_all p (drop (i + 1) xs)) fails) ∙ so
