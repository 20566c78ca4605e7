-- Whether a connection takes headers, through each event.
use Rattle.std.proofs.Common.{◌≡◌, ℕ, Bool, true, false, true≢false, cond, not, List, [], ◌∷◌, ◌++◌, Option, Some, None, refl, sym, ap, ◌∙◌}
use Rattle.std.specs.Prelude.{nat_eq, is_some}
use Rattle.list_laws.proofs.Tests.{no_end, eq_true, true_eq}
use Rattle.outbox.specs.Views.{Backlog}
use Rattle.shard_core.specs.Shards.{State, Client, client_at, has_number, is_open, takes_events, option_of, takes_headers, with_outbox, with_headers, clients_with_change, clients_with_headers, without_client}
use Rattle.shard_core.specs.ShardEvents.{Event, Attach, Subscribe, Unsubscribe, Reply, SetHeaders, Shut, Detach, Take, Begin, Claim, End, DropJob, Drain, Collect}
use Rattle.shard_core.specs.ShardSteps.{new_client, shard_refusal, shard_after}
use Rattle.shard_core.specs.Options.{option_after, OptionsAreChosen}
use Rattle.shard_core.proofs.Clients.Limits.{keeps}

-- what waits for a connection does not matter
pub option_kept : (change : Backlog → Backlog) (n k : ℕ) (xs : List Client)
    → takes_headers n (clients_with_change change k xs) ≡ takes_headers n xs
option_kept change n k [] = refl
option_kept change n k (x ∷ xs) = by (has_number k x) (option_kept change n k xs)
  where
    changed : (d : Bool)
        → option_of (cond d (Some (with_outbox change x)) (client_at n xs))
        ≡ option_of (cond d (Some x) (client_at n xs))
    changed true = refl
    changed false = refl

    unchanged : takes_headers n (clients_with_change change k xs) ≡ takes_headers n xs
        → (d : Bool)
        → option_of (cond d (Some x) (client_at n (clients_with_change change k xs)))
        ≡ option_of (cond d (Some x) (client_at n xs))
    unchanged below true = refl
    unchanged below false = below

    by : (b : Bool)
        → takes_headers n (clients_with_change change k xs) ≡ takes_headers n xs
        → takes_headers n (cond b (with_outbox change x ∷ xs) (x ∷ clients_with_change change k xs))
        ≡ takes_headers n (x ∷ xs)
    by true below = changed (has_number n x)
    by false below = unchanged below (has_number n x)

same_numbers : (a j k : ℕ) → nat_eq a j ≡ true → nat_eq a k ≡ true → nat_eq j k ≡ false → ⊥
same_numbers a j k e f g = true≢false (sym (true_eq j k (sym (eq_true a j e) ∙ eq_true a k f)) ∙ g)

other_number : (a j k : ℕ) → nat_eq a j ≡ true → nat_eq a k ≡ false → nat_eq j k ≡ true → ⊥
other_number a j k e f g = true≢false (sym (true_eq a k (eq_true a j e ∙ eq_true j k g)) ∙ f)

another : (a j k : ℕ) → nat_eq a j ≡ false → nat_eq a k ≡ true → nat_eq j k ≡ true → ⊥
another a j k e f g = true≢false (sym (true_eq a j (eq_true a k f ∙ sym (eq_true j k g))) ∙ e)

-- one that goes takes none
gone : (n k : ℕ) (xs : List Client)
    → takes_headers n (without_client k xs) ≡ cond (nat_eq k n) false (takes_headers n xs)
gone n k [] = by (nat_eq k n)
  where
    by : (e : Bool) → false ≡ cond e false false
    by true = refl
    by false = refl
gone n k (x ∷ xs) = by (nat_eq x.number k) refl (gone n k xs)
  where
    rest : List Client
    rest = without_client k xs

    it : nat_eq x.number k ≡ true
        → (d e : Bool)
        → nat_eq x.number n ≡ d
        → nat_eq k n ≡ e
        → cond e false (takes_headers n xs) ≡ cond e false (option_of (cond d (Some x) (client_at n xs)))
    it is d true f g = refl
    it is true false f g = absurd (same_numbers x.number k n is f g)
    it is false false f g = refl

    past : nat_eq x.number k ≡ false
        → takes_headers n rest ≡ cond (nat_eq k n) false (takes_headers n xs)
        → (d e : Bool)
        → nat_eq x.number n ≡ d
        → nat_eq k n ≡ e
        → option_of (cond d (Some x) (client_at n rest)) ≡ cond e false (option_of (cond d (Some x) (client_at n xs)))
    past is more true true f g = absurd (another x.number k n is f g)
    past is more true false f g = refl
    past is more false e f g = more ∙ ap (λ b. cond b false (takes_headers n xs)) g

    by : (b : Bool)
        → nat_eq x.number k ≡ b
        → takes_headers n rest ≡ cond (nat_eq k n) false (takes_headers n xs)
        → takes_headers n (cond (not b) (x ∷ rest) rest) ≡ cond (nat_eq k n) false (takes_headers n (x ∷ xs))
    by true is more = more ∙ it is (nat_eq x.number n) (nat_eq k n) refl refl
    by false is more = past is more (nat_eq x.number n) (nat_eq k n) refl refl

-- a choice is that of the connection alone, where it is there
chosen : (on : Bool) (n k : ℕ) (xs : List Client)
    → is_some (client_at k xs) ≡ true
    → takes_headers n (clients_with_headers on k xs) ≡ cond (nat_eq k n) on (takes_headers n xs)
chosen on n k [] known = absurd (true≢false (sym known))
chosen on n k (x ∷ xs) known = by (nat_eq x.number k) refl known (chosen on n k xs)
  where
    rest : List Client
    rest = clients_with_headers on k xs

    it : nat_eq x.number k ≡ true
        → (d e : Bool)
        → nat_eq x.number n ≡ d
        → nat_eq k n ≡ e
        → option_of (cond d (Some (with_headers on x)) (client_at n xs))
        ≡ cond e on (option_of (cond d (Some x) (client_at n xs)))
    it is true true f g = refl
    it is true false f g = absurd (same_numbers x.number k n is f g)
    it is false true f g = absurd (other_number x.number k n is f g)
    it is false false f g = refl

    past : nat_eq x.number k ≡ false
        → takes_headers n rest ≡ cond (nat_eq k n) on (takes_headers n xs)
        → (d e : Bool)
        → nat_eq x.number n ≡ d
        → nat_eq k n ≡ e
        → option_of (cond d (Some x) (client_at n rest)) ≡ cond e on (option_of (cond d (Some x) (client_at n xs)))
    past is more true true f g = absurd (another x.number k n is f g)
    past is more true false f g = refl
    past is more false e f g = more ∙ ap (λ b. cond b on (takes_headers n xs)) g

    by : (b : Bool)
        → nat_eq x.number k ≡ b
        → is_some (cond b (Some x) (client_at k xs)) ≡ true
        → (is_some (client_at k xs) ≡ true → takes_headers n rest ≡ cond (nat_eq k n) on (takes_headers n xs))
        → takes_headers n (cond b (with_headers on x ∷ xs) (x ∷ rest)) ≡ cond (nat_eq k n) on (takes_headers n (x ∷ xs))
    by true is there more = it is (nat_eq x.number n) (nat_eq k n) refl refl
    by false is there more = past is (more there) (nat_eq x.number n) (nat_eq k n) refl refl

-- a new one takes none
none_new : (n m : ℕ) (xs : List Client) → takes_headers n (xs ++ new_client m ∷ []) ≡ takes_headers n xs
none_new n m [] = by (nat_eq m n)
  where
    by : (d : Bool) → option_of (cond d (Some (new_client m)) None) ≡ false
    by true = refl
    by false = refl
none_new n m (x ∷ xs) = by (has_number n x) (none_new n m xs)
  where
    by : (d : Bool)
        → takes_headers n (xs ++ new_client m ∷ []) ≡ takes_headers n xs
        → option_of (cond d (Some x) (client_at n (xs ++ new_client m ∷ [])))
        ≡ option_of (cond d (Some x) (client_at n xs))
    by true rest = refl
    by false rest = rest

open_known : (client : Option Client) → takes_events client ≡ true → is_some client ≡ true
open_known None e = e
open_known (Some client) e = refl

module _ (s : State) (n : ℕ) where
  -- all other events leave it
  left : (e : Event)
      → ((k : ℕ) → e ≡ Detach k → ⊥)
      → ((k : ℕ) (on : Bool) → e ≡ SetHeaders k on → ⊥)
      → takes_headers n (shard_after s e).clients ≡ takes_headers n s.clients
  left e stays silent =
      keeps (λ (xs : List Client). takes_headers n xs ≡ takes_headers n s.clients)
      (λ change k xs h. option_kept change n k xs ∙ h) s e (λ is. none_new n s.next_conn s.clients)
      (λ k is h. absurd (stays k is)) (λ k on is h. absurd (silent k on is)) refl

  step : (e : Event)
      → shard_refusal s e ≡ None
      → takes_headers n (shard_after s e).clients ≡ option_after e n (takes_headers n s.clients)
  step Attach cause = left Attach (λ k is. cc) (λ k on is. cc)
  step (Subscribe conn key sid) cause = left (Subscribe conn key sid) (λ k is. cc) (λ k on is. cc)
  step (Unsubscribe conn sid max) cause = left (Unsubscribe conn sid max) (λ k is. cc) (λ k on is. cc)
  step (Reply conn frame) cause = left (Reply conn frame) (λ k is. cc) (λ k on is. cc)
  step (SetHeaders conn on) cause =
      chosen on n conn s.clients (open_known (client_at conn s.clients) (no_end (is_open conn s.clients) _ cause))
  step (Shut conn text) cause = left (Shut conn text) (λ k is. cc) (λ k on is. cc)
  step (Detach conn) cause = gone n conn s.clients
  step (Take conn count) cause = left (Take conn count) (λ k is. cc) (λ k on is. cc)
  step (Begin job) cause = left (Begin job) (λ k is. cc) (λ k on is. cc)
  step (Claim index won) cause = left (Claim index won) (λ k is. cc) (λ k on is. cc)
  step End cause = left End (λ k is. cc) (λ k on is. cc)
  step (DropJob waiting) cause = left (DropJob waiting) (λ k is. cc) (λ k on is. cc)
  step Drain cause = left Drain (λ k is. cc) (λ k on is. cc)
  step Collect cause = left Collect (λ k is. cc) (λ k on is. cc)

pub options_are_chosen : OptionsAreChosen
options_are_chosen = record { start = λ shard shards conn. refl; step = λ s e cause conn. step s conn e cause }
