-- The first shard that is a window behind.
use Rattle.std.proofs.Common.{◌≡◌, ℕ, ◌+◌, ◌<◌, ◌≤◌, Bool, true, false, cond, nat_le, ◌||◌, List, [], ◌∷◌, length, take, drop, get_or, Option, Some, None, All, refl, ap, sym, ◌∙◌, arith}
use Rattle.std.specs.Prelude.{position, if◌then◌else◌}
use Rattle.std.specs.List.{position_from}
use Rattle.std.specs.Option.{option_map, option_or}
use Rattle.std.proofs.lemmas.Bool.Decides.{nat_tests}
use Rattle.std.proofs.lemmas.Iterator.Adapters.{position_from-zero}
use Rattle.std.proofs.lemmas.List.Elements.{All-head, All-tail}
use Rattle.std.proofs.lemmas.List.{at_drop_more, at_drop_all, get_or_default}
use Rattle.subj.specs.declared.turns.Busy.{Busy}
use Rattle.subj.specs.declared.limits.TheConstants.{MAX_COUNTER}
use Rattle.subj.specs.Servers.{ServerIdentity}
use Rattle.claim_race.specs.Race.{busy_of, busy_at, is_behind}
use Rattle.hub_core.specs.declared.faults.HubFault.{HubFault}
use Rattle.hub_core.specs.declared.faults.HubFault.TheVariants.{Busy as BusyFault, Spent}
use Rattle.hub_core.specs.State.{State}
use Rattle.hub_core.specs.Chosen.{turn_refusal}
use Rattle.hub_core.specs.Local.{behind_local}

-- ---- one is, or none

-- what is found from a place on, where this shard is looked at
pub looked_at : (issued : ℕ) (finished : List ℕ) (place last : ℕ) (late : Bool)
    → place < length finished
    → last ≡ get_or finished place last
    → is_behind issued last ≡ late
    → position_from (is_behind issued) place (drop place finished)
    ≡ cond late (Some place) (position_from (is_behind issued) (place + 1) (drop (place + 1) finished))
looked_at issued finished place last late within at is =
    at_drop_more (position_from (is_behind issued) place) finished place last within
    ∙ ap (λ b. cond b (Some place) (position_from (is_behind issued) (place + 1) (drop (place + 1) finished)))
    (ap (is_behind issued) (sym at) ∙ is)

pub no_busy : (issued : ℕ) (finished : List ℕ)
    → position (is_behind issued) finished ≡ None
    → busy_of issued finished ≡ None
unfolding busy_of
no_busy issued finished none = ap (option_map (busy_at finished)) none

some_busy : (issued : ℕ) (finished : List ℕ) (place last : ℕ)
    → position (is_behind issued) finished ≡ Some place
    → last ≡ get_or finished place last
    → place < length finished
    → busy_of issued finished ≡ Some (record { shard = place + 1; finished = last })
unfolding busy_of
some_busy issued finished place last some at within =
    ap (option_map (busy_at finished)) some
    ∙ ap (λ (n : ℕ). let busy : Option Busy = Some (record { shard = place + 1; finished = n }) in busy)
    (sym (at ∙ get_or_default finished place last 0 within))

pub some_busy_at : (issued : ℕ) (finished : List ℕ) (place last : ℕ)
    → place < length finished
    → last ≡ get_or finished place last
    → is_behind issued last ≡ true
    → position_from (is_behind issued) place (drop place finished) ≡ position_from (is_behind issued) 0 finished
    → busy_of issued finished ≡ Some (record { shard = place + 1; finished = last })
some_busy_at issued finished place last within at is from =
    some_busy issued finished place last
    (position_from-zero (is_behind issued) finished
    ∙ sym from
    ∙ looked_at issued finished place last true within at is)
    at within

pub none_busy_from : (issued : ℕ) (finished : List ℕ) (place : ℕ)
    → length finished ≤ place
    → position_from (is_behind issued) place (drop place finished) ≡ position_from (is_behind issued) 0 finished
    → busy_of issued finished ≡ None
none_busy_from issued finished place over from =
    no_busy issued finished
    (position_from-zero (is_behind issued) finished
    ∙ sym from
    ∙ at_drop_all (position_from (is_behind issued) place) finished place over)

-- ---- none of all these

none_from : (test : ℕ → Bool) (place : ℕ) (xs : List ℕ)
    → All (λ x. test x ≡ false) xs
    → position_from test place xs ≡ None
none_from test place [] all = refl
none_from test place (x ∷ xs) all =
    ap (λ b. cond b (Some place) (position_from test (place + 1) xs)) (All-head (λ x. test x ≡ false) x xs all)
    ∙ none_from test (place + 1) xs (All-tail (λ x. test x ≡ false) x xs all)

pub none_behind_all : (issued : ℕ) (finished : List ℕ)
    → All (λ last. is_behind issued last ≡ false) finished
    → busy_of issued finished ≡ None
unfolding busy_of
none_behind_all issued finished all =
    ap (option_map (busy_at finished))
    (position_from-zero (is_behind issued) finished ∙ none_from (is_behind issued) 0 finished all)

-- there is a turn behind so many local publications
pub turn_behind_local : (server : ServerIdentity) (hub : State) (finished : List ℕ) (count : ℕ)
    → busy_of (hub.issued + count) (take server.shards finished) ≡ None
    → hub.published + count < MAX_COUNTER
    → hub.issued + count < MAX_COUNTER
    → turn_refusal server (behind_local count hub) finished ≡ None
turn_behind_local server hub finished count free number turn =
    (λ k.
    option_or (option_map BusyFault (free k))
    (if numbers k || turns k then (let why : Option HubFault = Some Spent in why) else None))
  where
    numbers : nat_le MAX_COUNTER (hub.published + count) ≡ false
    numbers = grind (arith, nat_tests)

    turns : nat_le MAX_COUNTER (hub.issued + count) ≡ false
    turns = grind (arith, nat_tests)
