-- A turn is issued where no shard is a window behind.
use Rattle.std.proofs.Common.{◌≡◌, ℕ, zero, suc, ◌+◌, ◌<◌, Bool, true, false, cond, List, [], ◌∷◌, length, take, get_or, Option, Some, None, refl, sym, ◌∙◌, arith}
use Rattle.std.specs.Prelude.{nat_lt, position}
use Rattle.std.specs.List.{position_or_len}
use Rattle.std.specs.Option.{option_map, option_or}
use Rattle.std.proofs.lemmas.Option.{none-some, slice_get_within, get_or_from_slice_get}
use Rattle.std.proofs.lemmas.List.{get_or-take}
use Rattle.std.proofs.lemmas.List.Sums.{fails_before_first}
use Rattle.list_laws.proofs.Tests.{lt_false}
use Rattle.subj.specs.declared.limits.TheConstants.{WINDOW}
use Rattle.claim_race.specs.Race.{busy_of, busy_at, is_behind}
use Rattle.subj.specs.Servers.{ServerIdentity}
use Rattle.hub_core.specs.State.{State}
use Rattle.hub_core.specs.Publishing.{busy_fault}
use Rattle.hub_core.specs.AsLaw.{HasRoom}

pub or_none : {A : Type 0} (a b : Option A) → option_or a b ≡ None → (a ≡ None) × (b ≡ None)
or_none None b e = (refl, e)
or_none (Some why) b e = absurd (none-some why (sym e))

pub map_none : {A B : Type 0} (f : A → B) (o : Option A) → option_map f o ≡ None → o ≡ None
map_none f None e = refl
map_none f (Some x) e = absurd (none-some (f x) (sym e))

-- no item passes where there is no first that does
none_first : {A : Type 0} (p : A → Bool) (xs : List A)
    → position p xs ≡ None
    → (k : ℕ) (d : A)
    → k < length xs
    → p (get_or xs k d) ≡ false
none_first p xs e k d lt = go (nat_lt (position_or_len p xs) (length xs)) refl e
  where
    go : (b : Bool)
        → nat_lt (position_or_len p xs) (length xs) ≡ b
        → cond b (Some (position_or_len p xs)) None ≡ None
        → p (get_or xs k d) ≡ false
    go true f h = absurd (none-some (position_or_len p xs) (sym h))
    go false f h =
        fails_before_first p xs k d (let least = lt_false (position_or_len p xs) (length xs) f in omega arith)

-- of the first shards each stands among them
shows : (finished : List ℕ) (count place : ℕ)
    → place < count
    → place < length finished
    → place < length (take count finished)
shows [] count place below within = absurd (omega arith)
shows (done ∷ finished) zero place below within = absurd (omega arith)
shows (done ∷ finished) (suc count) zero below within = omega arith
shows (done ∷ finished) (suc count) (suc place) below within =
    let less = shows finished count place (omega arith) (omega arith) in omega arith

none_behind : (issued : ℕ) (finished : List ℕ)
    → busy_of issued finished ≡ None
    → position (is_behind issued) finished ≡ None
unfolding busy_of
none_behind issued finished e = map_none (busy_at finished) (position (is_behind issued) finished) e

pub has_room : (server : ServerIdentity) (hub : State) (finished : List ℕ)
    → busy_fault server hub finished ≡ None
    → HasRoom server hub finished
has_room server hub finished e place done below at =
    let shown = take server.shards finished in
    let within = slice_get_within finished place done at in
    let behind = none_first (is_behind hub.issued) shown
    (none_behind hub.issued shown (map_none _ (busy_of hub.issued shown) e)) place done
    (shows finished server.shards place below within) in
    let same =
    get_or-take server.shards finished place done below ∙ get_or_from_slice_get finished place done done at in
    let least = lt_false (get_or shown place done + WINDOW) (hub.issued + 1) behind in
    omega arith
