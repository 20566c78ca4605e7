-- Names and their places.
use Rattle.std.proofs.Common.{◌≡◌, ◌≢◌, ℕ, ◌<◌, Bool, true, false, nat_eq, nat_lt, not, List, [], length, get_or, refl, sym, ◌∙◌, arith}
use Rattle.std.specs.Str.{bytes_eq}
use Rattle.std.proofs.lemmas.List.Sums.{position_or_len_is, passes_at_first}
use Rattle.std.proofs.lemmas.Option.{unwrap_or-slice_get}
use Rattle.std.proofs.lemmas.Slice.Eq.{bytes_eq-Decides}
use Rattle.list_laws.proofs.Tests.{eq_false, and_true, not_true, same_bytes}
use Rattle.subj.specs.Servers.{ServerIdentity, IsListed, AreApart, name_at, place_in, name_of, place, is_peer}

-- a name that differs
pub differs : (x y : List ℕ) → x ≢ y → bytes_eq x y ≡ false
differs x y apart = go (bytes_eq x y) refl
  where
    go : (b : Bool) → bytes_eq x y ≡ b → bytes_eq x y ≡ false
    go true e = absurd (apart (same_bytes x y e))
    go false e = e

place_at : (names : List (List ℕ)) → AreApart names → (q : ℕ) → q < length names → place_in (name_at names q) names ≡ q
place_at names apart q lt = position_or_len_is (λ other. bytes_eq other (name_at names q)) names q [] (omega arith)
    (λ k below. differs (get_or names k []) (name_at names q) (λ e. apart k q [] below lt (e ∙ is)))
    (λ within. (bytes_eq-Decides (get_or names q []) (name_at names q)).1 (sym is))
  where
    is : name_at names q ≡ get_or names q []
    is = unwrap_or-slice_get names q []

-- each place is that of its name
pub named : (server : ServerIdentity)
    → IsListed server
    → (q : ℕ)
    → q < length server.names
    → place server (name_of server q) ≡ q
named server is q lt = place_at server.names is.apart q lt

-- where a name is listed, it is the one at its place
pub name_there : (names : List (List ℕ)) (name : List ℕ)
    → place_in name names < length names
    → name_at names (place_in name names) ≡ name
name_there names name lt =
    unwrap_or-slice_get names (place_in name names) []
    ∙ same_bytes (get_or names (place_in name names) []) name
    (passes_at_first (λ other. bytes_eq other name) names [] lt)

-- a peer is not the server itself
pub not_own : (server : ServerIdentity) (q : ℕ) → is_peer server q ≡ true → q ≢ server.me
not_own server q e =
    eq_false q server.me
    (not_true (nat_eq q server.me) (and_true (not (nat_eq q server.me)) (nat_lt q (length server.names)) e).0)
