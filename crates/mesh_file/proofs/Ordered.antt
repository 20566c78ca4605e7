-- Servers that are put among servers in the order of their names.
use Rattle.std.proofs.Common.{◌≡◌, ℕ, ◌+◌, ◌<◌, ◌≤◌, ◌&&◌, not, Bool, true, false, true≢false, List, [], ◌∷◌, ◌++◌, length, take, get_or, All, Option, Some, None, MatchOption, cond, suc, refl, sym, ap, subst, ◌∙◌, arith, length-take}
use Rattle.std.specs.Prelude.{nat_lt}
use Rattle.std.proofs.lemmas.Bool.Decides.{nat_tests}
use Rattle.std.proofs.lemmas.List.{take_more, get_or-take, get_or_read}
use Rattle.std.proofs.lemmas.List.Elements.{All-head, All-tail}
use Rattle.std.proofs.lemmas.List.Sorted.{IsPermutation-insert, IsPermutation-trans, IsPermutation-cons, IsPermutation-to_front, All-permutation}
use Rattle.std.proofs.lemmas.List.Sums.{prefix_len-le-length}
use Rattle.std.specs.Cmp.Lexicographic.{slice_cmp, nat_list_cmp_total, texts_ties}
use Rattle.std.specs.declared.cmp.Ordering.{Ordering}
use Rattle.std.specs.declared.cmp.Ordering.TheVariants.{Less, Equal, Greater}
use Rattle.std.specs.List.{insert, position, position_or_len}
use Rattle.std.specs.List.Sorted.{IsPermutation}
use Rattle.std.specs.Ordering.{is_lt, is_eq, nat_cmp, ordering_reverse}
use Rattle.std.specs.Str.{bytes_eq}
use Rattle.list_laws.proofs.Tests.{and_true}
use Rattle.subj.specs.QueueNames.{is_before, is_before_first, are_rising}
use Rattle.mesh_file.specs.Pairs.{AreApart}
use Rattle.mesh_file.specs.Servers.{names_of, is_before_server}
use Rattle.mesh_file.specs.declared.faults.Shared.TheVariants.{Name}
use Rattle.mesh_file.specs.declared.servers.MeshServer.{MeshServer}

-- of two names that are not the same, one is before the other
other_way : (a b : List ℕ) → is_before a b ≡ false → bytes_eq b a ≡ false → is_before b a ≡ true
other_way a b unlike apart =
    go (slice_cmp nat_cmp a b) (slice_cmp nat_cmp b a) (nat_list_cmp_total.antisymm b a) unlike
    (sym (texts_ties b a) ∙ apart)
  where
    go : (r s : Ordering) → s ≡ ordering_reverse r → is_lt r ≡ false → is_eq s ≡ false → is_lt s ≡ true
    go Less s e unlike apart = absurd (true≢false unlike)
    go Equal s e unlike apart = absurd (true≢false (sym (ap is_eq e) ∙ apart))
    go Greater s e unlike apart = ap is_lt e

-- the place of the first server that is behind this one
abbrev pub place_among : MeshServer → List MeshServer → ℕ
place_among server servers = position_or_len (λ other. is_before_server server other) servers

pub place_among-le : (server : MeshServer) (servers : List MeshServer) → place_among server servers ≤ length servers
place_among-le server servers = prefix_len-le-length (λ other. not (is_before_server server other)) servers

place_from : (m n : ℕ) (found : Option ℕ)
    → m ≤ n
    → found ≡ cond (nat_lt m n) (Some m) None
    → MatchOption found (n ≡ m) (λ place. place ≡ m)
place_from m n None within same = grind (arith, nat_tests)
place_from m n (Some place) within same = grind (arith, nat_tests)

-- by the first place that passes, or the end
pub found_place : (server : MeshServer) (servers : List MeshServer) (found : Option ℕ)
    → found ≡ position (λ other. is_before_server server other) servers
    → MatchOption found (length servers ≡ place_among server servers) (λ place. place ≡ place_among server servers)
found_place server servers found same =
    place_from (place_among server servers) (length servers) found (place_among-le server servers) same

-- the server with its name before that of the first one goes to the front
insert_front : (server y : MeshServer) (ys : List MeshServer) → is_before server.name y.name ≡ true
    → insert (y ∷ ys) (place_among server (y ∷ ys)) server ≡ server ∷ y ∷ ys
insert_front server y ys before =
    subst (λ b. insert (y ∷ ys) (cond (not b) (1 + place_among server ys) 0) server ≡ server ∷ y ∷ ys) (sym before) refl

-- else it goes behind the first one
insert_behind : (server y : MeshServer) (ys : List MeshServer) → is_before server.name y.name ≡ false
    → insert (y ∷ ys) (place_among server (y ∷ ys)) server ≡ y ∷ insert ys (place_among server ys) server
insert_behind server y ys behind =
    let next : suc (place_among server ys) ≡ 1 + place_among server ys = omega arith in
    subst (λ b.
    insert (y ∷ ys) (cond (not b) (1 + place_among server ys) 0) server ≡ y ∷ insert ys (place_among server ys) server)
    (sym behind) (subst (λ n. insert (y ∷ ys) n server ≡ y ∷ insert ys (place_among server ys) server) next refl)

-- what stands first is before what is put among those behind it
first_stays : (y server : MeshServer) (ys : List MeshServer)
    → is_before y.name server.name ≡ true
    → are_rising (names_of (y ∷ ys)) ≡ true
    → is_before_first y.name (names_of (insert ys (place_among server ys) server)) ≡ true
first_stays y server [] after rising = after
first_stays y server (z ∷ zs) after rising =
    go (is_before server.name z.name) refl
  where
    go : (b : Bool)
        → is_before server.name z.name ≡ b
        → is_before_first y.name (names_of (insert (z ∷ zs) (place_among server (z ∷ zs)) server)) ≡ true
    go true e =
        subst (λ servers. is_before_first y.name (names_of servers) ≡ true) (sym (insert_front server z zs e)) after
    go false e = subst (λ servers. is_before_first y.name (names_of servers) ≡ true) (sym (insert_behind server z zs e))
        ((and_true (is_before y.name z.name) (are_rising (names_of (z ∷ zs))) rising).0)

both_true : (a b : Bool) → a ≡ true → b ≡ true → (a && b) ≡ true
both_true true b ha hb = hb
both_true false b ha hb = ha

-- a server whose name no other has goes to its place
rising_insert : (server : MeshServer) (xs : List MeshServer)
    → are_rising (names_of xs) ≡ true
    → All (λ other. bytes_eq other.name server.name ≡ false) xs
    → are_rising (names_of (insert xs (place_among server xs) server)) ≡ true
rising_insert server [] rising apart = refl
rising_insert server (y ∷ ys) rising apart =
    go (is_before server.name y.name) refl (rising_insert server ys
    ((and_true (is_before_first y.name (names_of ys)) (are_rising (names_of ys)) rising).1)
    (All-tail (λ other. bytes_eq other.name server.name ≡ false) y ys apart))
  where
    go : (b : Bool)
        → is_before server.name y.name ≡ b
        → are_rising (names_of (insert ys (place_among server ys) server)) ≡ true
        → are_rising (names_of (insert (y ∷ ys) (place_among server (y ∷ ys)) server)) ≡ true
    go true e rest =
        subst (λ servers. are_rising (names_of servers) ≡ true) (sym (insert_front server y ys e))
        (both_true _ _ e rising)
    go false e rest =
        let after =
        other_way server.name y.name e (All-head (λ other. bytes_eq other.name server.name ≡ false) y ys apart) in
        subst (λ servers. are_rising (names_of servers) ≡ true) (sym (insert_behind server y ys e))
        (both_true _ _ (first_stays y server ys after rising) rest)

-- those before a server have other names
apart_before : (all : List MeshServer) (i : ℕ) (server : MeshServer)
    → AreApart Name all
    → i < length all
    → server ≡ get_or all i server
    → All (λ other. bytes_eq other.name server.name ≡ false) (take i all)
apart_before all i server apart within stands k d low =
    let below : k < i = omega (arith, length-take i all) in
    subst (λ other. bytes_eq other.name server.name ≡ false) (sym (get_or-take i all k d below))
    (subst (λ other. bytes_eq (get_or all k d).name other.name ≡ false) (sym (get_or_read all i server within stands d))
    (apart k i d below within))

-- one server more, in its place
one_more : (all ordered : List MeshServer) (i place : ℕ) (server : MeshServer)
    → i < length all
    → server ≡ get_or all i server
    → IsPermutation (take i all) ordered
    → IsPermutation (take (i + 1) all) (insert ordered place server)
one_more all ordered i place server within stands so_far =
    subst (λ front. IsPermutation front (insert ordered place server))
    (sym (take_more all i server within ∙ ap (λ x. take i all ++ x ∷ []) (sym stands)))
    (IsPermutation-trans _ _ _ (IsPermutation-to_front (take i all) server)
    (IsPermutation-trans _ _ _ (IsPermutation-cons server _ _ so_far) (IsPermutation-insert ordered place server)))

pub inserted : (all ordered new slice : List MeshServer) (i place : ℕ) (server : MeshServer)
    → AreApart Name all
    → i < length all
    → server ≡ get_or all i server
    → IsPermutation (take i all) ordered
    → are_rising (names_of ordered) ≡ true
    → slice ≡ ordered
    → place ≡ place_among server slice
    → new ≡ insert ordered place server
    → IsPermutation (take (i + 1) all) new × (are_rising (names_of new) ≡ true)
inserted all ordered new slice i place server apart within stands so_far rising borrowed found put =
    let there : place ≡ place_among server ordered = found ∙ ap (place_among server) borrowed in
    let is : new ≡ insert ordered (place_among server ordered) server =
    put ∙ ap (λ n. insert ordered n server) there in (
      subst (IsPermutation (take (i + 1) all)) (sym is)
          (one_more all ordered i (place_among server ordered) server within stands so_far),
      subst (λ servers. are_rising (names_of servers) ≡ true) (sym is)
          (rising_insert server ordered rising
          (All-permutation (λ other. bytes_eq other.name server.name ≡ false) (take i all) ordered so_far
          (apart_before all i server apart within stands))),
    )
