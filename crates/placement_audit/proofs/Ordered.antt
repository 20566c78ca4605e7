-- Names that are equal in order are the same.
use Rattle.std.proofs.Common.{◌≡◌, ℕ, true, ◌&&◌, true≢false, List, Option, Some, None, refl, sym, ap, ◌∙◌}
use Rattle.std.specs.Cmp.Lexicographic.{slice_cmp}
use Rattle.std.specs.Option.{option_cmp, option_map}
use Rattle.std.specs.Ordering.{nat_cmp, ordering_then, is_eq}
use Rattle.std.specs.declared.cmp.Ordering.{Ordering}
use Rattle.std.specs.declared.cmp.Ordering.TheVariants.{Less, Equal, Greater}
use Rattle.std.proofs.lemmas.Cmp.{tied_itself, nat_cmp_total, nat_list_cmp_total}
use Rattle.std.proofs.lemmas.Map.Lookups.{exact_unsigned, exact_bytes}
use Rattle.list_laws.proofs.Tests.{and_true}
use Rattle.subj.specs.declared.identities.PubId.{PubId}
use Rattle.world_law.specs.State.{LifeId}
use Rattle.cluster_world.specs.declared.records.LifeId as code
use Rattle.cluster_world.specs.InCode.{life_id_of}
use Rattle.placement_audit.specs.declared.keys.Served.{Served}
use Rattle.placement_audit.specs.Keys.{Once, code_life_cmp, is_life, is_once, is_publication, life_cmp, named_once, once_cmp, publication_cmp, served_cmp}

tied : (o : Ordering) → is_eq o ≡ true → o ≡ Equal
tied Less e = absurd (true≢false (sym e))
tied Equal e = refl
tied Greater e = absurd (true≢false (sym e))

-- ---- one order behind another

both_are : (a b : Ordering) → is_eq (ordering_then a b) ≡ (is_eq a && is_eq b)
both_are Less b = refl
both_are Equal b = refl
both_are Greater b = refl

both_tie : (a b : Ordering) → is_eq (ordering_then a b) ≡ true → (is_eq a ≡ true) × (is_eq b ≡ true)
both_tie a b e = and_true (is_eq a) (is_eq b) (sym (both_are a b) ∙ e)

tie_both : (a b : Ordering) → is_eq a ≡ true → is_eq b ≡ true → is_eq (ordering_then a b) ≡ true
tie_both a b e f = both_are a b ∙ ap (λ t. t && is_eq b) e ∙ f

-- ---- numbers and bytes

number_is : (a b : ℕ) → is_eq (nat_cmp a b) ≡ true → a ≡ b
number_is a b e = exact_unsigned a b (tied (nat_cmp a b) e)

number_itself : (a : ℕ) → is_eq (nat_cmp a a) ≡ true
number_itself a = ap is_eq (tied_itself nat_cmp_total a)

name_is : (a b : List ℕ) → is_eq (slice_cmp nat_cmp a b) ≡ true → a ≡ b
name_is a b e = exact_bytes a b (tied (slice_cmp nat_cmp a b) e)

name_itself : (a : List ℕ) → is_eq (slice_cmp nat_cmp a a) ≡ true
name_itself a = ap is_eq (tied_itself nat_list_cmp_total a)

-- ---- publications and subscriptions

pub publication_is : (a b : PubId) → is_publication a b ≡ true → a ≡ b
publication_is a b e =
    let server = ordering_then (slice_cmp nat_cmp a.origin b.origin) (nat_cmp a.inc b.inc) in
    let outer = both_tie server (nat_cmp a.number b.number) e in
    let inner = both_tie (slice_cmp nat_cmp a.origin b.origin) (nat_cmp a.inc b.inc) outer.0 in
    let origin = name_is a.origin b.origin inner.0 in
    let inc = number_is a.inc b.inc inner.1 in
    let number = number_is a.number b.number outer.1 in
    λ i. record { origin = origin i; inc = inc i; number = number i }

pub publication_itself : (a : PubId) → is_publication a a ≡ true
publication_itself a =
    tie_both (ordering_then (slice_cmp nat_cmp a.origin a.origin) (nat_cmp a.inc a.inc)) (nat_cmp a.number a.number)
    (tie_both (slice_cmp nat_cmp a.origin a.origin) (nat_cmp a.inc a.inc) (name_itself a.origin) (number_itself a.inc))
    (number_itself a.number)

pub life_is : (a b : LifeId) → is_life a b ≡ true → a ≡ b
life_is a b e =
    let server = ordering_then (nat_cmp a.node b.node) (nat_cmp a.inc b.inc) in
    let shard = ordering_then server (nat_cmp a.sub.shard b.sub.shard) in
    let outer = both_tie shard (nat_cmp a.sub.serial b.sub.serial) e in
    let middle = both_tie server (nat_cmp a.sub.shard b.sub.shard) outer.0 in
    let inner = both_tie (nat_cmp a.node b.node) (nat_cmp a.inc b.inc) middle.0 in
    let node = number_is a.node b.node inner.0 in
    let inc = number_is a.inc b.inc inner.1 in
    let at = number_is a.sub.shard b.sub.shard middle.1 in
    let serial = number_is a.sub.serial b.sub.serial outer.1 in
    λ i. record { node = node i; inc = inc i; sub = record { shard = at i; serial = serial i } }

pub life_itself : (a : LifeId) → is_life a a ≡ true
life_itself a =
    let server = ordering_then (nat_cmp a.node a.node) (nat_cmp a.inc a.inc) in
    let shard = ordering_then server (nat_cmp a.sub.shard a.sub.shard) in
    tie_both shard (nat_cmp a.sub.serial a.sub.serial)
    (tie_both server (nat_cmp a.sub.shard a.sub.shard)
    (tie_both (nat_cmp a.node a.node) (nat_cmp a.inc a.inc) (number_itself a.node) (number_itself a.inc))
    (number_itself a.sub.shard))
    (number_itself a.sub.serial)

-- ---- for what a publication is placed once

life_if_is : (a b : Option LifeId) → is_eq (option_cmp life_cmp a b) ≡ true → a ≡ b
life_if_is None None e = refl
life_if_is None (Some b) e = absurd (true≢false (sym e))
life_if_is (Some a) None e = absurd (true≢false (sym e))
life_if_is (Some a) (Some b) e = ap Some (life_is a b e)

life_if_itself : (a : Option LifeId) → is_eq (option_cmp life_cmp a a) ≡ true
life_if_itself None = refl
life_if_itself (Some a) = life_itself a

name_if_is : (a b : Option (List ℕ)) → is_eq (option_cmp (slice_cmp nat_cmp) a b) ≡ true → a ≡ b
name_if_is None None e = refl
name_if_is None (Some b) e = absurd (true≢false (sym e))
name_if_is (Some a) None e = absurd (true≢false (sym e))
name_if_is (Some a) (Some b) e = ap Some (name_is a b e)

name_if_itself : (a : Option (List ℕ)) → is_eq (option_cmp (slice_cmp nat_cmp) a a) ≡ true
name_if_itself None = refl
name_if_itself (Some a) = name_itself a

pub once_is : (a b : Once) → is_once a b ≡ true → a ≡ b
once_is a b e =
    let first = ordering_then (publication_cmp a.id b.id) (option_cmp life_cmp a.life b.life) in
    let outer = both_tie first (option_cmp (slice_cmp nat_cmp) a.queue b.queue) e in
    let inner = both_tie (publication_cmp a.id b.id) (option_cmp life_cmp a.life b.life) outer.0 in
    let id = publication_is a.id b.id inner.0 in
    let life = life_if_is a.life b.life inner.1 in
    let queue = name_if_is a.queue b.queue outer.1 in
    λ i. record { id = id i; life = life i; queue = queue i }

pub once_itself : (a : Once) → is_once a a ≡ true
once_itself a =
    tie_both (ordering_then (publication_cmp a.id a.id) (option_cmp life_cmp a.life a.life))
    (option_cmp (slice_cmp nat_cmp) a.queue a.queue)
    (tie_both (publication_cmp a.id a.id) (option_cmp life_cmp a.life a.life) (publication_itself a.id)
    (life_if_itself a.life))
    (name_if_itself a.queue)

-- ---- as the code has them

option_same : (a b : Option code.LifeId)
    → option_cmp life_cmp (option_map life_id_of a) (option_map life_id_of b) ≡ option_cmp code_life_cmp a b
option_same None None = refl
option_same None (Some b) = refl
option_same (Some a) None = refl
option_same (Some a) (Some b) = refl

pub same_order : (a b : Served) → once_cmp (named_once a) (named_once b) ≡ served_cmp a b
same_order a b =
    ap
    (λ o. ordering_then (ordering_then (publication_cmp a.id b.id) o) (option_cmp (slice_cmp nat_cmp) a.queue b.queue))
    (option_same a.life b.life)
