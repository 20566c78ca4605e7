-- The names of publications and of subscriptions in order, and the keys under which an audit finds
-- them.
use Rattle.std.specs.Prelude.{ℕ, Bool, List, Option, Some, None, option_map}
use Rattle.std.specs.Cmp.{IsTotalOrder, nat_cmp_total, on_total, then_total}
use Rattle.std.specs.Cmp.Lexicographic.{slice_cmp, nat_list_cmp_total, options_total}
use Rattle.std.specs.Option.{option_cmp}
use Rattle.std.specs.Ordering.{nat_cmp, ordering_then, is_eq}
use Rattle.std.specs.declared.cmp.Ordering.{Ordering}
use Rattle.outbox.specs.declared.entries.Mode.{Mode}
use Rattle.outbox.specs.declared.entries.Mode.TheVariants.{Plain, Queue}
use Rattle.subj.specs.declared.identities.PubId.{PubId}
use Rattle.cluster_world.specs.declared.records.LifeId as code
use Rattle.cluster_world.specs.InCode.{life_id_of}
use Rattle.world_law.specs.State.{LifeId, Placement}
use Rattle.placement_audit.specs.declared.keys.LifeKey.{LifeKey}
use Rattle.placement_audit.specs.declared.keys.PublicationKey.{PublicationKey}
use Rattle.placement_audit.specs.declared.keys.Served.{Served}

-- ---- names in order

-- by the name of the server, its incarnation, and the number there
abbrev pub publication_cmp : PubId → PubId → Ordering
publication_cmp a b =
    ordering_then (ordering_then (slice_cmp nat_cmp a.origin b.origin) (nat_cmp a.inc b.inc))
    (nat_cmp a.number b.number)

-- by the place of the server, its incarnation, the shard, and the serial there
abbrev pub life_cmp : LifeId → LifeId → Ordering
life_cmp a b =
    ordering_then
    (ordering_then (ordering_then (nat_cmp a.node b.node) (nat_cmp a.inc b.inc))
    (nat_cmp a.sub.shard b.sub.shard))
    (nat_cmp a.sub.serial b.sub.serial)

abbrev pub code_life_cmp : code.LifeId → code.LifeId → Ordering
code_life_cmp a b = life_cmp (life_id_of a) (life_id_of b)

abbrev pub is_publication : PubId → PubId → Bool
is_publication a b = is_eq (publication_cmp a b)

abbrev pub is_life : LifeId → LifeId → Bool
is_life a b = is_eq (life_cmp a b)

-- ---- keys of publications and of subscriptions

abbrev pub publication_key_cmp : PublicationKey → PublicationKey → Ordering
publication_key_cmp a b = publication_cmp a.id b.id

abbrev pub life_key_cmp : LifeKey → LifeKey → Ordering
life_key_cmp a b = code_life_cmp a.id b.id

-- ---- for what a publication is placed once

-- a publication for a plain subscription, or for a queue name
pub record Once : Type 0 where
  pub id : PubId
  pub life : Option LifeId
  pub queue : Option (List ℕ)

abbrev pub once_cmp : Once → Once → Ordering
once_cmp a b =
    ordering_then (ordering_then (publication_cmp a.id b.id) (option_cmp life_cmp a.life b.life))
    (option_cmp (slice_cmp nat_cmp) a.queue b.queue)

abbrev pub is_once : Once → Once → Bool
is_once a b = is_eq (once_cmp a b)

abbrev pub plain_key : PubId → LifeId → Once
plain_key id life = record { id = id; life = Some life; queue = None }

abbrev pub member_key : PubId → List ℕ → Once
member_key id name = record { id = id; life = None; queue = Some name }

abbrev pub mode_key : PubId → LifeId → Mode → Once
mode_key id life Plain = plain_key id life
mode_key id life (Queue name) = member_key id name

abbrev pub key_of : Placement → Once
key_of p = mode_key p.id p.life p.mode

abbrev pub named_once : Served → Once
named_once s = record { id = s.id; life = option_map life_id_of s.life; queue = s.queue }

abbrev pub served_cmp : Served → Served → Ordering
served_cmp a b =
    ordering_then
    (ordering_then (publication_cmp a.id b.id) (option_cmp code_life_cmp a.life b.life))
    (option_cmp (slice_cmp nat_cmp) a.queue b.queue)

-- ---- these orders are total

pub publication_total : IsTotalOrder publication_cmp
publication_total =
    then_total
    (then_total (on_total (λ (p : PubId). p.origin) nat_list_cmp_total)
    (on_total (λ (p : PubId). p.inc) nat_cmp_total))
    (on_total (λ (p : PubId). p.number) nat_cmp_total)

pub life_total : IsTotalOrder life_cmp
life_total =
    then_total
    (then_total
    (then_total (on_total (λ (l : LifeId). l.node) nat_cmp_total)
    (on_total (λ (l : LifeId). l.inc) nat_cmp_total))
    (on_total (λ (l : LifeId). l.sub.shard) nat_cmp_total))
    (on_total (λ (l : LifeId). l.sub.serial) nat_cmp_total)

pub publication_key_total : IsTotalOrder publication_key_cmp
publication_key_total = on_total (λ (k : PublicationKey). k.id) publication_total

pub life_key_total : IsTotalOrder life_key_cmp
life_key_total = on_total (λ (k : LifeKey). life_id_of k.id) life_total

pub served_total : IsTotalOrder served_cmp
served_total =
    then_total
    (then_total (on_total (λ (s : Served). s.id) publication_total)
    (on_total (λ (s : Served). s.life) (options_total (on_total life_id_of life_total))))
    (on_total (λ (s : Served). s.queue) (options_total nat_list_cmp_total))
