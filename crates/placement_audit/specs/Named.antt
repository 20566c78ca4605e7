-- Publications and subscriptions by their names.
use Rattle.std.specs.Prelude.{◌≡◌, List, [], map, filter, Option, Some, None}
use Rattle.std.specs.Borrow.{Bor}
use Rattle.std.specs.BTreeMap.{BTreeMap, get}
use Rattle.std.specs.declared.alloc.Global.{Global}
use Rattle.std.specs.declared.cmp.Ordering.{Ordering}
use Rattle.std.specs.declared.vec.Vec.{Vec}
use Rattle.cluster_world.specs.declared.records.Life.{Life}
use Rattle.cluster_world.specs.declared.records.Publication.{Publication}
use Rattle.world_law.specs.State as state
use Rattle.cluster_world.specs.InCode.{life_id_of}
use Rattle.placement_audit.specs.InCode.{lent_life, lent_publication}
use Rattle.placement_audit.specs.declared.keys.LifeKey.{LifeKey}
use Rattle.placement_audit.specs.declared.keys.PublicationKey.{PublicationKey}
use Rattle.placement_audit.specs.Keys.{is_life, is_publication, life_key_cmp, publication_key_cmp}

abbrev pub entries_in : {T : Type 0} → Option (Vec (Bor T) Global) → List (Bor T)
entries_in None = []
entries_in (Some list) = list.items

-- what stands under the key, keys being compared by cmp
abbrev pub named_at : {K T : Type 0} → (K → K → Ordering) → BTreeMap K (Vec (Bor T) Global) → K
    → List (Bor T)
named_at cmp named key = entries_in (get cmp named key)

-- under each name stand the publications that have it, in order
abbrev pub AreSources : BTreeMap PublicationKey (Vec (Bor Publication) Global)
    → List state.Publication
    → Type 0
AreSources sources publications =
    (key : PublicationKey)
    → map lent_publication (named_at publication_key_cmp sources key)
    ≡ filter (λ (s : state.Publication). is_publication s.id key.id) publications

-- and the subscriptions that have it
abbrev pub AreLives : BTreeMap LifeKey (Vec (Bor Life) Global) → List state.Life → Type 0
AreLives named lives =
    (key : LifeKey)
    → map lent_life (named_at life_key_cmp named key)
    ≡ filter (λ (l : state.Life). is_life l.id (life_id_of key.id)) lives
