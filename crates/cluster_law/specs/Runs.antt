-- What a run never undoes, and how a machine that knows more has these laws too.
use Rattle.std.specs.Prelude.{◌≡◌, ◌⊎◌, ℕ, ◌≤◌, true, List, [], ◌∷◌, slice_get, Some}
use Rattle.cluster_law.specs.Config.{Config, every_rule}
use Rattle.cluster_law.specs.Shard.{Shard}
use Rattle.cluster_law.specs.Node.{Node}
use Rattle.cluster_law.specs.Cluster.{World, Event, Step}

-- Of an incarnation that is up in both worlds, no shard's finished turns became fewer. With the
-- order of each line this is: a finished turn never comes again.
abbrev pub TurnsStay : World → World → Type 0
TurnsStay w w' =
    (n : ℕ) (a b : Node)
    → slice_get w.nodes n ≡ Some a
    → slice_get w'.nodes n ≡ Some b
    → a.up ≡ true
    → b.up ≡ true
    → b.inc ≡ a.inc
    → (s : ℕ) (x y : Shard)
    → slice_get a.shards s ≡ Some x
    → slice_get b.shards s ≡ Some y
    → x.finished ≤ y.finished

-- The next world of a machine that knows more of its nodes, as far as this one sees it: a step, or
-- nothing at all.
abbrev pub Follows : Config → World → World → Type 0
Follows c w w' = ((e : Event) × Step every_rule c w e w') ⊎ (w' ≡ w)

-- The worlds that such a machine goes through, one after the other, seen so.
abbrev pub Path : Config → World → List World → Type 0
Path c w [] = Unit {0}
Path c w (v ∷ vs) = Follows c w v × Path c v vs
