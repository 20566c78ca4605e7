-- What a node's clients wait for, as the other nodes hear of it ("Cluster Protocol": RS+, RS-;
-- numbers, snapshots and weights: profile).
use Rattle.std.specs.Prelude.{◌&&◌, ℕ, zero, suc, List, [], ◌∷◌, Option, cond, nat_eq}
use Rattle.cluster_law.specs.Names.{Bytes}

-- A pattern, with a queue name or none.
pub record Key : Type 0 where
  pub pattern : Bytes
  pub queue : Option Bytes

-- Of a queue key the number of its open subscriptions; of a plain key 1.
pub record Weighted : Type 0 where
  pub key : Key
  pub weight : ℕ

-- All that one incarnation has told of its interest.
abbrev pub View : Type 0
View = List Weighted

-- A change of an incarnation's interest. No rule looks into it: how it acts on a view is a
-- parameter of the machine.
pub data Change : Type 0 where
  Up : (weighted : Weighted) → Change
  Gone : (key : Key) → Change
  -- a node that drains waits for nothing any more
  Cleared : Change

-- A change that was made, in the history of the cluster.
pub record Noted : Type 0 where
  pub node : ℕ
  pub inc : ℕ
  pub change : Change

-- The changes of one incarnation, in order.
abbrev pub changes_of : List Noted → ℕ → ℕ → List Change
changes_of [] node inc = []
changes_of (x ∷ xs) node inc =
    cond (nat_eq x.node node && nat_eq x.inc inc) (x.change ∷ changes_of xs node inc)
    (changes_of xs node inc)

-- A view after the first of these changes, as many as are asked for.
abbrev pub view_after : (Change → View → View) → List Change → ℕ → View → View
view_after follow [] count view = view
view_after follow (x ∷ xs) zero view = view
view_after follow (x ∷ xs) (suc count) view = view_after follow xs count (follow x view)
