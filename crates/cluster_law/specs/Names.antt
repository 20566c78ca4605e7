-- How things are named all over the cluster. A node is named by its place in the list of nodes, a
-- shard by its place in its node, both counted from 0.
use Rattle.std.specs.Prelude.{ℕ, List}

-- Subjects, patterns, queue names, sids and payloads: bytes, each below 256.
abbrev pub Bytes : Type 0
Bytes = List ℕ

-- A publication: the node that accepted it, that node's incarnation, and its number there, counted
-- from 1 (profile).
pub record PubId : Type 0 where
  pub origin : ℕ
  pub inc : ℕ
  pub number : ℕ

-- A subscription, over all nodes and incarnations: serials count a shard's openings from 1
-- (profile).
pub record LifeId : Type 0 where
  pub node : ℕ
  pub inc : ℕ
  pub shard : ℕ
  pub serial : ℕ
