use Rattle.std.proofs.Common.{◌≡◌, ℕ, ◌<◌, ◌≤◌, length, Vec, arith}
use Rattle.std.specs.Vec.{vec_len}
use Rattle.thread_node.proofs.node.locked.Goals as goal

-- there is a line for each shard, and a server has a shard
some_lines : {X Z : Type 0} (lines : Vec X Z) (parts count shards all : ℕ)
    → vec_len lines ≡ parts → parts ≡ all → shards ≡ all → 1 ≤ count → count ≡ shards
    → 0 < length lines.items
some_lines lines parts count shards all as_many each same some told =
    let size = lines.ok.0 in omega (arith, size, as_many, each, same, some, told)

pub locked_hub-requires-clause-some : goal.locked_hub-requires-clause-some
locked_hub-requires-clause-some g c =
    some_lines c.in_ok-lines.lines _ _ _ _ c.in_ok-lines.ensures.lines.0 c.requires.each c.requires.shards
    c.shards-count.ensures.some c.shards-count.ensures.same
