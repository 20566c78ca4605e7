use Rattle.std.proofs.Common.{◌≡◌, ◌+◌, [], All, length, sym, ap, ◌∙◌, subst, arith}
use Rattle.thread_node.specs.Parts.{IsNamed}
use Rattle.thread_node.proofs.Starting.{all_first, all_rest, none_pushed}
use Rattle.thread_node.proofs.node.locked_shards.Goals as goal

pub loop-part-init : goal.loop-part-init
loop-part-init g c = (
  subst (All (IsNamed g.N.NodeName.race g.N.NodeName.lanes)) (sym c.into_iter-part-iterator.ensures.into_iter_gives.0)
      c.requires.parts,
  omega (arith, c.new-lines.ensures.len),
  c.new-shards.ensures.len ∙ sym c.new-lines.ensures.len,
  subst (All (λ line. line.pushed ≡ [])) (sym c.new-lines.ensures.items) (none_pushed (λ line. line.pushed)),
)

pub add_shard-requires-clause-parts : goal.add_shard-requires-clause-parts
add_shard-requires-clause-parts g c =
    let named = IsNamed g.N.NodeName.race g.N.NodeName.lanes in
    all_first named c.in-Some.part c.next.new.self.rest.items
    (subst (All named) c.in-Some.ensures.steps.0 c.loop-part.invariant.0)

pub loop-part-preserved : goal.loop-part-preserved
loop-part-preserved g c =
    let i = c.loop-part.invariant in
    let named = IsNamed g.N.NodeName.race g.N.NodeName.lanes in
    let added = c.in_ok-add_shard.ensures in
    let step = c.in-Some.ensures.steps.0 in (
      all_rest named c.in-Some.part c.next.new.self.rest.items (subst (All named) step i.0),
      (let n = ap length step in omega (arith, added.line, i.1, n)),
      added.shard ∙ ap (λ n. n + 1) i.2 ∙ sym added.line,
      added.fresh i.3,
    )
