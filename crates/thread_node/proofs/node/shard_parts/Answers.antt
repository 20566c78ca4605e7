use Rattle.std.proofs.Common.{[], ◌∷◌, ◌++◌, All, map, sym, ap, ◌∙◌, subst, append_assoc}
use Rattle.thread_node.specs.declared.node.ShardParts.{ShardParts}
use Rattle.thread_node.specs.Parts.{IsFreshLane}
use Rattle.thread_node.proofs.Starting.{all_snoc, map_snoc}
use Rattle.thread_node.proofs.node.shard_parts.Goals as goal

pub loop-seat-preserved : goal.loop-seat-preserved
loop-seat-preserved c =
    let i = c.loop-seat.invariant in
    let old = c.loop-seat.shards.items in
    let p = c.in_ok-part.part in
    let made = c.in_ok-part.ensures in
    let rest = c.next.new.self.rest.items in
    let items = c.in_ok-push.ensures.items in
    let all = λ (ps : _). map (λ (q : ShardParts). q.seat) ps ++ rest in (
      ap all items ∙ ap (λ l. l ++ rest) (map_snoc (λ (q : ShardParts). q.seat) old p)
          ∙ append_assoc (map (λ (q : ShardParts). q.seat) old) (p.seat ∷ []) rest
          ∙ ap (λ s. map (λ (q : ShardParts). q.seat) old ++ s ∷ rest) made.0
          ∙ ap (λ l. map (λ (q : ShardParts). q.seat) old ++ l) (sym c.in-Some.ensures.steps.0) ∙ i.0,
      subst (All (λ (q : ShardParts). IsFreshLane q.near q.far)) (sym items)
          (all_snoc (λ (q : ShardParts). IsFreshLane q.near q.far) old p i.1 made.1),
    )
