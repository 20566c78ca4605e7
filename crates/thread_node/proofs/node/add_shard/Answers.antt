use Rattle.std.proofs.Common.{◌≡◌, [], All, sym, ap, subst}
use Rattle.node_threads.specs.Outlets.{LaneSender}
use Rattle.thread_node.proofs.Starting.{all_snoc}
use Rattle.thread_node.proofs.node.add_shard.Goals as goal

pub returns-clause-fresh : goal.returns-clause-fresh
returns-clause-fresh g c = λ all.
    subst (All (λ l. l.pushed ≡ [])) (sym c.in_ok-push.ensures.items)
    (all_snoc (λ l. l.pushed ≡ []) c.args.lines.now.items c.new-line.result all
    (ap (λ (l : LaneSender). l.pushed) c.new-line.ensures))
