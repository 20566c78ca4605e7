use Rattle.std.proofs.Common.{◌≡◌, ℕ, List, true, drop, ap, subst, ◌∙◌}
use Rattle.std.specs.Prelude.{IfOk}
use Rattle.outbox.specs.Views.{message_run}
use Rattle.shard_core.specs.Closings.{id_of}
use Rattle.shard_core.specs.RunReceivers.{clients_with_entries}
use Rattle.shard_core.proofs.run_delivery.stage_for.Goals as goal

pub returns-clause-put : goal.returns-clause-put
returns-clause-put c =
    let r = c.args.receiver.now in
    let Put : List ℕ → ℕ → ℕ → Type 0 = λ head serial conn.
    IfOk c.stage_run.result (λ put.
    put ≡ true
    → c.stage_run.new.self.next
    ≡ clients_with_entries (message_run (id_of c.args.shard serial) head c.args.buffer.now.tails) conn
    c.args.conns.now.next) in
    subst (Put (drop 1 r.head) r.serial) c.conn.ensures
    (subst (λ k. Put (drop 1 r.head) k c.conn.result) c.serial-serial.ensures
    (subst (λ h. Put h c.serial-serial.result c.conn.result)
    (c.head-head.ensures.same ∙ ap (drop 1) c.head.ensures.same) c.stage_run.ensures.put))
