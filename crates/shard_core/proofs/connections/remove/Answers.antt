use Rattle.std.proofs.Common.{rules, ◌==◌, not}
use Rattle.std.proofs.lemmas.Fn.{filter_same}
use Rattle.shard_core.specs.declared.connections.Conn.{Conn}
use Rattle.shard_core.proofs.connections.remove.Goals as goal

pub returns : goal.returns
returns c =
    filter_same _ (λ (x : Conn). not (x.number == c.args.number)) _ (λ x b f' h. (search rules, search rules)) _ _
    c.retain.ensures.filtered
