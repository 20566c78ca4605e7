use Rattle.std.proofs.Common.{refl}
use Rattle.shard_core.proofs.Clients.Told.{nothing_put}
use Rattle.shard_core.proofs.shard.shut_with.Goals as goal

pub returns-in_err-serials-clause-told : goal.returns-in_err-serials-clause-told
returns-in_err-serials-clause-told g c =
    nothing_put c.args.conns.now.shown c.args.conns.now.shown c.args.dirty_conns.now refl
