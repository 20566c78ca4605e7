use Rattle.std.proofs.Common.{rules}
use Rattle.thread_tests.proofs.Claims.{each_of_two}
use Rattle.thread_tests.proofs.claim_tests.end_of_two.Goals as goal

pub close-requires-clause-each : goal.close-requires-clause-each
close-requires-clause-each c =
    each_of_two c.args.cells.shards c.push-2.new.self.items c.args.first c.args.second c.requires.count (search rules)
    c.requires.shard_1 c.requires.shard_2
