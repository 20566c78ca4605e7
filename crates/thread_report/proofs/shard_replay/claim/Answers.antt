use Rattle.thread_report.proofs.Replaying.{claims_again}
use Rattle.thread_report.proofs.shard_replay.claim.Goals as goal

pub returns-then-not-won : goal.returns-then-not-won
returns-then-not-won g c =
    claims_again c.claims_are_whole.ensures c.args.shard.now c.candidate.new.self c.args.index c.in-Ok-Some.field-0
    c.none-then-not-won.result c.args.won c.in-Ok-Some.ensures.0 c.in-Ok-Some.ensures.1 c.none-then-not-won.ensures
    c.if-not-won.true
