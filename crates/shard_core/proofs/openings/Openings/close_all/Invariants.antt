use Rattle.std.proofs.Common.{◌≡◌, drop}
use Rattle.shard_core.specs.Opened.{AreApart, with_closings}
use Rattle.shard_core.proofs.openings.Openings.close_all.Given as goal

abbrev pub invariant-loop-serial : goal.invariant-loop-serial
invariant-loop-serial g l = record {
  apart : AreApart (drop l.serial-index l.ended);
  rest : with_closings (drop l.serial-index l.ended) l.self ≡ with_closings l.ended l.fn.self;
}
