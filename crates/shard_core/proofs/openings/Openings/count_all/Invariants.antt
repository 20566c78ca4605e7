use Rattle.std.proofs.Common.{◌≡◌, drop}
use Rattle.shard_core.specs.Opened.{AreApart, CanCountEach, with_counts}
use Rattle.shard_core.proofs.openings.Openings.count_all.Given as goal

abbrev pub invariant-loop-serial : goal.invariant-loop-serial
invariant-loop-serial g l = record {
  apart : AreApart (drop l.serial-index l.given);
  room : CanCountEach (drop l.serial-index l.given) l.self.subs;
  rest : with_counts (drop l.serial-index l.given) l.self ≡ with_counts l.given l.fn.self;
}
