use Rattle.std.proofs.Common.{◌≡◌, drop}
use Rattle.list_laws.specs.Lists.{Each}
use Rattle.shard_core.specs.Opened.{AreApart}
use Rattle.shard_core.specs.RunSteps.{CanCountMore, subs_by_serials}
use Rattle.shard_core.proofs.openings.Openings.count_run.Given as goal

-- what is left to be counted comes to the whole
abbrev pub invariant-loop-serial : goal.invariant-loop-serial
invariant-loop-serial g l = record {
  apart : AreApart (drop l.serial-index l.given);
  room : Each (λ serial. CanCountMore l.count serial l.self.subs) (drop l.serial-index l.given);
  rest : record l.self { subs = subs_by_serials l.count (drop l.serial-index l.given) l.self.subs }
      ≡ record l.fn.self { subs = subs_by_serials l.count l.given l.fn.self.subs };
}
