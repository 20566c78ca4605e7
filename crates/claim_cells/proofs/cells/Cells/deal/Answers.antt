use Rattle.std.proofs.Common.{rules}
use Rattle.subj.specs.declared.limits.TheConstants.{MAX_COUNTER, MAX_QUEUE_NAMES, WINDOW}
use Rattle.claim_cells.proofs.Rules.Opening.{opens}
use Rattle.claim_cells.proofs.cells.Cells.deal.Goals as goal

pub of_words-requires : goal.of_words-requires
of_words-requires c =
    opens MAX_COUNTER WINDOW MAX_QUEUE_NAMES c.args.shards (Unit {0}) c.as_slice.result.now (search rules)
