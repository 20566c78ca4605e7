-- What the calls that take bytes in may answer.
use Rattle.std.specs.Prelude.{◌≡◌, ℕ, Option, None, Some, Result, Err, IsOkUnless, ⊤}
use Rattle.wire_cut.specs.declared.faults.CutFault.{CutFault}
use Rattle.wire_cut.specs.declared.faults.FeedFault.{FeedFault}
use Rattle.wire_cut.specs.declared.faults.FeedFault.TheVariants as feed
use Rattle.wire_cut.specs.declared.faults.FillFault.{FillFault}
use Rattle.wire_cut.specs.declared.faults.FillFault.TheVariants as fill

-- what `feed` may answer: the fault, where one was told, and else only want of memory keeps it from
-- taking the bytes
abbrev pub FeedAnswers : Option CutFault → Result (Unit {0}) FeedFault → Type 0
FeedAnswers (Some fault) result = result ≡ Err (feed.Cut fault)
FeedAnswers None result = IsOkUnless result feed.OutOfMemory

-- what a fill may answer: the fault, where one was told, and else none
abbrev pub FillAnswers : Option CutFault → Result ℕ FillFault → Type 0
FillAnswers (Some fault) result = result ≡ Err (fill.Cut fault)
FillAnswers None (Err (fill.Cut fault)) = ⊥
FillAnswers None result = ⊤
