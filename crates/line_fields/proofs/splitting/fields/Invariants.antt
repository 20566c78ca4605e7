use Rattle.std.proofs.Common.{◌≡◌, ◌++◌, length}
use Rattle.line_fields.specs.Fields.{fields, texts}
use Rattle.line_fields.proofs.splitting.fields.Given as goal

-- the fields so far and those of the rest are all
abbrev pub invariant-loop-field : goal.invariant-loop-field
invariant-loop-field l = texts l.all.items ++ fields l.rest ≡ fields l.fn.text

abbrev pub decreases-loop-field : goal.decreases-loop-field
decreases-loop-field l = length (fields l.rest)
