use Rattle.line_fields.proofs.SpellingFields.{line_fields_are, begins_with_fields}
use Rattle.line_fields.proofs.laws.line_is_its_fields.Goals as goal

pub returns : goal.returns
returns c = record {
  has = λ first others line is. line_fields_are first others line is;
  is = λ first others line is. begins_with_fields line first others is;
}
