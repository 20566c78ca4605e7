use Rattle.std.proofs.Common.{sym, ◌∙◌}
use Rattle.line_fields.proofs.FieldLemmas.{last_field, first_field, whole_again, whole_alone}
use Rattle.line_fields.proofs.splitting.split_at_blank.Goals as goal

pub returns-in-None : goal.returns-in-None
returns-in-None c = record {
  fields = last_field c.args.text.now c.requires (sym c.first_blank.ensures ∙ c.in-None.is);
  whole = whole_alone c.args.text.now;
}

pub returns-in-Some : goal.returns-in-Some
returns-in-Some c = record {
  fields =
      first_field c.args.text.now c.split_at.result.0.now c.split_at.result.1.now _ c.requires
      (sym c.first_blank.ensures ∙ c.in-Some.is) c.split_at.ensures.front c.split_at.ensures.back;
  whole =
      whole_again c.args.text.now c.split_at.result.0.now c.split_at.result.1.now _ c.split_at.ensures.front
      c.split_at.ensures.back;
}
