use Rattle.std.proofs.Common.{sym, ◌∙◌}
use Rattle.line_fields.proofs.FieldLemmas.{no_field, rest_begins}
use Rattle.line_fields.proofs.splitting.split_field.Goals as goal

pub returns-in_default : goal.returns-in_default
returns-in_default c = no_field c.args.text.now (sym c.first_other.ensures ∙ c.in_default.is)

pub split_at_blank-requires : goal.split_at_blank-requires
split_at_blank-requires c =
    (rest_begins c.args.text.now c.split_at.result.1.now _ (sym c.first_other.ensures ∙ c.in-Some.is)
    c.split_at.ensures.back).0

pub returns : goal.returns
returns c =
    (rest_begins c.args.text.now c.split_at.result.1.now _ (sym c.first_other.ensures ∙ c.in-Some.is)
    c.split_at.ensures.back).1
    ∙ c.split_at_blank.ensures.fields
