use Rattle.toml.specs.View.{view, table_view}
use Rattle.mesh_file.proofs.Texts.{text_of-none, text_of-other, text_of-string}
use Rattle.mesh_file.proofs.tables.text_of.Goals as goal

pub returns-in_default : goal.returns-in_default
returns-in_default c =
    text_of-none c.args.key c.text.result.now (table_view c.args.table.now) c.text.ensures c.in_default.ensures

pub returns-in-Some-as_str : goal.returns-in-Some-as_str
returns-in-Some-as_str c =
    text_of-string c.args.key c.text.result.now (table_view c.args.table.now) (view c.in-Some.value.now)
    c.in-Some-as_str.text.now c.text.ensures c.in-Some.ensures c.in-Some-as_str.ensures

pub returns-in-None : goal.returns-in-None
returns-in-None c =
    text_of-other c.args.key c.text.result.now (table_view c.args.table.now) (view c.in-Some.value.now) c.text.ensures
    c.in-Some.ensures c.in-None.ensures
