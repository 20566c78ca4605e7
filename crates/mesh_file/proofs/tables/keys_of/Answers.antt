use Rattle.std.proofs.Common.{inr, refl, sym, ap, ◌∙◌}
use Rattle.std.proofs.lemmas.Result.{MatchResult-weaker}
use Rattle.toml.specs.Data.{no_members}
use Rattle.toml.specs.View.{table_view}
use Rattle.mesh_file.specs.Mesh.{mesh_in}
use Rattle.mesh_file.proofs.tables.keys_of.Goals as goal

pub returns-in_default-clause-said : goal.returns-in_default-clause-said
returns-in_default-clause-said c = (
  no_members,
  ap mesh_in (sym c.in_default.ensures),
  record { shards_said = refl; secret_said = refl; known = refl },
)

pub returns-in-Some-as_table-clause-said : goal.returns-in-Some-as_table-clause-said
returns-in-Some-as_table-clause-said c =
    let said = ap mesh_in (sym c.in-Some.ensures) ∙ sym c.in-Some-as_table.ensures in
    MatchResult-weaker c.keys_in.result c.keys_in.ensures.said
    (λ keys are. (table_view c.in-Some-as_table.table.now, said, are))
    (λ fault is. inr (table_view c.in-Some-as_table.table.now, said, is))
