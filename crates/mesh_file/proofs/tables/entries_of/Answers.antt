use Rattle.std.proofs.Common.{◌≡◌, ◌<◌, ◌⊎◌, inl, inr, length, refl, sym, arith}
use Rattle.std.proofs.lemmas.Bool.Decides.{nat_tests}
use Rattle.subj.specs.declared.limits.TheConstants.{MAX_NODES}
use Rattle.toml.specs.View.{view, table_view}
use Rattle.mesh_file.specs.Mesh.{no_array, unknown_in_file}
use Rattle.mesh_file.proofs.Described.{count_fault}
use Rattle.mesh_file.proofs.tables.entries_of.Goals as goal
use Rattle.mesh_file.proofs.tables.entries_of.Goals.{then-is_empty-via-then-is_empty, then-is_empty-via-else-is_empty+then-entries-gt-MAX_NODES}

pub returns-in-Some : goal.returns-in-Some
returns-in-Some c = unknown_in_file c.in-Some.key c.in-Some.ensures refl

pub returns-in_default-as_array : goal.returns-in_default-as_array
returns-in_default-as_array c =
    no_array c.in_default.ensures (view c.in-Some-value_of.value.now) (sym c.in-Some-value_of.ensures)
    (sym c.in_default-as_array.ensures) refl

pub returns-then-is_empty : goal.returns-then-is_empty
returns-then-is_empty c =
    let out : (length c.as_slice-entries.result.now ≡ 0) ⊎ (MAX_NODES < length c.as_slice-entries.result.now) =
    elim c.then-is_empty.branch [
      | then-is_empty-via-then-is_empty w ↦ inl (grind (arith, nat_tests))
      | then-is_empty-via-else-is_empty+then-entries-gt-MAX_NODES w ↦ inr (omega arith)
    ] in
    count_fault (table_view c.args.file.now) (view c.in-Some-value_of.value.now) c.in-Some-as_array.entries.now.items
    c.as_slice-entries.result.now (length c.as_slice-entries.result.now) c.in_default.ensures c.in-Some-value_of.ensures
    c.in-Some-as_array.ensures c.as_slice-entries.ensures.value refl out
