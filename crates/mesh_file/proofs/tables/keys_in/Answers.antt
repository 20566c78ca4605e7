use Rattle.std.proofs.Common.{refl, sym, ap, is_some}
use Rattle.mesh_file.specs.Mesh.{unknown_in_mesh}
use Rattle.mesh_file.proofs.tables.keys_in.Goals as goal

pub returns-in-Some-unknown_key-clause-said : goal.returns-in-Some-unknown_key-clause-said
returns-in-Some-unknown_key-clause-said c =
    unknown_in_mesh (ap is_some (sym c.in-Some.ensures.same)) (ap is_some c.in-Some-secret_file_in.ensures)
    c.in-Some-unknown_key.key c.in-Some-unknown_key.ensures refl
