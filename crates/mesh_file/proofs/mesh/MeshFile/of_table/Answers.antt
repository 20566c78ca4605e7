use Rattle.std.proofs.Common.{map}
use Rattle.std.proofs.lemmas.Result.{err_from_is_err_and}
use Rattle.std.specs.Option.{option_copied}
use Rattle.toml.specs.View.{view, table_view}
use Rattle.mesh_file.specs.Mesh.{IsFileFault, IsServersFault, bad_entries, bad_servers}
use Rattle.mesh_file.proofs.Described.{described, failure_of}
use Rattle.mesh_file.proofs.mesh.MeshFile.of_table.Goals as goal

pub returns-in-Err-entries_of : goal.returns-in-Err-entries_of
returns-in-Err-entries_of c =
    bad_entries (c.in-Ok.keys.shards, option_copied c.in-Ok.keys.secret_file, c.in-Ok.ensures.said)
    c.in-Err-entries_of.ensures

pub returns-in_err-servers : goal.returns-in_err-servers
returns-in_err-servers c =
    let p = err_from_is_err_and c.from_residual.result c.from_residual.ensures.1 in
    rw (p.1, p.2) (failure_of (IsServersFault (map view c.in-Ok-entries_of.entries.now))
    (IsFileFault (table_view c.args.file.now))
    (λ fault is.
    bad_servers (c.in-Ok.keys.shards, option_copied c.in-Ok.keys.secret_file, c.in-Ok.ensures.said)
    (map view c.in-Ok-entries_of.entries.now) c.in-Ok-entries_of.ensures is)
    c.in_err-servers.field-0.0 c.in_err-servers.ensures.read)

pub invariant_of-result : goal.invariant_of-result
invariant_of-result c =
    described (table_view c.args.file.now) (map view c.in-Ok-entries_of.entries.now) _ c.in-Ok-entries_of.ensures
    c.in_ok-servers.ensures.read c.in_ok-servers.ensures.valid c.in-Ok.ensures.within.0 c.in-Ok.ensures.within.1
