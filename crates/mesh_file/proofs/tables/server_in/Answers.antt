use Rattle.std.proofs.Common.{refl, sym, ◌∙◌}
use Rattle.std.proofs.lemmas.Result.{err_from_is_err_and}
use Rattle.mesh_file.specs.Entries.{no_key, unknown, one_port}
use Rattle.mesh_file.proofs.tables.server_in.Goals as goal

pub returns-in_err-server-clause-read : goal.returns-in_err-server-clause-read
returns-in_err-server-clause-read c =
    let p = err_from_is_err_and c.from_residual.result c.from_residual.ensures.1 in
    rw (p.1, p.2) (no_key c.in_err-server.ensures.read)

pub returns-in-Some-clause-read : goal.returns-in-Some-clause-read
returns-in-Some-clause-read c =
    unknown c.in_ok-server.server c.in_ok-server.ensures.read c.in-Some.key c.in-Some.ensures refl

pub returns-then-may_clash-clause-read : goal.returns-then-may_clash-clause-read
returns-then-may_clash-clause-read c =
    one_port c.in_ok-server.server c.in_ok-server.ensures.read c.in_default.ensures
    (sym c.may_clash.ensures ∙ c.if-may_clash.true) refl
