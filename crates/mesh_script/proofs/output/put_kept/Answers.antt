use Rattle.mesh_script.proofs.output.put_kept.Goals as goal

pub returns-in-Some : goal.returns-in-Some
returns-in-Some c = rw (c.in-Some.is, ← c.get.ensures) c.put_with.ensures
