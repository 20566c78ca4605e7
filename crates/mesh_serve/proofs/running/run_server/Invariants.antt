use Rattle.mesh_serve.proofs.running.run_server.Given as goal

-- the server of the parts that were just made
abbrev pub ghosts-run_named : goal.ghosts-run_named
ghosts-run_named g a = record { race = a.parts.race; lanes = a.parts.lanes; keep = a.parts.keep }
