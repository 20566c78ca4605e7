use Rattle.thread_tests.proofs.node_tests.played.Given as goal

-- the server of the parts that were just made
abbrev pub ghosts-stage : goal.ghosts-stage
ghosts-stage g a = record { race = a.parts.race; lanes = a.parts.lanes; keep = a.parts.keep }
