use Rattle.server_golden.proofs.nodes.first_answer.Given as goal

-- the server of the parts that were just made
abbrev pub ghosts-play : goal.ghosts-play
ghosts-play g a = record { race = a.parts.race; lanes = a.parts.lanes; keep = a.parts.keep }
