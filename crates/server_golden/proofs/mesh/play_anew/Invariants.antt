use Rattle.server_golden.proofs.mesh.play_anew.Given as goal

-- the two servers of the parts that were just made
abbrev pub ghosts-play_with-M-NodeName : goal.ghosts-play_with-M-NodeName
ghosts-play_with-M-NodeName g a = record { race = a.parts.race; lanes = a.parts.lanes; keep = a.parts.keep }

abbrev pub ghosts-play_with-N-NodeName : goal.ghosts-play_with-N-NodeName
ghosts-play_with-N-NodeName g a = record { race = a.others.race; lanes = a.others.lanes; keep = a.others.keep }
