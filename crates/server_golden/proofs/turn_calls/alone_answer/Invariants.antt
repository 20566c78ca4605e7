use Rattle.std.proofs.Common.{[], ◌∷◌, false}
use Rattle.server_golden.proofs.turn_calls.alone_answer.Given as goal

-- the server of the parts that were just made
abbrev pub ghosts-play_alone : goal.ghosts-play_alone
ghosts-play_alone g a = record { race = a.made.cells; lanes = a.made.far.lane ∷ []; keep = false }
