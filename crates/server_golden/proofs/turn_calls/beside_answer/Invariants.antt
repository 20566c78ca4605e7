use Rattle.std.proofs.Common.{[], ◌∷◌, false}
use Rattle.server_golden.proofs.turn_calls.beside_answer.Given as goal

-- the server of the parts that were just made
abbrev pub ghosts-play_beside : goal.ghosts-play_beside
ghosts-play_beside g a = record { race = a.made.cells; lanes = a.made.far.lane ∷ []; keep = false }
