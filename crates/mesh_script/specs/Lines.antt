-- The bytes of lines (profile).
use Rattle.std.specs.Prelude.{ℕ, List, [], ◌∷◌, ◌++◌, codes, decimal}
use Rattle.world_law.specs.Written.{fields}

-- each ends with LF
abbrev pub lines_text : List (List ℕ) → List ℕ
lines_text [] = []
lines_text (line ∷ lines) = (line ++ codes "\n") ++ lines_text lines

-- the last line: how many events there were, and how many placements
abbrev pub end_line : ℕ → ℕ → List ℕ
end_line events placements = codes "end" ++ fields (decimal events ∷ decimal placements ∷ [])

-- a refusal, by its number
abbrev pub refused_text : List ℕ → ℕ → List ℕ
refused_text what number = (what ++ (codes " refused " ++ decimal number)) ++ codes "\n"
