-- What stands behind the first field of a line.
use Rattle.std.proofs.Common.{◌≡◌, ℕ, List, [], ◌∷◌, ◌++◌, length, drop, refl, ap, ◌∙◌}

pub drop_front : (front behind : List ℕ) → drop (length front) (front ++ behind) ≡ behind
drop_front [] behind = refl
drop_front (x ∷ front) behind = drop_front front behind

pub behind_first : (line front behind : List ℕ) → line ≡ front ++ behind → drop (length front) line ≡ behind
behind_first line front behind is = ap (drop (length front)) is ∙ drop_front front behind
