-- What a trie holds: values, each under the bytes of a pattern, in order of insertion.
use Rattle.std.specs.Prelude.{◌≡◌, ℕ, ◌+◌, ◌<◌, Bool, true, ◌&&◌, List, [], ◌∷◌, if◌then◌else◌}
use Rattle.std.specs.Str.{bytes_eq}
use Rattle.pattern_trie.specs.Beginnings.{is_beginning, beginning_with_rest}
use Rattle.pattern_trie.specs.Nodes.{Nodes, below_at, values_at, has_mark, one_if}

-- a pattern's bytes, and a value held under it
abbrev pub Held : Type 0 → Type 0
Held V = List ℕ × V

-- how many are held under patterns that begin so
abbrev pub count_below : {V : Type 0} → List ℕ → List (Held V) → ℕ
count_below q [] = 0
count_below q (h ∷ held) = one_if (is_beginning q h.0) + count_below q held

-- the values held under this pattern, in order of insertion
abbrev pub values_for : {V : Type 0} → List ℕ → List (Held V) → List V
values_for q [] = []
values_for q (h ∷ held) = if bytes_eq q h.0 then h.1 ∷ values_for q held else values_for q held

-- whether it is this value under this pattern, values being compared by eq
abbrev pub is_held : {V : Type 0} → (V → V → Bool) → List ℕ → V → Held V → Bool
is_held eq text value h = bytes_eq text h.0 && eq value h.1

-- the list without the first that is this value under this pattern
abbrev pub without_held : {V : Type 0} → (V → V → Bool) → List ℕ → V → List (Held V) → List (Held V)
without_held eq text value [] = []
without_held eq text value (h ∷ held) =
    if is_held eq text value h then held else h ∷ without_held eq text value held

-- the nodes are those of what is held; where a text goes on behind a beginning, its class is marked
-- there
pub record Holds {V : Type 0} (held : List (Held V)) (nodes : Nodes V) : Type 0 where
  pub counts : (q : List ℕ) → below_at nodes q ≡ count_below q held
  pub values : (q : List ℕ) → values_at nodes q ≡ values_for q held
  pub marks : (more q : List ℕ)
      → 0 < count_below (beginning_with_rest more q) held
      → has_mark more nodes q ≡ true
