-- What a hasher of texts computes.
use Rattle.std.specs.Prelude.{ℕ, ◌+◌, ◌*◌, ◌%◌, ◌^◌, List, [], ◌∷◌, fold, nat_le, if◌then◌else◌}
use Rattle.std.specs.Hash as fed
use Rattle.std.specs.Hash.FoldHasher as folding
use Rattle.std.specs.declared.hash.FoldHasher.{FoldHasher}
use Rattle.pattern_trie.specs.declared.text_hasher.TextHasher.{TextHasher}

abbrev pub initial : TextHasher
initial = record { whole = folding.initial; word = 0; filled = 0 }

-- a word more
abbrev pub with_word : FoldHasher → ℕ → FoldHasher
with_word whole word = fold folding.write whole (fed.u64 word)

-- the bytes that are not fed yet, and one more
abbrev pub word_with : ℕ → ℕ → ℕ
word_with word byte = (word * 256 % 2 ^ 64 + byte) % 2 ^ 64

-- one byte more: every eighth feeds a word
abbrev pub with_byte : TextHasher → ℕ → TextHasher
with_byte h byte =
    if nat_le 7 h.filled
    then record { whole = with_word h.whole (word_with h.word byte); word = 0; filled = 0 }
    else record { whole = h.whole; word = word_with h.word byte; filled = h.filled + 1 }

-- single bytes are gathered, and longer runs are fed at once
abbrev pub write : TextHasher → List ℕ → TextHasher
write h [] = record h { whole = folding.write h.whole [] }
write h (byte ∷ []) = with_byte h byte
write h (a ∷ b ∷ bytes) = record h { whole = folding.write h.whole (a ∷ b ∷ bytes) }

abbrev pub finish : TextHasher → ℕ
finish h = folding.finish (with_word h.whole h.word)
