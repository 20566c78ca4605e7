-- The one line of the file: a checksum of ten digits, a space, the incarnation in sixteen, a space,
-- the server's name, a line's end.
use Rattle.std.specs.Prelude.{ℕ, zero, suc, ◌+◌, ◌-◌, ◌*◌, ◌/◌, ◌%◌, ◌≤◌, ◌≡◌, List, [], ◌∷◌, ◌++◌, None}
use Rattle.subj.specs.Names.{node_name_fault}
use Rattle.subj.specs.declared.limits.TheConstants.{MAX_INCARNATION}
use Rattle.incarnation_file.specs.declared.raising.TheConstants.{BASE, PRIME, CHECKSUM_DIGITS, NUMBER_DIGITS}

-- n in decimal, with that many digits
unfoldable pub digits : ℕ → ℕ → List ℕ
digits zero n = []
digits (suc k) n = digits k (n / 10) ++ (48 + n % 10) ∷ []

-- the number that digits stand for, behind those of v
abbrev pub value_from : ℕ → List ℕ → ℕ
value_from v [] = v
value_from v (byte ∷ bytes) = value_from (10 * v + (byte - 48)) bytes

-- a number whose digits are the bytes, each one more than it is, behind those of sum; modulo a
-- prime
abbrev pub checksum_from : ℕ → List ℕ → ℕ
checksum_from sum [] = sum
checksum_from sum (byte ∷ bytes) = checksum_from ((BASE * sum + byte + 1) % PRIME) bytes

-- what the checksum is of
unfoldable pub body : List ℕ → ℕ → List ℕ
body server n = digits NUMBER_DIGITS n ++ 32 ∷ server

unfoldable pub line_of : List ℕ → ℕ → List ℕ
line_of server n =
    digits CHECKSUM_DIGITS (checksum_from 0 (body server n)) ++ 32 ∷ (body server n ++ 10 ∷ [])

-- the bytes are the whole line of this server and this incarnation
pub record IsLine (server : List ℕ) (n : ℕ) (bytes : List ℕ) : Type 0 where
  pub name : node_name_fault server ≡ None
  pub least : 1 ≤ n
  pub most : n ≤ MAX_INCARNATION
  pub whole : bytes ≡ line_of server n
