-- The decimal digits of a number give it back, so a line has one number.
use Rattle.std.proofs.Common.{◌≡◌, ℕ, zero, suc, ◌+◌, ◌-◌, ◌*◌, ◌/◌, ◌%◌, ◌^◌, ◌<◌, ◌≤◌, List, [], ◌∷◌, ◌++◌, length, take, drop, Some, nat_lt, false, refl, sym, ◌∙◌, ap, arith, length-append, append_assoc}
use Rattle.std.proofs.lemmas.List.{take_at, drop_at}
use Rattle.std.proofs.Math.Nat.{pow-suc}
use Rattle.incarnation_file.specs.Line.{digits, value_from, checksum_from, body, line_of, IsLine}
use Rattle.std.proofs.lemmas.Bool.Decides.{nat_tests}
use Rattle.subj.specs.Numbers.{incarnation_of}
use Rattle.list_laws.proofs.Tests.{false_eq}
use Rattle.subj.specs.declared.limits.TheConstants.{MAX_INCARNATION}
use Rattle.incarnation_file.specs.declared.raising.TheConstants.{CHECKSUM_DIGITS, NUMBER_DIGITS, NUMBER_START, NAME_START}

pub digits-zero : (k n : ℕ) → k ≡ 0 → digits k n ≡ []
unfolding digits
digits-zero zero n is = refl
digits-zero (suc k) n is = absurd (omega (arith, is))

pub digits-more : (k n : ℕ) → 0 < k → digits k n ≡ digits (k - 1) (n / 10) ++ (48 + n % 10) ∷ []
unfolding digits
digits-more zero n lt = absurd (omega (arith, lt))
digits-more (suc k) n lt =
    let same : suc k - 1 ≡ k = omega arith in ap (λ j. digits j (n / 10) ++ (48 + n % 10) ∷ []) (sym same)

pub length-digits : (k n : ℕ) → length (digits k n) ≡ k
unfolding digits
length-digits zero n = refl
length-digits (suc k) n =
    omega (arith, length-append (digits k (n / 10)) ((48 + n % 10) ∷ []), length-digits k (n / 10))

pub value_from-ge : (v : ℕ) (xs : List ℕ) → v ≤ value_from v xs
value_from-ge v [] = omega arith
value_from-ge v (x ∷ xs) = omega (arith, value_from-ge (10 * v + (x - 48)) xs)

-- a number that is too great stays so
pub value_from-past : (v x : ℕ) (xs : List ℕ) → MAX_INCARNATION / 10 < v → MAX_INCARNATION < value_from v (x ∷ xs)
value_from-past v x xs lt = omega (arith, lt, value_from-ge (10 * v + (x - 48)) xs)

value_from-push : (v : ℕ) (xs : List ℕ) (d : ℕ) → value_from v (xs ++ d ∷ []) ≡ 10 * value_from v xs + (d - 48)
value_from-push v [] d = refl
value_from-push v (x ∷ xs) d = value_from-push (10 * v + (x - 48)) xs d

pub value-digits : (k n : ℕ) → n < 10 ^ k → value_from 0 (digits k n) ≡ n
unfolding digits
value-digits zero n lt = omega (arith, lt)
value-digits (suc k) n lt =
    let less : n / 10 < 10 ^ k = omega (arith, lt, pow-suc 10 k) in
    omega (arith, value_from-push 0 (digits k (n / 10)) (48 + n % 10), value-digits k (n / 10) less)

-- the line in its parts
abbrev head_of : List ℕ → ℕ → List ℕ
head_of server n = digits CHECKSUM_DIGITS (checksum_from 0 (body server n)) ++ 32 ∷ []

abbrev tail_of : List ℕ → List ℕ
tail_of server = 32 ∷ (server ++ 10 ∷ [])

split_at : (sum number server : List ℕ)
    → sum ++ 32 ∷ ((number ++ 32 ∷ server) ++ 10 ∷ []) ≡ (sum ++ 32 ∷ []) ++ (number ++ 32 ∷ (server ++ 10 ∷ []))
split_at sum number server = grind (arith, append_assoc)

split_behind : (front number server : List ℕ)
    → front ++ (number ++ 32 ∷ (server ++ 10 ∷ [])) ≡ (front ++ (number ++ 32 ∷ [])) ++ (server ++ 10 ∷ [])
split_behind front number server = grind (arith, append_assoc)

line_split : (server : List ℕ) (n : ℕ)
    → line_of server n ≡ head_of server n ++ (digits NUMBER_DIGITS n ++ tail_of server)
unfolding line_of body
line_split server n =
    split_at (digits CHECKSUM_DIGITS (checksum_from 0 (body server n))) (digits NUMBER_DIGITS n) server

length-head : (server : List ℕ) (n : ℕ) → length (head_of server n) ≡ NUMBER_START
length-head server n =
    omega (
      arith,
      length-append (digits CHECKSUM_DIGITS (checksum_from 0 (body server n))) (32 ∷ []),
      length-digits CHECKSUM_DIGITS (checksum_from 0 (body server n)),
    )

number_at : (server : List ℕ) (n : ℕ)
    → take NUMBER_DIGITS (drop NUMBER_START (line_of server n)) ≡ digits NUMBER_DIGITS n
number_at server n =
    ap (λ (l : List ℕ). take NUMBER_DIGITS (drop NUMBER_START l)) (line_split server n)
    ∙ ap (λ (l : List ℕ). take NUMBER_DIGITS l)
    (drop_at (head_of server n) (digits NUMBER_DIGITS n ++ tail_of server) NUMBER_START (length-head server n))
    ∙ take_at (digits NUMBER_DIGITS n) (tail_of server) NUMBER_DIGITS (length-digits NUMBER_DIGITS n)

pub length-line : (server : List ℕ) (n : ℕ) → length (line_of server n) ≡ NAME_START + 1 + length server
length-line server n =
    omega (
      arith,
      ap length (line_split server n),
      length-head server n,
      length-append (head_of server n) (digits NUMBER_DIGITS n ++ tail_of server),
      length-append (digits NUMBER_DIGITS n) (tail_of server),
      length-append server (10 ∷ []),
      length-digits NUMBER_DIGITS n,
    )

name_at : (server : List ℕ) (n : ℕ) → drop NAME_START (line_of server n) ≡ server ++ 10 ∷ []
name_at server n =
    let front = head_of server n ++ (digits NUMBER_DIGITS n ++ 32 ∷ []) in
    let is_long : length front ≡ NAME_START = omega (
      arith,
      length-head server n,
      length-append (head_of server n) (digits NUMBER_DIGITS n ++ 32 ∷ []),
      length-append (digits NUMBER_DIGITS n) (32 ∷ []),
      length-digits NUMBER_DIGITS n,
    ) in
    ap (λ (l : List ℕ). drop NAME_START l)
    (line_split server n ∙ split_behind (head_of server n) (digits NUMBER_DIGITS n) server)
    ∙ drop_at front (server ++ 10 ∷ []) NAME_START is_long

-- a line has one number
pub one_number : (server : List ℕ) (m n : ℕ)
    → m ≤ MAX_INCARNATION
    → n ≤ MAX_INCARNATION
    → line_of server m ≡ line_of server n
    → m ≡ n
one_number server m n m_most n_most same =
    sym (value-digits NUMBER_DIGITS m (omega (arith, m_most)))
    ∙ ap (value_from 0)
    (sym (number_at server m) ∙ ap (λ (l : List ℕ). take NUMBER_DIGITS (drop NUMBER_START l)) same ∙ number_at server n)
    ∙ value-digits NUMBER_DIGITS n (omega (arith, n_most))

pub body_is : (server : List ℕ) (n : ℕ) → body server n ≡ digits NUMBER_DIGITS n ++ 32 ∷ server
unfolding body
body_is server n = refl

pub line_is : (server : List ℕ) (n : ℕ)
    → line_of server n ≡ digits CHECKSUM_DIGITS (checksum_from 0 (body server n)) ++ 32 ∷ (body server n ++ 10 ∷ [])
unfolding line_of
line_is server n = refl

not_lt : (a b : ℕ) → b ≤ a → nat_lt a b ≡ false
not_lt a b le = grind (arith, nat_tests, le)

incarnation-of-some : (n : ℕ) → 1 ≤ n → n ≤ MAX_INCARNATION → incarnation_of n ≡ Some n
incarnation-of-some n least most =
    rw (false_eq n 0 (λ e. omega (arith, e, least))) (rw (not_lt MAX_INCARNATION n most) refl)

-- what stands at the places of the number and of the name
pub line_is_long : (server bytes : List ℕ) (n : ℕ) → IsLine server n bytes → NAME_START < length bytes
line_is_long server bytes n line = omega (arith, ap length line.whole, length-line server n)

number_there : (server bytes : List ℕ) (n : ℕ)
    → IsLine server n bytes
    → value_from 0 (take NUMBER_DIGITS (drop NUMBER_START bytes)) ≡ n
number_there server bytes n line =
    ap (λ (l : List ℕ). value_from 0 (take NUMBER_DIGITS (drop NUMBER_START l))) line.whole
    ∙ ap (value_from 0) (number_at server n)
    ∙ value-digits NUMBER_DIGITS n (omega (arith, line.most))

pub incarnation_there : (server bytes : List ℕ) (n read : ℕ)
    → IsLine server n bytes
    → (value_from 0 (take NUMBER_DIGITS (drop NUMBER_START bytes)) ≤ MAX_INCARNATION
    → read ≡ value_from 0 (take NUMBER_DIGITS (drop NUMBER_START bytes)))
    → incarnation_of read ≡ Some n
incarnation_there server bytes n read line is =
    let there = number_there server bytes n line in
    let same : read ≡ n = is (omega (arith, there, line.most)) ∙ there in
    ap incarnation_of same ∙ incarnation-of-some n line.least line.most

pub server_there : (server bytes : List ℕ) (n : ℕ)
    → IsLine server n bytes
    → take (length bytes - 1 - NAME_START) (drop NAME_START bytes) ≡ server
server_there server bytes n line =
    let count = length bytes - 1 - NAME_START in
    ap (λ (l : List ℕ). take count (drop NAME_START l)) line.whole
    ∙ ap (λ (l : List ℕ). take count l) (name_at server n)
    ∙ take_at server (10 ∷ []) count (omega (arith, ap length line.whole, length-line server n))
