-- Numbers with one remainder, and places of pairs.
use Rattle.std.proofs.Common.{◌≡◌, ℕ, ◌+◌, ◌*◌, ◌/◌, ◌%◌, ◌<◌, ◌≤◌, ap, sym, ◌∙◌, arith, ⊎_elim}
use Rattle.std.proofs.Math.Nat.{mul-le-mul_right, div-add-mod'}
use Rattle.std.proofs.lemmas.Bool.{cases_lt}
use Rattle.std.proofs.lemmas.Nat.{mod-mul-add, div-mul-add, mod_below}

-- two numbers less than n apart, the first not above the second, with one remainder, are one number
rising_turn : (a b n : ℕ) → a ≤ b → b < a + n → a % n ≡ b % n → a ≡ b
rising_turn a b n le lt same =
    let x : ℕ = a / n in
    let y : ℕ = b / n in
    let xn : ℕ = x * n in
    let yn : ℕ = y * n in
    let r : ℕ = b % n in
    let a_is : xn + r ≡ a = ap (λ (k : ℕ). xn + k) (sym same) ∙ div-add-mod' a n in
    let b_is : yn + r ≡ b = div-add-mod' b n in
    ⊎_elim (λ (under : x < y).
    let more : (x + 1) * n ≤ yn = mul-le-mul_right n (omega arith) in
    let step : (x + 1) * n ≡ xn + n = omega arith in
    absurd (omega arith))
    (λ (above : y ≤ x). let less : yn ≤ xn = mul-le-mul_right n above in omega arith) (cases_lt x y)

-- the same in any order
pub one_turn : (a b n : ℕ) → a < b + n → b < a + n → a % n ≡ b % n → a ≡ b
one_turn a b n low high same = ⊎_elim
    (λ (under : a < b). rising_turn a b n (omega arith) high same)
    (λ (above : b ≤ a). sym (rising_turn b a n above low (sym same)))
    (cases_lt a b)

-- a place tells its row and its index
pub same_index : (x y n i j : ℕ) → i < n → j < n → x * n + i ≡ y * n + j → i ≡ j
same_index x y n i j low high same = sym (mod-mul-add x n i low) ∙ ap (λ k. k % n) same ∙ mod-mul-add y n j high

pub same_row : (x y n i j : ℕ) → i < n → j < n → x * n + i ≡ y * n + j → x ≡ y
same_row x y n i j low high same = sym (div-mul-add x n i low) ∙ ap (λ k. k / n) same ∙ div-mul-add y n j high

-- a pair has a place
pub place_below : (turn w n i : ℕ) → 0 < w → i < n → turn % w * n + i < w * n
place_below turn w n i some low =
    let row : ℕ = turn % w in let wn : ℕ = w * n in
    let more : (row + 1) * n ≤ wn = mul-le-mul_right n (let below : row < w = mod_below turn w some in omega arith) in
    let rn : ℕ = row * n in let step : (row + 1) * n ≡ rn + n = omega arith in omega arith
