-- Lists that are changed one element after another.
use Rattle.std.proofs.Common.{◌≡◌, ℕ, zero, suc, ◌<◌, List, [], ◌∷◌, ◌++◌, length, map, set, get_or, take, drop, All, refl, sym, ap, ◌∙◌, subst, arith}
use Rattle.std.proofs.lemmas.List.Elements.{All-append}

-- an element that is replaced by one with the same f
pub map_set_same : {A B : Type 0} (f : A → B) (xs : List A) (i : ℕ) (y d : A)
    → d ≡ get_or xs i d
    → f y ≡ f d
    → map f (set xs i y) ≡ map f xs
map_set_same f [] i y d at same = refl
map_set_same f (x ∷ xs) zero y d at same = ap (λ b. b ∷ map f xs) (same ∙ ap f at)
map_set_same f (x ∷ xs) (suc i) y d at same = ap (λ l. f x ∷ l) (map_set_same f xs i y d at same)

drop_nil : {A : Type 0} (i : ℕ) (ys : List A) → [] ≡ drop i ys → [] ≡ drop (suc i) ys
drop_nil zero [] e = refl
drop_nil zero (y ∷ ys) e = absurd (cc (e))
drop_nil (suc i) [] e = refl
drop_nil (suc i) (y ∷ ys) e = drop_nil i ys e

-- lists that agree from i on
pub drop_step : {A : Type 0} (i : ℕ) (xs ys : List A) → drop i xs ≡ drop i ys → drop (suc i) xs ≡ drop (suc i) ys
drop_step zero [] [] e = refl
drop_step zero [] (y ∷ ys) e = absurd (cc (e))
drop_step zero (x ∷ xs) [] e = absurd (cc (e))
drop_step zero (x ∷ xs) (y ∷ ys) e = cc (e)
drop_step (suc i) [] [] e = refl
drop_step (suc i) [] (y ∷ ys) e = drop_nil i ys e
drop_step (suc i) (x ∷ xs) [] e = sym (drop_nil i xs (sym e))
drop_step (suc i) (x ∷ xs) (y ∷ ys) e = drop_step i xs ys e

get_nil : {A : Type 0} (i : ℕ) (ys : List A) (d : A) → [] ≡ drop i ys → d ≡ get_or ys i d
get_nil zero [] d e = refl
get_nil zero (y ∷ ys) d e = absurd (cc (e))
get_nil (suc i) [] d e = refl
get_nil (suc i) (y ∷ ys) d e = get_nil i ys d e

pub drop_get : {A : Type 0} (i : ℕ) (xs ys : List A) (d : A) → drop i xs ≡ drop i ys → get_or xs i d ≡ get_or ys i d
drop_get zero xs ys d e = ap (λ l. get_or l zero d) e
drop_get (suc i) [] [] d e = refl
drop_get (suc i) [] (y ∷ ys) d e = get_nil i ys d e
drop_get (suc i) (x ∷ xs) [] d e = sym (get_nil i xs d (sym e))
drop_get (suc i) (x ∷ xs) (y ∷ ys) d e = drop_get i xs ys d e

-- the first elements, once the next one is set
take_set_more : {A : Type 0} (xs : List A) (i : ℕ) (y : A)
    → i < length xs
    → take (suc i) (set xs i y) ≡ take i xs ++ y ∷ []
take_set_more [] i y lt = absurd (omega arith)
take_set_more (x ∷ xs) zero y lt = refl
take_set_more (x ∷ xs) (suc i) y lt = ap (λ l. x ∷ l) (take_set_more xs i y (omega arith))

All_one : {A : Type 0} (P : A → Type 0) (y : A) → P y → All P (y ∷ [])
All_one P y p zero d lt = p
All_one P y p (suc k) d lt = absurd (omega arith)

pub All_take_set : {A : Type 0} (P : A → Type 0) (xs : List A) (i : ℕ) (y : A)
    → i < length xs
    → All P (take i xs)
    → P y
    → All P (take (suc i) (set xs i y))
All_take_set P xs i y lt all new =
    subst (All P) (sym (take_set_more xs i y lt)) (All-append P (take i xs) (y ∷ []) all (All_one P y new))

pub All_snoc : {A : Type 0} (P : A → Type 0) (xs : List A) (y : A) → All P xs → P y → All P (xs ++ y ∷ [])
All_snoc P xs y all new = All-append P xs (y ∷ []) all (All_one P y new)
