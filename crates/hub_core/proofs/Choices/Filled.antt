-- Lists that are filled one by one: what stands in them, and what is still to come.
use Rattle.std.proofs.Common.{◌≡◌, ℕ, suc, ◌+◌, ◌<◌, ◌≤◌, List, [], ◌∷◌, ◌++◌, length, take, drop, get_or, map, sym, ap, ◌∙◌, append_assoc, append-nil, add-one}
use Rattle.std.proofs.lemmas.List.{at_drop_more, at_drop_all, map_more, take_all}

-- one value for each
pub mapped_on : {A B : Type 0} (f : A → B) (xs : List A) (i : ℕ) (x : A) (y : B) (ys zs : List B)
    → i < length xs
    → x ≡ get_or xs i x
    → y ≡ f x
    → zs ≡ ys ++ y ∷ []
    → ys ≡ map f (take i xs)
    → zs ≡ map f (take (i + 1) xs)
mapped_on f xs i x y ys zs below read is put filled =
    put ∙ (λ k. filled k ++ (is ∙ ap f read) k ∷ []) ∙ sym (map_more f xs i x below)

-- some values for each, by its place
pub gathered_on : {A B : Type 0} (one : ℕ → A → List B) (rest : ℕ → List A → List B)
    (each : (q : ℕ) (x : A) (xs : List A) → rest q (x ∷ xs) ≡ one q x ++ rest (suc q) xs) (xs : List A) (i : ℕ) (x : A)
    (put before after all : List B)
    → i < length xs
    → x ≡ get_or xs i x
    → put ≡ one i x
    → after ≡ before ++ put
    → before ++ rest i (drop i xs) ≡ all
    → after ++ rest (i + 1) (drop (i + 1) xs) ≡ all
gathered_on one rest each xs i x put before after all below read is grown filled =
    let left = rest (i + 1) (drop (i + 1) xs) in
    ap (λ l. l ++ left) grown
    ∙ append_assoc before put left
    ∙ ap (λ l. before ++ l)
    ((λ k. (is ∙ ap (one i) read) k ++ rest (add-one i k) (drop (i + 1) xs))
    ∙ sym (each i (get_or xs i x) (drop (i + 1) xs))
    ∙ sym (at_drop_more (rest i) xs i x below))
    ∙ filled

-- nothing is to come any more
pub mapped_all : {A B : Type 0} (f : A → B) (xs : List A) (i : ℕ) (ys : List B)
    → length xs ≤ i
    → ys ≡ map f (take i xs)
    → ys ≡ map f xs
mapped_all f xs i ys over filled = filled ∙ ap (map f) (take_all i xs over)

pub gathered_all : {A B : Type 0} (rest : ℕ → List A → List B) (xs : List A) (i : ℕ) (before all : List B)
    → rest i [] ≡ []
    → length xs ≤ i
    → before ++ rest i (drop i xs) ≡ all
    → before ≡ all
gathered_all rest xs i before all none over filled =
    sym (append-nil before) ∙ ap (λ l. before ++ l) (sym none ∙ sym (at_drop_all (rest i) xs i over)) ∙ filled
