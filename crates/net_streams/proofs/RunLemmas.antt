-- Runs of writes, write by write.
use Rattle.std.proofs.Common.{◌≡◌, ℕ, ◌-◌, ◌<◌, ◌≤◌, List, [], ◌∷◌, ◌++◌, length, take, drop, Ok, refl, ap, ◌∙◌, subst, append_assoc, append-nil, take-append-drop, arith}
use Rattle.std.proofs.lemmas.List.{length-take, take_rest}
use Rattle.std.proofs.lemmas.List.Folds.{concat-append}
use Rattle.net_streams.specs.Writes.{Came, TakeParts, Writes}

TakeParts-push : {S : Type 0} (wrote : S → Came → S → Type 0) (a : S) (parts : List (List ℕ)) (b : S) (part : List ℕ)
    (c : S)
    → TakeParts wrote a parts b
    → 0 < length part
    → wrote b (Ok part) c
    → TakeParts wrote a (parts ++ part ∷ []) c
TakeParts-push wrote a [] b part c took some more = (c, some, subst (λ u. wrote u (Ok part) c) took more, refl)
TakeParts-push wrote a (first ∷ parts) b part c took some more = (
  took.0,
  took.1,
  took.2,
  TakeParts-push wrote took.0 parts b part c took.3 some more,
)

-- one write more
Writes-push : {S : Type 0} (wrote : S → Came → S → Type 0) (a : S) (taken : List ℕ) (b : S) (part : List ℕ) (c : S)
    → Writes wrote a taken b
    → 0 < length part
    → wrote b (Ok part) c
    → Writes wrote a (taken ++ part) c
Writes-push wrote a taken b part c writes some more = record {
  parts = writes.parts ++ part ∷ [];
  are =
      concat-append writes.parts (part ∷ [])
      ∙ ap (λ xs. xs ++ (part ++ [])) writes.are
      ∙ ap (λ xs. taken ++ xs) (append-nil part);
  took = TakeParts-push wrote a writes.parts b part c writes.took some more;
}

-- writes took the bytes in front of `rest`
pub record TookSoFar {S : Type 0} (wrote : S → Came → S → Type 0) (bytes : List ℕ) (before : S) (rest : List ℕ)
    (there : S) : Type 0 where
  pub taken : List ℕ
  pub split : taken ++ rest ≡ bytes
  pub writes : Writes wrote before taken there

pub none_so_far : {S : Type 0} (wrote : S → Came → S → Type 0) (bytes : List ℕ) (before : S)
    → TookSoFar wrote bytes before bytes before
none_so_far wrote bytes before = record {
  taken = [];
  split = refl;
  writes = record { parts = []; are = refl; took = refl };
}

pub takes_more : {S : Type 0} (wrote : S → Came → S → Type 0) (bytes : List ℕ) (before : S) (rest : List ℕ) (there : S)
    (n : ℕ) (after : S)
    → TookSoFar wrote bytes before rest there
    → 0 < n
    → n ≤ length rest
    → wrote there (Ok (take n rest)) after
    → TookSoFar wrote bytes before (take (length rest - n) (drop n rest)) after
takes_more wrote bytes before rest there n after far some within more =
    rw (take_rest rest n) (record {
      taken = far.taken ++ take n rest;
      split =
          append_assoc far.taken (take n rest) (drop n rest)
          ∙ ap (λ xs. far.taken ++ xs) (take-append-drop n rest)
          ∙ far.split;
      writes =
          Writes-push wrote before far.taken there (take n rest) after far.writes (omega (arith, length-take n rest))
          more;
    })
