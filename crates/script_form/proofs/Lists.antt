-- Lists that are read item by item.
use Rattle.std.proofs.Common.{◌≡◌, ℕ, ◌+◌, ◌<◌, List, [], ◌∷◌, ◌++◌, length, get_or, drop, refl, ap, sym, ◌∙◌, append_assoc, Option, Some, None}
use Rattle.std.proofs.lemmas.List.{at_drop_more}
use Rattle.serde_json.specs.Data.{Data}
use Rattle.serde_json.specs.View.{view, items_view}
use Rattle.serde_json.specs.declared.value.Value.{Value}
use Rattle.script_form.specs.Form.{each}
use Rattle.script_form.specs.Members.{◌>>=◌}

-- these, and what the rest are
abbrev pub front : {A : Type 0} → List A → Option (List A) → Option (List A)
front done None = None
front done (Some more) = Some (done ++ more)

front_one : {A : Type 0} (done : List A) (x : A) (more : Option (List A))
    → front done (more >>= λ more. Some (x ∷ more)) ≡ front (done ++ x ∷ []) more
front_one done x None = refl
front_one done x (Some more) = ap Some (sym (append_assoc done (x ∷ []) more))

-- one item more is read
pub one_more : {A : Type 0} (kind : Data → Option A) (values : List Value) (i : ℕ) (value : Value) (done : List A)
    (x : A)
    → i < length values
    → value ≡ get_or values i value
    → kind (view value) ≡ Some x
    → front (done ++ x ∷ []) (each kind (items_view (drop (i + 1) values)))
    ≡ front done (each kind (items_view (drop i values)))
one_more kind values i value done x within at is =
    let rest = drop (i + 1) values in
    let here = at_drop_more (λ left. front done (each kind (items_view left))) values i value within
    ∙ ap (λ v. front done (each kind (items_view (v ∷ rest)))) (sym at)
    ∙ ap (λ o. front done (o >>= λ first. each kind (items_view rest) >>= λ more. Some (first ∷ more))) is
    ∙ front_one done x (each kind (items_view rest)) in
    sym here

-- an item is of another kind
pub none_more : {A : Type 0} (kind : Data → Option A) (values : List Value) (i : ℕ) (value : Value) (done : List A)
    → i < length values
    → value ≡ get_or values i value
    → kind (view value) ≡ None
    → front done (each kind (items_view (drop i values))) ≡ None
none_more kind values i value done within at is =
    let rest = drop (i + 1) values in
    at_drop_more (λ left. front done (each kind (items_view left))) values i value within
    ∙ ap (λ v. front done (each kind (items_view (v ∷ rest)))) (sym at)
    ∙ ap (λ o. front done (o >>= λ first. each kind (items_view rest) >>= λ more. Some (first ∷ more))) is
