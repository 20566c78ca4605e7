use Rattle.std.proofs.Common.{◌≡◌, ℕ, Bool, List, [], ◌∷◌, Bor, map, refl, ap, ◌∙◌, ◌||◌}
use Rattle.std.specs.List.{list_any}
use Rattle.std.specs.Str.{bytes_eq}
use Rattle.mesh_file.proofs.tables.TableKind.knows.Goals as goal

any_of_map : {X Y : Type 0} (test : Y → Bool) (f : X → Y) (xs : List X)
    → list_any (λ x. test (f x)) xs ≡ list_any test (map f xs)
any_of_map test f [] = refl
any_of_map test f (x ∷ xs) = ap (λ rest. test (f x) || rest) (any_of_map test f xs)

pub returns : goal.returns
returns c =
    let is_key = λ (known : List ℕ). bytes_eq known c.args.key.now in
    c.contains.ensures.value
    ∙ any_of_map is_key (λ (key : Bor (List ℕ)). key.now) c.keys.result.now
    ∙ ap (list_any is_key) c.keys.ensures
