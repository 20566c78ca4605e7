-- What a life that ends takes back.
use Rattle.std.proofs.Common.{◌≡◌, inl, inr, ℕ, List, [], ◌∷◌, ◌++◌, take, Option, None, Some, Vec, refl, sym, subst}
use Rattle.std.specs.Prelude.{IfSome}
use Rattle.std.specs.Option.{option_to_list}
use Rattle.std.specs.declared.alloc.Global.{Global}
use Rattle.incarnation_file.specs.Disk.{content}
use Rattle.incarnation_file.specs.Memory.{HadBy, front_is_in}

abbrev Files : Type 0
Files = List (Option (Vec ℕ Global))

pub last_is_in : (rest : Files) (file : Option (Vec ℕ Global)) → HadBy (rest ++ file ∷ []) (content file)
last_is_in [] file = inl refl
last_is_in (f ∷ rest) file = inr (last_is_in rest file)

-- the last of the newest of them is one of them
pub taken_back : (n : ℕ) (files rest : Files) (file : Option (Option (Vec ℕ Global)))
    → take n files ≡ rest ++ option_to_list file
    → IfSome file (λ f. HadBy files (content f))
taken_back n files rest None is = tt
taken_back n files rest (Some file) is =
    front_is_in n files (content file) (subst (λ (l : Files). HadBy l (content file)) (sym is) (last_is_in rest file))
