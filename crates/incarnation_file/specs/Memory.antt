-- The files that had the name before, the newest first.
use Rattle.std.specs.Prelude.{◌≡◌, ◌⊎◌, ℕ, zero, suc, List, [], ◌∷◌, map, take, Option, Vec}
use mathlib.Core.Logic.{inl, inr}
use Rattle.std.specs.declared.alloc.Global.{Global}
use Rattle.list_laws.specs.Lists.{In}
use Rattle.incarnation_file.specs.Disk.{Content, content, IsFound}

-- one of these files has this content
abbrev pub HadBy : List (Option (Vec ℕ Global)) → Content → Type 0
HadBy files c = In c (map content files)

-- the newest of them are among them
pub front_is_in : (n : ℕ) (files : List (Option (Vec ℕ Global))) (c : Content)
    → HadBy (take n files) c
    → HadBy files c
front_is_in zero files c i = absurd i
front_is_in (suc n) [] c i = absurd i
front_is_in (suc n) (file ∷ files) c (inl is) = inl is
front_is_in (suc n) (file ∷ files) c (inr i) = inr (front_is_in n files c i)

-- what is found now is one of what may be left
pub now_counts : (recent : ℕ) (files : List (Option (Vec ℕ Global))) (named c : Content)
    → IsFound named (λ d. (d ≡ named) ⊎ HadBy (take recent files) d) c
    → (c ≡ named) ⊎ HadBy files c
now_counts recent files named c (inl is) = inl is
now_counts recent files named c (inr (inl is)) = inl is
now_counts recent files named c (inr (inr i)) = inr (front_is_in recent files c i)
