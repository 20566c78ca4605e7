-- A server's name in an array: its bytes, and zeros behind them.
use Rattle.std.specs.Prelude.{◌≡◌, ℕ, ◌-◌, ◌≤◌, List, ◌++◌, length, take, drop, replicate, None}
use Rattle.std.proofs.Common.{ap, sym, ◌∙◌, arith, length-take, take-append-drop}
use Rattle.subj.specs.declared.limits.TheConstants.{MAX_NODE_NAME}
use Rattle.subj.specs.Names.{node_name_fault}

abbrev pub padded_name : List ℕ → List ℕ
padded_name text = text ++ replicate (MAX_NODE_NAME - length text) 0

pub record IsPaddedName (padded : List ℕ) (len : ℕ) : Type 0 where
  pub whole : length padded ≡ MAX_NODE_NAME
  pub within : len ≤ MAX_NODE_NAME
  pub zeros : drop len padded ≡ replicate (MAX_NODE_NAME - len) 0
  pub valid : node_name_fault (take len padded) ≡ None

-- the array comes back from the name
pub padded_name-take : (padded : List ℕ) (len : ℕ)
    → IsPaddedName padded len
    → (padded_name (take len padded) ≡ padded) × (length (take len padded) ≡ len)
padded_name-take padded len is =
    let long : length (take len padded) ≡ len =
    omega (arith, length-take len padded, is.whole, is.within) in (
      ap (λ n. take len padded ++ replicate (MAX_NODE_NAME - n) 0) long
          ∙ ap (λ rest. take len padded ++ rest) (sym is.zeros) ∙ take-append-drop len padded,
      long,
    )
