-- How a line is put together from its fields.
use Rattle.std.specs.Prelude.{◌≡◌, ℕ, true, false, List, [], ◌∷◌, ◌++◌}
use Rattle.std.specs.List.{list_all, list_any}
use Rattle.list_laws.specs.Lists.{is_empty}
use Rattle.line_fields.specs.Fields.{is_blank, line_fields}

abbrev pub AreBlanks : List ℕ → Type 0
AreBlanks bytes = list_all is_blank bytes ≡ true

abbrev pub IsGap : List ℕ → Type 0
IsGap bytes = (is_empty bytes ≡ false) × AreBlanks bytes

abbrev pub IsField : List ℕ → Type 0
IsField bytes = (is_empty bytes ≡ false) × (list_any is_blank bytes ≡ false)

-- a field at the beginning of the bytes, and what follows it
pub record Begins (field bytes : List ℕ) (Follows : List ℕ → Type 0) : Type 0 where
  pub rest : List ℕ
  pub whole : bytes ≡ field ++ rest
  pub is_field : IsField field
  pub follows : Follows rest

-- a field behind one or more blanks, and what follows it
pub record ComesNext (field bytes : List ℕ) (Follows : List ℕ → Type 0) : Type 0 where
  pub gap : List ℕ
  pub rest : List ℕ
  pub whole : bytes ≡ gap ++ (field ++ rest)
  pub is_gap : IsGap gap
  pub is_field : IsField field
  pub follows : Follows rest

-- these fields, each behind one or more blanks, and then perhaps blanks
abbrev pub FieldsFollow : List (List ℕ) → List ℕ → Type 0
FieldsFollow [] bytes = AreBlanks bytes
FieldsFollow (field ∷ others) bytes = ComesNext field bytes (FieldsFollow others)

-- the line is this field and these behind it
abbrev pub IsLineOf : List ℕ → List (List ℕ) → List ℕ → Type 0
IsLineOf first others line = Begins first line (FieldsFollow others)

-- ---- a line has the fields that it is put together from, and no others

abbrev pub HasItsFields : Type 0
HasItsFields =
    (first : List ℕ) (others : List (List ℕ)) (line : List ℕ)
    → IsLineOf first others line
    → line_fields line ≡ first ∷ others

abbrev pub IsOfItsFields : Type 0
IsOfItsFields =
    (first : List ℕ) (others : List (List ℕ)) (line : List ℕ)
    → line_fields line ≡ first ∷ others
    → IsLineOf first others line
