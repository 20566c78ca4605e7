-- What the nodes of a trie hold, by the bytes of the beginnings that they stand for.
use Rattle.std.specs.Prelude.{◌≡◌, ℕ, ◌+◌, ◌-◌, ◌<◌, Bool, true, false, List, [], ◌∷◌, length, Option, Some, None, is_some, if◌then◌else◌}
use Rattle.std.specs.Str.{bytes_eq}
use Rattle.std.specs.HashMap.{HashMap, get_by}
use Rattle.pattern_trie.specs.declared.text_hasher.TextHasher.{TextHasher}
use Rattle.std.specs.declared.hash.BuildHasherDefault.{BuildHasherDefault}
use Rattle.std.specs.declared.vec.Vec.{Vec}
use Rattle.std.specs.declared.alloc.Global.{Global}
use Rattle.pattern_trie.specs.declared.node.Node.{Node}
use Rattle.list_laws.specs.Lists.{is_empty}
use Rattle.subj.specs.Names.{subject_fault}
use Rattle.pattern_trie.specs.declared.marks.Marks.{Marks}
use Rattle.pattern_trie.specs.Classes.{is_in}

abbrev pub Nodes : Type 0 → Type 0
Nodes V = HashMap (Vec ℕ Global) (Node V) (BuildHasherDefault TextHasher)

abbrev pub has_bytes : List ℕ → Vec ℕ Global → Bool
has_bytes text key = bytes_eq text key.items

abbrev pub node_at : {V : Type 0} → Nodes V → List ℕ → Option (Node V)
node_at nodes text = get_by (has_bytes text) nodes

abbrev pub count_of : {V : Type 0} → Option (Node V) → ℕ
count_of None = 0
count_of (Some node) = node.below

abbrev pub values_of : {V : Type 0} → Option (Node V) → List V
values_of None = []
values_of (Some node) = node.values.items

-- how many values are held at patterns that begin so
abbrev pub below_at : {V : Type 0} → Nodes V → List ℕ → ℕ
below_at nodes text = count_of (node_at nodes text)

-- what is held at the pattern
abbrev pub values_at : {V : Type 0} → Nodes V → List ℕ → List V
values_at nodes text = values_of (node_at nodes text)

abbrev pub mark_of : {V : Type 0} → List ℕ → Option (Node V) → Bool
mark_of more None = false
mark_of more (Some node) = is_in more node.marks

-- whether there may be nodes for the text and this one behind it
abbrev pub has_mark : {V : Type 0} → List ℕ → Nodes V → List ℕ → Bool
has_mark more nodes text = mark_of more (node_at nodes text)

-- where a text is not in the marks, there are no nodes for it behind the path
abbrev pub AreKnown : {V : Type 0} → Marks → Nodes V → List ℕ → Type 0
AreKnown marks nodes path =
    (more : List ℕ)
    → is_in more marks ≡ false
    → (is_empty path ≡ false) × (has_mark more nodes path ≡ false)

abbrev pub one_if : Bool → ℕ
one_if b = if b then 1 else 0

-- the marks of old are among those of new
abbrev pub KeepsMarks : {V : Type 0} → Nodes V → Nodes V → Type 0
KeepsMarks old new = (more q : List ℕ) → has_mark more old q ≡ true → has_mark more new q ≡ true

-- they are where something is still held below
abbrev pub KeepsMarksBelow : {V : Type 0} → Nodes V → Nodes V → Type 0
KeepsMarksBelow old new =
    (more q : List ℕ) → 0 < below_at new q → has_mark more old q ≡ true → has_mark more new q ≡ true

-- new has the counts and the values of old
pub record IsSame {V : Type 0} (old new : Nodes V) : Type 0 where
  pub counts : (q : List ℕ) → below_at new q ≡ below_at old q
  pub values : (q : List ℕ) → values_at new q ≡ values_at old q
  pub marks : KeepsMarksBelow old new

-- one more is counted at the text, with these marks behind it
pub record Enters {V : Type 0} (text : List ℕ) (behind : List ℕ → Bool) (old new : Nodes V) :
    Type 0 where
  pub counts : (q : List ℕ) → below_at new q ≡ below_at old q + one_if (bytes_eq text q)
  pub values : (q : List ℕ) → values_at new q ≡ values_at old q
  pub marks : KeepsMarks old new
  pub marked : (more : List ℕ) → behind more ≡ true → has_mark more new text ≡ true

-- one less is counted at the text
pub record Leaves {V : Type 0} (text : List ℕ) (old new : Nodes V) : Type 0 where
  pub counts : (q : List ℕ) → below_at new q ≡ below_at old q - one_if (bytes_eq text q)
  pub values : (q : List ℕ) → values_at new q ≡ values_at old q
  pub marks : KeepsMarksBelow old new

-- the values at the text become these
pub record Values {V : Type 0} (text : List ℕ) (values : List V) (old new : Nodes V) : Type 0 where
  pub counts : (q : List ℕ) → below_at new q ≡ below_at old q
  pub values_are : (q : List ℕ)
      → values_at new q ≡ (if bytes_eq text q then values else values_at old q)
  pub marks : KeepsMarks old new

-- the list without the first such value, values being compared by eq
abbrev pub without_value : {V : Type 0} → (V → V → Bool) → V → List V → List V
without_value eq value [] = []
without_value eq value (x ∷ xs) = if eq value x then xs else x ∷ without_value eq value xs

-- one more is counted where the test says so, with these marks behind
pub record EntersEach {V : Type 0} (test : List ℕ → Bool) (behind : List ℕ → List ℕ → Bool)
    (old new : Nodes V) : Type 0 where
  pub counts : (q : List ℕ) → below_at new q ≡ below_at old q + one_if (test q)
  pub values : (q : List ℕ) → values_at new q ≡ values_at old q
  pub marks : KeepsMarks old new
  pub marked : (more q : List ℕ) → behind more q ≡ true → has_mark more new q ≡ true

-- one less is counted where the test says so
pub record LeavesEach {V : Type 0} (test : List ℕ → Bool) (old new : Nodes V) : Type 0 where
  pub counts : (q : List ℕ) → below_at new q ≡ below_at old q - one_if (test q)
  pub values : (q : List ℕ) → values_at new q ≡ values_at old q
  pub marks : KeepsMarksBelow old new

-- where the test says so, one more is counted than the values there are for
pub record CanLeaveEach {V : Type 0} (test : List ℕ → Bool) (nodes : Nodes V) : Type 0 where
  pub held : (q : List ℕ) → test q ≡ true → 0 < below_at nodes q
  pub last_is_empty : (q : List ℕ)
      → test q ≡ true
      → below_at nodes q ≡ 1
      → length (values_at nodes q) ≡ 0

-- nothing is held under a text that is no subject, so under no pattern with a wildcard
abbrev pub IsLiteral : {V : Type 0} → Nodes V → Type 0
IsLiteral nodes = (q : List ℕ) → is_some (subject_fault q) ≡ true → values_at nodes q ≡ []
