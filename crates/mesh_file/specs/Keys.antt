-- The keys of a table.
use Rattle.std.specs.Prelude.{◌≡◌, ℕ, Bool, List, [], ◌∷◌, codes, Option, Some, None, if◌then◌else◌}
use Rattle.std.specs.Fmt.Cut.{IsTextOrCut}
use Rattle.std.specs.List.{list_any}
use Rattle.std.specs.Str.{bytes_eq}
use Rattle.toml.specs.Data.{Members, no_members, member}
use Rattle.mesh_file.specs.declared.faults.TheConstants.{MAX_KEY_TEXT}
use Rattle.mesh_file.specs.declared.tables.TableKind.{TableKind}
use Rattle.mesh_file.specs.declared.tables.TableKind.TheVariants.{File, Mesh, Server}

-- the keys that a table may have
abbrev pub keys_of : TableKind → List (List ℕ)
keys_of File = codes "mesh" ∷ codes "server" ∷ []
keys_of Mesh = codes "shards" ∷ codes "secret_file" ∷ []
keys_of Server = codes "name" ∷ codes "clients" ∷ codes "routes" ∷ codes "advertise" ∷ []

abbrev pub knows : TableKind → List ℕ → Bool
knows kind key = list_any (λ known. bytes_eq known key) (keys_of kind)

-- the first key that such a table does not have; the keys of a table stand in the order of their
-- bytes
abbrev pub unknown_key : TableKind → Members → Option (List ℕ)
unknown_key kind no_members = None
unknown_key kind (member key value rest) =
    if knows kind key then unknown_key kind rest else Some key

-- a text is what is told of that key: all of it, or its beginning and dots
abbrev pub TellsUnknown : TableKind → Members → List ℕ → Type 0
TellsUnknown kind table told =
    (key : List ℕ) × (unknown_key kind table ≡ Some key) × IsTextOrCut MAX_KEY_TEXT key told
