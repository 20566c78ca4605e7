-- The keys of a table, one after another.
use Rattle.std.proofs.Common.{◌≡◌, ℕ, List, [], ◌∷◌, Option, Some, None, cond, String, Global, BTreeMap, string_bytes, refl, sym, ap, ◌∙◌}
use Rattle.std.specs.Map.{keys_of}
use Rattle.toml.specs.View.{members_view, table_view}
use Rattle.toml.specs.declared.value.Value.{Value}
use Rattle.toml.proofs.Views.{Entry}
use Rattle.mesh_file.specs.Keys.{knows, unknown_key}
use Rattle.mesh_file.specs.declared.tables.TableKind.{TableKind}

abbrev pub unknown_among : TableKind → List (String Global) → Option (List ℕ)
unknown_among kind [] = None
unknown_among kind (key ∷ keys) =
    cond (knows kind (string_bytes key)) (unknown_among kind keys) (Some (string_bytes key))

unknown_key-members : (kind : TableKind) (es : List Entry)
    → unknown_key kind (members_view es) ≡ unknown_among kind (keys_of es)
unknown_key-members kind [] = refl
unknown_key-members kind (e ∷ es) =
    ap (λ rest. cond (knows kind (string_bytes e.0)) rest (Some (string_bytes e.0))) (unknown_key-members kind es)

-- a pass over the keys begins with all of them
pub begins : (kind : TableKind) (table : BTreeMap (String Global) Value) (keys : List (String Global))
    → keys ≡ keys_of table.entries
    → unknown_key kind (table_view table) ≡ unknown_among kind keys
begins kind table keys all = unknown_key-members kind table.entries ∙ ap (unknown_among kind) (sym all)
