-- The texts of keys, by what a look-up gives.
use Rattle.std.proofs.Common.{◌≡◌, ℕ, List, Some, None, Ok, Err, refl}
use Rattle.toml.specs.Data.{Data, Members, as_str, get_member}
use Rattle.mesh_file.specs.Entries.{key_name, text_of}
use Rattle.mesh_file.specs.declared.faults.ServerFault.TheVariants.{Value}
use Rattle.mesh_file.specs.declared.faults.ServerKey.{ServerKey}
use Rattle.mesh_file.specs.declared.faults.ValueFault.TheVariants.{NotText}

pub text_of-none : (key : ServerKey) (name : List ℕ) (table : Members)
    → name ≡ key_name key
    → None ≡ get_member name table
    → text_of key table ≡ Ok None
text_of-none key name table same found = rw (← same) (rw (← found) refl)

pub text_of-string : (key : ServerKey) (name : List ℕ) (table : Members) (value : Data) (text : List ℕ)
    → name ≡ key_name key
    → Some value ≡ get_member name table
    → Some text ≡ as_str value
    → text_of key table ≡ Ok (Some text)
text_of-string key name table value text same found read = rw (← same) (rw (← found) (rw (← read) refl))

pub text_of-other : (key : ServerKey) (name : List ℕ) (table : Members) (value : Data) → name ≡ key_name key
    → Some value ≡ get_member name table → None ≡ as_str value → text_of key table ≡ Err (Value key NotText)
text_of-other key name table value same found read = rw (← same) (rw (← found) (rw (← read) refl))
