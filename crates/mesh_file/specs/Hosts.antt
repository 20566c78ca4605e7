-- Names of hosts.
use Rattle.std.specs.Prelude.{◌≡◌, ℕ, ◌-◌, Bool, true, not, ◌&&◌, ◌||◌, nat_eq, nat_le, List, length, slice_index}
use Rattle.std.specs.Char.{is_ascii_alphabetic, is_ascii_alphanumeric}
use Rattle.std.specs.List.{list_all, list_any}
use Rattle.subj.specs.Names.{tokens}
use Rattle.mesh_file.specs.declared.addresses.TheConstants.{MAX_LABEL}
use Rattle.subj.specs.declared.hosts.TheConstants.{MAX_HOST}

-- RFC 1123, 2.1: a label has letters, digits and `-`
abbrev pub is_label_byte : ℕ → Bool
is_label_byte byte = is_ascii_alphanumeric byte || nat_eq byte 45

-- and neither begins nor ends with `-`; RFC 1035, 2.3.4, has the limits
abbrev pub is_label : List ℕ → Bool
is_label label =
    (nat_le 1 (length label) && nat_le (length label) MAX_LABEL)
    && (not (nat_eq (slice_index label 0) 45)
    && not (nat_eq (slice_index label (length label - 1)) 45))
    && list_all is_label_byte label

-- RFC 1123, 2.1: no name has the form of an IPv4 address, since its last label has a letter; here
-- any label may have it
abbrev pub has_letter : List ℕ → Bool
has_letter text = list_any is_ascii_alphabetic text

-- the name of a host is labels with dots between them
abbrev pub is_host_name : List ℕ → Bool
is_host_name text =
    nat_le (length text) MAX_HOST && has_letter text && list_all is_label (tokens text)

abbrev pub IsHostName : List ℕ → Type 0
IsHostName text = is_host_name text ≡ true
