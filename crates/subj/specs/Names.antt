-- Valid names, and the first cause for which bytes are not one.
use Rattle.std.specs.Prelude.{ℕ, Bool, true, false, not, ◌&&◌, ◌||◌, nat_eq, nat_lt, nat_le, List, [], ◌∷◌, length, codes, Option, Some, None, if◌then◌else◌}
use Rattle.std.specs.Option.{option_or}
use Rattle.std.specs.List.{slice_split, list_any}
use Rattle.std.specs.Str.{bytes_eq}
use Rattle.subj.specs.declared.limits.TheConstants.{MAX_SUBJECT, MAX_QUEUE_NAME, MAX_SID, MAX_NODE_NAME}
use Rattle.subj.specs.declared.faults.NameFault.{NameFault}
use Rattle.subj.specs.declared.faults.NameFault.TheVariants.{Empty, EmptyToken, BadByte, TooLong, WildNotLast, Wild}
use Rattle.list_laws.specs.Lists.{is_empty}

-- NATS documentation, "Subject-Based Messaging": a subject's tokens are the pieces between the
-- bytes `.`
abbrev pub is_dot : ℕ → Bool
is_dot byte = nat_eq byte 46

abbrev pub tokens : List ℕ → List (List ℕ)
tokens text = slice_split is_dot text

-- the same, "Wildcards": `*` stands for one token, and `>` for one or more at the end
abbrev pub is_one_wildcard : List ℕ → Bool
is_one_wildcard token = bytes_eq token (codes "*")

abbrev pub is_rest_wildcard : List ℕ → Bool
is_rest_wildcard token = bytes_eq token (codes ">")

abbrev pub is_wild : List ℕ → Bool
is_wild token = is_one_wildcard token || is_rest_wildcard token

-- profile: NUL, tab, LF, CR and space are in no subject, pattern, queue name or subscription id
abbrev pub is_forbidden : ℕ → Bool
is_forbidden byte =
    nat_eq byte 0 || (nat_eq byte 9 || (nat_eq byte 10 || (nat_eq byte 13 || nat_eq byte 32)))

abbrev pub has_forbidden : List ℕ → Bool
has_forbidden text = list_any is_forbidden text

-- profile: a server's name is made of ASCII letters, digits, `-` and `_`
abbrev pub is_between : ℕ → ℕ → ℕ → Bool
is_between low high byte = nat_le low byte && nat_le byte high

abbrev pub is_node_name_byte : ℕ → Bool
is_node_name_byte byte =
    is_between 48 57 byte
    || (is_between 65 90 byte || (is_between 97 122 byte || (nat_eq byte 45 || nat_eq byte 95)))

abbrev pub has_no_name_byte : List ℕ → Bool
has_no_name_byte text = list_any (λ byte. not (is_node_name_byte byte)) text

abbrev pub has_empty_token : List (List ℕ) → Bool
has_empty_token ts = list_any is_empty ts

abbrev pub has_wild_token : List (List ℕ) → Bool
has_wild_token ts = list_any is_wild ts

-- some token but the last is `>`
abbrev pub has_wild_before_last : List (List ℕ) → Bool
has_wild_before_last [] = false
has_wild_before_last (t ∷ ts) = (is_rest_wildcard t && not (is_empty ts)) || has_wild_before_last ts

-- the tokens behind a dot, where there is one
abbrev pub tokens_behind : Option (List ℕ) → List (List ℕ)
tokens_behind None = []
tokens_behind (Some text) = tokens text

-- ---- the first cause, in the order in which they are told

-- what all kinds of names share: some bytes, not too many, and none that is refused
abbrev pub text_fault : ℕ → Bool → List ℕ → Option NameFault
text_fault most bad text =
    if is_empty text then Some Empty
    else (if nat_lt most (length text) then Some TooLong
    else (if bad then Some BadByte else None))

abbrev pub forbidden_fault : ℕ → List ℕ → Option NameFault
forbidden_fault most text = text_fault most (has_forbidden text) text

abbrev pub pattern_token_fault : List (List ℕ) → Option NameFault
pattern_token_fault ts =
    if has_empty_token ts then Some EmptyToken
    else (if has_wild_before_last ts then Some WildNotLast else None)

abbrev pub subject_token_fault : List (List ℕ) → Option NameFault
subject_token_fault ts =
    if has_empty_token ts then Some EmptyToken
    else (if has_wild_token ts then Some Wild else None)

-- NATS documentation, "Characters allowed and recommended for subject names"; bytes and length:
-- profile
abbrev pub pattern_fault : List ℕ → Option NameFault
pattern_fault text =
    option_or (forbidden_fault MAX_SUBJECT text) (pattern_token_fault (tokens text))

abbrev pub subject_fault : List ℕ → Option NameFault
subject_fault text =
    option_or (forbidden_fault MAX_SUBJECT text) (subject_token_fault (tokens text))

-- profile
abbrev pub queue_name_fault : List ℕ → Option NameFault
queue_name_fault text = forbidden_fault MAX_QUEUE_NAME text

abbrev pub sid_fault : List ℕ → Option NameFault
sid_fault text = forbidden_fault MAX_SID text

abbrev pub node_name_fault : List ℕ → Option NameFault
node_name_fault text = text_fault MAX_NODE_NAME (has_no_name_byte text) text
