-- The lines of a handshake, without the CR LF that ends each. (Profile.)
use Rattle.std.specs.Prelude.{ℕ, List, [], ◌∷◌, ◌++◌, codes, Option, Some, None, if◌then◌else◌}
use Rattle.hex.specs.Hex.{encode_lower}
use Rattle.line_fields.specs.Fields.{line_fields, is_word}
use Rattle.subj.specs.declared.faults.NameFault.{NameFault}
use Rattle.subj.specs.Names.{node_name_fault}
use Rattle.peer_proof.specs.declared.lines.Hello.{Hello}
use Rattle.peer_proof.specs.declared.lines.Answer.{Answer}
use Rattle.peer_proof.specs.declared.lines.Mac.{Mac}
use Rattle.peer_proof.specs.Words.{word_in}

-- ---- what is written

abbrev pub spaced : List ℕ → List ℕ
spaced field = 32 ∷ field

abbrev pub hello_line : Hello → List ℕ
hello_line hello =
    codes "HELLO" ++ spaced hello.me ++ spaced hello.you ++ spaced (encode_lower hello.word.0)

abbrev pub answer_line : Answer → List ℕ
answer_line answer =
    codes "PROOF" ++ spaced (encode_lower answer.word.0) ++ spaced (encode_lower answer.mac.0)

abbrev pub proof_line : Mac → List ℕ
proof_line mac = codes "PROOF" ++ spaced (encode_lower mac.0)

-- ---- what is read

-- the fields behind the first one, where that is the word
abbrev pub fields_behind : List ℕ → List (List ℕ) → Option (List (List ℕ))
fields_behind word [] = None
fields_behind word (first ∷ others) = if is_word word first then Some others else None

abbrev pub one_in : List (List ℕ) → Option (List ℕ)
one_in [] = None
one_in (field ∷ []) = Some field
one_in (field ∷ another ∷ others) = None

abbrev pub with_first : List ℕ → Option (List ℕ) → Option (List ℕ × List ℕ)
with_first first None = None
with_first first (Some second) = Some (first, second)

abbrev pub two_in : List (List ℕ) → Option (List ℕ × List ℕ)
two_in [] = None
two_in (first ∷ others) = with_first first (one_in others)

abbrev pub before_two : List ℕ → Option (List ℕ × List ℕ) → Option (List ℕ × List ℕ × List ℕ)
before_two first None = None
before_two first (Some both) = Some (first, both.0, both.1)

abbrev pub three_in : List (List ℕ) → Option (List ℕ × List ℕ × List ℕ)
three_in [] = None
three_in (first ∷ others) = before_two first (two_in others)

abbrev pub name_by : List ℕ → Option NameFault → Option (List ℕ)
name_by field None = Some field
name_by field (Some fault) = None

-- the server's name that a field is
abbrev pub name_in : List ℕ → Option (List ℕ)
name_in field = name_by field (node_name_fault field)

abbrev pub hello_with : Option (List ℕ) → Option (List ℕ) → Option (List ℕ) → Option Hello
hello_with (Some me) (Some you) (Some word) =
    Some (record { me = me; you = you; word = record { 0 = word } })
hello_with (Some me) (Some you) None = None
hello_with (Some me) None word = None
hello_with None you word = None

abbrev pub hello_by : Option (List ℕ × List ℕ × List ℕ) → Option Hello
hello_by None = None
hello_by (Some fields) = hello_with (name_in fields.0) (name_in fields.1) (word_in fields.2)

abbrev pub hello_in : Option (List (List ℕ)) → Option Hello
hello_in None = None
hello_in (Some fields) = hello_by (three_in fields)

abbrev pub hello_of : List ℕ → Option Hello
hello_of line = hello_in (fields_behind (codes "HELLO") (line_fields line))

abbrev pub answer_with : Option (List ℕ) → Option (List ℕ) → Option Answer
answer_with (Some word) (Some mac) =
    Some (record { word = record { 0 = word }; mac = record { 0 = mac } })
answer_with (Some word) None = None
answer_with None mac = None

abbrev pub answer_by : Option (List ℕ × List ℕ) → Option Answer
answer_by None = None
answer_by (Some fields) = answer_with (word_in fields.0) (word_in fields.1)

abbrev pub answer_in : Option (List (List ℕ)) → Option Answer
answer_in None = None
answer_in (Some fields) = answer_by (two_in fields)

abbrev pub answer_of : List ℕ → Option Answer
answer_of line = answer_in (fields_behind (codes "PROOF") (line_fields line))

abbrev pub mac_with : Option (List ℕ) → Option Mac
mac_with None = None
mac_with (Some mac) = Some (record { 0 = mac })

abbrev pub mac_by : Option (List ℕ) → Option Mac
mac_by None = None
mac_by (Some field) = mac_with (word_in field)

abbrev pub mac_in : Option (List (List ℕ)) → Option Mac
mac_in None = None
mac_in (Some fields) = mac_by (one_in fields)

abbrev pub proof_of : List ℕ → Option Mac
proof_of line = mac_in (fields_behind (codes "PROOF") (line_fields line))
