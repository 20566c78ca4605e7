-- Client spelling as a grammar: how the bytes of a line are put together for a command.
use Rattle.std.specs.Prelude.{◌≡◌, ℕ, ◌≤◌, true, false, List, [], ◌∷◌, ◌++◌, Option, Some, None, Ok, is_some}
use Rattle.std.specs.Option.{option_to_list}
use Rattle.subj.specs.Names.{pattern_fault, sid_fault}
use Rattle.line_fields.specs.Fields.{is_word}
use Rattle.line_fields.specs.Spelling.{IsLineOf}
use Rattle.client_frames.specs.declared.decoding.Operation.{Operation}
use Rattle.client_frames.specs.declared.decoding.Operation.TheVariants as operation
use Rattle.client_frames.specs.declared.client_line.ClientLine.{ClientLine}
use Rattle.client_frames.specs.declared.client_line.ClientLine.TheVariants.{Connect, Pub, PubBad, Sub, Unsub, Ping, Pong}
use Rattle.client_frames.specs.declared.client_line.Options.{Options}
use Rattle.client_frames.specs.Arguments.{count_of}
use Rattle.client_frames.specs.Choices.{options_of}
use Rattle.client_frames.specs.Operations.{word_of}
use Rattle.client_frames.specs.Lines.{line_meaning, publication_fault, membership_fault}

-- ---- what stands behind an operation

-- some text, which chooses these options
pub record SpellsConnect (text : List ℕ) (arguments : List (List ℕ)) (options : Options) :
    Type 0 where
  pub some : ¬ (arguments ≡ [])
  pub chosen : options_of text ≡ Some options

-- two fields, and perhaps one between them
abbrev pub outer_fields : List ℕ → Option (List ℕ) → List ℕ → List (List ℕ)
outer_fields first between last = first ∷ (option_to_list between ++ last ∷ [])

pub record SpellsPub (arguments : List (List ℕ)) (subject : List ℕ) (reply : Option (List ℕ))
    (size : ℕ) : Type 0 where
  pub digits : List ℕ
  pub are : arguments ≡ outer_fields subject reply digits
  pub is_size : count_of digits ≡ Some size

-- the size of the header block comes before that of the whole, of which it is a part
pub record SpellsHpub (arguments : List (List ℕ)) (subject : List ℕ) (reply : Option (List ℕ))
    (block size : ℕ) : Type 0 where
  pub block_digits : List ℕ
  pub digits : List ℕ
  pub are : arguments ≡ outer_fields subject reply block_digits ++ (digits ∷ [])
  pub is_block : count_of block_digits ≡ Some block
  pub is_size : count_of digits ≡ Some size
  pub is_part : block ≤ size

-- the operation of a publication with headers, and of one without
abbrev pub publishing : Option ℕ → Operation
publishing None = operation.Pub
publishing (Some block) = operation.Hpub

abbrev pub SpellsPublication : List (List ℕ) → List ℕ → Option (List ℕ) → Option ℕ → ℕ → Type 0
SpellsPublication arguments subject reply None size = SpellsPub arguments subject reply size
SpellsPublication arguments subject reply (Some block) size =
    SpellsHpub arguments subject reply block size

pub record SpellsBadPub (named : Operation) (arguments : List (List ℕ)) (size : ℕ) : Type 0 where
  pub headers : Option ℕ
  pub publishes : named ≡ publishing headers
  pub subject : List ℕ
  pub reply : Option (List ℕ)
  pub spelt : SpellsPublication arguments subject reply headers size
  pub bad : is_some (publication_fault subject reply) ≡ true

-- a pattern, good or bad, the name of a queue group, where there is one, and a subscription id
pub record SpellsSub (arguments : List (List ℕ)) (pattern : List ℕ) (queue : Option (List ℕ))
    (sid : List ℕ) : Type 0 where
  pub are : arguments ≡ outer_fields pattern queue sid
  pub are_names : is_some (membership_fault queue sid) ≡ false

-- the maximum, where there is one
abbrev pub SpellsMaximum : List (List ℕ) → Option ℕ → Type 0
SpellsMaximum fields None = fields ≡ []
SpellsMaximum fields (Some max) =
    (digits : List ℕ) × (fields ≡ digits ∷ []) × (count_of digits ≡ Some max)

pub record SpellsUnsub (arguments : List (List ℕ)) (sid : List ℕ) (max : Option ℕ) : Type 0 where
  pub behind : List (List ℕ)
  pub are : arguments ≡ sid ∷ behind
  pub is_sid : is_some (sid_fault sid) ≡ false
  pub is_maximum : SpellsMaximum behind max

-- ---- commands

-- an operation, and the text behind it, which has these fields, spell a command
abbrev pub TextSpells : Operation → List ℕ → List (List ℕ) → ClientLine → Type 0
TextSpells named text arguments (Connect options) =
    (named ≡ operation.Connect) × SpellsConnect text arguments options
TextSpells named text arguments (Pub head) =
    (named ≡ publishing head.headers)
    × SpellsPublication arguments head.subject head.reply head.headers head.size
    × (is_some (publication_fault head.subject head.reply) ≡ false)
TextSpells named text arguments (PubBad size) = SpellsBadPub named arguments size
TextSpells named text arguments (Sub pattern queue sid) =
    (named ≡ operation.Sub)
    × SpellsSub arguments pattern queue sid
    × (is_some (pattern_fault pattern) ≡ false)
TextSpells named text arguments (Unsub sid max) =
    (named ≡ operation.Unsub) × SpellsUnsub arguments sid max
TextSpells named text arguments Ping = named ≡ operation.Ping
TextSpells named text arguments Pong = named ≡ operation.Pong

-- a line is a field that names an operation, and a text with these fields
pub record IsOperationOn (operation : Operation) (text : List ℕ) (arguments : List (List ℕ))
    (line : List ℕ) : Type 0 where
  pub field : List ℕ
  pub whole : line ≡ field ++ text
  pub fields : IsLineOf field arguments line
  pub named : is_word (word_of operation) field ≡ true

-- the bytes of a line spell a command
pub record Spells (line : List ℕ) (command : ClientLine) : Type 0 where
  pub named : Operation
  pub text : List ℕ
  pub arguments : List (List ℕ)
  pub operation : IsOperationOn named text arguments line
  pub spelt : TextSpells named text arguments command

-- ---- what a line means is what it spells

abbrev pub MeansWhatItSpells : Type 0
MeansWhatItSpells =
    (line : List ℕ) (command : ClientLine) → Spells line command → line_meaning line ≡ Ok command

abbrev pub SpellsWhatItMeans : Type 0
SpellsWhatItMeans =
    (line : List ℕ) (command : ClientLine) → line_meaning line ≡ Ok command → Spells line command

-- no line spells two commands
abbrev pub SpellsOneCommand : Type 0
SpellsOneCommand =
    (line : List ℕ) (one other : ClientLine) → Spells line one → Spells line other → one ≡ other
