-- Why a line is refused (profile): each line that spells no command has one of these causes, and no
-- other.
use Rattle.std.specs.Prelude.{◌≡◌, ℕ, true, List, [], Option, None, Err, is_some}
use Rattle.subj.specs.Names.{pattern_fault}
use Rattle.client_frames.specs.declared.decoding.Operation.{Operation}
use Rattle.client_frames.specs.declared.decoding.Operation.TheVariants.{Connect, Pub, Hpub, Sub, Unsub, Ping, Pong}
use Rattle.client_frames.specs.declared.client_line.ClientLine.{ClientLine}
use Rattle.client_frames.specs.declared.faults.LineFault.{LineFault}
use Rattle.client_frames.specs.declared.faults.LineFault.TheVariants.{UnknownOp, BadArgs, BadJson, BadSubject, BadHeader}
use Rattle.client_frames.specs.Choices.{options_of}
use Rattle.client_frames.specs.Lines.{line_meaning}
use Rattle.client_frames.specs.Spelling.{SpellsPub, SpellsHpub, SpellsSub, SpellsUnsub, IsOperationOn, Spells}

-- ---- what stands behind an operation that a line begins with

-- the fields are not those of the operation, or one that has to be a number, a subscription id or a
-- queue name is none
abbrev pub HasBadArgs : Operation → List (List ℕ) → Type 0
HasBadArgs Connect arguments = arguments ≡ []
HasBadArgs Pub arguments =
    (subject : List ℕ) (reply : Option (List ℕ)) (size : ℕ)
    → ¬ (SpellsPub arguments subject reply size)
HasBadArgs Hpub arguments =
    (subject : List ℕ) (reply : Option (List ℕ)) (block size : ℕ)
    → ¬ (SpellsHpub arguments subject reply block size)
HasBadArgs Sub arguments =
    (pattern : List ℕ) (queue : Option (List ℕ)) (sid : List ℕ)
    → ¬ (SpellsSub arguments pattern queue sid)
HasBadArgs Unsub arguments = (sid : List ℕ) (max : Option ℕ) → ¬ (SpellsUnsub arguments sid max)
HasBadArgs Ping arguments = ⊥
HasBadArgs Pong arguments = ⊥

-- there is a text, and it is no JSON object, or an option in it is no truth value
pub record HasBadJson (text : List ℕ) (arguments : List (List ℕ)) : Type 0 where
  pub some : ¬ (arguments ≡ [])
  pub none_chosen : options_of text ≡ None

-- all is right but the pattern
pub record HasBadPattern (arguments : List (List ℕ)) : Type 0 where
  pub pattern : List ℕ
  pub queue : Option (List ℕ)
  pub sid : List ℕ
  pub spelt : SpellsSub arguments pattern queue sid
  pub bad : is_some (pattern_fault pattern) ≡ true

-- ---- the causes

-- no operation begins the line
abbrev pub NamesNoOperation : List ℕ → Type 0
NamesNoOperation line =
    (operation : Operation) (text : List ℕ) (arguments : List (List ℕ))
    → ¬ (IsOperationOn operation text arguments line)

-- what stands behind an operation is refused so
abbrev pub TextIsRefused : LineFault → Operation → List ℕ → List (List ℕ) → Type 0
TextIsRefused UnknownOp operation text arguments = ⊥
TextIsRefused BadArgs operation text arguments = HasBadArgs operation arguments
TextIsRefused BadJson operation text arguments = (operation ≡ Connect) × HasBadJson text arguments
TextIsRefused BadSubject operation text arguments = (operation ≡ Sub) × HasBadPattern arguments
-- what is told behind a line is no cause of the line
TextIsRefused BadHeader operation text arguments = ⊥

pub record IsRefusedBehind (line : List ℕ) (fault : LineFault) : Type 0 where
  pub named : Operation
  pub text : List ℕ
  pub arguments : List (List ℕ)
  pub operation : IsOperationOn named text arguments line
  pub refused : TextIsRefused fault named text arguments

-- a line has this cause
abbrev pub HasCause : List ℕ → LineFault → Type 0
HasCause line UnknownOp = NamesNoOperation line
HasCause line BadArgs = IsRefusedBehind line BadArgs
HasCause line BadJson = IsRefusedBehind line BadJson
HasCause line BadSubject = IsRefusedBehind line BadSubject
HasCause line BadHeader = ⊥

-- ---- a line is refused just for its cause

abbrev pub IsRefusedForItsCause : Type 0
IsRefusedForItsCause =
    (line : List ℕ) (fault : LineFault) → HasCause line fault → line_meaning line ≡ Err fault

abbrev pub HasTheCauseItIsRefusedFor : Type 0
HasTheCauseItIsRefusedFor =
    (line : List ℕ) (fault : LineFault) → line_meaning line ≡ Err fault → HasCause line fault

-- the one cause of a line
pub record IsItsCause (line : List ℕ) (fault : LineFault) : Type 0 where
  pub cause : HasCause line fault
  pub only : (other : LineFault) → HasCause line other → other ≡ fault

-- a line that spells no command has one cause
abbrev pub HasOneCause : Type 0
HasOneCause =
    (line : List ℕ)
    → ((command : ClientLine) → ¬ (Spells line command))
    → (fault : LineFault) × IsItsCause line fault
