-- Client spelling: what a control line of a client asks for, or why it is refused. NATS
-- documentation, "Client Protocol": the operations and their fields. The refusals are this
-- project's profile.
use Rattle.std.specs.Prelude.{◌≡◌, ℕ, nat_le, Bool, true, false, IsTrue, List, [], ◌∷◌, length, drop, Option, Some, None, Result, Ok, Err, is_some, if◌then◌else◌}
use Rattle.std.specs.Option.{option_or}
use Rattle.subj.specs.Names.{subject_fault, pattern_fault, queue_name_fault, sid_fault}
use Rattle.subj.specs.declared.faults.NameFault.{NameFault}
use Rattle.subj.specs.declared.failures.Failure.{Failure}
use Rattle.subj.specs.declared.failures.Failure.TheVariants.{Refused, OutOfMemory}
use Rattle.line_fields.specs.Fields.{line_fields}
use Rattle.client_frames.specs.declared.decoding.Operation.{Operation}
use Rattle.client_frames.specs.declared.decoding.Operation.TheVariants as operation
use Rattle.client_frames.specs.declared.decoding.Sizes.{Sizes}
use Rattle.client_frames.specs.declared.client_line.ClientLine.{ClientLine}
use Rattle.client_frames.specs.declared.client_line.ClientLine.TheVariants.{Connect, Pub, PubBad, Sub, Unsub, Ping, Pong}
use Rattle.client_frames.specs.declared.client_line.Options.{Options}
use Rattle.client_frames.specs.declared.faults.LineFault.{LineFault}
use Rattle.client_frames.specs.declared.faults.LineFault.TheVariants.{UnknownOp, BadArgs, BadJson, BadSubject, BadHeader}
use Rattle.client_frames.specs.Arguments.{Arguments, two_or_three, HeadedArguments, three_or_four, count_of}
use Rattle.client_frames.specs.Operations.{operation_of}
use Rattle.client_frames.specs.Choices.{options_of}

-- a command, or why there is none
abbrev pub Meaning : Type 0
Meaning = Result ClientLine LineFault

-- ---- CONNECT {"option_name":option_value,...}

abbrev pub connection_by : Option Options → Meaning
connection_by None = Err BadJson
connection_by (Some options) = Ok (Connect options)

-- the text is all that stands behind the operation; JSON passes over blanks at its ends
abbrev pub connection_of : List ℕ → List (List ℕ) → Meaning
connection_of text [] = Err BadArgs
connection_of text (field ∷ more) = connection_by (options_of text)

-- ---- PUB <subject> [reply] <#bytes>

abbrev pub reply_fault : Option (List ℕ) → Option NameFault
reply_fault None = None
reply_fault (Some reply) = subject_fault reply

abbrev pub publication_fault : List ℕ → Option (List ℕ) → Option NameFault
publication_fault subject reply = option_or (reply_fault reply) (subject_fault subject)

-- a bad subject or reply is told once all was read that follows, whose size the line has told
abbrev pub publication : List ℕ → Option (List ℕ) → Option ℕ → ℕ → ClientLine
publication subject reply headers size =
    if is_some (publication_fault subject reply) then PubBad size
    else Pub (record { subject = subject; reply = reply; headers = headers; size = size })

abbrev pub publication_sized : Arguments → Option ℕ → Meaning
publication_sized a None = Err BadArgs
publication_sized a (Some size) = Ok (publication a.first a.between None size)

abbrev pub publication_of : Option Arguments → Meaning
publication_of None = Err BadArgs
publication_of (Some a) = publication_sized a (count_of a.last)

-- ---- HPUB <subject> [reply] <#header bytes> <#total bytes>

-- the header block is a part of the whole
abbrev pub sizes_of : Option ℕ → Option ℕ → Option Sizes
sizes_of None whole = None
sizes_of (Some block) None = None
sizes_of (Some block) (Some whole) =
    if nat_le block whole then Some (record { block = block; whole = whole }) else None

abbrev pub headed_publication : HeadedArguments → Option Sizes → Meaning
headed_publication a None = Err BadArgs
headed_publication a (Some sizes) =
    Ok (publication a.first a.between (Some sizes.block) sizes.whole)

abbrev pub headed_publication_of : Option HeadedArguments → Meaning
headed_publication_of None = Err BadArgs
headed_publication_of (Some a) =
    headed_publication a (sizes_of (count_of a.block) (count_of a.whole))

-- ---- SUB <subject> [queue group] <sid>

abbrev pub queue_fault : Option (List ℕ) → Option NameFault
queue_fault None = None
queue_fault (Some queue) = queue_name_fault queue

-- why a subscription can't be named
abbrev pub membership_fault : Option (List ℕ) → List ℕ → Option NameFault
membership_fault queue sid = option_or (sid_fault sid) (queue_fault queue)

-- profile: a bad pattern is told where all else is right
abbrev pub subscription : Arguments → Meaning
subscription a =
    if is_some (membership_fault a.between a.last) then Err BadArgs
    else (if is_some (pattern_fault a.first) then Err BadSubject
    else Ok (Sub a.first a.between a.last))

abbrev pub subscription_of : Option Arguments → Meaning
subscription_of None = Err BadArgs
subscription_of (Some a) = subscription a

-- ---- UNSUB <sid> [max_msgs]

abbrev pub maximum : Option ℕ → Result (Option ℕ) LineFault
maximum None = Err BadArgs
maximum (Some max) = Ok (Some max)

-- the maximum behind a subscription id, where there is one
abbrev pub maximum_of : List (List ℕ) → Result (Option ℕ) LineFault
maximum_of [] = Ok None
maximum_of (digits ∷ []) = maximum (count_of digits)
maximum_of (digits ∷ another ∷ more) = Err BadArgs

abbrev pub unsubscription : List ℕ → Result (Option ℕ) LineFault → Meaning
unsubscription sid (Err fault) = Err fault
unsubscription sid (Ok max) = if is_some (sid_fault sid) then Err BadArgs else Ok (Unsub sid max)

abbrev pub unsubscription_of : List (List ℕ) → Meaning
unsubscription_of [] = Err BadArgs
unsubscription_of (sid ∷ behind) = unsubscription sid (maximum_of behind)

-- ---- all operations

-- what an operation means with the text behind it, which has these fields
abbrev pub operation_meaning : Option Operation → List ℕ → List (List ℕ) → Meaning
operation_meaning None text arguments = Err UnknownOp
operation_meaning (Some operation.Connect) text arguments = connection_of text arguments
operation_meaning (Some operation.Pub) text arguments = publication_of (two_or_three arguments)
operation_meaning (Some operation.Hpub) text arguments =
    headed_publication_of (three_or_four arguments)
operation_meaning (Some operation.Sub) text arguments = subscription_of (two_or_three arguments)
operation_meaning (Some operation.Unsub) text arguments = unsubscription_of arguments
operation_meaning (Some operation.Ping) text arguments = Ok Ping
operation_meaning (Some operation.Pong) text arguments = Ok Pong

abbrev pub fields_meaning : List ℕ → List (List ℕ) → Meaning
fields_meaning line [] = Err UnknownOp
fields_meaning line (field ∷ arguments) =
    operation_meaning (operation_of field) (drop (length field) line) arguments

-- what a line means, which has no CR LF
abbrev pub line_meaning : List ℕ → Meaning
line_meaning line = fields_meaning line (line_fields line)

-- ---- what a reader answers

-- whether reading takes memory: a command for the names that it keeps, and a CONNECT for its JSON
abbrev pub command_takes_memory : ClientLine → Bool
command_takes_memory (Connect options) = true
command_takes_memory (Pub head) = true
command_takes_memory (PubBad size) = false
command_takes_memory (Sub pattern queue sid) = true
command_takes_memory (Unsub sid max) = true
command_takes_memory Ping = false
command_takes_memory Pong = false

abbrev pub takes_memory : Meaning → Bool
takes_memory (Ok command) = command_takes_memory command
takes_memory (Err UnknownOp) = false
takes_memory (Err BadArgs) = false
takes_memory (Err BadJson) = true
takes_memory (Err BadSubject) = false
takes_memory (Err BadHeader) = false

-- a reader answers what a line means, and want of memory only where reading takes any
abbrev pub ClientLineMeans : Meaning → Result ClientLine (Failure LineFault) → Type 0
ClientLineMeans meaning (Ok command) = meaning ≡ Ok command
ClientLineMeans meaning (Err (Refused fault)) = meaning ≡ Err fault
ClientLineMeans meaning (Err OutOfMemory) = IsTrue (takes_memory meaning)
