-- The texts of `-ERR`, and which of them end a connection.
use Rattle.std.specs.Prelude.{ℕ, Bool, true, false, List, ◌++◌, codes}
use Rattle.wire_cut.specs.declared.faults.CutFault.{CutFault}
use Rattle.wire_cut.specs.declared.faults.CutFault.TheVariants.{LineTooLong, PayloadTooLong, NoCrLfAfterPayload}
use Rattle.client_frames.specs.declared.faults.LineFault.{LineFault}
use Rattle.client_frames.specs.declared.faults.LineFault.TheVariants.{UnknownOp, BadArgs, BadJson, BadSubject, BadHeader}
use Rattle.client_frames.specs.declared.err_texts.ErrText.{ErrText}
use Rattle.client_frames.specs.declared.err_texts.ErrText.TheVariants.{MaximumControlLineExceeded, MaximumPayloadViolation, ParserError, UnknownProtocolOperation, SlowConsumer, InvalidSubject, BadHeaders, TooManyQueueGroups, TooManySubscriptions, NumbersSpent, Draining}

-- NATS documentation, "Client Protocol", "+OK/ERR"; the last five are this project's own
abbrev pub err_text : ErrText → List ℕ
err_text MaximumControlLineExceeded = codes "Maximum Control Line Exceeded"
err_text MaximumPayloadViolation = codes "Maximum Payload Violation"
err_text ParserError = codes "Parser Error"
err_text UnknownProtocolOperation = codes "Unknown Protocol Operation"
err_text SlowConsumer = codes "Slow Consumer"
err_text InvalidSubject = codes "Invalid Subject"
err_text BadHeaders = codes "Bad Headers"
err_text TooManyQueueGroups = codes "Too Many Queue Groups"
err_text TooManySubscriptions = codes "Too Many Subscriptions"
err_text NumbersSpent = codes "Numbers Spent"
err_text Draining = codes "Draining"

-- NATS documentation, "Client Protocol": `-ERR <error message>`, in quotes
abbrev pub err_line : ErrText → List ℕ
err_line text = codes "-ERR '" ++ (err_text text ++ codes "'")

-- profile
abbrev pub text_closes : ErrText → Bool
text_closes MaximumControlLineExceeded = true
text_closes MaximumPayloadViolation = true
text_closes ParserError = true
text_closes UnknownProtocolOperation = true
text_closes SlowConsumer = true
text_closes InvalidSubject = false
text_closes BadHeaders = false
text_closes TooManyQueueGroups = false
text_closes TooManySubscriptions = false
text_closes NumbersSpent = false
text_closes Draining = false

-- what a client is told of a refusal (profile)
abbrev pub line_fault_text : LineFault → ErrText
line_fault_text UnknownOp = UnknownProtocolOperation
line_fault_text BadArgs = ParserError
line_fault_text BadJson = ParserError
line_fault_text BadSubject = InvalidSubject
line_fault_text BadHeader = BadHeaders

abbrev pub cut_fault_text : CutFault → ErrText
cut_fault_text LineTooLong = MaximumControlLineExceeded
cut_fault_text PayloadTooLong = MaximumPayloadViolation
cut_fault_text NoCrLfAfterPayload = ParserError
