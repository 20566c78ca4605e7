-- What the definition of stream commands says of whole streams: the wanted items were worked out by hand.
use Rattle.std.proofs.Common.{◌≡◌, ℕ, List, [], ◌∷◌, refl, Option, None, Some}
use Rattle.std.specs.Prelude.{codes}
use Rattle.wire_cut.specs.Cut.{first_cr_lf}
use Rattle.wire_cut.specs.declared.faults.CutFault.TheVariants.{PayloadTooLong, NoCrLfAfterPayload}
use Rattle.client_frames.specs.declared.client_line.ClientLine.TheVariants.{Sub, Unsub, Ping}
use Rattle.client_frames.specs.declared.client_line.PubHead.{PubHead}
use Rattle.client_frames.specs.declared.faults.LineFault.TheVariants.{UnknownOp, BadArgs, BadSubject, BadHeader}
use Rattle.wire_cut.specs.Reading.{reading_within}
use Rattle.client_frames.specs.Streams.{asked, published, refused, unreadable, stream_commands}

abbrev head : List ℕ → Option (List ℕ) → ℕ → PubHead
head subject reply size = record { subject = subject; reply = reply; headers = None; size = size }

abbrev headed : List ℕ → Option (List ℕ) → ℕ → ℕ → PubHead
headed subject reply block size = record { subject = subject; reply = reply; headers = Some block; size = size }

-- a subscription and a publication
first_message : stream_commands (codes "SUB foo 1\r\nPUB foo 5\r\nhello\r\n")
    ≡ asked (Sub (codes "foo") None (codes "1")) ∷ published (head (codes "foo") None 5) (codes "hello") ∷ []
unfolding reading_within first_cr_lf
first_message = refl

-- a bad subject is told behind its payload, and the stream goes on
bad_subject : stream_commands (codes "PUB foo.* 1\r\nx\r\nPING\r\nSUB foo. 9\r\nPING\r\n")
    ≡ refused BadSubject ∷ asked Ping ∷ refused BadSubject ∷ asked Ping ∷ []
unfolding reading_within first_cr_lf
bad_subject = refl

-- no CR LF behind a payload, which comes before its bad subject
no_cr_lf : stream_commands (codes "PUB foo.* 1\r\nxXXPING\r\n") ≡ unreadable NoCrLfAfterPayload ∷ []
unfolding reading_within first_cr_lf
no_cr_lf = refl

-- a size above the limit is told at once, and also of a bad subject
above_the_limit : stream_commands (codes "PING\r\nPUB foo. 1048577\r\n") ≡ asked Ping ∷ unreadable PayloadTooLong ∷ []
unfolding reading_within first_cr_lf
above_the_limit = refl

-- nothing is read behind a refusal that closes
closed : stream_commands (codes "FOO\r\nPING\r\n") ≡ refused UnknownOp ∷ []
unfolding reading_within first_cr_lf
closed = refl

bad_size : stream_commands (codes "PUB foo.* 1x\r\nPING\r\n") ≡ refused BadArgs ∷ []
unfolding reading_within first_cr_lf
bad_size = refl

-- what is no whole frame tells nothing
unfinished : stream_commands (codes "PUB foo r 5\r\nhel") ≡ []
unfolding reading_within first_cr_lf
unfinished = refl

-- a payload may hold lines
lines_in_payload : stream_commands (codes "PUB foo r 6\r\nPING\r\n\r\nPING\r")
    ≡ published (head (codes "foo") (Some (codes "r")) 6) (codes "PING\r\n") ∷ []
unfolding reading_within first_cr_lf
lines_in_payload = refl

-- an empty line
empty_line : stream_commands (codes "\r\n") ≡ refused UnknownOp ∷ []
unfolding reading_within first_cr_lf
empty_line = refl

-- a member of a queue group, which ends behind two messages; a bad pattern is told, and the stream goes on
queue_group : stream_commands (codes "SUB foo q 1\r\nUNSUB 1 2\r\nSUB a..b q 2\r\nUNSUB 1\r\n")
    ≡ asked (Sub (codes "foo") (Some (codes "q")) (codes "1")) ∷ asked (Unsub (codes "1") (Some 2)) ∷ refused BadSubject
    ∷ asked (Unsub (codes "1") None) ∷ []
unfolding reading_within first_cr_lf
queue_group = refl

-- nothing is read behind a CONNECT without text
no_text :
    stream_commands (codes "UNSUB 1\r\nCONNECT\r\nPING\r\n") ≡ asked (Unsub (codes "1") None) ∷ refused BadArgs ∷ []
unfolding reading_within first_cr_lf
no_text = refl

-- a header block with nothing behind it, and one before a payload
headers_alone : stream_commands (codes "HPUB foo 8 8\r\nNATS/1.0\r\n")
    ≡ published (headed (codes "foo") None 8 8) (codes "NATS/1.0") ∷ []
unfolding reading_within first_cr_lf
headers_alone = refl

headers_and_payload : stream_commands (codes "HPUB foo r 12 14\r\nNATS/1.0\r\n\r\nhi\r\n")
    ≡ published (headed (codes "foo") (Some (codes "r")) 12 14) (codes "NATS/1.0\r\n\r\nhi") ∷ []
unfolding reading_within first_cr_lf
headers_and_payload = refl

-- a header block that is none is told, and the stream goes on
bad_headers : stream_commands (codes "HPUB foo 4 6\r\nNATShi\r\nPING\r\n") ≡ refused BadHeader ∷ asked Ping ∷ []
unfolding reading_within first_cr_lf
bad_headers = refl

-- a block that is larger than all that comes
block_above_the_whole : stream_commands (codes "HPUB foo 21 20\r\nPING\r\n") ≡ refused BadArgs ∷ []
unfolding reading_within first_cr_lf
block_above_the_whole = refl

-- a bad subject comes before bad headers
subject_before_headers :
    stream_commands (codes "HPUB foo.* 0 2\r\nhi\r\nPING\r\n") ≡ refused BadSubject ∷ asked Ping ∷ []
unfolding reading_within first_cr_lf
subject_before_headers = refl
