-- What the definition of the pipe's text says of whole streams: the wanted bytes were worked out by hand.
use Rattle.std.proofs.Common.{◌≡◌, ℕ, Bool, List, [], ◌∷◌, Some, None, true, false, refl}
use Rattle.std.specs.Prelude.{codes}
use Rattle.std.specs.Fmt.{digits}
use Rattle.wire_cut.specs.Cut.{first_cr_lf}
use Rattle.wire_cut.specs.Reading.{reading_within}
use Rattle.client_frames.specs.declared.client_line.ClientLine.TheVariants as line
use Rattle.client_frames.specs.Streams.{StreamItem, asked, published, stream_commands}
use Rattle.client_conn.specs.Items.{first_options, items_asks}
use Rattle.mesh_pipe.specs.PipeText.{Output, at_first, asks_said}

-- what comes behind INFO
abbrev said : List ℕ → Output
said bytes = asks_said (items_asks first_options (stream_commands bytes)) at_first

-- the same of what a stream tells
abbrev told : List StreamItem → Output
told items = asks_said (items_asks first_options items) at_first

-- `+OK` comes before the message
first_message :
    (said (codes "SUB foo 1\r\nPUB foo 5\r\nhello\r\n")).text ≡ codes "+OK\r\n+OK\r\nMSG foo 1 5\r\nhello\r\n"
unfolding asks_said reading_within first_cr_lf digits
first_message = refl

-- a doubled subscription gets one message
doubled : (said (codes "SUB foo 1\r\nSUB foo 1\r\nPUB foo r 1\r\nx\r\n")).text
    ≡ codes "+OK\r\n+OK\r\n+OK\r\nMSG foo 1 r 1\r\nx\r\n"
unfolding asks_said reading_within first_cr_lf digits
doubled = refl

-- in the order of opening, and only what matches
two_of_three : (said (codes "SUB f.* 1\r\nSUB bar 2\r\nSUB f.> 3\r\nPUB f.o 1\r\nx\r\n")).text
    ≡ codes "+OK\r\n+OK\r\n+OK\r\n+OK\r\nMSG f.o 1 1\r\nx\r\nMSG f.o 3 1\r\nx\r\n"
unfolding asks_said reading_within first_cr_lf digits
two_of_three = refl

-- one member of a group, by the turn
one_of_two : (said (codes "SUB a.* q 1\r\nSUB a.b q 2\r\nPUB a.b 3\r\nhey\r\n")).text
    ≡ codes "+OK\r\n+OK\r\n+OK\r\nMSG a.b 2 3\r\nhey\r\n"
unfolding asks_said reading_within first_cr_lf digits
one_of_two = refl

-- plain subscriptions first, and then the groups in the order of their names
groups_in_order : (said (codes "SUB a z 1\r\nSUB a b 2\r\nSUB a 3\r\nPUB a 0\r\n\r\n")).text
    ≡ codes "+OK\r\n+OK\r\n+OK\r\n+OK\r\nMSG a 3 0\r\n\r\nMSG a 2 0\r\n\r\nMSG a 1 0\r\n\r\n"
unfolding asks_said reading_within first_cr_lf digits
groups_in_order = refl

-- ---- headers

-- without a CONNECT the client takes none
headers_off : (said (codes "SUB foo 1\r\nHPUB foo 12 14\r\nNATS/1.0\r\n\r\nhi\r\n")).text
    ≡ codes "+OK\r\n+OK\r\nMSG foo 1 2\r\nhi\r\n"
unfolding asks_said reading_within first_cr_lf digits
headers_off = refl

-- CONNECT with this option, quietly
abbrev connect : Bool → StreamItem
connect headers = asked (line.Connect (record { verbose = false; echo = true; headers = headers }))

abbrev subscribed : StreamItem
subscribed = asked (line.Sub (codes "foo") None (codes "1"))

-- a publication with twelve bytes of headers, and one without
abbrev headed : StreamItem
headed =
    published (record { subject = codes "foo"; reply = Some (codes "r"); headers = Some 12; size = 14 })
    (codes "NATS/1.0\r\n\r\nhi")

abbrev plain : StreamItem
plain = published (record { subject = codes "foo"; reply = None; headers = None; size = 2 }) (codes "hi")

headers_on : (told (connect true ∷ subscribed ∷ headed ∷ plain ∷ [])).text
    ≡ codes "HMSG foo 1 r 12 14\r\nNATS/1.0\r\n\r\nhi\r\nMSG foo 1 2\r\nhi\r\n"
unfolding asks_said digits
headers_on = refl

-- the last CONNECT holds
headers_off_again :
    (told (connect true ∷ subscribed ∷ connect false ∷ headed ∷ [])).text ≡ codes "MSG foo 1 r 2\r\nhi\r\n"
unfolding asks_said digits
headers_off_again = refl

-- a maximum of one
maximum : (said (codes "SUB foo 1\r\nUNSUB 1 1\r\nPUB foo 1\r\na\r\nPUB foo 1\r\nb\r\n")).text
    ≡ codes "+OK\r\n+OK\r\n+OK\r\nMSG foo 1 1\r\na\r\n+OK\r\n"
unfolding asks_said reading_within first_cr_lf digits
maximum = refl

-- what is not open is closed in silence
unsubscribe : (said (codes "UNSUB 9\r\nPING\r\n")).text ≡ codes "+OK\r\nPONG\r\n"
unfolding asks_said reading_within first_cr_lf digits
unsubscribe = refl

-- the connection goes on behind a bad subject
bad_subject : (said (codes "PUB foo.* 1\r\nx\r\nPING\r\n")).text ≡ codes "-ERR 'Invalid Subject'\r\nPONG\r\n"
unfolding asks_said reading_within first_cr_lf digits
bad_subject = refl

bad_subject_stays : (said (codes "PUB foo.* 1\r\nx\r\nPING\r\n")).closed ≡ false
unfolding asks_said reading_within first_cr_lf digits
bad_subject_stays = refl

-- nothing comes behind a closing text
unknown : (said (codes "PING\r\nFOO\r\nPING\r\n")).text ≡ codes "PONG\r\n-ERR 'Unknown Protocol Operation'\r\n"
unfolding asks_said reading_within first_cr_lf digits
unknown = refl

unknown_closes : (said (codes "PING\r\nFOO\r\nPING\r\n")).closed ≡ true
unfolding asks_said reading_within first_cr_lf digits
unknown_closes = refl

-- `+OK` of a publication waits for its payload
no_cr_lf : (said (codes "SUB foo 1\r\nPUB foo 5\r\nhelloXX")).text ≡ codes "+OK\r\n-ERR 'Parser Error'\r\n"
unfolding asks_said reading_within first_cr_lf digits
no_cr_lf = refl

too_large : (said (codes "PUB foo 1048577\r\n")).text ≡ codes "-ERR 'Maximum Payload Violation'\r\n"
unfolding asks_said reading_within first_cr_lf digits
too_large = refl

-- an unfinished frame says nothing
unfinished : (said (codes "PUB foo 5\r\nhel")).text ≡ []
unfolding asks_said reading_within first_cr_lf digits
unfinished = refl

unfinished_stays : (said (codes "PUB foo 5\r\nhel")).closed ≡ false
unfolding asks_said reading_within first_cr_lf digits
unfinished_stays = refl
