-- What one client's stream asks of a server, item by item, where each ask is done. NATS
-- documentation, "Client Protocol": what each operation asks for, and that `+OK` answers a
-- well-formed one in verbose mode. The order of the asks, and which refusal ends a connection, are
-- this project's profile.
use Rattle.std.specs.Prelude.{ℕ, true, false, List, [], ◌∷◌, ◌++◌, Option, Some, None, if◌then◌else◌}
use Rattle.subj.specs.Messages.{Content, Body, are_headers}
use Rattle.subj.specs.declared.messages.Pub.{Pub}
use Rattle.client_frames.specs.declared.client_line.Options.{Options}
use Rattle.client_frames.specs.declared.client_line.ClientLine.{ClientLine}
use Rattle.client_frames.specs.declared.client_line.ClientLine.TheVariants as line
use Rattle.client_frames.specs.declared.client_line.PubHead.{PubHead}
use Rattle.client_frames.specs.declared.err_texts.ErrText.{ErrText}
use Rattle.client_frames.specs.declared.server_frames.ReplyFrame.TheVariants as reply
use Rattle.client_frames.specs.ErrTexts.{text_closes, line_fault_text, cut_fault_text}
use Rattle.client_frames.specs.Streams.{StreamItem, asked, published, refused, unreadable, block_in, payload_in}
use Rattle.client_conn.specs.declared.ask.ClientAction.{ClientAction}
use Rattle.client_conn.specs.declared.ask.ClientAction.TheVariants.{Reply, SetHeaders, Shut, Subscribe, Unsubscribe, Publish}

-- ---- options

-- a connection begins with `verbose` and `echo` on, and `headers` off
abbrev pub first_options : Options
first_options = record { verbose = true; echo = true; headers = false }

-- CONNECT chooses all options; nothing else changes any
abbrev pub options_by : ClientLine → Options → Options
options_by (line.Connect chosen) options = chosen
options_by (line.Pub head) options = options
options_by (line.PubBad size) options = options
options_by (line.Sub pattern queue sid) options = options
options_by (line.Unsub sid max) options = options
options_by line.Ping options = options
options_by line.Pong options = options

abbrev pub options_behind : StreamItem → Options → Options
options_behind (asked command) options = options_by command options
options_behind (published head bytes) options = options
options_behind (refused fault) options = options
options_behind (unreadable fault) options = options

-- the options behind all of these
abbrev pub options_after : List StreamItem → Options → Options
options_after [] options = options
options_after (item ∷ items) options = options_after items (options_behind item options)

-- ---- one item

-- in verbose mode `+OK` comes before what a command asks for itself
abbrev pub with_confirmation : Options → List ClientAction → List ClientAction
with_confirmation options own = if options.verbose then Reply reply.Ok ∷ own else own

-- a text that closes shuts the connection
abbrev pub refusal_asks : ErrText → List ClientAction
refusal_asks text = if text_closes text then Shut text ∷ [] else Reply (reply.Err text) ∷ []

-- CONNECT is confirmed by the options that it chooses, and each sets anew whether the client takes
-- headers. A publication asks for nothing before its payload is there.
abbrev pub command_asks : Options → ClientLine → List ClientAction
command_asks options (line.Connect chosen) =
    with_confirmation chosen (SetHeaders chosen.headers ∷ [])
command_asks options (line.Pub head) = []
command_asks options (line.PubBad size) = []
command_asks options (line.Sub pattern queue sid) =
    with_confirmation options (Subscribe (record { pattern = pattern; queue = queue }) sid ∷ [])
command_asks options (line.Unsub sid max) = with_confirmation options (Unsubscribe sid max ∷ [])
command_asks options line.Ping = Reply reply.Pong ∷ []
command_asks options line.Pong = []

-- the bytes that a line announces: the header block, where there is one, and behind it the payload
abbrev pub message_of : PubHead → List ℕ → Content
message_of head bytes = record {
  subject = head.subject;
  reply = head.reply;
  headers = block_in head.headers bytes;
  payload = payload_in head.headers bytes;
}

-- the same without its subject; nothing where the header block is none
abbrev pub body_in : Option ℕ → List ℕ → Option Body
body_in headers bytes =
    if are_headers (block_in headers bytes)
    then Some (record { headers = block_in headers bytes; payload = payload_in headers bytes })
    else None

-- whether the client's own subscriptions may get it is as the options say by then
abbrev pub publication_of : Content → Options → Pub
publication_of message options = record { message = message; echo = options.echo }

abbrev pub item_asks : Options → StreamItem → List ClientAction
item_asks options (asked command) = command_asks options command
item_asks options (published head bytes) =
    with_confirmation options (Publish (publication_of (message_of head bytes) options) ∷ [])
item_asks options (refused fault) = refusal_asks (line_fault_text fault)
item_asks options (unreadable fault) = refusal_asks (cut_fault_text fault)

-- what stands to be asked of one item, and the options by which the next ones ask
pub record OpenState : Type 0 where
  pub asks : List ClientAction
  pub options : Options

-- what stands behind an item that comes by these options
abbrev pub asked_by : StreamItem → Options → OpenState
asked_by item options = record {
  asks = item_asks options item;
  options = options_behind item options;
}

-- ---- all items

-- one after the other, each by the options as those before it leave them
abbrev pub items_asks : Options → List StreamItem → List ClientAction
items_asks options [] = []
items_asks options (item ∷ items) =
    item_asks options item ++ items_asks (options_behind item options) items
