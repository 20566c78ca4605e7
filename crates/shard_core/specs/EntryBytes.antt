-- An outbox's entries and the frames of a server agree.
use Rattle.std.specs.Prelude.{◌≡◌, ℕ, Bool, List}
use Rattle.client_frames.specs.Messages.{due_line, due_body, due_bytes}
use Rattle.outbox.specs.Views.{message_entry}
use Rattle.outbox.specs.declared.entries.Mode.{Mode}
use Rattle.subj.specs.Messages.{Content}
use Rattle.subj.specs.declared.identities.PubId.{PubId}
use Rattle.subj.specs.declared.identities.SubId.{SubId}

-- NATS documentation, "Client Protocol": `MSG` and `HMSG`
abbrev pub EntriesAreMessages : Type 0
EntriesAreMessages =
    (id : PubId) (sub : SubId) (mode : Mode) (content : Content) (sid : List ℕ) (option : Bool)
    → (message_entry id sub mode (due_line content sid option) (due_body content option)).bytes
    ≡ due_bytes content sid option
