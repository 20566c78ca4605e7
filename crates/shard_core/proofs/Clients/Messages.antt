-- The bytes of a message's entry.
use Rattle.std.proofs.lemmas.List.{append_assoc}
use Rattle.std.specs.Prelude.{◌++◌}
use Rattle.client_frames.specs.Messages.{due_line, due_body}
use Rattle.outbox.specs.Bytes.{line_end}
use Rattle.shard_core.specs.EntryBytes.{EntriesAreMessages}

pub message_bytes : EntriesAreMessages
message_bytes id sub mode content sid option =
    append_assoc (due_line content sid option) line_end (due_body content option ++ line_end)
