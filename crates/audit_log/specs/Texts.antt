-- How bytes are called in a line (profile): by one name where they are a text, and by another where
-- they are hex digits.
use Rattle.std.specs.Prelude.{ℕ, List, ◌++◌, codes}
use Rattle.audit_log.specs.declared.entries.Text.{Text}
use Rattle.audit_log.specs.declared.entries.Text.TheVariants.{Subject, Reply, Headers, Payload, Pattern, Queue, Sid, Bytes}

abbrev pub name_of : Text → List ℕ
name_of Subject = codes "subject"
name_of Reply = codes "reply"
name_of Headers = codes "headers"
name_of Payload = codes "payload"
name_of Pattern = codes "pattern"
name_of Queue = codes "queue"
name_of Sid = codes "sid"
name_of Bytes = codes "bytes"

abbrev pub hex_name_of : Text → List ℕ
hex_name_of text = name_of text ++ codes "_hex"
