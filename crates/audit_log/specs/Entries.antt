-- What an object in a log tells (profile): a publication, a subscription or a placement. A server
-- is given by its place, which `Logs` says.
use Rattle.std.specs.Prelude.{ℕ, true, false, List, codes, Option, Some, None, unwrap_or}
use Rattle.serde_json.specs.Data.{Data}
use Rattle.serde_json.specs.Find.{get}
use Rattle.outbox.specs.declared.entries.Mode.{Mode}
use Rattle.outbox.specs.declared.entries.Mode.TheVariants.{Plain, Queue}
use Rattle.subj.specs.declared.identities.PubId.{PubId}
use Rattle.subj.specs.declared.keys.Key.{Key}
use Rattle.subj.specs.Messages.{Content, content_of}
use Rattle.subj.specs.Names.{pattern_fault, subject_fault, queue_name_fault, sid_fault}
use Rattle.world_law.specs.State.{Life, LifeId, Placement, Publication}
use Rattle.script_form.specs.Members.{◌>>=◌, truth, whole}
use Rattle.audit_log.specs.declared.entries.Text.TheVariants as key
use Rattle.audit_log.specs.Members.{bytes_in, incarnation_in, member, named_in, optional, optional_bytes_in, optional_named_in, server_in}

-- ---- names

unfoldable pub publication_id_in : Data → Option PubId
publication_id_in json = do
  origin ← server_in (codes "origin") json
  inc ← incarnation_in json
  number ← member whole (codes "number") json
  Some (record { origin = origin; inc = inc; number = number })

unfoldable pub life_id_in : ℕ → Data → Option LifeId
life_id_in node json = do
  inc ← incarnation_in json
  shard ← member whole (codes "shard") json
  serial ← member whole (codes "serial") json
  Some (record { node = node; inc = inc; sub = record { shard = shard; serial = serial } })

-- ---- a publication

unfoldable pub message_in : Data → Option Content
message_in json = do
  subject ← named_in subject_fault key.Subject json
  reply ← optional_named_in subject_fault key.Reply json
  headers ← optional_bytes_in key.Headers json
  payload ← bytes_in key.Payload json
  content_of subject reply headers payload

-- who made it, and whether they may get it back, is not told: an audit does not ask
unfoldable pub publication_in : Data → Option Publication
publication_in json = do
  step ← member whole (codes "step") json
  id ← get (codes "id") json
  id ← publication_id_in id
  message ← message_in json
  Some (record { step = step; id = id; message = message; publisher = 0; echo = true })

-- ---- a subscription

unfoldable pub key_in : Data → Option Key
key_in json = do
  pattern ← named_in pattern_fault key.Pattern json
  queue ← optional_named_in queue_name_fault key.Queue json
  Some (record { pattern = pattern; queue = queue })

unfoldable pub life_in : ℕ → Data → Option Life
life_in node json = do
  id ← get (codes "id") json
  id ← life_id_in node id
  conn ← member whole (codes "conn") json
  opened ← member whole (codes "opened") json
  closed ← optional whole (codes "closed") json
  wanted ← key_in json
  sid ← named_in sid_fault key.Sid json
  Some (record { id = id; conn = conn; key = wanted; sid = sid; opened = opened; closed = closed })

-- ---- a placement

abbrev pub mode_of : Option (List ℕ) → Mode
mode_of None = Plain
mode_of (Some name) = Queue name

-- of a connection that takes no headers, where that is not said
unfoldable pub placement_in : ℕ → Data → Option Placement
placement_in node json = do
  step ← member whole (codes "step") json
  id ← get (codes "publication") json
  id ← publication_id_in id
  life ← get (codes "life") json
  life ← life_id_in node life
  conn ← member whole (codes "conn") json
  headers ← optional truth (codes "headers") json
  queue ← optional_named_in queue_name_fault key.Queue json
  bytes ← bytes_in key.Bytes json
  Some (record {
    step = step;
    life = life;
    conn = conn;
    id = id;
    mode = mode_of queue;
    bytes = bytes;
    headers = unwrap_or headers false;
  })
