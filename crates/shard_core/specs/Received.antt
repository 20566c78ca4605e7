-- An open subscription that receives a subject, with what a delivery needs of it.
use Rattle.std.specs.Prelude.{ℕ, Bool, List, Option, map, is_some, is_none}
use Rattle.client_frames.specs.Messages.{head_bytes}
use Rattle.sub_table.specs.declared.Subscription.{Subscription}

-- its serial, its connection, whether it has no queue name, its queue name, whether it has a
-- maximum, and what its messages begin with
pub record Received : Type 0 where
  pub serial : ℕ
  pub conn : ℕ
  pub is_plain : Bool
  pub queue : Option (List ℕ)
  pub is_limited : Bool
  pub head : List ℕ

abbrev pub receiver_of : List ℕ → Subscription → Received
receiver_of subject sub = record {
  serial = sub.serial;
  conn = sub.conn;
  is_plain = is_none sub.key.queue;
  queue = sub.key.queue;
  is_limited = is_some sub.max;
  head = head_bytes subject sub.sid;
}

abbrev pub receivers_of : List ℕ → List Subscription → List Received
receivers_of subject subs = map (receiver_of subject) subs
