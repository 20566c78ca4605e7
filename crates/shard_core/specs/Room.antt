-- Room: each connection of a shard has room for the messages of all its open matching subscriptions
-- together.
use Rattle.std.specs.Prelude.{ℕ, ◌+◌, Bool, ◌&&◌, ◌||◌, nat_le, List, length, sum_by}
use Rattle.std.specs.List.{list_all}
use Rattle.list_laws.specs.Lists.{is_empty}
use Rattle.client_frames.specs.Messages.{due_bytes}
use Rattle.outbox.specs.Views.{size_of}
use Rattle.sub_table.specs.Subscriptions.{matching_of}
use Rattle.sub_table.specs.declared.Subscription.{Subscription}
use Rattle.subj.specs.Messages.{Content}
use Rattle.shard_core.specs.Shards.{State, Client}

-- so many bytes a subscription is due of a message, by the option of its connection
abbrev pub due_length : Content → Bool → Subscription → ℕ
due_length message option sub = length (due_bytes message sub.sid option)

-- there is room for one message for each of these, if there is any; a connection that was shut may
-- be beyond its limits, and has none
abbrev pub takes_all : Content → List Subscription → Client → Bool
takes_all message subs client =
    is_empty subs
    || (nat_le (length client.outbox.entries + length subs) client.max_entries
    && nat_le (size_of client.outbox.entries + sum_by (due_length message client.headers) subs)
    client.max_bytes)

abbrev pub has_room_for : Content → State → Bool
has_room_for message s =
    list_all (λ client. takes_all message (matching_of client.number message.subject s.subs) client)
    s.clients
