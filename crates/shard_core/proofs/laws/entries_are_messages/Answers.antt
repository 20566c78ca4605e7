use Rattle.shard_core.proofs.Clients.Messages.{message_bytes}
use Rattle.shard_core.proofs.laws.entries_are_messages.Goals as goal

pub returns : goal.returns
returns c = message_bytes
