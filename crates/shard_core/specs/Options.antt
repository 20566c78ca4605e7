-- Whether a connection takes headers: no new one does, and each does as it chose last.
use Rattle.std.specs.Prelude.{◌≡◌, ℕ, Bool, false, nat_eq, None, if◌then◌else◌}
use Rattle.shard_core.specs.Shards.{State, new_shard, takes_headers}
use Rattle.shard_core.specs.ShardEvents.{Event, SetHeaders, Detach}
use Rattle.shard_core.specs.ShardSteps.{shard_refusal, shard_after}

-- NATS documentation, "Client Protocol", "CONNECT", `headers`
abbrev pub option_after : Event → ℕ → Bool → Bool
option_after (SetHeaders of on) conn option = if nat_eq of conn then on else option
option_after (Detach of) conn option = if nat_eq of conn then false else option
option_after other conn option = option

pub record OptionsAreChosen : Type 0 where
  pub start : (shard shards conn : ℕ) → takes_headers conn (new_shard shard shards).clients ≡ false
  pub step : (s : State) (e : Event)
      → shard_refusal s e ≡ None
      → (conn : ℕ)
      → takes_headers conn (shard_after s e).clients
      ≡ option_after e conn (takes_headers conn s.clients)
