-- A take that moves the bytes of the entries, and gives no entries.
use Rattle.std.specs.Prelude.{◌≡◌, ℕ, List, ◌++◌, length}
use Rattle.outbox.specs.Views.{Written, bytes_of_all}
use Rattle.shard_core.specs.ShardEvents as of_shard
use Rattle.node_law.specs.declared.events.ConnEvent.TheVariants.{Take}
use Rattle.node_core.specs.Served.{Served, ConnStep}

-- it is the step of a take that gives these entries, whose bytes stand behind those that were there
pub record TakesBytes (old : Served) (conn count taken : ℕ) (before bytes : List ℕ) (new : Served) :
    Type 0 where
  pub entries : List Written
  pub step : ConnStep old conn (Take count) (of_shard.Taken entries) new
  pub told : taken ≡ length entries
  pub bytes_are : bytes ≡ before ++ bytes_of_all entries
