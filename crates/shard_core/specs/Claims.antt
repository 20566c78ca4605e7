-- How the code comes to a candidate.
use Rattle.std.specs.Prelude.{ℕ, ◌&&◌, Bool, List}
use Rattle.sub_table.specs.declared.Subscription.{Subscription}
use Rattle.subj.specs.declared.jobs.Job.{Job}
use Rattle.subj.specs.QueueNames.{is_named}
use Rattle.shard_core.specs.Owed.{owed_entry, is_permitted}
use Rattle.shard_core.specs.Shards.{Client, client_at, fits}

-- of those that match it is a candidate
abbrev pub is_member : ℕ → List Client → Job → List ℕ → Subscription → Bool
is_member shard clients job name sub =
    is_named name sub.key.queue
    && (is_permitted job sub
    && fits (client_at sub.conn clients) (owed_entry shard clients job sub.key.queue sub))
