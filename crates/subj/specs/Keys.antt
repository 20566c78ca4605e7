-- The order of keys, what a key counts, and how subscriptions of one change.
use Rattle.std.specs.Prelude.{ℕ, ◌+◌, true, false, List, length, Option, Some, None}
use Rattle.std.specs.Cmp.Lexicographic.{slice_cmp}
use Rattle.std.specs.Option.{option_cmp}
use Rattle.std.specs.Ordering.{nat_cmp, ordering_then}
use Rattle.std.specs.declared.cmp.Ordering.{Ordering}
use Rattle.subj.specs.declared.keys.Delta.{Delta}
use Rattle.subj.specs.declared.keys.Key.{Key}
use Rattle.subj.specs.declared.limits.TheConstants.{SUBSCRIPTION_COST}

-- profile: by the bytes of the pattern, then no queue name first, then by the bytes of the queue
-- name
abbrev pub key_cmp : Key → Key → Ordering
key_cmp a b =
    ordering_then (slice_cmp nat_cmp a.pattern b.pattern)
    (option_cmp (slice_cmp nat_cmp) a.queue b.queue)

abbrev pub queue_bytes : Option (List ℕ) → ℕ
queue_bytes None = 0
queue_bytes (Some name) = length name

-- profile: what a key counts against a limit of bytes
abbrev pub cost_of : Key → ℕ
cost_of key = length key.pattern + queue_bytes key.queue + SUBSCRIPTION_COST

-- one more subscription of the key is open
abbrev pub opening : Key → Delta
opening key = record { key = key; up = true }

-- one of them has closed
abbrev pub closing : Key → Delta
closing key = record { key = key; up = false }
