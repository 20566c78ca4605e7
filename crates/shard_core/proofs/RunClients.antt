-- Connections that take a run.
use Rattle.std.proofs.Common.{◌≡◌, ℕ, suc, ◌<◌, List, [], ◌∷◌, map, Some, sym, ap, ◌∙◌, subst, arith}
use Rattle.std.specs.Prelude.{position, slice_index_or, ◌==◌}
use Rattle.std.specs.List.{AllPairs}
use Rattle.std.proofs.lemmas.Option.{slice_get-get_or}
use Rattle.list_laws.proofs.Changes.{map_map}
use Rattle.list_laws.proofs.Tests.{and_true, le_true, not_true}
use Rattle.outbox.specs.Views.{Written}
use Rattle.shard_core.specs.declared.connections.Conn.{Conn}
use Rattle.shard_core.specs.Boxes.{AreRising, client_in_view, next_backlog, number_of, shown_backlog}
use Rattle.shard_core.specs.Opened.{AreApart}
use Rattle.shard_core.specs.Runs.{TakesAll, Takes, numbers_of}
use Rattle.shard_core.specs.RunSteps.{IsRoomFor, TakesRun, TakesRunAt}
use Rattle.shard_core.specs.Shards.{Client}
use Rattle.shard_core.proofs.Clients.Lookups.{place_within, client_some}
use Rattle.shard_core.proofs.Closings.Opened.{all_each}

-- ---- numbers

rising_apart : (numbers : List ℕ) → AllPairs (λ (a b : ℕ). a < b) numbers → AreApart numbers
rising_apart [] rising = tt
rising_apart (n ∷ ns) rising = (
  λ k there e.
      let above : n < k = all_each (λ (m : ℕ). n < m) ns
      (λ i d within. rising 0 (suc i) d (omega arith) (omega (arith, within))) k there in
      absurd (omega (arith, above, e)),
  rising_apart ns (λ i j d before within. rising (suc i) (suc j) d (omega (arith, before)) (omega (arith, within))),
)

pub numbers_apart : (conns : List Conn)
    → AreRising conns
    → AreApart (numbers_of (map (client_in_view shown_backlog) conns))
numbers_apart conns rising =
    subst AreApart (sym (map_map (client_in_view shown_backlog) (λ (client : Client). client.number) conns))
    (rising_apart (map number_of conns) rising)

-- ---- room

takes_all : (c : Conn) (entries : List Written) → IsRoomFor entries c.outbox
    → TakesAll (client_in_view shown_backlog c) entries
takes_all c entries room =
    let both = and_true _ _ room.room in
    let rest = and_true _ _ both.1 in
    subst (λ b.
    TakesAll (record {
      number = c.number;
      outbox = b;
      max_entries = c.outbox.max_entries;
      max_bytes = c.outbox.max_bytes;
      headers = c.headers;
    })
    entries)
    room.settled (record { takes_events = not_true _ both.0; few = le_true _ _ rest.0; small = le_true _ _ rest.1 })

-- so it is with the connection that stands there
pub takes_there : (n : ℕ) (conns : List Conn) (i : ℕ) (entries : List Written)
    → position (λ (c : Conn). c.number == n) conns ≡ Some i → TakesRunAt i entries conns
    → TakesRun entries n (map (client_in_view shown_backlog) conns) (map (client_in_view next_backlog) conns)
takes_there n [] i entries at takes = absurd (cc)
takes_there n (d ∷ ds) i entries at takes =
    let conns = d ∷ ds in
    let within = place_within n conns i at in
    let c = slice_index_or conns i d in
    let it = takes c (slice_get-get_or conns i d within) in
    let shown = client_some shown_backlog n conns i d at in
    let next = client_some next_backlog n conns i d at in
    record {
      untouched =
          next
          ∙ ap (λ b.
          Some (record {
            number = c.number;
            outbox = b;
            max_entries = c.outbox.max_entries;
            max_bytes = c.outbox.max_bytes;
            headers = c.headers;
          }))
          it.settled
          ∙ sym shown;
      takes = subst (λ o. Takes o (λ _. entries)) (sym shown) (takes_all c entries it);
    }
