-- What is written of the scripts, and that they are runs.
use Rattle.std.proofs.Common.{◌≢◌, ℕ, true≢false, List, [], ◌∷◌, codes, refl, sym, arith}
use Rattle.std.proofs.lemmas.List.Elements.{All-nil, All-cons}
use Rattle.std.proofs.lemmas.List.Kept.{AllPairs-cons}
use Rattle.std.proofs.lemmas.Slice.Eq.{bytes_eq-Decides}
use Rattle.std.specs.Fmt.{digits}
use Rattle.interest.specs.Counts.{counts_after, delta_fault, change_of}
use Rattle.claim_race.specs.Race.{winner, busy_of}
use Rattle.route_values.specs.Snapshots.{key_line}
use Rattle.subj.specs.Servers.{AreApart}
use Rattle.world_law.specs.Headline.{IsCluster}
use Rattle.world_law.specs.State.{Cluster, new_world}
use Rattle.world_law.specs.Events.{Event}
use Rattle.world_law.specs.Steps.{Answers}
use Rattle.world_law.specs.Play.{outcomes_of_events, world_after_events}
use Rattle.world_law.specs.Scripts.{pair, alone, a_restart, two_shards, a_full_window, a_lower_incarnation, two_forms}
use Rattle.world_law.specs.Printed.{WritesARestart, WritesStartsAndStops, WritesCrossedDials, WritesClaims, WritesOwnMessages, WritesConnections, WritesTwoWords, WritesAStaleMessage, WritesACut, ScriptsAreRuns, starts_and_stops, crossed_dials, claims_of_a_turn, own_messages, connections, two_words, a_stale_message, a_cut}

pub writes_a_restart : WritesARestart
unfolding counts_after delta_fault change_of winner busy_of key_line digits
writes_a_restart = record { lines = refl }

pub writes_starts_and_stops : WritesStartsAndStops
unfolding counts_after delta_fault change_of winner busy_of key_line digits
writes_starts_and_stops = record { lines = refl }

pub writes_crossed_dials : WritesCrossedDials
unfolding counts_after delta_fault change_of winner busy_of key_line digits
writes_crossed_dials = record { lines = refl }

pub writes_claims : WritesClaims
unfolding counts_after delta_fault change_of winner busy_of key_line digits
writes_claims = record { lines = refl }

pub writes_own_messages : WritesOwnMessages
unfolding counts_after delta_fault change_of winner busy_of key_line digits
writes_own_messages = record { lines = refl }

pub writes_connections : WritesConnections
unfolding counts_after delta_fault change_of winner busy_of key_line digits
writes_connections = record { lines = refl }

pub writes_two_words : WritesTwoWords
unfolding counts_after delta_fault change_of winner busy_of key_line digits
writes_two_words = record { lines = refl }

pub writes_a_stale_message : WritesAStaleMessage
unfolding counts_after delta_fault change_of winner busy_of key_line digits
writes_a_stale_message = record { lines = refl }

pub writes_a_cut : WritesACut
unfolding counts_after delta_fault change_of winner busy_of key_line digits
writes_a_cut = record { lines = refl }

-- ---- runs

only : (name : List ℕ) → AreApart (name ∷ [])
only name =
    AllPairs-cons (λ a b. a ≢ b) name [] (All-nil (λ other. name ≢ other)) (λ i j d low high. absurd (omega arith))

pair_apart : IsCluster pair
pair_apart = record {
  apart =
      AllPairs-cons (λ a b. a ≢ b) (codes "n1") (codes "n2" ∷ [])
      (All-cons (λ other. codes "n1" ≢ other) (codes "n2") []
      (λ same. true≢false (sym ((bytes_eq-Decides (codes "n1") (codes "n2")).1 same)))
      (All-nil (λ other. codes "n1" ≢ other)))
      (only (codes "n2"));
}

pub all_runs : ((c : Cluster) → IsCluster c → (events : List Event)
    → Answers c (new_world c) events (outcomes_of_events c (new_world c) events)
    (world_after_events c (new_world c) events))
    → ScriptsAreRuns
all_runs run = record {
  restart = run pair pair_apart a_restart;
  shards = run alone alone_apart two_shards;
  window = run alone alone_apart a_full_window;
  forms = run alone alone_apart two_forms;
  lower = run pair pair_apart a_lower_incarnation;
  starts = run pair pair_apart starts_and_stops;
  dials = run pair pair_apart crossed_dials;
  claims = run alone alone_apart claims_of_a_turn;
  echo = run pair pair_apart own_messages;
  numbers = run alone alone_apart connections;
  words = run pair pair_apart two_words;
  stale = run pair pair_apart a_stale_message;
  cut = run pair pair_apart a_cut;
}
  where
    alone_apart : IsCluster alone
    alone_apart = record { apart = only (codes "n1") }
