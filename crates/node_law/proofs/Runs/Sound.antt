-- A server that has just started is sound, and stays so in each run.
use Rattle.std.proofs.Common.{◌≡◌, ℕ, zero, suc, ◌+◌, List, [], ◌∷◌, length, replicate, Some, refl, sym, ap, subst, arith, lit≤}
use Rattle.std.specs.Prelude.{slice_get, slice_index, ◌≤◌}
use Rattle.std.specs.List.Sorted.{IsStrictlySortedBy}
use Rattle.std.proofs.lemmas.Option.{none-some, same_Some}
use Rattle.subj.specs.Servers.{ServerIdentity, IsListed}
use Rattle.interest.specs.Counts.{IsInterest}
use Rattle.hub_core.specs.State.{unknown_peer}
use Rattle.node_law.specs.Runs.{Done, Ran}
use Rattle.node_law.specs.Sound.{LineAt, SoundNode, tried_of}
use Rattle.node_law.specs.State.{ShardWithJobs, Node, new_line, lines_from, new_node, finished_turns}
use Rattle.node_law.proofs.Moves.Nodes.{stays_sound}

no_counts : IsInterest []
unfolding IsStrictlySortedBy
no_counts = record { rising = tt; counted = λ k d below. absurd (omega arith); few = lit≤ tt; small = lit≤ tt }

many : (shards first count : ℕ) → length (lines_from shards first count) ≡ count
many shards first zero = refl
many shards first (suc count) = let z = many shards (suc first) count in omega arith

peers_many : {A : Type 0} (k : ℕ) (x : A) → length (replicate k x) ≡ k
peers_many zero x = refl
peers_many (suc k) x = let z = peers_many k x in omega arith

line_at : (server : ServerIdentity) (first count place : ℕ) (line : ShardWithJobs)
    → slice_get (lines_from server.shards (suc first) count) place ≡ Some line
    → LineAt server 0 (first + place) line
line_at server first zero place line e = absurd (none-some line e)
line_at server first (suc count) zero line e =
    subst (LineAt server 0 (first + 0)) (same_Some (new_line server.shards (suc first)) line e) (record {
      sound = record {
        hand = λ j f. absurd (none-some j f);
        turns = refl;
        room = omega arith;
        apart = tt;
        below = λ j i. absurd i;
      };
      number = omega arith;
      shards = refl;
    })
line_at server first (suc count) (suc place) line e =
    subst (λ q. LineAt server 0 q line) (one_more first place) (line_at server (suc first) count place line e)
  where
    one_more : (m j : ℕ) → suc m + j ≡ m + suc j
    one_more m j = omega arith

none_finished : (shards first count : ℕ) → replicate count 0 ≡ finished_turns (lines_from shards first count)
none_finished shards first zero = refl
none_finished shards first (suc count) = ap (λ t. 0 ∷ t) (none_finished shards (suc first) count)

zero_at : (count place k : ℕ) → slice_index (replicate count 0) place ≤ k
zero_at zero place k = omega arith
zero_at (suc count) zero k = omega arith
zero_at (suc count) (suc place) k = zero_at count place k

pub starts_sound : (server : ServerIdentity) → SoundNode server (new_node server)
starts_sound server = record {
  issued = refl;
  size = many server.shards 1 server.shards;
  lines = λ place line e.
      subst (λ q. LineAt server 0 q line) (none_more place) (line_at server 0 server.shards place line e);
  raced = record {
    finished = none_finished server.shards 1 server.shards;
    next = λ place line e. zero_at server.shards place (tried_of line.shard.hand line.shard.next_index);
  };
  peers = peers_many (length server.names) unknown_peer;
  counts = no_counts;
}
  where
    none_more : (k : ℕ) → 0 + k ≡ k
    none_more k = omega arith

pub run_sound : (server : ServerIdentity) (h : List Done) (a : Node)
    → IsListed server
    → Ran server h a
    → SoundNode server a
run_sound server [] a listed is = subst (SoundNode server) (sym is) (starts_sound server)
run_sound server (d ∷ earlier) a listed ran =
    stays_sound server d.before d.event d.won d.race a listed (run_sound server earlier d.before listed ran.1) ran.0
