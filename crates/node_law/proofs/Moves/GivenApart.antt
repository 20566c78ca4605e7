-- To whom a step gives a message: open subscriptions, each once.
use Rattle.std.proofs.Common.{◌≡◌, ◌≢◌, ℕ, ◌-◌, Bool, true, false, nat_eq, List, Option, Some, None, refl, sym, subst}
use Rattle.std.specs.Prelude.{filter, slice_get}
use Rattle.list_laws.specs.Lists.{Pairs}
use Rattle.list_laws.proofs.Changes.{pairs_filter, pairs_map_back, pairs_sub}
use Rattle.subj.specs.Servers.{ServerIdentity}
use Rattle.subj.specs.declared.jobs.Job.{Job}
use Rattle.sub_table.specs.Subscriptions.{serial_of}
use Rattle.sub_table.specs.declared.Subscription.{Subscription}
use Rattle.shard_core.specs.Shards.{State}
use Rattle.shard_core.specs.Closings.{serials_of}
use Rattle.shard_core.specs.Owed.{first_step, is_due, candidate_of}
use Rattle.shard_core.specs.ShardEvents.{Event, Attach, Subscribe, Unsubscribe, Reply, Shut, SetHeaders, Detach, Take, Begin, Claim, End, DropJob, Drain, Collect}
use Rattle.shard_core.specs.AsLaw.{given_by, given_by_claim}
use Rattle.shard_core.proofs.Steps.LawEvents.{walk_gives}
use Rattle.node_law.specs.State.{ShardWithJobs, Node}
use Rattle.node_law.specs.Events as of_node
use Rattle.node_law.specs.Events.{NodeEvent, Own, Receive, OnInfo, OnConnect}
use Rattle.node_law.specs.Steps.{conn_place, conn_line, shard_line, conn_event, work_event}
use Rattle.node_law.specs.Sound.{SoundNode}
use Rattle.node_law.specs.AsLaw.{part_if, part_at, part_of, given_at}
use Rattle.node_law.proofs.Moves.LineEvents.{found}

abbrev Apart : List Subscription → Type 0
Apart subs = Pairs (λ u v. u.serial ≢ v.serial) subs

given_apart : (s : State) (e : Event) → Pairs (λ j k. j ≢ k) (serials_of s.subs) → Apart (given_by s e)
given_apart s Attach apart = tt
given_apart s (Subscribe conn key sid) apart = tt
given_apart s (Unsubscribe conn sid max) apart = tt
given_apart s (Reply conn frame) apart = tt
given_apart s (Shut conn text) apart = tt
given_apart s (Detach conn) apart = tt
given_apart s (SetHeaders conn on) apart = tt
given_apart s (Take conn count) apart = tt
given_apart s (Begin job) apart =
    let g = walk_gives s job (filter (is_due job) s.subs) (first_step s.clients) in
    subst Apart (sym g.given)
    (pairs_sub (λ u v. u.serial ≢ v.serial) g.new (filter (is_due job) s.subs) g.some
    (pairs_filter (λ u v. u.serial ≢ v.serial) (is_due job) s.subs
    (pairs_map_back (λ j k. j ≢ k) serial_of s.subs apart)))
given_apart s (Claim index won) apart = go s.hand (candidate_of s s.hand index) won
  where
    go : (hand : Option Job) (u : Option Subscription) (won : Bool) → Apart (given_by_claim hand u won)
    go None u won = tt
    go (Some job) None won = tt
    go (Some job) (Some u) true = ((λ v i. absurd i), tt)
    go (Some job) (Some u) false = tt
given_apart s End apart = tt
given_apart s (DropJob waiting) apart = tt
given_apart s Drain apart = tt
given_apart s Collect apart = tt

at_apart : (server : ServerIdentity) (a : Node) (place : ℕ) (event : ShardWithJobs → Option Event)
    (o : Option ShardWithJobs)
    → SoundNode server a
    → ((line : ShardWithJobs) → o ≡ Some line → slice_get a.lines place ≡ Some line)
    → Apart (given_at (part_at place event o))
at_apart server a place event None sound is = tt
at_apart server a place event (Some line) sound is = go (event line)
  where
    go : (e : Option Event) → Apart (given_at (part_if place line e))
    go None = tt
    go (Some e) = given_apart line.shard e (sound.lines place line (is line refl)).sound.apart

pub part_apart : (server : ServerIdentity) (a : Node) (e : NodeEvent) (won : Bool)
    → SoundNode server a
    → Apart (given_at (part_of server a e won))
part_apart server a (Own (of_node.OfConn conn event)) won sound =
    at_apart server a (conn_place server conn) (λ line. Some (conn_event conn event)) (conn_line server a conn) sound
    (λ line e. found (nat_eq conn 0) (slice_get a.lines (conn_place server conn)) line e)
part_apart server a (Own (of_node.AtShard shard work)) won sound =
    at_apart server a (shard - 1) (work_event work won) (shard_line a shard) sound
    (λ line e. found (nat_eq shard 0) (slice_get a.lines (shard - 1)) line e)
part_apart server a (Own (of_node.Publish p)) won sound = tt
part_apart server a (Own (of_node.Collect shard)) won sound = tt
part_apart server a (Own of_node.Drain) won sound = tt
part_apart server a (Own (of_node.Dial q)) won sound = tt
part_apart server a (Own of_node.Accept) won sound = tt
part_apart server a (Own (of_node.CutSession session)) won sound = tt
part_apart server a (Own (of_node.TakeFrames q count)) won sound = tt
part_apart server a (Receive frame) won sound = tt
part_apart server a (OnInfo session info) won sound = tt
part_apart server a (OnConnect session connect) won sound = tt
