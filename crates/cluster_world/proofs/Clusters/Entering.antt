-- What a server's step puts is what stands new in its outboxes, messages and lines, and no more is entered.
use Rattle.std.proofs.Common.{◌≡◌, ◌≢◌, ℕ, zero, suc, ◌+◌, Bool, true, false, cond, nat_eq, List, [], ◌∷◌, ◌++◌, map, set, length, drop, Option, Some, None, refl, sym, ap, ◌∙◌, subst, arith}
use Rattle.std.specs.Prelude.{filter, slice_get}
use Rattle.std.proofs.lemmas.Option.{none-some}
use Rattle.list_laws.proofs.Tests.{eq_true, true_eq, false_eq}
use Rattle.list_laws.proofs.Changes.{append_nil, get_set_here}
use Rattle.outbox.specs.Views.{Written}
use Rattle.subj.specs.Servers.{ServerIdentity}
use Rattle.shard_core.specs.declared.calls.Placed.{Placed}
use Rattle.shard_core.specs.Puts.{put_by, entries_for}
use Rattle.node_law.specs.AsLaw.{Part, part_of, waits_in}
use Rattle.node_law.specs.Events.{NodeEvent}
use Rattle.node_law.specs.State.{ShardWithJobs}
use Rattle.node_law.specs.Steps.{NodeStep}
use Rattle.node_core.specs.InCode.{answer_of}
use Rattle.node_core.specs.Outcome as of_server
use Rattle.node_core.specs.Outcome.{did_of}
use Rattle.node_core.specs.Served.{Served}
use Rattle.world_law.specs.Changes.{new_entries, entries_at, EntriesWerePut}
use Rattle.world_law.specs.Events as asked
use Rattle.world_law.specs.Events.{Event, Start, Stop, At, event_for}
use Rattle.world_law.specs.Outcomes.{Outcome, Done}
use Rattle.world_law.specs.Refusals.{world_refusal}
use Rattle.world_law.specs.State.{Cluster, Running, World, server_at}
use Rattle.world_law.proofs.Runs.Plays.{put_of, puts_are}
use Rattle.world_law.proofs.Seen.Gained.{news, part_line}
use Rattle.cluster_world.specs.declared.nodes.Made.{Made}
use Rattle.cluster_world.specs.Entered.{Entered, entered_for, entered_by, is_for, AreEntered, EntersBy, EntersUnless, Enters}
use Rattle.cluster_world.specs.Value.{Listed, running_in, running_of, IsMade, world_of, cluster_of, InPlace, IsFor}
use Rattle.cluster_world.proofs.Clusters.Making.{put_at_is, shown_at}

-- ---- what stands new in the outboxes of a connection, over the shards

abbrev nothing : List Written
nothing = []

nothing_left : (k : ℕ) → drop k nothing ≡ nothing
nothing_left zero = refl
nothing_left (suc k) = refl

module _ (conn : ℕ) where
  none_new : (old new : List ShardWithJobs) → ((q : ℕ) → news old new q conn ≡ []) → new_entries old new conn ≡ []
  none_new [] new h = refl
  none_new (x ∷ old) [] h = refl
  none_new (x ∷ old) (y ∷ new) h = λ i. h zero i ++ none_new old new (λ q. h (suc q)) i

  -- at one place alone
  new_at : (p : ℕ) (old new : List ShardWithJobs) (line : ShardWithJobs)
      → slice_get old p ≡ Some line
      → ((q : ℕ) → q ≢ p → news old new q conn ≡ [])
      → new_entries old new conn ≡ news old new p conn
  new_at p [] new line e h = absurd (none-some line e)
  new_at zero (x ∷ old) [] line e h = sym (nothing_left (length (waits_in conn (Some x))))
  new_at (suc p) (x ∷ old) [] line e h = sym (nothing_left (length (waits_in conn (slice_get old p))))
  new_at zero (x ∷ old) (y ∷ new) line e h =
      ap (λ t. news (x ∷ old) (y ∷ new) zero conn ++ t) (none_new old new (λ q. h (suc q) (omega arith)))
      ∙ append_nil (news (x ∷ old) (y ∷ new) zero conn)
  new_at (suc p) (x ∷ old) (y ∷ new) line e h =
      λ i. h zero (omega arith) i ++ new_at p old new line e (λ q apart. h (suc q) (omega arith)) i

  -- it is what was put
  new_are_put : (part : Option Part) (old new : List ShardWithJobs)
      → ((q : ℕ) → news old new q conn ≡ entries_at part q conn)
      → ((p : Part) → part ≡ Some p → slice_get old p.place ≡ Some p.line)
      → new_entries old new conn ≡ entries_for conn (put_of part)
  new_are_put None old new h at = none_new old new h
  new_are_put (Some p) old new h at =
      new_at p.place old new p.line (at p refl) (λ q apart.
      h q
      ∙ ap (λ t. cond t (entries_for conn (put_by p.line.shard p.event)) []) (false_eq p.place q (λ f. apart (sym f))))
      ∙ h p.place
      ∙ ap (λ t. cond t (entries_for conn (put_by p.line.shard p.event)) []) (true_eq p.place p.place refl)

-- of what is entered, the entries of one connection
entered_of_conn : (step node inc conn : ℕ) (ps : List Placed)
    → filter (is_for conn) (map (entered_by step node inc) ps)
    ≡ map (entered_for step node inc conn) (entries_for conn ps)
entered_of_conn step node inc conn [] = refl
entered_of_conn step node inc conn (p ∷ ps) = go (nat_eq p.conn conn) refl (entered_of_conn step node inc conn ps)
  where
    go : (b : Bool)
        → nat_eq p.conn conn ≡ b
        → filter (is_for conn) (map (entered_by step node inc) ps)
        ≡ map (entered_for step node inc conn) (entries_for conn ps)
        → cond b (entered_by step node inc p ∷ filter (is_for conn) (map (entered_by step node inc) ps))
        (filter (is_for conn) (map (entered_by step node inc) ps))
        ≡ map (entered_for step node inc conn)
        (map (λ (put : Placed). put.entry)
        (cond b (p ∷ filter (λ (put : Placed). nat_eq put.conn conn) ps)
        (filter (λ (put : Placed). nat_eq put.conn conn) ps)))
    go true e below = λ i. entered_for step node inc (eq_true p.conn conn e i) p.entry ∷ below i
    go false e below = below

-- ---- the step

enters_for : (c : Cluster) (w w' : World) (n : ℕ) (e : Event) (o : Outcome) (added : List Entered)
    → IsFor n e
    → AreEntered c w n (event_for w e) o w' added
    → EntersBy c w e o w' added
enters_for c w w' n (Start m inc) o added at s = absurd at
enters_for c w w' n (Stop m) o added at s = absurd at
enters_for c w w' n (asked.Receive m k) o added at s =
    subst (λ q. AreEntered c w q (event_for w (asked.Receive q k)) o w' added) (sym at) s
enters_for c w w' n (asked.OnInfo m session k) o added at s =
    subst (λ q. AreEntered c w q (event_for w (asked.OnInfo q session k)) o w' added) (sym at) s
enters_for c w w' n (asked.OnConnect m session k) o added at s =
    subst (λ q. AreEntered c w q (event_for w (asked.OnConnect q session k)) o w' added) (sym at) s
enters_for c w w' n (At m event) o added at s =
    subst (λ q. AreEntered c w q (event_for w (At q event)) o w' added) (sym at) s

-- of a server that is not refused
pub made_enters : EntriesWerePut
    → (server : ServerIdentity) (step now n : ℕ) (nodes new : List (Option Served)) (l l' : Listed) (e : Event)
    (found : Option NodeEvent) (made : Made)
    → now ≡ step + 1
    → InPlace (cluster_of server) nodes
    → IsFor n e
    → found ≡ event_for (world_of step nodes l) e
    → world_refusal (cluster_of server) (world_of step nodes l) e ≡ None
    → IsMade n now found nodes made new
    → Enters (cluster_of server) (world_of step nodes l) e (Done (answer_of made.did.answer)) (world_of now new l')
    (map (entered_by now n made.inc) made.did.entries.items)
made_enters were_put server step now n nodes new l l' e found made now_is places at found_is cause m =
    subst (λ o. EntersUnless o c w e out w' added) (sym cause)
    (enters_for c w w' n e out added at (record {
      e = m.e;
      is = sym found_is ∙ m.is;
      a = running_of m.x;
      a_is = shown_at nodes n (Some m.x) m.x_is;
      b = running_of m.y;
      b_is =
          ap (λ t. slice_get (map running_in t) n) m.after
          ∙ shown_at (set nodes n (Some m.y)) n (Some m.y) (get_set_here nodes n (Some m.x) (Some m.y) m.x_is);
      outboxes = λ conn.
          ap (filter (is_for conn)) added_is
          ∙ entered_of_conn (suc step) n inc conn (put_of part)
          ∙ ap (map (entered_for (suc step) n inc conn))
          (sym (new_are_put conn part m.x.node.lines m.y.node.lines
          (λ q. were_put own m.x.node m.e m.does.won m.does.step.race m.y.node q conn steps)
          (λ p is. part_line own m.x.node m.e m.does.won p is)));
      won = m.does.won;
      told = ap (λ (o : of_server.Outcome). Done o.answer) told;
      order = added_is ∙ ap (map (entered_by (suc step) n inc)) (sym (puts_are own m.x.node m.e m.does.won));
    }))
  where
    c : Cluster
    c = cluster_of server

    w : World
    w = world_of step nodes l

    w' : World
    w' = world_of now new l'

    out : Outcome
    out = Done (answer_of made.did.answer)

    added : List Entered
    added = map (entered_by now n made.inc) made.did.entries.items

    inc : ℕ
    inc = m.x.server.inc

    own : ServerIdentity
    own = server_at c n inc

    placed : m.x.server ≡ own
    placed = places n m.x m.x_is

    part : Option Part
    part = part_of own m.x.node m.e m.does.won

    steps : NodeStep own m.x.node m.e m.does.won m.does.step.race m.y.node
    steps = subst (λ s. NodeStep s m.x.node m.e m.does.won m.does.step.race m.y.node) placed m.does.step.step

    told : did_of made.did ≡ of_server.outcome_of own m.x.node m.e m.does.won
    told = subst (λ s. did_of made.did ≡ of_server.outcome_of s m.x.node m.e m.does.won) placed m.does.told

    next : now ≡ suc step
    next = omega (arith, now_is)

    entries_are : made.did.entries.items ≡ put_of part
    entries_are = ap (λ (o : of_server.Outcome). o.entries) told ∙ put_at_is part

    added_is : added ≡ map (entered_by (suc step) n inc) (put_of part)
    added_is = λ i. map (entered_by (next i) n (m.inc i)) (entries_are i)
