-- Orders of work, event by event.
use Rattle.std.proofs.Common.{◌≡◌, ℕ, zero, suc, ◌+◌, ◌-◌, ◌<◌, ◌≤◌, cond, Bool, true, false, List, [], ◌∷◌, ◌++◌, drop, length, get_or, map, refl, sym, ap, ◌∙◌, subst, add-one, arith}
use Rattle.std.specs.Str.{bytes_eq}
use Rattle.std.proofs.lemmas.List.{at_drop_more}
use Rattle.list_laws.proofs.Changes.{append_assoc, append_nil, map_append}
use Rattle.subj.specs.declared.jobs.Job.{Job}
use Rattle.subj.specs.Servers.{name_at}
use Rattle.hub_core.specs.Publishing.{Publication, own_job, frames_of}
use Rattle.hub_core.specs.declared.publishing.PublishPlan.{PublishPlan}
use Rattle.route_values.specs.Frames.{Frame}
use Rattle.node_law.specs.declared.events.ShardWork.TheVariants.{Begin, Claim, End}
use Rattle.node_law.specs.Events.{AtShard}
use Rattle.world_law.specs.Events.{Event, At, Receive}
use Rattle.world_law.specs.State.{Cluster, World, Running, server_at}
use Rattle.settled_law.specs.Orders.{claims_from, work_events, works_from, names_in_body, frames_order, node_order, nodes_order, whole_order, IsOrder, SomeOrderIsRight}
use Rattle.cluster_world.specs.declared.events.Event as code
use Rattle.cluster_world.specs.InCode.{event_of}
use Rattle.mesh_script.specs.Owed.{planned_node, planned_order, OrdersAll}

-- ---- one event more

pub events_more : (xs : List code.Event) (x : code.Event)
    → map event_of (xs ++ x ∷ []) ≡ map event_of xs ++ event_of x ∷ []
events_more xs x = map_append event_of xs (x ∷ [])

-- ---- one part more was put, and the rest is left

pub put_on : (now new part rest more whole : List Event)
    → now ++ more ≡ whole
    → more ≡ part ++ rest
    → new ≡ now ++ part
    → new ++ rest ≡ whole
put_on now new part rest more whole so split put =
    ap (λ l. l ++ rest) put ∙ append_assoc now part rest ∙ ap (λ l. now ++ l) (sym split) ∙ so

-- nothing is left
pub put_all : (now more whole : List Event) → now ++ more ≡ whole → more ≡ [] → now ≡ whole
put_all now more whole so none = sym (append_nil now) ∙ ap (λ l. now ++ l) (sym none) ∙ so

-- ---- the work of a shard

pub claims_next : (n shard i names : ℕ)
    → i < names
    → claims_from n shard i (names - i) ≡ At n (AtShard shard (Claim i)) ∷ claims_from n shard (i + 1) (names - (i + 1))
claims_next n shard i names lt =
    let e : names - i ≡ suc (names - (i + 1)) = omega arith in
    ap (claims_from n shard i) e
    ∙ ap (λ k. At n (AtShard shard (Claim i)) ∷ claims_from n shard k (names - (i + 1))) (sym (add-one i))

pub claims_end : (n shard i names : ℕ) → names ≤ i → claims_from n shard i (names - i) ≡ At n (AtShard shard End) ∷ []
claims_end n shard i names le = let e : names - i ≡ 0 = omega arith in ap (claims_from n shard i) e

-- the Begin was put
pub work_first : (n shard names : ℕ) (old now : List Event)
    → now ≡ old ++ At n (AtShard shard Begin) ∷ []
    → now ++ claims_from n shard 0 (names - 0) ≡ old ++ work_events n shard names
work_first n shard names old now put =
    let e : names - 0 ≡ names = omega arith in
    ap (λ l. l ++ claims_from n shard 0 (names - 0)) put
    ∙ append_assoc old (At n (AtShard shard Begin) ∷ []) (claims_from n shard 0 (names - 0))
    ∙ ap (λ k. old ++ (At n (AtShard shard Begin) ∷ claims_from n shard 0 k)) e

-- all Claims were, and the End behind them
pub work_last : (n shard i names : ℕ) (now new whole : List Event)
    → names ≤ i
    → now ++ claims_from n shard i (names - i) ≡ whole
    → new ≡ now ++ At n (AtShard shard End) ∷ []
    → new ≡ whole
work_last n shard i names now new whole le so put = put ∙ ap (λ l. now ++ l) (sym (claims_end n shard i names le)) ∙ so

-- ---- of each shard

pub works_first : (n shards names : ℕ) (now : List Event)
    → now ++ works_from n 0 (shards - 0) names ≡ now ++ works_from n 0 shards names
works_first n shards names now = let e : shards - 0 ≡ shards = omega arith in ap (λ k. now ++ works_from n 0 k names) e

pub works_next : (n i shards names : ℕ)
    → i < shards
    → works_from n i (shards - i) names ≡ work_events n (i + 1) names ++ works_from n (i + 1) (shards - (i + 1)) names
works_next n i shards names lt =
    let e : shards - i ≡ suc (shards - (i + 1)) = omega arith in
    ap (λ k. works_from n i k names) e
    ∙ ap (λ k. work_events n k names ++ works_from n k (shards - (i + 1)) names) (sym (add-one i))

pub works_end : (n i shards names : ℕ) → shards ≤ i → works_from n i (shards - i) names ≡ []
works_end n i shards names le = let e : shards - i ≡ 0 = omega arith in ap (λ k. works_from n i k names) e

-- ---- frames

frame_split : (names : List (List ℕ)) (m shards number : ℕ) (x : Frame) (rest : List Frame) (b : Bool)
    → bytes_eq x.to (name_at names m) ≡ b
    → frames_order names m shards number (x ∷ rest)
    ≡ cond b (Receive m number ∷ works_from m 0 shards (names_in_body x.body))
    (frames_order names m shards (suc number) rest)
frame_split names m shards number x rest b is =
    ap (λ t.
    cond t (Receive m number ∷ works_from m 0 shards (names_in_body x.body))
    (frames_order names m shards (suc number) rest))
    is

pub frame_here : (names : List (List ℕ)) (m shards number i : ℕ) (frames : List Frame) (x : Frame)
    → i < length frames
    → x ≡ get_or frames i x
    → bytes_eq x.to (name_at names m) ≡ true
    → frames_order names m shards number (drop i frames)
    ≡ Receive m number ∷ works_from m 0 shards (names_in_body x.body)
frame_here names m shards number i frames x lt is here =
    at_drop_more (frames_order names m shards number) frames i x lt
    ∙ ap (λ y. frames_order names m shards number (y ∷ drop (i + 1) frames)) (sym is)
    ∙ frame_split names m shards number x (drop (i + 1) frames) true here

pub frame_next : (names : List (List ℕ)) (m shards number i : ℕ) (frames : List Frame) (x : Frame)
    → i < length frames
    → x ≡ get_or frames i x
    → bytes_eq x.to (name_at names m) ≡ false
    → frames_order names m shards number (drop i frames)
    ≡ frames_order names m shards (number + 1) (drop (i + 1) frames)
frame_next names m shards number i frames x lt is here =
    at_drop_more (frames_order names m shards number) frames i x lt
    ∙ ap (λ y. frames_order names m shards number (y ∷ drop (i + 1) frames)) (sym is)
    ∙ frame_split names m shards number x (drop (i + 1) frames) false here
    ∙ ap (λ k. frames_order names m shards k (drop (i + 1) frames)) (sym (add-one number))

-- ---- all servers

pub nodes_next : (names : List (List ℕ)) (shards n own first : ℕ) (frames : List Frame) (i count : ℕ)
    → i < count
    → planned_order names shards n own first frames i (count - i)
    ≡ planned_node names shards n own first frames i
    ++ planned_order names shards n own first frames (i + 1) (count - (i + 1))
nodes_next names shards n own first frames i count lt =
    let e : count - i ≡ suc (count - (i + 1)) = omega arith in
    ap (planned_order names shards n own first frames i) e
    ∙ ap (λ k.
    planned_node names shards n own first frames i ++ planned_order names shards n own first frames k (count - (i + 1)))
    (sym (add-one i))

pub nodes_end : (names : List (List ℕ)) (shards n own first : ℕ) (frames : List Frame) (i count : ℕ)
    → count ≤ i
    → planned_order names shards n own first frames i (count - i) ≡ []
nodes_end names shards n own first frames i count le =
    let e : count - i ≡ 0 = omega arith in ap (planned_order names shards n own first frames i) e

pub nodes_first : (names : List (List ℕ)) (shards n own first : ℕ) (frames : List Frame) (count : ℕ)
    → planned_order names shards n own first frames 0 (count - 0)
    ≡ planned_order names shards n own first frames 0 count
nodes_first names shards n own first frames count =
    let e : count - 0 ≡ count = omega arith in ap (planned_order names shards n own first frames 0) e

-- ---- what is planned is what is owed

module _ (c : Cluster) (w : World) (n : ℕ) (a : Running) (p : Publication) where
  same_nodes : (m count : ℕ)
      → planned_order c.names c.shards n (length (own_job (server_at c n a.inc) a.node.hub p).queues)
      (suc (length w.sent)) (frames_of (server_at c n a.inc) a.node.hub p) m count ≡ nodes_order c w n a p m count
  same_nodes m zero = refl
  same_nodes m (suc count) = ap (λ l. node_order c w n a p m ++ l) (same_nodes (suc m) count)

  whole_planned : (own : ℕ) (frames : List Frame)
      → own ≡ length (own_job (server_at c n a.inc) a.node.hub p).queues
      → frames ≡ frames_of (server_at c n a.inc) a.node.hub p
      → planned_order c.names c.shards n own (suc (length w.sent)) frames 0 (length c.names) ≡ whole_order c w n a p
  whole_planned own frames own_is frames_are =
      ap (λ k. planned_order c.names c.shards n k (suc (length w.sent)) frames 0 (length c.names)) own_is
      ∙ ap (λ l.
      planned_order c.names c.shards n (length (own_job (server_at c n a.inc) a.node.hub p).queues)
      (suc (length w.sent)) l 0 (length c.names))
      frames_are
      ∙ same_nodes 0 (length c.names)

pub planned_is_whole : SomeOrderIsRight
    → (n : ℕ) (names : List (List ℕ)) (shards first : ℕ) (plan : PublishPlan) (order : List Event)
    → order ≡ planned_order names shards n (length plan.job.queues) first plan.frames.items 0 (length names)
    → OrdersAll n names shards first plan order
planned_is_whole right n names shards first plan order is c w a p planned =
    let job = ap (λ (j : Job). length j.queues) planned.plan_is.job in
    let same : order ≡ whole_order c w n a p = is ∙ (λ i.
    planned_order (planned.names_are i) (planned.shards_are i) n (length plan.job.queues) (planned.first_is i)
    plan.frames.items 0 (length (planned.names_are i)))
    ∙ whole_planned c w n a p (length plan.job.queues) plan.frames.items job planned.plan_is.frames in
    record { same = same; right = subst (IsOrder c w n a p) (sym same) (right c w n a p planned.some) }
