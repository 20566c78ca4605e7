-- What each step on the words tells the seat that makes it.
use Rattle.std.specs.Prelude.{◌≡◌, ℕ, zero, suc, ◌+◌, ◌-◌, ◌<◌, ◌≤◌, Bool, true, false, List, [], ◌∷◌, ◌++◌, length, slice_set, slice_index_or, Option, Some, None}
use Rattle.atomic_table.specs.Table.{Step, Me}
use Rattle.claim_cells.specs.declared.parts.HubPart.{HubPart}
use Rattle.claim_cells.specs.declared.parts.ShardPart.{ShardPart}
use Rattle.claim_cells.specs.declared.parts.View.{View}
use Rattle.claim_cells.specs.Rule.{At, Has, newcomer, fresh_hub, cell}

-- the hub has loaded a shard's last finished turn
abbrev pub hub_after_load : HubPart → ℕ → ℕ → HubPart
hub_after_load h shard n = record { issued = h.issued; loads = h.loads ++ (shard, n) ∷ [] }

abbrev pub issued_one : HubPart → HubPart
issued_one h = record { issued = h.issued + 1; loads = h.loads }

-- the shard has loaded the last turn issued
abbrev pub part_after_load : ShardPart → ℕ → ShardPart
part_after_load p n = record {
  shard = p.shard;
  loads = p.loads ++ n ∷ [];
  finished = p.finished;
  next = p.next;
  won = p.won;
  lost = p.lost;
}

-- the shard has won the index in its turn, or lost it
abbrev pub won_by : ShardPart → ℕ → ShardPart
won_by p x = record {
  shard = p.shard;
  loads = p.loads;
  finished = p.finished;
  next = x + 1;
  won = p.won ++ (p.finished + 1, x) ∷ [];
  lost = p.lost;
}

abbrev pub lost_by : ShardPart → ℕ → ShardPart
lost_by p x = record {
  shard = p.shard;
  loads = p.loads;
  finished = p.finished;
  next = x + 1;
  won = p.won;
  lost = p.lost ++ (p.finished + 1, x) ∷ [];
}

abbrev pub finished_one : ShardPart → ShardPart
finished_one p = record {
  shard = p.shard;
  loads = p.loads;
  finished = p.finished + 1;
  next = 0;
  won = p.won;
  lost = p.lost;
}

-- it has finished so many turns, one after the other
abbrev pub finished_more : ℕ → ShardPart → ShardPart
finished_more zero p = p
finished_more (suc n) p = record p { finished = p.finished + suc n; next = 0 }

abbrev pub with_hub : View → HubPart → ℕ → View
with_hub v h at = record { hub = Some h; shards = v.shards; at = at; count = v.count }

-- the part that acts becomes p
abbrev pub with_part : View → ShardPart → View
with_part v p = record {
  hub = v.hub;
  shards = slice_set v.shards v.at p;
  at = v.at;
  count = v.count;
}

-- the seat has each shard's part, in the order of the shards
abbrev pub HasAll : View → Type 0
HasAll v =
    (length v.shards ≡ v.count) × ((s : ℕ) (p : ShardPart) → At v.shards s p → p.shard ≡ s + 1)

-- one of the seat's parts has won the pair
abbrev pub Won : View → ℕ × ℕ → Type 0
Won v pair = (i : ℕ) × (p : ShardPart) × At v.shards i p × Has p.won pair

abbrev pub hub_or : Option HubPart → HubPart
hub_or None = fresh_hub
hub_or (Some h) = h

module _ {S : Type 0} where
  -- the hub's part of a seat
  abbrev pub hub_of : Me S View → HubPart
  hub_of m = hub_or m.0.hub

  -- the shard's part that acts
  abbrev pub part_of : Me S View → ShardPart
  part_of m = slice_index_or m.0.shards m.0.at (newcomer 0)

  abbrev pub HasHub : Me S View → Type 0
  HasHub m = m.0.hub ≡ Some (hub_of m)

  abbrev pub HasPart : Me S View → Type 0
  HasPart m = At m.0.shards m.0.at (part_of m)

  -- The hub found n as the shard's last finished turn: no lower than before, and what the shard's
  -- own part says where the seat has that. The shard acts from then on.
  abbrev pub IsLookedAt : ℕ → ℕ → HubPart → Me S View → ℕ → Me S View → Type 0
  IsLookedAt limit shard h m n k =
      (k ≡ (with_hub m.0 (hub_after_load h shard n) (shard - 1), m.1))
      × (n ≤ limit)
      × ((f : ℕ) → Has h.loads (shard, f) → f ≤ n)
      × ((i : ℕ) (p : ShardPart) → At m.0.shards i p → p.shard ≡ shard → n ≡ p.finished)

  -- One more turn is issued, in which none of the seat's parts has won yet.
  abbrev pub IsIssuedAt : HubPart → Me S View → Me S View → Type 0
  IsIssuedAt h m k =
      (k ≡ (with_hub m.0 (issued_one h) m.0.at, m.1))
      × ((i t x : ℕ) (p : ShardPart) → At m.0.shards i p → Has p.won (t, x) → t ≤ h.issued)

  -- The shard found n as the last turn issued: no lower than before, and what the hub's part says
  -- where the seat has that.
  abbrev pub IsSeenAt : ℕ → ShardPart → Me S View → ℕ → Me S View → Type 0
  IsSeenAt limit p m n k =
      (k ≡ (with_part m.0 (part_after_load p n), m.1))
      × (n ≤ limit)
      × ((f : ℕ) → Has p.loads f → f ≤ n)
      × ((h : HubPart) → m.0.hub ≡ Some h → n ≡ h.issued)

  -- The pair is won, which none of the seat's parts had won; or lost, which one of them had won if
  -- the seat has all.
  abbrev pub IsWonAt : ShardPart → ℕ → Me S View → Me S View → Type 0
  IsWonAt p x m k = (k ≡ (with_part m.0 (won_by p x), m.1)) × ¬ Won m.0 (p.finished + 1, x)

  abbrev pub IsLostAt : ShardPart → ℕ → Me S View → Me S View → Type 0
  IsLostAt p x m k =
      (k ≡ (with_part m.0 (lost_by p x), m.1)) × (HasAll m.0 → Won m.0 (p.finished + 1, x))

  abbrev pub IsClaimedAt : ShardPart → ℕ → Me S View → Bool → Me S View → Type 0
  IsClaimedAt p x m won k = (won ≡ true → IsWonAt p x m k) × (won ≡ false → IsLostAt p x m k)

  -- the same of a word that held n: it was won where the word was below the turn
  abbrev pub IsFoundAt : ShardPart → ℕ → Me S View → ℕ → Me S View → Type 0
  IsFoundAt p x m n k =
      (n < p.finished + 1 → IsWonAt p x m k) × (p.finished + 1 ≤ n → IsLostAt p x m k)

  -- a word that held n was loaded: the pair is lost where it was at the turn or above, and else
  -- nothing is known more
  abbrev pub IsMetAt : ShardPart → ℕ → Me S View → ℕ → Me S View → Type 0
  IsMetAt p x m n k =
      (n < p.finished + 1 → k ≡ m) × (p.finished + 1 ≤ n → IsLostAt p x m k)

  abbrev pub IsSeenLostAt : ShardPart → ℕ → Me S View → Bool → Me S View → Type 0
  IsSeenLostAt p x m lost k = (lost ≡ false → k ≡ m) × (lost ≡ true → IsLostAt p x m k)

  abbrev pub IsFinishedAt : ShardPart → Me S View → Me S View → Type 0
  IsFinishedAt p m k = k ≡ (with_part m.0 (finished_one p), m.1)

  -- What each kind of step on the words tells, whatever its seat. The word of a shard has the
  -- shard's number.
  abbrev pub Looks : ℕ → Step S → Me S View → ℕ → Me S View → Type 0
  Looks limit st m n k = (h : HubPart) → m.0.hub ≡ Some h → IsLookedAt limit st.word h m n k

  abbrev pub Issues : Step S → Me S View → ℕ → Me S View → Type 0
  Issues st m n k = (h : HubPart) → m.0.hub ≡ Some h → IsIssuedAt h m k

  abbrev pub Sees : ℕ → Step S → Me S View → ℕ → Me S View → Type 0
  Sees limit st m n k = (p : ShardPart) → At m.0.shards m.0.at p → IsSeenAt limit p m n k

  abbrev pub Claims : ℕ → ℕ → Step S → Me S View → ℕ → Me S View → Type 0
  Claims window names st m n k =
      (x : ℕ) (p : ShardPart)
      → At m.0.shards m.0.at p
      → st.word ≡ m.0.count + 1 + cell window names (p.finished + 1) x
      → IsFoundAt p x m n k

  abbrev pub Loses : ℕ → ℕ → Step S → Me S View → ℕ → Me S View → Type 0
  Loses window names st m n k =
      (x : ℕ) (p : ShardPart)
      → At m.0.shards m.0.at p
      → st.word ≡ m.0.count + 1 + cell window names (p.finished + 1) x
      → IsMetAt p x m n k

  abbrev pub Finishes : Step S → Me S View → ℕ → Me S View → Type 0
  Finishes st m n k = (p : ShardPart) → At m.0.shards m.0.at p → IsFinishedAt p m k

-- the hub's part after one load of each shard's last finished turn, in the order of the shards
abbrev pub loads_from : ℕ → List ℕ → List (ℕ × ℕ)
loads_from shard [] = []
loads_from shard (n ∷ ns) = (shard, n) ∷ loads_from (shard + 1) ns

abbrev pub with_loads : HubPart → List ℕ → HubPart
with_loads h found = record { issued = h.issued; loads = h.loads ++ loads_from 1 found }

-- each load is no lower than those of the same shard before
abbrev pub Rises : HubPart → List ℕ → Type 0
Rises h found = (s f n : ℕ) → At found s f → Has h.loads (s + 1, n) → n ≤ f
