-- Each step keeps what holds of the parts.
use Rattle.std.proofs.Common.{◌≡◌, ◌≢◌, ℕ, ◌+◌, ◌<◌, ◌≤◌, ◌⊎◌, List, length, set, sym, refl, ap, ◌∙◌, subst, ⊎_elim, arith, le_trans}
use Rattle.atomic_table.proofs.Lists.{set_here, set_else}
use Rattle.claim_cells.specs.declared.parts.HubPart.{HubPart}
use Rattle.claim_cells.specs.declared.parts.ShardPart.{ShardPart}
use Rattle.claim_cells.specs.Rule.{At, Has, InTurn, Law}
use Rattle.claim_cells.specs.Steps.{hub_after_load, issued_one}
use Rattle.claim_cells.proofs.Rules.Lists.{at_below, same_at, has_snoc, set_case}
use native.Mathlib.Decide.{ℕ_discrete}
use mathlib.Core.Logic.{dite}

module _ (limit window names : ℕ) (hub : HubPart) (all : List ShardPart) (law : Law limit window names hub all) where
  -- the hub has loaded no more than the shard's finished turn
  pub law_look : (s n : ℕ) (p : ShardPart)
      → At all s p
      → n ≤ p.finished
      → Law limit window names (hub_after_load hub p.shard n) all
  law_look s n p at low = record {
    named = law.named;
    limited = law.limited;
    finishes = law.finishes;
    looks = λ r f q h e.
        ⊎_elim (λ h. law.looks r f q h e)
        (λ (t : (p.shard, n) ≡ (q.shard, f)).
        subst (λ (k : ℕ). k ≤ q.finished) (ap (λ z. z.1) t) (le_trans low (same r q e (ap (λ z. z.0) t))))
        (has_snoc hub.loads (p.shard, n) (q.shard, f) h);
    sees = law.sees;
    near = law.near;
    won = law.won;
    lost = law.lost;
    once = law.once;
    others = law.others;
  }
    where
      same : (r : ℕ) (q : ShardPart) → At all r q → p.shard ≡ q.shard → p.finished ≤ q.finished
      same r q e is =
          subst (λ (z : ShardPart). p.finished ≤ z.finished)
          (same_at all s r p q (let a = law.named s p at in let b = law.named r q e in omega arith) at e) (omega arith)

  -- the next turn is near each shard's finished one
  pub law_issue : hub.issued < limit
      → ((s : ℕ) (p : ShardPart) → At all s p → hub.issued + 1 ≤ p.finished + window)
      → Law limit window names (issued_one hub) all
  law_issue low near = record {
    named = law.named;
    limited = omega arith;
    finishes = λ s p e. let k = law.finishes s p e in omega arith;
    looks = law.looks;
    sees = λ s n p e h. let k = law.sees s n p e h in omega arith;
    near = near;
    won = λ s p e t x h. let k = law.won s p e t x h in (k.0, (let m = k.1 in omega arith), k.2, k.3);
    lost = λ s p e t x h. let k = law.lost s p e t x h in (k.0, (let m = k.1 in omega arith), k.2, k.3);
    once = law.once;
    others = law.others;
  }

  module _ (s : ℕ) (p : ShardPart) (at : At all s p) (q : ShardPart) where
    abbrev Fresh : ℕ × ℕ → Type 0
    Fresh pair = (r : ℕ) (o : ShardPart) → At all r o → ¬ Has o.won pair

    abbrev Elsewhere : ℕ → ℕ × ℕ → Type 0
    Elsewhere r pair = (u : ℕ) × (o : ShardPart) × (u ≢ r) × At (set all s q) u o × Has o.won pair

    abbrev Once : ℕ → ShardPart → ℕ → ShardPart → Type 0
    Once r o u w = (i j : ℕ) (pair : ℕ × ℕ) → At o.won i pair → At w.won j pair → (r ≡ u) × (i ≡ j)

    -- the shard's part becomes q, whose wins are new pairs, and whose losses are others' wins
    pub law_part : q.shard ≡ p.shard
        → p.finished ≤ q.finished
        → q.finished ≤ hub.issued
        → ((n : ℕ) → Has q.loads n → n ≤ hub.issued)
        → InTurn names hub.issued q q.won
        → InTurn names hub.issued q q.lost
        → ((pair : ℕ × ℕ) → Has p.won pair → Has q.won pair)
        → ((i : ℕ) (pair : ℕ × ℕ) → At q.won i pair → At p.won i pair ⊎ ((i ≡ length p.won) × Fresh pair))
        → ((pair : ℕ × ℕ) → Has q.lost pair
        → Has p.lost pair ⊎ ((r : ℕ) × (o : ShardPart) × (r ≢ s) × At all r o × Has o.won pair))
        → Law limit window names hub (set all s q)
    law_part same up most sees won lost grows wins losses = record {
      named = each (λ r o. o.shard ≡ r + 1) (same ∙ law.named s p at) (λ r o ne e. law.named r o e);
      limited = law.limited;
      finishes = each (λ r o. o.finished ≤ hub.issued) most (λ r o ne e. law.finishes r o e);
      looks = λ r f o h e.
          each (λ r o. (f : ℕ) → Has hub.loads (o.shard, f) → f ≤ o.finished)
          (λ f h. le_trans (law.looks s f p (subst (λ (k : ℕ). Has hub.loads (k, f)) same h) at) up)
          (λ r o ne e f h. law.looks r f o h e) r o e f h;
      sees = λ r n o e h.
          each (λ r o. (n : ℕ) → Has o.loads n → n ≤ hub.issued) sees (λ r o ne e n h. law.sees r n o e h) r o e n h;
      near =
          each (λ r o. hub.issued ≤ o.finished + window) (let k = law.near s p at in omega arith)
          (λ r o ne e. law.near r o e);
      won = each (λ r o. InTurn names hub.issued o o.won) won (λ r o ne e. law.won r o e);
      lost = each (λ r o. InTurn names hub.issued o o.lost) lost (λ r o ne e. law.lost r o e);
      once = λ r u i j o w pair eo ew ho hw. once r o eo u w ew i j pair ho hw;
      others = λ r o pair e h.
          each (λ r o. (pair : ℕ × ℕ) → Has o.lost pair → Elsewhere r pair)
          (λ pair h. ⊎_elim (λ h. forth s pair (law.others s p pair at h)) (λ t. forth s pair t) (losses pair h))
          (λ r o ne e pair h. forth r pair (law.others r o pair e h)) r o e pair h;
    }
      where
        each : (M : ℕ → ShardPart → Type 0) → M s q → ((r : ℕ) (o : ShardPart) → r ≢ s → At all r o → M r o)
            → (r : ℕ) (o : ShardPart) → At (set all s q) r o → M r o
        each = set_case all s q

        forth : (r : ℕ) (pair : ℕ × ℕ)
            → (u : ℕ) × (o : ShardPart) × (u ≢ r) × At all u o × Has o.won pair
            → Elsewhere r pair
        forth r pair t =
            dite (ℕ_discrete t.0 s)
            (λ is. (
              s,
              q,
              (λ e. t.2 (is ∙ e)),
              set_here all s q (at_below all s p at),
              grows pair (subst (λ (z : ShardPart). Has z.won pair) (same_at all t.0 s t.1 p is t.3 at) t.4),
            ))
            (λ ne. (t.0, t.1, t.2, set_else all s t.0 q ne ∙ t.3, t.4))

        mine : Once s q s q
        mine i j pair hi hj = ⊎_elim
            (λ a. ⊎_elim (λ b. law.once s s i j p p pair at at a b) (λ b. absurd (b.1 s p at (i, a))) (wins j pair hj))
            (λ a. ⊎_elim (λ b. absurd (a.1 s p at (j, b))) (λ b. (refl, a.0 ∙ sym b.0)) (wins j pair hj))
            (wins i pair hi)

        once : (r : ℕ) (o : ShardPart) → At (set all s q) r o → (u : ℕ) (w : ShardPart) → At (set all s q) u w
            → Once r o u w
        once =
            each (λ r o. (u : ℕ) (w : ShardPart) → At (set all s q) u w → Once r o u w)
            (each (λ u w. Once s q u w) mine (λ u w ne e i j pair hi hj.
            ⊎_elim (λ a. law.once s u i j p w pair at e a hj) (λ a. absurd (a.1 u w e (j, hj))) (wins i pair hi)))
            (λ r o ne e.
            each (λ u w. Once r o u w)
            (λ i j pair hi hj.
            ⊎_elim (λ b. law.once r s i j o p pair e at hi b) (λ b. absurd (b.1 r o e (i, hi))) (wins j pair hj))
            (λ u w ne' e' i j pair hi hj. law.once r u i j o w pair e e' hi hj))
