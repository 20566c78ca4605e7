-- Each step keeps what the words say of the parts.
use Rattle.std.proofs.Common.{◌≡◌, ◌≢◌, ℕ, ◌+◌, ◌*◌, ◌<◌, ◌≤◌, ◌⊎◌, List, length, set, slice_index, sym, ◌∙◌, subst, ⊎_elim, inl, inr, arith, le_trans, length-set, get_or-set_same, get_or-set_other}
use Rattle.atomic_table.proofs.Lists.{set_here, set_else}
use Rattle.claim_cells.specs.declared.parts.HubPart.{HubPart}
use Rattle.claim_cells.specs.declared.parts.ShardPart.{ShardPart}
use Rattle.claim_cells.specs.Rule.{At, Has, Law, Words, IsCell, cell}
use Rattle.claim_cells.specs.Steps.{issued_one}
use Rattle.claim_cells.proofs.Rules.Lists.{at_below, same_at, set_case, cell_below}
use native.Mathlib.Decide.{ℕ_discrete}
use mathlib.Core.Logic.{dite}

module _ (limit window names count : ℕ) (words : List ℕ) (hub : HubPart) (all : List ShardPart) (wide : 0 < window)
    (law : Law limit window names hub all) (kept : Words window names count words hub all) where
  pub shard_below : (s : ℕ) (p : ShardPart) → At all s p → s < count
  shard_below s p at = subst (λ (n : ℕ). s < n) kept.shards (at_below all s p at)

  pub words_look : (h : HubPart) → h.issued ≡ hub.issued → Words window names count words h all
  words_look h same = record {
    width = kept.width;
    shards = kept.shards;
    issued = kept.issued ∙ sym same;
    finished = kept.finished;
    greatest = kept.greatest;
    cells = kept.cells;
  }

  pub words_issue : Words window names count (set words 0 (hub.issued + 1)) (issued_one hub) all
  words_issue = record {
    width = length-set words 0 (hub.issued + 1) ∙ kept.width;
    shards = kept.shards;
    issued =
        get_or-set_same words 0 (hub.issued + 1) 0
        (subst (λ (n : ℕ). 0 < n) (sym kept.width) (let q : ℕ = window * names in omega arith));
    finished = λ s p e. else (s + 1) (omega arith) ∙ kept.finished s p e;
    greatest = λ s t x p e h.
        subst (λ (n : ℕ). t ≤ n) (sym (else (count + 1 + cell window names t x) (omega arith)))
        (kept.greatest s t x p e h);
    cells = λ c low. subst (IsCell window names all c) (sym (else (count + 1 + c) (omega arith))) (kept.cells c low);
  }
    where
      else : (i : ℕ) → 0 < i → slice_index (set words 0 (hub.issued + 1)) i ≡ slice_index words i
      else i h = get_or-set_other words 0 i (hub.issued + 1) 0 (λ e. omega arith)

  module _ (s : ℕ) (p : ShardPart) (at : At all s p) (q : ShardPart) (later : List ℕ) where
    abbrev Later : ℕ → ℕ
    Later c = slice_index later (count + 1 + c)

    pub words_part : length later ≡ length words
        → slice_index later 0 ≡ slice_index words 0
        → slice_index later (s + 1) ≡ q.finished
        → ((r : ℕ) → r ≢ s → r < count → slice_index later (r + 1) ≡ slice_index words (r + 1))
        → ((c : ℕ) → c < window * names → slice_index words (count + 1 + c) ≤ Later c)
        → ((pair : ℕ × ℕ) → Has p.won pair → Has q.won pair)
        → ((t x : ℕ) → Has q.won (t, x) → Has p.won (t, x) ⊎ (t ≤ Later (cell window names t x)))
        → ((c : ℕ) → c < window * names
        → (Later c ≡ slice_index words (count + 1 + c))
        ⊎ ((x : ℕ) × Has q.won (Later c, x) × (cell window names (Later c) x ≡ c)))
        → Words window names count later hub (set all s q)
    words_part len first own else up grows wins cells = record {
      width = len ∙ kept.width;
      shards = length-set all s q ∙ kept.shards;
      issued = first ∙ kept.issued;
      finished =
          each (λ r o. slice_index later (r + 1) ≡ o.finished) own
          (λ r o ne e. else r ne (shard_below r o e) ∙ kept.finished r o e);
      greatest = λ r t x o e h.
          each (λ r o. (t x : ℕ) → Has o.won (t, x) → t ≤ Later (cell window names t x))
          (λ t x h. ⊎_elim (λ old. raised s t x p at old) (λ new. new) (wins t x h))
          (λ r o ne e t x h. raised r t x o e h) r o e t x h;
      cells = λ c low.
          ⊎_elim (λ (e : Later c ≡ slice_index words (count + 1 + c)).
          subst (IsCell window names (set all s q) c) (sym e)
          (forth c (slice_index words (count + 1 + c)) (kept.cells c low)))
          (λ t. inr (t.0, s, q, set_here all s q (at_below all s p at), t.1, t.2)) (cells c low);
    }
      where
        each : (M : ℕ → ShardPart → Type 0) → M s q → ((r : ℕ) (o : ShardPart) → r ≢ s → At all r o → M r o)
            → (r : ℕ) (o : ShardPart) → At (set all s q) r o → M r o
        each = set_case all s q

        raised : (r t x : ℕ) (o : ShardPart) → At all r o → Has o.won (t, x) → t ≤ Later (cell window names t x)
        raised r t x o e h =
            le_trans (kept.greatest r t x o e h)
            (up (cell window names t x) (cell_below window names t x wide ((law.won r o e t x h).2)))

        forth : (c n : ℕ) → IsCell window names all c n → IsCell window names (set all s q) c n
        forth c n k =
            ⊎_elim (λ z. inl z)
            (λ t.
            dite (ℕ_discrete t.1 s)
            (λ is.
            inr (
              t.0,
              s,
              q,
              set_here all s q (at_below all s p at),
              grows (n, t.0) (subst (λ (z : ShardPart). Has z.won (n, t.0)) (same_at all t.1 s t.2 p is t.3 at) t.4),
              t.5,
            ))
            (λ ne. inr (t.0, t.1, t.2, set_else all s t.1 q ne ∙ t.3, t.4, t.5)))
            k
