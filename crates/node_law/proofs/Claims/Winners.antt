-- A pair is won just where it has a winner.
use Rattle.std.proofs.Common.{◌≡◌, ◌⊎◌, ◌↔◌, ℕ, Bool, true, false, true≢false, cond, nat_eq, ◌&&◌, List, [], ◌∷◌, map, Option, Some, None, is_none, refl, sym, ap, ◌∙◌, subst, inl, inr, ⊎_elim, arith}
use Rattle.std.specs.Prelude.{find}
use Rattle.std.specs.Option.{option_map}
use Rattle.list_laws.specs.Lists.{In}
use Rattle.claim_race.specs.Race.{Win, RaceState, is_of_pair, winner, winner_after, IsIssued, IsClaimed, IsFinished}
use Rattle.subj.specs.declared.limits.TheConstants.{WINDOW}
use Rattle.cluster_law.specs.Race.{Keeps}
use Rattle.list_laws.proofs.Tests.{eq_true, true_eq, and_true}
use Rattle.node_law.specs.Race.{pair_of, race_of, IssuesNext, Decides, RaceFollows}

abbrev HasWinner : Option ℕ → Type 0
HasWinner None = ⊥
HasWinner (Some s) = Unit {0}

in_found : (t i : ℕ) (wins : List Win)
    → In (t, i) (map pair_of wins)
    → HasWinner (option_map (λ (w : Win). w.shard) (find (is_of_pair t i) wins))
in_found t i [] x = absurd x
in_found t i (w ∷ ws) x = go (in_found t i ws) (is_of_pair t i w) refl x
  where
    go : (In (t, i) (map pair_of ws) → HasWinner (option_map (λ (w : Win). w.shard) (find (is_of_pair t i) ws)))
        → (b : Bool)
        → is_of_pair t i w ≡ b
        → In (t, i) (map pair_of (w ∷ ws))
        → HasWinner (option_map (λ (w : Win). w.shard) (cond b (Some w) (find (is_of_pair t i) ws)))
    go below true e y = tt
    go below false e y =
        ⊎_elim (λ (f : (t, i) ≡ pair_of w).
        absurd (true≢false (sym (ap (λ b. b && nat_eq w.index i) (true_eq w.turn t (ap (λ (z : ℕ × ℕ). z.0) (sym f)))
        ∙ true_eq w.index i (ap (λ (z : ℕ × ℕ). z.1) (sym f))) ∙ e)))
        (λ (k : In (t, i) (map pair_of ws)). below k) y

found_in : (t i : ℕ) (wins : List Win)
    → HasWinner (option_map (λ (w : Win). w.shard) (find (is_of_pair t i) wins))
    → In (t, i) (map pair_of wins)
found_in t i [] x = absurd x
found_in t i (w ∷ ws) x = go (found_in t i ws) (is_of_pair t i w) refl x
  where
    go : (HasWinner (option_map (λ (w : Win). w.shard) (find (is_of_pair t i) ws)) → In (t, i) (map pair_of ws))
        → (b : Bool)
        → is_of_pair t i w ≡ b
        → HasWinner (option_map (λ (w : Win). w.shard) (cond b (Some w) (find (is_of_pair t i) ws)))
        → In (t, i) (map pair_of (w ∷ ws))
    go below true e y =
        let p = and_true (nat_eq w.turn t) (nat_eq w.index i) e in
        inl (λ k. (sym (eq_true w.turn t p.0) k, sym (eq_true w.index i p.1) k))
    go below false e y = inr (below y)

won_has : (race : RaceState) (t i : ℕ) → In (t, i) (race_of race).won ↔ HasWinner (winner race t i)
unfolding winner
won_has race t i = (in_found t i race.won, found_in t i race.won)

same_won : (old new : RaceState) (t i : ℕ)
    → winner new t i ≡ winner old t i
    → In (t, i) (race_of old).won ↔ In (t, i) (race_of new).won
same_won old new t i e = (
  (λ x. (won_has new t i).1 (subst HasWinner (sym e) ((won_has old t i).0 x))),
  (λ x. (won_has old t i).1 (subst HasWinner e ((won_has new t i).0 x))),
)

issues : (old : RaceState) (turn : ℕ) (new : RaceState) → IsIssued old turn new → IssuesNext (race_of old) (race_of new)
issues old turn new s = record {
  issued = let a = s.after in let b = s.issued in omega arith;
  kept = λ t i lt. same_won old new t i (s.kept.winners t i lt);
}

finishes : (old : RaceState) (shard turn : ℕ) (new : RaceState)
    → IsFinished old shard turn new
    → Keeps WINDOW (race_of old) (race_of new)
finishes old shard turn new s = record {
  issued = s.issued;
  kept = λ t i lt. let e = s.issued in same_won old new t i (s.kept.winners t i (omega arith));
}

none_has : (o : Option ℕ) → is_none o ≡ true → HasWinner o → ⊥
none_has None e h = h
none_has (Some s) e h = true≢false (sym e)

some_has : (o : Option ℕ) → is_none o ≡ false → HasWinner o
some_has None e = absurd (true≢false e)
some_has (Some s) e = tt

claims : (old : RaceState) (shard turn index : ℕ) (won : Bool) (new : RaceState)
    → IsClaimed old shard turn index won new
    → Decides (race_of old) turn index won (race_of new)
claims old shard turn index false new s = (
  (won_has old turn index).1 (some_has (winner old turn index) (sym s.decided)),
  record { issued = s.issued; kept = λ t i lt. let e = s.issued in same_won old new t i (s.winners t i (omega arith)) },
)
claims old shard turn index true new s = record {
  unwon = λ x. none_has (winner old turn index) (sym s.decided) ((won_has old turn index).0 x);
  issued = s.issued;
  gains = λ t i lt.
      let e = s.issued in
      let at : winner new t i ≡ winner_after old shard turn index t i = s.winners t i (omega arith) in (
        (λ x. forth t i (subst HasWinner at ((won_has new t i).0 x))),
        (λ x. (won_has new t i).1 (subst HasWinner (sym at) (back t i x))),
      );
}
  where
    forth : (t i : ℕ)
        → HasWinner (winner_after old shard turn index t i)
        → In (t, i) (race_of old).won ⊎ ((t ≡ turn) × (i ≡ index))
    forth t i x = go (nat_eq t turn && nat_eq i index) refl x
      where
        go : (b : Bool)
            → (nat_eq t turn && nat_eq i index) ≡ b
            → HasWinner (cond b (Some shard) (winner old t i))
            → In (t, i) (race_of old).won ⊎ ((t ≡ turn) × (i ≡ index))
        go true e y =
            let p = and_true (nat_eq t turn) (nat_eq i index) e in inr (eq_true t turn p.0, eq_true i index p.1)
        go false e y = inl ((won_has old t i).1 y)

    back : (t i : ℕ)
        → In (t, i) (race_of old).won ⊎ ((t ≡ turn) × (i ≡ index))
        → HasWinner (winner_after old shard turn index t i)
    back t i x = go (nat_eq t turn && nat_eq i index) refl x
      where
        go : (b : Bool)
            → (nat_eq t turn && nat_eq i index) ≡ b
            → In (t, i) (race_of old).won ⊎ ((t ≡ turn) × (i ≡ index))
            → HasWinner (cond b (Some shard) (winner old t i))
        go true e y = tt
        go false e y =
            ⊎_elim (λ z. (won_has old t i).0 z)
            (λ (z : (t ≡ turn) × (i ≡ index)).
            absurd (true≢false (sym (ap (λ b. b && nat_eq i index) (true_eq t turn z.0) ∙ true_eq i index z.1) ∙ e)))
            y

pub races_follow_the_law : RaceFollows
races_follow_the_law = record { issues = issues; claims = claims; finishes = finishes }
