-- Runs without a rule of turns, claims or starts.
use Rattle.std.proofs.Common.{◌≡◌, ℕ, List, [], ◌∷◌, Some, None, false, refl, ap, inl, ⊎_elim, arith}
use Rattle.cluster_law.specs.Config.{Config, every_rule}
use Rattle.cluster_law.specs.Cluster.{begin}
use Rattle.cluster_law.specs.Shard.{IsOwedPlain}
use Rattle.list_laws.proofs.Lists.{each_cons}
use Rattle.cluster_law.specs.Counterexamples.{WindowIsNeeded, UnwonIsNeeded, MemberIsNeeded, OnceIsNeeded, FreshIsNeeded}
use Rattle.cluster_law.proofs.Scripts.Lines.{Line, Starts, Stops, Opens, Shuts, Sends, Begins, Wins, play, is_reached}
use Rattle.cluster_law.proofs.Scripts.Settings.{small, cluster_of, three, queue, member, plain, none_twice, one_name, same_won, owed_plain}

-- both shards win the pair
abbrev unwon : List Line
unwon =
    Starts 0 1 ∷ Opens 0 0 (Some queue) ∷ Opens 0 1 (Some queue) ∷ Sends 0 (queue ∷ []) [] [] ∷ Begins 0 0 []
    ∷ Wins 0 0 queue member ∷ Begins 0 1 [] ∷ Wins 0 1 queue member ∷ []

pub unwon_is_needed : UnwonIsNeeded
unwon_is_needed = (
  three,
  play three (begin three) unwon,
  is_reached (record every_rule { unwon = false }) three unwon (
    (refl, refl, omega arith, λ i. i),
    (
      ((refl, refl), refl),
      (
        ((refl, refl), refl),
        (
          (
            (refl, refl),
            (λ s d e. omega arith),
            same_won small 1 [],
            one_name queue,
            omega arith,
            (λ f i. absurd i),
            tt,
            (λ f i. absurd i),
          ),
          (
            (((refl, refl), refl), refl, refl, refl, (λ u i. absurd i), tt),
            (
              (((refl, refl), refl), refl, refl, tt, inl refl, refl, refl),
              (
                (((refl, refl), refl), refl, refl, refl, (λ u i. absurd i), tt),
                (
                  (((refl, refl), refl), refl, refl, tt, inl refl, refl, refl),
                  tt,
                ),
              ),
            ),
          ),
        ),
      ),
    ),
  ),
  λ h. h.one_member.0 _ (inl refl) queue refl refl refl,
)

-- the member closes before the claim
abbrev member_closed : List Line
member_closed =
    Starts 0 1 ∷ Opens 0 0 (Some queue) ∷ Shuts 0 0 1 ∷ Sends 0 (queue ∷ []) [] [] ∷ Begins 0 0 []
    ∷ Wins 0 0 queue member ∷ []

pub member_is_needed : MemberIsNeeded
member_is_needed = (
  three,
  play three (begin three) member_closed,
  is_reached (record every_rule { member = false }) three member_closed (
    (refl, refl, omega arith, λ i. i),
    (
      ((refl, refl), refl),
      (
        (((refl, refl), refl), member, inl refl, refl),
        (
          (
            (refl, refl),
            (λ s d e. omega arith),
            same_won small 1 [],
            one_name queue,
            omega arith,
            (λ f i. absurd i),
            tt,
            (λ f i. absurd i),
          ),
          (
            (((refl, refl), refl), refl, refl, refl, (λ u i. absurd i), tt),
            (
              (((refl, refl), refl), refl, refl, (λ i. i), tt, refl, refl),
              tt,
            ),
          ),
        ),
      ),
    ),
  ),
  λ h. let le = (h.owed _ (inl refl)).still _ (inl refl) refl in omega arith,
)

-- the one plain subscription is placed for twice
abbrev twice : List Line
twice = Starts 0 1 ∷ Opens 0 0 None ∷ Sends 0 [] [] [] ∷ Begins 0 0 (plain ∷ plain ∷ []) ∷ []

pub once_is_needed : OnceIsNeeded
once_is_needed = (
  three,
  play three (begin three) twice,
  is_reached (record every_rule { once = false }) three twice (
    (refl, refl, omega arith, λ i. i),
    (
      ((refl, refl), refl),
      (
        (
          (refl, refl),
          (λ s d e. omega arith),
          same_won small 1 [],
          none_twice,
          omega arith,
          (λ f i. absurd i),
          tt,
          (λ f i. absurd i),
        ),
        (
          (
            ((refl, refl), refl),
            refl,
            refl,
            refl,
            each_cons (IsOwedPlain three _ _) plain (plain ∷ [])
                (record { is_open = inl refl; plain = refl; matches = refl })
                (owed_plain three _ _ plain (inl refl) refl refl),
            tt,
          ),
          tt,
        ),
      ),
    ),
  ),
  λ h. h.plain_once.0 _ (inl refl) refl refl refl,
)

abbrev narrow : Config
narrow = cluster_of 2 1

-- the second turn is issued while shard 1 is behind, and what was won in the first is forgotten
abbrev behind : List Line
behind =
    Starts 0 1 ∷ Opens 0 0 (Some queue) ∷ Opens 0 1 (Some queue) ∷ Sends 0 (queue ∷ []) [] [] ∷ Begins 0 0 []
    ∷ Wins 0 0 queue member ∷ Sends 0 [] [] [] ∷ Begins 0 1 [] ∷ Wins 0 1 queue member ∷ []

pub window_is_needed : WindowIsNeeded
window_is_needed = (
  narrow,
  play narrow (begin narrow) behind,
  is_reached (record every_rule { window = false }) narrow behind (
    (refl, refl, omega arith, λ i. i),
    (
      ((refl, refl), refl),
      (
        ((refl, refl), refl),
        (
          ((refl, refl), tt, same_won 1 1 [], one_name queue, omega arith, (λ f i. absurd i), tt, (λ f i. absurd i)),
          (
            (((refl, refl), refl), refl, refl, refl, (λ u i. absurd i), tt),
            (
              (((refl, refl), refl), refl, refl, (λ i. i), inl refl, refl, refl),
              (
                (
                  (refl, refl),
                  tt,
                  (λ t x lt. (
                    (λ i.
                        ⊎_elim (λ (e : (t, x) ≡ (1, 0)). let k = ap (λ (y : ℕ × ℕ). y.0) e in absurd (omega arith))
                        (λ k. k) i),
                    (λ i. absurd i),
                  )),
                  none_twice,
                  omega arith,
                  (λ f i. absurd i),
                  tt,
                  (λ f i. absurd i),
                ),
                (
                  (((refl, refl), refl), refl, refl, refl, (λ u i. absurd i), tt),
                  (
                    (((refl, refl), refl), refl, refl, (λ i. i), inl refl, refl, refl),
                    tt,
                  ),
                ),
              ),
            ),
          ),
        ),
      ),
    ),
  ),
  λ h. h.one_member.0 _ (inl refl) queue refl refl refl,
)

-- the node starts again as it was
abbrev again : List Line
again =
    Starts 0 1 ∷ Opens 0 0 None ∷ Sends 0 [] [] [] ∷ Begins 0 0 (plain ∷ []) ∷ Stops 0 ∷ Starts 0 1 ∷ Opens 0 0 None
    ∷ Sends 0 [] [] [] ∷ Begins 0 0 (plain ∷ []) ∷ []

pub fresh_is_needed : FreshIsNeeded
fresh_is_needed = (
  three,
  play three (begin three) again,
  is_reached (record every_rule { fresh = false }) three again (
    (refl, refl, omega arith, tt),
    (
      ((refl, refl), refl),
      (
        (
          (refl, refl),
          (λ s d e. omega arith),
          same_won small 1 [],
          none_twice,
          omega arith,
          (λ f i. absurd i),
          tt,
          (λ f i. absurd i),
        ),
        (
          (
            ((refl, refl), refl),
            refl,
            refl,
            refl,
            owed_plain three _ _ plain (inl refl) refl refl,
            ((λ y i. absurd i), tt),
          ),
          (
            (refl, refl),
            (
              (refl, refl, omega arith, tt),
              (
                ((refl, refl), refl),
                (
                  (
                    (refl, refl),
                    (λ s d e. omega arith),
                    same_won small 1 [],
                    none_twice,
                    omega arith,
                    (λ f i. absurd i),
                    tt,
                    (λ f i. absurd i),
                  ),
                  (
                    (
                      ((refl, refl), refl),
                      refl,
                      refl,
                      refl,
                      owed_plain three _ _ plain (inl refl) refl refl,
                      ((λ y i. absurd i), tt),
                    ),
                    tt,
                  ),
                ),
              ),
            ),
          ),
        ),
      ),
    ),
  ),
  λ h. h.plain_once.0 _ (inl refl) refl refl refl,
)
