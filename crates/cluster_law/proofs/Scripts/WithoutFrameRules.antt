-- Runs without a rule of frames, or of a publish.
use Rattle.std.proofs.Common.{ℕ, List, [], ◌∷◌, length, Some, None, false, refl, ap, inl, inr, arith}
use Rattle.list_laws.specs.Lists.{Disjoint}
use Rattle.cluster_law.specs.Interest.{Weighted, Up}
use Rattle.cluster_law.specs.Messages.{Routed, News, Changed, Interest, Greeting}
use Rattle.cluster_law.specs.Config.{every_rule}
use Rattle.cluster_law.specs.Hub.{Peer, new_peer, RoutedOf}
use Rattle.cluster_law.specs.Cluster.{begin}
use Rattle.cluster_law.specs.Counterexamples.{AddresseeIsNeeded, IncarnationIsNeeded, MarkIsNeeded, OriginIsNeeded, SentIsNeeded, ApartIsNeeded, OneFrameIsNeeded, NextIsNeeded}
use Rattle.list_laws.proofs.Lists.{each_cons}
use Rattle.cluster_law.proofs.Scripts.Lines.{Line, Starts, Stops, Tells, Greets, Hears, Opens, Sends, Takes, Begins, Wins, Ends, play, is_reached}
use Rattle.cluster_law.proofs.Scripts.Settings.{small, three, queue, routed, member, plain, none_twice, one_name, none_shared, same_won, other_node, other_inc, of_publication, only, owed_plain}

-- one frame for node 1, with the queue name
abbrev for_one : Routed
for_one = routed 1 1 1 (queue ∷ [])

-- one frame for node 1, for its plain subscriptions alone
abbrev bare : Routed
bare = routed 1 1 1 []

-- what node 1 knows of node 0 after its first publication
abbrev heard_one : Peer
heard_one = record { seen = 1; mark = 1; heard = 0; view = [] }

-- node 2 takes the frame for node 1
abbrev two_takers : List Line
two_takers =
    Starts 0 1 ∷ Starts 1 1 ∷ Starts 2 1 ∷ Tells 1 [] (Greeting 1 1) ∷ Greets 0 0 1 1 ∷ Opens 1 0 (Some queue)
    ∷ Opens 2 0 (Some queue) ∷ Sends 0 [] (for_one ∷ []) [] ∷ Takes 1 1 for_one (new_peer 1)
    ∷ Takes 2 1 for_one (new_peer 1) ∷ Begins 1 0 [] ∷ Wins 1 0 queue member ∷ Begins 2 0 [] ∷ Wins 2 0 queue member
    ∷ []

pub addressee_is_needed : AddresseeIsNeeded
addressee_is_needed = (
  three,
  play three (begin three) two_takers,
  is_reached (record every_rule { addressee = false }) three two_takers (
    (refl, refl, omega arith, λ i. i),
    (
      (refl, refl, omega arith, other_node 1 1 0 1 [] (λ e. absurd (omega arith)) (λ i. i)),
      (
        (
          refl,
          refl,
          omega arith,
          other_node 2 1 0 1 ((1, 1) ∷ []) (λ e. absurd (omega arith))
              (other_node 2 1 1 1 [] (λ e. absurd (omega arith)) (λ i. i)),
        ),
        (
          ((refl, refl), (refl, refl)),
          (
            (
              (refl, refl),
              refl,
              (λ e. absurd (omega arith)),
              refl,
              inl ((λ e. absurd (omega arith)), omega arith, refl),
            ),
            (
              ((refl, refl), refl),
              (
                ((refl, refl), refl),
                (
                  (
                    (refl, refl),
                    (λ s d e. omega arith),
                    same_won small 1 [],
                    none_twice,
                    omega arith,
                    only (RoutedOf 0 _ _) for_one
                        (of_publication _ _ for_one refl refl refl refl refl (one_name queue)),
                    ((λ y i. absurd i), tt),
                    (λ f i. none_shared f.names),
                  ),
                  (
                    (
                      (refl, refl),
                      refl,
                      (λ s d e. omega arith),
                      record { me = tt; my_inc = refl; other = λ e. absurd (omega arith) },
                      refl,
                      inl ((λ e. absurd (omega arith)), omega arith, refl),
                      omega arith,
                    ),
                    (
                      (
                        (refl, refl),
                        refl,
                        (λ s d e. omega arith),
                        record { me = tt; my_inc = refl; other = λ e. absurd (omega arith) },
                        refl,
                        inl ((λ e. absurd (omega arith)), omega arith, refl),
                        omega arith,
                      ),
                      (
                        (((refl, refl), refl), refl, refl, refl, (λ u i. absurd i), tt),
                        (
                          (((refl, refl), refl), refl, refl, (λ i. i), inl refl, refl, refl),
                          (
                            (((refl, refl), refl), refl, refl, refl, (λ u i. absurd i), tt),
                            (
                              (((refl, refl), refl), refl, refl, (λ i. i), inl refl, refl, refl),
                              tt,
                            ),
                          ),
                        ),
                      ),
                    ),
                  ),
                ),
              ),
            ),
          ),
        ),
      ),
    ),
  ),
  λ h. h.one_member.0 _ (inl refl) queue refl refl refl,
)

-- node 1 takes the frame, starts again, and takes it once more
abbrev two_incarnations : List Line
two_incarnations =
    Starts 0 1 ∷ Starts 1 1 ∷ Tells 1 [] (Greeting 1 1) ∷ Greets 0 0 1 1 ∷ Opens 1 0 (Some queue)
    ∷ Sends 0 [] (for_one ∷ []) [] ∷ Takes 1 1 for_one (new_peer 1) ∷ Begins 1 0 [] ∷ Wins 1 0 queue member ∷ Stops 1
    ∷ Starts 1 2 ∷ Opens 1 0 (Some queue) ∷ Takes 1 1 for_one (new_peer 1) ∷ Begins 1 0 [] ∷ Wins 1 0 queue member ∷ []

pub incarnation_is_needed : IncarnationIsNeeded
incarnation_is_needed = (
  three,
  play three (begin three) two_incarnations,
  is_reached (record every_rule { incarnation = false }) three two_incarnations (
    (refl, refl, omega arith, λ i. i),
    (
      (refl, refl, omega arith, other_node 1 1 0 1 [] (λ e. absurd (omega arith)) (λ i. i)),
      (
        ((refl, refl), (refl, refl)),
        (
          ((refl, refl), refl, (λ e. absurd (omega arith)), refl, inl ((λ e. absurd (omega arith)), omega arith, refl)),
          (
            ((refl, refl), refl),
            (
              (
                (refl, refl),
                (λ s d e. omega arith),
                same_won small 1 [],
                none_twice,
                omega arith,
                only (RoutedOf 0 _ _) for_one (of_publication _ _ for_one refl refl refl refl refl (one_name queue)),
                ((λ y i. absurd i), tt),
                (λ f i. none_shared f.names),
              ),
              (
                (
                  (refl, refl),
                  refl,
                  (λ s d e. omega arith),
                  record { me = refl; my_inc = tt; other = λ e. absurd (omega arith) },
                  refl,
                  inl ((λ e. absurd (omega arith)), omega arith, refl),
                  omega arith,
                ),
                (
                  (((refl, refl), refl), refl, refl, refl, (λ u i. absurd i), tt),
                  (
                    (((refl, refl), refl), refl, refl, (λ i. i), inl refl, refl, refl),
                    (
                      (refl, refl),
                      (
                        (
                          refl,
                          refl,
                          omega arith,
                          other_node 1 2 0 1 ((1, 1) ∷ []) (λ e. absurd (omega arith))
                              (other_inc 1 2 1 1 [] (λ e. absurd (omega arith)) (λ i. i)),
                        ),
                        (
                          ((refl, refl), refl),
                          (
                            (
                              (refl, refl),
                              refl,
                              (λ s d e. omega arith),
                              record { me = refl; my_inc = tt; other = λ e. absurd (omega arith) },
                              refl,
                              inl ((λ e. absurd (omega arith)), omega arith, refl),
                              omega arith,
                            ),
                            (
                              (((refl, refl), refl), refl, refl, refl, (λ u i. absurd i), tt),
                              (
                                (((refl, refl), refl), refl, refl, (λ i. i), inl refl, refl, refl),
                                tt,
                              ),
                            ),
                          ),
                        ),
                      ),
                    ),
                  ),
                ),
              ),
            ),
          ),
        ),
      ),
    ),
  ),
  λ h. h.one_member.0 _ (inl refl) queue refl refl refl,
)

-- node 1 takes the frame twice
abbrev repeated : List Line
repeated =
    Starts 0 1 ∷ Starts 1 1 ∷ Tells 1 [] (Greeting 1 1) ∷ Greets 0 0 1 1 ∷ Opens 1 0 None ∷ Sends 0 [] (bare ∷ []) []
    ∷ Takes 1 1 bare (new_peer 1) ∷ Takes 1 1 bare heard_one ∷ Begins 1 0 (plain ∷ []) ∷ Ends 1 0
    ∷ Begins 1 0 (plain ∷ []) ∷ []

pub mark_is_needed : MarkIsNeeded
mark_is_needed = (
  three,
  play three (begin three) repeated,
  is_reached (record every_rule { mark = false }) three repeated (
    (refl, refl, omega arith, λ i. i),
    (
      (refl, refl, omega arith, other_node 1 1 0 1 [] (λ e. absurd (omega arith)) (λ i. i)),
      (
        ((refl, refl), (refl, refl)),
        (
          ((refl, refl), refl, (λ e. absurd (omega arith)), refl, inl ((λ e. absurd (omega arith)), omega arith, refl)),
          (
            ((refl, refl), refl),
            (
              (
                (refl, refl),
                (λ s d e. omega arith),
                same_won small 1 [],
                none_twice,
                omega arith,
                only (RoutedOf 0 _ _) bare (of_publication _ _ bare refl refl refl refl refl none_twice),
                ((λ y i. absurd i), tt),
                (λ f i. none_shared f.names),
              ),
              (
                (
                  (refl, refl),
                  refl,
                  (λ s d e. omega arith),
                  record { me = refl; my_inc = refl; other = λ e. absurd (omega arith) },
                  refl,
                  inl ((λ e. absurd (omega arith)), omega arith, refl),
                  tt,
                ),
                (
                  (
                    (refl, refl),
                    refl,
                    (λ s d e. omega arith),
                    record { me = refl; my_inc = refl; other = λ e. absurd (omega arith) },
                    refl,
                    inr (refl, refl),
                    tt,
                  ),
                  (
                    (
                      ((refl, refl), refl),
                      refl,
                      refl,
                      refl,
                      owed_plain three _ _ plain (inl refl) refl refl,
                      ((λ y i. absurd i), tt),
                    ),
                    (
                      (((refl, refl), refl), refl, refl),
                      (
                        (
                          ((refl, refl), refl),
                          refl,
                          refl,
                          refl,
                          owed_plain three _ _ plain (inl refl) refl refl,
                          ((λ y i. absurd i), tt),
                        ),
                        tt,
                      ),
                    ),
                  ),
                ),
              ),
            ),
          ),
        ),
      ),
    ),
  ),
  λ h. h.plain_once.0 _ (inl refl) refl refl refl,
)

-- node 1 takes the frame, hears of the next incarnation of node 0, and takes the old frame once more
abbrev late : List Line
late =
    Starts 0 1 ∷ Starts 1 1 ∷ Tells 1 [] (Greeting 1 1) ∷ Greets 0 0 1 1 ∷ Opens 1 0 None ∷ Sends 0 [] (bare ∷ []) []
    ∷ Takes 1 1 bare (new_peer 1) ∷ Stops 0 ∷ Starts 0 2 ∷ Tells 0 [] (Greeting 0 2) ∷ Greets 1 2 0 2
    ∷ Takes 1 1 bare (new_peer 1) ∷ Begins 1 0 (plain ∷ []) ∷ Ends 1 0 ∷ Begins 1 0 (plain ∷ []) ∷ []

pub origin_is_needed : OriginIsNeeded
origin_is_needed = (
  three,
  play three (begin three) late,
  is_reached (record every_rule { origin = false }) three late (
    (refl, refl, omega arith, λ i. i),
    (
      (refl, refl, omega arith, other_node 1 1 0 1 [] (λ e. absurd (omega arith)) (λ i. i)),
      (
        ((refl, refl), (refl, refl)),
        (
          ((refl, refl), refl, (λ e. absurd (omega arith)), refl, inl ((λ e. absurd (omega arith)), tt, refl)),
          (
            ((refl, refl), refl),
            (
              (
                (refl, refl),
                (λ s d e. omega arith),
                same_won small 1 [],
                none_twice,
                omega arith,
                only (RoutedOf 0 _ _) bare (of_publication _ _ bare refl refl refl refl refl none_twice),
                ((λ y i. absurd i), tt),
                (λ f i. none_shared f.names),
              ),
              (
                (
                  (refl, refl),
                  refl,
                  (λ s d e. omega arith),
                  record { me = refl; my_inc = refl; other = λ e. absurd (omega arith) },
                  refl,
                  inl ((λ e. absurd (omega arith)), tt, refl),
                  omega arith,
                ),
                (
                  (refl, refl),
                  (
                    (
                      refl,
                      refl,
                      omega arith,
                      other_inc 0 2 0 1 ((1, 1) ∷ []) (λ e. absurd (omega arith))
                          (other_node 0 2 1 1 [] (λ e. absurd (omega arith)) (λ i. i)),
                    ),
                    (
                      ((refl, refl), (refl, refl)),
                      (
                        (
                          (refl, refl),
                          refl,
                          (λ e. absurd (omega arith)),
                          refl,
                          inl ((λ e. absurd (omega arith)), tt, refl),
                        ),
                        (
                          (
                            (refl, refl),
                            refl,
                            (λ s d e. omega arith),
                            record { me = refl; my_inc = refl; other = λ e. absurd (omega arith) },
                            refl,
                            inl ((λ e. absurd (omega arith)), tt, refl),
                            omega arith,
                          ),
                          (
                            (
                              ((refl, refl), refl),
                              refl,
                              refl,
                              refl,
                              owed_plain three _ _ plain (inl refl) refl refl,
                              ((λ y i. absurd i), tt),
                            ),
                            (
                              (((refl, refl), refl), refl, refl),
                              (
                                (
                                  ((refl, refl), refl),
                                  refl,
                                  refl,
                                  refl,
                                  owed_plain three _ _ plain (inl refl) refl refl,
                                  ((λ y i. absurd i), tt),
                                ),
                                tt,
                              ),
                            ),
                          ),
                        ),
                      ),
                    ),
                  ),
                ),
              ),
            ),
          ),
        ),
      ),
    ),
  ),
  λ h. h.plain_once.0 _ (inl refl) refl refl refl,
)

-- node 1 takes a frame that nobody sent
abbrev invented : List Line
invented = Starts 1 1 ∷ Opens 1 0 None ∷ Takes 1 0 bare (new_peer 1) ∷ Begins 1 0 (plain ∷ []) ∷ []

pub sent_is_needed : SentIsNeeded
sent_is_needed = (
  three,
  play three (begin three) invented,
  is_reached (record every_rule { sent = false }) three invented (
    (refl, refl, omega arith, λ i. i),
    (
      ((refl, refl), refl),
      (
        (
          (refl, refl),
          tt,
          (λ s d e. omega arith),
          record { me = refl; my_inc = refl; other = λ e. absurd (omega arith) },
          refl,
          inl ((λ e. absurd (omega arith)), omega arith, refl),
          omega arith,
        ),
        (
          (
            ((refl, refl), refl),
            refl,
            refl,
            refl,
            owed_plain three _ _ plain (inl refl) refl refl,
            ((λ y i. absurd i), tt),
          ),
          tt,
        ),
      ),
    ),
  ),
  λ h. (h.published _ (inl refl)).source_in,
)

-- the queue name goes to node 1, and is served by node 0 too
abbrev shared : List Line
shared =
    Starts 0 1 ∷ Starts 1 1 ∷ Tells 1 [] (Greeting 1 1) ∷ Greets 0 0 1 1 ∷ Opens 0 0 (Some queue)
    ∷ Opens 1 0 (Some queue) ∷ Sends 0 (queue ∷ []) (for_one ∷ []) [] ∷ Takes 1 1 for_one (new_peer 1) ∷ Begins 0 0 []
    ∷ Wins 0 0 queue member ∷ Begins 1 0 [] ∷ Wins 1 0 queue member ∷ []

pub apart_is_needed : ApartIsNeeded
apart_is_needed = (
  three,
  play three (begin three) shared,
  is_reached (record every_rule { apart = false }) three shared (
    (refl, refl, omega arith, λ i. i),
    (
      (refl, refl, omega arith, other_node 1 1 0 1 [] (λ e. absurd (omega arith)) (λ i. i)),
      (
        ((refl, refl), (refl, refl)),
        (
          ((refl, refl), refl, (λ e. absurd (omega arith)), refl, inl ((λ e. absurd (omega arith)), omega arith, refl)),
          (
            ((refl, refl), refl),
            (
              ((refl, refl), refl),
              (
                (
                  (refl, refl),
                  (λ s d e. omega arith),
                  same_won small 1 [],
                  one_name queue,
                  omega arith,
                  only (RoutedOf 0 _ _) for_one (of_publication _ _ for_one refl refl refl refl refl (one_name queue)),
                  ((λ y i. absurd i), tt),
                  (λ f i. tt),
                ),
                (
                  (
                    (refl, refl),
                    refl,
                    (λ s d e. omega arith),
                    record { me = refl; my_inc = refl; other = λ e. absurd (omega arith) },
                    refl,
                    inl ((λ e. absurd (omega arith)), omega arith, refl),
                    omega arith,
                  ),
                  (
                    (((refl, refl), refl), refl, refl, refl, (λ u i. absurd i), tt),
                    (
                      (((refl, refl), refl), refl, refl, (λ i. i), inl refl, refl, refl),
                      (
                        (((refl, refl), refl), refl, refl, refl, (λ u i. absurd i), tt),
                        (
                          (((refl, refl), refl), refl, refl, (λ i. i), inl refl, refl, refl),
                          tt,
                        ),
                      ),
                    ),
                  ),
                ),
              ),
            ),
          ),
        ),
      ),
    ),
  ),
  λ h. h.one_member.0 _ (inl refl) queue refl refl refl,
)

-- node 1 gets one frame with the queue name, and one without
abbrev two_frames : List Line
two_frames =
    Starts 0 1 ∷ Starts 1 1 ∷ Tells 1 [] (Greeting 1 1) ∷ Greets 0 0 1 1 ∷ Sends 0 [] (for_one ∷ bare ∷ []) [] ∷ []

pub one_frame_is_needed : OneFrameIsNeeded
one_frame_is_needed = (
  three,
  play three (begin three) two_frames,
  is_reached (record every_rule { one_frame = false }) three two_frames (
    (refl, refl, omega arith, λ i. i),
    (
      (refl, refl, omega arith, other_node 1 1 0 1 [] (λ e. absurd (omega arith)) (λ i. i)),
      (
        ((refl, refl), (refl, refl)),
        (
          ((refl, refl), refl, (λ e. absurd (omega arith)), refl, inl ((λ e. absurd (omega arith)), omega arith, refl)),
          (
            (
              (refl, refl),
              (λ s d e. omega arith),
              same_won small 1 [],
              none_twice,
              omega arith,
              each_cons (RoutedOf 0 _ _) for_one (bare ∷ [])
                  (of_publication _ _ for_one refl refl refl refl refl (one_name queue))
                  (only (RoutedOf 0 _ _) bare (of_publication _ _ bare refl refl refl refl refl none_twice)),
              (
                only (λ g. Unit {0} × Disjoint (queue ∷ []) g.names) bare (tt, none_shared (queue ∷ [])),
                ((λ y i. absurd i), tt),
              ),
              (λ f i. none_shared f.names),
            ),
            tt,
          ),
        ),
      ),
    ),
  ),
  λ h. (h.one_frame.0 _ (inl refl) refl).0 refl,
)

abbrev weighted : ℕ → Weighted
weighted k = record { key = record { pattern = k ∷ []; queue = None }; weight = 1 }

abbrev news : ℕ → News
news k = record { origin = 0; inc = 1; to = 1; to_inc = 1; number = k; body = Changed (Up (weighted k)) }

-- node 1 takes the second change without the first
abbrev gap : List Line
gap =
    Starts 0 1
    ∷ Starts 1 1
    ∷ Tells 0 (Up (weighted 1) ∷ []) (Interest (news 1))
    ∷ Tells 0 (Up (weighted 2) ∷ []) (Interest (news 2))
    ∷ Hears 1 1 (news 2) (new_peer 1) (weighted 2 ∷ []) ∷ []

pub next_is_needed : NextIsNeeded
next_is_needed = (
  three,
  play three (begin three) gap,
  is_reached (record every_rule { next = false }) three gap (
    (refl, refl, omega arith, λ i. i),
    (
      (refl, refl, omega arith, other_node 1 1 0 1 [] (λ e. absurd (omega arith)) (λ i. i)),
      (
        ((refl, refl), record { origin = refl; inc = refl; says = (0, refl, refl) }),
        (
          ((refl, refl), record { origin = refl; inc = refl; says = (0, refl, refl) }),
          (
            (
              (refl, refl),
              refl,
              record { me = refl; my_inc = refl; other = λ e. absurd (omega arith) },
              refl,
              inl ((λ e. absurd (omega arith)), omega arith, refl),
              (tt, refl),
            ),
            tt,
          ),
        ),
      ),
    ),
  ),
  λ h. let e = ap length (h 1 _ refl refl 0 _ refl).view in omega arith,
)
