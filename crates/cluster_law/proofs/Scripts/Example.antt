-- The run, and the refusals after it.
use Rattle.std.proofs.Common.{◌≡◌, ◌≢◌, ◌<◌, ℕ, List, [], ◌∷◌, Some, None, refl, sym, ap, ◌∙◌, subst, inl, inr, ⊎_elim, arith}
use Rattle.std.specs.Prelude.{slice_get}
use Rattle.std.proofs.lemmas.Option.{same_Some}
use Rattle.cluster_law.specs.Messages.{Routed, Frame, Message, Greeting}
use Rattle.cluster_law.specs.Config.{every_rule}
use Rattle.cluster_law.specs.Hub.{Peer, Hub, new_peer, RoutedOf, HubReceives}
use Rattle.cluster_law.specs.Node.{Node, Receive}
use Rattle.cluster_law.specs.Cluster.{World, Hand, Acts, begin}
use Rattle.cluster_law.specs.Example.{two_nodes, workers, Refuses, Witness}
use Rattle.cluster_law.proofs.Scripts.Lines.{Line, Starts, Stops, Tells, Greets, Opens, Sends, Takes, Begins, Wins, node, peer, next, play, IsLegal, AreLegal, is_event, is_run}
use Rattle.cluster_law.proofs.Scripts.Settings.{small, routed, member, plain, none_twice, one_name, none_shared, same_won, other_node, other_inc, of_publication, only, owed_plain}

abbrev for_member : Routed
for_member = routed 1 1 1 (workers ∷ [])

abbrev for_plain : Routed
for_plain = routed 1 2 1 []

abbrev script : List Line
script =
    Starts 0 1
    ∷ Starts 1 1
    ∷ Tells 1 [] (Greeting 1 1)
    ∷ Greets 0 0 1 1
    ∷ Opens 1 0 (Some workers)
    ∷ Opens 1 1 None
    ∷ Sends 0 [] (for_member ∷ []) []
    ∷ Sends 0 [] (for_plain ∷ []) []
    ∷ Takes 1 1 for_member (new_peer 1)
    ∷ Begins 1 0 []
    ∷ Wins 1 0 workers member
    ∷ Begins 1 1 (plain ∷ []) ∷ []

abbrev restart : List Line
restart = Stops 1 ∷ Starts 1 2 ∷ []

abbrev placed : World
placed = play two_nodes (begin two_nodes) script

abbrev restarted : World
restarted = play two_nodes placed restart

script_legal : AreLegal every_rule two_nodes (begin two_nodes) script
script_legal = (
  (refl, refl, omega arith, λ i. i),
  (
    (refl, refl, omega arith, other_node 1 1 0 1 [] (λ e. absurd (omega arith)) (λ i. i)),
    (
      ((refl, refl), (refl, refl)),
      (
        ((refl, refl), refl, (λ e. absurd (omega arith)), refl, inl ((λ e. absurd (omega arith)), omega arith, refl)),
        (
          ((refl, refl), refl),
          (
            ((refl, refl), refl),
            (
              (
                (refl, refl),
                (λ s d e. omega arith),
                same_won small 1 [],
                none_twice,
                omega arith,
                only (RoutedOf 0 _ _) for_member
                    (of_publication _ _ for_member refl refl refl refl refl (one_name workers)),
                ((λ y i. absurd i), tt),
                (λ f i. none_shared f.names),
              ),
              (
                (
                  (refl, refl),
                  (λ s d e. omega arith),
                  same_won small 2 [],
                  none_twice,
                  omega arith,
                  only (RoutedOf 0 _ _) for_plain (of_publication _ _ for_plain refl refl refl refl refl none_twice),
                  ((λ y i. absurd i), tt),
                  (λ f i. none_shared f.names),
                ),
                (
                  (
                    (refl, refl),
                    refl,
                    (λ s d e. omega arith),
                    record { me = refl; my_inc = refl; other = λ e. absurd (omega arith) },
                    refl,
                    inl ((λ e. absurd (omega arith)), omega arith, refl),
                    omega arith,
                  ),
                  (
                    (((refl, refl), refl), refl, refl, refl, (λ u i. absurd i), tt),
                    (
                      (((refl, refl), refl), refl, refl, (λ i. i), inl refl, refl, refl),
                      (
                        (
                          ((refl, refl), refl),
                          refl,
                          refl,
                          refl,
                          owed_plain two_nodes _ _ plain (inl refl) refl refl,
                          ((λ y i. absurd i), tt),
                        ),
                        tt,
                      ),
                    ),
                  ),
                ),
              ),
            ),
          ),
        ),
      ),
    ),
  ),
)

restart_legal : AreLegal every_rule two_nodes placed restart
restart_legal = (
  (refl, refl),
  (
    (
      refl,
      refl,
      omega arith,
      other_node 1 2 0 1 ((1, 1) ∷ []) (λ e. absurd (omega arith))
          (other_inc 1 2 1 1 [] (λ e. absurd (omega arith)) (λ i. i)),
    ),
    tt,
  ),
)

-- a message that the hub does not take is refused
refused : (w : World) (n k : ℕ) (m : Routed) (a : Node)
    → slice_get w.past.sent k ≡ Some (Message m)
    → slice_get w.nodes n ≡ Some a
    → ((hub : Hub) → HubReceives every_rule n a.inc a.hub m hub → ⊥)
    → Refuses w (Hand n k)
refused w n k m a sent at never w' h =
    let is : h.frame ≡ Message m = same_Some h.frame (Message m) (sym h.frame_is ∙ sent) in
    let acts : Acts every_rule two_nodes w n (Receive (Message m)) w' =
    subst (λ (f : Frame). Acts every_rule two_nodes w n (Receive f) w') is h.acts in
    let same : acts.before ≡ a = same_Some acts.before a (sym acts.before_is ∙ at) in
    never acts.steps.hub
    (subst (λ (x : Node). HubReceives every_rule n x.inc x.hub m acts.steps.hub) same acts.steps.receives)

repeated : (hub : Hub) → HubReceives every_rule 1 1 (node placed 1).hub for_member hub → ⊥
repeated hub r =
    let is : peer placed 1 0 ≡ r.peer = same_Some (peer placed 1 0) r.peer r.peer_is in
    let seen : 1 ≡ r.peer.seen = ap (λ (p : Peer). p.seen) is in
    let mark : 1 ≡ r.peer.mark = ap (λ (p : Peer). p.mark) is in
    let above = r.above in
    ⊎_elim
    (λ (k : (1 ≢ r.peer.seen) × (r.peer.seen < 1) × (r.base ≡ new_peer 1)). k.0 seen)
    (λ (k : (1 ≡ r.peer.seen) × (r.base ≡ r.peer)). let same = ap (λ (p : Peer). p.mark) k.1 in omega arith)
    r.known

late : (hub : Hub) → HubReceives every_rule 1 2 (node restarted 1).hub for_plain hub → ⊥
late hub r = let is = r.for_me.my_inc in omega arith

-- the second frame, as long as node 1 has not started again
abbrev second : Line
second = Takes 1 2 for_plain (record { seen = 1; mark = 1; heard = 0; view = [] })

second_legal : IsLegal every_rule two_nodes placed second
second_legal = (
  (refl, refl),
  refl,
  (λ s d e. omega arith),
  record { me = refl; my_inc = refl; other = λ e. absurd (omega arith) },
  refl,
  inr (refl, refl),
  omega arith,
)

pub witness : Witness
witness = record {
  placed = placed;
  run = is_run every_rule two_nodes (begin two_nodes) script script_legal;
  placements = refl;
  repeated = refused placed 1 1 for_member (node placed 1) refl refl repeated;
  in_time = (next two_nodes placed second, is_event every_rule two_nodes placed second second_legal);
  restarted = restarted;
  restart = is_run every_rule two_nodes placed restart restart_legal;
  late = refused restarted 1 2 for_plain (node restarted 1) refl refl late;
}
