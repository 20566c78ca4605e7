-- A closed script: a pair of servers that comes to be settled, and an order of work from there.
use Rattle.std.specs.Prelude.{◌≡◌, true, false, List, [], ◌∷◌, ◌++◌, codes, length, Some, None, slice_get}
use Rattle.node_law.specs.Events.{Dial}
use Rattle.world_law.specs.Events.{Event, Start, Receive, OnInfo, OnConnect, At}
use Rattle.world_law.specs.Scripts.{pair, member, subscribe, attach, collect, begin, claim, end, publish, hi, outcomes, end_of, done}
use Rattle.world_law.specs.State.{Running}
use Rattle.node_law.specs.Events.{Accept}
use Rattle.settled_law.specs.Orders.{IsOrder}
use Rattle.settled_law.specs.Tests.{settled_for, room_for}

-- Both are up and joined, and have heard all. The first one has a plain subscription, the second a
-- plain one and a member of a group. The frames are the INFO of the second, the CONNECT and the
-- snapshot of the first, the snapshot of the second, the first one's change, and the second one's
-- two.
abbrev pub before_the_last : List Event
before_the_last =
    Start 0 1 ∷ Start 1 4 ∷ At 0 (Dial 1) ∷ At 1 Accept ∷ OnInfo 0 1 1 ∷ OnConnect 1 1 2
    ∷ Receive 1 3 ∷ Receive 0 4 ∷ attach 0 1 ∷ subscribe 0 1 None (codes "1") ∷ collect 0 1
    ∷ Receive 1 5 ∷ attach 1 1 ∷ subscribe 1 1 None (codes "1") ∷ subscribe 1 1 member (codes "2")
    ∷ collect 1 1 ∷ []

abbrev pub prepared : List Event
prepared = before_the_last ++ (Receive 0 6 ∷ Receive 0 7 ∷ [])

-- the message is frame 8
abbrev pub order : List Event
order = begin 0 1 ∷ end 0 1 ∷ Receive 1 8 ∷ begin 1 1 ∷ claim 1 1 0 ∷ end 1 1 ∷ []

abbrev pub without_claim : List Event
without_claim = begin 0 1 ∷ end 0 1 ∷ Receive 1 8 ∷ begin 1 1 ∷ end 1 1 ∷ []

pub record APairSettles : Type 0 where
  -- before the second one's changes are heard it is not settled; then it is
  pub not_yet : settled_for pair (end_of pair before_the_last) (codes "foo") ≡ false
  pub settled : settled_for pair (end_of pair prepared) (codes "foo") ≡ true
  pub roomy : room_for (end_of pair prepared) hi.publication.message ≡ true
  -- the order is right
  pub right : (a : Running)
      → slice_get (end_of pair prepared).nodes 0 ≡ Some (Some a)
      → IsOrder pair (end_of pair prepared) 0 a hi order
  -- nothing is refused, and there are three placements
  pub all_done : outcomes pair (prepared ++ (publish 0 ∷ order)) ≡ done 25
  pub placed : length (end_of pair (prepared ++ (publish 0 ∷ order))).placements ≡ 3
  -- without the Claim the End is refused, and there are two
  pub one_missing : outcomes pair (prepared ++ (publish 0 ∷ without_claim)) ≡ done 23 ++ (56 ∷ [])
  pub two_placed : length (end_of pair (prepared ++ (publish 0 ∷ without_claim))).placements ≡ 2
