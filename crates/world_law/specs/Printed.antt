-- Closed scripts, with what is written of each event.
use Rattle.std.specs.Prelude.{◌≡◌, ℕ, false, List, [], ◌∷◌, codes, None}
use Rattle.node_law.specs.declared.events.ConnEvent.TheVariants.{Detach, Take}
use Rattle.node_law.specs.Events.{OfConn, Publish, Dial, Accept, CutSession, TakeFrames}
use Rattle.world_law.specs.State.{Cluster, new_world}
use Rattle.world_law.specs.Events.{Event, Start, Stop, Receive, OnInfo, OnConnect, At}
use Rattle.world_law.specs.Play.{outcomes_of_events}
use Rattle.world_law.specs.Steps.{Answers}
use Rattle.world_law.specs.Written.{lines_of}
use Rattle.world_law.specs.Scripts.{pair, alone, member, hi, subscribe, attach, begin, claim, end, collect, publish, end_of, a_restart, two_shards, a_full_window, a_lower_incarnation, two_forms}

-- ---- two servers, a member of a group at the other one, and a restart
pub record WritesARestart : Type 0 where
  pub lines :
      lines_of pair a_restart
      ≡ codes "1 ok" ∷ codes "2 ok"
      ∷ codes "3 session 1" ∷ codes "4 session 1" ∷ codes "5 kept" ∷ codes "6 kept"
      ∷ codes "7 conn 1" ∷ codes "8 sub 1.1" ∷ codes "9 changes 1 frames 1"
      ∷ codes "10 view 0" ∷ codes "11 view 1"
      ∷ codes "12 conn 1" ∷ codes "13 turn 1 frames 1"
      ∷ codes "14 turn 1" ∷ codes "15 refused 67"
      ∷ codes "16 placed 0 closed 0" ∷ codes "17 won 1.1" ∷ codes "18 ok"
      ∷ codes "19 ok" ∷ codes "20 ok" ∷ codes "21 refused 64"
      ∷ codes "placed 17 n1 1 1 n2 1 1 =q" ∷ codes "end 21 1" ∷ []

-- ---- servers that are up, down, and were up in an incarnation

abbrev pub starts_and_stops : List Event
starts_and_stops =
    Start 0 1 ∷ At 0 (Dial 1) ∷ At 1 Accept ∷ Start 0 2 ∷ Stop 0 ∷ Start 0 1 ∷ collect 0 2 ∷ []

pub record WritesStartsAndStops : Type 0 where
  pub lines : lines_of pair starts_and_stops
      ≡ codes "1 ok" ∷ codes "2 session 1" ∷ codes "3 refused 80" ∷ codes "4 refused 81"
      ∷ codes "5 ok" ∷ codes "6 refused 82" ∷ codes "7 refused 80" ∷ codes "end 7 0" ∷ []

-- ---- two servers dial each other at once: both keep the session that the first one dialed, until
-- it dials again

-- frames 1 and 2 are the INFO of n1 and of n2; 3 the CONNECT of n1 and 5 that of n2, each before a
-- snapshot; 8 the second INFO of n2
abbrev pub crossed_dials : List Event
crossed_dials =
    Start 0 1 ∷ Start 1 1
    ∷ At 0 (Dial 1) ∷ At 1 (Dial 0) ∷ At 0 Accept ∷ At 1 Accept
    ∷ OnInfo 0 1 2 ∷ OnInfo 1 1 1 ∷ OnConnect 1 2 3 ∷ OnConnect 0 2 5
    ∷ At 0 (Dial 1) ∷ At 1 Accept ∷ OnInfo 0 3 8 ∷ []

pub record WritesCrossedDials : Type 0 where
  pub lines :
      lines_of pair crossed_dials
      ≡ codes "1 ok" ∷ codes "2 ok"
      ∷ codes "3 session 1" ∷ codes "4 session 1" ∷ codes "5 session 2" ∷ codes "6 session 2"
      ∷ codes "7 kept" ∷ codes "8 kept" ∷ codes "9 kept instead of 1" ∷ codes "10 refused 72"
      ∷ codes "11 session 3" ∷ codes "12 session 3" ∷ codes "13 kept instead of 1"
      ∷ codes "end 13 0" ∷ []

-- ---- one server of two shards: of two members the one whose shard is first gets the message;
-- without it, nobody there does

abbrev pub claims_of_a_turn : List Event
claims_of_a_turn =
    Start 0 1 ∷ attach 0 1 ∷ attach 0 2 ∷ subscribe 0 1 member (codes "1")
    ∷ subscribe 0 2 member (codes "1") ∷ subscribe 0 1 member (codes "1") ∷ collect 0 1
    ∷ collect 0 2 ∷ publish 0 ∷ begin 0 1 ∷ begin 0 2 ∷ begin 0 1 ∷ end 0 1 ∷ claim 0 1 0
    ∷ claim 0 2 0 ∷ claim 0 1 0 ∷ end 0 1 ∷ end 0 2 ∷ At 0 (OfConn 1 (Take 10))
    ∷ At 0 (OfConn 1 Detach) ∷ publish 0 ∷ begin 0 1 ∷ claim 0 1 0 ∷ []

pub record WritesClaims : Type 0 where
  pub lines : lines_of alone claims_of_a_turn
      ≡ codes "1 ok" ∷ codes "2 conn 1" ∷ codes "3 conn 2" ∷ codes "4 sub 1.1" ∷ codes "5 sub 2.1"
      ∷ codes "6 same" ∷ codes "7 changes 1 frames 0" ∷ codes "8 changes 1 frames 0"
      ∷ codes "9 turn 1 frames 0" ∷ codes "10 placed 0 closed 0" ∷ codes "11 placed 0 closed 0"
      ∷ codes "12 refused 51" ∷ codes "13 refused 56" ∷ codes "14 won 1.1" ∷ codes "15 lost"
      ∷ codes "16 refused 55" ∷ codes "17 ok" ∷ codes "18 ok" ∷ codes "19 took 1" ∷ codes "20 ok"
      ∷ codes "21 turn 2 frames 0" ∷ codes "22 placed 0 closed 0" ∷ codes "23 nobody"
      ∷ codes "placed 14 n1 1 1 n1 1 1 =q" ∷ codes "end 23 1" ∷ []

-- ---- a publication without echo comes to nobody on its own connection, but to all others

-- n1 has two connections, each with a plain subscription, and n2 one; the first connection of n1
-- publishes; frame 5 is the change of n2, 6 and 7 are those of n1, and 8 is the message
abbrev pub without_echo : Event
without_echo =
    At 0 (Publish (record hi {
      publication = record { message = hi.publication.message; echo = false };
    }))

abbrev pub own_messages : List Event
own_messages =
    Start 0 1 ∷ Start 1 4 ∷ At 0 (Dial 1) ∷ At 1 Accept ∷ OnInfo 0 1 1 ∷ OnConnect 1 1 2
    ∷ attach 1 1 ∷ subscribe 1 1 None (codes "1") ∷ collect 1 1 ∷ Receive 0 4 ∷ Receive 0 5
    ∷ attach 0 1 ∷ attach 0 1 ∷ subscribe 0 1 None (codes "a") ∷ subscribe 0 2 None (codes "b")
    ∷ subscribe 0 1 member (codes "c") ∷ collect 0 1 ∷ without_echo ∷ begin 0 1 ∷ claim 0 1 0
    ∷ end 0 1 ∷ Receive 1 8 ∷ begin 1 1 ∷ end 1 1 ∷ []

pub record WritesOwnMessages : Type 0 where
  pub lines : lines_of pair own_messages
      ≡ codes "1 ok" ∷ codes "2 ok" ∷ codes "3 session 1" ∷ codes "4 session 1" ∷ codes "5 kept"
      ∷ codes "6 kept" ∷ codes "7 conn 1" ∷ codes "8 sub 1.1" ∷ codes "9 changes 1 frames 1"
      ∷ codes "10 view 0" ∷ codes "11 view 1" ∷ codes "12 conn 1" ∷ codes "13 conn 2"
      ∷ codes "14 sub 1.1" ∷ codes "15 sub 1.2" ∷ codes "16 sub 1.3" ∷ codes "17 changes 2 frames 2"
      ∷ codes "18 turn 1 frames 1" ∷ codes "19 placed 1 closed 0" ∷ codes "20 nobody"
      ∷ codes "21 ok" ∷ codes "22 turn 1" ∷ codes "23 placed 1 closed 0" ∷ codes "24 ok"
      ∷ codes "placed 19 n1 1 1 n1 2 b -" ∷ codes "placed 23 n1 1 1 n2 1 1 -" ∷ codes "end 24 2"
      ∷ []

-- ---- the connections of two shards: those of shard 1 are 1 and 3, those of shard 2 are 2 and 4

abbrev pub connections : List Event
connections =
    Start 0 1
    ∷ attach 0 1
    ∷ attach 0 1
    ∷ attach 0 2
    ∷ attach 0 2
    ∷ subscribe 0 3 None (codes "1")
    ∷ subscribe 0 4 None (codes "1")
    ∷ subscribe 0 5 None (codes "1")
    ∷ subscribe 0 0 None (codes "1") ∷ []

pub record WritesConnections : Type 0 where
  pub lines : lines_of alone connections
      ≡ codes "1 ok" ∷ codes "2 conn 1" ∷ codes "3 conn 3" ∷ codes "4 conn 2" ∷ codes "5 conn 4"
      ∷ codes "6 sub 1.1" ∷ codes "7 sub 2.1" ∷ codes "8 refused 50" ∷ codes "9 refused 50"
      ∷ codes "end 9 0" ∷ []

-- ---- the word picks the server of a queue name: one member at each of two servers

abbrev pub publish_word : ℕ → ℕ → Event
publish_word n word = At n (Publish (record hi { word = word }))

-- frames 5 and 6 are the changes of n1 and n2, and 7 the message
abbrev pub two_words : List Event
two_words =
    Start 0 1 ∷ Start 1 4 ∷ At 0 (Dial 1) ∷ At 1 Accept ∷ OnInfo 0 1 1 ∷ OnConnect 1 1 2
    ∷ attach 0 1 ∷ attach 1 1 ∷ subscribe 0 1 member (codes "1") ∷ subscribe 1 1 member (codes "1")
    ∷ collect 0 1 ∷ collect 1 1 ∷ Receive 0 4 ∷ Receive 0 6 ∷ Receive 1 3 ∷ Receive 1 5
    ∷ publish_word 0 0 ∷ publish_word 0 1 ∷ begin 0 1 ∷ claim 0 1 0 ∷ end 0 1 ∷ begin 0 1
    ∷ claim 0 1 0 ∷ end 0 1 ∷ Receive 1 7 ∷ begin 1 1 ∷ claim 1 1 0 ∷ []

pub record WritesTwoWords : Type 0 where
  pub lines : lines_of pair two_words
      ≡ codes "1 ok" ∷ codes "2 ok" ∷ codes "3 session 1" ∷ codes "4 session 1" ∷ codes "5 kept"
      ∷ codes "6 kept" ∷ codes "7 conn 1" ∷ codes "8 conn 1" ∷ codes "9 sub 1.1"
      ∷ codes "10 sub 1.1" ∷ codes "11 changes 1 frames 1" ∷ codes "12 changes 1 frames 1"
      ∷ codes "13 view 0" ∷ codes "14 view 1" ∷ codes "15 view 0" ∷ codes "16 view 1"
      ∷ codes "17 turn 1 frames 0" ∷ codes "18 turn 2 frames 1" ∷ codes "19 placed 0 closed 0"
      ∷ codes "20 won 1.1" ∷ codes "21 ok" ∷ codes "22 placed 0 closed 0" ∷ codes "23 refused 55"
      ∷ codes "24 ok" ∷ codes "25 turn 1" ∷ codes "26 placed 0 closed 0" ∷ codes "27 won 1.1"
      ∷ codes "placed 20 n1 1 1 n1 1 1 =q" ∷ codes "placed 27 n1 1 2 n2 1 1 =q" ∷ codes "end 27 2"
      ∷ []

-- ---- a frame of an earlier life of its server is not taken any more once one of the later life
-- was

-- frame 5 is the message of n1 in its incarnation 7, and 10 that of its incarnation 8; 9 is the
-- snapshot that n2 gives the later one
abbrev pub a_stale_message : List Event
a_stale_message =
    Start 0 7 ∷ Start 1 1 ∷ attach 1 1 ∷ subscribe 1 1 None (codes "1") ∷ collect 1 1
    ∷ At 0 (Dial 1) ∷ At 1 Accept ∷ OnInfo 0 1 1 ∷ OnConnect 1 1 2 ∷ Receive 0 4 ∷ publish 0
    ∷ Stop 0 ∷ Start 0 8 ∷ At 0 (Dial 1) ∷ At 1 Accept ∷ OnInfo 0 1 6 ∷ OnConnect 1 2 7
    ∷ Receive 0 9 ∷ publish 0 ∷ Receive 1 10 ∷ Receive 1 5 ∷ []

pub record WritesAStaleMessage : Type 0 where
  pub lines : lines_of pair a_stale_message
      ≡ codes "1 ok" ∷ codes "2 ok" ∷ codes "3 conn 1" ∷ codes "4 sub 1.1"
      ∷ codes "5 changes 1 frames 0" ∷ codes "6 session 1" ∷ codes "7 session 1" ∷ codes "8 kept"
      ∷ codes "9 kept" ∷ codes "10 view 1" ∷ codes "11 turn 1 frames 1" ∷ codes "12 ok"
      ∷ codes "13 ok" ∷ codes "14 session 1" ∷ codes "15 session 2" ∷ codes "16 kept"
      ∷ codes "17 kept instead of 1" ∷ codes "18 view 1" ∷ codes "19 turn 1 frames 1"
      ∷ codes "20 turn 1" ∷ codes "21 refused 66" ∷ codes "end 21 0" ∷ []

-- ---- a cut leaves what waits for the peer; once it is up again a snapshot is all that waits

-- frame 4 is the snapshot of n2, and 6 its INFO on the second session
abbrev pub a_cut : List Event
a_cut =
    Start 0 1 ∷ Start 1 4 ∷ At 0 (Dial 1) ∷ At 1 Accept ∷ OnInfo 0 1 1 ∷ OnConnect 1 1 2
    ∷ attach 0 1 ∷ subscribe 0 1 None (codes "1") ∷ collect 0 1
    ∷ At 0 (CutSession 1) ∷ At 0 (TakeFrames 1 1) ∷ At 0 (TakeFrames 1 10)
    ∷ At 0 (Dial 1) ∷ At 1 Accept ∷ OnInfo 0 2 6 ∷ At 0 (TakeFrames 1 10) ∷ []

pub record WritesACut : Type 0 where
  pub lines : lines_of pair a_cut
      ≡ codes "1 ok" ∷ codes "2 ok" ∷ codes "3 session 1" ∷ codes "4 session 1" ∷ codes "5 kept"
      ∷ codes "6 kept" ∷ codes "7 conn 1" ∷ codes "8 sub 1.1" ∷ codes "9 changes 1 frames 1"
      ∷ codes "10 ok" ∷ codes "11 took 1" ∷ codes "12 took 1" ∷ codes "13 session 2"
      ∷ codes "14 session 2" ∷ codes "15 kept" ∷ codes "16 took 1" ∷ codes "end 16 0" ∷ []

-- ---- each closed script is a run of the exact cluster, with the outcomes that are written and to
-- the world that it ends in

abbrev pub IsRun : Cluster → List Event → Type 0
IsRun c events =
    Answers c (new_world c) events (outcomes_of_events c (new_world c) events) (end_of c events)

pub record ScriptsAreRuns : Type 0 where
  pub restart : IsRun pair a_restart
  pub shards : IsRun alone two_shards
  pub window : IsRun alone a_full_window
  pub forms : IsRun alone two_forms
  pub lower : IsRun pair a_lower_incarnation
  pub starts : IsRun pair starts_and_stops
  pub dials : IsRun pair crossed_dials
  pub claims : IsRun alone claims_of_a_turn
  pub echo : IsRun pair own_messages
  pub numbers : IsRun alone connections
  pub words : IsRun pair two_words
  pub stale : IsRun pair a_stale_message
  pub cut : IsRun pair a_cut
