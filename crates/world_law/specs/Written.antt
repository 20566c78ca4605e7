-- How outcomes and placements are written, line by line.
use Rattle.std.specs.Prelude.{ℕ, suc, Bool, nat_eq, ◌&&◌, List, [], ◌∷◌, ◌++◌, length, map, find, codes, decimal, Option, Some, None, slice_get}
use Rattle.std.specs.Option.{option_map}
use Rattle.outbox.specs.declared.entries.Mode.{Mode}
use Rattle.outbox.specs.declared.entries.Mode.TheVariants.{Plain, Queue}
use Rattle.subj.specs.declared.identities.SubId.{SubId}
use Rattle.node_law.specs.Answers.{Answer, Attached, Opened, AlreadyOpen, Issued, Routed, Heard, Collected, Began, Won, Lost, Nobody, OnSession, Kept, TakenEntries, TakenFrames, Nothing}
use Rattle.world_law.specs.Faults.{world_fault_number}
use Rattle.world_law.specs.State.{Cluster, LifeId, Life, Placement, World, new_world}
use Rattle.world_law.specs.Events.{Event}
use Rattle.world_law.specs.Outcomes.{Outcome, Refused, Done}
use Rattle.world_law.specs.Play.{outcomes_of_events, world_after_events}

-- ---- an outcome (profile)

abbrev pub sub_text : SubId → List ℕ
sub_text sub = decimal sub.shard ++ (codes "." ++ decimal sub.serial)

abbrev pub kept_text : Option ℕ → List ℕ
kept_text None = codes "kept"
kept_text (Some session) = codes "kept instead of " ++ decimal session

abbrev pub answer_text : Answer → List ℕ
answer_text (Attached conn) = codes "conn " ++ decimal conn
answer_text (Opened sub) = codes "sub " ++ sub_text sub
answer_text AlreadyOpen = codes "same"
answer_text (Issued turn frames) =
    codes "turn " ++ (decimal turn ++ (codes " frames " ++ decimal frames))
answer_text (Routed turn) = codes "turn " ++ decimal turn
answer_text (Heard mark) = codes "view " ++ decimal mark
answer_text (Collected changes frames cut) =
    codes "changes " ++ (decimal changes ++ (codes " frames " ++ decimal frames))
answer_text (Began placed shut) =
    codes "placed " ++ (decimal placed ++ (codes " closed " ++ decimal shut))
answer_text (Won sub) = codes "won " ++ sub_text sub
answer_text Lost = codes "lost"
answer_text Nobody = codes "nobody"
answer_text (OnSession session) = codes "session " ++ decimal session
answer_text (Kept instead_of) = kept_text instead_of
answer_text (TakenEntries entries) = codes "took " ++ decimal (length entries)
answer_text (TakenFrames frames) = codes "took " ++ decimal (length frames)
answer_text Nothing = codes "ok"

abbrev pub outcome_text : Outcome → List ℕ
outcome_text (Refused why) = codes "refused " ++ decimal (world_fault_number why)
outcome_text (Done answer) = answer_text answer

-- one line for each event, with its number, where so many were before
abbrev pub outcome_lines : ℕ → List Outcome → List (List ℕ)
outcome_lines before [] = []
outcome_lines before (outcome ∷ outcomes) =
    (decimal (suc before) ++ (codes " " ++ outcome_text outcome))
    ∷ outcome_lines (suc before) outcomes

-- ---- and behind them what was placed, and how many events and placements there were

abbrev pub or_nothing : Option (List ℕ) → List ℕ
or_nothing None = []
or_nothing (Some text) = text

abbrev pub name_at : Cluster → ℕ → List ℕ
name_at c n = or_nothing (slice_get c.names n)

abbrev pub is_life : LifeId → Life → Bool
is_life id life =
    nat_eq life.id.node id.node
    && (nat_eq life.id.inc id.inc
    && (nat_eq life.id.sub.shard id.sub.shard && nat_eq life.id.sub.serial id.sub.serial))

abbrev pub sid_of : List Life → LifeId → List ℕ
sid_of lives id = or_nothing (option_map (λ (life : Life). life.sid) (find (is_life id) lives))

abbrev pub mode_text : Mode → List ℕ
mode_text Plain = codes "-"
mode_text (Queue name) = codes "=" ++ name

-- each with a space before it
abbrev pub fields : List (List ℕ) → List ℕ
fields [] = []
fields (field ∷ more) = codes " " ++ (field ++ fields more)

abbrev pub placement_line : Cluster → List Life → Placement → List ℕ
placement_line c lives p =
    codes "placed"
    ++ fields (decimal p.step ∷ p.id.origin ∷ decimal p.id.inc ∷ decimal p.id.number
    ∷ name_at c p.life.node ∷ decimal p.conn ∷ sid_of lives p.life ∷ mode_text p.mode ∷ [])

abbrev pub last_lines : Cluster → World → List (List ℕ)
last_lines c w =
    map (placement_line c w.lives) w.placements
    ++ (codes "end" ++ fields (decimal w.step ∷ decimal (length w.placements) ∷ [])) ∷ []

-- all that is written of a run from the start, with these outcomes and to this world
abbrev pub run_lines : Cluster → List Outcome → World → List (List ℕ)
run_lines c outcomes w = outcome_lines 0 outcomes ++ last_lines c w

abbrev pub lines_of : Cluster → List Event → List (List ℕ)
lines_of c events =
    run_lines c (outcomes_of_events c (new_world c) events)
    (world_after_events c (new_world c) events)
