-- What a call that issues a turn leaves of a seat.
use Rattle.std.proofs.Common.{◌≡◌, ℕ, ◌+◌, ◌<◌, ◌≤◌, List, length, length-append, replicate, ◌-◌, get_or, None, Result, Ok, Err, ap, sym, ◌∙◌, subst, refl, arith}
use Rattle.std.specs.Prelude.{IsOk}
use Rattle.std.proofs.lemmas.List.{get_or_append_left}
use Rattle.subj.specs.Numbers.{finished_turn}
use Rattle.claim_race.specs.Race.{busy_of}
use Rattle.atomic_table.specs.Table.{Me}
use Rattle.subj.specs.declared.limits.TheConstants.{MAX_SHARDS}
use Rattle.subj.specs.declared.turns.Busy.{Busy}
use Rattle.claim_cells.specs.declared.parts.View.{View}
use Rattle.claim_cells.specs.declared.parts.HubPart.{HubPart}
use Rattle.claim_cells.specs.Rule.{Has}
use Rattle.claim_cells.specs.Steps.{hub_of, issued_one, with_loads}
use Rattle.claim_cells.specs.Calls.{AreLoads, IsIssueAt, IsIssuedOrBusy, IsLooked, ShowsRoom, finished_list}
use Rattle.claim_cells.proofs.SeatSteps.Behind.{is_near, none_behind, turn_there}
use Rattle.claim_cells.proofs.Rules.Lists.{at_there, read_at}
use Rattle.claim_cells.proofs.SeatSteps.Rounds.{round_loads, was_loaded}

pub issued_hub : {S : Type 0} (m k : Me S View) (shards : ℕ) (result : Result ℕ Busy)
    → IsIssueAt shards m result k
    → IsIssuedOrBusy shards (hub_of m) result (hub_of k)
issued_hub m k shards (Ok turn) told =
    let loads = round_loads m shards told.0 told.1 told.2 in
    (told.0, told.2.0, (told.3.0, (told.3.1.0, ap hub_of told.3.1.1.0 ∙ ap issued_one loads)))
issued_hub m k shards (Err busy) told = (
  told.0,
  told.2.0,
  (told.3.0, ap hub_of told.3.1 ∙ round_loads m shards told.0 told.1 told.2),
)

longer : (found : List ℕ) (s : ℕ) → s < length found → s < length (finished_list found)
longer found s low = let e = length-append found (replicate (MAX_SHARDS - length found) 0) in omega arith

-- the turns that a look answers are loads
pub looked_loads : (shards : ℕ) (before after : HubPart) (turns : List ℕ)
    → IsLooked shards before turns after
    → AreLoads shards after turns
looked_loads shards before after turns told s low =
    let found = told.0 in
    let there = at_there found s (let e = told.1.0 in omega arith) in
    let same : finished_turn turns (s + 1) ≡ there.0 = ap (λ (l : List ℕ). finished_turn l (s + 1)) told.2
    ∙ turn_there (finished_list found) s (longer found s (let e = told.1.0 in omega arith))
    ∙ get_or_append_left found _ 0 s (let e = told.1.0 in omega arith) ∙ sym (read_at found s there.0 there.1) in
    subst (λ (h : HubPart). Has h.loads (s + 1, finished_turn turns (s + 1))) (sym told.3)
    (subst (λ (n : ℕ). Has (with_loads before found).loads (s + 1, n)) (sym same)
    (was_loaded before found s there.0 there.1))

-- new loads are no lower than those that showed room
pub never_busy : (shards : ℕ) (before after : HubPart) (result : Result ℕ Busy)
    → IsIssuedOrBusy shards before result after
    → ShowsRoom shards before
    → IsOk result
never_busy shards before after (Ok turn) told room = refl
never_busy shards before after (Err busy) told room =
    let found = told.0 in
    let none : busy_of before.issued found ≡ None = none_behind before.issued found (λ k low.
    let there = at_there found k low in
    let shown = room k (let e = told.1.0 in omega arith) in
    let rises : shown.0 ≤ there.0 = told.1.1 k there.0 shown.0 there.1 shown.1 in
    let read : there.0 ≡ get_or found k 0 = read_at found k there.0 there.1 in
    is_near before.issued (get_or found k 0) (let near = shown.2 in omega arith)) in
    absurd (let some = told.2.0 in cc)
