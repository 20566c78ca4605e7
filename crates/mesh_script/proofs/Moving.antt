-- Events that are made in turn.
use Rattle.std.proofs.Common.{◌≡◌, ℕ, suc, ◌+◌, List, [], ◌∷◌, ◌++◌, Option, Result, Ok, Err, true, false, refl, ap, sym, ◌∙◌, subst, append-nil, arith}
use Rattle.std.specs.Prelude.{codes, decimal, IsErr}
use Rattle.world_law.specs.Events.{Event}
use Rattle.world_law.specs.Outcomes.{Outcome}
use Rattle.world_law.specs.State.{World}
use Rattle.world_law.specs.Steps.{WorldStep}
use Rattle.world_law.specs.Written.{outcome_text}
use Rattle.mesh_script.specs.declared.output.PlayFault.{PlayFault}
use Rattle.mesh_script.specs.Asks.{Asks, NoMore, Ask, Say, and_then}
use Rattle.mesh_script.specs.Lines.{lines_text}
use Rattle.mesh_script.specs.Played.{AppendsStart}
use Rattle.mesh_script.specs.Putting.{Puts}
use Rattle.mesh_script.specs.Playing.{PlayState, Moves, BreaksOff, Makes}
use Rattle.mesh_script.specs.Told.{Came, Line, Told, said_lines}
use Rattle.mesh_script.proofs.Asking.{told_on, told_before}
use Rattle.mesh_script.proofs.Putting.{puts_nothing, puts_on, puts_same, starts_with_nothing}
use Rattle.mesh_script.proofs.Texts.{lines_behind, said_behind, came_behind}

pub moves_nowhere : (old : PlayState) (was : Option (List ℕ)) (asks : Asks) → Moves old was asks asks old was
moves_nowhere old was asks = record {
  said = [];
  cluster = refl;
  told = (refl, refl);
  number = omega arith;
  puts = puts_nothing old.text was;
}

-- one event, with its line
pub moved_one : (old new : PlayState) (was is : Option (List ℕ)) (e : Event) (outcome : Outcome)
    → new.cluster ≡ old.cluster → WorldStep old.cluster old.world e outcome new.world → new.number ≡ old.number + 1
    → Puts old.text was ((decimal new.number ++ (codes " " ++ outcome_text outcome)) ++ codes "\n") new.text is
    → (more : World → Outcome → Asks) → Moves old was (Ask e more) (more old.world outcome) new is
moved_one old new was is e outcome cluster step number puts more =
    let count : new.number ≡ suc old.number = omega arith in
    record {
      said = Came outcome ∷ [];
      cluster = cluster;
      told = (new.world, step, (refl, refl));
      number = number;
      puts =
          puts_same old.text _ (lines_text (said_lines old.number (Came outcome ∷ []))) new.text was is
          (ap (λ n. (decimal n ++ (codes " " ++ outcome_text outcome)) ++ codes "\n") count ∙ sym (append-nil _)) puts;
    }

-- a line that is no event's
pub moved_line : (old : PlayState) (text : List ℕ) (was is : Option (List ℕ)) (line : World → List ℕ) (behind : Asks)
    → Puts old.text was (line old.world ++ codes "\n") text is
    → Moves old was (Say line behind) behind (record old { text = text }) is
moved_line old text was is line behind puts = record {
  said = Line (line old.world) ∷ [];
  cluster = refl;
  told = (refl, (refl, refl));
  number = omega arith;
  puts =
      puts_same old.text _ (lines_text (said_lines old.number (Line (line old.world) ∷ []))) text was is
      (sym (append-nil _)) puts;
}

pub moves_on : (old mid new : PlayState) (was is now : Option (List ℕ)) (asks rest left : Asks)
    → Moves old was asks rest mid is
    → Moves mid is rest left new now
    → Moves old was asks left new now
moves_on old mid new was is now asks rest left first next =
    let told = subst (λ c. Told c mid.world rest next.said left new.world) first.cluster next.told in
    let count = came_behind first.said next.said in
    let first_number = first.number in
    let next_number = next.number in
    let lines = sym (lines_behind (said_lines old.number first.said) (said_lines mid.number next.said))
    ∙ ap (λ n. lines_text (said_lines old.number first.said ++ said_lines n next.said)) first.number
    ∙ ap lines_text (sym (said_behind old.number first.said next.said)) in
    record {
      said = first.said ++ next.said;
      cluster = next.cluster ∙ first.cluster;
      told = told_on old.cluster old.world mid.world new.world asks rest left first.said next.said first.told told;
      number = omega arith;
      puts =
          puts_same old.text _ (lines_text (said_lines old.number (first.said ++ next.said))) new.text was now lines
          (puts_on old.text mid.text new.text (lines_text (said_lines old.number first.said))
          (lines_text (said_lines mid.number next.said)) was is now first.puts next.puts);
    }

-- where less is asked, the rest waits
pub moves_before : (old new : PlayState) (was is : Option (List ℕ)) (asks rest behind : Asks)
    → Moves old was asks rest new is
    → Moves old was (and_then asks behind) (and_then rest behind) new is
moves_before old new was is asks rest behind moves = record {
  said = moves.said;
  cluster = moves.cluster;
  told = told_before old.cluster old.world new.world asks rest behind moves.said moves.told;
  number = moves.number;
  puts = moves.puts;
}

-- ---- breaking off

pub breaks_after : (old mid : PlayState) (was is now : Option (List ℕ)) (asks rest : Asks)
    → Moves old was asks rest mid is
    → BreaksOff mid is rest now
    → BreaksOff old was asks now
breaks_after old mid was is now asks rest moves broke = record {
  rest = broke.rest;
  new = broke.new;
  moves = moves_on old mid broke.new was is now asks rest broke.rest moves broke.moves;
}

pub breaks_before : (old : PlayState) (was is : Option (List ℕ)) (asks behind : Asks)
    → BreaksOff old was asks is
    → BreaksOff old was (and_then asks behind) is
breaks_before old was is asks behind broke = record {
  rest = and_then broke.rest behind;
  new = broke.new;
  moves = moves_before old broke.new was is asks broke.rest behind broke.moves;
}

-- before any event
pub breaks_first : (old : PlayState) (was is : Option (List ℕ)) (asks : Asks)
    → AppendsStart was is old.text
    → BreaksOff old was asks is
breaks_first old was is asks start = record {
  rest = asks;
  new = record old { text = start.behind };
  moves = record {
    said = [];
    cluster = refl;
    told = (refl, refl);
    number = omega arith;
    puts = record { put = start.front; written = start.written; whole = start.whole ∙ sym (append-nil old.text) };
  };
}

-- ---- answers

pub makes_on : {T : Type 0} (result : Result T PlayFault) (old mid new : PlayState) (was is now : Option (List ℕ))
    (asks rest : Asks)
    → Moves old was asks rest mid is
    → Makes result mid is rest new now
    → Makes result old was asks new now
makes_on (Ok x) old mid new was is now asks rest moves made =
    moves_on old mid new was is now asks rest NoMore moves made
makes_on (Err fault) old mid new was is now asks rest moves made = breaks_after old mid was is now asks rest moves made

pub makes_failed : {T : Type 0} (result : Result T PlayFault) (old new : PlayState) (was is : Option (List ℕ))
    (asks : Asks)
    → IsErr result
    → BreaksOff old was asks is
    → Makes result old was asks new is
makes_failed (Ok x) old new was is asks err broke = let e : false ≡ true = err in absurd (cc)
makes_failed (Err fault) old new was is asks err broke = broke

-- no event was made, and nothing written
pub breaks_unmoved : (old : PlayState) (was : Option (List ℕ)) (asks : Asks) → BreaksOff old was asks was
breaks_unmoved old was asks = breaks_first old was was asks (starts_with_nothing old.text was)
