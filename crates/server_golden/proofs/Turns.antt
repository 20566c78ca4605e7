-- The parts that a case begins with.
use Rattle.std.proofs.Common.{◌≡◌, List, [], ◌∷◌, ◌++◌, length, sym, ap, ◌∙◌, length-append, arith}
use lib.ListN.{get_elem?}
use Rattle.claim_cells.specs.Calls.{AllNew}
use Rattle.claim_cells.specs.Rule.{newcomer}
use Rattle.claim_cells.specs.Seats.{RaceId, ShardShown}

pub only_seat : (race : RaceId) (seats rest : List ShardShown) (seat : ShardShown)
    → AllNew race 1 seats
    → seats ≡ rest ++ seat ∷ []
    → (seat.race ≡ race) × (seat.part ≡ newcomer 1)
only_seat race seats [] seat all is = all.1 0 seat (ap (λ l. get_elem? l 0) is)
only_seat race seats (r ∷ rest) seat all is = absurd (long (sym all.0 ∙ ap length is))
  where
    long : 1 ≡ length (r ∷ (rest ++ seat ∷ [])) → ⊥
    long e = omega (arith, length-append rest (seat ∷ []))
