-- A seat that has all parts, and what the race on it shows after each step.
use Rattle.std.proofs.Common.{◌≡◌, ℕ, zero, suc, ◌+◌, ◌-◌, ◌<◌, ◌≤◌, Bool, true, false, cond, List, [], ◌∷◌, ◌++◌, length, map, get_or, set, replicate, length-set, ext_get_or, sym, refl, ap, ◌∙◌, subst, arith, Option, Some, None, Result, Ok, Err}
use Rattle.std.specs.Prelude.{nat_eq, find, is_none, ◌&&◌}
use Rattle.std.specs.Option.{option_map}
use Rattle.std.proofs.lemmas.Bool.Decides.{nat_tests}
use Rattle.std.proofs.lemmas.List.{map-set, get_or-map, length-map, length-replicate, replicate-append-replicate, set-append_left}
use Rattle.atomic_table.specs.Table.{Me}
use Rattle.atomic_table.proofs.Lists.{set_here, set_again, at_map}
use Rattle.subj.specs.Answers.{IsDecided}
use Rattle.subj.specs.Numbers.{no_turn_finished}
use Rattle.subj.specs.declared.limits.TheConstants.{MAX_SHARDS}
use Rattle.subj.specs.declared.turns.Busy.{Busy}
use Rattle.claim_race.specs.Race.{RaceState, Win, winner, is_of_pair, busy_of, IsInTurn, IsNew, IsIssued, IsClaimed, IsFinished}
use Rattle.claim_cells.specs.declared.parts.HubPart.{HubPart}
use Rattle.claim_cells.specs.declared.parts.ShardPart.{ShardPart}
use Rattle.claim_cells.specs.declared.parts.View.{View}
use Rattle.claim_cells.specs.Rule.{At, Has, newcomer, newcomers, whole_view}
use Rattle.claim_cells.specs.Steps.{hub_of, part_of, HasPart, Won, with_hub, with_part, with_loads, part_after_load, won_by, lost_by, finished_one, hub_after_load, IsLookedAt, IsSeenAt, IsClaimedAt, IsFinishedAt}
use Rattle.claim_cells.specs.Seats.{Sighted}
use Rattle.claim_cells.specs.Calls.{finished_list, IsRoundAt, IsIssueAt}
use Rattle.claim_cells.specs.OneSeat.{finished_in, next_in, wins_in, race_of_seat, IsWhole}
use Rattle.claim_cells.proofs.Rules.Lists.{at_below, at_there, same_at, read_at, set_case, has_last}
use Rattle.claim_cells.proofs.Rules.Opening.{is_new, newcomers_length}
use Rattle.claim_cells.proofs.SeatSteps.Wins.{wins_kept, other_pair, this_pair, nobody, somebody}

-- ---- parts of a whole seat

at_or : {A : Type 0} (l : List A) (i : ℕ) (d : A) → i < length l → At l i (get_or l i d)
at_or [] i d h = absurd (omega arith)
at_or (x ∷ xs) zero d h = refl
at_or (x ∷ xs) (suc i) d h = at_or xs i d (omega arith)

or_at : {A : Type 0} (l : List A) (i : ℕ) (d a : A) → At l i a → get_or l i d ≡ a
or_at l i d a at = same_at l i i (get_or l i d) a refl (at_or l i d (at_below l i a at)) at

-- a number that the part keeps is kept in the list
same_field : (f : ShardPart → ℕ) (parts : List ShardPart) (s : ℕ) (p q : ShardPart)
    → At parts s p
    → f q ≡ f p
    → map f (set parts s q) ≡ map f parts
same_field f parts s p q at same =
    map-set f parts s q ∙ ap (set (map f parts) s) same ∙ set_again (map f parts) s (f p) (at_map f parts s p at)

module _ {S : Type 0} (m k : Me S View) (whole : IsWhole m) where
  pub whole_hub : (h : HubPart) (at : ℕ) → k ≡ (with_hub m.0 h at, m.1) → IsWhole k × (k.0.count ≡ m.0.count)
  whole_hub h at e = (subst IsWhole (sym e) (whole.0, refl, whole.2), ap (λ k. k.0.count) e)

  pub whole_part : (q : ShardPart)
      → q.shard ≡ (part_of m).shard
      → HasPart m
      → k ≡ (with_part m.0 q, m.1)
      → IsWhole k × (k.0.count ≡ m.0.count)
  whole_part q same at e = (
    subst IsWhole (sym e) (
      (
        length-set m.0.shards m.0.at q ∙ whole.0.0,
        set_case m.0.shards m.0.at q (λ s p. p.shard ≡ s + 1) (same ∙ whole.0.1 m.0.at (part_of m) at)
            (λ s p ne at. whole.0.1 s p at),
      ),
      whole.1,
      whole.2,
    ),
    ap (λ k. k.0.count) e,
  )

-- ---- before a claim or a finish

-- the shard's part acts, has seen the turn, and the race shows what it showed
pub record IsReady {S : Type 0} (m k : Me S View) (shard turn : ℕ) : Type 0 where
  pub whole : IsWhole k
  pub count : k.0.count ≡ m.0.count
  pub shows : race_of_seat k ≡ race_of_seat m
  pub part : HasPart k
  pub place : k.0.at ≡ shard - 1
  pub named : (part_of k).shard ≡ shard
  pub next : (part_of k).next ≡ get_or (next_in m.0.shards) (shard - 1) 0
  pub turn_is : turn ≡ (part_of k).finished + 1
  pub sighted : Sighted (part_of k)

module _ {S : Type 0} (m k : Me S View) (whole : IsWhole m) (shard turn : ℕ)
    (on_turn : IsInTurn (race_of_seat m) shard turn) (limit n : ℕ)
    (look : IsLookedAt limit shard (hub_of m) m n k) where
  abbrev s : ℕ
  s = shard - 1

  within : s < length m.0.shards
  within =
      let first = on_turn.first in
      let last = on_turn.last in
      let e = length-map m.0.shards (λ (p : ShardPart). p.finished) in
      omega arith

  pub looked_part : HasPart k
  looked_part = subst HasPart (sym look.0) (at_or m.0.shards s (newcomer 0) within)

  part_is : part_of k ≡ get_or m.0.shards s (newcomer 0)
  part_is = ap part_of look.0

  module _ (j : Me S View) (load : ℕ) (see : IsSeenAt limit (part_of k) k load j) where
    abbrev p : ShardPart
    p = part_of k

    abbrev q : ShardPart
    q = part_after_load (part_of k) load

    at_place : k.0.at ≡ s
    at_place = ap (λ k. k.0.at) look.0

    same_shards : k.0.shards ≡ m.0.shards
    same_shards = ap (λ k. k.0.shards) look.0

    whole_k : IsWhole k
    whole_k = (whole_hub m k whole (hub_after_load (hub_of m) shard n) s look.0).0

    part_j : part_of j ≡ q
    part_j =
        ap part_of see.0
        ∙ or_at (set k.0.shards k.0.at q) k.0.at (newcomer 0) q
        (set_here k.0.shards k.0.at q (at_below k.0.shards k.0.at p looked_part))

    shows_k : race_of_seat k ≡ race_of_seat m
    shows_k = ap race_of_seat look.0

    shows_j : race_of_seat j ≡ race_of_seat k
    shows_j = ap race_of_seat see.0 ∙ (λ i. record {
      issued = (hub_of k).issued;
      finished = same_field (λ (p : ShardPart). p.finished) k.0.shards k.0.at p q looked_part refl i;
      next = same_field (λ (p : ShardPart). p.next) k.0.shards k.0.at p q looked_part refl i;
      won = wins_kept k.0.shards k.0.at p q looked_part refl refl i;
    })

    named_is : p.shard ≡ shard
    named_is = let e = whole_k.0.1 k.0.at p looked_part in let first = on_turn.first in let a = at_place in omega arith

    finished_is : p.finished ≡ get_or (finished_in m.0.shards) s 0
    finished_is =
        ap (λ (p : ShardPart). p.finished) part_is
        ∙ sym (get_or-map (λ (p : ShardPart). p.finished) m.0.shards s (newcomer 0) 0 within)

    next_is : p.next ≡ get_or (next_in m.0.shards) s 0
    next_is =
        ap (λ (p : ShardPart). p.next) part_is
        ∙ sym (get_or-map (λ (p : ShardPart). p.next) m.0.shards s (newcomer 0) 0 within)

    is_turn : turn ≡ p.finished + 1
    is_turn = on_turn.follows ∙ ap (λ (n : ℕ). n + 1) (sym finished_is)

    found : load ≡ (hub_of m).issued
    found = see.3 (hub_of k) whole_k.1 ∙ ap (λ (r : RaceState). r.issued) shows_k

    pub ready : IsReady m j shard turn
    ready = record {
      whole = (whole_part k j whole_k q refl looked_part see.0).0;
      count = ap (λ j. j.0.count) see.0 ∙ ap (λ k. k.0.count) look.0;
      shows = shows_j ∙ shows_k;
      part =
          subst (λ (z : ShardPart). At j.0.shards j.0.at z) (sym part_j)
          (subst (λ (j : Me S View). At j.0.shards j.0.at q) (sym see.0)
          (set_here k.0.shards k.0.at q (at_below k.0.shards k.0.at p looked_part)));
      place = ap (λ j. j.0.at) see.0 ∙ at_place;
      named = ap (λ (p : ShardPart). p.shard) part_j ∙ named_is;
      next = ap (λ (p : ShardPart). p.next) part_j ∙ next_is;
      turn_is = is_turn ∙ ap (λ (p : ShardPart). p.finished + 1) (sym part_j);
      sighted =
          subst Sighted (sym part_j)
          (load, has_last p.loads load, (let a = found in let b = on_turn.issued in let d = is_turn in omega arith));
    }

-- ---- a claim

are_equal : (a b c d : ℕ) → (nat_eq a b && nat_eq c d) ≡ true → (a ≡ b) × (c ≡ d)
are_equal a b c d is = grind (arith, nat_tests)

are_same : (a b : ℕ) → (nat_eq a a && nat_eq b b) ≡ true
are_same a b = grind (arith, nat_tests)

turned : (a b c d : ℕ) → (nat_eq a b && nat_eq c d) ≡ false → (nat_eq b a && nat_eq d c) ≡ false
turned a b c d is = grind (arith, nat_tests)

abbrev shard_of : Option Win → Option ℕ
shard_of o = option_map (λ (w : Win). w.shard) o

-- who won a pair, by the parts
abbrev winner_in : List ShardPart → ℕ → ℕ → Option ℕ
winner_in parts t x = shard_of (find (is_of_pair t x) (wins_in parts))

module _ (parts : List ShardPart) (s shard turn x : ℕ) (p : ShardPart) (at : At parts s p) (named : p.shard ≡ shard)
    (is_turn : turn ≡ p.finished + 1) (none : find (is_of_pair turn x) (wins_in parts) ≡ None) where
  abbrev after : List ShardPart
  after = set parts s (won_by p x)

  pair_won : winner_in after turn x ≡ Some shard
  pair_won =
      ap shard_of (this_pair (is_of_pair turn x) parts s x p at
      (ap (λ (n : ℕ). nat_eq n turn && nat_eq x x) (sym is_turn) ∙ are_same turn x) none)
      ∙ ap (λ (n : ℕ). let o : Option ℕ = Some n in o) named

  winners_won : (t i : ℕ) → winner_in after t i ≡ cond (nat_eq t turn && nat_eq i x) (Some shard) (winner_in parts t i)
  winners_won t i =
      elim (nat_eq t turn && nat_eq i x) as
      (λ b. (nat_eq t turn && nat_eq i x) ≡ b → winner_in after t i ≡ cond b (Some shard) (winner_in parts t i)) [
        | true ↦ λ so.
            let same = are_equal t turn i x so in
            ap (λ (n : ℕ). winner_in after n i) same.0 ∙ ap (winner_in after turn) same.1 ∙ pair_won
        | false ↦ λ so.
            ap shard_of (other_pair (is_of_pair t i) parts s x p at
            (ap (λ (n : ℕ). nat_eq n t && nat_eq x i) (sym is_turn) ∙ turned t turn i x so))
      ] refl

module _ {S : Type 0} (m k j : Me S View) (shard turn x : ℕ) (is : IsReady m k shard turn) where
  abbrev mine : ShardPart
  mine = part_of k

  none_won : ¬ Won k.0 (mine.finished + 1, x) → find (is_of_pair turn x) (wins_in k.0.shards) ≡ None
  none_won free =
      nobody turn x k.0.shards (λ i p at has. free (i, p, at, subst (λ (n : ℕ). Has p.won (n, x)) is.turn_is has))

  won_claim : k.0.at ≡ shard - 1
      → j ≡ (with_part k.0 (won_by mine x), k.1)
      → ¬ Won k.0 (mine.finished + 1, x)
      → IsClaimed (race_of_seat k) shard turn x true (race_of_seat j)
  unfolding winner
  won_claim place e free =
      subst (λ (r : RaceState). IsClaimed (race_of_seat k) shard turn x true r) (sym (ap race_of_seat e)) (record {
        decided = sym (ap (λ o. is_none (shard_of o)) (none_won free));
        issued = refl;
        finished = same_field (λ (p : ShardPart). p.finished) k.0.shards k.0.at mine (won_by mine x) is.part refl;
        next =
            map-set (λ (p : ShardPart). p.next) k.0.shards k.0.at (won_by mine x)
            ∙ ap (λ (s : ℕ). set (next_in k.0.shards) s (x + 1)) place;
        pair = pair_won k.0.shards k.0.at shard turn x mine is.part is.named is.turn_is (none_won free);
        winners =
            λ t i _. winners_won k.0.shards k.0.at shard turn x mine is.part is.named is.turn_is (none_won free) t i;
      })

  lost_claim : k.0.at ≡ shard - 1
      → j ≡ (with_part k.0 (lost_by mine x), k.1)
      → Won k.0 (mine.finished + 1, x)
      → IsClaimed (race_of_seat k) shard turn x false (race_of_seat j)
  unfolding winner
  lost_claim place e taken =
      let wins = wins_kept k.0.shards k.0.at mine (lost_by mine x) is.part refl refl in
      subst (λ (r : RaceState). IsClaimed (race_of_seat k) shard turn x false r) (sym (ap race_of_seat e)) (record {
        decided =
            sym (somebody turn x k.0.shards taken.0 taken.1 taken.2
            (subst (λ (n : ℕ). Has taken.1.won (n, x)) (sym is.turn_is) taken.3));
        issued = refl;
        finished = same_field (λ (p : ShardPart). p.finished) k.0.shards k.0.at mine (lost_by mine x) is.part refl;
        next =
            map-set (λ (p : ShardPart). p.next) k.0.shards k.0.at (lost_by mine x)
            ∙ ap (λ (s : ℕ). set (next_in k.0.shards) s (x + 1)) place;
        pair = ap (λ l. shard_of (find (is_of_pair turn x) l)) wins;
        winners = λ t i _. ap (λ l. shard_of (find (is_of_pair t i) l)) wins;
      })

  claimed_either : (won : Bool)
      → IsClaimedAt mine x k won j
      → IsWhole j × (j.0.count ≡ k.0.count) × IsClaimed (race_of_seat k) shard turn x won (race_of_seat j)
      × ((hub_of j).issued ≡ (hub_of k).issued) × (finished_in j.0.shards ≡ finished_in k.0.shards)
  claimed_either true told =
      let did = told.0 refl in
      let kept = whole_part k j is.whole (won_by mine x) refl is.part did.0 in (
        kept.0,
        kept.1,
        won_claim is.place did.0 did.1,
        ap (λ j. (hub_of j).issued) did.0,
        ap (λ j. finished_in j.0.shards) did.0
            ∙ same_field (λ (p : ShardPart). p.finished) k.0.shards k.0.at mine (won_by mine x) is.part refl,
      )
  claimed_either false told =
      let did = told.1 refl in
      let kept = whole_part k j is.whole (lost_by mine x) refl is.part did.0 in (
        kept.0,
        kept.1,
        lost_claim is.place did.0 (did.1 is.whole.0),
        ap (λ j. (hub_of j).issued) did.0,
        ap (λ j. finished_in j.0.shards) did.0
            ∙ same_field (λ (p : ShardPart). p.finished) k.0.shards k.0.at mine (lost_by mine x) is.part refl,
      )

  pub claims : (won : Bool)
      → IsClaimedAt mine x k won j
      → IsWhole j × (j.0.count ≡ m.0.count) × IsClaimed (race_of_seat m) shard turn x won (race_of_seat j)
      × ((hub_of j).issued ≡ (hub_of m).issued) × (finished_in j.0.shards ≡ finished_in m.0.shards)
  claims won told = let did = claimed_either won told in (
    did.0,
    did.1 ∙ is.count,
    subst (λ (r : RaceState). IsClaimed r shard turn x won (race_of_seat j)) is.shows did.2,
    did.3 ∙ ap (λ (r : RaceState). r.issued) is.shows,
    did.4 ∙ ap (λ (r : RaceState). r.finished) is.shows,
  )

  -- ---- a finish

  finished_claim : j ≡ (with_part k.0 (finished_one mine), k.1)
      → IsFinished (race_of_seat k) shard turn (race_of_seat j)
  unfolding winner
  finished_claim e =
      subst (λ (r : RaceState). IsFinished (race_of_seat k) shard turn r) (sym (ap race_of_seat e)) (record {
        issued = refl;
        finished =
            map-set (λ (p : ShardPart). p.finished) k.0.shards k.0.at (finished_one mine)
            ∙ ap (λ (s : ℕ). set (finished_in k.0.shards) s (mine.finished + 1)) is.place
            ∙ ap (set (finished_in k.0.shards) (shard - 1)) (sym is.turn_is);
        next =
            map-set (λ (p : ShardPart). p.next) k.0.shards k.0.at (finished_one mine)
            ∙ ap (λ (s : ℕ). set (next_in k.0.shards) s 0) is.place;
        kept = record {
          winners = λ t i _.
              ap (λ l. shard_of (find (is_of_pair t i) l))
              (wins_kept k.0.shards k.0.at mine (finished_one mine) is.part refl refl);
        };
      })

  pub finishes : IsFinishedAt mine k j
      → IsWhole j × (j.0.count ≡ m.0.count) × IsFinished (race_of_seat m) shard turn (race_of_seat j)
  finishes e =
      let kept = whole_part k j is.whole (finished_one mine) refl is.part e in (
        kept.0,
        kept.1 ∙ is.count,
        subst (λ (r : RaceState). IsFinished r shard turn (race_of_seat j)) is.shows (finished_claim e),
      )

-- a shard's turn is noted among the last finished ones
pub noted_finish : (found : List ℕ) (shard turn : ℕ)
    → shard - 1 < length found
    → set (finished_list found) (shard - 1) turn ≡ finished_list (set found (shard - 1) turn)
noted_finish found shard turn low =
    set-append_left found (replicate (MAX_SHARDS - length found) 0) (shard - 1) turn low
    ∙ ap (λ (n : ℕ). set found (shard - 1) turn ++ replicate (MAX_SHARDS - n) 0)
    (sym (length-set found (shard - 1) turn))

-- ---- the next turn

module _ {S : Type 0} (m k : Me S View) (whole : IsWhole m) (shards : ℕ) (counted : m.0.count ≡ shards) (found : List ℕ)
    (round : IsRoundAt shards m found k) where
  pub round_is : found ≡ finished_in m.0.shards
  round_is =
      ext_get_or 0 found (finished_in m.0.shards)
      (round.0.0 ∙ sym counted ∙ sym whole.0.0 ∙ sym (length-map m.0.shards (λ (p : ShardPart). p.finished))) (λ s low.
      let f = at_there found s low in
      let there = at_there m.0.shards s (let a = round.0.0 in let b = whole.0.0 in let d = counted in omega arith) in
      sym (read_at found s f.0 f.1)
      ∙ round.2 s f.0 s there.0 f.1 there.1 (whole.0.1 s there.0 there.1)
      ∙ read_at (finished_in m.0.shards) s there.0.finished
      (at_map (λ (p : ShardPart). p.finished) m.0.shards s there.0 there.1))

  pub round_shows : race_of_seat k ≡ race_of_seat m
  round_shows = ap race_of_seat round.1.1

  pub round_whole : IsWhole k × (k.0.count ≡ m.0.count)
  round_whole = whole_hub m k whole (with_loads (hub_of m) found) round.1.0 round.1.1

pub issues : {S : Type 0} (m k : Me S View) (shards : ℕ) (result : Result ℕ Busy)
    → IsWhole m
    → m.0.count ≡ shards
    → IsIssueAt shards m result k
    → IsWhole k × (k.0.count ≡ m.0.count) × (finished_in k.0.shards ≡ finished_in m.0.shards)
    × IsDecided (busy_of (race_of_seat m).issued (race_of_seat m).finished)
    (λ turn. IsIssued (race_of_seat m) turn (race_of_seat k)) (race_of_seat k ≡ race_of_seat m) result
unfolding winner
issues {S} m k shards (Ok turn) whole counted told =
    let between = told.1 in
    let round = told.2 in
    let shows = round_shows m between whole shards counted told.0 round in
    let whole_b = round_whole m between whole shards counted told.0 round in
    let did = told.3.1.1 in
    let kept = whole_hub between k whole_b.0 _ _ did.0 in
    let issued_is : (hub_of between).issued ≡ (hub_of m).issued = ap (λ (r : RaceState). r.issued) shows in (
      kept.0,
      kept.1 ∙ whole_b.1,
      ap (λ k. finished_in k.0.shards) did.0 ∙ ap (λ (r : RaceState). r.finished) shows,
      (
        ap (busy_of (hub_of m).issued) (sym (round_is m between whole shards counted told.0 round)) ∙ told.3.0,
        subst (λ (r : RaceState). IsIssued (race_of_seat m) turn r) (sym (ap race_of_seat did.0)) (record {
          after = told.3.1.0;
          issued = ap (λ (n : ℕ). n + 1) issued_is ∙ sym told.3.1.0;
          finished = ap (λ (r : RaceState). r.finished) shows;
          next = ap (λ (r : RaceState). r.next) shows;
          kept = record { winners = λ t i _. ap (λ (r : RaceState). shard_of (find (is_of_pair t i) r.won)) shows };
          fresh = λ x.
              ap shard_of (nobody turn x between.0.shards
              (λ i p at has. let low = did.1 i turn x p at has in absurd (let e = told.3.1.0 in omega arith)));
        }),
      ),
    )
issues {S} m k shards (Err busy) whole counted told =
    let between = told.1 in
    let round = told.2 in
    let shows = round_shows m between whole shards counted told.0 round in
    let whole_b = round_whole m between whole shards counted told.0 round in (
      subst IsWhole (sym told.3.1) whole_b.0,
      ap (λ k. k.0.count) told.3.1 ∙ whole_b.1,
      ap (λ k. finished_in k.0.shards) told.3.1 ∙ ap (λ (r : RaceState). r.finished) shows,
      (
        ap (busy_of (hub_of m).issued) (sym (round_is m between whole shards counted told.0 round)) ∙ told.3.0,
        ap race_of_seat told.3.1 ∙ shows,
      ),
    )

-- ---- the start

zeros : (f : ShardPart → ℕ) → ((s : ℕ) → f (newcomer s) ≡ 0) → (s n : ℕ) → map f (newcomers s n) ≡ replicate n 0
zeros f none s zero = refl
zeros f none s (suc n) = λ j. none s j ∷ zeros f none (suc s) n j

no_wins : (s n : ℕ) → wins_in (newcomers s n) ≡ []
no_wins s zero = refl
no_wins s (suc n) = no_wins (suc s) n

pub begins : {S : Type 0} (m : Me S View) (shards : ℕ)
    → m ≡ (whole_view shards, [])
    → IsWhole m × (m.0.count ≡ shards) × IsNew shards (race_of_seat m)
begins m shards e = (
  subst IsWhole (sym e) (
    (newcomers_length 1 shards, (λ s p at. ap (λ (p : ShardPart). p.shard) (is_new 0 0 0 shards s p at))),
    refl,
    refl,
  ),
  ap (λ m. m.0.count) e,
  subst (λ (r : RaceState). IsNew shards r) (sym (ap race_of_seat e)) (record {
    issued = refl;
    finished = zeros (λ (p : ShardPart). p.finished) (λ s. refl) 1 shards;
    next = zeros (λ (p : ShardPart). p.next) (λ s. refl) 1 shards;
    won = no_wins 1 shards;
  }),
)

pub none_finished : (shards : ℕ) (found : List ℕ)
    → shards ≤ MAX_SHARDS
    → found ≡ replicate shards 0
    → no_turn_finished ≡ finished_list found
none_finished shards found most is =
    ap (λ (n : ℕ). replicate n 0) {x = MAX_SHARDS} {y = shards + (MAX_SHARDS - shards)} (omega arith)
    ∙ sym (replicate-append-replicate shards (MAX_SHARDS - shards) 0)
    ∙ ap (λ (n : ℕ). replicate shards 0 ++ replicate (MAX_SHARDS - n) 0) (sym (length-replicate shards 0))
    ∙ ap finished_list (sym is)
