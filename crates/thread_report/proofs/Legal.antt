-- What the seats of a race that is over say of the runs of its shards.
use Rattle.std.proofs.Common.{◌≡◌, ℕ, zero, suc, ◌+◌, ◌<◌, Bool, true, false, cond, Option, Some, List, [], ◌∷◌, ◌++◌, All, length, map, refl, sym, ap, ◌∙◌, subst, arith, append_assoc, ◌⊎◌, ⊎_elim, inl, inr}
use Rattle.std.proofs.lemmas.List.{length-map}
use Rattle.std.proofs.lemmas.List.Elements.{All-push}
use mathlib.Core.Option.{some-ne-none, some-injective}
use Rattle.subj.specs.Servers.{ServerIdentity}
use Rattle.subj.specs.declared.jobs.Job.{Job}
use Rattle.subj.specs.declared.limits.TheConstants.{MAX_COUNTER, MAX_QUEUE_NAMES, WINDOW}
use Rattle.claim_cells.specs.declared.parts.ShardPart.{ShardPart}
use Rattle.claim_cells.specs.Calls.{AllOf, HasEach, IsClosed, finished_list}
use Rattle.claim_cells.specs.Rule.{At, Has, Law, row}
use Rattle.claim_cells.specs.Seats.{RaceId, ShardShown}
use Rattle.thread_law.proofs.Places.{at_map, at_unmap}
use Rattle.thread_node.proofs.Starting.{map_snoc}
use Rattle.thread_node.proofs.Telling.{steps_lead}
use Rattle.node_threads.specs.AtHub.{AtHub, IsAtHub}
use Rattle.node_parts.specs.Sides.{new_side}
use Rattle.node_threads.specs.AtWork.{AtWork, Makes, at_start}
use Rattle.node_threads.specs.Logs.{steps_in}
use Rattle.node_threads.specs.Outlets.{AreFirst}
use Rattle.node_threads.specs.Tapes.{Grows, IsTape, entries_of}
use Rattle.node_threads.specs.declared.shard_entries.ShardEntry.{ShardEntry}
use Rattle.thread_node.specs.HubTapes as of_hub
use Rattle.thread_node.specs.HubTapes.{IsHubTape, hub_entries}
use Rattle.thread_node.specs.declared.hub_entries.HubEntry.{HubEntry}
use Rattle.thread_law.specs.Runs.{HubRun, IsLegal, IsShardRun, ShardRun, claims_lost, claims_won}
use Rattle.thread_report.specs.Reports.{AreClosed, AreWritten, IsKept, IsLogged, IsWritten, ShardLog, Tells, entries_written, run_of, seat_of}

at_there : {A : Type 0} (l : List A) (i : ℕ) → i < length l → (a : A) × At l i a
at_there [] i h = absurd (omega arith)
at_there (x ∷ xs) zero h = (x, refl)
at_there (x ∷ xs) (suc i) h = at_there xs i (omega arith)

snoc_at : {A : Type 0} (l : List A) (a b : A) (i : ℕ) → At (l ++ a ∷ []) i b → At l i b ⊎ ((i ≡ length l) × (a ≡ b))
snoc_at [] a b zero e = inr (refl, some-injective a b e)
snoc_at [] a b (suc i) e = absurd (some-ne-none b (sym e))
snoc_at (x ∷ xs) a b zero e = inl e
snoc_at (x ∷ xs) a b (suc i) e = ⊎_elim (λ h. inl h) (λ h. inr (ap suc h.0, h.1)) (snoc_at xs a b i e)

same_list : {A : Type 0} (xs ys : List A) → length xs ≡ length ys → ((k : ℕ) (x : A) → At xs k x → At ys k x) → xs ≡ ys
same_list [] [] n h = refl
same_list [] (y ∷ ys) n h = absurd (omega arith)
same_list (x ∷ xs) [] n h = absurd (omega arith)
same_list (x ∷ xs) (y ∷ ys) n h =
    let first : y ≡ x = some-injective y x (h 0 x refl) in
    let rest : xs ≡ ys = same_list xs ys (omega arith) (λ k z e. h (suc k) z e) in
    (λ i. sym first i ∷ rest i)

-- ---- one shard more

pub closed_none : (race : RaceId) (issued : List Job) (kept : Bool) → AreClosed race issued kept [] []
closed_none race issued kept = (
  [],
  refl,
  (λ k run e. absurd (some-ne-none run (sym e))),
  record { logs = []; runs_are = refl; logged = (λ k d lt. absurd (omega arith)); tapes_are = refl },
)

written_more : (kept : Bool) (shards : ℕ) (runs : List ShardRun) (tapes : List (List ShardEntry)) (l : ShardLog)
    (entries : List ShardEntry)
    → AreWritten kept shards runs tapes
    → IsLogged shards l
    → entries ≡ entries_written kept l
    → AreWritten kept shards (runs ++ run_of l ∷ []) (tapes ++ entries ∷ [])
written_more kept shards runs tapes l entries w led said = record {
  logs = w.logs ++ l ∷ [];
  runs_are = ap (λ rs. rs ++ run_of l ∷ []) w.runs_are ∙ sym (map_snoc run_of w.logs l);
  logged = All-push (IsLogged shards) w.logs l w.logged led;
  tapes_are =
      ap (λ ts. ts ++ entries ∷ []) w.tapes_are
      ∙ ap (λ es. map (entries_written kept) w.logs ++ es ∷ []) said
      ∙ sym (map_snoc (entries_written kept) w.logs l);
}

kept_entries : {E : Type 0} (kept : Bool) (tape : Option (List E)) (all entries : List E)
    → Grows (Some []) all tape
    → IsKept kept tape entries
    → entries ≡ cond kept all []
kept_entries {E} true tape all entries g k = subst (Grows (Some []) all) k g
kept_entries false tape all entries g k = k

first_of_first : (xs ys zs : List Job) → AreFirst xs ys → AreFirst ys zs → AreFirst xs zs
first_of_first xs ys zs a b = (a.0 ++ b.0, b.1 ∙ ap (λ l. l ++ b.0) a.1 ∙ append_assoc xs a.0 b.0)

pub closed_more : (race : RaceId) (issued pushed : List Job) (kept : Bool) (seats : List ShardShown)
    (tapes : List (List ShardEntry)) (seat : ShardShown) (tape : Option (List ShardEntry)) (entries : List ShardEntry)
    (w : AtWork) (number : ℕ)
    → AreClosed race issued kept seats tapes
    → number ≡ length seats + 1
    → seat.race ≡ race
    → seat.part ≡ w.part
    → w.part.shard ≡ number
    → IsTape race.shards w tape
    → IsKept kept tape entries
    → AreFirst w.popped pushed
    → AreFirst pushed issued
    → AreClosed race issued kept (seats ++ seat ∷ []) (tapes ++ entries ∷ [])
closed_more race issued pushed kept seats tapes seat tape entries w number c n of part shard t told popped first =
    let l : ShardLog = record { log = t.log; end = w } in
    let run = run_of l in
    let is : seat ≡ seat_of race run = (λ k. record { race = of k; part = part k }) in
    let counted : number ≡ length c.0 + 1 =
    n ∙ ap (λ l. length l + 1) c.1 ∙ ap (λ m. m + 1) (length-map c.0 (seat_of race)) in
    let here : IsShardRun race.shards issued number run = record {
      made = subst (λ s. Makes (at_start s race.shards) (steps_in t.log) w) shard t.makes;
      given = first_of_first w.popped pushed issued popped first;
    } in
    let said : entries ≡ entries_written kept l = kept_entries kept tape (entries_of t.log) entries t.grows told in (
      c.0 ++ run ∷ [],
      ap (λ l. l ++ seat ∷ []) c.1 ∙ ap (λ s. map (seat_of race) c.0 ++ s ∷ []) is
          ∙ sym (map_snoc (seat_of race) c.0 run),
      (λ k r e.
          ⊎_elim (λ old. c.2 k r old)
          (λ (new : (k ≡ length c.0) × (run ≡ r)).
          subst (λ q. IsShardRun race.shards issued (k + 1) q) new.1
          (subst (λ m. IsShardRun race.shards issued m run) (counted ∙ ap (λ m. m + 1) (sym new.0)) here))
          (snoc_at c.0 run r k e)),
      written_more kept race.shards c.0 tapes l entries c.3 t.logs said,
    )

-- ---- all of them

module _ (race : RaceId) (issued : List Job) (kept : Bool) (seats : List ShardShown) (tapes : List (List ShardEntry))
    (c : AreClosed race issued kept seats tapes) where
  pub all_of : AllOf race seats
  all_of i seat e =
      let u = at_unmap (seat_of race) c.0 i seat (subst (λ l. At l i seat) c.1 e) in
      ap (λ (s : ShardShown). s.race) (sym u.2)

  shard_at : (k : ℕ) (run : ShardRun) → At c.0 k run → run.end.part.shard ≡ k + 1
  shard_at k run e = (c.2 k run e).made.shard

  pub has_each : (n : ℕ) → length seats ≡ n → HasEach n seats
  has_each n is s lt =
      let there = at_there c.0 s (let len = length-map c.0 (seat_of race) in
      let l : length seats ≡ length (map (seat_of race) c.0) = ap length c.1 in
      omega arith) in (
        s,
        seat_of race there.0,
        subst (λ l. At l s (seat_of race there.0)) (sym c.1) (at_map (seat_of race) c.0 s there.0 there.1),
        shard_at s there.0 there.1,
      )

  module _ {server : ServerIdentity} (hub : AtHub) (issued_is : hub.issued ≡ issued) (at_hub : IsAtHub race.shards hub)
      (tape : Option (List HubEntry)) (t : IsHubTape server hub tape) (count : length seats ≡ race.shards) (last : ℕ)
      (turns claims : List ℕ) (over : IsClosed race hub.part seats last turns claims) where
    abbrev all : List ShardPart
    all = over.0

    law : Law MAX_COUNTER WINDOW MAX_QUEUE_NAMES hub.part all
    law = over.2.law

    runs_count : length c.0 ≡ race.shards
    runs_count = sym (length-map c.0 (seat_of race)) ∙ ap length (sym c.1) ∙ count

    part_at : (k : ℕ) (run : ShardRun) → At c.0 k run → At all k run.end.part
    part_at k run e =
        let seat = seat_of race run in
        let there = over.1.1 k seat (subst (λ l. At l k seat) (sym c.1) (at_map (seat_of race) c.0 k run e)) in
        let place : row run.end.part ≡ k = (let n = shard_at k run e in omega arith) in
        subst (λ n. At all n run.end.part) place there

    won_of : (k : ℕ) (run : ShardRun) → At c.0 k run → run.end.part.won ≡ claims_won run
    won_of k run e = (c.2 k run e).made.won

    lost_of : (k : ℕ) (run : ShardRun) → At c.0 k run → run.end.part.lost ≡ claims_lost run
    lost_of k run e = (c.2 k run e).made.lost

    run_at : (k : ℕ) (p : ShardPart) → At all k p → (run : ShardRun) × At c.0 k run × (p ≡ run.end.part)
    run_at k p e =
        let from = over.1.0 k p e in
        let u = at_unmap (seat_of race) c.0 from.0 from.1 (subst (λ l. At l from.0 from.1) c.1 from.2) in
        let part : p ≡ u.0.end.part = from.3 ∙ ap (λ (s : ShardShown). s.part) (sym u.2) in
        let named = law.named k p e in
        let place : from.0 ≡ k =
        (let a = shard_at from.0 u.0 u.1 in
        let b : p.shard ≡ u.0.end.part.shard = ap (λ (q : ShardPart). q.shard) part in
        omega arith) in
        (u.0, subst (λ n. At c.0 n u.0) place u.1, part)

    abbrev pub hub_run : HubRun
    hub_run = record { steps = of_hub.steps_in t.log; end = hub }

    pub legal : IsLegal race.shards hub_run c.0
    legal = record {
      hub_run = record {
        listed = at_hub.listed;
        led = steps_lead (new_side hub.side.server) t.log hub.side t.led;
        gave = t.gave;
        count = at_hub.count ∙ sym at_hub.turns;
        named = at_hub.named;
      };
      count = runs_count;
      each = λ k run e. subst (λ (js : List Job). IsShardRun race.shards js (k + 1) run) (sym issued_is) (c.2 k run e);
      once = λ k l i j r q pair er eq wr wq.
          law.once k l i j r.end.part q.end.part pair (part_at k r er) (part_at l q eq)
          (subst (λ (ps : List (ℕ × ℕ)). At ps i pair) (sym (won_of k r er)) wr)
          (subst (λ (ps : List (ℕ × ℕ)). At ps j pair) (sym (won_of l q eq)) wq);
      others = λ k r pair er lr.
          let o = law.others k r.end.part pair (part_at k r er)
          (subst (λ (ps : List (ℕ × ℕ)). Has ps pair) (sym (lost_of k r er)) lr) in
          let run = run_at o.0 o.1 o.3 in (
            o.0,
            run.0,
            o.2,
            run.1,
            subst (λ (ps : List (ℕ × ℕ)). Has ps pair) (ap (λ (q : ShardPart). q.won) run.2 ∙ won_of o.0 run.0 run.1)
                o.4,
          );
    }

    pub tells : Tells hub_run c.0 last turns
    tells = record {
      issued_is = over.2.issued;
      finished_are =
          over.2.finished
          ∙ ap (λ (ps : List ShardPart). finished_list (map (λ (p : ShardPart). p.finished) ps)) (sym parts)
          ∙ ap finished_list (map_twice c.0);
    }
      where
        parts : map (λ (run : ShardRun). run.end.part) c.0 ≡ all
        parts =
            same_list (map (λ (run : ShardRun). run.end.part) c.0) all
            (length-map c.0 (λ (run : ShardRun). run.end.part) ∙ runs_count ∙ sym over.2.shards) (λ k p e.
            let u = at_unmap (λ (run : ShardRun). run.end.part) c.0 k p e in
            subst (λ q. At all k q) u.2 (part_at k u.0 u.1))

        map_twice : (runs : List ShardRun)
            → map (λ (p : ShardPart). p.finished) (map (λ (run : ShardRun). run.end.part) runs)
            ≡ map (λ (run : ShardRun). run.end.part.finished) runs
        map_twice [] = refl
        map_twice (r ∷ rs) = ap (λ l. r.end.part.finished ∷ l) (map_twice rs)

    pub is_written : (entries : List HubEntry)
        → IsKept kept tape entries
        → IsWritten kept race.shards hub_run c.0 entries tapes
    is_written entries told = record {
      hub_is = record {
        log = t.log;
        logged = t.led;
        steps_are = refl;
        tape_is = kept_entries kept tape (hub_entries t.log) entries t.grows told;
      };
      shards_are = c.3;
    }
