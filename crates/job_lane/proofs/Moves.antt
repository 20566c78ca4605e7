-- Each step of the queue keeps the rule of a lane.
use Rattle.std.proofs.Common.{◌≡◌, ◌≢◌, ◌<◌, ℕ, zero, suc, true, false, true≢false, List, [], ◌∷◌, ◌++◌, length, set, Some, sym, refl, ap, ◌∙◌, subst, ⊎_elim, append_assoc}
use Rattle.std.specs.Prelude.{⊤, Option, None, Result, Ok, Err, IfErr, MatchResult, MatchOption}
use mathlib.Core.Option.{some, some-ne-none}
use lib.ListN.{get_elem?}
use Rattle.crossbeam_queue.specs.Fifo.{Pushes, Pops, Forks, Merges, Learns, Held}
use Rattle.crossbeam_queue.proofs.Lists.{at_set, at_snoc}
use Rattle.subj.specs.declared.jobs.Job.{Job}
use Rattle.job_lane.specs.declared.rule.Log.{Log}
use Rattle.job_lane.specs.Turns.{AreNumbered, AreNumberedBehind}
use Rattle.job_lane.specs.Runs.{jobs_of}
use Rattle.job_lane.specs.Ends.{LackedRoom}
use Rattle.job_lane.specs.Rule.{log, KnowsItsPart, HoldsInOrder, Adds, Takes, WaitsAtEnd, IsPushing, IsPopping}
use Rattle.job_lane.proofs.Numbering.{numbered_none, numbered_run, next_numbered}
use Rattle.job_lane.proofs.Lists.{all_snoc, full_lacks}

-- ---- what holds of each pass

abbrev OfEach : (ℕ → Log → Type 0) → List Log → Type 0
OfEach F passes = (pass : ℕ) (known : Log) → get_elem? passes pass ≡ some known → F pass known

-- it holds of the one that changed, and of each other
of_each-set : (F : ℕ → Log → Type 0) (passes : List Log) (pass : ℕ) (now : Log) → F pass now
    → ((other : ℕ) (known : Log) → other ≢ pass → get_elem? passes other ≡ some known → F other known)
    → OfEach F (set passes pass now)
of_each-set F passes pass now mine others other known is =
    ⊎_elim
    (λ (same : (other ≡ pass) × (now ≡ known)). subst (λ (y : ℕ × Log). F y.0 y.1) (λ i. (sym same.0 i, same.1 i)) mine)
    (λ (apart : (other ≢ pass) × (get_elem? passes other ≡ some known)). others other known apart.0 apart.1)
    (at_set passes pass other now known is)

-- a place that only the longer list has is the last one
at_end : (passes : List Log) (added known : Log) (place : ℕ)
    → get_elem? passes place ≢ some known
    → get_elem? (passes ++ added ∷ []) place ≡ some known
    → place ≡ length passes
at_end [] added known zero absent is = refl
at_end [] added known (suc place) absent is = absurd (some-ne-none known (sym is))
at_end (first ∷ passes) added known zero absent is = absurd (absent is)
at_end (first ∷ passes) added known (suc place) absent is = ap suc (at_end passes added known place absent is)

-- ---- the steps

-- a new lane has one pass, and nothing was pushed
pub begins : HoldsInOrder [] (log true true [] [] ∷ [])
begins = record {
  writer = 0;
  reader = 0;
  pushed = [];
  popped = [];
  in_order = refl;
  numbered = numbered_none;
  each =
      of_each-set (KnowsItsPart 0 0 [] []) (log true true [] [] ∷ []) 0 (log true true [] [])
      (record { push = λ _. (refl, refl); pop = λ _. (refl, refl) })
      (λ other known apart is. absurd (apart (at_end [] _ known other (λ absent. some-ne-none known (sym absent)) is)));
}

-- a push by the pass that may, of a run whose jobs have the next turns
pub pushes : (room pass : ℕ) (known : Log) (run : List Job)
    → known.may_push ≡ true
    → AreNumberedBehind (length (jobs_of known.pushed)) run
    → Pushes HoldsInOrder room pass known run (Adds known run)
pushes room pass known run may turns waiting passes short holds at =
    let now : Log = log known.may_push known.may_pop (known.pushed ++ run ∷ []) known.popped in
    let mine = holds.each pass known at in
    let pushed = holds.pushed ++ run ∷ [] in (
      now,
      record {
        writer = holds.writer;
        reader = holds.reader;
        pushed = pushed;
        popped = holds.popped;
        in_order = ap (λ l. l ++ run ∷ []) holds.in_order ∙ append_assoc holds.popped waiting (run ∷ []);
        numbered =
            numbered_run holds.pushed run holds.numbered
            (subst (λ (l : List (List Job)). AreNumberedBehind (length (jobs_of l)) run) (mine.push may).1 turns);
        each =
            of_each-set (KnowsItsPart holds.writer holds.reader pushed holds.popped) passes pass now
            (record { push = λ _. ((mine.push may).0, ap (λ l. l ++ run ∷ []) (mine.push may).1); pop = mine.pop })
            (λ other knows apart is. record {
              push = λ does. absurd (apart (((holds.each other knows is).push does).0 ∙ sym (mine.push may).0));
              pop = (holds.each other knows is).pop;
            });
      },
      refl,
    )

-- a pop by the pass that may
pub pops : (pass : ℕ) (known : Log) → known.may_pop ≡ true → Pops HoldsInOrder pass known (Takes known)
pops pass known may run waiting passes holds at =
    let now : Log = log known.may_push known.may_pop known.pushed (known.popped ++ run ∷ []) in
    let mine = holds.each pass known at in
    let popped = holds.popped ++ run ∷ [] in (
      now,
      record {
        writer = holds.writer;
        reader = holds.reader;
        pushed = holds.pushed;
        popped = popped;
        in_order = holds.in_order ∙ sym (append_assoc holds.popped (run ∷ []) waiting);
        numbered = holds.numbered;
        each =
            of_each-set (KnowsItsPart holds.writer holds.reader holds.pushed popped) passes pass now
            (record { push = mine.push; pop = λ _. ((mine.pop may).0, ap (λ l. l ++ run ∷ []) (mine.pop may).1) })
            (λ other knows apart is. record {
              push = (holds.each other knows is).push;
              pop = λ does. absurd (apart (((holds.each other knows is).pop does).0 ∙ sym (mine.pop may).0));
            });
      },
      (
        refl,
        subst (λ (l : List (List Job)). AreNumberedBehind (length (jobs_of l)) run) (sym (mine.pop may).1)
            (next_numbered holds.popped run waiting
            (subst (λ (l : List (List Job)). AreNumbered (jobs_of l)) holds.in_order holds.numbered)),
      ),
    )

-- a pass that may push and pop is split into two
pub forks : (pass : ℕ) (known : Log) → known.may_push ≡ true → known.may_pop ≡ true
    → Forks HoldsInOrder pass known (log true false known.pushed []) (log false true [] known.popped)
forks pass known may_push may_pop waiting passes holds at =
    let left : Log = log true false known.pushed [] in
    let right : Log = log false true [] known.popped in
    let mine = holds.each pass known at in
    let changed : List Log = set passes pass left in
    -- no pass may pop but the one that is added
    let Pushes : ℕ → Log → Type 0 = λ other knows.
    (knows.may_push ≡ true → (other ≡ holds.writer) × (knows.pushed ≡ holds.pushed)) × (knows.may_pop ≢ true) in
    let pushing : OfEach Pushes changed = of_each-set Pushes passes pass left
    ((λ _. mine.push may_push), λ does. true≢false (sym does)) (λ other knows apart is. (
      (holds.each other knows is).push,
      λ does. apart (((holds.each other knows is).pop does).0 ∙ sym (mine.pop may_pop).0),
    )) in
    record {
      writer = holds.writer;
      reader = length changed;
      pushed = holds.pushed;
      popped = holds.popped;
      in_order = holds.in_order;
      numbered = holds.numbered;
      each = λ other knows is.
          ⊎_elim (λ there. record {
            push = (pushing other knows there).0;
            pop = λ does. absurd ((pushing other knows there).1 does);
          })
          (λ (added : right ≡ knows). record {
            push = λ does. absurd (true≢false (sym (ap (λ (l : Log). l.may_push) added ∙ does)));
            pop = λ _. (
              at_end changed right knows other
                  (λ there. (pushing other knows there).1 (ap (λ (l : Log). l.may_pop) (sym added))) is,
              ap (λ (l : Log). l.popped) (sym added) ∙ (mine.pop may_pop).1,
            );
          })
          (at_snoc changed right knows other is);
    }

-- the pass that may push takes in the one that may pop
pub merges : (pass : ℕ) (known : Log) (other : ℕ) (theirs : Log) → known.may_push ≡ true → theirs.may_pop ≡ true
    → Merges HoldsInOrder pass known other theirs (log true true known.pushed theirs.popped) (log false false [] [])
merges pass known other theirs may_push may_pop waiting passes holds at two at_other =
    let both : Log = log true true known.pushed theirs.popped in
    let mine = holds.each pass known at in
    let changed : List Log = set passes pass both in
    let was : get_elem? passes other ≡ some theirs =
    ⊎_elim (λ same. absurd (two same.0)) (λ apart. apart.1) (at_set passes pass other both theirs at_other) in
    let reads = (holds.each other theirs was).pop may_pop in
    let KnowsNow : ℕ → Log → Type 0 = KnowsItsPart holds.writer pass holds.pushed holds.popped in
    let ButOther : ℕ → Log → Type 0 = λ third knows. third ≢ other → KnowsNow third knows in
    let now : OfEach ButOther changed = of_each-set ButOther passes pass both
    (λ _. record { push = λ _. mine.push may_push; pop = λ _. (refl, reads.1) }) (λ third knows _ is apart. record {
      push = (holds.each third knows is).push;
      pop = λ does. absurd (apart (((holds.each third knows is).pop does).0 ∙ sym reads.0));
    }) in
    record {
      writer = holds.writer;
      reader = pass;
      pushed = holds.pushed;
      popped = holds.popped;
      in_order = holds.in_order;
      numbered = holds.numbered;
      each =
          of_each-set KnowsNow changed other (log false false [] [])
          (record { push = λ does. absurd (true≢false (sym does)); pop = λ does. absurd (true≢false (sym does)) })
          (λ third knows apart is. now third knows is apart);
    }

-- ---- what is learned

-- a pass that may push and pop knows what waits
pub learns_all : (pass : ℕ) (known : Log) → known.may_push ≡ true → known.may_pop ≡ true
    → Learns HoldsInOrder pass known (λ waiting. known.pushed ≡ known.popped ++ waiting)
learns_all pass known may_push may_pop waiting passes holds at =
    let mine = holds.each pass known at in
    (mine.push may_push).1 ∙ holds.in_order ∙ ap (λ l. l ++ waiting) (sym (mine.pop may_pop).1)

-- a pass that may push knows that what waits is the end of what was pushed
pub learns_end : (pass : ℕ) (known : Log)
    → known.may_push ≡ true
    → Learns HoldsInOrder pass known (λ waiting. WaitsAtEnd known.pushed waiting)
learns_end pass known may waiting passes holds at = (
  holds.popped,
  ((holds.each pass known at).push may).1 ∙ holds.in_order,
)

-- ---- what the ends keep

pub is_pushing-snoc : (before after : Log) (run : List Job)
    → IsPushing before
    → 0 < length run
    → AreNumberedBehind (length (jobs_of before.pushed)) run
    → Adds before run after
    → IsPushing after
is_pushing-snoc before after run is has turns added =
    let now : after ≡ log true false (before.pushed ++ run ∷ []) [] =
    added ∙ ap (λ (l : Log). log l.may_push l.may_pop (before.pushed ++ run ∷ []) l.popped) is.alone in
    subst IsPushing (sym now) (record {
      alone = refl;
      some = all_snoc before.pushed run is.some has;
      numbered = numbered_run before.pushed run is.numbered turns;
    })

pub is_popping-snoc : (before after : Log) (run : List Job)
    → IsPopping before
    → Takes before run after
    → IsPopping after
is_popping-snoc before after run is taken =
    let now : after ≡ log false true [] (before.popped ++ run ∷ []) =
    taken.0 ∙ ap (λ (l : Log). log l.may_push l.may_pop l.pushed (before.popped ++ run ∷ [])) is.alone in
    subst IsPopping (sym now) (record { alone = refl; numbered = numbered_run before.popped run is.numbered taken.1 })

-- whatever a push answers
pub still_pushing : {A : Type 0} (answer : Result A (List Job)) (most : ℕ) (before after : Log) (run : List Job)
    → IsPushing before
    → 0 < length run
    → AreNumberedBehind (length (jobs_of before.pushed)) run
    → MatchResult answer (λ _. Adds before run after)
    (λ back. (back ≡ run) × (after ≡ before) × Held most (λ waiting. WaitsAtEnd before.pushed waiting))
    → IsPushing after
still_pushing (Ok a) most before after run is has turns told = is_pushing-snoc before after run is has turns told
still_pushing (Err back) most before after run is has turns told = subst IsPushing (sym told.1) is

-- whatever a pop answers
pub still_popping : (answer : Option (List Job)) (most : ℕ) (before after : Log)
    → IsPopping before
    → MatchOption answer ((after ≡ before) × Held most (λ (waiting : List (List Job)). ⊤))
    (λ run. Takes before run after)
    → IsPopping after
still_popping None most before after is told = subst IsPopping (sym told.0) is
still_popping (Some run) most before after is told = is_popping-snoc before after run is told

-- a run that comes back found a full queue
pub came_back : {A : Type 0} (answer : Result A (List Job)) (most : ℕ) (before after : Log) (run : List Job)
    → IsPushing before
    → 0 < length run
    → MatchResult answer (λ _. Adds before run after)
    (λ back. (back ≡ run) × (after ≡ before) × Held most (λ waiting. WaitsAtEnd before.pushed waiting))
    → IfErr answer (λ back.
    (back ≡ run) × (after.pushed ≡ before.pushed) × LackedRoom most (jobs_of before.pushed) (length run))
came_back (Ok a) most before after run is has told = _
came_back (Err back) most before after run is has told = (
  told.0,
  ap (λ (l : Log). l.pushed) told.1,
  full_lacks most before.pushed told.2.2.0 told.2.0 run is.some has told.2.1 told.2.2.1,
)

-- what came of a pop
pub came : (answer : Option (List Job)) (most : ℕ) (before after : Log)
    → MatchOption answer ((after ≡ before) × Held most (λ (waiting : List (List Job)). ⊤))
    (λ run. Takes before run after)
    → MatchOption answer (after.popped ≡ before.popped) (λ run. after.popped ≡ before.popped ++ run ∷ [])
came None most before after told = ap (λ (l : Log). l.popped) told.0
came (Some run) most before after told = ap (λ (l : Log). l.popped) told.0
