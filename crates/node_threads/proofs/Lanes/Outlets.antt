-- Jobs on their way to the lanes.
use Rattle.std.specs.Prelude.{is_some, slice_get, OnOk, OnErr, IfOk, IfSome}
use Rattle.std.specs.Result.{result_ok}
use Rattle.std.proofs.Common.{◌≡◌, ℕ, zero, suc, ◌+◌, ◌-◌, ◌<◌, Bool, true, false, true≢false, List, [], ◌∷◌, ◌++◌, length, map, get_or, All, Option, Some, None, Result, Ok, Err, refl, sym, ap, ◌∙◌, subst, append_assoc, append-nil, length-append, arith}
use Rattle.std.proofs.lemmas.List.{length-map, get_or-map}
use Rattle.std.proofs.lemmas.Option.{slice_get_within}
use Rattle.subj.specs.declared.jobs.Job.{Job}
use Rattle.subj.specs.Messages.{Content}
use Rattle.job_block.specs.declared.kept.Origin.{Origin}
use Rattle.job_block.specs.Blocks.{AreNumberedFrom, Block, IsLast, IsLeft, IsPushed, job_of, turn_behind}
use Rattle.job_lane.specs.Turns.{AreNumbered, AreNumberedBehind}
use Rattle.job_lane.proofs.Numbering.{numbered_behind, numbered_front, numbered_append, numbered_none}
use Rattle.node_threads.specs.Outlets.{AreFirst, LaneSender, jobs_owed, jobs_handed_to, jobs_handed, IsOutlet}

-- what is owed has the next turns
pub owed_behind : (pushed : List Job) (taken : Bool) (run : List Job)
    → taken ≡ false
    → AreNumbered (pushed ++ jobs_owed taken (Some run))
    → AreNumberedBehind (length pushed) run
owed_behind pushed taken run e all =
    numbered_behind pushed run (subst (λ b. AreNumbered (pushed ++ jobs_owed b (Some run))) e all)

-- it was pushed
pub pushed_now : (pushed now : List Job) (taken : Bool) (run : List Job)
    → taken ≡ false
    → now ≡ pushed ++ run
    → now ++ jobs_owed true (Some run) ≡ pushed ++ jobs_owed taken (Some run)
pushed_now pushed now taken run e is = append-nil now ∙ is ∙ ap (λ b. pushed ++ jobs_owed b (Some run)) (sym e)

-- ---- of all lanes

All_head : {A : Type 0} (P : A → Type 0) (x : A) (xs : List A) → All P (x ∷ xs) → P x
All_head P x xs all = all 0 x (omega arith)

-- what is true of the first ones is so of each, where each is like the first
pub alike : (run run' : Option (List Job)) (unsent unsent' : List Job) (lines lines' : List LaneSender)
    → map (jobs_handed_to run' unsent') lines' ≡ map (jobs_handed_to run unsent) lines
    → IsOutlet run unsent lines
    → IsOutlet run' unsent' lines' × (jobs_handed run' unsent' lines' ≡ jobs_handed run unsent lines)
alike run run' unsent unsent' [] lines' e i = absurd (let some = i.some in omega arith)
alike run run' unsent unsent' (l ∷ ls) [] e i = absurd (cc (e))
alike run run' unsent unsent' (l ∷ ls) (m ∷ ms) e i =
    let first : jobs_handed_to run' unsent' m ≡ jobs_handed_to run unsent l = cc (e) in (
      record {
        some = omega arith;
        alike = λ k d lt.
            let long : length (m ∷ ms) ≡ length (l ∷ ls) = sym (length-map (m ∷ ms) (jobs_handed_to run' unsent'))
            ∙ ap length e ∙ length-map (l ∷ ls) (jobs_handed_to run unsent) in
            let lt' : k < length (l ∷ ls) = omega (arith, long) in
            let there :
            jobs_handed_to run' unsent' (get_or (m ∷ ms) k d) ≡ jobs_handed_to run unsent (get_or (l ∷ ls) k d) =
            sym (get_or-map (jobs_handed_to run' unsent') (m ∷ ms) k d (jobs_handed_to run' unsent' d) lt)
            ∙ ap (λ js. get_or js k (jobs_handed_to run' unsent' d)) e
            ∙ get_or-map (jobs_handed_to run unsent) (l ∷ ls) k d (jobs_handed_to run' unsent' d) lt' in
            there ∙ i.alike k d lt' ∙ sym first;
        numbered = subst AreNumbered (sym first) i.numbered;
      },
      first,
    )

-- the jobs that are not in a run stand behind
pub with_unsent : (run : Option (List Job)) (unsent : List Job) (lines lines' : List LaneSender)
    → map (λ line. line.pushed ++ jobs_owed line.taken run) lines'
    ≡ map (λ line. line.pushed ++ jobs_owed line.taken run) lines
    → map (jobs_handed_to run unsent) lines' ≡ map (jobs_handed_to run unsent) lines
with_unsent run unsent [] [] e = refl
with_unsent run unsent [] (m ∷ ms) e = absurd (cc (e))
with_unsent run unsent (l ∷ ls) [] e = absurd (cc (e))
with_unsent run unsent (l ∷ ls) (m ∷ ms) e =
    let first : m.pushed ++ jobs_owed m.taken run ≡ l.pushed ++ jobs_owed l.taken run = cc (e) in
    let rest : map (λ line. line.pushed ++ jobs_owed line.taken run) ms
    ≡ map (λ line. line.pushed ++ jobs_owed line.taken run) ls = cc (e) in
    let one : jobs_handed_to run unsent m ≡ jobs_handed_to run unsent l =
    sym (append_assoc m.pushed (jobs_owed m.taken run) unsent)
    ∙ ap (λ js. js ++ unsent) first
    ∙ append_assoc l.pushed (jobs_owed l.taken run) unsent in
    (λ i. one i ∷ with_unsent run unsent ls ms rest i)

-- each lane was handed what has turns in order
pub owed_numbered : (run : List Job) (unsent : List Job) (lines : List LaneSender)
    → IsOutlet (Some run) unsent lines
    → All (λ line. AreNumbered (line.pushed ++ jobs_owed line.taken (Some run))) lines
owed_numbered run unsent lines i k d lt =
    let line = get_or lines k d in
    numbered_front (line.pushed ++ jobs_owed line.taken (Some run)) unsent
    (subst AreNumbered (sym (i.alike k d lt) ∙ sym (append_assoc line.pushed (jobs_owed line.taken (Some run)) unsent))
    i.numbered)

-- where each lane has the run, it is done with
pub all_took : (run : List Job) (unsent : List Job) (lines : List LaneSender)
    → All (λ line. line.taken ≡ true) lines
    → map (jobs_handed_to None unsent) lines ≡ map (jobs_handed_to (Some run) unsent) lines
all_took run unsent [] all = refl
all_took run unsent (l ∷ ls) all =
    let one : jobs_handed_to None unsent l ≡ jobs_handed_to (Some run) unsent l =
    go l.taken (All_head (λ (line : LaneSender). line.taken ≡ true) l ls all) in
    (λ i. one i ∷ all_took run unsent ls (λ k d lt. all (suc k) d (omega arith)) i)
  where
    go : (taken : Bool)
        → taken ≡ true
        → l.pushed ++ (jobs_owed taken None ++ unsent) ≡ l.pushed ++ (jobs_owed taken (Some run) ++ unsent)
    go true e = refl
    go false e = absurd (cc (e))

-- a run of all that is not in one, which no lane has
pub begun : (unsent : List Job) (lines lines' : List LaneSender)
    → map (λ line. line.pushed) lines' ≡ map (λ line. line.pushed) lines
    → All (λ line. line.taken ≡ false) lines'
    → map (jobs_handed_to (Some unsent) []) lines' ≡ map (jobs_handed_to None unsent) lines
begun unsent [] [] e all = refl
begun unsent [] (m ∷ ms) e all = absurd (cc (e))
begun unsent (l ∷ ls) [] e all = absurd (cc (e))
begun unsent (l ∷ ls) (m ∷ ms) e all =
    let first : m.pushed ≡ l.pushed = cc (e) in
    let rest : map (λ line. line.pushed) ms ≡ map (λ line. line.pushed) ls = cc (e) in
    let one : jobs_handed_to (Some unsent) [] m ≡ jobs_handed_to None unsent l =
    go m.taken (All_head (λ (line : LaneSender). line.taken ≡ false) m ms all) ∙ ap (λ js. js ++ unsent) first in
    (λ i. one i ∷ begun unsent ls ms rest (λ k d lt. all (suc k) d (omega arith)) i)
  where
    go : (taken : Bool) → taken ≡ false → m.pushed ++ (jobs_owed taken (Some unsent) ++ []) ≡ m.pushed ++ unsent
    go true e = absurd (cc (e))
    go false e = ap (λ js. m.pushed ++ js) (append-nil unsent)

-- one job more
more_of : (run : Option (List Job)) (unsent : List Job) (job : Job) (line : LaneSender)
    → jobs_handed_to run (unsent ++ job ∷ []) line ≡ jobs_handed_to run unsent line ++ job ∷ []
more_of run unsent job line =
    ap (λ js. line.pushed ++ js) (sym (append_assoc (jobs_owed line.taken run) unsent (job ∷ [])))
    ∙ sym (append_assoc line.pushed (jobs_owed line.taken run ++ unsent) (job ∷ []))

pub handed_more : (run : Option (List Job)) (unsent : List Job) (lines : List LaneSender) (job : Job)
    → 0 < length lines
    → jobs_handed run (unsent ++ job ∷ []) lines ≡ jobs_handed run unsent lines ++ job ∷ []
handed_more run unsent [] job some = absurd (omega arith)
handed_more run unsent (l ∷ ls) job some = more_of run unsent job l

numbered_more : (jobs : List Job) (job : Job)
    → AreNumbered jobs
    → job.turn ≡ length jobs + 1
    → AreNumbered (jobs ++ job ∷ [])
numbered_more jobs job all turn = numbered_append jobs (job ∷ []) all one
  where
    turn_or : Option Job → ℕ
    turn_or None = 0
    turn_or (Some j) = j.turn

    one : AreNumberedBehind (length jobs) (job ∷ [])
    one zero j is = let same : job.turn ≡ j.turn = ap turn_or is in omega arith
    one (suc zero) j is = absurd (cc (is))
    one (suc (suc k)) j is = absurd (cc (is))

pub outlet_more : (run : Option (List Job)) (unsent : List Job) (lines : List LaneSender) (job : Job)
    → IsOutlet run unsent lines
    → job.turn ≡ length (jobs_handed run unsent lines) + 1
    → IsOutlet run (unsent ++ job ∷ []) lines
outlet_more run unsent lines job i turn = record {
  some = i.some;
  alike = λ k d lt.
      more_of run unsent job (get_or lines k d)
      ∙ ap (λ js. js ++ job ∷ []) (i.alike k d lt)
      ∙ sym (handed_more run unsent lines job i.some);
  numbered =
      subst AreNumbered (sym (handed_more run unsent lines job i.some))
      (numbered_more (jobs_handed run unsent lines) job i.numbered turn);
}

-- the jobs that are not in a run go on with the next turn
pub unsent_next : (run : Option (List Job)) (unsent : List Job) (lines : List LaneSender) (first turn : ℕ)
    → IsOutlet run unsent lines
    → AreNumberedFrom first unsent
    → turn ≡ length (jobs_handed run unsent lines) + 1
    → 0 < length unsent
    → first + length unsent ≡ turn
unsent_next run unsent [] first turn i numbered is some = absurd (let some = i.some in omega arith)
unsent_next run [] (l ∷ ls) first turn i numbered is some = absurd (omega arith)
unsent_next run (job ∷ jobs) (l ∷ ls) first turn i numbered is some =
    let front = l.pushed ++ jobs_owed l.taken run in
    let whole = append_assoc l.pushed (jobs_owed l.taken run) (job ∷ jobs) in
    let here : job.turn ≡ first + 0 = numbered 0 job refl in
    let there : job.turn ≡ length front + 0 + 1 =
    numbered_behind front (job ∷ jobs) (subst AreNumbered (sym whole) i.numbered) 0 job refl in
    let long : length (jobs_handed run (job ∷ jobs) (l ∷ ls)) ≡ length front + length (job ∷ jobs) =
    ap length (sym whole) ∙ length-append front (job ∷ jobs) in
    omega (arith, here, there, long, is)

-- ---- one job more, by its parts

-- it is handed out, or there was no memory and all is as it was
pub record IsAdded {X E : Type 0} (run : Option (List Job)) (lines : List LaneSender) (unsent new : List Job)
    (job : Job) (result : Result X E) : Type 0 where
  pub keeps : IsOutlet run new lines
  pub ok : OnOk result (jobs_handed run new lines ≡ jobs_handed run unsent lines ++ job ∷ [])
  pub err : OnErr result (jobs_handed run new lines ≡ jobs_handed run unsent lines)

pub added : {X E : Type 0} (run : Option (List Job)) (lines : List LaneSender) (unsent : List Job) (origin : Origin)
    (turn : ℕ) (content said : Content) (queues : List (List ℕ)) (at new : Block) (result : Result X E)
    → IsOutlet run unsent lines
    → turn ≡ length (jobs_handed run unsent lines) + 1
    → at.jobs ≡ unsent
    → turn_behind at ≡ turn
    → content ≡ said
    → OnOk result (IsPushed (job_of origin (turn_behind at) content queues) at new)
    → OnErr result (IsLeft at new)
    → IsAdded run lines unsent new.jobs (job_of origin turn said queues) result
added run lines unsent origin turn content said queues at new (Ok x) i next same behind says pushed left =
    let job = job_of origin turn said queues in
    let is : new.jobs ≡ unsent ++ job ∷ [] =
    pushed.jobs ∙ (λ k. same k ++ job_of origin (behind k) (says k) queues ∷ []) in
    record {
      keeps = subst (λ jobs. IsOutlet run jobs lines) (sym {A = List Job} is) (outlet_more run unsent lines job i next);
      ok = ap (λ jobs. jobs_handed run jobs lines) is ∙ handed_more run unsent lines job i.some;
      err = tt;
    }
added run lines unsent origin turn content said queues at new (Err e) i next same behind says pushed left =
    let is : new.jobs ≡ unsent = left.jobs ∙ same in
    record {
      keeps = subst (λ jobs. IsOutlet run jobs lines) (sym {A = List Job} is) i;
      ok = tt;
      err = ap (λ jobs. jobs_handed run jobs lines) is;
    }

-- ---- the last job

get_behind : (xs ys : List Job) (k : ℕ) → slice_get (xs ++ ys) (length xs + k) ≡ slice_get ys k
get_behind [] ys k = ap (slice_get ys) {x = 0 + k} {y = k} (omega arith)
get_behind (x ∷ xs) ys k =
    ap (slice_get (x ∷ (xs ++ ys))) {x = suc (length xs) + k} {y = suc (length xs + k)} (omega arith)
    ∙ get_behind xs ys k

pub last_behind : (xs ys : List Job)
    → 0 < length ys
    → slice_get (xs ++ ys) (length (xs ++ ys) - 1) ≡ slice_get ys (length ys - 1)
last_behind xs ys some =
    ap (slice_get (xs ++ ys)) {x = length (xs ++ ys) - 1} {y = length xs + (length ys - 1)}
    (let long = length-append xs ys in omega (arith, long, some))
    ∙ get_behind xs ys (length ys - 1)

-- it is the last of those that are not in a run, where there are such
handed_last : (run : Option (List Job)) (unsent : List Job) (lines : List LaneSender)
    → 0 < length lines
    → 0 < length unsent
    → slice_get (jobs_handed run unsent lines) (length (jobs_handed run unsent lines) - 1)
    ≡ slice_get unsent (length unsent - 1)
handed_last run unsent [] lanes some = absurd (omega arith)
handed_last run unsent (l ∷ ls) lanes some =
    let owed = jobs_owed l.taken run in
    last_behind l.pushed (owed ++ unsent) (let long = length-append owed unsent in omega (arith, long, some))
    ∙ last_behind owed unsent some

pub last_unsent : (publisher : Option ℕ) (subject : List ℕ) (echo : Bool) (queues : List (List ℕ))
    (run : Option (List Job)) (unsent : List Job) (lines : List LaneSender)
    → IsOutlet run unsent lines
    → IsLast publisher subject echo queues (jobs_handed run unsent lines)
    → 0 < length unsent
    → IsLast publisher subject echo queues unsent
last_unsent publisher subject echo queues run unsent lines i last some = record {
  last = last.last;
  stands = sym (handed_last run unsent lines i.some some) ∙ last.stands;
  subject_same = last.subject_same;
  publisher_same = last.publisher_same;
  echo_same = last.echo_same;
  queues_same = last.queues_same;
}

pub last_handed : (publisher : Option ℕ) (subject : List ℕ) (echo : Bool) (queues : List (List ℕ))
    (run : Option (List Job)) (unsent : List Job) (lines : List LaneSender)
    → IsOutlet run unsent lines
    → IsLast publisher subject echo queues unsent
    → IsLast publisher subject echo queues (jobs_handed run unsent lines)
last_handed publisher subject echo queues run unsent lines i last =
    let within = slice_get_within unsent (length unsent - 1) last.last last.stands in
    record {
      last = last.last;
      stands = handed_last run unsent lines i.some (omega (arith, within)) ∙ last.stands;
      subject_same = last.subject_same;
      publisher_same = last.publisher_same;
      echo_same = last.echo_same;
      queues_same = last.queues_same;
    }

-- what is true of its queue names is so of a copy of them, where there is one
pub shared_names : {E : Type 0} (P : List (List ℕ) → Type 0) (told names : List (List ℕ))
    (copy : Result (List (List ℕ)) E) (given : Option (List (List ℕ)))
    → given ≡ result_ok copy
    → IfOk copy (λ queues. queues ≡ told)
    → told ≡ names
    → P names
    → IfSome given P
shared_names P told names (Ok queues) given is same names_are holds =
    subst (λ o. IfSome o P) (sym {A = Option (List (List ℕ))} is)
    (subst P (sym {A = List (List ℕ)} (same ∙ names_are)) holds)
shared_names P told names (Err e) given is same names_are holds =
    subst (λ o. IfSome o P) (sym {A = Option (List (List ℕ))} is) tt

-- lanes to which nothing was pushed
pub new_outlet : (lines : List LaneSender)
    → 0 < length lines
    → All (λ line. line.pushed ≡ []) lines
    → IsOutlet None [] lines × (jobs_handed None [] lines ≡ [])
new_outlet [] some all = absurd (omega arith)
new_outlet (l ∷ ls) some all =
    let first : l.pushed ++ [] ≡ [] =
    append-nil l.pushed ∙ All_head (λ (line : LaneSender). line.pushed ≡ []) l ls all in (
      record {
        some = some;
        alike = λ k d lt. append-nil (get_or (l ∷ ls) k d).pushed ∙ all k d lt ∙ sym first;
        numbered = subst AreNumbered (sym first) numbered_none;
      },
      first,
    )

pub none_of : (o : Option (List Job)) (b : Bool) → b ≡ is_some o → b ≡ false → o ≡ None
none_of None b e f = refl
none_of (Some run) b e f = absurd (true≢false (sym e ∙ f))

-- what was pushed to each lane came first
pub pushed_first : (run : Option (List Job)) (unsent : List Job) (lines : List LaneSender)
    → IsOutlet run unsent lines
    → All (λ line. AreFirst line.pushed (jobs_handed run unsent lines)) lines
pushed_first run unsent lines i k d lt = (jobs_owed (get_or lines k d).taken run ++ unsent, sym (i.alike k d lt))
