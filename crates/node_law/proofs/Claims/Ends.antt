-- A shard that made its End of a turn made one Claim of each index of the job.
use Rattle.std.proofs.Common.{◌≡◌, ◌≢◌, ℕ, zero, suc, ◌+◌, ◌-◌, ◌<◌, ◌≤◌, Bool, true, false, true≢false, cond, nat_eq, nat_lt, ◌&&◌, List, [], ◌∷◌, ◌++◌, map, set, length, Option, Some, None, refl, sym, ap, ◌∙◌, subst, ⊎_elim, arith, add-one}
use Rattle.std.specs.Prelude.{filter, slice_get, is_some}
use Rattle.std.specs.Option.{option_or}
use Rattle.std.proofs.lemmas.Option.{none-some, same_Some}
use Rattle.std.proofs.lemmas.Bool.Decides.{nat_tests}
use Rattle.list_laws.specs.Lists.{In}
use Rattle.list_laws.proofs.Lists.{read_set, read_map}
use Rattle.list_laws.proofs.Tests.{eq_true, eq_false, true_eq, false_eq, and_true, no_cause, no_end, lt_true, lt_false}
use Rattle.subj.specs.Servers.{ServerIdentity, IsListed}
use Rattle.subj.specs.declared.jobs.Job.{Job}
use Rattle.subj.specs.declared.limits.TheConstants.{WINDOW}
use Rattle.sub_table.specs.declared.Subscription.{Subscription}
use Rattle.claim_race.specs.Race.{RaceState}
use Rattle.hub_core.specs.Publishing.{own_job}
use Rattle.hub_core.specs.Receiving.{routed_job}
use Rattle.hub_core.proofs.Steps.Rooms.{map_none}
use Rattle.route_values.specs.Frames.{Frame}
use Rattle.route_values.specs.declared.bodies.Body.{Body}
use Rattle.route_values.specs.declared.bodies.Body.TheVariants.{Plus, Minus, Snapshot, Msg}
use Rattle.shard_core.specs.Lines.{SoundLine, Turns, begun_turn, first_of}
use Rattle.shard_core.specs.Owed.{candidate_of, after_claim}
use Rattle.shard_core.specs.ShardEvents as of_shard
use Rattle.shard_core.specs.Shards as shards
use Rattle.shard_core.specs.ShardSteps.{sub_called, new_sub, after_subscribe, ended_now, after_unsubscribe, answer_fits, done_with, shard_refusal, claim_refusal, end_refusal, shard_after}
use Rattle.node_law.specs.declared.faults.NodeFault.TheVariants.{Shard}
use Rattle.node_law.specs.Events.{ConnEvent, Subscribe, Unsubscribe, Reply, Shut, SetHeaders, Detach, Take, ShardWork, Attach, Begin, Claim, End, DropJob, DrainShard, OfConn, AtShard, Publish, Collect, Drain, Dial, Accept, CutSession, TakeFrames, NodeEvent, Own, Receive, OnInfo, OnConnect}
use Rattle.node_law.specs.OneServer.{Claimed, is_of_pair, is_of_shard, claimed_at, claimed_with, option_for, work_claims, claims_by, claims_of, Ended, ended_with, ended_at, work_ends, ends_by, ends_of, EndedAll}
use Rattle.node_law.specs.Runs.{Done, Ran}
use Rattle.node_law.specs.Sound.{SoundNode}
use Rattle.node_law.specs.State.{ShardWithJobs, Node, lines_from}
use Rattle.node_law.specs.Steps.{conn_place, conn_line, shard_line, conn_event, begin_of, drop_of, work_event, event_refusal, work_refusal, line_after, line_after_if, set_line, line_with_job, lines_after_body, node_refusal, node_after}
use Rattle.node_law.proofs.Moves.LineEvents.{found}
use Rattle.node_law.proofs.Claims.OneWinner.{line_sound}
use Rattle.node_law.proofs.Runs.Sound.{run_sound}

-- how often the shard of this job in hand and next index has claimed an index of a turn that it hasn't finished
abbrev expected : Option Job → ℕ → ℕ → ℕ → ℕ
expected None next t i = 0
expected (Some job) next t i = cond (nat_eq job.turn t && nat_lt i next) 1 0

record Counted (s finished : ℕ) (hand : Option Job) (next : ℕ) (claims : List Claimed) (ends : List Ended) :
    Type 0 where
  now : (t i : ℕ) → finished < t → length (filter (is_of_shard s t i) claims) ≡ expected hand next t i
  past : (x : Ended) → In x ends → x.shard ≡ s → x.job.turn ≤ finished

abbrev CountedLine : ℕ → ShardWithJobs → List Claimed → List Ended → Type 0
CountedLine s line claims ends = Counted s line.shard.finished line.shard.hand line.shard.next_index claims ends

record Counts (lines : List ShardWithJobs) (claims : List Claimed) (ends : List Ended) : Type 0 where
  each : (place : ℕ) (line : ShardWithJobs)
      → slice_get lines place ≡ Some line
      → CountedLine (suc place) line claims ends
  all : EndedAll claims ends

set_counts : (lines : List ShardWithJobs) (place : ℕ) (after : ShardWithJobs) (claims : List Claimed)
    (ends : List Ended)
    → Counts lines claims ends
    → CountedLine (suc place) after claims ends
    → Counts (set lines place after) claims ends
set_counts lines place after claims ends k h = record {
  each = read_set (λ t l. CountedLine (suc t) l claims ends) lines place after (λ t l apart e. k.each t l e) h;
  all = k.all;
}

line_case : (place : ℕ) (change : ShardWithJobs → ShardWithJobs) (lines : List ShardWithJobs) (o : Option ShardWithJobs)
    (claims : List Claimed) (ends : List Ended)
    → ((line : ShardWithJobs) → o ≡ Some line → slice_get lines place ≡ Some line)
    → ((line : ShardWithJobs) → o ≡ Some line → CountedLine (suc place) line claims ends
    → CountedLine (suc place) (change line) claims ends)
    → Counts lines claims ends
    → Counts (set_line lines place change o) claims ends
line_case place change lines None claims ends at step k = k
line_case place change lines (Some line) claims ends at step k =
    set_counts lines place (change line) claims ends k (step line refl (k.each place line (at line refl)))

queue_counts : (job : Job) (lines : List ShardWithJobs) (claims : List Claimed) (ends : List Ended)
    → Counts lines claims ends
    → Counts (map (line_with_job job) lines) claims ends
queue_counts job lines claims ends k = record {
  each = λ s line e.
      let m = read_map (line_with_job job) lines s line e in
      subst (λ (l : ShardWithJobs). CountedLine (suc s) l claims ends) (sym m.2) (k.each s m.0 m.1);
  all = k.all;
}

-- events of connections leave the job

record Stays (old new : shards.State) : Type 0 where
  finished : new.finished ≡ old.finished
  hand : new.hand ≡ old.hand
  next : new.next_index ≡ old.next_index

either : (s x y : shards.State) (b : Bool) → Stays s x → Stays s y → Stays s (cond b x y)
either s x y true f g = f
either s x y false f g = g

conn_stays : (s : shards.State) (conn : ℕ) (e : ConnEvent) → Stays s (shard_after s (conn_event conn e))
conn_stays s conn (Subscribe key sid) = go (sub_called conn sid s.subs)
  where
    go : (u : Option Subscription) → Stays s (after_subscribe s (new_sub s conn key sid) u)
    go None = record { finished = refl; hand = refl; next = refl }
    go (Some u) = record { finished = refl; hand = refl; next = refl }
conn_stays s conn (Unsubscribe sid max) = go (sub_called conn sid s.subs)
  where
    go : (u : Option Subscription) → Stays s (after_unsubscribe s max u)
    go None = record { finished = refl; hand = refl; next = refl }
    go (Some u) =
        either s _ _ (ended_now max u) (record { finished = refl; hand = refl; next = refl })
        (record { finished = refl; hand = refl; next = refl })
conn_stays s conn (Reply frame) =
    either s _ _ (answer_fits s conn _) (record { finished = refl; hand = refl; next = refl })
    (record { finished = refl; hand = refl; next = refl })
conn_stays s conn (Shut text) = record { finished = refl; hand = refl; next = refl }
conn_stays s conn Detach = record { finished = refl; hand = refl; next = refl }
conn_stays s conn (SetHeaders on) = record { finished = refl; hand = refl; next = refl }
conn_stays s conn (Take count) = record { finished = refl; hand = refl; next = refl }

stays_counted : (s : ℕ) (old new : shards.State) (claims : List Claimed) (ends : List Ended)
    → Stays old new
    → Counted s old.finished old.hand old.next_index claims ends
    → Counted s new.finished new.hand new.next_index claims ends
stays_counted s old new claims ends same k =
    subst (λ x. Counted s x new.hand new.next_index claims ends) (sym same.finished)
    (subst (λ x. Counted s old.finished x new.next_index claims ends) (sym same.hand)
    (subst (λ x. Counted s old.finished old.hand x claims ends) (sym same.next) k))

-- Begin

lt_zero : (i : ℕ) → nat_lt i 0 ≡ false
lt_zero i = grind (arith, nat_tests)

none_yet : (job : Job) (t i : ℕ) → zero ≡ expected (Some job) 0 t i
none_yet job t i = go (nat_eq job.turn t)
  where
    go : (b : Bool) → zero ≡ cond (b && nat_lt i 0) 1 0
    go true = ap (λ x. cond x 1 0) (sym (lt_zero i))
    go false = refl

none_is : (o : Option Job) → is_some o ≡ false → o ≡ None
none_is None e = refl
none_is (Some x) e = absurd (true≢false e)

-- a line whose job is done
done_counted : (issued s : ℕ) (line : ShardWithJobs) (claims : List Claimed) (ends : List Ended)
    → SoundLine WINDOW issued line.shard line.waiting
    → CountedLine s line claims ends
    → (job : Job)
    → job.turn ≡ suc line.shard.finished
    → Counted s job.turn None 0 claims ends
done_counted issued s line claims ends so k job turn = record {
  now = λ t i lt. k.now t i (omega arith) ∙ go t i lt line.shard.hand refl;
  past = λ x i e. let h = k.past x i e in omega arith;
}
  where
    go : (t i : ℕ)
        → job.turn < t
        → (hand : Option Job)
        → line.shard.hand ≡ hand
        → expected hand line.shard.next_index t i ≡ 0
    go t i lt None is = refl
    go t i lt (Some x) is =
        let e = so.hand x is in
        ap (λ b. cond (b && nat_lt i line.shard.next_index) 1 0) (false_eq x.turn t (λ f. absurd (omega arith)))

-- the turn of the job that is dropped
dropped_turn : (issued : ℕ) (line : ShardWithJobs)
    → SoundLine WINDOW issued line.shard line.waiting
    → line.shard.hand ≡ None
    → (job : Job)
    → first_of line.waiting ≡ Some job
    → job.turn ≡ suc line.shard.finished
dropped_turn issued line so none job e =
    go line.waiting e (subst (λ h. Turns (begun_turn h line.shard.finished) line.waiting issued) none so.turns)
  where
    go : (waiting : List Job)
        → first_of waiting ≡ Some job
        → Turns line.shard.finished waiting issued
        → job.turn ≡ suc line.shard.finished
    go [] f t = absurd (none-some job f)
    go (x ∷ xs) f t = sym (ap (λ (j : Job). j.turn) (same_Some x job f)) ∙ t.0

drop_counted : (issued s : ℕ) (line : ShardWithJobs) (claims : List Claimed) (ends : List Ended)
    → SoundLine WINDOW issued line.shard line.waiting
    → CountedLine s line claims ends
    → CountedLine s (line_after_if (drop_of line.shard.hand (first_of line.waiting)) line) claims ends
drop_counted issued s line claims ends so k = go line.shard.hand (first_of line.waiting) refl refl
  where
    done : (o : Option Job) (job : Job)
        → o ≡ Some job
        → job.turn ≡ suc line.shard.finished
        → Counted s (done_with line.shard o).finished (done_with line.shard o).hand (done_with line.shard o).next_index
        claims ends
    done None job e turn = absurd (none-some job e)
    done (Some x) job e turn =
        done_counted issued s line claims ends so k x (ap (λ (j : Job). j.turn) (same_Some x job e) ∙ turn)

    go : (hand o : Option Job)
        → line.shard.hand ≡ hand
        → first_of line.waiting ≡ o
        → CountedLine s (line_after_if (drop_of hand o) line) claims ends
    go None None h f = k
    go None (Some job) h f =
        done (option_or line.shard.hand (Some job)) job (ap (λ x. option_or x (Some job)) h)
        (dropped_turn issued line so h job f)
    go (Some job) o h f = done (option_or line.shard.hand None) job (ap (λ x. option_or x None) h) (so.hand job h)

begin_counted : (s : ℕ) (line : ShardWithJobs) (claims : List Claimed) (ends : List Ended)
    → work_refusal Begin (Some line) ≡ None
    → CountedLine s line claims ends
    → CountedLine s (line_after_if (begin_of (first_of line.waiting)) line) claims ends
begin_counted s line claims ends cause k = go (first_of line.waiting) cause
  where
    go : (o : Option Job)
        → event_refusal line (begin_of o) ≡ None
        → CountedLine s (line_after_if (begin_of o) line) claims ends
    go None c = k
    go (Some job) c =
        let free = none_is line.shard.hand
        (no_cause (is_some line.shard.hand) _ _ (map_none Shard (shard_refusal line.shard (of_shard.Begin job)) c)).0 in
        record {
          now = λ t i lt. k.now t i lt ∙ ap (λ x. expected x line.shard.next_index t i) free ∙ none_yet job t i;
          past = k.past;
        }

more_ends : (s finished : ℕ) (hand : Option Job) (next : ℕ) (claims : List Claimed) (ends : List Ended) (x : Ended)
    → (x.shard ≡ s → x.job.turn ≤ finished)
    → Counted s finished hand next claims ends
    → Counted s finished hand next claims (x ∷ ends)
more_ends s finished hand next claims ends x le k = record {
  now = k.now;
  past = λ y i e.
      ⊎_elim (λ (f : y ≡ x).
      subst (λ (z : Ended). z.job.turn ≤ finished) (sym f) (le (sym (ap (λ (z : Ended). z.shard) f) ∙ e)))
      (λ (j : In y ends). k.past y j e) i;
}

one_up : (s : ℕ) (o : Option ShardWithJobs) (line : ShardWithJobs)
    → cond (nat_eq s 0) None o ≡ Some line
    → suc (s - 1) ≡ s
one_up s o line at = go (nat_eq s 0) refl at
  where
    go : (b : Bool) → nat_eq s 0 ≡ b → cond b None o ≡ Some line → suc (s - 1) ≡ s
    go true e f = absurd (none-some line f)
    go false e f = let apart = eq_false s 0 e in omega arith

end_case : (issued p : ℕ) (lines : List ShardWithJobs) (line : ShardWithJobs) (claims : List Claimed)
    (ends : List Ended)
    → slice_get lines p ≡ Some line
    → SoundLine WINDOW issued line.shard line.waiting
    → end_refusal line.shard line.shard.hand ≡ None
    → Counts lines claims ends
    → Counts (set lines p (line_after of_shard.End line)) claims (ended_with (suc p) line.shard.hand ++ ends)
end_case issued p lines line claims ends at so cause k = go line.shard.hand refl cause
  where
    go : (hand : Option Job)
        → line.shard.hand ≡ hand
        → end_refusal line.shard hand ≡ None
        → Counts (set lines p (line_after of_shard.End line)) claims (ended_with (suc p) hand ++ ends)
    go None is e = absurd (none-some _ (sym e))
    go (Some job) is e =
        let turn = so.hand job is in
        let all_tried = eq_true line.shard.next_index (length job.queues)
        (no_end (nat_eq line.shard.next_index (length job.queues)) _ e) in
        record {
          each =
              read_set (λ t l. CountedLine (suc t) l claims (x ∷ ends)) lines p (line_after of_shard.End line)
              (λ t l apart f.
              more_ends (suc t) l.shard.finished l.shard.hand l.shard.next_index claims ends x
              (λ g. absurd (apart (omega arith))) (k.each t l f))
              (subst (λ h.
              Counted (suc p) (done_with line.shard h).finished (done_with line.shard h).hand
              (done_with line.shard h).next_index claims (x ∷ ends))
              (sym is)
              (more_ends (suc p) job.turn None 0 claims ends x (λ g. omega arith)
              (done_counted issued (suc p) line claims ends so (k.each p line at) job turn)));
          all = λ y i.
              ⊎_elim (λ (f : y ≡ x).
              subst (λ (z : Ended).
              (index : ℕ)
              → index < length z.job.queues
              → length (filter (is_of_shard z.shard z.job.turn index) claims) ≡ 1)
              (sym f) (λ index lt.
              (k.each p line at).now job.turn index (omega arith)
              ∙ ap (λ h. expected h line.shard.next_index job.turn index) is
              ∙ ap (λ b. cond (b && nat_lt index line.shard.next_index) 1 0) (true_eq job.turn job.turn refl)
              ∙ ap (λ b. cond b 1 0) (less index line.shard.next_index (omega arith))))
              (λ (j : In y ends). k.all y j) i;
        }
      where
        x : Ended
        x = record { shard = suc p; job = job }

        less : (i n : ℕ) → i < n → nat_lt i n ≡ true
        less i n lt = grind (arith, nat_tests, lt)

other_claim : (s t i : ℕ) (x : Claimed) (claims : List Claimed)
    → is_of_shard s t i x ≡ false
    → length (filter (is_of_shard s t i) (x ∷ claims)) ≡ length (filter (is_of_shard s t i) claims)
other_claim s t i x claims e =
    ap (λ b. length (cond b (x ∷ filter (is_of_shard s t i) claims) (filter (is_of_shard s t i) claims))) e

other_shard : (s t i : ℕ) (x : Claimed) → x.shard ≢ s → is_of_shard s t i x ≡ false
other_shard s t i x apart = ap (λ b. b && is_of_pair t i x) (false_eq x.shard s apart)

other_turn : (s t i : ℕ) (x : Claimed) → x.job.turn ≢ t → is_of_shard s t i x ≡ false
other_turn s t i x apart = go (nat_eq x.shard s)
  where
    go : (b : Bool) → (b && (nat_eq x.job.turn t && nat_eq x.index i)) ≡ false
    go true = ap (λ b. b && nat_eq x.index i) (false_eq x.job.turn t apart)
    go false = refl

-- the count of the index that was next rises
claim_counted : (s finished : ℕ) (job : Job) (next : ℕ) (u : Option Subscription) (headers won : Bool)
    (claims : List Claimed) (ends : List Ended)
    → job.turn ≡ suc finished
    → Counted s finished (Some job) next claims ends
    → Counted s finished (Some job) (suc next)
    (record { shard = s; job = job; index = next; candidate = u; headers = headers; won = won } ∷ claims) ends
claim_counted s finished job next u headers won claims ends turn k = record {
  now = λ t i lt.
      ap (λ b.
      length (cond (b && (nat_eq job.turn t && nat_eq next i)) (x ∷ filter (is_of_shard s t i) claims)
      (filter (is_of_shard s t i) claims)))
      (true_eq s s refl)
      ∙ go t i (nat_eq job.turn t) (nat_eq next i) (nat_lt i next) (nat_lt i (suc next)) refl refl refl refl
      (k.now t i lt);
  past = k.past;
}
  where
    x : Claimed
    x = record { shard = s; job = job; index = next; candidate = u; headers = headers; won = won }

    go : (t i : ℕ) (same here below upto : Bool)
        → nat_eq job.turn t ≡ same
        → nat_eq next i ≡ here
        → nat_lt i next ≡ below
        → nat_lt i (suc next) ≡ upto
        → length (filter (is_of_shard s t i) claims) ≡ cond (nat_eq job.turn t && nat_lt i next) 1 0
        → length (cond (same && here)
        (record { shard = s; job = job; index = next; candidate = u; headers = headers; won = won }
        ∷ filter (is_of_shard s t i) claims)
        (filter (is_of_shard s t i) claims)) ≡ cond (nat_eq job.turn t && nat_lt i (suc next)) 1 0
    go t i false here below upto a b d e old =
        old ∙ ap (λ y. cond (y && nat_lt i next) 1 0) a ∙ sym (ap (λ y. cond (y && nat_lt i (suc next)) 1 0) a)
    go t i true true true upto a b d e old = let p = eq_true next i b in absurd (lemma i next (sym p) d)
      where
        lemma : (m n : ℕ) → m ≡ n → nat_lt m n ≡ true → ⊥
        lemma m n f g = let h = lt_true m n g in absurd (omega arith)
    go t i true true false false a b d e old = let p = eq_true next i b in absurd (lemma i next (sym p) e)
      where
        lemma : (m n : ℕ) → m ≡ n → nat_lt m (suc n) ≡ false → ⊥
        lemma m n f g = let h = lt_false m (suc n) g in absurd (omega arith)
    go t i true true false true a b d e old =
        ap suc (old ∙ (λ j. cond (a j && d j) 1 0)) ∙ sym (λ j. cond (a j && e j) 1 0)
    go t i true false true true a b d e old = old ∙ (λ j. cond (a j && d j) 1 0) ∙ sym (λ j. cond (a j && e j) 1 0)
    go t i true false false false a b d e old = old ∙ (λ j. cond (a j && d j) 1 0) ∙ sym (λ j. cond (a j && e j) 1 0)
    go t i true false true false a b d e old = absurd (lemma i next (lt_true i next d) (lt_false i (suc next) e))
      where
        lemma : (m n : ℕ) → m < n → suc n ≤ m → ⊥
        lemma m n f g = absurd (omega arith)
    go t i true false false true a b d e old =
        absurd (lemma i next (eq_false next i b) (lt_false i next d) (lt_true i (suc next) e))
      where
        lemma : (m n : ℕ) → n ≢ m → n ≤ m → m < suc n → ⊥
        lemma m n f g h = f (omega arith)

claimed_next : (sh : shards.State) (job : Job) (u : Option Subscription) (won : Bool)
    → ((after_claim sh (Some job) u won).finished ≡ sh.finished) × ((after_claim sh (Some job) u won).hand ≡ sh.hand)
    × ((after_claim sh (Some job) u won).next_index ≡ suc sh.next_index)
claimed_next sh job None won = (refl, refl, add-one sh.next_index)
claimed_next sh job (Some u) true = (refl, refl, add-one sh.next_index)
claimed_next sh job (Some u) false = (refl, refl, add-one sh.next_index)

claim_case : (issued p index : ℕ) (won : Bool) (lines : List ShardWithJobs) (line : ShardWithJobs)
    (claims : List Claimed) (ends : List Ended)
    → slice_get lines p ≡ Some line
    → SoundLine WINDOW issued line.shard line.waiting
    → claim_refusal line.shard index line.shard.hand ≡ None
    → Counts lines claims ends
    → Counts (set lines p (line_after (of_shard.Claim index won) line))
    (claimed_with (suc p) index won line.shard.clients line.shard.hand (candidate_of line.shard line.shard.hand index)
    ++ claims)
    ends
claim_case issued p index won lines line claims ends at so cause k =
    go line.shard.hand (candidate_of line.shard line.shard.hand index) refl refl cause
  where
    s : ℕ
    s = suc p

    go : (hand : Option Job) (u : Option Subscription)
        → line.shard.hand ≡ hand
        → candidate_of line.shard line.shard.hand index ≡ u
        → claim_refusal line.shard index hand ≡ None
        → Counts (set lines p (line_after (of_shard.Claim index won) line))
        (claimed_with (suc p) index won line.shard.clients hand u ++ claims) ends
    go None u is cand e = absurd (none-some _ (sym e))
    go (Some job) u is cand e = record {
      each =
          read_set (λ t l. CountedLine (suc t) l (x ∷ claims) ends) lines p (line_after (of_shard.Claim index won) line)
          (λ t l apart f. record {
            now = λ turn i lt.
                other_claim (suc t) turn i x claims (other_shard (suc t) turn i x (λ g. absurd (apart (omega arith))))
                ∙ (k.each t l f).now turn i lt;
            past = (k.each t l f).past;
          })
          (subst (λ (sh : shards.State). Counted s sh.finished sh.hand sh.next_index (x ∷ claims) ends) shard_is here);
      all = λ y i index' lt.
          other_claim y.shard y.job.turn index' x claims (go_other y i index' (nat_eq s y.shard) refl)
          ∙ k.all y i index' lt;
    }
      where
        x : Claimed
        x = record {
          shard = suc p;
          job = job;
          index = index;
          candidate = u;
          headers = option_for line.shard.clients u;
          won = won;
        }

        at_next : index ≡ line.shard.next_index
        at_next =
            eq_true index line.shard.next_index
            (and_true (nat_eq index line.shard.next_index) (nat_lt index (length job.queues)) (no_end _ _ e)).0

        shard_is : after_claim line.shard (Some job) u won
            ≡ after_claim line.shard line.shard.hand (candidate_of line.shard line.shard.hand index) won
        shard_is = λ j. after_claim line.shard (sym is j) (sym cand j) won

        here : Counted s (after_claim line.shard (Some job) u won).finished
            (after_claim line.shard (Some job) u won).hand (after_claim line.shard (Some job) u won).next_index
            (x ∷ claims) ends
        here =
            let m = claimed_next line.shard job u won in
            subst (λ n.
            Counted s n (after_claim line.shard (Some job) u won).hand
            (after_claim line.shard (Some job) u won).next_index (x ∷ claims) ends)
            (sym m.0)
            (subst (λ h.
            Counted s line.shard.finished h (after_claim line.shard (Some job) u won).next_index (x ∷ claims) ends)
            (sym (m.1 ∙ is))
            (subst (λ n. Counted s line.shard.finished (Some job) n (x ∷ claims) ends) (sym m.2)
            (subst (λ n.
            Counted s line.shard.finished (Some job) (suc line.shard.next_index)
            (record {
              shard = s;
              job = job;
              index = n;
              candidate = u;
              headers = option_for line.shard.clients u;
              won = won;
            } ∷ claims)
            ends)
            (sym at_next)
            (claim_counted s line.shard.finished job line.shard.next_index u (option_for line.shard.clients u) won
            claims ends (so.hand job is)
            (subst (λ h. Counted s line.shard.finished h line.shard.next_index claims ends) is (k.each p line at))))))

        go_other : (y : Ended)
            → In y ends
            → (i : ℕ) (b : Bool)
            → nat_eq s y.shard ≡ b
            → is_of_shard y.shard y.job.turn i x ≡ false
        go_other y i index' true f =
            let q0 = (k.each p line at).past y i (sym (eq_true s y.shard f)) in
            let q = so.hand job is in
            other_turn y.shard y.job.turn index' x (λ g. absurd (omega arith))
        go_other y i index' false f = ap (λ b. b && is_of_pair y.job.turn index' x) f

work_counts : (server : ServerIdentity) (a : Node) (s : ℕ) (work : ShardWork) (won : Bool) (claims : List Claimed)
    (ends : List Ended) (o : Option ShardWithJobs)
    → SoundNode server a
    → shard_line a s ≡ o
    → work_refusal work o ≡ None
    → Counts a.lines claims ends
    → Counts (set_line a.lines (s - 1) (λ line. line_after_if (work_event work won line) line) o)
    (work_claims a s work won ++ claims) (work_ends a s work ++ ends)
work_counts server a s work won claims ends None sound at cause k = absurd (none-some _ (sym cause))
work_counts server a s Attach won claims ends (Some line) sound at cause k =
    let c = k.each (s - 1) line (found (nat_eq s 0) (slice_get a.lines (s - 1)) line at) in
    set_counts a.lines (s - 1) _ claims ends k (record { now = c.now; past = c.past })
work_counts server a s Begin won claims ends (Some line) sound at cause k =
    set_counts a.lines (s - 1) _ claims ends k
    (begin_counted (suc (s - 1)) line claims ends cause
    (k.each (s - 1) line (found (nat_eq s 0) (slice_get a.lines (s - 1)) line at)))
work_counts server a s (Claim index) won claims ends (Some line) sound at cause k =
    subst (λ o.
    Counts (set a.lines (s - 1) (line_after (of_shard.Claim index won) line)) (claimed_at s index won o ++ claims) ends)
    (sym at)
    (subst (λ n.
    Counts (set a.lines (s - 1) (line_after (of_shard.Claim index won) line))
    (claimed_with n index won line.shard.clients line.shard.hand (candidate_of line.shard line.shard.hand index)
    ++ claims)
    ends)
    (one_up s (slice_get a.lines (s - 1)) line at)
    (claim_case a.race.issued (s - 1) index won a.lines line claims ends
    (found (nat_eq s 0) (slice_get a.lines (s - 1)) line at) (line_sound server a sound s line at)
    (map_none Shard (shard_refusal line.shard (of_shard.Claim index won)) cause) k))
work_counts server a s End won claims ends (Some line) sound at cause k =
    subst (λ o. Counts (set a.lines (s - 1) (line_after of_shard.End line)) claims (ended_at s o ++ ends)) (sym at)
    (subst
    (λ n. Counts (set a.lines (s - 1) (line_after of_shard.End line)) claims (ended_with n line.shard.hand ++ ends))
    (one_up s (slice_get a.lines (s - 1)) line at)
    (end_case a.race.issued (s - 1) a.lines line claims ends (found (nat_eq s 0) (slice_get a.lines (s - 1)) line at)
    (line_sound server a sound s line at) (map_none Shard (shard_refusal line.shard of_shard.End) cause) k))
work_counts server a s DropJob won claims ends (Some line) sound at cause k =
    set_counts a.lines (s - 1) _ claims ends k
    (drop_counted a.race.issued (suc (s - 1)) line claims ends (line_sound server a sound s line at)
    (k.each (s - 1) line (found (nat_eq s 0) (slice_get a.lines (s - 1)) line at)))
work_counts server a s DrainShard won claims ends (Some line) sound at cause k =
    let c = k.each (s - 1) line (found (nat_eq s 0) (slice_get a.lines (s - 1)) line at) in
    set_counts a.lines (s - 1) _ claims ends k (record { now = c.now; past = c.past })

body_counts : (a : Node) (frame : Frame) (body : Body) (claims : List Claimed) (ends : List Ended)
    → Counts a.lines claims ends
    → Counts (lines_after_body a frame body) claims ends
body_counts a frame (Plus weighted) claims ends k = k
body_counts a frame (Minus key) claims ends k = k
body_counts a frame (Snapshot keys) claims ends k = k
body_counts a frame (Msg content queues) claims ends k =
    queue_counts (routed_job a.hub frame content queues) a.lines claims ends k

step_counts : (server : ServerIdentity) (a : Node) (e : NodeEvent) (b : Bool) (r : RaceState) (claims : List Claimed)
    (ends : List Ended)
    → SoundNode server a
    → node_refusal server a e ≡ None
    → Counts a.lines claims ends
    → Counts (node_after server a e b r).lines (claims_by a e b ++ claims) (ends_by a e ++ ends)
step_counts server a (Own (OfConn conn event)) b r claims ends sound cause k =
    line_case (conn_place server conn) (line_after (conn_event conn event)) a.lines (conn_line server a conn) claims
    ends (λ line at. found (nat_eq conn 0) (slice_get a.lines (conn_place server conn)) line at)
    (λ line at c.
    stays_counted (suc (conn_place server conn)) line.shard _ claims ends (conn_stays line.shard conn event) c)
    k
step_counts server a (Own (AtShard s work)) b r claims ends sound cause k =
    work_counts server a s work b claims ends (shard_line a s) sound refl cause k
step_counts server a (Own (Publish p)) b r claims ends sound cause k =
    queue_counts (own_job server a.hub p) a.lines claims ends k
step_counts server a (Own (Collect s)) b r claims ends sound cause k =
    line_case (s - 1) (line_after of_shard.Collect) a.lines (shard_line a s) claims ends
    (λ line at. found (nat_eq s 0) (slice_get a.lines (s - 1)) line at)
    (λ line at c. record { now = c.now; past = c.past }) k
step_counts server a (Own Drain) b r claims ends sound cause k = k
step_counts server a (Own (Dial q)) b r claims ends sound cause k = k
step_counts server a (Own Accept) b r claims ends sound cause k = k
step_counts server a (Own (CutSession q)) b r claims ends sound cause k = k
step_counts server a (Own (TakeFrames q count)) b r claims ends sound cause k = k
step_counts server a (Receive frame) b r claims ends sound cause k = body_counts a frame frame.body claims ends k
step_counts server a (OnInfo q info) b r claims ends sound cause k = k
step_counts server a (OnConnect q connect) b r claims ends sound cause k = k

new_counts : (n first count place : ℕ) (line : ShardWithJobs)
    → slice_get (lines_from n first count) place ≡ Some line
    → (s : ℕ)
    → CountedLine s line [] []
new_counts n first zero place line e s = absurd (none-some line e)
new_counts n first (suc count) zero line e s =
    subst (λ (l : ShardWithJobs). CountedLine s l [] []) (same_Some _ line e)
    (record { now = λ t i lt. refl; past = λ x i f. absurd i })
new_counts n first (suc count) (suc place) line e s = new_counts n (suc first) count place line e s

run_counts : (server : ServerIdentity) (h : List Done) (a : Node)
    → IsListed server
    → Ran server h a
    → Counts a.lines (claims_of h) (ends_of h)
run_counts server [] a listed is =
    subst (λ (x : Node). Counts x.lines [] []) (sym is) (record {
      each = λ place line e. new_counts server.shards 1 server.shards place line e (suc place);
      all = λ x i. absurd i;
    })
run_counts server (d ∷ earlier) a listed ran =
    subst (λ (x : Node). Counts x.lines (claims_of (d ∷ earlier)) (ends_of (d ∷ earlier))) (sym ran.0.after)
    (step_counts server d.before d.event d.won d.race (claims_of earlier) (ends_of earlier)
    (run_sound server earlier d.before listed ran.1) ran.0.cause (run_counts server earlier d.before listed ran.1))

pub ended_turns_have_each_claim_once : (server : ServerIdentity) (h : List Done) (a : Node)
    → IsListed server
    → Ran server h a
    → EndedAll (claims_of h) (ends_of h)
ended_turns_have_each_claim_once server h a listed ran = (run_counts server h a listed ran).all
