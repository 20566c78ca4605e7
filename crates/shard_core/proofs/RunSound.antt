-- What a shard's fields keep where a run is delivered.
use Rattle.std.proofs.Common.{◌≡◌, ℕ, ◌+◌, ◌*◌, ◌^◌, ◌<◌, ◌≤◌, Bool, true, false, cond, List, [], ◌∷◌, length, map, filter, take}
use Rattle.std.proofs.Common.{Option, Some, None, refl, sym, ap, ◌∙◌, subst, arith}
use Rattle.std.specs.Prelude.{All}
use Rattle.std.proofs.lemmas.List.{length-take-le}
use Rattle.std.proofs.lemmas.List.Elements.{All-weaker, All-map}
use Rattle.sub_table.specs.declared.Subscription.{Subscription}
use Rattle.subj.specs.declared.jobs.Job.{Job}
use Rattle.subj.specs.declared.limits.TheConstants.{MAX_COUNTER}
use Rattle.shard_core.specs.Boxes.{Clients}
use Rattle.shard_core.specs.Held.{Held, IsNextTurn, IsPossible, ArePossible, IsSound, with_serial, most_counts, each_turn}
use Rattle.shard_core.specs.Lines.{Turns}
use Rattle.shard_core.specs.Opened.{Opened, part_of}
use Rattle.shard_core.specs.Owed.{is_due}
use Rattle.shard_core.specs.Runs.{client_with, run_entries, sub_with_run, times_due, index_after, delivered_run, DeliversRun}
use Rattle.shard_core.specs.RunSteps.{GoTogether, HasDelivered}
use Rattle.shard_core.specs.Shards.{State, Client}
use Rattle.shard_core.proofs.RunJobs.{turns_end}
use Rattle.shard_core.proofs.Steps.Kept.{sound}

few : {A : Type 0} (p : A → Bool) (xs : List A) → length (filter p xs) ≤ length xs
few p [] = omega arith
few p (x ∷ xs) = by (p x) (few p xs)
  where
    by : (b : Bool)
        → length (filter p xs) ≤ length xs
        → length (cond b (x ∷ filter p xs) (filter p xs)) ≤ length (x ∷ xs)
    by true below = omega (arith, below)
    by false below = omega (arith, below)

most_after : (delivered times finished last n : ℕ)
    → delivered ≤ finished * each_turn → times ≤ n → last ≡ finished + n → delivered + times ≤ last * each_turn
most_after delivered times finished last n were few end = omega (arith, were, few, end)

possible_run : (opened finished last : ℕ) (jobs : List Job) (subs : List Subscription)
    → last ≡ finished + length jobs
    → ArePossible opened (finished * each_turn) subs
    → ArePossible opened (last * each_turn) (map (sub_with_run jobs) subs)
possible_run opened finished last jobs subs end were =
    All-map (λ (sub : Subscription). IsPossible opened (last * each_turn) sub) (sub_with_run jobs) subs
    (All-weaker (λ (sub : Subscription). IsPossible opened (finished * each_turn) sub)
    (λ (sub : Subscription). IsPossible opened (last * each_turn) (sub_with_run jobs sub))
    (λ sub is. record {
      serial = is.serial;
      delivered =
          most_after sub.delivered (times_due jobs sub) finished last (length jobs) is.delivered
          (few (λ job. is_due job sub) jobs) end;
    }) subs were)

-- no job is in hand
idle_counts : (hand : Option Job) (chosen : Option Subscription) (finished next_index : ℕ)
    → hand ≡ None → most_counts hand chosen finished next_index ≡ finished * each_turn
idle_counts None chosen finished next_index e = refl
idle_counts (Some job) chosen finished next_index e = absurd (cc)

pub possible_idle : (s : State) (chosen : Option Subscription) (next : List Client)
    → IsSound s chosen next → s.hand ≡ None → ArePossible s.opened (s.finished * each_turn) s.subs
possible_idle s chosen next was idle =
    subst (λ n. ArePossible s.opened n s.subs) (idle_counts s.hand chosen s.finished s.next_index idle) was.possible

-- so many messages more can be counted for each subscription
pub can_count : (s : State) (chosen : Option Subscription) (next : List Client) (jobs : List Job) (last : ℕ)
    → IsSound s chosen next → s.hand ≡ None → Turns s.finished jobs last → last ≤ MAX_COUNTER
    → All (λ sub. sub.delivered + length jobs < 2 ^ 64) s.subs
can_count s chosen next jobs last was idle turns most =
    let end = turns_end s.finished last jobs turns in
    All-weaker (λ (sub : Subscription). IsPossible s.opened (s.finished * each_turn) sub)
    (λ (sub : Subscription). sub.delivered + length jobs < 2 ^ 64)
    (λ sub is. let few = is.delivered in omega (arith, few, end, most)) s.subs (possible_idle s chosen next was idle)

pub sound_delivered : (s : State) (chosen : Option Subscription) (next : List Client) (serial : Option ℕ)
    (conns : Clients) (openings : Opened) (jobs : List Job) (last : ℕ)
    → IsSound s chosen next
    → serial ≡ None
    → s.hand ≡ None
    → HasDelivered s jobs (part_of s) conns openings
    → Turns s.finished jobs last
    → last ≤ MAX_COUNTER
    → IsSound (record s {
      finished = last;
      next_index = 0;
      clients = conns.shown;
      subs = openings.subs;
      deltas = openings.deltas;
    })
    (with_serial serial openings.subs) conns.next
sound_delivered s chosen next serial conns openings jobs last was none idle done turns most =
    subst (λ (o : Opened).
    IsSound (record s { finished = last; next_index = 0; clients = conns.shown; subs = o.subs; deltas = o.deltas })
    (with_serial serial o.subs) conns.next)
    (sym done.openings_are)
    (subst (λ (c : Clients).
    IsSound (record s { finished = last; next_index = 0; clients = c.shown; subs = (delivered_run s jobs).subs })
    (with_serial serial (delivered_run s jobs).subs) c.next)
    (sym done.conns_are)
    (sound (record s {
      finished = last;
      next_index = 0;
      clients = (delivered_run s jobs).clients;
      subs = (delivered_run s jobs).subs;
    })
    serial (delivered_run s jobs).clients none
    (record { some = was.numbered.some; few = was.numbered.few; numbers = was.numbered.numbers; below = below })
    (record { last = most; tried = omega arith; turn = subst (IsNextTurn last) (sym idle) tt })
    (subst (λ h. ArePossible s.opened (most_counts h None last 0) (delivered_run s jobs).subs) (sym idle)
    (possible_run s.opened s.finished last jobs s.subs (turns_end s.finished last jobs turns)
    (possible_idle s chosen next was idle)))
    refl))
  where
    below : All (λ (client : Client). client.number < s.next_conn) (delivered_run s jobs).clients
    below =
        All-map (λ (client : Client). client.number < s.next_conn) (client_with (run_entries s jobs)) s.clients
        was.numbered.below

-- a job that ends leaves no queue name to be claimed
none_left : (index : ℕ) (jobs : List Job) → 0 < length jobs → 0 ≡ index_after index jobs
none_left index [] some = absurd (omega (arith, some))
none_left index (job ∷ jobs) some = refl

from_its_state : (s : State) (chosen : Option Subscription) (jobs : List Job) (count : ℕ) (first : Job) (last : ℕ)
    (conns : Clients) (openings : Opened) (serial : Option ℕ)
    → count ≤ length jobs
    → 0 < count
    → s.hand ≡ None
    → serial ≡ None
    → GoTogether first s.finished last (take count jobs)
    → HasDelivered s (take count jobs) (part_of s) conns openings
    → DeliversRun jobs count (record { state = s; chosen = chosen }) (record {
      state = record s {
        finished = last;
        next_index = 0;
        clients = conns.shown;
        subs = openings.subs;
        deltas = openings.deltas;
      };
      chosen = with_serial serial openings.subs;
    })
from_its_state s chosen jobs count first last conns openings serial few some idle none together done = record {
  few = few;
  none = λ e. absurd (omega (arith, e, some));
  can = λ _. record {
    hand = idle;
    turns = subst (Turns s.finished run) end together.turns;
    unnamed = λ job there. (together.alike job there).unnamed;
    numbers = done.numbers;
    serials = done.serials;
    receivers = done.receivers;
  };
  after = λ _.
      ap (λ (c : Clients). held last 0 c.shown openings serial) done.conns_are
      ∙ ap (λ (o : Opened). held last 0 (delivered_run s run).clients o serial) done.openings_are
      ∙ ap (λ (o : Option ℕ). held last 0 (delivered_run s run).clients delivered o) none
      ∙ ap (λ (n : ℕ). held n 0 (delivered_run s run).clients delivered None) end
      ∙ ap (λ (n : ℕ). held (s.finished + length run) n (delivered_run s run).clients delivered None)
      (none_left s.next_index run (subst (λ n. 0 < n) (sym (length-take-le count jobs few)) some));
}
  where
    run : List Job
    run = take count jobs

    delivered : Opened
    delivered = record (part_of s) { subs = (delivered_run s run).subs }

    held : ℕ → ℕ → List Client → Opened → Option ℕ → Held
    held finished next_index clients opened chosen_serial = record {
      state = record s {
        finished = finished;
        next_index = next_index;
        clients = clients;
        subs = opened.subs;
        deltas = opened.deltas;
      };
      chosen = with_serial chosen_serial opened.subs;
    }

    end : last ≡ s.finished + length run
    end = turns_end s.finished last run together.turns

-- the call does it
pub delivers_run : (s : State) (chosen : Option Subscription) (jobs run : List Job) (count : ℕ) (first : Job)
    (last : ℕ) (conns : Clients) (openings : Opened) (serial : Option ℕ) (old : Held)
    → (record { state = s; chosen = chosen }) ≡ old
    → run ≡ take count jobs
    → count ≤ length jobs
    → 0 < count
    → s.hand ≡ None
    → serial ≡ None
    → GoTogether first s.finished last (take count jobs)
    → HasDelivered s run (part_of s) conns openings
    → DeliversRun jobs count old (record {
      state = record s {
        finished = last;
        next_index = 0;
        clients = conns.shown;
        subs = openings.subs;
        deltas = openings.deltas;
      };
      chosen = with_serial serial openings.subs;
    })
delivers_run s chosen jobs run count first last conns openings serial old is taken few some idle none together done =
    subst (λ (o : Held).
    DeliversRun jobs count o (record {
      state = record s {
        finished = last;
        next_index = 0;
        clients = conns.shown;
        subs = openings.subs;
        deltas = openings.deltas;
      };
      chosen = with_serial serial openings.subs;
    }))
    is
    (from_its_state s chosen jobs count first last conns openings serial few some idle none together
    (subst (λ (l : List Job). HasDelivered s l (part_of s) conns openings) taken done))
