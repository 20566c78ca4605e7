-- The tape of a run leads to the run's states, and has the lists of its answers.
use Rattle.std.proofs.Common.{◌≡◌, Bool, true, cond, List, [], ◌∷◌, ◌++◌, refl, sym, ap, ◌∙◌}
use Rattle.shard_core.specs.ShardEvents as of_shard
use Rattle.shard_core.specs.ShardSteps.{IsDone, shard_after, shard_answer}
use Rattle.shard_core.specs.Shards.{State}
use Rattle.node_threads.specs.Logs.{Made, Did, WasRefused, Logs}
use Rattle.node_threads.specs.Steps.{Done}
use Rattle.node_threads.specs.Tapes.{entries_of, entry_of, refused_entry, told_of}
use Rattle.node_threads.specs.declared.shard_entries.ShardEntry.{ShardEntry}
use Rattle.thread_report.specs.ShardAnswers.{asked, is_made, lists_at, lists_of, no_lists, state_after, state_behind}

asked_of : (e : of_shard.Event) (a : of_shard.Answer) → asked (entry_of e a).event ≡ e
asked_of of_shard.Attach a = refl
asked_of (of_shard.Subscribe conn key sid) a = refl
asked_of (of_shard.Unsubscribe conn sid max) a = refl
asked_of (of_shard.Reply conn frame) a = refl
asked_of (of_shard.SetHeaders conn on) a = refl
asked_of (of_shard.Shut conn text) a = refl
asked_of (of_shard.Detach conn) a = refl
asked_of (of_shard.Take conn count) a = refl
asked_of (of_shard.Begin job) a = refl
asked_of (of_shard.Claim index won) a = refl
asked_of of_shard.End a = refl
asked_of (of_shard.DropJob waiting) a = refl
asked_of of_shard.Drain a = refl
asked_of of_shard.Collect a = refl

told_made : (a : of_shard.Answer) → is_made (told_of a) ≡ true
told_made (of_shard.Attached conn) = refl
told_made (of_shard.Opened sub) = refl
told_made of_shard.AlreadyOpen = refl
told_made (of_shard.Unsubscribed ended) = refl
told_made (of_shard.Replied shut ended) = refl
told_made of_shard.HeadersSet = refl
told_made (of_shard.WasShut ended) = refl
told_made (of_shard.Detached ended) = refl
told_made (of_shard.Taken entries) = refl
told_made (of_shard.Began placed closed ended) = refl
told_made of_shard.Nobody = refl
told_made of_shard.Lost = refl
told_made (of_shard.Won sub placed ended) = refl
told_made of_shard.Finished = refl
told_made (of_shard.Dropped job) = refl
told_made of_shard.Drains = refl
told_made (of_shard.Collected deltas) = refl

was_made : (e : of_shard.Event) (a : of_shard.Answer) → is_made (entry_of e a).told ≡ true
was_made of_shard.Attach a = told_made a
was_made (of_shard.Subscribe conn key sid) a = told_made a
was_made (of_shard.Unsubscribe conn sid max) a = told_made a
was_made (of_shard.Reply conn frame) a = told_made a
was_made (of_shard.SetHeaders conn on) a = told_made a
was_made (of_shard.Shut conn text) a = told_made a
was_made (of_shard.Detach conn) a = told_made a
was_made (of_shard.Take conn count) a = told_made a
was_made (of_shard.Begin job) a = refl
was_made (of_shard.Claim index won) a = refl
was_made of_shard.End a = refl
was_made (of_shard.DropJob waiting) a = told_made a
was_made of_shard.Drain a = told_made a
was_made of_shard.Collect a = refl

behind_made : (s : State) (e : of_shard.Event) (a : of_shard.Answer)
    → state_behind s (entry_of e a) ≡ shard_after s e
behind_made s e a = λ k. cond (was_made e a k) (shard_after s (asked_of e a k)) s

lists_made : (s : State) (e : of_shard.Event) (a : of_shard.Answer)
    → lists_at s (entry_of e a) ≡ lists_of (shard_answer s e)
lists_made s e a = λ k. cond (was_made e a k) (lists_of (shard_answer s (asked_of e a k))) no_lists

state_after_snoc : (s : State) (xs : List ShardEntry) (x : ShardEntry)
    → state_after s (xs ++ x ∷ []) ≡ state_behind (state_after s xs) x
state_after_snoc s [] x = refl
state_after_snoc s (y ∷ ys) x = state_after_snoc (state_behind s y) ys x

pub states_led : (from to : State) (log : List Made) → Logs from log to → state_after from (entries_of log) ≡ to
states_led from to [] l = sym l
states_led from to (Did d ∷ earlier) l =
    let entry = entry_of d.event d.answer in
    state_after_snoc from (entries_of earlier) entry
    ∙ ap (λ s. state_behind s entry) (states_led from d.before earlier l.1)
    ∙ behind_made d.before d.event d.answer
    ∙ sym l.0.after
states_led from to (WasRefused before event why ∷ earlier) l =
    let entry = refused_entry event why in
    state_after_snoc from (entries_of earlier) entry
    ∙ ap (λ s. state_behind s entry) (states_led from before earlier l.2)
    ∙ sym l.1

pub lists_answered : (d : Done) (to : State)
    → IsDone d.before d.event d.answer to
    → lists_at d.before (entry_of d.event d.answer) ≡ lists_of d.answer
lists_answered d to done = lists_made d.before d.event d.answer ∙ ap (λ a. lists_of a) (sym done.answered)
