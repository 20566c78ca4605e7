-- What the code keeps of a walk follows each step of it.
use Rattle.std.proofs.Common.{◌≡◌, ℕ, ◌+◌, ◌<◌, ◌&&◌, Bool, true, false, cond, List, [], ◌∷◌, ◌++◌, length, map, filter, get_or, take, Option, Some, None, refl, sym, ap, ◌∙◌, subst, arith}
use Rattle.std.specs.Prelude.{is_none, if◌then◌else◌, All, Result, Ok, Err, OnOk}
use denote.Ref.{Bor}
use Rattle.std.proofs.lemmas.List.{take_more, map-append, get_or-map, length-map}
use Rattle.std.proofs.lemmas.List.Elements.{All-filter, All-get_or}
use Rattle.outbox.specs.Views.{Written, with_entry, with_last}
use Rattle.sub_table.specs.Subscriptions.{gets}
use Rattle.sub_table.specs.declared.Subscription.{Subscription}
use Rattle.subj.specs.declared.jobs.Job.{Job}
use Rattle.shard_core.specs.Shards.{State, Client, client_at, is_open, takes_headers, clients_with_change, fits}
use Rattle.shard_core.specs.Opened.{Opened, AreRising, AreApart, with_counts, with_closings}
use Rattle.shard_core.specs.Boxes.{Clients}
use Rattle.shard_core.specs.declared.calls.Begun.{Begun}
use Rattle.shard_core.specs.declared.calls.Placed.{Placed}
use Rattle.shard_core.specs.Puts.{put_line}
use Rattle.shard_core.proofs.Clients.Options.{option_kept}
use Rattle.shard_core.proofs.Closings.Ended.{given_apart, ended_apart}
use Rattle.shard_core.specs.Answers.{copies_of}
use Rattle.shard_core.specs.Closings.{serials_of, ended_ids}
use Rattle.sub_table.specs.Subscriptions.{serial_of}
use Rattle.shard_core.specs.Owed.{Walk, walk, whole_walk, first_step, walk_after_put, walk_with_entry, walk_with_shut, slow_consumer, due_entry, placed_for, owed_entry, owed_placed, is_plain, is_permitted, is_due}
use Rattle.shard_core.specs.Held.{shard_with}
use Rattle.shard_core.specs.Tallies.{Tallied, none_tallied, with_given, with_shut, tally_of, IsTallied, IsStaged, with_lines, HasPlaced, Follows, is_placed, put_if_due, walk_matching, lent_subs}

if_true : {A : Type 0} (b : Bool) (x y : A) → b ≡ true → (if b then x else y) ≡ x
if_true b x y e = ap (λ v. if v then x else y) e

if_false : {A : Type 0} (b : Bool) (x y : A) → b ≡ false → (if b then x else y) ≡ y
if_false b x y e = ap (λ v. if v then x else y) e

-- what two facts of a success give
pub both_ok : {T E P Q R : Type 0} (r : Result T E) → (P → Q → R) → OnOk r P → OnOk r Q → OnOk r R
both_ok (Ok x) both p q = both p q
both_ok (Err e) both p q = tt

-- ---- one step

pub put_nothing : (subs : List Subscription) (job : Job) (sub : Subscription) (next : List Client) (t : Tallied)
    → is_open sub.conn next ≡ false
    → Follows subs job (λ s w. walk_after_put s job w sub) next t next t
put_nothing subs job sub next t shut copies s w of is =
    subst (λ v. IsTallied copies s job v next t)
    (sym (if_false (is_open sub.conn w.clients) _ _ (sym (ap (is_open sub.conn) is.clients_are) ∙ shut))) is

copies_more : (copies : Bool) (shard : ℕ) (clients : List Client) (job : Job) (given : List Subscription)
    (sub : Subscription)
    → copies_of copies (map (owed_placed shard clients job None) given)
    ++ copies_of copies (owed_placed shard clients job None sub ∷ [])
    ≡ copies_of copies (map (owed_placed shard clients job None) (given ++ sub ∷ []))
copies_more true shard clients job given sub = sym (map-append (owed_placed shard clients job None) given (sub ∷ []))
copies_more false shard clients job given sub = refl

given_tally : (shard : ℕ) (clients : List Client) (copies : Bool) (job : Job) (w : Walk) (sub : Subscription)
    → with_given (owed_placed shard clients job None sub) sub (tally_of shard clients copies job w)
    ≡ tally_of shard clients copies job (walk_with_entry (owed_entry shard clients job None sub) sub w)
given_tally shard clients copies job w sub =
    let more = copies_more copies shard clients job w.given sub in
    let serials : serials_of w.given ++ sub.serial ∷ [] ≡ serials_of (w.given ++ sub ∷ []) =
    sym (map-append serial_of w.given (sub ∷ [])) in
    λ i. record (tally_of shard clients copies job (walk_with_entry (owed_entry shard clients job None sub) sub w)) {
      put = more i;
      given = serials i;
    }

-- a connection's option is that from before the walk
option_is : (copies : Bool) (s : State) (job : Job) (w : Walk) (next : List Client) (t : Tallied) (conn : ℕ)
    → IsTallied copies s job w next t
    → takes_headers conn next ≡ takes_headers conn s.clients
option_is copies s job w next t conn is = ap (takes_headers conn) is.clients_are ∙ is.options conn

pub put_given : (subs : List Subscription) (job : Job) (sub : Subscription) (next after : List Client) (t t2 : Tallied)
    (option : Bool)
    → is_open sub.conn next ≡ true
    → option ≡ takes_headers sub.conn next
    → fits (client_at sub.conn next) (due_entry t.shard option job None sub) ≡ true
    → after ≡ clients_with_change (with_entry (due_entry t.shard option job None sub)) sub.conn next
    → t2 ≡ with_given (placed_for t.shard option job None sub) sub t
    → Follows subs job (λ s w. walk_after_put s job w sub) next t after t2
put_given subs job sub next after t t2 option opened chosen room put noted copies s w of is =
    let shard : t.shard ≡ s.shard = ap (λ (x : Tallied). x.shard) is.tally_is in
    let same : option ≡ takes_headers sub.conn s.clients = chosen ∙ option_is copies s job w next t sub.conn is in
    let y : Written = owed_entry s.shard s.clients job None sub in
    let owed : due_entry t.shard option job None sub ≡ y = λ i. due_entry (shard i) (same i) job None sub in
    let placed : placed_for t.shard option job None sub ≡ owed_placed s.shard s.clients job None sub =
    λ i. placed_for (shard i) (same i) job None sub in
    let opens : is_open sub.conn w.clients ≡ true = sym (ap (is_open sub.conn) is.clients_are) ∙ opened in
    let has_room : fits (client_at sub.conn w.clients) y ≡ true =
    sym (ap (λ cs. fits (client_at sub.conn cs) y) is.clients_are)
    ∙ sym (ap (fits (client_at sub.conn next)) owed)
    ∙ room in
    let step : walk_after_put s job w sub ≡ walk_with_entry y sub w =
    if_true (is_open sub.conn w.clients) _ _ opens ∙ if_true (fits (client_at sub.conn w.clients) y) _ _ has_room in
    subst (λ v. IsTallied copies s job v after t2) (sym step) (record {
      clients_are =
          put
          ∙ ap (λ e. clients_with_change (with_entry e) sub.conn next) owed
          ∙ ap (clients_with_change (with_entry y) sub.conn) is.clients_are;
      tally_is =
          noted
          ∙ ap (λ p. with_given p sub t) placed
          ∙ ap (with_given (owed_placed s.shard s.clients job None sub) sub) is.tally_is
          ∙ given_tally s.shard s.clients copies job w sub;
      options = λ conn. option_kept (with_entry y) conn sub.conn w.clients ∙ is.options conn;
    })

pub put_shut : (subs : List Subscription) (job : Job) (sub : Subscription) (next after : List Client) (t t2 : Tallied)
    → is_open sub.conn next ≡ true
    → fits (client_at sub.conn next) (due_entry t.shard (takes_headers sub.conn next) job None sub) ≡ false
    → after ≡ clients_with_change (with_last slow_consumer) sub.conn next
    → t2 ≡ with_shut subs sub.conn t
    → Follows subs job (λ s w. walk_after_put s job w sub) next t after t2
put_shut subs job sub next after t t2 opened room put noted copies s w of is =
    let shard : t.shard ≡ s.shard = ap (λ (x : Tallied). x.shard) is.tally_is in
    let same = option_is copies s job w next t sub.conn is in
    let y : Written = owed_entry s.shard s.clients job None sub in
    let owed : due_entry t.shard (takes_headers sub.conn next) job None sub ≡ y =
    λ i. due_entry (shard i) (same i) job None sub in
    let opens : is_open sub.conn w.clients ≡ true = sym (ap (is_open sub.conn) is.clients_are) ∙ opened in
    let no_room : fits (client_at sub.conn w.clients) y ≡ false =
    sym (ap (λ cs. fits (client_at sub.conn cs) y) is.clients_are)
    ∙ sym (ap (fits (client_at sub.conn next)) owed)
    ∙ room in
    let step : walk_after_put s job w sub ≡ walk_with_shut s.subs sub.conn w =
    if_true (is_open sub.conn w.clients) _ _ opens ∙ if_false (fits (client_at sub.conn w.clients) y) _ _ no_room in
    subst (λ v. IsTallied copies s job v after t2) (sym step) (record {
      clients_are = put ∙ ap (clients_with_change (with_last slow_consumer) sub.conn) is.clients_are;
      tally_is = noted ∙ ap (λ l. with_shut l sub.conn t) (sym of) ∙ ap (with_shut s.subs sub.conn) is.tally_is;
      options = λ conn. option_kept (with_last slow_consumer) conn sub.conn w.clients ∙ is.options conn;
    })

pub plain_is : (sub : Subscription) → is_plain sub ≡ true → sub.key.queue ≡ None
plain_is sub e = by sub.key.queue e where
  by : (q : Option (List ℕ)) → is_none q ≡ true → q ≡ None
  by None f = refl
  by (Some name) f = absurd (cc)

-- ---- one that matches

pub passed_over : (subs : List Subscription) (job : Job) (sub : Subscription) (next : List Client) (t : Tallied)
    → (is_plain sub && is_permitted job sub) ≡ false
    → Follows subs job (λ s w. put_if_due s job w sub) next t next t
passed_over subs job sub next t out copies s w of is =
    subst (λ v. IsTallied copies s job v next t) (sym (if_false (is_plain sub && is_permitted job sub) _ _ out)) is

pub put_as_due : (subs : List Subscription) (job : Job) (sub : Subscription) (next after : List Client) (t t2 : Tallied)
    → (is_plain sub && is_permitted job sub) ≡ true
    → Follows subs job (λ s w. walk_after_put s job w sub) next t after t2
    → Follows subs job (λ s w. put_if_due s job w sub) next t after t2
put_as_due subs job sub next after t t2 due step copies s w of is =
    subst (λ v. IsTallied copies s job v after t2) (sym (if_true (is_plain sub && is_permitted job sub) _ _ due))
    (step copies s w of is)

-- ---- all of them

-- what holds of all holds of each that matches
pub holds_of_all : (P : Subscription → Type 0) (q : Subscription → Bool) (looks : List (Bor Subscription))
    (subs : List Subscription)
    → lent_subs looks ≡ filter q subs
    → All P subs
    → All P (lent_subs looks)
holds_of_all P q looks subs is all = subst (All P) (sym is) (All-filter q P subs all)

pub holds_at : (P : Subscription → Type 0) (looks : List (Bor Subscription)) (i : ℕ) (d : Bor Subscription)
    → All P (lent_subs looks)
    → i < length looks
    → P (get_or looks i d).now
holds_at P looks i d each within =
    subst P (get_or-map (λ (x : Bor Subscription). x.now) looks i d d.now within)
    (All-get_or P (lent_subs looks) i d.now (omega (arith, length-map looks (λ (x : Bor Subscription). x.now))) each)

walk_more : (s : State) (job : Job) (subs : List Subscription) (sub : Subscription) (w : Walk)
    → walk_matching s job (subs ++ sub ∷ []) w ≡ put_if_due s job (walk_matching s job subs w) sub
walk_more s job [] sub w = refl
walk_more s job (u ∷ subs) sub w = walk_more s job subs sub (put_if_due s job w u)

-- as far as a walk has come, and one step more
pub walk_one_more : (subs : List Subscription) (job : Job) (matching : List Subscription) (i : ℕ) (d : Subscription)
    (first next after : List Client) (t0 t t2 : Tallied)
    → i < length matching
    → Follows subs job (λ s w. walk_matching s job (take i matching) w) first t0 next t
    → Follows subs job (λ s w. put_if_due s job w (get_or matching i d)) next t after t2
    → Follows subs job (λ s w. walk_matching s job (take (i + 1) matching) w) first t0 after t2
walk_one_more subs job matching i d first next after t0 t t2 within so_far step copies s w of is =
    subst (λ v. IsTallied copies s job v after t2)
    (sym (ap (λ l. walk_matching s job l w) (take_more matching i d within)
    ∙ walk_more s job (take i matching) (get_or matching i d) w))
    (step copies s (walk_matching s job (take i matching) w) of (so_far copies s w of is))

pub walk_on : (subs : List Subscription) (job : Job) (matching : List (Bor Subscription)) (i : ℕ) (d : Bor Subscription)
    (first next after : List Client) (t0 t t2 : Tallied)
    → i < length matching
    → Follows subs job (λ s w. walk_matching s job (lent_subs (take i matching)) w) first t0 next t
    → Follows subs job (λ s w. put_if_due s job w (get_or matching i d).now) next t after t2
    → Follows subs job (λ s w. walk_matching s job (lent_subs (take (i + 1) matching)) w) first t0 after t2
walk_on subs job matching i d first next after t0 t t2 within so_far step copies s w of is =
    let more : lent_subs (take (i + 1) matching) ≡ lent_subs (take i matching) ++ (get_or matching i d).now ∷ [] =
    ap lent_subs (take_more matching i d within)
    ∙ map-append (λ (x : Bor Subscription). x.now) (take i matching) (get_or matching i d ∷ []) in
    subst (λ v. IsTallied copies s job v after t2)
    (sym (ap (λ l. walk_matching s job l w) more
    ∙ walk_more s job (lent_subs (take i matching)) (get_or matching i d).now w))
    (step copies s (walk_matching s job (lent_subs (take i matching)) w) of (so_far copies s w of is))

-- the walk over what matches is the walk over what is due
pub walk_of_matching : (s : State) (job : Job) (subs : List Subscription) (w : Walk)
    → walk_matching s job (filter (gets job.message.subject) subs) w ≡ walk s job (filter (is_due job) subs) w
walk_of_matching s job [] w = refl
walk_of_matching s job (sub ∷ subs) w =
    by (gets job.message.subject sub) (is_plain sub) (is_permitted job sub) refl refl (walk_of_matching s job subs)
  where
    by : (g p q : Bool)
        → is_plain sub ≡ p
        → is_permitted job sub ≡ q
        → ((v : Walk)
        → walk_matching s job (filter (gets job.message.subject) subs) v ≡ walk s job (filter (is_due job) subs) v)
        → walk_matching s job
        (cond g (sub ∷ filter (gets job.message.subject) subs) (filter (gets job.message.subject) subs)) w
        ≡ walk s job (cond (p && (g && q)) (sub ∷ filter (is_due job) subs) (filter (is_due job) subs)) w
    by true true true e f more =
        ap (walk_matching s job (filter (gets job.message.subject) subs))
        (if_true (is_plain sub && is_permitted job sub) _ _ (ap (λ b. b && is_permitted job sub) e ∙ f))
        ∙ more (walk_after_put s job w sub)
    by true true false e f more =
        ap (walk_matching s job (filter (gets job.message.subject) subs))
        (if_false (is_plain sub && is_permitted job sub) _ _ (ap (λ b. b && is_permitted job sub) e ∙ f))
        ∙ more w
    by true false q e f more =
        ap (walk_matching s job (filter (gets job.message.subject) subs))
        (if_false (is_plain sub && is_permitted job sub) _ _ (ap (λ b. b && is_permitted job sub) e))
        ∙ more w
    by false true q e f more = more w
    by false false q e f more = more w

-- a walk over what is not due
nothing_put : (s : State) (job : Job) (subs : List Subscription) (w : Walk)
    → filter (is_placed job) subs ≡ []
    → walk_matching s job subs w ≡ w
nothing_put s job [] w none = refl
nothing_put s job (sub ∷ subs) w none = by (is_placed job sub) refl none (nothing_put s job subs) where
  by : (b : Bool)
      → is_placed job sub ≡ b
      → cond b (sub ∷ filter (is_placed job) subs) (filter (is_placed job) subs) ≡ []
      → ((v : Walk) → filter (is_placed job) subs ≡ [] → walk_matching s job subs v ≡ v)
      → walk_matching s job subs (put_if_due s job w sub) ≡ w
  by true e some more = absurd (cc)
  by false e rest more = ap (walk_matching s job subs) (if_false (is_placed job sub) _ _ e) ∙ more w rest

pub walk_of_none_due : (subs : List Subscription) (job : Job) (matching : List Subscription) (next : List Client)
    (t : Tallied)
    → filter (is_placed job) matching ≡ []
    → Follows subs job (λ s w. walk_matching s job matching w) next t next t
walk_of_none_due subs job matching next t none copies s w of is =
    subst (λ v. IsTallied copies s job v next t) (sym (nothing_put s job matching w none)) is

pub walk_of_none : (subs : List Subscription) (job : Job) (looks : List (Bor Subscription)) (next : List Client)
    (t : Tallied)
    → filter (is_placed job) (lent_subs looks) ≡ []
    → Follows subs job (λ s w. walk_matching s job (lent_subs looks) w) next t next t
walk_of_none subs job looks next t none = walk_of_none_due subs job (lent_subs looks) next t none

pub walk_whole : (subs : List Subscription) (job : Job) (looks : List (Bor Subscription)) (first next : List Client)
    (t0 t : Tallied)
    → lent_subs looks ≡ filter (gets job.message.subject) subs
    → Follows subs job (λ s w. walk_matching s job (lent_subs looks) w) first t0 next t
    → Follows subs job (λ s w. walk s job (filter (is_due job) s.subs) w) first t0 next t
walk_whole subs job looks first next t0 t matching walked copies s w of is =
    subst (λ v. IsTallied copies s job v next t)
    (ap (λ l. walk_matching s job l w) matching ∙ walk_of_matching s job subs w
    ∙ ap (λ l. walk s job (filter (is_due job) l) w) (sym of))
    (walked copies s w of is)

-- ---- a walk from its start

no_copies : (copies : Bool) → copies_of copies [] ≡ []
no_copies true = refl
no_copies false = refl

pub walk_staged : (subs : List Subscription) (job : Job) (next shown after : List Client) (t t2 : Tallied)
    → Follows subs job (λ s w. walk s job (filter (is_due job) s.subs) w) next t after t2
    → next ≡ shown
    → t ≡ none_tallied t.shard t.copies
    → (s : State)
    → s.shard ≡ t.shard
    → s.subs ≡ subs
    → s.clients ≡ shown
    → IsTallied t.copies s job (whole_walk s job) after t2
walk_staged subs job next shown after t t2 follows settled none s shard of clients =
    follows t.copies s (first_step s.clients) of (record {
      clients_are = settled ∙ sym clients;
      tally_is =
          none
          ∙ ap (λ n. none_tallied n t.copies) (sym shard)
          ∙ (λ i. record (none_tallied s.shard t.copies) { put = sym (no_copies t.copies) i });
      options = λ conn. refl;
    })

pub staged_shard : (subs : List Subscription) (job : Job) (next shown after : List Client) (t t2 : Tallied)
    → Follows subs job (λ s w. walk s job (filter (is_due job) s.subs) w) next t after t2
    → next ≡ shown
    → t ≡ none_tallied t.shard t.copies
    → t2.shard ≡ t.shard
staged_shard subs job next shown after t t2 follows settled none =
    ap (λ (x : Tallied). x.shard)
    (walk_staged subs job next shown after t t2 follows settled none (shard_with t.shard shown subs) refl refl
    refl).tally_is

pub staged_given : (subs : List Subscription) (job : Job) (next shown after : List Client) (t t2 : Tallied)
    → Follows subs job (λ s w. walk s job (filter (is_due job) s.subs) w) next t after t2
    → next ≡ shown
    → t ≡ none_tallied t.shard t.copies
    → AreRising subs
    → AreApart t2.given
staged_given subs job next shown after t t2 follows settled none rising =
    let s = shard_with t.shard shown subs in
    subst AreApart
    (sym (ap (λ (x : Tallied). x.given)
    (walk_staged subs job next shown after t t2 follows settled none s refl refl refl).tally_is))
    (given_apart s job rising)

pub staged_ended : (subs : List Subscription) (job : Job) (next shown after : List Client) (t t2 : Tallied)
    → Follows subs job (λ s w. walk s job (filter (is_due job) s.subs) w) next t after t2
    → next ≡ shown
    → t ≡ none_tallied t.shard t.copies
    → AreRising subs
    → AreApart t2.ended
staged_ended subs job next shown after t t2 follows settled none rising =
    let s = shard_with t.shard shown subs in
    subst AreApart
    (sym (ap (λ (x : Tallied). x.ended)
    (walk_staged subs job next shown after t t2 follows settled none s refl refl refl).tally_is))
    (ended_apart s job rising)

-- and the last lines behind it
pub all_staged : (copies : Bool) (s : State) (job : Job) (next : List Client) (t last : Tallied)
    → IsTallied copies s job (whole_walk s job) next t
    → last ≡ with_lines t
    → IsStaged copies s job next last
all_staged copies s job next t last is lines = record {
  clients_are = is.clients_are;
  tally_is = lines ∙ ap with_lines is.tally_is;
}

-- ---- a walk that is shown

copies_behind : (copies : Bool) (xs ys : List Placed)
    → copies_of copies xs ++ copies_of copies ys ≡ copies_of copies (xs ++ ys)
copies_behind true xs ys = refl
copies_behind false xs ys = refl

pub has_placed : (job : Job) (copies : Bool) (s : State) (t : Tallied) (next : List Client) (conns : Clients)
    (openings mid last : Opened) (begun : Begun)
    → IsStaged copies s job next t
    → conns ≡ record { shown = next; next = next }
    → mid ≡ with_counts t.given openings
    → last ≡ with_closings t.ended mid
    → begun.given ≡ length t.given
    → begun.put.items ≡ t.put
    → begun.closed.items ≡ t.shut
    → begun.ended.items ≡ ended_ids s.shard t.ended
    → HasPlaced copies s job openings begun conns last
has_placed job copies s t next conns openings mid last begun is shown counts closes count put shut ended =
    let w = whole_walk s job in
    record {
      conns = shown ∙ ap (λ (l : List Client). record { shown = l; next = l }) is.clients_are;
      openings_are =
          closes
          ∙ ap (λ (x : Tallied). with_closings x.ended mid) is.tally_is
          ∙ ap (with_closings w.ended) (counts ∙ ap (λ (x : Tallied). with_counts x.given openings) is.tally_is);
      told = record {
        given = count ∙ ap (λ (x : Tallied). length x.given) is.tally_is ∙ length-map w.given serial_of;
        put =
            put
            ∙ ap (λ (x : Tallied). x.put) is.tally_is
            ∙ copies_behind copies (map (owed_placed s.shard s.clients job None) w.given)
            (map (put_line slow_consumer) w.shut);
        closed = shut ∙ ap (λ (x : Tallied). x.shut) is.tally_is;
        ended = ended ∙ ap (λ (x : Tallied). ended_ids s.shard x.ended) is.tally_is;
      };
    }
