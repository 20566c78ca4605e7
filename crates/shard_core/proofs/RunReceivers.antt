-- A run by receivers: connection after connection, and subscription after subscription.
use Rattle.std.proofs.Common.{◌≡◌, ◌≢◌, ℕ, ◌+◌, Bool, true, false, true≢false, cond, List, [], ◌∷◌, ◌++◌, length}
use Rattle.std.proofs.Common.{map, filter, refl, sym, ap, ◌∙◌, subst, inl, inr, ⊎_elim, arith}
use Rattle.std.specs.Prelude.{nat_eq, ◌||◌}
use Rattle.std.specs.List.{flat_map, list_any}
use Rattle.list_laws.specs.Lists.{In, Each}
use Rattle.list_laws.proofs.Lists.{in_map}
use Rattle.list_laws.proofs.Changes.{map_map, map_same, append_nil, in_filter, in_mapped}
use Rattle.list_laws.proofs.Tests.{eq_true, true_eq, false_eq, has_in, in_has}
use Rattle.outbox.specs.Views.{Written}
use Rattle.sub_table.specs.Subscriptions.{is_of, serial_of}
use Rattle.sub_table.specs.declared.Subscription.{Subscription}
use Rattle.subj.specs.declared.jobs.Job.{Job}
use Rattle.shard_core.specs.Closings.{serials_of}
use Rattle.shard_core.specs.Opened.{AreApart}
use Rattle.shard_core.specs.Owed.{is_due, sub_with_count}
use Rattle.shard_core.specs.Shards.{State, Client}
use Rattle.shard_core.specs.Runs.{job_entries, run_entries, client_with, times_due, sub_with_run, numbers_of}
use Rattle.shard_core.specs.RunReceivers.{clients_by_conns, AreConnsOf, RunsGoByConns, sub_with_more}
use Rattle.shard_core.specs.RunReceivers.{CountsGoOn, subs_by_receivers, RunsCountByReceivers}
use Rattle.shard_core.proofs.RunEntries.{only, with_same, with_twice, with_none, apart_with, change_to_one}
use Rattle.shard_core.proofs.RunCounts.{recounted, with_count, map_same_in, one_serial}
use Rattle.shard_core.proofs.Runs.{owed}

-- ---- nothing for others

no_true : (b : Bool) → (b ≡ true → ⊥) → b ≡ false
no_true true never = absurd (never refl)
no_true false never = refl

pub none_of : {A : Type 0} (p : A → Bool) (xs : List A) → ((x : A) → In x xs → p x ≡ false) → filter p xs ≡ []
none_of p [] never = refl
none_of p (x ∷ xs) never =
    ap (λ b. cond b (x ∷ filter p xs) (filter p xs)) (never x (inl refl))
    ∙ none_of p xs (λ y there. never y (inr there))

flat_none : {A B : Type 0} (f : A → List B) (xs : List A) → ((x : A) → In x xs → f x ≡ []) → flat_map f xs ≡ []
flat_none f [] never = refl
flat_none f (x ∷ xs) never =
    ap (λ l. l ++ flat_map f xs) (never x (inl refl)) ∙ flat_none f xs (λ y there. never y (inr there))

-- a connection of no receiver gets nothing
none_for_others : (s : State) (jobs : List Job) (conns : List ℕ) → AreConnsOf s.subs jobs conns
    → (n : ℕ) → list_any (nat_eq n) conns ≡ false → run_entries s jobs n ≡ []
none_for_others s jobs conns are n out =
    flat_none (job_entries s n) jobs
    (λ job there. ap (map (owed s job)) (none_of (is_of n) (filter (is_due job) s.subs)
    (λ sub inside. false_eq sub.conn n (λ same. not_his job there sub inside same))))
  where
    not_his : (job : Job) → In job jobs → (sub : Subscription) → In sub (filter (is_due job) s.subs) → sub.conn ≢ n
    not_his job there sub inside same =
        let found = in_filter (is_due job) s.subs sub inside in
        let here : In n conns = subst (λ k. In k conns) same (are job there sub found.0 found.1) in
        true≢false (sym (in_has n conns here) ∙ out)

-- ---- by connections

-- what these connections get of the entries
abbrev pub chosen : (ℕ → List Written) → List ℕ → ℕ → List Written
chosen entries conns n = cond (list_any (nat_eq n) conns) (entries n) []

chosen_first : (entries : ℕ → List Written) (conn : ℕ) (conns : List ℕ) → Each (λ n. conn ≢ n) conns
    → (n : ℕ) → only conn (entries conn) n ++ chosen entries conns n ≡ chosen entries (conn ∷ conns) n
chosen_first entries conn conns apart n = by (nat_eq n conn) refl (list_any (nat_eq n) conns) refl
  where
    by : (b : Bool) → nat_eq n conn ≡ b → (c : Bool) → list_any (nat_eq n) conns ≡ c
        → cond b (entries conn) [] ++ cond c (entries n) [] ≡ cond (b || c) (entries n) []
    by true e true f = absurd (apart n (has_in n conns f) (sym (eq_true n conn e)))
    by true e false f = append_nil (entries conn) ∙ ap entries (sym (eq_true n conn e))
    by false e true f = refl
    by false e false f = refl

by_conns : (entries : ℕ → List Written) (conns : List ℕ) (clients : List Client)
    → AreApart (numbers_of clients) → AreApart conns
    → clients_by_conns entries conns clients ≡ map (client_with (chosen entries conns)) clients
by_conns entries [] clients numbers apart = sym (with_none clients)
by_conns entries (conn ∷ conns) clients numbers apart =
    ap (clients_by_conns entries conns) (change_to_one conn (entries conn) clients numbers)
    ∙ by_conns entries conns (map (client_with (only conn (entries conn))) clients)
    (apart_with (only conn (entries conn)) clients numbers) apart.1
    ∙ with_twice (only conn (entries conn)) (chosen entries conns) clients
    ∙ with_same (λ n. only conn (entries conn) n ++ chosen entries conns n) (chosen entries (conn ∷ conns))
    (chosen_first entries conn conns apart.0) clients

all_chosen : (entries : ℕ → List Written) (conns : List ℕ)
    → ((n : ℕ) → list_any (nat_eq n) conns ≡ false → entries n ≡ []) → (n : ℕ) → chosen entries conns n ≡ entries n
all_chosen entries conns none n = by (list_any (nat_eq n) conns) refl
  where
    by : (b : Bool) → list_any (nat_eq n) conns ≡ b → cond b (entries n) [] ≡ entries n
    by true e = refl
    by false e = sym (none n e)

pub runs_go_by_conns : RunsGoByConns
runs_go_by_conns s jobs conns numbers apart are =
    by_conns (run_entries s jobs) conns s.clients numbers apart
    ∙ with_same (chosen (run_entries s jobs) conns) (run_entries s jobs)
    (all_chosen (run_entries s jobs) conns (none_for_others s jobs conns are)) s.clients

-- ---- by subscriptions

-- a subscription that is counted for one more, where it has the serial
one_more : (serial count : ℕ) (x : Subscription)
    → sub_with_count (serial ∷ []) (sub_with_more serial count x) ≡ sub_with_more serial (count + 1) x
one_more serial count x = by (nat_eq x.serial serial) refl
  where
    by : (b : Bool) → nat_eq x.serial serial ≡ b
        → sub_with_count (serial ∷ []) (cond b (record x { delivered = x.delivered + count }) x)
        ≡ cond b (record x { delivered = x.delivered + (count + 1) }) x
    by true e =
        ap (λ b. cond (b || false) (record x { delivered = (x.delivered + count) + 1 })
        (record x { delivered = x.delivered + count })) e
        ∙ with_count x ((x.delivered + count) + 1) (x.delivered + (count + 1)) (omega arith)
    by false e = ap (λ b. cond (b || false) (record x { delivered = x.delivered + 1 }) x) e

none_more : (serial : ℕ) (subs : List Subscription) → map (sub_with_more serial 0) subs ≡ subs
none_more serial [] = refl
none_more serial (x ∷ xs) = λ i. by (nat_eq x.serial serial) i ∷ none_more serial xs i
  where
    by : (b : Bool) → cond b (record x { delivered = x.delivered + 0 }) x ≡ x
    by true = with_count x (x.delivered + 0) x.delivered (omega arith)
    by false = refl

pub counts_go_on : (serial : ℕ) (subs : List Subscription) → CountsGoOn serial subs
counts_go_on serial subs = record {
  none = none_more serial subs;
  more = λ count.
      map_map (sub_with_more serial count) (sub_with_count (serial ∷ [])) subs
      ∙ map_same (λ x. sub_with_count (serial ∷ []) (sub_with_more serial count x)) (sub_with_more serial (count + 1))
      subs (one_more serial count);
}

-- how many messages these receivers are counted for under a serial
amount : List Job → List Subscription → ℕ → ℕ
amount jobs [] k = 0
amount jobs (r ∷ rs) k = cond (nat_eq k r.serial) (times_due jobs r) 0 + amount jobs rs k

-- with so many more
abbrev counted_for : List Job → List Subscription → Subscription → Subscription
counted_for jobs receivers x = recounted (λ y. y.delivered + amount jobs receivers y.serial) x

more_first : (jobs : List Job) (r : Subscription) (rs : List Subscription) (x : Subscription)
    → counted_for jobs rs (sub_with_more r.serial (times_due jobs r) x) ≡ counted_for jobs (r ∷ rs) x
unfolding amount
more_first jobs r rs x = by (nat_eq x.serial r.serial)
  where
    by : (b : Bool)
        → counted_for jobs rs (cond b (record x { delivered = x.delivered + times_due jobs r }) x)
        ≡ (record x { delivered = x.delivered + (cond b (times_due jobs r) 0 + amount jobs rs x.serial) })
    by true =
        with_count x ((x.delivered + times_due jobs r) + amount jobs rs x.serial)
        (x.delivered + (times_due jobs r + amount jobs rs x.serial)) (omega arith)
    by false =
        with_count x (x.delivered + amount jobs rs x.serial) (x.delivered + (0 + amount jobs rs x.serial)) (omega arith)

nothing_more : (jobs : List Job) (subs : List Subscription) → subs ≡ map (counted_for jobs []) subs
unfolding amount
nothing_more jobs [] = refl
nothing_more jobs (x ∷ xs) = λ i. with_count x x.delivered (x.delivered + 0) (omega arith) i ∷ nothing_more jobs xs i

by_receivers : (jobs : List Job) (receivers subs : List Subscription)
    → subs_by_receivers jobs receivers subs ≡ map (counted_for jobs receivers) subs
by_receivers jobs [] subs = nothing_more jobs subs
by_receivers jobs (r ∷ rs) subs =
    by_receivers jobs rs (map (sub_with_more r.serial (times_due jobs r)) subs)
    ∙ map_map (sub_with_more r.serial (times_due jobs r)) (counted_for jobs rs) subs
    ∙ map_same (λ x. counted_for jobs rs (sub_with_more r.serial (times_due jobs r) x)) (counted_for jobs (r ∷ rs)) subs
    (more_first jobs r rs)

-- a serial of none of them
none_under : (jobs : List Job) (receivers : List Subscription) (k : ℕ)
    → (In k (serials_of receivers) → ⊥) → amount jobs receivers k ≡ 0
unfolding amount
none_under jobs [] k never = refl
none_under jobs (r ∷ rs) k never =
    ap (λ b. cond b (times_due jobs r) 0 + amount jobs rs k) (false_eq k r.serial (λ same. never (inl same)))
    ∙ zero_more (amount jobs rs k) (none_under jobs rs k (λ there. never (inr there)))
  where
    zero_more : (n : ℕ) → n ≡ 0 → 0 + n ≡ 0
    zero_more n e = omega arith

-- the serial of one of them
its_own : (jobs : List Job) (receivers : List Subscription) (r : Subscription) → AreApart (serials_of receivers)
    → In r receivers → amount jobs receivers r.serial ≡ times_due jobs r
unfolding amount
its_own jobs [] r apart there = absurd there
its_own jobs (q ∷ rs) r apart there =
    ⊎_elim (λ (same : r ≡ q). here same) (λ (later : In r rs). behind later (its_own jobs rs r apart.1 later)) there
  where
    alone : (n m : ℕ) → m ≡ 0 → n + m ≡ n
    alone n m e = omega arith

    none_first : (m : ℕ) → 0 + m ≡ m
    none_first m = omega arith

    here : r ≡ q → cond (nat_eq r.serial q.serial) (times_due jobs q) 0 + amount jobs rs r.serial ≡ times_due jobs r
    here same =
        let serial : r.serial ≡ q.serial = ap serial_of same in
        ap (λ b. cond b (times_due jobs q) 0 + amount jobs rs r.serial) (true_eq r.serial q.serial serial)
        ∙ alone (times_due jobs q) (amount jobs rs r.serial)
        (none_under jobs rs r.serial (λ inside. apart.0 r.serial inside (sym serial)))
        ∙ ap (times_due jobs) (sym same)

    behind : In r rs → amount jobs rs r.serial ≡ times_due jobs r
        → cond (nat_eq r.serial q.serial) (times_due jobs q) 0 + amount jobs rs r.serial ≡ times_due jobs r
    behind later below =
        ap (λ b. cond b (times_due jobs q) 0 + amount jobs rs r.serial)
        (false_eq r.serial q.serial (λ same. apart.0 r.serial (in_mapped serial_of rs r later) (sym same)))
        ∙ none_first (amount jobs rs r.serial) ∙ below

pub runs_count_by_receivers : RunsCountByReceivers
runs_count_by_receivers s jobs receivers serials apart known are =
    by_receivers jobs receivers s.subs
    ∙ map_same_in (counted_for jobs receivers) (sub_with_run jobs) s.subs
    (λ x there. with_count x (x.delivered + amount jobs receivers x.serial) (x.delivered + times_due jobs x)
    (ap (λ n. x.delivered + n) (same x there)))
  where
    not_due : (x : Subscription) → In x s.subs → list_any (nat_eq x.serial) (serials_of receivers) ≡ false
        → (job : Job) → In job jobs → is_due job x ≡ false
    not_due x there e job here =
        no_true (is_due job x) (λ due. true≢false (sym (in_has x.serial (serials_of receivers)
        (in_mapped serial_of receivers x (are job here x there due))) ∙ e))

    same : (x : Subscription) → In x s.subs → amount jobs receivers x.serial ≡ times_due jobs x
    same x there = by (list_any (nat_eq x.serial) (serials_of receivers)) refl
      where
        by : (b : Bool) → list_any (nat_eq x.serial) (serials_of receivers) ≡ b
            → amount jobs receivers x.serial ≡ times_due jobs x
        by true e =
            let found = in_map serial_of receivers x.serial (has_in x.serial (serials_of receivers) e) in
            let it : x ≡ found.0 = one_serial s.subs x found.0 serials there (known found.0 found.1) found.2 in
            ap (amount jobs receivers) found.2
            ∙ its_own jobs receivers found.0 apart found.1
            ∙ ap (times_due jobs) (sym it)
        by false e =
            none_under jobs receivers x.serial
            (λ inside. true≢false (sym (in_has x.serial (serials_of receivers) inside) ∙ e))
            ∙ sym (ap length (none_of (λ (job : Job). is_due job x) jobs (not_due x there e)))
