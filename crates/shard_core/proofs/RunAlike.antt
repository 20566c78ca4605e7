-- A run of jobs that are alike.
use Rattle.std.proofs.Common.{◌≡◌, ◌≢◌, ℕ, suc, Bool, true, false, true≢false, cond, List, [], ◌∷◌, ◌++◌, length, map}
use Rattle.std.proofs.Common.{filter, None, refl, sym, ap, ◌∙◌, inl, inr, ⊎_elim}
use Rattle.std.specs.Prelude.{nat_eq, ◌||◌, ◌&&◌, not, if◌then◌else◌}
use Rattle.std.specs.List.{flat_map}
use Rattle.std.proofs.lemmas.List.Concat.{flat_map_single}
use Rattle.list_laws.specs.Lists.{In, Each}
use Rattle.list_laws.proofs.Changes.{append_nil, append_assoc, filter_in, in_mapped}
use Rattle.list_laws.proofs.Lists.{pairs_map}
use Rattle.list_laws.proofs.Tests.{true_eq, false_eq, eq_true}
use Rattle.outbox.specs.Views.{Written, with_entries}
use Rattle.sub_table.specs.Subscriptions.{is_of, gets}
use Rattle.sub_table.specs.declared.Subscription.{Subscription}
use Rattle.subj.specs.declared.jobs.Job.{Job}
use Rattle.shard_core.specs.Owed.{due_entry, is_due, is_plain, is_publisher, may_get_at}
use Rattle.shard_core.specs.Shards.{State, Client, takes_headers}
use Rattle.shard_core.proofs.Clients.Options.{option_kept}
use Rattle.shard_core.specs.Runs.{job_entries, run_entries}
use Rattle.shard_core.specs.RunReceivers.{clients_with_entries, clients_by_conns, AreConnsOf}
use Rattle.shard_core.specs.RunAlike.{IsLike, AlikeByFields, entries_for_sub, entries_for_subs, receivers_at}
use Rattle.shard_core.specs.RunAlike.{AlikeGoToAll, AreOfDifferentConns, clients_by_receivers}
use Rattle.shard_core.specs.RunAlike.{RunsGoByReceivers, RunsGoOn}
use Rattle.shard_core.proofs.RunReceivers.{runs_go_by_conns, none_of}
use Rattle.shard_core.proofs.Runs.{owed}

pub due_alike : (job other : Job) (sub : Subscription) → IsLike job other → is_due other sub ≡ is_due job sub
due_alike job other sub like = λ i. is_plain sub && (gets (like.subject i) sub && like.permitted sub.conn i)

pub alike_by_fields : (job other : Job) → AlikeByFields job other
alike_by_fields job other = record {
  echoed = λ same first second. record { subject = same; permitted = λ conn. by conn first second };
  published = λ same publisher echo. record {
    subject = same;
    permitted = λ conn i. echo i || not (is_publisher (publisher i) conn);
  };
}
  where
    by : (conn : ℕ) → job.echo ≡ true → other.echo ≡ true → may_get_at other conn ≡ may_get_at job conn
    by conn first second =
        ap (λ b. b || not (is_publisher other.publisher conn)) second
        ∙ sym (ap (λ b. b || not (is_publisher job.publisher conn)) first)

pub flat_same : {A B : Type 0} (f g : A → List B) (xs : List A)
    → ((x : A) → In x xs → f x ≡ g x) → flat_map f xs ≡ flat_map g xs
flat_same f g [] same = refl
flat_same f g (x ∷ xs) same = λ i. same x (inl refl) i ++ flat_same f g xs (λ y there. same y (inr there)) i

flat_more : {A B : Type 0} (f : A → List B) (xs : List A) (y : A) → flat_map f (xs ++ y ∷ []) ≡ flat_map f xs ++ f y
flat_more f [] y = append_nil (f y)
flat_more f (x ∷ xs) y = ap (λ l. f x ++ l) (flat_more f xs y) ∙ sym (append_assoc (f x) (flat_map f xs) (f y))

all_or_none : (b : Bool) (p : Job → Bool) (jobs : List Job)
    → ((job : Job) → In job jobs → p job ≡ b) → length (filter p jobs) ≡ (if b then length jobs else 0)
all_or_none true p [] same = refl
all_or_none false p [] same = refl
all_or_none true p (j ∷ jobs) same =
    ap (λ b. length (cond b (j ∷ filter p jobs) (filter p jobs))) (same j (inl refl))
    ∙ ap (λ n. suc n) (all_or_none true p jobs (λ k there. same k (inr there)))
all_or_none false p (j ∷ jobs) same =
    ap (λ b. length (cond b (j ∷ filter p jobs) (filter p jobs))) (same j (inl refl))
    ∙ all_or_none false p jobs (λ k there. same k (inr there))

pub entries_alike : (s : State) (job : Job) (jobs : List Job) (conn : ℕ) → Each (IsLike job) jobs
    → run_entries s jobs conn ≡ entries_for_subs s.shard s.clients jobs (receivers_at s job conn)
entries_alike s job jobs conn alike =
    flat_same (job_entries s conn) (λ other. map (owed s other) (receivers_at s job conn)) jobs
    (λ other there i. map (owed s other) (filter (is_of conn)
    (filter (λ sub. due_alike job other sub (alike other there) i) s.subs)))

pub alone_alike : (s : State) (job : Job) (jobs : List Job) (conn : ℕ) (sub : Subscription) → Each (IsLike job) jobs
    → receivers_at s job conn ≡ sub ∷ [] → run_entries s jobs conn ≡ entries_for_sub s.shard s.clients jobs sub
alone_alike s job jobs conn sub alike one =
    entries_alike s job jobs conn alike
    ∙ ap (entries_for_subs s.shard s.clients jobs) one
    ∙ flat_map_single (λ (other : Job). owed s other sub) jobs

pub alike_go_to_all : AlikeGoToAll
alike_go_to_all s job jobs alike = record {
  times = λ sub.
      all_or_none (is_due job sub) (λ (other : Job). is_due other sub) jobs
      (λ other there. due_alike job other sub (alike other there));
  entries = λ conn. entries_alike s job jobs conn alike;
  alone = λ conn sub one. alone_alike s job jobs conn sub alike one;
}

-- ---- receivers of different connections

abbrev pub conn_of : Subscription → ℕ
conn_of sub = sub.conn

-- one that is among them is the only one of its connection
pub only_one : (subs : List Subscription) (sub : Subscription)
    → AreOfDifferentConns subs → In sub subs → filter (is_of sub.conn) subs ≡ sub ∷ []
only_one [] sub apart there = absurd there
only_one (x ∷ xs) sub apart there =
    ⊎_elim (λ (same : sub ≡ x). here same) (λ (later : In sub xs). behind later (only_one xs sub apart.1 later)) there
  where
    here : sub ≡ x
        → cond (nat_eq x.conn sub.conn) (x ∷ filter (is_of sub.conn) xs) (filter (is_of sub.conn) xs) ≡ sub ∷ []
    here same =
        ap (λ b. cond b (x ∷ filter (is_of sub.conn) xs) (filter (is_of sub.conn) xs))
        (true_eq x.conn sub.conn (ap conn_of (sym same)))
        ∙ (λ i. sym same i ∷ none_of (is_of sub.conn) xs
        (λ y inside. false_eq y.conn sub.conn (λ equal. apart.0 y inside (ap conn_of (sym same) ∙ sym equal))) i)

    behind : In sub xs → filter (is_of sub.conn) xs ≡ sub ∷ []
        → cond (nat_eq x.conn sub.conn) (x ∷ filter (is_of sub.conn) xs) (filter (is_of sub.conn) xs) ≡ sub ∷ []
    behind later below =
        ap (λ b. cond b (x ∷ filter (is_of sub.conn) xs) (filter (is_of sub.conn) xs))
        (false_eq x.conn sub.conn (apart.0 sub later)) ∙ below

-- the options of connections stay as they were before the run
abbrev pub SameOptions : List Client → List Client → Type 0
SameOptions before now = (n : ℕ) → takes_headers n now ≡ takes_headers n before

pub options_then : (entries : List Written) (conn : ℕ) (before now : List Client) → SameOptions before now
    → SameOptions before (clients_with_entries entries conn now)
options_then entries conn before now same n = option_kept (with_entries entries) n conn now ∙ same n

receivers_are_conns : (shard : ℕ) (before : List Client) (entries : ℕ → List Written) (jobs : List Job)
    (receivers : List Subscription) (now : List Client) → SameOptions before now
    → Each (λ sub. entries sub.conn ≡ entries_for_sub shard before jobs sub) receivers
    → clients_by_receivers shard jobs receivers now ≡ clients_by_conns entries (map conn_of receivers) now
receivers_are_conns shard before entries jobs [] now options are = refl
receivers_are_conns shard before entries jobs (sub ∷ receivers) now options are =
    receivers_are_conns shard before entries jobs receivers
    (clients_with_entries (entries_for_sub shard now jobs sub) sub.conn now)
    (options_then (entries_for_sub shard now jobs sub) sub.conn before now options)
    (λ other there. are other (inr there))
    ∙ ap (λ (l : List Written). clients_by_conns entries (map conn_of receivers)
    (clients_with_entries l sub.conn now)) its
  where
    its : entries_for_sub shard now jobs sub ≡ entries sub.conn
    its = (λ i. map (λ job. due_entry shard (options sub.conn i) job None sub) jobs) ∙ sym (are sub (inl refl))

-- whoever gets one of the jobs is of the connection of one that gets the first
pub receivers_conns : (s : State) (job : Job) (jobs : List Job) → Each (IsLike job) jobs
    → AreConnsOf s.subs jobs (map conn_of (filter (is_due job) s.subs))
receivers_conns s job jobs alike other there sub inside due =
    in_mapped conn_of (filter (is_due job) s.subs) sub
    (filter_in (is_due job) s.subs sub inside (sym (due_alike job other sub (alike other there)) ∙ due))

pub entries_of_one : (s : State) (job : Job) (jobs : List Job) → Each (IsLike job) jobs
    → AreOfDifferentConns (filter (is_due job) s.subs)
    → Each (λ sub. run_entries s jobs sub.conn ≡ entries_for_sub s.shard s.clients jobs sub)
    (filter (is_due job) s.subs)
entries_of_one s job jobs alike apart sub there =
    alone_alike s job jobs sub.conn sub alike (only_one (filter (is_due job) s.subs) sub apart there)

pub runs_go_by_receivers : RunsGoByReceivers
runs_go_by_receivers s job jobs alike numbers apart =
    receivers_are_conns s.shard s.clients (run_entries s jobs) jobs (filter (is_due job) s.subs) s.clients (λ n. refl)
    (entries_of_one s job jobs alike apart)
    ∙ runs_go_by_conns s jobs (map conn_of (filter (is_due job) s.subs)) numbers
    (pairs_map (λ (m n : ℕ). m ≢ n) conn_of (filter (is_due job) s.subs) apart) (receivers_conns s job jobs alike)

-- ---- the steps of loops

-- filtered by a test that holds of all that the other tests are after
looked_at : (look due of_it : Subscription → Bool) (subs : List Subscription)
    → Each (λ sub. due sub ≡ true → of_it sub ≡ true → look sub ≡ true) subs
    → filter of_it (filter due (filter look subs)) ≡ filter of_it (filter due subs)
looked_at look due of_it [] holds = refl
looked_at look due of_it (x ∷ xs) holds =
    by (looked_at look due of_it xs (λ y there. holds y (inr there))) (look x) refl (due x) refl (of_it x) refl
  where
    looked : List Subscription
    looked = filter due (filter look xs)

    by : filter of_it (filter due (filter look xs)) ≡ filter of_it (filter due xs)
        → (b : Bool) → look x ≡ b → (c : Bool) → due x ≡ c → (d : Bool) → of_it x ≡ d
        → filter of_it (filter due (cond b (x ∷ filter look xs) (filter look xs)))
        ≡ filter of_it (cond c (x ∷ filter due xs) (filter due xs))
    by below true e true f d g =
        ap (λ k. filter of_it (cond k (x ∷ looked) looked)) f ∙ ap (λ l. cond (of_it x) (x ∷ l) l) below
    by below true e false f d g = ap (λ k. filter of_it (cond k (x ∷ looked) looked)) f ∙ below
    by below false e true f true g = absurd (true≢false (sym (holds x (inl refl) f g) ∙ e))
    by below false e true f false g =
        below ∙ sym (ap (λ k. cond k (x ∷ filter of_it (filter due xs)) (filter of_it (filter due xs))) g)
    by below false e false f d g = below

pub runs_go_on : (s : State) (conn : ℕ) → RunsGoOn s conn
runs_go_on s conn = record {
  job = λ jobs next. flat_more (job_entries s conn) jobs next;
  some = λ jobs look holds.
      flat_same (job_entries (record s { subs = filter look s.subs }) conn) (job_entries s conn) jobs
      (λ job there. ap (map (owed s job)) (looked_at look (is_due job) (is_of conn) s.subs
      (λ sub inside due of_it. holds job there sub inside due (eq_true sub.conn conn of_it))));
}
