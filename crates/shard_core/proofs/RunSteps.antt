-- A run that was put for receivers that are noted is delivered.
use Rattle.std.proofs.Common.{◌≡◌, ◌≢◌, ℕ, ◌+◌, ◌<◌, ◌≤◌, ◌^◌, Bool, true, false, List, [], ◌∷◌, ◌++◌, length, map, filter, drop}
use Rattle.std.proofs.Common.{Option, Some, None, refl, sym, ap, ◌∙◌, subst, inl, inr, arith, length-append}
use Rattle.std.specs.Prelude.{All, is_some, nat_eq, option_map, if◌then◌else◌}
use Rattle.std.proofs.lemmas.List.{length-map}
use Rattle.std.proofs.lemmas.List.Elements.{All-weaker}
use Rattle.list_laws.specs.Lists.{In, Each, Pairs}
use Rattle.list_laws.proofs.Lists.{pairs_map, pairs_weaker}
use Rattle.list_laws.proofs.Changes.{map_map, in_filter, filter_in, in_mapped, pairs_filter, pairs_map_back}
use Rattle.list_laws.proofs.Tests.{eq_true, eq_false}
use Rattle.client_frames.specs.Messages.{behind_sid}
use Rattle.outbox.specs.Bytes.{line_end}
use Rattle.outbox.specs.Views.{Written, Tail, spelt_entry, with_entries}
use Rattle.outbox.specs.declared.entries.Mode.TheVariants.{Plain}
use Rattle.sub_table.specs.Subscriptions.{gets, serial_of}
use Rattle.sub_table.specs.declared.Subscription.{Subscription}
use Rattle.subj.specs.Messages.{Content, body_bytes}
use Rattle.subj.specs.declared.jobs.Job.{Job}
use Rattle.shard_core.specs.Closings.{id_of, serials_of}
use Rattle.shard_core.specs.Boxes.{Clients}
use Rattle.shard_core.specs.Opened.{Opened, AreApart, AreRising}
use Rattle.shard_core.specs.Owed.{is_due, reaches}
use Rattle.shard_core.specs.Received.{Received, receiver_of, receivers_of}
use Rattle.shard_core.specs.Shards.{State, Client, client_at, entries_of, takes_headers, waits_for, with_outbox}
use Rattle.shard_core.specs.Runs.{TakesAll, Takes, EachReceiver, IsReceiver, run_entries, times_due, delivered_run, numbers_of}
use Rattle.shard_core.specs.RunAlike.{IsLike, AreOfDifferentConns}
use Rattle.shard_core.specs.RunNoted.{noted_entry, noted_receivers, entries_for_noted, clients_by_noted}
use Rattle.shard_core.specs.RunReceivers.{clients_with_entries, sub_with_more, subs_by_receivers}
use Rattle.shard_core.specs.RunSteps.{GoesWith, tail_of, run_for, AreStaged, HasDelivered, due_serials, CanCountMore, subs_by_serials}
use Rattle.shard_core.proofs.Clients.Outboxes.{changed_here, changed_there}
use Rattle.shard_core.proofs.RunAlike.{alike_by_fields, alike_go_to_all, alone_alike, due_alike, only_one}
use Rattle.shard_core.proofs.RunCounts.{map_same_in}
use Rattle.shard_core.proofs.RunEntries.{number_found}
use Rattle.shard_core.proofs.RunNoted.{noted_of_due, one_for_noted, runs_go_to_noted}
use Rattle.shard_core.proofs.RunReceivers.{runs_count_by_receivers}

-- ---- entries

-- what stands behind the id of a subscription, with this header block or none
abbrev tail_with : Content → Option (List ℕ) → List ℕ
tail_with content headers =
    behind_sid content headers ++ (line_end ++ (body_bytes headers content.payload ++ line_end))

-- without a header block both forms are one
spelt_without : (shard : ℕ) (option : Bool) (r : Received) (job : Job) → job.message.headers ≡ None
    → spelt_entry job.id (id_of shard r.serial) Plain (drop 1 r.head ++ (tail_of job).bytes)
    ≡ noted_entry shard option r job
spelt_without shard false r job plain = refl
spelt_without shard true r job plain =
    ap (λ (h : Option (List ℕ)). spelt_entry job.id (id_of shard r.serial) Plain
    ((if is_some h then r.head else drop 1 r.head) ++ tail_with job.message h)) (sym plain)

run_is : (shard : ℕ) (option : Bool) (r : Received) (jobs : List Job)
    → Each (λ job. job.message.headers ≡ None) jobs
    → run_for shard (map tail_of jobs) r ≡ entries_for_noted shard option jobs r
run_is shard option r jobs plain =
    map_map tail_of
    (λ (t : Tail). spelt_entry t.id (id_of shard r.serial) Plain (drop 1 r.head ++ t.bytes)) jobs
    ∙ map_same_in
    (λ job. spelt_entry job.id (id_of shard r.serial) Plain (drop 1 r.head ++ (tail_of job).bytes))
    (noted_entry shard option r) jobs (λ job there. spelt_without shard option r job (plain job there))

-- ---- one receiver after the other

staged_by_noted : (shard : ℕ) (jobs : List Job) → Each (λ job. job.message.headers ≡ None) jobs
    → (shown : List Client) (receivers : List Received) (old new : List Client)
    → AreStaged shard (map tail_of jobs) shown receivers old new → new ≡ clients_by_noted shard jobs receivers old
staged_by_noted shard jobs plain shown [] old new staged = staged
staged_by_noted shard jobs plain shown (r ∷ rs) old new staged =
    staged_by_noted shard jobs plain shown rs
    (clients_with_entries (run_for shard (map tail_of jobs) r) r.conn old) new staged.1
    ∙ ap (λ (l : List Written). clients_by_noted shard jobs rs (clients_with_entries l r.conn old))
    (run_is shard (takes_headers r.conn old) r jobs plain)

-- it has no maximum, and its connection takes what it gets
record Taken (shard : ℕ) (tails : List Tail) (shown : List Client) (r : Received) : Type 0 where
  unlimited : r.is_limited ≡ false
  takes : Takes (client_at r.conn shown) (λ _. run_for shard tails r)

each_taken : (shard : ℕ) (tails : List Tail) (shown : List Client) (receivers : List Received) (old new : List Client)
    → AreStaged shard tails shown receivers old new → Each (Taken shard tails shown) receivers
each_taken shard tails shown [] old new staged x there = absurd there
each_taken shard tails shown (r ∷ rs) old new staged x (inl same) =
    subst (Taken shard tails shown) (sym same)
    (record { unlimited = staged.0.unlimited; takes = staged.0.room.takes })
each_taken shard tails shown (r ∷ rs) old new staged x (inr there) =
    each_taken shard tails shown rs (clients_with_entries (run_for shard tails r) r.conn old) new staged.1 x there

-- ---- no two of one connection

grown : (o : Option Client) (entries : List Written)
    → length (entries_of o) ≤ length (entries_of (option_map (with_outbox (with_entries entries)) o))
grown None entries = omega arith
grown (Some c) entries = omega (arith, length-append c.outbox.entries entries)

grown_by : (o : Option Client) (entries : List Written) → Takes o (λ _. entries)
    → length (entries_of (option_map (with_outbox (with_entries entries)) o)) ≡ length (entries_of o) + length entries
grown_by None entries takes = absurd takes
grown_by (Some c) entries takes = length-append c.outbox.entries entries

-- more waits for the connection than is shown
abbrev IsAhead : ℕ → List Client → List Client → Type 0
IsAhead conn shown now = length (waits_for conn shown) < length (waits_for conn now)

ahead_still : (conn k : ℕ) (entries : List Written) (shown now : List Client)
    → IsAhead conn shown now → IsAhead conn shown (clients_with_entries entries k now)
ahead_still conn k entries shown now ahead = by (nat_eq conn k) refl
  where
    more : (a b c d : ℕ) → a < b → b ≤ c → d ≡ c → a < d
    more a b c d lt le same = omega arith

    by : (b : Bool) → nat_eq conn k ≡ b → IsAhead conn shown (clients_with_entries entries k now)
    by true e =
        subst (λ n. IsAhead conn shown (clients_with_entries entries n now)) (eq_true conn k e)
        (more _ _ _ _ ahead (grown (client_at conn now) entries)
        (ap (λ (o : Option Client). length (entries_of o)) (changed_here (with_entries entries) conn now)))
    by false e =
        subst (λ (o : Option Client). length (waits_for conn shown) < length (entries_of o))
        (sym (changed_there (with_entries entries) conn k now (eq_false conn k e))) ahead

not_of : (shard : ℕ) (tails : List Tail) (shown : List Client) (conn : ℕ) (receivers : List Received)
    (old new : List Client) → AreStaged shard tails shown receivers old new → IsAhead conn shown old
    → Each (λ q. conn ≢ q.conn) receivers
not_of shard tails shown conn [] old new staged ahead x there = absurd there
not_of shard tails shown conn (q ∷ qs) old new staged ahead x (inl same) = λ e.
    let its : conn ≡ q.conn = e ∙ ap (λ (r : Received). r.conn) same in
    let equal : length (waits_for q.conn old) ≡ length (waits_for q.conn shown) =
    ap (λ (o : Option Client). length (entries_of o)) staged.0.room.untouched in
    let before : IsAhead q.conn shown old = subst (λ n. IsAhead n shown old) its ahead in
    absurd (omega (arith, equal, before))
not_of shard tails shown conn (q ∷ qs) old new staged ahead x (inr there) =
    not_of shard tails shown conn qs (clients_with_entries (run_for shard tails q) q.conn old) new staged.1
    (ahead_still conn q.conn (run_for shard tails q) shown old ahead) x there

conns_apart : (shard : ℕ) (tails : List Tail) → 0 < length tails → (shown : List Client) (receivers : List Received)
    (old new : List Client) → AreStaged shard tails shown receivers old new → Pairs (λ r q. r.conn ≢ q.conn) receivers
conns_apart shard tails some shown [] old new staged = tt
conns_apart shard tails some shown (r ∷ rs) old new staged = (
  not_of shard tails shown r.conn rs next new staged.1 ahead,
  conns_apart shard tails some shown rs next new staged.1,
)
  where
    run : List Written
    run = run_for shard tails r

    next : List Client
    next = clients_with_entries run r.conn old

    more : (a b c n : ℕ) → c ≡ b + n → b ≡ a → 0 < n → a < c
    more a b c n e f g = omega arith

    as_many : length run ≡ length tails
    as_many = length-map tails (λ t. spelt_entry t.id (id_of shard r.serial) Plain (drop 1 r.head ++ t.bytes))

    ahead : IsAhead r.conn shown next
    ahead =
        more (length (waits_for r.conn shown)) (length (waits_for r.conn old)) (length (waits_for r.conn next))
        (length run)
        (ap (λ (o : Option Client). length (entries_of o)) (changed_here (with_entries run) r.conn old)
        ∙ grown_by (client_at r.conn old) run
        (subst (λ (o : Option Client). Takes o (λ _. run)) (sym staged.0.room.untouched) staged.0.room.takes))
        (ap (λ (o : Option Client). length (entries_of o)) staged.0.room.untouched)
        (subst (λ n. 0 < n) (sym as_many) some)

-- ---- counts

by_serials : (count : ℕ) (jobs : List Job) (receivers subs : List Subscription)
    → Each (λ sub. times_due jobs sub ≡ count) receivers
    → subs_by_serials count (serials_of receivers) subs ≡ subs_by_receivers jobs receivers subs
by_serials count jobs [] subs times = refl
by_serials count jobs (r ∷ rs) subs times =
    ap (λ (n : ℕ). subs_by_serials count (serials_of rs) (map (sub_with_more r.serial n) subs))
    (sym (times r (inl refl)))
    ∙ by_serials count jobs rs (map (sub_with_more r.serial (times_due jobs r)) subs) (λ x there. times x (inr there))

pub rising_apart : (subs : List Subscription) → AreRising subs → AreApart (serials_of subs)
rising_apart subs rising =
    pairs_weaker (λ (j k : ℕ). j < k) (λ j k. j ≢ k) (serials_of subs) (λ j k _ _ below e. absurd (omega arith)) rising

pub each_counts : (count : ℕ) (given : List ℕ) (subs : List Subscription)
    → All (λ sub. sub.delivered + count < 2 ^ 64) subs → Each (λ serial. CanCountMore count serial subs) given
each_counts count given subs fit serial there =
    All-weaker (λ (sub : Subscription). sub.delivered + count < 2 ^ 64)
    (λ sub. sub.serial ≡ serial → sub.delivered + count < 2 ^ 64) (λ sub it at. it) subs fit

-- ---- the whole

never_reached : (max : Option ℕ) (n : ℕ) → is_some max ≡ false → reaches max n ≡ false
never_reached None n e = refl
never_reached (Some m) n e = absurd (cc)

module _ (s : State) (first : Job) (jobs : List Job) (alike : Each (GoesWith first) jobs) where
  abbrev pub dues : List Subscription
  dues = filter (is_due first) s.subs

  likes : Each (IsLike first) jobs
  likes job there =
      let it = alike job there in
      (alike_by_fields first job).published it.subject it.publisher it.echo

  plain : Each (λ job. job.message.headers ≡ None) jobs
  plain job there = (alike job there).plain

  -- the serials of those that are due it
  pub given_are : due_serials first (receivers_of first.message.subject (filter (gets first.message.subject) s.subs))
      ≡ serials_of dues
  given_are =
      ap (map (λ (r : Received). r.serial)) (noted_of_due s.subs first)
      ∙ map_map (receiver_of first.message.subject) (λ (r : Received). r.serial) dues

  dues_apart : AreRising s.subs → AreApart (serials_of dues)
  dues_apart rising =
      pairs_map (λ (j k : ℕ). j ≢ k) serial_of dues
      (pairs_filter (λ (u v : Subscription). u.serial ≢ v.serial) (is_due first) s.subs
      (pairs_map_back (λ (j k : ℕ). j ≢ k) serial_of s.subs (rising_apart s.subs rising)))

  pub given_apart : AreRising s.subs → (given : List ℕ)
      → given ≡ due_serials first (receivers_of first.message.subject (filter (gets first.message.subject) s.subs))
      → AreApart given
  given_apart rising given are = subst AreApart (sym (are ∙ given_are)) (dues_apart rising)

  pub subs_delivered : AreRising s.subs → (given : List ℕ)
      → given ≡ due_serials first (receivers_of first.message.subject (filter (gets first.message.subject) s.subs))
      → subs_by_serials (length jobs) given s.subs ≡ (delivered_run s jobs).subs
  subs_delivered rising given are =
      ap (λ (l : List ℕ). subs_by_serials (length jobs) l s.subs) (are ∙ given_are)
      ∙ by_serials (length jobs) jobs dues s.subs times
      ∙ runs_count_by_receivers s jobs dues (rising_apart s.subs rising) (dues_apart rising)
      (λ sub there. (in_filter (is_due first) s.subs sub there).0)
      (λ job there sub inside due. filter_in (is_due first) s.subs sub inside
      (sym (due_alike first job sub (likes job there)) ∙ due))
    where
      times : Each (λ sub. times_due jobs sub ≡ length jobs) dues
      times sub there =
          (alike_go_to_all s first jobs likes).times sub
          ∙ ap (λ (b : Bool). if b then length jobs else 0) (in_filter (is_due first) s.subs sub there).1

  module _ (some : 0 < length jobs) (next : List Client)
      (staged : AreStaged s.shard (map tail_of jobs) s.clients (noted_receivers s.subs first) s.clients next) where
    dues_of_own : AreOfDifferentConns dues
    dues_of_own =
        pairs_map_back (λ (r q : Received). r.conn ≢ q.conn) (receiver_of first.message.subject) dues
        (subst (λ (l : List Received). Pairs (λ r q. r.conn ≢ q.conn) l) (noted_of_due s.subs first)
        (conns_apart s.shard (map tail_of jobs) (subst (λ n. 0 < n) (sym (length-map jobs tail_of)) some) s.clients
        (noted_receivers s.subs first) s.clients next staged))

    pub clients_delivered : AreApart (numbers_of s.clients) → next ≡ (delivered_run s jobs).clients
    clients_delivered numbers =
        staged_by_noted s.shard jobs plain s.clients (noted_receivers s.subs first) s.clients next staged
        ∙ (runs_go_to_noted s first jobs likes).clients numbers dues_of_own

    room_for : (sub : Subscription) → In sub dues
        → Taken s.shard (map tail_of jobs) s.clients (receiver_of first.message.subject sub)
        → Takes (client_at sub.conn s.clients) (run_entries s jobs)
    room_for sub there taken = by (client_at sub.conn s.clients) refl taken.takes
      where
        r : Received
        r = receiver_of first.message.subject sub

        run : List Written
        run = run_for s.shard (map tail_of jobs) r

        its : run ≡ run_entries s jobs sub.conn
        its =
            run_is s.shard (takes_headers sub.conn s.clients) r jobs plain
            ∙ one_for_noted s.shard first jobs sub s.clients likes
            ∙ sym (alone_alike s first jobs sub.conn sub likes (only_one dues sub dues_of_own there))

        by : (o : Option Client) → client_at sub.conn s.clients ≡ o → Takes o (λ _. run) → Takes o (run_entries s jobs)
        by None e takes = takes
        by (Some c) e takes =
            subst (TakesAll c) (its ∙ ap (run_entries s jobs) (sym (number_found sub.conn s.clients c e))) takes

    pub receivers_take : EachReceiver (IsReceiver s jobs) s.subs jobs
    receivers_take job there sub inside due =
        let inside_due : In sub dues =
        filter_in (is_due first) s.subs sub inside (sym (due_alike first job sub (likes job there)) ∙ due) in
        let noted : In (receiver_of first.message.subject sub) (noted_receivers s.subs first) =
        subst (In (receiver_of first.message.subject sub)) (sym (noted_of_due s.subs first))
        (in_mapped (receiver_of first.message.subject) dues sub inside_due) in
        let taken = each_taken s.shard (map tail_of jobs) s.clients (noted_receivers s.subs first) s.clients next staged
        (receiver_of first.message.subject sub) noted in
        record {
          unspent = never_reached sub.max (sub.delivered + times_due jobs sub) taken.unlimited;
          room = room_for sub inside_due taken;
        }

-- what was put is shown, and all are counted
pub has_delivered : (s : State) (first : Job) (jobs : List Job) → Each (GoesWith first) jobs → 0 < length jobs
    → (shard : ℕ) (openings after : Opened) (old staged new : Clients) (given : List ℕ)
    → s.shard ≡ shard → s.subs ≡ openings.subs → s.clients ≡ old.shown → old.next ≡ old.shown
    → AreApart (numbers_of staged.shown) → staged.shown ≡ old.shown → AreRising openings.subs
    → AreStaged shard (map tail_of jobs) old.shown (noted_receivers openings.subs first) old.next staged.next
    → given ≡ due_serials first (receivers_of first.message.subject (filter (gets first.message.subject) openings.subs))
    → new ≡ record { shown = staged.next; next = staged.next }
    → after ≡ record openings { subs = subs_by_serials (length jobs) given openings.subs }
    → HasDelivered s jobs openings new after
has_delivered s first jobs alike some shard openings after old staged new given of subs clients settled numbers shown
    rising put are commits counts = record {
      conns_are =
          commits
          ∙ ap (λ (l : List Client). record { shown = l; next = l })
          (clients_delivered s first jobs alike some staged.next put_for apart);
      openings_are =
          counts
          ∙ ap (λ (l : List Subscription). record openings { subs = l })
          (ap (subs_by_serials (length jobs) given) (sym subs)
          ∙ subs_delivered s first jobs alike rises given given_for);
      numbers = apart;
      serials = rising_apart s.subs rises;
      receivers = receivers_take s first jobs alike some staged.next put_for;
    }
  where
    apart : AreApart (numbers_of s.clients)
    apart = subst (λ (l : List Client). AreApart (numbers_of l)) (shown ∙ sym clients) numbers

    rises : AreRising s.subs
    rises = subst AreRising (sym subs) rising

    given_for :
        given ≡ due_serials first (receivers_of first.message.subject (filter (gets first.message.subject) s.subs))
    given_for =
        are
        ∙ ap (λ (l : List Subscription).
        due_serials first (receivers_of first.message.subject (filter (gets first.message.subject) l)))
        (sym subs)

    put_for : AreStaged s.shard (map tail_of jobs) s.clients (noted_receivers s.subs first) s.clients staged.next
    put_for =
        subst (λ (l : List Subscription).
        AreStaged s.shard (map tail_of jobs) s.clients (noted_receivers l first) s.clients staged.next)
        (sym subs)
        (subst (λ (l : List Client).
        AreStaged s.shard (map tail_of jobs) l (noted_receivers openings.subs first) l staged.next)
        (sym clients)
        (subst (λ (n : ℕ).
        AreStaged n (map tail_of jobs) old.shown (noted_receivers openings.subs first) old.shown staged.next)
        (sym of)
        (subst (λ (l : List Client).
        AreStaged shard (map tail_of jobs) old.shown (noted_receivers openings.subs first) l staged.next)
        settled put)))
