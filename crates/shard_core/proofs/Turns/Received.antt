-- The walk over the receivers that are noted is the walk over the open subscriptions that they are.
use Rattle.std.proofs.Common.{◌≡◌, ℕ, zero, suc, ◌+◌, ◌<◌, ◌^◌, ◌&&◌, Bool, true, false, cond, List, [], ◌∷◌, ◌++◌, length, filter, get_or, take, drop, Option, Some, None, refl, sym, ap, ◌∙◌, subst, arith, inl, inr, append-nil}
use Rattle.std.specs.Prelude.{is_some, codes, find, All, if◌then◌else◌}
use Rattle.std.proofs.lemmas.List.{append_assoc, get_or-map, length-map}
use Rattle.list_laws.specs.Lists.{In}
use Rattle.list_laws.proofs.Changes.{in_filter}
use Rattle.client_frames.specs.Messages.{Tails, head_bytes, tails_of, behind_sid, operation, parts_with, line_around}
use Rattle.outbox.specs.Bytes.{bytes_of, line_end}
use Rattle.outbox.specs.Views.{spelt_entry, with_entry, with_last}
use Rattle.outbox.specs.declared.entries.Mode.TheVariants.{Plain}
use Rattle.sub_table.specs.Subscriptions.{gets, has_serial}
use Rattle.sub_table.specs.declared.Subscription.{Subscription}
use Rattle.subj.specs.Messages.{Content, body_bytes}
use Rattle.subj.specs.declared.jobs.Job.{Job}
use Rattle.shard_core.specs.Answers.{copies_of}
use Rattle.shard_core.specs.Closings.{id_of}
use Rattle.shard_core.specs.Opened.{AreRising}
use Rattle.shard_core.specs.Owed.{due_entry, placed_for, reaches, is_due, slow_consumer, walk, walk_after_put}
use Rattle.shard_core.specs.Received.{Received, receiver_of, receivers_of}
use Rattle.shard_core.specs.ReceiverSteps.{IsFoundAs, ends_at, is_last_of, entry_for, is_due_to, with_noted}
use Rattle.shard_core.specs.Shards.{Client, client_at, clients_with_change, fits, is_open, takes_headers}
use Rattle.shard_core.specs.Tallies.{Follows, IsTallied, Tallied, is_placed, put_if_due, walk_matching, with_given, with_shut}
use Rattle.shard_core.proofs.Closings.Opened.{found_counts}
use Rattle.shard_core.proofs.Turns.Claims.{found_by_serial}
use Rattle.shard_core.proofs.Turns.TallySteps.{put_given, put_nothing, put_shut, passed_over, put_as_due, walk_one_more, walk_of_none_due, walk_of_matching}

-- ---- the bytes of an entry

-- the pieces of a message in one order, whichever belong together
regrouped : (op subject blank sid behind rest : List ℕ)
    → (op ++ (subject ++ (blank ++ sid))) ++ (behind ++ rest) ≡ ((op ++ (subject ++ blank)) ++ (sid ++ behind)) ++ rest
regrouped op subject blank sid behind rest = parts ∙ sym whole
  where
    parts : (op ++ (subject ++ (blank ++ sid))) ++ (behind ++ rest)
        ≡ op ++ (subject ++ (blank ++ (sid ++ (behind ++ rest))))
    parts =
        append_assoc op (subject ++ (blank ++ sid)) (behind ++ rest)
        ∙ ap (λ l. op ++ l) (append_assoc subject (blank ++ sid) (behind ++ rest))
        ∙ ap (λ l. op ++ (subject ++ l)) (append_assoc blank sid (behind ++ rest))

    whole : ((op ++ (subject ++ blank)) ++ (sid ++ behind)) ++ rest
        ≡ op ++ (subject ++ (blank ++ (sid ++ (behind ++ rest))))
    whole =
        append_assoc (op ++ (subject ++ blank)) (sid ++ behind) rest
        ∙ ap (λ l. (op ++ (subject ++ blank)) ++ l) (append_assoc sid behind rest)
        ∙ append_assoc op (subject ++ blank) (sid ++ (behind ++ rest))
        ∙ ap (λ l. op ++ l) (append_assoc subject blank (sid ++ (behind ++ rest)))

-- the head in front of this header block, or of none
abbrev head_with : List ℕ → Option (List ℕ) → List ℕ
head_with head headers = if is_some headers then head else drop 1 head

pub spelt_with : (content : Content) (sid : List ℕ) (headers : Option (List ℕ))
    → head_with (head_bytes content.subject sid) headers
    ++ (behind_sid content headers ++ (line_end ++ (body_bytes headers content.payload ++ line_end)))
    ≡ bytes_of (line_around (parts_with content headers) sid) (Some (body_bytes headers content.payload))
spelt_with content sid headers =
    begun headers
    ∙ regrouped (operation headers) content.subject (codes " ") sid (behind_sid content headers)
    (line_end ++ (body_bytes headers content.payload ++ line_end))
    ∙ sym (append_assoc (line_around (parts_with content headers) sid) line_end
    (body_bytes headers content.payload ++ line_end))
  where
    rest : Option (List ℕ) → List ℕ
    rest h = behind_sid content headers ++ (line_end ++ (body_bytes headers content.payload ++ line_end))

    begun : (h : Option (List ℕ))
        → head_with (head_bytes content.subject sid) h ++ rest h
        ≡ (operation h ++ (content.subject ++ (codes " " ++ sid))) ++ rest h
    begun None = refl
    begun (Some block) = refl

-- a receiver's entry in two parts is what its subscription is owed
pub spelt_due : (shard : ℕ) (job : Job) (option : Bool) (sub : Subscription)
    → entry_for shard job.id (tails_of job.message) (receiver_of job.message.subject sub) option
    ≡ due_entry shard option job None sub
spelt_due shard job true sub =
    ap (spelt_entry job.id (id_of shard sub.serial) Plain) (spelt_with job.message sub.sid job.message.headers)
spelt_due shard job false sub =
    ap (spelt_entry job.id (id_of shard sub.serial) Plain) (spelt_with job.message sub.sid None)

-- ---- whether it is the last one

within_max : (max : Option ℕ) (count : ℕ) → (is_some max && reaches max count) ≡ reaches max count
within_max None count = refl
within_max (Some n) count = refl

ends_is : (subs : List Subscription) (subject : List ℕ) (r : Received) (sub : Subscription)
    → IsFoundAs subs subject r sub
    → ends_at subs r ≡ reaches sub.max (sub.delivered + 1)
ends_is subs subject r sub is =
    ap (ends_at subs) is.receiver
    ∙ ap (λ (o : Option Subscription). is_some sub.max && is_last_of o) is.found
    ∙ within_max sub.max (sub.delivered + 1)

pub can_count_found : (k : ℕ) (us : List Subscription) (u : Subscription)
    → All (λ (sub : Subscription). sub.delivered + 1 < 2 ^ 64) us
    → find (has_serial k) us ≡ Some u
    → u.delivered + 1 < 2 ^ 64
can_count_found k us u each found = found_counts k us u (λ i d lt of. each i d lt) found

-- ---- one step

module _ (subs : List Subscription) (job : Job) (next after : List Client) (t t2 : Tallied) (r : Received)
    (sub : Subscription) (is : IsFoundAs subs job.message.subject r sub) where
  same_conn : r.conn ≡ sub.conn
  same_conn = ap (λ (x : Received). x.conn) is.receiver

  pub received_nothing : is_open r.conn next ≡ false
      → Follows subs job (λ s w. walk_after_put s job w sub) next t next t
  received_nothing shut = put_nothing subs job sub next t (sym (ap (λ n. is_open n next) same_conn) ∙ shut)

  module _ (tails : Tails) (option : Bool) (of : tails ≡ tails_of job.message) where
    entry_is : entry_for t.shard job.id tails r option ≡ due_entry t.shard option job None sub
    entry_is = (λ i. entry_for t.shard job.id (of i) (is.receiver i) option) ∙ spelt_due t.shard job option sub

    room_is : fits (client_at r.conn next) (entry_for t.shard job.id tails r option)
        ≡ fits (client_at sub.conn next) (due_entry t.shard option job None sub)
    room_is = λ i. fits (client_at (same_conn i) next) (entry_is i)

    noted_is : t.copies ≡ false
        → with_noted r.serial (ends_at subs r) t ≡ with_given (placed_for t.shard option job None sub) sub t
    noted_is none =
        let put =
        sym (ap (λ b. t.put ++ copies_of b (placed_for t.shard option job None sub ∷ [])) none ∙ append-nil t.put) in
        let serial = ap (λ (x : Received). x.serial) is.receiver in
        let ends = ends_is subs job.message.subject r sub is in
        λ i. record t {
          put = put i;
          given = t.given ++ serial i ∷ [];
          ended = t.ended ++ (if ends i then serial i ∷ [] else []);
        }

    pub received_given : t.copies ≡ false
        → is_open r.conn next ≡ true
        → option ≡ takes_headers r.conn next
        → fits (client_at r.conn next) (entry_for t.shard job.id tails r option) ≡ true
        → after ≡ clients_with_change (with_entry (entry_for t.shard job.id tails r option)) r.conn next
        → t2 ≡ with_noted r.serial (ends_at subs r) t
        → Follows subs job (λ s w. walk_after_put s job w sub) next t after t2
    received_given none opened chosen room put noted =
        put_given subs job sub next after t t2 option (sym (ap (λ n. is_open n next) same_conn) ∙ opened)
        (chosen ∙ ap (λ n. takes_headers n next) same_conn) (sym room_is ∙ room)
        (put ∙ (λ i. clients_with_change (with_entry (entry_is i)) (same_conn i) next)) (noted ∙ noted_is none)

    pub received_shut : option ≡ takes_headers r.conn next
        → is_open r.conn next ≡ true
        → fits (client_at r.conn next) (entry_for t.shard job.id tails r option) ≡ false
        → after ≡ clients_with_change (with_last slow_consumer) r.conn next
        → t2 ≡ with_shut subs r.conn t
        → Follows subs job (λ s w. walk_after_put s job w sub) next t after t2
    received_shut chosen opened room put noted =
        put_shut subs job sub next after t t2 (sym (ap (λ n. is_open n next) same_conn) ∙ opened)
        (sym (ap (λ b. fits (client_at sub.conn next) (due_entry t.shard b job None sub))
        (chosen ∙ ap (λ n. takes_headers n next) same_conn)) ∙ sym room_is ∙ room)
        (put ∙ ap (λ n. clients_with_change (with_last slow_consumer) n next) same_conn)
        (noted ∙ ap (λ n. with_shut subs n t) same_conn)

  pub received_not_due : is_due_to job r ≡ false → Follows subs job (λ s w. put_if_due s job w sub) next t next t
  received_not_due out = passed_over subs job sub next t (sym (ap (is_due_to job) is.receiver) ∙ out)

  pub received_due : is_due_to job r ≡ true
      → Follows subs job (λ s w. walk_after_put s job w sub) next t after t2
      → Follows subs job (λ s w. put_if_due s job w sub) next t after t2
  received_due due step = put_as_due subs job sub next after t t2 (sym (ap (is_due_to job) is.receiver) ∙ due) step

-- ---- all of them

there : {A : Type 0} (xs : List A) (i : ℕ) (d : A) → i < length xs → In (get_or xs i d) xs
there [] i d within = absurd (omega arith)
there (x ∷ xs) zero d within = inl refl
there (x ∷ xs) (suc i) d within = inr (there xs i d (omega arith))

-- as far as the walk has come, and one receiver more
pub received_on : (subs : List Subscription) (job : Job) (us : List Subscription) (rs : List Received) (i : ℕ)
    (d : Received) (first next after : List Client) (t0 t t2 : Tallied)
    → AreRising subs
    → us ≡ filter (gets job.message.subject) subs
    → rs ≡ receivers_of job.message.subject us
    → i < length rs
    → ((sub : Subscription) → IsFoundAs subs job.message.subject (get_or rs i d) sub
    → Follows subs job (λ s w. put_if_due s job w sub) next t after t2)
    → Follows subs job (λ s w. walk_matching s job (take i us) w) first t0 next t
    → Follows subs job (λ s w. walk_matching s job (take (i + 1) us) w) first t0 after t2
received_on subs job [] rs i d first next after t0 t t2 rising of noted within step so_far =
    absurd (omega (arith, ap length noted))
received_on subs job (u ∷ vs) rs i d first next after t0 t t2 rising of noted within step so_far =
    let us = u ∷ vs in
    let inside : i < length us = omega (arith, ap length noted, length-map us (receiver_of job.message.subject)) in
    let sub : Subscription = get_or us i u in
    let open_one : In sub subs =
    (in_filter (gets job.message.subject) subs sub (subst (In sub) of (there us i u inside))).0 in
    let same : get_or rs i d ≡ receiver_of job.message.subject sub =
    ap (λ (l : List Received). get_or l i d) noted ∙ get_or-map (receiver_of job.message.subject) us i u d inside in
    walk_one_more subs job us i u first next after t0 t t2 inside so_far
    (step sub (record { found = found_by_serial subs sub rising open_one; receiver = same }))

none_due : (job : Job) (subject : List ℕ) (us : List Subscription)
    → filter (is_due_to job) (receivers_of subject us) ≡ []
    → filter (is_placed job) us ≡ []
none_due job subject [] none = refl
none_due job subject (u ∷ us) none = by (is_placed job u) none (none_due job subject us)
  where
    by : (b : Bool)
        → cond b (receiver_of subject u ∷ filter (is_due_to job) (receivers_of subject us))
        (filter (is_due_to job) (receivers_of subject us)) ≡ []
        → (filter (is_due_to job) (receivers_of subject us) ≡ [] → filter (is_placed job) us ≡ [])
        → cond b (u ∷ filter (is_placed job) us) (filter (is_placed job) us) ≡ []
    by true e rest = absurd (cc)
    by false e rest = rest e

-- the walk over all receivers is the walk over what is due
pub received_whole : (subs : List Subscription) (job : Job) (first next : List Client) (t0 t : Tallied)
    → Follows subs job (λ s w. walk_matching s job (filter (gets job.message.subject) subs) w) first t0 next t
    → Follows subs job (λ s w. walk s job (filter (is_due job) s.subs) w) first t0 next t
received_whole subs job first next t0 t walked copies s w of is =
    subst (λ v. IsTallied copies s job v next t)
    (walk_of_matching s job subs w ∙ ap (λ l. walk s job (filter (is_due job) l) w) (sym of)) (walked copies s w of is)

-- the job is due to none
pub received_by_none : (subs : List Subscription) (job : Job) (rs : List Received) (next : List Client) (t : Tallied)
    → rs ≡ receivers_of job.message.subject (filter (gets job.message.subject) subs)
    → filter (is_due_to job) rs ≡ []
    → Follows subs job (λ s w. walk s job (filter (is_due job) s.subs) w) next t next t
received_by_none subs job rs next t noted none =
    let us = filter (gets job.message.subject) subs in
    received_whole subs job next next t t
    (walk_of_none_due subs job us next t
    (none_due job job.message.subject us (sym (ap (filter (is_due_to job)) noted) ∙ none)))
