-- What a shard puts for the jobs that it works: for a subscription those of later jobs come later, and for a queue name
-- of a job one at most.
use Rattle.std.proofs.Common.{◌≡◌, ◌≢◌, ℕ, ◌+◌, ◌<◌, ◌≤◌, Bool, true, false, true≢false, ◌&&◌, cond, nat_eq, nat_lt, List, [], ◌∷◌, ◌++◌, map, filter, length, Option, Some, None, Ok, is_some, not, refl, sym, ap, ◌∙◌, subst, inl, ⊎_elim, arith}
use Rattle.std.specs.Prelude.{slice_get, is_none, option_to_list, if◌then◌else◌}
use Rattle.std.specs.Option.{option_or}
use Rattle.std.proofs.lemmas.Option.{none-some, same_Some}
use Rattle.list_laws.specs.Lists.{In, Each, Pairs, NoRepeat}
use Rattle.list_laws.proofs.Lists.{each_append, each_one, pairs_append, pairs_map, pairs_weaker, in_left, in_right, in_map}
use Rattle.list_laws.proofs.Changes.{append_nil, in_filter, in_sub, map_append, map_map, pairs_filter, pairs_map_back, pairs_sub}
use Rattle.list_laws.proofs.Tests.{and_true, eq_true, eq_false, no_cause, no_end}
use Rattle.subj.specs.declared.jobs.Job.{Job}
use Rattle.outbox.specs.declared.entries.Tag.{Tag}
use Rattle.outbox.specs.declared.entries.Tag.TheVariants.{Msg}
use Rattle.sub_table.specs.Subscriptions.{serial_of}
use Rattle.sub_table.specs.declared.Subscription.{Subscription}
use Rattle.shard_core.specs.Causes.{AreHeld, sub_after, IsOpening}
use Rattle.shard_core.specs.Closings.{id_of}
use Rattle.shard_core.specs.Opened.{AreRising}
use Rattle.shard_core.specs.Owed.{candidate_of, candidate_named, after_claim, first_step, is_due, is_plain, is_wanted, mode_of, owed_placed, after_put, after_try, whole_walk}
use Rattle.shard_core.specs.ShardEvents.{Event, Attach, Subscribe, Unsubscribe, Reply, Shut, SetHeaders, Detach, Take, Begin, Claim, End, DropJob, Drain, Collect}
use Rattle.shard_core.specs.ShardSteps.{IsAsked, IsHanded, answer_fits, begin_refusal, sub_called, claim_refusal, claim_answer, done_with, end_refusal, ended_now, new_sub, shard_refusal, shard_after, shard_answer, after_subscribe, subscribe_answer, after_unsubscribe}
use Rattle.shard_core.specs.Shards.{State, new_shard}
use Rattle.shard_core.specs.declared.calls.Placed.{Placed}
use Rattle.shard_core.specs.declared.faults.ShardFault.TheVariants.{BadIndex, JobInHand, NoJob, WrongTurn}
use Rattle.shard_core.proofs.Closings.Causes.{one}
use Rattle.shard_core.proofs.Closings.Reasons.{subs_go_on}
use Rattle.shard_core.proofs.Closings.Whys.{subs_stay_held}
use Rattle.shard_core.proofs.Closings.Fixed.{fixed}
use Rattle.shard_core.proofs.Steps.LawEvents.{candidate_is, walk_gives}
use Rattle.node_threads.specs.Steps.{Done, Leads, claimed_in, claims_of, job_in, jobs_of, pair_of, placed_in, placed_by}

-- ---- what is put: of which job, for which queue name or none, and for which subscription

pub record Gave : Type 0 where
  pub job : Job
  pub queue : Option (List ℕ)
  pub serial : ℕ

abbrev gave_to : Job → Subscription → Gave
gave_to job sub = record { job = job; queue = sub.key.queue; serial = sub.serial }

abbrev gave_by_claim : Option Job → Option Subscription → Bool → List Gave
gave_by_claim None sub won = []
gave_by_claim (Some job) None won = []
gave_by_claim (Some job) (Some sub) won = cond won (gave_to job sub ∷ []) []

abbrev plain_to : Job → Subscription → Gave
plain_to job sub = record { job = job; queue = None; serial = sub.serial }

abbrev pub gave_in : State → Event → List Gave
gave_in s Attach = []
gave_in s (Subscribe conn key sid) = []
gave_in s (Unsubscribe conn sid max) = []
gave_in s (Reply conn frame) = []
gave_in s (Shut conn text) = []
gave_in s (Detach conn) = []
gave_in s (SetHeaders conn on) = []
gave_in s (Take conn count) = []
gave_in s (Begin job) = map (plain_to job) (whole_walk s job).given
gave_in s (Claim index won) = gave_by_claim s.hand (candidate_of s s.hand index) won
gave_in s End = []
gave_in s (DropJob waiting) = []
gave_in s Drain = []
gave_in s Collect = []

abbrev pub gave_by : List Done → List Gave
gave_by [] = []
gave_by (d ∷ earlier) = gave_by earlier ++ gave_in d.before d.event

-- ---- they are what answers tell

abbrev pub tag_at : ℕ → Gave → Tag
tag_at shard g = Msg g.job.id (id_of shard g.serial) (mode_of g.queue)

abbrev pub tags_of : List Placed → List Tag
tags_of puts = map (λ (p : Placed). p.entry.tag) puts

claim_tags : (s : State) (hand : Option Job) (u : Option Subscription) (won : Bool)
    → tags_of (placed_in (claim_answer s hand u won)) ≡ map (tag_at s.shard) (gave_by_claim hand u won)
claim_tags s None u won = refl
claim_tags s (Some job) None won = refl
claim_tags s (Some job) (Some u) true = refl
claim_tags s (Some job) (Some u) false = refl

step_tags : (s : State) (e : Event) → tags_of (placed_in (shard_answer s e)) ≡ map (tag_at s.shard) (gave_in s e)
step_tags s Attach = refl
step_tags s (Subscribe conn key sid) = go (sub_called conn sid s.subs)
  where
    go : (u : Option Subscription) → tags_of (placed_in (subscribe_answer s u)) ≡ []
    go None = refl
    go (Some u) = refl
step_tags s (Unsubscribe conn sid max) = refl
step_tags s (Reply conn frame) = refl
step_tags s (Shut conn text) = refl
step_tags s (Detach conn) = refl
step_tags s (SetHeaders conn on) = refl
step_tags s (Take conn count) = refl
step_tags s (Begin job) =
    map_map (owed_placed s.shard s.clients job None) (λ (p : Placed). p.entry.tag) (whole_walk s job).given
    ∙ sym (map_map (plain_to job) (tag_at s.shard) (whole_walk s job).given)
step_tags s (Claim index won) = claim_tags s s.hand (candidate_of s s.hand index) won
step_tags s End = refl
step_tags s (DropJob waiting) = refl
step_tags s Drain = refl
step_tags s Collect = refl

-- ---- what holds of them

-- of the job in hand: it is one of the subscriptions of this serial, and its queue name is one of those tried
pub record IsNow (s : State) (g : Gave) : Type 0 where
  hand : s.hand ≡ Some g.job
  key : Each (λ u. u.serial ≡ g.serial → u.key.queue ≡ g.queue) s.subs
  tried_name : (name : List ℕ)
      → g.queue ≡ Some name
      → (i : ℕ) × (i < s.next_index) × (slice_get g.job.queues i ≡ Some name)

pub record Fits (s : State) (jobs : List Job) (wins : List (ℕ × ℕ)) (g : Gave) : Type 0 where
  pub known : In g.job jobs
  turn : g.job.turn ≤ s.finished + 1
  serial : g.serial ≤ s.opened
  now : g.job.turn ≡ s.finished + 1 → IsNow s g
  pub won : (name : List ℕ)
      → g.queue ≡ Some name
      → (i : ℕ) × (slice_get g.job.queues i ≡ Some name) × In (g.job.turn, i) wins

-- of one subscription, jobs of rising turns
abbrev pub Later : Gave → Gave → Type 0
Later g h = g.serial ≡ h.serial → g.job.turn < h.job.turn

-- of one turn, no queue name twice
abbrev pub Other : Gave → Gave → Type 0
Other g h = g.job.turn ≡ h.job.turn → (name : List ℕ) → g.queue ≡ Some name → h.queue ≡ Some name → ⊥

pub record Given (s : State) (gs : List Gave) (jobs : List Job) (wins : List (ℕ × ℕ)) : Type 0 where
  held : AreHeld s
  turn : (job : Job) → s.hand ≡ Some job → job.turn ≡ s.finished + 1
  hand : (job : Job) → s.hand ≡ Some job → In job jobs
  pub each : Each (Fits s jobs wins) gs
  pub later : Pairs Later gs
  pub other : Pairs Other gs

-- ---- a subscription keeps its queue name

key_after : (s : State) (e : Event) (g : Gave)
    → AreHeld s
    → shard_refusal s e ≡ None
    → g.serial ≤ s.opened
    → Each (λ u. u.serial ≡ g.serial → u.key.queue ≡ g.queue) s.subs
    → Each (λ u. u.serial ≡ g.serial → u.key.queue ≡ g.queue) (shard_after s e).subs
key_after s e g held free low key u i same =
    ⊎_elim (λ (x : (old : Subscription) × In old s.subs × (u ≡ sub_after s e old)).
    ap (λ (z : Subscription). z.key.queue) x.2 ∙ key x.0 x.1 (sym (ap (λ (z : Subscription). z.serial) x.2) ∙ same))
    (λ (x : IsOpening s e u). let new = opens e x in absurd (omega arith)) (subs_go_on s e held free u i)
  where
    opens : (e : Event) → IsOpening s e u → u.serial ≡ s.opened + 1
    opens Attach x = absurd x
    opens (Subscribe conn k sid) x = ap (λ (z : Subscription). z.serial) x
    opens (Unsubscribe conn sid max) x = absurd x
    opens (Reply conn frame) x = absurd x
    opens (Shut conn text) x = absurd x
    opens (Detach conn) x = absurd x
    opens (SetHeaders conn on) x = absurd x
    opens (Take conn count) x = absurd x
    opens (Begin job) x = absurd x
    opens (Claim index won) x = absurd x
    opens End x = absurd x
    opens (DropJob waiting) x = absurd x
    opens Drain x = absurd x
    opens Collect x = absurd x

held_after : (s : State) (e : Event) → AreHeld s → shard_refusal s e ≡ None → IsAsked s e → AreHeld (shard_after s e)
held_after s e held free asked =
    subs_stay_held.step s e (Ok (shard_answer s e)) (shard_after s e)
    (record { cause = free; asked = asked; answered = refl; after = refl }) held

-- ---- what was put stays so

module _ (s : State) (e : Event) (gs : List Gave) (jobs : List Job) (wins : List (ℕ × ℕ)) (g : Given s gs jobs wins)
    (free : shard_refusal s e ≡ None) (asked : IsAsked s e) (more : List Job) (more_wins : List (ℕ × ℕ)) where
  abbrev t : State
  t = shard_after s e

  still : (x : Gave)
      → Fits s jobs wins x
      → (x.job.turn ≤ t.finished + 1)
      → (x.job.turn ≡ t.finished + 1 → IsNow t x)
      → Fits t (jobs ++ more) (wins ++ more_wins) x
  still x f turn now = record {
    known = in_left x.job jobs more f.known;
    turn = turn;
    serial = (let a = f.serial in let b = (fixed s e).opened in omega arith);
    now = now;
    won = λ name is. let w = f.won name is in (w.0, w.1, in_left (x.job.turn, w.0) wins more_wins w.2);
  }

  -- the job in hand stays
  goes_on : t.hand ≡ s.hand
      → t.finished ≡ s.finished
      → s.next_index ≤ t.next_index
      → Each (Fits t (jobs ++ more) (wins ++ more_wins)) gs
  goes_on hand finished next x i =
      let f = g.each x i in
      let turn = f.turn in
      still x f (omega arith) (λ now. let n = f.now (omega arith) in record {
        hand = hand ∙ n.hand;
        key = key_after s e x g.held free f.serial n.key;
        tried_name = λ name is. let k = n.tried_name name is in (k.0, (let lt = k.1 in omega arith), k.2);
      })

  -- there was none, or its turn is over
  is_over : t.finished ≡ s.finished + 1 → Each (Fits t (jobs ++ more) (wins ++ more_wins)) gs
  is_over finished x i =
      let f = g.each x i in let turn = f.turn in still x f (omega arith) (λ now. absurd (omega arith))

  has_none : s.hand ≡ None → t.finished ≡ s.finished → Each (Fits t (jobs ++ more) (wins ++ more_wins)) gs
  has_none none finished x i =
      let f = g.each x i in
      let turn = f.turn in
      still x f (omega arith) (λ now. absurd (none-some x.job (sym none ∙ (f.now (omega arith)).hand)))

  -- nothing is put
  puts_none : (new_turn : (job : Job) → t.hand ≡ Some job → job.turn ≡ t.finished + 1)
      (new_hand : (job : Job) → t.hand ≡ Some job → In job (jobs ++ more))
      → Each (Fits t (jobs ++ more) (wins ++ more_wins)) gs
      → Given t (gs ++ []) (jobs ++ more) (wins ++ more_wins)
  puts_none turn hand each =
      subst (λ xs. Given t xs (jobs ++ more) (wins ++ more_wins)) (sym (append_nil gs)) (record {
        held = held_after s e g.held free asked;
        turn = turn;
        hand = hand;
        each = each;
        later = g.later;
        other = g.other;
      })

  same_hand : t.hand ≡ s.hand
      → t.finished ≡ s.finished
      → s.next_index ≤ t.next_index
      → Given t (gs ++ []) (jobs ++ more) (wins ++ more_wins)
  same_hand hand finished next = puts_none
      (λ job is. let turn = g.turn job (sym hand ∙ is) in omega arith)
      (λ job is. in_left job jobs more (g.hand job (sym hand ∙ is)))
      (goes_on hand finished next)

  -- a job is done
  job_over : t.hand ≡ None → t.finished ≡ s.finished + 1 → Given t (gs ++ []) (jobs ++ more) (wins ++ more_wins)
  job_over none finished = puts_none
      (λ job is. absurd (none-some job (sym none ∙ is)))
      (λ job is. absurd (none-some job (sym none ∙ is)))
      (is_over finished)

-- ---- a job is begun

plain_none : (q : Option (List ℕ)) → is_none q ≡ true → q ≡ None
plain_none None e = refl
plain_none (Some name) e = absurd (true≢false (sym e))

distinct : (subs : List Subscription) → AreRising subs → Pairs (λ (u v : Subscription). u.serial ≢ v.serial) subs
distinct subs rising =
    pairs_weaker (λ (u v : Subscription). u.serial < v.serial) (λ (u v : Subscription). u.serial ≢ v.serial) subs
    (λ u v _ _ lt same. absurd (omega (arith, lt, same))) (pairs_map_back (λ (j k : ℕ). j < k) serial_of subs rising)

-- open, and without a queue name
record IsPlainOpen (s : State) (u : Subscription) : Type 0 where
  among : In u s.subs
  plain : u.key.queue ≡ None

walk_among : (s : State) (job : Job) → Each (IsPlainOpen s) (whole_walk s job).given
walk_among s job u i =
    let gave = walk_gives s job (filter (is_due job) s.subs) (first_step s.clients) in
    let due = in_sub gave.new (filter (is_due job) s.subs) gave.some u (subst (λ l. In u l) gave.given i) in
    let at = in_filter (is_due job) s.subs u due in
    record { among = at.0; plain = plain_none u.key.queue (and_true (is_plain u) (is_wanted job u) at.1).0 }

walk_apart : (s : State) (job : Job)
    → AreRising s.subs
    → Pairs (λ (u v : Subscription). u.serial ≢ v.serial) (whole_walk s job).given
walk_apart s job rising =
    let gave = walk_gives s job (filter (is_due job) s.subs) (first_step s.clients) in
    subst (Pairs (λ (u v : Subscription). u.serial ≢ v.serial)) (sym gave.given)
    (pairs_sub (λ (u v : Subscription). u.serial ≢ v.serial) gave.new (filter (is_due job) s.subs) gave.some
    (pairs_filter (λ (u v : Subscription). u.serial ≢ v.serial) (is_due job) s.subs (distinct s.subs rising)))

module _ (s : State) (job : Job) (gs : List Gave) (jobs : List Job) (wins : List (ℕ × ℕ)) (g : Given s gs jobs wins)
    (free : begin_refusal s job ≡ None) where
  abbrev begun_to : State
  begun_to = shard_after s (Begin job)

  abbrev news : List Gave
  news = map (plain_to job) (whole_walk s job).given

  none : s.hand ≡ None
  none =
      go s.hand
      (no_cause (is_some s.hand) JobInHand (if nat_eq job.turn (s.finished + 1) then None else Some WrongTurn) free).0
    where
      go : (o : Option Job) → is_some o ≡ false → o ≡ None
      go None e = refl
      go (Some x) e = absurd (true≢false e)

  next_turn : job.turn ≡ s.finished + 1
  next_turn =
      eq_true job.turn (s.finished + 1)
      (no_end (nat_eq job.turn (s.finished + 1)) WrongTurn
      (no_cause (is_some s.hand) JobInHand (if nat_eq job.turn (s.finished + 1) then None else Some WrongTurn) free).1)

  -- all that was put was for earlier turns
  earlier : (x : Gave) → In x gs → x.job.turn < job.turn
  earlier x i = go (nat_eq x.job.turn (s.finished + 1)) refl
    where
      go : (b : Bool) → nat_eq x.job.turn (s.finished + 1) ≡ b → x.job.turn < job.turn
      go true e = absurd (none-some x.job (sym none ∙ ((g.each x i).now (eq_true x.job.turn (s.finished + 1) e)).hand))
      go false e =
          let apart = eq_false x.job.turn (s.finished + 1) e in
          let low = (g.each x i).turn in
          let is = next_turn in
          omega arith

  new_fits : Each (Fits begun_to (jobs ++ job ∷ []) (wins ++ [])) news
  new_fits x i =
      let from = in_map (plain_to job) (whole_walk s job).given x i in
      subst (Fits begun_to (jobs ++ job ∷ []) (wins ++ [])) (sym from.2) (fits from.0 (walk_among s job from.0 from.1))
    where
      fits : (u : Subscription) → IsPlainOpen s u → Fits begun_to (jobs ++ job ∷ []) (wins ++ []) (plain_to job u)
      fits u p = record {
        known = in_right job jobs (job ∷ []) (inl refl);
        turn = (let is = next_turn in omega arith);
        serial = (let a = g.held.given u p.among in let b = (fixed s (Begin job)).opened in omega arith);
        now = λ now. record {
          hand = refl;
          key =
              key_after s (Begin job) (plain_to job u) g.held free (g.held.given u p.among) (λ v j same.
              ap (λ (z : Subscription). z.key.queue) (one s.subs g.held.rising v u j p.among same) ∙ p.plain);
          tried_name = λ name is. absurd (none-some name is);
        };
        won = λ name is. absurd (none-some name is);
      }

  new_later : Pairs Later news
  new_later =
      pairs_map Later (plain_to job) (whole_walk s job).given
      (pairs_weaker (λ (u v : Subscription). u.serial ≢ v.serial)
      (λ (u v : Subscription). Later (plain_to job u) (plain_to job v)) (whole_walk s job).given
      (λ u v _ _ apart same. absurd (apart same)) (walk_apart s job g.held.rising))

  new_other : Pairs Other news
  new_other =
      pairs_map Other (plain_to job) (whole_walk s job).given
      (pairs_weaker (λ (u v : Subscription). u.serial ≢ v.serial)
      (λ (u v : Subscription). Other (plain_to job u) (plain_to job v)) (whole_walk s job).given
      (λ u v _ _ apart same name is also. none-some name is) (walk_apart s job g.held.rising))

  of_job : (x : Gave) → In x news → (x.job ≡ job) × (x.queue ≡ None)
  of_job x i =
      let from = in_map (plain_to job) (whole_walk s job).given x i in
      (ap (λ (z : Gave). z.job) from.2, ap (λ (z : Gave). z.queue) from.2)

  begun_given : Given begun_to (gs ++ news) (jobs ++ job ∷ []) (wins ++ [])
  begun_given = record {
    held = held_after s (Begin job) g.held free tt;
    turn = λ j is. let same = same_Some job j is in let turn = next_turn in ap (λ (z : Job). z.turn) (sym same) ∙ turn;
    hand = λ j is. in_right j jobs (job ∷ []) (inl (sym (same_Some job j is)));
    each =
        each_append (Fits begun_to (jobs ++ job ∷ []) (wins ++ [])) gs news
        (has_none s (Begin job) gs jobs wins g free tt (job ∷ []) [] none refl) new_fits;
    later =
        pairs_append Later gs news g.later new_later
        (λ x y i j same. let lt = earlier x i in let is = ap (λ (z : Job). z.turn) (of_job y j).0 in omega arith);
    other =
        pairs_append Other gs news g.other new_other
        (λ x y i j same name is also. none-some name (sym (of_job y j).1 ∙ also));
  }

-- ---- a queue name is claimed

module _ (s : State) (index : ℕ) (won : Bool) (gs : List Gave) (jobs : List Job) (wins : List (ℕ × ℕ))
    (g : Given s gs jobs wins) (free : shard_refusal s (Claim index won) ≡ None) where
  -- the shard gives to a member
  module _ (job : Job) (sub : Subscription) (name : List ℕ) (hand : s.hand ≡ Some job) (next : index ≡ s.next_index)
      (names : NoRepeat job.queues) (at : slice_get job.queues index ≡ Some name) (among : In sub s.subs)
      (queue : sub.key.queue ≡ Some name) where
    -- of its job nothing was put for this queue name
    not_yet : (x : Gave) → In x gs → x.job.turn ≡ job.turn → x.queue ≡ Some name → ⊥
    not_yet x i same is =
        let now = (g.each x i).now (same ∙ g.turn job hand) in
        let k = now.tried_name name is in
        let of : x.job ≡ job = same_Some x.job job (sym now.hand ∙ hand) in
        let twice = names k.0 index name (subst (λ (j : Job). slice_get j.queues k.0 ≡ Some name) of k.2) at in
        let low = k.1 in
        absurd (omega arith)

    -- and nothing for this subscription
    earlier_sub : (x : Gave) → In x gs → x.serial ≡ sub.serial → x.job.turn < job.turn
    earlier_sub x i same = go (nat_eq x.job.turn (s.finished + 1)) refl
      where
        go : (b : Bool) → nat_eq x.job.turn (s.finished + 1) ≡ b → x.job.turn < job.turn
        go true e =
            let turn = eq_true x.job.turn (s.finished + 1) e in
            let now = (g.each x i).now turn in
            absurd (not_yet x i (turn ∙ sym (g.turn job hand)) (sym (now.key sub among (sym same)) ∙ queue))
        go false e =
            let apart = eq_false x.job.turn (s.finished + 1) e in
            let low = (g.each x i).turn in
            let is = g.turn job hand in
            omega arith

    gives : (t : State)
        → t ≡ shard_after s (Claim index won)
        → t.hand ≡ s.hand
        → t.finished ≡ s.finished
        → t.next_index ≡ s.next_index + 1
        → Given t (gs ++ gave_to job sub ∷ []) (jobs ++ []) (wins ++ (s.finished + 1, index) ∷ [])
    gives t is same_hand same_finished tried_next = record {
      held = subst AreHeld (sym is) (held_after s (Claim index won) g.held free tt);
      turn = λ j e. let turn = g.turn j (sym same_hand ∙ e) in omega arith;
      hand = λ j e. in_left j jobs [] (g.hand j (sym same_hand ∙ e));
      each =
          each_append (Fits t (jobs ++ []) (wins ++ (s.finished + 1, index) ∷ [])) gs (gave_to job sub ∷ [])
          (subst (λ z. Each (Fits z (jobs ++ []) (wins ++ (s.finished + 1, index) ∷ [])) gs) (sym is)
          (goes_on s (Claim index won) gs jobs wins g free tt [] ((s.finished + 1, index) ∷ [])
          (ap (λ (z : State). z.hand) (sym is) ∙ same_hand) (ap (λ (z : State). z.finished) (sym is) ∙ same_finished)
          (let n = ap (λ (z : State). z.next_index) is in omega arith)))
          (each_one (Fits t (jobs ++ []) (wins ++ (s.finished + 1, index) ∷ [])) (gave_to job sub) (record {
            known = in_left job jobs [] (g.hand job hand);
            turn = (let turn = g.turn job hand in omega arith);
            serial =
                (let a = g.held.given sub among in
                let b = (fixed s (Claim index won)).opened in
                let o = ap (λ (z : State). z.opened) is in
                omega arith);
            now = λ now. record {
              hand = same_hand ∙ hand;
              key =
                  subst (λ (z : State). Each (λ u. u.serial ≡ sub.serial → u.key.queue ≡ sub.key.queue) z.subs) (sym is)
                  (key_after s (Claim index won) (gave_to job sub) g.held free (g.held.given sub among)
                  (λ v j same. ap (λ (z : Subscription). z.key.queue) (one s.subs g.held.rising v sub j among same)));
              tried_name = λ other e. (index, (omega arith), at ∙ sym queue ∙ e);
            };
            won = λ other e. (
              index,
              at ∙ sym queue ∙ e,
              in_right (job.turn, index) wins ((s.finished + 1, index) ∷ [])
                  (inl (ap (λ n. (n, index)) (g.turn job hand))),
            );
          }));
      later =
          pairs_append Later gs (gave_to job sub ∷ []) g.later ((λ y i. absurd i), tt) (λ x y i j.
          ⊎_elim (λ (e : y ≡ gave_to job sub). subst (Later x) (sym e) (λ same. earlier_sub x i same))
          (λ (j : ⊥). absurd j) j);
      other =
          pairs_append Other gs (gave_to job sub ∷ []) g.other ((λ y i. absurd i), tt) (λ x y i j.
          ⊎_elim (λ (e : y ≡ gave_to job sub).
          subst (Other x) (sym e) (λ same n is also. not_yet x i same (is ∙ sym also ∙ queue)))
          (λ (j : ⊥). absurd j) j);
    }

  module _ (apart : Each (λ (j : Job). NoRepeat j.queues) jobs) where
    after_is : (hand : Option Job)
        → s.hand ≡ hand
        → (u : Option Subscription)
        → candidate_of s s.hand index ≡ u
        → (w : Bool)
        → won ≡ w
        → shard_after s (Claim index won) ≡ after_claim s hand u w
    after_is hand h u q w v = λ k. after_claim s (h k) (q k) (v k)

    nothing : (t : State)
        → shard_after s (Claim index won) ≡ t
        → t.hand ≡ s.hand
        → t.finished ≡ s.finished
        → t.next_index ≡ s.next_index + 1
        → Given t (gs ++ []) (jobs ++ []) (wins ++ [])
    nothing t is hand finished next =
        subst (λ z. Given z (gs ++ []) (jobs ++ []) (wins ++ [])) is
        (same_hand s (Claim index won) gs jobs wins g free tt [] [] (ap (λ (z : State). z.hand) is ∙ hand)
        (ap (λ (z : State). z.finished) is ∙ finished) (let n = ap (λ (z : State). z.next_index) is in omega arith))

    to_member : (job : Job) (sub : Subscription)
        → s.hand ≡ Some job
        → candidate_of s (Some job) index ≡ Some sub
        → (t : State)
        → t ≡ shard_after s (Claim index won)
        → t.hand ≡ s.hand
        → t.finished ≡ s.finished
        → t.next_index ≡ s.next_index + 1
        → Given t (gs ++ gave_to job sub ∷ []) (jobs ++ []) (wins ++ (s.finished + 1, index) ∷ [])
    to_member job sub hand is t after h f n = go (slice_get job.queues index) refl is
      where
        next : index ≡ s.next_index
        next =
            eq_true index s.next_index
            (and_true (nat_eq index s.next_index) (nat_lt index (length job.queues))
            (no_end (nat_eq index s.next_index && nat_lt index (length job.queues)) BadIndex
            (subst (λ o. claim_refusal s index o ≡ None) hand free))).0

        go : (o : Option (List ℕ))
            → slice_get job.queues index ≡ o
            → candidate_named s job o ≡ Some sub
            → Given t (gs ++ gave_to job sub ∷ []) (jobs ++ []) (wins ++ (s.finished + 1, index) ∷ [])
        go None at c = absurd (none-some sub c)
        go (Some name) at c =
            let of = candidate_is s job name sub c in
            gives job sub name hand next (apart job (g.hand job hand)) at of.0 of.1 t after h f n

    claimed_given : Given (shard_after s (Claim index won)) (gs ++ gave_in s (Claim index won)) (jobs ++ [])
        (wins ++ claimed_in s (Claim index won) true)
    claimed_given = go s.hand refl (candidate_of s s.hand index) refl won refl
      where
        go : (hand : Option Job)
            → s.hand ≡ hand
            → (u : Option Subscription)
            → candidate_of s s.hand index ≡ u
            → (w : Bool)
            → won ≡ w
            → Given (after_claim s hand u w) (gs ++ gave_by_claim hand u w) (jobs ++ [])
            (wins ++ (if (if true then w else not w) then pair_of (s.finished + 1) index u else []))
        go None h u q w v = absurd (none-some NoJob (sym (subst (λ o. claim_refusal s index o ≡ None) h free)))
        go (Some job) h None q true v = nothing (after_try s) (after_is (Some job) h None q true v) refl refl refl
        go (Some job) h None q false v = nothing (after_try s) (after_is (Some job) h None q false v) refl refl refl
        go (Some job) h (Some sub) q true v =
            to_member job sub h (ap (λ o. candidate_of s o index) (sym h) ∙ q) (after_put (after_try s) job sub)
            (sym (after_is (Some job) h (Some sub) q true v)) refl refl refl
        go (Some job) h (Some sub) q false v =
            nothing (after_try s) (after_is (Some job) h (Some sub) q false v) refl refl refl

-- ---- each step

record SameHand (s t : State) : Type 0 where
  hand : t.hand ≡ s.hand
  finished : t.finished ≡ s.finished
  next : t.next_index ≡ s.next_index

either : (s x y : State) (b : Bool) → SameHand s x → SameHand s y → SameHand s (cond b x y)
either s x y true f g = f
either s x y false f g = g

record IsOver (s t : State) : Type 0 where
  none : t.hand ≡ None
  finished : t.finished ≡ s.finished + 1

over_with : (s : State) (o : Option Job) (job : Job)
    → o ≡ Some job
    → job.turn ≡ s.finished + 1
    → IsOver s (done_with s o)
over_with s None job is turn = absurd (none-some job is)
over_with s (Some x) job is turn = record {
  none = refl;
  finished = ap (λ (z : Job). z.turn) (same_Some x job is) ∙ turn;
}

module _ (s : State) (gs : List Gave) (jobs : List Job) (wins : List (ℕ × ℕ)) (g : Given s gs jobs wins)
    (apart : Each (λ (j : Job). NoRepeat j.queues) jobs) where
  calm : (e : Event)
      → shard_refusal s e ≡ None
      → IsAsked s e
      → SameHand s (shard_after s e)
      → Given (shard_after s e) (gs ++ []) (jobs ++ []) (wins ++ [])
  calm e free asked h = same_hand s e gs jobs wins g free asked [] [] h.hand h.finished (let n = h.next in omega arith)

  ended : shard_refusal s End ≡ None → IsOver s (shard_after s End)
  ended free = go s.hand refl
    where
      go : (o : Option Job) → s.hand ≡ o → IsOver s (shard_after s End)
      go None h = absurd (none-some NoJob (sym (subst (λ o. end_refusal s o ≡ None) h free)))
      go (Some job) h = over_with s s.hand job h (g.turn job h)

  dropped : (waiting : Option Job) → IsAsked s (DropJob waiting) → IsOver s (shard_after s (DropJob waiting))
  dropped waiting asked = go s.hand refl waiting refl
    where
      go : (o : Option Job) → s.hand ≡ o → (w : Option Job) → waiting ≡ w → IsOver s (shard_after s (DropJob waiting))
      go (Some job) h w v = over_with s (option_or s.hand waiting) job (ap (λ o. option_or o waiting) h) (g.turn job h)
      go None h None v =
          absurd ((λ (a : IsHanded s.finished None None). a)
          (subst (λ o. IsHanded s.finished o None) h (subst (λ x. IsHanded s.finished s.hand x) v asked)))
      go None h (Some job) v =
          over_with s (option_or s.hand waiting) job (ap (λ o. option_or o waiting) h ∙ v)
          (subst (λ o. IsHanded s.finished o (Some job)) h (subst (λ x. IsHanded s.finished s.hand x) v asked))

  given_step : (e : Event)
      → shard_refusal s e ≡ None
      → IsAsked s e
      → Given (shard_after s e) (gs ++ gave_in s e) (jobs ++ job_in e) (wins ++ claimed_in s e true)
  given_step Attach free asked = calm Attach free asked (record { hand = refl; finished = refl; next = refl })
  given_step (Subscribe conn key sid) free asked =
      calm (Subscribe conn key sid) free asked (go (sub_called conn sid s.subs))
    where
      go : (u : Option Subscription) → SameHand s (after_subscribe s (new_sub s conn key sid) u)
      go None = record { hand = refl; finished = refl; next = refl }
      go (Some u) = record { hand = refl; finished = refl; next = refl }
  given_step (Unsubscribe conn sid max) free asked =
      calm (Unsubscribe conn sid max) free asked (go (sub_called conn sid s.subs))
    where
      go : (u : Option Subscription) → SameHand s (after_unsubscribe s max u)
      go None = record { hand = refl; finished = refl; next = refl }
      go (Some u) =
          either s _ _ (ended_now max u) (record { hand = refl; finished = refl; next = refl })
          (record { hand = refl; finished = refl; next = refl })
  given_step (Reply conn frame) free asked =
      calm (Reply conn frame) free asked
      (either s _ _ (answer_fits s conn _) (record { hand = refl; finished = refl; next = refl })
      (record { hand = refl; finished = refl; next = refl }))
  given_step (Shut conn text) free asked =
      calm (Shut conn text) free asked (record { hand = refl; finished = refl; next = refl })
  given_step (Detach conn) free asked =
      calm (Detach conn) free asked (record { hand = refl; finished = refl; next = refl })
  given_step (SetHeaders conn on) free asked =
      calm (SetHeaders conn on) free asked (record { hand = refl; finished = refl; next = refl })
  given_step (Take conn count) free asked =
      calm (Take conn count) free asked (record { hand = refl; finished = refl; next = refl })
  given_step (Begin job) free asked = begun_given s job gs jobs wins g free
  given_step (Claim index won) free asked = claimed_given s index won gs jobs wins g free apart
  given_step End free asked = let o = ended free in job_over s End gs jobs wins g free asked [] [] o.none o.finished
  given_step (DropJob waiting) free asked =
      let o = dropped waiting asked in
      job_over s (DropJob waiting) gs jobs wins g free asked (option_to_list waiting) [] o.none o.finished
  given_step Drain free asked = calm Drain free asked (record { hand = refl; finished = refl; next = refl })
  given_step Collect free asked = calm Collect free asked (record { hand = refl; finished = refl; next = refl })

-- ---- each run

module _ (shard shards : ℕ) where
  pub given_run : (h : List Done) (to : State)
      → Leads (new_shard shard shards) h to
      → Each (λ (j : Job). NoRepeat j.queues) (jobs_of h)
      → Given to (gave_by h) (jobs_of h) (claims_of true h)
  given_run [] to is apart =
      subst (λ s. Given s [] [] []) (sym is) (record {
        held = subs_stay_held.start shard shards;
        turn = λ job e. absurd (none-some job e);
        hand = λ job e. absurd (none-some job e);
        each = λ x i. absurd i;
        later = tt;
        other = tt;
      })
  given_run (d ∷ earlier) to (done, led) apart =
      let before = given_run earlier d.before led (λ j i. apart j (in_left j (jobs_of earlier) (job_in d.event) i)) in
      subst (λ s. Given s (gave_by (d ∷ earlier)) (jobs_of (d ∷ earlier)) (claims_of true (d ∷ earlier)))
      (sym done.after)
      (given_step d.before (gave_by earlier) (jobs_of earlier) (claims_of true earlier) before
      (λ j i. apart j (in_left j (jobs_of earlier) (job_in d.event) i)) d.event done.cause done.asked)

  number_stays : (h : List Done) (to : State) → Leads (new_shard shard shards) h to → to.shard ≡ shard
  number_stays [] to is = ap (λ (s : State). s.shard) is
  number_stays (d ∷ earlier) to (done, led) =
      ap (λ (s : State). s.shard) done.after ∙ (fixed d.before d.event).shard ∙ number_stays earlier d.before led

  pub tags_run : (h : List Done) (to : State)
      → Leads (new_shard shard shards) h to
      → tags_of (placed_by h) ≡ map (tag_at shard) (gave_by h)
  tags_run [] to is = refl
  tags_run (d ∷ earlier) to (done, led) =
      map_append (λ (p : Placed). p.entry.tag) (placed_by earlier) (placed_in d.answer)
      ∙ (λ k. tags_run earlier d.before led k ++ tags_of (placed_in (done.answered k)))
      ∙ ap (λ l. map (tag_at shard) (gave_by earlier) ++ l)
      (step_tags d.before d.event
      ∙ ap (λ n. map (tag_at n) (gave_in d.before d.event)) (number_stays earlier d.before led))
      ∙ sym (map_append (tag_at shard) (gave_by earlier) (gave_in d.before d.event))
