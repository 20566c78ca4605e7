-- Each event of a shard, as the cluster law's shard sees it.
use Rattle.std.proofs.Common.{◌≡◌, ◌≢◌, ◌⊎◌, ℕ, suc, ◌+◌, ◌≤◌, Bool, true, false, true≢false, cond, nat_eq, nat_lt, not, ◌&&◌, List, [], ◌∷◌, ◌++◌, map, length, is_none, Option, Some, None, refl, sym, ap, ◌∙◌, subst, inl, inr, ⊎_elim, arith, add-one}
use Rattle.std.specs.Prelude.{filter, slice_get}
use Rattle.std.specs.List.{list_any}
use Rattle.std.specs.Option.{option_or}
use Rattle.std.proofs.lemmas.Option.{none-some, same_Some}
use Rattle.list_laws.specs.Lists.{In, Each, Pairs, SubList}
use Rattle.list_laws.proofs.Lists.{get_some, in_left, in_map, in_read, pairs_append, pairs_map, each_append, each_one}
use Rattle.list_laws.proofs.Tests.{eq_true, and_true, no_end, lt_true, same_bytes, has_in, in_has}
use Rattle.list_laws.proofs.Changes.{append_nil, append_assoc, map_append, in_filter, pairs_filter, pairs_map_back, in_sub, in_mapped, sub_later}
use Rattle.cluster_law.specs.Config.{Config, every_rule}
use Rattle.cluster_law.specs.History as history
use Rattle.cluster_law.specs.Race.{Race, Keeps, WinsPair}
use Rattle.cluster_law.specs.Shard as law
use Rattle.subj.specs.declared.keys.Delta.{Delta}
use Rattle.sub_table.specs.Subscriptions.{gets, serial_of, with_max}
use Rattle.sub_table.specs.declared.Subscription.{Subscription}
use Rattle.subj.specs.Matching.{subject_matches}
use Rattle.subj.specs.QueueNames.{is_named}
use Rattle.subj.specs.declared.jobs.Job.{Job}
use Rattle.subj.specs.declared.keys.Key.{Key}
use Rattle.client_frames.specs.Frames.{reply_line}
use Rattle.outbox.specs.Views.{with_entry, reply_entry}
use Rattle.shard_core.specs.Shards.{State, Client, client_at, is_open, fits, clients_with_change}
use Rattle.shard_core.specs.Closings.{serials_of, is_left, left_of, without_subs}
use Rattle.shard_core.specs.Owed.{Walk, walk, whole_walk, walk_with_entry, walk_with_shut, first_step, is_due, is_plain, is_wanted, is_permitted, owed_entry, after_walk, sub_with_count, after_try, after_claim, candidate_of, candidate_named, is_candidate, slow_consumer}
use Rattle.shard_core.specs.ShardEvents.{Attach, Subscribe, Unsubscribe, Reply, SetHeaders, Shut, Detach, Take, Begin, Claim, End, DropJob, Drain, Collect}
use Rattle.shard_core.specs.ShardSteps.{sub_called, new_sub, after_subscribe, ended_now, after_unsubscribe, was_shut, answer_fits, done_with, begin_refusal, claim_refusal, end_refusal}
use Rattle.shard_core.specs.Lines.{Turns, SoundLine, HasJob, waiting_after, first_of, rest_of}
use Rattle.shard_core.specs.AsLaw.{Naming, job_of, hand_of, sub_of, shard_of, matching, ClaimMoves, given_by_claim, AreThese, opened_by, placements_for, LawStep, ShardFollows}
use Rattle.shard_core.proofs.Closings.Closed.{closed_of, closes, are_open, closed_in, serials_left, counted_sub, counted_serials, max_sub, max_serials}

-- ---- subscriptions close, or nothing is seen

-- those of a list of subscriptions whose serials are those of the shard
serials_sound : (ended : List ℕ) (opened : ℕ) (us subs : List Subscription)
    → serials_of us ≡ serials_of subs
    → Pairs (λ j k. j ≢ k) (serials_of subs)
    → Each (λ k. k ≤ opened) (serials_of subs)
    → Pairs (λ j k. j ≢ k) (serials_of (filter (is_left ended) us))
    × Each (λ k. k ≤ opened) (serials_of (filter (is_left ended) us))
serials_sound ended opened us subs same apart below = (
  subst (Pairs (λ j k. j ≢ k)) (sym (serials_left ended us))
      (pairs_filter (λ j k. j ≢ k) (λ j. not (list_any (nat_eq j) ended)) (serials_of us)
      (subst (Pairs (λ j k. j ≢ k)) (sym same) apart)),
  λ k i.
      subst (Each (λ j. j ≤ opened)) (sym same) below k
      ((in_filter (λ j. not (list_any (nat_eq j) ended)) (serials_of us) k (subst (In k) (serials_left ended us) i)).0),
)

closing : (c : Config) (names : Naming) (n inc now place issued : ℕ) (race after_race : Race) (s : State)
    (waiting : List Job) (clients : List Client) (deltas : List Delta) (ended : List ℕ)
    → Keeps c.window race after_race
    → SoundLine c.window issued s waiting
    → LawStep c names n inc now place issued race after_race s waiting
    (record s { clients = clients; deltas = deltas; subs = filter (is_left ended) s.subs }) waiting [] []
closing c names n inc now place issued race after_race s waiting clients deltas ended keeps sound = record {
  event = law.Close (closed_of ended s.subs);
  closed = closed_of ended s.subs;
  steps = (
    record {
      are_open = are_open ended s.subs sound.apart;
      out_is = refl;
      after = λ i. record (shard_of names n inc s waiting) { subscriptions = sym (closes ended s.subs) i };
    },
    keeps,
  );
  closes = λ k was now_not. closed_in ended s.subs k was now_not;
  sound =
      let left = serials_sound ended s.opened s.subs s.subs refl sound.apart sound.below in
      record { hand = sound.hand; turns = sound.turns; room = sound.room; apart = left.0; below = left.1 };
}

none_without : (us : List law.Subscription) → law.subs_without [] us ≡ us
none_without [] = refl
none_without (u ∷ us) = ap (λ t. u ∷ t) (none_without us)

quiet : (c : Config) (names : Naming) (n inc now place issued : ℕ) (race after_race : Race) (s : State)
    (waiting : List Job) (draining : Bool) (next_conn : ℕ) (clients : List Client) (deltas : List Delta)
    (us : List Subscription)
    → Keeps c.window race after_race
    → SoundLine c.window issued s waiting
    → map sub_of us ≡ map sub_of s.subs
    → serials_of us ≡ serials_of s.subs
    → LawStep c names n inc now place issued race after_race s waiting
    (record s { next_conn = next_conn; clients = clients; draining = draining; deltas = deltas; subs = us }) waiting []
    []
quiet c names n inc now place issued race after_race s waiting draining next_conn clients deltas us keeps sound same
    serials = record {
      event = law.Close [];
      closed = [];
      steps = (
        record {
          are_open = record { each_open = λ k i. absurd i; once = tt };
          out_is = refl;
          after = λ i. record (shard_of names n inc s waiting) {
            subscriptions = (same ∙ sym (none_without (map sub_of s.subs))) i;
          };
        },
        keeps,
      );
      closes = λ k was now_not. absurd (true≢false (sym was ∙ sym (ap (list_any (nat_eq k)) serials) ∙ now_not));
      sound = record {
        hand = sound.hand;
        turns = sound.turns;
        room = sound.room;
        apart = subst (Pairs (λ j k. j ≢ k)) (sym serials) sound.apart;
        below = subst (Each (λ j. j ≤ s.opened)) (sym serials) sound.below;
      };
    }

-- ---- a subscription opens

opens : (c : Config) (names : Naming) (n inc now place issued : ℕ) (race after_race : Race) (s : State)
    (waiting : List Job) (deltas : List Delta) (conn : ℕ) (key : Key) (sid : List ℕ)
    → Keeps c.window race after_race
    → SoundLine c.window issued s waiting
    → LawStep c names n inc now place issued race after_race s waiting
    (record s { opened = s.opened + 1; subs = s.subs ++ new_sub s conn key sid ∷ []; deltas = deltas }) waiting
    (opened_by n inc now place s conn key sid None) []
opens c names n inc now place issued race after_race s waiting deltas conn key sid keeps sound = record {
  event = law.Subscribe conn sid key.pattern key.queue;
  closed = [];
  steps = (
    record {
      out_is = λ i. record history.nothing {
        lives =
            record {
              id = law.life_id n inc place (add-one s.opened i);
              connection = conn;
              sid = sid;
              pattern = key.pattern;
              queue = key.queue;
              opened = now;
            } ∷ [];
      };
      after = λ i. record (shard_of names n inc s waiting) {
        serials = add-one s.opened i;
        subscriptions =
            (map_append sub_of s.subs (u ∷ [])
            ∙ ap (λ m.
            map sub_of s.subs
            ++ record { serial = m; connection = conn; sid = sid; pattern = key.pattern; queue = key.queue } ∷ [])
            (add-one s.opened))
            i;
      };
    },
    keeps,
  );
  closes = λ k was now_not.
      absurd (true≢false (sym
      (in_has k _ (subst (In k) (sym appended) (in_left k (serials_of s.subs) (u.serial ∷ []) (has_in k _ was))))
      ∙ now_not));
  sound = record {
    hand = sound.hand;
    turns = sound.turns;
    room = sound.room;
    apart =
        subst (Pairs (λ j k. j ≢ k)) (sym appended)
        (pairs_append (λ j k. j ≢ k) (serials_of s.subs) (u.serial ∷ []) sound.apart ((λ k i. absurd i), tt)
        (λ j k i l e. let b = sound.below j i in ⊎_elim (λ (f : k ≡ s.opened + 1). omega arith) (λ f. absurd f) l));
    below =
        subst (Each (λ j. j ≤ s.opened + 1)) (sym appended)
        (each_append (λ j. j ≤ s.opened + 1) (serials_of s.subs) (u.serial ∷ [])
        (λ j i. let b = sound.below j i in omega arith) (each_one (λ j. j ≤ s.opened + 1) u.serial (omega arith)));
  };
}
  where
    u : Subscription
    u = new_sub s conn key sid

    appended : serials_of (s.subs ++ new_sub s conn key sid ∷ []) ≡ serials_of s.subs ++ (s.opened + 1) ∷ []
    appended = map_append serial_of s.subs (new_sub s conn key sid ∷ [])

-- ---- Begin

-- the walk gives to some of those that are due, in their order
pub record Gave (due : List Subscription) (w after : Walk) : Type 0 where
  pub new : List Subscription
  pub given : after.given ≡ w.given ++ new
  pub some : SubList new due

pub walk_gives : (s : State) (job : Job) (due : List Subscription) (w : Walk) → Gave due w (walk s job due w)
walk_gives s job [] w = record { new = []; given = sym (append_nil w.given); some = tt }
walk_gives s job (u ∷ due) w =
    go (is_open u.conn w.clients) (fits (client_at u.conn w.clients) (owed_entry s.shard s.clients job None u))
    (walk_gives s job due)
  where
    later : (v : Walk) → v.given ≡ w.given → (r : Gave due v (walk s job due v)) → Gave (u ∷ due) w (walk s job due v)
    later v same r = record {
      new = r.new;
      given = r.given ∙ ap (λ t. t ++ r.new) same;
      some = sub_later r.new u due r.some;
    }

    here : (v : Walk)
        → v.given ≡ w.given ++ u ∷ []
        → (r : Gave due v (walk s job due v))
        → Gave (u ∷ due) w (walk s job due v)
    here v same r = record {
      new = u ∷ r.new;
      given = r.given ∙ ap (λ t. t ++ r.new) same ∙ append_assoc w.given (u ∷ []) r.new;
      some = inl (refl, r.some);
    }

    go : (o r : Bool)
        → ((v : Walk) → Gave due v (walk s job due v))
        → Gave (u ∷ due) w
        (walk s job due (cond o
        (cond r (walk_with_entry (owed_entry s.shard s.clients job None u) u w) (walk_with_shut s.subs u.conn w)) w))
    go false r below = later w refl (below w)
    go true true below =
        here (walk_with_entry (owed_entry s.shard s.clients job None u) u w) refl
        (below (walk_with_entry (owed_entry s.shard s.clients job None u) u w))
    go true false below = later (walk_with_shut s.subs u.conn w) refl (below (walk_with_shut s.subs u.conn w))

serials_apart : (us : List Subscription) → Pairs (λ j k. j ≢ k) (serials_of us) → Pairs (λ u v. u.serial ≢ v.serial) us
serials_apart us p = pairs_map_back (λ j k. j ≢ k) serial_of us p

plain_none : (q : Option (List ℕ)) → is_none q ≡ true → q ≡ None
plain_none None e = refl
plain_none (Some name) e = absurd (true≢false (sym e))

due_one : (job : Job) (subs : List Subscription) (u : Subscription)
    → In u (filter (is_due job) subs)
    → In u subs × (u.key.queue ≡ None) × (subject_matches u.key.pattern job.message.subject ≡ true)
due_one job subs u i =
    let at = in_filter (is_due job) subs u i in
    let both = and_true (is_plain u) (is_wanted job u) at.1 in
    (at.0, plain_none u.key.queue both.0, (and_true (gets job.message.subject u) (is_permitted job u) both.1).0)

begins : (c : Config) (names : Naming) (n inc now place issued : ℕ) (race after_race : Race) (sh : State) (job : Job)
    (rest : List Job) (subs : List Subscription) (w : Walk)
    → SoundLine c.window issued (record sh { hand = None }) (job ∷ rest)
    → Keeps c.window race after_race
    → Gave (filter (is_due job) sh.subs) (first_step sh.clients) w
    → AreThese w.given subs
    → LawStep c names n inc now place issued race after_race (record sh { hand = None }) (job ∷ rest)
    (after_walk (record sh { hand = Some job; next_index = 0 }) w) rest []
    (placements_for names n inc now place (Some job) subs)
begins c names n inc now place issued race after_race sh job rest subs w sound keeps gave these = record {
  event = law.Begin;
  closed = closed_of w.ended us;
  steps = (
    record {
      free = refl;
      job = job_of names n inc job;
      rest = map (job_of names n inc) rest;
      first = refl;
      turn = sound.turns.0;
      placed = map sub_of subs;
      owed = λ x i.
          let m = in_map sub_of subs x i in
          subst
          (law.IsOwedPlain (matching c) (shard_of names n inc (record sh { hand = None }) (job ∷ rest))
          (job_of names n inc job))
          (sym m.2) (owed m.0 m.1);
      once = pairs_map (λ u v. u.serial ≢ v.serial) sub_of subs these.once;
      closed = closed_of w.ended us;
      are_open =
          subst (λ t. law.AreOpen t (closed_of w.ended us)) same
          (are_open w.ended us (subst (Pairs (λ j k. j ≢ k)) (sym serials) sound.apart));
      out_is = refl;
      after = λ i. record (shard_of names n inc (record sh { hand = None }) (job ∷ rest)) {
        hand = Some (job_of names n inc job);
        next = 0;
        waiting = map (job_of names n inc) rest;
        subscriptions = (sym (closes w.ended us) ∙ ap (law.subs_without (closed_of w.ended us)) same) i;
      };
    },
    keeps,
  );
  closes = λ k was now_not. closed_in w.ended us k (ap (list_any (nat_eq k)) serials ∙ was) now_not;
  sound =
      let left = serials_sound w.ended sh.opened us sh.subs serials sound.apart sound.below in
      record {
        hand = λ j e. ap (λ (x : Job). x.turn) (sym (same_Some job j e)) ∙ sound.turns.0;
        turns = sound.turns.1;
        room = sound.room;
        apart = left.0;
        below = left.1;
      };
}
  where
    us : List Subscription
    us = map (sub_with_count (serials_of w.given)) sh.subs

    same : map sub_of (map (sub_with_count (serials_of w.given)) sh.subs) ≡ map sub_of sh.subs
    same = counted_sub (serials_of w.given) sh.subs

    serials : serials_of (map (sub_with_count (serials_of w.given)) sh.subs) ≡ serials_of sh.subs
    serials = counted_serials (serials_of w.given) sh.subs

    owed : (u : Subscription)
        → In u subs
        → law.IsOwedPlain (matching c) (shard_of names n inc (record sh { hand = None }) (job ∷ rest))
        (job_of names n inc job) (sub_of u)
    owed u i =
        let d = due_one job sh.subs u (in_sub gave.new _ gave.some u (subst (In u) gave.given (these.some u i))) in
        record { is_open = in_mapped sub_of sh.subs u d.0; plain = d.1; matches = d.2 }

-- ---- End and DropJob: the line goes on

finished_sound : (window issued : ℕ) (sh : State) (job : Job) (waiting : List Job)
    → SoundLine window issued (record sh { hand = Some job }) waiting
    → SoundLine window issued (done_with sh (Some job)) waiting
finished_sound window issued sh job waiting so =
    let turn = so.hand job refl in
    record {
      hand = λ j e. absurd (none-some j e);
      turns = subst (λ m. Turns m waiting issued) (sym turn) so.turns;
      room = let r = so.room in omega arith;
      apart = so.apart;
      below = so.below;
    }

ends : (c : Config) (names : Naming) (n inc now place issued : ℕ) (race after_race : Race) (sh : State) (job : Job)
    (waiting : List Job)
    → SoundLine c.window issued (record sh { hand = Some job }) waiting
    → Keeps c.window race after_race
    → sh.next_index ≡ length job.queues
    → LawStep c names n inc now place issued race after_race (record sh { hand = Some job }) waiting
    (done_with sh (Some job)) waiting [] []
ends c names n inc now place issued race after_race sh job waiting so keeps after_try = record {
  event = law.End;
  closed = [];
  steps = (
    record {
      job = job_of names n inc job;
      in_hand = refl;
      all_tried = after_try;
      out_is = refl;
      after = λ i. record (shard_of names n inc sh waiting) { finished = so.hand job refl i; hand = None; next = 0 };
    },
    keeps,
  );
  closes = λ k was now_not. absurd (true≢false (sym was ∙ now_not));
  sound = finished_sound c.window issued sh job waiting so;
}

drops : (c : Config) (names : Naming) (n inc now place issued : ℕ) (race after_race : Race) (sh : State)
    (hand : Option Job) (waiting rest : List Job) (job : Job)
    → Keeps c.window race after_race
    → job.turn ≡ suc sh.finished
    → ((hand ≡ Some job) × (rest ≡ waiting)) ⊎ ((hand ≡ None) × (waiting ≡ job ∷ rest))
    → SoundLine c.window issued (done_with sh (Some job)) rest
    → LawStep c names n inc now place issued race after_race (record sh { hand = hand }) waiting
    (done_with sh (Some job)) rest [] []
drops c names n inc now place issued race after_race sh hand waiting rest job keeps turn which sound = record {
  event = law.Drop;
  closed = [];
  steps = (
    record {
      job = job_of names n inc job;
      rest = map (job_of names n inc) rest;
      which =
          ⊎_elim (λ (h : (hand ≡ Some job) × (rest ≡ waiting)).
          inl (ap (hand_of names n inc) h.0, ap (map (job_of names n inc)) h.1))
          (λ (h : (hand ≡ None) × (waiting ≡ job ∷ rest)).
          inr (ap (hand_of names n inc) h.0, ap (map (job_of names n inc)) h.1, turn))
          which;
      out_is = refl;
      after = λ i. record (shard_of names n inc sh rest) { finished = turn i; hand = None; next = 0 };
    },
    keeps,
  );
  closes = λ k was now_not. absurd (true≢false (sym was ∙ now_not));
  sound = sound;
}

-- ---- Claim

just_one : (u : Subscription) (us : List Subscription)
    → In u us
    → Each (λ v. In v (u ∷ [])) us
    → Pairs (λ v w. v.serial ≢ w.serial) us
    → us ≡ u ∷ []
just_one u [] i h p = absurd i
just_one u (v ∷ []) i h p = ⊎_elim (λ (e : v ≡ u). ap (λ t. t ∷ []) e) (λ k. absurd k) (h v (inl refl))
just_one u (v ∷ w ∷ us) i h p =
    ⊎_elim (λ (e : v ≡ u).
    ⊎_elim (λ (f : w ≡ u). absurd (p.0 w (inl refl) (ap serial_of (e ∙ sym f)))) (λ k. absurd k) (h w (inr (inl refl))))
    (λ k. absurd k) (h v (inl refl))

empty : (us : List Subscription) → Each (λ u. In u []) us → us ≡ []
empty [] h = refl
empty (u ∷ us) h = absurd (h u (inl refl))

-- a claim that makes no placement: lost, or without a candidate
passes : (c : Config) (names : Naming) (n inc now place issued : ℕ) (race after_race : Race) (sh : State) (job : Job)
    (waiting : List Job) (name : List ℕ)
    → SoundLine c.window issued (record sh { hand = Some job }) waiting
    → Keeps c.window race after_race
    → slice_get job.queues sh.next_index ≡ Some name
    → LawStep c names n inc now place issued race after_race (record sh { hand = Some job }) waiting
    (after_try (record sh { hand = Some job })) waiting [] []
passes c names n inc now place issued race after_race sh job waiting name so keeps is = record {
  event = law.Claim;
  closed = [];
  steps =
      inr (record {
        job = job_of names n inc job;
        in_hand = refl;
        name = name;
        name_is = is;
        keeps = keeps;
        out_is = refl;
        after = λ i. record (shard_of names n inc (record sh { hand = Some job }) waiting) {
          next = add-one sh.next_index i;
        };
      });
  closes = λ k was now_not. absurd (true≢false (sym was ∙ now_not));
  sound = record { hand = so.hand; turns = so.turns; room = so.room; apart = so.apart; below = so.below };
}

wins : (c : Config) (names : Naming) (n inc now place issued : ℕ) (race after_race : Race) (sh : State) (job : Job)
    (waiting : List Job) (name : List ℕ) (u : Subscription) (w : Walk)
    → SoundLine c.window issued (record sh { hand = Some job }) waiting
    → WinsPair every_rule c.window race job.turn sh.next_index after_race
    → slice_get job.queues sh.next_index ≡ Some name
    → In u sh.subs
    → u.key.queue ≡ Some name
    → subject_matches u.key.pattern job.message.subject ≡ true
    → LawStep c names n inc now place issued race after_race (record sh { hand = Some job }) waiting
    (after_walk (after_try (record sh { hand = Some job })) w) waiting []
    (placements_for names n inc now place (Some job) (u ∷ []))
wins c names n inc now place issued race after_race sh job waiting name u w so pair is there queue matches = record {
  event = law.Claim;
  closed = closed_of w.ended us;
  steps =
      inl (record {
        job = job_of names n inc job;
        in_hand = refl;
        name = name;
        name_is = is;
        wins = pair;
        chosen = sub_of u;
        is_open = in_mapped sub_of sh.subs u there;
        member = queue;
        matches = matches;
        closed = closed_of w.ended us;
        are_open =
            subst (λ t. law.AreOpen t (closed_of w.ended us)) same
            (are_open w.ended us (subst (Pairs (λ j k. j ≢ k)) (sym serials) so.apart));
        out_is = refl;
        after = λ i. record (shard_of names n inc (record sh { hand = Some job }) waiting) {
          next = add-one sh.next_index i;
          subscriptions = (sym (closes w.ended us) ∙ ap (law.subs_without (closed_of w.ended us)) same) i;
        };
      });
  closes = λ k was now_not. closed_in w.ended us k (ap (list_any (nat_eq k)) serials ∙ was) now_not;
  sound =
      let left = serials_sound w.ended sh.opened us sh.subs serials so.apart so.below in
      record { hand = so.hand; turns = so.turns; room = so.room; apart = left.0; below = left.1 };
}
  where
    us : List Subscription
    us = map (sub_with_count (serials_of w.given)) sh.subs

    same : map sub_of (map (sub_with_count (serials_of w.given)) sh.subs) ≡ map sub_of sh.subs
    same = counted_sub (serials_of w.given) sh.subs

    serials : serials_of (map (sub_with_count (serials_of w.given)) sh.subs) ≡ serials_of sh.subs
    serials = counted_serials (serials_of w.given) sh.subs

named : (name : List ℕ) (q : Option (List ℕ)) → is_named name q ≡ true → q ≡ Some name
named name None e = absurd (true≢false (sym e))
named name (Some other) e = ap Some (same_bytes other name e)

-- a candidate is open, of the queue name, and matches
pub candidate_is : (s : State) (job : Job) (name : List ℕ) (u : Subscription)
    → candidate_named s job (Some name) ≡ Some u
    → In u s.subs × (u.key.queue ≡ Some name) × (subject_matches u.key.pattern job.message.subject ≡ true)
    × (fits (client_at u.conn s.clients) (owed_entry s.shard s.clients job (Some name) u) ≡ true)
candidate_is s job name u is =
    let f = in_filter (is_candidate s job name) s.subs u (in_read _ _ u is) in
    let d = and_true (is_named name u.key.queue)
    (is_wanted job u && fits (client_at u.conn s.clients) (owed_entry s.shard s.clients job (Some name) u)) f.1 in
    let g = and_true (is_wanted job u)
    (fits (client_at u.conn s.clients) (owed_entry s.shard s.clients job (Some name) u)) d.1 in
    (f.0, named name u.key.queue d.0, (and_true (gets job.message.subject u) (is_permitted job u) g.0).0, g.1)

claims : (c : Config) (names : Naming) (n inc now place issued index : ℕ) (won : Bool) (race after_race : Race)
    (sh : State) (hand : Option Job) (waiting : List Job) (subs : List Subscription)
    → SoundLine c.window issued (record sh { hand = hand }) waiting
    → claim_refusal (record sh { hand = hand }) index hand ≡ None
    → ClaimMoves c.window index hand (candidate_of (record sh { hand = hand }) hand index) won race after_race
    → AreThese (given_by_claim hand (candidate_of (record sh { hand = hand }) hand index) won) subs
    → LawStep c names n inc now place issued race after_race (record sh { hand = hand }) waiting
    (after_claim (record sh { hand = hand }) hand (candidate_of (record sh { hand = hand }) hand index) won) waiting []
    (placements_for names n inc now place hand subs)
claims c names n inc now place issued index won race after_race sh None waiting subs so e moves these =
    absurd (none-some _ (sym e))
claims c names n inc now place issued index won race after_race sh (Some job) waiting subs so e moves these =
    let both = and_true (nat_eq index sh.next_index) (nat_lt index (length job.queues)) (no_end _ _ e) in
    let at = eq_true index sh.next_index both.0 in
    let name = get_some job.queues index (lt_true index (length job.queues) both.1) in
    by (candidate_of s0 (Some job) index) refl won name.0 name.1 at moves these
  where
    s0 : State
    s0 = record sh { hand = Some job }

    -- without a placement
    passed : (name : List ℕ)
        → slice_get job.queues index ≡ Some name
        → index ≡ sh.next_index
        → Keeps c.window race after_race
        → AreThese [] subs
        → LawStep c names n inc now place issued race after_race (record sh { hand = Some job }) waiting
        (after_try (record sh { hand = Some job })) waiting [] (placements_for names n inc now place (Some job) subs)
    passed name here at keeps t =
        subst (λ us.
        LawStep c names n inc now place issued race after_race (record sh { hand = Some job }) waiting
        (after_try (record sh { hand = Some job })) waiting [] (placements_for names n inc now place (Some job) us))
        (sym (empty subs t.some))
        (passes c names n inc now place issued race after_race sh job waiting name so keeps
        (ap (slice_get job.queues) (sym at) ∙ here))

    by : (u : Option Subscription)
        → candidate_of (record sh { hand = Some job }) (Some job) index ≡ u
        → (b : Bool) (name : List ℕ)
        → slice_get job.queues index ≡ Some name
        → index ≡ sh.next_index
        → ClaimMoves c.window index (Some job) u b race after_race
        → AreThese (given_by_claim (Some job) u b) subs
        → LawStep c names n inc now place issued race after_race (record sh { hand = Some job }) waiting
        (after_claim (record sh { hand = Some job }) (Some job) u b) waiting []
        (placements_for names n inc now place (Some job) subs)
    by None is b name here at keeps t = passed name here at keeps t
    by (Some u) is false name here at keeps t = passed name here at keeps t
    by (Some u) is true name here at pair t =
        let k = candidate_is s0 job name u (sym (ap (candidate_named s0 job) here) ∙ is) in
        subst (λ us.
        LawStep c names n inc now place issued race after_race (record sh { hand = Some job }) waiting
        (after_walk (after_try (record sh { hand = Some job }))
        (walk_with_entry (owed_entry sh.shard sh.clients job u.key.queue u) u (first_step sh.clients)))
        waiting [] (placements_for names n inc now place (Some job) us))
        (sym (just_one u subs (t.all u (inl refl)) t.some t.once))
        (wins c names n inc now place issued race after_race sh job waiting name u
        (walk_with_entry (owed_entry sh.shard sh.clients job u.key.queue u) u (first_step sh.clients)) so
        (subst (λ m. WinsPair every_rule c.window race job.turn m after_race) at pair)
        (ap (slice_get job.queues) (sym at) ∙ here) k.0 k.1 k.2)

-- ---- each event

refused : {R : Type 0} (why : R) → Some why ≡ None → ⊥
refused why e = none-some why (sym e)

pub shards_follow_the_law : ShardFollows
shards_follow_the_law c names n inc now place issued race after_race s waiting Attach subs sound cause job keeps these =
    quiet c names n inc now place issued race after_race s waiting s.draining _ _ s.deltas s.subs keeps sound refl refl
shards_follow_the_law c names n inc now place issued race after_race s waiting (Subscribe conn key sid) subs sound cause
    job keeps these = go (sub_called conn sid s.subs)
  where
    go : (u : Option Subscription)
        → LawStep c names n inc now place issued race after_race s waiting
        (after_subscribe s (new_sub s conn key sid) u) waiting (opened_by n inc now place s conn key sid u) []
    go (Some u) =
        quiet c names n inc now place issued race after_race s waiting s.draining s.next_conn s.clients s.deltas s.subs
        keeps sound refl refl
    go None = opens c names n inc now place issued race after_race s waiting _ conn key sid keeps sound
shards_follow_the_law c names n inc now place issued race after_race s waiting (Unsubscribe conn sid max) subs sound
    cause job keeps these = go (sub_called conn sid s.subs)
  where
    by : (u : Subscription) (b : Bool)
        → LawStep c names n inc now place issued race after_race s waiting
        (cond b (without_subs (u.serial ∷ []) s) (record s { subs = with_max u.serial max s.subs })) waiting [] []
    by u true = closing c names n inc now place issued race after_race s waiting s.clients _ (u.serial ∷ []) keeps sound
    by u false =
        quiet c names n inc now place issued race after_race s waiting s.draining s.next_conn s.clients s.deltas _ keeps
        sound (max_sub u.serial max s.subs) (max_serials u.serial max s.subs)

    go : (u : Option Subscription)
        → LawStep c names n inc now place issued race after_race s waiting (after_unsubscribe s max u) waiting [] []
    go None =
        quiet c names n inc now place issued race after_race s waiting s.draining s.next_conn s.clients s.deltas s.subs
        keeps sound refl refl
    go (Some u) = by u (ended_now max u)
shards_follow_the_law c names n inc now place issued race after_race s waiting (Reply conn frame) subs sound cause job
    keeps these = go (answer_fits s conn (reply_line frame))
  where
    go : (b : Bool)
        → LawStep c names n inc now place issued race after_race s waiting
        (cond b
        (record s { clients = clients_with_change (with_entry (reply_entry (reply_line frame))) conn s.clients })
        (was_shut s conn slow_consumer))
        waiting [] []
    go true =
        quiet c names n inc now place issued race after_race s waiting s.draining s.next_conn _ s.deltas s.subs keeps
        sound refl refl
    go false = closing c names n inc now place issued race after_race s waiting _ _ (left_of conn [] s.subs) keeps sound
shards_follow_the_law c names n inc now place issued race after_race s waiting (SetHeaders conn on) subs sound cause job
    keeps these = quiet c names n inc now place issued race after_race s waiting s.draining s.next_conn _ s.deltas
    s.subs keeps sound refl refl
shards_follow_the_law c names n inc now place issued race after_race s waiting (Shut conn text) subs sound cause job
    keeps these =
    closing c names n inc now place issued race after_race s waiting _ _ (left_of conn [] s.subs) keeps sound
shards_follow_the_law c names n inc now place issued race after_race s waiting (Detach conn) subs sound cause job keeps
    these = closing c names n inc now place issued race after_race s waiting _ _ (left_of conn [] s.subs) keeps sound
shards_follow_the_law c names n inc now place issued race after_race s waiting (Take conn count) subs sound cause job
    keeps these = quiet c names n inc now place issued race after_race s waiting s.draining s.next_conn _ s.deltas
    s.subs keeps sound refl refl
shards_follow_the_law c names n inc now place issued race after_race s waiting (Begin job) subs sound cause first keeps
    these = go s.hand waiting sound cause first these
  where
    go : (hand : Option Job) (line : List Job)
        → SoundLine c.window issued (record s { hand = hand }) line
        → begin_refusal (record s { hand = hand }) job ≡ None
        → first_of line ≡ Some job
        → AreThese (whole_walk s job).given subs
        → LawStep c names n inc now place issued race after_race (record s { hand = hand }) line
        (after_walk (record s { hand = Some job; next_index = 0 }) (whole_walk s job)) (rest_of line) []
        (placements_for names n inc now place (Some job) subs)
    go (Some other) line so e f t = absurd (refused _ e)
    go None [] so e f t = absurd (none-some job f)
    go None (other ∷ rest) so e f t =
        subst (λ j.
        LawStep c names n inc now place issued race after_race (record s { hand = None }) (j ∷ rest)
        (after_walk (record s { hand = Some job; next_index = 0 }) (whole_walk s job)) rest []
        (placements_for names n inc now place (Some job) subs))
        (sym (same_Some other job f))
        (begins c names n inc now place issued race after_race s job rest subs (whole_walk s job)
        (subst (λ j. SoundLine c.window issued (record s { hand = None }) (j ∷ rest)) (same_Some other job f) so) keeps
        (walk_gives s job (filter (is_due job) s.subs) (first_step s.clients)) t)
shards_follow_the_law c names n inc now place issued race after_race s waiting (Claim index won) subs sound cause job
    moves these =
    claims c names n inc now place issued index won race after_race s s.hand waiting subs sound cause moves these
shards_follow_the_law c names n inc now place issued race after_race s waiting End subs sound cause job keeps these =
    go s.hand sound cause
  where
    go : (hand : Option Job)
        → SoundLine c.window issued (record s { hand = hand }) waiting
        → end_refusal (record s { hand = hand }) hand ≡ None
        → LawStep c names n inc now place issued race after_race (record s { hand = hand }) waiting
        (done_with (record s { hand = hand }) hand) waiting [] []
    go None so e = absurd (refused _ e)
    go (Some j) so e =
        ends c names n inc now place issued race after_race s j waiting so keeps
        (eq_true s.next_index (length j.queues) (no_end (nat_eq s.next_index (length j.queues)) _ e))
shards_follow_the_law c names n inc now place issued race after_race s waiting (DropJob next) subs sound cause job keeps
    these = go s.hand waiting sound job
  where
    go : (hand : Option Job) (line : List Job)
        → SoundLine c.window issued (record s { hand = hand }) line
        → HasJob hand (DropJob next) line
        → LawStep c names n inc now place issued race after_race (record s { hand = hand }) line
        (done_with (record s { hand = hand }) (option_or hand next)) (waiting_after hand (DropJob next) line) [] []
    go (Some j) line so has =
        drops c names n inc now place issued race after_race s (Some j) line line j keeps (so.hand j refl)
        (inl (refl, refl)) (finished_sound c.window issued s j line so)
    go None [] so has = absurd (none-some _ has.2)
    go None (j ∷ rest) so has =
        subst (λ x.
        LawStep c names n inc now place issued race after_race (record s { hand = None }) (j ∷ rest)
        (done_with (record s { hand = None }) (option_or None x)) rest [] [])
        (sym (has.1 ∙ sym has.2))
        (drops c names n inc now place issued race after_race s None (j ∷ rest) rest j keeps so.turns.0
        (inr (refl, refl))
        (let turn = so.turns.0 in
        record {
          hand = λ k f. absurd (none-some k f);
          turns = subst (λ m. Turns m rest issued) (sym turn) so.turns.1;
          room = let m = so.room in omega arith;
          apart = so.apart;
          below = so.below;
        }))
shards_follow_the_law c names n inc now place issued race after_race s waiting Drain subs sound cause job keeps these =
    quiet c names n inc now place issued race after_race s waiting true s.next_conn s.clients s.deltas s.subs keeps
    sound refl refl
shards_follow_the_law c names n inc now place issued race after_race s waiting Collect subs sound cause job keeps
    these = quiet c names n inc now place issued race after_race s waiting s.draining s.next_conn s.clients [] s.subs
    keeps sound refl refl
