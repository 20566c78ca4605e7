-- The member that the code chooses is the candidate.
use Rattle.std.proofs.Common.{◌≡◌, ℕ, ◌+◌, ◌*◌, ◌^◌, ◌≤◌, ◌%◌, ◌&&◌, Bool, true, false, cond, List, [], ◌∷◌, length, filter, Option, Some, None, refl, sym, ap, ◌∙◌, subst, inl, inr, arith, ◌<◌}
use Rattle.std.specs.Prelude.{find, slice_get, option_map, is_some, All, nat_eq, nat_lt, nat_le, if◌then◌else◌}
use Rattle.std.proofs.lemmas.Bool.Decides.{nat_tests}
use Rattle.subj.specs.QueueNames.{are_queue_names}
use Rattle.shard_core.specs.ShardSteps.{claim_refusal}
use Rattle.shard_core.specs.declared.faults.ShardFault.TheVariants.{BadIndex}
use denote.Ref.{Bor}
use Rattle.std.proofs.lemmas.List.{length-map}
use Rattle.std.proofs.lemmas.Option.{slice_get-map}
use Rattle.list_laws.specs.Lists.{In}
use Rattle.list_laws.proofs.Lists.{in_read}
use Rattle.list_laws.proofs.Changes.{in_filter, in_mapped}
use Rattle.std.proofs.lemmas.List.Elements.{All-head, All-tail}
use Rattle.list_laws.proofs.Tests.{no_end, eq_true, le_true, and_true, same_bytes, true_eq, false_eq}
use Rattle.outbox.specs.Views.{Written, with_entry}
use Rattle.sub_table.specs.Subscriptions.{gets, has_serial, serial_of}
use Rattle.sub_table.specs.declared.Subscription.{Subscription}
use Rattle.subj.specs.declared.jobs.Job.{Job}
use Rattle.shard_core.specs.Shards.{State, Client, client_at, clients_with_change, fits}
use Rattle.shard_core.specs.Closings.{ended_ids}
use Rattle.subj.specs.QueueNames.{is_named}
use Rattle.shard_core.specs.Owed.{ended_by, after_try, after_claim, reaches, candidate_of, owed_entry, is_permitted, is_candidate, candidate_named, member_for_turn}
use Rattle.shard_core.specs.Opened.{Opened, AreRising, part_of, with_counts, with_closings}
use Rattle.shard_core.specs.Boxes.{Clients}
use Rattle.shard_core.specs.declared.calls.Candidate.{Candidate}
use Rattle.subj.specs.declared.limits.TheConstants.{MAX_QUEUE_NAMES}
use Rattle.shard_core.specs.Tallies.{lent_subs}
use Rattle.shard_core.specs.Claims.{is_member}
use Rattle.shard_core.specs.Held.{Held, IsWhole, ClaimsAreWhole, held_at_rest, ended_by_chosen, HasChosen, Chooses, IsSound, IsPossible, ArePossible, AreNumbered, shard_with, staged_for, staged_in, candidate_told, told_of, serial_told, with_serial, most_counts, each_turn, after_put_chosen}
use Rattle.shard_core.proofs.Steps.Kept.{sound, more_possible, numbered_changed, possible_left, possible_counted}

named : (name : List ℕ) (q : Option (List ℕ)) → is_named name q ≡ true → q ≡ Some name
named name None e = absurd (cc)
named name (Some other) e = ap Some (same_bytes other name e)

-- the candidates, in two tests
pub members_are : (shard : ℕ) (clients : List Client) (job : Job) (name : List ℕ) (all subs : List Subscription)
    → filter (is_member shard clients job name) (filter (gets job.message.subject) subs)
    ≡ filter (is_candidate (shard_with shard clients all) job name) subs
members_are shard clients job name all [] = refl
members_are shard clients job name all (sub ∷ subs) =
    by (gets job.message.subject sub) (is_named name sub.key.queue) refl (members_are shard clients job name all subs)
  where
    kept : List Subscription
    kept = filter (is_member shard clients job name) (filter (gets job.message.subject) subs)

    room : Option (List ℕ) → Bool
    room queue = fits (client_at sub.conn clients) (owed_entry shard clients job queue sub)

    by : (g n : Bool)
        → is_named name sub.key.queue ≡ n
        → filter (is_member shard clients job name) (filter (gets job.message.subject) subs)
        ≡ filter (is_candidate (shard_with shard clients all) job name) subs
        → filter (is_member shard clients job name)
        (cond g (sub ∷ filter (gets job.message.subject) subs) (filter (gets job.message.subject) subs))
        ≡ cond
        (n
        && ((g && is_permitted job sub)
        && fits (client_at sub.conn clients) (owed_entry shard clients job (Some name) sub)))
        (sub ∷ filter (is_candidate (shard_with shard clients all) job name) subs)
        (filter (is_candidate (shard_with shard clients all) job name) subs)
    by false true e rest = rest
    by false false e rest = rest
    by true false e rest = ap (λ b. cond (b && (is_permitted job sub && room sub.key.queue)) (sub ∷ kept) kept) e ∙ rest
    by true true e rest =
        ap (λ b. cond (b && (is_permitted job sub && room sub.key.queue)) (sub ∷ kept) kept) e
        ∙ ap (λ q. cond (is_permitted job sub && room q) (sub ∷ kept) kept) (named name sub.key.queue e)
        ∙ ap (λ l. cond (is_permitted job sub && room (Some name)) (sub ∷ l) l) rest

-- those that a test keeps of the subscriptions that are lent
pub lent_kept : (test : Subscription → Bool) (items : List (Bor Subscription))
    → lent_subs (filter (λ b. test b.now) items) ≡ filter test (lent_subs items)
lent_kept test [] = refl
lent_kept test (b ∷ items) = by (test b.now) (lent_kept test items)
  where
    by : (t : Bool) → lent_subs (filter (λ x. test x.now) items) ≡ filter test (lent_subs items)
        → lent_subs (cond t (b ∷ filter (λ x. test x.now) items) (filter (λ x. test x.now) items))
        ≡ cond t (b.now ∷ filter test (lent_subs items)) (filter test (lent_subs items))
    by true rest = ap (λ l. b.now ∷ l) rest
    by false rest = rest

-- an open subscription is found by its serial
pub found_by_serial : (subs : List Subscription) (u : Subscription)
    → AreRising subs
    → In u subs
    → find (has_serial u.serial) subs ≡ Some u
found_by_serial [] u rising there = absurd there
found_by_serial (v ∷ subs) u rising there = by there (found_by_serial subs u rising.1) where
  by : In u (v ∷ subs)
      → (In u subs → find (has_serial u.serial) subs ≡ Some u)
      → find (has_serial u.serial) (v ∷ subs) ≡ Some u
  by (inl same) more =
      subst (λ (x : Subscription). find (has_serial u.serial) (x ∷ subs) ≡ Some u) same
      (ap (λ b. cond b (Some u) (find (has_serial u.serial) subs)) (true_eq u.serial u.serial refl))
  by (inr later) more =
      let lt : v.serial < u.serial = rising.0 u.serial (in_mapped serial_of subs u later) in
      ap (λ b. cond b (Some v) (find (has_serial u.serial) subs))
      (false_eq v.serial u.serial (λ same. absurd (omega (arith, lt, same))))
      ∙ more later

empty_of : {A : Type 0} (xs : List A) → length xs ≡ 0 → xs ≡ []
empty_of [] e = refl
empty_of (x ∷ xs) e = absurd (omega arith)

module _ (copies : Bool) (shard : ℕ) (shown next : List Client) (job : Job) (name : List ℕ) (subs : List Subscription)
    (items : List (Bor Subscription)) (settled : next ≡ shown)
    (members : lent_subs items ≡ filter (is_member shard next job name) (filter (gets job.message.subject) subs)) where
  candidates : lent_subs items ≡ filter (is_candidate (shard_with shard shown subs) job name) subs
  candidates =
      members
      ∙ ap (λ (l : List Client). filter (is_member shard l job name) (filter (gets job.message.subject) subs)) settled
      ∙ members_are shard shown job name subs subs

  pub nobody_chosen : length items ≡ 0 → HasChosen copies (shard_with shard shown subs) job name None next
  nobody_chosen none =
      let e : candidate_named (shard_with shard shown subs) job (Some name) ≡ None =
      ap (member_for_turn job.turn) (sym candidates ∙ ap lent_subs (empty_of items none)) in
      record {
        told = sym (ap (option_map (candidate_told copies shard shown job)) e);
        chosen = sym e;
        staged = settled ∙ sym (ap (λ o. staged_for o (Some job) shard shown) e);
      }

  -- the one at the place of the turn
  module _ (i : ℕ) (b : Bor Subscription) (at : slice_get items i ≡ Some b) where
    there : In b.now (filter (is_member shard next job name) (filter (gets job.message.subject) subs))
    there = subst (In b.now) members (in_mapped (λ (x : Bor Subscription). x.now) items b (in_read items i b at))

    pub chosen_fits : (entry : Written)
        → entry ≡ owed_entry shard next job b.now.key.queue b.now
        → fits (client_at b.now.conn next) entry ≡ true
    chosen_fits entry due =
        let both = and_true (is_named name b.now.key.queue) _
        (in_filter (is_member shard next job name) (filter (gets job.message.subject) subs) b.now there).1 in
        ap (fits (client_at b.now.conn next)) due
        ∙ (and_true (is_permitted job b.now)
        (fits (client_at b.now.conn next) (owed_entry shard next job b.now.key.queue b.now)) both.1).1

    pub one_chosen : (entry : Written) (candidate : Candidate) (after : List Client)
        → candidate ≡ candidate_told copies shard next job b.now
        → AreRising subs
        → i ≡ job.turn % length items
        → entry ≡ owed_entry shard next job b.now.key.queue b.now
        → after ≡ clients_with_change (with_entry entry) b.now.conn next
        → HasChosen copies (shard_with shard shown subs) job name (Some candidate) after
    one_chosen entry candidate after is rising place due put =
        let size : length (lent_subs items) ≡ length items = length-map items (λ (x : Bor Subscription). x.now) in
        let here : slice_get (lent_subs items) (job.turn % length (lent_subs items)) ≡ Some b.now =
        ap (λ n. slice_get (lent_subs items) (job.turn % n)) size
        ∙ ap (slice_get (lent_subs items)) (sym place)
        ∙ slice_get-map (λ (x : Bor Subscription). x.now) items i
        ∙ ap (option_map (λ (x : Bor Subscription). x.now)) at in
        let e : candidate_named (shard_with shard shown subs) job (Some name) ≡ Some b.now =
        ap (member_for_turn job.turn) (sym candidates) ∙ here in
        let is_open : In b.now subs =
        (in_filter (is_candidate (shard_with shard shown subs) job name) subs b.now
        (subst (In b.now) candidates (in_mapped (λ (x : Bor Subscription). x.now) items b (in_read items i b at)))).0 in
        record {
          told =
              ap Some is
              ∙ ap (λ (l : List Client). Some (candidate_told copies shard l job b.now)) settled
              ∙ sym (ap (option_map (candidate_told copies shard shown job)) e);
          chosen =
              ap (λ (c : Candidate). with_serial (Some c.sub.serial) subs) is
              ∙ found_by_serial subs b.now rising is_open
              ∙ sym e;
          staged =
              put
              ∙ ap (λ x. clients_with_change (with_entry x) b.now.conn next) due
              ∙ ap (λ (l : List Client).
              clients_with_change (with_entry (owed_entry shard l job b.now.key.queue b.now)) b.now.conn l)
              settled
              ∙ sym (ap (λ o. staged_for o (Some job) shard shown) e);
        }

-- ---- the candidate that stands

module _ (copies : Bool) (s : State) (job : Job) (index : ℕ) (name : List ℕ) (candidate : Option Candidate)
    (serial : Option ℕ) (drop conns : Clients) (hand : s.hand ≡ Some job) (at : slice_get job.queues index ≡ Some name)
    (dropped : drop ≡ record { shown = s.clients; next = s.clients }) (shown : conns.shown ≡ drop.shown)
    (has : HasChosen copies (shard_with s.shard drop.shown s.subs) job name candidate conns.next)
    (of : serial ≡ serial_told candidate) where
  clients : conns.shown ≡ s.clients
  clients = shown ∙ ap (λ (c : Clients). c.shown) dropped

  chose : HasChosen copies (shard_with s.shard s.clients s.subs) job name candidate conns.next
  chose =
      subst (λ (c : Clients). HasChosen copies (shard_with s.shard c.shown s.subs) job name candidate conns.next)
      dropped has

  candidate_is : candidate_of s s.hand index ≡ candidate_named (shard_with s.shard s.clients s.subs) job (Some name)
  candidate_is = ap (λ h. candidate_of s h index) hand ∙ ap (candidate_named s job) at

  standing : with_serial serial s.subs ≡ candidate_named (shard_with s.shard s.clients s.subs) job (Some name)
  standing = ap (λ n. with_serial n s.subs) of ∙ chose.chosen

  pub chooses : (c0 : Option Subscription)
      → Chooses copies (record { state = s; chosen = c0 }) index candidate (record {
        state = record s { next_index = s.next_index + 1; clients = conns.shown };
        chosen = with_serial serial s.subs;
      })
  chooses c0 = record {
    told =
        chose.told
        ∙ sym (ap (option_map (candidate_told copies s.shard s.clients job)) candidate_is)
        ∙ sym (ap (λ h. told_of copies s.shard s.clients h (candidate_of s s.hand index)) hand);
    after = λ k. record {
      state = record s { next_index = s.next_index + 1; clients = clients k };
      chosen = (standing ∙ sym candidate_is) k;
    };
  }

  more_counts : (member_for_turn now : Option Subscription)
      → most_counts (Some job) member_for_turn s.finished s.next_index
      ≤ most_counts (Some job) now s.finished (s.next_index + 1)
  more_counts None None = omega arith
  more_counts None (Some u) = omega arith
  more_counts (Some v) None = omega arith
  more_counts (Some v) (Some u) = omega arith

  pub sound_chosen : (member_for_turn : Option Subscription) (next : List Client)
      → IsSound s member_for_turn next
      → s.next_index + 1 ≤ MAX_QUEUE_NAMES
      → IsSound (record s { next_index = s.next_index + 1; clients = conns.shown }) (with_serial serial s.subs)
      conns.next
  sound_chosen member_for_turn next was few = record {
    numbered = subst (AreNumbered s.shards s.next_conn) (sym clients) was.numbered;
    turns = record { last = was.turns.last; tried = few; turn = was.turns.turn };
    possible =
        more_possible s.opened s.opened (most_counts s.hand member_for_turn s.finished s.next_index)
        (most_counts s.hand (with_serial serial s.subs) s.finished (s.next_index + 1)) s.subs (omega arith)
        (subst (λ h.
        most_counts h member_for_turn s.finished s.next_index
        ≤ most_counts h (with_serial serial s.subs) s.finished (s.next_index + 1))
        (sym hand) (more_counts member_for_turn (with_serial serial s.subs)))
        was.possible;
    staged =
        chose.staged
        ∙ ap (λ o. staged_for o (Some job) s.shard s.clients) (sym standing)
        ∙ ap (λ h. staged_for (with_serial serial s.subs) h s.shard s.clients) (sym hand)
        ∙ ap (staged_for (with_serial serial s.subs) s.hand s.shard) (sym clients);
  }

pub claims_next : (s : State) (job : Job) (index : ℕ)
    → s.hand ≡ Some job
    → index ≡ s.next_index
    → index < length job.queues
    → claim_refusal s index s.hand ≡ None
claims_next s job index hand next lt =
    let tests : (nat_eq index s.next_index && nat_lt index (length job.queues)) ≡ true =
    ap (λ b. b && nat_lt index (length job.queues)) (true_eq index s.next_index next)
    ∙ is_less index (length job.queues) lt in
    ap (claim_refusal s index) hand ∙ ap (λ b. if b then None else Some BadIndex) tests
  where
    is_less : (a b : ℕ) → a < b → nat_lt a b ≡ true
    is_less a b below = grind (arith, nat_tests)

pub few_tried : (s : State) (job : Job) (index : ℕ)
    → index ≡ s.next_index
    → index < length job.queues
    → are_queue_names job.queues ≡ true
    → s.next_index + 1 ≤ MAX_QUEUE_NAMES
few_tried s job index next lt valid =
    let few =
    le_true (length job.queues) MAX_QUEUE_NAMES (and_true (nat_le (length job.queues) MAX_QUEUE_NAMES) _ valid).0 in
    omega (arith, few, lt, next)

-- ---- it is placed

found_serial : (serial : ℕ) (subs : List Subscription) (u : Subscription)
    → find (has_serial serial) subs ≡ Some u
    → (u.serial ≡ serial) × In u subs
found_serial serial [] u e = absurd (cc)
found_serial serial (v ∷ subs) u e = by (has_serial serial v) refl e (found_serial serial subs u) where
  by : (b : Bool)
      → has_serial serial v ≡ b
      → cond b (Some v) (find (has_serial serial) subs) ≡ Some u
      → (find (has_serial serial) subs ≡ Some u → (u.serial ≡ serial) × In u subs)
      → (u.serial ≡ serial) × In u (v ∷ subs)
  by true is f more = let same : v ≡ u = cc in (sym (ap serial_of same) ∙ eq_true v.serial serial is, inl (sym same))
  by false is f more = let it = more f in (it.0, inr it.1)

all_in : (P : Subscription → Type 0) (subs : List Subscription) (u : Subscription) → All P subs → In u subs → P u
all_in P [] u all there = absurd there
all_in P (v ∷ subs) u all there = by there (all_in P subs u (All-tail P v subs all)) where
  by : In u (v ∷ subs) → (In u subs → P u) → P u
  by (inl same) more = subst P (sym same) (All-head P v subs all)
  by (inr later) more = more later

pub some_of : {A : Type 0} (o : Option A) → is_some o ≡ true → (x : A) × (o ≡ Some x)
some_of None e = absurd (cc)
some_of (Some x) e = (x, refl)

module _ (s : State) (job : Job) (next : List Client) (serial : ℕ) (sub : Subscription) (hand : s.hand ≡ Some job)
    (found : find (has_serial serial) s.subs ≡ Some sub) (was : IsSound s (find (has_serial serial) s.subs) next) where
  pub same : sub.serial ≡ serial
  same = (found_serial serial s.subs sub found).0

  abbrev entry : Written
  entry = owed_entry s.shard s.clients job sub.key.queue sub

  stands : next ≡ clients_with_change (with_entry entry) sub.conn s.clients
  stands =
      was.staged
      ∙ ap (λ o. staged_for o s.hand s.shard s.clients) found
      ∙ ap (λ h. staged_in h sub s.shard s.clients) hand

  counts : ArePossible s.opened (s.finished * each_turn + s.next_index) s.subs
  counts =
      subst (λ (h : Option Job). ArePossible s.opened (most_counts h (Some sub) s.finished s.next_index) s.subs) hand
      (subst (λ (o : Option Subscription). ArePossible s.opened (most_counts s.hand o s.finished s.next_index) s.subs)
      found was.possible)

  pub can_count : sub.delivered + 1 < 2 ^ 64
  can_count =
      let it =
      (all_in (λ (u : Subscription). IsPossible s.opened (s.finished * each_turn + s.next_index) u) s.subs sub counts
      (found_serial serial s.subs sub found).1).delivered in
      let last = was.turns.last in
      let after_try = was.turns.tried in
      omega arith

  -- the parts behind a placing
  after : List ℕ → Opened
  after ended = with_closings ended (with_counts (serial ∷ []) (part_of s))

  placed_is : after_put_chosen s s.hand (find (has_serial serial) s.subs)
      ≡ (let o = with_closings (ended_by sub) (with_counts (sub.serial ∷ []) (part_of s)) in
      record s {
        clients = clients_with_change (with_entry entry) sub.conn s.clients;
        subs = o.subs;
        deltas = o.deltas;
      })
  placed_is = ap (after_put_chosen s s.hand) found ∙ ap (λ h. after_put_chosen s h (Some sub)) hand

  pub placed_with : (ended : List ℕ) (conns : Clients) (openings : Opened)
      → ended ≡ ended_by sub
      → conns ≡ record { shown = next; next = next }
      → openings ≡ with_closings ended (with_counts (serial ∷ []) (part_of s))
      → ◌≡◌ {A = State} (record s { clients = conns.shown; subs = openings.subs; deltas = openings.deltas })
      (after_put_chosen s s.hand (find (has_serial serial) s.subs))
  placed_with ended conns openings ends shown is =
      let o : openings ≡ with_closings (ended_by sub) (with_counts (sub.serial ∷ []) (part_of s)) =
      is
      ∙ ap (λ l. with_closings l (with_counts (serial ∷ []) (part_of s))) ends
      ∙ ap (λ n. with_closings (ended_by sub) (with_counts (n ∷ []) (part_of s))) (sym same) in
      let c : conns.shown ≡ clients_with_change (with_entry entry) sub.conn s.clients =
      ap (λ (x : Clients). x.shown) shown ∙ stands in
      (λ k. record s { clients = c k; subs = (o k).subs; deltas = (o k).deltas }) ∙ sym placed_is

  pub sound_with : (ended : List ℕ) (conns : Clients) (openings : Opened) (now : Option ℕ)
      → now ≡ None
      → conns ≡ record { shown = next; next = next }
      → openings ≡ with_closings ended (with_counts (serial ∷ []) (part_of s))
      → IsSound (record s { clients = conns.shown; subs = openings.subs; deltas = openings.deltas })
      (with_serial now openings.subs) conns.next
  sound_with ended conns openings now none shown is =
      subst (λ (c : Clients).
      IsSound (record s { clients = c.shown; subs = openings.subs; deltas = openings.deltas })
      (with_serial now openings.subs) c.next)
      (sym shown)
      (sound (record s { clients = next; subs = openings.subs; deltas = openings.deltas }) now next none
      (subst (AreNumbered s.shards s.next_conn) (sym stands)
      (numbered_changed s.shards s.next_conn (with_entry entry) sub.conn s.clients was.numbered))
      was.turns
      (subst (λ (h : Option Job). ArePossible s.opened (most_counts h None s.finished s.next_index) openings.subs)
      (sym hand)
      (subst (λ (o : Opened). ArePossible s.opened (s.finished * each_turn + s.next_index + 1) o.subs) (sym is)
      (possible_left s.opened _ ended _
      (possible_counted s.opened (s.finished * each_turn + s.next_index) (serial ∷ []) s.subs counts))))
      refl)

pub ends_none : (sub : Subscription) → reaches sub.max (sub.delivered + 1) ≡ false → [] ≡ ended_by sub
ends_none sub e = sym (ap (λ b. if b then sub.serial ∷ [] else []) e)

pub ends_one : (sub : Subscription) (serial : ℕ)
    → sub.serial ≡ serial
    → reaches sub.max (sub.delivered + 1) ≡ true
    → serial ∷ [] ≡ ended_by sub
ends_one sub serial same e = ap (λ n. n ∷ []) (sym same) ∙ sym (ap (λ b. if b then sub.serial ∷ [] else []) e)

pub serial_is : (serial : ℕ) (subs : List Subscription) (sub : Subscription)
    → find (has_serial serial) subs ≡ Some sub
    → sub.serial ≡ serial
serial_is serial subs sub found = (found_serial serial subs sub found).0

module _ (s : State) (next : List Client) (member_for_turn : Option ℕ) (serial : ℕ) (sub : Subscription) (held : Held)
    (view : ◌≡◌ {A = Held} (record { state = s; chosen = with_serial member_for_turn s.subs }) held)
    (some : is_some held.state.hand ≡ true) (is : member_for_turn ≡ Some serial)
    (found : find (has_serial serial) s.subs ≡ Some sub)
    (sound_was : IsSound s (with_serial member_for_turn s.subs) next) where
  in_hand : (job : Job) × (s.hand ≡ Some job)
  in_hand = some_of s.hand (ap (λ (h : Held). is_some h.state.hand) view ∙ some)

  was : IsSound s (find (has_serial serial) s.subs) next
  was = subst (λ o. IsSound s (with_serial o s.subs) next) is sound_was

  pub place_counts : sub.delivered + 1 < 2 ^ 64
  place_counts = can_count s in_hand.0 next serial sub in_hand.1 found was

  pub place_done : (ended : List ℕ) (conns : Clients) (openings : Opened) (now : Option ℕ)
      → ended ≡ ended_by sub
      → conns ≡ record { shown = next; next = next }
      → openings ≡ with_closings ended (with_counts (serial ∷ []) (part_of s))
      → now ≡ None
      → ◌≡◌ {A = Held} (record {
        state = record s { clients = conns.shown; subs = openings.subs; deltas = openings.deltas };
        chosen = with_serial now openings.subs;
      })
      (held_at_rest (after_put_chosen held.state held.state.hand held.chosen))
  place_done ended conns openings now ends shown closes none =
      let placed = placed_with s in_hand.0 next serial sub in_hand.1 found was ended conns openings ends shown closes in
      subst (λ (h : Held).
      ◌≡◌ {A = Held} (record {
        state = record s { clients = conns.shown; subs = openings.subs; deltas = openings.deltas };
        chosen = with_serial now openings.subs;
      })
      (held_at_rest (after_put_chosen h.state h.state.hand h.chosen)))
      view (λ k. record {
        state = (placed ∙ ap (λ o. after_put_chosen s s.hand (with_serial o s.subs)) (sym is)) k;
        chosen = ap (λ o. with_serial o openings.subs) none k;
      })

  pub place_sound : (ended : List ℕ) (conns : Clients) (openings : Opened) (now : Option ℕ)
      → now ≡ None
      → conns ≡ record { shown = next; next = next }
      → openings ≡ with_closings ended (with_counts (serial ∷ []) (part_of s))
      → IsSound (record s { clients = conns.shown; subs = openings.subs; deltas = openings.deltas })
      (with_serial now openings.subs) conns.next
  place_sound ended conns openings now none shown closes =
      sound_with s in_hand.0 next serial sub in_hand.1 found was ended conns openings now none shown closes

  pub place_ended : (ended : List ℕ)
      → ended ≡ ended_by sub
      → ended_ids s.shard ended ≡ ended_ids held.state.shard (ended_by_chosen held.chosen)
  place_ended ended ends =
      subst (λ (h : Held). ended_ids s.shard ended ≡ ended_ids h.state.shard (ended_by_chosen h.chosen)) view
      (ap (ended_ids s.shard) (ends ∙ sym (ap ended_by_chosen (ap (λ o. with_serial o s.subs) is ∙ found))))

-- ---- a claim in two calls

tests_next : (a b : ℕ) (c : Bool) → (nat_eq a b && c) ≡ true → b + 1 ≡ a + 1
tests_next a b c e = ap (λ n. n + 1) (sym (eq_true a b (and_true (nat_eq a b) c e).0))

tried_index : (s : State) (index : ℕ) (hand : Option Job)
    → claim_refusal s index hand ≡ None
    → s.next_index + 1 ≡ index + 1
tried_index s index None cause = absurd (cc)
tried_index s index (Some job) cause =
    tests_next index s.next_index (nat_lt index (length job.queues)) (no_end _ _ cause)

not_won_is : (s : State) (index : ℕ) (hand : Option Job) (u : Option Subscription)
    → claim_refusal s index hand ≡ None
    → after_try s ≡ after_claim s hand u false
not_won_is s index None u cause = absurd (cc)
not_won_is s index (Some job) None cause = refl
not_won_is s index (Some job) (Some u) cause = refl

won_is : (s : State) (index : ℕ) (hand : Option Job) (u : Option Subscription)
    → claim_refusal s index hand ≡ None
    → is_some u ≡ true
    → (is_some hand ≡ true) × (after_put_chosen (after_try s) hand u ≡ after_claim s hand u true)
won_is s index None u cause some = absurd (cc)
won_is s index (Some job) None cause some = absurd (cc)
won_is s index (Some job) (Some u) cause some = (refl, refl)

pub claims_whole : ClaimsAreWhole
claims_whole copies old mid index candidate cause chose =
    let s = old.state in
    let u = candidate_of s s.hand index in
    subst (λ (h : Held). IsWhole s index h) (sym chose.after) (record {
      not_won = not_won_is s index s.hand u cause;
      stands = λ some. record {
        chosen = some;
        hand = (won_is s index s.hand u cause some).0;
        tried = tried_index s index s.hand cause;
      };
      won = λ some. (won_is s index s.hand u cause some).1;
    })
