-- A connection that is shut gets nothing more, and one that is not gets a last line just where it is shut now.
use Rattle.std.proofs.Common.{◌≡◌, ◌≢◌, ℕ, ◌+◌, Bool, true, false, true≢false, cond, nat_eq, not, List, [], ◌∷◌, ◌++◌, length, map, take, drop, Option, Some, None, refl, sym, ap, ◌∙◌, subst, arith}
use Rattle.std.specs.Prelude.{filter, slice_get}
use Rattle.std.specs.Option.{option_map, option_or}
use Rattle.std.proofs.lemmas.List.{length-append, take-append-drop}
use Rattle.std.proofs.lemmas.Option.{none-some}
use Rattle.list_laws.proofs.Tests.{eq_true, eq_false, and_true, not_true, no_end}
use Rattle.list_laws.proofs.Changes.{append_nil, append_assoc, map_append}
use Rattle.client_frames.specs.ErrTexts.{err_line}
use Rattle.client_frames.specs.Frames.{reply_line}
use Rattle.outbox.specs.Views.{Written, Backlog, with_entry, with_last, without_first, reply_entry}
use Rattle.subj.specs.declared.jobs.Job.{Job}
use Rattle.sub_table.specs.declared.Subscription.{Subscription}
use Rattle.shard_core.specs.Shards.{State, Client, client_at, is_open, takes_events, with_outbox, clients_with_change, clients_with_headers, without_client, fits, entries_of, waits_for}
use Rattle.shard_core.specs.Owed.{Walk, walk, whole_walk, is_due, first_step, walk_after_put, walk_with_entry, walk_with_shut, owed_entry, owed_placed, slow_consumer, candidate_of, candidate_named, after_claim}
use Rattle.shard_core.specs.declared.calls.Placed.{Placed}
use Rattle.shard_core.specs.Puts.{put_line, put_by, put_by_claim, entries_for, kept_of}
use Rattle.shard_core.specs.ShardEvents.{Event, Attach, Subscribe, Unsubscribe, Reply, Shut, SetHeaders, Detach, Take, Begin, Claim, End, DropJob, Drain, Collect}
use Rattle.shard_core.specs.ShardSteps.{sub_called, new_client, new_sub, after_subscribe, ended_now, after_unsubscribe, answer_fits, was_shut, done_with, shard_refusal, shard_after}
use Rattle.shard_core.proofs.Steps.LawEvents.{candidate_is}
use Rattle.shard_core.proofs.Clients.Outboxes.{changed_here, changed_there, chosen_same, gone, stays, entries_append, entries_here, entries_there, are_put}
use Rattle.node_law.specs.Outboxes.{due_by, last_by, taken_by, is_detach, History, no_history, after_event, is_shut_client, is_shut, IsKnown}

-- ---- whether a connection is shut, after a change

-- a change that leaves whether it is
shut_kept : (change : Backlog → Backlog)
    → ((backlog : Backlog) → (change backlog).shut ≡ backlog.shut)
    → (k j : ℕ) (xs : List Client)
    → is_shut k (clients_with_change change j xs) ≡ is_shut k xs
shut_kept change same k j xs = go (nat_eq k j) refl
  where
    by : (x : Option Client) → is_shut_client (option_map (with_outbox change) x) ≡ is_shut_client x
    by None = refl
    by (Some x) = same x.outbox

    go : (b : Bool) → nat_eq k j ≡ b → is_shut k (clients_with_change change j xs) ≡ is_shut k xs
    go true e =
        subst (λ m. is_shut m (clients_with_change change j xs) ≡ is_shut m xs) (sym (eq_true k j e))
        (ap is_shut_client (changed_here change j xs) ∙ by (client_at j xs))
    go false e = ap is_shut_client (changed_there change k j xs (eq_false k j e))

open_not_shut : (k : ℕ) (xs : List Client) → is_open k xs ≡ true → is_shut k xs ≡ false
open_not_shut k xs e = go (client_at k xs) e
  where
    go : (x : Option Client) → takes_events x ≡ true → is_shut_client x ≡ false
    go None f = refl
    go (Some x) f = not_true x.outbox.shut f

shut_now : (line : List ℕ) (k : ℕ) (xs : List Client)
    → is_open k xs ≡ true
    → is_shut k (clients_with_change (with_last line) k xs) ≡ true
shut_now line k xs e = ap is_shut_client (changed_here (with_last line) k xs) ∙ go (client_at k xs) e
  where
    go : (x : Option Client)
        → takes_events x ≡ true
        → is_shut_client (option_map (with_outbox (with_last line)) x) ≡ true
    go None f = absurd (true≢false (sym f))
    go (Some x) f = refl

attached_shut : (k j : ℕ) (xs : List Client) → is_shut k (xs ++ new_client j ∷ []) ≡ is_shut k xs
attached_shut k j [] = go (nat_eq j k)
  where
    go : (b : Bool) → is_shut_client (cond b (Some (new_client j)) None) ≡ false
    go true = refl
    go false = refl
attached_shut k j (x ∷ xs) = go (attached_shut k j xs) (nat_eq x.number k)
  where
    go : is_shut k (xs ++ new_client j ∷ []) ≡ is_shut k xs
        → (b : Bool)
        → is_shut_client (cond b (Some x) (client_at k (xs ++ new_client j ∷ [])))
        ≡ is_shut_client (cond b (Some x) (client_at k xs))
    go below true = refl
    go below false = below

-- whether a connection takes headers does not shut it
headers_shut : (on : Bool) (k j : ℕ) (xs : List Client) → is_shut k (clients_with_headers on j xs) ≡ is_shut k xs
headers_shut on k j xs = chosen_same is_shut_client (λ on x. refl) on k j xs

-- ---- what an event gives to a connection

-- it was shut or not before and is so now, and got these replies and messages, and these last lines
record Gets (was now : Bool) (due last : List Written) : Type 0 where
  shut : was ≡ true → (due ≡ []) × (last ≡ []) × (now ≡ true)
  other : was ≡ false → length last ≡ cond now 1 0

nothing : (was now : Bool) → now ≡ was → Gets was now [] []
nothing was now same = record { shut = λ e. (refl, refl, same ∙ e); other = λ e. sym (ap (λ b. cond b 1 0) (same ∙ e)) }

both : (was mid now : Bool) (due last due' last' : List Written)
    → Gets was mid due last
    → Gets mid now due' last'
    → Gets was now (due ++ due') (last ++ last')
both was mid now due last due' last' g h = record {
  shut = λ e.
      let x = g.shut e in let y = h.shut x.2 in (ap (λ t. t ++ due') x.0 ∙ y.0, ap (λ t. t ++ last') x.1 ∙ y.1, y.2);
  other = λ e. go mid refl (g.other e);
}
  where
    one : (n : ℕ) → n ≡ 1 → n + 0 ≡ 1
    one n e = omega arith

    none : (n m : ℕ) → n ≡ 0 → n + m ≡ m
    none n m e = omega arith

    go : (b : Bool) → mid ≡ b → length last ≡ cond mid 1 0 → length (last ++ last') ≡ cond now 1 0
    go true e f =
        let y = h.shut e in
        length-append last last'
        ∙ ap (λ t. length last + length t) y.1
        ∙ one (length last) (f ∙ ap (λ b. cond b 1 0) e)
        ∙ sym (ap (λ b. cond b 1 0) y.2)
    go false e f = length-append last last' ∙ none (length last) (length last') (f ∙ ap (λ b. cond b 1 0) e) ∙ h.other e

apart : (k j : ℕ) (xs : List Client) → is_open j xs ≡ true → is_shut k xs ≡ true → k ≢ j
apart k j xs e f g = true≢false (sym f ∙ ap (λ m. is_shut m xs) g ∙ open_not_shut j xs e)

put_here : (put : Placed) → entries_for put.conn (put ∷ []) ≡ put.entry ∷ []
put_here put = entries_here put.conn put.headers put.entry

put_there : (k : ℕ) (put : Placed) → k ≢ put.conn → entries_for k (put ∷ []) ≡ []
put_there k put far = entries_there k put.conn put.headers put.entry far

-- an entry for a connection, which is open
one_entry : (put : Placed) (xs : List Client)
    → is_open put.conn xs ≡ true
    → (k : ℕ)
    → Gets (is_shut k xs) (is_shut k (clients_with_change (with_entry put.entry) put.conn xs))
    (entries_for k (put ∷ [])) []
one_entry put xs e k = record {
  shut = λ f. (
    put_there k put (apart k put.conn xs e f),
    refl,
    shut_kept (with_entry put.entry) (λ backlog. refl) k put.conn xs ∙ f,
  );
  other = λ f. sym (ap (λ b. cond b 1 0) (shut_kept (with_entry put.entry) (λ backlog. refl) k put.conn xs ∙ f));
}

-- a last line for connection j, which is open
one_line : (line : List ℕ) (j : ℕ) (xs : List Client)
    → is_open j xs ≡ true
    → (k : ℕ)
    → Gets (is_shut k xs) (is_shut k (clients_with_change (with_last line) j xs)) []
    (entries_for k (put_line line j ∷ []))
one_line line j xs e k = record {
  shut = λ f.
      let far = apart k j xs e f in
      (refl, put_there k (put_line line j) far, ap is_shut_client (changed_there (with_last line) k j xs far) ∙ f);
  other = λ f. go f (nat_eq k j) refl;
}
  where
    go : is_shut k xs ≡ false
        → (b : Bool)
        → nat_eq k j ≡ b
        → length (entries_for k (put_line line j ∷ []))
        ≡ cond (is_shut k (clients_with_change (with_last line) j xs)) 1 0
    go f true g =
        subst (λ m.
        length (entries_for m (put_line line j ∷ []))
        ≡ cond (is_shut m (clients_with_change (with_last line) j xs)) 1 0)
        (sym (eq_true k j g))
        (ap length (put_here (put_line line j)) ∙ sym (ap (λ b. cond b 1 0) (shut_now line j xs e)))
    go f false g =
        let far = eq_false k j g in
        ap length (put_there k (put_line line j) far)
        ∙ sym (ap (λ b. cond b 1 0) (ap is_shut_client (changed_there (with_last line) k j xs far) ∙ f))

-- ---- the walk of Begin

abbrev WalkGets : State → Job → ℕ → Walk → Type 0
WalkGets s job k w =
    Gets (is_shut k s.clients) (is_shut k w.clients)
    (entries_for k (map (owed_placed s.shard s.clients job None) w.given))
    (entries_for k (map (put_line slow_consumer) w.shut))

put_gets : (s : State) (job : Job) (k : ℕ) (w : Walk) (u : Subscription)
    → WalkGets s job k w
    → WalkGets s job k (walk_after_put s job w u)
put_gets s job k w u g =
    go (is_open u.conn w.clients) (fits (client_at u.conn w.clients) (owed_entry s.shard s.clients job None u)) refl
  where
    given : List Written
    given = entries_for k (map (owed_placed s.shard s.clients job None) w.given)

    lines : List Written
    lines = entries_for k (map (put_line slow_consumer) w.shut)

    more : entries_for k (map (owed_placed s.shard s.clients job None) (w.given ++ u ∷ []))
        ≡ given ++ entries_for k (owed_placed s.shard s.clients job None u ∷ [])
    more =
        ap (entries_for k) (map_append (owed_placed s.shard s.clients job None) w.given (u ∷ []))
        ∙ entries_append k (map (owed_placed s.shard s.clients job None) w.given)
        (owed_placed s.shard s.clients job None u ∷ [])

    one_more : entries_for k (map (put_line slow_consumer) (w.shut ++ u.conn ∷ []))
        ≡ lines ++ entries_for k (put_line slow_consumer u.conn ∷ [])
    one_more =
        ap (entries_for k) (map_append (put_line slow_consumer) w.shut (u.conn ∷ []))
        ∙ entries_append k (map (put_line slow_consumer) w.shut) (put_line slow_consumer u.conn ∷ [])

    go : (o r : Bool)
        → is_open u.conn w.clients ≡ o
        → WalkGets s job k
        (cond o
        (cond r (walk_with_entry (owed_entry s.shard s.clients job None u) u w) (walk_with_shut s.subs u.conn w)) w)
    go false r e = g
    go true true e =
        let h = both (is_shut k s.clients) (is_shut k w.clients)
        (is_shut k (clients_with_change (with_entry (owed_entry s.shard s.clients job None u)) u.conn w.clients)) given
        lines (entries_for k (owed_placed s.shard s.clients job None u ∷ [])) [] g
        (one_entry (owed_placed s.shard s.clients job None u) w.clients e k) in
        subst (λ t.
        Gets (is_shut k s.clients)
        (is_shut k (clients_with_change (with_entry (owed_entry s.shard s.clients job None u)) u.conn w.clients)) t
        lines)
        (sym more)
        (subst (λ t.
        Gets (is_shut k s.clients)
        (is_shut k (clients_with_change (with_entry (owed_entry s.shard s.clients job None u)) u.conn w.clients))
        (given ++ entries_for k (owed_placed s.shard s.clients job None u ∷ [])) t)
        (append_nil lines) h)
    go true false e =
        let h = both (is_shut k s.clients) (is_shut k w.clients)
        (is_shut k (clients_with_change (with_last slow_consumer) u.conn w.clients)) given lines []
        (entries_for k (put_line slow_consumer u.conn ∷ [])) g (one_line slow_consumer u.conn w.clients e k) in
        subst (λ t.
        Gets (is_shut k s.clients) (is_shut k (clients_with_change (with_last slow_consumer) u.conn w.clients)) given t)
        (sym one_more)
        (subst (λ t.
        Gets (is_shut k s.clients) (is_shut k (clients_with_change (with_last slow_consumer) u.conn w.clients)) t
        (lines ++ entries_for k (put_line slow_consumer u.conn ∷ [])))
        (append_nil given) h)

walk_gets : (s : State) (job : Job) (k : ℕ) (due : List Subscription) (w : Walk)
    → WalkGets s job k w
    → WalkGets s job k (walk s job due w)
walk_gets s job k [] w g = g
walk_gets s job k (u ∷ due) w g = walk_gets s job k due (walk_after_put s job w u) (put_gets s job k w u g)

-- ---- each event

abbrev EventGets : State → Event → ℕ → Type 0
EventGets s e k =
    Gets (is_shut k s.clients) (is_shut k (shard_after s e).clients) (entries_for k (due_by s e))
    (entries_for k (last_by s e))

done_gets : (s : State) (job : Option Job) (k : ℕ)
    → Gets (is_shut k s.clients) (is_shut k (done_with s job).clients) [] []
done_gets s None k = nothing _ _ refl
done_gets s (Some job) k = nothing _ _ refl

event_gets : (s : State) (e : Event) → shard_refusal s e ≡ None → (k : ℕ) → is_detach k e ≡ false → EventGets s e k
event_gets s Attach cause k here = nothing _ _ (attached_shut k s.next_conn s.clients)
event_gets s (Subscribe conn key sid) cause k here = go (sub_called conn sid s.subs)
  where
    go : (u : Option Subscription)
        → Gets (is_shut k s.clients) (is_shut k (after_subscribe s (new_sub s conn key sid) u).clients) [] []
    go None = nothing _ _ refl
    go (Some u) = nothing _ _ refl
event_gets s (Unsubscribe conn sid max) cause k here = go (sub_called conn sid s.subs)
  where
    at : (b : Bool) (x y : State)
        → x.clients ≡ s.clients
        → y.clients ≡ s.clients
        → Gets (is_shut k s.clients) (is_shut k (cond b x y).clients) [] []
    at true x y e f = nothing _ _ (ap (is_shut k) e)
    at false x y e f = nothing _ _ (ap (is_shut k) f)

    go : (u : Option Subscription) → Gets (is_shut k s.clients) (is_shut k (after_unsubscribe s max u).clients) [] []
    go None = nothing _ _ refl
    go (Some u) = at (ended_now max u) _ _ refl refl
event_gets s (Reply conn frame) cause k here = go (answer_fits s conn (reply_line frame))
  where
    open_now : is_open conn s.clients ≡ true
    open_now = no_end (is_open conn s.clients) _ cause

    go : (b : Bool)
        → Gets (is_shut k s.clients)
        (is_shut k (cond b
        (record s { clients = clients_with_change (with_entry (reply_entry (reply_line frame))) conn s.clients })
        (was_shut s conn slow_consumer)).clients)
        (entries_for k (cond b (put_line (reply_line frame) conn ∷ []) []))
        (entries_for k (cond b [] (put_line slow_consumer conn ∷ [])))
    go true = one_entry (put_line (reply_line frame) conn) s.clients open_now k
    go false = one_line slow_consumer conn s.clients open_now k
event_gets s (Shut conn text) cause k here =
    one_line (err_line text) conn s.clients (no_end (is_open conn s.clients) _ cause) k
event_gets s (Detach conn) cause k here =
    nothing _ _ (ap is_shut_client (stays k conn (λ e. eq_false conn k here (sym e)) s.clients))
event_gets s (SetHeaders conn on) cause k here = nothing _ _ (headers_shut on k conn s.clients)
event_gets s (Take conn count) cause k here =
    nothing _ _ (shut_kept (without_first count) (λ backlog. refl) k conn s.clients)
event_gets s (Begin job) cause k here =
    walk_gets s job k (filter (is_due job) s.subs) (first_step s.clients) (nothing _ _ refl)
event_gets s (Claim index won) cause k here = go s.hand (candidate_of s s.hand index) refl
  where
    fits_open : (u : Subscription) (entry : Written)
        → fits (client_at u.conn s.clients) entry ≡ true
        → is_open u.conn s.clients ≡ true
    fits_open u entry e = at (client_at u.conn s.clients) e
      where
        at : (x : Option Client) → fits x entry ≡ true → takes_events x ≡ true
        at None f = absurd (true≢false (sym f))
        at (Some x) f = (and_true (not x.outbox.shut) _ f).0

    by : (job : Job) (u : Subscription)
        → candidate_of s (Some job) index ≡ Some u
        → (b : Bool)
        → Gets (is_shut k s.clients) (is_shut k (after_claim s (Some job) (Some u) b).clients)
        (entries_for k (put_by_claim s (Some job) (Some u) b)) []
    by job u is false = nothing _ _ refl
    by job u is true = named (slice_get job.queues index) is
      where
        named : (name : Option (List ℕ))
            → candidate_named s job name ≡ Some u
            → Gets (is_shut k s.clients)
            (is_shut k
            (clients_with_change (with_entry (owed_entry s.shard s.clients job u.key.queue u)) u.conn s.clients))
            (entries_for k (owed_placed s.shard s.clients job u.key.queue u ∷ [])) []
        named None e = absurd (none-some u e)
        named (Some name) e =
            one_entry (owed_placed s.shard s.clients job u.key.queue u) s.clients
            (fits_open u (owed_entry s.shard s.clients job (Some name) u) (candidate_is s job name u e).3) k

    go : (hand : Option Job) (u : Option Subscription)
        → candidate_of s hand index ≡ u
        → Gets (is_shut k s.clients) (is_shut k (after_claim s hand u won).clients)
        (entries_for k (put_by_claim s hand u won)) []
    go None u is = nothing _ _ refl
    go (Some job) None is = nothing _ _ refl
    go (Some job) (Some u) is = by job u is won
event_gets s End cause k here = done_gets s s.hand k
event_gets s (DropJob waiting) cause k here = done_gets s (option_or s.hand waiting) k
event_gets s Drain cause k here = nothing _ _ refl
event_gets s Collect cause k here = nothing _ _ refl

-- what is put are the replies and messages, and then the last lines
puts_are : (s : State) (e : Event) (k : ℕ)
    → entries_for k (put_by s e) ≡ entries_for k (due_by s e) ++ entries_for k (last_by s e)
puts_are s Attach k = refl
puts_are s (Subscribe conn key sid) k = refl
puts_are s (Unsubscribe conn sid max) k = refl
puts_are s (Reply conn frame) k = go (answer_fits s conn (reply_line frame))
  where
    go : (b : Bool)
        → entries_for k (cond b (put_line (reply_line frame) conn ∷ []) (put_line slow_consumer conn ∷ []))
        ≡ entries_for k (cond b (put_line (reply_line frame) conn ∷ []) [])
        ++ entries_for k (cond b [] (put_line slow_consumer conn ∷ []))
    go true = sym (append_nil _)
    go false = refl
puts_are s (Shut conn text) k = refl
puts_are s (Detach conn) k = refl
puts_are s (SetHeaders conn on) k = refl
puts_are s (Take conn count) k = refl
puts_are s (Begin job) k =
    entries_append k (map (owed_placed s.shard s.clients job None) (whole_walk s job).given)
    (map (put_line slow_consumer) (whole_walk s job).shut)
puts_are s (Claim index won) k = sym (append_nil _)
puts_are s End k = refl
puts_are s (DropJob waiting) k = refl
puts_are s Drain k = refl
puts_are s Collect k = refl

-- what is taken stood in front of what is kept
takes : (e : Event) (k : ℕ) (waits : List Written)
    → is_detach k e ≡ false
    → taken_by e k waits ++ kept_of e k waits ≡ waits
takes Attach k waits here = refl
takes (Subscribe conn key sid) k waits here = refl
takes (Unsubscribe conn sid max) k waits here = refl
takes (Reply conn frame) k waits here = refl
takes (Shut conn text) k waits here = refl
takes (Detach conn) k waits here = ap (λ b. cond b [] waits) here
takes (SetHeaders conn on) k waits here = refl
takes (Take conn count) k waits here = go (nat_eq conn k)
  where
    go : (b : Bool) → cond b (take count waits) [] ++ cond b (drop count waits) waits ≡ waits
    go true = take-append-drop count waits
    go false = refl
takes (Begin job) k waits here = refl
takes (Claim index won) k waits here = refl
takes End k waits here = refl
takes (DropJob waiting) k waits here = refl
takes Drain k waits here = refl
takes Collect k waits here = refl

-- ---- what was known stays so

stays_known : (x : History) (waits waits' kept taken due last : List Written) (was now : Bool)
    → IsKnown x waits was
    → waits' ≡ kept ++ (due ++ last)
    → taken ++ kept ≡ waits
    → Gets was now due last
    → IsKnown (record { due = x.due ++ due; last = x.last ++ last; taken = x.taken ++ taken }) waits' now
stays_known x waits waits' kept taken due last was now known is front gets = record { all = all; last = go was refl }
  where
    empty : (xs : List Written) → length xs ≡ 0 → xs ≡ []
    empty [] e = refl
    empty (x ∷ xs) e = absurd (omega arith)

    -- none stands before the last lines that come now, or none come
    swap : (b : Bool) → was ≡ b → x.last ++ (due ++ last) ≡ due ++ (x.last ++ last)
    swap true e = let g = gets.shut e in ap (λ t. x.last ++ (t ++ last)) g.0 ∙ sym (ap (λ t. t ++ (x.last ++ last)) g.0)
    swap false e =
        let none = empty x.last (known.last ∙ ap (λ b. cond b 1 0) e) in
        ap (λ t. t ++ (due ++ last)) none ∙ sym (ap (λ t. due ++ (t ++ last)) none)

    all : (x.taken ++ taken) ++ waits' ≡ (x.due ++ due) ++ (x.last ++ last)
    all =
        ap (λ t. (x.taken ++ taken) ++ t) is
        ∙ append_assoc x.taken taken (kept ++ (due ++ last))
        ∙ ap (λ t. x.taken ++ t) (sym (append_assoc taken kept (due ++ last)) ∙ ap (λ t. t ++ (due ++ last)) front)
        ∙ sym (append_assoc x.taken waits (due ++ last))
        ∙ ap (λ t. t ++ (due ++ last)) known.all
        ∙ append_assoc x.due x.last (due ++ last)
        ∙ ap (λ t. x.due ++ t) (swap was refl)
        ∙ sym (append_assoc x.due due (x.last ++ last))

    go : (b : Bool) → was ≡ b → length (x.last ++ last) ≡ cond now 1 0
    go true e =
        let g = gets.shut e in
        length-append x.last last
        ∙ ap (λ t. length x.last + length t) g.1
        ∙ one (length x.last) (known.last ∙ ap (λ b. cond b 1 0) e)
        ∙ sym (ap (λ b. cond b 1 0) g.2)
      where
        one : (n : ℕ) → n ≡ 1 → n + 0 ≡ 1
        one n e = omega arith
    go false e =
        length-append x.last last
        ∙ none (length x.last) (length last) (known.last ∙ ap (λ b. cond b 1 0) e)
        ∙ gets.other e
      where
        none : (n m : ℕ) → n ≡ 0 → n + m ≡ m
        none n m e = omega arith

pub event_known : (s : State) (e : Event)
    → shard_refusal s e ≡ None
    → (k : ℕ) (x : History)
    → IsKnown x (waits_for k s.clients) (is_shut k s.clients)
    → IsKnown (after_event s e k x) (waits_for k (shard_after s e).clients) (is_shut k (shard_after s e).clients)
event_known s e cause k x known = go (is_detach k e) refl
  where
    gone_now : (e : Event) → is_detach k e ≡ true → client_at k (shard_after s e).clients ≡ None
    gone_now (Detach conn) f =
        subst (λ m. client_at m (without_client conn s.clients) ≡ None) (eq_true conn k f) (gone conn s.clients)
    gone_now Attach f = absurd (true≢false (sym f))
    gone_now (Subscribe conn key sid) f = absurd (true≢false (sym f))
    gone_now (Unsubscribe conn sid max) f = absurd (true≢false (sym f))
    gone_now (Reply conn frame) f = absurd (true≢false (sym f))
    gone_now (Shut conn text) f = absurd (true≢false (sym f))
    gone_now (SetHeaders conn on) f = absurd (true≢false (sym f))
    gone_now (Take conn count) f = absurd (true≢false (sym f))
    gone_now (Begin job) f = absurd (true≢false (sym f))
    gone_now (Claim index won) f = absurd (true≢false (sym f))
    gone_now End f = absurd (true≢false (sym f))
    gone_now (DropJob waiting) f = absurd (true≢false (sym f))
    gone_now Drain f = absurd (true≢false (sym f))
    gone_now Collect f = absurd (true≢false (sym f))

    go : (b : Bool)
        → is_detach k e ≡ b
        → IsKnown
        (cond b no_history (record {
          due = x.due ++ entries_for k (due_by s e);
          last = x.last ++ entries_for k (last_by s e);
          taken = x.taken ++ taken_by e k (waits_for k s.clients);
        }))
        (waits_for k (shard_after s e).clients) (is_shut k (shard_after s e).clients)
    go true f =
        let none = gone_now e f in
        record { all = ap entries_of none; last = sym (ap (λ o. cond (is_shut_client o) 1 0) none) }
    go false f =
        stays_known x (waits_for k s.clients) _ (kept_of e k (waits_for k s.clients))
        (taken_by e k (waits_for k s.clients)) (entries_for k (due_by s e)) (entries_for k (last_by s e))
        (is_shut k s.clients) (is_shut k (shard_after s e).clients) known
        ((are_put s e k).entries cause ∙ ap (λ t. kept_of e k (waits_for k s.clients) ++ t) (puts_are s e k))
        (takes e k (waits_for k s.clients) f) (event_gets s e cause k f)
