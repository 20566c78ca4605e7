-- The one connection of a pipe's shard, between two events and behind one.
use Rattle.std.proofs.Common.{◌≡◌, ℕ, zero, suc, ◌+◌, ◌≤◌, ◌<◌, Bool, true, false, true≢false, cond, not, nat_eq, List, [], ◌∷◌, ◌++◌, length, take, drop, filter, Option, Some, None, refl, ap, sym, ◌∙◌, subst, arith, length-append}
use Rattle.std.specs.Prelude.{slice_get}
use Rattle.std.proofs.lemmas.List.{take_all, drop_all}
use Rattle.std.proofs.lemmas.Bool.{ltb-true, and_parts}
use Rattle.std.proofs.lemmas.Option.{none-some}
use Rattle.list_laws.proofs.Lists.{in_read}
use Rattle.list_laws.proofs.Changes.{in_filter}
use Rattle.list_laws.proofs.Tests.{and_true}
use Rattle.subj.specs.declared.limits.TheConstants.{OUTBOX_ENTRIES}
use Rattle.subj.specs.declared.jobs.Job.{Job}
use Rattle.outbox.specs.Views.{Written, Backlog, reply_entry, with_entry, with_last, without_first, bytes_of_all}
use Rattle.subj.specs.QueueNames.{is_named}
use Rattle.sub_table.specs.Subscriptions.{with_max}
use Rattle.sub_table.specs.declared.Subscription.{Subscription}
use Rattle.shard_core.specs.Owed.{Walk, walk, whole_walk, walk_after_put, walk_with_shut, is_due, is_wanted, is_candidate, owed_entry, slow_consumer, candidate_of, candidate_named, after_claim, after_try, after_put, walk_with_entry, first_step}
use Rattle.shard_core.specs.Closings.{without_subs}
use Rattle.shard_core.specs.ShardEvents.{SetHeaders, Take, Begin, Claim, Collect}
use Rattle.shard_core.specs.ShardSteps.{new_client, shard_after, was_shut, after_subscribe, after_unsubscribe, ended_now, done_with}
use Rattle.shard_core.specs.Shards.{State, Client, client_at, is_open, is_known, takes_headers, clients_with_change, clients_with_headers, fits, with_outbox, takes_events, waits_for}
use Rattle.shard_core.proofs.Clients.Options.{option_kept}
use Rattle.mesh_pipe.specs.PipeText.{Served, at_rest, served_by, output_of, after_claims, after_job}
use Rattle.mesh_pipe.specs.PipeServing.{all_entries, waiting_bytes, has_any}

-- the connection, which takes headers or does not, and for which these entries wait
abbrev pub one : Bool → List Written → Bool → Client
one option entries shut = record (new_client 1) { outbox = record { entries = entries; shut = shut }; headers = option }

-- ---- a shard with that connection alone

pub record IsAlone (t : State) (entries : List Written) (shut : Bool) : Type 0 where
  pub option : Bool
  pub shard : t.shard ≡ 1
  pub shards : t.shards ≡ 1
  pub next : t.next_conn ≡ 2
  pub clients : t.clients ≡ one option entries shut ∷ []
  pub few : length entries ≤ OUTBOX_ENTRIES + 1

pub output_text : (t : State) (entries : List Written) (shut : Bool)
    → IsAlone t entries shut
    → (output_of t).text ≡ bytes_of_all entries
output_text t entries shut alone = ap (λ (cs : List Client). bytes_of_all (waits_for 1 cs)) alone.clients

pub output_closed : (t : State) (entries : List Written) (shut : Bool)
    → IsAlone t entries shut
    → (output_of t).closed ≡ shut
output_closed t entries true alone = ap (λ (cs : List Client). not (is_open 1 cs)) alone.clients
output_closed t entries false alone = ap (λ (cs : List Client). not (is_open 1 cs)) alone.clients

takes_all : (entries : List Written) → length entries ≤ OUTBOX_ENTRIES + 1 → take all_entries entries ≡ entries
takes_all entries few = take_all all_entries entries (omega (arith, few))

drops_all : (entries : List Written) → length entries ≤ OUTBOX_ENTRIES + 1 → drop all_entries entries ≡ []
drops_all entries few = drop_all all_entries entries (omega (arith, few))

-- what is taken is all that was put
pub all_taken : (t : State) (entries : List Written) (shut : Bool)
    → IsAlone t entries shut
    → waiting_bytes t ≡ (output_of t).text
all_taken t entries shut alone =
    ap (λ (cs : List Client). bytes_of_all (take all_entries (waits_for 1 cs))) alone.clients
    ∙ ap bytes_of_all (takes_all entries alone.few)
    ∙ sym (output_text t entries shut alone)

pub behind_take : (t : State) (entries : List Written) (shut : Bool)
    → IsAlone t entries shut
    → IsAlone (shard_after t (Take 1 all_entries)) [] shut
behind_take t entries shut alone = record {
  option = alone.option;
  shard = alone.shard;
  shards = alone.shards;
  next = alone.next;
  clients =
      ap (clients_with_change (without_first all_entries) 1) alone.clients
      ∙ ap (λ (rest : List Written). one alone.option rest shut ∷ []) (drops_all entries alone.few);
  few = omega arith;
}

-- what is served is as before
pub taken_served : (t : State) → served_by (shard_after t (Take 1 all_entries)) ≡ served_by t
taken_served t = λ i. record {
  subs = t.subs;
  opened = t.opened;
  jobs = t.finished;
  headers = option_kept (without_first all_entries) 1 1 t.clients i;
}

pub known_there : (t : State) (entries : List Written) (shut : Bool)
    → IsAlone t entries shut
    → is_known 1 t.clients ≡ true
known_there t entries shut alone = ap (is_known 1) alone.clients

pub open_there : (t : State) (entries : List Written) → IsAlone t entries false → is_open 1 t.clients ≡ true
open_there t entries alone = ap (is_open 1) alone.clients

-- no job is in hand, and the hub was told of all
pub record IsSettled (t : State) : Type 0 where
  pub hand : t.hand ≡ None
  pub index : t.next_index ≡ 0
  pub deltas : t.deltas ≡ []
  pub draining : t.draining ≡ false

pub rests : (t : State) → IsAlone t [] false → IsSettled t → t ≡ at_rest (served_by t)
rests t alone settled = λ k. record {
  shard = alone.shard k;
  shards = alone.shards k;
  next_conn = alone.next k;
  opened = t.opened;
  finished = t.finished;
  hand = settled.hand k;
  next_index = settled.index k;
  clients = told k;
  subs = t.subs;
  deltas = settled.deltas k;
  draining = settled.draining k;
} where
  -- the option is what the list tells of it
  told : t.clients ≡ one (takes_headers 1 t.clients) [] false ∷ []
  told = alone.clients ∙ ap (λ (option : Bool). one option [] false ∷ []) (sym (ap (takes_headers 1) alone.clients))

pub alone_at_rest : (t : State) (s : Served) → t ≡ at_rest s → IsAlone t [] false
alone_at_rest t s is = record {
  option = s.headers;
  shard = ap (λ (u : State). u.shard) is;
  shards = ap (λ (u : State). u.shards) is;
  next = ap (λ (u : State). u.next_conn) is;
  clients = ap (λ (u : State). u.clients) is;
  few = omega arith;
}

pub settled_at_rest : (t : State) (s : Served) → t ≡ at_rest s → IsSettled t
settled_at_rest t s is = record {
  hand = ap (λ (u : State). u.hand) is;
  index = ap (λ (u : State). u.next_index) is;
  deltas = ap (λ (u : State). u.deltas) is;
  draining = ap (λ (u : State). u.draining) is;
}

-- ---- lines

-- the connection with a change to what waits for it
on_one : (t u : State) (entries more : List Written) (shut after : Bool) (change : Backlog → Backlog)
    → IsAlone t entries shut
    → u.shard ≡ t.shard
    → u.shards ≡ t.shards
    → u.next_conn ≡ t.next_conn
    → u.clients ≡ clients_with_change change 1 t.clients
    → change (record { entries = entries; shut = shut }) ≡ record { entries = more; shut = after }
    → length more ≤ OUTBOX_ENTRIES + 1
    → IsAlone u more after
on_one t u entries more shut after change alone shard shards next clients is few = record {
  option = alone.option;
  shard = shard ∙ alone.shard;
  shards = shards ∙ alone.shards;
  next = next ∙ alone.next;
  clients =
      clients
      ∙ ap (clients_with_change change 1) alone.clients
      ∙ ap (λ (s : Backlog). (record (new_client 1) { outbox = s; headers = alone.option }) ∷ []) is;
  few = few;
}

pub behind_shut : (t : State) (line : List ℕ)
    → IsAlone t [] false
    → IsAlone (was_shut t 1 line) (reply_entry line ∷ []) true
behind_shut t line alone =
    on_one t (was_shut t 1 line) [] (reply_entry line ∷ []) false true (with_last line) alone refl refl refl refl refl
    (omega arith)

-- what a reply leaves
pub record IsReplied (t u : State) (shut : Bool) : Type 0 where
  pub entries : List Written
  pub alone : IsAlone u entries shut
  pub settled : shut ≡ false → IsSettled t → IsSettled u

pub replied_alone : (t : State) (line : List ℕ) (fit : Bool)
    → IsAlone t [] false
    → IsReplied t
    (cond fit (record t { clients = clients_with_change (with_entry (reply_entry line)) 1 t.clients })
    (was_shut t 1 slow_consumer))
    (not fit)
replied_alone t line true alone = record {
  entries = reply_entry line ∷ [];
  alone =
      on_one t (record t { clients = clients_with_change (with_entry (reply_entry line)) 1 t.clients }) []
      (reply_entry line ∷ []) false false (with_entry (reply_entry line)) alone refl refl refl refl refl (omega arith);
  settled = λ kept s. record { hand = s.hand; index = s.index; deltas = s.deltas; draining = s.draining };
}
replied_alone t line false alone = record {
  entries = reply_entry slow_consumer ∷ [];
  alone = behind_shut t slow_consumer alone;
  settled = λ shut s. absurd (true≢false shut);
}

-- ---- the same connection behind other events

pub same_alone : (t u : State) (entries : List Written) (shut : Bool)
    → IsAlone t entries shut
    → u.shard ≡ t.shard
    → u.shards ≡ t.shards
    → u.next_conn ≡ t.next_conn
    → u.clients ≡ t.clients
    → IsAlone u entries shut
same_alone t u entries shut alone shard shards next clients = record {
  option = alone.option;
  shard = shard ∙ alone.shard;
  shards = shards ∙ alone.shards;
  next = next ∙ alone.next;
  clients = clients ∙ alone.clients;
  few = alone.few;
}

pub record IsQuiet (t u : State) : Type 0 where
  pub shard : u.shard ≡ t.shard
  pub shards : u.shards ≡ t.shards
  pub next : u.next_conn ≡ t.next_conn
  pub clients : u.clients ≡ t.clients
  pub hand : u.hand ≡ t.hand
  pub index : u.next_index ≡ t.next_index
  pub draining : u.draining ≡ t.draining

quiet : (t : State) → IsQuiet t t
quiet t = record {
  shard = refl;
  shards = refl;
  next = refl;
  clients = refl;
  hand = refl;
  index = refl;
  draining = refl;
}

pub subscribe_quiet : (t : State) (sub : Subscription) (o : Option Subscription) → IsQuiet t (after_subscribe t sub o)
subscribe_quiet t sub None = record {
  shard = refl;
  shards = refl;
  next = refl;
  clients = refl;
  hand = refl;
  index = refl;
  draining = refl;
}
subscribe_quiet t sub (Some same) = quiet t

pub unsubscribe_quiet : (t : State) (max : Option ℕ) (o : Option Subscription) → IsQuiet t (after_unsubscribe t max o)
unsubscribe_quiet t max None = quiet t
unsubscribe_quiet t max (Some sub) = go (ended_now max sub)
  where
    go : (b : Bool)
        → IsQuiet t (cond b (without_subs (sub.serial ∷ []) t) (record t { subs = with_max sub.serial max t.subs }))
    go true = record {
      shard = refl;
      shards = refl;
      next = refl;
      clients = refl;
      hand = refl;
      index = refl;
      draining = refl;
    }
    go false = record {
      shard = refl;
      shards = refl;
      next = refl;
      clients = refl;
      hand = refl;
      index = refl;
      draining = refl;
    }

pub quiet_alone : (t u : State) → IsQuiet t u → IsAlone t [] false → IsAlone u [] false
quiet_alone t u q alone = same_alone t u [] false alone q.shard q.shards q.next q.clients

-- the option that was chosen
pub chosen_alone : (t : State) (on : Bool) → IsAlone t [] false → IsAlone (shard_after t (SetHeaders 1 on)) [] false
chosen_alone t on alone = record {
  option = on;
  shard = alone.shard;
  shards = alone.shards;
  next = alone.next;
  clients = ap (clients_with_headers on 1) alone.clients;
  few = omega arith;
}

pub chosen_settled : (t : State) (on : Bool) → IsSettled t → IsSettled (shard_after t (SetHeaders 1 on))
chosen_settled t on settled = record {
  hand = settled.hand;
  index = settled.index;
  deltas = settled.deltas;
  draining = settled.draining;
}

-- behind a collect
pub quiet_settled : (t u : State) → IsQuiet t u → IsSettled t → IsSettled (shard_after u Collect)
quiet_settled t u q settled = record {
  hand = q.hand ∙ settled.hand;
  index = q.index ∙ settled.index;
  deltas = refl;
  draining = q.draining ∙ settled.draining;
}

-- ---- what an entry finds

record IsHere (conn : ℕ) (shut : Bool) : Type 0 where
  here : nat_eq 1 conn ≡ true
  still : shut ≡ false

not_so : (b : Bool) → not b ≡ true → b ≡ false
not_so true e = absurd (true≢false (sym e))
not_so false e = refl

open_here : (conn : ℕ) (option : Bool) (entries : List Written) (shut : Bool)
    → is_open conn (one option entries shut ∷ []) ≡ true
    → IsHere conn shut
open_here conn option entries shut is = go (nat_eq 1 conn) refl is
  where
    go : (b : Bool)
        → nat_eq 1 conn ≡ b
        → takes_events (cond b (Some (one option entries shut)) None) ≡ true
        → IsHere conn shut
    go true e f = record { here = e; still = not_so shut f }
    go false e f = absurd (true≢false (sym f))

-- an entry that fits finds the connection open, with room
record HasRoom (conn : ℕ) (entries : List Written) (shut : Bool) : Type 0 where
  at : IsHere conn shut
  room : length entries < OUTBOX_ENTRIES

fits_here : (conn : ℕ) (option : Bool) (entries : List Written) (shut : Bool) (entry : Written)
    → fits (client_at conn (one option entries shut ∷ [])) entry ≡ true
    → HasRoom conn entries shut
fits_here conn option entries shut entry is = go (nat_eq 1 conn) refl is
  where
    go : (b : Bool)
        → nat_eq 1 conn ≡ b
        → fits (cond b (Some (one option entries shut)) None) entry ≡ true
        → HasRoom conn entries shut
    go true e f =
        let parts = and_parts _ _ f in
        let limits = and_parts _ _ parts.1 in
        record { at = record { here = e; still = not_so shut parts.0 }; room = ltb-true _ _ limits.0 }
    go false e f = absurd (true≢false (sym f))

changed_here : (conn : ℕ) (option : Bool) (entries : List Written) (shut : Bool) (change : Backlog → Backlog)
    → nat_eq 1 conn ≡ true
    → clients_with_change change conn (one option entries shut ∷ []) ≡ with_outbox change (one option entries shut) ∷ []
changed_here conn option entries shut change here =
    ap (λ b. cond b (with_outbox change (one option entries shut) ∷ []) (one option entries shut ∷ [])) here

-- ---- a walk

pub data Walked (option : Bool) (w : Walk) : Type 0 where
  open_still : (entries : List Written)
      → w.clients ≡ one option entries false ∷ []
      → w.shut ≡ []
      → length entries ≤ OUTBOX_ENTRIES
      → Walked option w
  shut_since : (entries : List Written)
      → w.clients ≡ one option entries true ∷ []
      → has_any w.shut ≡ true
      → length entries ≤ OUTBOX_ENTRIES + 1
      → Walked option w

put_if : (s : State) (job : Job) (w : Walk) (sub : Subscription) (o r : Bool)
    → is_open sub.conn w.clients ≡ o
    → fits (client_at sub.conn w.clients) (owed_entry s.shard s.clients job None sub) ≡ r
    → walk_after_put s job w sub
    ≡ cond o
    (cond r (walk_with_entry (owed_entry s.shard s.clients job None sub) sub w) (walk_with_shut s.subs sub.conn w)) w
put_if s job w sub o r e f = λ k.
    cond (e k)
    (cond (f k) (walk_with_entry (owed_entry s.shard s.clients job None sub) sub w) (walk_with_shut s.subs sub.conn w))
    w

module _ (option : Bool) where
  put_open : (s : State) (job : Job) (w : Walk) (sub : Subscription) (entries : List Written)
      → w.clients ≡ one option entries false ∷ []
      → w.shut ≡ []
      → length entries ≤ OUTBOX_ENTRIES
      → (o : Bool)
      → is_open sub.conn w.clients ≡ o
      → (r : Bool)
      → fits (client_at sub.conn w.clients) (owed_entry s.shard s.clients job None sub) ≡ r
      → Walked option (walk_after_put s job w sub)
  put_open s job w sub entries is none few false e r f =
      subst (Walked option) (sym (put_if s job w sub false r e f)) (open_still entries is none few)
  put_open s job w sub entries is none few true e true f =
      let entry = owed_entry s.shard s.clients job None sub in
      let room = fits_here sub.conn option entries false entry
      (ap (λ (cs : List Client). fits (client_at sub.conn cs) (owed_entry s.shard s.clients job None sub)) (sym is)
      ∙ f) in
      subst (Walked option) (sym (put_if s job w sub true true e f))
      (open_still (entries ++ entry ∷ [])
      (ap (clients_with_change (with_entry entry) sub.conn) is
      ∙ changed_here sub.conn option entries false (with_entry entry) room.at.here)
      none (let more = length-append entries (entry ∷ []) in let below = room.room in omega (arith, more, below)))
  put_open s job w sub entries is none few true e false f =
      let here = open_here sub.conn option entries false (ap (is_open sub.conn) (sym is) ∙ e) in
      subst (Walked option) (sym (put_if s job w sub true false e f))
      (shut_since (entries ++ reply_entry slow_consumer ∷ [])
      (ap (clients_with_change (with_last slow_consumer) sub.conn) is
      ∙ changed_here sub.conn option entries false (with_last slow_consumer) here.here)
      (ap (λ (l : List ℕ). has_any (l ++ sub.conn ∷ [])) none)
      (let more = length-append entries (reply_entry slow_consumer ∷ []) in omega (arith, more, few)))

  put_shut : (s : State) (job : Job) (w : Walk) (sub : Subscription) (entries : List Written)
      → w.clients ≡ one option entries true ∷ []
      → has_any w.shut ≡ true
      → length entries ≤ OUTBOX_ENTRIES + 1
      → (o : Bool)
      → is_open sub.conn w.clients ≡ o
      → (r : Bool)
      → fits (client_at sub.conn w.clients) (owed_entry s.shard s.clients job None sub) ≡ r
      → Walked option (walk_after_put s job w sub)
  put_shut s job w sub entries is some few false e r f =
      subst (Walked option) (sym (put_if s job w sub false r e f)) (shut_since entries is some few)
  put_shut s job w sub entries is some few true e r f =
      absurd (true≢false ((open_here sub.conn option entries true (ap (is_open sub.conn) (sym is) ∙ e)).still))

  step_walked : (s : State) (job : Job) (w : Walk) (sub : Subscription)
      → Walked option w
      → Walked option (walk_after_put s job w sub)
  step_walked s job w sub (open_still entries is none few) =
      put_open s job w sub entries is none few (is_open sub.conn w.clients) refl
      (fits (client_at sub.conn w.clients) (owed_entry s.shard s.clients job None sub)) refl
  step_walked s job w sub (shut_since entries is some few) =
      put_shut s job w sub entries is some few (is_open sub.conn w.clients) refl
      (fits (client_at sub.conn w.clients) (owed_entry s.shard s.clients job None sub)) refl

  all_walked : (s : State) (job : Job) (subs : List Subscription) (w : Walk)
      → Walked option w
      → Walked option (walk s job subs w)
  all_walked s job [] w so_far = so_far
  all_walked s job (sub ∷ subs) w so_far =
      all_walked s job subs (walk_after_put s job w sub) (step_walked s job w sub so_far)

-- the connection alone, with some entries
pub record IsStill (t : State) (shut : Bool) : Type 0 where
  pub entries : List Written
  pub alone : IsAlone t entries shut

begun_by : (t : State) (job : Job) (alone : IsAlone t [] false)
    → Walked alone.option (whole_walk t job)
    → IsStill (shard_after t (Begin job)) (has_any (whole_walk t job).shut)
begun_by t job alone (open_still entries is none few) =
    subst (IsStill (shard_after t (Begin job))) (sym (ap has_any none)) (record {
      entries = entries;
      alone = record {
        option = alone.option;
        shard = alone.shard;
        shards = alone.shards;
        next = alone.next;
        clients = is;
        few = omega (arith, few);
      };
    })
begun_by t job alone (shut_since entries is some few) =
    subst (IsStill (shard_after t (Begin job))) (sym some) (record {
      entries = entries;
      alone = record {
        option = alone.option;
        shard = alone.shard;
        shards = alone.shards;
        next = alone.next;
        clients = is;
        few = few;
      };
    })

pub begun_still : (t : State) (job : Job)
    → IsAlone t [] false
    → IsStill (shard_after t (Begin job)) (has_any (whole_walk t job).shut)
begun_still t job alone =
    begun_by t job alone
    (all_walked alone.option t job (filter (is_due job) t.subs) (first_step t.clients)
    (open_still [] alone.clients refl (omega arith)))

-- ---- claims

candidate_fits : (t : State) (job : Job) (o : Option (List ℕ)) (sub : Subscription)
    → candidate_named t job o ≡ Some sub
    → (entry : Written) × (fits (client_at sub.conn t.clients) entry ≡ true)
candidate_fits t job None sub is = absurd (none-some sub is)
candidate_fits t job (Some name) sub is =
    let among =
    in_filter (is_candidate t job name) t.subs sub (in_read (filter (is_candidate t job name) t.subs) _ sub is) in
    let named = and_true (is_named name sub.key.queue) _ among.1 in
    (owed_entry t.shard t.clients job (Some name) sub, (and_true (is_wanted job sub) _ named.1).1)

claim_still : (t : State) (n : ℕ) (shut : Bool) → IsStill t shut → IsStill (shard_after t (Claim n true)) shut
claim_still t n shut still = go t.hand refl (candidate_of t t.hand n) refl
  where
    placed : (job : Job) (sub : Subscription)
        → HasRoom sub.conn still.entries shut
        → IsStill (after_put (after_try t) job sub) shut
    placed job sub room =
        let entry = owed_entry t.shard t.clients job sub.key.queue sub in
        record {
          entries = still.entries ++ entry ∷ [];
          alone = record {
            option = still.alone.option;
            shard = still.alone.shard;
            shards = still.alone.shards;
            next = still.alone.next;
            clients =
                ap (clients_with_change (with_entry entry) sub.conn) still.alone.clients
                ∙ changed_here sub.conn still.alone.option still.entries shut (with_entry entry) room.at.here;
            few =
                let more = length-append still.entries (entry ∷ []) in
                let below = room.room in
                omega (arith, more, below);
          };
        }

    go : (hand : Option Job)
        → t.hand ≡ hand
        → (sub : Option Subscription)
        → candidate_of t t.hand n ≡ sub
        → IsStill (after_claim t t.hand (candidate_of t t.hand n) true) shut
    go None e sub f =
        subst (λ (h : Option Job). IsStill (after_claim t h (candidate_of t t.hand n) true) shut) (sym e) still
    go (Some job) e None f =
        subst (λ (h : Option Job). IsStill (after_claim t h (candidate_of t t.hand n) true) shut) (sym e)
        (subst (λ c. IsStill (after_claim t (Some job) c true) shut) (sym f) (record {
          entries = still.entries;
          alone = same_alone t (after_try t) still.entries shut still.alone refl refl refl refl;
        }))
    go (Some job) e (Some sub) f =
        let found =
        candidate_fits t job (slice_get job.queues n) sub (ap (λ (h : Option Job). candidate_of t h n) (sym e) ∙ f) in
        let room = fits_here sub.conn still.alone.option still.entries shut found.0
        (ap (λ (cs : List Client). fits (client_at sub.conn cs) found.0) (sym still.alone.clients) ∙ found.1) in
        subst (λ (h : Option Job). IsStill (after_claim t h (candidate_of t t.hand n) true) shut) (sym e)
        (subst (λ c. IsStill (after_claim t (Some job) c true) shut) (sym f) (placed job sub room))

pub claimed_still : (n : ℕ) (t : State) (shut : Bool) → IsStill t shut → IsStill (after_claims n t) shut
claimed_still zero t shut still = still
claimed_still (suc n) t shut still = claim_still (after_claims n t) n shut (claimed_still n t shut still)

claim_hand : (t : State) (hand : Option Job) (sub : Option Subscription) → (after_claim t hand sub true).hand ≡ t.hand
claim_hand t None sub = refl
claim_hand t (Some job) None = refl
claim_hand t (Some job) (Some sub) = refl

pub claimed_hand : (n : ℕ) (t : State) → (after_claims n t).hand ≡ t.hand
claimed_hand zero t = refl
claimed_hand (suc n) t = let u = after_claims n t in claim_hand u u.hand (candidate_of u u.hand n) ∙ claimed_hand n t

claim_drains : (t : State) (hand : Option Job) (sub : Option Subscription)
    → (after_claim t hand sub true).draining ≡ t.draining
claim_drains t None sub = refl
claim_drains t (Some job) None = refl
claim_drains t (Some job) (Some sub) = refl

claimed_drains : (n : ℕ) (t : State) → (after_claims n t).draining ≡ t.draining
claimed_drains zero t = refl
claimed_drains (suc n) t =
    let u = after_claims n t in claim_drains u u.hand (candidate_of u u.hand n) ∙ claimed_drains n t

claim_index : (t : State) (job : Job) (sub : Option Subscription)
    → (after_claim t (Some job) sub true).next_index ≡ t.next_index + 1
claim_index t job None = refl
claim_index t job (Some sub) = refl

pub claimed_index : (n : ℕ) (t : State) (job : Job)
    → t.hand ≡ Some job
    → t.next_index ≡ 0
    → (after_claims n t).next_index ≡ n
claimed_index zero t job hand none = none
claimed_index (suc n) t job hand none =
    let u = after_claims n t in
    let at = claimed_index n t job hand none in
    ap (λ (h : Option Job). (after_claim u h (candidate_of u u.hand n) true).next_index) (claimed_hand n t ∙ hand)
    ∙ claim_index u job (candidate_of u u.hand n)
    ∙ (omega (arith, at))

-- ---- End

end_still : (t : State) (hand : Option Job) (shut : Bool) → IsStill t shut → IsStill (done_with t hand) shut
end_still t None shut still = still
end_still t (Some job) shut still = record {
  entries = still.entries;
  alone = same_alone t (done_with t (Some job)) still.entries shut still.alone refl refl refl refl;
}

pub worked_still : (job : Job) (t : State)
    → IsAlone t [] false
    → IsStill (after_job job t) (has_any (whole_walk t job).shut)
worked_still job t alone =
    let u = after_claims (length job.queues) (shard_after t (Begin job)) in
    end_still u u.hand (has_any (whole_walk t job).shut)
    (claimed_still (length job.queues) (shard_after t (Begin job)) (has_any (whole_walk t job).shut)
    (begun_still t job alone))

-- nothing is in hand behind it, and whether it drains is as before
pub worked_done : (job : Job) (t : State)
    → ((after_job job t).hand ≡ None) × ((after_job job t).next_index ≡ 0) × ((after_job job t).draining ≡ t.draining)
worked_done job t =
    let u = after_claims (length job.queues) (shard_after t (Begin job)) in
    let hand : u.hand ≡ Some job = claimed_hand (length job.queues) (shard_after t (Begin job)) in (
      ap (λ (h : Option Job). (done_with u h).hand) hand,
      ap (λ (h : Option Job). (done_with u h).next_index) hand,
      ap (λ (h : Option Job). (done_with u h).draining) hand
          ∙ claimed_drains (length job.queues) (shard_after t (Begin job)),
    )
