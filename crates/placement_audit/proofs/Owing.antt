-- The test of what is owed holds just where it is owed.
use Rattle.std.proofs.Common.{◌≡◌, ℕ, ◌<◌, ◌≤◌, Bool, true, ◌&&◌, true≢false, nat_eq, nat_lt, nat_le, List, Option, Some, None, refl, sym, ap, ◌∙◌, arith}
use Rattle.std.specs.Prelude.{filter}
use Rattle.std.specs.Str.{bytes_eq}
use Rattle.std.proofs.lemmas.Bool.Decides.{nat_tests}
use Rattle.std.proofs.lemmas.Option.{same_Some, none-some}
use Rattle.std.proofs.lemmas.Slice.Eq.{bytes_eq-Decides}
use Rattle.list_laws.proofs.Changes.{in_filter, filter_in}
use Rattle.list_laws.proofs.Tests.{and_true, eq_true, true_eq, lt_true, le_true, same_bytes}
use Rattle.client_frames.specs.Messages.{due_bytes}
use Rattle.outbox.specs.declared.entries.Mode.{Mode}
use Rattle.outbox.specs.declared.entries.Mode.TheVariants.{Plain, Queue}
use Rattle.shard_core.specs.Owed.{mode_of}
use Rattle.subj.specs.Matching.{subject_matches}
use Rattle.world_law.specs.Headline.{IsOwed}
use Rattle.world_law.specs.State.{Publication, Life, Placement}
use Rattle.placement_audit.specs.Keys.{is_life, is_publication}
use Rattle.placement_audit.specs.Tests.{any_due, is_due, is_for, is_mode, is_not_before, is_open, is_owed}
use Rattle.placement_audit.proofs.Anys.{any_in, both_hold, in_any}
use Rattle.placement_audit.proofs.Ordered.{life_is, life_itself, publication_is, publication_itself}

-- what is due of a publication to a subscription, name by name
record IsDue (source : Publication) (life : Life) (p : Placement) : Type 0 where
  earlier : source.step < p.step
  opened : life.opened < p.step
  still : (k : ℕ) → life.closed ≡ Some k → p.step ≤ k
  conn : life.conn ≡ p.conn
  mode : mode_of life.key.queue ≡ p.mode
  matches : subject_matches life.key.pattern source.message.subject ≡ true
  bytes : p.bytes ≡ due_bytes source.message life.sid p.headers

-- ---- from the test

mode_is : (queue : Option (List ℕ)) (mode : Mode) → is_mode queue mode ≡ true → mode_of queue ≡ mode
mode_is None Plain e = refl
mode_is None (Queue name) e = absurd (true≢false (sym e))
mode_is (Some name) Plain e = absurd (true≢false (sym e))
mode_is (Some name) (Queue other) e = ap Queue (same_bytes name other e)

still_is : (step : ℕ) (closed : Option ℕ) → is_not_before step closed ≡ true → (k : ℕ) → closed ≡ Some k → step ≤ k
still_is step None e k is = absurd (none-some k is)
still_is step (Some j) e k is =
    let same : j ≡ k = same_Some j k is in
    let le : step ≤ j = le_true step j e in
    omega arith

due_is : (source : Publication) (life : Life) (p : Placement) → is_due source life p ≡ true → IsDue source life p
due_is source life p e =
    let matching = subject_matches life.key.pattern source.message.subject in
    let moded = is_mode life.key.queue p.mode && matching in
    let connected = nat_eq life.conn p.conn && moded in
    let opening = is_open life p.step && connected in
    let whole = and_true (is_for source life p) (bytes_eq (due_bytes source.message life.sid p.headers) p.bytes) e in
    let first = and_true (nat_lt source.step p.step) opening whole.0 in
    let second = and_true (is_open life p.step) connected first.1 in
    let open_so = and_true (nat_lt life.opened p.step) (is_not_before p.step life.closed) second.0 in
    let third = and_true (nat_eq life.conn p.conn) moded second.1 in
    let fourth = and_true (is_mode life.key.queue p.mode) matching third.1 in
    record {
      earlier = lt_true source.step p.step first.0;
      opened = lt_true life.opened p.step open_so.0;
      still = still_is p.step life.closed open_so.1;
      conn = eq_true life.conn p.conn third.0;
      mode = mode_is life.key.queue p.mode fourth.0;
      matches = fourth.1;
      bytes = sym (same_bytes (due_bytes source.message life.sid p.headers) p.bytes whole.1);
    }

pub owed_is : (publications : List Publication) (lives : List Life) (p : Placement)
    → is_owed publications lives p ≡ true
    → IsOwed publications lives p
owed_is publications lives p e =
    let is_source : Publication → Bool = λ s. is_publication s.id p.id in
    let is_its : Life → Bool = λ l. is_life l.id p.life in
    let s =
    any_in (λ (source : Publication). any_due source p (filter is_its lives)) (filter is_source publications) e in
    let l = any_in (λ (life : Life). is_due s.0 life p) (filter is_its lives) s.2 in
    let source = in_filter is_source publications s.0 s.1 in
    let life = in_filter is_its lives l.0 l.1 in
    let due = due_is s.0 l.0 p l.2 in
    record {
      source = s.0;
      source_in = source.0;
      id = publication_is s.0.id p.id source.1;
      earlier = due.earlier;
      life = l.0;
      life_in = life.0;
      life_id = life_is l.0.id p.life life.1;
      conn = due.conn;
      mode = due.mode;
      matches = due.matches;
      opened = due.opened;
      still = due.still;
      bytes = due.bytes;
    }

-- ---- to the test

lt_holds : (a b : ℕ) → a < b → nat_lt a b ≡ true
lt_holds a b lt = grind (arith, nat_tests, lt)

le_holds : (a b : ℕ) → a ≤ b → nat_le a b ≡ true
le_holds a b le = grind (arith, nat_tests, le)

bytes_hold : (a b : List ℕ) → a ≡ b → bytes_eq a b ≡ true
bytes_hold a b e = (bytes_eq-Decides a b).1 e

mode_holds : (queue : Option (List ℕ)) → is_mode queue (mode_of queue) ≡ true
mode_holds None = refl
mode_holds (Some name) = bytes_hold name name refl

still_holds : (step : ℕ) (closed : Option ℕ) → ((k : ℕ) → closed ≡ Some k → step ≤ k) → is_not_before step closed ≡ true
still_holds step None still = refl
still_holds step (Some k) still = le_holds step k (still k refl)

due_holds : (source : Publication) (life : Life) (p : Placement) → IsDue source life p → is_due source life p ≡ true
due_holds source life p d =
    let matching = subject_matches life.key.pattern source.message.subject in
    let moded = is_mode life.key.queue p.mode && matching in
    let connected = nat_eq life.conn p.conn && moded in
    let mode : is_mode life.key.queue p.mode ≡ true =
    ap (is_mode life.key.queue) (sym d.mode) ∙ mode_holds life.key.queue in
    let open_so = both_hold (nat_lt life.opened p.step) (is_not_before p.step life.closed)
    (lt_holds life.opened p.step d.opened) (still_holds p.step life.closed d.still) in
    let fits = both_hold (nat_lt source.step p.step) (is_open life p.step && connected)
    (lt_holds source.step p.step d.earlier)
    (both_hold (is_open life p.step) connected open_so
    (both_hold (nat_eq life.conn p.conn) moded (true_eq life.conn p.conn d.conn)
    (both_hold (is_mode life.key.queue p.mode) matching mode d.matches))) in
    both_hold (is_for source life p) (bytes_eq (due_bytes source.message life.sid p.headers) p.bytes) fits
    (bytes_hold (due_bytes source.message life.sid p.headers) p.bytes (sym d.bytes))

pub owed_holds : (publications : List Publication) (lives : List Life) (p : Placement)
    → IsOwed publications lives p
    → is_owed publications lives p ≡ true
owed_holds publications lives p o =
    let is_source : Publication → Bool = λ s. is_publication s.id p.id in
    let is_its : Life → Bool = λ l. is_life l.id p.life in
    let due : IsDue o.source o.life p = record {
      earlier = o.earlier;
      opened = o.opened;
      still = o.still;
      conn = o.conn;
      mode = o.mode;
      matches = o.matches;
      bytes = o.bytes;
    } in
    let source = filter_in is_source publications o.source o.source_in
    (ap (λ a. is_publication a p.id) o.id ∙ publication_itself p.id) in
    let life = filter_in is_its lives o.life o.life_in (ap (λ a. is_life a p.life) o.life_id ∙ life_itself p.life) in
    in_any (λ (s : Publication). any_due s p (filter is_its lives)) (filter is_source publications) o.source source
    (in_any (λ (l : Life). is_due o.source l p) (filter is_its lives) o.life life (due_holds o.source o.life p due))
