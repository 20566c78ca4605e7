-- The members of a run of claims are noted, receiver after receiver.
use Rattle.std.proofs.Common.{◌≡◌, ℕ, ◌+◌, ◌≤◌, ◌&&◌, Bool, true, false, cond, List, [], ◌∷◌, ◌++◌, length, filter, take, Option, Some, None, refl, sym, ap, ◌∙◌, subst, arith, true≢false}
use Rattle.std.specs.Prelude.{slice_get}
use Rattle.std.proofs.lemmas.List.{take_more}
use Rattle.std.proofs.lemmas.Option.{get_or_from_slice_get, slice_get_within}
use Rattle.list_laws.specs.Lists.{Along}
use Rattle.list_laws.proofs.Changes.{along_append, append_nil, filter_append}
use Rattle.list_laws.proofs.Tests.{and_true}
use Rattle.subj.specs.QueueNames.{is_named}
use Rattle.subj.specs.declared.jobs.Job.{Job}
use Rattle.shard_core.specs.declared.claim_run.Member.{Member}
use Rattle.shard_core.specs.Boxes.{IsSeatOf}
use Rattle.shard_core.specs.ClaimMembers.{IsMember, NotesMember, is_asked, most_bytes, most_tail}
use Rattle.shard_core.specs.ClaimRuns.{HasRoomAt}
use Rattle.shard_core.specs.Owed.{may_get_at}
use Rattle.shard_core.specs.Received.{Received}
use Rattle.shard_core.specs.ReceiverSteps.{is_due_to}
use Rattle.shard_core.specs.Shards.{Client, client_at}
use Rattle.shard_core.proofs.ClaimPlaces.{along_with}

-- ---- one receiver

and_not : (a b : Bool) → b ≡ false → (a && b) ≡ false
and_not true b e = e
and_not false b e = refl

module _ (count place : ℕ) (job : Job) (name : List ℕ) (r : Received) (clients : List Client)
    (old new : List Member) where
  -- it may not get the jobs
  pub passed_over : may_get_at job r.conn ≡ false → new ≡ old → NotesMember count place job name r clients old new
  passed_over out same = record {
    undue = and_not r.is_plain (may_get_at job r.conn) out;
    others = λ e. same;
    asked = λ e. absurd (true≢false (sym (and_true (is_named name r.queue) (may_get_at job r.conn) e).1 ∙ out));
  }

  -- it is in another queue group
  pub of_others : r.is_plain ≡ false → is_named name r.queue ≡ false → new ≡ old
      → NotesMember count place job name r clients old new
  of_others queued out same = record {
    undue = ap (λ b. b && may_get_at job r.conn) queued;
    others = λ e. same;
    asked = λ e. absurd (true≢false (sym (and_true (is_named name r.queue) (may_get_at job r.conn) e).0 ∙ out));
  }

  -- it is a member
  pub noted_one : (m : Member)
      → r.is_plain ≡ false
      → is_named name r.queue ≡ true
      → may_get_at job r.conn ≡ true
      → r.is_limited ≡ false
      → length r.head + most_tail ≤ most_bytes
      → m.serial ≡ r.serial
      → m.place ≡ place
      → IsSeatOf r.conn m.seat clients
      → HasRoomAt count most_bytes (client_at r.conn clients)
      → new ≡ old ++ m ∷ []
      → NotesMember count place job name r clients old new
  noted_one m queued named may unlimited short serial here seat room pushed = record {
    undue = ap (λ b. b && may_get_at job r.conn) queued;
    others = λ e. absurd (true≢false (sym (λ i. (named i) && (may i)) ∙ e));
    asked = λ e. (
      m,
      pushed,
      here,
      λ receivers at. record {
        stands = ap (slice_get receivers) here ∙ at;
        serial_is = serial;
        unlimited = unlimited;
        seat_is = seat;
        short = short;
        room = room;
      },
    );
  }

-- ---- one more receiver

less_room : (count most : ℕ) (o : Option Client)
    → count ≤ most → HasRoomAt most most_bytes o → HasRoomAt count most_bytes o
less_room count most None few room = absurd room
less_room count most (Some client) few room =
    let entries = room.few in
    let bytes = room.small in
    record { not_shut = room.not_shut; few = omega (arith, few, entries); small = omega (arith, few, bytes) }

fewer_for : (count most : ℕ) (receivers : List Received) (clients : List Client) (m : Member) (r : Received)
    → count ≤ most → IsMember most receivers clients m r → IsMember count receivers clients m r
fewer_for count most receivers clients m r few is = record {
  stands = is.stands;
  serial_is = is.serial_is;
  unlimited = is.unlimited;
  seat_is = is.seat_is;
  short = is.short;
  room = less_room count most (client_at r.conn clients) few is.room;
}

one_taken : (xs : List Received) (k : ℕ) (x : Received)
    → slice_get xs k ≡ Some x → take (k + 1) xs ≡ take k xs ++ x ∷ []
one_taken xs k x is =
    take_more xs k x (slice_get_within xs k x is)
    ∙ ap (λ (y : Received). take k xs ++ y ∷ []) (get_or_from_slice_get xs k x x is)

module _ (count most place : ℕ) (job : Job) (name : List ℕ) (receivers : List Received) (r : Received)
    (clients : List Client) (old new : List Member) (few : count ≤ most) (at : slice_get receivers place ≡ Some r)
    (notes : NotesMember count place job name r clients old new) where
  pub undue_on : filter (is_due_to job) (take place receivers) ≡ []
      → filter (is_due_to job) (take (place + 1) receivers) ≡ []
  undue_on none =
      ap (filter (is_due_to job)) (one_taken receivers place r at)
      ∙ filter_append (is_due_to job) (take place receivers) (r ∷ [])
      ∙ (λ i. none i ++ cond (notes.undue i) (r ∷ []) [])

  pub members_on : Along (IsMember most receivers clients) old (filter (is_asked job name) (take place receivers))
      → Along (IsMember count receivers clients) new (filter (is_asked job name) (take (place + 1) receivers))
  members_on were =
      subst (Along (IsMember count receivers clients) new)
      (sym (ap (filter (is_asked job name)) (one_taken receivers place r at)
      ∙ filter_append (is_asked job name) (take place receivers) (r ∷ [])))
      (by (is_asked job name r) refl)
    where
      before : List Received
      before = filter (is_asked job name) (take place receivers)

      still : Along (IsMember count receivers clients) old before
      still =
          along_with (IsMember most receivers clients) (IsMember count receivers clients) old before
          (λ m x. fewer_for count most receivers clients m x few) were

      by : (b : Bool) → is_asked job name r ≡ b
          → Along (IsMember count receivers clients) new (before ++ cond b (r ∷ []) [])
      by false e =
          subst (Along (IsMember count receivers clients) new) (sym (append_nil before))
          (subst (λ l. Along (IsMember count receivers clients) l before) (sym (notes.others e)) still)
      by true e =
          let m = notes.asked e in
          subst (λ l. Along (IsMember count receivers clients) l (before ++ r ∷ [])) (sym m.1)
          (along_append (IsMember count receivers clients) old (m.0 ∷ []) before (r ∷ []) still
          (m.3 receivers at, tt))
