-- The candidate of a claim is the member at the place of the turn.
use Rattle.std.proofs.Common.{◌≡◌, ℕ, zero, suc, ◌+◌, ◌%◌, ◌≤◌, ◌&&◌, Bool, true, false, cond, List, [], ◌∷◌, ◌++◌, length, map, filter, drop, Option, Some, None, refl, sym, ap, ◌∙◌, subst, inl, inr, arith, length-append}
use Rattle.std.specs.Prelude.{decimal, codes, nat_lt, slice_get, IfSome, is_some}
use Rattle.std.specs.Option.{option_or}
use Rattle.std.proofs.lemmas.Bool.Decides.{nat_tests}
use Rattle.std.proofs.lemmas.Fmt.{length-decimal-le}
use Rattle.std.proofs.lemmas.List.{length-map}
use Rattle.std.proofs.lemmas.Option.{same_Some}
use Rattle.list_laws.specs.Lists.{In, Along}
use Rattle.list_laws.proofs.Lists.{in_read}
use Rattle.list_laws.proofs.Changes.{filter_in, in_filter, in_mapped, map_filter}
use Rattle.list_laws.proofs.Tests.{and_true, same_bytes}
use Rattle.client_frames.specs.Messages.{headers_due, line_around, parts_with, tail_bytes, reply_field}
use Rattle.job_block.specs.Publications.{IsPublishable, IsShort}
use Rattle.outbox.specs.Bytes.{line_end}
use Rattle.outbox.specs.Views.{message_entry, spelt_entry}
use Rattle.outbox.specs.declared.entries.Mode.TheVariants.{Queue}
use Rattle.sub_table.specs.Subscriptions.{gets}
use Rattle.sub_table.specs.declared.Subscription.{Subscription}
use Rattle.subj.specs.Messages.{Content, body_bytes}
use Rattle.subj.specs.Names.{has_forbidden, subject_fault, subject_token_fault, text_fault, tokens}
use Rattle.subj.specs.declared.faults.NameFault.{NameFault}
use Rattle.subj.specs.QueueNames.{is_named}
use Rattle.subj.specs.declared.jobs.Job.{Job}
use Rattle.subj.specs.declared.limits.TheConstants.{MAX_SUBJECT}
use Rattle.shard_core.specs.declared.claim_run.Member.{Member}
use Rattle.shard_core.specs.ClaimMembers.{ClaimsWith, IsMember, IsOpenFor, is_asked, most_bytes, most_tail, queued_entry}
use Rattle.shard_core.specs.Closings.{id_of}
use Rattle.shard_core.specs.Claims.{is_member}
use Rattle.shard_core.specs.Owed.{candidate_named, candidate_of, due_entry, is_candidate, is_due, is_permitted, member_for_turn, owed_entry}
use Rattle.shard_core.specs.Received.{Received, receiver_of, receivers_of}
use Rattle.shard_core.specs.ReceiverSteps.{is_due_to}
use Rattle.shard_core.specs.RunNoted.{noted_receivers}
use Rattle.shard_core.specs.Shards.{State, Client, client_at, fits, takes_headers}
use Rattle.shard_core.proofs.ClaimRooms.{rooms_go_on}
use Rattle.shard_core.proofs.ClaimRuns.{in_hand}
use Rattle.shard_core.proofs.RunNoted.{noted_of_due}
use Rattle.shard_core.proofs.Turns.Claims.{members_are}
use Rattle.shard_core.proofs.Turns.Received.{spelt_with}

-- ---- a job goes to whom the first one goes

pub alike_job : (first job : Job) (name : List ℕ) → ClaimsWith first name job
    → job ≡ record job {
      publisher = first.publisher;
      echo = first.echo;
      message = record job.message { subject = first.message.subject };
    }
alike_job first job name like = λ i. record job {
  publisher = like.publisher i;
  echo = like.echo i;
  message = record job.message { subject = like.subject i };
}

pub open_alike : (count : ℕ) (first job : Job) (name : List ℕ) (subs : List Subscription) (clients : List Client)
    (members : List Member)
    → ClaimsWith first name job
    → IsOpenFor count first name subs clients members
    → IsOpenFor count job name subs clients members
open_alike count first job name subs clients members like ready =
    let same = sym (alike_job first job name like) in
    record {
      undue =
          subst (λ (j : Job).
          filter (is_due_to j) (receivers_of j.message.subject (filter (gets j.message.subject) subs)) ≡ []) same
          ready.undue;
      members_are =
          subst (λ (j : Job).
          Along
          (IsMember count (receivers_of j.message.subject (filter (gets j.message.subject) subs)) clients) members
          (filter (is_asked j name) (receivers_of j.message.subject (filter (gets j.message.subject) subs)))) same
          ready.members_are;
    }

-- ---- its bytes

-- an entry in two parts is what the subscription is owed, whether its connection takes headers or not
pub spelt_queued : (shard : ℕ) (option : Bool) (job : Job) (name : List ℕ) (sub : Subscription)
    → job.message.headers ≡ None
    → queued_entry shard job name (receiver_of job.message.subject sub) ≡ due_entry shard option job (Some name) sub
spelt_queued shard option job name sub plain =
    ap (spelt_entry job.id (id_of shard sub.serial) (Queue name)) (spelt_with job.message sub.sid None)
    ∙ ap (λ (h : Option (List ℕ)).
    message_entry job.id (id_of shard sub.serial) (Queue name) (line_around (parts_with job.message h) sub.sid)
    (body_bytes h job.message.payload)) (sym (due option))
  where
    due : (o : Bool) → headers_due job.message o ≡ None
    due true = plain
    due false = refl

-- a subject is not longer than its limit
first_none : (a b : Option NameFault) → option_or a b ≡ None → a ≡ None
first_none None b none = refl
first_none (Some x) b none = none

not_above : {X : Type 0} (m n : ℕ) (x : X) (y : Option X) → cond (nat_lt m n) (Some x) y ≡ None → n ≤ m
not_above m n x y none = grind (arith, nat_tests)

text_fits : (most : ℕ) (bad : Bool) (text : List ℕ) → text_fault most bad text ≡ None → length text ≤ most
text_fits most bad [] none = omega arith
text_fits most bad (x ∷ xs) none = not_above most (length (x ∷ xs)) _ _ none

subject_fits : (text : List ℕ) → subject_fault text ≡ None → length text ≤ MAX_SUBJECT
subject_fits text none =
    text_fits MAX_SUBJECT (has_forbidden text) text (first_none _ (subject_token_fault (tokens text)) none)

reply_length : (reply : Option (List ℕ)) → IfSome reply (λ (r : List ℕ). subject_fault r ≡ None)
    → length (reply_field reply) ≤ MAX_SUBJECT + 1
reply_length None valid = omega arith
reply_length (Some r) valid =
    let few = subject_fits r valid in
    let blank : length (codes " ") ≡ 1 = refl in
    omega (arith, few, blank, length-append r (codes " "))

short_tail : (content : Content) → IsPublishable content → IsShort content
    → length (tail_bytes content false) ≤ most_tail
short_tail content valid is =
    let payload = content.payload in
    let number = decimal (length payload) in
    let few = is.short in
    let reply = reply_length content.reply valid.reply in
    let blank : length (codes " ") ≡ 1 = refl in
    let end : length line_end ≡ 2 = refl in
    let digits : length number ≤ 4 =
    length-decimal-le 4 (length payload) (omega arith) (omega (arith, few)) (omega (arith, few)) in
    omega (
      arith,
      few,
      reply,
      blank,
      end,
      digits,
      length-append (codes " " ++ (reply_field content.reply ++ number)) (line_end ++ (payload ++ line_end)),
      length-append (codes " ") (reply_field content.reply ++ number),
      length-append (reply_field content.reply) number,
      length-append line_end (payload ++ line_end),
      length-append payload line_end,
    )

shorter : (head : List ℕ) → length (drop 1 head) ≤ length head
shorter [] = omega arith
shorter (x ∷ head) = omega arith

pub queued_short : (shard : ℕ) (job : Job) (name : List ℕ) (r : Received)
    → IsPublishable job.message → IsShort job.message → length r.head + most_tail ≤ most_bytes
    → length (queued_entry shard job name r).bytes ≤ most_bytes
queued_short shard job name r valid is few =
    let tail = short_tail job.message valid is in
    let head = shorter r.head in
    omega (arith, few, tail, head, length-append (drop 1 r.head) (tail_bytes job.message false))

-- ---- members and candidates

pub member_of : (count : ℕ) (receivers : List Received) (clients : List Client) (members : List Member)
    (asked : List Received) (r : Received)
    → Along (IsMember count receivers clients) members asked
    → In r asked
    → (m : Member) × IsMember count receivers clients m r
member_of count receivers clients [] [] r along there = absurd there
member_of count receivers clients [] (x ∷ asked) r along there = absurd along
member_of count receivers clients (m ∷ members) [] r along there = absurd there
member_of count receivers clients (m ∷ members) (x ∷ asked) r along (inl same) =
    (m, subst (IsMember count receivers clients m) (sym same) along.0)
member_of count receivers clients (m ∷ members) (x ∷ asked) r along (inr later) =
    member_of count receivers clients members asked r along.1 later

pub member_at : (count : ℕ) (receivers : List Received) (clients : List Client) (members : List Member)
    (asked : List Received) (at : ℕ) (m : Member)
    → Along (IsMember count receivers clients) members asked
    → slice_get members at ≡ Some m
    → (r : Received) × (slice_get asked at ≡ Some r) × IsMember count receivers clients m r
member_at count receivers clients [] asked at m along is = absurd (cc (is))
member_at count receivers clients (n ∷ members) [] at m along is = absurd along
member_at count receivers clients (n ∷ members) (x ∷ asked) zero m along is =
    (x, refl, subst (λ (k : Member). IsMember count receivers clients k x) (same_Some n m is) along.0)
member_at count receivers clients (n ∷ members) (x ∷ asked) (suc at) m along is =
    member_at count receivers clients members asked at m along.1 is

pub as_many : (count : ℕ) (receivers : List Received) (clients : List Client) (members : List Member)
    (asked : List Received)
    → Along (IsMember count receivers clients) members asked
    → length members ≡ length asked
as_many count receivers clients [] [] along = refl
as_many count receivers clients [] (x ∷ asked) along = absurd along
as_many count receivers clients (m ∷ members) [] along = absurd along
as_many count receivers clients (m ∷ members) (x ∷ asked) along =
    ap (λ (n : ℕ). suc n) (as_many count receivers clients members asked along.1)

empty_list : {A : Type 0} (xs : List A) → length xs ≡ 0 → xs ≡ []
empty_list [] e = refl
empty_list (x ∷ xs) e = absurd (omega arith)

from_map : {A B : Type 0} (f : A → B) (xs : List A) (at : ℕ) (y : B)
    → slice_get (map f xs) at ≡ Some y
    → (x : A) × (slice_get xs at ≡ Some x) × (f x ≡ y)
from_map f [] at y is = absurd (cc (is))
from_map f (x ∷ xs) zero y is = (x, refl, same_Some (f x) y is)
from_map f (x ∷ xs) (suc at) y is = from_map f xs at y is

named : (name : List ℕ) (q : Option (List ℕ)) → is_named name q ≡ true → q ≡ Some name
named name None e = absurd (cc)
named name (Some other) e = ap Some (same_bytes other name e)

pub unlimited : (max : Option ℕ) → is_some max ≡ false → max ≡ None
unlimited None e = refl
unlimited (Some n) e = absurd (cc)

empty_map : {A B : Type 0} (f : A → B) (xs : List A) → map f xs ≡ [] → xs ≡ []
empty_map f [] e = refl
empty_map f (x ∷ xs) e = absurd (cc)

filter_same : {A : Type 0} (f g : A → Bool) (xs : List A) → ((x : A) → In x xs → f x ≡ g x) → filter f xs ≡ filter g xs
filter_same f g [] same = refl
filter_same f g (x ∷ xs) same =
    λ i. cond (same x (inl refl) i) (x ∷ filter_same f g xs (λ y there. same y (inr there)) i)
    (filter_same f g xs (λ y there. same y (inr there)) i)

-- where none that is noted is due, none is
pub none_due : (job : Job) (subs : List Subscription) → noted_receivers subs job ≡ [] → filter (is_due job) subs ≡ []
none_due job subs none =
    empty_map (receiver_of job.message.subject) (filter (is_due job) subs) (sym (noted_of_due subs job) ∙ none)

-- a test that holds where two others do
third : (n p f : Bool) → (n ≡ true → p ≡ true → f ≡ true) → (n && (p && f)) ≡ (n && p)
third false p f holds = refl
third true false f holds = refl
third true true f holds = holds refl refl

both : (n p : Bool) → n ≡ true → p ≡ true → (n && p) ≡ true
both n p e1 e2 = λ i. (e1 i) && (e2 i)

-- the member at a place, as the subscription that it is
pub record IsChosen (s : State) (job : Job) (name : List ℕ) (r : Received) (sub : Subscription) : Type 0 where
  pub receiver : receiver_of job.message.subject sub ≡ r
  pub queue : sub.key.queue ≡ Some name
  pub candidate : candidate_of (in_hand s job) (Some job) 0 ≡ Some sub

module _ (s : State) (job : Job) (name : List ℕ) (members : List Member) (valid : IsPublishable job.message)
    (short : IsShort job.message) (ready : IsOpenFor 1 job name s.subs s.clients members) where
  abbrev pub subject : List ℕ
  subject = job.message.subject

  abbrev pub matching : List Subscription
  matching = filter (gets subject) s.subs

  abbrev pub asked_sub : Subscription → Bool
  asked_sub sub = is_asked job name (receiver_of subject sub)

  -- a member has room for its entry
  asked_fits : (sub : Subscription) → In sub matching → asked_sub sub ≡ true
      → fits (client_at sub.conn s.clients) (owed_entry s.shard s.clients job (Some name) sub) ≡ true
  asked_fits sub there asks =
      let r = receiver_of subject sub in
      let m =
      member_of 1 (receivers_of subject matching) s.clients members
      (filter (is_asked job name) (receivers_of subject matching)) r ready.members_are
      (filter_in (is_asked job name) (receivers_of subject matching) r
      (in_mapped (receiver_of subject) matching sub there) asks) in
      ap (fits (client_at sub.conn s.clients))
      (sym (spelt_queued s.shard (takes_headers sub.conn s.clients) job name sub short.plain))
      ∙ (rooms_go_on s.clients sub.conn 0 most_bytes (queued_entry s.shard job name r)
      (queued_short s.shard job name r valid short m.1.short) m.1.room).fits_one

  member_asked : (sub : Subscription) → In sub matching
      → is_member s.shard s.clients job name sub ≡ asked_sub sub
  member_asked sub there =
      third (is_named name sub.key.queue) (is_permitted job sub)
      (fits (client_at sub.conn s.clients) (owed_entry s.shard s.clients job sub.key.queue sub))
      (λ is may.
      ap (λ (q : Option (List ℕ)). fits (client_at sub.conn s.clients) (owed_entry s.shard s.clients job q sub))
      (named name sub.key.queue is)
      ∙ asked_fits sub there (both (is_named name sub.key.queue) (is_permitted job sub) is may))

  abbrev pub candidates : List Subscription
  candidates = filter asked_sub matching

  candidates_are : filter (is_candidate (in_hand s job) job name) s.subs ≡ candidates
  candidates_are =
      sym (members_are s.shard s.clients job name s.subs s.subs)
      ∙ filter_same (is_member s.shard s.clients job name) asked_sub matching member_asked

  asked_are : filter (is_asked job name) (receivers_of subject matching) ≡ map (receiver_of subject) candidates
  asked_are = map_filter (receiver_of subject) asked_sub (is_asked job name) matching (λ x. refl)

  count_is : length members ≡ length candidates
  count_is =
      as_many 1 (receivers_of subject matching) s.clients members
      (filter (is_asked job name) (receivers_of subject matching)) ready.members_are
      ∙ ap length asked_are ∙ length-map candidates (receiver_of subject)

  candidate_at : job.queues ≡ name ∷ []
      → candidate_of (in_hand s job) (Some job) 0 ≡ slice_get candidates (job.turn % length candidates)
  candidate_at one =
      ap (λ (names : List (List ℕ)). candidate_named (in_hand s job) job (slice_get names 0)) one
      ∙ ap (member_for_turn job.turn) candidates_are

  -- without a member there is no candidate
  pub no_candidate : job.queues ≡ name ∷ [] → length members ≡ 0 → candidate_of (in_hand s job) (Some job) 0 ≡ None
  no_candidate one none =
      candidate_at one ∙ ap (member_for_turn job.turn) (empty_list candidates (sym count_is ∙ none))

  -- the one at the place of the turn
  pub candidate_is : (at : ℕ) (r : Received)
      → job.queues ≡ name ∷ []
      → at ≡ job.turn % length members
      → slice_get (filter (is_asked job name) (receivers_of subject matching)) at ≡ Some r
      → (sub : Subscription) × IsChosen s job name r sub
  candidate_is at r one place is =
      let found = from_map (receiver_of subject) candidates at r (sym (ap (λ l. slice_get l at) asked_are) ∙ is) in
      let sub : Subscription = found.0 in
      let there = in_filter asked_sub matching sub (in_read candidates at sub found.1) in (
        sub,
        record {
          receiver = found.2;
          queue = named name sub.key.queue (and_true (is_named name sub.key.queue) (is_permitted job sub) there.1).0;
          candidate =
              candidate_at one
              ∙ ap (slice_get candidates) (ap (λ (n : ℕ). job.turn % n) (sym count_is) ∙ sym place)
              ∙ found.1;
        },
      )
