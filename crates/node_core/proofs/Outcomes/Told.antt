-- What the calls of a server put and close, as the outcome of its step.
use Rattle.std.proofs.Common.{◌≡◌, ℕ, Bool, true, false, not, cond, List, [], ◌∷◌, ◌-◌, Option, Some, None, sym, ap, subst, ◌∙◌, refl}
use Rattle.std.specs.Prelude.{option_to_list}
use Rattle.std.proofs.lemmas.Option.{none-some, same_Some}
use Rattle.outbox.specs.Views.{Written}
use Rattle.client_frames.specs.ErrTexts.{err_line}
use Rattle.client_frames.specs.Frames.{reply_line}
use Rattle.client_frames.specs.declared.err_texts.ErrText.{ErrText}
use Rattle.client_frames.specs.declared.server_frames.ReplyFrame.{ReplyFrame}
use Rattle.subj.specs.declared.identities.SubId.{SubId}
use Rattle.subj.specs.declared.jobs.Job.{Job}
use Rattle.shard_core.specs.ShardEvents as of_shard
use Rattle.subj.specs.declared.keys.Key.{Key}
use Rattle.subj.specs.Servers.{ServerIdentity}
use Rattle.sub_table.specs.declared.Subscription.{Subscription}
use Rattle.route_values.specs.declared.frames.RouteFrame.{RouteFrame}
use Rattle.shard_core.specs.Answers.{IsTold, answer_of}
use Rattle.shard_core.specs.Lines.{first_of}
use Rattle.shard_core.specs.ShardSteps.{shard_answer, shut_by, ended_of, answer_fits, claim_answer}
use Rattle.shard_core.specs.Shards.{State}
use Rattle.shard_core.specs.Owed.{slow_consumer, candidate_of}
use Rattle.shard_core.specs.Puts.{put_by, put_by_claim, put_line}
use Rattle.shard_core.specs.declared.calls.Begun.{Begun}
use Rattle.shard_core.specs.declared.calls.Placed.{Placed}
use Rattle.shard_core.specs.declared.calls.Subscribed.{Subscribed}
use Rattle.shard_core.specs.declared.calls.Subscribed.TheVariants.{New, Same}
use Rattle.node_parts.specs.declared.lines.Claimed.{Claimed}
use Rattle.node_parts.specs.declared.lines.Claimed.TheVariants as code
use Rattle.node_law.specs.Answers.{Answer, Attached, Nothing, TakenEntries, node_answer, told_of_shard, told_at}
use Rattle.node_law.specs.AsLaw.{Part, part_at, part_if, part_of}
use Rattle.node_law.specs.Events.{NodeEvent, Own, OfConn, AtShard}
use Rattle.node_law.specs.declared.events.ConnEvent.{ConnEvent}
use Rattle.node_law.specs.declared.events.ConnEvent.TheVariants.{Subscribe, Unsubscribe, Reply, SetHeaders, Shut, Detach, Take}
use Rattle.node_law.specs.declared.events.ShardWork.TheVariants.{Attach, Begin, Claim, End, DropJob, DrainShard}
use Rattle.node_core.specs.declared.node.stepping.ReplyPuts.{ReplyPuts}
use Rattle.node_core.specs.Outcome.{Does, Outcome, begin_outcome, claim_outcome, ended_told, entries_told, put_at, reply_outcome, shut_at, ended_at, with_frames}
use Rattle.node_core.specs.Served.{Served, DoesStep, ConnStep, WorkStep, DropStep, BeginStep, ClaimStep, IsToldAt, IsClaimTold, IsClaimToldAt, answer_at, work_answer, is_won}
use Rattle.node_law.specs.State.{ShardWithJobs, Node}
use Rattle.node_law.specs.Steps.{conn_line, conn_place, conn_event, shard_line, work_event, begin_of, drop_of, node_frames}
use Rattle.node_core.proofs.Outcomes.Answered.{told_begin, told_claim_at, told_drop_at, told_work}

-- ---- connections

-- the line that answered
record Answering (event : of_shard.Event) (answer : of_shard.Answer) (o : Option ShardWithJobs) : Type 0 where
  line : ShardWithJobs
  is : o ≡ Some line
  answered : answer ≡ shard_answer line.shard event

answering : (event : of_shard.Event) (answer : of_shard.Answer) (o : Option ShardWithJobs)
    → Some answer ≡ answer_at (Some event) o
    → Answering event answer o
answering event answer None e = absurd (none-some answer (sym e))
answering event answer (Some line) e = record {
  line = line;
  is = refl;
  answered = same_Some answer (shard_answer line.shard event) e;
}

-- what it put and shut is what its event does
conn_does : (old new : Served) (conn : ℕ) (event : ConnEvent) (answer : of_shard.Answer) (entries : List Placed)
    (shut : List ℕ)
    → ((line : ShardWithJobs) → answer ≡ shard_answer line.shard (conn_event conn event)
    → entries ≡ put_by line.shard (conn_event conn event))
    → ((line : ShardWithJobs) → answer ≡ shard_answer line.shard (conn_event conn event)
    → shut ≡ shut_by line.shard (conn_event conn event))
    → ConnStep old conn event answer new
    → Does old (Own (OfConn conn event))
    (record { answer = told_of_shard answer; entries = entries; frames = []; shut = shut; ended = ended_of answer }) new
conn_does old new conn event answer entries shut puts shuts d =
    let e = conn_event conn event in
    let p = answering e answer (conn_line old.server old.node conn) d.answered in
    let place = conn_place old.server conn in
    let told = ap told_of_shard p.answered ∙ sym (ap (λ o. told_at o (λ line. Some e)) p.is) in
    let put = puts p.line p.answered ∙ sym (ap (λ o. put_at (part_at place (λ line. Some e) o)) p.is) in
    let closed = shuts p.line p.answered ∙ sym (ap (λ o. shut_at (part_at place (λ line. Some e) o)) p.is) in
    let ended = ap ended_of p.answered ∙ sym (ap (λ o. ended_at (part_at place (λ line. Some e) o)) p.is) in
    record {
      won = false;
      step = d.step;
      told = λ k. record { answer = told k; entries = put k; frames = []; shut = closed k; ended = ended k };
    }

pub subscribe_does : (old new : Served) (conn : ℕ) (key : Key) (sid : List ℕ) (done : Subscribed)
    → ConnStep old conn (Subscribe key sid) (answer_of done) new
    → Does old (Own (OfConn conn (Subscribe key sid))) (with_frames (told_of_shard (answer_of done)) []) new
subscribe_does old new conn key sid (New sub) d =
    conn_does old new conn (Subscribe key sid) (of_shard.Opened sub) [] [] (λ line e. refl) (λ line e. refl) d
subscribe_does old new conn key sid Same d =
    conn_does old new conn (Subscribe key sid) of_shard.AlreadyOpen [] [] (λ line e. refl) (λ line e. refl) d

pub take_does : (old new : Served) (conn count : ℕ) (entries : List Written)
    → ConnStep old conn (Take count) (of_shard.Taken entries) new
    → Does old (Own (OfConn conn (Take count))) (with_frames (TakenEntries entries) []) new
take_does old new conn count entries d =
    conn_does old new conn (Take count) (of_shard.Taken entries) [] [] (λ line e. refl) (λ line e. refl) d

pub unsubscribe_does : (old new : Served) (conn : ℕ) (sid : List ℕ) (max : Option ℕ) (ended : List SubId)
    → ConnStep old conn (Unsubscribe sid max) (of_shard.Unsubscribed ended) new
    → Does old (Own (OfConn conn (Unsubscribe sid max)))
    (record { answer = Nothing; entries = []; frames = []; shut = []; ended = ended }) new
unsubscribe_does old new conn sid max ended d =
    conn_does old new conn (Unsubscribe sid max) (of_shard.Unsubscribed ended) [] [] (λ line e. refl) (λ line e. refl) d

pub set_headers_does : (old new : Served) (conn : ℕ) (on : Bool)
    → ConnStep old conn (SetHeaders on) of_shard.HeadersSet new
    → Does old (Own (OfConn conn (SetHeaders on))) (with_frames Nothing []) new
set_headers_does old new conn on d =
    conn_does old new conn (SetHeaders on) of_shard.HeadersSet [] [] (λ line e. refl) (λ line e. refl) d

pub detach_does : (old new : Served) (conn : ℕ) (ended : List SubId)
    → ConnStep old conn Detach (of_shard.Detached ended) new
    → Does old (Own (OfConn conn Detach))
    (record { answer = Nothing; entries = []; frames = []; shut = []; ended = ended }) new
detach_does old new conn ended d =
    conn_does old new conn Detach (of_shard.Detached ended) [] [] (λ line e. refl) (λ line e. refl) d

pub shut_does : (old new : Served) (conn : ℕ) (text : ErrText) (ended : List SubId)
    → ConnStep old conn (Shut text) (of_shard.WasShut ended) new
    → Does old (Own (OfConn conn (Shut text)))
    (record {
      answer = Nothing;
      entries = put_line (err_line text) conn ∷ [];
      frames = [];
      shut = conn ∷ [];
      ended = ended;
    })
    new
shut_does old new conn text ended d =
    conn_does old new conn (Shut text) (of_shard.WasShut ended) (put_line (err_line text) conn ∷ []) (conn ∷ [])
    (λ line e. refl) (λ line e. refl) d

-- of a reply, by whether it fits

abbrev was_shut : of_shard.Answer → Bool
was_shut (of_shard.Attached conn) = false
was_shut (of_shard.Opened sub) = false
was_shut of_shard.AlreadyOpen = false
was_shut (of_shard.Unsubscribed ended) = false
was_shut (of_shard.Replied shut ended) = shut
was_shut of_shard.HeadersSet = false
was_shut (of_shard.WasShut ended) = false
was_shut (of_shard.Detached ended) = false
was_shut (of_shard.Taken entries) = false
was_shut (of_shard.Began placed closed ended) = false
was_shut of_shard.Nobody = false
was_shut of_shard.Lost = false
was_shut (of_shard.Won sub placed ended) = false
was_shut of_shard.Finished = false
was_shut (of_shard.Dropped job) = false
was_shut of_shard.Drains = false
was_shut (of_shard.Collected deltas) = false

chosen : {X : Type 0} (shut fits : Bool) (last : X) (line : X)
    → shut ≡ not fits
    → cond shut last line ≡ cond fits line last
chosen shut true last line e = ap (λ b. cond b last line) e
chosen shut false last line e = ap (λ b. cond b last line) e

pub reply_shut : (old new : Served) (conn : ℕ) (frame : ReplyFrame) (shut : Bool) (ended : List SubId)
    → shut ≡ true
    → ConnStep old conn (Reply frame) (of_shard.Replied shut ended) new
    → Does old (Own (OfConn conn (Reply frame)))
    (record {
      answer = Nothing;
      entries = put_line slow_consumer conn ∷ [];
      frames = [];
      shut = conn ∷ [];
      ended = ended;
    })
    new
reply_shut old new conn frame shut ended is d =
    conn_does old new conn (Reply frame) (of_shard.Replied shut ended) (put_line slow_consumer conn ∷ []) (conn ∷ [])
    (λ line e.
    chosen true (answer_fits line.shard conn (reply_line frame)) (put_line slow_consumer conn ∷ [])
    (put_line (reply_line frame) conn ∷ []) (sym is ∙ ap was_shut e))
    (λ line e. chosen true (answer_fits line.shard conn (reply_line frame)) (conn ∷ []) [] (sym is ∙ ap was_shut e)) d

pub reply_put : (old new : Served) (conn : ℕ) (frame : ReplyFrame) (shut : Bool) (ended : List SubId)
    → shut ≡ false
    → ConnStep old conn (Reply frame) (of_shard.Replied shut ended) new
    → Does old (Own (OfConn conn (Reply frame)))
    (record {
      answer = Nothing;
      entries = put_line (reply_line frame) conn ∷ [];
      frames = [];
      shut = [];
      ended = ended;
    })
    new
reply_put old new conn frame shut ended is d =
    conn_does old new conn (Reply frame) (of_shard.Replied shut ended) (put_line (reply_line frame) conn ∷ []) []
    (λ line e.
    chosen false (answer_fits line.shard conn (reply_line frame)) (put_line slow_consumer conn ∷ [])
    (put_line (reply_line frame) conn ∷ []) (sym is ∙ ap was_shut e))
    (λ line e. chosen false (answer_fits line.shard conn (reply_line frame)) (conn ∷ []) [] (sym is ∙ ap was_shut e)) d

pub reply_does : (old new : Served) (conn : ℕ) (frame : ReplyFrame) (puts : ReplyPuts) (shut : Bool)
    (ended : List SubId)
    → puts.answer.items ≡ put_line (reply_line frame) conn ∷ []
    → puts.last.items ≡ put_line slow_consumer conn ∷ []
    → puts.shut.items ≡ conn ∷ []
    → ConnStep old conn (Reply frame) (of_shard.Replied shut ended) new
    → Does old (Own (OfConn conn (Reply frame))) (reply_outcome puts shut ended) new
reply_does old new conn frame puts true ended answer last over d =
    let made : ◌≡◌ {A = Outcome}
    (record {
      answer = Nothing;
      entries = put_line slow_consumer conn ∷ [];
      frames = [];
      shut = conn ∷ [];
      ended = ended;
    })
    (reply_outcome puts true ended) =
    λ k. record { answer = Nothing; entries = sym last k; frames = []; shut = sym over k; ended = ended } in
    subst (λ (o : Outcome). Does old (Own (OfConn conn (Reply frame))) o new) made
    (reply_shut old new conn frame true ended refl d)
reply_does old new conn frame puts false ended answer last over d =
    let made : ◌≡◌ {A = Outcome}
    (record {
      answer = Nothing;
      entries = put_line (reply_line frame) conn ∷ [];
      frames = [];
      shut = [];
      ended = ended;
    })
    (reply_outcome puts false ended) =
    λ k. record { answer = Nothing; entries = sym answer k; frames = []; shut = []; ended = ended } in
    subst (λ (o : Outcome). Does old (Own (OfConn conn (Reply frame))) o new) made
    (reply_put old new conn frame false ended refl d)

-- ---- shards

begin_put : (place : ℕ) (line : ShardWithJobs) (job : Job) (waits : Option Job) (begun : Begun)
    → waits ≡ Some job
    → IsTold true line.shard job begun
    → begun.put.items ≡ put_at (part_if place line (begin_of waits))
begin_put place line job waits begun is d = d.put ∙ sym (ap (λ o. put_at (part_if place line (begin_of o))) is)

begin_shut : (place : ℕ) (line : ShardWithJobs) (job : Job) (waits : Option Job) (begun : Begun)
    → waits ≡ Some job
    → IsTold true line.shard job begun
    → begun.closed.items ≡ shut_at (part_if place line (begin_of waits))
begin_shut place line job waits begun is d = d.closed ∙ sym (ap (λ o. shut_at (part_if place line (begin_of o))) is)

begin_ended : (place : ℕ) (line : ShardWithJobs) (job : Job) (waits : Option Job) (begun : Begun)
    → waits ≡ Some job
    → IsTold true line.shard job begun
    → begun.ended.items ≡ ended_at (part_if place line (begin_of waits))
begin_ended place line job waits begun is d = d.ended ∙ sym (ap (λ o. ended_at (part_if place line (begin_of o))) is)

-- what it put and closed, of a line
record Putting (place : ℕ) (entries : List Placed) (shut : List ℕ) (ended : List SubId) (o : Option Part) : Type 0 where
  put : entries ≡ put_at o
  closed : shut ≡ shut_at o
  over : ended ≡ ended_at o

begin_at : (place : ℕ) (o : Option ShardWithJobs) (begun : Begun)
    → IsToldAt true o begun
    → Putting place begun.put.items begun.closed.items begun.ended.items (part_at place (work_event Begin false) o)
begin_at place None begun e = absurd e
begin_at place (Some line) begun e = record {
  put = begin_put place line e.0 (first_of line.waiting) begun e.1 e.2;
  closed = begin_shut place line e.0 (first_of line.waiting) begun e.1 e.2;
  over = begin_ended place line e.0 (first_of line.waiting) begun e.1 e.2;
}

pub begin_does : (old new : Served) (shard : ℕ) (begun : Begun)
    → BeginStep true old shard begun new
    → Does old (Own (AtShard shard Begin)) (begin_outcome begun) new
begin_does old new shard begun d =
    let p = begin_at (shard - 1) (shard_line old.node shard) begun d.told in
    let told = told_begin true (shard_line old.node shard) begun d.told in
    record {
      won = false;
      step = d.step;
      told = λ k. record { answer = told k; entries = p.put k; frames = []; shut = p.closed k; ended = p.over k };
    }

-- a claim

abbrev placed_of : of_shard.Answer → List Placed
placed_of (of_shard.Attached conn) = []
placed_of (of_shard.Opened sub) = []
placed_of of_shard.AlreadyOpen = []
placed_of (of_shard.Unsubscribed ended) = []
placed_of (of_shard.Replied shut ended) = []
placed_of of_shard.HeadersSet = []
placed_of (of_shard.WasShut ended) = []
placed_of (of_shard.Detached ended) = []
placed_of (of_shard.Taken entries) = []
placed_of (of_shard.Began placed closed ended) = []
placed_of of_shard.Nobody = []
placed_of of_shard.Lost = []
placed_of (of_shard.Won sub placed ended) = placed ∷ []
placed_of of_shard.Finished = []
placed_of (of_shard.Dropped job) = []
placed_of of_shard.Drains = []
placed_of (of_shard.Collected deltas) = []

claim_put : (s : State) (hand : Option Job) (sub : Option Subscription) (won : Bool)
    → placed_of (claim_answer s hand sub won) ≡ put_by_claim s hand sub won
claim_put s None sub won = refl
claim_put s (Some job) None won = refl
claim_put s (Some job) (Some sub) true = refl
claim_put s (Some job) (Some sub) false = refl

claim_entries : (claimed : Claimed) (answer : of_shard.Answer)
    → IsClaimTold true claimed answer
    → entries_told claimed ≡ placed_of answer
claim_entries code.Nobody answer e = sym (ap placed_of e)
claim_entries code.Lost answer e = sym (ap placed_of e)
claim_entries (code.Won sub placed ended) answer e = ap option_to_list e.1 ∙ sym (ap placed_of e.2)

claim_ended : (claimed : Claimed) (answer : of_shard.Answer)
    → IsClaimTold true claimed answer
    → ended_told claimed ≡ ended_of answer
claim_ended code.Nobody answer e = sym (ap ended_of e)
claim_ended code.Lost answer e = sym (ap ended_of e)
claim_ended (code.Won sub placed ended) answer e = sym (ap ended_of e.2)

claim_at : (place index : ℕ) (o : Option ShardWithJobs) (claimed : Claimed)
    → IsClaimToldAt true claimed (work_answer (Claim index) (is_won claimed) o)
    → Putting place (entries_told claimed) [] (ended_told claimed)
    (part_at place (work_event (Claim index) (is_won claimed)) o)
claim_at place index None claimed e = absurd e
claim_at place index (Some line) claimed e =
    let answer = shard_answer line.shard (of_shard.Claim index (is_won claimed)) in
    record {
      put =
          claim_entries claimed answer e
          ∙ claim_put line.shard line.shard.hand (candidate_of line.shard line.shard.hand index) (is_won claimed);
      closed = refl;
      over = claim_ended claimed answer e;
    }

pub claim_does : (old new : Served) (shard index : ℕ) (claimed : Claimed) → ClaimStep true old shard index claimed new
    → Does old (Own (AtShard shard (Claim index))) (claim_outcome claimed) new
claim_does old new shard index claimed d =
    let p = claim_at (shard - 1) index (shard_line old.node shard) claimed d.told in
    let told = told_claim_at true claimed index (shard_line old.node shard) d.told in
    record {
      won = is_won claimed;
      step = d.step;
      told = λ k. record { answer = told k; entries = p.put k; frames = []; shut = p.closed k; ended = p.over k };
    }

-- ---- where nothing is put and nothing closes

pub record Quiet (server : ServerIdentity) (a : Node) (event : NodeEvent) : Type 0 where
  pub put : [] ≡ put_at (part_of server a event false)
  pub closed : [] ≡ shut_at (part_of server a event false)
  pub over : [] ≡ ended_at (part_of server a event false)

-- the answer, with these frames
pub alone_does : (old new : Served) (event : NodeEvent) (answer : Answer) (frames : List RouteFrame)
    → Quiet old.server old.node event
    → DoesStep old event false new
    → answer ≡ node_answer old.server old.node event false
    → frames ≡ node_frames old.server old.node event
    → Does old event (with_frames answer frames) new
alone_does old new event answer frames quiet step told sent = record {
  won = false;
  step = step;
  told = λ k. record {
    answer = told k;
    entries = quiet.put k;
    frames = sent k;
    shut = quiet.closed k;
    ended = quiet.over k;
  };
}

quiet_attach : (place : ℕ) (o : Option ShardWithJobs)
    → Putting place [] [] [] (part_at place (work_event Attach false) o)
quiet_attach place None = record { put = refl; closed = refl; over = refl }
quiet_attach place (Some line) = record { put = refl; closed = refl; over = refl }

pub attach_does : (old new : Served) (shard conn : ℕ)
    → WorkStep old shard Attach false (of_shard.Attached conn) new
    → Does old (Own (AtShard shard Attach)) (with_frames (Attached conn) []) new
attach_does old new shard conn d =
    let q = quiet_attach (shard - 1) (shard_line old.node shard) in
    alone_does old new (Own (AtShard shard Attach)) (Attached conn) []
    (record { put = q.put; closed = q.closed; over = q.over }) d.step
    (told_work Attach false (of_shard.Attached conn) (shard_line old.node shard) d.answered) refl

quiet_end : (place : ℕ) (o : Option ShardWithJobs) → Putting place [] [] [] (part_at place (work_event End false) o)
quiet_end place None = record { put = refl; closed = refl; over = refl }
quiet_end place (Some line) = record { put = refl; closed = refl; over = refl }

pub end_does : (old new : Served) (shard : ℕ)
    → WorkStep old shard End false of_shard.Finished new
    → Does old (Own (AtShard shard End)) (with_frames Nothing []) new
end_does old new shard d =
    let q = quiet_end (shard - 1) (shard_line old.node shard) in
    alone_does old new (Own (AtShard shard End)) Nothing []
    (record { put = q.put; closed = q.closed; over = q.over }) d.step
    (told_work End false of_shard.Finished (shard_line old.node shard) d.answered) refl

quiet_drop_of : (place : ℕ) (line : ShardWithJobs) (hand waits : Option Job)
    → Putting place [] [] [] (part_if place line (drop_of hand waits))
quiet_drop_of place line None None = record { put = refl; closed = refl; over = refl }
quiet_drop_of place line None (Some job) = record { put = refl; closed = refl; over = refl }
quiet_drop_of place line (Some hand) waits = record { put = refl; closed = refl; over = refl }

quiet_drop : (place : ℕ) (o : Option ShardWithJobs)
    → Putting place [] [] [] (part_at place (work_event DropJob false) o)
quiet_drop place None = record { put = refl; closed = refl; over = refl }
quiet_drop place (Some line) = quiet_drop_of place line line.shard.hand (first_of line.waiting)

pub drop_does : (old new : Served) (shard turn : ℕ)
    → DropStep old shard turn new
    → Does old (Own (AtShard shard DropJob)) (with_frames Nothing []) new
drop_does old new shard turn d =
    let q = quiet_drop (shard - 1) (shard_line old.node shard) in
    alone_does old new (Own (AtShard shard DropJob)) Nothing []
    (record { put = q.put; closed = q.closed; over = q.over }) d.step (told_drop_at (shard_line old.node shard)) refl

quiet_drain : (place : ℕ) (o : Option ShardWithJobs)
    → Putting place [] [] [] (part_at place (work_event DrainShard false) o)
quiet_drain place None = record { put = refl; closed = refl; over = refl }
quiet_drain place (Some line) = record { put = refl; closed = refl; over = refl }

pub drain_shard_does : (old new : Served) (shard : ℕ)
    → WorkStep old shard DrainShard false of_shard.Drains new
    → Does old (Own (AtShard shard DrainShard)) (with_frames Nothing []) new
drain_shard_does old new shard d =
    let q = quiet_drain (shard - 1) (shard_line old.node shard) in
    alone_does old new (Own (AtShard shard DrainShard)) Nothing []
    (record { put = q.put; closed = q.closed; over = q.over }) d.step
    (told_work DrainShard false of_shard.Drains (shard_line old.node shard) d.answered) refl
