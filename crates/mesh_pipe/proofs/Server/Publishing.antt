-- A publish of a pipe's server: why it is refused, and the job that it makes.
use Rattle.std.proofs.Common.{◌≡◌, ℕ, zero, suc, ◌+◌, ◌*◌, ◌<◌, ◌≤◌, Bool, true, false, cond, not, nat_lt, nat_le, ◌||◌, List, [], ◌∷◌, ◌++◌, map, filter, replicate, length, Option, Some, None, refl, sym, ap, ◌∙◌, subst, arith, inr, inl, mod-eq_of_lt, append-nil}
use Rattle.std.specs.Prelude.{codes, slice_get, count_by}
use Rattle.std.specs.Option.{option_map, option_or}
use Rattle.std.proofs.lemmas.Slice.Eq.{bytes_eq-Decides}
use Rattle.list_laws.specs.Lists.{In}
use Rattle.list_laws.proofs.Tests.{lt_true}
use Rattle.subj.specs.QueueNames.{is_named}
use Rattle.subj.specs.Servers.{ServerIdentity, own_name}
use Rattle.subj.specs.declared.jobs.Job.{Job}
use Rattle.subj.specs.declared.keys.Key.{Key}
use Rattle.subj.specs.declared.limits.TheConstants.{MAX_COUNTER, MAX_QUEUE_NAMES, MAX_SERIAL, WINDOW}
use Rattle.pick.specs.Pick.{units, pick_of}
use Rattle.claim_race.specs.Race.{RaceState, IsIssued, busy_of, busy_at, is_behind, winner}
use Rattle.client_conn.specs.declared.ask.Refusal.TheVariants as refusal
use Rattle.interest.specs.Matches.{names_in, weight_in}
use Rattle.interest.specs.Counts.{count_of}
use Rattle.subj.specs.declared.keys.Delta.{Delta}
use Rattle.interest.specs.Told.{is_opening, is_closing}
use Rattle.interest.specs.Laws.{times}
use Rattle.hub_core.specs.declared.faults.HubFault.{HubFault}
use Rattle.hub_core.specs.declared.faults.HubFault.TheVariants as hub_fault
use Rattle.hub_core.specs.State.{Peer}
use Rattle.hub_core.specs.Choice.{names_for, names_from, weights_from}
use Rattle.hub_core.specs.Publishing.{Publication, names_of, choice_of, publish_fault, publish_refusal, own_job, frames_from, with_frames, after_publish}
use Rattle.hub_core.specs.Wanted.{NamesAreWanted}
use Rattle.shard_core.specs.Lines.{begun_turn, Turns}
use Rattle.node_law.specs.declared.faults.NodeFault.TheVariants.{Hub}
use Rattle.node_law.specs.CountsOpen.{CountsStayOpen, keys_of, open_keys, pending}
use Rattle.node_law.specs.Events.{Publish, Own}
use Rattle.node_core.specs.Served.{Served, DoesStep}
use Rattle.node_core.specs.Served as of_node
use Rattle.node_law.specs.State.{ShardWithJobs, Node, finished_turns}
use Rattle.node_law.specs.Steps.{line_with_job, node_refusal}
use Rattle.mesh_pipe.specs.PipeText.{names_wanted, job_of, served_by}
use Rattle.mesh_pipe.specs.PipeServing.{pipe_server, first_line, line_in, shard_in, waiting_in, refusal_of, placing_refused, IsServing, HasIssued}
use Rattle.mesh_pipe.proofs.Server.Alone.{listed, sound, sound_line, run_more}
use Rattle.mesh_pipe.proofs.Server.NamesOpen.{CountsOf, names_are_open, wants_named, has_weight}

-- no job is in hand and none waits, and the hub was told of all
pub record IsIdle (s : Served) : Type 0 where
  pub serving : IsServing s
  pub idle : waiting_in s ≡ []
  pub none : (shard_in s).hand ≡ None
  pub told : (shard_in s).deltas ≡ []

issued_is : (s : Served) → IsIdle s → s.node.hub.issued ≡ (shard_in s).finished
issued_is s at =
    let turns = subst
    (λ (w : List Job). Turns (begun_turn (shard_in s).hand (shard_in s).finished) w s.node.race.issued) at.idle
    (sound_line s at.serving).sound.turns in
    (sound s at.serving).issued ∙ sym turns ∙ ap (λ (h : Option Job). begun_turn h (shard_in s).finished) at.none

counts_of : CountsStayOpen → (s : Served) → IsIdle s → CountsOf (shard_in s).subs s.node.hub.counts
counts_of law s at = record { valid = (sound s at.serving).counts; numbers = numbers }
  where
    keys : List Key
    keys = keys_of (shard_in s).subs

    numbers : (key : Key) → count_of s.node.hub.counts key ≡ times key keys
    numbers key =
        let open_now = (law pipe_server at.serving.ran.0 s.node listed at.serving.ran.1).counts key in
        let by_line = subst (λ (ls : List ShardWithJobs).
        count_of s.node.hub.counts key + count_by (is_opening key) (pending ls)
        ≡ times key (open_keys ls) + count_by (is_closing key) (pending ls))
        at.serving.line open_now in
        let told = subst (λ (ds : List Delta).
        count_of s.node.hub.counts key + count_by (is_opening key) (ds ++ [])
        ≡ times key (keys ++ []) + count_by (is_closing key) (ds ++ []))
        at.told by_line in
        let same = ap (times key) (append-nil keys) in
        omega (arith, told, same)

-- ---- the queue names

names_are : NamesAreWanted
    → CountsStayOpen
    → (s : Served) (p : Publication)
    → IsIdle s
    → names_of pipe_server s.node.hub p ≡ names_wanted p.publication.message.subject (shard_in s).subs
names_are wanted law s p at =
    ap (λ (ps : List Peer).
    names_from pipe_server p.publication.message.subject 0 ps
    (names_in p.publication.message.subject s.node.hub.counts []))
    at.serving.alone
    ∙ names_are_open wanted p.publication.message.subject (shard_in s).subs s.node.hub.counts (counts_of law s at)

only_pick : (name : List ℕ) (w : ℕ) → 1 ≤ w → pick_of ((name, w) ∷ []) 0 ≡ Some name
only_pick name zero some = absurd (omega (arith, some))
only_pick name (suc w) some =
    let above : 0 < suc (length (replicate w name ++ [])) = omega arith in
    ap (slice_get (units ((name, suc w) ∷ []))) (mod-eq_of_lt {n = 0} above)

filter_all : (test : List ℕ → Bool) (xs : List (List ℕ))
    → ((z : List ℕ) → In z xs → test z ≡ true)
    → filter test xs ≡ xs
filter_all test [] all = refl
filter_all test (x ∷ xs) all =
    ap (λ b. cond b (x ∷ filter test xs) (filter test xs)) (all x (inl refl))
    ∙ ap (λ l. x ∷ l) (filter_all test xs (λ z i. all z (inr i)))

-- the server is alone, so it serves all of them
all_own : NamesAreWanted
    → (s : Served) (p : Publication)
    → IsServing s
    → p.word ≡ 0
    → names_for (choice_of pipe_server s.node.hub p) (own_name pipe_server) (names_of pipe_server s.node.hub p)
    ≡ names_of pipe_server s.node.hub p
all_own wanted s p serving word =
    filter_all (λ name. is_named (own_name pipe_server) (choice_of pipe_server s.node.hub p name))
    (names_of pipe_server s.node.hub p) (λ z i.
    own z (subst (In z)
    (ap (λ (ps : List Peer).
    names_from pipe_server p.publication.message.subject 0 ps
    (names_in p.publication.message.subject s.node.hub.counts []))
    serving.alone)
    i))
  where
    own : (z : List ℕ)
        → In z (names_in p.publication.message.subject s.node.hub.counts [])
        → is_named (own_name pipe_server) (choice_of pipe_server s.node.hub p z) ≡ true
    own z i =
        let some = has_weight p.publication.message.subject z s.node.hub.counts (sound s serving).counts
        (wants_named wanted p.publication.message.subject z s.node.hub.counts i) in
        ap (is_named (own_name pipe_server))
        (ap (λ (ps : List Peer).
        pick_of (weights_from pipe_server s.node.hub.counts p.publication.message.subject z 0 ps) p.word)
        serving.alone
        ∙ ap (pick_of ((codes "n1", weight_in p.publication.message.subject z s.node.hub.counts) ∷ [])) word
        ∙ only_pick (codes "n1") (weight_in p.publication.message.subject z s.node.hub.counts) some)
        ∙ (bytes_eq-Decides (codes "n1") (codes "n1")).1 refl

-- ---- why it is refused

not_behind : (issued finished : ℕ) → issued ≡ finished → is_behind issued finished ≡ false
not_behind issued finished same = go (is_behind issued finished) refl
  where
    go : (b : Bool) → is_behind issued finished ≡ b → is_behind issued finished ≡ false
    go true e = let above = lt_true (finished + WINDOW) (issued + 1) e in absurd (omega (arith, above, same))
    go false e = e

busy_none : (issued finished : ℕ) → is_behind issued finished ≡ false → busy_of issued (finished ∷ []) ≡ None
unfolding busy_of
busy_none issued finished e =
    ap (λ b.
    option_map (busy_at (finished ∷ []))
    (cond (nat_lt (cond (not b) (1 + 0) 0) 1) (Some (cond (not b) (1 + 0) 0)) None))
    e

abbrev cause_by : Bool → Bool → Option HubFault
cause_by spent many = cond spent (Some hub_fault.Spent) (cond many (Some hub_fault.TooManyQueues) None)

twice : (b : Bool) → (b || b) ≡ b
twice true = refl
twice false = refl

refuses : NamesAreWanted
    → CountsStayOpen
    → (s : Served) (p : Publication)
    → IsIdle s
    → of_node.refusal s (Own (Publish p))
    ≡ option_map Hub (cause_by (nat_le MAX_COUNTER (shard_in s).finished)
    (nat_lt MAX_QUEUE_NAMES (length (names_wanted p.publication.message.subject (shard_in s).subs))))
refuses wanted law s p at =
    let issued = issued_is s at in
    let after_publish = at.serving.published ∙ issued in
    let spent : (nat_le MAX_COUNTER s.node.hub.published || nat_le MAX_COUNTER s.node.hub.issued)
    ≡ nat_le MAX_COUNTER (shard_in s).finished =
    (λ k. nat_le MAX_COUNTER (after_publish k) || nat_le MAX_COUNTER (issued k))
    ∙ twice (nat_le MAX_COUNTER (shard_in s).finished) in
    let idle : busy_of s.node.hub.issued ((shard_in s).finished ∷ []) ≡ None =
    busy_none s.node.hub.issued (shard_in s).finished (not_behind s.node.hub.issued (shard_in s).finished issued) in
    ap (λ (server : ServerIdentity). node_refusal server s.node (Own (Publish p))) at.serving.server
    ∙ ap (λ (ls : List ShardWithJobs). option_map Hub (publish_refusal pipe_server s.node.hub p (finished_turns ls)))
    at.serving.line
    ∙ ap (λ busy. option_map Hub (option_or (option_map hub_fault.Busy busy) (publish_fault pipe_server s.node.hub p)))
    idle
    ∙ (λ k. option_map Hub (cause_by (spent k) (nat_lt MAX_QUEUE_NAMES (length (names_are wanted law s p at k)))))

told_as : (spent many : Bool)
    → option_map refusal_of (option_map Hub (cause_by spent many))
    ≡ cond spent (Some refusal.NumbersSpent) (cond many (Some refusal.TooManyQueueGroups) None)
told_as true many = refl
told_as false true = refl
told_as false false = refl

pub publish_told : NamesAreWanted
    → CountsStayOpen
    → (s : Served) (p : Publication)
    → IsIdle s
    → option_map refusal_of (of_node.refusal s (Own (Publish p))) ≡ placing_refused p.publication (shard_in s)
publish_told wanted law s p at =
    ap (option_map refusal_of) (refuses wanted law s p at)
    ∙ told_as (nat_le MAX_COUNTER (shard_in s).finished)
    (nat_lt MAX_QUEUE_NAMES (length (names_wanted p.publication.message.subject (shard_in s).subs)))

-- ---- the job

job_is : NamesAreWanted
    → CountsStayOpen
    → (s : Served) (p : Publication)
    → IsIdle s
    → p.conn ≡ 1
    → p.word ≡ 0
    → own_job pipe_server s.node.hub p ≡ job_of p.publication (served_by (shard_in s))
job_is wanted law s p at conn word =
    let issued = issued_is s at in
    let after_publish = at.serving.published ∙ issued in
    let names = all_own wanted s p at.serving word ∙ names_are wanted law s p at in
    λ k. record {
      turn = issued k + 1;
      id = record { origin = codes "n1"; inc = 1; number = after_publish k + 1 };
      message = p.publication.message;
      publisher = Some (conn k);
      echo = p.publication.echo;
      queues = names k;
    }

pub has_issued : NamesAreWanted
    → CountsStayOpen
    → (old new : Served) (p : Publication)
    → IsIdle old
    → p.conn ≡ 1
    → p.word ≡ 0
    → DoesStep old (Own (Publish p)) false new
    → HasIssued p.publication old new
has_issued wanted law old new p at conn word does = record {
  serving = record {
    server = does.server ∙ serving.server;
    line = lines ∙ ap (λ (l : ShardWithJobs). l ∷ []) (sym here);
    alone =
        ap (λ h. h.peers) hub_is
        ∙ ap (λ (ps : List Peer).
        with_frames pipe_server
        (frames_from pipe_server (old.node.hub.published + 1) p.publication.message
        (choice_of pipe_server old.node.hub p) (names_of pipe_server old.node.hub p) 0 ps)
        0 ps)
        serving.alone;
    published = ap (λ h. h.published) hub_is ∙ ap (λ n. n + 1) serving.published ∙ sym (ap (λ h. h.issued) hub_is);
    changed =
        subst (λ (l : ShardWithJobs).
        new.node.hub.changed + (length l.shard.deltas + length l.shard.subs) ≤ 2 * l.shard.opened)
        (sym here)
        (subst (λ n. n + (length (shard_in old).deltas + length (shard_in old).subs) ≤ 2 * (shard_in old).opened)
        (sym (ap (λ h. h.changed) hub_is)) serving.changed);
    opened = subst (λ (l : ShardWithJobs). l.shard.opened ≤ MAX_SERIAL) (sym here) serving.opened;
    ran = run_more old new (Own (Publish p)) false serving.server serving.ran does;
  };
  shard = ap (λ (l : ShardWithJobs). l.shard) here;
  waiting =
      ap (λ (l : ShardWithJobs). l.waiting) here
      ∙ ap (λ (w : List Job). w ++ own_job pipe_server old.node.hub p ∷ []) at.idle
      ∙ ap (λ (j : Job). j ∷ []) (job_is wanted law old p at conn word);
  free = λ i above.
      subst (λ (r : RaceState). winner r r.issued i ≡ None) (sym race_is)
      (ap (λ t. winner does.race t i) moves.issued ∙ moves.fresh i);
}
  where
    serving : IsServing old
    serving = at.serving

    lines : new.node.lines ≡ line_with_job (own_job pipe_server old.node.hub p) (line_in old) ∷ []
    lines =
        ap (λ (a : Node). a.lines) does.step.after
        ∙ ap (λ (server : ServerIdentity). map (line_with_job (own_job server old.node.hub p)) old.node.lines)
        serving.server
        ∙ ap (λ (ls : List ShardWithJobs). map (line_with_job (own_job pipe_server old.node.hub p)) ls) serving.line

    here : line_in new ≡ line_with_job (own_job pipe_server old.node.hub p) (line_in old)
    here = ap first_line lines

    hub_is : new.node.hub ≡ after_publish pipe_server old.node.hub p
    hub_is =
        ap (λ (a : Node). a.hub) does.step.after
        ∙ ap (λ (server : ServerIdentity). after_publish server old.node.hub p) serving.server

    race_is : new.node.race ≡ does.race
    race_is = ap (λ (a : Node). a.race) does.step.after

    moves : IsIssued old.node.race (old.node.race.issued + 1) does.race
    moves = does.step.moves
