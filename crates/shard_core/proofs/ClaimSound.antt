-- What a shard's fields keep where a run of claims is worked, and what the call says of it.
use Rattle.std.proofs.Common.{◌≡◌, ℕ, zero, suc, ◌+◌, ◌-◌, ◌*◌, ◌<◌, ◌≤◌, Bool, false, List, [], ◌∷◌, length, take, Option, Some, None, refl, sym, ap, ◌∙◌, subst, arith}
use Rattle.std.specs.Prelude.{is_some, option_map, slice_get}
use Rattle.std.proofs.lemmas.List.{length-take-le}
use Rattle.std.proofs.lemmas.Option.{same_Some}
use Rattle.list_laws.proofs.Changes.{append_nil}
use Rattle.sub_table.specs.declared.Subscription.{Subscription}
use Rattle.subj.specs.declared.jobs.Job.{Job}
use Rattle.subj.specs.declared.limits.TheConstants.{MAX_COUNTER}
use Rattle.shard_core.specs.Boxes.{Clients}
use Rattle.shard_core.specs.ClaimMembers.{HasWorked, IsRunOf, IsShardAt, KeepsOrder, with_done}
use Rattle.shard_core.specs.ClaimRuns.{AreClaimed, ClaimPart, MayClaimRun, WorksClaims, with_claims}
use Rattle.shard_core.specs.Held.{ArePossible, Held, IsNextTurn, IsSound, each_turn, held_at_rest, most_counts, with_serial}
use Rattle.shard_core.specs.Lines.{Turns}
use Rattle.shard_core.specs.Opened.{Opened, part_of}
use Rattle.shard_core.specs.Runs.{index_after}
use Rattle.shard_core.specs.Shards.{State, Client}
use Rattle.shard_core.proofs.ClaimMany.{turn_at}
use Rattle.shard_core.proofs.RunSound.{possible_idle}
use Rattle.shard_core.proofs.Steps.Kept.{more_possible, sound, sound_dropped}

-- ---- the fields

most_after : (finished count last : ℕ) → last ≡ finished + count → finished * each_turn + count ≤ last * each_turn
most_after finished count last end = omega (arith, end)

sound_worked : (s : State) (chosen : Option Subscription) (next : List Client) (serial : Option ℕ) (conns : Clients)
    (opened : Opened) (count last : ℕ)
    → IsSound s chosen next
    → serial ≡ None
    → s.hand ≡ None
    → KeepsOrder count s.clients conns.shown s.subs opened.subs
    → conns.next ≡ conns.shown
    → last ≡ s.finished + count
    → last ≤ MAX_COUNTER
    → IsSound (record s {
      finished = last;
      next_index = 0;
      clients = conns.shown;
      subs = opened.subs;
      deltas = opened.deltas;
    })
    (with_serial serial opened.subs) conns.next
sound_worked s chosen next serial conns opened count last was none idle keeps settled end most =
    sound (record s {
      finished = last;
      next_index = 0;
      clients = conns.shown;
      subs = opened.subs;
      deltas = opened.deltas;
    })
    serial conns.next none
    (record {
      some = was.numbered.some;
      few = was.numbered.few;
      numbers = was.numbered.numbers;
      below = keeps.numbers s.next_conn was.numbered.below;
    })
    (record { last = most; tried = omega arith; turn = subst (IsNextTurn last) (sym idle) tt })
    (subst (λ h. ArePossible s.opened (most_counts h None last 0) opened.subs) (sym idle)
    (more_possible s.opened s.opened (s.finished * each_turn + count) (last * each_turn) opened.subs (omega arith)
    (most_after s.finished count last end)
    (keeps.possible s.opened (s.finished * each_turn) (possible_idle s chosen next was idle))))
    settled

-- ---- before the first

-- no job is in hand
pub idle_is : (hand : Option Job) → is_some hand ≡ false → hand ≡ None
idle_is None e = refl
idle_is (Some job) e = absurd (cc)

-- the fields where a candidate was dropped
pub at_rest : (s : State) (shard : ℕ) (conns : Clients) → is_some s.hand ≡ false → shard ≡ s.shard
    → conns ≡ record { shown = s.clients; next = s.clients } → IsShardAt s shard conns (part_of s)
at_rest s shard conns idle same dropped =
    record { idle = idle_is s.hand idle; shard_is = sym same; conns_are = dropped; opened_are = refl }

-- the seat may claim in the turns of the run
pub may_claim : (now finished : ℕ) (jobs : List Job) (first : Job) (name : List ℕ) (run : List Job) (p : ClaimPart)
    → finished ≡ now
    → MayClaimRun now (length jobs) p
    → IsRunOf finished jobs first name run
    → MayClaimRun p.finished (length run) p
may_claim now finished jobs first name run p is may of =
    let few = of.few in
    let issued = may.issued in
    let same = may.finished_is in
    record { finished_is = refl; first = may.first; issued = omega (arith, few, issued, same) }

-- they follow the last one that it finished
pub turns_follow : (now finished : ℕ) (jobs : List Job) (first : Job) (name : List ℕ) (run : List Job) (p : ClaimPart)
    → finished ≡ now
    → MayClaimRun now (length jobs) p
    → IsRunOf finished jobs first name run
    → Turns p.finished run (p.finished + length run)
turns_follow now finished jobs first name run p is may of =
    subst (λ (n : ℕ). Turns n run (n + length run)) (is ∙ sym may.finished_is) of.turns

-- ---- the call

take_first : (k n : ℕ) (xs : List Job) → k ≤ n → take k (take n xs) ≡ take k xs
take_first zero n xs few = refl
take_first (suc k) zero xs few = absurd (omega (arith, few))
take_first (suc k) (suc n) [] few = refl
take_first (suc k) (suc n) (x ∷ xs) few = ap (λ l. x ∷ l) (take_first k n xs (omega (arith, few)))

no_index : (index : ℕ) (jobs : List Job) → 0 < length jobs → index_after index jobs ≡ 0
no_index index [] some = absurd (omega (arith, some))
no_index index (job ∷ jobs) some = refl

turn_found : (o : Option Job) (turn : ℕ) → option_map (λ (job : Job). job.turn) o ≡ Some turn
    → (job : Job) × (o ≡ Some job) × (job.turn ≡ turn)
turn_found None turn is = absurd (cc (is))
turn_found (Some job) turn is = (job, refl, same_Some job.turn turn is)

-- the last one worked has the turn that many behind
pub last_turn : (finished : ℕ) (jobs : List Job) (first : Job) (name : List ℕ) (run : List Job) (count turn : ℕ)
    → IsRunOf finished jobs first name run
    → 0 < count
    → option_map (λ (job : Job). job.turn) (slice_get run (count - 1)) ≡ Some turn
    → turn ≡ finished + count
last_turn finished jobs first name run count turn is some found =
    let job = turn_found (slice_get run (count - 1)) turn found in
    let same = job.2 in
    let at = turn_at finished (finished + length run) (count - 1) run job.0 is.turns job.1 in
    omega (arith, same, at, some)

-- what is worked from them
pub worked_here : (s : State) (chosen : Option Subscription) (next : List Client) (shard : ℕ) (before conns : Clients)
    (opened : Opened) (run : List Job) (count : ℕ) (p q : ClaimPart)
    → IsSound s chosen next
    → is_some s.hand ≡ false
    → shard ≡ s.shard
    → before ≡ record { shown = s.clients; next = s.clients }
    → p.finished ≡ s.finished
    → ((t : State) → IsShardAt t shard before (part_of s) → p.finished ≡ t.finished
    → HasWorked t run count conns opened p q)
    → HasWorked s run count conns opened p q
worked_here s chosen next shard before conns opened run count p q was idle same dropped follows worked =
    worked s (at_rest s shard before idle same dropped) follows

-- they are sound where some are worked
pub sound_some : (s : State) (chosen : Option Subscription) (next : List Client) (serial : Option ℕ)
    (before conns : Clients) (opened : Opened) (jobs : List Job) (first : Job) (name : List ℕ) (run : List Job)
    (count last : ℕ) (p q : ClaimPart)
    → IsSound s chosen next
    → serial ≡ None
    → is_some s.hand ≡ false
    → before ≡ record { shown = s.clients; next = s.clients }
    → KeepsOrder count before.shown conns.shown s.subs opened.subs
    → IsRunOf s.finished jobs first name run
    → s.finished + length run ≤ MAX_COUNTER
    → HasWorked s run count conns opened p q
    → 0 < count
    → option_map (λ (job : Job). job.turn) (slice_get run (count - 1)) ≡ Some last
    → IsSound (record s {
      finished = last;
      next_index = 0;
      clients = conns.shown;
      subs = opened.subs;
      deltas = opened.deltas;
    })
    (with_serial serial opened.subs) conns.next
sound_some s chosen next serial before conns opened jobs first name run count last p q was none idle dropped keeps of
    within worked some found =
    let end = last_turn s.finished jobs first name run count last of some found in
    let few = worked.few in
    sound_worked s chosen next serial conns opened count last was none (idle_is s.hand idle)
    (subst (λ (l : List Client). KeepsOrder count l conns.shown s.subs opened.subs)
    (ap (λ (c : Clients). c.shown) dropped) keeps)
    worked.settled end (omega (arith, within, few, end))

-- nothing is worked
pub works_none : (s : State) (jobs : List Job) (old new : Held) (p q : ClaimPart)
    → old.state ≡ s
    → new ≡ held_at_rest s
    → q ≡ p
    → WorksClaims jobs 0 old new p q
works_none s jobs old new p q is left same = record {
  few = omega arith;
  wins = [];
  many = refl;
  claimed = ap (λ (h : Held). h.state) left ∙ sym is;
  chosen = ap (λ (h : Held). h.chosen) left;
  part =
      same
      ∙ (λ i. record p {
        finished = zero_more p.finished i;
        won = sym (append_nil p.won) i;
        lost = sym (append_nil p.lost) i;
      });
  none = λ e. left ∙ ap held_at_rest (sym is);
  part_left = λ e. same;
}
  where
    zero_more : (n : ℕ) → n ≡ n + 0
    zero_more n = omega arith

-- the fields that nothing was worked with
pub none_is_left : (s : State) (run : List Job) (conns : Clients) (opened : Opened) (p q : ClaimPart) (count : ℕ)
    → HasWorked s run count conns opened p q
    → count ≡ 0
    → ((record s { clients = conns.shown; subs = opened.subs; deltas = opened.deltas }) ≡ s) × (q ≡ p)
none_is_left s run conns opened p q count worked none = (same, part)
  where
    empty : take count run ≡ []
    empty = ap (λ (n : ℕ). take n run) none

    no_wins : worked.wins ≡ []
    no_wins = empty_wins worked.wins (worked.many ∙ none)
      where
        empty_wins : (wins : List Bool) → length wins ≡ 0 → wins ≡ []
        empty_wins [] e = refl
        empty_wins (w ∷ wins) e = absurd (omega (arith, e))

    done : with_done s (take count run) conns opened ≡ s
    done =
        subst (λ (wins : List Bool). AreClaimed s [] wins (with_done s (take count run) conns opened)) no_wins
        (subst (λ (l : List Job). AreClaimed s l worked.wins (with_done s (take count run) conns opened)) empty
        worked.claimed)

    same : (record s { clients = conns.shown; subs = opened.subs; deltas = opened.deltas }) ≡ s
    same = λ i. record s {
      clients = ap (λ (t : State). t.clients) done i;
      subs = ap (λ (t : State). t.subs) done i;
      deltas = worked.deltas i;
    }

    zero_more : (n : ℕ) → n + 0 ≡ n
    zero_more n = omega arith

    part : q ≡ p
    part =
        worked.part
        ∙ (λ i. with_claims s (empty i) (no_wins i) p)
        ∙ (λ i. record p {
          finished = zero_more p.finished i;
          won = append_nil p.won i;
          lost = append_nil p.lost i;
        })

-- they are those of the state then, and sound
pub sound_none : (s : State) (chosen : Option Subscription) (next : List Client) (serial : Option ℕ) (run : List Job)
    (conns : Clients) (opened : Opened) (p q : ClaimPart) (count : ℕ)
    → IsSound s chosen next
    → serial ≡ None
    → HasWorked s run count conns opened p q
    → count ≡ 0
    → IsSound (record s { clients = conns.shown; subs = opened.subs; deltas = opened.deltas })
    (with_serial serial opened.subs) conns.next
sound_none s chosen next serial run conns opened p q count was none worked is =
    let same = (none_is_left s run conns opened p q count worked is).0 in
    let t : State = record s { clients = conns.shown; subs = opened.subs; deltas = opened.deltas } in
    subst (IsSound t (with_serial serial opened.subs)) (sym worked.settled)
    (subst (λ (x : State). IsSound x (with_serial serial x.subs) x.clients) (sym same)
    (sound_dropped s chosen next serial (record { shown = s.clients; next = s.clients }) was none refl))

pub works_nothing : (s : State) (chosen : Option Subscription) (serial : Option ℕ) (jobs run : List Job)
    (conns : Clients) (opened : Opened) (old : Held) (p q : ClaimPart) (count : ℕ)
    → (record { state = s; chosen = chosen }) ≡ old
    → serial ≡ None
    → HasWorked s run count conns opened p q
    → count ≡ 0
    → WorksClaims jobs 0 old (record {
      state = record s { clients = conns.shown; subs = opened.subs; deltas = opened.deltas };
      chosen = with_serial serial opened.subs;
    }) p q
works_nothing s chosen serial jobs run conns opened old p q count is none worked empty =
    let left = none_is_left s run conns opened p q count worked empty in
    works_none s jobs old _ p q (ap (λ (h : Held). h.state) (sym is))
    (λ i. record { state = left.0 i; chosen = with_serial (none i) opened.subs }) left.1

-- no job was worked, and the seat is as it was
pub works_left : (s : State) (chosen : Option Subscription) (serial : Option ℕ) (conns : Clients) (jobs : List Job)
    (old : Held) (p : ClaimPart)
    → (record { state = s; chosen = chosen }) ≡ old
    → serial ≡ None
    → conns ≡ record { shown = s.clients; next = s.clients }
    → WorksClaims jobs 0 old (record {
      state = record s { clients = conns.shown };
      chosen = with_serial serial s.subs;
    }) p p
works_left s chosen serial conns jobs old p is none dropped =
    works_none s jobs old _ p p (ap (λ (h : Held). h.state) (sym is))
    (λ i. record {
      state = record s { clients = ap (λ (c : Clients). c.shown) dropped i };
      chosen = with_serial (none i) s.subs;
    })
    refl

-- some are
pub works_some : (s : State) (chosen : Option Subscription) (jobs run : List Job) (first : Job) (name : List ℕ)
    (count last : ℕ) (conns : Clients) (opened : Opened) (serial : Option ℕ) (old : Held) (p q : ClaimPart)
    → (record { state = s; chosen = chosen }) ≡ old
    → serial ≡ None
    → IsRunOf s.finished jobs first name run
    → HasWorked s run count conns opened p q
    → 0 < count
    → option_map (λ (job : Job). job.turn) (slice_get run (count - 1)) ≡ Some last
    → WorksClaims jobs count old (record {
      state = record s {
        finished = last;
        next_index = 0;
        clients = conns.shown;
        subs = opened.subs;
        deltas = opened.deltas;
      };
      chosen = with_serial serial opened.subs;
    }) p q
works_some s chosen jobs run first name count last conns opened serial old p q is none of worked some found =
    subst (λ (o : Held). WorksClaims jobs count o new p q) is (record {
      few = let few = worked.few in let most = of.few in omega (arith, few, most);
      wins = worked.wins;
      many = worked.many;
      claimed =
          subst (λ (l : List Job). AreClaimed s l worked.wins new.state) taken
          (subst (AreClaimed s (take count run) worked.wins) done worked.claimed);
      chosen = ap (λ (o : Option ℕ). with_serial o opened.subs) none;
      part = worked.part ∙ ap (λ (l : List Job). with_claims s l worked.wins p) taken;
      none = λ e. absurd (omega (arith, e, some));
      part_left = λ e. absurd (omega (arith, e, some));
    })
  where
    new : Held
    new = record {
      state = record s {
        finished = last;
        next_index = 0;
        clients = conns.shown;
        subs = opened.subs;
        deltas = opened.deltas;
      };
      chosen = with_serial serial opened.subs;
    }

    end : last ≡ s.finished + count
    end = last_turn s.finished jobs first name run count last of some found

    taken : take count run ≡ take count jobs
    taken = ap (take count) of.taken ∙ take_first count (length run) jobs worked.few

    len : length (take count run) ≡ count
    len = length-take-le count run worked.few

    done : with_done s (take count run) conns opened ≡ new.state
    done = λ i. record s {
      finished = (ap (λ (n : ℕ). s.finished + n) len ∙ sym end) i;
      next_index = no_index s.next_index (take count run) (subst (λ (n : ℕ). 0 < n) (sym len) some) i;
      clients = conns.shown;
      subs = opened.subs;
      deltas = sym worked.deltas i;
    }
