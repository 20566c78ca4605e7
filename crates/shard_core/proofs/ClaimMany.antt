-- A run of claims, one job after the other.
use Rattle.std.proofs.Common.{◌≡◌, ℕ, zero, suc, ◌+◌, Bool, true, false, List, [], ◌∷◌, ◌++◌, length, take, Some, None, refl, sym, ap, ◌∙◌, subst, arith, length-append}
use Rattle.std.specs.Prelude.{slice_get}
use Rattle.std.proofs.lemmas.List.{take_more, length-take-le}
use Rattle.std.proofs.lemmas.Option.{get_or_from_slice_get, same_Some, slice_get_within}
use Rattle.list_laws.proofs.Changes.{append_assoc, append_nil}
use Rattle.subj.specs.declared.jobs.Job.{Job}
use Rattle.shard_core.specs.Boxes.{Clients}
use Rattle.shard_core.specs.ClaimMembers.{ClaimsNext, HasClaimed, HasWorked, IsShardAt, with_done}
use Rattle.shard_core.specs.ClaimRuns.{AreClaimed, ClaimPart, IsClaimed, ended_after, pairs_by, pairs_of, with_claims}
use Rattle.shard_core.specs.Lines.{Turns}
use Rattle.shard_core.specs.Opened.{Opened}
use Rattle.shard_core.specs.Runs.{index_after}
use Rattle.shard_core.specs.Shards.{State}

-- one more job
claimed_on : (s to : State) (jobs : List Job) (wins : List Bool) (job : Job) (won : Bool)
    → AreClaimed s jobs wins to → IsClaimed to job won
    → AreClaimed s (jobs ++ job ∷ []) (wins ++ won ∷ []) (ended_after to job won)
claimed_on s to [] [] job won so_far one =
    (subst (λ (t : State). IsClaimed t job won) so_far one, ap (λ (t : State). ended_after t job won) so_far)
claimed_on s to [] (w ∷ wins) job won so_far one = absurd so_far
claimed_on s to (j ∷ jobs) [] job won so_far one = absurd so_far
claimed_on s to (j ∷ jobs) (w ∷ wins) job won so_far one =
    (so_far.0, claimed_on (ended_after s j w) to jobs wins job won so_far.1 one)

pairs_on : (as_won : Bool) (s to : State) (jobs : List Job) (wins : List Bool) (job : Job) (won : Bool)
    → AreClaimed s jobs wins to
    → pairs_of as_won s (jobs ++ job ∷ []) (wins ++ won ∷ [])
    ≡ pairs_of as_won s jobs wins ++ pairs_of as_won to (job ∷ []) (won ∷ [])
pairs_on as_won s to [] [] job won so_far =
    ap (λ (t : State). pairs_of as_won t (job ∷ []) (won ∷ [])) (sym so_far)
pairs_on as_won s to [] (w ∷ wins) job won so_far = absurd so_far
pairs_on as_won s to (j ∷ jobs) [] job won so_far = absurd so_far
pairs_on as_won s to (j ∷ jobs) (w ∷ wins) job won so_far =
    ap (λ l. pairs_by as_won s j w ++ l) (pairs_on as_won (ended_after s j w) to jobs wins job won so_far.1)
    ∙ sym (append_assoc (pairs_by as_won s j w) (pairs_of as_won (ended_after s j w) jobs wins)
    (pairs_of as_won to (job ∷ []) (won ∷ [])))

index_on : (index : ℕ) (jobs : List Job) (job : Job) → index_after index (jobs ++ job ∷ []) ≡ 0
index_on index [] job = refl
index_on index (j ∷ jobs) job = refl

done_on : (s : State) (jobs : List Job) (job : Job) (conns conns2 : Clients) (opened opened2 : Opened)
    → with_done (with_done s jobs conns opened) (job ∷ []) conns2 opened2
    ≡ with_done s (jobs ++ job ∷ []) conns2 opened2
done_on s jobs job conns conns2 opened opened2 = λ i. record s {
  finished = sum i;
  next_index = sym (index_on s.next_index jobs job) i;
  clients = conns2.shown;
  subs = opened2.subs;
}
  where
    sum : s.finished + length jobs + length (job ∷ []) ≡ s.finished + length (jobs ++ job ∷ [])
    sum = omega (arith, length-append jobs (job ∷ []))

claims_on : (s to : State) (jobs : List Job) (wins : List Bool) (job : Job) (won : Bool) (p : ClaimPart)
    → AreClaimed s jobs wins to
    → with_claims to (job ∷ []) (won ∷ []) (with_claims s jobs wins p)
    ≡ with_claims s (jobs ++ job ∷ []) (wins ++ won ∷ []) p
claims_on s to jobs wins job won p so_far = λ i. record p {
  finished = sum i;
  won = pairs true p.won i;
  lost = pairs false p.lost i;
}
  where
    sum : p.finished + length jobs + length (job ∷ []) ≡ p.finished + length (jobs ++ job ∷ [])
    sum = omega (arith, length-append jobs (job ∷ []))

    pairs : (b : Bool) (before : List (ℕ × ℕ))
        → (before ++ pairs_of b s jobs wins) ++ pairs_of b to (job ∷ []) (won ∷ [])
        ≡ before ++ pairs_of b s (jobs ++ job ∷ []) (wins ++ won ∷ [])
    pairs b before =
        append_assoc before (pairs_of b s jobs wins) (pairs_of b to (job ∷ []) (won ∷ []))
        ∙ ap (λ l. before ++ l) (sym (pairs_on b s to jobs wins job won so_far))

-- the turn of the job at a place
pub turn_at : (begun last k : ℕ) (jobs : List Job) (job : Job)
    → Turns begun jobs last → slice_get jobs k ≡ Some job → job.turn ≡ begun + k + 1
turn_at begun last k [] job turns is = absurd (cc (is))
turn_at begun last zero (j ∷ jobs) job turns is =
    let same = ap (λ (x : Job). x.turn) (same_Some j job is) in
    let first = turns.0 in
    omega (arith, same, first)
turn_at begun last (suc k) (j ∷ jobs) job turns is =
    let rest = turn_at (suc begun) last k jobs job turns.1 is in omega (arith, rest)

taken_on : (jobs : List Job) (k : ℕ) (job : Job) → slice_get jobs k ≡ Some job
    → take (k + 1) jobs ≡ take k jobs ++ job ∷ []
taken_on jobs k job is =
    take_more jobs k job (slice_get_within jobs k job is)
    ∙ ap (λ (j : Job). take k jobs ++ j ∷ []) (get_or_from_slice_get jobs k job job is)

module _ (s : State) (jobs : List Job) (shard : ℕ) (p : ClaimPart) (index : p.next ≡ 0)
    (follows : p.finished ≡ s.finished) where
  pub none_worked : (conns : Clients) (opened : Opened) → IsShardAt s shard conns opened
      → HasWorked s jobs 0 conns opened p p
  none_worked conns opened at = record {
    few = omega arith;
    wins = [];
    many = refl;
    claimed = λ i. record s {
      finished = zero_more s.finished i;
      clients = ap (λ (c : Clients). c.shown) at.conns_are i;
      subs = ap (λ (o : Opened). o.subs) at.opened_are i;
    };
    settled =
        ap (λ (c : Clients). c.next) at.conns_are ∙ sym (ap (λ (c : Clients). c.shown) at.conns_are);
    deltas = ap (λ (o : Opened). o.deltas) at.opened_are;
    part = λ i. record p {
      finished = sym (zero_more p.finished) i;
      won = sym (append_nil p.won) i;
      lost = sym (append_nil p.lost) i;
    };
  }
    where
      zero_more : (n : ℕ) → n + 0 ≡ n
      zero_more n = omega arith

  pub one_more_worked : (k : ℕ) (conns conns2 : Clients) (opened opened2 : Opened) (q q2 : ClaimPart) (job : Job)
      (won : Bool) (last : ℕ)
      → s.hand ≡ None
      → s.shard ≡ shard
      → Turns s.finished jobs last
      → HasWorked s jobs k conns opened p q
      → slice_get jobs k ≡ Some job
      → ClaimsNext shard job won conns conns2 opened opened2 q q2
      → HasWorked s jobs (k + 1) conns2 opened2 p q2
  one_more_worked k conns conns2 opened opened2 q q2 job won last idle shard_is turns so_far here next = record {
    few = let within = slice_get_within jobs k job here in omega (arith, within);
    wins = so_far.wins ++ won ∷ [];
    many = let many = so_far.many in omega (arith, many, length-append so_far.wins (won ∷ []));
    claimed =
        subst (λ (l : List Job). AreClaimed s l (so_far.wins ++ won ∷ []) (with_done s l conns2 opened2))
        (sym (taken_on jobs k job here))
        (subst (AreClaimed s (run ++ job ∷ []) (so_far.wins ++ won ∷ []))
        (one.state_is ∙ done_on s run job conns conns2 opened opened2)
        (claimed_on s to run so_far.wins job won so_far.claimed one.claimed));
    settled = one.settled;
    deltas = one.deltas;
    part =
        one.part
        ∙ ap (with_claims to (job ∷ []) (won ∷ [])) so_far.part
        ∙ claims_on s to run so_far.wins job won p so_far.claimed
        ∙ ap (λ (l : List Job). with_claims s l (so_far.wins ++ won ∷ []) p) (sym (taken_on jobs k job here));
  }
    where
      run : List Job
      run = take k jobs

      to : State
      to = with_done s run conns opened

      len : length run ≡ k
      len = length-take-le k jobs so_far.few

      at : IsShardAt to shard conns opened
      at = record {
        idle = idle;
        shard_is = shard_is;
        conns_are = λ i. record { shown = conns.shown; next = so_far.settled i };
        opened_are = λ i. record { subs = opened.subs; deltas = so_far.deltas i };
      }

      one : HasClaimed to job won conns2 opened2 q q2
      one =
          next to at (ap (λ (x : ClaimPart). x.finished) so_far.part ∙ ap (λ (n : ℕ). n + length run) follows)
          (ap (λ (x : ClaimPart). x.next) so_far.part ∙ index)
          (let turn = turn_at s.finished last k jobs job turns here in omega (arith, turn, len))
