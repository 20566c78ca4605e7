-- Steps of a shard one behind another.
use Rattle.std.proofs.Common.{◌≡◌, ℕ, Bool, true, false, List, [], ◌∷◌, ◌++◌, refl, sym, ap, ◌∙◌, subst, append_assoc, append-nil}
use Rattle.std.specs.Prelude.{option_to_list}
use Rattle.list_laws.proofs.Lists.{each_append}
use Rattle.shard_core.specs.Shards.{State}
use Rattle.node_threads.specs.AtWork.{AtWork, Makes}
use Rattle.node_threads.specs.Steps.{Done, Leads, job_in, jobs_of, claimed_in, claims_of}
use Rattle.node_threads.specs.Turns.{is_work, HasWorked, HasEnded}

pub leads_join : (a b c : State) (first then : List Done) → Leads a first b → Leads b then c → Leads a (then ++ first) c
leads_join a b c first [] l m = subst (λ s. Leads a first s) (sym m) l
leads_join a b c first (d ∷ earlier) l m = (m.0, leads_join a b d.before first earlier l m.1)

pub jobs_join : (first then : List Done) → jobs_of (then ++ first) ≡ jobs_of first ++ jobs_of then
jobs_join first [] = sym (append-nil (jobs_of first))
jobs_join first (d ∷ earlier) =
    ap (λ l. l ++ job_in d.event) (jobs_join first earlier)
    ∙ append_assoc (jobs_of first) (jobs_of earlier) (job_in d.event)

pub claims_join : (as_won : Bool) (first then : List Done)
    → claims_of as_won (then ++ first) ≡ claims_of as_won first ++ claims_of as_won then
claims_join as_won first [] = sym (append-nil (claims_of as_won first))
claims_join as_won first (d ∷ earlier) =
    ap (λ l. l ++ claimed_in d.before d.event as_won) (claims_join as_won first earlier)
    ∙ append_assoc (claims_of as_won first) (claims_of as_won earlier) (claimed_in d.before d.event as_won)

-- two growths of a list are one
grown : {A : Type 0} (a b c g h k : List A) → b ≡ a ++ g → c ≡ b ++ h → k ≡ g ++ h → c ≡ a ++ k
grown a b c g h k e f m = f ∙ ap (λ l. l ++ h) e ∙ append_assoc a g h ∙ ap (λ l. a ++ l) (sym m)

-- what goes through two steps of a list
through : {A : Type 0} (a b c g h j k : List A) → a ++ g ≡ j ++ b → b ++ h ≡ k ++ c → a ++ (g ++ h) ≡ (j ++ k) ++ c
through a b c g h j k e f =
    sym (append_assoc a g h) ∙ ap (λ l. l ++ h) e ∙ append_assoc j b h ∙ ap (λ l. j ++ l) f ∙ sym (append_assoc j k c)

pub makes_join : (a b c : AtWork) (first then : List Done)
    → Makes a first b
    → Makes b then c
    → Makes a (then ++ first) c
makes_join a b c first then m n = record {
  got = m.got ++ n.got;
  led = leads_join a.state b.state c.state first then m.led n.led;
  popped = grown a.popped b.popped c.popped m.got n.got (m.got ++ n.got) m.popped n.popped refl;
  taken =
      through (option_to_list a.waiting) (option_to_list b.waiting) (option_to_list c.waiting) m.got n.got
      (jobs_of first) (jobs_of then) m.taken n.taken
      ∙ ap (λ l. l ++ option_to_list c.waiting) (sym (jobs_join first then));
  shard = n.shard ∙ m.shard;
  won =
      grown a.part.won b.part.won c.part.won (claims_of true first) (claims_of true then)
      (claims_of true (then ++ first)) m.won n.won (claims_join true first then);
  lost =
      grown a.part.lost b.part.lost c.part.lost (claims_of false first) (claims_of false then)
      (claims_of false (then ++ first)) m.lost n.lost (claims_join false first then);
}

-- nothing is done, and nothing is popped
pub makes_nothing : (a : AtWork) → Makes a [] a
makes_nothing a = record {
  got = [];
  led = refl;
  popped = sym (append-nil a.popped);
  taken = append-nil (option_to_list a.waiting);
  shard = refl;
  won = sym (append-nil a.part.won);
  lost = sym (append-nil a.part.lost);
}

pub works_nothing : (a b : AtWork) → Makes a [] b → HasWorked a b
works_nothing a b m = ([], record { makes = m; work = λ x i. absurd i })

pub works_join : (a b c : AtWork) → HasWorked a b → HasWorked b c → HasWorked a c
works_join a b c w v = (
  v.0 ++ w.0,
  record {
    makes = makes_join a b c w.0 v.0 w.1.makes v.1.makes;
    work = each_append (λ d. is_work d.event ≡ true) v.0 w.0 v.1.work w.1.work;
  },
)

pub ended_join : (a b c : AtWork) (turn : ℕ) → HasWorked a b → HasEnded b turn c → HasEnded a turn c
ended_join a b c turn w e = record {
  last = e.last;
  earlier = e.earlier ++ w.0;
  makes = makes_join a b c w.0 (e.last ∷ e.earlier) w.1.makes e.makes;
  work = each_append (λ d. is_work d.event ≡ true) e.earlier w.0 e.work w.1.work;
  ends = e.ends;
  turn_is = e.turn_is;
}
