use Rattle.std.proofs.Common.{◌≡◌, refl, suc, ◌+◌, ◌<◌, List, ◌∷◌, [], ◌++◌, length, map, take, drop, replicate, set, Some, sym, ap, ◌∙◌, subst, arith, length-append}
use Rattle.std.specs.Prelude.{slice_get}
use Rattle.std.proofs.lemmas.Option.{slice_get-get_or}
use Rattle.subj.specs.declared.jobs.Job.{Job}
use Rattle.subj.specs.declared.limits.TheConstants.{WINDOW}
use Rattle.node_law.specs.State.{ShardWithJobs}
use Rattle.node_law.specs.Steps.{line_with_job}
use Rattle.node_parts.proofs.Handing.{mapped_more, all_mapped, rest_same, first_of_rest, popped, rest_next}
use Rattle.hub_core.proofs.Neighbours.Known.{set_length}
use Rattle.node_parts.proofs.jobs.hand_out.Goals as goal

pub hand_over-requires : goal.hand_over-requires
hand_over-requires g c =
    let k = c.loop-line.line-index in
    let items = c.loop-line.line-items in
    let x = c.line-item.result in
    let here : slice_get items k ≡ Some x =
    slice_get-get_or items k x
    (let size = c.loop-line.invariant.size in let test = c.loop-line-test.true in omega arith)
    ∙ ap Some (sym c.line-item.is) in
    let room : length x.waiting < WINDOW =
    c.requires.room k x (first_of_rest items c.args.lines.now k x c.loop-line.invariant.rest here) in
    subst (λ (line : ShardWithJobs). length line.waiting < WINDOW) c.line-item.is room

pub loop-line-preserved : goal.loop-line-preserved
loop-line-preserved g c =
    let k = c.loop-line.line-index in
    let items = c.loop-line.line-items in
    let lines = c.args.lines.now in
    let x = c.line-item.result in
    let invariant = c.loop-line.invariant in
    let job = c.in-Some.job in
    let next : suc k ≡ k + 1 = omega arith in
    let here : slice_get items k ≡ Some x =
    slice_get-get_or items k x
    (let size = c.loop-line.invariant.size in let test = c.loop-line-test.true in omega arith)
    ∙ ap Some (sym c.line-item.is) in
    let there = first_of_rest items lines k x invariant.rest here in
    let after : c.hand_over.new.self ≡ line_with_job job x =
    c.hand_over.ensures ∙ ap (line_with_job job) (sym c.line-item.is) in
    let one = λ (j : Job) (same : c.args.jobs.now.items ≡ replicate (length lines) j).
    popped c.pop.new.self.items job j
    (subst (λ (js : List Job). js ≡ replicate (length js) j) c.in-Some.ensures.items (invariant.alike j same)) in
    record {
      size = set_length items k c.hand_over.new.self ∙ invariant.size;
      enough =
          (let long = ap length c.in-Some.ensures.items in
          let more = length-append c.pop.new.self.items (job ∷ []) in
          let old = invariant.enough in
          omega arith);
      rest =
          ap (λ n. drop n (set items k c.hand_over.new.self)) (sym next)
          ∙ rest_same items k c.hand_over.new.self
          ∙ rest_next items lines k invariant.rest
          ∙ ap (λ n. drop n lines) next;
      alike = λ j same. (one j same).1;
      given = λ j same.
          ap (λ (l : ShardWithJobs). set items k l) (after ∙ ap (λ (t : Job). line_with_job t x) (one j same).0)
          ∙ ap (λ (ls : List ShardWithJobs). set ls k (line_with_job j x)) (invariant.given j same)
          ∙ mapped_more (line_with_job j) lines k x there
          ∙ ap (λ n. map (line_with_job j) (take n lines) ++ drop n lines) next;
    }

pub loop-line-init : goal.loop-line-init
loop-line-init g c =
    let enough = c.requires.enough in
    record {
      size = refl;
      enough = omega arith;
      rest = refl;
      alike = λ job same. ◌∙◌ {A = List Job} same (ap (λ n. replicate n job) (sym enough));
      given = λ job same. refl;
    }

pub unreachable-requires : goal.unreachable-requires
unreachable-requires g c =
    let enough = c.loop-line.invariant.enough in
    let within = c.loop-line-test.true in
    let none = c.in_default.ensures.cases in
    let no : ⊥ = omega arith in
    no

pub returns : goal.returns
returns g c = λ job same.
    c.loop-line.invariant.given job same
    ∙ all_mapped (line_with_job job) c.args.lines.now c.loop-line.line-index c.loop-line-test.false
