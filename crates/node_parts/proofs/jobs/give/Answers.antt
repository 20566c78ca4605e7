use Rattle.std.proofs.Common.{◌≡◌, suc, List, [], ◌∷◌, length, map, replicate, sym, ap, ◌∙◌, arith, length-append}
use Rattle.std.specs.Prelude.{slice_get}
use Rattle.subj.specs.declared.jobs.Job.{Job}
use Rattle.node_law.specs.State.{ShardWithJobs}
use Rattle.node_law.specs.Steps.{line_with_job}
use Rattle.node_parts.proofs.Handing.{popped}
use Rattle.node_parts.proofs.jobs.give.Goals as goal

pub hand_over-requires : goal.hand_over-requires
hand_over-requires g c =
    c.requires.room 0 c.in-Some.first.now
    (ap (λ (lines : List ShardWithJobs). slice_get lines 0) c.in-Some.ensures.cases.0)

pub hand_out-requires-clause-room : goal.hand_out-requires-clause-room
hand_out-requires-clause-room g c = λ place line at.
    c.requires.room (suc place) line
    (ap (λ (lines : List ShardWithJobs). slice_get lines (suc place)) c.in-Some.ensures.cases.0 ∙ at)

pub returns : goal.returns
returns g c = λ same alike.
    let copies = c.args.copies.now.items in
    let job = c.args.job in
    let others = c.in-Some.others.now in
    let split = c.in-Some.ensures.cases in
    let parts = popped copies job same (alike ∙ ap (λ n. replicate n same) (sym c.requires.enough)) in
    let few : length copies ≡ length others =
    (let more = length-append copies (job ∷ []) in
    let enough = c.requires.enough in
    let rest = split.1 in
    omega arith) in
    let first : c.hand_over.new.self ≡ line_with_job same c.in-Some.first.now =
    c.hand_over.ensures ∙ ap (λ (j : Job). line_with_job j c.in-Some.first.now) parts.0 in
    let rest : c.hand_out.new.lines ≡ map (line_with_job same) others =
    c.hand_out.ensures same (parts.1 ∙ ap (λ n. replicate n same) few) in
    (λ k. first k ∷ rest k) ∙ ap (map (line_with_job same)) (sym split.0)

pub unreachable-requires : goal.unreachable-requires
unreachable-requires g c =
    let more = length-append c.args.copies.now.items (c.args.job ∷ []) in
    let enough = c.requires.enough in
    let none = c.in_default.ensures.cases in
    let no : ⊥ = omega arith in
    no

pub hand_out-requires-clause-enough : goal.hand_out-requires-clause-enough
hand_out-requires-clause-enough g c =
    let more = length-append c.args.copies.now.items (c.args.job ∷ []) in
    let enough = c.requires.enough in
    let rest = c.in-Some.ensures.cases.1 in
    let few : length c.args.copies.now.items ≡ length c.in-Some.others.now = omega arith in
    few
