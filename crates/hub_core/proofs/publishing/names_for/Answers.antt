use Rattle.std.proofs.Common.{◌≡◌, ℕ, List, length, take, sym, ap, ◌∙◌, subst}
use Rattle.std.specs.Prelude.{IfOk}
use Rattle.std.specs.List.{count_by}
use Rattle.subj.specs.QueueNames.{is_named}
use Rattle.hub_core.proofs.Choices.Choosing.{chosen_none, chosen_all}
use Rattle.hub_core.proofs.publishing.names_for.Goals as goal

pub returns-then-chosen-eq0 : goal.returns-then-chosen-eq0
returns-then-chosen-eq0 c =
    let names = c.args.names.now in
    let servers = c.args.servers.now in
    let all = ap (λ (l : List (List ℕ)). length l) c.as_slice-all.ensures.same in
    let none : count_by (is_named c.args.server_name) (take (length names) servers) ≡ 0 =
    ap (λ n. count_by (is_named c.args.server_name) (take n servers)) (sym all)
    ∙ sym c.count_chosen-chosen.ensures
    ∙ c.if-chosen-eq0.true in
    c.new.ensures ∙ sym (chosen_none c.args.server_name names servers none)

pub returns-then-chosen-all : goal.returns-then-chosen-all
returns-then-chosen-all c =
    let names = c.args.names.now in
    let servers = c.args.servers.now in
    let all = ap (λ (l : List (List ℕ)). length l) c.as_slice-all.ensures.same in
    let counted : count_by (is_named c.args.server_name) (take (length names) servers) ≡ length names =
    ap (λ n. count_by (is_named c.args.server_name) (take n servers)) (sym all)
    ∙ sym c.count_chosen-chosen.ensures
    ∙ c.if-chosen-all.true
    ∙ all in
    subst (λ (l : List (List ℕ)). IfOk c.try_clone.result (λ queues. queues ≡ l))
    (sym (chosen_all c.args.server_name names servers c.requires.all counted)) c.try_clone.ensures
