use Rattle.std.proofs.Common.{ℕ, ◌+◌, ◌++◌, List, [], Some, drop, sym, ap, ◌∙◌, append_assoc, arith}
use Rattle.std.specs.Prelude.{option_to_list, if◌then◌else◌}
use Rattle.std.proofs.lemmas.Option.{slice_get-get_or}
use Rattle.hub_core.specs.Chosen.{chosen_for}
use Rattle.hub_core.proofs.Choices.Choosing.{chosen_step}
use Rattle.hub_core.proofs.publishing.names_of.Goals as goal

pub loop-place-preserved : goal.loop-place-preserved
loop-place-preserved c =
    let names = c.args.names.now in
    let servers = c.args.servers.now in
    let i = c.loop-place.place in
    let name = c.index-names-place.result in
    let rest = chosen_for c.args.server_name (drop (i + 1) names) (drop (i + 1) servers) in
    let put = if c.is_chosen-is_put.result then option_to_list (Some name) else [] in
    let read = ap (λ (n : List ℕ). Some n) c.index-names-place.is ∙ sym (slice_get-get_or names i name (omega arith)) in
    let step = chosen_step c.args.server_name names servers i c.index-servers-place.result (Some name)
    c.is_chosen-is_put.result (omega arith) (omega arith) c.index-servers-place.is read c.is_chosen-is_put.ensures in
    ap (λ (l : List (List ℕ)). l ++ rest) c.in_ok-push_copy.ensures
    ∙ append_assoc c.loop-place.chosen.items put rest
    ∙ ap (λ (l : List (List ℕ)). c.loop-place.chosen.items ++ l) (sym step)
    ∙ c.loop-place.invariant
