use Rattle.std.proofs.Common.{◌≡◌, ◌==◌, Bool, true, false, not, vec_len, length, map, ap, sym, ◌∙◌, arith}
use Rattle.std.proofs.lemmas.Bool.Decides.{nat_tests}
use Rattle.std.proofs.lemmas.Grind.{common_steps}
use Rattle.shard_core.specs.Boxes.{Clients, client_in_view, shown_backlog, next_backlog}
use Rattle.shard_core.proofs.Clients.Staging.{nothing_staged}
use Rattle.shard_core.proofs.connections.Conns.has_staged.Goals as goal

not_false : (b : Bool) → not b ≡ false → b ≡ true
not_false true e = cc
not_false false e = sym e

pub returns : goal.returns
returns c = λ none.
    let places = c.self.inside.places.items in
    let empty : (vec_len c.self.inside.places == 0) ≡ true =
    sym c.is_empty.ensures ∙ not_false c.is_empty.result none in
    let all : vec_len c.self.inside.places ≡ length places = c.self.inside.places.ok.0 in
    let len : length places ≡ 0 = grind (arith, nat_tests, common_steps) in
    let settled : map (client_in_view next_backlog) c.self.inside.conns.items
    ≡ map (client_in_view shown_backlog) c.self.inside.conns.items =
    nothing_staged places c.self.inside.conns.items len c.self.invariant in
    sym (ap (λ (l : Clients). l.next) c.self.view_is) ∙ settled ∙ ap (λ (l : Clients). l.shown) c.self.view_is
