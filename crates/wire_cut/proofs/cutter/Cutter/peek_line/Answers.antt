-- A line is found within reach, or none is, which is a fault where the reach is that of the longest line.
use Rattle.std.proofs.Common.{refl, sym, arith}
use Rattle.std.proofs.lemmas.List.{length-take, length-take-le}
use Rattle.wire_cut.specs.contracts.cutter.Cutter.{the_view}
use Rattle.wire_cut.proofs.CutLemmas.{found_within, cut_line-found, cut_line-long, next_is_line, next_is_too_long}
use Rattle.wire_cut.proofs.cutter.Cutter.peek_line.Goals as goal

pub slice_bounds-result-end : goal.slice_bounds-result-end
slice_bounds-result-end c =
    let reach = rw c.unread-unread.ensures at c.min-reach.ensures in
    let found = rw c.unread-unread.ensures at (sym c.in-Some.ensures) in
    let within = (found_within _ _ _ reach _ found).1 in
    rw c.unread-unread.ensures
    (sym (length-take-le c.in-Some.length c.self.inside.window.unread (omega (arith, within))))

pub returns-in-Some-clause-answer : goal.returns-in-Some-clause-answer
returns-in-Some-clause-answer c =
    let reach = rw c.unread-unread.ensures at c.min-reach.ensures in
    let found = rw c.unread-unread.ensures at (sym c.in-Some.ensures) in
    let within = (found_within _ _ _ reach _ found).1 in
    let no_fault = rw (← c.self.view_is) at c.requires.no_fault in
    let awaits_line = rw (← c.self.view_is) at c.requires.line in
    let next = next_is_line (the_view c.self.inside) no_fault awaits_line c.in-Some.length within
    (cut_line-found _ _ _ reach _ found) in
    rw (← c.self.view_is, next.0, c.unread-unread.ensures) refl

pub returns-in-Some-clause-due : goal.returns-in-Some-clause-due
returns-in-Some-clause-due c =
    let reach = rw c.unread-unread.ensures at c.min-reach.ensures in
    let found = rw c.unread-unread.ensures at (sym c.in-Some.ensures) in
    let within = (found_within _ _ _ reach _ found).0 in (
      c.requires.line,
      rw (← c.self.view_is) (omega (arith, within, length-take c.in-Some.length c.unread-unread.result.now)),
    )

pub returns-in-None-clause-answer : goal.returns-in-None-clause-answer
returns-in-None-clause-answer c =
    let reach = rw c.unread-unread.ensures at c.min-reach.ensures in
    let none = rw c.unread-unread.ensures at (sym c.in-None.ensures) in
    let no_fault = rw (← c.self.view_is) at c.requires.no_fault in
    let awaits_line = rw (← c.self.view_is) at c.requires.line in
    let next = next_is_too_long (the_view c.self.inside) no_fault awaits_line
    (cut_line-long _ _ _ reach none c.if-reach-longest.true) in
    rw (← c.self.view_is) (sym next.0)
