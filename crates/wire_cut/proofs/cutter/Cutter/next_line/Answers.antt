-- A line is found within reach, or none is, which is a fault where the reach is that of the longest line.
use Rattle.std.proofs.Common.{refl, sym, arith}
use Rattle.std.proofs.lemmas.List.{length-take-le}
use Rattle.wire_cut.specs.contracts.cutter.Cutter.{the_view}
use Rattle.wire_cut.proofs.CutLemmas.{found_within, cut_line-found, cut_line-long, none_searched, next_is_line, next_is_too_long}
use Rattle.wire_cut.proofs.cutter.Cutter.next_line.Goals as goal

pub next_piece-requires : goal.next_piece-requires
next_piece-requires c =
    let reach = rw c.unread-unread.ensures at c.min-reach.ensures in
    let found = rw c.unread-unread.ensures at (sym c.in-Some.ensures) in
    let within = (found_within _ _ _ reach _ found).1 in
    let no_fault = rw (← c.self.view_is) at c.requires.no_fault in
    let awaits_line = rw (← c.self.view_is) at c.requires.line in
    let next = next_is_line (the_view c.self.inside) no_fault awaits_line c.in-Some.length within
    (cut_line-found _ _ _ reach _ found) in
    rw (← c.self.view_is, next.0, length-take-le c.in-Some.length c.self.inside.window.unread (omega (arith, within)))
    refl

pub invariant_of-self-in-None-2 : goal.invariant_of-self-in-None-2
invariant_of-self-in-None-2 c =
    let reach = rw c.unread-unread.ensures at c.min-reach.ensures in
    let none = rw c.unread-unread.ensures at (sym c.in-None.ensures) in record {
      within = omega arith;
      reach = omega arith;
      none = none_searched _ _ _ reach none;
      size = c.self.invariant.size;
      line_limit = c.self.invariant.line_limit;
      payload_limit = c.self.invariant.payload_limit;
    }

pub returns-in-Some : goal.returns-in-Some
returns-in-Some c =
    let reach = rw c.unread-unread.ensures at c.min-reach.ensures in
    let found = rw c.unread-unread.ensures at (sym c.in-Some.ensures) in
    let within = (found_within _ _ _ reach _ found).1 in
    let no_fault = rw (← c.self.view_is) at c.requires.no_fault in
    let awaits_line = rw (← c.self.view_is) at c.requires.line in
    let next = next_is_line (the_view c.self.inside) no_fault awaits_line c.in-Some.length within
    (cut_line-found _ _ _ reach _ found) in
    let line_is = c.next_piece.ensures.piece in (
      (refl, λ _. tt, c.next_piece.follows.holds-at-none),
      record { answer = rw (line_is, ← c.self.view_is, next.0) refl; rest = tt },
    )

pub returns-in-None : goal.returns-in-None
returns-in-None c =
    let reach = rw c.unread-unread.ensures at c.min-reach.ensures in
    let none = rw c.unread-unread.ensures at (sym c.in-None.ensures) in
    let no_fault = rw (← c.self.view_is) at c.requires.no_fault in
    let awaits_line = rw (← c.self.view_is) at c.requires.line in
    let next = next_is_too_long (the_view c.self.inside) no_fault awaits_line
    (cut_line-long _ _ _ reach none c.if-reach-self.true) in
    rw (← c.self.view_is) ((refl, λ _. tt, sym next.1), record { answer = sym next.0; rest = tt })
