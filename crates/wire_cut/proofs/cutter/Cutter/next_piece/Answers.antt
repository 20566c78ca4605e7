-- The piece stands in the unread bytes, and what is left behind it is what stands behind its CR LF.
use Rattle.std.proofs.Common.{◌+◌, refl, ◌∙◌, arith, rules}
use Rattle.wire_cut.specs.contracts.cutter.Cutter.{the_view}
use Rattle.wire_cut.proofs.WindowLemmas.{used_last, used_enough}
use Rattle.wire_cut.proofs.CutLemmas.{after_piece}
use Rattle.wire_cut.proofs.cutter.Cutter.next_piece.Goals as goal

pub advance-requires : goal.advance-requires
advance-requires c = (after_piece (the_view c.self.inside) c.args.size (rw (← c.self.view_is) at c.requires)).0

pub used_bytes-requires-clause-back : goal.used_bytes-requires-clause-back
used_bytes-requires-clause-back c =
    let within = (after_piece (the_view c.self.inside) c.args.size (rw (← c.self.view_is) at c.requires)).0 in
    used_enough c.self.inside.window.used c.self.inside.window.unread c.advance.new.self.used (c.args.size + 2) within
    c.advance.ensures.used

pub returns : goal.returns
returns c =
    let after = after_piece (the_view c.self.inside) c.args.size (rw (← c.self.view_is) at c.requires) in
    let lent = c.used_bytes.ensures
    ∙ used_last c.self.inside.window.used c.self.inside.window.unread c.advance.new.self.used (c.args.size + 2)
    c.args.size after.0 (omega arith) c.advance.ensures.used in
    rw (← c.self.view_is)
    ((refl, λ _. tt, rw (after.1, c.advance.ensures.unread) (search rules)), record { piece = lent; rest = tt })
