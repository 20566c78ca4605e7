-- The window moves on over what it uses up.
use Rattle.wire_cut.proofs.WindowLemmas.{take-slice_range, drop-slice_range}
use Rattle.wire_cut.proofs.window.Window.advance.Goals as goal

pub returns-clause-used : goal.returns-clause-used
returns-clause-used c =
    rw (← c.self.view_is) (take-slice_range _ _ _ _ c.self.invariant.0 (rw (← c.self.view_is) at c.requires))

pub returns-clause-unread : goal.returns-clause-unread
returns-clause-unread c =
    rw (← c.self.view_is) (drop-slice_range _ _ _ _ c.self.invariant.0 (rw (← c.self.view_is) at c.requires))
