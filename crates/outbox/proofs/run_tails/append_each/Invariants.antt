use Rattle.std.proofs.Common.{◌≡◌, ℕ, ◌+◌, ◌≤◌, List, ◌++◌, length, drop, vec_len, vec_capacity}
use Rattle.outbox.specs.Tails.{tails_in, marked}
use Rattle.outbox.specs.Views.{run_text}
use Rattle.outbox.specs.declared.run_tails.TailMark.{TailMark}
use Rattle.outbox.proofs.run_tails.append_each.Given as goal

-- the marks that are left are of the bytes that are left, there is room for their messages, and with these the text
-- comes to the whole
pub record IsGoingOn (marks : List TailMark) (text head out all : List ℕ) (replaced end len capacity : ℕ)
    : Type 0 where
  pub left : end + marked replaced marks ≡ length text
  pub room : len + marked (length head) marks ≤ capacity
  pub put : out ++ run_text head (tails_in replaced marks (drop end text)) ≡ all

abbrev pub invariant-loop-mark : goal.invariant-loop-mark
invariant-loop-mark l =
    IsGoingOn (drop l.mark-index l.marks) l.text l.head l.out.items
    (l.fn.out.items ++ run_text l.head (tails_in l.replaced l.marks l.text)) l.replaced l.end (vec_len l.out)
    (vec_capacity l.out)
