-- The examples, computed.
use Rattle.std.proofs.Common.{refl, sym, subst}
use Rattle.std.specs.Prelude.{codes, []}
use Rattle.claim_race.specs.Race.{busy_of}
use Rattle.interest.specs.Counts.{counts_after, change_of, delta_fault}
use Rattle.hub_core.specs.State.{State}
use Rattle.hub_core.specs.Examples.{Gives, n1, publish_after, job_on, Weighs, Splits, NeedsRoom, KeepsTheWindow, CountsQueueNames, TakesFrames, HearsInOrder, ComesUp}
use Rattle.hub_core.specs.Events.{Issued}

pub weighs : Weighs
weighs = record { units = refl; rest = refl; none = refl }

pub splits : Splits
unfolding busy_of
splits = record { other = (refl, refl); own = (refl, refl); again = (refl, refl); cut = (refl, refl) }

pub needs_room : NeedsRoom
unfolding busy_of counts_after change_of delta_fault
needs_room = record { last = (refl, refl); none = (refl, refl); one = (refl, refl); two = (refl, refl) }

pub keeps_the_window : KeepsTheWindow
unfolding busy_of
keeps_the_window = record { last = (refl, refl); busy = refl; later = (refl, refl); alone = (refl, refl) }

pub counts_queue_names : CountsQueueNames
unfolding busy_of
counts_queue_names = record {
  most = (refl, refl);
  too_many = refl;
  next = λ new step.
      subst
      (λ (hub : State). Gives (n1 1) hub (publish_after 0 0 (codes "bar") 0) (Issued (job_on (codes "bar") 1 []) []))
      (sym step.decided.1) (refl, refl);
}

pub takes_frames : TakesFrames
unfolding busy_of
takes_frames = record {
  first = (refl, refl);
  repeated = refl;
  rejoined = refl;
  equal = refl;
  below = refl;
  skips = (refl, refl);
  old = refl;
  anew = (refl, refl);
  stale = refl;
}

pub hears_in_order : HearsInOrder
hears_in_order = record { gap = refl; later = (refl, refl); late = refl; next = (refl, refl) }

pub comes_up : ComesUp
unfolding busy_of
comes_up = record { told = (refl, refl); emptied = (refl, refl) }
