use Rattle.std.proofs.Common.{List, sym, ap, ◌∙◌}
use Rattle.std.specs.Prelude.{slice_get}
use Rattle.hub_core.specs.State.{Peer}
use Rattle.hub_core.proofs.hub.Hub.plan_drain.Goals as goal

pub frames_of_changes-requires-clause-seen : goal.frames_of_changes-requires-clause-seen
frames_of_changes-requires-clause-seen c = record {
  seen = λ q peer at up.
      (c.self.invariant.0.sound.peers q peer
      (ap (λ (peers : List Peer). slice_get peers q) (sym c.deref.ensures.value) ∙ at)).seen
      up;
}
