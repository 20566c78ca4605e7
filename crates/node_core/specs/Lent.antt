-- An event whose parts are lent, as the definitions have it.
use Rattle.node_core.specs.declared.event_ref.EventRef.{EventRef}
use Rattle.node_core.specs.declared.event_ref.EventRef.TheVariants as lent
use Rattle.node_law.specs.Events.{NodeEvent, Own, Receive, OnInfo, OnConnect}
use Rattle.node_core.specs.InCode.{own_event_of}

abbrev pub asked_of : EventRef → NodeEvent
asked_of (lent.Own event) = Own (own_event_of event.now)
asked_of (lent.Receive frame) = Receive frame.now
asked_of (lent.OnInfo session info) = OnInfo session info.now
asked_of (lent.OnConnect session connect) = OnConnect session connect.now
