-- Kinds of events, and how grave they are. (Profile.)
use Rattle.std.specs.Prelude.{ℕ}
use Rattle.log.specs.declared.level.Level.{Level}
use Rattle.log.specs.declared.level.Level.TheVariants as level
use Rattle.server_events.specs.declared.event.Event.{Event}
use Rattle.server_events.specs.declared.event.Event.TheVariants as event
use Rattle.server_events.specs.declared.kinds.EventKind.{EventKind}
use Rattle.server_events.specs.declared.kinds.EventKind.TheVariants as kind

abbrev pub kind_of : Event → EventKind
kind_of (event.Listening clients routes) = kind.Listening
kind_of (event.PeerUp peer) = kind.PeerUp
kind_of (event.PeerDown peer cause) = kind.PeerDown
kind_of (event.ClientCame client) = kind.ClientCame
kind_of (event.ClientGone client) = kind.ClientGone
kind_of (event.ClientClosed client cause waiting) = kind.ClientClosed
kind_of (event.ConnectionRefused caller cause) = kind.ConnectionRefused
kind_of (event.PeerRefused peer cause) = kind.ConnectionRefused
kind_of event.OutOfMemory = kind.OutOfMemory
kind_of (event.DrainAsked seconds) = kind.DrainAsked
kind_of event.Drained = kind.Drained
kind_of (event.DrainedLate clients) = kind.DrainedLate
kind_of event.Stopped = kind.Stopped
kind_of (event.Failed cause) = kind.Failed
kind_of (event.PeerUnresolved peer) = kind.PeerUnresolved
kind_of (event.PeerResolved peer address failures) = kind.PeerResolved

-- what ends a server is an error, what costs a client or a peer a warning; clients that come and go
-- are for those who look for them
abbrev pub level_of : EventKind → Level
level_of kind.Listening = level.Info
level_of kind.PeerUp = level.Info
level_of kind.PeerDown = level.Warn
level_of kind.ClientCame = level.Debug
level_of kind.ClientGone = level.Debug
level_of kind.ClientClosed = level.Warn
level_of kind.ConnectionRefused = level.Warn
level_of kind.OutOfMemory = level.Warn
level_of kind.DrainAsked = level.Info
level_of kind.Drained = level.Info
level_of kind.DrainedLate = level.Warn
level_of kind.Stopped = level.Info
level_of kind.Failed = level.Error
level_of kind.PeerUnresolved = level.Warn
level_of kind.PeerResolved = level.Info

-- where a kind stands among all of them
abbrev pub place_of : EventKind → ℕ
place_of kind.Listening = 0
place_of kind.PeerUp = 1
place_of kind.PeerDown = 2
place_of kind.ClientCame = 3
place_of kind.ClientGone = 4
place_of kind.ClientClosed = 5
place_of kind.ConnectionRefused = 6
place_of kind.OutOfMemory = 7
place_of kind.DrainAsked = 8
place_of kind.Drained = 9
place_of kind.DrainedLate = 10
place_of kind.Stopped = 11
place_of kind.Failed = 12
place_of kind.PeerUnresolved = 13
place_of kind.PeerResolved = 14
