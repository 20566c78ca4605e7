-- Publications that a connection lends: they stand whole in what was read.
use Rattle.std.specs.Prelude.{◌≡◌, ℕ, List, length, map, not, ◌&&◌, Option, Some, None, if◌then◌else◌}
use Rattle.subj.specs.declared.messages.Pub.{Pub}
use Rattle.wire_cut.specs.Reading.{End, waits, closed}
use Rattle.publication_runs.specs.Lent.{LentState, Gives}
use Rattle.client_frames.specs.declared.client_line.Awaited.{Awaited}
use Rattle.client_frames.specs.declared.client_line.Awaited.TheVariants as awaits
use Rattle.client_conn.specs.declared.ask.ClientAction.{ClientAction}
use Rattle.client_conn.specs.declared.ask.ClientAction.TheVariants.{Publish}
use Rattle.client_conn.specs.Asks.{Asking, AsksInTurn, ConnState, Lends, no_asks}
use Rattle.client_conn.specs.Items.{OpenState}

-- what is unread, where a line has to come next, nothing stands to be asked, and the client is not
-- told of what is done
abbrev pub lends_at : OpenState → End Awaited → Option Lends
lends_at stand (waits awaits.Line unread) =
    if no_asks stand.asks && not stand.options.verbose
    then Some (record { text = unread; echo = stand.options.echo })
    else None
lends_at stand (waits (awaits.Payload head) unread) = None
lends_at stand (waits (awaits.LostPayload size) unread) = None
lends_at stand closed = None

-- it stands at what the connection lends
pub record IsRunOf (conn : ConnState) (lent : LentState) : Type 0 where
  pub lends : conn.lends ≡ Some (record { text = lent.run.behind; echo = lent.echo })

abbrev pub lent_asks : List Pub → List ClientAction
lent_asks given = map (λ publication. Publish publication) given

-- publications that were lent, and behind which so many bytes stand, are asked for in turn, and
-- then this stands to be asked
abbrev pub UsesUp : ℕ → ConnState → Asking → Type 0
UsesUp left old new =
    (from to : LentState) (given : List Pub)
    → IsRunOf old from
    → Gives given from to
    → length to.run.behind ≡ left
    → AsksInTurn (lent_asks given) old.asking new
