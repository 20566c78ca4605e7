-- What publications that a connection lends come to.
use Rattle.std.specs.Prelude.{◌≡◌, ℕ, ◌≤◌, ◌<◌, List, length, map}
use Rattle.subj.specs.declared.messages.Pub.{Pub}
use Rattle.client_conn.specs.declared.ask.ClientAction.TheVariants.{Publish}
use Rattle.client_conn.specs.Asks.{Asking, AsksInTurn, ConnState}
use Rattle.client_conn.specs.Lent.{IsRunOf, lent_asks}
use Rattle.publication_runs.specs.Lent.{LentState, Gives}
use Rattle.client_calls.specs.declared.outcome.Outcome.TheVariants.{Done}
use Rattle.client_calls.specs.Calls.{Called, asked, Chain}

-- the call that publishes it, and is done
abbrev pub published_by : ℕ → Pub → Called
published_by conn publication = asked conn (Publish publication) Done

-- so many were given, each was published, in order, and nothing else was done
pub record HasPublished {S : Type 0} (made : S → Called → S → Type 0) (conn count : ℕ)
    (old new : LentState) (before after : S) : Type 0 where
  pub publications : List Pub
  pub counted : length publications ≡ count
  pub given : Gives publications old new
  pub chain : Chain made before (map (published_by conn) publications) after

-- some of what the connection lends was published, and so many bytes stand behind it
pub record HasPublishedLent {S : Type 0} (made : S → Called → S → Type 0) (id most count left : ℕ)
    (conn : ConnState) (before after : S) : Type 0 where
  pub from : LentState
  pub to : LentState
  pub lent : IsRunOf conn from
  pub published : HasPublished made id count from to before after
  pub some : 0 < count
  pub few : count ≤ most
  pub left_is : length to.run.behind ≡ left

-- so many publications were asked for in turn, and each was published
pub record MakesRun {S : Type 0} (made : S → Called → S → Type 0) (conn count : ℕ) (old : Asking)
    (before : S) (new : Asking) (after : S) : Type 0 where
  pub publications : List Pub
  pub counted : length publications ≡ count
  pub asks : AsksInTurn (lent_asks publications) old new
  pub chain : Chain made before (map (published_by conn) publications) after
