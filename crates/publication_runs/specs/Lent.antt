-- Publications that are lent: they stand one behind another in a text, on one subject.
use Rattle.std.specs.Prelude.{◌≡◌, ℕ, List, [], ◌∷◌, Bool}
use Rattle.subj.specs.declared.messages.Pub.{Pub}
use Rattle.publication_runs.specs.Runs.{Publication, content_of}
use Rattle.publication_runs.specs.States.{RunState}
use Rattle.publication_runs.specs.Scans.{HasGiven, IsAhead}

-- how far publications are given, their subject, and whether the client's own subscriptions may get
-- them
pub record LentState : Type 0 where
  pub run : RunState
  pub subject : List ℕ
  pub echo : Bool

-- none of those that a text begins with was given
abbrev pub begins_lent : List ℕ → List ℕ → ℕ → Bool → LentState
begins_lent text subject most echo = record {
  run = record { behind = text; left = most };
  subject = subject;
  echo = echo;
}

-- a publication as it is asked for
abbrev pub lent_as : Bool → Publication → Pub
lent_as echo publication = record { message = content_of publication; echo = echo }

-- this one comes next, is on their subject, and this stands behind it
pub record IsAheadAs (behind : List ℕ) (given : Pub) (s : LentState) : Type 0 where
  pub publication : Publication
  pub is_ahead : IsAhead behind publication s.run
  pub is_on : publication.subject ≡ s.subject
  pub is_as : given ≡ lent_as s.echo publication

-- the next was given, and is on their subject
pub record GivesOne (given : Pub) (old new : LentState) : Type 0 where
  pub publication : Publication
  pub gives : HasGiven publication old.run new.run
  pub is_on : publication.subject ≡ old.subject
  pub same_subject : new.subject ≡ old.subject
  pub same_echo : new.echo ≡ old.echo
  pub is_as : given ≡ lent_as old.echo publication

-- these were given, in order
abbrev pub Gives : List Pub → LentState → LentState → Type 0
Gives [] old new = new ≡ old
Gives (given ∷ others) old new =
    (between : LentState) × GivesOne given old between × Gives others between new
