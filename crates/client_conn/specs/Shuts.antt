-- Where nothing is read any more, the connection is asked to be shut.
use Rattle.std.specs.Prelude.{◌≡◌, List, ◌∷◌, ◌++◌}
use Rattle.client_frames.specs.declared.err_texts.ErrText.{ErrText}
use Rattle.client_conn.specs.declared.ask.ClientAction.{ClientAction}
use Rattle.client_conn.specs.declared.ask.ClientAction.TheVariants.{Shut}

pub record AsksToShut (asks : List ClientAction) : Type 0 where
  pub before : List ClientAction
  pub text : ErrText
  pub behind : List ClientAction
  pub are : asks ≡ before ++ (Shut text ∷ behind)
