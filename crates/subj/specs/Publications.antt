-- A publication as a client hands it in.
use Rattle.std.specs.Prelude.{ℕ, Bool, List, Option}
use Rattle.std.specs.Option.{option_map}
use Rattle.subj.specs.declared.messages.Pub.{Pub}
use Rattle.subj.specs.Messages.{content_of}

abbrev pub new_publication : List ℕ → Option (List ℕ) → Option (List ℕ) → List ℕ → Bool → Option Pub
new_publication subject reply headers payload echo =
    option_map (λ content. record { message = content; echo = echo })
    (content_of subject reply headers payload)
