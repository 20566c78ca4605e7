-- What is kept in mind of a server's own interest.
use Rattle.std.specs.Prelude.{◌≡◌, ℕ, Bool, true, false, not, List, []}
use Rattle.std.specs.List.{list_all}
use Rattle.subj.specs.declared.keys.Delta.{Delta}
use Rattle.subj.specs.QueueNames.{are_queue_names}
use Rattle.interest.specs.Counts.{Counts, IsInterest, is_plain}
use Rattle.interest.specs.Matches.{names_in}

abbrev pub is_of_queue : Delta → Bool
is_of_queue delta = not (is_plain delta.key)

-- no key has a queue name
abbrev pub are_plain : Counts → Bool
are_plain counts = list_all (λ entry. is_plain entry.0) counts

-- where none was ever counted, no key has a queue name
abbrev pub IsQueuedRightly : Counts → Bool → Type 0
IsQueuedRightly counts is_queued = is_queued ≡ false → are_plain counts ≡ true

-- these names of the counts want the subject
pub record AreInMind (counts : Counts) (subject : List ℕ) (names : List (List ℕ)) : Type 0 where
  pub counted : IsInterest counts
  pub ordered : are_queue_names names ≡ true
  pub names_are : names ≡ names_in subject counts []
