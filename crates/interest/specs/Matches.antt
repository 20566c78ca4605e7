-- Who wants a subject: what matches it among keys with their weights.
use Rattle.std.specs.Prelude.{◌≡◌, ℕ, ◌<◌, Bool, false, not, ◌&&◌, List, [], ◌∷◌, length, sum_by, Option, Some, None, Result, Ok, Err, if◌then◌else◌}
use Rattle.std.specs.List.{list_any}
use Rattle.std.specs.Str.{bytes_eq}
use Rattle.subj.specs.declared.limits.TheConstants.{MAX_QUEUE_NAMES}
use Rattle.subj.specs.Matching.{subject_matches}
use Rattle.subj.specs.QueueNames.{is_before, is_named}
use Rattle.route_values.specs.Snapshots.{Weighted}
use Rattle.subj.specs.declared.keys.Key.{Key}
use Rattle.interest.specs.Counts.{is_plain, is_plain_match}

-- NATS documentation, "Queue Groups": a subscription without a queue name gets each message that
-- matches
abbrev pub has_plain_match : List ℕ → List Weighted → Bool
has_plain_match subject keys = list_any (is_plain_match subject) keys

-- ---- keys of one kind: plain ones, or those with a queue name

abbrev pub is_of_kind : Bool → Key → Bool
is_of_kind plain key = if plain then is_plain key else not (is_plain key)

abbrev pub is_kind_match : Bool → List ℕ → Weighted → Bool
is_kind_match plain subject entry =
    is_of_kind plain entry.0 && subject_matches entry.0.pattern subject

abbrev pub has_kind_match : Bool → List ℕ → List Weighted → Bool
has_kind_match plain subject keys = list_any (is_kind_match plain subject) keys

-- a key with a queue name matches
abbrev pub has_queue_match : List ℕ → List Weighted → Bool
has_queue_match subject keys = has_kind_match false subject keys

-- ---- how much a queue group weighs

abbrev pub is_match_of : List ℕ → List ℕ → Weighted → Bool
is_match_of subject name entry =
    is_named name entry.0.queue && subject_matches entry.0.pattern subject

abbrev pub matching_weight : List ℕ → List ℕ → Weighted → ℕ
matching_weight subject name entry = if is_match_of subject name entry then entry.1 else 0

-- profile: the weights of all keys of the queue name that match, together
abbrev pub weight_in : List ℕ → List ℕ → List Weighted → ℕ
weight_in subject name keys = sum_by (matching_weight subject name) keys

-- ---- the queue names of keys that match, each once, in the order of bytes

abbrev pub has_name : List ℕ → List (List ℕ) → Bool
has_name name names = list_any (bytes_eq name) names

abbrev pub place_name : List ℕ → List (List ℕ) → List (List ℕ)
place_name name [] = name ∷ []
place_name name (other ∷ others) =
    if is_before name other then name ∷ other ∷ others else other ∷ place_name name others

abbrev pub add_name : List ℕ → List (List ℕ) → List (List ℕ)
add_name name names = if has_name name names then names else place_name name names

abbrev pub add_queue : Bool → Option (List ℕ) → List (List ℕ) → List (List ℕ)
add_queue matches None names = names
add_queue matches (Some name) names = if matches then add_name name names else names

-- those of these keys, added to the names
abbrev pub names_in : List ℕ → List Weighted → List (List ℕ) → List (List ℕ)
names_in subject [] names = names
names_in subject (entry ∷ keys) names =
    names_in subject keys (add_queue (subject_matches entry.0.pattern subject) entry.0.queue names)

-- ---- what gathers them has places for the names of one publication

-- they are all there, in order; or they are more than there are places
abbrev pub AreGathered : {T E : Type 0} → List (List ℕ) → List (List ℕ) → Result T E → Type 0
AreGathered all names (Ok done) = names ≡ all
AreGathered all names (Err fault) = MAX_QUEUE_NAMES < length all
