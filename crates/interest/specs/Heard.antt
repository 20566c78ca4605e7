-- What is known of a peer's interest, and what becomes of it with what the peer says.
use Rattle.std.specs.Prelude.{ℕ, ◌≤◌, List, [], ◌∷◌, length, Option, is_none, if◌then◌else◌}
use Rattle.std.specs.List.Sorted.{IsStrictlySortedBy}
use Rattle.std.specs.Map.{keys_of}
use Rattle.subj.specs.declared.limits.TheConstants.{MAX_KEYS}
use Rattle.subj.specs.Keys.{key_cmp}
use Rattle.interest.specs.declared.changes.Change.{Change}
use Rattle.interest.specs.declared.faults.InterestFault.{InterestFault}
use Rattle.interest.specs.Views.{View, view_with_change, change_fault, snapshot_fault}

-- the number of the last change heard, and the keys after it
pub record Heard : Type 0 where
  pub mark : ℕ
  pub keys : View

-- keys that can be heard: in strictly rising order, and not too many
pub record IsHeard (keys : View) : Type 0 where
  pub rising : IsStrictlySortedBy key_cmp (keys_of keys)
  pub few : length keys ≤ MAX_KEYS

-- one change, or all keys after the change of that number
pub data News : Type 0 where
  Changed : (number : ℕ) (change : Change) → News
  Whole : (number : ℕ) (keys : View) → News

abbrev pub nothing_heard : Heard
nothing_heard = record { mark = 0; keys = [] }

abbrev pub news_fault : Heard → News → Option InterestFault
news_fault heard (Changed number change) = change_fault heard.mark heard.keys number change
news_fault heard (Whole number keys) = snapshot_fault heard.mark number keys

abbrev pub heard_after : Heard → News → Heard
heard_after heard (Changed number change) = record {
  mark = number;
  keys = view_with_change change heard.keys;
}
heard_after heard (Whole number keys) = record { mark = number; keys = keys }

-- what is refused changes nothing
abbrev pub heard_of : Heard → News → Heard
heard_of heard news = if is_none (news_fault heard news) then heard_after heard news else heard

abbrev pub heard_all : Heard → List News → Heard
heard_all heard [] = heard
heard_all heard (news ∷ later) = heard_all (heard_of heard news) later
