-- What counts, changes and views owe one another.
use Rattle.std.specs.Prelude.{◌≡◌, ℕ, ◌+◌, ◌-◌, ◌≤◌, List, [], length, sum_by, slice_get, Some, None, if◌then◌else◌}
use Rattle.std.specs.List.{AllByRecursion}
use Rattle.std.specs.Ordering.{is_eq}
use Rattle.subj.specs.declared.keys.Key.{Key}
use Rattle.subj.specs.declared.limits.TheConstants.{SUBSCRIPTIONS, SUBSCRIPTION_BYTES}
use Rattle.subj.specs.Keys.{key_cmp, cost_of, opening, closing}
use Rattle.route_values.specs.Snapshots.{Weighted, weighted_key, snapshot_of}
use Rattle.interest.specs.declared.changes.Change.{Change}
use Rattle.subj.specs.declared.keys.Delta.{Delta}
use Rattle.interest.specs.Counts.{Counts, count_of, counts_after, change_of, delta_fault, IsInterest}
use Rattle.interest.specs.Told.{counts_told, changes_told, AreTaken}
use Rattle.interest.specs.Views.{told_view, followed_if, view_after, view_at}
use Rattle.interest.specs.Heard.{News, Changed, Whole, nothing_heard, heard_all}

-- counts within their limits stay so
abbrev pub StaysWithin : Type 0
StaysWithin =
    (counts : Counts) (delta : Delta)
    → IsInterest counts
    → delta_fault counts delta ≡ None
    → IsInterest (counts_after counts delta)

-- what peers are told of a delta makes of the view that they were told the view that the counts are
-- told as then
abbrev pub StepsAgree : Type 0
StepsAgree =
    (counts : Counts) (delta : Delta)
    → IsInterest counts
    → delta_fault counts delta ≡ None
    → told_view (counts_after counts delta)
    ≡ followed_if (change_of counts delta) (told_view counts)

-- so of all deltas from the start
abbrev pub RunsAgree : Type 0
RunsAgree =
    (deltas : List Delta)
    → AreTaken [] deltas
    → told_view (counts_told [] deltas) ≡ view_after (changes_told [] deltas) []

-- ---- what counting gives, by the numbers of keys

-- 1 where the keys are the same
abbrev pub one_if_same : Key → Key → ℕ
one_if_same key other = if is_eq (key_cmp key other) then 1 else 0

-- how often the key stands among these
abbrev pub times : Key → List Key → ℕ
times key keys = sum_by (one_if_same key) keys

pub record IsCounting : Type 0 where
  -- nothing counts at the start
  pub none : (key : Key) → count_of [] key ≡ 0
  -- an opening adds one to its key, and to no other
  pub opened : (counts : Counts) (key other : Key)
      → IsInterest counts
      → delta_fault counts (opening key) ≡ None
      → count_of (counts_after counts (opening key)) other
      ≡ one_if_same other key + count_of counts other
  -- a closing takes one from its key, and from no other
  pub closed : (counts : Counts) (key other : Key)
      → IsInterest counts
      → 1 ≤ count_of counts key
      → count_of counts other
      ≡ one_if_same other key + count_of (counts_after counts (closing key)) other
  -- where the counts are the numbers of these keys, and with one more of them stay within the
  -- limits of a server, the opening is taken
  pub opens : (counts : Counts) (key : Key) (keys : List Key)
      → IsInterest counts
      → ((other : Key) → count_of counts other ≡ times other keys)
      → length keys + 1 ≤ SUBSCRIPTIONS
      → sum_by cost_of keys + cost_of key ≤ SUBSCRIPTION_BYTES
      → delta_fault counts (opening key) ≡ None
  -- the closing of a key that counts is taken
  pub closes : (counts : Counts) (key : Key)
      → 1 ≤ count_of counts key
      → delta_fault counts (closing key) ≡ None

-- ---- counts within their limits can be told: the keys with what they weigh are those of a
-- snapshot, and each can be told alone
abbrev pub CanBeTold : Type 0
CanBeTold =
    (counts : Counts)
    → IsInterest counts
    → (snapshot_of (told_view counts) ≡ Some (told_view counts))
    × AllByRecursion (λ (weighted : Weighted). weighted_key weighted.0 weighted.1 ≡ Some weighted)
    (told_view counts)

-- ---- what a view was told

-- it is of an incarnation that has made these changes in all
abbrev pub IsNewsOf : List Change → News → Type 0
IsNewsOf changes (Changed number change) = slice_get changes (number - 1) ≡ Some change
IsNewsOf changes (Whole number keys) = (number ≤ length changes) × (keys ≡ view_at changes number)

-- a view that was told what one incarnation made, in any order, any number of times or never, is
-- what this incarnation has told by as many changes as its mark says
abbrev pub ViewsAreOfOrigin : Type 0
ViewsAreOfOrigin =
    (changes : List Change) (news : List News)
    → AllByRecursion (IsNewsOf changes) news
    → ((heard_all nothing_heard news).mark ≤ length changes)
    × ((heard_all nothing_heard news).keys ≡ view_at changes (heard_all nothing_heard news).mark)
