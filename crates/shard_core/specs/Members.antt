-- What is noted of the members of queue groups that match a subject, so that one look serves all
-- queue names of a job.
use Rattle.std.specs.Prelude.{◌≡◌, ℕ, ◌+◌, ◌*◌, ◌%◌, ◌^◌, Bool, true, nat_eq, List, [], ◌∷◌, ◌++◌, map, filter, Option, Some, None, is_some, if◌then◌else◌}
use Rattle.std.specs.List.{find}
use Rattle.std.specs.Option.{option_to_list}
use Rattle.sub_table.specs.Subscriptions.{gets, has_serial}
use Rattle.sub_table.specs.declared.Subscription.{Subscription}
use Rattle.subj.specs.QueueNames.{is_named}
use Rattle.shard_core.specs.declared.members.Member.{Member}
use Rattle.shard_core.specs.declared.members.Members.{Members}
use Rattle.shard_core.specs.declared.members.TheConstants.{MARK_FACTOR}

-- the mark of a queue name: equal names have equal ones, and most others have others
abbrev pub mark_with : ℕ → List ℕ → ℕ
mark_with mark [] = mark
mark_with mark (byte ∷ bytes) = mark_with (((mark * MARK_FACTOR) % 2 ^ 64 + byte) % 2 ^ 64) bytes

abbrev pub mark_of : List ℕ → ℕ
mark_of name = mark_with 0 name

abbrev pub mark_of_queue : Option (List ℕ) → ℕ
mark_of_queue None = 0
mark_of_queue (Some name) = mark_of name

-- NATS documentation, "Queue Groups": a subscription with a queue name is a member of that group
abbrev pub is_in_group : Subscription → Bool
is_in_group sub = is_some sub.key.queue

abbrev pub is_in_group_of : List ℕ → Subscription → Bool
is_in_group_of name sub = is_named name sub.key.queue

abbrev pub member_of : Subscription → Member
member_of sub = record { mark = mark_of_queue sub.key.queue; serial = sub.serial }

-- all members among those that match
abbrev pub members_of : List Subscription → List Member
members_of matching = map member_of (filter is_in_group matching)

-- what is noted is right: these are all members that match the subject
abbrev pub AreNoted : List Subscription → Members → Type 0
AreNoted subs m = m.noted ≡ true → m.members.items ≡ members_of (filter (gets m.subject.items) subs)

-- the open subscription of a member of this mark
abbrev pub found_at : List Subscription → ℕ → Member → Option Subscription
found_at subs mark member =
    if nat_eq member.mark mark then find (has_serial member.serial) subs else None

abbrev pub found_of : List Subscription → ℕ → List Member → List Subscription
found_of subs mark [] = []
found_of subs mark (member ∷ members) =
    option_to_list (found_at subs mark member) ++ found_of subs mark members
