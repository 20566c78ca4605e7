-- Each rule counts: without it some list of events leads to a world that breaks a law.
use Rattle.std.specs.Prelude.{false}
use Rattle.cluster_law.specs.Config.{Config, Rules, every_rule}
use Rattle.cluster_law.specs.Cluster.{World, Reached}
use Rattle.cluster_law.specs.Headline.{Headline, Routing, EachView}

-- A world that is reached under these rules, and of which this law does not hold.
abbrev pub Breaks : Rules → (Config → World → Type 0) → Type 0
Breaks rules Law = (c : Config) × (w : World) × Reached rules c w × (Law c w → ⊥)

abbrev pub BreaksHeadline : Rules → Type 0
BreaksHeadline rules = Breaks rules (λ c w. Headline c w.past)

-- The rules of a frame's addressee

-- A frame for one node is taken by another too, which places it for a member of its own.
abbrev pub AddresseeIsNeeded : Type 0
AddresseeIsNeeded = BreaksHeadline (record every_rule { addressee = false })

-- A frame is taken by the next incarnation of its node too, which places it for a member of its
-- own.
abbrev pub IncarnationIsNeeded : Type 0
IncarnationIsNeeded = BreaksHeadline (record every_rule { incarnation = false })

-- A repeated frame is placed again for the same subscription.
abbrev pub MarkIsNeeded : Type 0
MarkIsNeeded = BreaksHeadline (record every_rule { mark = false })

-- A late frame of an old incarnation is taken again, once a greater one was seen and the marks
-- began anew.
abbrev pub OriginIsNeeded : Type 0
OriginIsNeeded = BreaksHeadline (record every_rule { origin = false })

-- No frame but a sent one: else a message is placed that nobody published.
abbrev pub SentIsNeeded : Type 0
SentIsNeeded = BreaksHeadline (record every_rule { sent = false })

-- The rules of a publish

-- A queue name stands in the job and in a frame: members of two nodes get the message.
abbrev pub ApartIsNeeded : Type 0
ApartIsNeeded = BreaksHeadline (record every_rule { apart = false })

-- Two frames go to one peer. The mark keeps the headline here: it is the law of one frame for a
-- peer that breaks.
abbrev pub OneFrameIsNeeded : Type 0
OneFrameIsNeeded = Breaks (record every_rule { one_frame = false }) (λ c w. Routing c w.past)

-- The rules of turns and claims

-- A turn is issued while a shard is behind: what was won in the old turn is forgotten, and that
-- shard wins it again.
abbrev pub WindowIsNeeded : Type 0
WindowIsNeeded = BreaksHeadline (record every_rule { window = false })

-- Two shards win one pair, and each places for a member.
abbrev pub UnwonIsNeeded : Type 0
UnwonIsNeeded = BreaksHeadline (record every_rule { unwon = false })

-- A claim is for a member that has closed.
abbrev pub MemberIsNeeded : Type 0
MemberIsNeeded = BreaksHeadline (record every_rule { member = false })

-- A begin places twice for one plain subscription.
abbrev pub OnceIsNeeded : Type 0
OnceIsNeeded = BreaksHeadline (record every_rule { once = false })

-- A node starts again with the same incarnation: its numbers come again, and with them a
-- publication's name and a subscription's.
abbrev pub FreshIsNeeded : Type 0
FreshIsNeeded = BreaksHeadline (record every_rule { fresh = false })

-- A change is taken after a gap: the view is none that its origin had.
abbrev pub NextIsNeeded : Type 0
NextIsNeeded = Breaks (record every_rule { next = false }) EachView
