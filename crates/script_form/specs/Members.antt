-- The members of a JSON object, as a script has them (profile): of equal members the last one
-- counts, as `serde_json` has it, and a member that nothing asks for is not looked at. `null` is
-- there, and of another kind.
use Rattle.std.specs.Prelude.{◌≡◌, ℕ, Bool, List, codes, Option, Some, None, Result, Ok, Err, is_some, option_and_then, option_map, if◌then◌else◌}
use Rattle.serde_json.specs.Data.{Data}
use Rattle.serde_json.specs.Find.{get, as_bool, as_number, as_str, as_u64}
use Rattle.subj.specs.declared.faults.NameFault.{NameFault}
use Rattle.subj.specs.declared.failures.Failure.{Failure}
use Rattle.subj.specs.declared.failures.Failure.TheVariants.{Refused, OutOfMemory}
use Rattle.subj.specs.Names.{node_name_fault}
use Rattle.script_form.specs.declared.steps.Member.{Member}
use Rattle.script_form.specs.declared.steps.Member.TheVariants.{Do, Node, Inc, Conn, Shard, Pattern, Queue, Sid, Max, Subject, Reply, Headers, Payload, Echo, Word, On, Frame, Session, Peer, Index, Count, Nodes, Shards, Steps}

-- ---- how members are called

abbrev pub name_of : Member → List ℕ
name_of Do = codes "do"
name_of Node = codes "node"
name_of Inc = codes "inc"
name_of Conn = codes "conn"
name_of Shard = codes "shard"
name_of Pattern = codes "pattern"
name_of Queue = codes "queue"
name_of Sid = codes "sid"
name_of Max = codes "max"
name_of Subject = codes "subject"
name_of Reply = codes "reply"
name_of Headers = codes "headers"
name_of Payload = codes "payload"
name_of Echo = codes "echo"
name_of Word = codes "word"
name_of On = codes "on"
name_of Frame = codes "frame"
name_of Session = codes "session"
name_of Peer = codes "peer"
name_of Index = codes "index"
name_of Count = codes "n"
name_of Nodes = codes "nodes"
name_of Shards = codes "shards"
name_of Steps = codes "steps"

-- one thing is found after the other, and nothing where one of them is not
infixl 10 ◌>>=◌
abbrev pub ◌>>=◌ : {A B : Type 0} → Option A → (A → Option B) → Option B
None >>= f = None
(Some x) >>= f = f x

-- ---- what a value is

-- a whole number of at least 0
abbrev pub whole : Data → Option ℕ
whole value = option_and_then as_u64 (as_number value)

-- the UTF-8 bytes of a text
abbrev pub text : Data → Option (List ℕ)
text value = as_str value

abbrev pub truth : Data → Option Bool
truth value = as_bool value

-- a text that is a name of a kind
abbrev pub valid : (List ℕ → Option NameFault) → List ℕ → Option (List ℕ)
valid fault name = if is_some (fault name) then None else Some name

unfoldable pub node : Data → Option (List ℕ)
node value = do
  name ← text value
  valid node_name_fault name

-- ---- a member that has to be there

abbrev pub member : {A : Type 0} → (Data → Option A) → Member → Data → Option A
member kind key json = get (name_of key) json >>= kind

unfoldable pub name_at : (List ℕ → Option NameFault) → Member → Data → Option (List ℕ)
name_at fault key json = do
  name ← member text key json
  valid fault name

-- ---- a member that may be absent

abbrev pub where_there : {A : Type 0} → (Data → Option A) → Option Data → Option (Option A)
where_there kind None = Some None
where_there kind (Some value) = option_map Some (kind value)

abbrev pub optional : {A : Type 0} → (Data → Option A) → Member → Data → Option (Option A)
optional kind key json = where_there kind (get (name_of key) json)

abbrev pub valid_where_there : (List ℕ → Option NameFault)
    → Option (List ℕ)
    → Option (Option (List ℕ))
valid_where_there fault None = Some None
valid_where_there fault (Some name) = option_map Some (valid fault name)

unfoldable pub optional_name_at : (List ℕ → Option NameFault)
    → Member
    → Data
    → Option (Option (List ℕ))
optional_name_at fault key json = do
  name ← optional text key json
  valid_where_there fault name

-- ---- how a reader answers

-- it tells what a part of a script is; want of memory may stand in its place
abbrev pub MeansBy : {X A M : Type 0} → (X → A) → Option A → Result X (Failure M) → Type 0
MeansBy view meaning (Ok x) = meaning ≡ Some (view x)
MeansBy view meaning (Err (Refused why)) = meaning ≡ None
MeansBy view meaning (Err OutOfMemory) = Unit {0}

abbrev pub MemberMeans : {A M : Type 0} → Option A → Result A (Failure M) → Type 0
MemberMeans meaning (Ok x) = meaning ≡ Some x
MemberMeans meaning (Err (Refused why)) = meaning ≡ None
MemberMeans meaning (Err OutOfMemory) = Unit {0}

-- the same without memory
abbrev pub SaysBy : {X A M : Type 0} → (X → A) → Option A → Result X M → Type 0
SaysBy view meaning (Ok x) = meaning ≡ Some (view x)
SaysBy view meaning (Err why) = meaning ≡ None

abbrev pub Says : {A M : Type 0} → Option A → Result A M → Type 0
Says meaning (Ok x) = meaning ≡ Some x
Says meaning (Err why) = meaning ≡ None
