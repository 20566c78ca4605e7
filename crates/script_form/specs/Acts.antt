-- What a step of a script says: who does what (profile). Names and numbers may be of what is not
-- there: that is the event's refusal.
use Rattle.std.specs.Prelude.{ℕ, Bool, true, List, Option, Some, is_some, unwrap_or, if◌then◌else◌}
use Rattle.std.specs.Option.{option_copied}
use Rattle.serde_json.specs.Data.{Data}
use Rattle.serde_json.specs.Find.{get}
use Rattle.subj.specs.declared.keys.Key.{Key}
use Rattle.subj.specs.declared.limits.TheConstants.{JOIN_EVENTS}
use Rattle.subj.specs.declared.messages.Pub.{Pub}
use Rattle.subj.specs.Names.{node_name_fault, pattern_fault, subject_fault, queue_name_fault, sid_fault}
use Rattle.subj.specs.Numbers.{incarnation_of}
use Rattle.subj.specs.Publications.{new_publication}
use Rattle.script_form.specs.declared.script.Content.{Content as Said}
use Rattle.script_form.specs.declared.steps.Act.{Act}
use Rattle.script_form.specs.declared.steps.Act.TheVariants.{Start, Stop, Attach, Sub, Unsub, SetHeaders, Detach, Publish, Settled, Deliver, Receive, Collect, Drain, DrainShard, Begin, End, DropJob, Claim, Dial, Accept, Info, Connect, Cut, TakeEntries, TakeFrames, Join}
use Rattle.script_form.specs.declared.steps.Step.{Step}
use Rattle.script_form.specs.declared.steps.Verb.{Verb}
use Rattle.script_form.specs.declared.steps.Verb.TheVariants as verb
use Rattle.script_form.specs.declared.steps.Member.{Member}
use Rattle.script_form.specs.declared.steps.Member.TheVariants as key
use Rattle.script_form.specs.Members.{name_of, ◌>>=◌, member, optional, whole, text, truth, name_at, optional_name_at}
use Rattle.script_form.specs.Words.{verb_of}

-- ---- numbers: each may be any that 64 bits hold

abbrev pub number : Member → Data → Option ℕ
number key json = member whole key json

abbrev pub conn : Data → Option ℕ
conn json = number key.Conn json

abbrev pub shard : Data → Option ℕ
shard json = number key.Shard json

abbrev pub session : Data → Option ℕ
session json = number key.Session json

abbrev pub frame : Data → Option ℕ
frame json = number key.Frame json

-- ---- names

abbrev pub peer : Data → Option (List ℕ)
peer json = name_at node_name_fault key.Peer json

abbrev pub sid : Data → Option (List ℕ)
sid json = name_at sid_fault key.Sid json

-- ---- what is done

unfoldable pub start_in : Data → Option Act
start_in json = do
  inc ← number key.Inc json
  inc ← incarnation_of inc
  Some (Start inc)

-- of a shard that is not named, the first
unfoldable pub attach_in : Data → Option Act
attach_in json = do
  shard ← optional whole key.Shard json
  Some (Attach (unwrap_or shard 1))

unfoldable pub key_in : Data → Option Key
key_in json = do
  pattern ← name_at pattern_fault key.Pattern json
  queue ← optional_name_at queue_name_fault key.Queue json
  Some (record { pattern = pattern; queue = queue })

unfoldable pub sub_in : Data → Option Act
sub_in json = do
  conn ← conn json
  key ← key_in json
  sid ← sid json
  Some (Sub conn key sid)

unfoldable pub unsub_in : Data → Option Act
unsub_in json = do
  conn ← conn json
  sid ← sid json
  max ← optional whole key.Max json
  Some (Unsub conn sid max)

unfoldable pub headers_in : Data → Option Act
headers_in json = do
  conn ← conn json
  on ← member truth key.On json
  Some (SetHeaders conn on)

unfoldable pub detach_in : Data → Option Act
detach_in json = do
  conn ← conn json
  Some (Detach conn)

-- what a publication has besides its subjects
pub record Content : Type 0 where
  pub headers : Option (List ℕ)
  pub payload : List ℕ
  pub echo : Bool

abbrev pub content_of : Said → Content
content_of said = record {
  headers = option_copied said.headers;
  payload = said.payload.now;
  echo = said.echo;
}

-- with echo, where that is not said
unfoldable pub content_in : Data → Option Content
content_in json = do
  headers ← optional text key.Headers json
  payload ← member text key.Payload json
  echo ← optional truth key.Echo json
  Some (record { headers = headers; payload = payload; echo = unwrap_or echo true })

abbrev pub publication_of : List ℕ → Option (List ℕ) → Content → Option Pub
publication_of subject reply content =
    new_publication subject reply content.headers content.payload content.echo

unfoldable pub publication_in : Data → Option Pub
publication_in json = do
  subject ← name_at subject_fault key.Subject json
  reply ← optional_name_at subject_fault key.Reply json
  content ← content_in json
  publication_of subject reply content

-- a publish, or one that is delivered
abbrev pub published_by : Verb → ℕ → Pub → ℕ → Act
published_by verb.Deliver = Deliver
published_by other = Publish

unfoldable pub publish_in : (ℕ → Pub → ℕ → Act) → Data → Option Act
publish_in act json = do
  conn ← conn json
  publication ← publication_in json
  word ← number key.Word json
  Some (act conn publication word)

unfoldable pub settled_in : Data → Option Act
settled_in json = do
  subject ← name_at subject_fault key.Subject json
  Some (Settled subject)

unfoldable pub receive_in : Data → Option Act
receive_in json = do
  frame ← frame json
  Some (Receive frame)

-- what is done at a shard with nothing but its number
abbrev pub at_shard : Verb → ℕ → Act
at_shard verb.Collect = Collect
at_shard verb.DrainShard = DrainShard
at_shard verb.Begin = Begin
at_shard verb.End = End
at_shard other = DropJob

unfoldable pub of_shard : (ℕ → Act) → Data → Option Act
of_shard act json = do
  shard ← shard json
  Some (act shard)

unfoldable pub claim_in : Data → Option Act
claim_in json = do
  shard ← shard json
  index ← number key.Index json
  Some (Claim shard index)

unfoldable pub of_peer : (List ℕ → Act) → Data → Option Act
of_peer act json = do
  peer ← peer json
  Some (act peer)

abbrev pub on_session : Verb → ℕ → ℕ → Act
on_session verb.Connect = Connect
on_session other = Info

unfoldable pub of_session : (ℕ → ℕ → Act) → Data → Option Act
of_session act json = do
  session ← session json
  frame ← frame json
  Some (act session frame)

unfoldable pub cut_in : Data → Option Act
cut_in json = do
  session ← session json
  Some (Cut session)

unfoldable pub take_entries_in : Data → Option Act
take_entries_in json = do
  conn ← conn json
  count ← number key.Count json
  Some (TakeEntries conn count)

unfoldable pub take_frames_in : Data → Option Act
take_frames_in json = do
  peer ← peer json
  count ← number key.Count json
  Some (TakeFrames peer count)

-- from a connection; where there is no such member, from a peer
abbrev pub take_in : Data → Option Act
take_in json =
    if is_some (get (name_of key.Conn) json) then take_entries_in json else take_frames_in json

abbrev pub act_in : Verb → Data → Option Act
act_in verb.Start json = start_in json
act_in verb.Stop json = Some Stop
act_in verb.Attach json = attach_in json
act_in verb.Sub json = sub_in json
act_in verb.Unsub json = unsub_in json
act_in verb.Headers json = headers_in json
act_in verb.Detach json = detach_in json
act_in verb.Publish json = publish_in Publish json
act_in verb.Settled json = settled_in json
act_in verb.Deliver json = publish_in Deliver json
act_in verb.Receive json = receive_in json
act_in verb.Collect json = of_shard Collect json
act_in verb.Drain json = Some Drain
act_in verb.DrainShard json = of_shard DrainShard json
act_in verb.Begin json = of_shard Begin json
act_in verb.End json = of_shard End json
act_in verb.Drop json = of_shard DropJob json
act_in verb.Claim json = claim_in json
act_in verb.Dial json = of_peer Dial json
act_in verb.Accept json = Some Accept
act_in verb.Info json = of_session Info json
act_in verb.Connect json = of_session Connect json
act_in verb.Cut json = cut_in json
act_in verb.Take json = take_in json
act_in verb.Join json = of_peer Join json

unfoldable pub verb_in : Data → Option Verb
verb_in json = do
  word ← member text key.Do json
  verb_of word

-- and who does it: every step has `node`
unfoldable pub step_in : Data → Option Step
step_in json = do
  verb ← verb_in json
  node ← name_at node_name_fault key.Node json
  act ← act_in verb json
  Some (record { node = node; act = act })

-- ---- as how many events a step counts

abbrev pub events_of : Act → ℕ
events_of (Join peer) = JOIN_EVENTS
events_of act = 1
