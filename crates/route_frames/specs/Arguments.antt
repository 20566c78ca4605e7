-- The fields behind the five common ones, by their number. NATS documentation, "Cluster Protocol";
-- the number of queue names, snapshots and `RHMSG`: profile.
use Rattle.std.specs.Prelude.{ℕ, List, [], ◌∷◌, codes, Option, Some, None, option_map, if◌then◌else◌}
use Rattle.std.specs.Str.{bytes_eq}

-- ---- RS+ <account> <pattern> [<queue> <weight>]

pub record PlusFields : Type 0 where
  pub account : List ℕ
  pub pattern : List ℕ
  pub queue : Option (List ℕ)
  pub weight : Option (List ℕ)

abbrev pub plus_fields : List (List ℕ) → Option PlusFields
plus_fields [] = None
plus_fields (account ∷ []) = None
plus_fields (account ∷ pattern ∷ []) =
    Some (record { account = account; pattern = pattern; queue = None; weight = None })
plus_fields (account ∷ pattern ∷ queue ∷ []) = None
plus_fields (account ∷ pattern ∷ queue ∷ weight ∷ []) =
    Some (record { account = account; pattern = pattern; queue = Some queue; weight = Some weight })
plus_fields (account ∷ pattern ∷ queue ∷ weight ∷ other ∷ others) = None

-- ---- RS- <account> <pattern> [<queue>]

pub record MinusFields : Type 0 where
  pub account : List ℕ
  pub pattern : List ℕ
  pub queue : Option (List ℕ)

abbrev pub minus_fields : List (List ℕ) → Option MinusFields
minus_fields [] = None
minus_fields (account ∷ []) = None
minus_fields (account ∷ pattern ∷ []) =
    Some (record { account = account; pattern = pattern; queue = None })
minus_fields (account ∷ pattern ∷ queue ∷ []) =
    Some (record { account = account; pattern = pattern; queue = Some queue })
minus_fields (account ∷ pattern ∷ queue ∷ other ∷ others) = None

-- ---- RSS <#bytes>

abbrev pub snapshot_field : List (List ℕ) → Option (List ℕ)
snapshot_field [] = None
snapshot_field (size ∷ []) = Some size
snapshot_field (size ∷ other ∷ others) = None

-- ---- RMSG <account> <subject> [<reply>] <#bytes>, `| <queue>.. <#bytes>` or `+ <reply> <queue>..
-- <#bytes>` behind the subject

pub record Form : Type 0 where
  pub reply : Option (List ℕ)
  pub names : List (List ℕ)
  pub size : List ℕ

pub record MessageFields : Type 0 where
  pub account : List ℕ
  pub subject : List ℕ
  -- the size of the header block, where there is one
  pub headers : Option (List ℕ)
  pub form : Form

abbrev pub in_front : List ℕ → List (List ℕ) × List ℕ → List (List ℕ) × List ℕ
in_front field split = (field ∷ split.0, split.1)

-- all but the last field, and the last
abbrev pub split_last_of : List ℕ → List (List ℕ) → List (List ℕ) × List ℕ
split_last_of field [] = ([], field)
split_last_of field (other ∷ others) = in_front field (split_last_of other others)

abbrev pub split_last : List (List ℕ) → Option (List (List ℕ) × List ℕ)
split_last [] = None
split_last (field ∷ others) = Some (split_last_of field others)

-- a reply, and one or more queue names
abbrev pub reply_form : List ℕ → List (List ℕ) → List ℕ → Option Form
reply_form reply [] size = None
reply_form reply (name ∷ names) size =
    Some (record { reply = Some reply; names = name ∷ names; size = size })

-- a reply is in front of the queue names
abbrev pub replied_fields : List (List ℕ) → List ℕ → Option Form
replied_fields [] size = None
replied_fields (reply ∷ names) size = reply_form reply names size

abbrev pub form_by_mark : List ℕ → List (List ℕ) → List ℕ → Option Form
form_by_mark mark between size =
    if bytes_eq mark (codes "|") then Some (record { reply = None; names = between; size = size })
    else (if bytes_eq mark (codes "+") then replied_fields between size else None)

-- the first field, those between, and the last
abbrev pub form_between : List ℕ → List (List ℕ) → List ℕ → Option Form
form_between first [] size = Some (record { reply = Some first; names = []; size = size })
form_between first (field ∷ others) size = form_by_mark first (field ∷ others) size

abbrev pub form_split : List ℕ → Option (List (List ℕ) × List ℕ) → Option Form
form_split first None = Some (record { reply = None; names = []; size = first })
form_split first (Some split) = form_between first split.0 split.1

abbrev pub form_of : List (List ℕ) → Option Form
form_of [] = None
form_of (first ∷ others) = form_split first (split_last others)

abbrev pub message_form : List ℕ → List ℕ → Option Form → Option MessageFields
message_form account subject None = None
message_form account subject (Some form) =
    Some (record { account = account; subject = subject; headers = None; form = form })

abbrev pub message_fields : List (List ℕ) → Option MessageFields
message_fields [] = None
message_fields (account ∷ []) = None
message_fields (account ∷ subject ∷ others) = message_form account subject (form_of others)

-- ---- RHMSG: the fields of an RMSG, with two sizes in place of the one: that of the header block,
-- and behind it that of block and payload together

abbrev pub with_total : List ℕ → MessageFields → MessageFields
with_total total fields = record {
  account = fields.account;
  subject = fields.subject;
  headers = Some fields.form.size;
  form = record { reply = fields.form.reply; names = fields.form.names; size = total };
}

abbrev pub total_behind : Option (List (List ℕ) × List ℕ) → Option MessageFields
total_behind None = None
total_behind (Some split) = option_map (with_total split.1) (message_fields split.0)

abbrev pub header_fields : List (List ℕ) → Option MessageFields
header_fields all = total_behind (split_last all)
