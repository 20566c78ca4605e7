-- What was split and judged of a line, without where it lies in memory.
use Rattle.std.specs.Option.{option_copied}
use Rattle.std.specs.Prelude.{◌≡◌, ℕ, Bool, true, false, List, Option, Result, Ok, Err, take}
use Rattle.route_frames.specs.declared.faults.RouteFault.{RouteFault}
use Rattle.route_frames.specs.Meaning.{Meaning, ◌>>=◌}
use Rattle.route_frames.specs.Greetings.{info_of, connect_text_of}
use Rattle.route_frames.specs.Operations.{is_json_line}
use Rattle.route_frames.specs.Lines.{announced_size, line_meaning}
use Rattle.route_values.specs.declared.frames.RouteFrame.{RouteFrame}
use Rattle.route_frames.specs.Decoding.{frame_of_line}
use Rattle.subj.specs.declared.keys.Key.{Key}
use Rattle.route_values.specs.Snapshots.{Weighted}
use Rattle.route_frames.specs.declared.reading.LineBody.{LineBody}
use Rattle.route_frames.specs.declared.reading.LineBody.TheVariants as body
use Rattle.route_frames.specs.declared.reading.NumberedLine.{NumberedLine}
use Rattle.route_frames.specs.declared.reading.RouteLine.{RouteLine}
use Rattle.route_frames.specs.declared.reading.RouteLine.TheVariants as line
use Rattle.route_frames.specs.declared.reading.KeyText.{KeyText}
use Rattle.route_frames.specs.declared.reading.WeightedText.{WeightedText}
use Rattle.route_frames.specs.declared.reading.BodyText.{BodyText}
use Rattle.route_frames.specs.declared.reading.BodyText.TheVariants.{Plus, Minus, Snapshot, Msg}
use Rattle.route_frames.specs.declared.reading.NumberedText.{NumberedText}
use Rattle.route_frames.specs.declared.reading.LineText.{LineText}
use Rattle.route_frames.specs.declared.reading.LineText.TheVariants.{Info, Connect, Numbered}
use Rattle.route_frames.specs.declared.line_reading.Common.{Common}
use Rattle.route_frames.specs.declared.line_reading.Digits.{Digits}
use Rattle.route_frames.specs.declared.line_reading.Numbers.{Numbers}
use Rattle.route_frames.specs.CommonFields.{CommonFields}
use Rattle.line_fields.specs.Fields.{fields}
use Rattle.route_frames.specs.declared.line_reading.Form.{Form}
use Rattle.route_frames.specs.declared.line_reading.MessageFields.{MessageFields}
use Rattle.route_frames.specs.declared.line_reading.Names.{Names}
use Rattle.route_frames.specs.Arguments as arguments

-- ---- fields

abbrev pub common_view : Common → CommonFields
common_view common = record {
  from = common.from.now;
  inc = common.inc.now;
  to = common.to.now;
  to_inc = common.to_inc.now;
  number = common.number.now;
}

abbrev pub names_view : Names → List (List ℕ)
names_view names = take names.count (fields names.text.now)

abbrev pub form_view : Form → arguments.Form
form_view form = record {
  reply = option_copied form.reply;
  names = names_view form.names;
  size = form.size.now;
}

abbrev pub message_view : MessageFields → arguments.MessageFields
message_view message = record {
  account = message.account.now;
  subject = message.subject.now;
  headers = option_copied message.headers;
  form = form_view message.form;
}

-- ---- what they say

abbrev pub key_view : KeyText → Key
key_view key = record { pattern = key.pattern.now; queue = option_copied key.queue }

abbrev pub weighted_view : WeightedText → Weighted
weighted_view weighted = (key_view weighted.key, weighted.weight)

abbrev pub body_view : BodyText → LineBody
body_view (Plus weighted) = body.Plus (weighted_view weighted)
body_view (Minus key) = body.Minus (key_view key)
body_view (Snapshot size) = body.Snapshot size
body_view (Msg subject reply names headers size) =
    body.Msg subject.now (option_copied reply) (names_view names) headers size

abbrev pub numbers_view : Digits → Numbers
numbers_view digits = record { inc = digits.inc; to_inc = digits.to_inc; number = digits.number }

abbrev pub numbered_view : NumberedText → NumberedLine
numbered_view numbered = record {
  from = numbered.from.now;
  to = numbered.to.now;
  numbers = numbers_view numbered.numbers;
  body = body_view numbered.body;
}

-- ---- the line

abbrev pub is_json : LineText → Bool
is_json (Info text) = true
is_json (Connect text) = true
is_json (Numbered numbered) = false

abbrev pub text_meaning : LineText → Meaning RouteLine
text_meaning (Info text) = info_of text.now >>= λ info. Ok (line.Info info)
text_meaning (Connect text) = connect_text_of text.now >>= λ connect. Ok (line.Connect connect)
text_meaning (Numbered numbered) = Ok (line.Numbered (numbered_view numbered))

abbrev pub size_in : LineText → Meaning (Option ℕ)
size_in text = text_meaning text >>= λ read. Ok (announced_size read)

-- a line is judged without memory, but for its JSON
abbrev pub Judges : List ℕ → Result LineText RouteFault → Type 0
Judges bytes (Ok text) =
    (line_meaning bytes ≡ text_meaning text) × (is_json_line bytes ≡ is_json text)
Judges bytes (Err fault) = line_meaning bytes ≡ Err fault

abbrev pub joined_text : LineText → List ℕ → Meaning RouteFrame
joined_text text payload = text_meaning text >>= λ read. frame_of_line read payload
