-- What a server sends to its clients.
use Rattle.std.specs.Prelude.{List, ℕ, ◌++◌, codes}
use Rattle.line_fields.specs.LineEnd.{line_end}
use Rattle.client_frames.specs.declared.server_frames.ReplyFrame.{ReplyFrame}
use Rattle.client_frames.specs.declared.server_frames.ReplyFrame.TheVariants.{Info, Pong, Ok, Err}
use Rattle.client_frames.specs.declared.server_frames.ServerFrame.{ServerFrame}
use Rattle.client_frames.specs.declared.server_frames.ServerFrame.TheVariants.{Reply, Msg}
use Rattle.client_frames.specs.Info.{info_json}
use Rattle.client_frames.specs.ErrTexts.{err_line}
use Rattle.client_frames.specs.Messages.{due_bytes}

-- NATS documentation, "Client Protocol": the lines that answer a client
abbrev pub reply_line : ReplyFrame → List ℕ
reply_line (Info info) = codes "INFO " ++ info_json info
reply_line Pong = codes "PONG"
reply_line Ok = codes "+OK"
reply_line (Err text) = err_line text

abbrev pub frame_bytes : ServerFrame → List ℕ
frame_bytes (Reply reply) = reply_line reply ++ line_end
frame_bytes (Msg delivery) = due_bytes delivery.message delivery.sid delivery.takes_headers
