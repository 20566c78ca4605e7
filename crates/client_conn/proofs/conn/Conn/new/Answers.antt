use Rattle.std.proofs.Common.{[], ◌∷◌, ap, ◌∙◌}
use Rattle.client_frames.specs.declared.server_frames.ReplyFrame.TheVariants as reply
use Rattle.client_conn.specs.declared.ask.ClientAction.TheVariants.{Reply}
use Rattle.client_conn.specs.Items.{first_options}
use Rattle.client_conn.specs.Streams.{asking_at, end_of}
use Rattle.client_conn.proofs.Answering.{new_asks}
use Rattle.client_conn.proofs.conn.Conn.new.Goals as goal

pub returns : goal.returns
returns c =
    ap (λ open_asks. asking_at open_asks (end_of c.new.result)) c.of.ensures
    ∙ ap (asking_at (record { asks = Reply (reply.Info c.args.info) ∷ []; options = first_options })) c.new.ensures.end
    ∙ new_asks (Reply (reply.Info c.args.info))
