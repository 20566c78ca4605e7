use Rattle.client_conn.proofs.Following.{follows_bytes_and_answers, asks_for_stream_commands}
use Rattle.client_conn.proofs.laws.asks_follow_bytes_and_answers.Goals as goal

pub returns : goal.returns
returns c = record { follows = follows_bytes_and_answers; commands = asks_for_stream_commands }
