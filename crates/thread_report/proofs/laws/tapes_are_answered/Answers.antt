use Rattle.thread_report.proofs.Answering.{lists_answered, states_led}
use Rattle.thread_report.proofs.laws.tapes_are_answered.Goals as goal

pub returns : goal.returns
returns c = record { states = states_led; lists = lists_answered }
