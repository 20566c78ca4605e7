use Rattle.thread_report.proofs.HubAnswering.{lists_answered, states_led}
use Rattle.thread_report.proofs.laws.hub_tapes_are_answered.Goals as goal

pub returns : goal.returns
returns c = record { states = states_led; lists = lists_answered }
