use Rattle.client_frames.proofs.SpellingCommands.{means_what_it_spells, spells_what_it_means, spells_one_command, is_refused_for_its_cause, has_the_cause_it_is_refused_for, has_one_cause}
use Rattle.client_frames.proofs.laws.line_has_one_meaning.Goals as goal

pub returns : goal.returns
returns c = record {
  means = means_what_it_spells;
  spells = spells_what_it_means;
  one = spells_one_command;
  refused = is_refused_for_its_cause;
  cause = has_the_cause_it_is_refused_for;
  one_cause = has_one_cause;
}
