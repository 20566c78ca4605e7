use Rattle.world_law.proofs.Examples.Printed.{writes_two_words}
use Rattle.world_law.proofs.laws.two_words_are_written.Goals as goal

pub returns : goal.returns
returns start = writes_two_words
