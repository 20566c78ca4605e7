use Rattle.wire_cut.proofs.ReadingLemmas.{follows_grammar, expects_again, expects_when_fed}
use Rattle.wire_cut.proofs.laws.cutter_follows_grammar.Goals as goal

pub returns : goal.returns
returns g c = record { follows = follows_grammar; again = expects_again; when_fed = expects_when_fed }
