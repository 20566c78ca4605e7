use Rattle.interest.proofs.News.Origins.{views_are_of_origin}
use Rattle.interest.proofs.laws.views_are_of_their_origin.Goals as goal

pub returns : goal.returns
returns c = views_are_of_origin
