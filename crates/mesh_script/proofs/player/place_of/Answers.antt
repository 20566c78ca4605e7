use Rattle.std.proofs.Common.{sym, ◌∙◌}
use Rattle.mesh_script.proofs.Names.{place_found, no_place}
use Rattle.mesh_script.proofs.player.place_of.Goals as goal

pub returns-in-Some : goal.returns-in-Some
returns-in-Some c = place_found _ c.args.names.now c.in-Some.place (sym c.in-Some.is ∙ c.listed_place.ensures)

pub returns-in-None : goal.returns-in-None
returns-in-None c = no_place _ c.args.names.now (sym c.in-None.is ∙ c.listed_place.ensures)
