use Rattle.std.proofs.Common.{refl, ◌∙◌}
use Rattle.hub_core.proofs.Neighbours.Puts.{found_place}
use Rattle.hub_core.proofs.peers.place_in.Goals as goal

pub unwrap-requires : goal.unwrap-requires
unwrap-requires c = rw (c.place.ensures ∙ found_place c.args.server.now c.args.name c.requires) refl
