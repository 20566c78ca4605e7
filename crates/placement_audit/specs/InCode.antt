-- Placements as the code has them, and as the definitions do; and entries of the lists that are
-- lent.
use Rattle.std.specs.Borrow.{Bor}
use Rattle.cluster_world.specs.declared.records.Life.{Life}
use Rattle.cluster_world.specs.declared.records.Publication.{Publication}
use Rattle.cluster_world.specs.InCode.{life_id_of, life_of, publication_of}
use Rattle.world_law.specs.State as state
use Rattle.placement_audit.specs.declared.placements.Placement.{Placement}

abbrev pub placement_of : Placement → state.Placement
placement_of p = record {
  step = p.step;
  life = life_id_of p.life;
  conn = p.conn;
  id = p.id;
  mode = p.mode;
  bytes = p.bytes.items;
  headers = p.headers;
}

abbrev pub lent_publication : Bor Publication → state.Publication
lent_publication p = publication_of p.now

abbrev pub lent_life : Bor Life → state.Life
lent_life l = life_of l.now
