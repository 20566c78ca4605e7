-- What the calls put that write placements.
use Rattle.std.specs.Prelude.{◌≡◌, ℕ, false, List, [], ◌++◌, length, map}
use Rattle.cluster_world.specs.InCode.{life_id_of}
use Rattle.world_law.specs.State.{Cluster, Life, Placement}
use Rattle.world_law.specs.Written.{placement_line}
use Rattle.mesh_script.specs.declared.output.Message.{Message}
use Rattle.mesh_script.specs.Lines.{lines_text}

-- of a cluster, the lines of its placements have the names of the servers alone
abbrev pub cluster_named : List (List ℕ) → Cluster
cluster_named names = record { names = names; shards = 0 }

-- a placement has bytes, and whether its connection took headers, which its line has not
abbrev pub placement_in : Message → Placement
placement_in message = record {
  step = message.step;
  life = life_id_of message.life;
  conn = message.conn;
  id = message.id;
  mode = message.mode.now;
  bytes = [];
  headers = false;
}

abbrev pub placements_text : Cluster → List Life → List Placement → List ℕ
placements_text c lives placements = lines_text (map (placement_line c lives) placements)

-- the text of these placements was put, of which there are so many
pub record HasPut (count : ℕ) (old : List ℕ) (text_of : List Placement → List ℕ)
    (placements : List Placement) (new : List ℕ) : Type 0 where
  pub counted : count ≡ length placements
  pub text : new ≡ old ++ text_of placements
