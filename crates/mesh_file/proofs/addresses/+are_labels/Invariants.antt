use Rattle.std.proofs.Common.{length}
use Rattle.mesh_file.proofs.addresses.+are_labels.Given as goal

abbrev pub decreases-are_labels : goal.decreases-are_labels
decreases-are_labels l = length l.text.now
