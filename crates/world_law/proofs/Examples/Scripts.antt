-- What comes of the scripts.
use Rattle.std.proofs.Common.{refl}
use Rattle.std.specs.Fmt.{digits}
use Rattle.interest.specs.Counts.{counts_after, delta_fault, change_of}
use Rattle.claim_race.specs.Race.{winner, busy_of}
use Rattle.route_values.specs.Snapshots.{key_line}
use Rattle.world_law.specs.Scripts.{ARestart, TwoShards, AFullWindow, ALowerIncarnation, ASnapshot, TwoForms}

pub a_restart_refuses_old_frames : ARestart
unfolding counts_after delta_fault change_of winner busy_of key_line digits
a_restart_refuses_old_frames = record { outcomes = refl; placements = refl }

pub two_shards_share_a_group : TwoShards
unfolding counts_after delta_fault change_of winner busy_of key_line digits
two_shards_share_a_group = record { outcomes = refl; placements = refl; closed = refl }

pub a_full_window_refuses_publishes : AFullWindow
unfolding counts_after delta_fault change_of winner busy_of key_line digits
a_full_window_refuses_publishes = record { outcomes = refl }

pub a_lower_incarnation_is_refused : ALowerIncarnation
unfolding counts_after delta_fault change_of winner busy_of key_line digits
a_lower_incarnation_is_refused = record { outcomes = refl }

pub a_snapshot_tells_what_was_collected : ASnapshot
unfolding counts_after delta_fault change_of winner busy_of key_line digits
a_snapshot_tells_what_was_collected = record { outcomes = refl; sent = refl; placements = refl }

pub headers_go_where_they_are_taken : TwoForms
unfolding counts_after delta_fault change_of winner busy_of key_line digits
headers_go_where_they_are_taken = record { outcomes = refl; placements = refl }
