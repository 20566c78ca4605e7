-- The pair settles.
use Rattle.std.proofs.Common.{◌≡◌, ℕ, zero, suc, ◌<◌, Option, Some, None, refl, subst, ⊎_elim, arith, filter, ap, sym}
use Rattle.std.specs.Prelude.{slice_get}
use Rattle.std.specs.Fmt.{digits}
use Rattle.list_laws.specs.Lists.{Each}
use Rattle.interest.specs.Counts.{counts_after, delta_fault, change_of}
use Rattle.claim_race.specs.Race.{winner, busy_of}
use Rattle.route_values.specs.Snapshots.{key_line}
use Rattle.node_law.specs.State.{new_node}
use Rattle.world_law.specs.Scripts.{pair, hi, end_of}
use Rattle.world_law.specs.State.{Running, server_at}
use Rattle.settled_law.specs.Orders.{IsOrder, HasLine, is_for, line_events}
use Rattle.settled_law.specs.Rows.{APairSettles, prepared, order}

abbrev running : Option (Option Running) → Running
running None = record { inc = 0; node = new_node (server_at pair 0 0) }
running (Some None) = record { inc = 0; node = new_node (server_at pair 0 0) }
running (Some (Some a)) = a

lines_here : (m place : ℕ)
    → m < 2
    → place < 1
    → filter (is_for m (suc place)) order
    ≡ line_events pair (end_of pair prepared) 0 (running (slice_get (end_of pair prepared).nodes 0)) hi m (suc place)
unfolding counts_after delta_fault change_of winner busy_of key_line digits
lines_here zero zero lt l = refl
lines_here (suc zero) zero lt l = refl
lines_here (suc (suc m)) zero lt l = absurd (omega (arith, lt))
lines_here m (suc place) lt l = absurd (omega (arith, l))

only_lines : Each (HasLine pair) order
only_lines x i =
    ⊎_elim (λ (e : x ≡ _).
    subst (HasLine pair) (sym e) (record { node = 0; place = 0; listed = omega arith; shard = omega arith; is = refl }))
    (λ i.
    ⊎_elim (λ (e : x ≡ _).
    subst (HasLine pair) (sym e) (record { node = 0; place = 0; listed = omega arith; shard = omega arith; is = refl }))
    (λ i.
    ⊎_elim (λ (e : x ≡ _).
    subst (HasLine pair) (sym e) (record { node = 1; place = 0; listed = omega arith; shard = omega arith; is = refl }))
    (λ i.
    ⊎_elim (λ (e : x ≡ _).
    subst (HasLine pair) (sym e) (record { node = 1; place = 0; listed = omega arith; shard = omega arith; is = refl }))
    (λ i.
    ⊎_elim (λ (e : x ≡ _).
    subst (HasLine pair) (sym e) (record { node = 1; place = 0; listed = omega arith; shard = omega arith; is = refl }))
    (λ i.
    ⊎_elim (λ (e : x ≡ _).
    subst (HasLine pair) (sym e) (record { node = 1; place = 0; listed = omega arith; shard = omega arith; is = refl }))
    (λ i. absurd i) i)
    i)
    i)
    i)
    i)
    i

pub pair_settles : APairSettles
unfolding counts_after delta_fault change_of winner busy_of key_line digits
pair_settles = record {
  not_yet = refl;
  settled = refl;
  roomy = refl;
  right = λ a at.
      subst (λ (x : Running). IsOrder pair (end_of pair prepared) 0 x hi order) (ap running at)
      (record { lines = lines_here; only = only_lines });
  all_done = refl;
  placed = refl;
  one_missing = refl;
  two_placed = refl;
}
