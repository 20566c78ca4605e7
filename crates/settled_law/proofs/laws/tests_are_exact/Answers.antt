use Rattle.std.proofs.Common.{subst, sym}
use Rattle.world_law.specs.Made.{changes_in_life, changes_made, passed_events}
use Rattle.world_law.specs.State.{new_world}
use Rattle.settled_law.proofs.Plans.Sizes.{size_of_run}
use Rattle.settled_law.proofs.Plans.Tested.{is_settled, is_roomy}
use Rattle.settled_law.proofs.Plans.Told.{is_told, room_is_told, view_rises, Rises}
use Rattle.settled_law.proofs.laws.tests_are_exact.Goals as goal

pub returns : goal.returns
returns x = record {
  settled = λ c cluster events w run subject.
      let size = size_of_run c events w run in
      let sound = x.servers_are_sound.ensures c cluster events w run in
      let rest = x.it_rests_on_this.ensures c cluster events w run in (
        (λ e.
            is_settled c cluster w size sound
            (λ n a at. (x.servers_keep_their_laws.ensures c cluster events w run n a at).promises.counts) subject e),
        (λ s.
            is_told c cluster w size sound
            (λ n a at. (x.servers_keep_their_laws.ensures c cluster events w run n a at).promises.counts)
            (λ n a at q peer here.
            let v = rest.views n a at q peer here in
            subst Rises (sym v.keys)
            (view_rises (changes_in_life q peer.seen (changes_made c (passed_events c (new_world c) events w run)))
            peer.heard.mark))
            subject s),
      );
  room = λ w message. ((λ e. is_roomy w message e), (λ r. room_is_told w message r));
}
