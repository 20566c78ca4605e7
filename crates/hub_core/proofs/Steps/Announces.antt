-- A collect, or a drain, that is not refused is one of the law's.
use Rattle.std.proofs.Common.{◌≡◌, ℕ, zero, suc, ◌+◌, Bool, true, false, cond, nat_lt, List, [], ◌∷◌, map, length, Option, Some, None, refl, sym, ap, ◌∙◌, subst, ⊎_elim, arith}
use Rattle.std.specs.Prelude.{slice_get, is_some, if◌then◌else◌}
use Rattle.list_laws.specs.Lists.{In, Each}
use Rattle.list_laws.proofs.Lists.{in_append, in_map}
use Rattle.list_laws.proofs.Changes.{get_map}
use Rattle.list_laws.proofs.Tests.{no_cause, or_false}
use Rattle.std.proofs.lemmas.Option.{none-some}
use Rattle.cluster_law.specs.Hub as law
use Rattle.cluster_law.specs.Hub.{IsTold}
use Rattle.cluster_law.specs.Interest.{view_after as law_after}
use Rattle.subj.specs.declared.limits.TheConstants.{MAX_COUNTER}
use Rattle.subj.specs.Servers.{ServerIdentity, IsListed, name_of, own_name}
use Rattle.interest.specs.declared.changes.Change.{Change}
use Rattle.interest.specs.declared.changes.Change.TheVariants.{Up, Gone, Clear}
use Rattle.subj.specs.declared.keys.Delta.{Delta}
use Rattle.interest.specs.declared.faults.InterestFault.{InterestFault}
use Rattle.interest.specs.Counts.{Counts, counts_after, delta_fault}
use Rattle.interest.specs.Told.{counts_told, changes_told, are_refused, AreTaken}
use Rattle.interest.specs.Views.{View, told_view, view_with_change, view_after}
use Rattle.interest.proofs.Counting.Agreement.{run, run_within}
use Rattle.route_values.specs.Frames.{Frame}
use Rattle.hub_core.specs.declared.faults.HubFault.TheVariants.{BadInterest, Spent}
use Rattle.hub_core.specs.State.{Peer}
use Rattle.hub_core.specs.Telling.{changes_of, count_of_changes, is_told, body_of, frames_of_change, frames_behind, collect_frames, without_slow, after_collect, clearing, drain_frames, after_drain}
use Rattle.hub_core.specs.AsLaw.{view_of, change_of, frame_of, hub_of, peer_of, follow, AnnouncesInLaw, DrainsInLaw}
use Rattle.hub_core.proofs.Choices.Places.{named}
use Rattle.hub_core.proofs.Neighbours.Views.{follows}
use Rattle.hub_core.proofs.Neighbours.Known.{frames_unseen, frames_length, map_length}
use Rattle.hub_core.proofs.Steps.Changes.{never_clear}

-- ---- the counts

taken_or : (o : Option InterestFault) → is_some o ≡ false → o ≡ None
taken_or None e = refl
taken_or (Some why) e = cc

are_taken : (deltas : List Delta) (counts : Counts) → are_refused counts deltas ≡ false → AreTaken counts deltas
are_taken [] counts e = tt
are_taken (delta ∷ deltas) counts e =
    let f = or_false (is_some (delta_fault counts delta)) (are_refused (counts_after counts delta) deltas) e in
    (taken_or (delta_fault counts delta) f.0, are_taken deltas (counts_after counts delta) f.1)

-- changes act in the law as they do here
after_all : (changes : List Change) (view : View)
    → law_after follow (map change_of changes) (length (map change_of changes)) (view_of view)
    ≡ view_of (view_after changes view)
after_all [] view = refl
after_all (change ∷ changes) view =
    ap (law_after follow (map change_of changes) (length (map change_of changes))) (follows change view)
    ∙ after_all changes (view_with_change change view)

-- ---- the peers

slow_unseen : (count : ℕ) (peers : List Peer) → map peer_of (map (without_slow count) peers) ≡ map peer_of peers
slow_unseen count [] = refl
slow_unseen count (peer ∷ peers) = ap (λ t. peer_of peer ∷ t) (slow_unseen count peers)

-- ---- the frames

-- where one of all changes clears, it is the last one, and no interest is left
module _ (server : ServerIdentity) (is : IsListed server) (old : law.Hub) (new : law.Hub) (all : List Change)
    (count : ℕ)
    (clears : (k : ℕ) → slice_get all k ≡ Some Clear → (old.changed + suc k ≡ new.changed) × (new.interest ≡ [])) where
  abbrev Told : Frame → Type 0
  Told frame = IsTold server.me server.inc old (map change_of all) new (frame_of server frame)

  abbrev frame_at : ℕ → Change → ℕ → Peer → Frame
  frame_at number change q peer = record {
    from = own_name server;
    inc = server.inc;
    to = name_of server q;
    to_inc = peer.seen;
    number = number;
    body = body_of change;
  }

  says : (k number : ℕ) (change : Change) (q : ℕ) (peer : Peer)
      → slice_get all k ≡ Some change
      → number ≡ old.changed + suc k
      → Told (frame_at number change q peer)
  says k number (Up weighted) q peer at is_number = record {
    origin = named server is server.me is.listed;
    inc = refl;
    says = (k, get_map change_of all k (Up weighted) at, is_number);
  }
  says k number (Gone key) q peer at is_number = record {
    origin = named server is server.me is.listed;
    inc = refl;
    says = (k, get_map change_of all k (Gone key) at, is_number);
  }
  says k number Clear q peer at is_number = record {
    origin = named server is server.me is.listed;
    inc = refl;
    says = (is_number ∙ (clears k at).0, sym (clears k at).1);
  }

  one_change : (k number : ℕ) (change : Change)
      → slice_get all k ≡ Some change
      → number ≡ old.changed + suc k
      → (q : ℕ) (peers : List Peer)
      → Each Told (frames_of_change server count number change q peers)
  one_change k number change at is_number q [] frame i = absurd i
  one_change k number change at is_number q (peer ∷ peers) frame i =
      ⊎_elim (λ x. one (is_told count peer) x) (λ x. one_change k number change at is_number (suc q) peers frame x)
      (in_append frame (cond (is_told count peer) (frame_at number change q peer ∷ []) [])
      (frames_of_change server count number change (suc q) peers) i)
    where
      one : (b : Bool) → In frame (cond b (frame_at number change q peer ∷ []) []) → Told frame
      one false x = absurd x
      one true x =
          ⊎_elim
          (λ (e : frame ≡ frame_at number change q peer). subst Told (sym e) (says k number change q peer at is_number))
          (λ x. absurd x) x

  -- the changes from the k-th on
  behind : (k number : ℕ) (changes : List Change)
      → ((j : ℕ) → slice_get all (k + j) ≡ slice_get changes j)
      → number ≡ old.changed + k
      → (peers : List Peer)
      → Each Told (frames_behind server count number changes peers)
  behind k number [] same is_number peers frame i = absurd i
  behind k number (change ∷ changes) same is_number peers frame i =
      ⊎_elim (λ x.
      one_change k (number + 1) change (ap (slice_get all) (sym zero_more) ∙ same 0) (omega arith) 0 peers frame x)
      (λ x.
      behind (suc k) (number + 1) changes (λ j. ap (slice_get all) (step j) ∙ same (suc j)) (omega arith) peers frame x)
      (in_append frame (frames_of_change server count (number + 1) change 0 peers)
      (frames_behind server count (number + 1) changes peers) i)
    where
      zero_more : k + 0 ≡ k
      zero_more = omega arith

      step : (j : ℕ) → suc k + j ≡ k + suc j
      step j = omega arith

none_more : (j : ℕ) → 0 + j ≡ j
none_more j = omega arith

pub announces_in_law : AnnouncesInLaw
announces_in_law c server hub deltas is size within cause = record {
  announces = record {
    told = λ frame i.
        (let x = in_map (frame_of server) (collect_frames server hub deltas) frame i in
        subst
        (IsTold server.me server.inc (hub_of hub) (map change_of (changes_of hub deltas))
        (hub_of (after_collect server hub deltas)))
        (sym x.2)
        (behind server is (hub_of hub) (hub_of (after_collect server hub deltas)) (changes_of hub deltas)
        (count_of_changes hub deltas) (λ k at. absurd (none_clears hub.draining k at)) 0 hub.changed
        (changes_of hub deltas) (λ j. ap (slice_get (changes_of hub deltas)) (none_more j)) (omega arith) hub.peers x.0
        x.1));
    after = λ i. record {
      published = hub.published;
      changed = hub.changed + sym (map_length change_of (changes_of hub deltas)) i;
      interest = interest_is hub.draining i;
      peers =
          (frames_unseen server (collect_frames server hub deltas) 0
          (map (without_slow (count_of_changes hub deltas)) hub.peers)
          ∙ slow_unseen (count_of_changes hub deltas) hub.peers)
          i;
    };
  };
  within = run_within deltas hub.counts within taken;
  peers =
      frames_length server (collect_frames server hub deltas) 0
      (map (without_slow (count_of_changes hub deltas)) hub.peers)
      ∙ map_length (without_slow (count_of_changes hub deltas)) hub.peers
      ∙ size;
}
  where
    none_clears : (draining : Bool) (k : ℕ)
        → slice_get (if draining then [] else changes_told hub.counts deltas) k ≡ Some Clear
        → ⊥
    none_clears true k at = none-some Clear at
    none_clears false k at = never_clear deltas hub.counts k at

    taken : AreTaken hub.counts deltas
    taken =
        are_taken deltas hub.counts
        (no_cause (are_refused hub.counts deltas) BadInterest
        (if nat_lt MAX_COUNTER (hub.changed + count_of_changes hub deltas) then Some Spent else None) cause).0

    interest_is : (draining : Bool)
        → view_of (if draining then [] else told_view (counts_told hub.counts deltas))
        ≡ law_after follow (map change_of (if draining then [] else changes_told hub.counts deltas))
        (length (map change_of (if draining then [] else changes_told hub.counts deltas)))
        (view_of (if draining then [] else told_view hub.counts))
    interest_is true = refl
    interest_is false =
        ap view_of (run deltas hub.counts within taken)
        ∙ sym (after_all (changes_told hub.counts deltas) (told_view hub.counts))

pub drains_in_law : DrainsInLaw
drains_in_law c server hub is size cause = record {
  announces = record {
    told = λ frame i.
        (let x = in_map (frame_of server) (drain_frames server hub) frame i in
        subst (IsTold server.me server.inc (hub_of hub) (map change_of clearing) (hub_of (after_drain server hub)))
        (sym x.2)
        (behind server is (hub_of hub) (hub_of (after_drain server hub)) clearing 1 last 0 hub.changed clearing
        (λ j. ap (slice_get clearing) (none_more j)) (omega arith) hub.peers x.0 x.1));
    after = λ i. record {
      published = hub.published;
      changed = hub.changed + 1;
      interest = [];
      peers =
          (frames_unseen server (drain_frames server hub) 0 (map (without_slow 1) hub.peers) ∙ slow_unseen 1 hub.peers)
          i;
    };
  };
  peers =
      frames_length server (drain_frames server hub) 0 (map (without_slow 1) hub.peers)
      ∙ map_length (without_slow 1) hub.peers
      ∙ size;
}
  where
    last : (k : ℕ)
        → slice_get clearing k ≡ Some Clear
        → (hub.changed + suc k ≡ hub.changed + 1) × ((hub_of (after_drain server hub)).interest ≡ [])
    last zero at = (omega arith, refl)
    last (suc k) at = absurd (none-some Clear at)
