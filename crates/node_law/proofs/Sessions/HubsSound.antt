-- Over every run the hub is sound, and kept sessions are with other servers.
use Rattle.std.proofs.Common.{◌≡◌, ℕ, ◌+◌, ◌≤◌, Bool, true, false, cond, nat_eq, nat_lt, List, [], ◌∷◌, ◌++◌, Option, Some, None, Ok, refl, sym, ap, ◌∙◌, subst, inl, inr, ⊎_elim}
use Rattle.std.specs.Prelude.{filter, slice_get}
use Rattle.std.specs.Option.{option_map, option_and_then}
use Rattle.std.proofs.lemmas.Option.{none-some, same_Some}
use Rattle.list_laws.specs.Lists.{In, Each}
use Rattle.list_laws.proofs.Lists.{in_map, in_append}
use Rattle.list_laws.proofs.Changes.{in_filter}
use Rattle.subj.specs.Servers.{ServerIdentity, IsListed, place, is_peer}
use Rattle.claim_race.specs.Race.{RaceState}
use Rattle.hub_core.specs.State as hub
use Rattle.hub_core.specs.State.{IsSound, seen_of}
use Rattle.hub_core.specs.Events as of_hub
use Rattle.hub_core.specs.Publishing.{publish_refusal}
use Rattle.hub_core.specs.Receiving.{receive_refusal}
use Rattle.hub_core.specs.Telling.{slow_peers, after_collect, collect_refusal, drain_refusal, peers_too_slow}
use Rattle.hub_core.specs.Peers.{take_refusal}
use Rattle.hub_core.specs.Steps as hub_steps
use Rattle.hub_core.proofs.Steps.Rooms.{map_none}
use Rattle.route_session.specs.Best.{Offer}
use Rattle.route_session.specs.State as sessions
use Rattle.route_session.specs.State.{Session, session_at, peer_of_session}
use Rattle.route_session.specs.Steps.{info_offer, connect_offer, info_refusal, connect_refusal, is_not_of_peer, is_another, without_peer, without_peers, kept_at, after_completion, after_info}
use Rattle.node_law.specs.declared.faults.NodeFault.TheVariants.{Hub, Session as OfSession, NoShard}
use Rattle.node_law.specs.State.{ShardWithJobs, Node, finished_turns}
use Rattle.node_law.specs.Events.{OfConn, AtShard, Publish, Collect, Drain, Dial, Accept, CutSession, TakeFrames, NodeEvent, Own, Receive, OnInfo, OnConnect}
use Rattle.node_law.specs.Steps.{shard_line, deltas_at, collect_refusal_at, cut_if, seen_name, node_refusal, node_after}
use Rattle.node_law.specs.Runs.{Done, Ran}
use Rattle.node_law.specs.HubsSound.{IsSpelt, HubsStaySound}
use Rattle.node_law.proofs.Moves.HubEvents.{Greets, info_greets, connect_greets}
use Rattle.node_law.proofs.Sessions.Kept.{session_in}

-- ---- sessions

-- what is kept is with another server
abbrev OfOther : ServerIdentity → Option Offer → Type 0
OfOther server kept = (offer : Offer) → kept ≡ Some offer → is_peer server offer.peer ≡ true

abbrev OfOthers : ServerIdentity → List Session → Type 0
OfOthers server standing = Each (λ x. OfOther server x.kept) standing

filter_others : (server : ServerIdentity) (test : Session → Bool) (standing : List Session)
    → OfOthers server standing
    → OfOthers server (filter test standing)
filter_others server test standing h x i = h x (in_filter test standing x i).0

more_others : (server : ServerIdentity) (standing : List Session) (y : Session)
    → y.kept ≡ None
    → OfOthers server standing
    → OfOthers server (standing ++ y ∷ [])
more_others server standing y none h x i =
    ⊎_elim (h x) (λ (j : In x (y ∷ [])).
    ⊎_elim (λ (e : x ≡ y). λ offer f. absurd (none-some offer (sym none ∙ ap (λ (z : Session). z.kept) (sym e) ∙ f)))
    (λ (z : ⊥). absurd z) j)
    (in_append x standing (y ∷ []) i)

completed_others : (server : ServerIdentity) (k : ℕ) (offer : Offer) (s : sessions.State)
    → is_peer server offer.peer ≡ true
    → OfOthers server s.standing
    → OfOthers server (after_completion k offer s).standing
completed_others server k offer s other h x i =
    let m = in_map (kept_at k offer) (filter (is_not_of_peer offer.peer) s.standing) x i in
    λ o e.
    go m.0 (h m.0 (in_filter (is_not_of_peer offer.peer) s.standing m.0 m.1).0) (nat_eq m.0.number k) o
    (sym (ap (λ (z : Session). z.kept) m.2) ∙ e)
  where
    go : (y : Session)
        → OfOther server y.kept
        → (b : Bool) (o : Offer)
        → (cond b (record y { kept = Some offer }) y).kept ≡ Some o
        → is_peer server o.peer ≡ true
    go y was true o e = ap (λ (z : Offer). is_peer server z.peer) (sym (same_Some offer o e)) ∙ other
    go y was false o e = was o e

all_others : (server : ServerIdentity) (qs : List ℕ) (s : sessions.State)
    → OfOthers server s.standing
    → OfOthers server (without_peers qs s).standing
all_others server [] s h = h
all_others server (q ∷ qs) s h =
    all_others server qs (without_peer q s) (filter_others server (is_not_of_peer q) s.standing h)

-- the peer that is cut with a session
cut_other : (server : ServerIdentity) (k : ℕ) (standing : List Session)
    → OfOthers server standing
    → (q : ℕ)
    → peer_of_session k standing ≡ Some q
    → is_peer server q ≡ true
cut_other server k standing h q e = go (session_at k standing) refl e
  where
    by : (o : Option Offer) → OfOther server o → option_map (λ (x : Offer). x.peer) o ≡ Some q → is_peer server q ≡ true
    by None was f = absurd (none-some q f)
    by (Some offer) was f = ap (is_peer server) (sym (same_Some offer.peer q f)) ∙ was offer refl

    go : (o : Option Session)
        → session_at k standing ≡ o
        → option_map (λ (x : Offer). x.peer) (option_and_then (λ (x : Session). x.kept) o) ≡ Some q
        → is_peer server q ≡ true
    go None at f = absurd (none-some q f)
    go (Some x) at f = by x.kept (h x (session_in k standing x at).0) f

-- ---- each event

record Sound (server : ServerIdentity) (hub : hub.State) (s : sessions.State) : Type 0 where
  sound : IsSound server hub
  others : OfOthers server s.standing

abbrev SoundAt : ServerIdentity → Node → Type 0
SoundAt server a = Sound server a.hub a.sessions

module _ (law : hub_steps.StaysSound) (server : ServerIdentity) (listed : IsListed server) where
  done : (hub : hub.State) (event : of_hub.Event)
      → hub_steps.IsAsked server hub event
      → hub_steps.hub_refusal server hub event ≡ None
      → IsSound server hub
      → IsSound server (hub_steps.hub_after server hub event)
  done hub event asked cause sound =
      law.step server hub event (Ok (hub_steps.hub_answer server hub event)) (hub_steps.hub_after server hub event)
      listed sound (record { asked = asked; decided = (cause, (refl, refl)) })

  meets : (a : Node) (name : List ℕ) (inc : ℕ)
      → 1 ≤ inc
      → Greets server name inc (seen_name server a name)
      → IsSound server a.hub
      → IsSound server (hub_steps.hub_after server a.hub (of_hub.Up (place server name) inc))
  meets a name inc first greets sound =
      done a.hub (of_hub.Up (place server name) inc)
      (record {
        other = greets.peer;
        first = first;
        fresh =
            subst (λ n. n ≤ inc)
            (ap (λ b. seen_of (cond b (slice_get a.hub.peers (place server name)) None)) greets.peer) greets.fresh;
      })
      refl sound

  step_sound : (a : Node) (e : NodeEvent) (won : Bool) (race : RaceState)
      → IsSpelt e
      → node_refusal server a e ≡ None
      → SoundAt server a
      → SoundAt server (node_after server a e won race)
  step_sound a (Own (OfConn conn event)) won race spelt cause s = record { sound = s.sound; others = s.others }
  step_sound a (Own (AtShard shard work)) won race spelt cause s = record { sound = s.sound; others = s.others }
  step_sound a (Own (Publish p)) won race spelt cause s = record {
    sound =
        done a.hub (of_hub.Publish p (finished_turns a.lines)) tt
        (map_none Hub (publish_refusal server a.hub p (finished_turns a.lines)) cause) s.sound;
    others = s.others;
  }
  step_sound a (Own (Collect shard)) won race spelt cause s = record {
    sound = go (shard_line a shard) cause;
    others = all_others server (slow_peers a.hub (deltas_at (shard_line a shard))) a.sessions s.others;
  }
    where
      go : (o : Option ShardWithJobs)
          → collect_refusal_at a.hub o ≡ None
          → IsSound server (after_collect server a.hub (deltas_at o))
      go None f = absurd (none-some NoShard (sym f))
      go (Some line) f =
          done a.hub (of_hub.Collect shard line.shard.deltas) tt
          (map_none Hub (collect_refusal a.hub line.shard.deltas) f) s.sound
  step_sound a (Own Drain) won race spelt cause s = record {
    sound = done a.hub of_hub.Drain tt (map_none Hub (drain_refusal a.hub) cause) s.sound;
    others = all_others server (peers_too_slow a.hub) a.sessions s.others;
  }
  step_sound a (Own (Dial q)) won race spelt cause s = record {
    sound = s.sound;
    others =
        more_others server a.sessions.standing
        (record { number = a.sessions.numbers + 1; dialed = Some q; serial = a.sessions.dials + 1; kept = None }) refl
        s.others;
  }
  step_sound a (Own Accept) won race spelt cause s = record {
    sound = s.sound;
    others =
        more_others server a.sessions.standing
        (record { number = a.sessions.numbers + 1; dialed = None; serial = 0; kept = None }) refl s.others;
  }
  step_sound a (Own (CutSession session)) won race spelt cause s = record {
    sound = go (peer_of_session session a.sessions.standing) refl;
    others = filter_others server (is_another session) a.sessions.standing s.others;
  }
    where
      go : (q : Option ℕ) → peer_of_session session a.sessions.standing ≡ q → IsSound server (cut_if a.hub q)
      go None is = s.sound
      go (Some q) is =
          done a.hub (of_hub.Cut q) (cut_other server session a.sessions.standing s.others q is) refl s.sound
  step_sound a (Own (TakeFrames q count)) won race spelt cause s = record {
    sound = done a.hub (of_hub.TakeFrom q count) tt (map_none Hub (take_refusal server q) cause) s.sound;
    others = s.others;
  }
  step_sound a (Receive frame) won race spelt cause s = record {
    sound =
        done a.hub (of_hub.Receive frame (finished_turns a.lines)) tt
        (map_none Hub (receive_refusal server a.hub (finished_turns a.lines) frame) cause) s.sound;
    others = go (nat_lt (seen_name server a frame.from) frame.inc);
  }
    where
      go : (b : Bool) → OfOthers server (cond b (without_peer (place server frame.from) a.sessions) a.sessions).standing
      go true = filter_others server (is_not_of_peer (place server frame.from)) a.sessions.standing s.others
      go false = s.others
  step_sound a (OnInfo session info) won race spelt cause s =
      let allowed = map_none OfSession
      (info_refusal server a.sessions (session_at session a.sessions.standing) info
      (seen_name server a info.server_name))
      cause in
      let greets = info_greets server a.sessions (session_at session a.sessions.standing) info
      (seen_name server a info.server_name) allowed in
      record {
        sound = meets a info.server_name info.inc spelt greets s.sound;
        others = go greets.peer (session_at session a.sessions.standing);
      }
    where
      go : is_peer server (place server info.server_name) ≡ true
          → (o : Option Session)
          → OfOthers server (after_info server a.sessions info o).standing
      go other None = s.others
      go other (Some x) = completed_others server x.number (info_offer server x info) a.sessions other s.others
  step_sound a (OnConnect session connect) won race spelt cause s =
      let allowed = map_none OfSession
      (connect_refusal server a.sessions (session_at session a.sessions.standing) connect
      (seen_name server a connect.server_name))
      cause in
      let greets = connect_greets server a.sessions (session_at session a.sessions.standing) connect
      (seen_name server a connect.server_name) allowed in
      record {
        sound = meets a connect.server_name connect.inc spelt greets s.sound;
        others = completed_others server session (connect_offer server connect) a.sessions greets.peer s.others;
      }

  -- ---- runs

  run_hubs : (h : List Done) (a : Node) → Each (λ d. IsSpelt d.event) h → Ran server h a → SoundAt server a
  run_hubs [] a spelt is =
      subst (SoundAt server) (sym is) (record { sound = law.start server; others = λ x i. absurd i })
  run_hubs (d ∷ earlier) a spelt ran =
      subst (SoundAt server) (sym ran.0.after)
      (step_sound d.before d.event d.won d.race (spelt d (inl refl)) ran.0.cause
      (run_hubs earlier d.before (λ x i. spelt x (inr i)) ran.1))

pub hubs_stay_sound : hub_steps.StaysSound → HubsStaySound
hubs_stay_sound law server h a listed spelt ran =
    let s = run_hubs law server listed h a spelt ran in
    record {
      sound = s.sound;
      others = λ q inc k. ap (is_peer server) (sym k.peer) ∙ s.others k.session k.stands k.offer k.kept;
    }
