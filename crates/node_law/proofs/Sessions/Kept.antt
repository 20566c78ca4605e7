-- Peers that are up, and the sessions that are kept with them, where one session or one peer is changed.
use Rattle.std.proofs.Common.{◌≡◌, ◌≢◌, ◌⊎◌, ℕ, ◌+◌, ◌<◌, ◌≤◌, Bool, true, false, true≢false, cond, not, nat_eq, nat_lt, List, [], ◌∷◌, ◌++◌, map, set, Option, Some, None, refl, sym, ap, ◌∙◌, subst, inl, inr, ⊎_elim, arith}
use Rattle.std.specs.Prelude.{filter, slice_get, is_some}
use Rattle.std.specs.Option.{option_map, option_and_then}
use Rattle.std.proofs.lemmas.Option.{none-some, same_Some}
use Rattle.list_laws.specs.Lists.{In, Each, Pairs}
use Rattle.list_laws.proofs.Lists.{read_set, in_map, in_append, in_left, pairs_append, pairs_weaker, pairs_map, pairs_cases}
use Rattle.list_laws.proofs.Tests.{eq_true, eq_false, true_eq, false_eq, lt_true, lt_false, not_true}
use Rattle.list_laws.proofs.Changes.{get_set_here, get_set_there, in_mapped, in_filter, filter_in, pairs_filter}
use Rattle.interest.specs.Heard.{nothing_heard}
use Rattle.hub_core.specs.State as hub
use Rattle.hub_core.specs.State.{Peer, peer_in_life, changed_in, changed_at}
use Rattle.route_session.specs.Best.{Offer}
use Rattle.route_session.specs.State as sessions
use Rattle.route_session.specs.State.{Session, session_at, is_of_peer, peer_of_session}
use Rattle.route_session.specs.Steps.{cut_refusal, is_not_of_peer, is_another, without_peer, kept_at, after_completion, after_cut}
use Rattle.route_session.specs.declared.faults.SessionFault.TheVariants.{UnknownSession}
use Rattle.node_law.specs.Steps.{cut_if}
use Rattle.node_law.specs.PeersKept.{KeptAt, IsGreatest}

-- numbers of their own, and no two are kept for one peer
abbrev pub Differ : Session → Session → Type 0
Differ x y = (x.number ≢ y.number) × ((q : ℕ) → is_of_peer q x.kept ≡ true → is_of_peer q y.kept ≡ true → ⊥)

pub record Apart (s : sessions.State) : Type 0 where
  pub differ : Pairs Differ s.standing
  pub below : Each (λ x. x.number ≤ s.numbers) s.standing

-- the peer at this place is up, and this incarnation is the one seen
pub record UpAt (peers : List Peer) (q inc : ℕ) : Type 0 where
  pub peer : Peer
  pub at : slice_get peers q ≡ Some peer
  pub up : peer.up ≡ true
  pub seen : peer.seen ≡ inc

pub record Ups (peers : List Peer) (standing : List Session) : Type 0 where
  pub has : (q : ℕ) (p : Peer) → slice_get peers q ≡ Some p → p.up ≡ true → KeptAt standing q p.seen
  pub is : (q inc : ℕ) → KeptAt standing q inc → UpAt peers q inc

abbrev pub AllGreatest : List Peer → List (ℕ × ℕ) → Type 0
AllGreatest peers seen = (q : ℕ) (p : Peer) → slice_get peers q ≡ Some p → IsGreatest q p.seen seen

pub record Kept (peers : List Peer) (s : sessions.State) (seen : List (ℕ × ℕ)) : Type 0 where
  pub ups : Ups peers s.standing
  pub apart : Apart s
  pub greatest : AllGreatest peers seen

-- ---- sessions

kept_is : (standing : List Session) (q inc : ℕ) (k : KeptAt standing q inc) → is_of_peer q k.session.kept ≡ true
kept_is standing q inc k = ap (is_of_peer q) k.kept ∙ true_eq k.offer.peer q k.peer

pub drop_back : (standing : List Session) (q r inc : ℕ)
    → KeptAt (filter (is_not_of_peer q) standing) r inc
    → KeptAt standing r inc × (r ≢ q)
drop_back standing q r inc k =
    let f = in_filter (is_not_of_peer q) standing k.session k.stands in (
      record { session = k.session; stands = f.0; offer = k.offer; kept = k.kept; peer = k.peer; inc_is = k.inc_is },
      λ e.
          true≢false (sym
          (ap (λ x. is_of_peer x k.session.kept) (sym e) ∙ kept_is (filter (is_not_of_peer q) standing) r inc k)
          ∙ not_true (is_of_peer q k.session.kept) f.1),
    )

pub drop_on : (standing : List Session) (q r inc : ℕ)
    → r ≢ q
    → KeptAt standing r inc
    → KeptAt (filter (is_not_of_peer q) standing) r inc
drop_on standing q r inc apart k = record {
  session = k.session;
  stands =
      filter_in (is_not_of_peer q) standing k.session k.stands
      (ap not (ap (is_of_peer q) k.kept ∙ false_eq k.offer.peer q (λ e. apart (sym k.peer ∙ e))));
  offer = k.offer;
  kept = k.kept;
  peer = k.peer;
  inc_is = k.inc_is;
}

pub filter_apart : (test : Session → Bool) (s : sessions.State)
    → Apart s
    → Apart (record s { standing = filter test s.standing })
filter_apart test s a = record {
  differ = pairs_filter Differ test s.standing a.differ;
  below = λ x i. a.below x (in_filter test s.standing x i).0;
}

same_session : (standing : List Session)
    → Pairs Differ standing
    → (x y : Session)
    → In x standing
    → In y standing
    → x.number ≡ y.number
    → x ≡ y
same_session standing p x y i j e =
    ⊎_elim (λ (h : x ≡ y). h)
    (λ (h : Differ x y ⊎ Differ y x).
    ⊎_elim (λ (g : Differ x y). absurd (g.0 e)) (λ (g : Differ y x). absurd (g.0 (sym e))) h)
    (pairs_cases Differ standing p x y i j)

same_kept : (standing : List Session)
    → Pairs Differ standing
    → (x y : Session)
    → In x standing
    → In y standing
    → (q : ℕ)
    → is_of_peer q x.kept ≡ true
    → is_of_peer q y.kept ≡ true
    → x ≡ y
same_kept standing p x y i j q e f =
    ⊎_elim (λ (h : x ≡ y). h)
    (λ (h : Differ x y ⊎ Differ y x).
    ⊎_elim (λ (g : Differ x y). absurd (g.1 q e f)) (λ (g : Differ y x). absurd (g.1 q f e)) h)
    (pairs_cases Differ standing p x y i j)

pub session_in : (k : ℕ) (standing : List Session) (x : Session)
    → session_at k standing ≡ Some x
    → In x standing × (x.number ≡ k)
session_in k [] x e = absurd (none-some x e)
session_in k (y ∷ ys) x e = go (session_in k ys x) (nat_eq y.number k) refl e
  where
    go : (session_at k ys ≡ Some x → In x ys × (x.number ≡ k))
        → (b : Bool)
        → nat_eq y.number k ≡ b
        → cond b (Some y) (session_at k ys) ≡ Some x
        → In x (y ∷ ys) × (x.number ≡ k)
    go later true f g =
        let s = same_Some y x g in (inl (sym s), ap (λ (z : Session). z.number) (sym s) ∙ eq_true y.number k f)
    go later false f g = let h = later g in (inr h.0, h.1)

-- one more that isn't kept
pub added : (peers : List Peer) (s : sessions.State) (dials : ℕ) (seen : List (ℕ × ℕ)) (y : Session)
    → y.number ≡ s.numbers + 1
    → y.kept ≡ None
    → Kept peers s seen
    → Kept peers (record { numbers = s.numbers + 1; dials = dials; standing = s.standing ++ y ∷ [] }) seen
added peers s dials seen y number none k = record {
  ups = record {
    has = λ q p at up.
        let h = k.ups.has q p at up in
        record {
          session = h.session;
          stands = in_left h.session s.standing (y ∷ []) h.stands;
          offer = h.offer;
          kept = h.kept;
          peer = h.peer;
          inc_is = h.inc_is;
        };
    is = λ q inc h.
        ⊎_elim (λ (i : In h.session s.standing).
        k.ups.is q inc (record {
          session = h.session;
          stands = i;
          offer = h.offer;
          kept = h.kept;
          peer = h.peer;
          inc_is = h.inc_is;
        }))
        (λ (i : In h.session (y ∷ [])).
        ⊎_elim
        (λ (e : h.session ≡ y). absurd (none-some h.offer (sym none ∙ ap (λ (z : Session). z.kept) (sym e) ∙ h.kept)))
        (λ (z : ⊥). absurd z) i)
        (in_append h.session s.standing (y ∷ []) h.stands);
  };
  apart = record {
    differ =
        pairs_append Differ s.standing (y ∷ []) k.apart.differ ((λ x i. absurd i), tt) (λ x z i j.
        ⊎_elim (λ (e : z ≡ y).
        subst (Differ x) (sym e) (
          (λ f. let b = k.apart.below x i in absurd (omega arith)),
          λ q g h. true≢false (sym h ∙ ap (is_of_peer q) none),
        ))
        (λ (w : ⊥). absurd w) j);
    below = λ x i.
        ⊎_elim (λ (j : In x s.standing). let b = k.apart.below x j in omega arith)
        (λ (j : In x (y ∷ [])).
        ⊎_elim (λ (e : x ≡ y). let f = ap (λ (z : Session). z.number) e in omega arith) (λ (z : ⊥). absurd z) j)
        (in_append x s.standing (y ∷ []) i);
  };
  greatest = k.greatest;
}

-- ---- peers that stay, but for what waits for them

pub record Stays (peers : List Peer) (q : ℕ) (o : Peer) : Type 0 where
  pub peer : Peer
  pub at : slice_get peers q ≡ Some peer
  pub up : peer.up ≡ o.up
  pub seen : peer.seen ≡ o.seen

pub record SameUps (old new : List Peer) : Type 0 where
  pub back : (q : ℕ) (p : Peer) → slice_get new q ≡ Some p → Stays old q p
  pub on : (q : ℕ) (o : Peer) → slice_get old q ≡ Some o → Stays new q o

same_greatest : (old new : List Peer) (seen : List (ℕ × ℕ))
    → SameUps old new
    → AllGreatest old seen
    → AllGreatest new seen
same_greatest old new seen same g q p at =
    let h = same.back q p at in subst (λ n. IsGreatest q n seen) h.seen (g q h.peer h.at)

same_ups : (old new : List Peer) (standing : List Session) → SameUps old new → Ups old standing → Ups new standing
same_ups old new standing same u = record {
  has = λ q p at up. let h = same.back q p at in subst (KeptAt standing q) h.seen (u.has q h.peer h.at (h.up ∙ up));
  is = λ q inc k.
      let h = u.is q inc k in
      let g = same.on q h.peer h.at in
      record { peer = g.peer; at = g.at; up = g.up ∙ h.up; seen = g.seen ∙ h.seen };
}

pub same_all : (old new : List Peer) (s : sessions.State) (seen : List (ℕ × ℕ))
    → SameUps old new
    → Kept old s seen
    → Kept new s seen
same_all old new s seen same k = record {
  ups = same_ups old new s.standing same k.ups;
  apart = k.apart;
  greatest = same_greatest old new seen same k.greatest;
}

set_same : (peers : List Peer) (q : ℕ) (p new : Peer)
    → slice_get peers q ≡ Some p
    → new.up ≡ p.up
    → new.seen ≡ p.seen
    → SameUps peers (set peers q new)
set_same peers q p new at up seen = record {
  back =
      read_set (λ r x. Stays peers r x) peers q new (λ r x apart e. record { peer = x; at = e; up = refl; seen = refl })
      (record { peer = p; at = at; up = sym up; seen = sym seen });
  on = λ r o e. go r o e (nat_eq r q) refl;
}
  where
    go : (r : ℕ) (o : Peer) → slice_get peers r ≡ Some o → (b : Bool) → nat_eq r q ≡ b → Stays (set peers q new) r o
    go r o e true f =
        let same = eq_true r q f in
        let s = same_Some p o (sym at ∙ ap (slice_get peers) (sym same) ∙ e) in
        record {
          peer = new;
          at = ap (slice_get (set peers q new)) same ∙ get_set_here peers q p new at;
          up = up ∙ ap (λ (y : Peer). y.up) s;
          seen = seen ∙ ap (λ (y : Peer). y.seen) s;
        }
    go r o e false f = record {
      peer = o;
      at = get_set_there peers q r new (eq_false r q f) ∙ e;
      up = refl;
      seen = refl;
    }

pub at_same : (peers : List Peer) (q : ℕ) (f : Peer → Peer)
    → ((p : Peer) → (f p).up ≡ p.up)
    → ((p : Peer) → (f p).seen ≡ p.seen)
    → SameUps peers (changed_at f q peers)
at_same peers q f up seen = go (slice_get peers q) refl
  where
    go : (o : Option Peer) → slice_get peers q ≡ o → SameUps peers (changed_in f q o peers)
    go None at = record {
      back = λ r p e. record { peer = p; at = e; up = refl; seen = refl };
      on = λ r p e. record { peer = p; at = e; up = refl; seen = refl };
    }
    go (Some p) at = set_same peers q p (f p) at (up p) (seen p)

-- ---- one peer changes

set_ups : (peers : List Peer) (q : ℕ) (p new : Peer) (old now : List Session)
    → slice_get peers q ≡ Some p
    → Ups peers old
    → ((r inc : ℕ) → r ≢ q → KeptAt now r inc → KeptAt old r inc)
    → ((r inc : ℕ) → r ≢ q → KeptAt old r inc → KeptAt now r inc)
    → (new.up ≡ true → KeptAt now q new.seen)
    → ((inc : ℕ) → KeptAt now q inc → (new.up ≡ true) × (new.seen ≡ inc))
    → Ups (set peers q new) now
set_ups peers q p new old now at u back on mine says = record {
  has =
      read_set (λ r x. x.up ≡ true → KeptAt now r x.seen) peers q new
      (λ r x apart e up. on r x.seen apart (u.has r x e up)) mine;
  is = λ r inc k. go r inc k (nat_eq r q) refl;
}
  where
    go : (r inc : ℕ) → KeptAt now r inc → (b : Bool) → nat_eq r q ≡ b → UpAt (set peers q new) r inc
    go r inc k true e =
        let same = eq_true r q e in
        let h = says inc (subst (λ m. KeptAt now m inc) same k) in
        record {
          peer = new;
          at = ap (slice_get (set peers q new)) same ∙ get_set_here peers q p new at;
          up = h.0;
          seen = h.1;
        }
    go r inc k false e =
        let apart = eq_false r q e in
        let h = u.is r inc (back r inc apart k) in
        record { peer = h.peer; at = get_set_there peers q r new apart ∙ h.at; up = h.up; seen = h.seen }

set_greatest : (peers : List Peer) (q inc : ℕ) (p new : Peer) (seen : List (ℕ × ℕ))
    → slice_get peers q ≡ Some p
    → p.seen ≤ inc
    → new.seen ≡ inc
    → AllGreatest peers seen
    → AllGreatest (set peers q new) ((q, inc) ∷ seen)
set_greatest peers q inc p new seen at le is g =
    read_set (λ r x. IsGreatest r x.seen ((q, inc) ∷ seen)) peers q new
    (λ r x apart e.
    let h = g r x e in
    record {
      all = λ y i f.
          ⊎_elim (λ (z : y ≡ (q, inc)). absurd (apart (sym f ∙ ap (λ (w : ℕ × ℕ). w.0) z)))
          (λ (j : In y seen). h.all y j f) i;
      one = ⊎_elim (λ (z : x.seen ≡ 0). inl z) (λ (j : In (r, x.seen) seen). inr (inr j)) h.one;
    })
    (let h = g q p at in
    record {
      all = λ y i f.
          ⊎_elim (λ (z : y ≡ (q, inc)). let w = ap (λ (v : ℕ × ℕ). v.1) z in omega arith)
          (λ (j : In y seen). let b = h.all y j f in omega arith) i;
      one = inr (inl (λ k. (q, is k)));
    })

set_seen : (peers : List Peer) (q : ℕ) (p new : Peer) (seen : List (ℕ × ℕ))
    → slice_get peers q ≡ Some p
    → new.seen ≡ p.seen
    → AllGreatest peers seen
    → AllGreatest (set peers q new) seen
set_seen peers q p new seen at same g =
    read_set (λ r x. IsGreatest r x.seen seen) peers q new (λ r x apart e. g r x e)
    (subst (λ n. IsGreatest q n seen) (sym same) (g q p at))

-- ---- a frame of an incarnation is looked at

-- of an incarnation not below the one seen the peer stays as it is, or begins anew
data Begun (p : Peer) (inc : ℕ) (after : Peer) : Type 0 where
  Same : p.seen ≡ inc → after ≡ p → Begun p inc after
  Anew : p.seen < inc → after.up ≡ false → after.seen ≡ inc → Begun p inc after

begun : (p : Peer) (inc : ℕ) → p.seen ≤ inc → Begun p inc (peer_in_life p inc)
begun p inc le = go (nat_lt p.seen inc) refl
  where
    go : (b : Bool)
        → nat_lt p.seen inc ≡ b
        → Begun p inc (cond b (record { seen = inc; mark = 0; heard = nothing_heard; up = false; outbox = p.outbox }) p)
    go true e = Anew (lt_true p.seen inc e) refl refl
    go false e = Same (let h = lt_false p.seen inc e in omega arith) refl

pub known_seen : (p : Peer) (inc : ℕ) → p.seen ≤ inc → (peer_in_life p inc).seen ≡ inc
known_seen p inc le = go (peer_in_life p inc) (begun p inc le)
  where
    go : (after : Peer) → Begun p inc after → after.seen ≡ inc
    go after (Same same is) = ap (λ (x : Peer). x.seen) is ∙ same
    go after (Anew less up seen) = seen

pub frame_kept : (peers : List Peer) (s : sessions.State) (seen : List (ℕ × ℕ)) (q inc : ℕ) (g : Peer → Peer) (p : Peer)
    → ((x : Peer) → (g x).up ≡ x.up)
    → ((x : Peer) → (g x).seen ≡ x.seen)
    → slice_get peers q ≡ Some p
    → p.seen ≤ inc
    → Kept peers s seen
    → Kept (changed_in (λ x. g (peer_in_life x inc)) q (Some p) peers) (cond (nat_lt p.seen inc) (without_peer q s) s)
    ((q, inc) ∷ seen)
frame_kept peers s seen q inc g p up_is seen_is at le k =
    go (peer_in_life p inc) (begun p inc le) (nat_lt p.seen inc) refl
  where
    go : (after : Peer)
        → Begun p inc after
        → (b : Bool)
        → nat_lt p.seen inc ≡ b
        → Kept (set peers q (g after)) (cond b (without_peer q s) s) ((q, inc) ∷ seen)
    go after (Same same is) true f = let y = lt_true p.seen inc f in absurd (omega arith)
    go after (Same same is) false f =
        let up = up_is after ∙ ap (λ (x : Peer). x.up) is in
        let stays = seen_is after ∙ ap (λ (x : Peer). x.seen) is in
        record {
          ups = same_ups peers (set peers q (g after)) s.standing (set_same peers q p (g after) at up stays) k.ups;
          apart = k.apart;
          greatest = set_greatest peers q inc p (g after) seen at le (stays ∙ same) k.greatest;
        }
    go after (Anew less up now) false f = let y = lt_false p.seen inc f in absurd (omega arith)
    go after (Anew less down now) true f = record {
      ups =
          set_ups peers q p (g after) s.standing (filter (is_not_of_peer q) s.standing) at k.ups
          (λ r i apart x. (drop_back s.standing q r i x).0) (λ r i apart x. drop_on s.standing q r i apart x)
          (λ up. absurd (true≢false (sym up ∙ up_is after ∙ down)))
          (λ i x. absurd ((drop_back s.standing q q i x).1 refl));
      apart = filter_apart (is_not_of_peer q) s k.apart;
      greatest = set_greatest peers q inc p (g after) seen at le (seen_is after ∙ now) k.greatest;
    }

-- ---- a session is completed

data KeptAfter (standing : List Session) (offer : Offer) (r inc : ℕ) : Type 0 where
  New : r ≡ offer.peer → inc ≡ offer.inc → KeptAfter standing offer r inc
  Old : KeptAt standing r inc → r ≢ offer.peer → KeptAfter standing offer r inc

complete_back : (standing : List Session) (k : ℕ) (offer : Offer) (r inc : ℕ)
    → KeptAt (map (kept_at k offer) (filter (is_not_of_peer offer.peer) standing)) r inc
    → KeptAfter standing offer r inc
complete_back standing k offer r inc h =
    let m = in_map (kept_at k offer) (filter (is_not_of_peer offer.peer) standing) h.session h.stands in
    go m.0 m.1 (sym (ap (λ (x : Session). x.kept) m.2) ∙ h.kept) (nat_eq m.0.number k) refl
  where
    go : (x : Session)
        → In x (filter (is_not_of_peer offer.peer) standing)
        → (kept_at k offer x).kept ≡ Some h.offer
        → (b : Bool)
        → nat_eq x.number k ≡ b
        → KeptAfter standing offer r inc
    go x i kept true e =
        let s = same_Some offer h.offer (sym (ap (λ b. (cond b (record x { kept = Some offer }) x).kept) e) ∙ kept) in
        New (sym h.peer ∙ ap (λ (o : Offer). o.peer) (sym s)) (sym h.inc_is ∙ ap (λ (o : Offer). o.inc) (sym s))
    go x i kept false e =
        let d = drop_back standing offer.peer r inc (record {
          session = x;
          stands = i;
          offer = h.offer;
          kept = sym (ap (λ b. (cond b (record x { kept = Some offer }) x).kept) e) ∙ kept;
          peer = h.peer;
          inc_is = h.inc_is;
        }) in
        Old d.0 d.1

kept_number : (k : ℕ) (offer : Offer) (x : Session) → (kept_at k offer x).number ≡ x.number
kept_number k offer x = go (nat_eq x.number k)
  where
    go : (b : Bool) → (cond b (record x { kept = Some offer }) x).number ≡ x.number
    go true = refl
    go false = refl

-- a session that isn't completed is kept for nobody
of_nobody : (o : Option Offer) → is_some o ≡ false → (q : ℕ) → is_of_peer q o ≡ false
of_nobody None e q = refl
of_nobody (Some o) e q = absurd (true≢false e)

module _ (standing : List Session) (apart : Pairs Differ standing) (k : ℕ) (offer : Offer) (x : Session)
    (x_in : In x standing) (x_is : x.number ≡ k) (new : is_some x.kept ≡ false) where
  abbrev left : List Session
  left = filter (is_not_of_peer offer.peer) standing

  abbrev now : List Session
  now = map (kept_at k offer) (filter (is_not_of_peer offer.peer) standing)

  mine : KeptAt now offer.peer offer.inc
  mine = record {
    session = kept_at k offer x;
    stands =
        in_mapped (kept_at k offer) left x
        (filter_in (is_not_of_peer offer.peer) standing x x_in (ap not (of_nobody x.kept new offer.peer)));
    offer = offer;
    kept = ap (λ b. (cond b (record x { kept = Some offer }) x).kept) (true_eq x.number k x_is);
    peer = refl;
    inc_is = refl;
  }

  on : (r i : ℕ) → KeptAt left r i → KeptAt now r i
  on r i h =
      let stays : nat_eq h.session.number k ≡ false = false_eq h.session.number k (λ e.
      let same = same_session standing apart h.session x
      (in_filter (is_not_of_peer offer.peer) standing h.session h.stands).0 x_in (e ∙ sym x_is) in
      true≢false (sym (ap is_some h.kept) ∙ ap (λ (z : Session). is_some z.kept) same ∙ new)) in
      record {
        session = kept_at k offer h.session;
        stands = in_mapped (kept_at k offer) left h.session h.stands;
        offer = h.offer;
        kept = ap (λ b. (cond b (record h.session { kept = Some offer }) h.session).kept) stays ∙ h.kept;
        peer = h.peer;
        inc_is = h.inc_is;
      }

  out : (w : Session) → In w left → (q : ℕ) → is_of_peer q (Some offer) ≡ true → is_of_peer q w.kept ≡ true → ⊥
  out w l q e f =
      true≢false (sym (ap (λ m. is_of_peer m w.kept) (eq_true offer.peer q e) ∙ f)
      ∙ not_true (is_of_peer offer.peer w.kept) (in_filter (is_not_of_peer offer.peer) standing w l).1)

  differs : (y z : Session) → In y left → In z left → Differ y z → Differ (kept_at k offer y) (kept_at k offer z)
  differs y z i j d = (
    (λ e. d.0 (sym (kept_number k offer y) ∙ e ∙ kept_number k offer z)),
    λ q e f. go q (nat_eq y.number k) (nat_eq z.number k) refl refl e f,
  )
    where
      go : (q : ℕ) (a b : Bool)
          → nat_eq y.number k ≡ a
          → nat_eq z.number k ≡ b
          → is_of_peer q (cond a (record y { kept = Some offer }) y).kept ≡ true
          → is_of_peer q (cond b (record z { kept = Some offer }) z).kept ≡ true
          → ⊥
      go q true true m n e f = d.0 (eq_true y.number k m ∙ sym (eq_true z.number k n))
      go q true false m n e f = out z j q e f
      go q false true m n e f = out y i q f e
      go q false false m n e f = d.1 q e f

  all_differ : Pairs Differ now
  all_differ =
      pairs_map Differ (kept_at k offer) left
      (pairs_weaker Differ (λ y z. Differ (kept_at k offer y) (kept_at k offer z)) left differs
      (pairs_filter Differ (is_not_of_peer offer.peer) standing apart))

pub complete_kept : (peers : List Peer) (s : sessions.State) (seen : List (ℕ × ℕ)) (k : ℕ) (offer : Offer) (x : Session)
    (g : Peer → Peer) (p : Peer)
    → session_at k s.standing ≡ Some x
    → is_some x.kept ≡ false
    → slice_get peers offer.peer ≡ Some p
    → p.seen ≤ offer.inc
    → ((y : Peer) → (g y).up ≡ true)
    → ((y : Peer) → (g y).seen ≡ y.seen)
    → Kept peers s seen
    → Kept (changed_in (λ y. g (peer_in_life y offer.inc)) offer.peer (Some p) peers) (after_completion k offer s)
    ((offer.peer, offer.inc) ∷ seen)
complete_kept peers s seen k offer x g p found new at le up_is seen_is kept = record {
  ups =
      set_ups peers offer.peer p (g (peer_in_life p offer.inc)) s.standing
      (now s.standing kept.apart.differ k offer x x_in.0 x_in.1 new) at kept.ups
      (λ r i apart h. old r i apart (complete_back s.standing k offer r i h))
      (λ r i apart h.
      on s.standing kept.apart.differ k offer x x_in.0 x_in.1 new r i (drop_on s.standing offer.peer r i apart h))
      (λ up.
      subst (KeptAt (now s.standing kept.apart.differ k offer x x_in.0 x_in.1 new) offer.peer) (sym seen_now)
      (mine s.standing kept.apart.differ k offer x x_in.0 x_in.1 new))
      (λ i h. (up_is (peer_in_life p offer.inc), seen_now ∙ own i (complete_back s.standing k offer offer.peer i h)));
  apart = record {
    differ = all_differ s.standing kept.apart.differ k offer x x_in.0 x_in.1 new;
    below = λ y i.
        let m = in_map (kept_at k offer) (filter (is_not_of_peer offer.peer) s.standing) y i in
        let b = kept.apart.below m.0 (in_filter (is_not_of_peer offer.peer) s.standing m.0 m.1).0 in
        let e = ap (λ (z : Session). z.number) m.2 ∙ kept_number k offer m.0 in
        omega arith;
  };
  greatest = set_greatest peers offer.peer offer.inc p (g (peer_in_life p offer.inc)) seen at le seen_now kept.greatest;
}
  where
    x_in : In x s.standing × (x.number ≡ k)
    x_in = session_in k s.standing x found

    seen_now : (g (peer_in_life p offer.inc)).seen ≡ offer.inc
    seen_now = seen_is (peer_in_life p offer.inc) ∙ known_seen p offer.inc le

    old : (r i : ℕ) → r ≢ offer.peer → KeptAfter s.standing offer r i → KeptAt s.standing r i
    old r i apart (New e f) = absurd (apart e)
    old r i apart (Old h f) = h

    own : (i : ℕ) → KeptAfter s.standing offer offer.peer i → offer.inc ≡ i
    own i (New e f) = sym f
    own i (Old h f) = absurd (f refl)

-- ---- a session is cut

record EndedFrom (standing : List Session) (k r inc : ℕ) : Type 0 where
  kept : KeptAt standing r inc
  other : kept.session.number ≢ k

end_back : (standing : List Session) (k r inc : ℕ)
    → KeptAt (filter (is_another k) standing) r inc
    → EndedFrom standing k r inc
end_back standing k r inc h =
    let f = in_filter (is_another k) standing h.session h.stands in
    record {
      kept = record {
        session = h.session;
        stands = f.0;
        offer = h.offer;
        kept = h.kept;
        peer = h.peer;
        inc_is = h.inc_is;
      };
      other = eq_false h.session.number k (not_true (nat_eq h.session.number k) f.1);
    }

end_on : (standing : List Session) (k r inc : ℕ) (h : KeptAt standing r inc)
    → h.session.number ≢ k
    → KeptAt (filter (is_another k) standing) r inc
end_on standing k r inc h apart = record {
  session = h.session;
  stands = filter_in (is_another k) standing h.session h.stands (ap not (false_eq h.session.number k apart));
  offer = h.offer;
  kept = h.kept;
  peer = h.peer;
  inc_is = h.inc_is;
}

pub cut_kept : (hub : hub.State) (s : sessions.State) (seen : List (ℕ × ℕ)) (k : ℕ)
    → cut_refusal (session_at k s.standing) ≡ None
    → Kept hub.peers s seen
    → Kept (cut_if hub (peer_of_session k s.standing)).peers (after_cut k s) seen
cut_kept hub s seen k cause kept = find (session_at k s.standing) refl cause
  where
    apart : Apart (after_cut k s)
    apart = filter_apart (is_another k) s kept.apart

    found : (x : Session)
        → session_at k s.standing ≡ Some x
        → (offer : Option Offer)
        → x.kept ≡ offer
        → Kept (cut_if hub (option_map (λ (o : Offer). o.peer) offer)).peers (after_cut k s) seen
    found x at offer kept_is_offer = go offer kept_is_offer
      where
        x_in : In x s.standing × (x.number ≡ k)
        x_in = session_in k s.standing x at

        is_x : (r inc : ℕ) (h : KeptAt s.standing r inc) → h.session.number ≡ k → h.session ≡ x
        is_x r inc h e = same_session s.standing kept.apart.differ h.session x h.stands x_in.0 (e ∙ sym x_in.1)

        go : (offer : Option Offer)
            → x.kept ≡ offer
            → Kept (cut_if hub (option_map (λ (o : Offer). o.peer) offer)).peers (after_cut k s) seen
        go None none = record {
          ups = record {
            has = λ q p at up.
                let h = kept.ups.has q p at up in
                end_on s.standing k q p.seen h
                (λ e. none-some h.offer (sym none ∙ ap (λ (z : Session). z.kept) (sym (is_x q p.seen h e)) ∙ h.kept));
            is = λ q inc h. kept.ups.is q inc (end_back s.standing k q inc h).kept;
          };
          apart = apart;
          greatest = kept.greatest;
        }
        go (Some offer) some =
            let here : KeptAt s.standing offer.peer offer.inc = record {
              session = x;
              stands = x_in.0;
              offer = offer;
              kept = some;
              peer = refl;
              inc_is = refl;
            } in
            let p = kept.ups.is offer.peer offer.inc here in
            subst
            (λ t. Kept (changed_in (λ (y : Peer). record y { up = false }) offer.peer t hub.peers) (after_cut k s) seen)
            (sym p.at) (record {
              ups =
                  set_ups hub.peers offer.peer p.peer (record p.peer { up = false }) s.standing
                  (filter (is_another k) s.standing) p.at kept.ups (λ r i far h. (end_back s.standing k r i h).kept)
                  (λ r i far h.
                  end_on s.standing k r i h (λ e.
                  far (sym h.peer
                  ∙ ap (λ (z : Offer). z.peer)
                  (same_Some h.offer offer (sym h.kept ∙ ap (λ (z : Session). z.kept) (is_x r i h e) ∙ some)))))
                  (λ up. absurd (true≢false (sym up))) (λ i h.
                  let b = end_back s.standing k offer.peer i h in
                  absurd (b.other (ap (λ (z : Session). z.number)
                  (same_kept s.standing kept.apart.differ b.kept.session x b.kept.stands x_in.0 offer.peer
                  (kept_is s.standing offer.peer i b.kept)
                  (ap (is_of_peer offer.peer) some ∙ true_eq offer.peer offer.peer refl)) ∙ x_in.1)));
              apart = apart;
              greatest =
                  set_seen hub.peers offer.peer p.peer (record p.peer { up = false }) seen p.at refl kept.greatest;
            })

    find : (o : Option Session)
        → session_at k s.standing ≡ o
        → cut_refusal o ≡ None
        → Kept (cut_if hub (peer_of_session k s.standing)).peers (after_cut k s) seen
    find None at f = absurd (none-some UnknownSession (sym f))
    find (Some x) at f =
        subst (λ o.
        Kept (cut_if hub (option_map (λ (o : Offer). o.peer) (option_and_then (λ (z : Session). z.kept) o))).peers
        (after_cut k s) seen)
        (sym at) (found x at x.kept refl)
