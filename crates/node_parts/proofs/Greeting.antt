-- The peer of a name, and whoever greets.
use Rattle.std.proofs.Common.{◌≡◌, ℕ, ◌≤◌, Bool, true, false, not, ◌&&◌, nat_eq, nat_lt, cond, List, length, Option, Some, None, refl, sym, ap, ◌∙◌, subst, arith}
use Rattle.std.specs.Prelude.{position, slice_get}
use Rattle.std.specs.Str.{bytes_eq}
use Rattle.std.specs.Bool.{then_some}
use Rattle.std.proofs.lemmas.Bool.Decides.{nat_tests}
use Rattle.std.proofs.lemmas.Option.{none-some, same_Some}
use Rattle.subj.specs.Servers.{ServerIdentity, place, is_peer}
use Rattle.hub_core.specs.State as hub
use Rattle.hub_core.specs.State.{seen_of, peer_of}
use Rattle.hub_core.specs.Steps.{IsMeeting}
use Rattle.hub_core.specs.Hubs as hubs
use Rattle.hub_core.specs.Hubs.{Hub}
use Rattle.hub_core.specs.Events as of_hub
use Rattle.route_values.specs.Records.{Info, Connect}
use Rattle.route_session.specs.Calls as calls
use Rattle.route_session.specs.Events as of_session
use Rattle.route_session.specs.State.{session_at}
use Rattle.node_law.proofs.Moves.HubEvents.{Greets, info_greets, connect_greets}

-- ---- the peer of a name

past : (a b : ℕ) → cond (nat_lt a b) (Some a) None ≡ None → nat_lt a b ≡ false
past a b e = grind (arith, nat_tests)

within : (a b i : ℕ) → cond (nat_lt a b) (Some a) None ≡ Some i → a ≡ i
within a b i e = grind (arith, nat_tests)

pub nobody : (server : ServerIdentity) (name : List ℕ)
    → position (λ other. bytes_eq other name) server.names ≡ None
    → calls.peer_of server name ≡ None
nobody server name e =
    go (nat_lt (place server name) (length server.names)) (past (place server name) (length server.names) e)
    (not (nat_eq (place server name) server.me))
  where
    go : (b : Bool) → b ≡ false → (a : Bool) → cond (a && b) (Some (place server name)) None ≡ None
    go b e true = ap (λ t. cond t (Some (place server name)) None) e
    go b e false = refl

pub at_place : (server : ServerIdentity) (name : List ℕ) (q : ℕ)
    → position (λ other. bytes_eq other name) server.names ≡ Some q
    → then_some (is_peer server q) q ≡ calls.peer_of server name
at_place server name q e =
    go (is_peer server q)
    ∙ ap (λ p. cond (is_peer server p) (Some p) None) (sym (within (place server name) (length server.names) q e))
  where
    go : (b : Bool) → then_some b q ≡ cond b (Some q) None
    go true = refl
    go false = refl

pub record IsPeerOf (server : ServerIdentity) (name : List ℕ) (q : ℕ) : Type 0 where
  pub same : place server name ≡ q
  pub peer : is_peer server q ≡ true

pub peer_is : (server : ServerIdentity) (name : List ℕ) (q : ℕ)
    → Some q ≡ calls.peer_of server name
    → IsPeerOf server name q
peer_is server name q e = go (is_peer server (place server name)) refl (sym e)
  where
    go : (b : Bool)
        → is_peer server (place server name) ≡ b
        → cond b (Some (place server name)) None ≡ Some q
        → IsPeerOf server name q
    go true f e =
        let same = same_Some (place server name) q e in
        record { same = same; peer = ap (is_peer server) (sym same) ∙ f }
    go false f e = absurd (none-some q e)

pub peer_there : (server : ServerIdentity) (name : List ℕ) (q : ℕ)
    → Some q ≡ calls.peer_of server name
    → is_peer server q ≡ true
peer_there server name q e = (peer_is server name q e).peer

-- so of a name and a server that are these
pub same_name : (server given : ServerIdentity) (name asked : List ℕ) (o result : Option ℕ)
    → result ≡ o
    → result ≡ calls.peer_of given asked
    → given ≡ server
    → asked ≡ name
    → o ≡ calls.peer_of server name
same_name server given name asked o result is answers s n = sym is ∙ answers ∙ (λ k. calls.peer_of (s k) (n k))

pub same_seen : (server : ServerIdentity) (hub : hub.State) (name asked : List ℕ) (least : ℕ)
    → least ≡ seen_of (peer_of server hub asked)
    → asked ≡ name
    → least ≡ seen_of (peer_of server hub name)
same_seen server hub name asked least answers n = answers ∙ ap (λ t. seen_of (peer_of server hub t)) n

pub same_up : (old new : Hub) (q given inc : ℕ)
    → new ≡ hubs.after old (of_hub.Up q given)
    → given ≡ inc
    → new ≡ hubs.after old (of_hub.Up q inc)
same_up old new q given inc up i = up ∙ ap (λ t. hubs.after old (of_hub.Up q t)) i

-- whoever greets is a peer
pub greets_peer : (server : ServerIdentity) (name : List ℕ) (inc least : ℕ)
    → Greets server name inc least
    → None ≡ calls.peer_of server name
    → ⊥
greets_peer server name inc least g e =
    none-some (place server name) (e ∙ ap (λ b. cond b (Some (place server name)) None) g.peer)

pub seen_there : (server : ServerIdentity) (hub : hub.State) (name : List ℕ) (q : ℕ)
    → Some q ≡ calls.peer_of server name
    → seen_of (slice_get hub.peers q) ≡ seen_of (peer_of server hub name)
seen_there server hub name q e =
    let p = peer_is server name q e in
    sym (ap (λ b. seen_of (cond b (slice_get hub.peers (place server name)) None)) (ap (is_peer server) p.same ∙ p.peer)
    ∙ ap (λ k. seen_of (slice_get hub.peers k)) p.same)

pub seen_nobody : (server : ServerIdentity) (hub : hub.State) (name : List ℕ)
    → None ≡ calls.peer_of server name
    → 0 ≡ seen_of (peer_of server hub name)
seen_nobody server hub name e = go (is_peer server (place server name)) e
  where
    go : (b : Bool)
        → None ≡ cond b (Some (place server name)) None
        → 0 ≡ seen_of (cond b (slice_get hub.peers (place server name)) None)
    go true f = absurd (none-some (place server name) f)
    go false f = refl

pub meets : (server : ServerIdentity) (hub : hub.State) (name : List ℕ) (inc q : ℕ)
    → Greets server name inc (seen_of (peer_of server hub name))
    → 1 ≤ inc
    → Some q ≡ calls.peer_of server name
    → IsMeeting server hub q inc
meets server hub name inc q g first e = record {
  other = (peer_is server name q e).peer;
  first = first;
  fresh = subst (λ k. k ≤ inc) (sym (seen_there server hub name q e)) g.fresh;
}

pub info_free : (s : calls.Served) (server : ServerIdentity) (hub : hub.State) (session least : ℕ) (info : Info)
    → s.server ≡ server
    → least ≡ seen_of (peer_of server hub info.server_name)
    → calls.refusal s (of_session.OnInfo session info least) ≡ None
    → Greets server info.server_name info.inc (seen_of (peer_of server hub info.server_name))
info_free s server hub session least info same least_is free =
    info_greets server s.state (session_at session s.state.standing) info
    (seen_of (peer_of server hub info.server_name))
    (sym (λ k.
    calls.refusal (record { server = same k; state = s.state }) (of_session.OnInfo session info (least_is k))) ∙ free)

pub connect_free : (s : calls.Served) (server : ServerIdentity) (hub : hub.State) (session least : ℕ)
    (connect : Connect)
    → s.server ≡ server
    → least ≡ seen_of (peer_of server hub connect.server_name)
    → calls.refusal s (of_session.OnConnect session connect least) ≡ None
    → Greets server connect.server_name connect.inc (seen_of (peer_of server hub connect.server_name))
connect_free s server hub session least connect same least_is free =
    connect_greets server s.state (session_at session s.state.standing) connect
    (seen_of (peer_of server hub connect.server_name))
    (sym (λ k.
    calls.refusal (record { server = same k; state = s.state }) (of_session.OnConnect session connect (least_is k)))
    ∙ free)
