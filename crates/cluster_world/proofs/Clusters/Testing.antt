-- Whether a cluster is settled, and has room, told server by server.
use Rattle.std.proofs.Common.{◌≡◌, ℕ, suc, ◌+◌, ◌<◌, Bool, true, false, ◌&&◌, List, [], ◌∷◌, length, drop, map, get_or, Option, Some, None, refl, sym, ap, ◌∙◌, add-one}
use Rattle.std.specs.List.{list_all}
use Rattle.std.proofs.lemmas.List.{at_drop_more}
use Rattle.std.proofs.lemmas.Option.{slice_get-get_or}
use Rattle.subj.specs.Messages.{Content}
use Rattle.hub_core.specs.Settled.{has_few_names}
use Rattle.node_core.specs.Served.{Served}
use Rattle.node_law.specs.Settled.{is_node_settled, has_room_in}
use Rattle.world_law.specs.State.{Cluster, Running}
use Rattle.settled_law.specs.Tests.{are_peers_settled, are_settled, are_roomy}
use Rattle.cluster_world.specs.Value.{InPlace, running_in, running_of}

together : (a b d rest : Bool) → (a && (b && (d && rest))) ≡ ((a && (b && d)) && rest)
together true true d rest = refl
together true false d rest = refl
together false b d rest = refl

-- one server, and those behind it
module _ (nodes : List (Option Served)) (i : ℕ) (o : Option Served) (lt : i < length nodes) (is : o ≡ get_or nodes i o)
    (s : Served) (up : o ≡ Some s) (subject : List ℕ) (all : List (Option Running)) (here : Bool)
    (told : here
    ≡ (is_node_settled s.node
    && (are_peers_settled i (running_of s) 0 all && has_few_names s.server s.node.hub subject)))
    (c : Cluster) (places : InPlace c nodes) where
  settled_next : are_settled c subject all i (map running_in (drop i nodes))
      ≡ (here && are_settled c subject all (i + 1) (map running_in (drop (i + 1) nodes)))
  settled_next =
      let own = places i s (slice_get-get_or nodes i o lt ∙ ap Some (sym is ∙ up)) in
      at_drop_more (λ l. are_settled c subject all i (map running_in l)) nodes i o lt
      ∙ ap (λ x. are_settled c subject all i (running_in x ∷ map running_in (drop (i + 1) nodes))) (sym is ∙ up)
      ∙ ap (λ server.
      is_node_settled s.node
      && (are_peers_settled i (running_of s) 0 all
      && (has_few_names server s.node.hub subject
      && are_settled c subject all (suc i) (map running_in (drop (i + 1) nodes)))))
      (sym own)
      ∙ together (is_node_settled s.node) (are_peers_settled i (running_of s) 0 all)
      (has_few_names s.server s.node.hub subject)
      (are_settled c subject all (suc i) (map running_in (drop (i + 1) nodes)))
      ∙ (λ k. sym told k && are_settled c subject all (sym (add-one i) k) (map running_in (drop (i + 1) nodes)))

  -- it passes, and the rest decides
  pub settled_on : (whole : Bool)
      → here ≡ true
      → are_settled c subject all i (map running_in (drop i nodes)) ≡ whole
      → are_settled c subject all (i + 1) (map running_in (drop (i + 1) nodes)) ≡ whole
  settled_on whole passes so =
      sym (settled_next ∙ ap (λ b. b && are_settled c subject all (i + 1) (map running_in (drop (i + 1) nodes))) passes)
      ∙ so

  -- it does not
  pub settled_not : (whole : Bool)
      → here ≡ false
      → are_settled c subject all i (map running_in (drop i nodes)) ≡ whole
      → false ≡ whole
  settled_not whole fails so =
      sym (settled_next ∙ ap (λ b. b && are_settled c subject all (i + 1) (map running_in (drop (i + 1) nodes))) fails)
      ∙ so

-- ---- room, server by server

one_by_one : (message : Content) (x : Option Running) (xs : List (Option Running))
    → are_roomy message (x ∷ xs) ≡ (are_roomy message (x ∷ []) && are_roomy message xs)
one_by_one message None xs = refl
one_by_one message (Some a) xs = both (list_all (has_room_in message) a.node.lines) (are_roomy message xs)
  where
    both : (b r : Bool) → (b && r) ≡ ((b && true) && r)
    both true r = refl
    both false r = refl

module _ (message : Content) (nodes : List (Option Served)) (i : ℕ) (o : Option Served) (here whole : Bool)
    (lt : i < length nodes) (is : o ≡ get_or nodes i o) (told : here ≡ are_roomy message (running_in o ∷ []))
    (so : are_roomy message (map running_in (drop i nodes)) ≡ whole) where
  roomy_next : are_roomy message (map running_in (drop i nodes))
      ≡ (here && are_roomy message (map running_in (drop (i + 1) nodes)))
  roomy_next =
      at_drop_more (λ l. are_roomy message (map running_in l)) nodes i o lt
      ∙ ap (λ x. are_roomy message (running_in x ∷ map running_in (drop (i + 1) nodes))) (sym is)
      ∙ one_by_one message (running_in o) (map running_in (drop (i + 1) nodes))
      ∙ ap (λ b. b && are_roomy message (map running_in (drop (i + 1) nodes))) (sym told)

  pub roomy_on : here ≡ true → are_roomy message (map running_in (drop (i + 1) nodes)) ≡ whole
  roomy_on passes =
      sym (roomy_next ∙ ap (λ b. b && are_roomy message (map running_in (drop (i + 1) nodes))) passes) ∙ so

  pub roomy_not : here ≡ false → false ≡ whole
  roomy_not fails = sym (roomy_next ∙ ap (λ b. b && are_roomy message (map running_in (drop (i + 1) nodes))) fails) ∙ so
