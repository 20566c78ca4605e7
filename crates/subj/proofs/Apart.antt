-- Names that are all apart, and what a server is of them.
use Rattle.std.proofs.Common.{◌≡◌, ◌≢◌, ℕ, ◌<◌, ◌≤◌, ◌&&◌, ◌||◌, not, Bool, true, false, true≢false, List, [], ◌∷◌, length, All, None, refl, sym, ◌∙◌, arith}
use Rattle.std.proofs.lemmas.Slice.Eq.{bytes_eq-Decides}
use Rattle.std.proofs.lemmas.List.Kept.{AllPairs-cons}
use Rattle.std.proofs.lemmas.List.Elements.{All-nil, All-cons}
use Rattle.std.specs.List.{list_any}
use Rattle.std.specs.Str.{bytes_eq}
use Rattle.subj.specs.Names.{node_name_fault}
use Rattle.subj.specs.Servers.{ServerIdentity, IsServer, AreApart, are_apart}
use Rattle.subj.specs.declared.limits.TheConstants.{MAX_NODES, MAX_SHARDS}

none_like : (name : List ℕ) (names : List (List ℕ))
    → list_any (bytes_eq name) names ≡ false
    → All (λ other. name ≢ other) names
none_like name [] none = All-nil (λ other. name ≢ other)
none_like name (x ∷ xs) none = go (none_like name xs) (bytes_eq name x) refl none
  where
    go : (list_any (bytes_eq name) xs ≡ false → All (λ other. name ≢ other) xs)
        → (b : Bool)
        → bytes_eq name x ≡ b
        → (b || list_any (bytes_eq name) xs) ≡ false
        → All (λ other. name ≢ other) (x ∷ xs)
    go rest true e f = absurd (true≢false f)
    go rest false e f =
        All-cons (λ other. name ≢ other) x xs (λ same. true≢false (sym ((bytes_eq-Decides name x).1 same) ∙ e)) (rest f)

pub all_apart : (names : List (List ℕ)) → are_apart names ≡ true → AreApart names
all_apart [] apart = λ i j d low high. absurd (omega arith)
all_apart (name ∷ names) apart = go (all_apart names) (list_any (bytes_eq name) names) refl apart
  where
    go : (are_apart names ≡ true → AreApart names)
        → (b : Bool)
        → list_any (bytes_eq name) names ≡ b
        → (not b && are_apart names) ≡ true
        → AreApart (name ∷ names)
    go rest true e f = absurd (true≢false (sym f))
    go rest false e f = AllPairs-cons (λ a b. a ≢ b) name names (none_like name names e) (rest f)

-- names and numbers that were tested make a server
pub tested : (server : ServerIdentity)
    → are_apart server.names ≡ true
    → All (λ name. node_name_fault name ≡ None) server.names
    → length server.names ≤ MAX_NODES
    → server.me < length server.names
    → (1 ≤ server.shards) × (server.shards ≤ MAX_SHARDS)
    → IsServer server
tested server apart named few listed shards = record {
  known = record { apart = all_apart server.names apart; listed = listed };
  named = named;
  few = few;
  first_shard = shards.0;
  last_shard = shards.1;
}
