-- What is owed of one entry more, and of one tape more.
use Rattle.std.proofs.Common.{◌≡◌, ℕ, zero, suc, ◌+◌, ◌<◌, List, [], ◌∷◌, ◌++◌, length, map, take, get_or, refl, sym, ap, ◌∙◌, arith, append_assoc, append-nil}
use Rattle.node_threads.specs.declared.shard_entries.ShardEntry.{ShardEntry}
use Rattle.thread_node.specs.declared.hub_entries.HubEntry.{HubEntry}
use Rattle.node_parts.specs.Sides.{HubWithSessions}
use Rattle.shard_core.specs.Shards.{State, new_shard}
use Rattle.thread_report.specs.HubAnswers as of_hub
use Rattle.thread_report.specs.ShardAnswers.{state_after, state_behind}
use Rattle.thread_report.specs.Owed.{call_of_hub, owed_by_hub, owed_by_shard, owed_by_shards, owed_one}

pub owed_by_hub_more : (from n i : ℕ) (s : HubWithSessions) (xs : List HubEntry) (d : HubEntry)
    → i < length xs
    → n ≡ from + i
    → owed_by_hub from s (take (suc i) xs)
    ≡ owed_by_hub from s (take i xs) ++ call_of_hub n (of_hub.state_after s (take i xs)) (get_or xs i d) ∷ []
owed_by_hub_more from n i s [] d lt is = absurd (omega arith)
owed_by_hub_more from n zero s (x ∷ xs) d lt is =
    let e : n ≡ from = omega arith in ap (λ k. call_of_hub k s x ∷ []) (sym e)
owed_by_hub_more from n (suc i) s (x ∷ xs) d lt is =
    ap (λ l. call_of_hub from s x ∷ l)
    (owed_by_hub_more (suc from) n i (of_hub.state_behind s x) xs d (omega arith) (omega arith))

pub owed_by_shard_more : (shard from n i : ℕ) (s : State) (xs : List ShardEntry) (d : ShardEntry)
    → i < length xs
    → n ≡ from + i
    → owed_by_shard shard from s (take (suc i) xs)
    ≡ owed_by_shard shard from s (take i xs) ++ owed_one shard n (state_after s (take i xs)) (get_or xs i d)
owed_by_shard_more shard from n i s [] d lt is = absurd (omega arith)
owed_by_shard_more shard from n zero s (x ∷ xs) d lt is =
    let e : n ≡ from = omega arith in append-nil (owed_one shard from s x) ∙ ap (λ k. owed_one shard k s x) (sym e)
owed_by_shard_more shard from n (suc i) s (x ∷ xs) d lt is =
    let t = state_behind s x in
    ap (λ l. owed_one shard from s x ++ l) (owed_by_shard_more shard (suc from) n i t xs d (omega arith) (omega arith))
    ∙ sym (append_assoc (owed_one shard from s x) (owed_by_shard shard (suc from) t (take i xs))
    (owed_one shard n (state_after t (take i xs)) (get_or xs i d)))

module _ {A : Type 0} (f : A → List ShardEntry) where
  pub owed_by_shards_more : (shards from n i : ℕ) (xs : List A) (d : A)
      → i < length xs
      → n ≡ from + i
      → owed_by_shards shards from (map f (take (suc i) xs))
      ≡ owed_by_shards shards from (map f (take i xs)) ++ owed_by_shard n 0 (new_shard n shards) (f (get_or xs i d))
  owed_by_shards_more shards from n i [] d lt is = absurd (omega arith)
  owed_by_shards_more shards from n zero (x ∷ xs) d lt is =
      let e : n ≡ from = omega arith in
      append-nil (owed_by_shard from 0 (new_shard from shards) (f x))
      ∙ ap (λ k. owed_by_shard k 0 (new_shard k shards) (f x)) (sym e)
  owed_by_shards_more shards from n (suc i) (x ∷ xs) d lt is =
      let first = owed_by_shard from 0 (new_shard from shards) (f x) in
      ap (λ l. first ++ l) (owed_by_shards_more shards (suc from) n i xs d (omega arith) (omega arith))
      ∙ sym (append_assoc first (owed_by_shards shards (suc from) (map f (take i xs)))
      (owed_by_shard n 0 (new_shard n shards) (f (get_or xs i d))))

-- the first of a list, one more
pub take_map_more : {A B : Type 0} (f : A → B) (xs : List A) (n : ℕ) (d : A)
    → n < length xs
    → take (suc n) (map f xs) ≡ take n (map f xs) ++ f (get_or xs n d) ∷ []
take_map_more f [] n d lt = absurd (omega arith)
take_map_more f (x ∷ xs) zero d lt = refl
take_map_more f (x ∷ xs) (suc n) d lt = ap (λ l. f x ∷ l) (take_map_more f xs n d (omega arith))
