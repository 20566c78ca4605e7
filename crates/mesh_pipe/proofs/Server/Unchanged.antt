-- A collect where nothing was opened or closed, and a take where nothing waits, change nothing.
use Rattle.std.proofs.Common.{◌≡◌, ℕ, Bool, true, false, cond, List, [], ◌∷◌, ◌++◌, length, Some, sym, ap, ◌∙◌, refl, arith, append-nil}
use Rattle.std.specs.Prelude.{◌==◌, drop, take}
use Rattle.std.proofs.Math.Seq.{drop-nil, take-nil}
use Rattle.std.proofs.lemmas.Bool.{eqb-true}
use Rattle.outbox.specs.Views.{Written, bytes_of_all, without_first}
use Rattle.shard_core.specs.ShardEvents as of_shard
use Rattle.shard_core.specs.Shards.{Client, client_at, clients_with_change, entries_of, has_number, waits_for, with_outbox}
use Rattle.node_core.specs.Served.{Served}
use Rattle.mesh_pipe.specs.PipeServing.{shard_in, all_entries, waiting_bytes, IsServing, Steps}

pub collects_nothing : (s : Served) → IsServing s → (shard_in s).deltas ≡ [] → Steps s of_shard.Collect s
collects_nothing s serving none = record {
  serving = serving;
  shard = λ k. record (shard_in s) { deltas = none k };
  waiting = refl;
}

-- ---- nothing waits

none_left : {A : Type 0} (xs : List A) → (length xs == 0) ≡ true → xs ≡ []
none_left [] e = refl
none_left (x ∷ xs) e = absurd (let none = eqb-true (length (x ∷ xs)) 0 e in omega (arith, none))

same_clients : (count : ℕ) (clients : List Client)
    → waits_for 1 clients ≡ []
    → clients_with_change (without_first count) 1 clients ≡ clients
same_clients count [] none = refl
same_clients count (c ∷ cs) none = go (same_clients count cs) (has_number 1 c) none
  where
    go : (waits_for 1 cs ≡ [] → clients_with_change (without_first count) 1 cs ≡ cs)
        → (b : Bool)
        → entries_of (cond b (Some c) (client_at 1 cs)) ≡ []
        → cond b (with_outbox (without_first count) c ∷ cs) (c ∷ clients_with_change (without_first count) 1 cs)
        ≡ c ∷ cs
    go rest true e =
        let same : drop count c.outbox.entries ≡ c.outbox.entries = ap (drop count) e ∙ drop-nil count ∙ sym e in
        λ k. (record c { outbox = record c.outbox { entries = same k } }) ∷ cs
    go rest false e = ap (λ t. c ∷ t) (rest e)

pub takes_nothing : (s : Served)
    → IsServing s
    → (length (waits_for 1 (shard_in s).clients) == 0) ≡ true
    → Steps s (of_shard.Take 1 all_entries) s
takes_nothing s serving none = record {
  serving = serving;
  shard = λ k. record (shard_in s) {
    clients = sym (same_clients all_entries (shard_in s).clients (none_left (waits_for 1 (shard_in s).clients) none)) k;
  };
  waiting = refl;
}

pub no_text : (s : Served) (text : List ℕ)
    → (length (waits_for 1 (shard_in s).clients) == 0) ≡ true
    → text ≡ text ++ waiting_bytes (shard_in s)
no_text s text none =
    let empty : waiting_bytes (shard_in s) ≡ [] =
    ap (λ (ws : List Written). bytes_of_all (take all_entries ws)) (none_left (waits_for 1 (shard_in s).clients) none)
    ∙ ap bytes_of_all (take-nil {A = Written} all_entries) in
    sym (ap (λ t. text ++ t) empty ∙ append-nil text)
