-- What steps put, entry by entry.
use Rattle.std.proofs.Common.{◌≡◌, ℕ, ◌+◌, ◌<◌, List, ◌++◌, length, drop, get_or, sym, ap, ◌∙◌, append_assoc}
use Rattle.std.specs.List.{flat_map}
use Rattle.std.proofs.lemmas.List.{at_drop_more}
use Rattle.subj.specs.Servers.{ServerIdentity}
use Rattle.shard_core.specs.declared.calls.Placed.{Placed}
use Rattle.world_law.specs.Changes.{placement_of}
use Rattle.world_law.specs.Play.{placements_put}

pub entry_split : (server : ServerIdentity) (step : ℕ) (xs items : List Placed) (i : ℕ) (x : Placed)
    → xs ≡ items
    → i < length xs
    → x ≡ get_or xs i x
    → placements_put server step (drop i items)
    ≡ placement_of server step x.conn x.headers x.entry.bytes x.entry.tag
    ++ placements_put server step (drop (i + 1) items)
entry_split server step xs items i x same lt is =
    ap (λ l. placements_put server step (drop i l)) (sym same)
    ∙ at_drop_more (placements_put server step) xs i x lt
    ∙ ap (λ (y : Placed).
    placement_of server step y.conn y.headers y.entry.bytes y.entry.tag ++ placements_put server step (drop (i + 1) xs))
    (sym is)
    ∙ ap (λ l.
    placement_of server step x.conn x.headers x.entry.bytes x.entry.tag ++ placements_put server step (drop (i + 1) l))
    same

pub step_split : {A B : Type 0} (f : A → List B) (xs : List A) (i : ℕ) (x : A)
    → i < length xs
    → x ≡ get_or xs i x
    → flat_map f (drop i xs) ≡ f x ++ flat_map f (drop (i + 1) xs)
step_split f xs i x lt is = at_drop_more (flat_map f) xs i x lt ∙ ap (λ y. f y ++ flat_map f (drop (i + 1) xs)) (sym is)

-- what is listed, and what is left, is the whole
pub listed_on : {A : Type 0} (old new one left rest whole : List A)
    → new ≡ old ++ one
    → left ≡ one ++ rest
    → old ++ left ≡ whole
    → new ++ rest ≡ whole
listed_on old new one left rest whole more split so_far =
    ap (λ l. l ++ rest) more ∙ append_assoc old one rest ∙ ap (λ l. old ++ l) (sym split) ∙ so_far
