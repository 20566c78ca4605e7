-- Texts of lines.
use Rattle.std.proofs.Common.{◌≡◌, ℕ, suc, ◌+◌, List, [], ◌∷◌, ◌++◌, length, map, drop, get_or, ◌<◌, refl, ap, sym, ◌∙◌, append_assoc, append-nil, arith}
use Rattle.std.specs.Prelude.{codes, decimal}
use Rattle.std.specs.List.{flat_map}
use Rattle.std.proofs.lemmas.List.{at_drop_more}
use Rattle.list_laws.proofs.Changes.{map_append}
use Rattle.subj.specs.Servers.{ServerIdentity}
use Rattle.shard_core.specs.declared.calls.Placed.{Placed}
use Rattle.world_law.specs.Changes.{placement_of}
use Rattle.world_law.specs.Play.{placements_put}
use Rattle.world_law.specs.State.{Cluster, Life, Placement, World}
use Rattle.world_law.specs.Written.{outcome_text, placement_line, last_lines}
use Rattle.mesh_script.specs.Lines.{lines_text, end_line}
use Rattle.mesh_script.specs.Placing.{cluster_named, placements_text}
use Rattle.mesh_script.specs.Told.{Said, Came, Line, count_came, said_lines, script_lines}

pub lines_behind : (first more : List (List ℕ)) → lines_text (first ++ more) ≡ lines_text first ++ lines_text more
lines_behind [] more = refl
lines_behind (line ∷ lines) more =
    ap (λ l. (line ++ codes "\n") ++ l) (lines_behind lines more)
    ∙ sym (append_assoc (line ++ codes "\n") (lines_text lines) (lines_text more))

pub said_behind : (before : ℕ) (first more : List Said)
    → said_lines before (first ++ more) ≡ said_lines before first ++ said_lines (before + count_came first) more
said_behind before [] more = ap (λ n. said_lines n more) (omega arith)
said_behind before (Came outcome ∷ first) more =
    let e : suc before + count_came first ≡ before + suc (count_came first) = omega arith in
    let rest = said_behind (suc before) first more ∙ ap (λ n. said_lines (suc before) first ++ said_lines n more) e in
    ap (λ l. (decimal (suc before) ++ (codes " " ++ outcome_text outcome)) ∷ l) rest
said_behind before (Line text ∷ first) more = ap (λ l. text ∷ l) (said_behind before first more)

pub came_behind : (first more : List Said) → count_came (first ++ more) ≡ count_came first + count_came more
came_behind [] more = omega arith
came_behind (Came outcome ∷ first) more = let e = came_behind first more in omega arith
came_behind (Line text ∷ first) more = came_behind first more

pub placements_behind : (c : Cluster) (lives : List Life) (first more : List Placement)
    → placements_text c lives (first ++ more) ≡ placements_text c lives first ++ placements_text c lives more
placements_behind c lives first more =
    ap lines_text (map_append (placement_line c lives) first more)
    ∙ lines_behind (map (placement_line c lives) first) (map (placement_line c lives) more)

pub counted_behind : {A : Type 0} (first more : List A) → length (first ++ more) ≡ length first + length more
counted_behind [] more = omega arith
counted_behind (x ∷ first) more = let e = counted_behind first more in omega arith

-- ---- lists that are gone over

pub put_dropped : (server : ServerIdentity) (now : ℕ) (xs items : List Placed) (i : ℕ) (x : Placed)
    → xs ≡ items
    → i < length xs
    → x ≡ get_or xs i x
    → placements_put server now (drop i items)
    ≡ placement_of server now x.conn x.headers x.entry.bytes x.entry.tag
    ++ placements_put server now (drop (i + 1) items)
put_dropped server now xs items i x same lt is =
    ap (λ l. placements_put server now (drop i l)) (sym same)
    ∙ at_drop_more (placements_put server now) xs i x lt
    ∙ ap (λ (y : Placed).
    placement_of server now y.conn y.headers y.entry.bytes y.entry.tag ++ placements_put server now (drop (i + 1) xs))
    (sym is)
    ∙ ap (λ l.
    placement_of server now x.conn x.headers x.entry.bytes x.entry.tag ++ placements_put server now (drop (i + 1) l))
    same

pub flat_dropped : {A B : Type 0} (f : A → List B) (xs : List A) (i : ℕ) (x : A)
    → i < length xs
    → x ≡ get_or xs i x
    → flat_map f (drop i xs) ≡ f x ++ flat_map f (drop (i + 1) xs)
flat_dropped f xs i x lt is =
    at_drop_more (flat_map f) xs i x lt ∙ ap (λ y. f y ++ flat_map f (drop (i + 1) xs)) (sym is)

pub text_split : (c : Cluster) (lives : List Life) (all first more : List Placement)
    → all ≡ first ++ more
    → placements_text c lives all ≡ placements_text c lives first ++ placements_text c lives more
text_split c lives all first more e = ap (placements_text c lives) e ∙ placements_behind c lives first more

pub count_split : {A : Type 0} (all first more : List A) → all ≡ first ++ more → length all ≡ length first + length more
count_split all first more e = ap length e ∙ counted_behind first more

-- ---- a whole text

pub last_text : (names : List (List ℕ)) (w : World) (lives : List Life) (placements : List Placement) (number count : ℕ)
    → lives ≡ w.lives
    → placements ≡ w.placements
    → number ≡ w.step
    → count ≡ length placements
    → placements_text (cluster_named names) lives placements ++ (end_line number count ++ codes "\n")
    ≡ lines_text (last_lines (cluster_named names) w)
last_text names w lives placements number count same_lives same_placements same_number same_count =
    ap (λ n. placements_text (cluster_named names) lives placements ++ (end_line number n ++ codes "\n"))
    (same_count ∙ ap length same_placements)
    ∙ ap
    (λ n. placements_text (cluster_named names) lives placements ++ (end_line n (length w.placements) ++ codes "\n"))
    same_number
    ∙ ap
    (λ l. placements_text (cluster_named names) l placements ++ (end_line w.step (length w.placements) ++ codes "\n"))
    same_lives
    ∙ ap (λ l. placements_text (cluster_named names) w.lives l ++ (end_line w.step (length w.placements) ++ codes "\n"))
    same_placements
    ∙ ap (λ l. placements_text (cluster_named names) w.lives w.placements ++ l)
    (sym (append-nil (end_line w.step (length w.placements) ++ codes "\n")))
    ∙ sym (lines_behind (map (placement_line (cluster_named names) w.lives) w.placements)
    (end_line w.step (length w.placements) ∷ []))

-- what was told so far, and all behind it
pub run_front : (c : Cluster) (first more : List Said) (w : World)
    → lines_text (said_lines 0 first)
    ++ (lines_text (said_lines (0 + count_came first) more) ++ lines_text (last_lines c w))
    ≡ lines_text (script_lines c (first ++ more) w)
run_front c first more w =
    sym (append_assoc (lines_text (said_lines 0 first)) (lines_text (said_lines (0 + count_came first) more))
    (lines_text (last_lines c w)))
    ∙ ap (λ l. l ++ lines_text (last_lines c w))
    (sym (lines_behind (said_lines 0 first) (said_lines (0 + count_came first) more))
    ∙ ap lines_text (sym (said_behind 0 first more)))
    ∙ sym (lines_behind (said_lines 0 (first ++ more)) (last_lines c w))
