-- A run of messages: how many there are, how many bytes they have, and how it is kept.
use Rattle.std.specs.Prelude.{Bool, true, false, not, ◌&&◌, nat_le}
use Rattle.std.proofs.Common.{◌≡◌, ℕ, zero, suc, ◌+◌, ◌*◌, ◌-◌, ◌<◌, ◌≤◌, List, [], ◌∷◌, ◌++◌, length, map, take, drop, get_or, refl, sym, ap, ◌∙◌, arith, append_assoc, append-nil, length-append, length-drop, length-take-le}
use Rattle.std.proofs.Math.Nat.{mul-suc}
use Rattle.std.proofs.Math.Seq.{take-append_seam, drop-append_seam}
use Rattle.std.proofs.lemmas.Bool.Decides.{nat_tests}
use Rattle.std.proofs.lemmas.List.Sums.{sum_by-append, sum_by-cons}
use Rattle.std.proofs.lemmas.List.{drop-drop, drop-append-le, take-append-le, take_all}
use Rattle.subj.specs.declared.identities.PubId.{PubId}
use Rattle.subj.specs.declared.identities.SubId.{SubId}
use Rattle.outbox.specs.Kept.{copied_of, written_in, kept_run}
use Rattle.outbox.specs.Tails.{tails_in, marked, mark_of}
use Rattle.outbox.specs.Views.{Written, Backlog, Tail, size_of, tail_bytes, run_text, message_run, has_room_for_all, spelt_entry}
use Rattle.outbox.specs.declared.entries.Mode.TheVariants.{Plain}
use Rattle.outbox.specs.declared.kept.Kept.{Kept}
use Rattle.outbox.specs.declared.run_tails.TailMark.{TailMark}
use Rattle.outbox.proofs.Seen.{seen_more, seen_behind, copied_behind}

size_cons : (entry : Written) (entries : List Written)
    → size_of (entry ∷ entries) ≡ length entry.bytes + size_of entries
size_cons entry entries = sum_by-cons (λ (e : Written). length e.bytes) entry entries

tail_bytes_cons : (tail : Tail) (tails : List Tail) → tail_bytes (tail ∷ tails) ≡ length tail.bytes + tail_bytes tails
tail_bytes_cons tail tails = sum_by-cons (λ (t : Tail). length t.bytes) tail tails

pub marked_cons : (head_len : ℕ) (mark : TailMark) (marks : List TailMark)
    → marked head_len (mark ∷ marks) ≡ (head_len + mark.len) + marked head_len marks
marked_cons head_len mark marks = sum_by-cons (λ (m : TailMark). head_len + m.len) mark marks

-- ---- for those who put one

pub run_length : (sub : SubId) (head : List ℕ) (tails : List Tail)
    → length (message_run sub head tails) ≡ length tails
run_length sub head [] = refl
run_length sub head (tail ∷ tails) = ap (λ n. suc n) (run_length sub head tails)

pub run_size : (sub : SubId) (head : List ℕ) (tails : List Tail)
    → size_of (message_run sub head tails) ≡ length head * length tails + tail_bytes tails
run_size sub head [] = omega arith
run_size sub head (tail ∷ tails) =
    let below = run_size sub head tails in
    let first = length-append head tail.bytes in
    let heads = mul-suc (length head) (length tails) in
    let size = size_cons (spelt_entry tail.id sub Plain (head ++ tail.bytes)) (message_run sub head tails) in
    let bytes = tail_bytes_cons tail tails in
    let count : length head * length (tail ∷ tails) ≡ length head * suc (length tails) = refl in
    omega (arith, below, first, heads, size, bytes, count)

-- what room for all of them says
pub record IsRoomForAll (max_entries max_bytes : ℕ) (entries : List Written) (backlog : Backlog) : Type 0 where
  pub unshut : backlog.shut ≡ false
  pub few : length backlog.entries + length entries ≤ max_entries
  pub small : size_of backlog.entries + size_of entries ≤ max_bytes

tests_hold : (shut : Bool) (m n j k : ℕ) → (not shut && (nat_le m n && nat_le j k)) ≡ true
    → (shut ≡ false) × (m ≤ n) × (j ≤ k)
tests_hold true m n j k is = absurd (cc)
tests_hold false m n j k is = (refl, grind (arith, nat_tests), grind (arith, nat_tests))

pub room_for_all : (max_entries max_bytes : ℕ) (entries : List Written) (backlog : Backlog)
    → has_room_for_all max_entries max_bytes entries backlog ≡ true
    → IsRoomForAll max_entries max_bytes entries backlog
room_for_all max_entries max_bytes entries backlog is =
    let tests = tests_hold backlog.shut _ _ _ _ is in
    record { unshut = tests.0; few = tests.1; small = tests.2 }

-- ---- the text of a run

pub run_text_length : (sub : SubId) (head : List ℕ) (tails : List Tail)
    → length (run_text head tails) ≡ size_of (message_run sub head tails)
run_text_length sub head [] = refl
run_text_length sub head (tail ∷ tails) =
    let below = run_text_length sub head tails in
    let both : length (run_text head (tail ∷ tails)) ≡ length (head ++ tail.bytes) + length (run_text head tails) =
    length-append (head ++ tail.bytes) (run_text head tails) in
    let size = size_cons (spelt_entry tail.id sub Plain (head ++ tail.bytes)) (message_run sub head tails) in
    omega (arith, below, both, size)

-- one message more
pub text_more : (head : List ℕ) (tails : List Tail) (tail : Tail)
    → run_text head (tails ++ tail ∷ []) ≡ run_text head tails ++ (head ++ tail.bytes)
text_more head [] tail = append-nil (head ++ tail.bytes)
text_more head (first ∷ tails) tail =
    ap (λ (l : List ℕ). (head ++ first.bytes) ++ l) (text_more head tails tail)
    ∙ sym (append_assoc (head ++ first.bytes) (run_text head tails) (head ++ tail.bytes))

-- ---- how the tails are kept

-- one message more, with its bytes behind the others'
pub tails_more : (head : List ℕ) (marks : List TailMark) (text bytes : List ℕ) (id : PubId)
    → marked (length head) marks ≡ length text
    → tails_in (length head) (marks ++ record { id = id; len = length bytes } ∷ []) (text ++ (head ++ bytes))
    ≡ tails_in (length head) marks text ++ record { id = id; bytes = bytes } ∷ []
tails_more head [] [] bytes id all =
    ap (λ (l : List ℕ). record { id = id; bytes = take (length bytes) l } ∷ []) (drop-append_seam head bytes)
    ∙ ap (λ (l : List ℕ). record { id = id; bytes = l } ∷ []) (take_all (length bytes) bytes (omega arith))
tails_more head [] (b ∷ text) bytes id all = absurd (omega arith)
tails_more head (mark ∷ marks) text bytes id all =
    let both = marked_cons (length head) mark marks in
    let more = head ++ bytes in
    let size = length head + mark.len in
    let fits : size ≤ length text = omega (arith, both, all) in
    let head_fits : length head ≤ length text = omega (arith, fits) in
    let behind = length-drop (length head) text in
    let rest : marked (length head) marks ≡ length (drop size text) =
    let left = length-drop size text in omega (arith, both, left, all) in
    let last : List TailMark = record { id = id; len = length bytes } ∷ [] in
    ap (λ (l : List ℕ). record { id = mark.id; bytes = take mark.len l } ∷ tails_in (length head) (marks ++ last)
    (drop size (text ++ more)))
    (drop-append-le (length head) text more head_fits)
    ∙ ap (λ (l : List ℕ). record { id = mark.id; bytes = l } ∷ tails_in (length head) (marks ++ last)
    (drop size (text ++ more)))
    (take-append-le mark.len (drop (length head) text) more (omega (arith, fits, behind)))
    ∙ ap (λ (l : List ℕ). record { id = mark.id; bytes = take mark.len (drop (length head) text) }
    ∷ tails_in (length head) (marks ++ last) l)
    (drop-append-le size text more fits)
    ∙ ap (λ (l : List Tail). record { id = mark.id; bytes = take mark.len (drop (length head) text) } ∷ l)
    (tails_more head marks (drop size text) bytes id rest)

pub tails_length : (head_len : ℕ) (marks : List TailMark) (text : List ℕ)
    → length (tails_in head_len marks text) ≡ length marks
tails_length head_len [] text = refl
tails_length head_len (mark ∷ marks) text =
    ap (λ n. suc n) (tails_length head_len marks (drop (head_len + mark.len) text))

pub tails_marks : (head_len : ℕ) (marks : List TailMark) (text : List ℕ) → marked head_len marks ≡ length text
    → map mark_of (tails_in head_len marks text) ≡ marks
tails_marks head_len [] text all = refl
tails_marks head_len (mark ∷ marks) text all =
    let size = head_len + mark.len in
    let both = marked_cons head_len mark marks in
    let behind = length-drop head_len text in
    let rest : marked head_len marks ≡ length (drop size text) =
    let left = length-drop size text in omega (arith, both, left, all) in
    ap (λ (n : ℕ). record { id = mark.id; len = n } ∷ map mark_of (tails_in head_len marks (drop size text)))
    (length-take-le mark.len (drop head_len text) (omega (arith, both, all, behind)))
    ∙ ap (λ (l : List TailMark). mark ∷ l) (tails_marks head_len marks (drop size text) rest)

-- how many bytes the messages have with a head of so many
pub marked_size : (head_len : ℕ) (tails : List Tail)
    → marked head_len (map mark_of tails) ≡ head_len * length tails + tail_bytes tails
marked_size head_len [] = omega arith
marked_size head_len (tail ∷ tails) =
    let below = marked_size head_len tails in
    let heads = mul-suc head_len (length tails) in
    let both = marked_cons head_len (mark_of tail) (map mark_of tails) in
    let bytes = tail_bytes_cons tail tails in
    let count : head_len * length (tail ∷ tails) ≡ head_len * suc (length tails) = refl in
    omega (arith, below, heads, both, bytes, count)

-- how many bytes the text of a run has
pub text_size : (head text : List ℕ) (tails : List Tail) → text ≡ run_text head tails
    → length text ≡ length head * length tails + tail_bytes tails
text_size head text tails is =
    let no_one : SubId = record { shard = 0; serial = 0 } in
    ap length is ∙ run_text_length no_one head tails ∙ run_size no_one head tails

-- a message behind those that are kept is seen behind them
pub push_tail : (head text bytes more : List ℕ) (marks grown : List TailMark) (id : PubId)
    → marked (length head) marks ≡ length text
    → text ≡ run_text head (tails_in (length head) marks text)
    → grown ≡ marks ++ record { id = id; len = length bytes } ∷ []
    → more ≡ (text ++ head) ++ bytes
    → (marked (length head) grown ≡ length more)
    × (more ≡ run_text head (tails_in (length head) grown more))
    × (tails_in (length head) grown more ≡ tails_in (length head) marks text ++ record { id = id; bytes = bytes } ∷ [])
push_tail head text bytes more marks grown id all spelt grows puts =
    let head_len = length head in
    let mark : TailMark = record { id = id; len = length bytes } in
    let tail : Tail = record { id = id; bytes = bytes } in
    let tails = tails_in head_len marks text in
    let joined : more ≡ text ++ (head ++ bytes) = puts ∙ append_assoc text head bytes in
    let seen : tails_in head_len grown more ≡ tails ++ tail ∷ [] =
    ap (λ (ms : List TailMark). tails_in head_len ms more) grows
    ∙ ap (tails_in head_len (marks ++ mark ∷ [])) joined
    ∙ tails_more head marks text bytes id all in
    let count : marked head_len grown ≡ marked head_len marks + marked head_len (mark ∷ []) =
    ap (marked head_len) grows ∙ sum_by-append (λ (m : TailMark). head_len + m.len) marks (mark ∷ []) in
    let alone = marked_cons head_len mark [] in
    let none : marked head_len [] ≡ 0 = refl in
    let both : length more ≡ length text + length (head ++ bytes) =
    ap length joined ∙ length-append text (head ++ bytes) in
    let message = length-append head bytes in
    let size : mark.len ≡ length bytes = refl in (
      omega (arith, all, count, alone, none, both, message, size),
      joined ∙ ap (λ (l : List ℕ). l ++ (head ++ bytes)) spelt ∙ sym (text_more head tails tail)
          ∙ sym (ap (run_text head) seen),
      seen,
    )

-- the head and the next tail are put, and those behind it are left
pub run_step : (marks rest : List TailMark) (mark : TailMark) (replaced : ℕ) (head text out put : List ℕ)
    (before start end : ℕ)
    → marks ≡ mark ∷ rest → start ≡ before + replaced → end ≡ start + mark.len
    → put ≡ (out ++ head) ++ take (end - start) (drop start text)
    → put ++ run_text head (tails_in replaced rest (drop end text))
    ≡ out ++ run_text head (tails_in replaced marks (drop before text))
run_step marks rest mark replaced head text out put before start end is from upto puts =
    let tail = take mark.len (drop replaced (drop before text)) in
    let left = run_text head (tails_in replaced rest (drop end text)) in
    let len : end - start ≡ mark.len = omega (arith, upto) in
    let skipped : drop start text ≡ drop replaced (drop before text) =
    ap (λ n. drop n text) (omega (arith, from)) ∙ sym (drop-drop replaced before text) in
    let here : drop (replaced + mark.len) (drop before text) ≡ drop end text =
    drop-drop (replaced + mark.len) before text ∙ ap (λ n. drop n text) (omega (arith, from, upto)) in
    ap (λ l. l ++ left)
    (puts ∙ ap (λ n. (out ++ head) ++ take n (drop start text)) len
    ∙ ap (λ l. (out ++ head) ++ take mark.len l) skipped ∙ append_assoc out head tail)
    ∙ append_assoc out (head ++ tail) left
    ∙ ap (λ l. out ++ ((head ++ tail) ++ run_text head (tails_in replaced rest l))) (sym here)
    ∙ sym (ap (λ ms. out ++ run_text head (tails_in replaced ms (drop before text))) is)

-- ---- how the run is kept

copied_run : (sub : SubId) (head : List ℕ) (tails : List Tail)
    → copied_of (kept_run sub (length head) (map mark_of tails)) ≡ length (run_text head tails)
copied_run sub head [] = refl
copied_run sub head (tail ∷ tails) =
    let below = copied_run sub head tails in
    let both : length (run_text head (tail ∷ tails)) ≡ length (head ++ tail.bytes) + length (run_text head tails) =
    length-append (head ++ tail.bytes) (run_text head tails) in
    let first = length-append head tail.bytes in
    omega (arith, below, both, first)

-- the bytes of a run are within its size
pub copied_run_size : (sub : SubId) (head : List ℕ) (tails : List Tail)
    → copied_of (kept_run sub (length head) (map mark_of tails)) ≡ size_of (message_run sub head tails)
copied_run_size sub head tails = copied_run sub head tails ∙ run_text_length sub head tails

-- and those of each message too
pub one_of_run : (sub : SubId) (head_len : ℕ) (marks : List TailMark) (i : ℕ) (d : TailMark) → i < length marks
    → head_len + (get_or marks i d).len ≤ copied_of (kept_run sub head_len marks)
one_of_run sub head_len [] i d lt = absurd (omega arith)
one_of_run sub head_len (mark ∷ marks) zero d lt = omega arith
one_of_run sub head_len (mark ∷ marks) (suc i) d lt =
    let below = one_of_run sub head_len marks i d (omega arith) in
    omega (arith, below)

seen_run : (sub : SubId) (head : List ℕ) (tails : List Tail)
    → written_in (kept_run sub (length head) (map mark_of tails)) (run_text head tails) ≡ message_run sub head tails
seen_run sub head [] = refl
seen_run sub head (tail ∷ tails) =
    let first = head ++ tail.bytes in
    let left = run_text head tails in
    let others = kept_run sub (length head) (map mark_of tails) in
    let len : length head + length tail.bytes ≡ length first = sym (length-append head tail.bytes) in
    ap (λ n. spelt_entry tail.id sub Plain (take n (first ++ left)) ∷ written_in others (drop n (first ++ left))) len
    ∙ ap (λ l. spelt_entry tail.id sub Plain l ∷ written_in others (drop (length first) (first ++ left)))
    (take-append_seam first left)
    ∙ ap (λ l. spelt_entry tail.id sub Plain first ∷ written_in others l) (drop-append_seam first left)
    ∙ ap (λ l. spelt_entry tail.id sub Plain first ∷ l) (seen_run sub head tails)

-- a run behind what is kept is seen behind it, and the bytes are all copied ones
pub put_run : (ks ls : List Kept) (bytes more head : List ℕ) (tails : List Tail) (sub : SubId)
    → copied_of ks ≡ length bytes
    → ls ≡ ks ++ kept_run sub (length head) (map mark_of tails)
    → more ≡ bytes ++ run_text head tails
    → (copied_of ls ≡ length more) × (written_in ls more ≡ written_in ks bytes ++ message_run sub head tails)
put_run ks ls bytes more head tails sub all kept grown =
    let run = kept_run sub (length head) (map mark_of tails) in
    let text = run_text head tails in
    let fits : copied_of ks ≤ length bytes = omega (arith, all) in
    let copied : copied_of ls ≡ copied_of ks + copied_of run = ap copied_of kept ∙ copied_behind ks run in
    let size : length more ≡ length bytes + length text = ap length grown ∙ length-append bytes text in
    let own = copied_run sub head tails in (
      omega (arith, copied, size, own, all),
      ap (λ l. written_in l more) kept
          ∙ ap (written_in (ks ++ run)) grown
          ∙ seen_behind ks run (bytes ++ text)
          ∙ ap (λ l. l ++ written_in run (drop (copied_of ks) (bytes ++ text))) (seen_more ks bytes text fits)
          ∙ ap (λ n. written_in ks bytes ++ written_in run (drop n (bytes ++ text))) all
          ∙ ap (λ l. written_in ks bytes ++ written_in run l) (drop-append_seam bytes text)
          ∙ ap (λ l. written_in ks bytes ++ l) (seen_run sub head tails),
    )
