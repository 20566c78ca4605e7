-- Entries that are kept as bytes one behind another.
use Rattle.std.proofs.Common.{◌≡◌, ℕ, zero, suc, ◌+◌, ◌-◌, ◌<◌, ◌≤◌, List, [], ◌∷◌, ◌++◌, length, take, drop, get_or, refl, sym, ap, ◌∙◌, arith, append_assoc, append-nil, length-append, length-drop, length-take-le}
use Rattle.std.proofs.lemmas.List.{drop-drop, drop-take, take-take, take-append-le, take-append-drop, take_more}
use Rattle.std.proofs.lemmas.List.Sums.{sum_by-append, sum_by-take-drop}
use Rattle.std.proofs.Math.Seq.{take-append_seam}
use Rattle.outbox.specs.Views.{Written, size_of, bytes_of_all}
use Rattle.outbox.specs.declared.entries.Tag.{Tag}
use Rattle.outbox.specs.declared.kept.Kept.{Kept}
use Rattle.outbox.specs.declared.kept.Kept.TheVariants.{Copied, Whole}
use Rattle.std.specs.Prelude.{filter}
use Rattle.outbox.specs.Kept.{copied_len, written_at, written_in, copied_of, is_whole}

pub length_seen : (ks : List Kept) (bytes : List ℕ) → length (written_in ks bytes) ≡ length ks
length_seen [] bytes = refl
length_seen (k ∷ ks) bytes = ap (λ n. suc n) (length_seen ks (drop (copied_len k) bytes))

-- what comes behind is not seen
seen_at_more : (k : Kept) (bytes more : List ℕ)
    → copied_len k ≤ length bytes
    → written_at k (bytes ++ more) ≡ written_at k bytes
seen_at_more (Copied tag len) bytes more fits =
    ap (λ l. record { tag = tag; bytes = l }) (take-append-le len bytes more fits)
seen_at_more (Whole entry) bytes more fits = refl

drop_more_behind : (n : ℕ) (bytes more : List ℕ) → n ≤ length bytes → drop n (bytes ++ more) ≡ drop n bytes ++ more
drop_more_behind zero bytes more fits = refl
drop_more_behind (suc n) [] more fits = absurd (omega arith)
drop_more_behind (suc n) (b ∷ bytes) more fits = drop_more_behind n bytes more (omega arith)

pub seen_more : (ks : List Kept) (bytes more : List ℕ)
    → copied_of ks ≤ length bytes
    → written_in ks (bytes ++ more) ≡ written_in ks bytes
seen_more [] bytes more fits = refl
seen_more (k ∷ ks) bytes more fits =
    let rest : copied_of ks ≤ length (drop (copied_len k) bytes) =
    let len = length-drop (copied_len k) bytes in omega arith in
    ap (λ e. e ∷ written_in ks (drop (copied_len k) (bytes ++ more))) (seen_at_more k bytes more (omega arith))
    ∙ ap (λ l. written_at k bytes ∷ written_in ks l) (drop_more_behind (copied_len k) bytes more (omega arith))
    ∙ ap (λ l. written_at k bytes ∷ l) (seen_more ks (drop (copied_len k) bytes) more rest)

pub seen_behind : (ks ls : List Kept) (bytes : List ℕ)
    → written_in (ks ++ ls) bytes ≡ written_in ks bytes ++ written_in ls (drop (copied_of ks) bytes)
seen_behind [] ls bytes = refl
seen_behind (k ∷ ks) ls bytes =
    ap (λ l. written_at k bytes ∷ l)
    (seen_behind ks ls (drop (copied_len k) bytes)
    ∙ ap (λ l. written_in ks (drop (copied_len k) bytes) ++ written_in ls l)
    (drop-drop (copied_of ks) (copied_len k) bytes))

pub copied_behind : (ks ls : List Kept) → copied_of (ks ++ ls) ≡ copied_of ks + copied_of ls
copied_behind [] ls = omega arith
copied_behind (k ∷ ks) ls = let below = copied_behind ks ls in omega arith

drop_all_of : (bytes more : List ℕ) → drop (length bytes) (bytes ++ more) ≡ more
drop_all_of [] more = refl
drop_all_of (b ∷ bytes) more = drop_all_of bytes more

take_all_of : (bytes : List ℕ) → take (length bytes) bytes ≡ bytes
take_all_of [] = refl
take_all_of (b ∷ bytes) = ap (λ l. b ∷ l) (take_all_of bytes)

-- one more, with its bytes behind the others'
pub seen_copied : (ks : List Kept) (bytes : List ℕ) (entry : Written) (len : ℕ)
    → copied_of ks ≡ length bytes
    → len ≡ length entry.bytes
    → written_in (ks ++ Copied entry.tag len ∷ []) (bytes ++ entry.bytes) ≡ written_in ks bytes ++ entry ∷ []
seen_copied ks bytes entry len all same =
    seen_behind ks (Copied entry.tag len ∷ []) (bytes ++ entry.bytes)
    ∙ ap (λ l. l ++ written_in (Copied entry.tag len ∷ []) (drop (copied_of ks) (bytes ++ entry.bytes)))
    (seen_more ks bytes entry.bytes (omega arith))
    ∙ ap (λ n. written_in ks bytes ++ written_in (Copied entry.tag len ∷ []) (drop n (bytes ++ entry.bytes))) all
    ∙ ap (λ (l : List ℕ). written_in ks bytes ++ record { tag = entry.tag; bytes = take len l } ∷ [])
    (drop_all_of bytes entry.bytes)
    ∙ ap (λ (l : List ℕ). written_in ks bytes ++ record { tag = entry.tag; bytes = l } ∷ [])
    (ap (λ n. take n entry.bytes) same ∙ take_all_of entry.bytes)

pub seen_whole : (ks : List Kept) (bytes : List ℕ) (entry : Written)
    → written_in (ks ++ Whole entry ∷ []) bytes ≡ written_in ks bytes ++ entry ∷ []
seen_whole ks bytes entry = seen_behind ks (Whole entry ∷ []) bytes

-- the entry at a place
pub seen_get : (ks : List Kept) (bytes : List ℕ) (i : ℕ) (k : Kept) (d : Written)
    → i < length ks
    → get_or (written_in ks bytes) i d ≡ written_at (get_or ks i k) (drop (copied_of (take i ks)) bytes)
seen_get [] bytes i k d lt = absurd (omega arith)
seen_get (j ∷ ks) bytes zero k d lt = refl
seen_get (j ∷ ks) bytes (suc i) k d lt =
    seen_get ks (drop (copied_len j) bytes) i k d (omega arith)
    ∙ ap (written_at (get_or ks i k)) (drop-drop (copied_of (take i ks)) (copied_len j) bytes)

-- the bytes of the first ones are among all
pub copied_within : (ks : List Kept) (i : ℕ) (k : Kept)
    → i < length ks
    → copied_of (take i ks) + copied_len (get_or ks i k) ≤ copied_of ks
copied_within [] i k lt = absurd (omega arith)
copied_within (j ∷ ks) zero k lt = omega arith
copied_within (j ∷ ks) (suc i) k lt = let below = copied_within ks i k (omega arith) in omega arith

pub copied_whole : (ks : List Kept) (entry : Written) → copied_of (ks ++ Whole entry ∷ []) ≡ copied_of ks
copied_whole ks entry = copied_behind ks (Whole entry ∷ []) ∙ omega arith

pub copied_copied : (ks : List Kept) (tag : Tag) (len : ℕ) → copied_of (ks ++ Copied tag len ∷ []) ≡ copied_of ks + len
copied_copied ks tag len = let both = copied_behind ks (Copied tag len ∷ []) in omega arith

-- one more that was copied is kept and seen, and the bytes are all copied ones
pub put_copied : (ks ls : List Kept) (bytes more : List ℕ) (entry : Written) (len : ℕ)
    → copied_of ks ≡ length bytes
    → ls ≡ ks ++ Copied entry.tag len ∷ []
    → more ≡ bytes ++ entry.bytes
    → len ≡ length entry.bytes
    → (copied_of ls ≡ length more) × (written_in ls more ≡ written_in ks bytes ++ entry ∷ [])
put_copied ks ls bytes more entry len all kept grown same =
    let copied = ap copied_of kept ∙ copied_copied ks entry.tag len in
    let size : length more ≡ length bytes + length entry.bytes = ap length grown ∙ length-append bytes entry.bytes in (
      ◌∙◌ {A = ℕ} copied (omega arith),
      ap (λ (l : List Kept). written_in l more) kept ∙ ap (written_in (ks ++ Copied entry.tag len ∷ [])) grown
          ∙ seen_copied ks bytes entry len all same,
    )

-- without the last one
pub seen_but_last : (ks : List Kept) (k : Kept) (bytes : List ℕ) (n : ℕ)
    → copied_of ks ≡ n
    → n ≤ length bytes
    → written_in ks (take n bytes)
    ≡ take (length (written_in (ks ++ k ∷ []) bytes) - 1) (written_in (ks ++ k ∷ []) bytes)
seen_but_last ks k bytes n all fits =
    let kept : length (take n bytes) ≡ n = length-take-le n bytes fits in
    let whole : written_in ks (take n bytes) ≡ written_in ks bytes =
    sym (seen_more ks (take n bytes) (drop n bytes) (omega arith)) ∙ ap (written_in ks) (take-append-drop n bytes) in
    let last = seen_behind ks (k ∷ []) bytes in
    let rest = written_in (k ∷ []) (drop (copied_of ks) bytes) in
    let count : length (written_in (ks ++ k ∷ []) bytes) - 1 ≡ length (written_in ks bytes) =
    let len = ap length last ∙ length-append (written_in ks bytes) rest in omega arith in
    whole
    ∙ sym (ap (λ m. take m (written_in (ks ++ k ∷ []) bytes)) count ∙ ap (take (length (written_in ks bytes))) last
    ∙ take-append_seam (written_in ks bytes) rest)

-- without the first one
pub seen_but_first : (ks : List Kept) (bytes : List ℕ) (n : ℕ)
    → n ≡ copied_of (take 1 ks)
    → written_in (drop 1 ks) (drop n bytes) ≡ drop 1 (written_in ks bytes)
seen_but_first [] bytes n first = refl
seen_but_first (k ∷ ks) bytes n first = ap (λ m. written_in ks (drop m bytes)) (first ∙ omega arith)

pub copied_parts : (ks : List Kept) (n : ℕ) → copied_of (take n ks) + copied_of (drop n ks) ≡ copied_of ks
copied_parts ks n = sym (copied_behind (take n ks) (drop n ks)) ∙ ap copied_of (take-append-drop n ks)

-- ---- the first ones

pub size_of_more : (entries : List Written) (n : ℕ)
    → size_of (take n entries) + size_of (take 1 (drop n entries)) ≡ size_of (take (n + 1) entries)
size_of_more entries n =
    let first : size_of (take n (take (n + 1) entries)) ≡ size_of (take n entries) =
    ap size_of (take-take n (n + 1) entries (omega arith)) in
    let behind : size_of (drop n (take (n + 1) entries)) ≡ size_of (take 1 (drop n entries)) =
    ap size_of (drop-take n 1 entries) in
    let both = sum_by-take-drop (λ (entry : Written). length entry.bytes) (take (n + 1) entries) n in
    omega arith

pub bytes_behind : (es fs : List Written) → bytes_of_all (es ++ fs) ≡ bytes_of_all es ++ bytes_of_all fs
bytes_behind [] fs = refl
bytes_behind (e ∷ es) fs =
    ap (λ l. e.bytes ++ l) (bytes_behind es fs) ∙ sym (append_assoc e.bytes (bytes_of_all es) (bytes_of_all fs))

-- the first ones, and the one that comes next
pub take_next : (ks : List Kept) (bytes : List ℕ) (i at : ℕ) (k : Kept)
    → i < length ks
    → at ≡ copied_of (take i ks)
    → take (i + 1) (written_in ks bytes)
    ≡ take i (written_in ks bytes) ++ written_at (get_or ks i k) (drop at bytes) ∷ []
take_next ks bytes i at k lt here =
    let d = written_at k bytes in
    let within : i < length (written_in ks bytes) = let len = length_seen ks bytes in omega arith in
    take_more (written_in ks bytes) i d within
    ∙ ap (λ e. take i (written_in ks bytes) ++ e ∷ [])
    (seen_get ks bytes i k d lt ∙ ap (λ n. written_at (get_or ks i k) (drop n bytes)) (sym here))

pub bytes_next : (ks : List Kept) (bytes : List ℕ) (i at : ℕ) (k : Kept)
    → i < length ks
    → at ≡ copied_of (take i ks)
    → bytes_of_all (take (i + 1) (written_in ks bytes))
    ≡ bytes_of_all (take i (written_in ks bytes)) ++ (written_at (get_or ks i k) (drop at bytes)).bytes
bytes_next ks bytes i at k lt here =
    ap bytes_of_all (take_next ks bytes i at k lt here)
    ∙ bytes_behind (take i (written_in ks bytes)) (written_at (get_or ks i k) (drop at bytes) ∷ [])
    ∙ ap (λ l. bytes_of_all (take i (written_in ks bytes)) ++ l)
    (append-nil (written_at (get_or ks i k) (drop at bytes)).bytes)

pub copied_next : (ks : List Kept) (i : ℕ) (k : Kept)
    → i < length ks
    → copied_of (take (i + 1) ks) ≡ copied_of (take i ks) + copied_len (get_or ks i k)
copied_next ks i k lt =
    ap copied_of (take_more ks i k lt) ∙ copied_behind (take i ks) (get_or ks i k ∷ []) ∙ omega arith

pub get_same : (ks : List Kept) (i : ℕ) (k l : Kept) → i < length ks → get_or ks i k ≡ get_or ks i l
get_same [] i k l lt = absurd (omega arith)
get_same (j ∷ ks) zero k l lt = refl
get_same (j ∷ ks) (suc i) k l lt = get_same ks i k l (omega arith)

-- the bytes of the first ones, and those of the one that comes next
pub size_next : (ks : List Kept) (bytes : List ℕ) (i n : ℕ) (k : Kept)
    → i < length ks
    → copied_of ks ≤ length bytes
    → k ≡ get_or ks i k
    → ((text : List ℕ) → copied_len k ≤ length text → n ≡ length (written_at k text).bytes)
    → size_of (take (i + 1) (written_in ks bytes)) ≡ size_of (take i (written_in ks bytes)) + n
size_next ks bytes i n k lt fits is size =
    let at = copied_of (take i ks) in
    let one = written_at (get_or ks i k) (drop at bytes) in
    let here : copied_len k ≤ length (drop at bytes) =
    let within = copied_within ks i k lt in
    let same = ap copied_len is in
    let left = length-drop at bytes in
    omega (arith, within, same, fits, left) in
    let bytes_of_one : n ≡ length one.bytes =
    size (drop at bytes) here ∙ ap (λ j. length (written_at j (drop at bytes)).bytes) is in
    let next :
    size_of (take (i + 1) (written_in ks bytes)) ≡ size_of (take i (written_in ks bytes)) + size_of (one ∷ []) =
    ap size_of (take_next ks bytes i at k lt refl)
    ∙ sum_by-append (λ (entry : Written). length entry.bytes) (take i (written_in ks bytes)) (one ∷ []) in
    let alone : size_of (one ∷ []) ≡ length one.bytes = omega arith in
    omega (arith, bytes_of_one, next, alone)

-- where all entries were copied, the bytes are theirs alone
pub copied_alone : (ks : List Kept) (bytes : List ℕ)
    → filter is_whole ks ≡ []
    → copied_of ks ≡ length bytes
    → bytes_of_all (written_in ks bytes) ≡ bytes
copied_alone [] [] none all = refl
copied_alone [] (b ∷ bytes) none all = absurd (omega arith)
copied_alone (Copied tag len ∷ ks) bytes none all =
    let rest : copied_of ks ≡ length (drop len bytes) = let size = length-drop len bytes in omega arith in
    ap (λ l. take len bytes ++ l) (copied_alone ks (drop len bytes) none rest) ∙ take-append-drop len bytes
copied_alone (Whole entry ∷ ks) bytes none all = absurd (cc)
