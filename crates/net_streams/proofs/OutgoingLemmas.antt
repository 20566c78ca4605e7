-- What is left of bytes of which a stream took a front.
use Rattle.std.proofs.Common.{◌≡◌, ℕ, ◌-◌, ◌≤◌, Bool, true, false, List, [], ◌++◌, length, take, drop, sym, ap, ◌∙◌, subst, append_assoc, take-append-drop, arith}
use Rattle.std.proofs.lemmas.List.{drop_at, drop_all, length-append, length-drop, take_rest}
use Rattle.net_streams.specs.Writes.{Came, HasWritten}

-- what is left is the end of the bytes
rest_is_behind : {S : Type 0} (wrote : S → Came → S → Type 0) (bytes : List ℕ) (was : Bool) (before : S) (rest : List ℕ)
    (failed : Bool) (after : S)
    → HasWritten wrote bytes was before rest failed after
    → (taken : List ℕ) × (taken ++ rest ≡ bytes)
rest_is_behind wrote bytes true before rest failed after has = (has.0, ap (λ xs. xs ++ rest) has.1.0 ∙ has.1.1)
rest_is_behind wrote bytes false before rest failed after has = (has.0, has.1.split)

behind : (items taken rest : List ℕ) (start : ℕ)
    → start ≤ length items
    → taken ++ rest ≡ drop start items
    → drop (length items - length rest) items ≡ rest
behind items taken rest start within split =
    let whole : (take start items ++ taken) ++ rest ≡ items = append_assoc (take start items) taken rest
    ∙ ap (λ xs. take start items ++ xs) split ∙ take-append-drop start items in
    ap (drop (length items - length rest)) (sym whole)
    ∙ drop_at (take start items ++ taken) rest (length items - length rest)
    (omega (arith, ap length whole, length-append (take start items ++ taken) rest))

-- so much of the items is unwritten behind a run of writes
pub unwritten : {S : Type 0} (wrote : S → Came → S → Type 0) (items bytes : List ℕ) (start len : ℕ) (was : Bool)
    (before : S) (rest : List ℕ) (failed : Bool) (after : S)
    → len ≡ length items
    → start ≤ length items
    → drop start items ≡ bytes
    → HasWritten wrote (take (length items - start) (drop start items)) was before rest failed after
    → HasWritten wrote bytes was before (drop (len - length rest) items) failed after
unwritten wrote items bytes start len was before rest failed after size within is has =
    let same : take (length items - start) (drop start items) ≡ bytes = take_rest items start ∙ is in
    let split = rest_is_behind wrote _ was before rest failed after has in
    let left : drop (len - length rest) items ≡ rest = ap (λ n. drop (n - length rest) items) size
    ∙ behind items split.0 rest start within (split.1 ∙ take_rest items start) in
    rw left (subst (λ xs. HasWritten wrote xs was before rest failed after) same has)

-- nothing is unwritten just where all is written
pub none_left : (items bytes : List ℕ) (start : ℕ) → drop start items ≡ bytes → length items ≤ start → bytes ≡ []
none_left items bytes start is past = sym is ∙ drop_all start items past

pub all_past : (items bytes : List ℕ) (start : ℕ) → drop start items ≡ bytes → bytes ≡ [] → length items ≤ start
all_past items bytes start is none = omega (arith, length-drop start items, ap length (is ∙ none))
