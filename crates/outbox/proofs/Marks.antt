-- Entries that are kept by their marks, and those behind.
use Rattle.std.proofs.Common.{◌≡◌, ℕ, ◌==◌, ◌<◌, ◌≤◌, Bool, true, false, List, [], ◌∷◌, ◌++◌, length, length-take-le, map, take, refl, sym, ap, ◌∙◌, arith, append-nil}
use Rattle.std.proofs.lemmas.Bool.Decides.{nat_tests}
use Rattle.std.proofs.lemmas.List.{map-append}
use Rattle.std.proofs.lemmas.Simd.{map-map}
use Rattle.std.specs.Prelude.{filter}
use Rattle.subj.specs.declared.identities.SubId.{SubId}
use Rattle.outbox.specs.declared.run_tails.TailMark.{TailMark}
use Rattle.outbox.specs.declared.kept.Kept.{Kept}
use Rattle.outbox.specs.declared.kept.Mark.{Mark}
use Rattle.outbox.specs.declared.kept.Mark.TheVariants.{Answer, Message, Grouped}
use Rattle.outbox.specs.declared.entries.Mode.{Mode}
use Rattle.outbox.specs.Kept.{copied_len, copied_of, kept_of, kept_run, mark_in_run, is_whole, written_in}
use Rattle.outbox.specs.Views.{size_of}

-- no mark stands for an entry that is kept as it came
pub wholes_behind : (mode : Mode) (ms : List Mark) (ks : List Kept)
    → filter is_whole (map (kept_of mode) ms ++ ks) ≡ filter is_whole ks
wholes_behind mode [] ks = refl
wholes_behind mode (Answer len ∷ ms) ks = wholes_behind mode ms ks
wholes_behind mode (Message id sub len ∷ ms) ks = wholes_behind mode ms ks
wholes_behind mode (Grouped id sub len ∷ ms) ks = wholes_behind mode ms ks

pub zero_of_test : (n : ℕ) → (n == 0) ≡ true → n ≡ 0
zero_of_test n is = grind (arith, nat_tests)

-- the marks of a run stand behind all, where nothing is behind the marks
pub marks_put : (mode : Mode) (ms ns : List Mark) (others : List Kept) (len head_len : ℕ) (sub : SubId)
    (tails : List TailMark)
    → len ≡ length others
    → (len == 0) ≡ true
    → ns ≡ ms ++ map (mark_in_run sub head_len) tails
    → map (kept_of mode) ns ++ others ≡ (map (kept_of mode) ms ++ others) ++ kept_run sub head_len tails
marks_put mode ms ns [] len head_len sub tails size none put =
    append-nil (map (kept_of mode) ns)
    ∙ ap (map (kept_of mode)) put
    ∙ map-append (kept_of mode) ms (map (mark_in_run sub head_len) tails)
    ∙ ap (λ l. map (kept_of mode) ms ++ l) (map-map (kept_of mode) (mark_in_run sub head_len) tails)
    ∙ ap (λ l. l ++ kept_run sub head_len tails) (sym (append-nil (map (kept_of mode) ms)))
marks_put mode ms ns (k ∷ others) len head_len sub tails size none put =
    let zero = zero_of_test len none in absurd (omega (arith, zero, size))

-- ---- the first one

pub first_copied : (k : Kept) (ks : List Kept) → copied_len k ≡ copied_of (take 1 (k ∷ ks))
first_copied k ks = omega arith

pub first_fits : (mode : Mode) (m : Mark) (ks : List Kept) (text : List ℕ)
    → copied_of (kept_of mode m ∷ ks) ≤ length text
    → copied_len (kept_of mode m) ≤ length text
first_fits mode m ks text fits = omega arith

pub first_size : (mode : Mode) (m : Mark) (ks : List Kept) (text : List ℕ)
    → copied_len (kept_of mode m) ≤ length text
    → copied_len (kept_of mode m) ≡ size_of (take 1 (written_in (kept_of mode m ∷ ks) text))
first_size mode (Answer len) ks text fits = let took = length-take-le len text fits in omega arith
first_size mode (Message id sub len) ks text fits = let took = length-take-le len text fits in omega arith
first_size mode (Grouped id sub len) ks text fits = let took = length-take-le len text fits in omega arith

-- ---- a message to a member of a queue group

some_of_test : (n : ℕ) → 0 < n → (n == 0) ≡ false
some_of_test n some = grind (arith, nat_tests)

-- the mode is another only where no mark stands beside it
pub named_anew : (old new : Mode) (ms : List Mark) (others : List Kept) (len : ℕ) (is_free : Bool)
    → len ≡ length ms → is_free ≡ (len == 0) → (is_free ≡ false → new ≡ old)
    → map (kept_of new) ms ++ others ≡ map (kept_of old) ms ++ others
named_anew old new [] others len is_free size is used = refl
named_anew old new (m ∷ ms) others len is_free size is used =
    let some : (len == 0) ≡ false = some_of_test len (omega (arith, size)) in
    ap (λ mode. map (kept_of mode) (m ∷ ms) ++ others) (used (is ∙ some))

pub one_put : (mode : Mode) (m : Mark) (ms ns : List Mark) (others : List Kept)
    → length others ≡ 0 → ns ≡ ms ++ m ∷ []
    → map (kept_of mode) ns ++ others ≡ (map (kept_of mode) ms ++ others) ++ kept_of mode m ∷ []
one_put mode m ms ns [] none put =
    append-nil (map (kept_of mode) ns)
    ∙ ap (map (kept_of mode)) put
    ∙ map-append (kept_of mode) ms (m ∷ [])
    ∙ ap (λ l. l ++ kept_of mode m ∷ []) (sym (append-nil (map (kept_of mode) ms)))
one_put mode m ms ns (k ∷ others) none put = absurd (omega (arith, none))
