-- The verb of a word, where the verbs are read one by one.
use Rattle.std.proofs.Common.{◌≡◌, ℕ, ◌+◌, ◌<◌, Bool, false, cond, List, length, get_or, drop, ap, ◌∙◌, Option, Some}
use Rattle.std.proofs.lemmas.List.{at_drop_more}
use Rattle.std.specs.Str.{bytes_eq}
use Rattle.script_form.specs.declared.steps.Verb.{Verb}
use Rattle.script_form.specs.Words.{word_of, verb_among}

-- where the word is not that of the next one
pub among_rest : (verbs : List Verb) (i : ℕ) (word : List ℕ) (verb : Verb)
    → i < length verbs
    → bytes_eq word (word_of (get_or verbs i verb)) ≡ false
    → verb_among (drop i verbs) word ≡ verb_among (drop (i + 1) verbs) word
among_rest verbs i word verb within other =
    at_drop_more (λ rest. verb_among rest word) verbs i verb within
    ∙ ap (λ is. cond is (Some (get_or verbs i verb)) (verb_among (drop (i + 1) verbs) word)) other
