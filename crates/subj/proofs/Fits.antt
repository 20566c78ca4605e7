-- A name is not longer than its limit.
use Rattle.std.proofs.Common.{◌≡◌, ℕ, ◌≤◌, Bool, List, [], ◌∷◌, length, Option, Some, None, cond, refl, arith}
use Rattle.std.specs.Prelude.{nat_lt}
use Rattle.std.specs.Option.{option_or}
use Rattle.std.proofs.lemmas.Bool.Decides.{nat_tests}
use Rattle.subj.specs.declared.limits.TheConstants.{MAX_SUBJECT, MAX_QUEUE_NAME, MAX_SID, MAX_NODE_NAME}
use Rattle.subj.specs.declared.faults.NameFault.{NameFault}
use Rattle.subj.specs.Names.{text_fault, has_forbidden, has_no_name_byte, tokens, pattern_fault, subject_fault, queue_name_fault, sid_fault, node_name_fault, pattern_token_fault, subject_token_fault}

first_none : (a b : Option NameFault) → option_or a b ≡ None → a ≡ None
first_none None b none = refl
first_none (Some x) b none = none

not_above : {X : Type 0} (m n : ℕ) (x : X) (y : Option X) → cond (nat_lt m n) (Some x) y ≡ None → n ≤ m
not_above m n x y none = grind (arith, nat_tests)

text_fits : (most : ℕ) (bad : Bool) (text : List ℕ) → text_fault most bad text ≡ None → length text ≤ most
text_fits most bad [] none = omega arith
text_fits most bad (x ∷ xs) none = not_above most (length (x ∷ xs)) _ _ none

pub pattern_fits : (text : List ℕ) → pattern_fault text ≡ None → length text ≤ MAX_SUBJECT
pattern_fits text none =
    text_fits MAX_SUBJECT (has_forbidden text) text (first_none _ (pattern_token_fault (tokens text)) none)

pub subject_fits : (text : List ℕ) → subject_fault text ≡ None → length text ≤ MAX_SUBJECT
subject_fits text none =
    text_fits MAX_SUBJECT (has_forbidden text) text (first_none _ (subject_token_fault (tokens text)) none)

pub queue_name_fits : (text : List ℕ) → queue_name_fault text ≡ None → length text ≤ MAX_QUEUE_NAME
queue_name_fits text none = text_fits MAX_QUEUE_NAME (has_forbidden text) text none

pub sid_fits : (text : List ℕ) → sid_fault text ≡ None → length text ≤ MAX_SID
sid_fits text none = text_fits MAX_SID (has_forbidden text) text none

pub node_name_fits : (text : List ℕ) → node_name_fault text ≡ None → length text ≤ MAX_NODE_NAME
node_name_fits text none = text_fits MAX_NODE_NAME (has_no_name_byte text) text none
