-- Queue names that are judged before they are copied.
use Rattle.std.proofs.Common.{◌≡◌, ℕ, Bool, true, false, not, cond, ◌&&◌, List, [], ◌∷◌, length, refl, ap, ◌∙◌, Some, None, Ok, Err}
use Rattle.std.specs.Prelude.{is_some, nat_le}
use Rattle.std.specs.List.{list_all}
use Rattle.std.specs.Option.{ok_or}
use Rattle.subj.specs.declared.limits.TheConstants.{MAX_QUEUE_NAMES}
use Rattle.subj.specs.Names.{queue_name_fault}
use Rattle.subj.specs.QueueNames.{are_rising, queue_names_of}
use Rattle.route_frames.specs.declared.faults.RouteFault.TheVariants.{BadArgs}
use Rattle.route_frames.specs.Meaning.{Meaning, ◌>>=◌}
use Rattle.route_frames.specs.NumberedLines.{is_queue_name, are_names, queue_names_in}

one_name : (name : List ℕ) (bad good : Bool) (others : List (List ℕ))
    → ((cond bad (Err BadArgs) (Ok name))
    >>= λ name. cond good (Ok others) (Err BadArgs) >>= λ others. Ok (name ∷ others))
    ≡ cond (not bad && good) (Ok (name ∷ others)) (Err BadArgs)
one_name name true good others = refl
one_name name false true others = refl
one_name name false false others = refl

each_read : (names : List (List ℕ)) → are_names names ≡ cond (list_all is_queue_name names) (Ok names) (Err BadArgs)
each_read [] = refl
each_read (name ∷ names) =
    ap (λ others.
    (cond (is_some (queue_name_fault name)) (Err BadArgs) (Ok name))
    >>= λ name. others >>= λ others. Ok (name ∷ others))
    (each_read names)
    ∙ one_name name (is_some (queue_name_fault name)) (list_all is_queue_name names) names

judged : (good : Bool) (names : List (List ℕ)) (next : List (List ℕ) → Meaning (List (List ℕ)))
    → (cond good (Ok names) (Err BadArgs) >>= next) ≡ cond good (next names) (Err BadArgs)
judged true names next = refl
judged false names next = refl

all_read : (names : List (List ℕ)) (each few rising : Bool)
    → cond each (ok_or (cond (few && rising) (Some names) None) BadArgs) (Err BadArgs)
    ≡ cond (few && (each && rising)) (Ok names) (Err BadArgs)
all_read names true true true = refl
all_read names true true false = refl
all_read names true false rising = refl
all_read names false true rising = refl
all_read names false false rising = refl

-- a few queue names in strictly rising order, and no other fields, are those of a publication
pub names_read : (names : List (List ℕ))
    → queue_names_in names
    ≡ cond (nat_le (length names) MAX_QUEUE_NAMES && (list_all is_queue_name names && are_rising names)) (Ok names)
    (Err BadArgs)
unfolding queue_names_in
names_read names =
    ap (λ read. read >>= λ names. ok_or (queue_names_of names) BadArgs) (each_read names)
    ∙ judged (list_all is_queue_name names) names (λ names. ok_or (queue_names_of names) BadArgs)
    ∙ all_read names (list_all is_queue_name names) (nat_le (length names) MAX_QUEUE_NAMES) (are_rising names)
