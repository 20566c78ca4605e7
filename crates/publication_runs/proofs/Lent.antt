-- Publications that were given one after the other.
use Rattle.std.proofs.Common.{◌≡◌, ◌+◌, List, [], ◌∷◌, ◌++◌, length, refl, ap, ◌∙◌, subst, arith}
use Rattle.subj.specs.declared.messages.Pub.{Pub}
use Rattle.publication_runs.specs.Lent.{LentState, GivesOne, Gives}

-- one more was given
pub gives_more : (given : List Pub) (next : Pub) (old between new : LentState)
    → Gives given old between
    → GivesOne next between new
    → Gives (given ++ next ∷ []) old new
gives_more [] next old between new same one = (new, subst (λ (s : LentState). GivesOne next s new) same one, refl)
gives_more (first ∷ given) next old between new gives one =
    (gives.0, gives.1, gives_more given next gives.0 between new gives.2 one)

-- what they leave as it was
pub same_subject : (given : List Pub) (old new : LentState) → Gives given old new → new.subject ≡ old.subject
same_subject [] old new same = ap (λ (s : LentState). s.subject) same
same_subject (first ∷ given) old new gives = same_subject given gives.0 new gives.2 ∙ gives.1.same_subject

pub same_echo : (given : List Pub) (old new : LentState) → Gives given old new → new.echo ≡ old.echo
same_echo [] old new same = ap (λ (s : LentState). s.echo) same
same_echo (first ∷ given) old new gives = same_echo given gives.0 new gives.2 ∙ gives.1.same_echo

-- as many as are given are no longer left
pub gives_counted : (given : List Pub) (old new : LentState)
    → Gives given old new
    → old.run.left ≡ new.run.left + length given
gives_counted [] old new same =
    let left : new.run.left ≡ old.run.left = ap (λ (s : LentState). s.run.left) same in
    omega arith
gives_counted (first ∷ given) old new gives =
    let others = gives_counted given gives.0 new gives.2 in
    let one : old.run.left ≡ gives.0.run.left + 1 = gives.1.gives.counted in
    omega arith
