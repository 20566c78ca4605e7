-- Names of members, where their bytes were found.
use Rattle.std.proofs.Common.{◌≡◌, ◌∙◌, ℕ, List, Option, Some, Result, ap, sym}
use Rattle.std.specs.Prelude.{option_map}
use Rattle.serde_json.specs.Data.{Data}
use Rattle.subj.specs.declared.failures.Failure.{Failure}
use Rattle.subj.specs.declared.faults.NameFault.{NameFault}
use Rattle.script_form.specs.Members.{valid, valid_where_there, MemberMeans}
use Rattle.audit_log.specs.declared.entries.Text.{Text}
use Rattle.audit_log.specs.Members.{bytes_in, named_in, optional_bytes_in, optional_named_in}

pub name_means : {M : Type 0} (fault : List ℕ → Option NameFault) (key : Text) (json : Data) (name : List ℕ)
    (r : Result (List ℕ) (Failure M))
    → bytes_in key json ≡ Some name
    → MemberMeans (valid fault name) r
    → MemberMeans (named_in fault key json) r
unfolding named_in
name_means fault key json name r is told = rw is told

-- what was found is seen as these bytes
pub optional_name_means : {M X : Type 0} (fault : List ℕ → Option NameFault) (key : Text) (json : Data)
    (view : X → List ℕ) (found : Option X) (x : X) (name : List ℕ) (r : Result (Option (List ℕ)) (Failure M))
    → optional_bytes_in key json ≡ Some (option_map view found)
    → found ≡ Some x
    → name ≡ view x
    → MemberMeans (valid_where_there fault (Some name)) r
    → MemberMeans (optional_named_in fault key json) r
unfolding optional_named_in
optional_name_means fault key json view found x name r is there same told =
    let all : optional_bytes_in key json ≡ Some (Some name) =
    is ∙ ap (λ o. Some (option_map view o)) there ∙ ap (λ n. Some (Some n)) (sym same) in
    rw all told
