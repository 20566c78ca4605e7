-- Names of members, where the texts were found.
use Rattle.std.proofs.Common.{◌≡◌, ℕ, List, Option, Some, Result}
use Rattle.serde_json.specs.Data.{Data}
use Rattle.subj.specs.declared.failures.Failure.{Failure}
use Rattle.subj.specs.declared.faults.NameFault.{NameFault}
use Rattle.script_form.specs.declared.steps.Member.{Member}
use Rattle.script_form.specs.Members.{member, optional, text, valid, valid_where_there, name_at, optional_name_at, MemberMeans}

pub name_means : {M : Type 0} (fault : List ℕ → Option NameFault) (key : Member) (json : Data) (name : List ℕ)
    (r : Result (List ℕ) (Failure M))
    → member text key json ≡ Some name
    → MemberMeans (valid fault name) r
    → MemberMeans (name_at fault key json) r
unfolding name_at
name_means fault key json name r is told = rw is told

pub optional_name_means : {M : Type 0} (fault : List ℕ → Option NameFault) (key : Member) (json : Data) (name : List ℕ)
    (r : Result (Option (List ℕ)) (Failure M))
    → optional text key json ≡ Some (Some name)
    → MemberMeans (valid_where_there fault (Some name)) r
    → MemberMeans (optional_name_at fault key json) r
unfolding optional_name_at
optional_name_means fault key json name r is told = rw is told
