-- What the tables of a file describe.
use Rattle.std.proofs.Common.{◌≡◌, ℕ, ◌+◌, ◌<◌, ◌≤◌, ◌⊎◌, List, [], ◌∷◌, ◌++◌, length, map, take, get_or, All, Some, None, refl, sym, ap, subst, ◌∙◌, suc, option_map}
use Rattle.std.proofs.lemmas.List.{take_more, take-map, length-map}
use Rattle.std.proofs.lemmas.List.Elements.{All-push}
use Rattle.std.proofs.lemmas.List.Sorted.{length_permutation}
use Rattle.std.proofs.lemmas.Option.{same_Some, slice_get-map, slice_get-get_or}
use Rattle.list_laws.proofs.Changes.{along_append}
use Rattle.subj.specs.declared.failures.Failure.{Failure}
use Rattle.subj.specs.declared.failures.Failure.TheVariants.{Refused, OutOfMemory}
use Rattle.subj.specs.declared.limits.TheConstants.{MAX_NODES, MAX_SHARDS}
use Rattle.toml.specs.Data.{Data, Items, Members, as_array, array, get_member}
use Rattle.toml.specs.View.{view, items_view}
use Rattle.toml.specs.declared.value.Value.{Value}
use Rattle.std.specs.Prelude.{codes}
use Rattle.mesh_file.specs.Entries.{IsServerIn, IsNoServer}
use Rattle.mesh_file.specs.Keys.{unknown_key}
use Rattle.mesh_file.specs.Mesh.{Mesh, IsMesh, AreEntries, AreOrdered, AreServers, AddsServer, IsEntriesFault, IsFailure, IsFirstEntryFault, bad_count}
use Rattle.mesh_file.specs.Servers.{IsServer}
use Rattle.mesh_file.specs.declared.faults.MeshFault.{MeshFault}
use Rattle.mesh_file.specs.declared.faults.MeshFault.TheVariants.{Server, ServerCount}
use Rattle.mesh_file.specs.declared.faults.ServerFault.{ServerFault}
use Rattle.mesh_file.specs.declared.tables.TableKind.TheVariants as kind
use Rattle.mesh_file.specs.declared.servers.MeshServer.{MeshServer}

array_from : (value : Data) (items : Items) → as_array value ≡ Some items → value ≡ array items
array_from value items is = elim value as (λ d. as_array d ≡ Some items → d ≡ array items) [
  | array own ↦ λ e. ap array (same_Some _ _ e)
  | _ ↦ λ e. cc
] is

-- too few entries, or too many
pub count_fault : (file : Members) (value : Data) (all slice : List Value) (count : ℕ)
    → unknown_key kind.File file ≡ None
    → Some value ≡ get_member (codes "server") file
    → Some (items_view all) ≡ as_array value
    → slice ≡ all
    → count ≡ length slice
    → (length slice ≡ 0) ⊎ (MAX_NODES < length slice)
    → IsEntriesFault file (ServerCount count)
count_fault file value all slice count known found listed same counted out =
    let many : length (map view slice) ≡ length slice = length-map slice view in
    bad_count known (map view slice)
    (sym found ∙ ap Some (array_from value (items_view all) (sym listed) ∙ ap (λ xs. array (items_view xs)) (sym same)))
    (subst (λ n. (n ≡ 0) ⊎ (MAX_NODES < n)) (sym many) out)
    (ap ServerCount (counted ∙ sym many))

-- one entry more is read
pub one_more_read : (entries : List Value) (i : ℕ) (entry : Value) (servers new : List MeshServer)
    → i < length entries
    → entry ≡ get_or entries i entry
    → AreServers (take i (map view entries)) servers
    → All IsServer servers
    → AddsServer (view entry) servers new
    → AreServers (take (i + 1) (map view entries)) new × All IsServer new
one_more_read entries i entry servers new within stands so_far valid (server, read, sound, pushed) =
    let front : map view (take (i + 1) entries) ≡ map view (take i entries) ++ view entry ∷ [] =
    ap (map view) (take_more entries i entry within ∙ ap (λ x. take i entries ++ x ∷ []) (sym stands))
    ∙ mapped (take i entries) in
    let before : AreServers (map view (take i entries)) servers =
    subst (λ xs. AreServers xs servers) (take-map view i entries) so_far in (
      subst (λ xs. AreServers xs new) (sym (take-map view (i + 1) entries ∙ front))
          (subst (AreServers (map view (take i entries) ++ view entry ∷ [])) (sym pushed)
          (along_append IsServerIn (map view (take i entries)) (view entry ∷ []) servers (server ∷ []) before
          (read, tt))),
      subst (All IsServer) (sym pushed) (All-push IsServer servers server valid sound),
    )
  where
    mapped : (xs : List Value) → map view (xs ++ entry ∷ []) ≡ map view xs ++ view entry ∷ []
    mapped [] = refl
    mapped (x ∷ xs) = ap (λ rest. view x ∷ rest) (mapped xs)

-- the entry is the first that is no server
pub entry_fault : (entries : List Value) (i : ℕ) (entry : Value) (servers : List MeshServer) (cause : ServerFault)
    → i < length entries
    → entry ≡ get_or entries i entry
    → AreServers (take i (map view entries)) servers
    → IsNoServer (view entry) cause
    → IsFirstEntryFault (map view entries) (Server (i + 1) cause)
entry_fault entries i entry servers cause within stands so_far bad = record {
  place = i;
  entry = view entry;
  cause = cause;
  before = servers;
  servers = so_far;
  stands =
      slice_get-map view entries i
      ∙ ap (λ o. option_map view o) (slice_get-get_or entries i entry within ∙ ap Some (sym stands));
  no_server = bad;
  told = refl;
}

-- there are as many servers as entries
along_length : (entries : List Data) (servers : List MeshServer)
    → AreServers entries servers
    → length servers ≡ length entries
along_length [] [] along = refl
along_length [] (s ∷ ss) along = absurd along
along_length (e ∷ es) [] along = absurd along
along_length (e ∷ es) (s ∷ ss) along = ap suc (along_length es ss along.1)

-- what is a fault of a part is one of the whole
pub failure_of : (Part Whole : MeshFault → Type 0)
    → ((fault : MeshFault) → Part fault → Whole fault)
    → (failure : Failure MeshFault)
    → IsFailure Part failure
    → IsFailure Whole failure
failure_of Part Whole weaker (Refused fault) is = weaker fault is
failure_of Part Whole weaker OutOfMemory is = tt

-- what is read of a file is within the limits
pub described : (file : Members) (entries : List Data) (mesh : Mesh)
    → AreEntries file entries
    → AreOrdered entries mesh.servers
    → All IsServer mesh.servers
    → 1 ≤ mesh.shards
    → mesh.shards ≤ MAX_SHARDS
    → IsMesh mesh
described file entries mesh listed ordered valid low high =
    let many : length mesh.servers ≡ length entries =
    length_permutation ordered.servers mesh.servers ordered.same ∙ along_length entries ordered.servers ordered.read in
    record {
      first_shard = low;
      last_shard = high;
      some = subst (λ n. 1 ≤ n) (sym many) listed.some;
      few = subst (λ n. n ≤ MAX_NODES) (sym many) listed.few;
      rising = ordered.rising;
      each = valid;
    }
