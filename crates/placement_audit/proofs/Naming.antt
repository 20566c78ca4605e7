-- Entries under their names: one more.
use Rattle.std.proofs.Common.{◌≡◌, ℕ, ◌+◌, ◌<◌, Bool, true, false, cond, List, [], ◌∷◌, ◌++◌, map, take, length, get_or, sym, refl, ap, ◌∙◌}
use Rattle.std.specs.Prelude.{filter}
use Rattle.std.specs.Borrow.{Bor}
use Rattle.std.specs.BTreeMap.{BTreeMap}
use Rattle.std.specs.Ordering.{is_eq}
use Rattle.std.specs.declared.alloc.Global.{Global}
use Rattle.std.specs.declared.vec.Vec.{Vec}
use Rattle.std.proofs.lemmas.Bool.{cond-true, cond-false}
use Rattle.std.proofs.lemmas.List.{map_more}
use Rattle.list_laws.proofs.Changes.{append_nil, filter_append, map_append}
use Rattle.cluster_world.specs.declared.records.Life as code_life
use Rattle.cluster_world.specs.declared.records.Publication as code_publication
use Rattle.cluster_world.specs.InCode.{life_id_of, life_of, publication_of}
use Rattle.world_law.specs.State.{Publication, Life, Placement}
use Rattle.placement_audit.specs.declared.keys.LifeKey.{LifeKey}
use Rattle.placement_audit.specs.declared.keys.PublicationKey.{PublicationKey}
use Rattle.placement_audit.specs.InCode.{lent_life, lent_publication}
use Rattle.placement_audit.specs.Keys.{is_life, is_publication, life_key_cmp, publication_key_cmp}
use Rattle.placement_audit.specs.Named.{AreLives, AreSources, named_at}
use Rattle.placement_audit.specs.Tests.{any_owed, is_owed}
use Rattle.placement_audit.proofs.Anys.{any_never}
use Rattle.placement_audit.proofs.Ordered.{life_is, publication_is}

-- the entries of lists under keys, seen as the definitions see them, are those of a list that have the key's name
module _ {Q B S I : Type 0} (seen : B → S) (id_of : S → I) (named : Q → I) (same : I → I → Bool)
    (is : (a b : I) → same a b ≡ true → a ≡ b) (all : List S) (old new : Q → List B) (k : Q) (x : B)
    (key : named k ≡ id_of (seen x)) (had : (q : Q) → map seen (old q) ≡ filter (λ s. same (id_of s) (named q)) all)
    (put : (q : Q) → new q ≡ cond (same (named k) (named q)) (old k ++ x ∷ []) (old q)) where
  abbrev has : Q → S → Bool
  has q s = same (id_of s) (named q)

  last : (q : Q) (b : Bool)
      → same (named k) (named q) ≡ b
      → filter (has q) (all ++ seen x ∷ []) ≡ filter (has q) all ++ cond b (seen x ∷ []) []
  last q b e =
      filter_append (has q) all (seen x ∷ [])
      ∙ ap (λ c. filter (has q) all ++ cond c (seen x ∷ []) []) (ap (λ a. same a (named q)) (sym key) ∙ e)

  named_push : (q : Q) → map seen (new q) ≡ filter (λ s. same (id_of s) (named q)) (all ++ seen x ∷ [])
  named_push q = go (same (named k) (named q)) refl
    where
      go : (b : Bool) → same (named k) (named q) ≡ b → map seen (new q) ≡ filter (has q) (all ++ seen x ∷ [])
      go true e =
          ap (map seen) (put q ∙ cond-true (same (named k) (named q)) (old k ++ x ∷ []) (old q) e)
          ∙ map_append seen (old k) (x ∷ [])
          ∙ ap (λ l. l ++ seen x ∷ []) (had k ∙ ap (λ a. filter (λ s. same (id_of s) a) all) (is (named k) (named q) e))
          ∙ sym (last q true e)
      go false e =
          ap (map seen) (put q ∙ cond-false (same (named k) (named q)) (old k ++ x ∷ []) (old q) e)
          ∙ had q
          ∙ sym (append_nil (filter (has q) all))
          ∙ sym (last q false e)

further : {A B : Type 0} (f : A → B) (xs : List A) (i : ℕ) (x y : A)
    → i < length xs
    → x ≡ get_or xs i x
    → y ≡ x
    → map f (take (i + 1) xs) ≡ map f (take i xs) ++ f y ∷ []
further f xs i x y lt is same =
    map_more f xs i x lt
    ∙ ap (λ z. map f (take i xs) ++ f z ∷ []) (sym is)
    ∙ ap (λ z. map f (take i xs) ++ f z ∷ []) (sym same)

pub lives_push : (old new : BTreeMap LifeKey (Vec (Bor code_life.Life) Global)) (xs : List code_life.Life) (i : ℕ)
    (x : code_life.Life) (k : LifeKey) (entry : Bor code_life.Life)
    → i < length xs
    → x ≡ get_or xs i x
    → life_id_of k.id ≡ life_id_of entry.now.id
    → entry.now ≡ x
    → AreLives old (map life_of (take i xs))
    → ((q : LifeKey)
    → named_at life_key_cmp new q
    ≡ cond (is_eq (life_key_cmp k q)) (named_at life_key_cmp old k ++ entry ∷ []) (named_at life_key_cmp old q))
    → AreLives new (map life_of (take (i + 1) xs))
lives_push old new xs i x k entry lt is own same had put = λ q.
    named_push lent_life (λ (l : Life). l.id) (λ (q : LifeKey). life_id_of q.id) is_life life_is
    (map life_of (take i xs)) (named_at life_key_cmp old) (named_at life_key_cmp new) k entry own had put q
    ∙ ap (filter (λ (l : Life). is_life l.id (life_id_of q.id))) (sym (further life_of xs i x entry.now lt is same))

pub sources_push : (old new : BTreeMap PublicationKey (Vec (Bor code_publication.Publication) Global))
    (xs : List code_publication.Publication) (i : ℕ) (x : code_publication.Publication) (k : PublicationKey)
    (entry : Bor code_publication.Publication)
    → i < length xs
    → x ≡ get_or xs i x
    → k.id ≡ entry.now.id
    → entry.now ≡ x
    → AreSources old (map publication_of (take i xs))
    → ((q : PublicationKey)
    → named_at publication_key_cmp new q
    ≡ cond (is_eq (publication_key_cmp k q)) (named_at publication_key_cmp old k ++ entry ∷ [])
    (named_at publication_key_cmp old q))
    → AreSources new (map publication_of (take (i + 1) xs))
sources_push old new xs i x k entry lt is own same had put = λ q.
    named_push lent_publication (λ (s : Publication). s.id) (λ (q : PublicationKey). q.id) is_publication publication_is
    (map publication_of (take i xs)) (named_at publication_key_cmp old) (named_at publication_key_cmp new) k entry own
    had put q
    ∙ ap (filter (λ (s : Publication). is_publication s.id q.id))
    (sym (further publication_of xs i x entry.now lt is same))

-- what is for no subscription that there is, is not owed
pub no_life : (publications : List Publication) (lives : List Life) (p : Placement)
    → filter (λ (l : Life). is_life l.id p.life) lives ≡ []
    → false ≡ is_owed publications lives p
no_life publications lives p none =
    sym (ap (λ ls. any_owed p ls (filter (λ (s : Publication). is_publication s.id p.id) publications)) none
    ∙ any_never (filter (λ (s : Publication). is_publication s.id p.id) publications))
