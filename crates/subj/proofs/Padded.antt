-- A server's name, written over zeros.
use Rattle.std.proofs.Common.{◌≡◌, ℕ, ◌≤◌, List, ◌++◌, length, take, drop, None, ap, ◌∙◌, arith, length-append, length-drop}
use Rattle.std.specs.Prelude.{replicate}
use Rattle.std.proofs.lemmas.List.{drop-replicate, length-replicate}
use Rattle.std.proofs.Math.Seq.{drop-append_seam, take-append_seam}
use Rattle.subj.specs.declared.limits.TheConstants.{MAX_NODE_NAME}
use Rattle.subj.specs.Names.{node_name_fault}
use Rattle.subj.specs.Padding.{IsPaddedName}

pub over_zeros : (written text zeros : List ℕ)
    → written ≡ text
    → zeros ≡ replicate MAX_NODE_NAME 0
    → length text ≤ MAX_NODE_NAME
    → node_name_fault text ≡ None
    → IsPaddedName (written ++ drop (length text) zeros) (length text)
over_zeros written text zeros same are fits valid =
    let whole : List ℕ = text ++ drop (length text) zeros in
    let is : written ++ drop (length text) zeros ≡ whole = ap (λ xs. xs ++ drop (length text) zeros) same in
    let size : length zeros ≡ MAX_NODE_NAME = ap length are ∙ length-replicate {A = ℕ} MAX_NODE_NAME 0 in
    record {
      whole =
          ap length is ∙ omega (arith, length-append text (drop (length text) zeros), length-drop (length text) zeros);
      within = fits;
      zeros =
          ap (drop (length text)) is
          ∙ drop-append_seam text (drop (length text) zeros)
          ∙ ap (drop (length text)) are
          ∙ drop-replicate (length text) MAX_NODE_NAME 0;
      valid =
          ap (λ xs. node_name_fault (take (length text) xs)) is
          ∙ ap node_name_fault (take-append_seam text (drop (length text) zeros))
          ∙ valid;
    }
