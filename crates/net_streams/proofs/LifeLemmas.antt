-- All runs of writes together.
use Rattle.std.proofs.Common.{◌≡◌, ℕ, Bool, true, false, List, [], ◌∷◌, ◌++◌, Ok, Err, refl, sym, ap, ◌∙◌, subst, inl, inr, append_assoc, append-nil}
use Rattle.std.specs.List.{concat}
use Rattle.net_streams.specs.declared.stream.StreamFault.TheVariants.{WouldBlock, Failed}
use Rattle.net_streams.specs.Writes.{Came, TakeParts, TookNone, EndsSo, Took}
use Rattle.net_streams.specs.Memory.{MemStreamState, Wrote}
use Rattle.net_streams.specs.Lives.{put, taken, read, failed_by, Lives, all_put, all_taken, KeepsOrder, EndsAtFailure, HoldsWhatItTook}

split_of : {S : Type 0} (wrote : S → Came → S → Type 0) (bytes : List ℕ) (was : Bool) (before : S) (front rest : List ℕ)
    (failed : Bool) (after : S)
    → Took wrote bytes was before front rest failed after
    → front ++ rest ≡ bytes
split_of wrote bytes true before front rest failed after took = ap (λ xs. xs ++ rest) took.0 ∙ took.1
split_of wrote bytes false before front rest failed after took = took.split

pub keeps_order : {S : Type 0} (gave wrote : S → Came → S → Type 0) → KeepsOrder gave wrote
keeps_order gave wrote bytes was before [] rest failed after lives = lives.0 ∙ sym (append-nil bytes)
keeps_order gave wrote bytes was before (put more ∷ later) rest failed after lives =
    keeps_order gave wrote (bytes ++ more) was before later rest failed after lives
    ∙ append_assoc bytes more (all_put later)
keeps_order gave wrote bytes was before (taken front ∷ later) rest failed after lives =
    append_assoc front (all_taken later) rest
    ∙ ap (λ xs. front ++ xs) (keeps_order gave wrote lives.0 lives.1 lives.2 later rest failed after lives.4)
    ∙ sym (append_assoc front lives.0 (all_put later))
    ∙ ap (λ xs. xs ++ all_put later) (split_of wrote bytes was before front lives.0 lives.1 lives.2 lives.3)
keeps_order gave wrote bytes was before (read came ∷ later) rest failed after lives =
    keeps_order gave wrote bytes (failed_by came was) lives.0 later rest failed after lives.2

stays_failed : (came : Came) → failed_by came true ≡ true
stays_failed (Ok bytes) = refl
stays_failed (Err WouldBlock) = refl
stays_failed (Err Failed) = refl

pub ends_at_failure : {S : Type 0} (gave wrote : S → Came → S → Type 0) → EndsAtFailure gave wrote
ends_at_failure gave wrote bytes before [] rest failed after lives = (refl, lives.1)
ends_at_failure gave wrote bytes before (put more ∷ later) rest failed after lives =
    ends_at_failure gave wrote (bytes ++ more) before later rest failed after lives
ends_at_failure gave wrote bytes before (taken front ∷ later) rest failed after lives =
    let still : Lives gave wrote lives.0 true lives.2 later rest failed after =
    subst (λ (b : Bool). Lives gave wrote lives.0 b lives.2 later rest failed after) lives.3.2 lives.4 in
    let more = ends_at_failure gave wrote lives.0 lives.2 later rest failed after still in
    (ap (λ xs. xs ++ all_taken later) lives.3.0 ∙ more.0, more.1)
ends_at_failure gave wrote bytes before (read came ∷ later) rest failed after lives =
    let still : Lives gave wrote bytes true lives.0 later rest failed after =
    subst (λ (b : Bool). Lives gave wrote bytes b lives.0 later rest failed after) (stays_failed came) lives.2 in
    ends_at_failure gave wrote bytes lives.0 later rest failed after still

-- ---- in memory

parts_written : (before : MemStreamState) (parts : List (List ℕ)) (after : MemStreamState)
    → TakeParts Wrote before parts after
    → after.written ≡ before.written ++ concat parts
parts_written before [] after took = ap (λ (s : MemStreamState). s.written) took ∙ sym (append-nil before.written)
parts_written before (part ∷ more) after took =
    parts_written took.0 more after took.3
    ∙ ap (λ xs. xs ++ concat more) took.2.0
    ∙ append_assoc before.written part (concat more)

none_written : (failed : Bool) (before after : MemStreamState)
    → TookNone Wrote failed before after
    → after.written ≡ before.written
none_written true before after (inl last) = last.0 ∙ append-nil before.written
none_written true before after (inr last) = last.0 ∙ append-nil before.written
none_written false before after last = last.0 ∙ append-nil before.written

end_written : (rest : List ℕ) (failed : Bool) (before after : MemStreamState)
    → EndsSo Wrote rest failed before after
    → after.written ≡ before.written
end_written rest failed before after (inl done) = ap (λ (s : MemStreamState). s.written) done.2
end_written rest failed before after (inr last) = none_written failed before after last.1

run_written : (bytes : List ℕ) (was : Bool) (before : MemStreamState) (front rest : List ℕ) (failed : Bool)
    (after : MemStreamState)
    → Took Wrote bytes was before front rest failed after
    → after.written ≡ before.written ++ front
run_written bytes true before front rest failed after took =
    ap (λ (s : MemStreamState). s.written) took.3
    ∙ sym (append-nil before.written)
    ∙ ap (λ xs. before.written ++ xs) (sym took.0)
run_written bytes false before front rest failed after took =
    end_written rest failed took.there after took.end
    ∙ parts_written before took.writes.parts took.there took.writes.took
    ∙ ap (λ xs. before.written ++ xs) took.writes.are

pub holds_what_it_took : HoldsWhatItTook
holds_what_it_took bytes was before [] rest failed after lives =
    ap (λ (s : MemStreamState). s.written) lives.2 ∙ sym (append-nil before.written)
holds_what_it_took bytes was before (put more ∷ later) rest failed after lives =
    holds_what_it_took (bytes ++ more) was before later rest failed after lives
holds_what_it_took bytes was before (taken front ∷ later) rest failed after lives =
    holds_what_it_took lives.0 lives.1 lives.2 later rest failed after lives.4
    ∙ ap (λ xs. xs ++ all_taken later) (run_written bytes was before front lives.0 lives.1 lives.2 lives.3)
    ∙ append_assoc before.written front (all_taken later)
holds_what_it_took bytes was before (read came ∷ later) rest failed after lives =
    holds_what_it_took bytes (failed_by came was) lives.0 later rest failed after lives.2
    ∙ ap (λ xs. xs ++ all_taken later) lives.1.1
