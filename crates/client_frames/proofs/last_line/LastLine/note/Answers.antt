use Rattle.std.proofs.Common.{rules, ℕ, ◌≡◌, ◌+◌, ◌≤◌, List, length, slice_range, sym, subst, arith}
use Rattle.std.specs.Prelude.{Ok}
use Rattle.client_frames.specs.declared.client_line.ClientLine.TheVariants.{Pub}
use Rattle.client_frames.specs.LastLine.{IsNoted, plain_head}
use Rattle.client_frames.specs.Lines.{line_meaning}
use Rattle.client_frames.proofs.last_line.LastLine.note.Goals as goal

pub invariant_of-self-2 : goal.invariant_of-self-2
invariant_of-self-2 c =
    let line = c.args.line.now in
    let subject = c.args.subject.now in
    let text : c.extend_from_slice.new.self.items ≡ line = search rules in
    let there : slice_range line 4 (4 + length subject) ≡ subject = search rules in
    let long : 4 + length subject ≤ length line = omega arith in
    subst (λ (l : List ℕ). IsNoted l (4 + length subject) c.args.size) (sym text) (record {
      within = λ some. (omega arith, long);
      means = λ some.
          subst (λ (s : List ℕ). line_meaning line ≡ Ok (Pub (plain_head s c.args.size))) (sym there) c.requires;
    })
