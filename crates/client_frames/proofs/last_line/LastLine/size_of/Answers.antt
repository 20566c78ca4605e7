use Rattle.std.proofs.Common.{rules, ℕ, ◌≡◌, ◌<◌, List, slice_range, sym, ap, ◌∙◌, arith}
use Rattle.std.specs.Prelude.{Ok}
use Rattle.client_frames.specs.declared.client_line.ClientLine.TheVariants.{Pub}
use Rattle.client_frames.specs.LastLine.{plain_head}
use Rattle.client_frames.specs.Lines.{line_meaning}
use Rattle.client_frames.proofs.last_line.LastLine.size_of.Goals as goal

pub returns : goal.returns
returns c =
    let s = c.self.inside in
    let some : 0 < s.subject_end = omega arith in
    let line : s.text.items ≡ c.args.line.now = search rules in
    let subject : slice_range s.text.items 4 s.subject_end ≡ c.args.subject.now = search rules in
    sym (ap line_meaning line) ∙ c.self.invariant.means some
    ∙ ap (λ (l : List ℕ). Ok (Pub (plain_head l s.size))) subject
