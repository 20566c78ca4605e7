use Rattle.std.proofs.Common.{◌≡◌, ◌++◌, length, map, refl, ap, ◌∙◌, subst, append_assoc}
use Rattle.std.specs.Prelude.{codes}
use Rattle.std.specs.List.{flat_map}
use Rattle.cluster_world.specs.InCode.{life_of, placements_in}
use Rattle.world_law.specs.Written.{last_lines}
use Rattle.mesh_script.specs.Lines.{lines_text, end_line}
use Rattle.mesh_script.specs.Placing.{cluster_named, placements_text}
use Rattle.mesh_script.specs.Played.{Writes}
use Rattle.mesh_script.specs.Playing.{PlayState}
use Rattle.mesh_script.proofs.Putting.{puts_behind, starts_same, starts_longer, starts_of_puts, write_failed, written_out}
use Rattle.mesh_script.proofs.Texts.{last_text}
use Rattle.mesh_script.proofs.player.Player.finish.Goals as goal

pub returns-in_err-count-clause-text : goal.returns-in_err-count-clause-text
returns-in_err-count-clause-text g c =
    let names = c.args.names.now in
    let was = g.S.Sink.written c.args.sink.now in
    let is = g.S.Sink.written c.put_placements.new.sink in
    let out = c.self.inside.output in
    let w = c.self.inside.world.world in
    let lives = map life_of c.lives-lives.result.now in
    let all = flat_map placements_in c.placements-placements.result.now in
    let first = placements_text (cluster_named names) lives all in
    let last = end_line c.self.inside.number (length all) ++ codes "\n" in
    subst (λ (s : PlayState).
    s.number ≡ s.world.step
    → Writes c.from_residual.result was is (s.text ++ lines_text (last_lines (cluster_named names) s.world)))
    c.self.view_is (λ numbered.
    write_failed c.from_residual.result was is (out ++ lines_text (last_lines (cluster_named names) w))
    c.from_residual.ensures.0
    (starts_same ((out ++ first) ++ last) (out ++ lines_text (last_lines (cluster_named names) w)) was is
    (append_assoc out first last
    ∙ ap (λ l. out ++ l)
    (last_text names w lives all c.self.inside.number (length all) c.lives-lives.ensures
    c.placements-placements.ensures.messages numbered refl))
    (starts_longer (out ++ first) last was is c.in_err-count.ensures.text)))

pub returns-in_err-put_end-clause-text : goal.returns-in_err-put_end-clause-text
returns-in_err-put_end-clause-text g c =
    let names = c.args.names.now in
    let was = g.S.Sink.written c.args.sink.now in
    let is = g.S.Sink.written c.put_placements.new.sink in
    let out = c.self.inside.output in
    let w = c.self.inside.world.world in
    let lives = map life_of c.lives-lives.result.now in
    let all = flat_map placements_in c.placements-placements.result.now in
    let first = placements_text (cluster_named names) lives all in
    let last = end_line c.self.inside.number (length all) ++ codes "\n" in
    subst (λ (s : PlayState).
    s.number ≡ s.world.step
    → Writes c.from_residual-in_err-put_end.result was is
    (s.text ++ lines_text (last_lines (cluster_named names) s.world)))
    c.self.view_is (λ numbered.
    write_failed c.from_residual-in_err-put_end.result was is (out ++ lines_text (last_lines (cluster_named names) w))
    c.from_residual-in_err-put_end.ensures.0
    (starts_same ((out ++ first) ++ last) (out ++ lines_text (last_lines (cluster_named names) w)) was is
    (append_assoc out first last
    ∙ ap (λ l. out ++ l)
    (last_text names w lives all c.self.inside.number (length all) c.lives-lives.ensures
    c.placements-placements.ensures.messages numbered refl))
    (starts_longer (out ++ first) last was is
    (starts_of_puts out first c.put_placements.new.output was is c.in_ok-count.ensures.text))))

pub returns-clause-text : goal.returns-clause-text
returns-clause-text g c =
    let names = c.args.names.now in
    let was = g.S.Sink.written c.args.sink.now in
    let is = g.S.Sink.written c.put_placements.new.sink in
    let now = g.S.Sink.written c.flush.new.sink in
    let out = c.self.inside.output in
    let w = c.self.inside.world.world in
    let lives = map life_of c.lives-lives.result.now in
    let all = flat_map placements_in c.placements-placements.result.now in
    let first = placements_text (cluster_named names) lives all in
    let last = end_line c.self.inside.number c.in_ok-count.count ++ codes "\n" in
    subst (λ (s : PlayState).
    s.number ≡ s.world.step
    → Writes c.flush.result was now (s.text ++ lines_text (last_lines (cluster_named names) s.world)))
    c.self.view_is (λ numbered.
    written_out c.flush.result out c.put_end.new.output (first ++ last) c.flush.new.self
    (out ++ lines_text (last_lines (cluster_named names) w)) was is now c.flush.ensures.text c.flush.ensures.empty
    (puts_behind out c.put_placements.new.output first c.put_end.new.output last was is c.in_ok-count.ensures.text
    c.in_ok-put_end.ensures)
    (ap (λ l. out ++ l)
    (last_text names w lives all c.self.inside.number c.in_ok-count.count c.lives-lives.ensures
    c.placements-placements.ensures.messages numbered c.in_ok-count.ensures.count)))
