use Rattle.std.proofs.Common.{◌≡◌, All, None, sym, ap, subst, ◌∙◌, arith}
use Rattle.subj.specs.Names.{node_name_fault}
use Rattle.subj.specs.Servers.{are_apart}
use Rattle.subj.proofs.Apart.{tested}
use Rattle.subj.proofs.servers.ServerIdentity.new.Goals as goal

-- src/servers.rt:80:9
pub invariant_of-result : goal.invariant_of-result
invariant_of-result c =
    let names = c.deref.ensures.value in
    tested _
    (sym (ap are_apart names) ∙ sym c.are_apart.ensures.same ∙ c.if-not-are_apart.false)
    (subst (All (λ name. node_name_fault name ≡ None)) names (c.are_apart.ensures.valid c.if-not-are_apart.false))
    (omega arith) (omega arith) (omega arith, omega arith)
