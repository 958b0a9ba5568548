use Rattle.laws.specs.Prelude.{◌∙◌, ap, arith, sym}
use Rattle.cluster_node.specs.declared.Lead.{Lead}
use Rattle.cluster_node.specs.Seeing.{low_only}
use Rattle.cluster_node.proofs.Fulls.{look-full}
use Rattle.cluster_node.proofs.look.Goals as goal

pub returns-then-a : goal.returns-then-a
returns-then-a c = look-full _ _ (λ i. omega (arith, c.type_inv.s i)) _ (sym (ap (λ (u : Lead). u.full) c.low_lead-a.ensures) ∙ c.if-a.true) _ c.low_lead-a.ensures

pub returns : goal.returns
returns c = ap low_only c.look_each-v.ensures
