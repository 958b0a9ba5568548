-- `text::put_digits` meets its contract.
use Prim.Native.Nat.{◌-◌, ◌/◌}
use native.Mathlib.Omega.{arith}
use mathlib.Core.Path.{◌≡◌}
use Rattle.text.proofs.Laws.{decimal-short, digits-end, digits_more, digits-one}
use Rattle.text.proofs.+put_digits.Goals as goal

pub returns-then-left-eq0 : goal.returns-then-left-eq0
returns-then-left-eq0 t c = digits-end _ _ _ _ c.if-left-eq0.true

pub returns-then-n-lt10 : goal.returns-then-n-lt10
returns-then-n-lt10 t c = digits-one _ _ _ _ c.if-left-eq0.false c.if-n-lt10.true

pub bounds-out-p : goal.bounds-out-p
bounds-out-p t c = let h : c.args.left ≡ 0 → ⊥ = c.if-left-eq0.false in omega (arith, c.put_digits-p.ensures.0, decimal-short (c.args.left - 1) (c.args.n / 10), c.put_digits-p.auto.out, c.requires)

pub overflow_add-result-2 : goal.overflow_add-result-2
overflow_add-result-2 t c = let h : c.args.left ≡ 0 → ⊥ = c.if-left-eq0.false in omega (arith, c.put_digits-p.ensures.0, decimal-short (c.args.left - 1) (c.args.n / 10), c.put_digits-p.auto.out, c.requires)

pub returns : goal.returns
returns t c = digits_more _ _ _ _ _ _ c.if-left-eq0.false c.if-n-lt10.false c.put_digits-p.ensures.0 c.put_digits-p.ensures.1
