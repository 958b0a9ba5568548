-- `ports::clear` meets its contract.
use Rattle.laws.specs.Prelude.{◌∙◌, ◌≡◌, ◌≤◌, length, not-false, not-true, subst, sym, true, ℕ}
use Rattle.ports_model.specs.Prelude.{Shaped, is_shaped, limits_ok}
use Rattle.ports_model.proofs.Laws.{shape-means}
use Rattle.ports.proofs.Blanks.{first-numbers, first-long, first-wiping}
use Rattle.ports.proofs.Returns.{clear-bad, clear-unfair, clear-done}
use Rattle.ports.proofs.clear.Goals as goal
use Rattle.ports.proofs.clear.Goals.{Else-not-is_shaped, Else-not-limits_fit}

-- places on the way, each from a later one

-- what has been tested so far
ok : (c : Else-not-is_shaped) → is_shaped c.args.s c.args.bits.now c.args.words.now ≡ true
ok c = sym c.is_shaped.ensures ∙ not-false c.is_shaped.result c.if-not-is_shaped.false-raw

shape : (c : Else-not-is_shaped) → Shaped c.args.s c.args.bits.now c.args.words.now
shape c = (shape-means _ _ _).says (ok c)

fair : (c : Else-not-limits_fit) → limits_ok c.args.s c.args.limits.now ≡ true
fair c = sym c.limits_fit.ensures ∙ not-false c.limits_fit.result c.if-not-limits_fit.false-raw

pub returns-then-not-is_shaped : goal.returns-then-not-is_shaped
returns-then-not-is_shaped c = clear-bad _ _ _ _ (sym c.is_shaped.ensures ∙ not-true c.is_shaped.result c.if-not-is_shaped.true-raw)

pub limits_fit-requires : goal.limits_fit-requires
limits_fit-requires c = (shape c).few

pub returns-then-not-limits_fit : goal.returns-then-not-limits_fit
returns-then-not-limits_fit c = clear-unfair _ _ _ _ (ok (goal.at.returns-then-not-limits_fit c).Else-not-is_shaped) (sym c.limits_fit.ensures ∙ not-true c.limits_fit.result c.if-not-limits_fit.true-raw)

pub seat_of-first-requires : goal.seat_of-first-requires
seat_of-first-requires c = record { numbers = first-numbers _ _ _ (shape (goal.at.seat_of-first-requires c).Else-not-is_shaped); port_in = (shape (goal.at.seat_of-first-requires c).Else-not-is_shaped).some }

pub bit_words-requires : goal.bit_words-requires
bit_words-requires c = first-numbers _ _ _ (shape (goal.at.bit_words-requires c).Else-not-is_shaped)

pub wipe-requires : goal.wipe-requires
wipe-requires c = subst (λ (n : ℕ). n ≤ length c.args.bits.now) (sym c.bit_words.ensures.is) (shape (goal.at.wipe-requires c).Else-not-is_shaped).bits

pub wipe_words-requires : goal.wipe_words-requires
wipe_words-requires c = record { wiping = first-wiping _ _ _ (shape (goal.at.wipe_words-requires c).Else-not-is_shaped) _ c.seat_of-first.ensures _ (fair (goal.at.wipe_words-requires c).Else-not-limits_fit); words_in = first-long _ _ _ (shape (goal.at.wipe_words-requires c).Else-not-is_shaped) _ c.seat_of-first.ensures }

pub returns : goal.returns
returns c = clear-done _ _ _ _ (ok (goal.at.returns c).Else-not-is_shaped) (fair (goal.at.returns c).Else-not-limits_fit) _ c.seat_of-first.ensures _ c.bit_words.ensures.is _ _ c.wipe.ensures c.wipe_words.ensures
