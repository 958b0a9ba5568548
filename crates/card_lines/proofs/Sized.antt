-- How many words the lines need.
use Rattle.laws.specs.Prelude.{Bool, ◌∙◌, ◌≡◌, ◌≤◌, arith, cond, false, refl, sym, true, true≢false, ℕ}
use Rattle.card_lines.specs.Lines.{lines_words, rows}
use Rattle.lines_model.proofs.Shaped.{shape-means}
use Rattle.lines_model.specs.Layout.{shape_ok, store_words}
use Rattle.lines_model.specs.declared.Rows.{Rows}
use Rattle.lines_work.proofs.Finds.{small}

-- No store needs more than the longest, so that the test may ask for any length from there on
module _ (kind lines places : ℕ) where
  abbrev k : Rows
  k = rows kind lines places

  longer : (a b : ℕ) → store_words k ≤ b → shape_ok k a ≡ true → shape_ok k b ≡ true
  longer a b h e = let s = (shape-means k a).says e in (shape-means k b).holds (record { kind = s.kind; lines = s.lines; low = s.low; high = s.high; words = h })

  pub words-most : (n : ℕ) → shape_ok k n ≡ true → store_words k ≤ 1573376
  words-most n e = omega (arith, (small k n e).lines, (small k n e).area)

  pub words-none : shape_ok k 1573376 ≡ false → 0 ≡ lines_words kind lines places
  unfolding lines_words
  words-none z = go (shape_ok k (store_words k)) refl
    where
      go : (b : Bool) → shape_ok k (store_words k) ≡ b → 0 ≡ cond b (store_words k) 0
      go true e = absurd (true≢false (sym (longer (store_words k) 1573376 (words-most (store_words k) e) e) ∙ z))
      go false e = refl

  pub words-some : shape_ok k 1573376 ≡ true → store_words k ≡ lines_words kind lines places
  unfolding lines_words
  words-some z = rw (longer 1573376 (store_words k) (omega arith) z) refl
