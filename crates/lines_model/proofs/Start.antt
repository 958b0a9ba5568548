-- A cleared store is sound, and any list of requests leaves one.
use Rattle.laws.specs.Prelude.{Element, List, Request, [], ◌<◌, ◌∙◌, ◌∷◌, ◌≡◌, ap, arith, length, refl, subst, suc, sym, zero, ℕ}
use Rattle.lines_model.proofs.Acts.{after, called-keeps, shape-ok}
use Rattle.lines_model.proofs.Keeps.{row_within}
use Rattle.lines_model.specs.Calls.{cleared, heads, lines, wipe}
use Rattle.lines_model.specs.Causes.{Shaped}
use Rattle.lines_model.specs.Layout.{row_at, row_in, Rows, store_words, word}
use Rattle.lines_model.specs.Promise.{line_in, Neat, Sound}
use Rattle.lines_model.specs.Rules.{choose}
use Rattle.promise.specs.Prelude.{leaves, leaves-keep}

pub wipe-long : (n : ℕ) (w : List ℕ) → length (wipe n w) ≡ length w
unfolding wipe
wipe-long zero w = refl
wipe-long (suc n) [] = refl
wipe-long (suc n) (x ∷ w) = ap suc (wipe-long n w)

pub wipe-zero : (n : ℕ) (w : List ℕ) (i : ℕ) → i < n → word (wipe n w) i ≡ 0
unfolding wipe
wipe-zero zero w i h = absurd (omega arith)
wipe-zero (suc n) [] i h = refl
wipe-zero (suc n) (x ∷ w) zero h = refl
wipe-zero (suc n) (x ∷ w) (suc i) h = wipe-zero n w i (omega arith)

module _ (k : Rows) (w : List ℕ) (s : Shaped k (length w)) where
  pub cleared-words : (cleared k w).words ≡ wipe (store_words k) w
  unfolding cleared
  cleared-words = rw (shape-ok k (length w) s) refl

  pub wiped : Sound k (wipe (store_words k) w) (λ l. [])
  unfolding row_in
  wiped =
      record {
        shaped = subst (Shaped k) (sym (wipe-long (store_words k) w)) s;
        count = λ l h. wipe-zero (store_words k) w l (omega arith);
        fit = λ l h. omega arith;
        row = λ l h. refl;
        neat = λ l h i p q. wipe-zero (store_words k) w i (omega (arith, row_within k l h));
        sorted = λ l h. tt;
        own = λ l h. tt;
      }

  pub start-sound : Sound k (cleared k w).words (λ l. [])
  start-sound = subst (λ (v : List ℕ). Sound k v (λ l. [])) (sym cleared-words) wiped

pub neat-keep : (k : Rows) (q : Request) (w : List ℕ) → Neat k w → Neat k (lines k q w).next
neat-keep k q w y = (after k (choose k (word w) (heads k w) q).due y.0, called-keeps k w y.0 y.1 q)

-- SORTED AND NEAT: from clear on a slice long enough, whatever was in it, for any list of requests
pub always-neat : (k : Rows) (w : List ℕ) → Shaped k (length w) → (qs : List Request) → Neat k (leaves (lines k) qs (cleared k w).words)
always-neat k w s qs = leaves-keep (lines k) (Neat k) (neat-keep k) qs (cleared k w).words ((λ l. []), start-sound k w s)

-- the lines are read off the words
pub line-is : (k : Rows) (w : List ℕ) (m : ℕ → List Element) → Sound k w m → (l : ℕ) → l < k.lines → line_in k w l ≡ m l
line-is k w m s l h = ap (row_in w (row_at k l)) (s.count l h) ∙ s.row l h
