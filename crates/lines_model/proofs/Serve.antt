-- What a store holds, by counting for every test; and that the line that gives has the lowest rank of all that is held.
use Rattle.laws.specs.Prelude.{All, Bool, Element, List, [], ◌+◌, ◌<◌, ◌∙◌, ◌∷◌, ◌≡◌, ◌≤◌, all_map, ap, arith, dec_lt, element_in, eq-eqb, le-ltb, length, ltb, ltb-false, ne_eqb, refl, subst, suc, sym, zero, ℕ, ℕ_discrete}
use Rattle.lines_model.proofs.Acts.{giver-fits, put, taken, uncons}
use Rattle.lines_model.proofs.Order.{order-all, order-else, order-length, order-times}
use Rattle.lines_model.proofs.Start.{line-is}
use Rattle.lines_model.proofs.Which.{line-mono, lowest-least, sought, spans}
use Rattle.lines_model.specs.Calls.{heads}
use Rattle.lines_model.specs.Causes.{Own}
use Rattle.lines_model.specs.Layout.{behind, row_at, row_in, Rows, word}
use Rattle.lines_model.specs.Promise.{in_order, line_in, Sound, stored, stored_by}
use Rattle.lines_model.specs.Rules.{giver, lowest, seek, total}
use Rattle.promise.proofs.FirstIn.{times-all, times-insert}
use Rattle.promise.specs.FirstIn.{insert, Sorted, times}
use Rattle.promise.specs.Prelude.{always, hit, lower}

-- ---- what a store holds

pub stored_is : (k : Rows) (w : List ℕ) (m : ℕ → List Element) → Sound k w m → stored k w ≡ in_order m 0 k.lines
unfolding stored
stored_is k w m s = order-else m (line_in k w) 0 k.lines (λ j a b. line-is k w m s j (omega arith))

head_of : (w : List ℕ) (a n : ℕ) (t : Element) (ts : List Element) → row_in w a n ≡ t ∷ ts → element_in w a ≡ t
unfolding row_in
head_of w a zero t ts e = let z : ◌≡◌ {A = ℕ} 0 1 = cc in absurd (omega arith)
head_of w a (suc n) t ts e = cc

-- the first place is the first element
pub head-is : (k : Rows) (w : List ℕ) (m : ℕ → List Element) → Sound k w m → (l : ℕ) → l < k.lines → (t : Element) (ts : List Element) → m l ≡ t ∷ ts → heads k w l ≡ t
head-is k w m s l h t ts e = head_of w (row_at k l) (length (m l)) t ts (s.row l h ∙ e)

-- ---- one call, by counting for every test

module _ (k : Rows) (w : List ℕ) (m : ℕ → List Element) (s : Sound k w m) (f : Element → Bool) where
  abbrev many : (ℕ → List Element) → ℕ
  many n = times f (in_order n 0 k.lines)

  pub put-sum : (n : ℕ → List Element) (l : ℕ) (x : Element) → l < k.lines → many (put n l x) ≡ many n + hit (f x)
  put-sum n l x h = omega (arith, order-times f n l (insert x (n l)) 0 k.lines (omega arith) (omega arith), times-insert f x (n l))

  pub take-sum : (l : ℕ) → l < k.lines → 0 < length (m l) → many (taken m l) + hit (f (heads k w l)) ≡ many m
  unfolding times
  take-sum l h p =
      let u = uncons (m l) p in
      let e : hit (f (heads k w l)) ≡ hit (f u.0) = ap (λ (y : Element). hit (f y)) (head-is k w m s l h u.0 u.1 u.2) in
      let a : times f (m l) ≡ hit (f u.0) + times f u.1 = ap (times f) u.2 in
      let b : times f (behind (m l)) ≡ times f u.1 = ap (λ (ys : List Element). times f (behind ys)) u.2 in
      omega (arith, order-times f m l (behind (m l)) 0 k.lines (omega arith) (omega arith))

-- ---- the lowest rank

pub none-lower : (r : ℕ) (l : List Element) → All (λ y. r ≤ y.rank.0) l → times (lower r) l ≡ 0
unfolding times
none-lower r [] a = refl
none-lower r (y ∷ l) a = rw (le-ltb y.rank.0 r a.0) (omega (arith, none-lower r l a.1))

first-least : (r : ℕ) (l : List Element) → Sorted l → ((t : Element) (ts : List Element) → l ≡ t ∷ ts → r ≤ t.rank.0) → All (λ y. r ≤ y.rank.0) l
first-least r [] s h = tt
first-least r (t ∷ ts) s h = let a : r ≤ t.rank.0 = h t ts refl in (a, all_map _ _ (λ y b. omega arith) ts s.0)

pub empty-line : (l : List Element) → length l ≡ 0 → l ≡ []
empty-line [] e = refl
empty-line (x ∷ l) e = absurd (omega arith)

module _ (k : Rows) (w : List ℕ) (m : ℕ → List Element) (s : Sound k w m) where
  abbrev c : ℕ → ℕ
  c = word w

  abbrev h : ℕ → Element
  h = heads k w

  -- kind 1: a line behind has the higher ranks
  pub behind-higher : (k.kind ≡ 1) → (i j : ℕ) → i < j → (x : Element) → Own k i x → (y : Element) → Own k j y → x.rank.0 < y.rank.0
  behind-higher e i j l x p y q = elim (dec_lt x.rank.0 y.rank.0) [
    | yes d ↦ d
    | no d ↦ absurd (omega (arith, line-mono k (spans k.lines s.shaped.lines) y.rank.0 x.rank.0 (omega arith), (p e).1, (q e).1))
  ]

  module _ (some : total (word w) k.lines ≡ 0 → ⊥) where
    abbrev g : ℕ
    g = giver k (word w) (heads k w)

    g< : giver k (word w) (heads k w) < k.lines
    g< = (giver-fits k (length w) s.shaped (word w) (heads k w) some).0

    first : (x : Element) × (xs : List Element) × (m (giver k (word w) (heads k w)) ≡ x ∷ xs)
    first = uncons (m g) (omega (arith, (giver-fits k (length w) s.shaped (word w) (heads k w) some).1, s.count g g<))

    -- kind 1: no line before the giver holds anything
    pub before-empty : k.kind ≡ 1 → (j : ℕ) → j < giver k (word w) (heads k w) → m j ≡ []
    before-empty e j l =
        let p : giver k (word w) (heads k w) ≡ seek (λ l. ltb 0 (word w l)) k.lines = unfold giver in rw (eq-eqb k.kind 1 e) refl in
        empty-line (m j) (omega (arith, s.count j (omega (arith, g<)), ltb-false 0 (word w j) ((sought (λ l. ltb 0 (word w l)) k.lines).before j (omega arith))))

    least-one : k.kind ≡ 1 → (j : ℕ) → j < k.lines → All (λ y. (heads k w g).rank.0 ≤ y.rank.0) (m j)
    least-one e j b =
        let hd = head-is k w m s g g< first.0 first.1 first.2 in
        elim (dec_lt j g) [
          | yes d ↦ subst (All (λ y. (heads k w g).rank.0 ≤ y.rank.0)) (sym (before-empty e j d)) tt
          | no d ↦ elim (ℕ_discrete j g) [
            | yes p ↦ subst (λ (i : ℕ). All (λ y. (heads k w g).rank.0 ≤ y.rank.0) (m i)) (sym p) (first-least (heads k w g).rank.0 (m g) (s.sorted g g<) (λ t ts q. let z : (heads k w g).rank.0 ≡ t.rank.0 = ap (λ (y : Element). y.rank.0) (head-is k w m s g g< t ts q) in omega arith))
            | no p ↦ all_map _ _ (λ y o. let z : (heads k w g).rank.0 ≡ first.0.rank.0 = ap (λ (y : Element). y.rank.0) hd in omega (arith, behind-higher e g j (omega arith) first.0 (subst (All (Own k g)) first.2 (s.own g g<)).0 y o)) (m j) (s.own j b)
          ]
        ]

    least-two : (k.kind ≡ 1 → ⊥) → (j : ℕ) → j < k.lines → All (λ y. (heads k w g).rank.0 ≤ y.rank.0) (m j)
    least-two e j b =
        let p : giver k (word w) (heads k w) ≡ lowest (word w) (heads k w) k.lines = unfold giver in rw (ne_eqb k.kind 1 e) refl in
        first-least (heads k w g).rank.0 (m j) (s.sorted j b)
        (λ t ts q. let n : length (m j) ≡ suc (length ts) = ap length q in
        let z : (heads k w j).rank.0 ≡ t.rank.0 = ap (λ (y : Element). y.rank.0) (head-is k w m s j b t ts q) in
        let v : (heads k w g).rank.0 ≡ (heads k w (lowest (word w) (heads k w) k.lines)).rank.0 = ap (λ (i : ℕ). (heads k w i).rank.0) p in
        omega (arith, ((lowest-least (word w) (heads k w) k.lines).least j b (omega (arith, s.count j b))).1))

    pub giver-least : times (lower (heads k w g).rank.0) (stored k w) ≡ 0
    giver-least =
        rw (stored_is k w m s)
        (none-lower (heads k w g).rank.0 (in_order m 0 k.lines) (order-all (λ y. (heads k w g).rank.0 ≤ y.rank.0) m 0 k.lines (λ j a b. elim (ℕ_discrete k.kind 1) [ yes e ↦ least-one e j (omega arith) | no e ↦ least-two e j (omega arith) ])))

  -- HELD: the counts' sum is how many are held
  pub held-length : total (word w) k.lines ≡ length (in_order m 0 k.lines)
  unfolding total
  held-length =
      let z : 0 + k.lines ≡ k.lines = omega arith in
      let y : total (word w) (0 + k.lines) ≡ total (word w) k.lines = ap (total (word w)) z in
      omega (arith, order-length m (word w) 0 k.lines (λ j l. s.count j (omega arith)))

  pub held_all : total (word w) k.lines ≡ stored_by k w always
  held_all = held-length ∙ ap length (sym (stored_is k w m s)) ∙ sym (times-all (stored k w))
