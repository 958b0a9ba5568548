-- The code's scan and tests are those of the definitions.
use Rattle.laws.specs.Prelude.{Bool, Element, List, [], ◌&&◌, ◌*◌, ◌++◌, ◌+◌, ◌<◌, ◌∙◌, ◌∷◌, ◌≡◌, ◌≤◌, ap, arith, cond, element_in, element_words, eq-eqb, eqb, eqb-false, eqb-true, false, le-ltb, length, lt-ltb, ltb, ltb-false, ltb-true, ne_eqb, not, refl, suc, sym, true, zero, ℕ}
use Rattle.promise.specs.Prelude.{always}
use Rattle.cluster_model.specs.Prelude.{Place, free, free_here, gap, has, hit_at, inside, neat_place, neat_to, node_of, node_ok, nothing_below, place_by, place_of, place_words, row_of, seek, strict, width, word}
use Rattle.cluster_node.specs.Scan.{lower_than, high_as, scan}
use Rattle.cluster_node.specs.Seeing.{is_flagged, see_one, look_to}
use Rattle.cluster_node.specs.Leaf.{bare_at, ok_by, look_node}
use Rattle.cluster_model.proofs.Laws.{node-count}
use Rattle.cluster_node.proofs.ScanCode.{row-place}
use Rattle.cluster_node.proofs.Looks.{within}

-- ---- the scan
pub look-neat : (K : ℕ) (ws : List ℕ) (o n : ℕ) → (look_to ws o n).neat ≡ neat_to K ws o n
unfolding look_to see_one neat_to
look-neat K ws o zero = refl
look-neat K ws o (suc n) = ap (λ (b : Bool). b && neat_place ws (o + n * place_words)) (look-neat K ws o n)

inside-last : (f : Element → Bool) (n : ℕ) (ws : List ℕ) (o : ℕ) → inside f (row_of place_of place_words (suc n) ws o) ≡ inside f (row_of place_of place_words n ws o) + hit_at f (place_of ws (o + n * place_words))
unfolding inside row_of
inside-last f zero ws o = let at : o ≡ o + 0 * place_words = omega arith in let e = ap (λ (i : ℕ). hit_at f (place_of ws i)) at in omega (arith, e)
inside-last f (suc n) ws o =
    let at : o + place_words + n * place_words ≡ o + suc n * place_words = omega arith in
    let e = ap (λ (i : ℕ). hit_at f (place_of ws i)) at in
    omega (arith, inside-last f n ws (o + place_words), e)

none : (ws : List ℕ) (o : ℕ) → 0 ≡ inside always (row_of place_of place_words 0 ws o)
unfolding inside row_of
none ws o = refl

count_next : (ws : List ℕ) (p c : ℕ) → cond (is_flagged ws p) (c + 1) c ≡ c + hit_at always (place_of ws p)
unfolding is_flagged place_of place_by
count_next ws p c = go (eqb (word ws (p + element_words)) 0)
  where
    go : (b : Bool) → cond (not b) (c + 1) c ≡ c + hit_at always (place_by b (element_in ws p))
    go true = omega arith
    go false = refl

pub look-count : (ws : List ℕ) (o n : ℕ) → (look_to ws o n).count ≡ inside always (row_of place_of place_words n ws o)
unfolding look_to see_one
look-count ws o zero = none ws o
look-count ws o (suc n) =
    let c : ℕ = (look_to ws o n).count in
    count_next ws (o + n * place_words) c ∙ ap (λ (i : ℕ). i + hit_at always (place_of ws (o + n * place_words))) (look-count ws o n) ∙ sym (inside-last always n ws o)

pub look-low : (ws : List ℕ) (o n j : ℕ) → j ≤ n → (look_to ws o j).low ≡ scan lower_than (row_of place_of place_words n ws o) j
unfolding look_to see_one scan
look-low ws o n zero h = refl
look-low ws o n (suc j) h =
    let l : ℕ = (look_to ws o j).low in
    let e : l ≡ scan lower_than (row_of place_of place_words n ws o) j = look-low ws o n j (omega arith) in
    let b : l < n = omega (arith, (within ws o j).low) in
    rw (← e, row-place n ws o j h, row-place n ws o l b) refl

pub look-high : (ws : List ℕ) (o n j : ℕ) → j ≤ n → (look_to ws o j).high ≡ scan high_as (row_of place_of place_words n ws o) j
unfolding look_to see_one scan
look-high ws o n zero h = refl
look-high ws o n (suc j) h =
    let l : ℕ = (look_to ws o j).high in
    let e : l ≡ scan high_as (row_of place_of place_words n ws o) j = look-high ws o n j (omega arith) in
    let b : l < n = omega (arith, (within ws o j).high) in
    rw (← e, row-place n ws o j h, row-place n ws o l b) refl

-- ---- the tests of a node
pub both_zero : (l r : ℕ) → (eqb l 0 && eqb r 0) ≡ eqb (l + r) 0
both_zero l r = go (eqb l 0) refl (eqb r 0) refl
  where
    go : (a : Bool) → eqb l 0 ≡ a → (b : Bool) → eqb r 0 ≡ b → (a && b) ≡ eqb (l + r) 0
    go true p true q = sym (eq-eqb (l + r) 0 (omega (arith, eqb-true l 0 p, eqb-true r 0 q)))
    go true p false q = sym (ne_eqb (l + r) 0 (λ e. omega (arith, eqb-false r 0 q)))
    go false p b q = sym (ne_eqb (l + r) 0 (λ e. omega (arith, eqb-false l 0 p)))

pub test-is : (K limit : ℕ) (ws : List ℕ) (m : ℕ) → ok_by K limit ws (m * width K) (look_node K ws m) ≡ node_ok K limit ws m
unfolding ok_by node_ok strict look_node nothing_below bare_at node_of
test-is K limit ws m =
    let o : ℕ = m * width K in
    rw (look-neat K ws (o + 2) K, look-count ws (o + 2) K, both_zero (word ws o) (word ws (o + 1)), node-count K ws o) refl

-- ---- the first empty place
free_snoc : (ps : List Place) (p : Place) → free (ps ++ p ∷ []) ≡ cond (ltb (free ps) (length ps)) (free ps) (length ps + hit_at always p)
unfolding free seek free_here
free_snoc [] gap = refl
free_snoc [] (has e) = refl
free_snoc (gap ∷ ps) p = rw (lt-ltb 0 (suc (length ps)) (omega arith)) refl
free_snoc (has e ∷ ps) p = ap suc (free_snoc ps p) ∙ go (ltb (free ps) (length ps)) refl
  where
    go : (b : Bool) → ltb (free ps) (length ps) ≡ b
        → suc (cond b (free ps) (length ps + hit_at always p)) ≡ cond (ltb (suc (free ps)) (suc (length ps))) (suc (free ps)) (suc (length ps) + hit_at always p)
    go true q = rw (lt-ltb (suc (free ps)) (suc (length ps)) (omega (arith, ltb-true (free ps) (length ps) q))) refl
    go false q = rw (le-ltb (suc (free ps)) (suc (length ps)) (omega (arith, ltb-false (free ps) (length ps) q))) (omega arith)

row_snoc : (n : ℕ) (ws : List ℕ) (o : ℕ) → row_of place_of place_words (suc n) ws o ≡ row_of place_of place_words n ws o ++ place_of ws (o + n * place_words) ∷ []
unfolding row_of
row_snoc zero ws o = let at : o ≡ o + 0 * place_words = omega arith in ap (λ (i : ℕ). place_of ws i ∷ []) at
row_snoc (suc n) ws o =
    let at : o + place_words + n * place_words ≡ o + suc n * place_words = omega arith in
    ap (λ (l : List Place). place_of ws o ∷ l) (row_snoc n ws (o + place_words) ∙ ap (λ (i : ℕ). row_of place_of place_words n ws (o + place_words) ++ place_of ws i ∷ []) at)

row_count : (n : ℕ) (ws : List ℕ) (o : ℕ) → length (row_of place_of place_words n ws o) ≡ n
unfolding row_of
row_count zero ws o = refl
row_count (suc n) ws o = ap suc (row_count n ws (o + place_words))

free-le : (ps : List Place) → free ps ≤ length ps
unfolding free seek free_here
free-le [] = omega arith
free-le (gap ∷ ps) = omega arith
free-le (has e ∷ ps) = omega (arith, free-le ps)

flagged-hit : (ws : List ℕ) (p : ℕ) → hit_at always (place_of ws p) ≡ cond (is_flagged ws p) 1 0
unfolding is_flagged place_of place_by
flagged-hit ws p = go (eqb (word ws (p + element_words)) 0)
  where
    go : (b : Bool) → hit_at always (place_by b (element_in ws p)) ≡ cond (not b) 1 0
    go true = refl
    go false = refl

free-next : (f n : ℕ) (b : Bool) → f ≤ n → cond (b && eqb f n) (n + 1) f ≡ cond (ltb f n) f (n + cond b 1 0)
free-next f n b h = go (eqb f n) refl b
  where
    go : (t : Bool) → eqb f n ≡ t → (b : Bool) → cond (b && t) (n + 1) f ≡ cond (ltb f n) f (n + cond b 1 0)
    go true e true = rw (le-ltb f n (omega (arith, eqb-true f n e))) refl
    go true e false = rw (le-ltb f n (omega (arith, eqb-true f n e))) (omega (arith, eqb-true f n e))
    go false e true = let ne : f ≡ n → ⊥ = eqb-false f n e in rw (lt-ltb f n (omega arith)) refl
    go false e false = let ne : f ≡ n → ⊥ = eqb-false f n e in rw (lt-ltb f n (omega arith)) refl

none_free : (ws : List ℕ) (o : ℕ) → 0 ≡ free (row_of place_of place_words 0 ws o)
unfolding free seek row_of
none_free ws o = refl

pub look-free : (ws : List ℕ) (o n : ℕ) → (look_to ws o n).free ≡ free (row_of place_of place_words n ws o)
unfolding look_to see_one
look-free ws o zero = none_free ws o
look-free ws o (suc n) =
    let f : ℕ = (look_to ws o n).free in
    let ps : List Place = row_of place_of place_words n ws o in
    let e : f ≡ free ps = look-free ws o n in
    let le : f ≤ n = omega (arith, e, free-le ps, row_count n ws o) in
    free-next f n (is_flagged ws (o + n * place_words)) le
    ∙ sym (ap free (row_snoc n ws o) ∙ free_snoc ps (place_of ws (o + n * place_words)) ∙ rw (row_count n ws o, ← e, flagged-hit ws (o + n * place_words)) refl)
