-- The words that a level's work leaves at its node are the definitions'.
use Rattle.laws.specs.Prelude.{Bool, Element, List, ◌*◌, ◌+◌, ◌<◌, ◌∙◌, ◌≡◌, ◌≤◌, ap, ap₂, arith, cond, false, le-ltb, length, lt-ltb, ltb, refl, subst, sym, true, ℕ}
use Rattle.promise.specs.Prelude.{always}
use Rattle.cluster.proofs.Putted.{high-elem, high-place, raised-place}
use Rattle.cluster.proofs.Taken.{one_place}
use Rattle.cluster_model.proofs.Laws.{no-free, node-count}
use Rattle.cluster_model.specs.Prelude.{Node, Place, Side, begin, fewer, free, gap, has, high, high_elem, inside, keep, node_in, node_of, nothing_below, pass, put, put_by, raise, side_if, store, swap, swap_by, take, take_by, touch, width, word, works, write_node, write_place}
use Rattle.cluster_node.proofs.Bridge.{both_zero, look-free}
use Rattle.cluster_node.specs.Leaf.{bare_at, elem_at, look_node, place_in, raise_words}
use Rattle.cluster_node.specs.Seeing.{look_to}
use Rattle.cluster_node.specs.declared.Seen.{Seen}
use Rattle.cluster_clock_model.specs.Prelude.{child_of, loaded, no_stage, stage}
use Rattle.cluster_clock_model.specs.declared.Due.TheVariants as due
use Rattle.cluster_clock_model.specs.declared.Stage.{Stage}
use Rattle.cluster_clock_level.proofs.Settling.{under-is}
use Rattle.cluster_clock_level.specs.Stage.{Begins, op_of, Sited}
use Rattle.cluster_clock_level.specs.declared.Job.{Job}
use Rattle.cluster_clock_level.specs.declared.Job.TheVariants as job

-- ---- a put
module _ (K a n : ℕ) (ws : List ℕ) (g : Sited K (a + n) ws) (v : Seen) (seen : v ≡ look_to ws ((a + n) * width K + 2) K) (y : Element) where
  abbrev m : ℕ
  m = a + n

  abbrev x : Node
  x = node_in K ws (a + n)

  abbrev ps : List Place
  ps = (node_in K ws (a + n)).places

  size : length ps ≡ K
  size = node-count K ws (m * width K)

  free-at : v.free ≡ free ps
  unfolding node_of
  free-at = ap (λ (u : Seen). u.free) seen ∙ look-free ws (m * width K + 2) K

  -- an empty place
  pub put-free : v.free < K → (ws₁ : List ℕ) (q : Stage) → ws₁ ≡ write_place ws (place_in K m v.free) (has y) → q ≡ no_stage → Begins K a n 0 (put y) ws ws₁ q
  unfolding begin put_by loaded touch works
  put-free h ws₁ q e f =
      let t : ltb (free ps) (length ps) ≡ true = lt-ltb (free ps) (length ps) (omega (arith, size, free-at)) in
      record {
        words = rw t (e ∙ ap (λ (j : ℕ). write_place ws (place_in K m j) (has y)) free-at ∙ sym (one_place K ws m (free ps) (has y) (omega (arith, free-at)) g.neat));
        stage = rw t f;
      }

  -- full
  module _ (h : K ≤ v.free) where
    full : inside always ps ≡ length ps
    full = no-free ps (omega (arith, size, free-at))

    some : 0 < inside always ps
    some = omega (arith, full, size, g.lies.some)

    high-at : v.high ≡ high ps
    unfolding look_node
    high-at = ap (λ (u : Seen). u.high) seen ∙ high-place K ws m some

    pub high-in : v.high < K
    high-in = omega (arith, high-at, (high-elem K ws m some).0)

    met : (e : Element) → e ≡ elem_at ws (place_in K m v.high) → e ≡ high_elem ps
    met e p = p ∙ ap (λ (j : ℕ). elem_at ws (place_in K m j)) high-at ∙ (high-elem K ws m some).1

    pub put_full : (right : Bool) (e stays rest : Element) (ws₁ ws₂ : List ℕ) (node : ℕ) → right ≡ ltb (word ws (m * width K + 1)) (word ws (m * width K)) → e ≡ elem_at ws (place_in K m v.high) → stays ≡ keep y e → rest ≡ pass y e
        → ws₁ ≡ raise_words right ws (m * width K) (word ws (m * width K)) (word ws (m * width K + 1)) → ws₂ ≡ write_place ws₁ (place_in K m v.high) (has stays)
        → node ≡ cond right (n + n + 1) (n + n) → Begins K a n 0 (put y) ws ws₂ (stage (due.Put rest) node)
    unfolding begin put_by fewer node_of loaded touch works
    put_full right e stays rest ws₁ ws₂ node er ee es ep e₁ e₂ en =
        let o : ℕ = m * width K in
        let z : Element = keep y (high_elem ps) in
        let t : ltb (free ps) (length ps) ≡ false = le-ltb (free ps) (length ps) (omega (arith, size, free-at)) in
        let kept : stays ≡ z = es ∙ ap (keep y) (met e ee) in
        let passed : rest ≡ pass y (high_elem ps) = ep ∙ ap (pass y) (met e ee) in
        let side : side_if right ≡ fewer x = ap side_if er in
        let under-here : node ≡ child_of n (fewer x) = under-is n node right en ∙ ap (child_of n) side in
        record {
          words =
              rw t
              (e₂ ∙ ap₂ (λ (u : List ℕ) (z : Element). write_place u (place_in K m v.high) (has z)) e₁ kept
              ∙ ap (λ (j : ℕ). write_place (raise_words right ws o (word ws o) (word ws (o + 1))) (place_in K m j) (has z)) high-at
              ∙ sym (raised-place K ws m (high ps) (has z) right (high-elem K ws m some).0 g.neat)
              ∙ ap (λ (s : Side). write_node ws o (raise s (store (high ps) (has z) x))) side);
          stage = rw t (ap₂ (λ (z : Element) (i : ℕ). stage (due.Put z) i) passed under-here);
        }

-- ---- a take or a swap
module _ (K a n j : ℕ) (ws : List ℕ) (g : Sited K (a + n) ws) (h : j < K) (bare : Bool) (empty : bare ≡ bare_at ws ((a + n) * width K)) where
  below-is : nothing_below (node_in K ws (a + n)) ≡ bare
  unfolding bare_at nothing_below node_of
  below-is = sym (both_zero (word ws ((a + n) * width K)) (word ws ((a + n) * width K + 1))) ∙ sym empty

  module _ (ws₁ : List ℕ) (e : ws₁ ≡ write_place ws (place_in K (a + n) j) gap) where
    pub take_last : bare ≡ true → (q : Stage) → q ≡ no_stage → Begins K a n j take ws ws₁ q
    unfolding begin take_by loaded touch works
    take_last b q f = record { words = rw (below-is ∙ b) (e ∙ sym (one_place K ws (a + n) j gap h g.neat)); stage = rw (below-is ∙ b) f }

    pub take_more : bare ≡ false → Begins K a n j take ws ws₁ (stage (due.Fill j) n)
    unfolding begin take_by loaded touch works
    take_more b = record { words = rw (below-is ∙ b) (e ∙ sym (one_place K ws (a + n) j gap h g.neat)); stage = rw (below-is ∙ b) refl }

  module _ (x : Element) (ws₁ : List ℕ) (e : ws₁ ≡ write_place ws (place_in K (a + n) j) (has x)) where
    pub swap-last : bare ≡ true → (q : Stage) → q ≡ no_stage → Begins K a n j (swap x) ws ws₁ q
    unfolding begin swap_by loaded touch works
    swap-last b q f = record { words = rw (below-is ∙ b) (e ∙ sym (one_place K ws (a + n) j (has x) h g.neat)); stage = rw (below-is ∙ b) f }

    pub swap-more : bare ≡ false → Begins K a n j (swap x) ws ws₁ (stage (due.Swap j x) n)
    unfolding begin swap_by loaded touch works
    swap-more b = record { words = rw (below-is ∙ b) (e ∙ sym (one_place K ws (a + n) j (has x) h g.neat)); stage = rw (below-is ∙ b) refl }

-- ---- a level's work, by its job
module _ (K a n j : ℕ) (ws : List ℕ) (b : Job) where
  pub rest-begins : b ≡ job.Rest → (q : Stage) → q ≡ no_stage → Begins K a n j (op_of b) ws ws q
  unfolding op_of begin loaded touch works
  rest-begins e q f = subst (λ (b : Job). Begins K a n j (op_of b) ws ws q) (sym e) (record { words = refl; stage = f })

  module _ (ws₁ : List ℕ) (q : Stage) where
    pub put-begins : (y : Element) → b ≡ job.Put y → Begins K a n 0 (put y) ws ws₁ q → Begins K a n j (op_of b) ws ws₁ q
    unfolding op_of begin
    put-begins y e g = subst (λ (b : Job). Begins K a n j (op_of b) ws ws₁ q) (sym e) (record { words = g.words; stage = g.stage })

    pub take_begins : b ≡ job.Take → Begins K a n j take ws ws₁ q → Begins K a n j (op_of b) ws ws₁ q
    unfolding op_of
    take_begins e g = subst (λ (b : Job). Begins K a n j (op_of b) ws ws₁ q) (sym e) g

    pub swap_begins : (x : Element) → b ≡ job.Swap x → Begins K a n j (swap x) ws ws₁ q → Begins K a n j (op_of b) ws ws₁ q
    unfolding op_of
    swap_begins x e g = subst (λ (b : Job). Begins K a n j (op_of b) ws ws₁ q) (sym e) g
