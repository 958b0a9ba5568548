-- Each test for damage fails exactly where the place, the node, the step or the path is damaged; and the shape's test says what 02's numbers say.
use Rattle.laws.specs.Prelude.{Bool, Element, Fails, List, Means, ◌&&◌, ◌*◌, ◌+◌, ◌<◌, ◌||◌, ◌≡◌, ◌≤◌, ◌⊎◌, arith, element_in, eqb, eqb-false, eqb-true, fails-and, fails-leb, fails-or, fails-true, false, inl, inr, is_blank, le-ltb, leb, length, ltb, ltb-false, means-and, means-by, means-leb, ne_eqb, refl, suc, true, true≢false, zero, ℕ, ⊎_elim}
use Rattle.promise.specs.Prelude.{always, blank-fails}
use Rattle.strip.proofs.Words.{blank-says}
use Rattle.cluster_model.specs.Prelude.{AnyTo, ChildDamaged, Node, NodeDamaged, Op, PathDamaged, PlaceDamaged, Shape, StepDamaged, Stuck, child, children_ok, extent, inside, lhs, flag_at, flagged, neat_place, neat_to, node_in, node_ok, none, nothing_below, own_ok, place_limit, place_words, put, read_ok, rhs, room, roomy, shape_ok, some, step_in, strict, swap, take, under1, way_ok, width, word}
use Rattle.cluster_model.proofs.Pass.{node-count}

-- the same damage in other words
pub fails_by : {t : Bool} {A B : Type 0} → Fails t A → (A → B) → (B → A) → Fails t B
fails_by p f g = record { found = λ e. f (p.found e); shown = λ b. p.shown (g b) }

pub fails-ltb : (a b : ℕ) → Fails (ltb a b) (b ≤ a)
fails-ltb a b = record { found = λ e. ltb-false a b e; shown = λ h. le-ltb a b h }

-- ---- a place
pub place-fails : (ws : List ℕ) (o : ℕ) → Fails (neat_place ws o) (PlaceDamaged ws o)
unfolding neat_place
place-fails ws o = go (eqb m 0) refl (eqb m 1) refl (is_blank x) refl
  where
    x : Element
    x = element_in ws o

    m : ℕ
    m = word ws (flag_at o)

    one : m ≡ 1 → PlaceDamaged ws o → ⊥
    one e d = ⊎_elim (λ h. omega arith) (λ h. omega (arith, h.0)) d

    go : (a : Bool) → eqb m 0 ≡ a → (u : Bool) → eqb m 1 ≡ u → (b : Bool) → is_blank x ≡ b → Fails ((a && b) || u) (PlaceDamaged ws o)
    go true pa u pu true pb =
        record {
          found = λ e. absurd (true≢false e);
          shown = λ d. absurd (⊎_elim (λ h. omega (arith, eqb-true m 0 pa)) (λ h. h.1 (blank-says x pb)) d);
        }
    go true pa true pu false pb = absurd (omega (arith, eqb-true m 0 pa, eqb-true m 1 pu))
    go true pa false pu false pb = record { found = λ e. inr (eqb-true m 0 pa, (blank-fails x).found pb); shown = λ d. refl }
    go false pa true pu b pb = record { found = λ e. absurd (true≢false e); shown = λ x. absurd (one (eqb-true m 1 pu) x) }
    go false pa false pu b pb =
        let n0 : m ≡ 0 → ⊥ = eqb-false m 0 pa in
        let n1 : m ≡ 1 → ⊥ = eqb-false m 1 pu in
        record { found = λ e. inl (omega arith); shown = λ d. refl }

pub to-fails : (K : ℕ) (ws : List ℕ) (o n : ℕ) → Fails (neat_to K ws o n) (AnyTo n (λ j. PlaceDamaged ws (o + j * place_words)))
unfolding neat_to
to-fails K ws o zero = fails-true
to-fails K ws o (suc n) = fails-and (neat_to K ws o n) (neat_place ws (o + n * place_words)) (to-fails K ws o n) (place-fails ws (o + n * place_words))

-- ---- a node
pub below_fails : (n : Node) → Fails (nothing_below n) (0 < n.left + n.right)
unfolding nothing_below
below_fails n = record { found = λ e. let ne : n.left + n.right ≡ 0 → ⊥ = eqb-false (n.left + n.right) 0 e in omega arith; shown = λ h. ne_eqb (n.left + n.right) 0 (λ e. omega arith) }

pub node-fails : (K limit : ℕ) (ws : List ℕ) (m : ℕ) → Fails (node_ok K limit ws m) (NodeDamaged K limit ws m)
unfolding node_ok strict
node-fails K limit ws m =
    let n : Node = node_in K ws m in
    let size : length n.places ≡ K = node-count K ws (m * width K) in
    fails-and (neat_to K ws (m * width K + 2) K) _ (to-fails K ws (m * width K + 2) K)
    (fails-and (leb n.left limit) _ (fails-leb n.left limit)
    (fails-and (leb n.right limit) _ (fails-leb n.right limit)
    (fails-or (nothing_below n) (leb (length n.places) (inside always n.places)) (below_fails n)
    (fails_by (fails-leb (length n.places) (inside always n.places)) (λ h. omega arith) (λ h. omega arith)))))

-- ---- a step
pub room-fails : (K limit : ℕ) (ws : List ℕ) (m : ℕ) → Fails (roomy limit (node_in K ws m)) (Stuck K limit (node_in K ws m))
unfolding roomy
room-fails K limit ws m =
    let n : Node = node_in K ws m in
    let size : length n.places ≡ K = node-count K ws (m * width K) in
    fails-or (ltb (inside always n.places) (length n.places)) _
    (fails_by (fails-ltb (inside always n.places) (length n.places)) (λ h. omega arith) (λ h. omega arith))
    (fails-or (ltb n.left limit) (ltb n.right limit) (fails-ltb n.left limit) (fails-ltb n.right limit))

pub some-fails : (n : Node) → Fails (some n) (flagged n ≡ 0)
unfolding some
some-fails n = fails_by (fails-ltb 0 (flagged n)) (λ h. omega arith) (λ h. omega arith)

read-fails : (K x limit : ℕ) (ws : List ℕ) (m : ℕ) → Fails (read_ok K (eqb x 0) limit ws m) (ChildDamaged K x limit ws m)
unfolding read_ok
read-fails K x limit ws m = go (eqb x 0) refl
  where
    go : (b : Bool) → eqb x 0 ≡ b → Fails (read_ok K b limit ws m) (ChildDamaged K x limit ws m)
    go true e = record { found = λ z. absurd (true≢false z); shown = λ d. absurd (omega (arith, eqb-true x 0 e, d.0)) }
    go false e =
        let ne : x ≡ 0 → ⊥ = eqb-false x 0 e in
        fails_by (fails-and (node_ok K limit ws m) (some (node_in K ws m)) (node-fails K limit ws m) (some-fails (node_in K ws m))) (λ d. (omega arith, d)) (λ d. d.1)

module _ (K : ℕ) where
  children-fails : (k m : ℕ) (ws : List ℕ)
      → Fails (children_ok K k ws m) (ChildDamaged K (node_in K ws m).left (under1 K k) ws (child m lhs) ⊎ ChildDamaged K (node_in K ws m).right (under1 K k) ws (child m rhs))
  unfolding children_ok
  children-fails k m ws =
      fails-and (read_ok K (eqb (node_in K ws m).left 0) (under1 K k) ws (child m lhs)) _ (read-fails K (node_in K ws m).left (under1 K k) ws (child m lhs))
      (read-fails K (node_in K ws m).right (under1 K k) ws (child m rhs))

  step-fails : (k : ℕ) (o : Op) (m : ℕ) (ws : List ℕ) → Fails (own_ok K k o m ws) (StepDamaged K k o m ws)
  unfolding own_ok
  step-fails k none m ws = fails-true
  step-fails k (put x) m ws = fails-and (node_ok K (room K k) ws m) _ (node-fails K (room K k) ws m) (room-fails K (room K k) ws m)
  step-fails k take m ws = fails-and (node_ok K (room K k) ws m) _ (node-fails K (room K k) ws m) (children-fails k m ws)
  step-fails k (swap x) m ws = fails-and (node_ok K (room K k) ws m) _ (node-fails K (room K k) ws m) (children-fails k m ws)

  pub path-fails : (k : ℕ) (o : Op) (m : ℕ) (ws : List ℕ) → Fails (way_ok K k o m ws) (PathDamaged K k o m ws)
  unfolding way_ok
  path-fails zero o m ws = fails-true
  path-fails (suc k) o m ws = fails-and (own_ok K k o m ws) _ (step-fails k o m ws) (path-fails k (step_in K k o m ws).op (child m (step_in K k o m ws).side) ws)

-- ---- the shape
pub shape-means : (K levels len : ℕ) → Means (shape_ok K levels len) (Shape K levels len)
unfolding shape_ok
shape-means K levels len =
    means-by (means-and (means-leb 2 K) (means-and (means-leb K 16) (means-and (means-leb 1 levels) (means-and (means-leb (room K levels) place_limit) (means-leb (extent K levels 1) len)))))
    (λ p. record { two = p.0; sixteen = p.1.0; some = p.1.1.0; capacity = p.1.1.1.0; slice = p.1.1.1.1 })
    (λ s. (s.two, (s.sixteen, (s.some, (s.capacity, s.slice)))))

pub shape_is : (K levels len : ℕ) → shape_ok K levels len ≡ true → Shape K levels len
shape_is K levels len = (shape-means K levels len).says

pub is-shape : (K levels len : ℕ) → Shape K levels len → shape_ok K levels len ≡ true
is-shape K levels len = (shape-means K levels len).holds
