-- The take in the code's shape is the take of the definitions, tests included.
use Rattle.laws.specs.Prelude.{Bool, Element, List, ◌&&◌, ◌*◌, ◌+◌, ◌<◌, ◌||◌, ◌∙◌, ◌≡◌, ◌≤◌, ap, ap₂, arith, cond, element_words, eq-eqb, eqb, false, get_or-set_other, key, le-ltb, leb, leb-true, length, lt-ltb, ltb, ltb-true, ne_eqb, not, not-suc-le-zero, pred, refl, set, set-set, suc, sym, true, zero, ℕ}
use Rattle.cluster_node.specs.declared.Found.{Found}
use Rattle.cluster_node.specs.declared.Chosen.{Chosen}
use Rattle.promise.specs.Prelude.{always}
use Rattle.cluster_model.specs.Prelude.{Neat, Node, Op, Place, Side, begin, child, children_ok, fill_from, finish, finished, gap, has, inside, lhs, low, low_elem, low_in, lower_side, neat_to, node_in, node_of, node_ok, none, nothing_below, own_ok, pick, place_words, read_ok, rhs, room, run_words, side_if, sink, some, step_in, store, strict, take, take_by, touch, under1, way_ok, width, word, works, write_node, write_place}
use Rattle.cluster_node.specs.Seeing.{look_to}
use Rattle.cluster_node.specs.Leaf.{under_of, bare_at, look_node, place_in, peek_here, peek_at, peek_of, right_lower, choice_by, choice_of, sink_words, elem_at}
use Rattle.cluster.specs.Down.{went, take_back, take_node, take_down}
use Rattle.cluster_model.proofs.Laws.{few_words, low-is, node-count, place_here, set_word}
use Rattle.cluster_node.proofs.Bridge.{test-is, look-count, both_zero}
use Rattle.cluster_node.proofs.Fulls.{and_l, and_r}
use Rattle.cluster.proofs.Commute.{run-place, run-sink, run_none, neat-of, low-place, low-elem}

pub way-none : (K k m : ℕ) (ws : List ℕ) → way_ok K k none m ws ≡ true
unfolding way_ok step_in begin finish own_ok
way-none K zero m ws = refl
way-none K (suc k) m ws = way-none K k (child m lhs) ws

pub under-room : (K k : ℕ) → under_of K (room K (suc k)) ≡ room K k
unfolding under_of room
under-room K k = omega arith

-- one place of a neat node written, and no count
pub one_place : (K : ℕ) (ws : List ℕ) (m j : ℕ) (p : Place) → j < K → Neat K ws (m * width K) → write_node ws (m * width K) (store j p (node_in K ws m)) ≡ write_place ws (place_in K m j) p
unfolding node_of
one_place K ws m j p h n =
    let o : ℕ = m * width K in
    few_words K ws o (word ws o) (word ws (o + 1)) j p h n
    ∙ ap (λ (l : List ℕ). write_place (set l (o + 1) (word ws (o + 1))) (place_in K m j) p) (set_word ws o (word ws o) refl)
    ∙ ap (λ (l : List ℕ). write_place l (place_in K m j) p) (set_word ws (o + 1) (word ws (o + 1)) refl)

-- .. and the count of one side one less
pub sunk-place : (K : ℕ) (ws : List ℕ) (m j : ℕ) (p : Place) (right : Bool) → j < K → Neat K ws (m * width K)
    → write_node ws (m * width K) (store j p (sink (side_if right) (node_in K ws m))) ≡ write_place (sink_words right ws (m * width K) (word ws (m * width K)) (word ws (m * width K + 1))) (place_in K m j) p
unfolding node_of sink_words
sunk-place K ws m j p true h n =
    let o : ℕ = m * width K in
    few_words K ws o (word ws o) (pred (word ws (o + 1))) j p h n
    ∙ ap (λ (l : List ℕ). write_place (set l (o + 1) (pred (word ws (o + 1)))) (place_in K m j) p) (set_word ws o (word ws o) refl)
sunk-place K ws m j p false h n =
    let o : ℕ = m * width K in
    few_words K ws o (pred (word ws o)) (word ws (o + 1)) j p h n
    ∙ ap (λ (l : List ℕ). write_place l (place_in K m j) p) (sunk o)
  where
    sunk : (o : ℕ) → set (set ws o (pred (word ws o))) (o + 1) (word ws (o + 1)) ≡ set ws o (pred (word ws o))
    sunk o = set_word (set ws o (pred (word ws o))) (o + 1) (word ws (o + 1)) (sym (get_or-set_other ws o (o + 1) (pred (word ws o)) 0 (λ e. omega arith)))

-- ---- the children
not-zero : (c : ℕ) → not (eqb c 0) ≡ ltb 0 c
not-zero zero = sym (le-ltb 0 0 (omega arith))
not-zero (suc c) = ap not (ne_eqb (suc c) 0 (λ e. omega arith)) ∙ sym (lt-ltb 0 (suc c) (omega arith))

node_counts : (K : ℕ) (ws : List ℕ) (d : ℕ) → (look_node K ws d).count ≡ inside always (node_in K ws d).places
unfolding look_node node_of
node_counts K ws d = look-count ws (d * width K + 2) K

pub peek-ok : (K limit : ℕ) (ws : List ℕ) (d x : ℕ) → (peek_of K limit ws d x).ok ≡ read_ok K (eqb x 0) limit ws d
unfolding peek_at peek_here read_ok some look_node
peek-ok K limit ws d x = go (eqb x 0)
  where
    counts : (look_to ws (d * width K + 2) K).count ≡ inside always (node_in K ws d).places
    counts = node_counts K ws d

    go : (b : Bool) → (cond {A = Found} b (record { ok = true; place = 0; rank = 0 }) (peek_here K limit ws (d * width K))).ok ≡ read_ok K b limit ws d
    go true = refl
    go false = ap₂ (λ (a b : Bool). a && b) (test-is K limit ws d) (ap (λ (c : ℕ). not (eqb c 0)) counts ∙ not-zero (inside always (node_in K ws d).places))

pub choice-ok : (K k : ℕ) (ws : List ℕ) (m : ℕ) → (choice_of K (room K k) ws m).ok ≡ children_ok K (suc k) ws m
unfolding choice_of choice_by children_ok under1 node_of
choice-ok K k ws m = ap₂ (λ (a b : Bool). a && b) (peek-ok K (room K k) ws (m + m + 1) (word ws (m * width K))) (peek-ok K (room K k) ws (m + m + 2) (word ws (m * width K + 1)))

-- a node in order is neat
pub neat-in : (K k m : ℕ) (ws : List ℕ) → node_ok K (room K k) ws m ≡ true → Neat K ws (m * width K)
unfolding node_ok
neat-in K k m ws fine = neat-of K ws (m * width K) (and_l (neat_to K ws (m * width K + 2) K) (strict (room K k) (node_in K ws m)) fine)

-- ---- the end of a take: nothing below
module _ (K k m : ℕ) (ws : List ℕ) (fine : node_ok K (room K k) ws m ≡ true) (held : 0 < inside always (node_in K ws m).places) where
  pub neat-here : Neat K ws (m * width K)
  neat-here = neat-in K k m ws fine

  pub low-here : low (node_in K ws m).places < K
  low-here = let ps : List Place = (node_in K ws m).places in omega (arith, place_here ps (low ps) (low_elem ps) (low-is ps held).here, node-count K ws (m * width K))

  module _ (bare : bare_at ws (m * width K) ≡ true) where
    nothing-here : nothing_below (node_in K ws m) ≡ true
    unfolding bare_at nothing_below node_of
    nothing-here = sym (both_zero (word ws (m * width K)) (word ws (m * width K + 1))) ∙ bare

    step_end : step_in K k take m ws ≡ finished (store (low (node_in K ws m).places) gap (node_in K ws m)) lhs none
    unfolding step_in begin take_by finish
    step_end = rw nothing-here refl

    pub run_end : run_words K (suc k) take m ws ≡ write_place ws (place_in K m (low (node_in K ws m).places)) gap
    unfolding run_words touch works
    run_end = rw step_end (run_none K k (child m lhs) (write_node ws (m * width K) (store (low (node_in K ws m).places) gap (node_in K ws m))) ∙ one_place K ws m (low (node_in K ws m).places) gap low-here neat-here)

    pub way_end : way_ok K (suc k) take m ws ≡ true
    unfolding way_ok own_ok children_ok read_ok bare_at node_of
    way_end = rw (step_end, fine, and_l (eqb (word ws (m * width K)) 0) (eqb (word ws (m * width K + 1)) 0) bare, and_r (eqb (word ws (m * width K)) 0) (eqb (word ws (m * width K + 1)) 0) bare) (way-none K k (child m lhs) ws)

-- ---- a child that was read for its lowest
pub record Read (K limit : ℕ) (ws : List ℕ) (d x : ℕ) : Type 0 where
  pub fine : node_ok K limit ws d ≡ true
  pub held : 0 < inside always (node_in K ws d).places
  pub place : (peek_of K limit ws d x).place ≡ low (node_in K ws d).places
  pub elem : elem_at ws (place_in K d (peek_of K limit ws d x).place) ≡ low_elem (node_in K ws d).places

pub read_is : (K limit : ℕ) (ws : List ℕ) (d x : ℕ) → eqb x 0 ≡ false → read_ok K (eqb x 0) limit ws d ≡ true → Read K limit ws d x
unfolding read_ok some peek_at peek_here look_node
read_is K limit ws d x z e =
    let t : read_ok K false limit ws d ≡ true = ap (λ (b : Bool). read_ok K b limit ws d) (sym z) ∙ e in
    let f : node_ok K limit ws d ≡ true = and_l (node_ok K limit ws d) (ltb 0 (inside always (node_in K ws d).places)) t in
    let h : 0 < inside always (node_in K ws d).places = ltb-true 0 (inside always (node_in K ws d).places) (and_r (node_ok K limit ws d) (ltb 0 (inside always (node_in K ws d).places)) t) in
    let p : (peek_of K limit ws d x).place ≡ low (node_in K ws d).places = rw z (low-place K ws d h) in
    record { fine = f; held = h; place = p; elem = ap (λ (j : ℕ). elem_at ws (place_in K d j)) p ∙ low-elem K ws d h }

-- ---- a take that goes on
store-sink : (i : ℕ) (p : Place) (s : Side) (n : Node) → store i p (sink s (store i gap n)) ≡ store i p (sink s n)
store-sink i p lhs n = let e = set-set n.places i gap p in λ t. record { left = pred n.left; right = n.right; places = e t }
store-sink i p rhs n = let e = set-set n.places i gap p in λ t. record { left = n.left; right = pred n.right; places = e t }

module _ (K k m : ℕ) (ws : List ℕ) (more : bare_at ws (m * width K) ≡ false) where
  abbrev a : Element
  a = low_in K k ws (child m lhs)

  abbrev b : Element
  b = low_in K k ws (child m rhs)

  abbrev s : Side
  s = lower_side (node_in K ws m) a b

  something-here : nothing_below (node_in K ws m) ≡ false
  unfolding bare_at nothing_below node_of
  something-here = sym (both_zero (word ws (m * width K)) (word ws (m * width K + 1))) ∙ more

  pub step-go : step_in K k take m ws ≡ finished (store (low (node_in K ws m).places) (has (pick s a b)) (sink s (node_in K ws m))) s take
  unfolding step_in begin take_by finish fill_from lower_side
  step-go = rw something-here (ap (λ (n : Node). finished n s take) (store-sink (low (node_in K ws m).places) (has (pick s a b)) s (node_in K ws m)))

  -- the words: the child first, then this node
  pub run-go : (right : Bool) → side_if right ≡ s → low (node_in K ws m).places < K → Neat K ws (m * width K)
      → run_words K (suc k) take m ws
      ≡ write_place (sink_words right (run_words K k take (child m (side_if right)) ws) (m * width K) (word ws (m * width K)) (word ws (m * width K + 1))) (place_in K m (low (node_in K ws m).places)) (has (pick (side_if right) a b))
  unfolding run_words touch works
  run-go right e h n =
      let o : ℕ = m * width K in
      let i : ℕ = low (node_in K ws m).places in
      let d : ℕ = child m (side_if right) in
      let up : Place = has (pick (side_if right) a b) in
      let l : ℕ = word ws o in
      let r : ℕ = word ws (o + 1) in
      rw (step-go, ← e)
      (ap (run_words K k take d) (sunk-place K ws m i up right h n)
      ∙ run-place K k take d (sink_words right ws o l r) (place_in K m i) up (place-before (side_if right) i h)
      ∙ ap (λ (q : List ℕ). write_place q (place_in K m i) up) (run-sink K k take d right ws o l r (count-before (side_if right))))
    where
      place-before : (s : Side) (i : ℕ) → i < K → m * width K + 2 + i * place_words + element_words < child m s * width K
      place-before lhs i h = omega arith
      place-before rhs i h = omega arith

      count-before : (s : Side) → m * width K + 1 < child m s * width K
      count-before lhs = omega arith
      count-before rhs = omega arith

-- ---- the lower child is the definitions'
pub record Chose (K k : ℕ) (ws : List ℕ) (m : ℕ) (c : Chosen) : Type 0 where
  pub side : side_if c.right ≡ lower_side (node_in K ws m) (low_in K (suc k) ws (child m lhs)) (low_in K (suc k) ws (child m rhs))
  pub up : c.up ≡ pick (side_if c.right) (low_in K (suc k) ws (child m lhs)) (low_in K (suc k) ws (child m rhs))
  pub node : c.child ≡ child m (side_if c.right)
  pub fine : node_ok K (room K k) ws c.child ≡ true
  pub held : 0 < inside always (node_in K ws c.child).places
  pub place : c.place ≡ low (node_in K ws c.child).places

module _ (K k : ℕ) (ws : List ℕ) (m : ℕ) where
  abbrev l : ℕ
  l = word ws (m * width K)

  abbrev r : ℕ
  r = word ws (m * width K + 1)

  abbrev a₁ : Element
  a₁ = low_in K (suc k) ws (child m lhs)

  abbrev b₁ : Element
  b₁ = low_in K (suc k) ws (child m rhs)

  abbrev right₁ : Bool
  right₁ = not (eqb r 0) && (eqb l 0 || ltb (key b₁) (key a₁))

  by_left : (p q : Found) (ea eb : Element) (t : Bool) → t ≡ right₁ → t ≡ false → node_ok K (room K k) ws (m + m + 1) ≡ true → 0 < inside always (node_in K ws (m + m + 1)).places
      → p.place ≡ low (node_in K ws (m + m + 1)).places → ea ≡ a₁
      → Chose K k ws m (record { ok = p.ok && q.ok; right = t; child = cond t (m + m + 2) (m + m + 1); place = cond t q.place p.place; up = cond t eb ea })
  unfolding lower_side node_of
  by_left p q ea eb true e z f h j u = absurd (not-suc-le-zero {n = 0} (let y : ◌≡◌ {A = ℕ} 0 1 = cc in omega arith))
  by_left p q ea eb false e z f h j u = record { side = ap side_if e; up = u; node = refl; fine = f; held = h; place = j }

  by_right : (p q : Found) (ea eb : Element) (t : Bool) → t ≡ right₁ → t ≡ true → node_ok K (room K k) ws (m + m + 2) ≡ true → 0 < inside always (node_in K ws (m + m + 2)).places
      → q.place ≡ low (node_in K ws (m + m + 2)).places → eb ≡ b₁
      → Chose K k ws m (record { ok = p.ok && q.ok; right = t; child = cond t (m + m + 2) (m + m + 1); place = cond t q.place p.place; up = cond t eb ea })
  unfolding lower_side node_of
  by_right p q ea eb false e z f h j u = absurd (not-suc-le-zero {n = 0} (let y : ◌≡◌ {A = ℕ} 0 1 = cc in omega arith))
  by_right p q ea eb true e z f h j u = record { side = ap side_if e; up = u; node = refl; fine = f; held = h; place = j }

  pub chose : bare_at ws (m * width K) ≡ false → children_ok K (suc k) ws m ≡ true → Chose K k ws m (choice_of K (room K k) ws m)
  unfolding choice_of choice_by right_lower children_ok under1 bare_at low_in node_of
  chose more e = go (eqb l 0) refl (eqb r 0) refl more (and_l (read_ok K (eqb l 0) (room K k) ws (m + m + 1)) (read_ok K (eqb r 0) (room K k) ws (m + m + 2)) e) (and_r (read_ok K (eqb l 0) (room K k) ws (m + m + 1)) (read_ok K (eqb r 0) (room K k) ws (m + m + 2)) e)
    where
      p : Found
      p = peek_of K (room K k) ws (m + m + 1) l

      q : Found
      q = peek_of K (room K k) ws (m + m + 2) r

      go : (x : Bool) → eqb l 0 ≡ x → (y : Bool) → eqb r 0 ≡ y → (eqb l 0 && eqb r 0) ≡ false → read_ok K (eqb l 0) (room K k) ws (m + m + 1) ≡ true → read_ok K (eqb r 0) (room K k) ws (m + m + 2) ≡ true
          → Chose K k ws m (choice_of K (room K k) ws m)
      go true x true y z u v = absurd (not-suc-le-zero {n = 0} (let w : ◌≡◌ {A = ℕ} 0 1 = cc in omega arith))
      go true x false y z u v =
          let R = read_is K (room K k) ws (m + m + 2) r y v in
          by_right (peek_of K (room K k) ws (m + m + 1) l) (peek_of K (room K k) ws (m + m + 2) r) (elem_at ws (place_in K (m + m + 1) (peek_of K (room K k) ws (m + m + 1) l).place)) (elem_at ws (place_in K (m + m + 2) (peek_of K (room K k) ws (m + m + 2) r).place)) (choice_of K (room K k) ws m).right (rw (x, y) refl) (rw (x, y) refl) R.fine R.held R.place R.elem
      go false x true y z u v =
          let L = read_is K (room K k) ws (m + m + 1) l x u in
          by_left (peek_of K (room K k) ws (m + m + 1) l) (peek_of K (room K k) ws (m + m + 2) r) (elem_at ws (place_in K (m + m + 1) (peek_of K (room K k) ws (m + m + 1) l).place)) (elem_at ws (place_in K (m + m + 2) (peek_of K (room K k) ws (m + m + 2) r).place)) (choice_of K (room K k) ws m).right (rw (x, y) refl) (rw (x, y) refl) L.fine L.held L.place L.elem
      go false x false y z u v =
          let L = read_is K (room K k) ws (m + m + 1) l x u in
          let R = read_is K (room K k) ws (m + m + 2) r y v in
          either_way L R (choice_of K (room K k) ws m).right refl
        where
          either_way : Read K (room K k) ws (m + m + 1) l → Read K (room K k) ws (m + m + 2) r → (t : Bool) → (choice_of K (room K k) ws m).right ≡ t → Chose K k ws m (choice_of K (room K k) ws m)
          either_way L R true t = by_right (peek_of K (room K k) ws (m + m + 1) l) (peek_of K (room K k) ws (m + m + 2) r) (elem_at ws (place_in K (m + m + 1) (peek_of K (room K k) ws (m + m + 1) l).place)) (elem_at ws (place_in K (m + m + 2) (peek_of K (room K k) ws (m + m + 2) r).place)) (choice_of K (room K k) ws m).right (rw (L.elem, R.elem) refl) t R.fine R.held R.place R.elem
          either_way L R false t = by_left (peek_of K (room K k) ws (m + m + 1) l) (peek_of K (room K k) ws (m + m + 2) r) (elem_at ws (place_in K (m + m + 1) (peek_of K (room K k) ws (m + m + 1) l).place)) (elem_at ws (place_in K (m + m + 2) (peek_of K (room K k) ws (m + m + 2) r).place)) (choice_of K (room K k) ws m).right (rw (L.elem, R.elem) refl) t L.fine L.held L.place L.elem

-- ---- the take
strict-counts : (limit : ℕ) (n : Node) → strict limit n ≡ true → (n.left ≤ limit) × (n.right ≤ limit)
unfolding strict
strict-counts limit n e =
    let u : Bool = nothing_below n || leb (length n.places) (inside always n.places) in
    let x : Bool = leb n.left limit in
    let y : Bool = leb n.right limit in
    (leb-true n.left limit (and_l x (y && u) e), leb-true n.right limit (and_l y u (and_r x (y && u) e)))

way-suc : (K k : ℕ) (o : Op) (m : ℕ) (ws : List ℕ) → way_ok K (suc k) o m ws ≡ (own_ok K k o m ws && way_ok K k (step_in K k o m ws).op (child m (step_in K k o m ws).side) ws)
unfolding way_ok
way-suc K k o m ws = refl

way-bad : (K k m : ℕ) (ws : List ℕ) → node_ok K (room K (suc k)) ws m ≡ true → children_ok K (suc k) ws m ≡ false → way_ok K (suc (suc k)) take m ws ≡ false
unfolding way_ok own_ok
way-bad K k m ws fine e = rw (fine, e) refl

way-go : (K k m : ℕ) (ws : List ℕ) (right : Bool) → node_ok K (room K (suc k)) ws m ≡ true → children_ok K (suc k) ws m ≡ true → bare_at ws (m * width K) ≡ false
    → side_if right ≡ lower_side (node_in K ws m) (low_in K (suc k) ws (child m lhs)) (low_in K (suc k) ws (child m rhs))
    → way_ok K (suc (suc k)) take m ws ≡ way_ok K (suc k) take (child m (side_if right)) ws
unfolding own_ok
way-go K k m ws right fine e more s = way-suc K (suc k) take m ws ∙ rw (step-go K (suc k) m ws more, fine, e, ← s) refl

goes_on : (K k m : ℕ) (ws : List ℕ) → node_ok K (room K (suc k)) ws m ≡ true → 0 < inside always (node_in K ws m).places → bare_at ws (m * width K) ≡ false → (choice_of K (room K k) ws m).ok ≡ true
    → ((d : ℕ) → node_ok K (room K k) ws d ≡ true → 0 < inside always (node_in K ws d).places
    → take_down K k d (room K k) (low (node_in K ws d).places) ws ≡ went (way_ok K (suc k) take d ws) (cond (way_ok K (suc k) take d ws) (run_words K (suc k) take d ws) ws))
    → take_node K (take_down K k) m (room K (suc k)) (low (node_in K ws m).places) ws ≡ went (way_ok K (suc (suc k)) take m ws) (cond (way_ok K (suc (suc k)) take m ws) (run_words K (suc (suc k)) take m ws) ws)
unfolding take_node take_back
goes_on K k m ws fine held more c ih =
    let R : Chosen = choice_of K (room K k) ws m in
    let ch = chose K k ws m more (sym (choice-ok K k ws m) ∙ c) in
    let w = way-go K k m ws R.right fine (sym (choice-ok K k ws m) ∙ c) more ch.side in
    let g = run-go K (suc k) m ws more R.right ch.side (low-here K (suc k) m ws fine held) (neat-here K (suc k) m ws fine held) in
    rw (under-room K k, more, c, ch.place, ih R.child ch.fine ch.held, ch.node, ch.up, w, g)
    (last (way_ok K (suc k) take (child m (side_if R.right)) ws)
    (λ u. write_place (sink_words R.right u (m * width K) (word ws (m * width K)) (word ws (m * width K + 1))) (place_in K m (low (node_in K ws m).places)) (has (pick (side_if R.right) (low_in K (suc k) ws (child m lhs)) (low_in K (suc k) ws (child m rhs)))))
    (run_words K (suc k) take (child m (side_if R.right)) ws))
  where
    last : (b : Bool) (f : List ℕ → List ℕ) (q : List ℕ) → cond b (went true (f (cond b q ws))) (went false (cond b q ws)) ≡ went b (cond b (f q) ws)
    last true f q = refl
    last false f q = refl

by_bare : (K k m : ℕ) (ws : List ℕ) → node_ok K (room K (suc k)) ws m ≡ true → 0 < inside always (node_in K ws m).places
    → ((d : ℕ) → node_ok K (room K k) ws d ≡ true → 0 < inside always (node_in K ws d).places
    → take_down K k d (room K k) (low (node_in K ws d).places) ws ≡ went (way_ok K (suc k) take d ws) (cond (way_ok K (suc k) take d ws) (run_words K (suc k) take d ws) ws))
    → take_node K (take_down K k) m (room K (suc k)) (low (node_in K ws m).places) ws ≡ went (way_ok K (suc (suc k)) take m ws) (cond (way_ok K (suc (suc k)) take m ws) (run_words K (suc (suc k)) take m ws) ws)
unfolding take_node
by_bare K k m ws fine held ih = go (bare_at ws (m * width K)) refl (choice_of K (room K k) ws m).ok refl
  where
    j : ℕ
    j = low (node_in K ws m).places

    go : (b : Bool) → bare_at ws (m * width K) ≡ b → (t : Bool) → (choice_of K (room K k) ws m).ok ≡ t
        → take_node K (take_down K k) m (room K (suc k)) (low (node_in K ws m).places) ws ≡ went (way_ok K (suc (suc k)) take m ws) (cond (way_ok K (suc (suc k)) take m ws) (run_words K (suc (suc k)) take m ws) ws)
    go true e t c = rw (way_end K (suc k) m ws fine held e, run_end K (suc k) m ws fine held e, e) refl
    go false e false c = rw (under-room K k, e, c, way-bad K k m ws fine (sym (choice-ok K k ws m) ∙ c)) refl
    go false e true c = goes_on K k m ws fine held e c ih

pub last-bare : (K : ℕ) (ws : List ℕ) (m : ℕ) → node_ok K 0 ws m ≡ true → bare_at ws (m * width K) ≡ true
unfolding node_ok strict bare_at node_of
last-bare K ws m e =
    let o : ℕ = m * width K in
    let st = and_r (neat_to K ws (o + 2) K) (strict 0 (node_in K ws m)) e in
    rw (eq-eqb (word ws o) 0 (omega (arith, (strict-counts 0 (node_in K ws m) st).0)), eq-eqb (word ws (o + 1)) 0 (omega (arith, (strict-counts 0 (node_in K ws m) st).1))) refl

pub take-main : (K k m : ℕ) (ws : List ℕ) → node_ok K (room K k) ws m ≡ true → 0 < inside always (node_in K ws m).places
    → take_down K k m (room K k) (low (node_in K ws m).places) ws ≡ went (way_ok K (suc k) take m ws) (cond (way_ok K (suc k) take m ws) (run_words K (suc k) take m ws) ws)
unfolding take_down room
take-main K zero m ws fine held =
    let bare = last-bare K ws m fine in
    rw (way_end K zero m ws fine held bare, run_end K zero m ws fine held bare) refl
take-main K (suc k) m ws fine held = by_bare K k m ws fine held (λ d f h. take-main K k d ws f h)
