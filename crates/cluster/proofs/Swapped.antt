-- The swap in the code's shape is the swap of the definitions, tests included.
use Rattle.laws.specs.Prelude.{Bool, Element, List, ◌&&◌, ◌*◌, ◌+◌, ◌<◌, ◌∙◌, ◌≡◌, ap, arith, cond, element_words, eqb, false, key, ltb, refl, set-set, suc, sym, true, zero, ℕ}
use Rattle.cluster_node.specs.declared.Chosen.{Chosen}
use Rattle.promise.specs.Prelude.{always}
use Rattle.cluster_model.specs.Prelude.{Node, Op, Place, Side, begin, child, children_ok, finish, finished, has, inside, lhs, low, low_in, lower_side, node_in, node_of, node_ok, none, nothing_below, own_ok, pick, place_words, read_ok, rhs, room, run_words, side_if, step_in, store, swap, swap_by, touch, trial_by, trial_from, way_ok, width, word, works, write_node, write_place}
use Rattle.cluster_node.specs.Leaf.{bare_at, place_in, choice_of}
use Rattle.cluster.specs.Down.{went, swap_back, swap_node, swap_down}
use Rattle.cluster_node.proofs.Bridge.{both_zero}
use Rattle.cluster.proofs.Taken.{way-none, under-room, one_place, choice-ok, neat-here, low-here, chose, last-bare}
use Rattle.cluster_node.proofs.Fulls.{and_l, and_r}
use Rattle.cluster.proofs.Commute.{run-place, run_none}

store-twice : (i : ℕ) (p q : Place) (n : Node) → store i p (store i q n) ≡ store i p n
store-twice i p q n = let e = set-set n.places i q p in λ t. record { left = n.left; right = n.right; places = e t }

-- ---- x stays: the node alone is written
module _ (K k m : ℕ) (x : Element) (ws : List ℕ) (fine : node_ok K (room K k) ws m ≡ true) (held : 0 < inside always (node_in K ws m).places) where
  abbrev n : Node
  n = node_in K ws m

  abbrev i : ℕ
  i = low (node_in K ws m).places

  pub run-stays : (s : Side) → step_in K k (swap x) m ws ≡ finished (store i (has x) n) s none → run_words K (suc k) (swap x) m ws ≡ write_place ws (place_in K m i) (has x)
  unfolding run_words touch works
  run-stays s e = rw e (run_none K k (child m s) (write_node ws (m * width K) (store i (has x) n)) ∙ one_place K ws m i (has x) (low-here K k m ws fine held) (neat-here K k m ws fine held))

  pub way-stays : (s : Side) → step_in K k (swap x) m ws ≡ finished (store i (has x) n) s none → children_ok K k ws m ≡ true → way_ok K (suc k) (swap x) m ws ≡ true
  unfolding way_ok own_ok
  way-stays s e c = rw (e, fine, c) (way-none K k (child m s) ws)

  step_end : bare_at ws (m * width K) ≡ true → step_in K k (swap x) m ws ≡ finished (store i (has x) n) lhs none
  unfolding step_in begin swap_by finish bare_at nothing_below node_of
  step_end bare = rw (sym (both_zero (word ws (m * width K)) (word ws (m * width K + 1))) ∙ bare) refl

  bare-children : bare_at ws (m * width K) ≡ true → children_ok K k ws m ≡ true
  unfolding children_ok read_ok bare_at node_of
  bare-children bare = rw (and_l (eqb (word ws (m * width K)) 0) (eqb (word ws (m * width K + 1)) 0) bare, and_r (eqb (word ws (m * width K)) 0) (eqb (word ws (m * width K + 1)) 0) bare) refl

  pub way-bare : bare_at ws (m * width K) ≡ true → way_ok K (suc k) (swap x) m ws ≡ true
  way-bare bare = way-stays lhs (step_end bare) (bare-children bare)

  pub run-bare : bare_at ws (m * width K) ≡ true → run_words K (suc k) (swap x) m ws ≡ write_place ws (place_in K m i) (has x)
  run-bare bare = run-stays lhs (step_end bare)

  module _ (more : bare_at ws (m * width K) ≡ false) where
    abbrev a : Element
    a = low_in K k ws (child m lhs)

    abbrev b : Element
    b = low_in K k ws (child m rhs)

    abbrev s : Side
    s = lower_side n a b

    pub step-trial : (t : Bool) → ltb (key (pick s a b)) (key x) ≡ t → step_in K k (swap x) m ws ≡ trial_by t s i x (store i (has x) n) a b
    unfolding step_in begin swap_by finish trial_from lower_side bare_at nothing_below node_of
    step-trial t e = rw (sym (both_zero (word ws (m * width K)) (word ws (m * width K + 1))) ∙ more, e) refl

    pub step-stay : ltb (key (pick s a b)) (key x) ≡ false → step_in K k (swap x) m ws ≡ finished (store i (has x) n) s none
    unfolding trial_by
    step-stay e = step-trial false e

    pub step-lift : ltb (key (pick s a b)) (key x) ≡ true → step_in K k (swap x) m ws ≡ finished (store i (has (pick s a b)) n) s (swap x)
    unfolding trial_by
    step-lift e = step-trial true e ∙ ap (λ (u : Node). finished u s (swap x)) (store-twice i (has (pick s a b)) (has x) n)

    pub run_lift : (right : Bool) → side_if right ≡ s → ltb (key (pick s a b)) (key x) ≡ true
        → run_words K (suc k) (swap x) m ws ≡ write_place (run_words K k (swap x) (child m (side_if right)) ws) (place_in K m i) (has (pick (side_if right) a b))
    unfolding run_words touch works
    run_lift right e t =
        let d : ℕ = child m (side_if right) in
        rw (step-lift t, ← e)
        (ap (run_words K k (swap x) d) (one_place K ws m i (has (pick (side_if right) a b)) (low-here K k m ws fine held) (neat-here K k m ws fine held))
        ∙ run-place K k (swap x) d ws (place_in K m i) (has (pick (side_if right) a b)) (place-before (side_if right) i (low-here K k m ws fine held)))
      where
        place-before : (s : Side) (i : ℕ) → i < K → m * width K + 2 + i * place_words + element_words < child m s * width K
        place-before lhs i h = omega arith
        place-before rhs i h = omega arith

-- ---- the swap
abbrev Main : ℕ → ℕ → ℕ → Element → List ℕ → Type 0
Main K k m x ws = swap_down K k m (room K k) (low (node_in K ws m).places) x ws ≡ went (way_ok K (suc k) (swap x) m ws) (cond (way_ok K (suc k) (swap x) m ws) (run_words K (suc k) (swap x) m ws) ws)

way-bad : (K k m : ℕ) (x : Element) (ws : List ℕ) → node_ok K (room K (suc k)) ws m ≡ true → children_ok K (suc k) ws m ≡ false → way_ok K (suc (suc k)) (swap x) m ws ≡ false
unfolding way_ok own_ok
way-bad K k m x ws fine e = rw (fine, e) refl

way-suc : (K k : ℕ) (o : Op) (m : ℕ) (ws : List ℕ) → way_ok K (suc k) o m ws ≡ (own_ok K k o m ws && way_ok K k (step_in K k o m ws).op (child m (step_in K k o m ws).side) ws)
unfolding way_ok
way-suc K k o m ws = refl

lifts : (K k m : ℕ) (x : Element) (ws : List ℕ) → node_ok K (room K (suc k)) ws m ≡ true → 0 < inside always (node_in K ws m).places → bare_at ws (m * width K) ≡ false → (choice_of K (room K k) ws m).ok ≡ true
    → ((d : ℕ) → node_ok K (room K k) ws d ≡ true → 0 < inside always (node_in K ws d).places → Main K k d x ws)
    → (t : Bool) → ltb (key (choice_of K (room K k) ws m).up) (key x) ≡ t → Main K (suc k) m x ws
unfolding swap_down swap_node swap_back own_ok
lifts K k m x ws fine held more c ih false t =
    let R : Chosen = choice_of K (room K k) ws m in
    let kids : children_ok K (suc k) ws m ≡ true = sym (choice-ok K k ws m) ∙ c in
    let ch = chose K k ws m more kids in
    let up : pick (lower_side (node_in K ws m) (low_in K (suc k) ws (child m lhs)) (low_in K (suc k) ws (child m rhs))) (low_in K (suc k) ws (child m lhs)) (low_in K (suc k) ws (child m rhs)) ≡ R.up =
    sym (ch.up ∙ ap (λ (s : Side). pick s (low_in K (suc k) ws (child m lhs)) (low_in K (suc k) ws (child m rhs))) ch.side) in
    let st = step-stay K (suc k) m x ws fine held more (ap (λ (e : Element). ltb (key e) (key x)) up ∙ t) in
    rw (under-room K k, more, c, t, way-stays K (suc k) m x ws fine held _ st kids, run-stays K (suc k) m x ws fine held _ st) refl
lifts K k m x ws fine held more c ih true t =
    let R : Chosen = choice_of K (room K k) ws m in
    let kids : children_ok K (suc k) ws m ≡ true = sym (choice-ok K k ws m) ∙ c in
    let ch = chose K k ws m more kids in
    let up : pick (lower_side (node_in K ws m) (low_in K (suc k) ws (child m lhs)) (low_in K (suc k) ws (child m rhs))) (low_in K (suc k) ws (child m lhs)) (low_in K (suc k) ws (child m rhs)) ≡ R.up =
    sym (ch.up ∙ ap (λ (s : Side). pick s (low_in K (suc k) ws (child m lhs)) (low_in K (suc k) ws (child m rhs))) ch.side) in
    let t₁ = ap (λ (e : Element). ltb (key e) (key x)) up ∙ t in
    let w : way_ok K (suc (suc k)) (swap x) m ws ≡ way_ok K (suc k) (swap x) (child m (side_if R.right)) ws =
    way-suc K (suc k) (swap x) m ws ∙ rw (step-lift K (suc k) m x ws fine held more t₁, fine, kids, ← ch.side) refl in
    let g = run_lift K (suc k) m x ws fine held more R.right ch.side t₁ in
    rw (under-room K k, more, c, t, ch.place, ih R.child ch.fine ch.held, ch.node, ch.up, w, g)
    (last (way_ok K (suc k) (swap x) (child m (side_if R.right)) ws)
    (λ u. write_place u (place_in K m (low (node_in K ws m).places)) (has (pick (side_if R.right) (low_in K (suc k) ws (child m lhs)) (low_in K (suc k) ws (child m rhs)))))
    (run_words K (suc k) (swap x) (child m (side_if R.right)) ws))
  where
    last : (b : Bool) (f : List ℕ → List ℕ) (q : List ℕ) → cond b (went true (f (cond b q ws))) (went false (cond b q ws)) ≡ went b (cond b (f q) ws)
    last true f q = refl
    last false f q = refl

pub swap-main : (K k m : ℕ) (x : Element) (ws : List ℕ) → node_ok K (room K k) ws m ≡ true → 0 < inside always (node_in K ws m).places → Main K k m x ws
unfolding swap_down room swap_node
swap-main K zero m x ws fine held =
    let bare = last-bare K ws m fine in
    rw (way-bare K zero m x ws fine held bare, run-bare K zero m x ws fine held bare) refl
swap-main K (suc k) m x ws fine held = go (bare_at ws (m * width K)) refl (choice_of K (room K k) ws m).ok refl (λ d f h. swap-main K k d x ws f h)
  where
    go : (b : Bool) → bare_at ws (m * width K) ≡ b → (t : Bool) → (choice_of K (room K k) ws m).ok ≡ t
        → ((d : ℕ) → node_ok K (room K k) ws d ≡ true → 0 < inside always (node_in K ws d).places → Main K k d x ws) → Main K (suc k) m x ws
    go true e t c ih = rw (way-bare K (suc k) m x ws fine held e, run-bare K (suc k) m x ws fine held e, e) refl
    go false e false c ih = rw (under-room K k, e, c, way-bad K k m x ws fine (sym (choice-ok K k ws m) ∙ c)) refl
    go false e true c ih = lifts K k m x ws fine held e c ih (ltb (key (choice_of K (room K k) ws m).up) (key x)) refl
