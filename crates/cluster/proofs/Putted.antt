-- The put in the code's shape is the put of the definitions, tests included.
use Rattle.laws.specs.Prelude.{Bool, Element, List, [], ◌&&◌, ◌*◌, ◌+◌, ◌<◌, ◌||◌, ◌∙◌, ◌∷◌, ◌≡◌, ◌≤◌, add-one, ap, arith, cond, element_words, false, get_or-set_other, le-leb, le-ltb, le_of_suc-le-suc, leb, length, lt-leb, lt-ltb, ltb, ltb-false, ltb-true, not, not-suc-le-zero, refl, set, suc, sym, true, zero, ℕ}
use Rattle.promise.specs.Prelude.{always}
use Rattle.cluster_model.specs.Prelude.{Neat, Node, Place, Side, begin, child, fewer, finish, finished, free, free_here, gap, has, high, high_elem, inside, keep, lhs, node_in, node_of, node_ok, none, own_ok, pass, place_words, put, put_by, raise, rhs, room, roomy, run_words, seek, side_if, step_in, store, touch, way_ok, width, word, works, write_node, write_place}
use Rattle.cluster_model.proofs.Laws.{few_words, high_is, inside-length, no-free, node-count, place_here, set_word}
use Rattle.cluster_node.proofs.Bridge.{look-free, look-high, test-is}
use Rattle.cluster_node.proofs.ScanCode.{row-place}
use Rattle.cluster_node.proofs.Unique.{scan-is-high}
use Rattle.cluster_node.specs.Leaf.{elem_at, look_node, place_in, raise_words}
use Rattle.cluster_node.specs.Scan.{high_as, scan}
use Rattle.cluster.specs.Down.{fewer_right, put_back, put_down, put_node, went}
use Rattle.cluster.proofs.Commute.{has-elem, run_none, run-place, run-raise}
use Rattle.cluster.proofs.Taken.{neat-in, one_place, under-room, way-none}

-- ---- tests
flip : (a b : ℕ) → ltb a b ≡ not (leb b a)
flip a b = go (ltb a b) refl
  where
    go : (t : Bool) → ltb a b ≡ t → t ≡ not (leb b a)
    go true e = rw (lt-leb b a (ltb-true a b e)) refl
    go false e = rw (le-leb b a (ltb-false a b e)) refl

or-not : (a b : Bool) → (not a || not b) ≡ not (a && b)
or-not true b = refl
or-not false b = refl

pub free-less : (ps : List Place) → free ps < length ps → inside always ps < length ps
unfolding free seek free_here inside
free-less [] h = absurd (not-suc-le-zero h)
free-less (gap ∷ ps) h = omega (arith, inside-length ps)
free-less (has e ∷ ps) h = omega (arith, free-less ps (le_of_suc-le-suc h))

-- one place of a neat node written, and the count of one side one more
pub raised-place : (K : ℕ) (ws : List ℕ) (m j : ℕ) (p : Place) (right : Bool) → j < K → Neat K ws (m * width K)
    → write_node ws (m * width K) (raise (side_if right) (store j p (node_in K ws m))) ≡ write_place (raise_words right ws (m * width K) (word ws (m * width K)) (word ws (m * width K + 1))) (place_in K m j) p
unfolding node_of raise_words
raised-place K ws m j p true h n =
    let o : ℕ = m * width K in
    few_words K ws o (word ws o) (suc (word ws (o + 1))) j p h n
    ∙ ap (λ (l : List ℕ). write_place (set l (o + 1) (suc (word ws (o + 1)))) (place_in K m j) p) (set_word ws o (word ws o) refl)
    ∙ ap (λ (x : ℕ). write_place (set ws (o + 1) x) (place_in K m j) p) (sym (add-one (word ws (o + 1))))
raised-place K ws m j p false h n =
    let o : ℕ = m * width K in
    few_words K ws o (suc (word ws o)) (word ws (o + 1)) j p h n
    ∙ ap (λ (l : List ℕ). write_place l (place_in K m j) p) (stands o)
    ∙ ap (λ (x : ℕ). write_place (set ws o x) (place_in K m j) p) (sym (add-one (word ws o)))
  where
    stands : (o : ℕ) → set (set ws o (suc (word ws o))) (o + 1) (word ws (o + 1)) ≡ set ws o (suc (word ws o))
    stands o = set_word (set ws o (suc (word ws o))) (o + 1) (word ws (o + 1)) (sym (get_or-set_other ws o (o + 1) (suc (word ws o)) 0 (λ e. omega arith)))

-- ---- the highest that the scan finds
pub high-place : (K : ℕ) (ws : List ℕ) (m : ℕ) → 0 < inside always (node_in K ws m).places → (look_node K ws m).high ≡ high (node_in K ws m).places
unfolding look_node node_of
high-place K ws m h =
    let ps : List Place = (node_in K ws m).places in
    look-high ws (m * width K + 2) K K (omega arith) ∙ ap (scan high_as ps) (sym (node-count K ws (m * width K))) ∙ scan-is-high ps (high ps) (high_elem ps) (high_is ps h).here

pub high-elem : (K : ℕ) (ws : List ℕ) (m : ℕ) → 0 < inside always (node_in K ws m).places
    → (high (node_in K ws m).places < K) × (elem_at ws (place_in K m (high (node_in K ws m).places)) ≡ high_elem (node_in K ws m).places)
unfolding node_of
high-elem K ws m h =
    let ps : List Place = (node_in K ws m).places in
    let i = high_is ps h in
    let b : high ps < K = omega (arith, place_here ps (high ps) (high_elem ps) i.here, node-count K ws (m * width K)) in
    (b, has-elem ws (place_in K m (high ps)) (high_elem ps) (sym (row-place K ws (m * width K + 2) (high ps) b) ∙ i.here))

-- ---- a node in order
module _ (K k m : ℕ) (x : Element) (ws : List ℕ) (fine : node_ok K (room K k) ws m ≡ true) where
  abbrev n : Node
  n = node_in K ws m

  abbrev ps : List Place
  ps = (node_in K ws m).places

  size : length ps ≡ K
  size = node-count K ws (m * width K)

  neat : Neat K ws (m * width K)
  neat = neat-in K k m ws fine

  pub free-at : (look_node K ws m).free ≡ free ps
  unfolding look_node node_of
  free-at = look-free ws (m * width K + 2) K

  -- with an empty place
  module _ (h : free ps < K) where
    step-free : step_in K k (put x) m ws ≡ finished (store (free ps) (has x) n) lhs none
    unfolding step_in begin put_by finish
    step-free = rw (lt-ltb (free ps) (length ps) (omega (arith, size))) refl

    roomy-free : roomy (room K k) n ≡ true
    unfolding roomy
    roomy-free = rw (lt-ltb (inside always ps) (length ps) (free-less ps (omega (arith, size)))) refl

    pub way-free : way_ok K (suc k) (put x) m ws ≡ true
    unfolding way_ok own_ok
    way-free = rw (step-free, fine, roomy-free) (way-none K k (child m lhs) ws)

    pub run-free : run_words K (suc k) (put x) m ws ≡ write_place ws (place_in K m (free ps)) (has x)
    unfolding run_words touch works
    run-free = rw step-free (run_none K k (child m lhs) (write_node ws (m * width K) (store (free ps) (has x) n)) ∙ one_place K ws m (free ps) (has x) h neat)

  -- full
  module _ (h : K ≤ free ps) (two : 1 < K) where
    abbrev e : Element
    e = high_elem ps

    abbrev s : Side
    s = fewer n

    all : inside always ps ≡ length ps
    all = no-free ps (omega (arith, size))

    pub some : 0 < inside always ps
    some = omega (arith, all, size)

    pub step-full : step_in K k (put x) m ws ≡ finished (raise s (store (high ps) (has (keep x e)) n)) s (put (pass x e))
    unfolding step_in begin put_by finish
    step-full = rw (le-ltb (free ps) (length ps) (omega (arith, size))) refl

    pub roomy-full : roomy (room K k) n ≡ not (leb (room K k) n.left && leb (room K k) n.right)
    unfolding roomy
    roomy-full =
        rw (le-ltb (inside always ps) (length ps) (omega (arith, all)), flip n.left (room K k), flip n.right (room K k)) (or-not (leb (room K k) n.left) (leb (room K k) n.right))

    -- no room below
    pub way-stuck : (leb (room K k) n.left && leb (room K k) n.right) ≡ true → way_ok K (suc k) (put x) m ws ≡ false
    unfolding way_ok own_ok
    way-stuck t = rw (fine, roomy-full, t) refl

    pub way_on : (right : Bool) → side_if right ≡ s → (leb (room K k) n.left && leb (room K k) n.right) ≡ false
        → way_ok K (suc k) (put x) m ws ≡ way_ok K k (put (pass x e)) (child m (side_if right)) ws
    unfolding way_ok own_ok
    way_on right q t = rw (step-full, fine, roomy-full, t, ← q) refl

    pub run_on : (right : Bool) → side_if right ≡ s
        → run_words K (suc k) (put x) m ws
        ≡ write_place (raise_words right (run_words K k (put (pass x e)) (child m (side_if right)) ws) (m * width K) (word ws (m * width K)) (word ws (m * width K + 1))) (place_in K m (high ps)) (has (keep x e))
    unfolding run_words touch works
    run_on right q =
        let o : ℕ = m * width K in
        let j : ℕ = high ps in
        let l : j < K = (high-elem K ws m some).0 in
        let d : ℕ = child m (side_if right) in
        rw (step-full, ← q)
        (ap (run_words K k (put (pass x e)) d) (raised-place K ws m j (has (keep x e)) right l neat)
        ∙ run-place K k (put (pass x e)) d (raise_words right ws o (word ws o) (word ws (o + 1))) (place_in K m j) (has (keep x e)) (place-before (side_if right) j l)
        ∙ ap (λ (u : List ℕ). write_place u (place_in K m j) (has (keep x e))) (run-raise K k (put (pass x e)) d right ws o (word ws o) (word ws (o + 1)) (count-before (side_if right))))
      where
        place-before : (s : Side) (i : ℕ) → i < K → m * width K + 2 + i * place_words + element_words < child m s * width K
        place-before lhs i h = omega arith
        place-before rhs i h = omega arith

        count-before : (s : Side) → m * width K + 1 < child m s * width K
        count-before lhs = omega arith
        count-before rhs = omega arith

-- ---- the put
abbrev Main : ℕ → ℕ → ℕ → Element → List ℕ → Type 0
Main K k m x ws =
    put_down K k m (room K k) (look_node K ws m) x ws ≡ went (way_ok K (suc k) (put x) m ws) (cond (way_ok K (suc k) (put x) m ws) (run_words K (suc k) (put x) m ws) ws)

side-child : (m : ℕ) (b : Bool) → cond b (m + m + 2) (m + m + 1) ≡ child m (side_if b)
side-child m true = refl
side-child m false = refl

way-bad : (K k : ℕ) (y : Element) (d : ℕ) (ws : List ℕ) → node_ok K (room K k) ws d ≡ false → way_ok K (suc k) (put y) d ws ≡ false
unfolding way_ok own_ok
way-bad K k y d ws e = rw e refl

pub fewer-side : (K : ℕ) (ws : List ℕ) (m : ℕ) → side_if (fewer_right ws (m * width K)) ≡ fewer (node_in K ws m)
unfolding fewer_right fewer node_of
fewer-side K ws m = refl

counts-at : (K limit : ℕ) (ws : List ℕ) (m : ℕ) → (leb limit (word ws (m * width K)) && leb limit (word ws (m * width K + 1))) ≡ (leb limit (node_in K ws m).left && leb limit (node_in K ws m).right)
unfolding node_of
counts-at K limit ws m = refl

-- a put that goes on below
goes : (K k m : ℕ) (x : Element) (ws : List ℕ) → 1 < K → node_ok K (room K (suc k)) ws m ≡ true → K ≤ free (node_in K ws m).places
    → (leb (room K (suc k)) (node_in K ws m).left && leb (room K (suc k)) (node_in K ws m).right) ≡ false
    → ((y : Element) (d : ℕ) → node_ok K (room K k) ws d ≡ true → Main K k d y ws)
    → (t : Bool) → node_ok K (room K k) ws (child m (side_if (fewer_right ws (m * width K)))) ≡ t → Main K (suc k) m x ws
unfolding put_down put_node put_back
goes K k m x ws two fine h room-left ih false t =
    let b : Bool = fewer_right ws (m * width K) in
    let d : ℕ = child m (side_if b) in
    let v : ℕ = free (node_in K ws m).places in
    rw (
      free-at K (suc k) m x ws fine,
      le-ltb v K h,
      counts-at K (room K (suc k)) ws m,
      room-left,
      under-room K k,
      side-child m b,
      test-is K (room K k) ws d,
      t,
      way_on K (suc k) m x ws fine h two b (fewer-side K ws m) room-left,
      way-bad K k (pass x (high_elem (node_in K ws m).places)) d ws t,
    ) refl
goes K k m x ws two fine h room-left ih true t =
    let b : Bool = fewer_right ws (m * width K) in
    let d : ℕ = child m (side_if b) in
    let v : ℕ = free (node_in K ws m).places in
    let e : Element = high_elem (node_in K ws m).places in
    let held = some K (suc k) m x ws fine h two in
    rw (
      free-at K (suc k) m x ws fine,
      le-ltb v K h,
      counts-at K (room K (suc k)) ws m,
      room-left,
      under-room K k,
      side-child m b,
      test-is K (room K k) ws d,
      t,
      high-place K ws m held,
      (high-elem K ws m held).1,
      ih (pass x e) d t,
      way_on K (suc k) m x ws fine h two b (fewer-side K ws m) room-left,
      run_on K (suc k) m x ws fine h two b (fewer-side K ws m),
    )
    (last (way_ok K (suc k) (put (pass x e)) d ws)
    (λ u. write_place (raise_words b u (m * width K) (word ws (m * width K)) (word ws (m * width K + 1))) (place_in K m (high (node_in K ws m).places)) (has (keep x e))) (run_words K (suc k) (put (pass x e)) d ws))
  where
    last : (b : Bool) (f : List ℕ → List ℕ) (q : List ℕ) → cond b (went true (f (cond b q ws))) (went false (cond b q ws)) ≡ went b (cond b (f q) ws)
    last true f q = refl
    last false f q = refl

-- the last level has no room below it
last-stuck : (K : ℕ) (ws : List ℕ) (m : ℕ) → (leb 0 (node_in K ws m).left && leb 0 (node_in K ws m).right) ≡ true
last-stuck K ws m = rw (le-leb 0 (node_in K ws m).left (omega arith), le-leb 0 (node_in K ws m).right (omega arith)) refl

pub put-main : (K k m : ℕ) (x : Element) (ws : List ℕ) → 1 < K → node_ok K (room K k) ws m ≡ true → Main K k m x ws
unfolding put_down put_node room
put-main K zero m x ws two fine = go (ltb (free (node_in K ws m).places) K) refl
  where
    go : (t : Bool) → ltb (free (node_in K ws m).places) K ≡ t → Main K zero m x ws
    go true p = rw (free-at K zero m x ws fine, p, way-free K zero m x ws fine (ltb-true (free (node_in K ws m).places) K p), run-free K zero m x ws fine (ltb-true (free (node_in K ws m).places) K p)) refl
    go false p = rw (free-at K zero m x ws fine, p, way-stuck K zero m x ws fine (ltb-false (free (node_in K ws m).places) K p) two (last-stuck K ws m)) refl
put-main K (suc k) m x ws two fine =
    go (ltb (free (node_in K ws m).places) K) refl (leb (room K (suc k)) (node_in K ws m).left && leb (room K (suc k)) (node_in K ws m).right) refl (λ y d f. put-main K k d y ws two f)
  where
    go : (t : Bool) → ltb (free (node_in K ws m).places) K ≡ t → (u : Bool) → (leb (room K (suc k)) (node_in K ws m).left && leb (room K (suc k)) (node_in K ws m).right) ≡ u
        → ((y : Element) (d : ℕ) → node_ok K (room K k) ws d ≡ true → Main K k d y ws) → Main K (suc k) m x ws
    go true p u q ih =
        rw (free-at K (suc k) m x ws fine, p, way-free K (suc k) m x ws fine (ltb-true (free (node_in K ws m).places) K p), run-free K (suc k) m x ws fine (ltb-true (free (node_in K ws m).places) K p)) refl
    go false p true q ih =
        rw (free-at K (suc k) m x ws fine, p, counts-at K (room K (suc k)) ws m, q, way-stuck K (suc k) m x ws fine (ltb-false (free (node_in K ws m).places) K p) two q) refl
    go false p false q ih = goes K k m x ws two fine (ltb-false (free (node_in K ws m).places) K p) q ih (node_ok K (room K k) ws (child m (side_if (fewer_right ws (m * width K))))) refl
