-- The calls in the code's shape are the calls of the definitions.
use Rattle.laws.specs.Prelude.{Bool, Damaged, Element, List, Pop, Push, Replace, ◌&&◌, ◌*◌, ◌+◌, ◌-◌, ◌<◌, ◌||◌, ◌≡◌, ◌≤◌, ap, arith, cond, eqb, eqb-false, eqb-true, false, le-ltb, leb, leb-true, length, lt-leb, lt-ltb, ltb, not, pred, refl, sub-one, suc, true, untagged, zero, ℕ, Ok, None, Some, Err}
use Rattle.promise.specs.Prelude.{always}
use Rattle.cluster_model.specs.Prelude.{Node, called, extent, held_count, inside, low_elem, neat_to, node_in, node_of, node_ok, nothing_below, outcome, put, room, root_held, rule, run_words, shape_ok, strict, swap, take, way_ok, width, word}
use Rattle.cluster_model.proofs.Laws.{node-count, root-limit}
use Rattle.cluster_node.specs.Leaf.{look_node}
use Rattle.cluster_node.proofs.Bridge.{test-is, look-count}
use Rattle.cluster.specs.Coded.{held_by, held_down, opened_to, pop_down, push_down, replace_down}
use Rattle.cluster.proofs.Shapes.{shape_is}
use Rattle.cluster_node.proofs.Fulls.{and_r}
use Rattle.cluster.proofs.Commute.{run_none, low-place, low-elem}
use Rattle.cluster.proofs.Taken.{way-none, take-main}
use Rattle.cluster.proofs.Swapped.{swap-main}
use Rattle.cluster.proofs.Putted.{put-main}

pub held-root-is : (K : ℕ) (ws : List ℕ) → held_by K ws (look_node K ws 0) ≡ root_held (node_in K ws 0)
unfolding held_by root_held look_node node_of
held-root-is K ws = ap (λ (c : ℕ). c + (word ws (0 * width K) + word ws (0 * width K + 1))) (look-count ws (0 * width K + 2) K)

-- something is held: the root has an element
pub some-at-root : (K limit : ℕ) (ws : List ℕ) → 0 < K → node_ok K limit ws 0 ≡ true → (root_held (node_in K ws 0) ≡ 0 → ⊥) → 0 < inside always (node_in K ws 0).places
unfolding node_ok strict root_held nothing_below
some-at-root K limit ws h e n =
    let x : Node = node_in K ws 0 in
    let u : Bool = leb (length x.places) (inside always x.places) in
    let b : Bool = eqb (x.left + x.right) 0 in
    let st = and_r (neat_to K ws (0 * width K + 2) K) (leb x.left limit && (leb x.right limit && (b || u))) e in
    let t = and_r (leb x.right limit) (b || u) (and_r (leb x.left limit) (leb x.right limit && (b || u)) st) in
    go b refl t
  where
    go : (b : Bool) → eqb ((node_in K ws 0).left + (node_in K ws 0).right) 0 ≡ b → (b || leb (length (node_in K ws 0).places) (inside always (node_in K ws 0).places)) ≡ true → 0 < inside always (node_in K ws 0).places
    go true z t = let w = eqb-true ((node_in K ws 0).left + (node_in K ws 0).right) 0 z in let m : root_held (node_in K ws 0) ≡ 0 → ⊥ = n in omega (arith, w)
    go false z t = omega (arith, leb-true (length (node_in K ws 0).places) (inside always (node_in K ws 0).places) t, node-count K ws (0 * width K))

less_one : (k : ℕ) → suc k - 1 ≡ k
less_one k = omega arith

pub pop-is : (K k : ℕ) (ws : List ℕ) → pop_down K (suc k) ws ≡ called K (suc k) Pop ws
unfolding pop_down opened_to called rule
pop-is K k ws = go (shape_ok K (suc k) (length ws)) refl (node_ok K (room K k) ws 0) refl (eqb (root_held (node_in K ws 0)) 0) refl
  where
    go : (a : Bool) → shape_ok K (suc k) (length ws) ≡ a → (b : Bool) → node_ok K (room K k) ws 0 ≡ b → (c : Bool) → eqb (root_held (node_in K ws 0)) 0 ≡ c → pop_down K (suc k) ws ≡ called K (suc k) Pop ws
    go false p b q c s = rw p refl
    go true p false q c s = rw (less_one k, test-is K (room K k) ws 0, p, q) refl
    go true p true q true s = rw (less_one k, test-is K (room K k) ws 0, held-root-is K ws, p, q, s, way-none K (suc k) 0 ws, run_none K (suc k) 0 ws) refl
    go true p true q false s =
        let h = some-at-root K (room K k) ws (omega (arith, (shape_is K (suc k) (length ws) p).low)) q (eqb-false (root_held (node_in K ws 0)) 0 s) in
        rw (less_one k, test-is K (room K k) ws 0, held-root-is K ws, p, q, s, low-place K ws 0 h, low-elem K ws 0 h, take-main K k 0 ws q h) (last (way_ok K (suc k) take 0 ws))
      where
        last : (b : Bool) → cond b (outcome (Ok (Some (low_elem (node_in K ws 0).places))) (cond b (run_words K (suc k) take 0 ws) ws)) (outcome (Err Damaged) (cond b (run_words K (suc k) take 0 ws) ws))
            ≡ cond b (outcome (Ok (Some (low_elem (node_in K ws 0).places))) (run_words K (suc k) take 0 ws)) (outcome (Err Damaged) ws)
        last true = refl
        last false = refl

pub replace-is : (K k : ℕ) (x : Element) (ws : List ℕ) → untagged x ≡ false → replace_down K (suc k) x ws ≡ called K (suc k) (Replace x) ws
unfolding replace_down opened_to called rule
replace-is K k x ws tag = go (shape_ok K (suc k) (length ws)) refl (node_ok K (room K k) ws 0) refl (eqb (root_held (node_in K ws 0)) 0) refl
  where
    go : (a : Bool) → shape_ok K (suc k) (length ws) ≡ a → (b : Bool) → node_ok K (room K k) ws 0 ≡ b → (c : Bool) → eqb (root_held (node_in K ws 0)) 0 ≡ c → replace_down K (suc k) x ws ≡ called K (suc k) (Replace x) ws
    go false p b q c s = rw p refl
    go true p false q c s = rw (less_one k, test-is K (room K k) ws 0, p, q) refl
    go true p true q true s = rw (less_one k, test-is K (room K k) ws 0, held-root-is K ws, p, q, tag, s, way-none K (suc k) 0 ws, run_none K (suc k) 0 ws) refl
    go true p true q false s =
        let h = some-at-root K (room K k) ws (omega (arith, (shape_is K (suc k) (length ws) p).low)) q (eqb-false (root_held (node_in K ws 0)) 0 s) in
        rw (less_one k, test-is K (room K k) ws 0, held-root-is K ws, p, q, tag, s, low-place K ws 0 h, low-elem K ws 0 h, swap-main K k 0 x ws q h) (last (way_ok K (suc k) (swap x) 0 ws))
      where
        last : (b : Bool) → cond b (outcome (Ok (Some (low_elem (node_in K ws 0).places))) (cond b (run_words K (suc k) (swap x) 0 ws) ws)) (outcome (Err Damaged) (cond b (run_words K (suc k) (swap x) 0 ws) ws))
            ≡ cond b (outcome (Ok (Some (low_elem (node_in K ws 0).places))) (run_words K (suc k) (swap x) 0 ws)) (outcome (Err Damaged) ws)
        last true = refl
        last false = refl

-- ---- a push with a tag
room-left : (h c : ℕ) → h ≤ c → ltb h c ≡ not (eqb h c)
room-left h c l = go (eqb h c) refl
  where
    go : (t : Bool) → eqb h c ≡ t → ltb h c ≡ not t
    go true e = le-ltb h c (omega (arith, eqb-true h c e))
    go false e = let ne : h ≡ c → ⊥ = eqb-false h c e in lt-ltb h c (omega arith)

pub push-is : (K k : ℕ) (x : Element) (ws : List ℕ) → untagged x ≡ false → push_down K (suc k) x ws ≡ called K (suc k) (Push x) ws
unfolding push_down opened_to called rule
push-is K k x ws tag = go (shape_ok K (suc k) (length ws)) refl (node_ok K (room K k) ws 0) refl (eqb (root_held (node_in K ws 0)) (room K (suc k))) refl
  where
    go : (a : Bool) → shape_ok K (suc k) (length ws) ≡ a → (b : Bool) → node_ok K (room K k) ws 0 ≡ b → (c : Bool) → eqb (root_held (node_in K ws 0)) (room K (suc k)) ≡ c
        → push_down K (suc k) x ws ≡ called K (suc k) (Push x) ws
    go false p b q c s = rw p refl
    go true p false q c s = rw (less_one k, test-is K (room K k) ws 0, p, q) refl
    go true p true q true s =
        rw (less_one k, test-is K (room K k) ws 0, held-root-is K ws, p, q, tag, room-left (root_held (node_in K ws 0)) (room K (suc k)) (root-limit K (suc k) ws (omega arith) q), s, way-none K (suc k) 0 ws, run_none K (suc k) 0 ws) refl
    go true p true q false s =
        rw (
          less_one k,
          test-is K (room K k) ws 0,
          held-root-is K ws,
          p,
          q,
          tag,
          room-left (root_held (node_in K ws 0)) (room K (suc k)) (root-limit K (suc k) ws (omega arith) q),
          s,
          put-main K k 0 x ws (omega (arith, (shape_is K (suc k) (length ws) p).low)) q,
        ) (last (way_ok K (suc k) (put x) 0 ws))
      where
        last : (b : Bool) → cond b (outcome (Ok None) (cond b (run_words K (suc k) (put x) 0 ws) ws)) (outcome (Err Damaged) (cond b (run_words K (suc k) (put x) 0 ws) ws))
            ≡ cond b (outcome (Ok None) (run_words K (suc k) (put x) 0 ws)) (outcome (Err Damaged) ws)
        last true = refl
        last false = refl

-- ---- no levels: no shape
no-levels : (K len : ℕ) → shape_ok K 0 len ≡ false
unfolding shape_ok
no-levels K len = go (leb 2 K) (leb K 16)
  where
    go : (a b : Bool) → (a && (b && (leb 1 0 && (leb (room K 0) 5460 && leb (extent K 0 1) len)))) ≡ false
    go true true = rw (lt-leb 1 0 (omega arith)) refl
    go true false = refl
    go false b = refl

-- ---- the calls, whatever the levels
pub pop-eq : (K levels : ℕ) (ws : List ℕ) → pop_down K levels ws ≡ called K levels Pop ws
unfolding pop_down opened_to called
pop-eq K zero ws = rw (no-levels K (length ws)) refl
pop-eq K (suc k) ws = pop-is K k ws

pub push-eq : (K levels : ℕ) (x : Element) (ws : List ℕ) → untagged x ≡ false → push_down K levels x ws ≡ called K levels (Push x) ws
unfolding push_down opened_to called
push-eq K zero x ws tag = rw (no-levels K (length ws)) refl
push-eq K (suc k) x ws tag = push-is K k x ws tag

pub replace-eq : (K levels : ℕ) (x : Element) (ws : List ℕ) → untagged x ≡ false → replace_down K levels x ws ≡ called K levels (Replace x) ws
unfolding replace_down opened_to called
replace-eq K zero x ws tag = rw (no-levels K (length ws)) refl
replace-eq K (suc k) x ws tag = replace-is K k x ws tag

pub held-eq : (K levels : ℕ) (ws : List ℕ) → held_down K levels ws ≡ held_count K levels ws
unfolding held_down held_count
held-eq K levels ws = rw (sub-one levels, ← test-is K (room K (pred levels)) ws 0, ← held-root-is K ws) refl
