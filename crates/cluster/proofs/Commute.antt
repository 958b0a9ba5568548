-- A word before a node may be written before or after an operation at that node: so a node may be written on the way back.
use Rattle.laws.specs.Prelude.{Bool, Element, List, [], ◌*◌, ◌+◌, ◌<◌, ◌∙◌, ◌∷◌, ◌≡◌, ap, ap₂, arith, element_in, element_words, eqb, false, get_or-set_other, inl, ltb, ltb-false, ltb-true, not-suc-le-zero, pred, refl, set, set_comm, subst, suc, sym, true, write_element, zero, ℕ}
use Rattle.strip.proofs.Words.{write-both, write-past}
use Rattle.promise.specs.Prelude.{always}
use Rattle.cluster_model.specs.Prelude.{Finished, Neat, NeatPlace, NeatRow, Node, Op, Place, Side, begin, child, elem_of, finish, has, inside, lhs, low, low_elem, low_in, flag_at, flag_of, neat_place, neat_to, node_in, node_of, none, place_by, place_of, place_words, rhs, run_words, step_in, touch, width, word, works, write_node, write_place, write_row}
use Rattle.cluster_node.proofs.Fulls.{and_l, and_r}
use Rattle.cluster_node.specs.Leaf.{elem_at, look_node, place_in, sink_words, raise_words}
use Rattle.cluster_node.specs.Scan.{lower_than, scan}
use Rattle.cluster_model.proofs.Laws.{gap-has, low-is, neat-test, node-count, node-local, place_here}
use Rattle.cluster_node.proofs.Unique.{scan-is-low, has-inj}
use Rattle.cluster_node.proofs.ScanCode.{row-place}
use Rattle.cluster_node.proofs.Bridge.{look-low}

-- ---- a write commutes with the write of a later node
place_set : (ws : List ℕ) (i x o : ℕ) (p : Place) → i < o → write_place (set ws i x) o p ≡ set (write_place ws o p) i x
unfolding write_place
place_set ws i x o p h =
    ap (λ (l : List ℕ). set l (flag_at o) (flag_of p)) (sym (write-past ws o i x (elem_of p) (inl h)))
    ∙ set_comm (write_element ws o (elem_of p)) i (flag_at o) x (flag_of p) (λ e. omega arith)

row-set : (ps : List Place) (ws : List ℕ) (i x o : ℕ) → i < o → write_row ps (set ws i x) o ≡ set (write_row ps ws o) i x
unfolding write_row
row-set [] ws i x o h = refl
row-set (p ∷ ps) ws i x o h = ap (λ (l : List ℕ). write_row ps l (o + place_words)) (place_set ws i x o p h) ∙ row-set ps (write_place ws o p) i x (o + place_words) (omega arith)

touch-set : (t : Bool) (ws : List ℕ) (i x o : ℕ) (n : Node) → i < o → touch t (set ws i x) o n ≡ set (touch t ws o n) i x
unfolding touch write_node
touch-set false ws i x o n h = refl
touch-set true ws i x o n h =
    ap (λ (l : List ℕ). write_row n.places (set l (o + 1) n.right) (o + 2)) (set_comm ws i o x n.left (λ e. omega arith))
    ∙ ap (λ (l : List ℕ). write_row n.places l (o + 2)) (set_comm (set ws o n.left) i (o + 1) x n.right (λ e. omega arith))
    ∙ row-set n.places (set (set ws o n.left) (o + 1) n.right) i x (o + 2) (omega arith)

-- ---- and a later node's words are not changed by it
node-set : (K : ℕ) (ws : List ℕ) (i x m : ℕ) → i < m * width K → node_in K (set ws i x) m ≡ node_in K ws m
node-set K ws i x m h = node-local K ws (set ws i x) (m * width K) (λ p g g'. get_or-set_other ws i p x 0 (λ e. omega arith))

later : (i m w : ℕ) (s : Side) → i < m * w → i < child m s * w
later i m w lhs h = omega arith
later i m w rhs h = omega arith

low-set : (K k : ℕ) (ws : List ℕ) (i x m : ℕ) → i < m * width K → low_in K k (set ws i x) m ≡ low_in K k ws m
unfolding low_in
low-set K zero ws i x m h = refl
low-set K (suc k) ws i x m h = ap (λ (n : Node). low_elem n.places) (node-set K ws i x m h)

pub step_set : (K k : ℕ) (o : Op) (m : ℕ) (ws : List ℕ) (i x : ℕ) → i < m * width K → step_in K k o m (set ws i x) ≡ step_in K k o m ws
unfolding step_in
step_set K k o m ws i x h =
    ap (λ (n : Node). finish (begin o (low n.places) n).note (begin o (low n.places) n).node (low_in K k (set ws i x) (child m lhs)) (low_in K k (set ws i x) (child m rhs))) (node-set K ws i x m h)
    ∙ ap₂ (λ (u v : Element). finish (begin o (low (node_in K ws m).places) (node_in K ws m)).note (begin o (low (node_in K ws m).places) (node_in K ws m)).node u v)
    (low-set K k ws i x (child m lhs) (later i m (width K) lhs h)) (low-set K k ws i x (child m rhs) (later i m (width K) rhs h))

pub run-set : (K k : ℕ) (o : Op) (m : ℕ) (ws : List ℕ) (i x : ℕ) → i < m * width K → run_words K k o m (set ws i x) ≡ set (run_words K k o m ws) i x
unfolding run_words
run-set K zero o m ws i x h = refl
run-set K (suc k) o m ws i x h =
    let v : Finished = step_in K k o m ws in
    ap (λ (u : Finished). run_words K k u.op (child m u.side) (touch (works o) (set ws i x) (m * width K) u.node)) (step_set K k o m ws i x h)
    ∙ ap (run_words K k v.op (child m v.side)) (touch-set (works o) ws i x (m * width K) v.node h)
    ∙ run-set K k v.op (child m v.side) (touch (works o) ws (m * width K) v.node) i x (later i m (width K) v.side h)

-- a place of an earlier node written before, or after
pub run-place : (K k : ℕ) (o : Op) (m : ℕ) (ws : List ℕ) (i : ℕ) (p : Place) → i + element_words < m * width K → run_words K k o m (write_place ws i p) ≡ write_place (run_words K k o m ws) i p
unfolding write_place
run-place K k o m ws i p h =
    run-set K k o m (write_element ws i (elem_of p)) (flag_at i) (flag_of p) h
    ∙ ap (λ (l : List ℕ). set l (flag_at i) (flag_of p))
    (write-both (λ us vs. run_words K k o m us ≡ vs) i (λ us vs j x g g' e. run-set K k o m us j x (omega arith) ∙ ap (λ (l : List ℕ). set l j x) e) ws (run_words K k o m ws) (elem_of p) refl)

pub run-sink : (K k : ℕ) (o : Op) (m : ℕ) (right : Bool) (ws : List ℕ) (i l r : ℕ) → i + 1 < m * width K → run_words K k o m (sink_words right ws i l r) ≡ sink_words right (run_words K k o m ws) i l r
unfolding sink_words
run-sink K k o m true ws i l r h = run-set K k o m ws (i + 1) (pred r) h
run-sink K k o m false ws i l r h = run-set K k o m ws i (pred l) (omega arith)

pub run-raise : (K k : ℕ) (o : Op) (m : ℕ) (right : Bool) (ws : List ℕ) (i l r : ℕ) → i + 1 < m * width K → run_words K k o m (raise_words right ws i l r) ≡ raise_words right (run_words K k o m ws) i l r
unfolding raise_words
run-raise K k o m true ws i l r h = run-set K k o m ws (i + 1) (r + 1) h
run-raise K k o m false ws i l r h = run-set K k o m ws i (l + 1) (omega arith)

-- nothing to do is nothing done, and needs no test
pub run_none : (K k m : ℕ) (ws : List ℕ) → run_words K k none m ws ≡ ws
unfolding run_words step_in begin finish works touch
run_none K zero m ws = refl
run_none K (suc k) m ws = run_none K k (child m lhs) ws

-- ---- the test D2 makes a node neat
neat-every : (K : ℕ) (ws : List ℕ) (o n : ℕ) → neat_to K ws o n ≡ true → (j : ℕ) → j < n → NeatPlace ws (o + j * place_words)
unfolding neat_to
neat-every K ws o zero e j h = absurd (not-suc-le-zero h)
neat-every K ws o (suc n) e j h = go (ltb j n) refl (λ g. neat-every K ws o n (and_l (neat_to K ws o n) (neat_place ws (o + n * place_words)) e) j g)
  where
    go : (b : Bool) → ltb j n ≡ b → (j < n → NeatPlace ws (o + j * place_words)) → NeatPlace ws (o + j * place_words)
    go true q ih = ih (ltb-true j n q)
    go false q ih =
        let same : n ≡ j = omega (arith, ltb-false j n q) in
        subst (λ (i : ℕ). NeatPlace ws (o + i * place_words)) same (neat-test ws (o + n * place_words) (and_r (neat_to K ws o n) (neat_place ws (o + n * place_words)) e))

neat-from : (K : ℕ) (ws : List ℕ) (o : ℕ) → ((j : ℕ) → j < K → NeatPlace ws (o + j * place_words)) → NeatRow K ws o
neat-from zero ws o h = tt
neat-from (suc K) ws o h =
    let at : o + 0 * place_words ≡ o = omega arith in (
      subst (λ (i : ℕ). NeatPlace ws i) at (h 0 (omega arith)),
      neat-from K ws (o + place_words) (λ j g. let to : o + suc j * place_words ≡ o + place_words + j * place_words = omega arith in subst (λ (i : ℕ). NeatPlace ws i) to (h (suc j) (omega arith))),
    )

pub neat-of : (K : ℕ) (ws : List ℕ) (o : ℕ) → neat_to K ws (o + 2) K ≡ true → Neat K ws o
neat-of K ws o e = neat-from K ws (o + 2) (neat-every K ws (o + 2) K e)

-- ---- the lowest that the scan finds
pub low-place : (K : ℕ) (ws : List ℕ) (m : ℕ) → 0 < inside always (node_in K ws m).places → (look_node K ws m).low ≡ low (node_in K ws m).places
unfolding look_node node_of
low-place K ws m h =
    let ps : List Place = (node_in K ws m).places in
    look-low ws (m * width K + 2) K K (omega arith) ∙ ap (scan lower_than ps) (sym (node-count K ws (m * width K))) ∙ scan-is-low ps (low ps) (low_elem ps) (low-is ps h).here

pub has-elem : (ws : List ℕ) (p : ℕ) (e : Element) → place_of ws p ≡ has e → elem_at ws p ≡ e
unfolding place_of place_by elem_at
has-elem ws p e h = go (eqb (word ws (p + element_words)) 0) h
  where
    x : Element
    x = element_in ws p

    go : (b : Bool) → place_by b x ≡ has e → x ≡ e
    go true h = absurd (gap-has e h)
    go false h = has-inj x e h

pub low-elem : (K : ℕ) (ws : List ℕ) (m : ℕ) → 0 < inside always (node_in K ws m).places → elem_at ws (place_in K m (low (node_in K ws m).places)) ≡ low_elem (node_in K ws m).places
unfolding node_of
low-elem K ws m h =
    let ps : List Place = (node_in K ws m).places in
    let i = low-is ps h in
    let b : low ps < K = omega (arith, place_here ps (low ps) (low_elem ps) i.here, node-count K ws (m * width K)) in
    has-elem ws (place_in K m (low ps)) (low_elem ps) (sym (row-place K ws (m * width K + 2) (low ps) b) ∙ i.here)
