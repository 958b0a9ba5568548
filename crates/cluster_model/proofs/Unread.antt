-- "of a longer one the rest is never touched": not read either. Two stores that agree on the words of the shape are answered the same and left the
-- same there, whatever stands behind.
use Rattle.laws.specs.Prelude.{Bool, Element, List, Request, [], ◌&&◌, ◌*◌, ◌+◌, ◌<◌, ◌||◌, ◌∙◌, ◌∷◌, ◌≡◌, ◌≤◌, and_left, and_right, ap, ap₂, arith, eq-eqb, eqb, false, get_or, get_or-set_other, get_or-set_same, is_blank, leb, leb-true, length, length-set, not-suc-le-zero, pred, refl, set, subst, suc, sym, true, zero, ℕ, ℕ_discrete}
use Rattle.promise.proofs.Calls.{unread-by}
use Rattle.promise.specs.Prelude.{always}
use Rattle.strip.proofs.Words.{read-local, write-both}
use Rattle.cluster_model.specs.Prelude.{Agree, Finished, Lies, Node, Op, Place, Ruling, Shape, Side, begin, called, child, children_ok, count_words, elem_of, extent, finish, heap, held_count, inside, lhs, low, low_elem, low_in, flag_at, flag_of, neat_place, neat_to, node_in, node_ok, none, nothing_below, own_ok, place_words, put, read_ok, rhs, right_at, room, roomy, root_held, root_ok, rule, rule_at, run_words, some, step_in, strict, swap, take, touch, under1, way_ok, width, works, write_node, write_place, write_row}
use Rattle.cluster_model.proofs.Damages.{is-shape}
use Rattle.cluster_model.proofs.Slice.{lies-all}
use Rattle.cluster_model.proofs.Words.{node-local}

-- ---- the same word written in both: two slices that have the words of P, and agree there
module _ (P : ℕ → Type 0) where
  pub record Alike (ws vs : List ℕ) : Type 0 where
    pub one : (p : ℕ) → P p → p < length ws
    pub other : (p : ℕ) → P p → p < length vs
    pub same : (p : ℕ) → P p → get_or ws p 0 ≡ get_or vs p 0

  like-set : (ws vs : List ℕ) (i x : ℕ) → Alike ws vs → Alike (set ws i x) (set vs i x)
  like-set ws vs i x a =
      record {
        one = λ p h. omega (arith, a.one p h, length-set ws i x);
        other = λ p h. omega (arith, a.other p h, length-set vs i x);
        same = λ p h. elim (ℕ_discrete p i) [
          | yes e ↦ subst (λ (q : ℕ). get_or (set ws i x) q 0 ≡ get_or (set vs i x) q 0) (sym e) (get_or-set_same ws i x 0 (omega (arith, a.one p h)) ∙ sym (get_or-set_same vs i x 0 (omega (arith, a.other p h))))
          | no e ↦ get_or-set_other ws i p x 0 e ∙ a.same p h ∙ sym (get_or-set_other vs i p x 0 e)
        ];
      }

  like-place : (ws vs : List ℕ) (o : ℕ) (p : Place) → Alike ws vs → Alike (write_place ws o p) (write_place vs o p)
  unfolding write_place
  like-place ws vs o p a = like-set _ _ (flag_at o) (flag_of p) (write-both Alike o (λ us vs i v g g' a. like-set us vs i v a) ws vs (elem_of p) a)

  like-row : (ps : List Place) (ws vs : List ℕ) (o : ℕ) → Alike ws vs → Alike (write_row ps ws o) (write_row ps vs o)
  unfolding write_row
  like-row [] ws vs o a = a
  like-row (p ∷ ps) ws vs o a = like-row ps (write_place ws o p) (write_place vs o p) (o + place_words) (like-place ws vs o p a)

  pub like-touch : (t : Bool) (ws vs : List ℕ) (o : ℕ) (n : Node) → Alike ws vs → Alike (touch t ws o n) (touch t vs o n)
  unfolding touch write_node
  like-touch true ws vs o n a = like-row n.places _ _ (o + count_words) (like-set _ _ (right_at o) n.right (like-set ws vs o n.left a))
  like-touch false ws vs o n a = a

-- the first N words
abbrev pub Under : ℕ → ℕ → Type 0
Under N p = p < N

-- ---- the same words read in both
module _ (K N : ℕ) (ws vs : List ℕ) (a : Alike (Under N) ws vs) where
  pub same-node : (m : ℕ) → m * width K + width K ≤ N → node_in K ws m ≡ node_in K vs m
  same-node m h = node-local K vs ws (m * width K) (λ i l g. a.same i (omega arith))

  pub same-neat : (o n : ℕ) → o + n * place_words ≤ N → neat_to K ws o n ≡ neat_to K vs o n
  unfolding neat_to neat_place
  same-neat o zero h = refl
  same-neat o (suc n) h =
      ap₂ (λ (x y : Bool). x && y) (same-neat o n (omega arith))
      (ap₂ (λ (e : Element) (m : ℕ). (eqb m 0 && is_blank e) || eqb m 1) (read-local vs ws (o + n * place_words) (λ i g g'. a.same i (omega arith))) (a.same (flag_at (o + n * place_words)) (omega arith)))

  same_ok : (limit m : ℕ) → m * width K + width K ≤ N → node_ok K limit ws m ≡ node_ok K limit vs m
  unfolding node_ok
  same_ok limit m h = ap₂ (λ (x y : Bool). x && y) (same-neat (m * width K + count_words) K (omega arith)) (ap (strict limit) (same-node m h))

  same_read : (b : Bool) (limit m : ℕ) → m * width K + width K ≤ N → read_ok K b limit ws m ≡ read_ok K b limit vs m
  unfolding read_ok
  same_read true limit m h = refl
  same_read false limit m h = ap₂ (λ (x y : Bool). x && y) (same_ok limit m h) (ap some (same-node m h))

  same_low : (k m : ℕ) → Lies K k m N → low_in K k ws m ≡ low_in K k vs m
  unfolding low_in
  same_low zero m l = refl
  same_low (suc k) m l = ap (λ (n : Node). low_elem n.places) (same-node m l.0)

  same_step : (k : ℕ) (o : Op) (m : ℕ) → Lies K (suc k) m N → step_in K k o m ws ≡ step_in K k o m vs
  unfolding step_in
  same_step k o m l =
      ap (λ (x : Node). finish (begin o (low x.places) x).note (begin o (low x.places) x).node (low_in K k ws (child m lhs)) (low_in K k ws (child m rhs))) (same-node m l.0)
      ∙ ap₂ (λ (u v : Element). finish (begin o (low (node_in K vs m).places) (node_in K vs m)).note (begin o (low (node_in K vs m).places) (node_in K vs m)).node u v)
      (same_low k (child m lhs) l.1) (same_low k (child m rhs) l.2)

  -- at the last level a node that is in order has nothing below it, so that no child is read
  strict_none : (n : Node) → strict 0 n ≡ true → (n.left ≡ 0) × (n.right ≡ 0)
  unfolding strict
  strict_none n e =
      let x : Bool = leb n.left 0 in
      let y : Bool = leb n.right 0 in
      let z : Bool = nothing_below n || leb (length n.places) (inside always n.places) in
      (omega (arith, leb-true n.left 0 (and_left x (y && z) e)), omega (arith, leb-true n.right 0 (and_left y z (and_right x (y && z) e))))

  last-children : (us : List ℕ) (m : ℕ) → node_ok K 0 us m ≡ true → children_ok K 0 us m ≡ true
  unfolding node_ok children_ok read_ok
  last-children us m e =
      let z = strict_none (node_in K us m) (and_right (neat_to K us (m * width K + count_words) K) (strict 0 (node_in K us m)) e) in
      rw (eq-eqb (node_in K us m).left 0 z.0, eq-eqb (node_in K us m).right 0 z.1)

  same-last : (m : ℕ) → m * width K + width K ≤ N → (node_ok K 0 ws m && children_ok K 0 ws m) ≡ (node_ok K 0 vs m && children_ok K 0 vs m)
  same-last m h = go (node_ok K 0 ws m) refl
    where
      go : (b : Bool) → node_ok K 0 ws m ≡ b → (node_ok K 0 ws m && children_ok K 0 ws m) ≡ (node_ok K 0 vs m && children_ok K 0 vs m)
      go true e = rw (e, last-children ws m e, sym (same_ok 0 m h) ∙ e, last-children vs m (sym (same_ok 0 m h) ∙ e))
      go false e = rw (e, sym (same_ok 0 m h) ∙ e)

  same-children : (k m : ℕ) → Lies K (suc k) m N → (node_ok K (room K k) ws m && children_ok K k ws m) ≡ (node_ok K (room K k) vs m && children_ok K k vs m)
  unfolding room children_ok
  same-children zero m l = same-last m l.0
  same-children (suc k) m l =
      ap₂ (λ (x y : Bool). x && y) (same_ok (room K (suc k)) m l.0)
      (ap₂ (λ (x y : Bool). x && y)
      (ap (λ (n : Node). read_ok K (eqb n.left 0) (under1 K (suc k)) ws (child m lhs)) (same-node m l.0) ∙ same_read (eqb (node_in K vs m).left 0) (under1 K (suc k)) (child m lhs) l.1.0)
      (ap (λ (n : Node). read_ok K (eqb n.right 0) (under1 K (suc k)) ws (child m rhs)) (same-node m l.0) ∙ same_read (eqb (node_in K vs m).right 0) (under1 K (suc k)) (child m rhs) l.2.0))

  same-own : (k : ℕ) (o : Op) (m : ℕ) → Lies K (suc k) m N → own_ok K k o m ws ≡ own_ok K k o m vs
  unfolding own_ok
  same-own k none m l = refl
  same-own k (put x) m l = ap₂ (λ (x y : Bool). x && y) (same_ok (room K k) m l.0) (ap (roomy (room K k)) (same-node m l.0))
  same-own k take m l = same-children k m l
  same-own k (swap x) m l = same-children k m l

child-lies : (K k m N : ℕ) (s : Side) → Lies K (suc k) m N → Lies K k (child m s) N
child-lies K k m N lhs l = l.1
child-lies K k m N rhs l = l.2

module _ (K N : ℕ) where
  same_way : (ws vs : List ℕ) → Alike (Under N) ws vs → (k : ℕ) (o : Op) (m : ℕ) → Lies K k m N → way_ok K k o m ws ≡ way_ok K k o m vs
  unfolding way_ok
  same_way ws vs a zero o m l = refl
  same_way ws vs a (suc k) o m l =
      let v : Finished = step_in K k o m ws in
      ap₂ (λ (x y : Bool). x && y) (same-own K N ws vs a k o m l)
      (same_way ws vs a k v.op (child m v.side) (child-lies K k m N v.side l) ∙ ap (λ (u : Finished). way_ok K k u.op (child m u.side) vs) (same_step K N ws vs a k o m l))

  like-run : (ws vs : List ℕ) → Alike (Under N) ws vs → (k : ℕ) (o : Op) (m : ℕ) → Lies K k m N → Alike (Under N) (run_words K k o m ws) (run_words K k o m vs)
  unfolding run_words
  like-run ws vs a zero o m l = a
  like-run ws vs a (suc k) o m l =
      let v : Finished = step_in K k o m ws in
      subst (λ (u : Finished). Alike (Under N) (run_words K k v.op (child m v.side) (touch (works o) ws (m * width K) v.node)) (run_words K k u.op (child m u.side) (touch (works o) vs (m * width K) u.node)))
      (same_step K N ws vs a k o m l)
      (like-run (touch (works o) ws (m * width K) v.node) (touch (works o) vs (m * width K) v.node) (like-touch (Under N) (works o) ws vs (m * width K) v.node a) k v.op (child m v.side) (child-lies K k m N v.side l))

-- ---- the calls
module _ (K levels : ℕ) (ws vs : List ℕ) (sh : Shape K levels (length ws)) (zh : Shape K levels (length vs)) (agree : Agree (extent K levels 1) ws vs) where
  abbrev N : ℕ
  N = extent K levels 1

  both : Alike (Under N) ws vs
  both = record { one = λ p h. omega (arith, sh.slice); other = λ p h. omega (arith, zh.slice); same = agree }

  pub root-fits : (l : ℕ) → 1 ≤ l → 0 * width K + width K ≤ extent K l 1
  unfolding extent
  root-fits zero h = absurd (not-suc-le-zero h)
  root-fits (suc k) h = omega arith

  same-root : node_in K ws 0 ≡ node_in K vs 0
  same-root = same-node K N ws vs both 0 (root-fits levels sh.some)

  same_test : root_ok K levels ws ≡ root_ok K levels vs
  same_test = same_ok K N ws vs both (room K (pred levels)) 0 (root-fits levels sh.some)

  module _ (r : Request) where
    same-rule : rule_at K levels r ws ≡ rule_at K levels r vs
    same-rule = ap (λ (n : Node). rule (room K levels) r (root_held n) (low_elem n.places)) same-root

    abbrev o : Op
    o = (rule_at K levels r ws).op

    same-path : way_ok K levels o 0 ws ≡ way_ok K levels (rule_at K levels r vs).op 0 vs
    same-path = same_way K N ws vs both levels o 0 (lies-all K levels N (omega arith)) ∙ ap (λ (g : Ruling). way_ok K levels g.op 0 vs) same-rule

    -- UNREAD
    pub unread : ((called K levels r ws).answer ≡ (called K levels r vs).answer) × Agree (extent K levels 1) (called K levels r ws).words (called K levels r vs).words
    unfolding called rule
    unread =
        unread-by (heap K levels) (Agree N) r ws vs (is-shape K levels (length ws) sh, tt) (is-shape K levels (length vs) zh, tt) tt tt same_test same-rule same-path agree (λ w.
        subst (λ (g : Ruling). Agree N (run_words K levels o 0 ws) (run_words K levels g.op 0 vs)) same-rule (like-run K N ws vs both levels o 0 (lies-all K levels N (omega arith))).same)

  pub unread-held : held_count K levels ws ≡ held_count K levels vs
  unfolding held_count
  unread-held = rw (is-shape K levels (length ws) sh, is-shape K levels (length vs) zh, same_test, same-root)
