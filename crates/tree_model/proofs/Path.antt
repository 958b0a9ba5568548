-- In a sound store an operation that can be done finds its path in order.
use Rattle.laws.specs.Prelude.{All, Bool, List, [], ◌*◌, ◌+◌, ◌<◌, ◌||◌, ◌∙◌, ◌∷◌, ◌≡◌, all_map, all-to-map, and_left, and_right, and-true, ap, arith, blank, eqb, eqb-true, false, get_or, le-leb, leb, leb-false, length, lt-ltb, ltb, ne_eqb, not, not_so, not-suc-le-zero, or_right, pred, refl, subst, suc, sym, true, zero, ℕ}
use lib.Dec.{leb-zero}
use Rattle.tree_model.proofs.Acts.{rest-can, some_below, sub-sound}
use Rattle.tree_model.proofs.Choice.{counts-lower, every-all}
use Rattle.tree_model.proofs.Hang.{below_less, hang-at, Inside, inside, own-length, rest-inside, same_move, slots-hang}
use Rattle.tree_model.proofs.Many.{held-room, length-slots, sum-counts}
use Rattle.tree_model.proofs.Nothing.{work_none}
use Rattle.tree_model.specs.Prelude.{Can, Fit, Level, Levels, Move, Nothing, Op, Put, Shaped, Slot, Sound, Swap, Take, Tree, Work, at, every, has_room, has_some, held, idle, is_blank, is_empty, is_nothing, level_move, lifts, lowest, many, node_ok, nothing, path_ok, read_ok, room, slot_at, slot_ok, slots, something, step_ok, step_work, sum_counts, top, tree_of, vacant, work, work_ok}

pub all-every : (f : Slot → Bool) (ss : List Slot) → All (λ u. f u ≡ true) ss → every f ss ≡ true
unfolding every
all-every f [] h = refl
all-every f (u ∷ ss) h = and-true (f u) (every f ss) h.0 (all-every f ss h.1)

-- ---- a sound node passes the tests
fit-ok : (m k : ℕ) (s : Slot) (u : Tree k) → Sound m k u → Fit k s u → slot_ok (room m k) s ≡ true
unfolding slot_ok is_empty is_blank vacant blank
fit-ok m k s u so (nothing e z) = ap (slot_ok (room m k)) e ∙ and-true (leb 0 (suc (room m k))) true (leb-zero (suc (room m k))) refl
fit-ok m k s u so (something c z) =
    and-true (leb s.count (suc (room m k))) _ (le-leb s.count (suc (room m k)) (omega (arith, held-room m k u so)))
    (rw (ne_eqb s.count 0 (λ e. omega arith)))

pub node_ok_lem : (m k : ℕ) (t : Tree (suc k)) → Sound m (suc k) t → node_ok (room m k) (slots k t) ≡ true
unfolding node_ok slots
node_ok_lem m k t s = all-every _ _ (all-to-map (λ (z : Slot × Tree k). z.0) _ t (all_map _ _ (λ z h. fit-ok m k z.0 z.1 h.0 h.1) t s.1))

room-ok : (m k : ℕ) (t : Tree (suc k)) → Sound m (suc k) t → held (suc k) t < room m (suc k) → has_room (room m k) (slots k t) ≡ true
unfolding has_room room
room-ok m k t s h = not_so (every (λ s. eqb s.count (suc (room m k))) (slots k t)) (λ e.
    let l = counts-lower (suc (room m k)) (slots k t) (all_map (λ u. eqb u.count (suc (room m k)) ≡ true) _ (λ u p. omega (arith, eqb-true u.count (suc (room m k)) p)) (slots k t) (every-all _ (slots k t) e)) in
    omega (arith, rw (sum-counts m k t s.1, length-slots, s.0) at l))

pub no-sum : (nd : List Slot) → every is_empty nd ≡ true → sum_counts nd ≡ 0
unfolding every sum_counts is_empty
no-sum [] e = refl
no-sum (u ∷ nd) e = omega (arith, eqb-true u.count 0 (and_left (is_empty u) (every is_empty nd) e), no-sum nd (and_right (is_empty u) (every is_empty nd) e))

some-ok : (m k : ℕ) (t : Tree (suc k)) → Sound m (suc k) t → 0 < held (suc k) t → has_some (slots k t) ≡ true
unfolding has_some
some-ok m k t s h = not_so (every is_empty (slots k t)) (λ e. omega (arith, no-sum (slots k t) e, sum-counts m k t s.1))

pub read_ok_lem : (m k : ℕ) (o : Op) (t : Tree (suc k)) → Sound m (suc k) t → Can m (suc k) o t → read_ok o (room m k) (slots k t) ≡ true
unfolding read_ok
read_ok_lem m k Nothing t s c = refl
read_ok_lem m k (Put x) t s c = and-true (node_ok (room m k) (slots k t)) _ (node_ok_lem m k t s) (room-ok m k t s c)
read_ok_lem m k Take t s c = and-true (node_ok (room m k) (slots k t)) _ (node_ok_lem m k t s) (some-ok m k t s c)
read_ok_lem m k (Swap x) t s c = and-true (node_ok (room m k) (slots k t)) _ (node_ok_lem m k t s) (some-ok m k t s c)

-- ---- the path
pub fine-none : (m k : ℕ) (w : Work) (l below : Level) → w.op ≡ Nothing → work_ok m k w l below ≡ true
unfolding work_ok is_nothing
fine-none m k w l below e = ap (λ (o : Op). work_ok m k (record { op = o; node = w.node }) l below) e

pub path-none : (m k : ℕ) (w : Work) (ls : Levels k) → w.op ≡ Nothing → path_ok m k w ls ≡ true
unfolding path_ok
path-none m zero w ls e = refl
path-none m (suc k) w ls e =
    and-true (work_ok m k w ls.0 (top k ls.1)) _ (fine-none m k w ls.0 (top k ls.1) e)
    (path-none m k _ ls.1 (ap (λ (v : Work). v.op) (work_none m w ls.0 (top k ls.1) e)))

slots-tree : (m k : ℕ) (ls : Levels (suc k)) (i : ℕ) → slots k (tree_of m (suc k) ls i) ≡ get_or ls.0 i []
unfolding slots tree_of
slots-tree m k ls i = slots-hang (get_or ls.0 i []) _

-- what is lifted is read from a node that holds something
lift-ok : (m k : ℕ) (ls : Levels k) (i : ℕ) → Sound m k (tree_of m k ls i) → 0 < held k (tree_of m k ls i) → read_ok Take (room m (pred k)) (get_or (top k ls) i []) ≡ true
unfolding top many
lift-ok m zero ls i s h = absurd (not-suc-le-zero h)
lift-ok m (suc k) ls i s h = subst (λ (s : List Slot). read_ok Take (room m k) s ≡ true) (slots-tree m k ls i) (read_ok_lem m k Take (tree_of m (suc k) ls i) s h)

module _ (m : ℕ) (some : 0 < m) where
  abbrev Paths : ℕ → Type 0
  Paths k = (w : Work) (c : ℕ) (ls : Levels k) → Shaped m k c ls → w.node < c → Sound m k (tree_of m k ls w.node) → Can m k w.op (tree_of m k ls w.node) → path_ok m k w ls ≡ true

  path-work : (k : ℕ) → Paths k → (r : Op) (i c : ℕ) (ls : Levels k) → Shaped m k c ls → i < c → Sound m k (tree_of m k ls i) → Can m k r (tree_of m k ls i) → path_ok m k (work r i) ls ≡ true
  unfolding work
  path-work k ih Nothing i c ls sh h so ca = path-none m k idle ls refl
  path-work k ih (Put x) i c ls sh h so ca = ih (record { op = Put x; node = i }) c ls sh h so ca
  path-work k ih Take i c ls sh h so ca = ih (record { op = Take; node = i }) c ls sh h so ca
  path-work k ih (Swap x) i c ls sh h so ca = ih (record { op = Swap x; node = i }) c ls sh h so ca

  module _ (k : ℕ) (w : Work) (c : ℕ) (ls : Levels (suc k)) (sh : Shaped m (suc k) c ls) (h : w.node < c)
      (so : Sound m (suc k) (tree_of m (suc k) ls w.node)) (ca : Can m (suc k) w.op (tree_of m (suc k) ls w.node)) where
    abbrev nd : List Slot
    nd = get_or ls.0 w.node []

    abbrev t : Tree (suc k)
    t = tree_of m (suc k) ls w.node

    own_read : read_ok w.op (room m k) nd ≡ true
    own_read = subst (λ (s : List Slot). read_ok w.op (room m k) s ≡ true) (slots-tree m k ls w.node) (read_ok_lem m k w.op t so ca)

    len : length nd ≡ m
    len = own-length m some c w ls.0 (top k ls.1) sh.0 sh.1 h

    sub_of : (j : ℕ) → j < length nd → (at k t j).1 ≡ tree_of m k ls.1 (w.node * m + j)
    unfolding at tree_of
    sub_of j lt = hang-at nd _ j _ lt

    sound-of : (j : ℕ) → j < length nd → Sound m k (tree_of m k ls.1 (w.node * m + j))
    sound-of j lt = subst (Sound m k) (sub_of j lt) (sub-sound m k t so j (omega (arith, so.0, len)))

    -- what a take or swap lifts
    lifted : 0 < held (suc k) t → (not (not (leb (slot_at nd (lowest nd)).count 1)) || read_ok Take (room m (pred k)) (get_or (top k ls.1) (w.node * m + lowest nd) [])) ≡ true
    lifted c = go (leb (slot_at nd (lowest nd)).count 1) refl
      where
        more : 1 < (slot_at nd (lowest nd)).count → 0 < held k (at k t (lowest nd)).1
        more = subst (λ (s : List Slot). 1 < (slot_at s (lowest s)).count → 0 < held k (at k t (lowest s)).1) (slots-tree m k ls w.node) (some_below m k t so c)

        go : (b : Bool) → leb (slot_at nd (lowest nd)).count 1 ≡ b → (not (not b) || read_ok Take (room m (pred k)) (get_or (top k ls.1) (w.node * m + lowest nd) [])) ≡ true
        go true e = refl
        go false e =
            let lt = inside nd (lowest nd) (omega (arith, leb-false (slot_at nd (lowest nd)).count 1 e)) in
            lift-ok m k ls.1 (w.node * m + lowest nd) (sound-of (lowest nd) lt) (subst (λ (u : Tree k). 0 < held k u) (sub_of (lowest nd) lt) (more (leb-false (slot_at nd (lowest nd)).count 1 e)))

    lift-part : (o : Op) → Can m (suc k) o t → (not (lifts o nd) || read_ok Take (room m (pred k)) (get_or (top k ls.1) (w.node * m + lowest nd) [])) ≡ true
    unfolding lifts
    lift-part Nothing c = refl
    lift-part (Put x) c = refl
    lift-part Take c = lifted c
    lift-part (Swap x) c = lifted c

    step-fine : work_ok m k w ls.0 (top k ls.1) ≡ true
    unfolding work_ok step_ok
    step-fine =
        or_right (is_nothing w.op) _
        (and-true (ltb w.node (length ls.0)) _ (lt-ltb w.node (length ls.0) (subst (λ (n : ℕ). w.node < n) (sym sh.0) h))
        (and-true (read_ok w.op (room m k) nd) _ own_read (lift-part w.op ca)))

    rest_at : Paths k → (r : Op) (p : ℕ) → p < length nd → Can m k r (tree_of m k ls.1 (w.node * m + p)) → path_ok m k (work r (w.node * m + p)) ls.1 ≡ true
    rest_at ih r p lt ca = path-work k ih r (w.node * m + p) (c * m) ls.1 sh.2 (below_less m w.node c p h (omega (arith, len))) (sound-of p lt) ca

    path-rest : Paths k → (r : Op) (p : ℕ) → Inside r nd p → Can m k r (at k t p).1 → path_ok m k (work r (w.node * m + p)) ls.1 ≡ true
    unfolding work
    path-rest ih Nothing p i ca = path-none m k idle ls.1 refl
    path-rest ih (Put x) p i ca = rest_at ih (Put x) p i (subst (Can m k (Put x)) (sub_of p i) ca)
    path-rest ih Take p i ca = rest_at ih Take p i (subst (Can m k Take) (sub_of p i) ca)
    path-rest ih (Swap x) p i ca = rest_at ih (Swap x) p i (subst (Can m k (Swap x)) (sub_of p i) ca)

    move-inside : Inside (level_move m w.op w.node ls.0 (top k ls.1)).rest nd (level_move m w.op w.node ls.0 (top k ls.1)).place
    unfolding level_move
    move-inside = rest-inside w.op nd _ (omega (arith, len))

    path-step : Paths k → path_ok m (suc k) w ls ≡ true
    unfolding path_ok step_work tree_of
    path-step ih =
        let v = level_move m w.op w.node ls.0 (top k ls.1) in
        and-true (work_ok m k w ls.0 (top k ls.1)) _ step-fine
        (path-rest ih v.rest v.place move-inside
        (subst (λ (v : Move). Can m k v.rest (at k t v.place).1) (same_move m some k w c ls sh h) (rest-can m k t so w.op ca)))

  pub paths : (k : ℕ) → Paths k
  unfolding path_ok
  paths zero w c ls sh h so ca = refl
  paths (suc k) w c ls sh h so ca = path-step k w c ls sh h so ca (paths k)

  -- at the root
  pub root-path : (k : ℕ) (o : Op) (ls : Levels k) → Shaped m k 1 ls → Sound m k (tree_of m k ls 0) → Can m k o (tree_of m k ls 0) → path_ok m k (work o 0) ls ≡ true
  root-path k o ls sh so ca = path-work k (paths k) o 0 1 ls sh (omega arith) so ca
