-- Where the words stand, in 01's numbers: the capacity, the place of each slot, what clear writes, and what held answers.
use Rattle.laws.specs.Prelude.{List, [], ◌*◌, ◌++◌, ◌+◌, ◌-◌, ◌<◌, ◌^◌, ◌∙◌, ◌≡◌, ◌≤◌, add-zero, ap, ap₂, arith, count_number, count_of, drop, get_or, get_or-replicate, length, length-append, length-drop, length-replicate, not-suc-le-zero, refl, replicate, suc, sum_to, sym, to-ext, zero, zero-add, ℕ, Ok, None}
use native.Mathlib.Nat.{mul_assoc, mul-one, one-mul, pow-succ', pow-zero}
use lib.ListN.{get_or-append}
use lib.Seq.{get_or-append-add, get_or-drop}
use Rattle.promise.specs.Prelude.{zero-told}
use Rattle.tree_model.proofs.Exactly.{cleared-fine, counted-either, is-shape}
use Rattle.tree_model.proofs.Words.{level-length, level-node, node-slot, size_room}
use Rattle.tree_model.specs.Prelude.{Level, Outcome, Shape, Slot, Zeroed, cleared, four_words, held_count, level_at, level_of, levels_of, node_of, room, root_of, size, slot_at, slot_of, sum_counts, tabulate, wipe}

-- ---- "Capacity is M + M² + … + M^L"
powers : (m k a : ℕ) → sum_to k (λ i. a * m ^ suc i) ≡ a * room m k
unfolding sum_to room
powers m zero a = omega arith
powers m (suc k) a =
    let e : sum_to k (λ i. a * m ^ suc (suc i)) ≡ sum_to k (λ i. a * m * m ^ suc i) =
    to-ext k (λ i. a * m ^ suc (suc i)) (λ i. a * m * m ^ suc i) (λ i l. ap (λ (n : ℕ). a * n) (pow-succ' m (suc i)) ∙ sym (mul_assoc a m (m ^ suc i))) in
    let o : a * m ^ suc 0 ≡ a * m = ap (λ (n : ℕ). a * n) (pow-succ' m 0 ∙ ap (λ (n : ℕ). m * n) (pow-zero m) ∙ mul-one m) in
    let d : a * (m * suc (room m k)) ≡ a * m * suc (room m k) = sym (mul_assoc a m (suc (room m k))) in
    omega (arith, e, o, d, powers m k (a * m))

pub capacity : (m levels : ℕ) → room m levels ≡ sum_to levels (λ i. m ^ suc i)
capacity m levels =
    sym (one-mul (room m levels)) ∙ sym (powers m levels 1) ∙ to-ext levels (λ i. 1 * m ^ suc i) (λ i. m ^ suc i) (λ i l. one-mul (m ^ suc i))

-- ---- "Slots lie in one lent slice, level by level, node by node"; "four words, with length before count"
pub level-lies : (m k : ℕ) (ws : List ℕ) (b c i : ℕ) → i < k → level_at k (levels_of m k ws b c) i ≡ level_of m ws (b + size m i c) (c * m ^ i)
unfolding level_at levels_of size
level-lies m zero ws b c i h = absurd (not-suc-le-zero h)
level-lies m (suc k) ws b c zero h = rw (pow-zero, mul-one, add-zero)
level-lies m (suc k) ws b c (suc i) h =
    let at : b + c * m + size m i (c * m) ≡ b + (c * m + size m i (c * m)) = omega arith in
    let wide : c * m * m ^ i ≡ c * m ^ suc i = mul_assoc c m (m ^ i) ∙ ap (λ (n : ℕ). c * n) (sym (pow-succ' m i)) in
    level-lies m k ws (b + c * m) (c * m) i (omega arith) ∙ ap₂ (level_of m ws) at wide

pub level-wide : (m k : ℕ) (ws : List ℕ) (i : ℕ) → i < k → length (level_at k (levels_of m k ws 0 1) i) ≡ m ^ i
level-wide m k ws i h = ap length (level-lies m k ws 0 1 i h) ∙ level-length m ws _ (1 * m ^ i) ∙ one-mul (m ^ i)

-- slot j of node n of level i stands behind the slots of the levels above, the nodes before and the slots before
pub lies : (m k : ℕ) (ws : List ℕ) (i n j : ℕ) → i < k → n < m ^ i → j < m
    → slot_at (get_or (level_at k (levels_of m k ws 0 1) i) n []) j ≡ four_words ws (sum_to i (λ a. m ^ suc a) + n * m + j)
unfolding slot_of
lies m k ws i n j hi hn hj =
    let b : ℕ = sum_to i (λ a. m ^ suc a) in
    let at : 0 + size m i 1 ≡ b = omega (arith, size_room m i 1, capacity m i) in
    let level : level_at k (levels_of m k ws 0 1) i ≡ level_of m ws b (m ^ i) = level-lies m k ws 0 1 i hi ∙ ap₂ (level_of m ws) at (one-mul (m ^ i)) in
    ap (λ (l : Level). slot_at (get_or l n []) j) level ∙ ap (λ (nd : List Slot). slot_at nd j) (level-node m ws b (m ^ i) n hn) ∙ node-slot m ws (b + n * m) j hj

-- ---- clear
pub wiped : (n : ℕ) (ws : List ℕ) → 4 * n ≤ length ws → Zeroed n ws (wipe n ws)
unfolding wipe
wiped n ws h =
    record {
      length = simp (length-append, length-replicate, length-drop) (omega arith);
      zeros = λ p d l. get_or-append (replicate (n * 4) 0) (drop (n * 4) ws) d p (rw length-replicate (omega arith)) ∙ get_or-replicate (n * 4) p 0 d (omega arith);
      rest = λ p d l. behind p d l;
    }
  where
    behind : (p d : ℕ) → 4 * n ≤ p → get_or (replicate (n * 4) 0 ++ drop (n * 4) ws) p d ≡ get_or ws p d
    behind p d l =
        let z : List ℕ = replicate (n * 4) 0 in
        let at : p ≡ length z + (p - n * 4) = rw length-replicate (omega arith) in
        ap (λ (p : ℕ). get_or (z ++ drop (n * 4) ws) p d) at ∙ get_or-append-add z (drop (n * 4) ws) (p - n * 4) d ∙ get_or-drop (n * 4) ws (p - n * 4) d
        ∙ ap (λ (p : ℕ). get_or ws p d) (omega arith)

pub clear-zeroes : (m levels : ℕ) (ws : List ℕ) → Shape m levels (length ws) → ((cleared m levels ws).answer ≡ Ok None) × Zeroed (room m levels) ws (cleared m levels ws).words
clear-zeroes m levels ws sh =
    let e = cleared-fine m levels ws (is-shape m levels (length ws) sh) in (
      ap (λ (o : Outcome). o.answer) e,
      rw e (wiped (room m levels) ws sh.slice),
    )

-- ---- held: "the sum of the root's counts", each the last word of a slot
sum-tabulate : (m : ℕ) (f : ℕ → Slot) → sum_counts (tabulate m f) ≡ sum_to m (λ j. (f j).count)
unfolding sum_counts tabulate sum_to
sum-tabulate zero f = refl
sum-tabulate (suc m) f = ap (λ (n : ℕ). (f 0).count + n) (sum-tabulate m (λ i. f (suc i)))

root-counts : (m : ℕ) (ws : List ℕ) → sum_counts (root_of m ws) ≡ sum_to m (λ j. get_or ws (4 * j + 3) 0)
unfolding node_of slot_of
root-counts m ws =
    sum-tabulate m (λ j. slot_of ws (0 + j)) ∙ to-ext m (λ j. get_or ws (4 * (0 + j) + 3) 0) (λ j. get_or ws (4 * j + 3) 0) (λ j l. ap (λ (i : ℕ). get_or ws (4 * i + 3) 0) (zero-add j))

pub held-counts : (m levels : ℕ) (ws : List ℕ) → count_number (held_count m levels ws) ≡ 0 → count_of (held_count m levels ws) ≡ sum_to m (λ j. get_or ws (4 * j + 3) 0)
held-counts m levels ws =
    counted-either m levels ws (λ c. count_number c ≡ 0 → count_of c ≡ sum_to m (λ j. get_or ws (4 * j + 3) 0)) (λ x e. absurd (zero-told x (sym e))) (λ e. root-counts m ws)
