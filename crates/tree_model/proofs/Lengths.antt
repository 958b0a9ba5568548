-- The length decides nothing: two histories alike but for lengths are answered alike but for lengths.
use Rattle.laws.specs.Prelude.{Answer, Bool, Element, Empty, Full, Idle, List, NoTag, Pop, Push, Replace, Request, [], ◌&&◌, ◌*◌, ◌+◌, ◌||◌, ◌∙◌, ◌∷◌, ◌≡◌, ap, ap₂, blank, cond, eqb, false, get_or, key, leb, length, ltb, map, not, not-suc-le-zero, precedes, refl, replicate, set, suc, sym, true, untagged, zero, ℕ, Ok, None, Some, Err}
use Rattle.promise.specs.Prelude.{answers, short, short_answer, short_request}
use Rattle.tree_model.proofs.Promises.{called-kept, Kept, kept-answer, kept-words, said, start-bare, start-kept}
use Rattle.tree_model.specs.Prelude.{Level, Levels, Move, Nothing, Op, Put, Ruling, Shape, Slot, Swap, Take, Work, apply, bare_levels, called, every, first_empty, is_empty, keep, least_count, level_move, levels_of, low, lowest, op_move, pass, put_by, put_move, room, rule, ruled, ruling, seek, serve, short_level, short_levels, short_node, short_op, short_slot, slot_at, start, step_level, step_work, sum_counts, swap_by, swap_move, take_by, take_move, top, tree_queue, vacant, work}

-- ---- lists
module _ {A B : Type 0} (f : A → B) where
  get_d_map : (l : List A) (i : ℕ) (d : A) → get_or (map f l) i (f d) ≡ f (get_or l i d)
  get_d_map [] i d = refl
  get_d_map (a ∷ l) zero d = refl
  get_d_map (a ∷ l) (suc i) d = get_d_map l i d

  set-map : (l : List A) (i : ℕ) (v : A) → set (map f l) i (f v) ≡ map f (set l i v)
  set-map [] i v = refl
  set-map (a ∷ l) zero v = refl
  set-map (a ∷ l) (suc i) v = ap (λ (r : List B). f a ∷ r) (set-map l i v)

  len-map : (l : List A) → length (map f l) ≡ length l
  len-map [] = refl
  len-map (a ∷ l) = ap suc (len-map l)

  same_map : (n : ℕ) (a : A) → map f (replicate n a) ≡ replicate n (f a)
  same_map zero a = refl
  same_map (suc n) a = ap (λ (r : List B). f a ∷ r) (same_map n a)

-- ---- the choices at a node
seek-short : (t : Slot → List Slot → Bool) → ((s : Slot) (ss : List Slot) → t (short_slot s) (short_node ss) ≡ t s ss) → (nd : List Slot) → seek t (short_node nd) ≡ seek t nd
unfolding seek
seek-short t h [] = refl
seek-short t h (s ∷ ss) = ap₂ (λ (b : Bool) (n : ℕ). cond b 0 (suc n)) (h s ss) (seek-short t h ss)

every-short : (f : Slot → Bool) → ((s : Slot) → f (short_slot s) ≡ f s) → (nd : List Slot) → every f (short_node nd) ≡ every f nd
unfolding every
every-short f h [] = refl
every-short f h (s ∷ ss) = ap₂ ◌&&◌ (h s) (every-short f h ss)

empty-short : (nd : List Slot) → first_empty (short_node nd) ≡ first_empty nd
unfolding first_empty is_empty
empty-short nd = seek-short (λ s ss. eqb s.count 0) (λ s ss. refl) nd

least-short : (nd : List Slot) → least_count (short_node nd) ≡ least_count nd
unfolding least_count
least-short nd = seek-short (λ s ss. every (λ u. leb s.count u.count) ss) (λ s ss. every-short (λ u. leb s.count u.count) (λ u. refl) ss) nd

lowest-short : (nd : List Slot) → lowest (short_node nd) ≡ lowest nd
unfolding lowest is_empty precedes key
lowest-short nd =
    seek-short (λ s ss. not (is_empty s) && every (λ u. is_empty u || not (precedes u.element s.element)) ss)
    (λ s ss. ap (λ (b : Bool). not (is_empty s) && b) (every-short (λ u. is_empty u || not (precedes u.element s.element)) (λ u. refl) ss)) nd

slot-short : (nd : List Slot) (j : ℕ) → slot_at (short_node nd) j ≡ short_slot (slot_at nd j)
unfolding slot_at vacant blank
slot-short nd j = get_d_map short_slot nd j vacant

low-short : (nd : List Slot) → low (short_node nd) ≡ short (low nd)
unfolding low
low-short nd = ap (λ (j : ℕ). (slot_at (short_node nd) j).element) (lowest-short nd) ∙ ap (λ (s : Slot). s.element) (slot-short nd (lowest nd))

sum-short : (nd : List Slot) → sum_counts (short_node nd) ≡ sum_counts nd
unfolding sum_counts
sum-short [] = refl
sum-short (s ∷ ss) = ap (λ (n : ℕ). s.count + n) (sum-short ss)

-- ---- the steps
abbrev short_move : Move → Move
short_move v = record { place = v.place; slot = short_slot v.slot; rest = short_op v.rest }

keep-short : (x e : Element) → keep (short x) (short e) ≡ short (keep x e)
unfolding keep key
keep-short x e = go (ltb x.rank.0 e.rank.0)
  where
    go : (b : Bool) → cond b (short x) (short e) ≡ short (cond b x e)
    go true = refl
    go false = refl

pass-short : (x e : Element) → pass (short x) (short e) ≡ short (pass x e)
unfolding pass key
pass-short x e = go (ltb x.rank.0 e.rank.0)
  where
    go : (b : Bool) → cond b (short e) (short x) ≡ short (cond b e x)
    go true = refl
    go false = refl

put-short : (b : Bool) (x : Element) (nd : List Slot) → put_by b (short x) (short_node nd) ≡ short_move (put_by b x nd)
unfolding put_by
put-short true x nd = rw (empty-short nd)
put-short false x nd =
    let e : Element = (slot_at nd (least_count nd)).element in
    rw (least-short nd, slot-short nd (least_count nd), keep-short x e, pass-short x e)

take_short : (b : Bool) (nd : List Slot) (below : ℕ → Element) → take_by b (short_node nd) (λ j. short (below j)) ≡ short_move (take_by b nd below)
unfolding take_by blank
take_short true nd below = rw (lowest-short nd)
take_short false nd below = rw (lowest-short nd, slot-short nd (lowest nd))

swap-short : (b : Bool) (x : Element) (nd : List Slot) (below : ℕ → Element) → swap_by b (short x) (short_node nd) (λ j. short (below j)) ≡ short_move (swap_by b x nd below)
unfolding swap_by
swap-short true x nd below = rw (lowest-short nd, slot-short nd (lowest nd))
swap-short false x nd below = rw (lowest-short nd, slot-short nd (lowest nd))

move-short : (o : Op) (nd : List Slot) (below : ℕ → Element) → op_move (short_op o) (short_node nd) (λ j. short (below j)) ≡ short_move (op_move o nd below)
unfolding op_move put_move take_move swap_move key blank
move-short Nothing nd below = rw (len-map short_slot nd)
move-short (Put x) nd below = rw (empty-short nd, len-map short_slot nd) (put-short (ltb (first_empty nd) (length nd)) x nd)
move-short Take nd below = rw (lowest-short nd, slot-short nd (lowest nd)) (take_short (leb (slot_at nd (lowest nd)).count 1) nd below)
move-short (Swap x) nd below =
    rw (lowest-short nd, slot-short nd (lowest nd)) (swap-short (leb (slot_at nd (lowest nd)).count 1 || not (ltb (below (lowest nd)).rank.0 x.rank.0)) x nd below)

-- ---- levels
abbrev short_work : Work → Work
short_work w = record { op = short_op w.op; node = w.node }

work-short : (o : Op) (n : ℕ) → work (short_op o) n ≡ short_work (work o n)
unfolding work
work-short Nothing n = refl
work-short (Put x) n = refl
work-short Take n = refl
work-short (Swap x) n = refl

module _ (m : ℕ) where
  level-short : (o : Op) (n : ℕ) (l below : Level) → level_move m (short_op o) n (short_level l) (short_level below) ≡ short_move (level_move m o n l below)
  unfolding level_move
  level-short o n l below =
      let nodes : (i : ℕ) → low (get_or (short_level below) i []) ≡ short (low (get_or below i [])) = λ i. ap low (get_d_map short_node below i []) ∙ low-short (get_or below i []) in
      ap₂ (λ (nd : List Slot) (f : ℕ → Element). op_move (short_op o) nd f) (get_d_map short_node l n []) (λ i j. nodes (n * m + j) i)
      ∙ move-short o (get_or l n []) (λ j. low (get_or below (n * m + j) []))

  step-short : (w : Work) (l below : Level) → step_level m (short_work w) (short_level l) (short_level below) ≡ short_level (step_level m w l below)
  unfolding step_level
  step-short w l below =
      let v : Move = level_move m w.op w.node l below in
      let nd : List Slot = get_or l w.node [] in
      ap₂ (λ (v : Move) (nd : List Slot). set (short_level l) w.node (set nd v.place v.slot)) (level-short w.op w.node l below) (get_d_map short_node l w.node [])
      ∙ ap (set (short_level l) w.node) (set-map short_slot nd v.place v.slot) ∙ set-map short_node l w.node (set nd v.place v.slot)

  rest-short : (w : Work) (l below : Level) → step_work m (short_work w) (short_level l) (short_level below) ≡ short_work (step_work m w l below)
  unfolding step_work
  rest-short w l below =
      let v : Move = level_move m w.op w.node l below in
      ap (λ (v : Move). work v.rest (w.node * m + v.place)) (level-short w.op w.node l below) ∙ work-short v.rest (w.node * m + v.place)

  top-short : (k : ℕ) (ls : Levels k) → top k (short_levels k ls) ≡ short_level (top k ls)
  unfolding top
  top-short zero ls = refl
  top-short (suc k) ls = refl

  apply-short : (k : ℕ) (w : Work) (ls : Levels k) → apply m k (short_work w) (short_levels k ls) ≡ short_levels k (apply m k w ls)
  unfolding apply
  apply-short zero w ls = refl
  apply-short (suc k) w ls =
      let b : Level = top k ls.1 in
      ap₂ (λ (l : Level) (r : Levels k). (l, r))
      (ap (step_level m (short_work w) (short_level ls.0)) (top-short k ls.1) ∙ step-short w ls.0 b)
      (ap (λ (q : Work). apply m k q (short_levels k ls.1)) (ap (step_work m (short_work w) (short_level ls.0)) (top-short k ls.1) ∙ rest-short w ls.0 b)
      ∙ apply-short k (step_work m w ls.0 b) ls.1)

-- ---- requests
abbrev short_ruling : Ruling → Ruling
short_ruling g = ruling (short_answer g.answer) (short_op g.op)

cond_short : (b : Bool) (g h : Ruling) → short_ruling (cond b g h) ≡ cond b (short_ruling g) (short_ruling h)
cond_short true g h = refl
cond_short false g h = refl

rule-short : (c : ℕ) (r : Request) (nd : List Slot) → rule c (short_request r) (short_node nd) ≡ short_ruling (rule c r nd)
unfolding rule untagged
rule-short c Idle nd = refl
rule-short c (Push x) nd = rw (sum-short nd, cond_short (eqb x.tag.0 0) (ruling (Err NoTag) Nothing) (cond (ltb (sum_counts nd) c) (ruling (Ok None) (Put x)) (ruling (Err Full) Nothing)), cond_short (ltb (sum_counts nd) c) (ruling (Ok None) (Put x)) (ruling (Err Full) Nothing))
rule-short c Pop nd = rw (sum-short nd, low-short nd, cond_short (eqb (sum_counts nd) 0) (ruling (Err Empty) Nothing) (ruling (Ok (Some (low nd))) Take))
rule-short c (Replace x) nd = rw (sum-short nd, low-short nd, cond_short (eqb x.tag.0 0) (ruling (Err NoTag) Nothing) (cond (eqb (sum_counts nd) 0) (ruling (Err Empty) Nothing) (ruling (Ok (Some (low nd))) (Swap x))), cond_short (eqb (sum_counts nd) 0) (ruling (Err Empty) Nothing) (ruling (Ok (Some (low nd))) (Swap x)))

module _ (m k : ℕ) where
  ruled-short : (r : Request) (ls : Levels (suc k)) → ruled m k (short_request r) (short_levels (suc k) ls) ≡ short_ruling (ruled m k r ls)
  unfolding ruled
  ruled-short r ls = ap (rule (room m (suc k)) (short_request r)) (get_d_map short_node ls.0 0 []) ∙ rule-short (room m (suc k)) r (get_or ls.0 0 [])

  serve-short : (r : Request) (ls : Levels (suc k)) → serve m k (short_request r) (short_levels (suc k) ls) ≡ short_levels (suc k) (serve m k r ls)
  unfolding serve
  serve-short r ls =
      ap (λ (g : Ruling). apply m (suc k) (work g.op 0) (short_levels (suc k) ls)) (ruled-short r ls)
      ∙ ap (λ (w : Work). apply m (suc k) w (short_levels (suc k) ls)) (work-short (ruled m k r ls).op 0) ∙ apply-short m (suc k) (work (ruled m k r ls).op 0) ls

  -- two kept stores, the second without the lengths of the first ..
  pub record Apart (ws vs : List ℕ) : Type 0 where
    pub one : Kept m k ws
    pub other : Kept m k vs
    pub levels : levels_of m (suc k) vs 0 1 ≡ short_levels (suc k) (levels_of m (suc k) ws 0 1)

  -- .. stay so, and are answered alike
  pub apart-answer : (r : Request) (ws vs : List ℕ) → Apart ws vs → (called m (suc k) (short_request r) vs).answer ≡ short_answer (called m (suc k) r ws).answer
  apart-answer r ws vs p =
      kept-answer m k vs p.other (short_request r) ∙ ap (λ (l : Levels (suc k)). (ruled m k (short_request r) l).answer) p.levels
      ∙ ap (λ (g : Ruling). g.answer) (ruled-short r (levels_of m (suc k) ws 0 1)) ∙ ap short_answer (sym (kept-answer m k ws p.one r))

  pub apart_next : (r : Request) (ws vs : List ℕ) → Apart ws vs → Apart (called m (suc k) r ws).words (called m (suc k) (short_request r) vs).words
  apart_next r ws vs p =
      record {
        one = called-kept m k r ws p.one;
        other = called-kept m k (short_request r) vs p.other;
        levels = kept-words m k vs p.other (short_request r) ∙ ap (serve m k (short_request r)) p.levels ∙ serve-short r (levels_of m (suc k) ws 0 1) ∙ ap (short_levels (suc k)) (sym (kept-words m k ws p.one r));
      }

  runs-short : (rs : List Request) (ws vs : List ℕ) → Apart ws vs → answers (tree_queue m (suc k)) (map short_request rs) vs ≡ map short_answer (answers (tree_queue m (suc k)) rs ws)
  unfolding answers
  runs-short [] ws vs p = refl
  runs-short (r ∷ rs) ws vs p = ap₂ (λ (a : Answer) (l : List Answer). a ∷ l) (apart-answer r ws vs p) (runs-short rs _ _ (apart_next r ws vs p))

bare-short : (m k c : ℕ) → short_levels k (bare_levels m k c) ≡ bare_levels m k c
unfolding bare_levels vacant blank
bare-short m zero c = refl
bare-short m (suc k) c =
    ap₂ (λ (l : Level) (r : Levels k). (l, r)) (same_map short_node c (replicate m vacant) ∙ ap (replicate c) (same_map short_slot m vacant)) (bare-short m k (c * m))

-- a cleared store has no lengths
pub apart-start : (m k : ℕ) (ws : List ℕ) → Shape m (suc k) (length ws) → Apart m k (start m (suc k) ws) (start m (suc k) ws)
apart-start m k ws sh =
    let b = start-bare m k ws sh in
    record { one = start-kept m k ws sh; other = start-kept m k ws sh; levels = b ∙ sym (ap (short_levels (suc k)) b ∙ bare-short m (suc k) 1) }

module _ (m : ℕ) (ws : List ℕ) where
  -- LENGTHS: without its lengths a history is answered the same, but for lengths
  pub lengths : (rs : List Request) (levels : ℕ) → Shape m levels (length ws) → said m ws (map short_request rs) levels ≡ map short_answer (said m ws rs levels)
  lengths rs zero sh = absurd (not-suc-le-zero sh.some)
  lengths rs (suc k) sh = runs-short m k rs _ _ (apart-start m k ws sh)

  -- .. so two histories alike but for lengths are answered alike but for lengths: number, rank and tag
  pub lengths-apart : (rs qs : List Request) → map short_request rs ≡ map short_request qs → (levels : ℕ) → Shape m levels (length ws)
      → map short_answer (said m ws rs levels) ≡ map short_answer (said m ws qs levels)
  lengths-apart rs qs e levels sh = sym (lengths rs levels sh) ∙ ap (λ (q : List Request). said m ws q levels) e ∙ lengths qs levels sh
