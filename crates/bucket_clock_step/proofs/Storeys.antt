-- What a storey's functions have read and written is what the rules read and write. Each law takes what a function has read as equations.
use Rattle.laws.specs.Prelude.{Bool, Bool·beq, Element, Idle, List, Pop, Push, Replace, Request, ◌%◌, ◌&&◌, ◌*◌, ◌+◌, ◌-◌, ◌/◌, ◌<◌, ◌^◌, ◌∙◌, ◌≡◌, ◌≤◌, and-unit, ap, ap₂, arith, cond, eq-eqb, eqb, false, false≢true, le-ltb, leb, length, length-set, lt-ltb, ltb, ne_eqb, not, pred, refl, set, set-get_or, sub-one, subst, suc, sym, true, zero, ℕ, ℕ_discrete}
use Rattle.bitmap.specs.Bits.{bit_at, Found}
use Rattle.bucket_model.proofs.Laws.{other, same}
use Rattle.bucket_model.specs.declared.Lay.{Lay}
use Rattle.bucket_model.specs.Prelude.{Storey, pool, word}
use Rattle.bucket_clock_model.proofs.Damage.{storey-means, take-means}
use Rattle.bucket_clock_model.specs.Damage.{PutFit, StoreyFit, TakeFit}
use Rattle.std.specs.Prelude.{Some}
use Rattle.bucket_clock_model.specs.declared.Waiting.{Waiting}
use Rattle.bucket_clock_model.specs.Desk.{waiting}
use Rattle.bucket_clock_model.specs.Pipe.{lead}
use Rattle.bucket_clock_model.specs.Words.{bit_off, bit_on, Floor, floor, put_if_ok, put_ok, storey_ok, storey_put, storey_take, take_ok, way_below}
use Rattle.bucket_clock_step.specs.Storey.{Falls, Floored, Here, place, Rises, Worked}

-- ---- a rank's bit

pub lead-none : (r : ℕ) → r ≡ lead 0 r
unfolding lead
lead-none r = refl

pub lead-next : (r i j : ℕ) → j ≡ lead i r → j / 64 ≡ lead (i + 1) r
unfolding lead
lead-next r i j e = let n : i + 1 ≡ suc i = omega arith in rw (n, e) refl

-- ---- the tests

module _ (n base words way : ℕ) (b c : List ℕ) where
  pub take-far : words ≤ way → false ≡ take_ok n (place base words) way (floor b c)
  unfolding take_ok
  take-far h = rw (le-ltb way words h) refl

  pub take_none : way < words → word b (base + way) ≡ 0 → false ≡ take_ok n (place base words) way (floor b c)
  unfolding take_ok
  take_none l h = rw (lt-ltb way words l, eq-eqb (word b (base + way)) 0 h) refl

  pub take-is : way < words → (word b (base + way) ≡ 0 → ⊥) → (low : ℕ) → Found (word b (base + way)) low
      → (not (eqb (word c (64 * base + (64 * way + low))) 0) && leb (word c (64 * base + (64 * way + low))) n) ≡ take_ok n (place base words) way (floor b c)
  unfolding take_ok
  take-is l h low f = rw (f.is, lt-ltb way words l, ne_eqb (word b (base + way)) 0 h) refl

pub put_is : (n base words j : ℕ) (b c : List ℕ) (on : Bool) → on ≡ eqb (bit_at (word b (base + j / 64)) (j % 64)) 1
    → (not (Bool·beq (eqb (word c (64 * base + j)) 0) on) && ltb (word c (64 * base + j)) n) ≡ put_ok n (place base words) j (floor b c)
unfolding put_ok
put_is n base words j b c on e = rw e refl

pub low-in : (w low : ℕ) → Found w low → (w ≡ 0 → ⊥) → low < 64
low-in w low f h = f.within (omega (arith, h))

pub falls-if : (n base words way : ℕ) (b c : List ℕ) → take_ok n (place base words) way (floor b c) ≡ true → Falls (place base words) way (floor b c)
falls-if n base words way b c e = let f = (take-means n (place base words) way (floor b c)).says e in record { within = f.within; word≢ = f.word≢; counted = f.counted }

pub else_is : (x y : ℕ) (t : Bool) → t ≡ false → y ≡ cond t x y
else_is x y t e = rw e refl

-- ---- a pop's bit: the word that the way names, and the lowest bit of it
module _ (base words way low : ℕ) (b c : List ℕ) (f : Falls (place base words) way (floor b c)) (found : Found (word b (base + way)) low) where
  abbrev m : ℕ
  m = 64 * way + low

  abbrev x : ℕ
  x = word c (64 * base + m)

  some : 0 < word b (base + way)
  some = omega (arith, f.word≢)

  pub low< : low < 64
  low< = found.within some

  pub way-is : m ≡ way_below (place base words) b way
  way-is = ap (λ (i : ℕ). 64 * way + i) found.is

  pub way< : m < 64 * words
  way< = omega (arith, low<, f.within)

  pub counted : x ≡ 0 → ⊥
  counted = subst (λ (i : ℕ). word c (64 * base + i) ≡ 0 → ⊥) (sym way-is) f.counted

  pub low-set : bit_at (word b (base + way)) low ≡ 1
  low-set = found.here some

  word_at : m / 64 ≡ way
  word_at = omega (arith, low<)

  bit-at : m % 64 ≡ low
  bit-at = omega (arith, low<)

  -- the word as after the pop
  abbrev bare : ℕ → ℕ
  bare v = cond (eqb v 0) (word b (base + way) - 2 ^ low) (word b (base + way))

  off-is : (v : ℕ) → set b (base + way) (bare v) ≡ bit_off (place base words) m v b
  off-is zero = rw (word_at, bit-at) refl
  off-is (suc v) = ap (λ (t : Bool). set b (base + way) (cond t (word b (base + way) - 2 ^ low) (word b (base + way)))) (ne_eqb (suc v) 0 (λ e. omega arith)) ∙ set-get_or b (base + way) 0

  pub took : (left w : ℕ) → left ≡ x - 1 → w ≡ bare left → floor (set b (base + way) w) (set c (64 * base + m) left) ≡ storey_take (place base words) (way_below (place base words) b way) (floor b c)
  unfolding storey_take
  took left w e g =
      let p : left ≡ pred x = e ∙ sub-one x in
      ap₂ (λ (u v : List ℕ). floor u v) (ap (set b (base + way)) g ∙ off-is left) refl
      ∙ ap (λ (l : ℕ). floor (bit_off (place base words) m l b) (set c (64 * base + m) l)) p
      ∙ ap (λ (i : ℕ). floor (bit_off (place base words) i (pred (word c (64 * base + i))) b) (set c (64 * base + i) (pred (word c (64 * base + i))))) way-is

  -- what stands after it
  module _ (F : Floored base words (length b) (length c)) (n j : ℕ) (j< : j < 64 * words) where
    count-after : (v : ℕ) → word (set c (64 * base + m) v) (64 * base + j) ≡ cond (eqb j m) v (word c (64 * base + j))
    count-after v = elim (ℕ_discrete j m) [
      | yes e ↦ rw (eq-eqb j m e) (ap (λ (i : ℕ). word (set c (64 * base + m) v) (64 * base + i)) e ∙ same c (64 * base + m) v (omega (arith, way<, F.counts)))
      | no e ↦ rw (ne_eqb j m e) (other c (64 * base + m) v (64 * base + j) (λ q. e (omega arith)))
    ]

    word_after : (v : ℕ) → word (set b (base + way) v) (base + j / 64) ≡ cond (eqb (j / 64) way) v (word b (base + j / 64))
    word_after v = elim (ℕ_discrete (j / 64) way) [
      | yes e ↦ rw (eq-eqb (j / 64) way e) (ap (λ (i : ℕ). word (set b (base + way) v) (base + i)) e ∙ same b (base + way) v (omega (arith, f.within, F.bits)))
      | no e ↦ rw (ne_eqb (j / 64) way e) (other b (base + way) v (base + j / 64) (λ q. e (omega arith)))
    ]

    one_left : (y : ℕ) → (y ≡ 0 → ⊥) → eqb y 1 ≡ eqb (y - 1) 0
    one_left y h = elim (ℕ_discrete y 1) [
      | yes e ↦ eq-eqb y 1 e ∙ sym (eq-eqb (y - 1) 0 (omega arith))
      | no e ↦ ne_eqb y 1 e ∙ sym (ne_eqb (y - 1) 0 (λ q. omega arith))
    ]

    pub after_is : (left own : ℕ) (cj : ℕ) (on : Bool) → left ≡ cond (eqb x 1) (word b (base + way) - 2 ^ low) (word b (base + way))
        → own ≡ cond (eqb (j / 64) way) left (word b (base + j / 64)) → cj ≡ cond (eqb j m) (x - 1) (word c (64 * base + j)) → on ≡ eqb (bit_at own (j % 64)) 1
        → (not (Bool·beq (eqb cj 0) on) && ltb cj n) ≡ put_ok n (place base words) j (storey_take (place base words) (way_below (place base words) b way) (floor b c))
    unfolding put_ok
    after_is left own cj on e g h k =
        let l : left ≡ bare (x - 1) = e ∙ ap (λ (t : Bool). cond t (word b (base + way) - 2 ^ low) (word b (base + way))) (one_left x counted) in
        let t : floor (set b (base + way) left) (set c (64 * base + m) (x - 1)) ≡ storey_take (place base words) (way_below (place base words) b way) (floor b c) = took (x - 1) left refl l in
        let u : cj ≡ word (set c (64 * base + m) (x - 1)) (64 * base + j) = h ∙ sym (count-after (x - 1)) in
        let v : own ≡ word (set b (base + way) left) (base + j / 64) = g ∙ sym (word_after left) in
        rw (k, u, v) (ap (put_ok n (place base words) j) t)

pub took-long : (base words m : ℕ) (b c b1 c1 : List ℕ) → Floored base words (length b) (length c) → floor b1 c1 ≡ storey_take (place base words) m (floor b c) → Floored base words (length b1) (length c1)
unfolding storey_take
took-long base words m b c b1 c1 F e =
    let x : length b1 ≡ length b = ap (λ (s : Floor). length s.bits) e ∙ off (pred (word c (64 * base + m))) in
    let y : length c1 ≡ length c = ap (λ (s : Floor). length s.counts) e ∙ length-set c (64 * base + m) _ in
    record { bits = omega (arith, F.bits); counts = omega (arith, F.counts) }
  where
    off : (v : ℕ) → length (bit_off (place base words) m v b) ≡ length b
    off zero = length-set b _ _
    off (suc v) = refl

-- ---- a push's bit
module _ (base words j : ℕ) (b c : List ℕ) where
  on-is : (v w : ℕ) → w ≡ cond (eqb v 0) (word b (base + j / 64) + 2 ^ (j % 64)) (word b (base + j / 64)) → set b (base + j / 64) w ≡ bit_on (place base words) j v b
  on-is zero w e = ap (set b (base + j / 64)) e
  on-is (suc v) w e =
      ap (set b (base + j / 64)) e
      ∙ ap (λ (t : Bool). set b (base + j / 64) (cond t (word b (base + j / 64) + 2 ^ (j % 64)) (word b (base + j / 64)))) (ne_eqb (suc v) 0 (λ q. omega arith)) ∙ set-get_or b (base + j / 64) 0

  pub put : (w : ℕ) → w ≡ cond (eqb (word c (64 * base + j)) 0) (word b (base + j / 64) + 2 ^ (j % 64)) (word b (base + j / 64))
      → floor (set b (base + j / 64) w) (set c (64 * base + j) (word c (64 * base + j) + 1)) ≡ storey_put (place base words) j (floor b c)
  unfolding storey_put
  put w e =
      let s : word c (64 * base + j) + 1 ≡ suc (word c (64 * base + j)) = omega arith in
      ap₂ (λ (u v : List ℕ). floor u v) (on-is (word c (64 * base + j)) w e) (ap (set c (64 * base + j)) s)

  pub rises : (n : ℕ) → n ≤ pool → PutFit n (place base words) j (floor b c) → Rises (place base words) j (floor b c)
  rises n h f = record { clear = λ e. f.agrees.to e; room = omega (arith, f.room) }

-- ---- what waits for a storey

module _ (k : Lay) (base words d : ℕ) (b c : List ℕ) where
  abbrev p : Storey
  p = place base words

  abbrev s : Floor
  s = floor b c

  pub new-far : (x : Element) → k.ranks ≤ x.rank.0 → false ≡ put_if_ok k p d (Some x) s
  new-far x h = rw (le-ltb x.rank.0 k.ranks h) refl

  pub new_is : (x : Element) (j : ℕ) (t : Bool) → x.rank.0 < k.ranks → j ≡ lead d x.rank.0 → t ≡ put_ok k.nodes p j s → t ≡ put_if_ok k p d (Some x) s
  new_is x j t l e g = rw (lt-ltb x.rank.0 k.ranks l, ← e) g

  pub swap-unfit : (x : Element) (w : ℕ) (t : Bool) → t ≡ take_ok k.nodes p w s → t ≡ false → false ≡ storey_ok k p d (Replace x) w s
  unfolding storey_ok
  swap-unfit x w t e n = rw (sym e ∙ n) refl

  pub swap-far : (x : Element) (w : ℕ) (t : Bool) → t ≡ take_ok k.nodes p w s → t ≡ true → k.ranks ≤ x.rank.0 → false ≡ storey_ok k p d (Replace x) w s
  unfolding storey_ok
  swap-far x w t e n h = rw (sym e ∙ n, le-ltb x.rank.0 k.ranks h) refl

  pub swap_is : (x : Element) (w j : ℕ) (t u : Bool) → t ≡ take_ok k.nodes p w s → t ≡ true → x.rank.0 < k.ranks → j ≡ lead d x.rank.0
      → u ≡ put_ok k.nodes p j (storey_take p (way_below p b w) s) → u ≡ storey_ok k p d (Replace x) w s
  unfolding storey_ok
  swap_is x w j t u e n l g h = rw (sym e ∙ n, lt-ltb x.rank.0 k.ranks l, ← g) h

  module _ (g : Waiting) where
    pub ok-idle : g.does ≡ Idle → true ≡ storey_ok k p d g.does g.way s
    unfolding storey_ok
    ok-idle e = rw e refl

    pub ok-push : (x : Element) (t : Bool) → g.does ≡ Push x → t ≡ put_if_ok k p d (Some x) s → t ≡ storey_ok k p d g.does g.way s
    unfolding storey_ok
    ok-push x t e h = rw e h

    pub ok-pop : (t : Bool) → g.does ≡ Pop → t ≡ take_ok k.nodes p g.way s → t ≡ storey_ok k p d g.does g.way s
    unfolding storey_ok
    ok-pop t e h = rw e (h ∙ sym (and-unit (take_ok k.nodes p g.way s)))

    pub ok-replace : (x : Element) (t : Bool) → g.does ≡ Replace x → t ≡ storey_ok k p d (Replace x) g.way s → t ≡ storey_ok k p d g.does g.way s
    ok-replace x t e h = rw e h

    -- ---- and what is done
    fit : storey_ok k p d g.does g.way s ≡ true → (q : Request) → g.does ≡ q → StoreyFit k p d q g.way s
    fit h q e = subst (λ (q : Request). StoreyFit k p d q g.way s) e ((storey-means k p d g.does g.way s).says h)

    falls_of : TakeFit k.nodes p g.way s → Falls p g.way s
    falls_of f = record { within = f.within; word≢ = f.word≢; counted = f.counted }

    module _ (here : Here k base words d (length b) (length c)) (h : storey_ok k p d g.does g.way s ≡ true) where
      pub push-rises : (x : Element) (j : ℕ) → g.does ≡ Push x → j ≡ lead d x.rank.0 → (j < 64 * words) × Rises p j s
      push-rises x j e i = let f = (fit h (Push x) e).1 in rw i (here.ranks x.rank.0 f.0, rises base words (lead d x.rank.0) b c k.nodes here.nodes f.1)

      pub pop-falls : g.does ≡ Pop → Falls p g.way s
      pop-falls e = falls_of (fit h Pop e).0

      pub replace-falls : (x : Element) → g.does ≡ Replace x → Falls p g.way s
      replace-falls x e = falls_of (fit h (Replace x) e).0

      pub replace-rises : (x : Element) (j : ℕ) (b1 c1 : List ℕ) → g.does ≡ Replace x → j ≡ lead d x.rank.0 → floor b1 c1 ≡ storey_take p (way_below p b g.way) s → (j < 64 * words) × Rises p j (floor b1 c1)
      replace-rises x j b1 c1 e i t =
          let f = (fit h (Replace x) e).1 in
          rw i (here.ranks x.rank.0 f.0, rises base words (lead d x.rank.0) b1 c1 k.nodes here.nodes (subst (PutFit k.nodes p (lead d x.rank.0)) (sym t) f.1))

    pub worked-idle : g.does ≡ Idle → Worked p d g s s (waiting Idle 0)
    worked-idle e = record { floor = rw e refl; hands = rw e refl; way = λ t. absurd (false≢true (rw e at t)) }

    pub worked-push : (x : Element) (j : ℕ) (u : Floor) → g.does ≡ Push x → j ≡ lead d x.rank.0 → u ≡ storey_put p j s → Worked p d g s u (waiting (Push x) 0)
    worked-push x j u e i h = record { floor = rw (e, ← i) h; hands = rw e refl; way = λ t. absurd (false≢true (rw e at t)) }

    pub worked-pop : (m : ℕ) (u : Floor) → g.does ≡ Pop → u ≡ storey_take p (way_below p b g.way) s → m ≡ way_below p b g.way → m < 64 * words → Worked p d g s u (waiting Pop m)
    worked-pop m u e h i l = record { floor = rw e h; hands = rw (e, i) refl; way = λ _. rw (← i) l }

    pub worked-replace : (x : Element) (m j : ℕ) (u v : Floor) → g.does ≡ Replace x → u ≡ storey_take p (way_below p b g.way) s → m ≡ way_below p b g.way → m < 64 * words
        → j ≡ lead d x.rank.0 → v ≡ storey_put p j u → Worked p d g s v (waiting (Replace x) m)
    worked-replace x m j u v e h i l q t = record { floor = rw (e, ← q, ← h) t; hands = rw (e, i) refl; way = λ _. rw (← i) l }
