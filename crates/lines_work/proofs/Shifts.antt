-- A line's places moved by their words: what the copies write is the line with x put in, or its first place taken out.
use Rattle.laws.specs.Prelude.{Element, List, [], ◌*◌, ◌++◌, ◌+◌, ◌-◌, ◌<◌, ◌∙◌, ◌∷◌, ◌≡◌, ◌≤◌, ap, arith, element_in, inl, inr, length, refl, set, set_comm, suc, sym, write_element, zero, ℕ}
use Rattle.strip.proofs.Words.{write-comm, write-over, write-own}
use Rattle.lines_model.proofs.Row.{other, place_other, row-ext, row-length, set_snoc}
use Rattle.lines_model.specs.Layout.{row_in, row_set, word}
use Rattle.lines_work.specs.Shift.{down, seat, up}

-- what stands in a row may be written there
row_same : (w : List ℕ) (a n : ℕ) → row_set w a (row_in w a n) ≡ w
unfolding row_set row_in
row_same w a zero = refl
row_same w a (suc n) = ap (λ (v : List ℕ). row_set v (a + 3) (row_in w (a + 3) n)) (write-own w a (element_in w a) refl) ∙ row_same w (a + 3) n

-- the places behind are as they were
row-behind : (w : List ℕ) (a : ℕ) (x : Element) (n : ℕ) → row_in (write_element w a x) (a + 3) n ≡ row_in w (a + 3) n
row-behind w a x n = row-ext (write_element w a x) w (a + 3) n (λ i p q. place_other w a x i (inr (omega arith)))

-- a row and the place after it
row_snoc : (w : List ℕ) (a n : ℕ) → row_in w a (suc n) ≡ row_in w a n ++ element_in w (a + 3 * n) ∷ []
unfolding row_in
row_snoc w a zero = ap (λ (b : ℕ). element_in w b ∷ []) (omega arith)
row_snoc w a (suc n) = ap (λ (l : List Element). element_in w a ∷ l) (row_snoc w (a + 3) n ∙ ap (λ (b : ℕ). row_in w (a + 3) n ++ element_in w b ∷ []) (omega arith))

-- a place behind a row may be written before it
row-late : (w : List ℕ) (a b : ℕ) (xs : List Element) (y : Element) → a + 3 * length xs ≤ b → row_set (write_element w b y) a xs ≡ write_element (row_set w a xs) b y
unfolding row_set
row-late w a b [] y h = refl
row-late w a b (x ∷ xs) y h = ap (λ (v : List ℕ). row_set v (a + 3) xs) (sym (write-comm w a b x y (inl (omega arith)))) ∙ row-late (write_element w a x) (a + 3) b xs y (omega arith)

-- ---- up

up-three : (w : List ℕ) (b n : ℕ) → up w b (suc (suc (suc n))) ≡ up (write_element w (b + n + 3) (element_in w (b + n))) b n
unfolding up
up-three w b n =
    let z : b + suc (suc n) ≡ b + n + 2 = omega arith in
    let y : b + suc n ≡ b + n + 1 = omega arith in
    let w1 = set w (b + n + 2 + 3) (word w (b + n + 2)) in
    let w2 = set w1 (b + n + 1 + 3) (word w (b + n + 1)) in
    let r1 : word w1 (b + n + 1) ≡ word w (b + n + 1) = other w (b + n + 2 + 3) (word w (b + n + 2)) (b + n + 1) (λ e. omega arith) in
    let r2 : word w2 (b + n) ≡ word w (b + n) = other w1 (b + n + 1 + 3) (word w (b + n + 1)) (b + n) (λ e. omega arith) ∙ other w (b + n + 2 + 3) (word w (b + n + 2)) (b + n) (λ e. omega arith) in
    rw (z, y, r1, r2) (ap (λ (v : List ℕ). up v b n) (cycled (b + n + 3) (word w (b + n)) (word w (b + n + 1)) (word w (b + n + 2)) (b + n + 1 + 3) (b + n + 2 + 3) (omega arith) (omega arith)))
  where
    cycled : (A r t l B C : ℕ) → B ≡ A + 1 → C ≡ A + 2 → set (set (set w C l) B t) A r ≡ set (set (set w A r) (A + 1) t) (A + 2) l
    cycled A r t l B C p q =
        rw (p, q)
        (ap (λ (v : List ℕ). set v A r) (set_comm w (A + 2) (A + 1) l t (λ e. omega arith))
        ∙ set_comm (set w (A + 1) t) (A + 2) A l r (λ e. omega arith)
        ∙ ap (λ (v : List ℕ). set v (A + 2) l) (set_comm w (A + 1) A t r (λ e. omega arith)))

thrice : (n : ℕ) → 3 * suc n ≡ suc (suc (suc (3 * n)))
thrice n = omega arith

up-row : (n : ℕ) (w : List ℕ) (a : ℕ) (x : Element) → write_element (up w a (3 * n)) a x ≡ row_set w a (x ∷ row_in w a n)
up-row zero w a x = unfold up row_set row_in in refl
up-row (suc n) w a x =
    let y = element_in w (a + 3 * n) in
    let b = a + 3 * n + 3 in
    let v = write_element w b y in
    let zs = x ∷ row_in w a n in
    let long : length zs ≡ suc n = ap suc (row-length w a n) in
    let same : row_in v a n ≡ row_in w a n = row-ext v w a n (λ i p q. place_other w b y i (inl (omega arith))) in
    ap (λ (m : ℕ). write_element (up w a m) a x) (thrice n) ∙ ap (λ (u : List ℕ). write_element u a x) (up-three w a (3 * n))
    ∙ up-row n v a x ∙ ap (λ (l : List Element). row_set v a (x ∷ l)) same
    ∙ row-late w a b zs y (omega arith)
    ∙ ap (λ (c : ℕ). write_element (row_set w a zs) c y) (omega arith)
    ∙ sym (set_snoc w a zs y) ∙ ap (λ (l : List Element). row_set w a (x ∷ l)) (sym (row_snoc w a n))

-- x at its spot
pub up-seat : (p c : ℕ) (w : List ℕ) (a : ℕ) (x : Element) → p ≤ c → write_element (up w (a + 3 * p) (3 * (c - p))) (a + 3 * p) x ≡ row_set w a (seat p x (row_in w a c))
unfolding seat
up-seat zero c w a x h =
    let z : a + 3 * 0 ≡ a = omega arith in
    let y : c - 0 ≡ c = omega arith in
    rw (z, y) (up-row c w a x)
up-seat (suc p) zero w a x h = absurd (omega arith)
up-seat (suc p) (suc c) w a x h =
    let z : a + 3 * suc p ≡ a + 3 + 3 * p = omega arith in
    let y : suc c - suc p ≡ c - p = omega arith in
    rw (z, y) (up-seat p c w (a + 3) x (omega arith) ∙ (unfold row_set row_in in ap (λ (v : List ℕ). row_set v (a + 3) (seat p x (row_in w (a + 3) c))) (sym (write-own w a (element_in w a) refl))))

-- ---- down

down-three : (w : List ℕ) (a n : ℕ) → down w a (suc (suc (suc n))) ≡ down (write_element w a (element_in w (a + 3))) (a + 3) n
unfolding down
down-three w a n =
    let z : a + 1 + 1 + 1 ≡ a + 3 = omega arith in
    let y : a + 1 + 1 ≡ a + 2 = omega arith in
    let u : a + 1 + 3 ≡ a + 3 + 1 = omega arith in
    let t : a + 2 + 3 ≡ a + 3 + 2 = omega arith in
    let w1 = set w a (word w (a + 3)) in
    let w2 = set w1 (a + 1) (word w (a + 3 + 1)) in
    let r1 : word w1 (a + 3 + 1) ≡ word w (a + 3 + 1) = other w a (word w (a + 3)) (a + 3 + 1) (λ e. omega arith) in
    let r2 : word w2 (a + 3 + 2) ≡ word w (a + 3 + 2) = other w1 (a + 1) (word w (a + 3 + 1)) (a + 3 + 2) (λ e. omega arith) ∙ other w a (word w (a + 3)) (a + 3 + 2) (λ e. omega arith) in
    rw (z, y, u, t, r1, r2) refl

down-row : (n : ℕ) (w : List ℕ) (a : ℕ) → down w a (3 * n) ≡ row_set w a (row_in w (a + 3) n)
down-row zero w a = unfold down row_set row_in in refl
down-row (suc n) w a =
    let t = element_in w (a + 3) in
    ap (down w a) (thrice n) ∙ down-three w a (3 * n) ∙ down-row n (write_element w a t) (a + 3)
    ∙ (unfold row_set row_in in ap (λ (l : List Element). row_set (write_element w a t) (a + 3) l) (row-ext (write_element w a t) w (a + 3 + 3) n (λ i p q. place_other w a t i (inr (omega arith)))))

pub down-last : (n : ℕ) (w : List ℕ) (a : ℕ) (y : Element) → write_element (down w a (3 * n)) (a + 3 * n) y ≡ row_set w a (row_in w (a + 3) n ++ y ∷ [])
down-last n w a y =
    ap (λ (v : List ℕ). write_element v (a + 3 * n) y) (down-row n w a) ∙ ap (λ (m : ℕ). write_element (row_set w a (row_in w (a + 3) n)) (a + 3 * m) y) (sym (row-length w (a + 3) n))
    ∙ sym (set_snoc w a (row_in w (a + 3) n) y)

-- the places behind x's stand
pub down-seat : (q n : ℕ) (w : List ℕ) (a : ℕ) (x : Element) → q ≤ n → write_element (down w a (3 * q)) (a + 3 * q) x ≡ row_set w a (seat q x (row_in w (a + 3) n))
unfolding seat
down-seat zero n w a x h =
    let z : a + 3 * 0 ≡ a = omega arith in
    rw z (unfold down row_set in (sym (row_same (write_element w a x) (a + 3) n) ∙ ap (λ (l : List Element). row_set (write_element w a x) (a + 3) l) (row-behind w a x n)))
down-seat (suc q) zero w a x h = absurd (omega arith)
down-seat (suc q) (suc n) w a x h =
    let t = element_in w (a + 3) in
    let v = write_element w a t in
    let z : a + 3 * suc q ≡ a + 3 + 3 * q = omega arith in
    let y : down w a (3 * suc q) ≡ down v (a + 3) (3 * q) = ap (down w a) (thrice q) ∙ down-three w a (3 * q) in
    rw (z, y)
    (down-seat q n v (a + 3) x (omega arith)
    ∙ (unfold row_set row_in in ap (λ (l : List Element). row_set v (a + 3) (seat q x l)) (row-ext v w (a + 3 + 3) n (λ i p r. place_other w a t i (inr (omega arith))))))

-- a row written twice
pub set-over : (w : List ℕ) (a : ℕ) (xs ys : List Element) → length xs ≡ length ys → row_set (row_set w a xs) a ys ≡ row_set w a ys
unfolding row_set
set-over w a [] [] h = refl
set-over w a [] (y ∷ ys) h = absurd (omega arith)
set-over w a (x ∷ xs) [] h = absurd (omega arith)
set-over w a (x ∷ xs) (y ∷ ys) h =
    ap (λ (v : List ℕ). row_set v (a + 3) ys) (sym (early (write_element w a x) (a + 3) xs (omega arith)) ∙ ap (λ (v : List ℕ). row_set v (a + 3) xs) (write-over w a x y))
    ∙ set-over (write_element w a y) (a + 3) xs ys (omega arith)
  where
    early : (u : List ℕ) (b : ℕ) (zs : List Element) → a + 3 ≤ b → row_set (write_element u a y) b zs ≡ write_element (row_set u b zs) a y
    early u b [] h = refl
    early u b (z ∷ zs) h = ap (λ (v : List ℕ). row_set v (b + 3) zs) (write-comm u a b y z (inl h)) ∙ early (write_element u b z) (b + 3) zs (omega arith)

-- ---- the loops, once more

pub up-again : (goal : List ℕ) (w : List ℕ) (b n : ℕ) → 0 < n → up w b n ≡ goal → up (set w (b + (n - 1) + 3) (word w (b + (n - 1)))) b (n - 1) ≡ goal
unfolding up
up-again goal w b zero h e = absurd (omega arith)
up-again goal w b (suc n) h e = let z : suc n - 1 ≡ n = omega arith in rw z e

pub up_none : (goal : List ℕ) (w : List ℕ) (b n : ℕ) → n ≡ 0 → up w b n ≡ goal → w ≡ goal
unfolding up
up_none goal w b n z e = ap (up w b) (sym z) ∙ e

down-again : (goal : List ℕ) (w : List ℕ) (a n : ℕ) → 0 < n → down w a n ≡ goal → down (set w a (word w (a + 3))) (a + 1) (n - 1) ≡ goal
unfolding down
down-again goal w a zero h e = absurd (omega arith)
down-again goal w a (suc n) h e = let z : suc n - 1 ≡ n = omega arith in rw z e

pub down-on : (goal : List ℕ) (w : List ℕ) (b end : ℕ) → b < end → down w b (end - b) ≡ goal → down (set w b (word w (b + 3))) (b + 1) (end - (b + 1)) ≡ goal
down-on goal w b end h e =
    let z : end - (b + 1) ≡ end - b - 1 = omega arith in
    ap (down (set w b (word w (b + 3))) (b + 1)) z ∙ down-again goal w b (end - b) (omega arith) e

pub down-none : (goal : List ℕ) (w : List ℕ) (a n : ℕ) → n ≡ 0 → down w a n ≡ goal → w ≡ goal
unfolding down
down-none goal w a n z e = ap (down w a) (sym z) ∙ e
