-- The spot of a newcomer: in a line whose ranks ascend, behind all that are at most its own. And the work at one line from its parts.
use Rattle.laws.specs.Prelude.{Bool, Element, List, [], ◌*◌, ◌++◌, ◌+◌, ◌-◌, ◌<◌, ◌∙◌, ◌∷◌, ◌≡◌, ◌≤◌, and_left, and_right, ap, ap₂, arith, blank, cond, dec_lt, element_in, false, le-leb, le-ltb, leb, leb-true, length, length-append, lt-leb, lt-ltb, ltb, refl, suc, sym, true, write_element, zero, ℕ}
use Rattle.lines_model.proofs.Row.{row-length, row-split, set_here}
use Rattle.lines_model.specs.Layout.{put_in, row_in, row_set, without}
use Rattle.lines_model.specs.Rules.{ascends}
use Rattle.lines_work.proofs.Shifts.{down-last, down-seat, set-over, up-seat}
use Rattle.lines_work.specs.Shift.{at_most, down, seat, up}
use Rattle.lines_work.specs.Work.{lined, Seated}
use Rattle.promise.proofs.FirstIn.{insert-length}
use Rattle.promise.specs.FirstIn.{insert}
use Rattle.promise.specs.Prelude.{hit}

pub at-most : (r : ℕ) (l : List Element) → at_most r l ≤ length l
unfolding at_most
at-most r [] = omega arith
at-most r (x ∷ l) = go (leb x.rank.0 r) (at-most r l)
  where
    go : (b : Bool) → at_most r l ≤ length l → hit b + at_most r l ≤ suc (length l)
    go true h = omega arith
    go false h = omega arith

-- from a higher rank on there are none
none_after : (r : ℕ) (x : Element) (l : List Element) → r < x.rank.0 → ascends (x ∷ l) ≡ true → at_most r (x ∷ l) ≡ 0
unfolding at_most ascends
none_after r x [] h s = rw (lt-leb x.rank.0 r h) refl
none_after r x (y ∷ l) h s =
    let a = leb-true x.rank.0 y.rank.0 (and_left (leb x.rank.0 y.rank.0) (ascends (y ∷ l)) s) in
    rw (lt-leb x.rank.0 r h) (omega (arith, none_after r y l (omega arith) (and_right (leb x.rank.0 y.rank.0) (ascends (y ∷ l)) s)))

rising-rest : (x : Element) (l : List Element) → ascends (x ∷ l) ≡ true → ascends l ≡ true
unfolding ascends
rising-rest x [] s = refl
rising-rest x (y ∷ l) s = and_right (leb x.rank.0 y.rank.0) (ascends (y ∷ l)) s

-- so it is inserted at its spot
pub insert-seat : (x : Element) (l : List Element) → ascends l ≡ true → insert x l ≡ seat (at_most x.rank.0 l) x l
unfolding seat at_most ascends
insert-seat x [] s = refl
insert-seat x (y ∷ l) s = elim (dec_lt x.rank.0 y.rank.0) [
  | yes h ↦ rw (lt-ltb x.rank.0 y.rank.0 h, none_after x.rank.0 y l h s) refl
  | no h ↦ rw (le-ltb x.rank.0 y.rank.0 (omega arith), le-leb y.rank.0 x.rank.0 (omega arith)) (later (at_most x.rank.0 l) (insert-seat x l (rising-rest y l s)))
]
  where
    later : (n : ℕ) → insert x l ≡ seat n x l → y ∷ insert x l ≡ seat (1 + n) x (y ∷ l)
    later n e = let z : 1 + n ≡ suc n = omega arith in rw z (ap (λ (m : List Element). y ∷ m) e)

-- ---- put

pub put-from : (w u v : List ℕ) (a c spot b n : ℕ) (x : Element) → Seated w a c spot x → b ≡ a + 3 * spot → n ≡ 3 * (c - spot) → u ≡ up w b n → v ≡ write_element u b x → v ≡ put_in w a c x
unfolding put_in
put-from w u v a c spot b n x s p q e f =
    let most : spot ≤ c = omega (arith, s.spot_is, at-most x.rank.0 (row_in w a c), row-length w a c) in
    f ∙ ap (λ (t : List ℕ). write_element t b x) e ∙ ap₂ (λ (b n : ℕ). write_element (up w b n) b x) p q ∙ up-seat spot c w a x most
    ∙ ap (λ (n : ℕ). row_set w a (seat n x (row_in w a c))) s.spot_is ∙ ap (row_set w a) (sym (insert-seat x (row_in w a c) s.rising))

pub spot-most : (w : List ℕ) (a c spot : ℕ) (x : Element) → Seated w a c spot x → spot ≤ c
spot-most w a c spot x s = omega (arith, s.spot_is, at-most x.rank.0 (row_in w a c), row-length w a c)

-- ---- take

pub take-from : (w u v : List ℕ) (a c n b : ℕ) (y : Element) → 1 ≤ c → n ≡ 3 * (c - 1) → u ≡ down w a n → b ≡ a + n → y ≡ blank → v ≡ write_element u b y → v ≡ without w a c
unfolding without row_in
take-from w u v a zero n b y h q e p z f = absurd (omega arith)
take-from w u v a (suc c) n b y h q e p z f =
    let m : n ≡ 3 * c = omega arith in
    f ∙ ap₂ (λ (t : List ℕ) (i : ℕ). write_element t i y) e p ∙ ap (λ (y : Element). write_element (down w a n) (a + n) y) z ∙ ap (λ (n : ℕ). write_element (down w a n) (a + n) blank) m ∙ down-last c w a blank

-- ---- both

-- the line without its first place, read again
behind-row : (w : List ℕ) (a c : ℕ) → a + 3 * suc c ≤ length w → row_in (without w a (suc c)) a c ≡ row_in w (a + 3) c
unfolding without row_in
behind-row w a c h =
    let ys = row_in w (a + 3) c in
    let long : length (ys ++ blank ∷ []) ≡ length ys + 1 = length-append ys (blank ∷ []) in
    let n = row-length w (a + 3) c in
    ap (λ (m : ℕ). row_in (row_set w a (ys ++ blank ∷ [])) a m) (sym n)
    ∙ row-split (row_set w a (ys ++ blank ∷ [])) a (length (ys ++ blank ∷ [])) ys blank (set_here w a (ys ++ blank ∷ []) (omega arith))

-- x's spot there
spot-behind : (w : List ℕ) (a c spot : ℕ) (x : Element) → Seated w a (suc c) spot x → cond (ltb 0 spot) (spot - 1) 0 ≡ at_most x.rank.0 (row_in w (a + 3) c)
spot-behind w a c spot x s = elim (dec_lt x.rank.0 (element_in w a).rank.0) [ yes h ↦ ahead h | no h ↦ later (omega arith) ]
  where
    row : List Element
    row = row_in w (a + 3) c

    all : spot ≡ hit (leb (element_in w a).rank.0 x.rank.0) + at_most x.rank.0 row
    all = s.spot_is ∙ (unfold row_in at_most in refl)

    rising : ascends (element_in w a ∷ row) ≡ true
    rising = unfold row_in in s.rising

    ahead : x.rank.0 < (element_in w a).rank.0 → cond (ltb 0 spot) (spot - 1) 0 ≡ at_most x.rank.0 row
    ahead h =
        let e : hit (leb (element_in w a).rank.0 x.rank.0) ≡ 0 = ap hit (lt-leb (element_in w a).rank.0 x.rank.0 h) in
        let f : at_most x.rank.0 (element_in w a ∷ row) ≡ 0 = none_after x.rank.0 (element_in w a) row h rising in
        let g : at_most x.rank.0 (element_in w a ∷ row) ≡ hit (leb (element_in w a).rank.0 x.rank.0) + at_most x.rank.0 row = unfold at_most in refl in
        let z : spot ≡ 0 = omega (arith, all) in
        rw z (omega (arith, all))

    later : (element_in w a).rank.0 ≤ x.rank.0 → cond (ltb 0 spot) (spot - 1) 0 ≡ at_most x.rank.0 row
    later h =
        let e : hit (leb (element_in w a).rank.0 x.rank.0) ≡ 1 = ap hit (le-leb (element_in w a).rank.0 x.rank.0 (omega arith)) in
        rw (lt-ltb 0 spot (omega (arith, all))) (omega (arith, all))

pub swap-from : (w u v : List ℕ) (a c spot place n b : ℕ) (x : Element) → 1 ≤ c → a + 3 * c ≤ length w → Seated w a c spot x → place ≡ cond (ltb 0 spot) (spot - 1) 0
    → n ≡ 3 * place → u ≡ down w a n → b ≡ a + n → v ≡ write_element u b x → v ≡ lined w a c true true x
swap-from w u v a zero spot place n b x h l s p q e r f = absurd (omega arith)
swap-from w u v a (suc c) spot place n b x h l s p q e r f =
    let ys = row_in w (a + 3) c in
    let z : suc c - 1 ≡ c = omega arith in
    let at : place ≡ at_most x.rank.0 ys = p ∙ spot-behind w a c spot x s in
    let few : place ≤ c = omega (arith, at-most x.rank.0 ys, row-length w (a + 3) c) in
    let up' : ascends ys ≡ true = rising-rest (element_in w a) ys (unfold row_in in s.rising) in
    f ∙ ap₂ (λ (t : List ℕ) (i : ℕ). write_element t i x) e r ∙ ap (λ (n : ℕ). write_element (down w a n) (a + n) x) q
    ∙ down-seat place c w a x few ∙ ap (λ (n : ℕ). row_set w a (seat n x ys)) at ∙ ap (row_set w a) (sym (insert-seat x ys up')) ∙ whole z
  where
    over : row_set (without w a (suc c)) a (insert x (row_in w (a + 3) c)) ≡ row_set w a (insert x (row_in w (a + 3) c))
    over =
        unfold without row_in in
        set-over w a (row_in w (a + 3) c ++ blank ∷ []) (insert x (row_in w (a + 3) c)) (omega (arith, length-append (row_in w (a + 3) c) (blank ∷ []), insert-length x (row_in w (a + 3) c)))

    whole : suc c - 1 ≡ c → row_set w a (insert x (row_in w (a + 3) c)) ≡ lined w a (suc c) true true x
    whole z =
        unfold lined put_in in
        rw z
        (sym (ap (λ (l : List Element). row_set (without w a (suc c)) a (insert x l)) (behind-row w a c l) ∙ over))
