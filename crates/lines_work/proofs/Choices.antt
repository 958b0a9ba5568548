-- Which line, and whether a line passes, as the code reads them.
use Rattle.laws.specs.Prelude.{is_blank as blank_element, subst, Bool, Element, List, [], ◌&&◌, ◌*◌, ◌+◌, ◌-◌, ◌<◌, ◌||◌, ◌∙◌, ◌∷◌, ◌≡◌, ◌≤◌, ◌⊎◌, add-one, and_assoc, and_left, and_right, and-true, and-unit, ap, ap₂, arith, cond, element_in, eq-eqb, eqb, eqb-true, false, false≢true, inl, inr, le-leb, le-ltb, leb, leb-true, length, lt-ltb, ltb, ltb-true, ne_eqb, not, refl, suc, sym, true, zero, ℕ, ℕ_discrete}
use mir.Val.{bool_byte}
use Rattle.lines_model.proofs.Keeps.{row_within}
use Rattle.lines_model.proofs.Which.{line-mono, lowest-lt, spans}
use Rattle.lines_model.specs.Calls.{heads}
use Rattle.lines_model.specs.Layout.{line_of, power_of_two, row_at, row_in, shape_ok, word}
use Rattle.lines_model.specs.Rules.{ascends, giver, goal, is_blank, leads, line_ok, lowest, owned, own_rank, seek, taker}
use Rattle.lines_model.specs.declared.Rows.{Rows}
use Rattle.lines_work.proofs.Finds.{room, small}
use Rattle.lines_work.specs.Shift.{at_most}
use Rattle.lines_work.specs.Work.{blank_end, ends_own, front, last_at, Look, one_more, scanned, seen}
use Rattle.promise.specs.Prelude.{hit}

-- a line of a slice that is long enough
pub record AtLine (k : Rows) (n l : ℕ) : Type 0 where
  pub lines : k.lines ≤ 512
  pub low : 1 ≤ k.places
  pub places : k.places ≤ 1024
  pub inside : l < n
  pub row : row_at k l + 3 * k.places ≤ n

pub at-line : (k : Rows) (n : ℕ) → shape_ok k n ≡ true → (l : ℕ) → l < k.lines → AtLine k n l
at-line k n s l h =
    let t = small k n s in
    let r = room k n s in
    record { lines = t.lines; low = t.low; places = t.high; inside = omega arith; row = omega (arith, row_within k l h) }

-- ---- the lowest front

pub lowest-in : (c : ℕ → ℕ) (h : ℕ → Element) (i j : ℕ) → j ≡ lowest c h (i + 1) → {n : ℕ} → i < n → j < n
lowest-in c h i j e l = let z : i + 1 ≡ suc i = omega arith in omega (arith, ap (lowest c h) z, lowest-lt c h (suc i) (omega arith))

pub front-none : (k : Rows) (w : List ℕ) (l : ℕ) → word w l ≡ 0 → 4294967296 ≡ front k w l
unfolding front
front-none k w l e = rw (eq-eqb (word w l) 0 e) refl

pub front-some : (k : Rows) (w : List ℕ) (l a : ℕ) → (word w l ≡ 0 → ⊥) → a ≡ row_at k l → word w a ≡ front k w l
unfolding front
front-some k w l a e f = rw (ne_eqb (word w l) 0 e) (ap (word w) f)

module _ (k : Rows) (w : List ℕ) (words : (i : ℕ) → word w i < 4294967296) where
  pub front-most : (l : ℕ) → front k w l ≤ 4294967296
  unfolding front
  front-most l = go (eqb (word w l) 0)
    where
      go : (b : Bool) → cond b 4294967296 (word w (row_at k l)) ≤ 4294967296
      go true = omega arith
      go false = omega (arith, words (row_at k l))

  leads-front : (i j : ℕ) → leads (word w) (heads k w) i j ≡ ltb (front k w i) (front k w j)
  unfolding leads
  leads-front i j = elim (ℕ_discrete (word w i) 0) [ yes e ↦ none e | no e ↦ some e ]
    where
      none : word w i ≡ 0 → (ltb 0 (word w i) && (eqb (word w j) 0 || ltb (word w (row_at k i)) (word w (row_at k j)))) ≡ ltb (front k w i) (front k w j)
      none e = rw (← front-none k w i e, e, le-ltb 0 0 (omega arith), le-ltb 4294967296 (front k w j) (front-most j)) refl

      some : (word w i ≡ 0 → ⊥) → (ltb 0 (word w i) && (eqb (word w j) 0 || ltb (word w (row_at k i)) (word w (row_at k j)))) ≡ ltb (front k w i) (front k w j)
      some e =
          rw (lt-ltb 0 (word w i) (omega arith), ← front-some k w i (row_at k i) e refl)
          (elim (ℕ_discrete (word w j) 0) [
            | yes f ↦ rw (eq-eqb (word w j) 0 f, ← front-none k w j f, lt-ltb (word w (row_at k i)) 4294967296 (words (row_at k i))) refl
            | no f ↦ rw (ne_eqb (word w j) 0 f, ← front-some k w j (row_at k j) f refl) refl
          ])

  pub lowest-better : (i j : ℕ) → j ≡ lowest (word w) (heads k w) i → front k w i < front k w j → i ≡ lowest (word w) (heads k w) (i + 1)
  unfolding lowest
  lowest-better i j e h = rw (add-one, ← e, leads-front i j, lt-ltb (front k w i) (front k w j) h) refl

  pub lowest-worse : (i j : ℕ) → j ≡ lowest (word w) (heads k w) i → front k w j ≤ front k w i → j ≡ lowest (word w) (heads k w) (i + 1)
  unfolding lowest
  lowest-worse i j e h = rw (add-one, ← e, leads-front i j, le-ltb (front k w i) (front k w j) h) refl

  -- one written of the loop
  pub lowest-again : (i j best here j' best' : ℕ) → j ≡ lowest (word w) (heads k w) i → best ≡ front k w j → here ≡ front k w i
      → ((here < best) × (j' ≡ i) × (best' ≡ here)) ⊎ ((best ≤ here) × (j' ≡ j) × (best' ≡ best)) → (j' ≡ lowest (word w) (heads k w) (i + 1)) × (best' ≡ front k w j')
  lowest-again i j best here j' best' e f g (inl t) = (t.1 ∙ lowest-better i j e (omega arith), t.2 ∙ g ∙ ap (front k w) (sym t.1))
  lowest-again i j best here j' best' e f g (inr t) = (t.1 ∙ lowest-worse i j e (omega arith), t.2 ∙ f ∙ ap (front k w) (sym t.1))

pub lowest-none : (c : ℕ → ℕ) (h : ℕ → Element) → 0 ≡ lowest c h 0
unfolding lowest
lowest-none c h = refl

module _ (k : Rows) where
  pub taker-one : (c : ℕ → ℕ) (x : Element) (r : ℕ) → k.kind ≡ 1 → r ≡ line_of k x.rank.0 → r ≡ taker k c x
  unfolding taker
  taker-one c x r e p = rw (eq-eqb k.kind 1 e) p

  pub taker-two : (c : ℕ → ℕ) (x : Element) (r : ℕ) → (k.kind ≡ 1 → ⊥) → r ≡ seek (λ l. ltb (c l) k.places) k.lines → r ≡ taker k c x
  unfolding taker
  taker-two c x r e p = rw (ne_eqb k.kind 1 e) p

  pub giver-one : (c : ℕ → ℕ) (h : ℕ → Element) (r : ℕ) → k.kind ≡ 1 → r ≡ seek (λ l. ltb 0 (c l)) k.lines → r ≡ giver k c h
  unfolding giver
  giver-one c h r e p = rw (eq-eqb k.kind 1 e) p

  pub giver-two : (c : ℕ → ℕ) (h : ℕ → Element) (r : ℕ) → (k.kind ≡ 1 → ⊥) → r ≡ lowest c h k.lines → r ≡ giver k c h
  unfolding giver
  giver-two c h r e p = rw (ne_eqb k.kind 1 e) p

  pub goal-one : (l : ℕ) (x : Element) (r : ℕ) → k.kind ≡ 1 → r ≡ line_of k x.rank.0 → r ≡ goal k l x
  unfolding goal
  goal-one l x r e p = rw (eq-eqb k.kind 1 e) p

  pub goal-two : (l : ℕ) (x : Element) → (k.kind ≡ 1 → ⊥) → l ≡ goal k l x
  unfolding goal
  goal-two l x e = rw (ne_eqb k.kind 1 e) refl

  pub own_is : (l r line : ℕ) → line ≡ line_of k r → (not (eqb k.kind 1) || (ltb r 65536 && eqb line l)) ≡ own_rank k l r
  own_is l r line e = ap (λ (n : ℕ). not (eqb k.kind 1) || (ltb r 65536 && eqb n l)) e

-- ---- a line's ranks

abbrev up : ℕ → List Element → Bool
up r [] = true
up r (x ∷ xs) = leb r x.rank.0 && ascends (x ∷ xs)

up_next : (x : Element) (xs : List Element) → ascends (x ∷ xs) ≡ up x.rank.0 xs
unfolding ascends
up_next x [] = refl
up_next x (y ∷ xs) = refl

-- what is still to be seen, from the last rank on
abbrev pub Scanning : List ℕ → ℕ → ℕ → ℕ → Bool → ℕ → ℕ → ℕ → ℕ → Type 0
Scanning w a c r ok spot last b left =
    ((ok && up last (row_in w b left)) ≡ ascends (row_in w a c)) × (spot + at_most r (row_in w b left) ≡ at_most r (row_in w a c)) × (b + 3 * left ≤ length w) × (spot + left ≤ c)

scan-first : (w : List ℕ) (a c r : ℕ) → a + 3 * c ≤ length w → Scanning w a c r true 0 0 a c
scan-first w a c r h = (first (row_in w a c), omega arith, h, omega arith)
  where
    first : (l : List Element) → up 0 l ≡ ascends l
    first [] = unfold ascends in refl
    first (x ∷ l) = ap (λ (b : Bool). b && ascends (x ∷ l)) (le-leb 0 x.rank.0 (omega arith))

scan-next : (w : List ℕ) (a c r : ℕ) (ok : Bool) (spot last b left here more : ℕ) → 0 < left → Scanning w a c r ok spot last b left → here ≡ word w b → more ≡ one_more spot (leb here r)
    → Scanning w a c r (ok && leb last here) more here (b + 3) (left - 1)
unfolding row_in at_most
scan-next w a c r ok spot last b zero here more h s e p = absurd (omega arith)
scan-next w a c r ok spot last b (suc n) here more h s e p =
    let z : suc n - 1 ≡ n = omega arith in
    let x = element_in w b in
    rw (z, e, p ∙ ap (λ (v : ℕ). one_more spot (leb v r)) e) (
      and_assoc ok (leb last (word w b)) (up (word w b) (row_in w (b + 3) n)) ∙ ap (λ (t : Bool). ok && (leb last (word w b) && t)) (sym (up_next x (row_in w (b + 3) n))) ∙ s.0,
      tally (leb (word w b) r) s.1,
      omega (arith, s.2),
      few (leb (word w b) r) s.3,
    )
  where
    tally : (t : Bool) → spot + (hit t + at_most r (row_in w (b + 3) n)) ≡ at_most r (row_in w a c) → one_more spot t + at_most r (row_in w (b + 3) n) ≡ at_most r (row_in w a c)
    tally true q = omega arith
    tally false q = omega arith

    few : (t : Bool) → spot + suc n ≤ c → one_more spot t + n ≤ c
    few true q = omega arith
    few false q = omega arith

pub scan-start : (w : List ℕ) (a c r : ℕ) → a + 3 * c ≤ length w → Scanning w a c r true 0 0 (a + 3 * 0) (c - 0)
scan-start w a c r h =
    let z : a ≡ a + 3 * 0 = omega arith in
    let y : c ≡ c - 0 = omega arith in
    subst (λ (b : ℕ). Scanning w a c r true 0 0 b (c - 0)) z (subst (λ (n : ℕ). Scanning w a c r true 0 0 a n) y (scan-first w a c r h))

pub scan-on : (w : List ℕ) (a c r : ℕ) (ok : Bool) (spot last i here more : ℕ) → i < c → Scanning w a c r ok spot last (a + 3 * i) (c - i) → here ≡ word w (a + 3 * i) → more ≡ one_more spot (leb here r)
    → Scanning w a c r (ok && leb last here) more here (a + 3 * (i + 1)) (c - (i + 1))
scan-on w a c r ok spot last i here more h s e p =
    let z : a + 3 * i + 3 ≡ a + 3 * (i + 1) = omega arith in
    let y : c - i - 1 ≡ c - (i + 1) = omega arith in
    subst (λ (b : ℕ). Scanning w a c r (ok && leb last here) more here b (c - (i + 1))) z
    (subst (λ (n : ℕ). Scanning w a c r (ok && leb last here) more here (a + 3 * i + 3) n) y (scan-next w a c r ok spot last (a + 3 * i) (c - i) here more (omega arith) s e p))

pub scan-last : (w : List ℕ) (a c r : ℕ) (ok : Bool) (spot last b left : ℕ) → left ≡ 0 → Scanning w a c r ok spot last b left → ◌≡◌ {A = Look} (record { ok = ok; spot = spot }) (scanned r (row_in w a c))
unfolding scanned row_in at_most
scan-last w a c r ok spot last b left z s =
    ap₂ (λ (b : Bool) (n : ℕ). record { ok = b; spot = n })
    (sym (and-unit ok) ∙ ap (λ (n : ℕ). ok && up last (row_in w b n)) (sym z) ∙ s.0) (omega (arith, ap (λ (n : ℕ). at_most r (row_in w b n)) z, s.1))

-- ---- where the ranks ascend, all belong to the line if the first and the last do

same-and : (b : Bool) → (b && true) ≡ (b && b)
same-and true = refl
same-and false = refl

first-last : (w : List ℕ) (a n : ℕ) → ascends (row_in w a (suc n)) ≡ true → word w a ≤ word w (a + 3 * n)
unfolding row_in ascends
first-last w a zero s = let z : a + 3 * 0 ≡ a = omega arith in rw z (omega arith)
first-last w a (suc n) s =
    let t = leb (word w a) (word w (a + 3)) in
    let rest = ascends (row_in w (a + 3) (suc n)) in
    let h : word w a ≤ word w (a + 3) = leb-true (word w a) (word w (a + 3)) (and_left t rest s) in
    let z : a + 3 + 3 * n ≡ a + 3 * suc n = omega arith in
    rw (← z) (omega (arith, first-last w (a + 3) n (and_right t rest s)))

between : (k : Rows) (l x y z : ℕ) → power_of_two k.lines ≡ true → x ≤ y → y ≤ z → (own_rank k l x && (own_rank k l y && own_rank k l z)) ≡ (own_rank k l x && own_rank k l z)
between k l x y z p h g = elim (ℕ_discrete k.kind 1) [ yes e ↦ one e | no e ↦ rw (ne_eqb k.kind 1 e) refl ]
  where
    go : (a b c : Bool) → (a ≡ true → c ≡ true → b ≡ true) → (a && (b && c)) ≡ (a && c)
    go true true c f = refl
    go true false true f = absurd (false≢true (f refl refl))
    go true false false f = refl
    go false b c f = refl

    one : k.kind ≡ 1 → (own_rank k l x && (own_rank k l y && own_rank k l z)) ≡ (own_rank k l x && own_rank k l z)
    one e =
        rw (eq-eqb k.kind 1 e)
        (go (ltb x 65536 && eqb (line_of k x) l) (ltb y 65536 && eqb (line_of k y) l) (ltb z 65536 && eqb (line_of k z) l) (λ a c.
        let s = spans k.lines p in
        let lx = eqb-true (line_of k x) l (and_right (ltb x 65536) (eqb (line_of k x) l) a) in
        let lz = eqb-true (line_of k z) l (and_right (ltb z 65536) (eqb (line_of k z) l) c) in
        let zb = ltb-true z 65536 (and_left (ltb z 65536) (eqb (line_of k z) l) c) in
        and-true (ltb y 65536) (eqb (line_of k y) l) (lt-ltb y 65536 (omega arith)) (eq-eqb (line_of k y) l (omega (arith, line-mono k s x y h, line-mono k s y z g)))))

ends-row : (k : Rows) (l : ℕ) (w : List ℕ) → power_of_two k.lines ≡ true → (n a : ℕ) → ascends (row_in w a (suc n)) ≡ true → owned k l (row_in w a (suc n)) ≡ (own_rank k l (word w a) && own_rank k l (word w (a + 3 * n)))
unfolding row_in owned ascends
ends-row k l w p zero a s = let z : a + 3 * 0 ≡ a = omega arith in rw z (same-and (own_rank k l (word w a)))
ends-row k l w p (suc n) a s =
    let t = leb (word w a) (word w (a + 3)) in
    let rest = ascends (row_in w (a + 3) (suc n)) in
    let h : word w a ≤ word w (a + 3) = leb-true (word w a) (word w (a + 3)) (and_left t rest s) in
    let r = and_right t rest s in
    let z : a + 3 + 3 * n ≡ a + 3 * suc n = omega arith in
    ap (λ (b : Bool). own_rank k l (word w a) && b) (ends-row k l w p n (a + 3) r)
    ∙ between k l (word w a) (word w (a + 3)) (word w (a + 3 + 3 * n)) p h (first-last w (a + 3) n r)
    ∙ ap (λ (i : ℕ). own_rank k l (word w a) && own_rank k l (word w i)) z

-- the test of a line, from its parts
parts : (k : Rows) (l : ℕ) (w : List ℕ) → power_of_two k.lines ≡ true → (a c : ℕ) → (ascends (row_in w a c) && ends_own k l w a c) ≡ (ascends (row_in w a c) && owned k l (row_in w a c))
parts k l w p a zero = unfold ends_own row_in owned in refl
parts k l w p a (suc c) = go (ascends (row_in w a (suc c))) refl
  where
    go : (b : Bool) → ascends (row_in w a (suc c)) ≡ b → (b && ends_own k l w a (suc c)) ≡ (b && owned k l (row_in w a (suc c)))
    go true e = ends ∙ sym (ends-row k l w p c a e)
      where
        ends : ends_own k l w a (suc c) ≡ (own_rank k l (word w a) && own_rank k l (word w (a + 3 * c)))
        ends = unfold ends_own in (let z : suc c - 1 ≡ c = omega arith in rw (ne_eqb (suc c) 0 (λ e. omega arith), z) refl)
    go false e = refl

pub look_is : (k : Rows) (l : ℕ) (w : List ℕ) → power_of_two k.lines ≡ true → (a c r : ℕ) (row : Look) (own end : Bool) → a ≡ row_at k l → row ≡ scanned r (row_in w a c) → own ≡ ends_own k l w a c → end ≡ blank_end k w a c
    → ◌≡◌ {A = Look} (record { ok = (row.ok && own) && end; spot = row.spot }) (seen k w l c r)
unfolding seen scanned line_ok blank_end
look_is k l w p a c r row own end e f g h =
    ap₂ (λ (b : Bool) (n : ℕ). record { ok = b; spot = n })
    (rw (g, h) (ap (λ (row : Look). (row.ok && ends_own k l w a c) && (not (ltb c k.places) || is_blank w (a + (c + c + c)))) f
    ∙ ap (λ (b : Bool). b && (not (ltb c k.places) || is_blank w (a + (c + c + c)))) (parts k l w p a c)
    ∙ ap (λ (a : ℕ). (ascends (row_in w a c) && owned k l (row_in w a c)) && (not (ltb c k.places) || is_blank w (a + (c + c + c)))) e))
    (ap (λ (row : Look). row.spot) f ∙ ap (λ (a : ℕ). at_most r (row_in w a c)) e)

pub end_none : (k : Rows) (w : List ℕ) (a c : ℕ) → k.places ≤ c → true ≡ blank_end k w a c
unfolding blank_end
end_none k w a c h = rw (le-ltb c k.places h) refl

blank_is : (w : List ℕ) (b : ℕ) → blank_element (element_in w b) ≡ is_blank w b
unfolding blank_element
blank_is w b = sym (and_assoc (eqb (word w b) 0) (eqb (word w (b + 1)) 0) (eqb (word w (b + 2)) 0))

pub end-some : (k : Rows) (w : List ℕ) (a c : ℕ) (b : Bool) (e : Element) → c < k.places → e ≡ element_in w (a + 3 * c) → b ≡ blank_element e → b ≡ blank_end k w a c
unfolding blank_end
end-some k w a c b e h p q =
    let z : a + 3 * c ≡ a + (c + c + c) = omega arith in
    rw (lt-ltb c k.places h) (q ∙ ap blank_element p ∙ blank_is w (a + 3 * c) ∙ ap (is_blank w) z)

pub ends-none : (k : Rows) (l : ℕ) (w : List ℕ) (a c : ℕ) → c ≡ 0 → true ≡ ends_own k l w a c
unfolding ends_own
ends-none k l w a c e = rw (eq-eqb c 0 e) refl

pub ends_some : (k : Rows) (l : ℕ) (w : List ℕ) (a c end : ℕ) (p q : Bool) → (c ≡ 0 → ⊥) → end ≡ last_at a c → p ≡ own_rank k l (word w a) → q ≡ own_rank k l (word w end) → (p && q) ≡ ends_own k l w a c
unfolding ends_own
ends_some k l w a c end p q n e f g = rw (ne_eqb c 0 n) (ap₂ (λ (a b : Bool). a && b) f (g ∙ ap (λ (i : ℕ). own_rank k l (word w i)) e))

pub more_is : (n : ℕ) (b : Bool) → n + bool_byte b ≡ one_more n b
more_is n true = refl
more_is n false = omega arith
