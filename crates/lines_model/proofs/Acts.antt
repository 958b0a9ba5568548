-- What a request comes to can be done, and keeps every line sorted and neat; no test of a sound store fails.
use Rattle.laws.specs.Prelude.{All, BadRank, Bool, Damaged, Element, Idle, List, NoTag, Pop, Push, Replace, Request, [], ◌&&◌, ◌+◌, ◌-◌, ◌<◌, ◌||◌, ◌∙◌, ◌∷◌, ◌≡◌, ◌≤◌, and_left, and_right, and-true, ap, arith, cond, dec_lt, eq-eqb, eqb, eqb-false, eqb-true, false, false≢true, inl, is-upd, le-leb, le-ltb, leb, length, length-set, lt-ltb, ltb, ltb-true, ne_eqb, not, refl, set, subst, suc, sym, true, upd, zero, ℕ, ℕ_discrete, ⊎_elim, Err}
use Rattle.lines_model.proofs.Keeps.{put_keeps, take-keeps}
use Rattle.lines_model.proofs.Row.{other, row-past, same, set-length, set_other, set_past}
use Rattle.lines_model.proofs.Shaped.{shape-means}
use Rattle.lines_model.proofs.Which.{first_some, line-lt, lowest-least, lowest-lt, or_cases, sought, spans}
use Rattle.lines_model.specs.Calls.{acted, called, counts_ok, done, due_in, heads, Outcome, outcome}
use Rattle.lines_model.specs.Causes.{Own, Shaped}
use Rattle.lines_model.specs.Layout.{behind, line_of, moved, put_in, row_at, row_in, Rows, row_set, shape_ok, without, word}
use Rattle.lines_model.specs.Promise.{Sound}
use Rattle.lines_model.specs.Rules.{ascends, ask_table, Choice, choice, choose, counted, counts_below, denied, Due, due_of, gave_of, giver, goal, in_range, is_blank, late_table, line_ok, lines_ok, lowest, owned, own_rank, Put, rank_fit, Rest, seek, Swap, Take, taker, total, worked}
use Rattle.promise.specs.Prelude.{Clear, Ruling, Table, decided, decided-either, decided-same, each-any, grants, lacks_tag, left, ruled, ruling}
use Rattle.promise.specs.FirstIn.{insert, Sorted}

-- ---- a replace is a take and then a put

module _ (k : Rows) (w : List ℕ) (l : ℕ) (x : Element) (g< : goal k l x < k.lines) (l< : l < k.lines) (long : k.lines ≤ length w) where
  abbrev g : ℕ
  g = goal k l x

  abbrev a : ℕ
  a = row_at k l

  abbrev w0 : List ℕ
  w0 = set w l (word w l - 1)

  abbrev w1 : List ℕ
  w1 = set w0 g (word w0 g + 1)

  abbrev t : List ℕ
  t = without w0 a (word w0 l + 1)

  t-long : length t ≡ length w
  unfolding without
  t-long = set-length w0 a (moved (row_in w0 a (word w0 l + 1))) ∙ length-set w l (word w l - 1)

  t-count : word t g ≡ word w0 g
  unfolding without
  t-count = set_other w0 a (moved (row_in w0 a (word w0 l + 1))) g (inl (omega arith))

  had-same : gave_of w1 l g ≡ word w0 l + 1
  had-same = elim (ℕ_discrete l g) [
    | yes e ↦ rw (eq-eqb l g e) (ap (word w1) e ∙ same w0 g (word w0 g + 1) (omega (arith, length-set w l (word w l - 1))) ∙ ap (λ (i : ℕ). word w0 i + 1) (sym e))
    | no e ↦ rw (ne_eqb l g e) (ap (λ (n : ℕ). n + 1) (other w0 g (word w0 g + 1) l e))
  ]

  gone : without w1 a (gave_of w1 l g) ≡ set t g (word t g + 1)
  unfolding without
  gone =
      ap (λ (n : ℕ). row_set w1 a (moved (row_in w1 a n))) had-same
      ∙ ap (λ (r : List Element). row_set w1 a (moved r)) (row-past w0 g (word w0 g + 1) a (word w0 l + 1) (omega arith))
      ∙ set_past w0 g (word w0 g + 1) a (moved (row_in w0 a (word w0 l + 1))) (omega arith)
      ∙ ap (λ (n : ℕ). set t g (n + 1)) (sym t-count)

  left-same : word w1 g - 1 ≡ word (set t g (word t g + 1)) g - 1
  left-same = omega (arith, same w0 g (word w0 g + 1) (omega (arith, length-set w l (word w l - 1))), same t g (word t g + 1) (omega (arith, t-long)), t-count)

  pub swap_is : worked k (Swap l x) (counted k (Swap l x) w) ≡ worked k (Put (goal k l x) x) (counted k (Put (goal k l x) x) (worked k (Take l) (counted k (Take l) w)))
  unfolding worked counted
  swap_is = ap (λ (v : List ℕ). put_in v (row_at k g) (word w1 g - 1) x) gone ∙ ap (λ (n : ℕ). put_in (set t g (word t g + 1)) (row_at k g) n x) left-same

-- ---- what can be done

abbrev pub Granted : Rows → (ℕ → List Element) → Due → Type 0
Granted k m Rest = Unit {0}
Granted k m (Put l x) = (l < k.lines) × (length (m l) < k.places) × Own k l x
Granted k m (Take l) = (l < k.lines) × (0 < length (m l))
Granted k m (Swap l x) = (l < k.lines) × (0 < length (m l)) × (goal k l x < k.lines) × Own k (goal k l x) x × ((l ≡ goal k l x → ⊥) → length (m (goal k l x)) < k.places)

-- the lines after it
abbrev pub taken : (ℕ → List Element) → ℕ → ℕ → List Element
taken m l = upd m l (behind (m l))

abbrev pub put : (ℕ → List Element) → ℕ → Element → ℕ → List Element
put m l x = upd m l (insert x (m l))

abbrev pub after : Rows → Due → (ℕ → List Element) → ℕ → List Element
after k Rest m = m
after k (Put l x) m = put m l x
after k (Take l) m = taken m l
after k (Swap l x) m = put (taken m l) (goal k l x) x

pub uncons : (l : List Element) → 0 < length l → (x : Element) × (xs : List Element) × (l ≡ x ∷ xs)
uncons [] h = absurd (omega arith)
uncons (x ∷ xs) h = (x, xs, refl)

pub behind-length : (l : List Element) → 0 < length l → length (behind l) < length l
behind-length [] h = absurd (omega arith)
behind-length (x ∷ xs) h = omega arith

module _ (k : Rows) (w : List ℕ) (m : ℕ → List Element) (s : Sound k w m) where
  takes : (l : ℕ) → l < k.lines → 0 < length (m l) → Sound k (worked k (Take l) (counted k (Take l) w)) (taken m l)
  takes l h p =
      let u = uncons (m l) p in
      subst (λ (ys : List Element). Sound k (worked k (Take l) (counted k (Take l) w)) (upd m l ys)) (sym (ap behind u.2)) (take-keeps k w m s l h u.0 u.1 u.2)

  room-again : (l g : ℕ) → l < k.lines → 0 < length (m l) → ((l ≡ g → ⊥) → length (m g) < k.places) → length (taken m l g) < k.places
  room-again l g h p q = elim (ℕ_discrete g l) [
    | yes e ↦ let z : length (taken m l g) ≡ length (behind (m l)) = ap (λ (i : ℕ). length (taken m l i)) e ∙ ap length (is-upd m l (behind (m l))).here in omega (arith, behind-length (m l) p, s.fit l h)
    | no e ↦ let z : length (taken m l g) ≡ length (m g) = ap length ((is-upd m l (behind (m l))).else g e) in omega (arith, q (λ y. e (sym y)))
  ]

  -- KEEPS
  pub keeps : (d : Due) → Granted k m d → Sound k (worked k d (counted k d w)) (after k d m)
  unfolding worked counted
  keeps Rest y = s
  keeps (Put l x) y = put_keeps k w m s l y.0 x y.1 y.2
  keeps (Take l) y = takes l y.0 y.1
  keeps (Swap l x) y =
      let g = goal k l x in
      subst (λ (v : List ℕ). Sound k v (put (taken m l) g x)) (sym (swap_is k w l x y.2 y.0 (omega (arith, s.shaped.words))))
      (put_keeps k (worked k (Take l) (counted k (Take l) w)) (taken m l) (takes l y.0 y.1) g y.2 x (room-again l g y.0 y.1 y.4) y.3)

-- ---- which can be done

not-cases : (a b : Bool) → (not a || b) ≡ true → a ≡ true → b ≡ true
not-cases true b e p = e
not-cases false b e p = absurd (false≢true p)

module _ (k : Rows) (x : Element) (f : in_range k x ≡ true) where
  pub in-range : k.kind ≡ 1 → x.rank.0 < 65536
  in-range e = ltb-true x.rank.0 65536 (not-cases (eqb k.kind 1) (ltb x.rank.0 65536) f (eq-eqb k.kind 1 e))

  pub taker-own : (c : ℕ → ℕ) → Own k (taker k c x) x
  unfolding taker
  taker-own c e = (in-range e, rw (eq-eqb k.kind 1 e) refl)

  pub goal-own : (l : ℕ) → Own k (goal k l x) x
  unfolding goal
  goal-own l e = (in-range e, rw (eq-eqb k.kind 1 e) refl)

  pub goal-lt : (long : ℕ) → Shaped k long → (l : ℕ) → l < k.lines → goal k l x < k.lines
  unfolding goal
  goal-lt long s l h = elim (ℕ_discrete k.kind 1) [
    | yes e ↦ rw (eq-eqb k.kind 1 e) (line-lt k (spans k.lines s.lines) x.rank.0 (in-range e))
    | no e ↦ rw (ne_eqb k.kind 1 e) h
  ]

-- the line that gives
pub giver-fits : (k : Rows) (long : ℕ) → Shaped k long → (c : ℕ → ℕ) (h : ℕ → Element) → (total c k.lines ≡ 0 → ⊥) → (giver k c h < k.lines) × (0 < c (giver k c h))
unfolding giver
giver-fits k long s c h n = elim (ℕ_discrete k.kind 1) [
  | yes e ↦ rw (eq-eqb k.kind 1 e)
      (let l = first_some c k.lines n in (l, ltb-true 0 (c (seek (λ l. ltb 0 (c l)) k.lines)) ((sought (λ l. ltb 0 (c l)) k.lines).here l)))
  | no e ↦ rw (ne_eqb k.kind 1 e)
      (let z : c (lowest c h k.lines) ≡ 0 → ⊥ = λ z. n ((lowest-least c h k.lines).some z) in
      (lowest-lt c h k.lines (spans k.lines s.lines).lines, omega arith))
]

module _ (k : Rows) (w : List ℕ) (m : ℕ → List Element) (s : Sound k w m) (h : ℕ → Element) where
  gives : (total (word w) k.lines ≡ 0 → ⊥) → (giver k (word w) h < k.lines) × (0 < length (m (giver k (word w) h)))
  gives e =
      let y = giver-fits k (length w) s.shaped (word w) h e in
      (y.0, rw (← s.count (giver k (word w) h) y.0) y.1)

  -- GRANTED: what a request that is not refused comes to can be done
  pub lets : (q : Request) → rank_fit k q ≡ true → Clear (late_table k (word w) h q) → Granted k m (due_of k (word w) h q)
  unfolding due_of
  lets Idle f c = tt
  lets (Push x) f c =
      let l = taker k (word w) x in
      let h1 = ltb-true l k.lines (and_left (ltb l k.lines) (ltb (word w l) k.places) c.0) in
      (h1, omega (arith, s.count l h1, ltb-true (word w l) k.places (and_right (ltb l k.lines) (ltb (word w l) k.places) c.0)), taker-own k x f (word w))
  lets Pop f c = gives (eqb-false (total (word w) k.lines) 0 c.0)
  lets (Replace x) f c =
      let l = giver k (word w) h in
      let g = goal k l x in
      let y = gives (eqb-false (total (word w) k.lines) 0 c.0) in
      let b = goal-lt k x f (length w) s.shaped l y.0 in
      (y.0, y.1, b, goal-own k x f l, λ n. omega (arith, s.count g b, ⊎_elim (λ z. absurd (n (eqb-true l g z))) (λ z. ltb-true (word w g) k.places z) (or_cases (eqb l g) (ltb (word w g) k.places) c.1.0)))

  pub choose-grants : (q : Request) → Granted k m (choose k (word w) h q).due
  unfolding choose
  choose-grants q =
      decided-either denied (λ (z : Choice). Granted k m z.due) (ask_table k q (late_table k (word w) h q)) (choice (grants q (h (giver k (word w) h))) (due_of k (word w) h q))
      (each-any _ (λ n. tt) (ask_table k q (late_table k (word w) h q))) (λ c. lets q c.0 c.1.1)

-- ---- no test fails

ascends-sorted : (l : List Element) → Sorted l → ascends l ≡ true
unfolding ascends
ascends-sorted [] s = refl
ascends-sorted (x ∷ []) s = refl
ascends-sorted (x ∷ y ∷ l) s = rw (le-leb x.rank.0 y.rank.0 s.0.0) (ascends-sorted (y ∷ l) s.1)

own-rank : (k : Rows) (l : ℕ) (x : Element) → Own k l x → own_rank k l x.rank.0 ≡ true
own-rank k l x o = elim (ℕ_discrete k.kind 1) [
  | yes e ↦ rw (eq-eqb k.kind 1 e, lt-ltb x.rank.0 65536 (o e).0, eq-eqb (line_of k x.rank.0) l (o e).1) refl
  | no e ↦ rw (ne_eqb k.kind 1 e) refl
]

owned-all : (k : Rows) (l : ℕ) (xs : List Element) → All (Own k l) xs → owned k l xs ≡ true
unfolding owned
owned-all k l [] h = refl
owned-all k l (x ∷ xs) h = and-true (own_rank k l x.rank.0) (owned k l xs) (own-rank k l x h.0) (owned-all k l xs h.1)

counts-below : (most : ℕ) (c : ℕ → ℕ) (n : ℕ) → ((i : ℕ) → i < n → c i ≤ most) → counts_below most c n ≡ true
unfolding counts_below
counts-below most c zero h = refl
counts-below most c (suc n) h = and-true (counts_below most c n) (leb (c n) most) (counts-below most c n (λ i l. h i (omega arith))) (le-leb (c n) most (h n (omega arith)))

module _ (k : Rows) (w : List ℕ) (m : ℕ → List Element) (s : Sound k w m) where
  pub counts-ok : counts_ok k w ≡ true
  counts-ok = counts-below k.places (word w) k.lines (λ i l. omega (arith, s.count i l, s.fit i l))

  blank_ok : (l : ℕ) → l < k.lines → (not (ltb (length (m l)) k.places) || is_blank w (row_at k l + (length (m l) + length (m l) + length (m l)))) ≡ true
  blank_ok l h = elim (dec_lt (length (m l)) k.places) [
    | yes p ↦ rw (lt-ltb (length (m l)) k.places p)
        (let b = row_at k l + (length (m l) + length (m l) + length (m l)) in
        and-true (eqb (word w b) 0 && eqb (word w (b + 1)) 0) (eqb (word w (b + 2)) 0)
        (and-true (eqb (word w b) 0) (eqb (word w (b + 1)) 0) (eq-eqb (word w b) 0 (s.neat l h b (omega arith) (omega arith))) (eq-eqb (word w (b + 1)) 0 (s.neat l h (b + 1) (omega arith) (omega arith))))
        (eq-eqb (word w (b + 2)) 0 (s.neat l h (b + 2) (omega arith) (omega arith))))
    | no p ↦ rw (le-ltb (length (m l)) k.places (omega arith)) refl
  ]

  pub line_ok_lem : (l : ℕ) → l < k.lines → line_ok k w l (length (m l)) ≡ true
  unfolding line_ok
  line_ok_lem l h =
      rw (s.row l h)
      (and-true (ascends (m l) && owned k l (m l)) _ (and-true (ascends (m l)) (owned k l (m l)) (ascends-sorted (m l) (s.sorted l h)) (owned-all k l (m l) (s.own l h))) (blank_ok l h))

  -- .. of the lines of what can be done, where line l had so many elements
  pub lines_ok_lem : (had : ℕ → ℕ) → ((l : ℕ) → l < k.lines → had l ≡ length (m l)) → (d : Due) → Granted k m d → lines_ok k w had d ≡ true
  unfolding lines_ok
  lines_ok_lem had e Rest y = refl
  lines_ok_lem had e (Put l x) y = rw (e l y.0) (line_ok_lem l y.0)
  lines_ok_lem had e (Take l) y = rw (e l y.0) (line_ok_lem l y.0)
  lines_ok_lem had e (Swap l x) y = and-true (line_ok k w l (had l)) (line_ok k w (goal k l x) (had (goal k l x))) (rw (e l y.0) (line_ok_lem l y.0)) (rw (e (goal k l x) y.2) (line_ok_lem (goal k l x) y.2))

pub shape-ok : (k : Rows) (long : ℕ) → Shaped k long → shape_ok k long ≡ true
shape-ok k long s = (shape-means k long).holds s

-- CALLED: on a sound store a request is answered, and does, what it comes to
module _ (k : Rows) (w : List ℕ) (m : ℕ → List Element) (s : Sound k w m) (q : Request) where
  abbrev late_here : Table
  late_here = late_table k (word w) (heads k w) q

  abbrev lowest-here : Element
  lowest-here = heads k w (giver k (word w) (heads k w))

  abbrev ruled_here : Ruling Request
  ruled_here = ruled (λ q. q) late_here q lowest-here

  rule-way : rank_fit k q ≡ true → lines_ok k w (word w) (due_in k ruled_here.op w) ≡ true
  unfolding due_of lines_ok
  rule-way e =
      decided-either (λ n. ruling (Err n) Idle) (λ (g : Ruling Request). lines_ok k w (word w) (due_in k g.op w) ≡ true) late_here (ruling (grants q lowest-here) q)
      (each-any _ (λ n. refl) late_here) (λ c. lines_ok_lem k w m s (word w) s.count (due_in k q w) (lets k w m s (heads k w) q e c))

  rule-does : outcome ruled_here.answer (done k (due_in k ruled_here.op w) w) ≡ acted k w (decided denied late_here (choice (grants q lowest-here) (due_in k q w)))
  unfolding due_of
  rule-does =
      decided-same (λ (g : Ruling Request). outcome g.answer (done k (due_in k g.op w) w)) (λ (z : Choice). acted k w z) (λ n. ruling (Err n) Idle) denied late_here
      (ruling (grants q lowest-here) q) (choice (grants q lowest-here) (due_in k q w)) (λ n. refl) refl

  pub called_is : called k q w ≡ acted k w (choose k (word w) (heads k w) q)
  unfolding called choose worked counted
  called_is = rw (shape-ok k (length w) s.shaped) (go (rank_fit k q) refl (lacks_tag q))
    where
      go : (r : Bool) → rank_fit k q ≡ r → (t : Bool)
          → cond r (cond t (left w NoTag) (cond (counts_ok k w) (cond (lines_ok k w (word w) (due_in k ruled_here.op w)) (outcome ruled_here.answer (done k (due_in k ruled_here.op w) w)) (left w Damaged)) (left w Damaged))) (left w BadRank)
          ≡ acted k w (cond r (cond t (denied NoTag) (decided denied late_here (choice (grants q lowest-here) (due_in k q w)))) (denied BadRank))
      go true e false = rw (counts-ok k w m s, rule-way e) rule-does
      go true e true = refl
      go false e t = refl

  -- .. and leaves a sound one
  pub called-keeps : Sound k (called k q w).words (after k (choose k (word w) (heads k w) q).due m)
  called-keeps =
      let d = (choose k (word w) (heads k w) q).due in
      subst (λ (o : Outcome). Sound k o.words (after k d m)) (sym called_is) (keeps k w m s d (choose-grants k w m s (heads k w) q))
