-- The clock: a cycle changes nothing of what the machine settles to, but for the request, which is answered as one at a time. So the settled store is the
-- one-at-a-time store.
use Rattle.laws.specs.Prelude.{Answer, BadRank, Bool, Element, Empty, Full, Idle, List, NoTag, Pop, Push, Replace, Request, ◌&&◌, ◌+◌, ◌-◌, ◌<◌, ◌||◌, ◌∙◌, ◌≡◌, ◌≤◌, and-true, ap, ap₂, arith, cond, dec_lt, eq-eqb, eqb, eqb-false, false, inl, le-ltb, leb, length, length-set, lt-ltb, ltb, ne_eqb, or_right, refl, set, subst, suc, sym, true, zero, ℕ, ℕ_discrete, Ok, None, Some, Err}
use Rattle.lines_model.proofs.Acts.{after, called_is, choose-grants, counts-ok, giver-fits, goal-lt, Granted, keeps, lines_ok_lem, shape-ok}
use Rattle.lines_model.proofs.Row.{other, row-past, same, set_other}
use Rattle.lines_model.proofs.Which.{lowest-lt, sought, total_ext}
use Rattle.lines_model.specs.Calls.{called, counts_ok, heads}
use Rattle.lines_model.specs.Causes.{Own, Shaped}
use Rattle.lines_model.specs.Clock.{before_put, before_take, chosen, due_at, due_ok, fronts, had, Machine, machine, settled, written, cycled, ticking, cycle_ok}
use Rattle.lines_model.specs.Layout.{line_of, moved, put_in, row_at, row_in, Rows, row_set, shape_ok, without, word}
use Rattle.lines_model.specs.Promise.{Sound}
use Rattle.lines_model.specs.Rules.{ask_table, Choice, choice, choose, counted, counts_below, denied, Due, due_of, gave_of, giver, goal, has_room, in_range, late_table, leads, line_ok, lines_ok, lowest, Put, rank_fit, Rest, room_after, seek, Swap, Take, taker, total, worked}
use Rattle.promise.specs.Prelude.{Outcome, Ruling, Step, decided, decided-same, grants, lacks_tag, outcome, ruling, step}
use Rattle.promise.specs.FirstIn.{insert}

-- ---- what a request comes to goes by the counts of the lines alone

seek-ext : (t u : ℕ → Bool) (n : ℕ) → ((i : ℕ) → i < n → t i ≡ u i) → seek t n ≡ seek u n
unfolding seek
seek-ext t u zero h = refl
seek-ext t u (suc n) h =
    ap (λ (j : ℕ). cond (t j) j (suc j)) (seek-ext t u n (λ i l. h i (omega arith)))
    ∙ ap (λ (b : Bool). cond b (seek u n) (suc (seek u n))) (h (seek u n) (omega (arith, (sought u n).most)))

module _ (c d : ℕ → ℕ) (h : ℕ → Element) where
  leads-ext : (i j : ℕ) → c i ≡ d i → c j ≡ d j → leads c h i j ≡ leads d h i j
  unfolding leads
  leads-ext i j p q = ap₂ (λ (x y : ℕ). ltb 0 x && (eqb y 0 || ltb (h i).rank.0 (h j).rank.0)) p q

  lowest-le : (n : ℕ) → lowest d h n ≤ n
  unfolding lowest
  lowest-le zero = omega arith
  lowest-le (suc n) = omega (arith, lowest-lt d h (suc n) (omega arith))

  lowest-ext : (n : ℕ) → ((i : ℕ) → i < n → c i ≡ d i) → lowest c h n ≡ lowest d h n
  unfolding lowest
  lowest-ext zero e = refl
  lowest-ext (suc n) e =
      ap (λ (j : ℕ). cond (leads c h n j) n j) (lowest-ext n (λ i l. e i (omega arith)))
      ∙ ap (λ (b : Bool). cond b n (lowest d h n)) (leads-ext n (lowest d h n) (e n (omega arith)) (e (lowest d h n) (omega (arith, lowest-le n))))

module _ (k : Rows) (long : ℕ) (s : Shaped k long) (c d : ℕ → ℕ) (e : (i : ℕ) → i < k.lines → c i ≡ d i) (h : ℕ → Element) where
  taker-ext : (x : Element) → taker k c x ≡ taker k d x
  unfolding taker
  taker-ext x = ap (λ (j : ℕ). cond (eqb k.kind 1) (line_of k x.rank.0) j) (seek-ext (λ l. ltb (c l) k.places) (λ l. ltb (d l) k.places) k.lines (λ i l. ap (λ (n : ℕ). ltb n k.places) (e i l)))

  giver-ext : giver k c h ≡ giver k d h
  unfolding giver
  giver-ext =
      ap₂ (λ (i j : ℕ). cond (eqb k.kind 1) i j) (seek-ext (λ l. ltb 0 (c l)) (λ l. ltb 0 (d l)) k.lines (λ i l. ap (λ (n : ℕ). ltb 0 n) (e i l)))
      (lowest-ext c d h k.lines e)

  room-ext : (l : ℕ) → has_room k c l ≡ has_room k d l
  room-ext l = elim (dec_lt l k.lines) [
    | yes p ↦ ap (λ (n : ℕ). ltb l k.lines && ltb n k.places) (e l p)
    | no p ↦ rw (le-ltb l k.lines (omega arith)) refl
  ]

  -- the choice, and what is asked before
  late-ext : (q : Request) → rank_fit k q ≡ true
      → decided denied (late_table k c h q) (choice (grants q (h (giver k c h))) (due_of k c h q)) ≡ decided denied (late_table k d h q) (choice (grants q (h (giver k d h))) (due_of k d h q))
  unfolding due_of
  late-ext Idle f = refl
  late-ext (Push x) f =
      ap (λ (l : ℕ). cond (has_room k c l) (choice (Ok None) (Put l x)) (denied Full)) (taker-ext x)
      ∙ ap (λ (b : Bool). cond b (choice (Ok None) (Put (taker k d x) x)) (denied Full)) (room-ext (taker k d x))
  late-ext Pop f = ap₂ (λ (n l : ℕ). cond (eqb n 0) (denied Empty) (choice (Ok (Some (h l))) (Take l))) (total_ext c d k.lines e) giver-ext
  late-ext (Replace x) f =
      ap₂ (λ (n l : ℕ). cond (eqb n 0) (denied Empty) (cond (room_after k c l (goal k l x)) (choice (Ok (Some (h l))) (Swap l x)) (denied Full))) (total_ext c d k.lines e) giver-ext
      ∙ go (eqb (total d k.lines) 0) refl
    where
      go : (b : Bool) → eqb (total d k.lines) 0 ≡ b
          → cond b (denied Empty) (cond (room_after k c (giver k d h) (goal k (giver k d h) x)) (choice (Ok (Some (h (giver k d h)))) (Swap (giver k d h) x)) (denied Full))
          ≡ cond b (denied Empty) (cond (room_after k d (giver k d h) (goal k (giver k d h) x)) (choice (Ok (Some (h (giver k d h)))) (Swap (giver k d h) x)) (denied Full))
      go true p = refl
      go false p =
          let l = giver k d h in
          let g = goal k l x in
          let y = giver-fits k long s d h (eqb-false (total d k.lines) 0 p) in
          ap (λ (n : ℕ). cond (eqb l g || ltb n k.places) (choice (Ok (Some (h l))) (Swap l x)) (denied Full)) (e g (goal-lt k x f long s l y.0))

  pub choose-ext : (q : Request) → choose k c h q ≡ choose k d h q
  unfolding choose
  choose-ext q = go (rank_fit k q) refl
    where
      go : (b : Bool) → rank_fit k q ≡ b
          → cond b (cond (lacks_tag q) (denied NoTag) (decided denied (late_table k c h q) (choice (grants q (h (giver k c h))) (due_of k c h q)))) (denied BadRank)
          ≡ cond b (cond (lacks_tag q) (denied NoTag) (decided denied (late_table k d h q) (choice (grants q (h (giver k d h))) (due_of k d h q)))) (denied BadRank)
      go true f = ap (λ (z : Choice). cond (lacks_tag q) (denied NoTag) z) (late-ext q f)
      go false f = refl

-- ---- a line's work leaves the counts

pub counts_same : (k : Rows) (d : Due) (w : List ℕ) (i : ℕ) → i < k.lines → word (worked k d w) i ≡ word w i
unfolding worked put_in without
counts_same k Rest w i h = refl
counts_same k (Put l x) w i h = set_other w (row_at k l) (insert x (row_in w (row_at k l) (word w l - 1))) i (inl (omega arith))
counts_same k (Take l) w i h = set_other w (row_at k l) (moved (row_in w (row_at k l) (word w l + 1))) i (inl (omega arith))
counts_same k (Swap l x) w i h =
    let g = goal k l x in
    let v = row_set w (row_at k l) (moved (row_in w (row_at k l) (gave_of w l g))) in
    set_other v (row_at k g) (insert x (row_in v (row_at k g) (word w g - 1))) i (inl (omega arith)) ∙ set_other w (row_at k l) (moved (row_in w (row_at k l) (gave_of w l g))) i (inl (omega arith))

-- .. and a count changed leaves what is read of the lines
line-past : (k : Rows) (w : List ℕ) (i v l c : ℕ) → i < k.lines → line_ok k (set w i v) l c ≡ line_ok k w l c
unfolding line_ok
line-past k w i v l c h =
    let b = row_at k l + (c + c + c) in
    rw (row-past w i v (row_at k l) c (omega arith), other w i v b (λ e. omega arith), other w i v (b + 1) (λ e. omega arith), other w i v (b + 2) (λ e. omega arith)) refl

lines-past : (k : Rows) (w : List ℕ) (i v : ℕ) (n : ℕ → ℕ) (d : Due) → i < k.lines → lines_ok k (set w i v) n d ≡ lines_ok k w n d
unfolding lines_ok
lines-past k w i v n Rest h = refl
lines-past k w i v n (Put l x) h = line-past k w i v l (n l) h
lines-past k w i v n (Take l) h = line-past k w i v l (n l) h
lines-past k w i v n (Swap l x) h = ap₂ (λ (a b : Bool). a && b) (line-past k w i v l (n l) h) (line-past k w i v (goal k l x) (n (goal k l x)) h)

-- ---- the number of elements that a line had before

came-back : (u : List ℕ) (g j : ℕ) → g < length u → before_put (eqb j g) (word (set u g (word u g + 1)) j) ≡ word u j
came-back u g j h = elim (ℕ_discrete j g) [
  | yes e ↦ rw (eq-eqb j g e) (let z : word (set u g (word u g + 1)) j ≡ word u g + 1 = ap (word (set u g (word u g + 1))) e ∙ same u g (word u g + 1) h in let y : word u j ≡ word u g = ap (word u) e in omega arith)
  | no e ↦ rw (ne_eqb j g e) (other u g (word u g + 1) j e)
]

left_back : (u : List ℕ) (l j : ℕ) → l < length u → 0 < word u l → before_take (eqb j l) (word (set u l (word u l - 1)) j) ≡ word u j
left_back u l j h p = elim (ℕ_discrete j l) [
  | yes e ↦ rw (eq-eqb j l e) (let z : word (set u l (word u l - 1)) j ≡ word u l - 1 = ap (word (set u l (word u l - 1))) e ∙ same u l (word u l - 1) h in let y : word u j ≡ word u l = ap (word u) e in omega arith)
  | no e ↦ rw (ne_eqb j l e) (other u l (word u l - 1) j e)
]

own_in : (k : Rows) (l : ℕ) (x : Element) → Own k l x → in_range k x ≡ true
own_in k l x o = elim (ℕ_discrete k.kind 1) [
  | yes e ↦ rw (eq-eqb k.kind 1 e, lt-ltb x.rank.0 65536 (o e).0) refl
  | no e ↦ rw (ne_eqb k.kind 1 e) refl
]

own-goal : (k : Rows) (l : ℕ) (x : Element) → Own k l x → goal k l x ≡ l
unfolding goal
own-goal k l x o = elim (ℕ_discrete k.kind 1) [
  | yes e ↦ rw (eq-eqb k.kind 1 e) (o e).1
  | no e ↦ rw (ne_eqb k.kind 1 e) refl
]

module _ (k : Rows) (w : List ℕ) (m : ℕ → List Element) (s : Sound k w m) where
  long : k.lines ≤ length w
  long = omega (arith, s.shaped.words)

  had-is : (d : Due) → Granted k m d → (j : ℕ) → j < k.lines → had k (counted k d w) d j ≡ length (m j)
  unfolding had counted
  had-is Rest y j h = s.count j h
  had-is (Put l x) y j h = came-back w l j (omega (arith, y.0, long)) ∙ s.count j h
  had-is (Take l) y j h = left_back w l j (omega (arith, y.0, long)) (omega (arith, y.1, s.count l y.0)) ∙ s.count j h
  had-is (Swap l x) y j h =
      let w0 = set w l (word w l - 1) in
      ap (λ (n : ℕ). before_take (eqb j l) n) (came-back w0 (goal k l x) j (omega (arith, y.2, long, length-set w l (word w l - 1))))
      ∙ left_back w l j (omega (arith, y.0, long)) (omega (arith, y.1, s.count l y.0)) ∙ s.count j h

  -- L4
  due-lines : (d : Due) → Granted k m d → lines_ok k (counted k d w) (had k (counted k d w) d) d ≡ true
  due-lines d y = through d y ∙ lines_ok_lem k w m s (had k (counted k d w) d) (had-is d y) d y
    where
      through : (d : Due) → Granted k m d → lines_ok k (counted k d w) (had k (counted k d w) d) d ≡ lines_ok k w (had k (counted k d w) d) d
      through Rest y = unfold counted in refl
      through (Put l x) y = unfold counted in lines-past k w l (word w l + 1) (had k (set w l (word w l + 1)) (Put l x)) (Put l x) y.0
      through (Take l) y = unfold counted in lines-past k w l (word w l - 1) (had k (set w l (word w l - 1)) (Take l)) (Take l) y.0
      through (Swap l x) y =
          unfold counted in
          (let w0 = set w l (word w l - 1) in
          let n = had k (set w0 (goal k l x) (word w0 (goal k l x) + 1)) (Swap l x) in
          lines-past k w0 (goal k l x) (word w0 (goal k l x) + 1) n (Swap l x) y.2 ∙ lines-past k w l (word w l - 1) n (Swap l x) y.0)

  -- L2 and L3
  due-ok : (d : Due) → Granted k m d → due_ok k (counted k d w) d ≡ true
  unfolding due_ok counted
  due-ok Rest y = refl
  due-ok (Put l x) y =
      let p : 0 < word (set w l (word w l + 1)) l = omega (arith, same w l (word w l + 1) (omega (arith, y.0, long))) in
      rw (lt-ltb l k.lines y.0, own_in k l x y.2, eq-eqb (goal k l x) l (own-goal k l x y.2), lt-ltb 0 (word (set w l (word w l + 1)) l) p) refl
  due-ok (Take l) y =
      let p : word (set w l (word w l - 1)) l < k.places = omega (arith, same w l (word w l - 1) (omega (arith, y.0, long)), s.count l y.0, s.fit l y.0, y.1) in
      rw (lt-ltb l k.lines y.0, lt-ltb (word (set w l (word w l - 1)) l) k.places p) refl
  due-ok (Swap l x) y =
      let g = goal k l x in
      let w0 = set w l (word w l - 1) in
      let w1 = set w0 g (word w0 g + 1) in
      let p : 0 < word w1 g = omega (arith, same w0 g (word w0 g + 1) (omega (arith, y.2, long, length-set w l (word w l - 1)))) in
      let r : (eqb l g || ltb (word w1 l) k.places) ≡ true = elim (ℕ_discrete l g) [
        | yes e ↦ rw (eq-eqb l g e) refl
        | no e ↦ or_right (eqb l g) (ltb (word w1 l) k.places) (lt-ltb (word w1 l) k.places
            (omega (arith, other w0 g (word w0 g + 1) l e, same w l (word w l - 1) (omega (arith, y.0, long)), s.count l y.0, s.fit l y.0, y.1)))
      ] in
      rw (lt-ltb l k.lines y.0, own_in k g x y.3, lt-ltb 0 (word w1 g) p) r

below-ext : (most : ℕ) (c d : ℕ → ℕ) (n : ℕ) → ((i : ℕ) → i < n → c i ≡ d i) → counts_below most c n ≡ counts_below most d n
unfolding counts_below
below-ext most c d zero e = refl
below-ext most c d (suc n) e = ap₂ (λ (a : Bool) (b : ℕ). a && leb b most) (below-ext most c d n (λ i l. e i (omega arith))) (e n (omega arith))

-- ---- the machine between cycles

-- FLYING: its counts are those of a request that was taken on a sound store, and its lines are that store's
pub record Flying (k : Rows) (z : Machine) : Type 0 where
  pub base : List ℕ
  pub rows : ℕ → List Element
  pub sound : Sound k base rows
  pub granted : Granted k rows z.due
  pub words : z.words ≡ counted k z.due base

module _ (k : Rows) (z : Machine) (f : Flying k z) where
  abbrev d : Due
  d = z.due

  settled_is : settled k z ≡ worked k z.due (counted k z.due f.base)
  unfolding settled
  settled_is = ap (worked k z.due) f.words

  -- what it settles to is sound
  pub settled-sound : Sound k (settled k z) (after k z.due f.rows)
  settled-sound = subst (λ (v : List ℕ). Sound k v (after k z.due f.rows)) (sym settled_is) (keeps k f.base f.rows f.sound z.due f.granted)

  pub settled-counts : (i : ℕ) → i < k.lines → word (settled k z) i ≡ word z.words i
  unfolding settled
  settled-counts i h = counts_same k z.due z.words i h

  -- UNDAMAGED
  pub cycle-ok : cycle_ok k z ≡ true
  unfolding cycle_ok
  cycle-ok =
      and-true (counts_ok k z.words && due_ok k z.words z.due) _
      (and-true (counts_ok k z.words) (due_ok k z.words z.due)
      (sym (below-ext k.places (word (settled k z)) (word z.words) k.lines settled-counts) ∙ counts-ok k (settled k z) (after k z.due f.rows) settled-sound)
      (rw f.words (due-ok k f.base f.rows f.sound z.due f.granted)))
      (rw f.words (due-lines k f.base f.rows f.sound z.due f.granted))

  counted-long : (d : Due) (w : List ℕ) → length (counted k d w) ≡ length w
  unfolding counted
  counted-long Rest w = refl
  counted-long (Put l x) w = length-set w l (word w l + 1)
  counted-long (Take l) w = length-set w l (word w l - 1)
  counted-long (Swap l x) w = length-set (set w l (word w l - 1)) (goal k l x) _ ∙ length-set w l (word w l - 1)

  pub machine-shape : Shaped k (length z.words)
  machine-shape = subst (Shaped k) (sym (ap length f.words ∙ counted-long z.due f.base)) f.sound.shaped

-- a cycle that finds shape and words in order does what its request comes to
pub cycled-is : (k : Rows) (q : Request) (z : Machine) → shape_ok k (length z.words) ≡ true → cycle_ok k z ≡ true → cycled k q z ≡ outcome (chosen k q z).answer (written k (chosen k q z).due z)
unfolding cycled choose due_of
cycled-is k q z e f =
    let a = ask_table k q (late_table k (word z.words) (fronts k z) q) in
    let o = grants q (fronts k z (giver k (word z.words) (fronts k z))) in
    rw (e, f)
    (decided-same (λ (g : Ruling Request). outcome g.answer (written k (due_at k g.op z) z)) (λ (y : Choice). outcome y.answer (written k y.due z)) (λ n. ruling (Err n) Idle) denied a
    (ruling o q) (choice o (due_at k q z)) (λ n. refl) refl)

module _ (k : Rows) (z : Machine) (f : Flying k z) where
  ticks-as : (q : Request) → ticking k q z ≡ step (chosen k q z).answer (written k (chosen k q z).due z)
  unfolding cycled
  ticks-as q = ap (λ (o : Outcome Machine). step o.answer o.words) (cycled-is k q z (shape-ok k (length z.words) (machine-shape k z f)) (cycle-ok k z f))

  -- the request comes to what it comes to on the settled store
  pub chosen_is : (q : Request) → chosen k q z ≡ choose k (word (settled k z)) (heads k (settled k z)) q
  chosen_is q = choose-ext k (length (settled k z)) (settled-sound k z f).shaped (word z.words) (word (settled k z)) (λ i h. sym (settled-counts k z f i h)) (heads k (settled k z)) q

  abbrev rows' : ℕ → List Element
  rows' = after k z.due f.rows

  -- SAID: answered as one at a time
  pub cycle-said : (q : Request) → (ticking k q z).said ≡ (called k q (settled k z)).answer
  cycle-said q =
      ap (λ (y : Step Answer Machine). y.said) (ticks-as q) ∙ ap (λ (c : Choice). c.answer) (chosen_is q)
      ∙ sym (ap (λ (o : Outcome (List ℕ)). o.answer) (called_is k (settled k z) rows' (settled-sound k z f) q))

  -- SETTLED: the store that the cycle settles to is the one-at-a-time store, word for word
  pub cycle-settled : (q : Request) → settled k (ticking k q z).next ≡ (called k q (settled k z)).words
  unfolding settled
  cycle-settled q =
      ap (λ (y : Step Answer Machine). settled k y.next) (ticks-as q)
      ∙ ap (λ (c : Choice). worked k c.due (counted k c.due (settled k z))) (chosen_is q)
      ∙ sym (ap (λ (o : Outcome (List ℕ)). o.words) (called_is k (settled k z) rows' (settled-sound k z f) q))

  pub cycle-flies : (q : Request) → Flying k (ticking k q z).next
  cycle-flies q =
      subst (λ (y : Step Answer Machine). Flying k y.next) (sym (ticks-as q))
      (record {
        base = settled k z;
        rows = rows';
        sound = settled-sound k z f;
        granted = subst (λ (c : Choice). Granted k rows' c.due) (sym (chosen_is q)) (choose-grants k (settled k z) rows' (settled-sound k z f) (heads k (settled k z)) q);
        words = refl;
      })

  -- IDLE: one idle cycle leaves the settled store, and nothing pending
  pub idle-next : (ticking k Idle z).next ≡ machine (settled k z) Rest
  unfolding choose due_of counted
  idle-next = ap (λ (y : Step Answer Machine). y.next) (ticks-as Idle)
