-- The mender: no push of it is refused, what it writes passes the check, and holds exactly the elements of the first store's slots, less the skipped.
use Rattle.std.specs.Prelude.{Err, None, Ok}
use Rattle.laws.specs.Prelude.{All, Answer, BadShape, Bool, Element, List, Push, Request, [], ◌&&◌, ◌*◌, ◌+◌, ◌<◌, ◌∙◌, ◌∷◌, ◌≡◌, ◌≤◌, add-suc, and_right, ap, ap₂, arith, cond, eqb, false, get_or, length, lt-ltb, ne_eqb, not, not-suc-le-zero, not-true, refl, suc, suc-add, sum_to, sym, to-add, to-ext, true, untagged, zero, ℕ, Ok, None}
use Rattle.promise.proofs.Kept.{let-in}
use Rattle.promise.specs.Prelude.{always, answers, brought, hit, leaves}
use Rattle.tree_model.proofs.Laws.{Kept, call-sum, called-kept, clear-zeroes, is-queue, is-shape, kept-sum, past-stands, shape_is, start-empty, start-kept, stored-holding, tagged}
use Rattle.tree_model.specs.Prelude.{Outcome, Shape, after, called, is_empty, own, own_by, room, root_of, shape_ok, slot_of, slot_words, start, stored_count, sum_counts, tree_queue}
use Rattle.tree_model.specs.declared.Slot.{Slot}
use Rattle.tree_mend_model.specs.Check.{checked}
use Rattle.tree_mend_model.specs.Mend.{keeps, Mended, mended, mended_as, pushes, skipped, skips}
use Rattle.tree_mend_model.specs.Promise.{without_tag, with_tag}
use Rattle.tree_mend_model.proofs.Passes.{reached-passes}

-- ---- a push of an element with a tag, into a store with room
module _ (m k : ℕ) (x : Element) (t : untagged x ≡ false) (ws : List ℕ) (kept : Kept m k ws) (h : stored_count (room m (suc k)) ws always < room m (suc k)) where
  pub push-taken : (called m (suc k) (Push x) ws).answer ≡ Ok None
  unfolding called
  push-taken =
      ap (λ (o : Outcome). o.answer) (let-in (is-queue m k) (Push x) ws kept tt
      (t, (lt-ltb (sum_counts (root_of m ws)) (room m (suc k)) (omega (arith, kept-sum m k ws kept, stored-holding m k ws always)), tt)))

  pub push-sum : (f : Element → Bool) → stored_count (room m (suc k)) (called m (suc k) (Push x) ws).words f ≡ stored_count (room m (suc k)) ws f + hit (f x)
  push-sum f = omega (arith, call-sum m k (Push x) ws kept f, ap (λ (a : Answer). brought (Push x) a f) push-taken)

-- ---- the elements that are taken over: those of slot i and the n - 1 after it
unfoldable pub taken_from : List ℕ → ℕ → ℕ → (Element → Bool) → ℕ
taken_from ws i n f = sum_to n (λ j. own (with_tag f) (slot_of ws (i + j)))

own-by : (c : ℕ) (f : Element → Bool) (e : Element) → own_by c (with_tag f) e ≡ cond (not (eqb c 0) && not (untagged e)) (hit (f e)) 0
own-by zero f e = refl
own-by (suc c) f e = rw (ne_eqb (suc c) 0 (λ z. omega arith)) (go (f e) (not (untagged e)))
  where
    go : (b t : Bool) → hit (b && t) ≡ cond t (hit b) 0
    go true true = refl
    go true false = refl
    go false true = refl
    go false false = refl

own-taken : (f : Element → Bool) (s : Slot) → own (with_tag f) s ≡ cond (keeps s) (hit (f s.element)) 0
unfolding keeps is_empty
own-taken f s = own-by s.count f s.element

one_more : (ws : List ℕ) (i n : ℕ) (f : Element → Bool) → taken_from ws i (suc n) f ≡ own (with_tag f) (slot_of ws i) + taken_from ws (suc i) n f
unfolding taken_from sum_to
one_more ws i n f =
    let z : i + 0 ≡ i = omega arith in
    ap₂ (λ (a b : ℕ). a + b) (ap (λ (p : ℕ). own (with_tag f) (slot_of ws p)) z)
    (to-ext n _ _ (λ j l. ap (λ (p : ℕ). own (with_tag f) (slot_of ws p)) (add-suc i j ∙ sym (suc-add i j))))

-- what is kept has a tag
pub has-tag : (s : Slot) → keeps s ≡ true → untagged s.element ≡ false
unfolding keeps
has-tag s e = not-true (untagged s.element) (and_right (not (is_empty s)) (not (untagged s.element)) e)

-- a list of requests of which each is answered done, and which adds so many
pub record Adds (m k : ℕ) (rs : List Request) (to : List ℕ) (add : (Element → Bool) → ℕ) : Type 0 where
  pub done : All (λ a. a ≡ Ok None) (answers (tree_queue m (suc k)) rs to)
  pub sum : (f : Element → Bool) → stored_count (room m (suc k)) (leaves (tree_queue m (suc k)) rs to) f ≡ stored_count (room m (suc k)) to f + add f

adds-push : (m k : ℕ) (x : Element) (rs : List Request) (to : List ℕ) (add : (Element → Bool) → ℕ) → untagged x ≡ false → Kept m k to
    → stored_count (room m (suc k)) to always < room m (suc k) → Adds m k rs (called m (suc k) (Push x) to).words add → Adds m k (Push x ∷ rs) to (λ f. hit (f x) + add f)
unfolding answers leaves
adds-push m k x rs to add t kept h a =
    record { done = (push-taken m k x t to kept h, a.done); sum = λ f. omega (arith, a.sum f, push-sum m k x t to kept h f) }

-- as many slots are left as there is room for
pushes-add : (m k : ℕ) (ws : List ℕ) (n i : ℕ) (to : List ℕ) → Kept m k to → stored_count (room m (suc k)) to always + n ≤ room m (suc k) → Adds m k (pushes ws i n) to (taken_from ws i n)
unfolding pushes answers leaves taken_from sum_to
pushes-add m k ws zero i to kept h = record { done = tt; sum = λ f. omega arith }
pushes-add m k ws (suc n) i to kept h = go (keeps (slot_of ws i)) refl (λ to kept h. pushes-add m k ws n (suc i) to kept h)
  where
    part : (b : Bool) → keeps (slot_of ws i) ≡ b → (f : Element → Bool) → taken_from ws i (suc n) f ≡ cond b (hit (f (slot_of ws i).element)) 0 + taken_from ws (suc i) n f
    part b e f = one_more ws i n f ∙ ap (λ (a : ℕ). a + taken_from ws (suc i) n f) (own-taken f (slot_of ws i) ∙ ap (λ (b : Bool). cond b (hit (f (slot_of ws i).element)) 0) e)

    go : (b : Bool) → keeps (slot_of ws i) ≡ b
        → ((to : List ℕ) → Kept m k to → stored_count (room m (suc k)) to always + n ≤ room m (suc k) → Adds m k (pushes ws (suc i) n) to (taken_from ws (suc i) n))
        → Adds m k (cond b (Push (slot_of ws i).element ∷ pushes ws (suc i) n) (pushes ws (suc i) n)) to (taken_from ws i (suc n))
    go true e ih =
        let x : Element = (slot_of ws i).element in
        let t : untagged x ≡ false = has-tag (slot_of ws i) e in
        let l : stored_count (room m (suc k)) to always < room m (suc k) = omega arith in
        let a = adds-push m k x (pushes ws (suc i) n) to (taken_from ws (suc i) n) t kept l
        (ih (called m (suc k) (Push x) to).words (called-kept m k (Push x) to kept) (omega (arith, push-sum m k x t to kept l always))) in
        record { done = a.done; sum = λ f. omega (arith, a.sum f, part true e f) }
    go false e ih =
        let a = ih to kept (omega arith) in
        record { done = a.done; sum = λ f. omega (arith, a.sum f, part false e f) }

-- ---- THE MENDER. Two stores of one shape, whatever their words
module _ (m : ℕ) (ws to : List ℕ) where
  abbrev all : ℕ → List Request
  all levels = pushes ws 0 (room m levels)

  adds : (k : ℕ) → Shape m (suc k) (length to) → Adds m k (all (suc k)) (start m (suc k) to) (taken_from ws 0 (room m (suc k)))
  adds k sh = pushes-add m k ws (room m (suc k)) 0 (start m (suc k) to) (start-kept m k to sh) (omega (arith, start-empty m k to sh always))

  -- NOT REFUSED: every push of the mender is done
  pub pushes-done : (levels : ℕ) → Shape m levels (length to) → All (λ a. a ≡ Ok None) (answers (tree_queue m levels) (all levels) (start m levels to))
  pushes-done zero sh = absurd (not-suc-le-zero sh.some)
  pushes-done (suc k) sh = (adds k sh).done

  module _ (levels : ℕ) (one : Shape m levels (length ws)) (two : Shape m levels (length to)) where
    pub mended-is : mended m levels ws to ≡ mended_as (Ok (skipped ws 0 (room m levels))) (after m levels (all levels) to)
    unfolding mended
    mended-is = rw (is-shape m levels (length ws) one, is-shape m levels (length to) two)

    -- PASSES: what it writes passes the check, always
    pub mended-passes : checked m levels (mended m levels ws to).words ≡ Ok None
    mended-passes = ap (λ (o : Mended). checked m levels o.words) mended-is ∙ reached-passes m levels to (all levels) two

  taken-stored : (n : ℕ) (f : Element → Bool) → taken_from ws 0 n f ≡ stored_count n ws (with_tag f)
  unfolding taken_from stored_count
  taken-stored n f = to-ext n _ _ (λ j l. ap (λ (p : ℕ). own (with_tag f) (slot_of ws p)) (omega arith))

  -- HOLDS EXACTLY the elements of the first store's slots, less the skipped, each as often
  pub mended-holds : (levels : ℕ) → Shape m levels (length ws) → Shape m levels (length to) → (f : Element → Bool)
      → stored_count (room m levels) (mended m levels ws to).words f ≡ stored_count (room m levels) ws (with_tag f)
  mended-holds zero one two f = absurd (not-suc-le-zero two.some)
  mended-holds (suc k) one two f =
      ap (λ (o : Mended). stored_count (room m (suc k)) o.words f) (mended-is (suc k) one two)
      ∙ omega (arith, (adds k two).sum f, start-empty m k to two f, taken-stored (room m (suc k)) f)

-- ---- what was skipped
own-both : (f : Element → Bool) (s : Slot) → own (with_tag f) s + own (without_tag f) s ≡ own f s
own-both f s = go s.count
  where
    both : (b t : Bool) → hit (b && not t) + hit (b && t) ≡ hit b
    both true true = refl
    both true false = refl
    both false true = refl
    both false false = refl

    go : (c : ℕ) → own_by c (with_tag f) s.element + own_by c (without_tag f) s.element ≡ own_by c f s.element
    go zero = refl
    go (suc c) = both (f s.element) (untagged s.element)

stored-both : (n : ℕ) (ws : List ℕ) (f : Element → Bool) → stored_count n ws (with_tag f) + stored_count n ws (without_tag f) ≡ stored_count n ws f
unfolding stored_count
stored-both n ws f = sym (to-add n _ _) ∙ to-ext n _ _ (λ i l. own-both f (slot_of ws i))

skip-own : (s : Slot) → hit (skips s) ≡ own untagged s
unfolding skips is_empty
skip-own s = go s.count
  where
    go : (c : ℕ) → hit (not (eqb c 0) && untagged s.element) ≡ own_by c untagged s.element
    go zero = refl
    go (suc c) = rw (ne_eqb (suc c) 0 (λ z. omega arith))

skipped-from : (ws : List ℕ) (n i : ℕ) → skipped ws i n ≡ sum_to n (λ j. own untagged (slot_of ws (i + j)))
unfolding skipped sum_to
skipped-from ws zero i = refl
skipped-from ws (suc n) i =
    let z : i ≡ i + 0 = omega arith in
    ap₂ (λ (a b : ℕ). a + b) (skip-own (slot_of ws i) ∙ ap (λ (p : ℕ). own untagged (slot_of ws p)) z)
    (skipped-from ws n (suc i) ∙ to-ext n _ _ (λ j l. ap (λ (p : ℕ). own untagged (slot_of ws p)) (suc-add i j ∙ sym (add-suc i j))))

-- SKIPPED: the number reported is how many of the first store's elements have no tag
pub skipped-is : (ws : List ℕ) (n : ℕ) → skipped ws 0 n ≡ stored_count n ws untagged
unfolding stored_count
skipped-is ws n = skipped-from ws n 0 ∙ to-ext n _ _ (λ j l. ap (λ (p : ℕ). own untagged (slot_of ws p)) (omega arith))

-- ---- COMES BACK: with what was skipped, of every kind of element as many as before
pub comes_back : (m levels : ℕ) (ws to : List ℕ) → Shape m levels (length ws) → Shape m levels (length to) → (f : Element → Bool)
    → stored_count (room m levels) (mended m levels ws to).words f + stored_count (room m levels) ws (without_tag f) ≡ stored_count (room m levels) ws f
comes_back m levels ws to one two f = omega (arith, mended-holds m ws to levels one two f, stored-both (room m levels) ws f)

own-fewer : (f : Element → Bool) (s : Slot) → own (without_tag f) s ≤ own untagged s
own-fewer f s = go s.count
  where
    fewer : (b t : Bool) → hit (b && t) ≤ hit t
    fewer true t = omega arith
    fewer false t = omega arith

    go : (c : ℕ) → own_by c (without_tag f) s.element ≤ own_by c untagged s.element
    go zero = omega arith
    go (suc c) = fewer (f s.element) (untagged s.element)

to_le : (n : ℕ) (g h : ℕ → ℕ) → ((i : ℕ) → g i ≤ h i) → sum_to n g ≤ sum_to n h
unfolding sum_to
to_le zero g h p = omega arith
to_le (suc n) g h p = omega (arith, p 0, to_le n (λ i. g (suc i)) (λ i. h (suc i)) (λ i. p (suc i)))

stored-fewer : (n : ℕ) (ws : List ℕ) (f : Element → Bool) → stored_count n ws (without_tag f) ≤ stored_count n ws untagged
unfolding stored_count
stored-fewer n ws f = to_le n _ _ (λ i. own-fewer f (slot_of ws i))

-- .. so that with nothing skipped the elements are the same, each as often
pub same_back : (m levels : ℕ) (ws to : List ℕ) → Shape m levels (length ws) → Shape m levels (length to) → skipped ws 0 (room m levels) ≡ 0 → (f : Element → Bool)
    → stored_count (room m levels) (mended m levels ws to).words f ≡ stored_count (room m levels) ws f
same_back m levels ws to one two none f =
    omega (arith, comes_back m levels ws to one two f, stored-fewer (room m levels) ws f, skipped-is ws (room m levels))

-- .. and of a store that the tree's own calls left nothing is skipped
pub reached-skips : (m levels : ℕ) (ws : List ℕ) (rs : List Request) → Shape m levels (length ws) → skipped (after m levels rs ws) 0 (room m levels) ≡ 0
reached-skips m levels ws rs sh = skipped-is (after m levels rs ws) (room m levels) ∙ (tagged m ws rs levels sh).kept

-- ---- PAST: no word of the second store past the capacity changes
leaves-past : (m levels : ℕ) (rs : List Request) (ws : List ℕ) (p : ℕ) → slot_words * room m levels ≤ p → get_or (leaves (tree_queue m levels) rs ws) p 0 ≡ get_or ws p 0
unfolding leaves
leaves-past m levels [] ws p h = refl
leaves-past m levels (r ∷ rs) ws p h = leaves-past m levels rs (called m levels r ws).words p h ∙ past-stands m levels r ws p h

pub mended-past : (m levels : ℕ) (ws to : List ℕ) (p : ℕ) → slot_words * room m levels ≤ p → get_or (mended m levels ws to).words p 0 ≡ get_or to p 0
unfolding mended
mended-past m levels ws to p h = go (shape_ok m levels (length ws) && shape_ok m levels (length to)) refl
  where
    done : List ℕ
    done = after m levels (pushes ws 0 (room m levels)) to

    go : (b : Bool) → (shape_ok m levels (length ws) && shape_ok m levels (length to)) ≡ b
        → get_or (cond b (mended_as (Ok (skipped ws 0 (room m levels))) done) (mended_as (Err BadShape) to)).words p 0 ≡ get_or to p 0
    go true e =
        let two : Shape m levels (length to) = shape_is m levels (length to) (and_right (shape_ok m levels (length ws)) (shape_ok m levels (length to)) e) in
        leaves-past m levels (pushes ws 0 (room m levels)) (start m levels to) p h ∙ (clear-zeroes m levels to two).1.rest p 0 h
    go false e = refl
