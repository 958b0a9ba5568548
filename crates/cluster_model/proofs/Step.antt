-- The two halves of an operation at one node, over the bags of its children.
use Rattle.laws.specs.Prelude.{Bool, Element, List, ◌&&◌, ◌+◌, ◌<◌, ◌||◌, ◌∙◌, ◌≡◌, ◌≤◌, ap, arith, eqb, eqb-false, eqb-true, false, key, length, length-set, ltb, ltb-false, ltb-true, not, pred, refl, set, subst, suc, sym, true, zero, ℕ}
use native.Mathlib.Nat.{le_refl}
use Rattle.promise.specs.Prelude.{always, hit}
use Rattle.cluster_model.specs.Prelude.{Bag, Became, Begun, Can, Finished, Fit, Node, Note, Op, Place, Rest, Side, Waiting, above, begin, begun, carried, elem_of, fewer, fill, fill_from, finish, free, gain, gap, has, high, high_elem, inside, keep, lhs, loss, low, low_elem, lower_side, none, nothing, nothing_below, onto, pass, pick, place_at, put, put_by, raise, rhs, side_if, sink, store, swap, swap_by, take, take_by, to_left, to_right, trial, trial_by, trial_from, under}
use Rattle.cluster_model.proofs.Places.{hit-le, not-under, is-under, parted, is-above, above_of, inside-length, inside-parted, inside-put, gap-has, place_here, place-hit, place_same, place_other, set_twice, free-found, no-free, IsLow, low-is, low-least, IsHigh, high_is, keep-pass, keep-le}

-- the laws of a bag
pub record IsBag (β : Bag) : Type 0 where
  pub most : (f : Element → Bool) → β f ≤ β always
  pub lower : (r q : ℕ) → r ≤ q → β (under r) ≤ β (under q)

-- e is in the bag, and none is lower
pub record Least (β : Bag) (e : Element) : Type 0 where
  pub member : (f : Element → Bool) → hit (f e) ≤ β f
  pub least : β (under (key e)) ≡ 0

pub either : {A : Type 0} → (x : ℕ) → (x ≡ 0 → A) → (0 < x → A) → A
either zero p q = p refl
either (suc x) p q = q (omega arith)

-- ---- the first half
-- what an operation asks for
abbrev pub Asks : ℕ → Op → List Place → ℕ → Element → ℕ → Type 0
Asks total none ps i e b = Unit {0}
Asks total (put y) ps i e b = inside always ps + b < total
Asks total take ps i e b = place_at ps i ≡ has e
Asks total (swap x) ps i e b = place_at ps i ≡ has e

pub record Begins (K limit : ℕ) (o : Op) (e : Element) (n : Node) (v : Begun) (α β : Bag) : Type 0 where
  pub fit : Fit K limit v.note v.node α β
  pub sum : (f : Element → Bool) → inside f v.node.places + carried v.note f + loss o e f ≡ inside f n.places + gain o f

module _ (K limit : ℕ) (n : Node) (α β : Bag) (hα : IsBag α) (hβ : IsBag β) (some-places : 0 < K) (fit : Fit K limit nothing n α β) where
  -- with nothing below any places will do
  rest-alone : (ps : List Place) → α always + β always ≡ 0 → Rest ps (λ f. 0 + (α f + β f))
  rest-alone ps z = record { ordered = λ r h. omega (arith, hα.most (under r), hβ.most (under r)); packed = λ h. omega arith }

  put-free : (y e : Element) → free n.places < length n.places → Begins K limit (put y) e n (put_by true y n) α β
  unfolding put_by
  put-free y e h =
      let ps : List Place = n.places in
      let eq : (f : Element → Bool) → inside f (set ps (free ps) (has y)) + 0 ≡ inside f ps + hit (f y) = λ f. inside-put f ps (free ps) gap (has y) h (free-found ps h) in
      let len = length-set ps (free ps) (has y) in
      let fits : inside always (set ps (free ps) (has y)) ≤ length (set ps (free ps) (has y)) = inside-length (set ps (free ps) (has y)) in
      let z : α always + β always ≡ 0 = either (α always + β always) (λ z. z) (λ l. omega (arith, fit.order.packed (omega arith), eq always)) in
      record {
        fit = record {
          size = len ∙ fit.size;
          left = fit.left;
          right = fit.right;
          left-room = fit.left-room;
          right-room = fit.right-room;
          order = rest-alone (set ps (free ps) (has y)) z;
        };
        sum = λ f. omega (arith, eq f);
      }

  put_full : (y e : Element) → length n.places ≤ free n.places → inside always n.places + (α always + β always) < K + (limit + limit)
      → Begins K limit (put y) e n (put_by false y n) α β
  unfolding put_by fewer
  put_full y e h total = go (ltb n.right n.left) refl
    where
      ps : List Place
      ps = n.places

      t : Element
      t = high_elem ps

      full : inside always ps ≡ length ps
      full = no-free ps h

      i : IsHigh ps (high ps) t
      i = high_is ps (omega (arith, full, fit.size))

      ps' : List Place
      ps' = set ps (high ps) (has (keep y t))

      eq : (f : Element → Bool) → inside f ps' + hit (f t) ≡ inside f ps + hit (f (keep y t))
      eq f = inside-put f ps (high ps) (has t) (has (keep y t)) (place_here ps (high ps) t i.here) i.here

      order : Rest ps' (λ f. hit (f (pass y t)) + (α f + β f))
      order = record {
        ordered = λ r l. either (inside (above r) ps)
            (λ z. omega (arith, eq (above r), hit-le (above r (keep y t)), above_of r t (omega (arith, is-above r (keep y t) (omega (arith, eq (above r))), (keep-le y t).0))))
            (λ p. omega (arith, fit.order.ordered r p, not-under r (pass y t) (omega (arith, i.most r p, (keep-le y t).1))));
        packed = λ l. omega (arith, eq always, full, length-set ps (high ps) (has (keep y t)));
      }

      go : (b : Bool) → ltb n.right n.left ≡ b
          → Begins K limit (put y) e n (begun (raise (side_if b) (store (high ps) (has (keep y t)) n)) (onto (side_if b) (pass y t))) α β
      go true p = record {
        fit = record {
          size = length-set ps (high ps) (has (keep y t)) ∙ fit.size;
          left = fit.left;
          right = omega (arith, fit.right);
          left-room = fit.left-room;
          right-room = omega (arith, ltb-true n.right n.left p, fit.left-room);
          order = order;
        };
        sum = λ f. omega (arith, eq f, keep-pass f y t);
      }
      go false p = record {
        fit = record {
          size = length-set ps (high ps) (has (keep y t)) ∙ fit.size;
          left = omega (arith, fit.left);
          right = fit.right;
          left-room = omega (arith, ltb-false n.right n.left p, fit.left, fit.right, full, fit.size, fit.left-room, fit.right-room);
          right-room = fit.right-room;
          order = order;
        };
        sum = λ f. omega (arith, eq f, keep-pass f y t);
      }

  -- the node with place i made a gap, where something is below
  wait-at : (i : ℕ) (e : Element) → place_at n.places i ≡ has e → 0 < α always + β always → Waiting i (set n.places i gap) (λ f. 0 + (α f + β f))
  wait-at i e p l =
      let ps : List Place = n.places in
      let h : i < length ps = place_here ps i e p in
      let len = length-set ps i gap in
      let eq : (f : Element → Bool) → inside f (set ps i gap) + hit (f e) ≡ inside f ps + 0 = λ f. inside-put f ps i (has e) gap h p in
      record {
        ordered = λ r g. fit.order.ordered r (omega (arith, eq (above r)));
        packed = omega (arith, eq always, fit.order.packed (omega arith), len);
        here = omega (arith, len);
        vacant = place_same ps i gap h;
        some = omega arith;
      }

  take_at : (i : ℕ) (e : Element) → place_at n.places i ≡ has e → Begins K limit take e n (take_by (nothing_below n) i n) α β
  unfolding take_by nothing_below
  take_at i e p = go (eqb (n.left + n.right) 0) refl
    where
      ps : List Place
      ps = n.places

      eq : (f : Element → Bool) → inside f (set ps i gap) + hit (f e) ≡ inside f ps + 0
      eq f = inside-put f ps i (has e) gap (place_here ps i e p) p

      go : (b : Bool) → eqb (n.left + n.right) 0 ≡ b → Begins K limit take e n (take_by b i n) α β
      go true q = record {
        fit = record {
          size = length-set ps i gap ∙ fit.size;
          left = fit.left;
          right = fit.right;
          left-room = fit.left-room;
          right-room = fit.right-room;
          order = rest-alone (set ps i gap) (omega (arith, fit.left, fit.right, eqb-true (n.left + n.right) 0 q));
        };
        sum = λ f. omega (arith, eq f);
      }
      go false q = record {
        fit = record {
          size = length-set ps i gap ∙ fit.size;
          left = fit.left;
          right = fit.right;
          left-room = fit.left-room;
          right-room = fit.right-room;
          order = wait-at i e p (omega (arith, fit.left, fit.right, eqb-false (n.left + n.right) 0 q));
        };
        sum = λ f. omega (arith, eq f);
      }

  swap_at : (x : Element) (i : ℕ) (e : Element) → place_at n.places i ≡ has e → Begins K limit (swap x) e n (swap_by (nothing_below n) i x n) α β
  unfolding swap_by nothing_below
  swap_at x i e p = go (eqb (n.left + n.right) 0) refl
    where
      ps : List Place
      ps = n.places

      eq : (f : Element → Bool) → inside f (set ps i (has x)) + hit (f e) ≡ inside f ps + hit (f x)
      eq f = inside-put f ps i (has e) (has x) (place_here ps i e p) p

      go : (b : Bool) → eqb (n.left + n.right) 0 ≡ b → Begins K limit (swap x) e n (swap_by b i x n) α β
      go true q = record {
        fit = record {
          size = length-set ps i (has x) ∙ fit.size;
          left = fit.left;
          right = fit.right;
          left-room = fit.left-room;
          right-room = fit.right-room;
          order = rest-alone (set ps i (has x)) (omega (arith, fit.left, fit.right, eqb-true (n.left + n.right) 0 q));
        };
        sum = λ f. omega (arith, eq f);
      }
      go false q = record {
        fit = record {
          size = length-set ps i (has x) ∙ fit.size;
          left = fit.left;
          right = fit.right;
          left-room = fit.left-room;
          right-room = fit.right-room;
          order = (
            place_same ps i (has x) (place_here ps i e p),
            rw (set_twice ps i (has x) gap) (wait-at i e p (omega (arith, fit.left, fit.right, eqb-false (n.left + n.right) 0 q))),
          );
        };
        sum = λ f. omega (arith, eq f);
      }

  pub begins : (o : Op) (i : ℕ) (e : Element) → Asks (K + (limit + limit)) o n.places i e (α always + β always) → Begins K limit o e n (begin o i n) α β
  unfolding begin
  begins none i e h = record { fit = fit; sum = λ f. omega arith }
  begins (put y) i e h = go (ltb (free n.places) (length n.places)) refl
    where
      go : (b : Bool) → ltb (free n.places) (length n.places) ≡ b → Begins K limit (put y) e n (put_by b y n) α β
      go true p = put-free y e (ltb-true (free n.places) (length n.places) p)
      go false p = put_full y e (ltb-false (free n.places) (length n.places) p) h
  begins take i e h = take_at i e h
  begins (swap x) i e h = swap_at x i e h

-- ---- the second half
pub record Finishes (K limit : ℕ) (c : Note) (n : Node) (v : Finished) (α β α' β' : Bag) : Type 0 where
  pub fit : Fit K limit nothing v.node α' β'
  pub sum : (f : Element → Bool) → inside f v.node.places + (α' f + β' f) ≡ inside f n.places + (carried c f + (α f + β f))

-- the child that gives has something, and what it gives is the least of both
record Chosen (α β : Bag) (a b : Element) (s : Side) : Type 0 where
  some : 0 < pick s (α always) (β always)
  member : (f : Element → Bool) → hit (f (pick s a b)) ≤ α f + β f
  least : (r : ℕ) → r ≤ key (pick s a b) → α (under r) + β (under r) ≡ 0

module _ (α β : Bag) (hα : IsBag α) (hβ : IsBag β) (a b : Element) (la : 0 < α always → Least α a) (lb : 0 < β always → Least β b) where
  side-is : (n : Node) → n.left ≡ α always → n.right ≡ β always → 0 < α always + β always → Chosen α β a b (lower_side n a b)
  unfolding lower_side
  side-is n l r h = go (eqb n.right 0) refl (eqb n.left 0) refl (ltb (key b) (key a)) refl
    where
      go : (p : Bool) → eqb n.right 0 ≡ p → (q : Bool) → eqb n.left 0 ≡ q → (t : Bool) → ltb (key b) (key a) ≡ t
          → Chosen α β a b (side_if (not p && (q || t)))
      go true x q y t z =
          let e : n.right ≡ 0 = eqb-true n.right 0 x in
          let i = la (omega arith) in
          record {
            some = omega arith;
            member = λ f. omega (arith, i.member f);
            least = λ k g. omega (arith, i.least, hα.lower k (key a) g, hβ.most (under k));
          }
      go false x true y t z =
          let e : n.left ≡ 0 = eqb-true n.left 0 y in
          let i = lb (omega arith) in
          record {
            some = omega arith;
            member = λ f. omega (arith, i.member f);
            least = λ k g. omega (arith, i.least, hβ.lower k (key b) g, hα.most (under k));
          }
      go false x false y true z =
          let i = la (omega (arith, eqb-false n.left 0 y)) in
          let j = lb (omega (arith, eqb-false n.right 0 x)) in
          record {
            some = omega (arith, eqb-false n.right 0 x);
            member = λ f. omega (arith, j.member f);
            least = λ k g. omega (arith, i.least, j.least, hβ.lower k (key b) g, hα.lower k (key a) (omega (arith, ltb-true (key b) (key a) z)));
          }
      go false x false y false z =
          let i = la (omega (arith, eqb-false n.left 0 y)) in
          let j = lb (omega (arith, eqb-false n.right 0 x)) in
          record {
            some = omega (arith, eqb-false n.left 0 y);
            member = λ f. omega (arith, i.member f);
            least = λ k g. omega (arith, i.least, j.least, hα.lower k (key a) g, hβ.lower k (key b) (omega (arith, ltb-false (key b) (key a) z)));
          }

  -- both children together
  joined : (α' β' : Bag) (s : Side) (o : Op) → Became (pick s o none) a α α' → Became (pick s none o) b β β'
      → (f : Element → Bool) → (α' f + β' f) + loss o (pick s a b) f ≡ (α f + β f) + gain o f
  joined α' β' lhs o p q f = omega (arith, p f, q f)
  joined α' β' rhs o p q f = omega (arith, p f, q f)

  -- z came into the gap, and is not higher than the least below
  ordered-then : (j : ℕ) (qs ps : List Place) (z : Element) (s : Side) → Waiting j qs (λ f. 0 + (α f + β f)) → Chosen α β a b s
      → key z ≤ key (pick s a b) → ((f : Element → Bool) → inside f ps ≡ inside f qs + hit (f z))
      → (r : ℕ) → 0 < inside (above r) ps → α (under r) + β (under r) ≡ 0
  ordered-then j qs ps z s w c l eq r h = either (inside (above r) qs)
      (λ e. c.least r (omega (arith, is-above r z (omega (arith, eq (above r))))))
      (λ p. omega (arith, w.ordered r p))

  module _ (K limit : ℕ) (n : Node) where
    sink-left : (s : Side) (α' : Bag) → n.left ≡ α always → 0 < pick s (α always) (β always) → Became (pick s take none) a α α' → (sink s n).left ≡ 0 + α' always
    sink-left lhs α' e h p =
        let z : pred n.left ≡ α' always = omega (arith, p always) in
        omega arith
    sink-left rhs α' e h p = omega (arith, p always)

    sink-right : (s : Side) (β' : Bag) → n.right ≡ β always → 0 < pick s (α always) (β always) → Became (pick s none take) b β β' → (sink s n).right ≡ 0 + β' always
    sink-right lhs β' e h p = omega (arith, p always)
    sink-right rhs β' e h p =
        let z : pred n.right ≡ β' always = omega (arith, p always) in
        omega arith

    sink-places : (s : Side) → (sink s n).places ≡ n.places
    sink-places lhs = refl
    sink-places rhs = refl

    sink-le : (s : Side) → ((sink s n).left ≤ n.left) × ((sink s n).right ≤ n.right)
    sink-le lhs = (pred-le n.left, omega arith)
      where
        pred-le : (x : ℕ) → pred x ≤ x
        pred-le x = omega arith
    sink-le rhs = (omega arith, pred-le n.right)
      where
        pred-le : (x : ℕ) → pred x ≤ x
        pred-le x = omega arith

    fill-fit : (j : ℕ) (s : Side) → Fit K limit (fill j) n α β → Chosen α β a b s → (α' β' : Bag)
        → Became (pick s take none) a α α' → Became (pick s none take) b β β' → Finishes K limit (fill j) n (fill_from s j n a b) α β α' β'
    unfolding fill_from
    fill-fit j s fit c α' β' p q =
        let ps : List Place = n.places in
        let m : Element = pick s a b in
        let w : Waiting j ps (λ f. 0 + (α f + β f)) = fit.order in
        let len : length (set ps j (has m)) ≡ length ps = length-set ps j (has m) in
        let eq : (f : Element → Bool) → inside f (set ps j (has m)) ≡ inside f ps + hit (f m) = λ f. omega (arith, inside-put f ps j gap (has m) w.here w.vacant) in
        let both : (f : Element → Bool) → (α' f + β' f) + hit (f m) ≡ (α f + β f) + 0 = joined α' β' s take p q in
        record {
          fit = record {
            size = rw (sink-places s) (len ∙ fit.size);
            left = sink-left s α' (omega (arith, fit.left)) c.some p;
            right = sink-right s β' (omega (arith, fit.right)) c.some q;
            left-room = omega (arith, fit.left-room, (sink-le s).0);
            right-room = omega (arith, fit.right-room, (sink-le s).1);
            order = rw (sink-places s) (record {
              ordered = λ r h. omega (arith, both (under r), ordered-then j ps (set ps j (has m)) m s w c (le_refl (key m)) eq r h);
              packed = λ h. omega (arith, eq always, w.packed);
            });
          };
          sum = λ f. rw (sink-places s) (omega (arith, eq f, both f));
        }

    -- the node with a trial is the node with a gap there and the element
    trial-eq : (j : ℕ) (x : Element) → place_at n.places j ≡ has x → (f : Element → Bool) → inside f n.places ≡ inside f (set n.places j gap) + hit (f x)
    trial-eq j x h f = omega (arith, inside-put f n.places j (has x) gap (place_here n.places j x h) h)

    lift-fit : (j : ℕ) (x : Element) (s : Side) → Fit K limit (trial j x) n α β → Chosen α β a b s → key (pick s a b) < key x → (α' β' : Bag)
        → Became (pick s (swap x) none) a α α' → Became (pick s none (swap x)) b β β' → Finishes K limit (trial j x) n (trial_by true s j x n a b) α β α' β'
    unfolding trial_by
    lift-fit j x s fit c lower α' β' p q =
        let ps : List Place = n.places in
        let qs : List Place = set ps j gap in
        let m : Element = pick s a b in
        let w : Waiting j qs (λ f. 0 + (α f + β f)) = fit.order.1 in
        let eq₀ : (f : Element → Bool) → inside f ps ≡ inside f qs + hit (f x) = trial-eq j x fit.order.0 in
        let eq : (f : Element → Bool) → inside f (set ps j (has m)) ≡ inside f qs + hit (f m) = λ f. omega (arith, eq₀ f, inside-put f ps j (has x) (has m) (place_here ps j x fit.order.0) fit.order.0) in
        let both : (f : Element → Bool) → (α' f + β' f) + hit (f m) ≡ (α f + β f) + hit (f x) = joined α' β' s (swap x) p q in
        record {
          fit = record {
            size = length-set ps j (has m) ∙ fit.size;
            left = same_left s p;
            right = same-right s q;
            left-room = fit.left-room;
            right-room = fit.right-room;
            order = record {
              ordered = λ r h. omega (arith, both (under r), ordered-then j qs (set ps j (has m)) m s w c (le_refl (key m)) eq r h, later r);
              packed = λ h. omega (arith, eq always, w.packed, length-set ps j gap, length-set ps j (has m));
            };
          };
          sum = λ f. omega (arith, eq f, eq₀ f, both f);
        }
      where
        same_left : (s : Side) → Became (pick s (swap x) none) a α α' → n.left ≡ 0 + α' always
        same_left lhs p = omega (arith, p always, fit.left)
        same_left rhs p = omega (arith, p always, fit.left)

        same-right : (s : Side) → Became (pick s none (swap x)) b β β' → n.right ≡ 0 + β' always
        same-right lhs q = omega (arith, q always, fit.right)
        same-right rhs q = omega (arith, q always, fit.right)

        later : (r : ℕ) → hit (under r x) ≤ hit (under r (pick s a b))
        later r = either (hit (under r (pick s a b)))
            (λ e. omega (arith, not-under r x (omega (arith, is-above r (pick s a b) (omega (arith, parted r (pick s a b)))))))
            (λ l. omega (arith, hit-le (under r x)))

    stay-fit : (j : ℕ) (x : Element) (s : Side) → Fit K limit (trial j x) n α β → Chosen α β a b s → key x ≤ key (pick s a b) → (α' β' : Bag)
        → Became (pick s none none) a α α' → Became (pick s none none) b β β' → Finishes K limit (trial j x) n (trial_by false s j x n a b) α β α' β'
    unfolding trial_by
    stay-fit j x s fit c lower α' β' p q =
        let ps : List Place = n.places in
        let qs : List Place = set ps j gap in
        let w : Waiting j qs (λ f. 0 + (α f + β f)) = fit.order.1 in
        let eq : (f : Element → Bool) → inside f ps ≡ inside f qs + hit (f x) = trial-eq j x fit.order.0 in
        let same : (f : Element → Bool) → (α' f ≡ α f) × (β' f ≡ β f) = λ f. both s p q f in
        record {
          fit = record {
            size = fit.size;
            left = omega (arith, (same always).0, fit.left);
            right = omega (arith, (same always).1, fit.right);
            left-room = fit.left-room;
            right-room = fit.right-room;
            order = record {
              ordered = λ r h. omega (arith, (same (under r)).0, (same (under r)).1, ordered-then j qs ps x s w c lower eq r h);
              packed = λ h. omega (arith, eq always, w.packed, length-set ps j gap);
            };
          };
          sum = λ f. omega (arith, (same f).0, (same f).1);
        }
      where
        both : (s : Side) → Became (pick s none none) a α α' → Became (pick s none none) b β β' → (f : Element → Bool) → (α' f ≡ α f) × (β' f ≡ β f)
        both lhs p q f = (omega (arith, p f), omega (arith, q f))
        both rhs p q f = (omega (arith, p f), omega (arith, q f))

    -- ---- whatever the note
    chosen-fill : (j : ℕ) → Fit K limit (fill j) n α β → Chosen α β a b (lower_side n a b)
    chosen-fill j fit = side-is n (omega (arith, fit.left)) (omega (arith, fit.right)) (omega (arith, fit.order.some))

    chosen-trial : (j : ℕ) (x : Element) → Fit K limit (trial j x) n α β → Chosen α β a b (lower_side n a b)
    chosen-trial j x fit = side-is n (omega (arith, fit.left)) (omega (arith, fit.right)) (omega (arith, fit.order.1.some))

    -- what is left for the children can be done there
    pub children-can : (c : Note) → Fit K limit c n α β → Can limit (to_left (finish c n a b)) α × Can limit (to_right (finish c n a b)) β
    unfolding finish fill_from trial_from trial_by
    children-can nothing fit = (tt, tt)
    children-can (fill j) fit = go (lower_side n a b) (chosen-fill j fit)
      where
        go : (s : Side) → Chosen α β a b s → Can limit (pick s take none) α × Can limit (pick s none take) β
        go lhs c = (c.some, tt)
        go rhs c = (tt, c.some)
    children-can (trial j x) fit = go (lower_side n a b) (chosen-trial j x fit) (ltb (key (pick (lower_side n a b) a b)) (key x))
      where
        go : (s : Side) → Chosen α β a b s → (t : Bool)
            → Can limit (to_left (trial_by t s j x n a b)) α × Can limit (to_right (trial_by t s j x n a b)) β
        go lhs c true = (c.some, tt)
        go lhs c false = (tt, tt)
        go rhs c true = (tt, c.some)
        go rhs c false = (tt, tt)
    children-can (onto lhs y) fit = (omega (arith, fit.left, fit.left-room), tt)
    children-can (onto rhs y) fit = (tt, omega (arith, fit.right, fit.right-room))

    pub finishes : (c : Note) → Fit K limit c n α β → (α' β' : Bag)
        → Became (to_left (finish c n a b)) a α α' → Became (to_right (finish c n a b)) b β β' → Finishes K limit c n (finish c n a b) α β α' β'
    unfolding finish fill_from trial_from trial_by
    finishes nothing fit α' β' p q = record {
      fit = record {
        size = fit.size;
        left = omega (arith, fit.left, p always);
        right = omega (arith, fit.right, q always);
        left-room = fit.left-room;
        right-room = fit.right-room;
        order = record {
          ordered = λ r h. omega (arith, fit.order.ordered r h, p (under r), q (under r));
          packed = λ h. fit.order.packed (omega (arith, p always, q always));
        };
      };
      sum = λ f. omega (arith, p f, q f);
    }
    finishes (fill j) fit α' β' p q = fill-fit j (lower_side n a b) fit (chosen-fill j fit) α' β' p q
    finishes (trial j x) fit α' β' p q = go (lower_side n a b) (chosen-trial j x fit) (ltb (key (pick (lower_side n a b) a b)) (key x)) refl p q
      where
        go : (s : Side) → Chosen α β a b s → (t : Bool) → ltb (key (pick s a b)) (key x) ≡ t
            → Became (to_left (trial_by t s j x n a b)) a α α' → Became (to_right (trial_by t s j x n a b)) b β β' → Finishes K limit (trial j x) n (trial_by t s j x n a b) α β α' β'
        go s c true e p q = lift-fit j x s fit c (ltb-true (key (pick s a b)) (key x) e) α' β' p q
        go s c false e p q = stay-fit j x s fit c (ltb-false (key (pick s a b)) (key x) e) α' β' p q
    finishes (onto lhs y) fit α' β' p q = record {
      fit = record {
        size = fit.size;
        left = omega (arith, fit.left, p always);
        right = omega (arith, fit.right, q always);
        left-room = fit.left-room;
        right-room = fit.right-room;
        order = record {
          ordered = λ r h. omega (arith, fit.order.ordered r h, p (under r), q (under r));
          packed = λ h. fit.order.packed (omega (arith, p always, q always));
        };
      };
      sum = λ f. omega (arith, p f, q f);
    }
    finishes (onto rhs y) fit α' β' p q = record {
      fit = record {
        size = fit.size;
        left = omega (arith, fit.left, p always);
        right = omega (arith, fit.right, q always);
        left-room = fit.left-room;
        right-room = fit.right-room;
        order = record {
          ordered = λ r h. omega (arith, fit.order.ordered r h, p (under r), q (under r));
          packed = λ h. fit.order.packed (omega (arith, p always, q always));
        };
      };
      sum = λ f. omega (arith, p f, q f);
    }

    -- where the element on trial is itself the lowest, it is not exchanged
    trial-low : (j : ℕ) (x : Element) (s : Side) → 1 < K → Fit K limit (trial j x) n α β → Chosen α β a b s → key (pick s a b) < key x
        → IsLow n.places (low n.places) (low_elem n.places) → low n.places ≡ j → ⊥
    trial-low j x s two fit c lower i e =
        let ps : List Place = n.places in
        let qs : List Place = set ps j gap in
        let w : Waiting j qs (λ f. 0 + (α f + β f)) = fit.order.1 in
        let same : low_elem ps ≡ x = ap elem_of (sym i.here ∙ ap (place_at ps) e ∙ fit.order.0) in
        let z : inside (under (key x)) ps ≡ 0 = subst (λ (u : Element). inside (under (key u)) ps ≡ 0) same (low-least ps _ _ i) in
        let bound : 0 < inside (above (key x)) qs = omega (arith, trial-eq j x fit.order.0 (under (key x)), w.packed, length-set ps j gap, fit.size, inside-parted (key x) qs) in
        omega (arith, w.ordered (key x) bound, c.member (under (key x)), is-under (key x) (pick s a b) lower)

    -- the place chosen at the start keeps its element
    pub keeps : (c : Note) → 1 < K → Fit K limit c n α β → IsLow n.places (low n.places) (low_elem n.places)
        → place_at (finish c n a b).node.places (low n.places) ≡ has (low_elem n.places)
    unfolding finish fill_from trial_from trial_by
    keeps nothing two fit i = i.here
    keeps (fill j) two fit i =
        rw (sink-places (lower_side n a b)) (place_other n.places j (low n.places) (has (pick (lower_side n a b) a b))
        (λ e. gap-has (low_elem n.places) (sym fit.order.vacant ∙ ap (place_at n.places) (sym e) ∙ i.here)) ∙ i.here)
    keeps (trial j x) two fit i = go (lower_side n a b) (chosen-trial j x fit) (ltb (key (pick (lower_side n a b) a b)) (key x)) refl
      where
        go : (s : Side) → Chosen α β a b s → (t : Bool) → ltb (key (pick s a b)) (key x) ≡ t
            → place_at (trial_by t s j x n a b).node.places (low n.places) ≡ has (low_elem n.places)
        go s c true e = place_other n.places j (low n.places) (has (pick s a b)) (trial-low j x s two fit c (ltb-true (key (pick s a b)) (key x) e) i) ∙ i.here
        go s c false e = i.here
    keeps (onto s y) two fit i = i.here

-- ---- the lowest place of a node holds the least of all; two places are needed here
pub low-fit : (K limit : ℕ) (c : Note) (n : Node) (α β : Bag) → 1 < K → Fit K limit c n α β
    → 0 < inside always n.places + (carried c always + (α always + β always))
    → IsLow n.places (low n.places) (low_elem n.places)
    × (carried c (under (key (low_elem n.places))) + (α (under (key (low_elem n.places))) + β (under (key (low_elem n.places)))) ≡ 0)
low-fit K limit c n α β two fit h = go c fit h
  where
    ps : List Place
    ps = n.places

    e : Element
    e = low_elem ps

    rest-low : (γ : Bag) → length ps ≡ K → Rest ps γ → 0 < inside always ps + γ always → IsLow ps (low ps) e × (γ (under (key e)) ≡ 0)
    rest-low γ size o h =
        let i = low-is ps (either (γ always) (λ z. omega arith) (λ l. omega (arith, o.packed l))) in
        (i, o.ordered (key e) (omega (arith, place-hit (above (key e)) ps (low ps) e i.here, above_of (key e) e (le_refl (key e)))))

    go : (c : Note) → Fit K limit c n α β → 0 < inside always ps + (carried c always + (α always + β always))
        → IsLow ps (low ps) e × (carried c (under (key e)) + (α (under (key e)) + β (under (key e))) ≡ 0)
    go nothing fit h = rest-low (λ f. 0 + (α f + β f)) fit.size fit.order h
    go (fill j) fit h =
        let i = low-is ps (omega (arith, fit.order.packed, fit.size)) in
        (i, fit.order.ordered (key e) (omega (arith, place-hit (above (key e)) ps (low ps) e i.here, above_of (key e) e (le_refl (key e)))))
    go (trial j x) fit h =
        let qs : List Place = set ps j gap in
        let w : Waiting j qs (λ f. 0 + (α f + β f)) = fit.order.1 in
        let eq : (f : Element → Bool) → inside f qs + hit (f x) ≡ inside f ps + 0 = λ f. inside-put f ps j (has x) gap (place_here ps j x fit.order.0) fit.order.0 in
        let i = low-is ps (omega (arith, eq always)) in
        (i, w.ordered (key e) (omega (arith, low-least ps (low ps) e i, eq (under (key e)), w.packed, length-set ps j gap, fit.size, inside-parted (key e) qs)))
    go (onto s y) fit h = rest-low (λ f. hit (f y) + (α f + β f)) fit.size fit.order h
