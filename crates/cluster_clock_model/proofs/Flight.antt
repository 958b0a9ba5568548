-- The heap in the middle of its work: a tree of nodes, each with a note of what is left to be done between it and its children. A cycle on it: the notes are
-- settled, and new work begun. The main lemma: a cycle whose operation can be done keeps the tree sound, and changes what it holds by what comes in and what
-- is given.
use Rattle.laws.specs.Prelude.{Bool, Element, List, ◌+◌, ◌<◌, ◌≡◌, ◌≤◌, arith, blank, not-suc-le-zero, refl, subst, suc, sym, zero, ℕ}
use Rattle.cluster_model.specs.Prelude.{Bag, Became, Begun, Can, Finished, Fit, Node, Note, Op, Place, begin, carried, fill, finish, inside, lhs, low, low_elem, none, nothing, onto, put, rhs, room, swap, take, to_left, to_right, trial, under}
use Rattle.cluster_model.proofs.Laws.{Finishes, IsBag, Least, ask, begins, children-can, finishes, hit-le, inside-le, keeps, low-fit, low-least, place-hit, under-mono}
use Rattle.promise.specs.Prelude.{always, hit}

-- a node with its note, and the two trees below it
abbrev pub Tree : ℕ → Type 0
Tree zero = Unit {0}
Tree (suc k) = Note × Node × Tree k × Tree k

unfoldable pub low_of : (k : ℕ) → Tree k → Element
low_of zero t = blank
low_of (suc k) t = low_elem t.1.places

-- there is nothing below the last level, and no record
unfoldable pub note_below : ℕ → Note → Note
note_below zero c = nothing
note_below (suc k) c = c

-- a cycle: the note is settled with the children as they stand, the children do their part, and the new operation is begun, giving from the place chosen at
-- the start
unfoldable pub cycle : (k : ℕ) → Op → Tree k → Tree k
cycle zero o t = t
cycle (suc k) o t =
    let v = finish t.0 t.1 (low_of k t.2) (low_of k t.3) in
    let b = begin o (low t.1.places) v.node in
    (note_below k b.note, b.node, cycle k (to_left v) t.2, cycle k (to_right v) t.3)

-- ---- what it holds, and when it is sound
unfoldable pub within : (Element → Bool) → (k : ℕ) → Tree k → ℕ
within f zero t = 0
within f (suc k) t = inside f t.1.places + (carried t.0 f + (within f k t.2 + within f k t.3))

abbrev pub Inv : ℕ → (k : ℕ) → Tree k → Type 0
Inv K zero t = Unit {0}
Inv K (suc k) t = Fit K (room K k) t.0 t.1 (λ f. within f k t.2) (λ f. within f k t.3) × Inv K k t.2 × Inv K k t.3

carried-le : (f g : Element → Bool) → ((e : Element) → hit (f e) ≤ hit (g e)) → (c : Note) → carried c f ≤ carried c g
carried-le f g h nothing = omega arith
carried-le f g h (fill j) = omega arith
carried-le f g h (trial j x) = omega arith
carried-le f g h (onto s y) = h y

within-le : (f g : Element → Bool) → ((e : Element) → hit (f e) ≤ hit (g e)) → (k : ℕ) (t : Tree k) → within f k t ≤ within g k t
unfolding within
within-le f g h zero t = omega arith
within-le f g h (suc k) t = omega (arith, inside-le f g h t.1.places, carried-le f g h t.0, within-le f g h k t.2, within-le f g h k t.3)

pub tree-bag : (k : ℕ) (t : Tree k) → IsBag (λ f. within f k t)
tree-bag k t = record {
  most = λ f. within-le f always (λ e. hit-le (f e)) k t;
  lower = λ r q h. within-le (under r) (under q) (λ e. under-mono r q e h) k t;
}

-- the element that is given is held, and none is lower
pub tree-least : (K k : ℕ) (t : Tree k) → 1 < K → Inv K k t → 0 < within always k t → Least (λ f. within f k t) (low_of k t)
unfolding within low_of
tree-least K zero t two s h = absurd (not-suc-le-zero h)
tree-least K (suc k) t two s h =
    let ps : List Place = t.1.places in
    let i = low-fit K (room K k) t.0 t.1 (λ f. within f k t.2) (λ f. within f k t.3) two s.0 h in
    record {
      member = λ f. omega (arith, place-hit f ps (low ps) (low_elem ps) i.0.here);
      least = omega (arith, low-least ps (low ps) (low_elem ps) i.0, i.1);
    }

-- nothing can be noted at the last level
last-nothing : (K : ℕ) (c : Note) (n : Node) → Fit K 0 c n (λ f. 0) (λ f. 0) → c ≡ nothing
last-nothing K nothing n fit = refl
last-nothing K (fill j) n fit = absurd (not-suc-le-zero {n = 0} (omega (arith, fit.order.some)))
last-nothing K (trial j x) n fit = absurd (not-suc-le-zero {n = 0} (omega (arith, fit.order.1.some)))
last-nothing K (onto lhs y) n fit = absurd (not-suc-le-zero {n = 0} (omega (arith, fit.left, fit.left-room)))
last-nothing K (onto rhs y) n fit = absurd (not-suc-le-zero {n = 0} (omega (arith, fit.right, fit.right-room)))

pub below-note : (K k : ℕ) (c : Note) (n : Node) (t u : Tree k) → Fit K (room K k) c n (λ f. within f k t) (λ f. within f k u) → note_below k c ≡ c
unfolding note_below room within
below-note K zero c n t u fit = sym (last-nothing K c n fit)
below-note K (suc k) c n t u fit = refl

-- ---- the main lemma
pub record Did (K k : ℕ) (o : Op) (t u : Tree k) : Type 0 where
  pub sound : Inv K k u
  pub sum : Became o (low_of k t) (λ f. within f k t) (λ f. within f k u)

pub cycles : (K : ℕ) → 1 < K → (k : ℕ) (o : Op) (t : Tree k) → Inv K k t → Can (room K k) o (λ f. within f k t) → Did K k o t (cycle k o t)
unfolding within room cycle low_of
cycles K two zero none t s c = record { sound = tt; sum = λ f. refl }
cycles K two zero (put x) t s c = absurd (not-suc-le-zero c)
cycles K two zero take t s c = absurd (not-suc-le-zero c)
cycles K two zero (swap x) t s c = absurd (not-suc-le-zero c)
cycles K two (suc k) o t s c =
    let α : Bag = λ f. within f k t.2 in
    let β : Bag = λ f. within f k t.3 in
    let a : Element = low_of k t.2 in
    let b : Element = low_of k t.3 in
    let la : 0 < α always → Least α a = tree-least K k t.2 two s.1 in
    let lb : 0 < β always → Least β b = tree-least K k t.3 two s.2 in
    let hα = tree-bag k t.2 in
    let hβ = tree-bag k t.3 in
    let v : Finished = finish t.0 t.1 a b in
    let can = children-can α β hα hβ a b la lb K (room K k) t.1 t.0 s.0 in
    let d = cycles K two k (to_left v) t.2 s.1 can.0 in
    let e = cycles K two k (to_right v) t.3 s.2 can.1 in
    let t₁ : Tree k = cycle k (to_left v) t.2 in
    let t₂ : Tree k = cycle k (to_right v) t.3 in
    let α' : Bag = λ f. within f k t₁ in
    let β' : Bag = λ f. within f k t₂ in
    let ps : List Place = t.1.places in
    let fin : Finishes K (room K k) t.0 t.1 v α β α' β' = finishes α β hα hβ a b la lb K (room K k) t.1 t.0 s.0 α' β' d.sum e.sum in
    let g = begins K (room K k) v.node α' β' (tree-bag k t₁) (tree-bag k t₂) (omega arith) fin.fit o (low ps) (low_elem ps)
    (ask (K + (room K k + room K k)) o v.node.places (low ps) (low_elem ps) (α' always + β' always) (λ f. within f (suc k) t) c (fin.sum always)
    (λ h. keeps α β hα hβ a b la lb K (room K k) t.1 t.0 two s.0 (low-fit K (room K k) t.0 t.1 α β two s.0 h).0)) in
    let w : Begun = begin o (low ps) v.node in
    let same : note_below k w.note ≡ w.note = below-note K k w.note w.node t₁ t₂ g.fit in
    record {
      sound = (subst (λ (n : Note). Fit K (room K k) n w.node α' β') (sym same) g.fit, d.sound, e.sound);
      sum = λ f. rw same (omega (arith, g.sum f, fin.sum f));
    }
