-- The header and a record as they are read: each test and what follows it make what the definitions say.
use Rattle.laws.specs.Prelude.{Bool, Element, Idle, List, Pop, Push, Replace, ◌&&◌, ◌+◌, ◌<◌, ◌∙◌, ◌≡◌, ◌≤◌, ap, arith, element, false, le-leb, leb, leb-false, leb-true, length, lt-leb, ne_eqb, not, not-false, not-true, refl, sym, true, ℕ}
use Rattle.tree_node.specs.Room.{Capacity}
use Rattle.trace_model.specs.Format.{byte_at, entry_at, entry_of, headed, header_of, length_at, sign_ok, number_at, only_blank, trace_limit, trace_shape, version_at}
use Rattle.std.specs.Prelude.{None, Option, Some}
use Rattle.trace_model.specs.declared.Header.{Header}
use Rattle.trace_model.specs.Format.{header}
use Rattle.laws.specs.Prelude.{Request}
use Rattle.trace_model.specs.declared.Version.{Version}
use Rattle.trace_model.specs.declared.Version.TheVariants.{One, Two}
use Rattle.tree_model.specs.Prelude.{order_ok, room, slot_limit}

-- ---- the header
pub shape-off : (m levels : ℕ) (t : Bool) → t ≡ order_ok m → not t ≡ true → false ≡ trace_shape m levels
unfolding trace_shape
shape-off m levels t e p = rw (← e, not-true t p)

pub shape_on : (m levels : ℕ) (t : Bool) (cap : ℕ) → t ≡ order_ok m → not t ≡ false → Capacity m levels cap → (leb 1 levels && leb cap 4094) ≡ trace_shape m levels
unfolding trace_shape
shape_on m levels t cap e p c = rw (← e, not-false t p) (ap (λ (b : Bool). leb 1 levels && b) (go (leb (room m levels) slot_limit) refl))
  where
    go : (b : Bool) → leb (room m levels) slot_limit ≡ b → leb cap 4094 ≡ leb (room m levels) trace_limit
    go true q = ap (λ (n : ℕ). leb n 4094) (c.within (leb-true (room m levels) slot_limit q))
    go false q =
        let big : slot_limit < room m levels = leb-false (room m levels) slot_limit q in
        lt-leb cap 4094 (omega (arith, c.above big)) ∙ sym (lt-leb (room m levels) 4094 (omega arith))

module _ (bs : List ℕ) where
  pub header-short : length bs < 7 → None ≡ header_of bs
  unfolding header_of
  header-short h = rw (lt-leb 7 (length bs) h)

  module _ (long : 7 ≤ length bs) (t : Bool) (mark : t ≡ sign_ok bs) where
    pub header-sign : not t ≡ true → None ≡ header_of bs
    unfolding header_of
    header-sign p = rw (le-leb 7 (length bs) long, ← mark, not-true t p)

    pub header-shape : not t ≡ false → (u : Bool) → u ≡ trace_shape (byte_at bs 5) (byte_at bs 6) → not u ≡ true → None ≡ header_of bs
    unfolding header_of
    header-shape p u e q = rw (le-leb 7 (length bs) long, ← mark, not-false t p, ← e, not-true u q)

    pub header-taken : not t ≡ false → (u : Bool) → u ≡ trace_shape (byte_at bs 5) (byte_at bs 6) → not u ≡ false
        → (n : ℕ) → n ≡ version_at bs 3 → (h : Option Header) → h ≡ headed n (byte_at bs 5) (byte_at bs 6) → h ≡ header_of bs
    unfolding header_of
    header-taken p u e q n en h eh =
        rw (le-leb 7 (length bs) long, ← mark, not-false t p, ← e, not-false u q) (eh ∙ ap (λ (n : ℕ). headed n (byte_at bs 5) (byte_at bs 6)) en)

-- the version's number
module _ (n m levels : ℕ) where
  pub headed-one : n ≡ 1 → Some (header One m levels) ≡ headed n m levels
  unfolding headed
  headed-one e = rw e

  pub headed-two : n ≡ 2 → Some (header Two m levels) ≡ headed n m levels
  unfolding headed
  headed-two e = rw e

  pub headed-other : (n ≡ 1 → ⊥) → (n ≡ 2 → ⊥) → None ≡ headed n m levels
  unfolding headed
  headed-other one two = rw (ne_eqb n 1 one, ne_eqb n 2 two)

-- ---- a record's code
module _ (code : ℕ) (e : Element) where
  pub entry-idle : (r : Option Request) → code ≡ 0 → r ≡ only_blank e Idle → r ≡ entry_of code e
  unfolding entry_of
  entry-idle r z p = rw z p

  pub entry-push : code ≡ 1 → Some (Push e) ≡ entry_of code e
  unfolding entry_of
  entry-push z = rw z

  pub entry-pop : (r : Option Request) → code ≡ 2 → r ≡ only_blank e Pop → r ≡ entry_of code e
  unfolding entry_of
  entry-pop r z p = rw z p

  pub entry-replace : code ≡ 3 → Some (Replace e) ≡ entry_of code e
  unfolding entry_of
  entry-replace z = rw z

  pub entry_other : (code ≡ 0 → ⊥) → (code ≡ 1 → ⊥) → (code ≡ 2 → ⊥) → (code ≡ 3 → ⊥) → None ≡ entry_of code e
  unfolding entry_of
  entry_other a b c d = rw (ne_eqb code 0 a, ne_eqb code 1 b, ne_eqb code 2 c, ne_eqb code 3 d)

-- .. and its numbers
pub entry-made : (v : Version) (bs : List ℕ) (i r t l : ℕ) → r ≡ number_at bs (i + 1) → t ≡ number_at bs (i + 5) → l ≡ length_at v bs i
    → entry_of (byte_at bs i) (element r t l) ≡ entry_at v bs i
unfolding entry_at
entry-made v bs i r t l er et el = λ k. entry_of (byte_at bs i) (element (er k) (et k) (el k))
