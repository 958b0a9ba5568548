-- The loops over levels and slots.
use Rattle.std.specs.Prelude.{None, Ok, Some}
use Rattle.laws.specs.Prelude.{Bool, List, ◌*◌, ◌+◌, ◌-◌, ◌<◌, ◌∙◌, ◌≡◌, ◌≤◌, add-one, ap, arith, false, length, not-suc-le-zero, pred, refl, subst, suc, sym, true, zero, ℕ}
use native.Mathlib.Nat.{one-mul}
use Rattle.tree_model.proofs.Laws.{shape_is, size_room}
use Rattle.tree_model.specs.Prelude.{Shape, room, shape_ok, size, slot_limit, slot_words}
use Rattle.tree_mend_model.specs.Check.{broken_at, checked, walk}
use Rattle.tree_mend.proofs.Shapes.{few}
use Rattle.tree_mend.specs.Lie.{StoreLies, WalkIn}

-- what stands all through the walk
pub record Walked (m levels inner : ℕ) (ws : List ℕ) : Type 0 where
  pub order : 0 < m
  pub few : m ≤ 8
  pub limit : m * suc inner ≤ slot_limit
  pub words : slot_words * (m * suc inner) ≤ length ws

-- what is left of the walk from slot p on answers for the whole
abbrev pub Rest : ℕ → ℕ → ℕ → List ℕ → ℕ → Type 0
Rest m levels inner ws p = Ok (walk (broken_at m inner ws) p (m * suc inner - p)) ≡ checked m levels ws

-- at a level of so many nodes, with `left` levels to go
pub record AtLevel (m levels inner : ℕ) (ws : List ℕ) (p nodes left : ℕ) : Type 0 where
  pub walked : Walked m levels inner ws
  pub sum : p + size m left nodes ≡ m * suc inner
  pub rest : Rest m levels inner ws p

-- within the level, which ends at slot `end`
pub record AtSlot (m levels inner : ℕ) (ws : List ℕ) (nodes left end p : ℕ) : Type 0 where
  pub walked : Walked m levels inner ws
  pub some : 1 ≤ left
  pub upto : p ≤ end
  pub slots : nodes * m ≤ end
  pub sum : end + size m (left - 1) (nodes * m) ≡ m * suc inner
  pub rest : Rest m levels inner ws p

checked-walk : (m k : ℕ) (ws : List ℕ) → shape_ok m (suc k) (length ws) ≡ true → Ok (walk (broken_at m (room m k) ws) 0 (room m (suc k))) ≡ checked m (suc k) ws
unfolding checked
checked-walk m k ws e = rw e

room-suc : (m k : ℕ) → room m (suc k) ≡ m * suc (room m k)
unfolding room
room-suc m k = refl

begins : (m k : ℕ) (ws : List ℕ) → shape_ok m (suc k) (length ws) ≡ true → Shape m (suc k) (length ws) → (0 < m) × (m ≤ 8) → AtLevel m (suc k) (room m k) ws 0 1 (suc k)
begins m k ws ok sh few =
    let z : m * suc (room m k) - 0 ≡ room m (suc k) = omega (arith, room-suc m k) in
    record {
      walked = record { order = few.0; few = few.1; limit = omega (arith, sh.capacity, room-suc m k); words = omega (arith, sh.slice, room-suc m k) };
      sum = omega (arith, size_room m (suc k) 1, one-mul (room m (suc k)), room-suc m k);
      rest = ap (λ (n : ℕ). Ok (walk (broken_at m (room m k) ws) 0 n)) z ∙ checked-walk m k ws ok;
    }

pub walk_begins : (m levels inner : ℕ) (ws : List ℕ) → StoreLies m levels inner ws → AtLevel m levels inner ws 0 1 levels
walk_begins m levels inner ws l = at levels l.shaped (shape_is m levels (length ws) l.shaped) l.above
  where
    at : (levels : ℕ) → shape_ok m levels (length ws) ≡ true → Shape m levels (length ws) → inner ≡ room m (pred levels) → AtLevel m levels inner ws 0 1 levels
    at zero ok sh i = absurd (not-suc-le-zero sh.some)
    at (suc k) ok sh i = subst (λ (n : ℕ). AtLevel m (suc k) n ws 0 1 (suc k)) (sym i) (begins m k ws ok sh (few m (suc k) (length ws) sh))

module _ (m levels inner : ℕ) (ws : List ℕ) where
  pub level-begins : (p nodes left : ℕ) → AtLevel m levels inner ws p nodes left → 0 < left → AtSlot m levels inner ws nodes left (p + nodes * m) p
  unfolding size
  level-begins p nodes zero a h = absurd (not-suc-le-zero h)
  level-begins p nodes (suc k) a h =
      let z : suc k - 1 ≡ k = omega arith in
      record {
        walked = a.walked;
        some = omega arith;
        upto = omega arith;
        slots = omega arith;
        sum = ap (λ (n : ℕ). p + nodes * m + size m n (nodes * m)) z ∙ omega (arith, a.sum);
        rest = a.rest;
      }

  -- a level's end is within the limit
  pub level-fits : (p nodes left : ℕ) → AtLevel m levels inner ws p nodes left → 0 < left → p + nodes * m ≤ slot_limit
  level-fits p nodes left a h = let b = level-begins p nodes left a h in omega (arith, b.sum, b.walked.limit)

  pub slot-in : (nodes left end p : ℕ) → AtSlot m levels inner ws nodes left end p → p < end → WalkIn m inner p ws
  slot-in nodes left end p a h =
      record { order = a.walked.order; few = a.walked.few; inside = omega (arith, a.sum); limit = a.walked.limit; words = a.walked.words }

  more : (end p : ℕ) (n : ℕ) → p < end → end + n ≡ m * suc inner → m * suc inner - p ≡ suc (m * suc inner - (p + 1))
  more end p n h e = omega arith

  one_more : (t : ℕ → Bool) (p n : ℕ) → t p ≡ false → walk t p (suc n) ≡ walk t (p + 1) n
  unfolding walk
  one_more t p n e = rw (e, add-one p)

  -- a slot that is not broken
  pub slot-passed : (nodes left end p : ℕ) → AtSlot m levels inner ws nodes left end p → p < end → (r : Bool) → r ≡ broken_at m inner ws p → r ≡ false
      → AtSlot m levels inner ws nodes left end (p + 1)
  slot-passed nodes left end p a h r e f =
      record {
        walked = a.walked;
        some = a.some;
        upto = omega arith;
        slots = a.slots;
        sum = a.sum;
        rest = sym (ap Ok (ap (walk (broken_at m inner ws) p) (more end p _ h a.sum) ∙ one_more (broken_at m inner ws) p _ (sym e ∙ f))) ∙ a.rest;
      }

  here : (t : ℕ → Bool) (p n : ℕ) → t p ≡ true → walk t p (suc n) ≡ Some p
  unfolding walk
  here t p n e = rw e

  -- the first broken slot
  pub slot-found : (nodes left end p : ℕ) → AtSlot m levels inner ws nodes left end p → p < end → (r : Bool) → r ≡ broken_at m inner ws p → r ≡ true
      → Ok (Some p) ≡ checked m levels ws
  slot-found nodes left end p a h r e f =
      sym (ap Ok (ap (walk (broken_at m inner ws) p) (more end p _ h a.sum) ∙ here (broken_at m inner ws) p _ (sym e ∙ f))) ∙ a.rest

  pub level-ends : (nodes left end p left' : ℕ) → AtSlot m levels inner ws nodes left end p → end ≤ p → left' ≡ left - 1 → AtLevel m levels inner ws end (nodes * m) left'
  level-ends nodes left end p left' a h e =
      let z : p ≡ end = omega (arith, a.upto) in
      record { walked = a.walked; sum = ap (λ (n : ℕ). end + size m n (nodes * m)) e ∙ a.sum; rest = subst (Rest m levels inner ws) z a.rest }

  none : (t : ℕ → Bool) (p n : ℕ) → n ≡ 0 → walk t p n ≡ None
  unfolding walk
  none t p n e = rw e

  -- no level is left
  pub walk_ends : (p nodes left : ℕ) → AtLevel m levels inner ws p nodes left → left ≡ 0 → Ok None ≡ checked m levels ws
  unfolding size
  walk_ends p nodes zero a h = sym (ap Ok (none (broken_at m inner ws) p (m * suc inner - p) (omega (arith, a.sum)))) ∙ a.rest
  walk_ends p nodes (suc k) a h = absurd (omega arith)
