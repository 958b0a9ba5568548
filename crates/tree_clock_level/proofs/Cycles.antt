-- A cycle and a clear of a tree whose shape has been tested: each test and what follows it make the outcome that the definitions say.
use Rattle.std.proofs.Common.{None, Option, Some, is_some}
use Rattle.laws.specs.Prelude.{Answer, Bool, Damaged, List, Request, ◌&&◌, ◌*◌, ◌+◌, ◌<◌, ◌∙◌, ◌≡◌, ◌≤◌, and_assoc, and_right, ap, ap₂, arith, length, refl, suc, sym, true, zero, ℕ, Ok, None, Err}
use Rattle.tree_clock_model.proofs.Laws.{few-levels}
use Rattle.tree_clock_model.specs.Prelude.{CycleOutcome, DrainOutcome, asked_ok, clocked_cleared, cycle_ok, cycle_outcome, cycle_run, cycle_words, cycled, drains, fresh, marks, quiet, records_after, rule_now, steps_ok, works_of}
use Rattle.tree_clock_model.specs.declared.State.{State}
use Rattle.tree_clock_level.proofs.Works.{still-ok, still-records, still-words}
use Rattle.tree_clock_level.specs.Steps.{Rooted, RootPlanned, state_of, turned_by}
use Rattle.tree_clock_level.specs.Root.{RoomIs, RootIn, RulesRoot}
use Rattle.tree_clock_level.specs.declared.root.RootStep.{RootStep}
use Rattle.tree_node.proofs.Shapes.{shaped-levels, shaped-slots}
use Rattle.tree_node.proofs.Steps.{room-up}
use Rattle.tree_node.specs.Room.{child_of, Lies}
use Rattle.tree_node.specs.Shaping.{Shaped}
use Rattle.tree_node.specs.declared.shape.Shape.{Shape}
use Rattle.tree_model.proofs.Laws.{fine-here, is_none, order-few, shape_is, size_room, work_none}
use Rattle.tree_model.specs.Prelude.{Ruling, idle, is_nothing, level_of, levels_of, node_move, node_of, room, shape_ok, size, slot_limit, slot_words, step_ok, step_words, top, under, wipe, work, work_ok}
use Rattle.tree_model.specs.declared.Op.{Op}
use Rattle.tree_model.specs.declared.Op.TheVariants.{Nothing}
use Rattle.tree_model.specs.declared.Work.{Work}

-- ---- the shape
-- what is known of a shape that passes, with k levels below the root
module _ (m k : ℕ) (ws : List ℕ) (shape : shape_ok m (suc k) (length ws) ≡ true) where
  few-order : (0 < m) × (m ≤ 8)
  few-order = order-few (shape_is m (suc k) (length ws) shape)

  pub rooted : Rooted m k ws
  rooted =
      let sh = shape_is m (suc k) (length ws) shape in
      record {
        lies = record {
          order = few-order.0;
          few = few-order.1;
          node = omega arith;
          words = omega (arith, sh.slice, size_room m (suc k) 1);
          small = omega (arith, sh.capacity, size_room m (suc k) 1);
        };
        records = few-levels m (suc k) (length ws) sh;
      }

  room-below : room m k ≤ slot_limit
  room-below = omega (arith, room-up m k (suc k) few-order.0 (omega arith), (shape_is m (suc k) (length ws) shape).capacity)

  deeper-size : (k : ℕ) → 1 ≤ room m k → m + m * m ≤ 1 * m + size m k (1 * m)
  unfolding room size
  deeper-size zero h = absurd (omega arith)
  deeper-size (suc k) h = omega arith

  pub root_in : (r : ℕ) → RoomIs m k r → RootIn m r ws
  unfolding size
  root_in r e =
      let lies : Lies m (suc k) 0 1 0 ws = rooted.lies in
      record {
        node = record { order = lies.order; words = omega (arith, lies.words) };
        few = lies.few;
        limit = omega (arith, room-below);
        below = k;
        fits = e;
        children = λ h. omega (arith, lies.words, deeper-size k (omega (arith, h)));
      }

-- ---- a cycle
pub outcome-path : (a b : Answer) (ws : List ℕ) (s u : State) → (a ≡ b) × (s ≡ u) → cycle_outcome a ws s ≡ cycle_outcome b ws u
outcome-path a b ws s u p = λ i. record { answer = p.0 i; words = ws; state = p.1 i }

-- with nothing to do at any level
pub cycle_run-still : (m k : ℕ) (ws : List ℕ) (o : Op) (a x : Answer) (mark : Bool) (s u : State) (t q : Bool) → t ≡ is_nothing o → t ≡ true
    → q ≡ quiet k (works_of k s.records 0) → q ≡ true → (x ≡ a) × (u ≡ state_of s.records mark) → cycle_outcome x ws u ≡ turned_by m k a o mark s ws
unfolding turned_by cycle_words step_words work is_nothing
cycle_run-still m k ws o a x mark s u t q none e still f p =
    let z : quiet k (works_of k s.records 0) ≡ true = sym still ∙ f in
    let is : o ≡ Nothing = is_none o (sym none ∙ e) in
    outcome-path x a ws u (state_of s.records mark) p
    ∙ sym (ap (λ (o : Op). turned_by m k a o mark s ws) is
    ∙ rw (still-ok m k s.records 0 (under m k ws 0 1) z)
    (ap₂ (λ (v : List ℕ) (rs : List Work). cycle_outcome a v (state_of rs mark)) (still-words m k s.records 0 (0 + 1 * m) (1 * m) ws z)
    (ap (λ (w : Work). records_after m k w 0 s.records (under m k ws 0 1)) (work_none m idle (level_of m ws 0 1) (top k (under m k ws 0 1)) refl) ∙ still-records m k s.records 0 (under m k ws 0 1) z)))

module _ (m k r : ℕ) (q : Request) (s : State) (ws : List ℕ) (shape : shape_ok m (suc k) (length ws) ≡ true) (fits : RoomIs m k r) where
  abbrev g : Ruling
  g = rule_now m (suc k) q s ws

  abbrev rest : Bool
  rest = cycle_ok m k (works_of k s.records 0) (under m k ws 0 1)

  root-fine : (o : Op) → work_ok m k (work o 0) (level_of m ws 0 1) (top k (under m k ws 0 1)) ≡ step_ok m k o (node_of m ws 0) (child_of m m ws)
  root-fine o =
      fine-here m k 0 1 0 ws (omega arith) o
      ∙ ap₂ (λ (i f : ℕ). step_ok m k o (node_of m ws i) (child_of m f ws)) (omega arith) (omega arith)

  -- the tests of a cycle: those of the plan, and those of the records
  tests : (p : Option RootStep) → RulesRoot m r s.mark q ws p → (asked_ok m (suc k) q ws && steps_ok m (suc k) g.op s ws) ≡ (is_some p && rest)
  unfolding cycle_ok levels_of
  tests p hears =
      ap (λ (b : Bool). asked_ok m (suc k) q ws && (b && rest)) (root-fine g.op)
      ∙ sym (and_assoc (asked_ok m (suc k) q ws) (step_ok m k g.op (node_of m ws 0) (child_of m m ws)) rest) ∙ ap (λ (b : Bool). b && rest) (sym (hears k fits).0)

  pub cycle-damaged : (a : Answer) (u : State) → RulesRoot m r s.mark q ws None → (a ≡ Err Damaged) × (u ≡ s) → cycle_outcome a ws u ≡ cycled m (suc k) q s ws
  unfolding cycled
  cycle-damaged a u hears p = rw (shape, tests None hears) (outcome-path a (Err Damaged) ws u s p)

  module _ (h : RootStep) (hears : RulesRoot m r s.mark q ws (Some h)) where
    pub root-planned : RootPlanned m k h ws
    root-planned =
        let p = (hears k fits).1 in
        let y : (asked_ok m (suc k) q ws && step_ok m k g.op (node_of m ws 0) (child_of m m ws)) ≡ true = sym (hears k fits).0 in (
          ap (λ (o : Op). step_ok m k o (node_of m ws 0) (child_of m m ws)) p.1 ∙ and_right (asked_ok m (suc k) q ws) (step_ok m k g.op (node_of m ws 0) (child_of m m ws)) y,
          p.2 ∙ ap (λ (o : Op). node_move m o 0 m ws) (sym p.1),
        )

    pub cycle_runs : (mark : Bool) (o : CycleOutcome) → mark ≡ marks q h.answer → o ≡ turned_by m k h.answer h.op mark s ws → o ≡ cycled m (suc k) q s ws
    unfolding cycled cycle_run turned_by
    cycle_runs mark o em eo =
        let p = (hears k fits).1 in
        eo ∙ ap (λ (b : Bool). turned_by m k h.answer h.op b s ws) em
        ∙ ap₂ (λ (a : Answer) (o : Op). turned_by m k a o (marks q a) s ws) p.0 p.1 ∙ sym (rw (shape, tests (Some h) hears))

-- ---- a clear
-- ---- by the shape that the code has computed, which the words hold
module _ (m levels : ℕ) (ws : List ℕ) (f : Shape) (shaped : Shaped m levels f) (e : shape_ok m levels (length ws) ≡ true) where
  levels-are : levels ≡ suc f.below
  levels-are = shaped-levels m levels (length ws) f shaped e

  pub shape-below : (shape_ok m (suc f.below) (length ws) ≡ true) × RoomIs m f.below f.room
  shape-below = (ap (λ (n : ℕ). shape_ok m n (length ws)) (sym levels-are) ∙ e, shaped.fits)

  pub cycle-levels : (q : Request) (s : State) (o : CycleOutcome) → o ≡ cycled m (suc f.below) q s ws → o ≡ cycled m levels q s ws
  cycle-levels q s o p = p ∙ ap (λ (n : ℕ). cycled m n q s ws) (sym levels-are)

  pub drain-levels : (budget : ℕ) (s : State) (o : DrainOutcome) → o ≡ drains m (suc f.below) budget s ws → o ≡ drains m levels budget s ws
  drain-levels budget s o p = p ∙ ap (λ (n : ℕ). drains m n budget s ws) (sym levels-are)

  slots-are : f.slots ≡ room m levels
  slots-are = shaped-slots m levels (length ws) f shaped e

  pub slots-within : slot_words * f.slots ≤ length ws
  slots-within = omega (arith, slots-are, (shape_is m levels (length ws) e).slice)

  pub clear-levels : (s u : State) (after : List ℕ) → (after ≡ wipe f.slots ws) × (u ≡ fresh) → cycle_outcome (Ok None) after u ≡ clocked_cleared m levels s ws
  unfolding clocked_cleared
  clear-levels s u after p = rw e (ap₂ (cycle_outcome (Ok None)) (p.0 ∙ ap (λ (n : ℕ). wipe n ws) slots-are) p.1)
