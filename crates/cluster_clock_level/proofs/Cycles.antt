-- A shape that passes gives what the passes over the levels ask; a cycle is the definition's.
use Rattle.std.proofs.Common.{None, Some}
use Rattle.laws.specs.Prelude.{Answer, Bool, Damaged, List, Request, ◌&&◌, ◌*◌, ◌+◌, ◌∙◌, ◌≡◌, ◌≤◌, ap, ap₂, arith, false, length, not, not-false, not-true, refl, suc, sym, true, zero, ℕ, Err}
use Rattle.cluster.proofs.Shapes.{extent-nodes, nodes-room, shape_is}
use Rattle.cluster.specs.Coded.{nodes_of}
use Rattle.cluster_clock_model.proofs.Laws.{cycled-damaged, cycled-fine, few-levels}
use Rattle.cluster_clock_model.specs.Prelude.{Passed, Work, asked_ok, below, cycle_outcome, cycle_run, cycled, pass, stage_count, stages_ok, work}
use Rattle.cluster_clock_model.specs.declared.Stage.{Stage}
use Rattle.cluster_model.specs.Prelude.{room, rule_at, shape_ok, width}
use Rattle.cluster_clock_level.proofs.Tested.{node-lies}
use Rattle.cluster_clock_level.specs.Round.{ends, Lies, passed, RoundReady}
use Rattle.cluster_clock_level.specs.Stage.{work_of}
use Rattle.cluster_clock_level.specs.Turn.{RootIn, RulesFor, RulesRoot}
use Rattle.cluster_clock_level.specs.declared.shaped.Ruled.{Ruled}

-- ---- the shape
ends_is : (k a : ℕ) → ends k a + 1 ≡ (a + 1) * (nodes_of (suc k) + 1)
unfolding nodes_of
ends_is zero a = omega arith
ends_is (suc k) a =
    let e : ends k (below a) + 1 ≡ (below a + 1) * (nodes_of (suc k) + 1) = ends_is k (below a) in
    go (nodes_of (suc k)) (nodes_of (suc (suc k))) refl e
  where
    go : (n n' : ℕ) → n' ≡ n + n + 1 → ends k (below a) + 1 ≡ (below a + 1) * (n + 1) → ends k (below a) + 1 ≡ (a + 1) * (n' + 1)
    go n n' f e = rw f (omega (arith, e))

ends-root : (k : ℕ) → ends k 0 ≡ nodes_of (suc k)
ends-root k = let e = ends_is k 0 in omega (arith, e)

module _ (K k len : ℕ) (ok : shape_ok K (suc k) len ≡ true) where
  pub shape-lies : Lies K k 0 len
  shape-lies =
      let s = shape_is K (suc k) len ok in
      let n : ends k 0 ≡ nodes_of (suc k) = ends-root k in
      let w : ends k 0 * width K ≡ nodes_of (suc k) * width K = ap (λ (i : ℕ). i * width K) n in
      record {
        some = s.low;
        few = s.few;
        nodes = omega (arith, n, nodes-room K (suc k) s.low, s.capacity);
        words = omega (arith, w, extent-nodes K (suc k), s.slice);
      }

  pub shape-records : k ≤ stage_count
  shape-records =
      let s = shape_is K (suc k) len ok in
      let f = few-levels K (suc k) len (record { two = s.low; sixteen = s.few; some = s.some; capacity = s.capacity; slice = s.slice }) in
      omega (arith, f)

  pub shape-small : room K k ≤ 5460
  unfolding room
  shape-small = let s = shape_is K (suc k) len ok in omega (arith, s.capacity)

pub shape-root : (K k top : ℕ) (ws : List ℕ) → shape_ok K (suc k) (length ws) ≡ true → top ≡ room K k → RootIn K top ws
shape-root K k top ws ok e = record {
  lies = node-lies K k 0 0 (length ws) (shape-lies K k (length ws) ok) (omega arith);
  small = omega (arith, e, shape-small K k (length ws) ok);
}

-- ---- a cycle
module _ (K k top : ℕ) (rs : List Stage) (ws : List ℕ) (shaped : shape_ok K (suc k) (length ws) ≡ true) (room-is : top ≡ room K k) (r : Request) where
  -- damage at the root
  pub cycle-root : RulesFor K top r ws None → (a : Answer) (rs' : List Stage) → (a ≡ Err Damaged) × (rs' ≡ rs) → cycle_outcome a ws rs' ≡ cycled K (suc k) r rs ws
  cycle-root ruled a rs' p =
      let f : (asked_ok K (suc k) r ws && stages_ok K k 0 0 rs ws) ≡ false = ap (λ (b : Bool). b && stages_ok K k 0 0 rs ws) (ruled k room-is) in
      (λ i. cycle_outcome (p.0 i) ws (p.1 i)) ∙ sym (cycled-damaged K (suc k) r rs ws shaped f)

  module _ (g : Ruled) (ruled : RulesFor K top r ws (Some g)) (t : Bool) (tested : t ≡ stages_ok K k 0 0 rs ws) where
    now : RulesRoot K k r ws g
    now = ruled k room-is

    sound-is : (asked_ok K (suc k) r ws && stages_ok K k 0 0 rs ws) ≡ t
    sound-is = ap₂ (λ (a b : Bool). a && b) now.ok (sym tested)

    -- damage at a record
    pub cycle-damaged : not t ≡ true → (a : Answer) (rs' : List Stage) → (a ≡ Err Damaged) × (rs' ≡ rs) → cycle_outcome a ws rs' ≡ cycled K (suc k) r rs ws
    cycle-damaged e a rs' p = (λ i. cycle_outcome (p.0 i) ws (p.1 i)) ∙ sym (cycled-damaged K (suc k) r rs ws shaped (sound-is ∙ not-true t e))

    module _ (e : not t ≡ false) where
      pub cycle-ready : RoundReady K k 0 g.task 0 rs ws
      cycle-ready = record {
        lies = shape-lies K k (length ws) shaped;
        small = shape-small K k (length ws) shaped;
        records = shape-records K k (length ws) shaped;
        tested = sym tested ∙ not-false t e;
        task = now.task;
      }

      pub cycle_runs : (ws' : List ℕ) (rs' : List Stage) → passed K ws' rs' ≡ pass K k 0 (work_of g.task) 0 rs ws → cycle_outcome g.answer ws' rs' ≡ cycled K (suc k) r rs ws
      unfolding cycle_run
      cycle_runs ws' rs' p =
          let q : passed K ws' rs' ≡ pass K k 0 (work (rule_at K (suc k) r ws).op 0) 0 rs ws = p ∙ ap (λ (w : Work). pass K k 0 w 0 rs ws) now.work in
          ap₂ (λ (a : Answer) (u : Passed K). cycle_outcome a u.words u.records) now.answer q
          ∙ sym (cycled-fine K (suc k) r rs ws shaped (sound-is ∙ not-false t e))
