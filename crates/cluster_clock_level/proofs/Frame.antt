-- What is read from node b on is the same in two stores that have the same words from there on.
use Rattle.laws.specs.Prelude.{Bool, Element, List, ◌&&◌, ◌*◌, ◌+◌, ◌||◌, ◌∙◌, ◌≡◌, ◌≤◌, ap, ap₂, arith, eqb, false, is_blank, mul-le-mul_right, refl, subst, suc, sym, true, zero, ℕ}
use Rattle.strip.proofs.Words.{read-local}
use Rattle.promise.specs.Prelude.{always}
use Rattle.cluster_clock_model.specs.Prelude.{below, gives_ok, sane, sane_at, stage_at, stage_ok, stages_ok, wait_ok}
use Rattle.cluster_clock_model.specs.declared.Due.{Due}
use Rattle.cluster_clock_model.specs.declared.Due.TheVariants as due
use Rattle.cluster_clock_model.specs.declared.Stage.{Stage}
use Rattle.cluster_model.proofs.Laws.{node-local}
use Rattle.cluster_model.specs.Prelude.{Node, child, inside, lhs, low, flag_at, neat_place, neat_to, node_in, place_words, rhs, room, some, spot_of, width, word}
use Rattle.cluster_clock_level.specs.Stage.{Gives, GivesBy, Lowest}
use Rattle.cluster_clock_level.specs.declared.Job.{Job}
use Rattle.cluster_clock_level.specs.declared.Job.TheVariants as job
use Rattle.cluster_clock_level.specs.declared.Task.{Task}

module _ (K : ℕ) (ws ws' : List ℕ) (b : ℕ) (same : (i : ℕ) → spot_of K b ≤ i → word ws' i ≡ word ws i) where
  past : (d m i : ℕ) → b ≤ m → m * d ≤ i → b * d ≤ i
  past d m i h g = omega (arith, mul-le-mul_right d h)

  pub node-after : (m : ℕ) → b ≤ m → node_in K ws' m ≡ node_in K ws m
  node-after m h = node-local K ws ws' (spot_of K m) (λ i l g. same i (past (width K) m i h l))

  place_after : (o : ℕ) → spot_of K b ≤ o → neat_place ws' o ≡ neat_place ws o
  unfolding neat_place
  place_after o h =
      ap₂ (λ (e : Element) (m : ℕ). (eqb m 0 && is_blank e) || eqb m 1) (read-local ws ws' o (λ i l g. same i (omega arith))) (same (flag_at o) (omega arith))

  neat-after : (o n : ℕ) → spot_of K b ≤ o → neat_to K ws' o n ≡ neat_to K ws o n
  unfolding neat_to
  neat-after o zero h = refl
  neat-after o (suc n) h = ap₂ (λ (s t : Bool). s && t) (neat-after o n h) (place_after (o + n * place_words) (omega arith))

  pub sane-after : (limit m : ℕ) → b ≤ m → sane_at K limit ws' m ≡ sane_at K limit ws m
  unfolding sane_at
  sane-after limit m h =
      ap₂ (λ (t : Bool) (n : Node). t && sane limit n) (neat-after (spot_of K m + 2) K (past (width K) m (spot_of K m + 2) h (omega arith))) (node-after m h)

  gives_after : (t : Bool) (limit m : ℕ) → b ≤ m → gives_ok K t limit ws' m ≡ gives_ok K t limit ws m
  unfolding gives_ok
  gives_after true limit m h = refl
  gives_after false limit m h = ap₂ (λ (t : Bool) (n : Node). t && some n) (sane-after limit m h) (node-after m h)

  wait-after : (k m : ℕ) → b ≤ m → wait_ok K k m ws' ≡ wait_ok K k m ws
  unfolding wait_ok
  wait-after k m h =
      rw (
        sane-after (room K (suc k)) m h,
        node-after m h,
        gives_after (eqb (node_in K ws m).left 0) (room K k) (child m lhs) (omega arith),
        gives_after (eqb (node_in K ws m).right 0) (room K k) (child m rhs) (omega arith),
      ) refl

  stage-after : (k : ℕ) (d : Due) (n a : ℕ) → b ≤ a → stage_ok K k d n a ws' ≡ stage_ok K k d n a ws
  unfolding stage_ok
  stage-after k due.Nothing n a h = refl
  stage-after k (due.Put y) n a h = rw (sane-after (room K k) (below a + n) (omega arith), node-after (below a + n) (omega arith)) refl
  stage-after k (due.Fill j) n a h = rw (node-after (a + n) (omega arith), wait-after k (a + n) (omega arith)) refl
  stage-after k (due.Swap j x) n a h = rw (node-after (a + n) (omega arith), wait-after k (a + n) (omega arith)) refl

  pub stages-after : (k a i : ℕ) (rs rs' : List Stage) → b ≤ a → ((j : ℕ) → i ≤ j → stage_at rs' j ≡ stage_at rs j) → stages_ok K k a i rs' ws' ≡ stages_ok K k a i rs ws
  unfolding stages_ok
  stages-after zero a i rs rs' h g = refl
  stages-after (suc k) a i rs rs' h g =
      ap₂ (λ (s t : Bool). s && t)
      (ap (λ (q : Stage). stage_ok K k q.due q.node a ws') (g i (omega arith)) ∙ stage-after k (stage_at rs i).due (stage_at rs i).node a h)
      (stages-after k (below a) (suc i) rs rs' (omega arith) (λ j l. g j (omega arith)))

  lowest-after : (m j : ℕ) → b ≤ m → Lowest K m j ws → Lowest K m j ws'
  lowest-after m j h l =
      let e : node_in K ws m ≡ node_in K ws' m = sym (node-after m h) in
      record { place = l.place ∙ ap (λ (n : Node). low n.places) e; held = subst (λ (n : Node). suc 0 ≤ inside always n.places) e l.held }

  by_after : (t : Job) (m j : ℕ) → b ≤ m → GivesBy t K m j ws → GivesBy t K m j ws'
  by_after job.Rest m j h g = tt
  by_after (job.Put y) m j h g = tt
  by_after job.Take m j h g = lowest-after m j h g
  by_after (job.Swap x) m j h g = lowest-after m j h g

  pub given-after : (t : Task) (a : ℕ) → b ≤ a → Gives K a t ws → Gives K a t ws'
  given-after t a h g = by_after t.job (a + t.node) t.place (omega arith) g
