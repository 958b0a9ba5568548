-- Level by level: what the code leaves is what the definition's pass leaves, and the next level is ready.
use Rattle.laws.specs.Prelude.{Bool, List, ◌&&◌, ◌*◌, ◌+◌, ◌-◌, ◌<◌, ◌∙◌, ◌≡◌, ◌≤◌, add-one, ap, ap₂, arith, false, inr, length, length-set, refl, set, subst, suc, sym, true, ℕ}
use Rattle.cluster_node.proofs.Fulls.{and_l, and_r}
use Rattle.cluster.proofs.Taken.{under-room}
use Rattle.cluster_clock_model.proofs.Laws.{handed-in, level-length, level-only, set-later}
use Rattle.cluster_clock_model.specs.Prelude.{Passed, Work, begins, below, filled, handed, level_stage, level_words, loaded, pass, sane_at, stage_at, stage_ok, stages_ok, worked}
use Rattle.cluster_clock_model.specs.declared.Stage.{Stage}
use Rattle.cluster_model.proofs.Laws.{low-is, node-count, place_here}
use Rattle.cluster_model.specs.Prelude.{Begun, Node, begin, low, low_elem, node_in, room, spot_of, swap, take, touch, width, word, works}
use Rattle.cluster_node.specs.Leaf.{under_of}
use Rattle.cluster_clock_level.proofs.Frame.{given-after, sane-after, stages-after}
use Rattle.cluster_clock_level.proofs.Tested.{filled-sited, handed-sane, in-range, level-lies, lies-next, node-lies, pends, sane-sited}
use Rattle.cluster_clock_level.specs.Round.{Lies, passed, RoundReady, TaskIn}
use Rattle.cluster_clock_level.specs.Stage.{Begins, Gives, GivesBy, LevelIn, Lowest, op_of, Pends, Sited, StageTest, work_of, Works}
use Rattle.cluster_clock_level.specs.declared.Job.{Job}
use Rattle.cluster_clock_level.specs.declared.Job.TheVariants as job
use Rattle.cluster_clock_level.specs.declared.Task.{Task}

-- ---- a level's job
module _ (K m j : ℕ) (ws : List ℕ) where
  low-in : Lowest K m j ws → j < K
  low-in l =
      let ps = (node_in K ws m).places in
      omega (arith, l.place, place_here (node_in K ws m).places (low (node_in K ws m).places) (low_elem (node_in K ws m).places) (low-is (node_in K ws m).places l.held).here, node-count K ws (spot_of K m))

  works-by : (b : Job) (ws₁ : List ℕ) → GivesBy b K m j ws → (works (op_of b) ≡ true → Sited K m ws₁) → Works b K m j ws₁
  unfolding op_of works
  works-by job.Rest ws₁ g s = tt
  works-by (job.Put y) ws₁ g s = s refl
  works-by job.Take ws₁ g s = (s refl, low-in g)
  works-by (job.Swap x) ws₁ g s = (s refl, low-in g)

  -- it gives from the place that was the lowest
  begin-low : (b : Job) (x : Node) → GivesBy b K m j ws → begin (op_of b) j x ≡ begin (op_of b) (low (node_in K ws m).places) x
  unfolding op_of begin
  begin-low job.Rest x g = refl
  begin-low (job.Put y) x g = refl
  begin-low job.Take x g = ap (λ (i : ℕ). begin take i x) g.place
  begin-low (job.Swap y) x g = ap (λ (i : ℕ). begin (swap y) i x) g.place

module _ (K k a : ℕ) (t : Task) (ws : List ℕ) (lies : Lies K k a (length ws)) (small : room K k ≤ 5460) (task : TaskIn K k a t ws) where
  task-sited : works (op_of t.job) ≡ true → Sited K (a + t.node) ws
  task-sited w = sane-sited K (room K k) ws (a + t.node) (task.sane w) (node-lies K k a t.node (length ws) lies task.node) small

  -- B, at the node as A leaves it
  module _ (ws₁ ws₂ : List ℕ) (load : Stage) (begun : Begins K a t.node t.place (op_of t.job) ws₁ ws₂ load) where
    same : begin (op_of t.job) t.place (node_in K ws₁ (a + t.node)) ≡ begins K a (work_of t) ws ws₁
    unfolding begins
    same = begin-low K (a + t.node) t.place ws t.job (node_in K ws₁ (a + t.node)) task.gives

    begun-words : ws₂ ≡ worked K a (work_of t) ws ws₁
    unfolding worked
    begun-words = begun.words ∙ ap (λ (b : Begun). touch (works (op_of t.job)) ws₁ (spot_of K (a + t.node)) b.node) same

    begun-load : load ≡ loaded (begins K a (work_of t) ws ws₁).note t.node
    begun-load = begun.stage ∙ ap (λ (b : Begun). loaded b.note t.node) same

-- ---- a level and the record below it
module _ (K k a : ℕ) (t : Task) (i : ℕ) (rs : List Stage) (ws : List ℕ) (now : RoundReady K (suc k) a t i rs ws) where
  abbrev q : Stage
  q = stage_at rs i

  both : (stage_ok K k q.due q.node a ws && stages_ok K k (below a) (suc i) rs ws) ≡ true
  unfolding stages_ok
  both = now.tested

  here : stage_ok K k q.due q.node a ws ≡ true
  here = and_l (stage_ok K k q.due q.node a ws) (stages_ok K k (below a) (suc i) rs ws) both

  deeper : stages_ok K k (below a) (suc i) rs ws ≡ true
  deeper = and_r (stage_ok K k q.due q.node a ws) (stages_ok K k (below a) (suc i) rs ws) both

  room-less : room K k ≤ room K (suc k)
  unfolding room
  room-less = omega arith

  pub step-pends : Pends q.due K (a + q.node) ws
  step-pends = pends K k a ws q.due q.node (level-lies K k a (length ws) now.lies) here

  -- A
  module _ (ws₁ : List ℕ) (next : Task) (settles : (ws₁ ≡ filled K a q ws) × (work_of next ≡ handed K q.due q.node a ws) × Gives K (below a) next ws) where
    pub step-works : Works t.job K (a + t.node) t.place ws₁
    step-works =
        works-by K (a + t.node) t.place ws t.job ws₁ now.task.gives
        (λ w. subst (Sited K (a + t.node)) (sym settles.0)
        (filled-sited K ws a q.due q.node (a + t.node) step-pends (task-sited K (suc k) a t ws now.lies now.small now.task w)))

    -- B
    module _ (ws₂ : List ℕ) (load : Stage) (begun : Begins K a t.node t.place (op_of t.job) ws₁ ws₂ load) where
      words_are : ws₂ ≡ level_words K a (work_of t) q ws
      unfolding level_words
      words_are = begun-words K (suc k) a t ws now.lies now.small now.task ws₁ ws₂ load begun ∙ ap (worked K a (work_of t) ws) settles.0

      load_is : load ≡ level_stage K a (work_of t) q ws
      unfolding level_stage
      load_is = begun-load K (suc k) a t ws now.lies now.small now.task ws₁ ws₂ load begun ∙ ap (λ (vs : List ℕ). loaded (begins K a (work_of t) ws vs).note t.node) settles.0

      -- the levels below stand
      stands : (p : ℕ) → spot_of K (below a) ≤ p → word ws₂ p ≡ word ws p
      stands p h =
          ap (λ (vs : List ℕ). word vs p) words_are
          ∙ level-only K a (work_of t) q ws now.task.node (in-range K k a ws q.due q.node here) p (inr (past (width K) h))
        where
          past : (d : ℕ) → (a + a + 1) * d ≤ p → a * d + (a + 1) * d ≤ p
          past d h = omega arith

      len : length ws₂ ≡ length ws
      len = ap length words_are ∙ level-length K a (work_of t) q ws

      next-task : TaskIn K k (below a) next ws₂
      next-task = record {
        node = subst (λ (w : Work). w.node < below a + 1) (sym settles.1) (handed-in K q.due q.node a ws (in-range K k a ws q.due q.node here));
        sane = λ w. sane-after K ws ws₂ (below a) stands (room K k) (below a + next.node) (omega arith)
            ∙ ap (λ (u : Work). sane_at K (room K k) ws (below a + u.node)) settles.1
            ∙ handed-sane K k a ws q.due q.node here (ap (λ (u : Work). works u.op) (sym settles.1) ∙ w);
        gives = given-after K ws ws₂ (below a) stands next (below a) (omega arith) settles.2;
      }

      pub step-ready : RoundReady K k (below a) next (i + 1) (set rs i load) ws₂
      step-ready = record {
        lies = subst (Lies K k (below a)) (sym len) (lies-next K k a (length ws) now.lies);
        small = omega (arith, room-less, now.small);
        records = omega (arith, now.records);
        tested =
            ap (λ (j : ℕ). stages_ok K k (below a) j (set rs i load) ws₂) (add-one i)
            ∙ stages-after K ws ws₂ (below a) stands k (below a) (suc i) rs (set rs i load) (omega arith) (set-later K rs i load) ∙ deeper;
        task = next-task;
      }

      pub step-pass : pass K k (below a) (work_of next) (i + 1) (set rs i load) ws₂ ≡ pass K (suc k) a (work_of t) i rs ws
      unfolding pass
      step-pass =
          ap (λ (j : ℕ). pass K k (below a) (work_of next) j (set rs i load) ws₂) (add-one i)
          ∙ ap₂ (λ (u : Work) (vs : List ℕ). pass K k (below a) u (suc i) (set rs i load) vs) settles.1 words_are
          ∙ ap (λ (l : Stage). pass K k (below a) (handed K q.due q.node a ws) (suc i) (set rs i l) (level_words K a (work_of t) q ws)) load_is

-- ---- the last level
module _ (K a : ℕ) (t : Task) (i : ℕ) (rs : List Stage) (ws : List ℕ) (now : RoundReady K 0 a t i rs ws) where
  pub last-works : Works t.job K (a + t.node) t.place ws
  last-works = works-by K (a + t.node) t.place ws t.job ws now.task.gives (task-sited K 0 a t ws now.lies now.small now.task)

  pub last-pass : (ws₁ : List ℕ) (load : Stage) → Begins K a t.node t.place (op_of t.job) ws ws₁ load → passed K ws₁ rs ≡ pass K 0 a (work_of t) i rs ws
  unfolding pass
  last-pass ws₁ load begun = ap (λ (vs : List ℕ). passed K vs rs) (begun-words K 0 a t ws now.lies now.small now.task ws ws₁ load begun)

-- ---- the loop over the levels: i of k are done, and what is left comes to P
pub record Going (K k a : ℕ) (t : Task) (i : ℕ) (rs : List Stage) (ws : List ℕ) (len : ℕ) (P : Passed K) : Type 0 where
  pub ready : RoundReady K (k - i) a t i rs ws
  pub whole : length ws ≡ len
  pub spare : k ≤ length rs
  pub goal : pass K (k - i) a (work_of t) i rs ws ≡ P

module _ (K k a : ℕ) (t : Task) (i : ℕ) (rs : List Stage) (ws : List ℕ) (len : ℕ) (P : Passed K) (now : Going K k a t i rs ws len P) where
  module _ (more : i < k) where
    left_over : k - i ≡ suc (k - (i + 1))
    left_over = omega arith

    ready-here : RoundReady K (suc (k - (i + 1))) a t i rs ws
    ready-here = subst (λ (j : ℕ). RoundReady K j a t i rs ws) left_over now.ready

    pub go-small : a ≤ 5460
    go-small = omega (arith, (level-lies K (k - (i + 1)) a (length ws) ready-here.lies).nodes)

    pub go-pends : Pends (stage_at rs i).due K (a + (stage_at rs i).node) ws
    go-pends = step-pends K (k - (i + 1)) a t i rs ws ready-here

    module _ (ws₁ : List ℕ) (next : Task) (settles : (ws₁ ≡ filled K a (stage_at rs i) ws) × (work_of next ≡ handed K (stage_at rs i).due (stage_at rs i).node a ws) × Gives K (below a) next ws) where
      pub go-works : Works t.job K (a + t.node) t.place ws₁
      go-works = step-works K (k - (i + 1)) a t i rs ws ready-here ws₁ next settles

      pub go-next : (ws₂ : List ℕ) (load : Stage) → Begins K a t.node t.place (op_of t.job) ws₁ ws₂ load → length ws₂ ≡ length ws → Going K k (below a) next (i + 1) (set rs i load) ws₂ len P
      go-next ws₂ load begun kept = record {
        ready = step-ready K (k - (i + 1)) a t i rs ws ready-here ws₁ next settles ws₂ load begun;
        whole = kept ∙ now.whole;
        spare = omega (arith, now.spare, length-set rs i load);
        goal =
            step-pass K (k - (i + 1)) a t i rs ws ready-here ws₁ next settles ws₂ load begun ∙ ap (λ (j : ℕ). pass K j a (work_of t) i rs ws) (sym left_over) ∙ now.goal;
      }

  module _ (done : k ≤ i) where
    none_left : k - i ≡ 0
    none_left = omega arith

    ready-last : RoundReady K 0 a t i rs ws
    ready-last = subst (λ (j : ℕ). RoundReady K j a t i rs ws) none_left now.ready

    pub end-works : Works t.job K (a + t.node) t.place ws
    end-works = last-works K a t i rs ws ready-last

    pub end-pass : (ws₁ : List ℕ) (load : Stage) → Begins K a t.node t.place (op_of t.job) ws ws₁ load → passed K ws₁ rs ≡ P
    end-pass ws₁ load begun = last-pass K a t i rs ws ready-last ws₁ load begun ∙ ap (λ (j : ℕ). pass K j a (work_of t) i rs ws) (sym none_left) ∙ now.goal

pub go-first : (K k : ℕ) (t : Task) (rs : List Stage) (ws : List ℕ) → RoundReady K k 0 t 0 rs ws → k ≤ length rs → Going K k 0 t 0 rs ws (length ws) (pass K k 0 (work_of t) 0 rs ws)
go-first K k t rs ws ready spare =
    let e : k ≡ k - 0 = omega arith in
    record {
      ready = subst (λ (j : ℕ). RoundReady K j 0 t 0 rs ws) e ready;
      whole = refl;
      spare = spare;
      goal = ap (λ (j : ℕ). pass K j 0 (work_of t) 0 rs ws) (sym e);
    }

-- ---- the tests, level by level
pub record Testing (K k limit a i : ℕ) (rs : List Stage) (ws : List ℕ) (ok whole : Bool) : Type 0 where
  pub lies : Lies K (k - i) a (length ws)
  pub room : limit ≡ room K (k - i)
  pub tests : (ok && stages_ok K (k - i) a i rs ws) ≡ whole

module _ (K k limit a i : ℕ) (rs : List Stage) (ws : List ℕ) (ok whole : Bool) (now : Testing K k limit a i rs ws ok whole) (more : i < k) where
  left : k - i ≡ suc (k - (i + 1))
  left = omega arith

  lies-here : Lies K (suc (k - (i + 1))) a (length ws)
  lies-here = subst (λ (j : ℕ). Lies K j a (length ws)) left now.lies

  pub test-level : LevelIn K a (length ws)
  test-level = level-lies K (k - (i + 1)) a (length ws) lies-here

  assoc : (x y z : Bool) → ((x && y) && z) ≡ (x && (y && z))
  assoc true y z = refl
  assoc false y z = refl

  room-here : limit ≡ room K (suc (k - (i + 1)))
  room-here = now.room ∙ ap (room K) left

  pub test-next : (fine : Bool) (limit' : ℕ) → StageTest K limit a (stage_at rs i) ws fine → limit' ≡ under_of K limit → Testing K k limit' (below a) (i + 1) rs ws (ok && fine) whole
  unfolding stages_ok
  test-next fine limit' e l =
      let j : ℕ = k - (i + 1) in
      record {
        lies = lies-next K (k - (i + 1)) a (length ws) lies-here;
        room = l ∙ ap (under_of K) room-here ∙ under-room K (k - (i + 1));
        tests =
            assoc ok fine (stages_ok K (k - (i + 1)) (below a) (i + 1) rs ws)
            ∙ ap₂ (λ (f : Bool) (n : ℕ). ok && (f && stages_ok K (k - (i + 1)) (below a) n rs ws)) (e (k - (i + 1)) room-here) (add-one i)
            ∙ ap (λ (j : ℕ). ok && stages_ok K j a i rs ws) (sym left) ∙ now.tests;
      }

pub test-first : (K k top : ℕ) (rs : List Stage) (ws : List ℕ) → Lies K k 0 (length ws) → top ≡ room K k → Testing K k top 0 0 rs ws true (stages_ok K k 0 0 rs ws)
test-first K k top rs ws lies r =
    let e : k ≡ k - 0 = omega arith in
    record { lies = subst (λ (j : ℕ). Lies K j 0 (length ws)) e lies; room = r ∙ ap (room K) e; tests = ap (λ (j : ℕ). stages_ok K j 0 0 rs ws) (sym e) }

pub test-last : (K k limit a i : ℕ) (rs : List Stage) (ws : List ℕ) (ok whole : Bool) → Testing K k limit a i rs ws ok whole → k ≤ i → ok ≡ whole
unfolding stages_ok
test-last K k limit a i rs ws ok whole now done =
    let e : k - i ≡ 0 = omega arith in
    sym (all ok) ∙ ap (λ (j : ℕ). ok && stages_ok K j a i rs ws) (sym e) ∙ now.tests
  where
    all : (b : Bool) → (b && true) ≡ b
    all true = refl
    all false = refl
