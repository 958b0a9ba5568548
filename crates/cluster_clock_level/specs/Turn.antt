-- What the root is read for, and what a request comes to there.
use Rattle.std.specs.Prelude.{◌<◌, ◌≡◌, ◌≤◌, MatchOption, Option}
use Rattle.laws.specs.Prelude.{Element, false, List, Request, length, suc, true, ℕ}
use Rattle.cluster_clock_model.specs.Prelude.{asked_ok, sane_at, work}
use Rattle.cluster_model.specs.Prelude.{low_elem, node_in, room, root_held, rule, rule_at}
use Rattle.cluster_node.specs.Leaf.{Here}
use Rattle.cluster_clock_level.specs.Round.{TaskIn}
use Rattle.cluster_clock_level.specs.Stage.{Lowest, work_of}
use Rattle.cluster_clock_level.specs.declared.Job.{Job}
use Rattle.cluster_clock_level.specs.declared.Job.TheVariants.{Put, Rest, Swap, Take}
use Rattle.cluster_clock_level.specs.declared.shaped.Root.{Root}
use Rattle.cluster_clock_level.specs.declared.shaped.Ruled.{Ruled}

-- the root lies within the words, and each of its children has room for top
pub record RootIn (K top : ℕ) (ws : List ℕ) : Type 0 where
  pub lies : Here K 0 (length ws)
  pub small : top ≤ 5460

-- what a root in order is found to hold and, where that is anything, its lowest
pub record Read (K top : ℕ) (ws : List ℕ) (g : Root) : Type 0 where
  pub ok : sane_at K top ws 0 ≡ true
  pub few : g.held ≤ 16384
  pub held : g.held ≡ root_held (node_in K ws 0)
  pub gives : 0 < g.held → Lowest K 0 g.place ws × (g.low ≡ low_elem (node_in K ws 0).places)

-- .. and nothing where it is not in order
abbrev pub Opened : ℕ → ℕ → List ℕ → Option Root → Type 0
Opened K top ws o = MatchOption o (sane_at K top ws 0 ≡ false) (Read K top ws)

-- a take and a swap give from this place, where h elements are held
abbrev pub GivesAt : Job → ℕ → ℕ → ℕ → Type 0
GivesAt Rest p place h = Unit {0}
GivesAt (Put y) p place h = Unit {0}
GivesAt Take p place h = (p ≡ place) × (0 < h)
GivesAt (Swap x) p place h = (p ≡ place) × (0 < h)

-- the ruling on a request where c is the capacity, h is held, and place has the root's lowest element e
pub record Rules (c h place : ℕ) (e : Element) (r : Request) (g : Ruled) : Type 0 where
  pub answer : g.answer ≡ (rule c r h e).answer
  pub work : work_of g.task ≡ work (rule c r h e).op 0
  pub gives : GivesAt g.task.job g.task.place place h

-- .. and at the root itself, with k levels below it
pub record RulesRoot (K k : ℕ) (r : Request) (ws : List ℕ) (g : Ruled) : Type 0 where
  pub ok : asked_ok K (suc k) r ws ≡ true
  pub answer : g.answer ≡ (rule_at K (suc k) r ws).answer
  pub work : work_of g.task ≡ work (rule_at K (suc k) r ws).op 0
  pub task : TaskIn K k 0 g.task ws

-- .. if the root is in order, where it is read
abbrev pub RulesFor : ℕ → ℕ → Request → List ℕ → Option Ruled → Type 0
RulesFor K top r ws o = (k : ℕ) → top ≡ room K k → MatchOption o (asked_ok K (suc k) r ws ≡ false) (RulesRoot K k r ws)
