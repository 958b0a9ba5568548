-- What the code of a request at the root asks and says.
use Rattle.std.specs.Prelude.{Option, ◌&&◌, ◌≡◌, ◌≤◌, IfSome, is_some}
use Rattle.laws.specs.Prelude.{Answer, Bool, List, Request, blank, suc, ℕ}
use Rattle.tree_clock_model.specs.Prelude.{asked_ok, rule_marked}
use Rattle.tree_clock_level.specs.declared.root.RootStep.{RootStep}
use Rattle.tree_node.specs.Room.{child_of, ChildrenIn}
use Rattle.tree_node.specs.Look.{NodeIn}
use Rattle.tree_model.specs.Prelude.{Ruling, move, node_move, node_of, room, root_ok, rule_at, slot_limit, step_ok}
use Rattle.tree_model.specs.declared.Op.TheVariants.{Nothing}

-- r is the room below a slot with k levels below it
abbrev pub RoomIs : ℕ → ℕ → ℕ → Type 0
RoomIs m k r = r ≡ room m k

-- ---- the request at the root, whose slots have room for r below them, that of some number of levels
pub record RootIn (m r : ℕ) (ws : List ℕ) : Type 0 where
  pub node : NodeIn m 0 ws
  pub few : m ≤ 8
  pub limit : r ≤ slot_limit
  pub below : ℕ
  pub fits : RoomIs m below r
  pub children : 1 ≤ r → ChildrenIn m m ws

-- nothing is done
abbrev pub AtRest : ℕ → Answer → RootStep → Type 0
AtRest m a h = (h.answer ≡ a) × (h.op ≡ Nothing) × (h.step ≡ move m blank 0 Nothing)

-- .. where the test ok is passed
abbrev pub Still : ℕ → Bool → Answer → Option RootStep → Type 0
Still m ok a p = (is_some p ≡ ok) × IfSome p (AtRest m a)

-- the test of the root is t, and the ruling g: the request comes to something where the root is in order and the ruling's step is; then the
-- answer, the operation and the step are those of the ruling
abbrev pub Settles : ℕ → ℕ → Bool → Ruling → List ℕ → Option RootStep → Type 0
Settles m k t g ws p =
    (is_some p ≡ (t && step_ok m k g.op (node_of m ws 0) (child_of m m ws)))
    × IfSome p (λ h. (h.answer ≡ g.answer) × (h.op ≡ g.op) × (h.step ≡ node_move m g.op 0 m ws))

-- .. whatever number of levels has this room: a request that is not too soon, and any request with its mark
abbrev pub Ruled : ℕ → ℕ → Request → List ℕ → Option RootStep → Type 0
Ruled m r q ws p = (k : ℕ) → RoomIs m k r → Settles m k (root_ok m (suc k) ws) (rule_at m (suc k) q ws) ws p

abbrev pub RulesRoot : ℕ → ℕ → Bool → Request → List ℕ → Option RootStep → Type 0
RulesRoot m r mark q ws p = (k : ℕ) → RoomIs m k r → Settles m k (asked_ok m (suc k) q ws) (rule_marked mark q (rule_at m (suc k) q ws)) ws p
