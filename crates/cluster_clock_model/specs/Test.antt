-- The tests for damage: of a node, of a record with what it reads, and of all that a cycle reads. All come before the first write.
use Rattle.std.specs.Prelude.{◌&&◌, ◌+◌, ◌||◌}
use Rattle.laws.specs.Prelude.{Bool, List, eqb, false, leb, length, ltb, not, suc, true, zero, ℕ}
use Rattle.cluster_clock_model.specs.declared.Due.{Due}
use Rattle.cluster_clock_model.specs.declared.Due.TheVariants.{Fill, Nothing, Put, Swap}
use Rattle.cluster_clock_model.specs.declared.Stage.{Stage}
use Rattle.cluster_clock_model.specs.Stage.{below, stage_at}
use Rattle.cluster_model.specs.Prelude.{Node, Place, child, gap, has, inside, lhs, neat_to, node_in, nothing_below, place_at, rhs, room, roomy, some, spot_of}
use Rattle.promise.specs.Prelude.{always}

unfoldable pub is_gap : Place → Bool
is_gap gap = true
is_gap (has e) = false

-- neither count above what a child has room for, and with something below at most one place is not flagged: it may be waiting
unfoldable pub sane : ℕ → Node → Bool
sane limit n = leb n.left limit && (leb n.right limit && (nothing_below n || leb (length n.places) (suc (inside always n.places))))

module _ (K : ℕ) where
  -- node m, whose children have room for limit each
  unfoldable pub sane_at : ℕ → List ℕ → ℕ → Bool
  sane_at limit ws m = neat_to K ws (spot_of K m + 2) K && sane limit (node_in K ws m)

  -- a child is read for its lowest only where its count is not 0, and must then have an element
  unfoldable pub gives_ok : Bool → ℕ → List ℕ → ℕ → Bool
  gives_ok true limit ws m = true
  gives_ok false limit ws m = sane_at limit ws m && some (node_in K ws m)

  -- node m waits: something is below, and the children of count not 0 are read. They have k levels below them
  unfoldable pub wait_ok : (k : ℕ) → ℕ → List ℕ → Bool
  wait_ok k m ws =
      sane_at (room K (suc k)) ws m
      && (not (nothing_below (node_in K ws m))
      && (gives_ok (eqb (node_in K ws m).left 0) (room K k) ws (child m lhs) && gives_ok (eqb (node_in K ws m).right 0) (room K k) ws (child m rhs)))

  -- a record below the level whose first node is a: what it names is there, and all that it reads is in order. k levels are below its lower level
  unfoldable pub stage_ok : (k : ℕ) → Due → ℕ → ℕ → List ℕ → Bool
  stage_ok k Nothing n a ws = true
  stage_ok k (Put y) n a ws = ltb n (below a + 1) && (sane_at (room K k) ws (below a + n) && roomy (room K k) (node_in K ws (below a + n)))
  stage_ok k (Fill j) n a ws = ltb n (a + 1) && (ltb j K && (is_gap (place_at (node_in K ws (a + n)).places j) && wait_ok k (a + n) ws))
  stage_ok k (Swap j x) n a ws = ltb n (a + 1) && (ltb j K && (not (is_gap (place_at (node_in K ws (a + n)).places j)) && wait_ok k (a + n) ws))

  -- .. and so for all records, the first of which is record i
  unfoldable pub stages_ok : (k : ℕ) → ℕ → ℕ → List Stage → List ℕ → Bool
  stages_ok zero a i rs ws = true
  stages_ok (suc k) a i rs ws = stage_ok k (stage_at rs i).due (stage_at rs i).node a ws && stages_ok k (below a) (suc i) rs ws
