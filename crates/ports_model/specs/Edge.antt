-- Shapes, floors and ceilings at their edges, in numbers: what clear says. These are definitions.
use Rattle.std.specs.Prelude.{◌++◌, ◌<◌, ◌∷◌, ◌≡◌, ◌≤◌}
use Rattle.laws.specs.Prelude.{List, [], length, number_of, suc, zero, ℕ}
use Rattle.ports_model.specs.Layout.{Shape}
use Rattle.ports_model.specs.Calls.{cleared}

-- a shape; the limits that clear is handed, floor and ceiling port by port; how many words of 64 bits and of 32 there must be; and the number of a clear on slices of any contents that are as long
pub record Edge : Type 0 where
  pub storeys : ℕ
  pub nodes : ℕ
  pub ports : ℕ
  pub limits : List ℕ
  pub bits : ℕ
  pub words : ℕ
  pub says : ℕ

abbrev pub edge : (storeys nodes ports : ℕ) (limits : List ℕ) (bits words says : ℕ) → Edge
edge d n ps lim bits words says = record { storeys = d; nodes = n; ports = ps; limits = lim; bits = bits; words = words; says = says }

abbrev pub shape_of : Edge → Shape
shape_of e = record { storeys = e.storeys; nodes = e.nodes; ports = e.ports }

-- .. and one word less is refused 1
pub record Right (e : Edge) : Type 0 where
  pub long : (b w : List ℕ) → e.bits ≤ length b → e.words ≤ length w → number_of (cleared (shape_of e) e.limits b w).answer ≡ e.says
  pub few_bits : (b w : List ℕ) → length b < e.bits → number_of (cleared (shape_of e) e.limits b w).answer ≡ 1
  pub few_words : (b w : List ℕ) → length w < e.words → number_of (cleared (shape_of e) e.limits b w).answer ≡ 1

-- the same limits for n ports
abbrev pub each : ℕ → List ℕ → List ℕ
each zero l = []
each (suc n) l = l ++ each n l

unfoldable pub edge_table : List Edge
edge_table =
    -- "floors adding up to N at most": to N, and to N + 1
    edge 2 5 2 (2 ∷ 4 ∷ 3 ∷ 5 ∷ []) 130 16406 0
    ∷ edge 2 5 2 (2 ∷ 4 ∷ 4 ∷ 5 ∷ []) 130 16406 1
    ∷ edge 2 4 2 (2 ∷ 4 ∷ 3 ∷ 5 ∷ []) 130 16403 1
    -- .. of sixteen ports
    ∷ edge 2 32 16 (each 16 (2 ∷ 7 ∷ [])) 1040 131217 0
    ∷ edge 2 31 16 (each 16 (2 ∷ 7 ∷ [])) 1040 131214 1
    -- "floor at most ceiling": equal, and one above it; a ceiling may be above N, and 0
    ∷ edge 2 5 2 (2 ∷ 2 ∷ 3 ∷ 3 ∷ []) 130 16406 0
    ∷ edge 2 5 2 (2 ∷ 4 ∷ 3 ∷ 2 ∷ []) 130 16406 1
    ∷ edge 2 5 2 (3 ∷ 2 ∷ 0 ∷ 5 ∷ []) 130 16406 1
    ∷ edge 2 5 2 (0 ∷ 0 ∷ 0 ∷ 4294967295 ∷ []) 130 16406 0
    -- each has a floor and a ceiling: the last has none
    ∷ edge 2 5 2 (2 ∷ 4 ∷ 3 ∷ []) 130 16406 1
    -- "Up to 16 ports": none, one, sixteen, seventeen
    ∷ edge 2 5 0 [] 0 16 1
    ∷ edge 2 5 1 (1 ∷ 5 ∷ []) 65 8211 0
    ∷ edge 2 5 16 (each 16 (0 ∷ 5 ∷ [])) 1040 131136 0
    ∷ edge 2 5 17 (each 17 (0 ∷ 5 ∷ [])) 1105 139331 1
    -- .. at three storeys
    ∷ edge 3 5 16 (each 16 (0 ∷ 5 ∷ [])) 66576 8388672 0
    ∷ edge 3 5 17 (each 17 (0 ∷ 5 ∷ [])) 70737 8912963 1
    -- N from 1 to 65,536
    ∷ edge 2 0 2 (0 ∷ 4 ∷ 0 ∷ 5 ∷ []) 130 16391 1
    ∷ edge 2 1 2 (0 ∷ 4 ∷ 1 ∷ 5 ∷ []) 130 16394 0
    ∷ edge 2 65536 2 (65535 ∷ 65535 ∷ 1 ∷ 5 ∷ []) 130 212999 0
    ∷ edge 2 65537 2 (65535 ∷ 65535 ∷ 1 ∷ 5 ∷ []) 130 213002 1
    -- two storeys, or three
    ∷ edge 1 5 2 (2 ∷ 4 ∷ 3 ∷ 5 ∷ []) 2 278 1
    ∷ edge 4 5 2 (2 ∷ 4 ∷ 3 ∷ 5 ∷ []) 532610 67108886 1
    ∷ []
