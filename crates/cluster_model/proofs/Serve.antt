-- A request served on a sound heap leaves it sound, holding what was brought in less what was given out; what is given has the lowest rank.
use Rattle.laws.specs.Prelude.{Bool, Element, Idle, Pop, Push, Replace, Request, ◌<◌, ◌≡◌, arith, key, length-replicate, refl, replicate, suc, zero, ℕ}
use Rattle.promise.specs.Prelude.{Fits, always, brought, given, grants, lower}
use Rattle.cluster_model.specs.Prelude.{Can, Heap, Sound, gain, gap, inside, loss, low_elem, lowest, many, op_of, root_held, under}
use Rattle.cluster_model.proofs.Heap.{heap-least}
use Rattle.cluster_model.proofs.Levels.{clear_heap, clear_node}

-- ---- a request that is let in, on any bag of elements, as many as are held: its work can be done, and takes out and brings in what the request gives and brings
pub can-do : (c h : ℕ) (bag : (Element → Bool) → ℕ) → h ≡ bag always → (r : Request) → Fits r h c → Can c (op_of r) bag
can-do c h bag e Idle f = tt
can-do c h bag e (Push x) f = omega arith
can-do c h bag e Pop f = omega arith
can-do c h bag e (Replace x) f = omega arith

pub moves : (e : Element) (f : Element → Bool) (r : Request) → (loss (op_of r) e f ≡ given r (grants r e) f) × (gain (op_of r) f ≡ brought r (grants r e) f)
moves e f Idle = (refl, refl)
moves e f (Push x) = (refl, refl)
moves e f Pop = (refl, refl)
moves e f (Replace x) = (refl, refl)

module _ (K k : ℕ) (two : 1 < K) (h : Heap (suc k)) (s : Sound K (suc k) h) where
  -- held, from the root alone
  pub root-held : root_held h.0 ≡ many always (suc k) h
  unfolding root_held many
  root-held = omega (arith, s.0.left, s.0.right)

  abbrev top : Element
  top = low_elem h.0.places

  pub root-least : 0 < root_held h.0 → many (lower top.rank.0) (suc k) h ≡ 0
  unfolding key lowest
  root-least p = (heap-least K (suc k) h two s (omega (arith, root-held))).least

-- ---- the cleared heap
none_inside : (f : Element → Bool) (n : ℕ) → inside f (replicate n gap) ≡ 0
unfolding inside
none_inside f zero = refl
none_inside f (suc n) = omega (arith, none_inside f n)

pub cleared-holds : (K k : ℕ) (f : Element → Bool) → many f k (clear_heap K k) ≡ 0
unfolding many clear_heap clear_node
cleared-holds K zero f = refl
cleared-holds K (suc k) f = omega (arith, none_inside f K, cleared-holds K k f)

pub cleared-sound : (K k : ℕ) → Sound K k (clear_heap K k)
unfolding clear_heap clear_node
cleared-sound K zero = tt
cleared-sound K (suc k) = (
  record {
    size = length-replicate K gap;
    left = omega (arith, cleared-holds K k always);
    right = omega (arith, cleared-holds K k always);
    left-room = omega arith;
    right-room = omega arith;
    order = record { ordered = λ r p. omega (arith, none-under r); packed = λ p. omega (arith, cleared-holds K k always) };
  },
  cleared-sound K k,
  cleared-sound K k,
)
  where
    none-under : (r : ℕ) → many (under r) k (clear_heap K k) ≡ 0
    none-under r = cleared-holds K k (under r)
