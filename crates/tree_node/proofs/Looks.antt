-- The scans that keep the best number read so far choose the same places.
use Rattle.laws.specs.Prelude.{Bool, List, ◌+◌, ◌<◌, ◌∙◌, ◌≡◌, ◌≤◌, add-one, ap, ap₂, arith, cond, false, le-ltb, lt-ltb, ltb, refl, subst, suc, sym, true, zero, ℕ}
use Rattle.tree_node.proofs.Scans.{every_to, fewest, node-ok-end, scan-least, scan_least}
use Rattle.tree_node.specs.Look.{most}
use Rattle.tree_model.proofs.Laws.{node-slot}
use Rattle.tree_model.specs.Prelude.{least_count, node_of, node_ok, slot_at, slot_of, slot_ok}
use Rattle.tree_model.specs.declared.Slot.{Slot}

-- ---- the smallest count
-- a first place is below none
least_by : (nd : List Slot) (j : ℕ) → (slot_at nd j).count < most → scan_least nd (suc j) ≡ cond (ltb (slot_at nd j).count (fewest nd j)) j (scan_least nd j)
unfolding scan_least fewest
least_by nd zero h = go (ltb (slot_at nd 0).count (slot_at nd 0).count) (ltb (slot_at nd 0).count most)
  where
    go : (a b : Bool) → ◌≡◌ {A = ℕ} (cond a 0 0) (cond b 0 0)
    go true true = refl
    go true false = refl
    go false true = refl
    go false false = refl
least_by nd (suc j) h = refl

module _ (m : ℕ) (ws : List ℕ) (i : ℕ) where
  abbrev nd : List Slot
  nd = node_of m ws i

  module _ (j b f : ℕ) (x : Slot) (hj : j < m) (hx : x.count < most) (eb : b ≡ scan_least nd j) (ef : f ≡ fewest nd j) (ex : x ≡ slot_of ws (i + j)) where
    here : x.count ≡ (slot_at nd j).count
    here = ap (λ (s : Slot). s.count) (ex ∙ sym (node-slot m ws i j hj))

    scanned : (t : Bool) → ltb x.count f ≡ t → scan_least nd (suc j) ≡ cond t j b
    scanned t e =
        least_by nd j (subst (λ (n : ℕ). n < most) here hx)
        ∙ ap (λ (t : Bool). cond t j (scan_least nd j)) (ap₂ ltb (sym here) (sym ef) ∙ e) ∙ ap (λ (b : ℕ). cond t j b) (sym eb)

    pub few-taken : x.count < f → (r g : ℕ) → r ≡ j → g ≡ x.count → (r ≡ scan_least nd (j + 1)) × (g ≡ fewest nd (j + 1))
    unfolding fewest
    few-taken h r g er eg =
        let p : scan_least nd (suc j) ≡ j = scanned true (lt-ltb x.count f h) in
        rw add-one (er ∙ sym p, eg ∙ here ∙ ap (λ (a : ℕ). (slot_at nd a).count) (sym p))

    pub few-stays : f ≤ x.count → (r g : ℕ) → r ≡ b → g ≡ f → (r ≡ scan_least nd (j + 1)) × (g ≡ fewest nd (j + 1))
    unfolding fewest
    few-stays h r g er eg =
        let p : scan_least nd (suc j) ≡ b = scanned false (le-ltb x.count f h) in
        rw add-one (er ∙ sym p, eg ∙ stays-few (j) f hx h ef ∙ ap (λ (a : ℕ). (slot_at nd a).count) (sym eb ∙ sym p))
      where
        stays-few : (j f : ℕ) → x.count < most → f ≤ x.count → f ≡ fewest nd j → f ≡ (slot_at nd (scan_least nd j)).count
        stays-few zero f hx h e = absurd (omega arith)
        stays-few (suc j) f hx h e = e

  -- ---- where the scan has come to the end
  module _ (r j best : ℕ) (ok : Bool) (end : j ≡ m) (tested : ok ≡ every_to (slot_ok r) nd j) where
    pub least-looked : 0 < m → best ≡ scan_least nd j → (ok ≡ node_ok r nd) × ((best ≡ least_count nd) × (best < m))
    least-looked h e =
        let p = scan-least m ws i h in
        let b : best ≡ scan_least nd m = e ∙ ap (scan_least nd) end in
        (node-ok-end m ws i r j ok end tested, (b ∙ p.0, omega (arith, p.1)))
