-- For the code of the scan and of a node's tests.
use Rattle.laws.specs.Prelude.{Bool, Element, List, ◌&&◌, ◌*◌, ◌+◌, ◌-◌, ◌<◌, ◌||◌, ◌∙◌, ◌≡◌, ◌≤◌, add-one, ap, ap₂, arith, cond, element_in, element_words, eq-eqb, eqb, false, is_blank, ne_eqb, not, not-suc-le-zero, pred, refl, set, sub-one, subst, suc, sym, true, zero, ℕ}
use Rattle.cluster_node.specs.declared.Seen.{Seen}
use Rattle.cluster_node.specs.declared.Found.{Found}
use Rattle.cluster_model.specs.Prelude.{neat_place, place_of, place_words, word}
use Rattle.cluster_node.specs.Scan.{lower_than, high_as}
use Rattle.cluster_node.specs.Seeing.{is_flagged, see_one, look_to, no_look}
use Rattle.cluster_node.specs.Leaf.{ok_by, peek_here, peek_at, raise_words, sink_words}

pub see-is : (ws : List ℕ) (o j : ℕ) (v : Seen) (x : Element) (blank : Bool) (count free low high : ℕ) (lower higher : Bool)
    → x ≡ element_in ws (o + j * place_words) → blank ≡ is_blank x → lower ≡ lower_than (place_of ws (o + j * place_words)) (place_of ws (o + v.low * place_words)) → higher ≡ high_as (place_of ws (o + j * place_words)) (place_of ws (o + v.high * place_words))
    → count ≡ cond (not (eqb (word ws (o + j * place_words + element_words)) 0)) (v.count + 1) v.count
    → free ≡ cond (not (eqb (word ws (o + j * place_words + element_words)) 0) && eqb v.free j) (j + 1) v.free
    → low ≡ cond lower j v.low → high ≡ cond higher j v.high
    → ◌≡◌ {A = Seen} (record {
      neat = v.neat && ((eqb (word ws (o + j * place_words + element_words)) 0 && blank) || eqb (word ws (o + j * place_words + element_words)) 1);
      count = count;
      free = free;
      low = low;
      high = high;
    }) (see_one ws o j v)
unfolding see_one is_flagged neat_place
see-is ws o j v x blank count free low high lower higher c d a b p q r s =
    let n : blank ≡ is_blank (element_in ws (o + j * place_words)) = d ∙ ap is_blank c in
    let r' : low ≡ cond (lower_than (place_of ws (o + j * place_words)) (place_of ws (o + v.low * place_words))) j v.low = r ∙ ap (λ (t : Bool). cond t j v.low) a in
    let s' : high ≡ cond (high_as (place_of ws (o + j * place_words)) (place_of ws (o + v.high * place_words))) j v.high = s ∙ ap (λ (t : Bool). cond t j v.high) b in
    λ i. record {
      neat = v.neat && ((eqb (word ws (o + j * place_words + element_words)) 0 && n i) || eqb (word ws (o + j * place_words + element_words)) 1);
      count = p i;
      free = q i;
      low = r' i;
      high = s' i;
    }

pub look-next : (ws : List ℕ) (o j : ℕ) (v r : Seen) → v ≡ look_to ws o j → r ≡ see_one ws o j v → r ≡ look_to ws o (j + 1)
unfolding look_to
look-next ws o j v r e p = rw (add-one, ← e) p

pub look-first : (ws : List ℕ) (o : ℕ) → no_look ≡ look_to ws o 0
unfolding look_to
look-first ws o = refl

either : (b : Bool) (x y n : ℕ) → x ≤ n → y ≤ n → cond b x y ≤ n
either true x y n p q = p
either false x y n p q = q

-- what the scan of j places has seen lies within them
pub record Within (v : Seen) (j : ℕ) : Type 0 where
  pub low : v.low ≤ j
  pub high : v.high ≤ j
  pub count : v.count ≤ j
  pub free : v.free ≤ j

pub within : (ws : List ℕ) (o j : ℕ) → Within (look_to ws o j) j
unfolding look_to see_one
within ws o zero = record { low = omega arith; high = omega arith; count = omega arith; free = omega arith }
within ws o (suc j) =
    let h = within ws o j in
    let v : Seen = look_to ws o j in
    record {
      low = either (lower_than (place_of ws (o + j * place_words)) (place_of ws (o + v.low * place_words))) j v.low (suc j) (omega arith) (omega (arith, h.low));
      high = either (high_as (place_of ws (o + j * place_words)) (place_of ws (o + v.high * place_words))) j v.high (suc j) (omega arith) (omega (arith, h.high));
      count = either (is_flagged ws (o + j * place_words)) (v.count + 1) v.count (suc j) (omega (arith, h.count)) (omega (arith, h.count));
      free = either (is_flagged ws (o + j * place_words) && eqb v.free j) (j + 1) v.free (suc j) (omega arith) (omega (arith, h.free));
    }

pub within_of : (ws : List ℕ) (o j : ℕ) (v : Seen) → v ≡ look_to ws o j → Within v j
within_of ws o j v e = subst (λ (u : Seen). Within u j) (sym e) (within ws o j)

-- of all places, one at least: the lowest and the highest are among them
pub low-lt : (ws : List ℕ) (o n : ℕ) → 0 < n → (look_to ws o n).low < n
unfolding look_to see_one
low-lt ws o zero h = absurd (not-suc-le-zero {n = 0} (omega arith))
low-lt ws o (suc j) h = let v : Seen = look_to ws o j in
    let b = either (lower_than (place_of ws (o + j * place_words)) (place_of ws (o + v.low * place_words))) j v.low j (omega arith) (within ws o j).low in omega (arith, b)

-- ---- tests
pub peek-none : (K limit : ℕ) (ws : List ℕ) (o count : ℕ) → count ≡ 0 → ◌≡◌ {A = Found} (record { ok = true; place = 0; rank = 0 }) (peek_at K limit ws o count)
unfolding peek_at
peek-none K limit ws o count e = rw (eq-eqb count 0 e) refl

pub peek-here : (K limit : ℕ) (ws : List ℕ) (o : ℕ) (v : Seen) (fine : Bool) → v ≡ look_to ws (o + 2) K → fine ≡ ok_by K limit ws o v
    → ◌≡◌ {A = Found} (record { ok = fine && not (eqb v.count 0); place = v.low; rank = word ws (o + 2 + v.low * place_words) }) (peek_here K limit ws o)
unfolding peek_here
peek-here K limit ws o v fine e p =
    let q : fine ≡ ok_by K limit ws o (look_to ws (o + 2) K) = p ∙ ap (ok_by K limit ws o) e in
    λ i. record { ok = q i && not (eqb (e i).count 0); place = (e i).low; rank = word ws (o + 2 + (e i).low * place_words) }

pub peek-some : (K limit : ℕ) (ws : List ℕ) (o count : ℕ) (p : Found) → (count ≡ 0 → ⊥) → p ≡ peek_here K limit ws o → p ≡ peek_at K limit ws o count
unfolding peek_at
peek-some K limit ws o count p n e = rw (ne_eqb count 0 n) e

-- ---- the count of one side
pub side-le : (b : Bool) (i : ℕ) → i ≡ cond b 1 0 → i ≤ 1
side-le true i e = omega (arith, e)
side-le false i e = omega (arith, e)

pub word-le : (b : Bool) (w l r n : ℕ) → w ≡ cond b r l → l ≤ n → r ≤ n → w ≤ n
word-le true w l r n e p q = omega (arith, e)
word-le false w l r n e p q = omega (arith, e)

pub raise-is : (right : Bool) (ws : List ℕ) (o l r i w : ℕ) → i ≡ cond right 1 0 → w ≡ cond right r l → set ws (o + i) (w + 1) ≡ raise_words right ws o l r
unfolding raise_words
raise-is right ws o l r i w ei ew = ap₂ (λ (i w : ℕ). set ws (o + i) (w + 1)) ei ew ∙ go right
  where
    go : (b : Bool) → set ws (o + cond b 1 0) (cond b r l + 1) ≡ cond b (set ws (o + 1) (r + 1)) (set ws o (l + 1))
    go true = refl
    go false = let z : o + 0 ≡ o = omega arith in ap (λ (i : ℕ). set ws i (l + 1)) z

pub sink-is : (right : Bool) (ws : List ℕ) (o l r i w n : ℕ) → i ≡ cond right 1 0 → w ≡ cond right r l → n ≡ w - 1 → set ws (o + i) n ≡ sink_words right ws o l r
unfolding sink_words
sink-is right ws o l r i w n ei ew en = ap₂ (λ (i n : ℕ). set ws (o + i) n) ei (en ∙ ap (λ (w : ℕ). w - 1) ew) ∙ go right
  where
    go : (b : Bool) → set ws (o + cond b 1 0) (cond b r l - 1) ≡ cond b (set ws (o + 1) (pred r)) (set ws o (pred l))
    go true = ap (set ws (o + 1)) (sub-one r)
    go false = let z : o + 0 ≡ o = omega arith in ap₂ (set ws) z (sub-one l)
