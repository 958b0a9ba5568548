-- What a port's list tells of its words: all but the numbers of nodes.
use Rattle.laws.specs.Prelude.{All, Bool, Element, List, [], ◌++◌, ◌+◌, ◌-◌, ◌<◌, ◌∙◌, ◌∷◌, ◌≡◌, ◌≤◌, ap, arith, cond, eq-eqb, eqb, false, length, ne_eqb, refl, subst, suc, sym, true, zero, ℕ, ℕ_discrete}
use mathlib.Core.List.{append-nil}
use Rattle.bucket_model.specs.Prelude.{Load, Store, elements, head_at, in_order, lane, load_of, tail_at, word}
use Rattle.bucket_model.proofs.Laws.{Chain, Mine, Node, Ranks, chain_of, flag, lane-is, last_from, last_link, loads, ranks-ext, ranks-same}
use Rattle.ports_model.specs.Prelude.{Alike, Lists, Shape, held_in_all, ranks_of, seat}
use Rattle.ports_model.proofs.Places.{laid, seating}
use Rattle.ports_model.proofs.Store.{Holds, port-holds}

-- ---- the loads of a rank, from a list in leaving order

unfoldable loads_of : ℕ → List Element → List Load
loads_of r [] = []
loads_of r (x ∷ l) = cond (eqb x.rank.0 r) (load_of x ∷ loads_of r l) (loads_of r l)

of-own : (r : ℕ) (ts : List Load) (l : List Element) → loads_of r (elements r ts ++ l) ≡ ts ++ loads_of r l
unfolding loads_of
of-own r [] l = refl
of-own r (t ∷ ts) l = rw (eq-eqb r r refl) (ap (λ (y : List Load). t ∷ y) (of-own r ts l))

of_other : (r i : ℕ) (ts : List Load) (l : List Element) → (i ≡ r → ⊥) → loads_of r (elements i ts ++ l) ≡ loads_of r l
unfolding loads_of
of_other r i [] l n = refl
of_other r i (t ∷ ts) l n = rw (ne_eqb i r n) (of_other r i ts l n)

of-above : (m : ℕ → List Load) (r i k : ℕ) → r < i → loads_of r (in_order m i k) ≡ []
unfolding loads_of in_order
of-above m r i zero h = refl
of-above m r i (suc k) h = of_other r i (m i) (in_order m (suc i) k) (λ e. omega arith) ∙ of-above m r (suc i) k (omega arith)

of-order : (m : ℕ → List Load) (r i k : ℕ) → i ≤ r → r < i + k → loads_of r (in_order m i k) ≡ m r
unfolding in_order
of-order m r i zero a b = absurd (omega arith)
of-order m r i (suc k) a b = elim (ℕ_discrete i r) [ yes e ↦ here e | no e ↦ of_other r i (m i) (in_order m (suc i) k) e ∙ of-order m r (suc i) k (omega arith) (omega arith) ]
  where
    here : i ≡ r → loads_of r (elements i (m i) ++ in_order m (suc i) k) ≡ m r
    here e =
        ap (λ (j : ℕ). loads_of r (elements j (m j) ++ in_order m (suc i) k)) e ∙ of-own r (m r) (in_order m (suc i) k)
        ∙ ap (λ (y : List Load). m r ++ y) (of-above m r (suc i) k (omega arith)) ∙ append-nil (m r)

-- ---- whether a bucket is empty, by its loads

abbrev is_nil : List Load → Bool
is_nil [] = true
is_nil (t ∷ ts) = false

abbrev flag_of : List Load → ℕ
flag_of [] = 0
flag_of (t ∷ ts) = 1

flag-of : (xs : List Node) → flag xs ≡ flag_of (loads xs)
flag-of [] = refl
flag-of (x ∷ xs) = refl

head-nil : (stem : ℕ) (w : List ℕ) (n : ℕ) (own : ℕ → ℕ) (c : ℕ) (xs : List Node) → Chain stem w n own c xs → eqb (word w c) 0 ≡ is_nil (loads xs)
head-nil stem w n own c [] z = eq-eqb (word w c) 0 z.seg
head-nil stem w n own c (x ∷ xs) z = ne_eqb (word w c) 0 (λ e. omega (arith, z.seg.0, z.mine.0.low))

last> : (own : ℕ → ℕ) (n c l : ℕ) (xs : List Node) → 1 ≤ l → All (Mine own n c) xs → 1 ≤ last_from l xs
last> own n c l [] h m = h
last> own n c l (x ∷ xs) h m = last> own n c x.link xs m.0.low m.1

last-nil : (own : ℕ → ℕ) (n c : ℕ) (xs : List Node) → All (Mine own n c) xs → eqb (last_link xs) 0 ≡ is_nil (loads xs)
last-nil own n c [] m = refl
last-nil own n c (x ∷ xs) m = ne_eqb (last_from x.link xs) 0 (λ e. omega (arith, last> own n c x.link xs m.0.low m.1))

module _ (s : Shape) (lim : List ℕ) (p : ℕ) (p< : p < s.ports) where
  module _ (deep : 1 ≤ s.storeys) (some : 1 ≤ s.ports) (x : Store) (st : Lists) (h : Holds s deep some lim x.bits x.words st) where
    abbrev bucket : ℕ → List Node
    bucket r = h.q (head_at (seat s p) r)

    C : (r : ℕ) → r < ranks_of s → Chain (seat s p).stem x.words s.nodes h.own (head_at (seat s p) r) (h.q (head_at (seat s p) r))
    unfolding port-holds
    C r r< = chain_of (seat s p) (seating s deep p p<) (held_in_all s st - length (st p)) x.bits x.words (st p) (port-holds s deep some lim x.bits x.words st h p p<) r r<

    loads-told : (r : ℕ) → r < ranks_of s → loads (h.q (head_at (seat s p) r)) ≡ loads_of r (st p)
    loads-told r r< = sym (ap (loads_of r) (h.is p p<) ∙ of-order (λ r. loads (bucket r)) r 0 (ranks_of s) (omega arith) (omega arith))

    lane-told : (r : ℕ) → r < ranks_of s → lane (seat s p) x.words r ≡ loads_of r (st p)
    unfolding port-holds
    lane-told r r< = lane-is (seat s p) (seating s deep p p<) (held_in_all s st - length (st p)) x.bits x.words (st p) (port-holds s deep some lim x.bits x.words st h p p<) r r< ∙ loads-told r r<

    bits-told : Ranks (seat s p) x.bits (λ r. flag_of (loads_of r (st p)))
    bits-told = ranks-ext (seat s p) (laid s deep p p<) x.bits (λ r. flag (bucket r)) (λ r. flag_of (loads_of r (st p))) (λ r r<. sym (flag-of (bucket r) ∙ ap flag_of (loads-told r r<))) (h.bits p p<)

    head-told : (r : ℕ) → r < ranks_of s → eqb (word x.words (head_at (seat s p) r)) 0 ≡ is_nil (loads_of r (st p))
    head-told r r< = head-nil (seat s p).stem x.words s.nodes h.own (head_at (seat s p) r) (bucket r) (C r r<) ∙ ap is_nil (loads-told r r<)

    tail-told : (r : ℕ) → r < ranks_of s → eqb (word x.words (tail_at (seat s p) r)) 0 ≡ is_nil (loads_of r (st p))
    tail-told r r< =
        ap (λ (v : ℕ). eqb v 0) (h.linked.tails (head_at (seat s p) r) (p, p<, omega arith, omega arith))
        ∙ last-nil h.own s.nodes (head_at (seat s p) r) (bucket r) (C r r<).mine ∙ ap is_nil (loads-told r r<)

  -- two stores with one list at p
  pub alike : (d d' : 1 ≤ s.storeys) (o o' : 1 ≤ s.ports) (x y : Store) (st ts : Lists) → Holds s d o lim x.bits x.words st → Holds s d' o' lim y.bits y.words ts → st p ≡ ts p → Alike s p x y
  alike d d' o o' x y st ts h g e =
      record {
        bits = λ i l. ranks-same (seat s p) (laid s d p p<) x.bits y.bits (λ r. flag_of (loads_of r (st p))) (bits-told d o x st h)
            (subst (λ (l : List Element). Ranks (seat s p) y.bits (λ r. flag_of (loads_of r l))) (sym e) (bits-told d' o' y ts g)) ((seat s p).bits + i) (omega arith) (omega arith);
        held = h.held p p< ∙ ap length e ∙ sym (g.held p p<);
        floor = h.floor p p< ∙ sym (g.floor p p<);
        ceiling = h.ceiling p p< ∙ sym (g.ceiling p p<);
        lanes = λ r r<. lane-told d o x st h r r< ∙ ap (loads_of r) e ∙ sym (lane-told d' o' y ts g r r<);
        heads = λ r r<. head-told d o x st h r r< ∙ ap (λ (l : List Element). is_nil (loads_of r l)) e ∙ sym (head-told d' o' y ts g r r<);
        tails = λ r r<. tail-told d o x st h r r< ∙ ap (λ (l : List Element). is_nil (loads_of r l)) e ∙ sym (tail-told d' o' y ts g r r<);
      }
